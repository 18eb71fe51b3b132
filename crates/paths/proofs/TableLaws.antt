-- An entry's chain goes by the entries before it: a store behind it changes nothing, and it is its own row in front of its parent's chain.
use mathlib.Core.Path.{◌≡◌, refl, sym, ap, ◌∙◌}
use mathlib.Core.Logic.{◌≢◌}
use Prim.Native.Nat.{ℕ, zero, suc, ◌-◌, ◌≤◌, ◌<◌}
use native.Mathlib.Omega.{arith}
use mathlib.Core.Bool.{Bool, true, false}
use mathlib.Core.List.{List, [], ◌∷◌, ◌++◌, append-nil, reverse, reverse-cons}
use lib.Dec.{ltb}
use borrow.Author.Tests.{ltb-true, ltb-false}
use lib.ListN.{length, get_or, set, drop, length-append, length-set, get_or-append}
use lib.Seq.{get_or-set_same, get_or-set_other, get_or_at, drop-cons, drop-set-lt, drop-length, lt-length-set, append_snoc}
use Rattle.paths.specs.Queue.{table, entry, chain_at, Links}

table_length : (par row : List ℕ) (k : ℕ) → length (table par row k) ≡ k
unfolding table
table_length par row zero = refl
table_length par row (suc k) =
    omega (arith, length-append (table par row k) (entry (table par row k) k (get_or par k 0) (get_or row k 0) ∷ []), table_length par row k)

-- entries below k do not see a store at or past k
table_frame : (par row : List ℕ) (k i a b : ℕ) → k ≤ i → table (set par i a) (set row i b) k ≡ table par row k
unfolding table
table_frame par row zero i a b h = refl
table_frame par row (suc k) i a b h =
    let ne : k ≢ i = omega arith in
    rw (table_frame par row k i a b (omega arith), get_or-set_other par i k a 0 ne, get_or-set_other row i k b 0 ne)

-- what stands at an entry goes by the entries before it
table_at : (par row : List ℕ) (n i : ℕ) → i < n → get_or (table par row n) i [] ≡ entry (table par row i) i (get_or par i 0) (get_or row i 0)
unfolding table
table_at par row zero i h = absurd (omega arith)
table_at par row (suc n) i h = go (ltb i n) refl (λ k. table_at par row n i k)
  where
    T : List (List ℕ)
    T = table par row n

    x : List ℕ
    x = entry T n (get_or par n 0) (get_or row n 0)

    go : (t : Bool) → ltb i n ≡ t → (i < n → get_or T i [] ≡ entry (table par row i) i (get_or par i 0) (get_or row i 0))
        → get_or (T ++ (x ∷ [])) i [] ≡ entry (table par row i) i (get_or par i 0) (get_or row i 0)
    go true e ih =
        let l : i < n = ltb-true i n e in
        get_or-append T (x ∷ []) [] i (omega (arith, table_length par row n)) ∙ ih l
    go false e ih =
        let z : i ≡ n = omega (arith, ltb-false i n e) in
        rw z (get_or_at T x [] [] n (table_length par row n))

chain_entry : (par row : List ℕ) (i : ℕ) → chain_at par row i ≡ entry (table par row i) i (get_or par i 0) (get_or row i 0)
unfolding chain_at
chain_entry par row i = table_at par row (suc i) i (omega arith)

table_chain : (par row : List ℕ) (n i : ℕ) → i < n → get_or (table par row n) i [] ≡ chain_at par row i
table_chain par row n i h = table_at par row n i h ∙ sym (chain_entry par row i)

pub chain_root : (par row : List ℕ) → chain_at par row 0 ≡ []
chain_root par row = chain_entry par row 0

-- an entry's chain is its row and then its parent's chain
pub chain_link : (par row : List ℕ) (i : ℕ) → 0 < i → get_or par i 0 < i → chain_at par row i ≡ get_or row i 0 ∷ chain_at par row (get_or par i 0)
chain_link par row zero p l = absurd (omega arith)
chain_link par row (suc i) p l = chain_entry par row (suc i) ∙ ap (λ (x : List ℕ). get_or row (suc i) 0 ∷ x) (table_chain par row (suc i) (get_or par (suc i) 0) l)

pub chain_frame : (par row : List ℕ) (m a b i : ℕ) → i < m → chain_at (set par m a) (set row m b) i ≡ chain_at par row i
unfolding chain_at
chain_frame par row m a b i h = ap (λ T. get_or T i []) (table_frame par row (suc i) m a b h)

-- the entry that is put at m extends its parent's chain
pub chain_push : (par row : List ℕ) (m e s : ℕ) → m < length par → m < length row → e < m → chain_at (set par m e) (set row m s) m ≡ s ∷ chain_at par row e
chain_push par row m e s p r h =
    let same : get_or (set par m e) m 0 ≡ e = get_or-set_same par m e 0 p in
    chain_link (set par m e) (set row m s) m (omega arith) (omega (arith, same))
    ∙ rw (same, get_or-set_same row m s 0 r, chain_frame par row m e s e h)

-- a row is written in front of what stands from k on
drop_set : (out : List ℕ) (k r : ℕ) → k < length out → drop k (set out k r) ≡ r ∷ drop (suc k) out
drop_set out k r h =
    drop-cons (set out k r) k 0 (lt-length-set out k r h) ∙ rw (get_or-set_same out k r 0 h, drop-set-lt (suc k) out k r (omega arith))

write_step : (c out : List ℕ) (k r : ℕ) → 0 < k → k ≤ length out → reverse c ++ drop (k - 1) (set out (k - 1) r) ≡ reverse (r ∷ c) ++ drop k out
write_step c out zero r p h = absurd (omega arith)
write_step c out (suc k) r p h =
    let e : suc k - 1 ≡ k = omega arith in
    rw (e, drop_set out k r h, reverse-cons) (sym (append_snoc (reverse c) r (drop (suc k) out)))

-- reading a chain back: the rows still to come stand in front of those that are written
pub record Reading (par row : List ℕ) (e : ℕ) (out : List ℕ) (at i : ℕ) : Type 0 where
  pub low : i ≤ e
  pub inside : at ≤ length out
  pub room : length (chain_at par row i) ≤ at
  pub whole : reverse (chain_at par row i) ++ drop at out ≡ reverse (chain_at par row e)

pub read_begin : (par row : List ℕ) (e : ℕ) (out : List ℕ) → length (chain_at par row e) ≤ length out → Reading par row e out (length out) e
read_begin par row e out h = record { low = omega arith; inside = omega arith; room = h; whole = rw (drop-length out) (append-nil (reverse (chain_at par row e))) }

module _ {par row : List ℕ} {e : ℕ} {out : List ℕ} {at i : ℕ} (h : Reading par row e out at i) where
  pub read_room : Links par (suc e) → 0 < i → 0 < at
  read_room l p = omega (arith, h.room, ap length (chain_link par row i p (l i p (omega (arith, h.low)))))

  pub read_on : Links par (suc e) → 0 < i → Reading par row e (set out (at - 1) (get_or row i 0)) (at - 1) (get_or par i 0)
  read_on l p =
      let k = l i p (omega (arith, h.low)) in
      let c = chain_link par row i p k in
      let q = read_room l p in
      record {
        low = omega (arith, h.low);
        inside = simp length-set (omega (arith, h.inside));
        room = omega (arith, h.room, ap length c);
        whole = write_step (chain_at par row (get_or par i 0)) out at (get_or row i 0) q h.inside ∙ (rw c at h.whole);
      }

  pub read_done : i ≡ 0 → drop at out ≡ reverse (chain_at par row e)
  read_done z = rw (z, chain_root par row) at h.whole
