-- The run: how many letters in a row read, up to the last one. The window of the last k letters is kept exactly when the run is k or more: if each of
-- them reads, they all belong to it, and if one does not, the run begins behind it. Once over the test `reads`. Assumes nothing.
use Rattle.std.proofs.Common.{◌≡◌, ℕ, suc, ◌+◌, ◌-◌, ◌%◌, ◌^◌, ◌<◌, ◌≤◌, Bool, true, false, cond, ◌&&◌, eqb, leb, List, [], ◌∷◌, ◌++◌, length, get_or, take, set, ℤ, pos, sym, refl}
use Rattle.std.proofs.Common.{ap, ◌∙◌, add-one, arith, take-append-drop, take-suc, leb-false, leb-true}
use lib.Seq.{set-get_or}
use Rattle.metrics.specs.Letters.{encoded, read_by, number_of, all_read, counts_reading}
use Rattle.metrics.specs.Lanes.{entry_of}
use Rattle.metrics.proofs.Codes.{cond_le, entry_read, read_coded}
use Rattle.metrics.proofs.Windows.{last_letters, last_length, bump, read_length, turn_window, turn_kept, turn_left}

-- the run after these letters, where it was n before them
unfoldable pub run_from : (ℕ → Bool) → ℕ → List ℕ → ℕ
run_from reads n [] = n
run_from reads n (x ∷ xs) = run_from reads (cond (reads x) (n + 1) 0) xs

module _ (reads : ℕ → Bool) where
  run_append : (n : ℕ) (xs ys : List ℕ) → run_from reads n (xs ++ ys) ≡ run_from reads (run_from reads n xs) ys
  unfolding run_from
  run_append n [] ys = refl
  run_append n (x ∷ xs) ys = run_append (cond (reads x) (n + 1) 0) xs ys

  run_le : (n : ℕ) (s : List ℕ) → run_from reads n s ≤ n + length s
  unfolding run_from
  run_le n [] = omega arith
  run_le n (x ∷ s) = omega (arith, run_le (cond (reads x) (n + 1) 0) s, cond_le (reads x) (n + 1) 0 (n + 1) (omega arith) (omega arith))

  -- letters that all read lengthen the run, and one that does not ends it
  run_on : (n : ℕ) (s : List ℕ) → all_read reads s ≡ true → run_from reads n s ≡ n + length s
  unfolding run_from all_read
  run_on n [] h = omega arith
  run_on n (x ∷ s) h = go (reads x) h (run_on (n + 1) s)
    where
      go : (t : Bool) → t && all_read reads s ≡ true → (all_read reads s ≡ true → run_from reads (n + 1) s ≡ n + 1 + length s)
          → run_from reads (cond t (n + 1) 0) s ≡ n + suc (length s)
      go true l on = omega (arith, on l)
      go false l on =
          let z : ◌≡◌ {A = ℕ} 0 1 = cc in
          absurd (omega arith)

  run_cut : (n : ℕ) (s : List ℕ) → all_read reads s ≡ false → run_from reads n s < length s
  unfolding run_from all_read
  run_cut n [] h =
      let z : ◌≡◌ {A = ℕ} 0 1 = cc in
      absurd (omega arith)
  run_cut n (x ∷ s) h = go (reads x) h (run_cut (n + 1) s)
    where
      go : (t : Bool) → t && all_read reads s ≡ false → (all_read reads s ≡ false → run_from reads (n + 1) s < length s)
          → run_from reads (cond t (n + 1) 0) s < suc (length s)
      go true l cut = omega (arith, cut l)
      go false l cut = omega (arith, run_le 0 s)

  -- ---- the window of the last k letters
  module _ (k : ℕ) (s : List ℕ) where
    -- the run before them
    earlier : ℕ
    earlier = run_from reads 0 (take (length s - k) s)

    last_run : run_from reads 0 s ≡ run_from reads earlier (last_letters k s)
    unfolding earlier
    last_run =
        ap (λ (t : List ℕ). run_from reads 0 t) (sym (take-append-drop (length s - k) s))
        ∙ run_append 0 (take (length s - k) s) (last_letters k s)

    run_kept : k ≤ run_from reads 0 s → all_read reads (last_letters k s) ≡ true
    run_kept h = go (all_read reads (last_letters k s)) refl
      where
        go : (t : Bool) → all_read reads (last_letters k s) ≡ t → t ≡ true
        go true e = refl
        go false e =
            let whole : k ≤ length s = omega (arith, run_le 0 s) in
            let cut = run_cut earlier (last_letters k s) e in
            absurd (omega (arith, last_run, last_length k s whole))

    run_left : run_from reads 0 s < k → leb k (length s) && all_read reads (last_letters k s) ≡ false
    run_left h = go (leb k (length s)) refl (all_read reads (last_letters k s)) refl
      where
        go : (t : Bool) → leb k (length s) ≡ t → (r : Bool) → all_read reads (last_letters k s) ≡ r → t && r ≡ false
        go true e true all =
            let whole = leb-true k (length s) e in
            let on = run_on earlier (last_letters k s) all in
            absurd (omega (arith, last_run, last_length k s whole))
        go true e false all = refl
        go false e r all = refl

-- ---- a turn of the counter's loop, at letter p
module _ (k : ℕ) (s : List ℕ) (p : ℕ) (more : p < length s) (reads : ℕ → Bool) where
  turn_run : (n run : ℕ) → n ≡ run_from reads 0 (take p s) → run ≡ cond (reads (get_or s p 0)) (n + 1) 0 → run ≡ run_from reads 0 (take (p + 1) s)
  unfolding run_from
  turn_run n run en er = rw (er, en, add-one p, take-suc s p 0 more, run_append reads 0 (take p s) (get_or s p 0 ∷ []))

  -- a store at every letter: one window more where the run is long enough, and else what stood there
  module _ (some : 1 ≤ k) (negative : Bool) (out : List ℤ) (eo : out ≡ counts_reading reads k negative (take p s)) where
    pub turn_by_run : (run w : ℕ) (y : ℤ) → run ≡ run_from reads 0 (take (p + 1) s) → w ≡ number_of (take (p + 1) s) % 4 ^ k
        → y ≡ cond (leb k run) (bump negative (get_or out w (pos 0))) (get_or out w (pos 0)) → set out w y ≡ counts_reading reads k negative (take (p + 1) s)
    turn_by_run run w y er ew ey = go (leb k run) refl ey
      where
        go : (t : Bool) → leb k run ≡ t → y ≡ cond t (bump negative (get_or out w (pos 0))) (get_or out w (pos 0))
            → set out w y ≡ counts_reading reads k negative (take (p + 1) s)
        go true e y1 =
            let long : k ≤ run_from reads 0 (take (p + 1) s) = omega (arith, leb-true k run e) in
            let whole : k ≤ p + 1 = omega (arith, run_le reads 0 (take (p + 1) s), read_length k s p more) in
            turn_kept k s p more reads some negative out eo whole (run_kept reads k (take (p + 1) s) long) w y (ew ∙ turn_window k s p more whole) y1
        go false e y0 =
            let short : run_from reads 0 (take (p + 1) s) < k = omega (arith, leb-false k run e) in
            let left = ap (λ (n : ℕ). leb k n && all_read reads (last_letters k (take (p + 1) s))) (sym (read_length k s p more)) ∙ run_left reads k (take (p + 1) s) short in
            rw (y0, set-get_or) (turn_left k s p more reads some negative out eo left)

-- the run by the table's entry of the letter, in a reading other than 0
module _ (k : ℕ) (s : List ℕ) (p : ℕ) (more : p < length s) (reading : ℕ) (other : reading ≡ 0 → ⊥) where
  pub turn_coded : (n entry run : ℕ) → n ≡ run_from (read_by reading) 0 (take p s) → entry ≡ entry_of (encoded (get_or s p 0))
      → run ≡ cond (eqb entry 0) 0 (n + 1) → run ≡ run_from (read_by reading) 0 (take (p + 1) s)
  turn_coded n entry run en ee er =
      turn_run k s p more (read_by reading) n run en (er ∙ rw (ee, read_coded reading (get_or s p 0) other) (entry_read (get_or s p 0) n))
