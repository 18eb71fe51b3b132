-- Which rows may follow an entry's chain, asked of its rows from the last to the first; the node at which the chain ends, by its last row; and what the
-- loop that queues a chain's extensions knows of a row that extends it: the longer chain's size is small, its distance is what the key holds, its link stands
-- behind the others, and its key is put to the others. Assumes nothing.
use mathlib.Core.Path.{◌≡◌, refl, sym, ap, ◌∙◌}
use Prim.Native.Nat.{ℕ, zero, suc, ◌+◌, ◌-◌, ◌*◌, ◌/◌, ◌%◌, ◌≤◌, ◌<◌}
use native.Mathlib.Omega.{arith}
use native.Mathlib.Numerals.{add-one}
use mathlib.Core.Bool.{Bool, true, false, ◌&&◌}
use mathlib.Core.List.{List, [], ◌∷◌, ◌++◌, reverse, reverse-cons}
use lib.IntN.{ℤ, pos, nat_abs, ◌+ℤ◌, ◌-ℤ◌}
use lib.ListN.{length, get_or, set, take, replicate, length-append, length-replicate, get_or-replicate}
use borrow.Author.Tests.{le-leb}
use mir.Syntax.{w32}
use mir.Val.{to_z, of_z, SFits}
use Rattle.paths.specs.Chains.{first_after, extends, is_chain}
use Rattle.paths.specs.Count.{stands_with_all, may_follow}
use Rattle.paths.specs.Heap.{Heap}
use Rattle.paths.specs.Queue.{chain_at, key_of, Links}
use Rattle.paths.proofs.BooleanLaws.{and_true, and_assoc}
use Rattle.paths.proofs.TableLaws.{chain_root, chain_link}
use Rattle.paths.proofs.QueueLaws.{chain_end, chain_length, chain_longer, Queueing, queueing_more}
use Rattle.kplib.specs.Told.{Told}
use Rattle.kplib.specs.Sums.{size_of}
use Rattle.kplib.specs.GraphWalk.{Flagged}
use Rattle.kplib.specs.Search.{distance_to}
use Rattle.kplib.specs.SearchSteps.{Extending, end_at, parents_of, lasts_of, chain_of, follows_by}
use Rattle.kplib.proofs.LinkLaws.{parents_length, lasts_length, parent_at, last_at, parents_store, lasts_store}
use Rattle.kplib.proofs.WordLaws.{fits, back}
use Rattle.kplib.proofs.SizeSumLaws.{size_le, size_snoc}

pub reverse_length : (l : List ℕ) → length (reverse l) ≡ length l
reverse_length [] = refl
reverse_length (x ∷ l) = rw (reverse-cons x l) (omega (arith, length-append (reverse l) (x ∷ []), reverse_length l))

-- the node at which an entry's chain ends, by its last row
pub end_at_lem : (parents lasts : List ℕ) (e : ℕ) → ((i : ℕ) → 0 < i → i ≡ e → get_or parents i 0 < i) → end_at e (get_or lasts e 0) ≡ first_after (chain_at parents lasts e)
end_at_lem parents lasts zero h = sym (ap first_after (chain_root parents lasts))
end_at_lem parents lasts (suc e) h = add-one (get_or lasts (suc e) 0) ∙ sym (ap first_after (chain_link parents lasts (suc e) (omega arith) (h (suc e) (omega arith) refl)))

-- what the rows from the last to entry i's have left, and what the rows of entry i's chain leave, is what the whole chain leaves
pub record Asking (joins : ℕ → ℕ → Bool) (full : Bool) (links : List ℕ) (entry : ℕ) (may : List Bool) (i : ℕ) : Type 0 where
  pub low : i ≤ entry
  pub long : length may ≡ 64
  pub asked : (s : ℕ) → s < 64 → (get_or may s false && stands_with_all joins (chain_of links i) s) ≡ may_follow joins full (chain_of links entry) s

pub asking_begin : (joins : ℕ → ℕ → Bool) (full : Bool) (links : List ℕ) (entry : ℕ) → Asking joins full links entry (replicate 64 full) entry
asking_begin joins full links entry = record { low = omega arith; long = length-replicate 64 full; asked = λ s l. rw (get_or-replicate 64 s full false l) }

module _ {joins : ℕ → ℕ → Bool} {full : Bool} {links : List ℕ} {entry : ℕ} {may : List Bool} {i : ℕ} (h : Asking joins full links entry may i) where
  -- one row more is asked
  pub asking_on : Links (parents_of links) (suc entry) → 0 < i → {new : List Bool} → Flagged (λ s. get_or may s false && joins (get_or links i 0 % 64) s) new
      → Asking joins full links entry new (get_or links i 0 / 64)
  asking_on l p {new} f =
      let k = l i p (omega (arith, h.low)) in
      let chain : chain_of links i ≡ get_or links i 0 % 64 ∷ chain_of links (get_or links i 0 / 64) =
      rw (← last_at links i, ← parent_at links i) (chain_link (parents_of links) (lasts_of links) i p k) in
      record {
        low = omega (arith, h.low, parent_at links i, k);
        long = f.long;
        asked = λ s q. rw (f.flag s q)
            (and_assoc (get_or may s false) (joins (get_or links i 0 % 64) s) (stands_with_all joins (chain_of links (get_or links i 0 / 64)) s) ∙ (rw chain at (h.asked s q)));
      }

  pub asking_done : i ≡ 0 → Flagged (may_follow joins full (chain_of links entry)) may
  asking_done z = record {
    long = h.long;
    flag = λ s q. let e = h.asked s q in sym (and_true (get_or may s false)) ∙ (rw (z, chain_root (parents_of links) (lasts_of links)) at e);
  }

module _ {q : Told} {links keys : List ℕ} {used queued entry : ℕ} {size : ℤ}
    (h : Extending q links keys used queued entry size) where
  -- the chain that is extended
  abbrev chain : List ℕ
  chain = chain_of links entry

  abbrev follows : List ℕ → ℕ → Bool
  follows = follows_by q.plan q.together

  chained : is_chain follows (length q.sizes) chain ≡ true
  chained = h.tree.chains entry h.entry_in

  pub end_is : {end : ℕ} → end ≡ end_at entry (get_or (lasts_of links) entry 0) → end ≡ first_after (chain_of links entry)
  end_is e = e ∙ end_at_lem (parents_of links) (lasts_of links) entry (λ i p z. h.tree.links i p (omega (arith, h.entry_in)))

  end_in : (first_after chain ≤ 64) × (first_after chain ≤ length q.sizes)
  end_in = let e = chain_end follows (length q.sizes) chain chained in (omega (arith, e, h.sized.few), omega (arith, e))

  pub end_low : {end : ℕ} → end ≡ end_at entry (get_or (lasts_of links) entry 0) → end ≤ length q.sizes
  end_low e = omega (arith, end_is e, end_in.1)

  -- the flag of a row behind the chain's last one tells whether it extends the chain
  pub found : {may : List Bool} → Flagged (follows_by q.plan q.together (chain_of links entry)) may → (r : ℕ) → first_after (chain_of links entry) ≤ r → r < 64
      → extends (follows_by q.plan q.together) (chain_of links entry) r ≡ get_or may r false
  unfolding extends
  found f r l k = rw (le-leb (first_after chain) r l) (sym (f.flag r k))

  size_small : nat_abs size ≤ 8388608
  size_small =
      let few : length (reverse chain) ≤ 64 = omega (arith, reverse_length chain, chain_length follows (length q.sizes) chain chained, end_in.0) in
      omega (arith, ap nat_abs h.size_is, size_le q.sizes (reverse chain) h.sized few)

  sum : (r : ℕ) → size +ℤ get_or q.sizes r (pos 0) ≡ size_of q.sizes (reverse (r ∷ chain))
  sum r = ap (λ (z : ℤ). z +ℤ get_or q.sizes r (pos 0)) h.size_is ∙ sym (ap (λ (l : List ℕ). size_of q.sizes l) (reverse-cons r chain) ∙ size_snoc q.sizes (reverse chain) r)

  module _ {r : ℕ} (l : r < length q.sizes) (e : extends (follows_by q.plan q.together) (chain_of links entry) r ≡ true) where
    short : length (reverse (r ∷ chain)) ≤ 64
    short =
        let k : is_chain follows (length q.sizes) (r ∷ chain) ≡ true = chain_longer follows (length q.sizes) r chain chained l e in
        omega (arith, reverse_length (r ∷ chain), chain_length follows (length q.sizes) (r ∷ chain) k, h.sized.few)

    sum_small : nat_abs (size +ℤ get_or q.sizes r (pos 0)) ≤ 8388608
    sum_small = omega (arith, ap nat_abs (sum r), size_le q.sizes (reverse (r ∷ chain)) h.sized short)

    -- the longer chain's size as the machine adds it up
    pub sum_fits : SFits w32 (to_z w32 (of_z w32 size) +ℤ to_z w32 (of_z w32 (get_or q.sizes r (pos 0))))
    sum_fits = rw (back size (omega (arith, size_small)), back (get_or q.sizes r (pos 0)) (omega (arith, h.sized.sized r))) (fits (size +ℤ get_or q.sizes r (pos 0)) (omega (arith, sum_small)))

    sum_back : to_z w32 (of_z w32 (to_z w32 (of_z w32 size) +ℤ to_z w32 (of_z w32 (get_or q.sizes r (pos 0))))) ≡ size +ℤ get_or q.sizes r (pos 0)
    sum_back = rw (back size (omega (arith, size_small)), back (get_or q.sizes r (pos 0)) (omega (arith, h.sized.sized r))) (back (size +ℤ get_or q.sizes r (pos 0)) (omega (arith, sum_small)))

    -- what its key is asked with, and what it is
    pub key_sizes : (nat_abs (to_z w32 (of_z w32 (to_z w32 (of_z w32 size) +ℤ to_z w32 (of_z w32 (get_or q.sizes r (pos 0)))))) ≤ 8388608) × (nat_abs (to_z w32 (of_z w32 q.plan.target)) ≤ 8388608)
    key_sizes = (omega (arith, ap nat_abs sum_back, sum_small), omega (arith, ap nat_abs (back q.plan.target (omega (arith, h.target_small))), h.target_small))

    key_is : {k : ℕ} (m : ℕ) → k ≡ key_of (nat_abs (to_z w32 (of_z w32 (to_z w32 (of_z w32 size) +ℤ to_z w32 (of_z w32 (get_or q.sizes r (pos 0))))) -ℤ to_z w32 (of_z w32 q.plan.target))) m
        → k ≡ key_of (distance_to q.sizes q.plan.target (r ∷ chain)) m
    unfolding distance_to
    key_is m g = rw (← sum r, ← sum_back) (rw (back q.plan.target (omega (arith, h.target_small))) at g)

  -- a turn of the loop whose row extends the chain: its link stands behind the others, and its key is put to the others
  pub queueing_row : (links' : List ℕ) {keys' : List ℕ} {added r k : ℕ} {keys'' : List ℕ}
      → Queueing (follows_by q.plan q.together) (length q.sizes) (distance_to q.sizes q.plan.target) used queued entry (parents_of links) (lasts_of links) keys (parents_of links')
      (lasts_of links') keys' added r
      → length links' ≡ length links → length keys' ≡ length keys → 0 < r → extends (follows_by q.plan q.together) (chain_of links entry) (r - 1) ≡ true
      → k ≡ key_of (nat_abs (to_z w32 (of_z w32 (to_z w32 (of_z w32 size) +ℤ to_z w32 (of_z w32 (get_or q.sizes (r - 1) (pos 0))))) -ℤ to_z w32 (of_z w32 q.plan.target))) (used + added)
      → Heap keys'' (queued + added + 1) (take (queued + added) keys' ++ (k ∷ []))
      → Queueing (follows_by q.plan q.together) (length q.sizes) (distance_to q.sizes q.plan.target) used queued entry (parents_of links) (lasts_of links) keys
      (parents_of (set links' (used + added) (entry * 64 + (r - 1)))) (lasts_of (set links' (used + added) (entry * 64 + (r - 1)))) keys'' (added + 1) (r - 1)
  queueing_row links' {added = added} {r = r} {k = k} v el ek p e key put =
      let row : r - 1 < 64 = omega (arith, v.most, h.sized.few) in
      rw (parents_store links' (used + added) entry (r - 1) row, lasts_store links' (used + added) entry (r - 1) row)
      (queueing_more v p e h.entry_in (omega (arith, parents_length links', h.link_room, v.most)) (omega (arith, lasts_length links', h.link_room, v.most))
      (omega (arith, h.key_room, v.most)) h.few_entries k (key_is (omega (arith, v.most)) e (used + added) key) put)

pub end_later : (e r : ℕ) {x : ℕ} → (e ≡ 0 → ⊥) → x ≡ r + 1 → x ≡ end_at e r
end_later zero r h k = absurd (h refl)
end_later (suc e) r h k = k
