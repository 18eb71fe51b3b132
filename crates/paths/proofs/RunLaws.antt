-- A step over the flat queue is a step of the rule over the list of chains. What is done and what is left come to the whole, so at the end what is done is the whole.
use mathlib.Core.Path.{◌≡◌, refl, sym, ap, ◌∙◌}
use Prim.Native.Nat.{ℕ, zero, suc, ◌+◌, ◌-◌, ◌≤◌, ◌<◌}
use native.Mathlib.Omega.{arith}
use mathlib.Core.Bool.{Bool, true, false, cond}
use mathlib.Core.List.{List, [], ◌∷◌, ◌++◌, map}
use lib.ListN.{length, get_or}
use Rattle.paths.specs.Chains.{extensions}
use Rattle.paths.specs.Search.{none, pick, after, scored, left}
use Rattle.paths.specs.Best.{best}
use Rattle.paths.specs.Heap.{Heap, Taken}
use Rattle.paths.specs.Queue.{chain_at, key_of, entry_of, Key, queued_chains, Queue, Queued, Running, Ended}
use Rattle.paths.proofs.BestLaws.{all_map}
use Rattle.paths.proofs.TableLaws.{chain_root}
use Rattle.paths.proofs.HeapLaws.{without, front_stands, front_below, heap_more, heap_less}
use Rattle.paths.proofs.PickLaws.{all_at, all_from, pick_least}
use Rattle.paths.proofs.QueueLaws.{queue_begin, queue_without, queue_join, chains_join}

module _ {A : Type 0} (D : A → ℕ) (X : A → List A) where
  one_scored : (f : ℕ) (Q : List A) (x : A) (q : List A) (c : A) (r : List A) → Q ≡ x ∷ q → pick D x q ≡ (c, r) → scored D X (suc f) Q ≡ c ∷ scored D X f (r ++ X c)
  unfolding scored after
  one_scored f Q x q c r e p = rw e (rw p)

  one_left : (f : ℕ) (Q : List A) (x : A) (q : List A) (c : A) (r : List A) → Q ≡ x ∷ q → pick D x q ≡ (c, r) → left D X (suc f) Q ≡ left D X f (r ++ X c)
  unfolding left after
  one_left f Q x q c r e p = rw e (rw p)

  none_scored : (f : ℕ) → scored D X f [] ≡ []
  unfolding scored
  none_scored zero = refl
  none_scored (suc f) = refl

  none_left : (f : ℕ) → left D X f [] ≡ []
  unfolding left
  none_left zero = refl
  none_left (suc f) = refl

best_step : {R : Type 0} (le : R → R → Bool) (b r : R) (l : List R) → best le b (r ∷ l) ≡ best le (cond (le b r) r b) l
unfolding best
best_step le b r l = refl

module _ {R : Type 0} (le : R → R → Bool) (start : R) (score : List ℕ → R) (follows : List ℕ → ℕ → Bool) (v : ℕ) (D : List ℕ → ℕ) (steps : ℕ) where
  abbrev X : List ℕ → List (List ℕ)
  X c = extensions follows v c

  -- the empty chain is queued
  pub begin : (par row : List ℕ) → Running le start score follows v D steps par row (key_of (D []) 0 ∷ []) 1 0 start
  begin par row =
      let s : steps - 0 ≡ steps = omega arith in
      let z : entry_of (key_of (D []) 0) ≡ 0 = omega arith in
      let q : queued_chains par row (key_of (D []) 0 ∷ []) ≡ [] ∷ [] = rw (z, chain_root par row) in
      record {
        queue = queue_begin follows v D par row;
        all = omega arith;
        room = omega arith;
        below = omega arith;
        counted = rw (s, q) (omega arith);
        lefts = rw (s, q);
        bests = rw (s, q);
      }

module _ {R : Type 0} {le : R → R → Bool} {start : R} {score : List ℕ → R} {follows : List ℕ → ℕ → Bool} {v : ℕ} {D : List ℕ → ℕ} {steps : ℕ}
    {par row : List ℕ} {n k : ℕ} {b : R} where
  -- nothing is queued
  pub end_empty : (keys : List ℕ) → Running le start score follows v D steps par row keys n k b → length keys ≡ 0 → Ended le start score follows v D steps k b true
  unfolding best
  end_empty (x ∷ keys) h z = absurd (omega arith)
  end_empty [] h z =
      let e : scored D (λ c. extensions follows v c) (steps - k) [] ≡ [] = none_scored D (λ c. extensions follows v c) (steps - k) in
      let f : left D (λ c. extensions follows v c) (steps - k) [] ≡ [] = none_left D (λ c. extensions follows v c) (steps - k) in
      record {
        best_is = rw e at h.bests;
        count_is = omega (arith, (rw e at h.counted));
        complete_is = ap none (sym f ∙ h.lefts);
      }

  -- all steps are made, and something is queued
  pub end_steps : {keys : List ℕ} → Running le start score follows v D steps par row keys n k b → k ≡ steps → 0 < length keys → Ended le start score follows v D steps k b false
  unfolding best scored left
  end_steps {keys} h e p =
      let z : steps - k ≡ 0 = omega arith in
      record {
        best_is = rw z at h.bests;
        count_is = omega (arith, (rw z at h.counted));
        complete_is = some keys p ∙ ap none (rw z at h.lefts);
      }
    where
      some : (l : List ℕ) → 0 < length l → false ≡ none (queued_chains par row l)
      some [] p = absurd (omega arith)
      some (x ∷ l) p = refl

module _ {R : Type 0} {le : R → R → Bool} {start : R} {score : List ℕ → R} {follows : List ℕ → ℕ → Bool} {v : ℕ} {D : List ℕ → ℕ} {steps : ℕ}
    {par row waiting keys : List ℕ} {n k q : ℕ} {b : R} {keys' : List ℕ} {e : ℕ}
    (h : Running le start score follows v D steps par row waiting n k b) (o : Heap keys q waiting) (l : q ≤ length keys) (some : 0 < q)
    (t : Taken keys q keys') (names : e ≡ entry_of (get_or keys 0 0)) where
  -- where the front key stands in the order of queueing
  place : ℕ
  place = (front_stands o l some).0

  in_it : place < length waiting
  unfolding place
  in_it = (front_stands o l some).1

  front : get_or waiting place 0 ≡ get_or keys 0 0
  unfolding place
  front = (front_stands o l some).2

  -- the entry that is taken is one of the queue's
  pub taken_in : e < n
  taken_in =
      let w : Key D par row n (get_or waiting place 0) = all_at (λ j. Key D par row n j) 0 waiting place in_it h.queue.keyed in
      omega (arith, w.within, names, ap entry_of front)

  -- the keys that wait then, in the order of queueing
  rest : List ℕ
  rest = without place waiting

  picked : (x : List ℕ) × (r : List (List ℕ)) × (queued_chains par row waiting ≡ x ∷ r) × (pick D x r ≡ (chain_at par row e, queued_chains par row rest))
  unfolding rest
  picked =
      let same : entry_of (get_or waiting place 0) ≡ e = ap entry_of front ∙ sym names in
      let p = pick_least D (λ j. chain_at par row (entry_of j)) waiting place in_it
      (all_map (λ j. Key D par row n j) (λ j. j ≡ key_of (D (chain_at par row (entry_of j))) (entry_of j)) (λ j w. w.is) waiting h.queue.keyed) h.queue.rising
      (all_from (λ j. get_or waiting place 0 ≤ j) 0 waiting (λ j w. omega (arith, front, front_below o l t j w))) in
      (p.0, p.1, p.2, p.3 ∙ ap (λ (i : ℕ). (chain_at par row i, queued_chains par row (without place waiting))) same)

  module _ {par' row' keys'' : List ℕ} {added : ℕ} (kept : length keys' ≡ length keys) (less : k < steps) (p : Queued follows v D par row keys' (q - 1) n e par' row' keys'' added) where
    next : List ℕ
    next = rest ++ p.new

    next_queue : Queue follows v D par' row' next (n + added)
    unfolding next rest
    next_queue = queue_join (queue_without place h.queue) p.queue p.kept p.late (omega arith)

    next_chains : queued_chains par' row' next ≡ queued_chains par row rest ++ extensions follows v (chain_at par row e)
    unfolding next rest
    next_chains = chains_join (queue_without place h.queue) p.queue p.kept p.late (omega arith) ∙ rw p.chains

    next_scored : scored D (λ c. extensions follows v c) (steps - k) (queued_chains par row waiting)
        ≡ chain_at par row e ∷ scored D (λ c. extensions follows v c) (steps - (k + 1)) (queued_chains par' row' next)
    next_scored =
        let z : steps - k ≡ suc (steps - (k + 1)) = omega arith in
        rw (z, next_chains) (one_scored D (λ c. extensions follows v c) (steps - (k + 1)) (queued_chains par row waiting) picked.0 picked.1
        (chain_at par row e) (queued_chains par row rest) picked.2 picked.3)

    next_left : left D (λ c. extensions follows v c) (steps - k) (queued_chains par row waiting) ≡ left D (λ c. extensions follows v c) (steps - (k + 1)) (queued_chains par' row' next)
    next_left =
        let z : steps - k ≡ suc (steps - (k + 1)) = omega arith in
        rw (z, next_chains) (one_left D (λ c. extensions follows v c) (steps - (k + 1)) (queued_chains par row waiting) picked.0 picked.1
        (chain_at par row e) (queued_chains par row rest) picked.2 picked.3)

    next_heap : Heap keys'' (q - 1 + added) next
    unfolding next rest
    next_heap = heap_more (heap_less o l place in_it front t) (omega arith) p.new p.heap

    -- one step: the chain taken is scored, its result replaces the best unless it is lower, and its extensions are queued
    pub step_on : (w : List ℕ) × (Heap keys'' (q - 1 + added) w)
        × (Running le start score follows v D steps par' row' w (n + added) (k + 1) (cond (le b (score (chain_at par row e))) (score (chain_at par row e)) b))
    step_on = (
      next,
      next_heap,
      record {
        queue = next_queue;
        all = omega (arith, h.all, next_heap.many, o.many);
        room = omega (arith, h.room, p.most);
        below = omega arith;
        counted = omega (arith, h.counted, ap length next_scored);
        lefts = sym next_left ∙ h.lefts;
        bests = sym (best_step le b (score (chain_at par row e)) (map score (scored D (λ c. extensions follows v c) (steps - (k + 1)) (queued_chains par' row' next))))
            ∙ (rw next_scored at h.bests);
      },
    )
