-- Where a search stands, from its begin to its end: what a step asks of its callees follows from it, and what they promise is where the search stands after
-- the step; it begins with the empty chain queued, and ends where no chain is queued or all steps are made. Assumes nothing.
use mathlib.Core.Path.{◌≡◌, refl, ap, ◌∙◌}
use Prim.Native.Nat.{ℕ, ◌+◌, ◌-◌, ◌*◌, ◌≤◌, ◌<◌}
use native.Mathlib.Omega.{arith}
use native.Mathlib.Nat.{mul-le-mul_right}
use mathlib.Core.Bool.{Bool, true, false, cond}
use mathlib.Core.List.{List, [], ◌∷◌, reverse, reverse-cons}
use lib.Dec.{eqb}
use lib.IntN.{ℤ, pos, nat_abs, ◌-ℤ◌}
use lib.ListN.{length, get_or, set}
use lib.Ieee.{le}
use borrow.Author.Tests.{eq-eqb, ne_eqb}
use mir.Syntax.{w32}
use mir.Val.{to_z, of_z}
use Rattle.paths.specs.Chains.{is_chain}
use Rattle.paths.specs.Heap.{Taken}
use Rattle.paths.specs.Queue.{key_of, entry_of, Walk, Queued, Ended}
use Rattle.paths.proofs.QueueLaws.{all_append, chain_parts, chain_end, chain_length}
use Rattle.paths.proofs.RunLaws.{taken_in, begin, step_on, end_empty, end_steps}
use Rattle.kplib.specs.Sums.{size_from, size_of}
use Rattle.kplib.specs.Told.{Told}
use Rattle.kplib.specs.Scoring.{AllBelow}
use Rattle.kplib.specs.Search.{distance_to, result_with, start_result, no_lower}
use Rattle.kplib.specs.SearchSteps.{later_of, advanced, not_begun, parents_of, lasts_of, chain_of, follows_told, distance_told, result_told}
use Rattle.kplib.specs.SearchSteps.{Extending, Weighable, WeighedAs, Searchable, best_at, Going, Gone}
use Rattle.kplib.specs.declared.steps.Leader.{Leader}
use Rattle.kplib.specs.declared.steps.Weighed.{Weighed}
use Rattle.kplib.specs.declared.steps.Progress.{Progress}
use Rattle.kplib.proofs.WordLaws.{back}
use Rattle.kplib.proofs.SizeSumLaws.{size_le}
use Rattle.kplib.proofs.StandLaws.{later_same}
use Rattle.kplib.proofs.LinkLaws.{parents_length, lasts_length}
use Rattle.kplib.proofs.ExtensionLaws.{reverse_length}

chain_below : (follows : List ℕ → ℕ → Bool) (v : ℕ) (c : List ℕ) → is_chain follows v c ≡ true → AllBelow v (reverse c)
chain_below follows v [] h = tt
chain_below follows v (r ∷ c) h =
    let p = chain_parts follows v r c h in
    rw (reverse-cons r c) (all_append (λ i. i < v) (reverse c) (r ∷ []) (chain_below follows v c p.0) (p.1, tt))

later_result : (r x y : Leader) (t : Bool) (f : ℕ → List ℕ) → r ≡ cond t y x
    → result_with (reverse (f r.entry)) r.scored ≡ cond t (result_with (reverse (f y.entry)) y.scored) (result_with (reverse (f x.entry)) x.scored)
later_result r x y true f e = ap (λ (l : Leader). result_with (reverse (f l.entry)) l.scored) e
later_result r x y false f e = ap (λ (l : Leader). result_with (reverse (f l.entry)) l.scored) e

later_in_lem : (n : ℕ) (r x y : Leader) (t : Bool) → r ≡ cond t y x → x.entry < n → y.entry < n → r.entry < n
later_in_lem n r x y true e p q = omega (arith, ap (λ (l : Leader). l.entry) e)
later_in_lem n r x y false e p q = omega (arith, ap (λ (l : Leader). l.entry) e)

module _ {q : Told} {room : ℕ} {links keys : List ℕ} {at : Progress} (h : Searchable q (length links) (length keys) room) (g : Going q links keys at) where
  few : length q.sizes ≤ 64
  few = h.sized.few

  used_low : at.used ≤ 1 + (q.plan.s.maxpaths + 1) * length q.sizes
  used_low = omega (arith, g.run.room, mul-le-mul_right (length q.sizes) g.run.below)

  good : (e : ℕ) → e < at.used → is_chain (follows_told q) (length q.sizes) (chain_of links e) ≡ true
  good e l = g.run.queue.tree.chains e l

  short : (e : ℕ) → e < at.used → length (chain_of links e) ≤ length q.sizes
  short e l =
      omega (arith, chain_length (follows_told q) (length q.sizes) (chain_of links e) (good e l), chain_end (follows_told q) (length q.sizes) (chain_of links e) (good e l))

  pub entry_room : (e : ℕ) → e < at.used → e < length links
  entry_room e l = omega (arith, h.link_room, used_low)

  pub walk_at : (e : ℕ) → e < at.used → Walk (parents_of links) (lasts_of links) e 64
  walk_at e l = record {
    parent_room = omega (arith, entry_room e l, parents_length links);
    row_room = omega (arith, entry_room e l, lasts_length links);
    links = λ i p k. g.run.queue.tree.links i p (omega arith);
    fits = omega (arith, short e l, few);
  }

  pub weighable : (e : ℕ) → e < at.used → {scratch : List ℤ} → length scratch ≡ room
      → Weighable q links e scratch
  weighable e l r = record {
    planned = h.planned;
    sized = h.sized;
    rows = h.rows;
    part_rows = h.part_rows;
    coded = h.coded;
    walk = walk_at e l;
    within = chain_below (follows_told q) (length q.sizes) (chain_of links e) (good e l);
    most = omega (arith, reverse_length (chain_of links e), short e l, few);
    scratch_is = r ∙ h.scratch_is;
  }

  all_few : 1 + (q.plan.s.maxpaths + 1) * length q.sizes ≤ 1048576
  all_few =
      let m : q.plan.s.maxpaths + 1 ≤ 4096 = omega (arith, h.maxpaths) in
      omega (arith, mul-le-mul_right (length q.sizes) m, few)

  key_count : at.queued + at.count ≡ at.used
  key_count = omega (arith, g.run.all, g.heap.many)

  pub counts_small : (at.used ≤ 1048576) × (at.queued ≤ 1048576) × (at.count ≤ 4096)
  counts_small = (omega (arith, used_low, all_few), omega (arith, used_low, all_few, key_count), omega (arith, g.run.below, h.maxpaths))

  module _ {keys' : List ℕ} {e : ℕ} (l : length keys' ≡ length keys) (some : 0 < at.queued) (less : at.count < q.plan.s.maxpaths + 1)
      (k : (e ≡ entry_of (get_or keys 0 0)) × Taken keys at.queued keys') where
    pub entry_in : e < at.used
    entry_in = taken_in g.run g.heap g.queued_in some k.1 k.0

    after : at.used + length q.sizes ≤ 1 + (q.plan.s.maxpaths + 1) * length q.sizes
    after = omega (arith, g.run.room, mul-le-mul_right (length q.sizes) less)

    size_back : {size : ℤ} → size ≡ size_of q.sizes (reverse (chain_of links e)) → to_z w32 (of_z w32 size) ≡ size
    size_back {size} hs = back size (omega (arith, ap nat_abs hs, size_le q.sizes (reverse (chain_of links e)) h.sized (omega (arith, reverse_length (chain_of links e), short e entry_in, few))))

    pub extending : (size : ℤ) → size ≡ size_of q.sizes (reverse (chain_of links e))
        → Extending q links keys' at.used (at.queued - 1) e (to_z w32 (of_z w32 size))
    extending size hs = record {
      link_room = omega (arith, h.link_room, after);
      key_room = omega (arith, h.key_room, after, key_count);
      few_entries = omega (arith, after, all_few);
      sized = h.sized;
      target_small = h.target_small;
      entry_in = entry_in;
      size_is = size_back hs ∙ hs;
      tree = g.run.queue.tree;
      walk = walk_at e entry_in;
      order = k.1.order;
    }

    module _ (links' keys'' : List ℕ) {added : ℕ} {w : Weighed} {to : Progress}
        (p : Queued (follows_told q) (length q.sizes) (distance_told q) (parents_of links) (lasts_of links) keys' (at.queued - 1) at.used e
        (parents_of links') (lasts_of links') keys'' added)
        (within : at.queued - 1 + added ≤ length keys'')
        (hw : WeighedAs q (reverse (chain_of links e)) at.best.scored.score w)
        (hr : to ≡ advanced at e w.scored added) where
      -- the leader is what the chain's own score would have made it
      kept_is : cond (le at.best.scored.score w.scored.score) (result_with (reverse (chain_of links e)) w.scored) (best_at links at)
          ≡ cond (no_lower (best_at links at) (result_told q (chain_of links e))) (result_told q (chain_of links e)) (best_at links at)
      unfolding result_told
      kept_is = later_same at.best.scored.score _ w.scored (λ x. result_with (reverse (chain_of links e)) x) (best_at links at) hw.stands

      on : (r : Leader) → r ≡ later_of at.best (record { entry = e; scored = w.scored })
          → Going q links' keys'' (record { used = at.used + added; queued = at.queued - 1 + added; count = at.count + 1; best = r })
      on r hr =
          let x : Leader = record { entry = e; scored = w.scored } in
          let b = le at.best.scored.score w.scored.score in
          let in-old = later_in_lem at.used r at.best x b hr g.best_in entry_in in
          let same : result_with (reverse (chain_of links' r.entry)) r.scored
          ≡ cond (no_lower (best_at links at) (result_told q (chain_of links e))) (result_told q (chain_of links e)) (best_at links at) =
          rw (p.kept r.entry in-old) (later_result r at.best x b (λ i. chain_of links i) hr ∙ kept_is) in
          let next = step_on g.run g.heap g.queued_in some k.1 k.0 l less p in
          record {
            best_in = omega (arith, in-old);
            queued_in = within;
            waiting = next.0;
            heap = next.1;
            run = rw same next.2;
          }

      pub gone_on : (Going q links' keys'' to) × (to.count ≡ at.count + 1)
      gone_on = (rw hr (on (later_of at.best (record { entry = e; scored = w.scored })) refl), ap (λ (x : Progress). x.count) hr)

-- the same where the slices are others of the same lengths
pub searchable_keep : {q : Told} {lr kr sr lr' kr' sr' : ℕ} → Searchable q lr kr sr → lr' ≡ lr → kr' ≡ kr → sr' ≡ sr → Searchable q lr' kr' sr'
searchable_keep h a b c = rw (a, b, c) h

module _ {q : Told} {room : ℕ} {links keys : List ℕ} {at : Progress} (h : Searchable q (length links) (length keys) room) (g : Going q links keys at) where
  ends : (b : Bool) → eqb at.queued 0 ≡ b
      → Ended no_lower start_result (result_told q) (follows_told q) (length q.sizes) (distance_told q) (q.plan.s.maxpaths + 1) at.count (best_at links at) b
      → Gone q links at
  ends b e d = record {
    read = record { walk = walk_at h g at.best.entry g.best_in; short = short h g at.best.entry g.best_in; few = (counts_small h g).2 };
    ended = rw e d;
  }

  -- none is queued
  pub gone_empty : at.queued ≡ 0 → Gone q links at
  gone_empty z = ends true (eq-eqb at.queued 0 z) (end_empty g.waiting g.run (g.heap.many ∙ z))

  -- all steps are made
  pub gone_steps : (at.queued ≡ 0 → ⊥) → at.count ≡ q.plan.s.maxpaths + 1 → Gone q links at
  gone_steps z e = ends false (ne_eqb at.queued 0 z) (end_steps g.run e (omega (arith, g.heap.many)))

pub lt_of_ne : {a b : ℕ} → a ≤ b → (a ≡ b → ⊥) → a < b
lt_of_ne h f = omega arith

-- the search begins with the empty chain queued
pub going_first : (q : Told) (links keys : List ℕ) {k : ℕ} {at : Progress} → 0 < length keys → k ≡ key_of (nat_abs (pos 0 -ℤ q.plan.target)) 0 → at ≡ not_begun → Going q links (set keys 0 k) at
unfolding distance_to size_of size_from
going_first q links [] l hk hx = absurd (omega arith)
going_first q links (y ∷ keys) l hk hx = rw (hk, hx) (record {
  best_in = omega arith;
  queued_in = omega arith;
  waiting = key_of (nat_abs (pos 0 -ℤ q.plan.target)) 0 ∷ [];
  heap = record { order = λ j u v. absurd (omega arith); many = omega arith; same = λ x. refl };
  run = begin no_lower start_result (result_told q) (follows_told q) (length q.sizes) (distance_told q) (q.plan.s.maxpaths + 1) (parents_of links) (lasts_of links);
})
