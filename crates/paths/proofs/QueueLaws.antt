-- Taking an entry's key out of the queue, and a turn of the loop that queues a chain's extensions, highest row first: what is queued and what is still to come are the whole.
use mathlib.Core.Path.{◌≡◌, refl, sym, ◌∙◌}
use mathlib.Core.Logic.{◌≢◌}
use Prim.Native.Nat.{ℕ, zero, suc, ◌+◌, ◌-◌, ◌≤◌, ◌<◌}
use native.Mathlib.Omega.{arith}
use mathlib.Core.Bool.{Bool, true, false, ◌&&◌}
use mathlib.Core.List.{List, [], ◌∷◌, ◌++◌, map, append-nil, append_assoc}
use lib.Dec.{ltb, eqb}
use lib.ListN.{length, get_or, set, take}
use lib.Seq.{append_snoc, get_or-set_same, get_or-set_other, length-take-le}
use borrow.Author.Tests.{eqb-true, eqb-false, lt-leb, lt-ltb, ltb-true}
use Rattle.paths.specs.Chains.{first_after, extends, extensions, is_chain}
use Rattle.paths.specs.Best.{All}
use Rattle.paths.specs.Heap.{Ordered, Heap}
use Rattle.paths.specs.Queue.{chain_at, key_of, entry_of, Rising, Key, queued_chains, Tree, Queue, Queued}
use Rattle.paths.proofs.BooleanLaws.{and_both}
use Rattle.paths.proofs.BestLaws.{all_map}
use Rattle.paths.proofs.ChainLaws.{extends_first_after}
use Rattle.paths.proofs.TableLaws.{chain_frame, chain_push, chain_root}
use Rattle.paths.proofs.HeapLaws.{without, heap_more}
use Rattle.paths.proofs.PickLaws.{all_without, rising_without}

pub all_append : {A : Type 0} (P : A → Type 0) (a b : List A) → All P a → All P b → All P (a ++ b)
all_append P [] b h k = k
all_append P (x ∷ a) b h k = (h.0, all_append P a b h.1 k)

map_append : {A B : Type 0} (f : A → B) (l m : List A) → map f (l ++ m) ≡ map f l ++ map f m
map_append f [] m = refl
map_append f (x ∷ l) m = let h = map_append f l m in cc

-- two functions that agree on a list's elements map it alike
pub map_same : {A B : Type 0} (f g : A → B) (P : A → Type 0) → ((a : A) → P a → f a ≡ g a) → (l : List A) → All P l → map f l ≡ map g l
map_same f g P h [] a = refl
map_same f g P h (x ∷ l) a = let e = h x a.0 in let k = map_same f g P h l a.1 in cc

-- entries below n, and then entries from n on
rising_append : (n : ℕ) (a b : List ℕ) → Rising a → All (λ j. entry_of j < n) a → Rising b → All (λ j. n ≤ entry_of j) b → Rising (a ++ b)
rising_append n [] b u l v m = v
rising_append n (k ∷ a) b u l v m =
    (all_append (λ j. entry_of k < entry_of j) a b u.0 (all_map (λ j. n ≤ entry_of j) (λ j. entry_of k < entry_of j) (λ j h. omega (arith, l.0)) b m), rising_append n a b u.1 l.1 v m)

module _ (follows : List ℕ → ℕ → Bool) (v : ℕ) where
  pub chain_parts : (s : ℕ) (c : List ℕ) → is_chain follows v (s ∷ c) ≡ true → (is_chain follows v c ≡ true) × (s < v) × (first_after c ≤ s)
  unfolding is_chain
  chain_parts s c h =
      let p = and_both (is_chain follows v c) (ltb s v && extends follows c s) h in
      let q = and_both (ltb s v) (extends follows c s) p.1 in
      (p.0, ltb-true s v q.0, extends_first_after follows c s q.1)

  pub chain_longer : (s : ℕ) (c : List ℕ) → is_chain follows v c ≡ true → s < v → extends follows c s ≡ true → is_chain follows v (s ∷ c) ≡ true
  unfolding is_chain
  chain_longer s c h l e = rw (h, lt-ltb s v l, e)

  pub chain_end : (c : List ℕ) → is_chain follows v c ≡ true → first_after c ≤ v
  chain_end [] h = omega arith
  chain_end (s ∷ c) h = (chain_parts s c h).1

  -- a chain has no more rows than stand before its end
  pub chain_length : (c : List ℕ) → is_chain follows v c ≡ true → length c ≤ first_after c
  chain_length [] h = omega arith
  chain_length (s ∷ c) h =
      let p = chain_parts s c h in
      omega (arith, chain_length c p.0)

module _ {follows : List ℕ → ℕ → Bool} {v : ℕ} {D : List ℕ → ℕ} {par row keys : List ℕ} {n : ℕ} where
  -- a key less
  pub queue_without : (i : ℕ) → Queue follows v D par row keys n → Queue follows v D par row (without i keys) n
  queue_without i q = record {
    tree = q.tree;
    keyed = all_without (λ k. Key D par row n k) i keys q.keyed;
    rising = rising_without i keys q.rising;
  }

-- the empty chain is queued
pub queue_begin : (follows : List ℕ → ℕ → Bool) (v : ℕ) (D : List ℕ → ℕ) (par row : List ℕ) → Queue follows v D par row (key_of (D []) 0 ∷ []) 1
unfolding is_chain
queue_begin follows v D par row =
    let root = chain_root par row in
    let z : entry_of (key_of (D []) 0) ≡ 0 = omega arith in
    record {
      tree = record {
        some = omega arith;
        few = omega arith;
        chains = λ e h. let y : e ≡ 0 = omega arith in rw (y, root);
        links = λ i p h. absurd (omega arith);
      };
      keyed = (record { within = omega arith; is = rw (z, root) }, tt);
      rising = (tt, tt);
    }

-- keys of later entries stand behind those of the first n
module _ {follows : List ℕ → ℕ → Bool} {v : ℕ} {D : List ℕ → ℕ} {par row keys par' row' new : List ℕ} {n m : ℕ} (q : Queue follows v D par row keys n) (p : Queue follows v D par' row' new m)
    (kept : (i : ℕ) → i < n → chain_at par' row' i ≡ chain_at par row i) (late : All (λ k. n ≤ entry_of k) new) (more : n ≤ m) where
  key_kept : (k : ℕ) → Key D par row n k → Key D par' row' m k
  key_kept k h = record { within = omega (arith, h.within); is = rw (kept (entry_of k) h.within) h.is }

  pub queue_join : Queue follows v D par' row' (keys ++ new) m
  queue_join = record {
    tree = p.tree;
    keyed = all_append (λ k. Key D par' row' m k) keys new (all_map (λ k. Key D par row n k) (λ k. Key D par' row' m k) key_kept keys q.keyed) p.keyed;
    rising = rising_append n keys new q.rising (all_map (λ k. Key D par row n k) (λ k. entry_of k < n) (λ k h. h.within) keys q.keyed) p.rising late;
  }

  pub chains_join : queued_chains par' row' (keys ++ new) ≡ queued_chains par row keys ++ queued_chains par' row' new
  chains_join =
      map_append (λ k. chain_at par' row' (entry_of k)) keys new
      ∙ rw (map_same (λ k. chain_at par' row' (entry_of k)) (λ k. chain_at par row (entry_of k)) (λ k. Key D par row n k) (λ k h. kept (entry_of k) h.within) keys q.keyed)

lt_of : (i m : ℕ) → i < m + 1 → (i ≡ m → ⊥) → i < m
lt_of i m q ne = omega arith

-- what holds of the entries before m and of entry m holds of the entries before m + 1
below_next : (P : ℕ → Type 0) (m : ℕ) → ((i : ℕ) → i < m → P i) → P m → (i : ℕ) → i < m + 1 → P i
below_next P m h p i l = go (eqb i m) refl
  where
    go : (t : Bool) → eqb i m ≡ t → P i
    go true z = let y : i ≡ m = eqb-true i m z in rw y p
    go false z = h i (lt_of i m l (eqb-false i m z))

module _ {follows : List ℕ → ℕ → Bool} {v : ℕ} {D : List ℕ → ℕ} {par row keys : List ℕ} {m : ℕ} (q : Queue follows v D par row keys m) (e s : ℕ)
    (lp : m < length par) (lr : m < length row) (le : e < m) (few : m + 1 ≤ 1048576) (good : is_chain follows v (s ∷ chain_at par row e) ≡ true) where
  tree_push : Tree follows v (set par m e) (set row m s) (m + 1)
  tree_push = record {
    some = omega arith;
    few = few;
    chains = below_next (λ i. is_chain follows v (chain_at (set par m e) (set row m s) i) ≡ true) m
        (λ i l. rw (chain_frame par row m e s i l) (q.tree.chains i l)) (rw (chain_push par row m e s lp lr le) good);
    links = λ i p l. below_next (λ j. 0 < j → get_or (set par m e) j 0 < j) m
        (λ j k y. let ne : j ≢ m = omega arith in rw (get_or-set_other par m j e 0 ne) (q.tree.links j y k)) (λ y. rw (get_or-set_same par m e 0 lp) le) i l p;
  }

  -- the new entry's key alone
  key_new : Queue follows v D (set par m e) (set row m s) (key_of (D (s ∷ chain_at par row e)) m ∷ []) (m + 1)
  key_new =
      let z : entry_of (key_of (D (s ∷ chain_at par row e)) m) ≡ m = omega arith in
      record { tree = tree_push; keyed = (record { within = omega arith; is = rw (z, chain_push par row m e s lp lr le) }, tt); rising = (tt, tt) }

  -- an entry is queued at the end
  queue_push : Queue follows v D (set par m e) (set row m s) (keys ++ (key_of (D (s ∷ chain_at par row e)) m ∷ [])) (m + 1)
  queue_push = queue_join q key_new (λ i l. chain_frame par row m e s i l) (omega arith, tt) (omega arith)

  chains_push : queued_chains (set par m e) (set row m s) (keys ++ (key_of (D (s ∷ chain_at par row e)) m ∷ [])) ≡ queued_chains par row keys ++ ((s ∷ chain_at par row e) ∷ [])
  chains_push =
      let z : entry_of (key_of (D (s ∷ chain_at par row e)) m) ≡ m = omega arith in
      chains_join q key_new (λ i l. chain_frame par row m e s i l) (omega arith, tt) (omega arith) ∙ rw (z, chain_push par row m e s lp lr le)

module _ (follows : List ℕ → ℕ → Bool) where
  extensions_no : (s : ℕ) (c : List ℕ) → 0 < s → extends follows c (s - 1) ≡ false → extensions follows s c ≡ extensions follows (s - 1) c
  unfolding extensions
  extensions_no zero c p k = absurd (omega arith)
  extensions_no (suc s) c p k = let e : suc s - 1 ≡ s = omega arith in rw (e, rw e at k)

  extensions_yes : (s : ℕ) (c : List ℕ) → 0 < s → extends follows c (s - 1) ≡ true → extensions follows s c ≡ ((s - 1) ∷ c) ∷ extensions follows (s - 1) c
  unfolding extensions
  extensions_yes zero c p k = absurd (omega arith)
  extensions_yes (suc s) c p k = let e : suc s - 1 ≡ s = omega arith in rw (e, rw e at k)

  -- no row below the chain's end extends it
  extensions_none : (k : ℕ) (c : List ℕ) → k ≤ first_after c → extensions follows k c ≡ []
  unfolding extensions extends
  extensions_none zero c h = refl
  extensions_none (suc k) c h = rw (lt-leb (first_after c) k h) (extensions_none k c (omega arith))

-- the rows from s on are done: `added` extensions of entry e's chain stand behind the n entries, and their keys are put to the q
pub record Queueing (follows : List ℕ → ℕ → Bool) (v : ℕ) (D : List ℕ → ℕ) (n q e : ℕ) (par₀ row₀ keys₀ par row keys : List ℕ) (added s : ℕ) : Type 0 where
  pub most : added + s ≤ v
  pub kept : (i : ℕ) → i < n → chain_at par row i ≡ chain_at par₀ row₀ i
  pub new : List ℕ
  pub queue : Queue follows v D par row new (n + added)
  pub late : All (λ k. n ≤ entry_of k) new
  pub heap : Heap keys (q + added) (take q keys₀ ++ new)
  pub chains : queued_chains par row new ++ extensions follows s (chain_at par₀ row₀ e) ≡ extensions follows v (chain_at par₀ row₀ e)

pub queueing_begin : {follows : List ℕ → ℕ → Bool} {v : ℕ} {D : List ℕ → ℕ} {n q e : ℕ} {par row keys : List ℕ} → Tree follows v par row n → Ordered keys q → q ≤ length keys
    → Queueing follows v D n q e par row keys par row keys 0 v
queueing_begin {n = n} {q = q} {keys = keys} h o l =
    let a : n + 0 ≡ n = omega arith in
    let b : q + 0 ≡ q = omega arith in
    let z : take q keys ++ [] ≡ take q keys = append-nil (take q keys) in
    record {
      most = omega arith;
      kept = λ i l. refl;
      new = [];
      queue = rw a (record { tree = h; keyed = tt; rising = tt });
      late = tt;
      heap = rw (b, z) (record { order = o; many = length-take-le q keys l; same = λ x. refl });
      chains = refl;
    }

module _ {follows : List ℕ → ℕ → Bool} {v : ℕ} {D : List ℕ → ℕ} {n q e : ℕ} {par₀ row₀ keys₀ par row keys : List ℕ} {added s : ℕ}
    (h : Queueing follows v D n q e par₀ row₀ keys₀ par row keys added s) where
  pub queueing_skip : 0 < s → extends follows (chain_at par₀ row₀ e) (s - 1) ≡ false → Queueing follows v D n q e par₀ row₀ keys₀ par row keys added (s - 1)
  queueing_skip p k = record {
    most = omega (arith, h.most);
    kept = h.kept;
    new = h.new;
    queue = h.queue;
    late = h.late;
    heap = h.heap;
    chains = rw (← extensions_no follows s (chain_at par₀ row₀ e) p k) h.chains;
  }

  pub queueing_more : 0 < s → extends follows (chain_at par₀ row₀ e) (s - 1) ≡ true → e < n → n + added < length par → n + added < length row → q + added ≤ length keys → n + v ≤ 1048576
      → (k : ℕ) → k ≡ key_of (D ((s - 1) ∷ chain_at par₀ row₀ e)) (n + added) → {keys' : List ℕ} → Heap keys' (q + added + 1) (take (q + added) keys ++ (k ∷ []))
      → Queueing follows v D n q e par₀ row₀ keys₀ (set par (n + added) e) (set row (n + added) (s - 1)) keys' (added + 1) (s - 1)
  queueing_more p x le lp lr lk few k hk {keys'} put =
      let same : chain_at par row e ≡ chain_at par₀ row₀ e = h.kept e le in
      let good : is_chain follows v ((s - 1) ∷ chain_at par row e) ≡ true =
      rw same (chain_longer follows v (s - 1) (chain_at par₀ row₀ e) (rw same at (h.queue.tree.chains e (omega arith))) (omega (arith, h.most)) x) in
      let nm : n + (added + 1) ≡ n + added + 1 = omega arith in
      let qm : q + (added + 1) ≡ q + added + 1 = omega arith in
      let key : k ≡ key_of (D ((s - 1) ∷ chain_at par row e)) (n + added) = rw same hk in
      let heap : Heap keys' (q + added + 1) (take q keys₀ ++ (h.new ++ (k ∷ []))) = rw append_assoc at (heap_more h.heap lk (k ∷ []) put) in
      record {
        most = omega (arith, h.most);
        kept = λ i l. chain_frame par row (n + added) e (s - 1) i (omega arith) ∙ h.kept i l;
        new = h.new ++ (key_of (D ((s - 1) ∷ chain_at par row e)) (n + added) ∷ []);
        queue = rw nm (queue_push h.queue e (s - 1) lp lr (omega arith) (omega (arith, h.most)) good);
        late = all_append (λ j. n ≤ entry_of j) h.new (key_of (D ((s - 1) ∷ chain_at par row e)) (n + added) ∷ []) h.late (omega (arith, h.most), tt);
        heap = rw (qm, ← key) heap;
        chains = rw (
          chains_push h.queue e (s - 1) lp lr (omega arith) (omega (arith, h.most)) good,
          append_snoc,
          same,
          ← extensions_yes follows s (chain_at par₀ row₀ e) p x,
        ) h.chains;
      }

  -- none is left behind the chain's last row
  pub queueing_done : s ≤ first_after (chain_at par₀ row₀ e) → Queued follows v D par₀ row₀ keys₀ q n e par row keys added
  queueing_done z = record {
    most = omega (arith, h.most);
    kept = h.kept;
    new = h.new;
    queue = h.queue;
    late = h.late;
    heap = h.heap;
    chains = sym (append-nil _) ∙ (rw (extensions_none follows s (chain_at par₀ row₀ e) z) at h.chains);
  }
