-- What the functions behind the search ask and promise one another. No public promise cites this file.
use Rattle.std.specs.Prelude.{ℕ, zero, suc, ◌+◌, ◌-◌, ◌*◌, ◌/◌, ◌%◌, ◌≤◌, ◌<◌, ◌≡◌, Bool, true, false, cond, List, map, reverse, eqb, Float, ℤ, nat_abs, length}
use Rattle.std.specs.Float.Ieee.{le}
use Rattle.paths.specs.Count.{may_follow}
use Rattle.paths.specs.Heap.{Ordered, Heap}
use Rattle.paths.specs.Queue.{chain_at, Walk, Tree, Running, Ended}
use Rattle.params.specs.Checked.{Flat, Sized, Checked}
use Rattle.params.specs.Numbers.{Table, Parts, falling_start}
use Rattle.kplib.specs.Sums.{size_of, features_of, total_of}
use Rattle.kplib.specs.Score.{start}
use Rattle.kplib.specs.Told.{Told}
use Rattle.kplib.specs.Scoring.{AllBelow, Planned, Coded, coded_score, StandsFor}
use Rattle.kplib.specs.GraphWalk.{flag_of}
use Rattle.kplib.specs.Search.{Result, distance_to, result_with, start_result, no_lower, follows_in, distance_in, result_of}
use Rattle.params.specs.declared.Settings.{Settings}
use Rattle.kplib.specs.declared.pathscore.Scored.{Scored}
use Rattle.kplib.specs.declared.pathscore.Target.{Target}
use Rattle.kplib.specs.declared.pathscore.Target.TheVariants.{Nothing, Whole, Partial}
use Rattle.kplib.specs.declared.traverse.Answer.{Answer}
use Rattle.kplib.specs.declared.steps.Leader.{Leader}
use Rattle.kplib.specs.declared.steps.Weighed.{Weighed}
use Rattle.kplib.specs.declared.steps.Progress.{Progress}
use Rattle.kplib.specs.declared.plan.Plan.{Plan}

-- the fields of an answer
abbrev pub answer_parts : ℕ → ℕ → Scored → ℕ → Bool → Answer
answer_parts refusal rows x count complete = record {
  refusal = refusal;
  rows = rows;
  target = x.target;
  score = x.score;
  sizesim = x.sizesim;
  seqsim = x.seqsim;
  scored = count;
  complete = complete;
}

-- a later equal result replaces an earlier one
abbrev pub later_of : Leader → Leader → Leader
later_of a b = cond (le a.scored.score b.scored.score) b a

-- one chain more is scored, its key is gone, and `added` entries are queued
abbrev pub advanced : Progress → ℕ → Scored → ℕ → Progress
advanced at e x added = record {
  used = at.used + added;
  queued = at.queued - 1 + added;
  count = at.count + 1;
  best = later_of at.best (record { entry = e; scored = x });
}

-- some part list matched
abbrev pub matched_by : Target → Bool
matched_by Nothing = false
matched_by Whole = true
matched_by (Partial n) = true

-- the node at which an entry's chain ends, by the entry's number and last row
abbrev pub end_at : ℕ → ℕ → ℕ
end_at zero r = 0
end_at (suc e) r = r + 1

-- rows of a table whose sizes are to be summed
pub record Rowed (sizes : List ℤ) (rows : List ℕ) : Type 0 where
  pub sized : Sized sizes
  pub within : AllBelow (length sizes) rows
  pub most : length rows ≤ 64

-- ---- the queue's links

-- a link is parent x 64 + row
abbrev pub parents_of : List ℕ → List ℕ
parents_of links = map (λ l. l / 64) links

abbrev pub lasts_of : List ℕ → List ℕ
lasts_of links = map (λ l. l % 64) links

-- the chain of entry e, last row first
abbrev pub chain_of : List ℕ → ℕ → List ℕ
chain_of links e = chain_at (parents_of links) (lasts_of links) e

-- ---- what the steps are told

-- the graph's rule by the flags, the distance to the target, and a chain's score and result by the lists as they lie
abbrev pub follows_by : Plan → List Bool → List ℕ → ℕ → Bool
follows_by plan together = may_follow (flag_of together) plan.s.full

module _ (q : Told) where
  abbrev pub follows_told : List ℕ → ℕ → Bool
  follows_told = follows_by q.plan q.together

  abbrev pub distance_told : List ℕ → ℕ
  distance_told = distance_to q.sizes q.plan.target

  unfoldable pub score_told : List ℕ → Scored
  unfolding coded_score size_of features_of
  score_told rows = coded_score q.plan q.part_features q.codes q.list_sizes (total_of q.plan.width q.sizes q.features rows)

  unfoldable pub result_told : List ℕ → Result
  result_told c = result_with (reverse c) (score_told (reverse c))

-- an entry whose extensions are to be queued
pub record Extending (q : Told) (links keys : List ℕ) (used queued entry : ℕ) (size : ℤ) : Type 0 where
  pub link_room : used + length q.sizes ≤ length links
  pub key_room : queued + length q.sizes ≤ length keys
  pub few_entries : used + length q.sizes ≤ 1048576
  pub sized : Sized q.sizes
  pub target_small : nat_abs q.plan.target ≤ 8388608
  pub entry_in : entry < used
  pub size_is : size ≡ size_of q.sizes (reverse (chain_of links entry))
  pub tree : Tree (follows_told q) (length q.sizes) (parents_of links) (lasts_of links) used
  pub walk : Walk (parents_of links) (lasts_of links) entry 64
  pub order : Ordered keys queued

-- an entry whose chain is to be scored
pub record Weighable (q : Told) (links : List ℕ) (entry : ℕ) (scratch : List ℤ) : Type 0 where
  pub planned : Planned q.plan
  pub sized : Sized q.sizes
  pub rows : Flat (length q.sizes) q.plan.width q.features
  pub part_rows : Flat q.plan.m q.plan.width q.part_features
  pub coded : Coded q.plan.m q.codes q.list_sizes
  pub walk : Walk (parents_of links) (lasts_of links) entry 64
  pub within : AllBelow (length q.sizes) (reverse (chain_of links entry))
  pub most : length (reverse (chain_of links entry)) ≤ 64
  pub scratch_is : length scratch ≡ q.plan.width

pub record WeighedAs (q : Told) (rows : List ℕ) (floor : Float) (r : Weighed) : Type 0 where
  pub size_is : r.size ≡ size_of q.sizes rows
  pub stands : StandsFor floor (score_told q rows) r.scored

-- what does not change in a search
pub record Searchable (q : Told) (linkRoom keyRoom scratchRoom : ℕ) : Type 0 where
  pub planned : Planned q.plan
  pub target_small : nat_abs q.plan.target ≤ 8388608
  pub maxpaths : q.plan.s.maxpaths ≤ 4095
  pub sized : Sized q.sizes
  pub rows : Flat (length q.sizes) q.plan.width q.features
  pub part_rows : Flat q.plan.m q.plan.width q.part_features
  pub coded : Coded q.plan.m q.codes q.list_sizes
  pub link_room : 1 + (q.plan.s.maxpaths + 1) * length q.sizes ≤ linkRoom
  pub key_room : 1 + (q.plan.s.maxpaths + 1) * length q.sizes ≤ keyRoom
  pub scratch_is : scratchRoom ≡ q.plan.width

-- before the first step: the empty chain is queued
abbrev pub not_begun : Progress
not_begun = record { used = 1; queued = 1; count = 0; best = record { entry = 0; scored = start } }

-- the result of the best chain so far
abbrev pub best_at : List ℕ → Progress → Result
best_at links at = result_with (reverse (chain_of links at.best.entry)) at.best.scored

-- where a search stands: `waiting` is the queued keys in the order of queueing
pub record Going (q : Told) (links keys : List ℕ) (at : Progress) : Type 0 where
  pub best_in : at.best.entry < at.used
  pub queued_in : at.queued ≤ length keys
  pub waiting : List ℕ
  pub heap : Heap keys at.queued waiting
  pub run : Running no_lower start_result (result_told q) (follows_told q) (length q.sizes) (distance_told q) (q.plan.s.maxpaths + 1) (parents_of links) (lasts_of links) waiting
      at.used at.count (best_at links at)

-- the chain of the best can be read back
pub record BestRead (v : ℕ) (links : List ℕ) (at : Progress) : Type 0 where
  pub walk : Walk (parents_of links) (lasts_of links) at.best.entry 64
  pub short : length (chain_of links at.best.entry) ≤ v
  pub few : at.count ≤ 4096

-- where it ends
pub record Gone (q : Told) (links : List ℕ) (at : Progress) : Type 0 where
  pub read : BestRead (length q.sizes) links at
  pub ended : Ended no_lower start_result (result_told q) (follows_told q) (length q.sizes) (distance_told q) (q.plan.s.maxpaths + 1) at.count (best_at links at) (eqb at.queued 0)

-- what a search is begun with
pub record Startable (s : Settings) (t : Table) (p : Parts) (linkRoom keyRoom : ℕ) : Type 0 where
  pub checked : Checked s t p
  pub rising : falling_start t.starts ≡ false
  pub link_room : 1 + (s.maxpaths + 1) * length t.starts ≤ linkRoom
  pub key_room : 1 + (s.maxpaths + 1) * length t.starts ≤ keyRoom

-- and what it ends with, in document 01's words
pub record Searched (s : Settings) (t : Table) (p : Parts) (links : List ℕ) (at : Progress) : Type 0 where
  pub read : BestRead (length t.starts) links at
  pub ended : Ended no_lower start_result (result_of s t p) (follows_in s t p) (length t.starts) (distance_in s t p) (s.maxpaths + 1) at.count (best_at links at) (eqb at.queued 0)
