-- An accepted job gives a search what it asks; and what the steps end with, told the flags, the width and the part lists as they lie, is document 01's
-- answer for the table and the haplotype. Assumes nothing.
use mathlib.Core.Path.{◌≡◌, refl, ap, ◌∙◌}
use Prim.Native.Nat.{ℕ, ◌^◌, ◌≤◌}
use native.Mathlib.Omega.{arith}
use mathlib.Core.Bool.{Bool}
use mathlib.Core.List.{List, [], reverse}
use lib.IntN.{ℤ, nat_abs}
use lib.ListN.{length, take}
use Rattle.paths.specs.Demand.{scored_chains}
use Rattle.paths.specs.Queue.{Ended}
use Rattle.paths.proofs.PickLaws.{all_from}
use Rattle.paths.proofs.QueueLaws.{map_same}
use Rattle.params.specs.Checked.{Sized}
use Rattle.params.specs.Numbers.{Table, Parts}
use Rattle.kplib.specs.Parts.{whole_of}
use Rattle.kplib.specs.Sums.{total_of}
use Rattle.kplib.specs.Score.{total_score, chain_score}
use Rattle.kplib.specs.Told.{told_of}
use Rattle.kplib.specs.Scoring.{LaidDown}
use Rattle.kplib.specs.Graph.{edge}
use Rattle.kplib.specs.GraphWalk.{Together}
use Rattle.kplib.specs.Search.{haplotype_size, result_with, result_of}
use Rattle.kplib.specs.SearchSteps.{score_told, result_told, Searchable, Startable, Gone, Searched}
use Rattle.params.specs.declared.Settings.{Settings}
use Rattle.kplib.specs.declared.pathscore.Scored.{Scored}
use Rattle.kplib.specs.declared.plan.Plan.{Plan}
use Rattle.kplib.specs.declared.steps.Progress.{Progress}
use Rattle.kplib.proofs.CodeLaws.{positions_length}
use Rattle.kplib.proofs.SizeSumLaws.{size_le}
use Rattle.kplib.proofs.CodedLaws.{coded_down, coded_score_lem}
use Rattle.kplib.proofs.TogetherLaws.{ended_in}

pub haplotype_small : (sizes : List ℤ) → Sized sizes → nat_abs (haplotype_size sizes) ≤ 8388608
haplotype_small sizes h = size_le sizes (whole_of (length sizes)) h (omega (arith, positions_length 0 (length sizes), h.few))

-- scores that agree on every chain have one best
ended_alike : {R : Type 0} {le : R → R → Bool} {start : R} {f g : List ℕ → R} {follows : List ℕ → ℕ → Bool} {v : ℕ} {D : List ℕ → ℕ} {steps k : ℕ} {b : R} {complete : Bool}
    → ((c : List ℕ) → f c ≡ g c) → Ended le start f follows v D steps k b complete → Ended le start g follows v D steps k b complete
ended_alike {f = f} {g = g} {follows = follows} {v = v} {D = D} {steps = steps} same e =
    let l = scored_chains follows v D steps in
    let any = all_from (λ (c : List ℕ). Unit {0}) [] l (λ i h. tt) in
    record { best_is = rw (map_same f g (λ (c : List ℕ). Unit {0}) (λ c u. same c) l any) at e.best_is; count_is = e.count_is; complete_is = e.complete_is }

-- the plan of a job
pub plan_is : (s : Settings) (sizes : List ℤ) {width : ℕ} {target : ℤ} → width ≡ 4 ^ s.k → target ≡ haplotype_size sizes
    → ◌≡◌ {A = Plan} (record { s = s; width = width; m = length sizes; target = target }) (record { s = s; width = 4 ^ s.k; m = length sizes; target = haplotype_size sizes })
plan_is s sizes w t = rw (w, t)

-- what the steps are told of it
module _ {s : Settings} {t : Table} {p : Parts} {plan : Plan} {codes : List ℕ} {list_sizes : List ℤ} {count linkRoom keyRoom : ℕ} (h : Startable s t p linkRoom keyRoom)
    (is : plan ≡ record { s = s; width = 4 ^ s.k; m = length p.sizes; target = haplotype_size p.sizes }) (d : LaidDown s p.sizes codes list_sizes count) where
  pub searchable_first : (together : List Bool) {lr kr room : ℕ} → lr ≡ linkRoom → kr ≡ keyRoom → room ≡ plan.width
      → Searchable (told_of plan together t.sizes t.features p.features (take count codes) (take count list_sizes)) lr kr room
  searchable_first together l k r = rw is (record {
    planned = record { minkfreq = h.checked.minkfreq; width_is = refl; few = h.checked.part_sized.few };
    target_small = haplotype_small p.sizes h.checked.part_sized;
    maxpaths = h.checked.maxpaths;
    sized = h.checked.sized;
    rows = h.checked.rows;
    part_rows = h.checked.part_rows;
    coded = coded_down h.checked.part_sized d;
    link_room = rw (h.checked.sizes_are, l) h.link_room;
    key_room = rw (h.checked.sizes_are, k) h.key_room;
    scratch_is = rw is at r;
  })

  width_is : plan.width ≡ 4 ^ s.k
  width_is = ap (λ (x : Plan). x.width) is

  result_same : (together : List Bool) (c : List ℕ) → result_told (told_of plan together t.sizes t.features p.features (take count codes) (take count list_sizes)) c ≡ result_of s t p c
  unfolding result_told result_of score_told chain_score
  result_same together c =
      ap (λ (x : Scored). result_with (reverse c) x)
      (coded_score_lem plan p (ap (λ (x : Plan). x.s) is) (ap (λ (x : Plan). x.m) is) width_is d (total_of plan.width t.sizes t.features (reverse c))
      ∙ ap (λ (w : ℕ). total_score s p (total_of w t.sizes t.features (reverse c))) width_is)

  pub searched_as : {together : List Bool} {links : List ℕ} {at : Progress} → Together (edge t.starts t.ends) (length t.starts) together
      → Gone (told_of plan together t.sizes t.features p.features (take count codes) (take count list_sizes)) links at → Searched s t p links at
  searched_as {together} {links} {at} g f =
      let e = ended_alike (result_same together) f.ended in
      let r = f.read in
      record {
        read = record { walk = r.walk; short = omega (arith, r.short, h.checked.sizes_are); few = r.few };
        ended = ended_in t.starts t.ends together g s.full (rw (is, h.checked.sizes_are) at e);
      }
