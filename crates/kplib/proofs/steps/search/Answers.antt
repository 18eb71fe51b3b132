-- The part lists laid down, the haplotype's size, the flags of all pairs and the empty chain's key are what a search begins with; what it ends with is document 01's answer.
use mathlib.Core.Path.{◌≡◌, refl, sym, ◌∙◌}
use Prim.Native.Nat.{◌^◌, ◌≤◌}
use native.Mathlib.Omega.{arith}
use lib.ListN.{length, length-set}
use lib.Seq.{length-take-le}
use mir.Syntax.{w32}
use mir.Val.{to_z, of_z}
use Rattle.metrics.proofs.Ints.{read_back}
use Rattle.kplib.specs.Search.{haplotype_size}
use Rattle.kplib.specs.declared.plan.Plan.{Plan}
use Rattle.kplib.proofs.StepLaws.{going_first}
use Rattle.kplib.proofs.TogetherLaws.{all_set}
use Rattle.kplib.proofs.SearchedLaws.{haplotype_small, plan_is, searchable_first, searched_as}
use Rattle.metrics.proofs.Entries.{power}
use Rattle.kplib.proofs.steps.search.Goals.{After-whole_size-target}
use Rattle.kplib.proofs.steps.search.Goals as goal

-- the plan's width and target
width_is : (c : After-whole_size-target) → c.entries-width.result ≡ 4 ^ c.args.s.k
width_is c = c.entries-width.ensures ∙ power _ c.requires.checked.k_high

width_few : (c : After-whole_size-target) → c.entries-width.result ≤ 4096
width_few c = omega (arith, width_is c, c.requires.checked.rows.short)

target_is : (c : After-whole_size-target) → to_z w32 (of_z w32 c.whole_size-target.result) ≡ haplotype_size c.args.parts.now.sizes.now
target_is c = read_back _ c.whole_size-target.type_inv ∙ c.whole_size-target.ensures

planned : (c : After-whole_size-target) → ◌≡◌ {A = Plan} (record {
  s = c.args.s;
  width = c.entries-width.result;
  m = length c.args.parts.now.sizes.now;
  target = to_z w32
      (of_z w32 c.whole_size-target.result);
}) (record { s = c.args.s; width = 4 ^ c.args.s.k; m = length c.args.parts.now.sizes.now; target = haplotype_size c.args.parts.now.sizes.now })
planned c = plan_is c.args.s c.args.parts.now.sizes.now (width_is c) (target_is c)

pub lay_pairs-requires : goal.lay_pairs-requires
lay_pairs-requires c = (c.requires.checked.ends_are, omega (arith, c.requires.checked.sizes_are, c.requires.checked.rows.few), c.requires.rising, all_set)

pub key-requires : goal.key-requires
key-requires c =
    (omega arith, rw (target_is (goal.at.key-requires c).After-whole_size-target) (haplotype_small _ c.requires.checked.part_sized), omega arith)

pub slice_bounds-scratch-end : goal.slice_bounds-scratch-end
slice_bounds-scratch-end c = omega (arith, width_few (goal.at.slice_bounds-scratch-end c).After-whole_size-target)

pub slice_bounds-run-end : goal.slice_bounds-run-end
slice_bounds-run-end c = sym (length-take-le _ _ (omega (arith, width_few (goal.at.slice_bounds-run-end c).After-whole_size-target)))

pub run-requires : goal.run-requires
run-requires c = (
  searchable_first c.requires (planned (goal.at.run-requires c).After-whole_size-target) c.lay_lists-count.ensures _ refl (simp length-set refl)
      (length-take-le _ _ (omega (arith, width_few (goal.at.run-requires c).After-whole_size-target))),
  going_first _ _ c.args.keys.now (omega (arith, c.requires.key_room)) c.key.ensures c.not_begun.ensures,
)

pub returns : goal.returns
returns c =
    searched_as c.requires (planned (goal.at.returns c).After-whole_size-target) c.lay_lists-count.ensures c.lay_pairs.ensures c.run.ensures
