-- The test passes no row up to row r; a row lies inside the table because r is below n. Assumes nothing.
use Rattle.std.proofs.Common.{◌≡◌, ◌∙◌, refl, sym, ap, Bool, List, ℤ}
use Rattle.std.proofs.lemmas.Fn.{says_at}
use Rattle.params.specs.CheckSteps.{Tests}
use Rattle.params.specs.Numbers.{row_at}
use Rattle.params.proofs.CheckLaws.{any_none, any_more, any_here, any_end, row_cut}
use Rattle.params.proofs.checks.any_row.Goals.{After-test}
use Rattle.params.proofs.checks.any_row.Given.{Over}
use Rattle.params.proofs.checks.any_row.Goals as goal

-- the row that was asked is row r
asked : (g : Over) (c : After-test g) (passes : List ℤ → Bool) → Tests g.F.Fn c.args.test passes → passes (row_at c.args.e c.args.features.now c.loop-r.r) ≡ c.test.result
asked g c passes says =
    let cut = row_cut c.args.e c.args.n c.loop-r.r c.args.features.now c.requires.shaped c.loop-r-test.true in
    sym (says _ _ (says_at g.F.Fn c.test.ensures refl) ∙ ap passes cut)

pub loop-r-init : goal.loop-r-init
loop-r-init g c = λ passes says. any_none _

pub loop-r-preserved : goal.loop-r-preserved
loop-r-preserved g c = λ passes says.
    any_more _ _ (c.loop-r.invariant passes says) (asked g (goal.at.loop-r-preserved g c).After-test passes says ∙ c.if-test.false)

pub returns-then-test : goal.returns-then-test
returns-then-test g c = λ passes says.
    sym (any_here _ _ _ c.loop-r-test.true (asked g (goal.at.returns-then-test g c).After-test passes says ∙ c.if-test.true))

pub returns : goal.returns
returns g c = λ passes says.
    sym (any_end _ _ _ c.loop-r-test.false c.loop-r.auto.r-end (c.loop-r.invariant passes says))
