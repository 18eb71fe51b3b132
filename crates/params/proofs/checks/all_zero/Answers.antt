-- What is left from the entry at hand on decides the row: an entry that is not 0 ends it, one that is leaves it to the rest, and at the end
-- nothing is left. Assumes nothing.
use Rattle.std.proofs.Common.{rules, tests, ◌≡◌, ◌+◌, ◌<◌, ◌&&◌, List, ℤ, ℕ, pos, true, false, length, drop, get_or, refl, sym, ◌∙◌}
use Rattle.std.proofs.lemmas.List.{at_drop_more, at_drop_all}
use Rattle.params.specs.Numbers.{all_zero, is_zero}
use Rattle.params.proofs.checks.all_zero.Goals as goal

step : (row : List ℤ) (i : ℕ) → i < length row → all_zero (drop i row) ≡ (is_zero (get_or row i (pos 0)) && all_zero (drop (i + 1) row))
unfolding all_zero
step row i h = at_drop_more all_zero row i (pos 0) h

pub loop-entry-init : goal.loop-entry-init
loop-entry-init c = refl

pub returns-then-entry-ne0 : goal.returns-then-entry-ne0
returns-then-entry-ne0 c =
    let row = c.args.row.now in
    let i = c.loop-entry.entry-index in
    let here : is_zero (get_or row i (pos 0)) ≡ false = search (rules, tests) in
    sym (rw here at (step row i c.loop-entry-test.true)) ∙ c.loop-entry.invariant

pub loop-entry-preserved : goal.loop-entry-preserved
loop-entry-preserved c =
    let row = c.args.row.now in
    let i = c.loop-entry.entry-index in
    let here : is_zero (get_or row i (pos 0)) ≡ true = search (rules, tests) in
    sym (rw here at (step row i c.loop-entry-test.true)) ∙ c.loop-entry.invariant

pub returns : goal.returns
unfolding all_zero
returns c = sym (at_drop_all all_zero c.args.row.now c.loop-entry.entry-index c.loop-entry-test.false) ∙ c.loop-entry.invariant
