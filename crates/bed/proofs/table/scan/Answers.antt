-- The rules and the rows from here on are those of the whole (TableLaws).
use Prim.Native.Nat.{◌-◌}
use mathlib.Core.Path.{sym, ◌∙◌}
use lib.ListN.{length, take, drop}
use lib.Seq.{length-take-le}
use Rattle.bed.proofs.PartLaws.{first_within}
use Rattle.bed.proofs.LineLaws.{judged_as, same_pointwise}
use Rattle.bed.proofs.RowLaws.{not_true, not_false}
use Rattle.bed.proofs.TableLaws.{begun, over_64, line_is, length_is, bad_line_lem, names_told, second_name_lem, went_on, ended}
use native.Mathlib.Omega.{arith}
use Rattle.std.proofs.Common.{Some, None}
use Rattle.bed.proofs.table.scan.Goals as goal

pub loop-at-init : goal.loop-at-init
loop-at-init c =
    begun c.args.text.now c.args.s.now c.args.e.now c.requires.0 c.requires.1

pub returns-then-rows-ge64 : goal.returns-then-rows-ge64
returns-then-rows-ge64 c =
    let l = c.loop-at in
    let a = c.args in
    over_64 a.text.now l.s l.e l.at l.rows l.invariant c.loop-at-test.true c.if-rows-ge64.true

pub slice_bounds-line-end : goal.slice_bounds-line-end
slice_bounds-line-end c =
    let l = c.loop-at in
    let a = c.args in
    let t = c.loop-at-test.true in
    let n = c.line_len-n.ensures in
    let rest = take (length a.text.now - l.at) (drop l.at a.text.now) in
    let w = first_within rest in
    sym (length-take-le _ rest (omega arith))

pub returns-in_default : goal.returns-in_default
returns-in_default c =
    let l = c.loop-at in
    let a = c.args in
    let t = c.loop-at-test.true in
    let n = c.line_len-n.ensures in
    let line = line_is a.text.now l.s l.e l.at l.rows l.invariant t n in
    let few = c.if-rows-ge64.false in
    let bad = judged_as None line c.in_default.ensures in
    bad_line_lem a.text.now l.s l.e l.at l.rows l.invariant t few bad

pub returns-then-ne : goal.returns-then-ne
returns-then-ne c =
    let l = c.loop-at in
    let a = c.args in
    let t = c.loop-at-test.true in
    let n = c.line_len-n.ensures in
    let line = line_is a.text.now l.s l.e l.at l.rows l.invariant t n in
    let few = c.if-rows-ge64.false in
    let j = judged_as (Some c.in-Some.bounds) line c.in-Some.ensures in
    let good = j.0 in
    let names = names_told _ a.text.now c.first.ensures line c.first-in-loop-at.ensures (same_pointwise _ _) in
    second_name_lem a.text.now l.s l.e l.at l.rows l.invariant t few good (sym names ∙ not_true (sym c.ne.ensures ∙ c.if-ne.true))

pub overflow_add-at : goal.overflow_add-at
overflow_add-at c =
    let l = c.loop-at in
    let a = c.args in
    let t = c.loop-at-test.true in
    let n = c.line_len-n.ensures in
    let long = length_is a.text.now l.s l.e l.at l.rows l.invariant t n in
    omega arith

pub loop-at-smaller : goal.loop-at-smaller
loop-at-smaller c =
    let l = c.loop-at in
    let a = c.args in
    let t = c.loop-at-test.true in
    let n = c.line_len-n.ensures in
    let long = length_is a.text.now l.s l.e l.at l.rows l.invariant t n in
    omega arith

pub loop-at-preserved : goal.loop-at-preserved
loop-at-preserved c =
    let l = c.loop-at in
    let a = c.args in
    let t = c.loop-at-test.true in
    let n = c.line_len-n.ensures in
    let line = line_is a.text.now l.s l.e l.at l.rows l.invariant t n in
    let few = c.if-rows-ge64.false in
    let j = judged_as (Some c.in-Some.bounds) line c.in-Some.ensures in
    let good = j.0 in
    let names = names_told _ a.text.now c.first.ensures line c.first-in-loop-at.ensures (same_pointwise _ _) in
    let long = length_is a.text.now l.s l.e l.at l.rows l.invariant t n in
    went_on a.text.now l.s l.e l.at l.rows l.invariant t few good (sym names ∙ not_false (sym c.ne.ensures ∙ c.if-ne.false)) j.1.0 j.1.1 long.0

pub returns : goal.returns
returns c =
    let l = c.loop-at in
    let a = c.args in
    ended a.text.now l.s l.e l.at l.rows l.invariant c.loop-at-test.false
