-- What is done and what is left come to the whole list; its words are a whole number of 28. Assumes nothing.
use Rattle.std.proofs.Common.{◌≡◌, sym, ◌+◌, ◌-◌, ◌*◌, rules, arith}
use Rattle.std.specs.Prelude.{Ok, Err}
use Rattle.meta.specs.Meta.{not_made, made_result, combined_two, joined_result}
use Rattle.meta.specs.Grouping.{all_in_words}
use Rattle.meta.proofs.WordListLaws.{begin, on, end, odd_length, no_list, refused_at_first, refused_at, whole_words, some_words, front_length, part_length}
use Rattle.meta.proofs.lists.combine_all.Goals as goal

pub returns-then-metas-ne0 : goal.returns-then-metas-ne0
returns-then-metas-ne0 c = rw c.into.ensures (odd_length _ c.if-metas-ne0.true)

pub returns-then-n-eq0 : goal.returns-then-n-eq0
returns-then-n-eq0 c = rw c.into-then-n-eq0.ensures (no_list _ c.if-metas-ne0.false c.if-n-eq0.true)

pub slice_bounds-meta_of_slice-end : goal.slice_bounds-meta_of_slice-end
slice_bounds-meta_of_slice-end c = sym (front_length c.args.metas.now c.if-n-eq0.false)

pub meta_of_slice-all-requires : goal.meta_of_slice-all-requires
meta_of_slice-all-requires c = front_length c.args.metas.now c.if-n-eq0.false

pub returns-in_err-count_fault : goal.returns-in_err-count_fault
returns-in_err-count_fault c =
    let h : Err (not_made c.in_err-count_fault.field-0.0) ≡ made_result (all_in_words c.args.metas.now) =
    refused_at_first _ c.if-metas-ne0.false _ c.if-n-eq0.false c.meta_of_slice-all.ensures c.in_err-count_fault.ensures in
    search (rules, h)

pub loop-i-init : goal.loop-i-init
loop-i-init c =
    let some = some_words _ c.if-n-eq0.false in
    (whole_words _, begin _ _ c.if-n-eq0.false c.meta_of_slice-all.ensures c.in_ok-count_fault.ensures)

pub meta_of_slice-requires : goal.meta_of_slice-requires
meta_of_slice-requires c =
    let l = c.loop-i in
    let w = c.args.metas.now in
    let h = l.invariant.0 in
    part_length w l.i (omega arith)

pub returns-in_err-all : goal.returns-in_err-all
returns-in_err-all c =
    let l = c.loop-i in
    let k : 28 * l.i + 28 - 28 * l.i ≡ 28 = omega arith in
    let m : Err c.in_err-all.field-0.0 ≡ joined_result (combined_two l.all c.meta_of_slice.result) = search rules in
    let h : Err (not_made c.in_err-all.field-0.0) ≡ made_result (all_in_words c.args.metas.now) =
    refused_at _ c.if-metas-ne0.false _ l.i _ l.all c.loop-i-test.true k c.meta_of_slice.ensures m l.invariant.1 in
    search (rules, h)

pub loop-i-preserved : goal.loop-i-preserved
loop-i-preserved c =
    let l = c.loop-i in
    let k : 28 * l.i + 28 - 28 * l.i ≡ 28 = omega arith in
    let m : Ok c.in_ok-all.all ≡ joined_result (combined_two l.all c.meta_of_slice.result) = search rules in
    (l.invariant.0, on _ _ _ _ l.all c.loop-i-test.true k c.meta_of_slice.ensures m l.invariant.1)

pub returns : goal.returns
returns c = end _ c.if-metas-ne0.false _ _ c.loop-i-test.false c.loop-i.invariant.1
