-- The edition asked for, the record numbers, `letters`, the rows, the room. The slice was read, so its bytes are bytes.
use native.Mathlib.Omega.{arith}
use mathlib.Core.Path.{◌≡◌, sym, ◌∙◌}
use mathlib.Core.Bool.{false}
use Rattle.form.specs.Job.{gather, number_here}
use Rattle.editions.specs.Moving.{off_row}
use Rattle.editions.specs.ThereAndBack.{AreBytes}
use Rattle.editions.proofs.FaultLaws.{down_long, down_edition, down_off, down_letters, down_rows, down_takes, down_little, down_none}
use Rattle.editions.proofs.down_fault.Goals.{After-shared_slice_known-2-1, Else-off_row}
use Rattle.editions.proofs.down_fault.Goals as goal

asked : (e : Else-off_row) → e.args.edition ≡ 1
asked e = e.if-edition-ne1.false

on_rows : (e : Else-off_row) → off_row 0 (gather number_here e.args.job.now 0) ≡ false
on_rows e = sym e.off_row.ensures ∙ e.if-off_row.false

bytes : (c : After-shared_slice_known-2-1) → AreBytes c.args.job.now
bytes c i = let h = c.shared_slice_known-2-1.given i in omega arith

pub returns-then-edition-ne1 : goal.returns-then-edition-ne1
returns-then-edition-ne1 c = down_edition _ _ _ c.requires.0 c.requires.1 c.if-edition-ne1.true

pub returns-then-off_row : goal.returns-then-off_row
returns-then-off_row c = down_off _ _ _ c.requires.0 c.requires.1 c.if-edition-ne1.false (sym c.off_row.ensures ∙ c.if-off_row.true)

pub bounds-job : goal.bounds-job
bounds-job c = let h = down_long c.args.job.now c.requires.0 c.requires.1 in omega arith

pub returns-then-job-eq1 : goal.returns-then-job-eq1
returns-then-job-eq1 c = down_letters _ _ _ c.requires.0 c.requires.1 (asked (goal.at.returns-then-job-eq1 c).Else-off_row) (on_rows (goal.at.returns-then-job-eq1 c).Else-off_row) c.if-job-eq1.true

pub returns-then-variants-gt-MOST_ROWS : goal.returns-then-variants-gt-MOST_ROWS
returns-then-variants-gt-MOST_ROWS c = down_rows _ _ _ c.requires.0 c.requires.1 (asked (goal.at.returns-then-variants-gt-MOST_ROWS c).Else-off_row)
    (on_rows (goal.at.returns-then-variants-gt-MOST_ROWS c).Else-off_row) c.if-job-eq1.false _ c.requires.2 c.if-variants-gt-MOST_ROWS.true

pub overflow_sub-job : goal.overflow_sub-job
overflow_sub-job c =
    let h = down_takes c.args.edition c.args.job.now 0 c.requires.0 c.requires.1 (asked (goal.at.overflow_sub-job c).Else-off_row) (on_rows (goal.at.overflow_sub-job c).Else-off_row)
    c.if-job-eq1.false c.args.variants c.requires.2 (bytes (goal.at.overflow_sub-job c).After-shared_slice_known-2-1) in
    omega arith

pub returns-then-room-job : goal.returns-then-room-job
returns-then-room-job c =
    down_little _ _ _ c.requires.0 c.requires.1 (asked (goal.at.returns-then-room-job c).Else-off_row) (on_rows (goal.at.returns-then-room-job c).Else-off_row) c.if-job-eq1.false _
    c.requires.2 (bytes (goal.at.returns-then-room-job c).After-shared_slice_known-2-1) c.if-room-job.true

pub returns : goal.returns
returns c =
    down_none _ _ _ c.requires.0 c.requires.1 (asked (goal.at.returns c).Else-off_row) (on_rows (goal.at.returns c).Else-off_row) c.if-job-eq1.false _ c.requires.2
    (bytes (goal.at.returns c).After-shared_slice_known-2-1) c.if-variants-gt-MOST_ROWS.false c.if-room-job.false
