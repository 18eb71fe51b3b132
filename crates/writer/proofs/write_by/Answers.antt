-- Where there is no fault, the lengths agree; what is left over of the room is never negative, so the job fits.
use Rattle.std.proofs.Common.{sym, ◌∙◌, rules}
use lib.ListN.{length}
use Rattle.std.specs.Prelude.{Err}
use Rattle.writer.specs.Promises.{WrittenBy}
use Rattle.writer.specs.Steps.{JobFits, held}
use Rattle.writer.proofs.JobLaws.{sound, write_fault_lem, write_short, write_fits, wrote}
use Rattle.writer.proofs.write_by.Goals.{In-Some}
use Rattle.writer.proofs.write_by.Goals as goal

-- the job fits
fits : (c : In-Some) → let a = c.args in JobFits a.edition a.numbers.now a.settings (held a.job.now) (length a.out.now)
fits c = write_fits _ _ _ _ c.args.out.now c.in_ok-writing_fault.ensures (sym c.in-Some.is ∙ c.spare-room.ensures)

pub returns-in_err-writing_fault : goal.returns-in_err-writing_fault
returns-in_err-writing_fault c =
    let a = c.args in
    let h : WrittenBy a.edition a.numbers.now a.settings (held a.job.now) a.out.now a.out.now (Err c.in_err-writing_fault.field-0.0) =
    write_fault_lem _ _ _ _ a.out.now _ c.in_err-writing_fault.ensures in
    search (rules, h)

pub spare-room-requires : goal.spare-room-requires
spare-room-requires c = (sound _ _ _ _ (sym c.in_ok-writing_fault.ensures)).within

pub lay_job-requires : goal.lay_job-requires
lay_job-requires c = fits (goal.at.lay_job-requires c).In-Some

pub returns-in-None : goal.returns-in-None
returns-in-None c = write_short _ _ _ _ c.args.out.now c.in_ok-writing_fault.ensures (sym c.in-None.is ∙ c.spare-room.ensures)

pub returns-in-Some : goal.returns-in-Some
returns-in-Some c = wrote _ _ _ _ c.args.out.now c.in_ok-writing_fault.ensures (fits (goal.at.returns-in-Some c).In-Some) c.lay_job.ensures
