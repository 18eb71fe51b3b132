-- The promise of each public function, said once: the function's `ensures` and `Unique` (crates/audit) cite it by name.
-- Its arguments are the function's own, in their order, what is lent by what it holds at entry; then what each `&mut` holds at exit; then the result r.
use Rattle.std.specs.Prelude.{ℕ, ◌≡◌, Bool, false, List, Float, length, Result}
use Rattle.metrics.specs.declared.refusals.Refusal.{Refusal}
use Rattle.metrics.specs.Refusals.{told}
use Rattle.params.specs.declared.Settings.{Settings}
use Rattle.params.specs.declared.Table.{Table}
use Rattle.params.specs.declared.Parts.{Parts}
use Rattle.params.specs.Held.{table_held, parts_held}
use Rattle.params.specs.Numbers.{Call, call_of}
use Rattle.params.specs.Several.{Several, several_fault}
use Rattle.kplib.specs.Graph.{capped_count}
use Rattle.kplib.specs.Answer.{answer_of, rows_of, queue_room, searches}
use Rattle.kplib.specs.Report.{report_of}
use Rattle.kplib.specs.Haplotypes.{rows_after, reports_after, several_searches}
use Rattle.kplib.specs.Proposal.{proposal_of, check_of}
use Rattle.metrics.specs.Placed.{placed}
use Rattle.kplib.specs.declared.traverse.Answer.{Answer}

abbrev pub CountChainsPromise : List ℕ → List ℕ → Bool → ℕ → Result ℕ Refusal → Type 0
CountChainsPromise starts ends full cap r = r ≡ capped_count starts ends full cap

-- the call that the settings and the lent slices make
abbrev pub call_lent : Settings → Table → Parts → List ℕ → List ℕ → List ℕ → Call
call_lent s table parts links keys rows = call_of s (table_held table) (parts_held parts) (queue_room links keys) (length rows)

-- a slice of the queue, which only a search may write
abbrev pub QueueKept : Call → List ℕ → List ℕ → Type 0
QueueKept c old new = searches c ≡ false → new ≡ old

abbrev pub ApplyHaplotypePromise : Settings → Table → Parts → List ℕ → List ℕ → List ℕ → List ℕ → List ℕ → List ℕ → Answer → Type 0
ApplyHaplotypePromise s table parts links keys rows links' keys' rows' r =
    let c = call_lent s table parts links keys rows in
    (r ≡ answer_of c)
    × ((rows' ≡ placed rows (rows_of c))
    × (QueueKept c links links'
    × QueueKept c keys keys'))

abbrev pub PutReportPromise : Answer → List ℕ → List ℕ → Type 0
PutReportPromise answer report report' = report' ≡ report_of answer

-- the call of several haplotypes that the settings and the lent slices make
abbrev pub several_lent : Settings → Table → List ℕ → List ℕ → Parts → List ℕ → List ℕ → List ℕ → List ℕ → Several
several_lent s table part_ends feature_ends parts links keys rows reports = record {
  settings = s;
  table = table_held table;
  parts = parts_held parts;
  part_ends = part_ends;
  feature_ends = feature_ends;
  queue_room = queue_room links keys;
  answer_room = length rows;
  report_room = length reports;
}

-- a slice of the queue, which only a search may write
abbrev pub SeveralQueueKept : Several → List ℕ → List ℕ → Type 0
SeveralQueueKept c old new = several_searches c ≡ false → new ≡ old

abbrev pub ApplyHaplotypesPromise : Settings → Table → List ℕ → List ℕ → Parts → List ℕ → List ℕ → List ℕ → List ℕ
    → List ℕ → List ℕ → List ℕ → List ℕ → Result Unit Refusal → Type 0
ApplyHaplotypesPromise s table part_ends feature_ends parts links keys rows reports links' keys' rows' reports' r =
    let c = several_lent s table part_ends feature_ends parts links keys rows reports in
    (told r ≡ several_fault c)
    × ((rows' ≡ rows_after c rows)
    × ((reports' ≡ reports_after c reports)
    × (SeveralQueueKept c links links'
    × SeveralQueueKept c keys keys')))

abbrev pub CheckPathPromise : Settings → Table → Parts → List ℕ → List ℕ → Float → Result Bool Refusal → Type 0
CheckPathPromise s table parts rows positions score r =
    r ≡ check_of s (table_held table) (parts_held parts) (proposal_of rows positions score)
