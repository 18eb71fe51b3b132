-- The promise of each public function, said once: the function's `ensures` and `Unique` (crates/audit) cite it by name.
-- Its arguments are the function's own, in their order, what is lent by what it holds at entry; then what each `&mut` holds at exit; then the result r.
use Rattle.std.specs.Prelude.{ℕ, ◌≡◌, false, List, length, Result}
use Rattle.metrics.specs.declared.refusals.Refusal.{Refusal}
use Rattle.metrics.specs.Refusals.{told}
use Rattle.params.specs.declared.Settings.{Settings}
use Rattle.params.specs.declared.Table.{Table}
use Rattle.params.specs.declared.Parts.{Parts}
use Rattle.params.specs.Held.{table_held, parts_held}
use Rattle.params.specs.Numbers.{call_of}
use Rattle.metrics.specs.Placed.{placed}
use Rattle.kplib.specs.Promises.{call_lent, several_lent}
use Rattle.kplib.specs.declared.traverse.Answer.{Answer}
use Rattle.meta.specs.declared.HaplotypeMeta.{HaplotypeMeta}
use Rattle.dive.specs.declared.told.Told.{Told}
use Rattle.dive.specs.declared.told.ToldSeveral.{ToldSeveral}
use Rattle.dive.specs.Carried.{told_of, ToldSeveralOf}
use Rattle.dive.specs.NumberedSeveral.{NumberedSeveral, numbered_several_fault, numbered_rows_after, records_after, numbered_reports_after, numbered_several_searches}
use Rattle.dive.specs.Numbered.{Numbered, numbered_fault, numbered_answer, numbered_rows, records_of, numbered_searches}

abbrev pub NumberedFaultPromise : Settings → Table → List ℕ → Parts → ℕ → ℕ → ℕ → Result Unit Refusal → Type 0
NumberedFaultPromise s table numbers parts queue_room answer_room record_room r =
    told r ≡ numbered_fault (record {
      call = call_of s (table_held table) (parts_held parts) queue_room answer_room;
      numbers = numbers;
      record_room = record_room;
    })

-- the call that the settings and the lent slices make, with its record numbers
abbrev pub numbered_lent : Settings → Table → List ℕ → Parts → List ℕ → List ℕ → List ℕ → List ℕ → Numbered
numbered_lent s table numbers parts links keys rows records =
    record { call = call_lent s table parts links keys rows; numbers = numbers; record_room = length records }

-- a slice of the queue, which only a search may write
abbrev pub NumberedQueueKept : Numbered → List ℕ → List ℕ → Type 0
NumberedQueueKept n old new = numbered_searches n ≡ false → new ≡ old

abbrev pub ApplyNumberedPromise : Settings → Table → List ℕ → Parts → List ℕ → List ℕ → List ℕ → List ℕ
    → List ℕ → List ℕ → List ℕ → List ℕ → Answer → Type 0
ApplyNumberedPromise s table numbers parts links keys rows records links' keys' rows' records' r =
    let n = numbered_lent s table numbers parts links keys rows records in
    (r ≡ numbered_answer n)
    × ((rows' ≡ placed rows (numbered_rows n))
    × ((records' ≡ placed records (records_of n))
    × (NumberedQueueKept n links links'
    × NumberedQueueKept n keys keys')))

-- the call of several haplotypes that the settings and the lent slices make, with its record numbers
abbrev pub numbered_several_lent : Settings → Table → List ℕ → List ℕ → List ℕ → Parts → List ℕ → List ℕ → List ℕ → List ℕ → List ℕ → NumberedSeveral
numbered_several_lent s table numbers part_ends feature_ends parts links keys rows records reports = record {
  several = several_lent s table part_ends feature_ends parts links keys rows reports;
  numbers = numbers;
  record_room = length records;
}

-- a slice of the queue, which only a search may write
abbrev pub NumberedSeveralQueueKept : NumberedSeveral → List ℕ → List ℕ → Type 0
NumberedSeveralQueueKept n old new = numbered_several_searches n ≡ false → new ≡ old

abbrev pub ApplyNumberedHaplotypesPromise : Settings → Table → List ℕ → List ℕ → List ℕ → Parts
    → List ℕ → List ℕ → List ℕ → List ℕ → List ℕ → List ℕ → List ℕ → List ℕ → List ℕ → List ℕ → Result Unit Refusal → Type 0
ApplyNumberedHaplotypesPromise s table numbers part_ends feature_ends parts links keys rows records reports links' keys' rows' records' reports' r =
    let n = numbered_several_lent s table numbers part_ends feature_ends parts links keys rows records reports in
    (told r ≡ numbered_several_fault n)
    × ((rows' ≡ numbered_rows_after n rows)
    × ((records' ≡ records_after n records)
    × ((reports' ≡ numbered_reports_after n reports)
    × (NumberedSeveralQueueKept n links links'
    × NumberedSeveralQueueKept n keys keys'))))

abbrev pub ApplyWithMetaPromise : Settings → Table → List ℕ → Parts → HaplotypeMeta → List ℕ → List ℕ → List ℕ → List ℕ
    → List ℕ → List ℕ → List ℕ → List ℕ → Told → Type 0
ApplyWithMetaPromise s table numbers parts meta links keys rows records links' keys' rows' records' r =
    let n = numbered_lent s table numbers parts links keys rows records in
    (r ≡ told_of n meta)
    × ((rows' ≡ placed rows (numbered_rows n))
    × ((records' ≡ placed records (records_of n))
    × (NumberedQueueKept n links links'
    × NumberedQueueKept n keys keys')))

abbrev pub ApplyHaplotypesWithMetaPromise : Settings → Table → List ℕ → List ℕ → List ℕ → Parts → List HaplotypeMeta
    → List ℕ → List ℕ → List ℕ → List ℕ → List ℕ → List ℕ → List ℕ → List ℕ → List ℕ → List ℕ → ToldSeveral → Type 0
ApplyHaplotypesWithMetaPromise s table numbers part_ends feature_ends parts metas links keys rows records reports links' keys' rows' records' reports' r =
    let n = numbered_several_lent s table numbers part_ends feature_ends parts links keys rows records reports in
    ToldSeveralOf n metas r
    × ((rows' ≡ numbered_rows_after n rows)
    × ((records' ≡ records_after n records)
    × ((reports' ≡ numbered_reports_after n reports)
    × (NumberedSeveralQueueKept n links links'
    × NumberedSeveralQueueKept n keys keys'))))
