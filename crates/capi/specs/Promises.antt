-- The promise of each exported function, said once: the function's `ensures` and `Unique` (crates/audit) cite it by name.
-- Its arguments are the function's own, in their order, what is lent by what it holds at entry; then what each `&mut` holds at exit; then the number r.
use Rattle.std.specs.Prelude.{ℕ, ◌≡◌, Bool, List, ℤ, Float, length}
use Rattle.metrics.specs.Refusals.{told}
use Rattle.metrics.specs.Letters.{counts_by, counter_answer, row_after}
use Rattle.metrics.specs.Placed.{placed}
use Rattle.metrics.specs.Similarity.{sizesim_of, seqsim_of, value}
use Rattle.params.specs.declared.Settings.{Settings}
use Rattle.params.specs.Numbers.{table_of, parts_of, call_of}
use Rattle.kplib.specs.Graph.{capped_count, count_value}
use Rattle.kplib.specs.Proposal.{proposal_of, check_word, check_of}
use Rattle.kplib.specs.Answer.{queue_room}
use Rattle.kplib.specs.Report.{report_of}
use Rattle.dive.specs.Numbered.{Numbered, numbered_answer, numbered_rows, records_of}
use Rattle.dive.specs.NumberedSeveral.{NumberedSeveral, numbered_several_fault, numbered_rows_after, records_after, numbered_reports_after}
use Rattle.dive.specs.Promises.{NumberedQueueKept, NumberedSeveralQueueKept}
use Rattle.desk.specs.Desk.{desk_text}
use Rattle.bed.specs.Reading.{name_in, starts_in, ends_in, read_fault, read_answer, read_counts, unless_refused}
use Rattle.bed.specs.Writing.{rows_text, write_fault, write_answer, written_bytes}
use Rattle.companions.specs.Companions.{lent_of}
use Rattle.companions.specs.Questions.{pair_of, later_in, pair_yes, later_count}
use Rattle.companions.specs.Changes.{add_fault, added_to, remove_fault, taken_from, changed_unless}
use Rattle.meta.specs.Meta.{new_made, blank_made, combined_two}
use Rattle.meta.specs.Words.{meta_of_words, words_of_meta}
use Rattle.book.specs.Changes.{saved_of, after_save, restored_of, after_restore, saved_version}
use Rattle.book.specs.Changes as B
use Rattle.book.specs.Book.{settings_at}
use Rattle.editions.specs.Moving.{moved_over, moving_of, out_after}
use Rattle.capi.specs.Moved.{moving_bytes}
use Rattle.capi.specs.Words.{settings_of_words, words_unless}

abbrev pub NdSeqToKmerPromise : List ℕ → ℕ → Bool → ℕ → List ℤ → List ℤ → ℕ → Type 0
NdSeqToKmerPromise text k negative reading row row' r =
    (r ≡ told (counter_answer k reading text row)) × (row' ≡ row_after (counter_answer k reading text row) (counts_by reading k negative text) row)

abbrev pub NdSeqsimPromise : List ℤ → List ℤ → ℕ → Float → Float → ℕ → Type 0
NdSeqsimPromise a b minkfreq place place' r = (r ≡ told (seqsim_of a b minkfreq)) × (place' ≡ value (seqsim_of a b minkfreq))

abbrev pub NdSizesimPromise : ℕ → ℕ → Float → Float → ℕ → Type 0
NdSizesimPromise a b place place' r = (r ≡ told (sizesim_of a b)) × (place' ≡ value (sizesim_of a b))

abbrev pub NdCountChainsPromise : List ℕ → List ℕ → Bool → ℕ → ℕ → ℕ → ℕ → Type 0
NdCountChainsPromise starts ends full cap count count' r =
    (r ≡ told (capped_count starts ends full cap)) × (count' ≡ count_value (capped_count starts ends full cap))

abbrev pub NdAnswerPromise : List ℕ → List ℕ → List ℕ → ℕ → Type 0
NdAnswerPromise job text text' r = (r ≡ length (desk_text job)) × (text' ≡ placed text (desk_text job))

-- the call that the settings and the lent slices make, with its record numbers
abbrev pub numbered_call : Settings → List ℕ → List ℕ → List ℤ → List ℤ → List ℕ → List ℤ → List ℤ → List ℕ → List ℕ → List ℕ → List ℕ → Numbered
numbered_call s starts ends sizes features numbers part_sizes part_features links keys rows records = record {
  call = call_of s (table_of starts ends sizes features) (parts_of part_sizes part_features) (queue_room links keys) (length rows);
  numbers = numbers;
  record_room = length records;
}

abbrev pub NdApplyHaplotypePromise : List ℕ → List ℕ → List ℕ → List ℤ → List ℤ → List ℕ → List ℤ → List ℤ → List ℕ → List ℕ → List ℕ → List ℕ → List ℕ
    → List ℕ → List ℕ → List ℕ → List ℕ → List ℕ → ℕ → Type 0
NdApplyHaplotypePromise settings starts ends sizes features numbers part_sizes part_features links keys rows records report links' keys' rows' records' report' r =
    let n = numbered_call (settings_of_words settings) starts ends sizes features numbers part_sizes part_features links keys rows records in
    (r ≡ (numbered_answer n).refusal)
    × ((report' ≡ report_of (numbered_answer n))
    × ((rows' ≡ placed rows (numbered_rows n))
    × ((records' ≡ placed records (records_of n))
    × (NumberedQueueKept n links links'
    × NumberedQueueKept n keys keys'))))

-- the call of several haplotypes that they make, with its record numbers
abbrev pub numbered_several_call : Settings → List ℕ → List ℕ → List ℤ → List ℤ → List ℕ → List ℕ → List ℕ → List ℤ → List ℤ
    → List ℕ → List ℕ → List ℕ → List ℕ → List ℕ → NumberedSeveral
numbered_several_call s starts ends sizes features numbers part_ends feature_ends part_sizes part_features links keys rows records reports = record {
  several = record {
    settings = s;
    table = table_of starts ends sizes features;
    parts = parts_of part_sizes part_features;
    part_ends = part_ends;
    feature_ends = feature_ends;
    queue_room = queue_room links keys;
    answer_room = length rows;
    report_room = length reports;
  };
  numbers = numbers;
  record_room = length records;
}

abbrev pub NdApplyHaplotypesPromise : List ℕ → List ℕ → List ℕ → List ℤ → List ℤ → List ℕ → List ℕ → List ℕ → List ℤ → List ℤ
    → List ℕ → List ℕ → List ℕ → List ℕ → List ℕ → List ℕ → List ℕ → List ℕ → List ℕ → List ℕ → ℕ → Type 0
NdApplyHaplotypesPromise settings starts ends sizes features numbers part_ends feature_ends part_sizes part_features links keys rows records reports links' keys' rows' records' reports' r =
    let n = numbered_several_call (settings_of_words settings) starts ends sizes features numbers part_ends feature_ends part_sizes part_features links keys rows records reports in
    (r ≡ numbered_several_fault n)
    × ((rows' ≡ numbered_rows_after n rows)
    × ((records' ≡ records_after n records)
    × ((reports' ≡ numbered_reports_after n reports)
    × (NumberedSeveralQueueKept n links links'
    × NumberedSeveralQueueKept n keys keys'))))

abbrev pub NdReadBedPromise : List ℕ → List ℕ → List ℕ → List ℕ → List ℕ → List ℕ → List ℕ → List ℕ → List ℕ → ℕ → Type 0
NdReadBedPromise text starts ends name counts starts' ends' name' counts' r =
    let fault = read_fault text (length starts) (length ends) in
    (r ≡ told (read_answer fault text))
    × ((counts' ≡ read_counts (read_answer fault text))
    × ((starts' ≡ placed starts (unless_refused fault (starts_in text)))
    × ((ends' ≡ placed ends (unless_refused fault (ends_in text)))
    × (name' ≡ placed name (unless_refused fault (name_in text))))))

abbrev pub NdWriteBedPromise : List ℕ → List ℕ → List ℕ → List ℕ → List ℕ → ℕ → List ℕ → ℕ → ℕ → Type 0
NdWriteBedPromise name starts ends rows text written text' written' r =
    let fault = write_fault name starts ends rows (length text) in
    let all = rows_text name starts ends rows in
    (r ≡ told (write_answer fault all)) × ((written' ≡ written_bytes (write_answer fault all)) × (text' ≡ placed text (unless_refused fault all)))

abbrev pub NdCompanionsAddPromise : List ℕ → List ℕ → List Bool → ℕ → ℕ → ℕ → List ℕ → List ℕ → List Bool → ℕ → ℕ → Type 0
NdCompanionsAddPromise starts ends sheet rows start end starts' ends' sheet' rows' r =
    let c = lent_of starts ends sheet rows in
    (r ≡ add_fault c start end) × (lent_of starts' ends' sheet' rows' ≡ changed_unless (add_fault c start end) (added_to c start end) c)

abbrev pub NdCompanionsRemovePromise : List ℕ → List ℕ → List Bool → ℕ → List Bool → ℕ → ℕ → Type 0
NdCompanionsRemovePromise starts ends sheet rows sheet' rows' r =
    let c = lent_of starts ends sheet rows in
    (r ≡ remove_fault c) × (lent_of starts ends sheet' rows' ≡ changed_unless (remove_fault c) (taken_from c) c)

abbrev pub NdCompanionsTogetherPromise : List ℕ → List ℕ → List Bool → ℕ → ℕ → ℕ → ℕ → ℕ → ℕ → Type 0
NdCompanionsTogetherPromise starts ends sheet rows a b word word' r =
    let paired = pair_of (lent_of starts ends sheet rows) a b in
    (r ≡ told paired) × (word' ≡ pair_yes paired)

abbrev pub NdCompanionsCountPromise : List ℕ → List ℕ → List Bool → ℕ → ℕ → ℕ → ℕ → ℕ → Type 0
NdCompanionsCountPromise starts ends sheet rows row count count' r =
    let counted = later_in (lent_of starts ends sheet rows) row in
    (r ≡ told counted) × (count' ≡ later_count counted)

abbrev pub NdMetaNewPromise : ℕ → ℕ → List ℕ → List ℕ → ℕ → Type 0
NdMetaNewPromise index samples meta meta' r = (r ≡ (new_made index samples).refusal) × (meta' ≡ words_of_meta (new_made index samples).meta)

abbrev pub NdMetaBlankPromise : ℕ → List ℕ → List ℕ → ℕ → Type 0
NdMetaBlankPromise samples meta meta' r = (r ≡ (blank_made samples).refusal) × (meta' ≡ words_of_meta (blank_made samples).meta)

abbrev pub NdMetaCombinePromise : List ℕ → List ℕ → List ℕ → ℕ → Type 0
NdMetaCombinePromise left right left' r =
    let combined = combined_two (meta_of_words left) (meta_of_words right) in
    (r ≡ combined.refusal) × (left' ≡ words_unless combined.refusal (words_of_meta combined.left) left)

abbrev pub NdCheckPathPromise : List ℕ → List ℕ → List ℕ → List ℤ → List ℤ → List ℤ → List ℤ → List ℕ → List ℕ → Float → ℕ → ℕ → ℕ → Type 0
NdCheckPathPromise settings starts ends sizes features part_sizes part_features rows positions score word word' r =
    let checked = check_of (settings_of_words settings) (table_of starts ends sizes features) (parts_of part_sizes part_features) (proposal_of rows positions score) in
    (r ≡ told checked) × (word' ≡ check_word checked)

-- the word is the version that was added, 0 on a refusal
abbrev pub NdBookSavePromise : List ℕ → List ℕ → ℕ → List ℕ → ℕ → ℕ → Type 0
NdBookSavePromise book settings version book' version' r =
    let saved = saved_of book settings in
    (r ≡ told saved) × ((version' ≡ saved_version saved) × (book' ≡ after_save book settings))

abbrev pub NdBookReadPromise : List ℕ → ℕ → List ℕ → List ℕ → ℕ → Type 0
NdBookReadPromise book version settings settings' r =
    (r ≡ B.read_fault book version) × (settings' ≡ B.changed_unless (B.read_fault book version) (settings_at book version) settings)

abbrev pub NdBookRestorePromise : List ℕ → ℕ → ℕ → List ℕ → ℕ → ℕ → Type 0
NdBookRestorePromise book version added book' added' r =
    let restored = restored_of book version in
    (r ≡ told restored) × ((added' ≡ saved_version restored) × (book' ≡ after_restore book version))

abbrev pub NdMoveJobPromise : List ℕ → ℕ → List ℕ → ℕ → List ℕ → ℕ → ℕ → Type 0
NdMoveJobPromise job edition out written out' written' r =
    let moving = moving_of edition job (length out) in
    (r ≡ told moving) × ((written' ≡ moving_bytes moving) × (out' ≡ out_after moving (moved_over job) out))
