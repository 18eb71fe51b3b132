-- What a call of several haplotypes with record numbers leaves, by what was found in the numbers. Where the whole call is refused, nothing; where it is not, each
-- haplotype's own call is `apply_haplotypes`', and the records are those of the rows that stand in its stretch, as many as its report counts. Assumes nothing.
use Prim.Native.Nat.{ℕ, zero, suc, ◌*◌, ◌≤◌, ◌<◌}
use native.Mathlib.Omega.{arith}
use native.Mathlib.Nat.{mul-one, mul_comm}
use mathlib.Core.Path.{◌≡◌, refl, sym, ap, ◌∙◌}
use mathlib.Core.Bool.{Bool, true, false, cond}
use mathlib.Core.List.{List, []}
use borrow.Author.Tests.{ltb-true, ltb-false, le-ltb}
use lib.Dec.{ltb}
use lib.ListN.{length, get_or, take, drop}
use lib.Seq.{get_or-take, get_or-drop}
use Rattle.params.specs.Numbers.{parts_of, call_of, any_below, disagrees, little_answer_room}
use Rattle.params.specs.Several.{Several, haplotypes, own_call, several_fault}
use Rattle.params.proofs.CheckedLaws.{accepted}
use Rattle.params.proofs.AcceptedLaws.{table_accepted, haplotype_count, rows_suffice, reports_suffice}
use Rattle.kplib.specs.Answer.{answer_of, rows_of, searches}
use Rattle.kplib.specs.Haplotypes.{laid, report_words, answered_after, answered, rows_after, reports_after, several_searches}
use Rattle.kplib.proofs.StretchLaws.{none_laid, laid_length}
use Rattle.dive.specs.Numbered.{repeated_number, records_at, records_of, numbered_answer, numbered_rows, numbered_searches}
use Rattle.dive.specs.NumberedSeveral.{NumberedSeveral, own_numbered, numbered_several_fault, numbered_answered, numbered_rows_after, records_after, numbered_reports_after, numbered_several_searches}
use Rattle.dive.specs.NumberChecks.{number_fault}
use Rattle.dive.specs.RecordSteps.{row_count, records_in, Stretched}
use Rattle.dive.proofs.NumberLaws.{own_of}
use Rattle.dive.proofs.NumberedLaws.{few_rows, as_answered, as_placed, as_searched}
use Rattle.dive.proofs.SeveralNumberLaws.{several_good}
use Rattle.dive.proofs.LaidLaws.{laid_first, laid_alike}

-- ---- no haplotype is answered
module _ (n : NumberedSeveral) where
  pub none_left : {fault : ℕ} → fault ≡ numbered_several_fault n → (fault ≡ 0 → ⊥) → (rows records reports : List ℕ)
      → (rows ≡ numbered_rows_after n rows) × ((records ≡ records_after n records) × (reports ≡ numbered_reports_after n reports))
  none_left {fault = zero} e h rows records reports = absurd (h refl)
  none_left {fault = suc fault} e h rows records reports =
      let z : 0 ≡ numbered_answered n = ap (λ (m : ℕ). answered_after m (haplotypes n.several)) e in
      let v = length n.several.table.starts in (
        none_laid v (λ i. numbered_rows (own_numbered n i)) rows ∙ ap (λ (m : ℕ). laid v (λ i. numbered_rows (own_numbered n i)) m rows) z,
        (
          none_laid v (λ i. records_of (own_numbered n i)) records ∙ ap (λ (m : ℕ). laid v (λ i. records_of (own_numbered n i)) m records) z,
          none_laid 8 (λ i. report_words (numbered_answer (own_numbered n i))) reports ∙ ap (λ (m : ℕ). laid 8 (λ i. report_words (numbered_answer (own_numbered n i))) m reports) z,
        ),
      )

-- the call without numbers left nothing either
module _ (c : Several) where
  pub none_searched : {fault : ℕ} → fault ≡ several_fault c → (fault ≡ 0 → ⊥) → {rows rows' reports reports' links links' keys keys' : List ℕ}
      → rows' ≡ rows_after c rows → reports' ≡ reports_after c reports → (several_searches c ≡ false → links' ≡ links) → (several_searches c ≡ false → keys' ≡ keys)
      → (rows' ≡ rows) × ((reports' ≡ reports) × ((links' ≡ links) × (keys' ≡ keys)))
  unfolding any_below
  none_searched {fault = zero} e h r q l k = absurd (h refl)
  none_searched {fault = suc fault} e h {rows = rows} {reports = reports} r q l k =
      let z : answered c ≡ 0 = ap (λ (m : ℕ). answered_after m (haplotypes c)) (sym e) in
      let none : several_searches c ≡ false = ap (λ (m : ℕ). any_below m (λ i. searches (own_call c i))) z in
      let v = length c.table.starts in (
        r ∙ (ap (λ (m : ℕ). laid v (λ i. rows_of (own_call c i)) m rows) z ∙ sym (none_laid v (λ i. rows_of (own_call c i)) rows)),
        (
          q ∙ (ap (λ (m : ℕ). laid 8 (λ i. report_words (answer_of (own_call c i))) m reports) z ∙ sym (none_laid 8 (λ i. report_words (answer_of (own_call c i))) reports)),
          (l none, k none),
        ),
      )

-- ---- all are
module _ (n : NumberedSeveral) (good : number_fault (length n.several.table.starts) (haplotypes n.several) n.numbers n.record_room ≡ 0) (e : several_fault n.several ≡ 0) where
  abbrev c : Several
  c = n.several

  abbrev v : ℕ
  v = length n.several.table.starts

  abbrev many : ℕ
  many = haplotypes n.several

  few_variants : v ≤ 64
  few_variants =
      let h = accepted (call_of c.settings c.table (parts_of [] []) c.queue_room v) (table_accepted c e) in
      omega (arith, h.sized.few, h.sizes_are)

  -- what the numbers' own check passed
  passed : (disagrees (length n.numbers) v ≡ false) × ((repeated_number n.numbers ≡ false) × (little_answer_room (v * many) n.record_room ≡ false))
  unfolding number_fault
  passed = go (ltb 64 v) (ltb 16 many) (disagrees (length n.numbers) v) (repeated_number n.numbers) (little_answer_room (v * many) n.record_room) refl refl refl refl refl good
    where
      go : (t u a b d : Bool) → ltb 64 v ≡ t → ltb 16 many ≡ u → disagrees (length n.numbers) v ≡ a → repeated_number n.numbers ≡ b → little_answer_room (v * many) n.record_room ≡ d
          → cond t 0 (cond u 0 (own_of a b d)) ≡ 0
          → (disagrees (length n.numbers) v ≡ false) × ((repeated_number n.numbers ≡ false) × (little_answer_room (v * many) n.record_room ≡ false))
      go true u a b d l m x y w q = let over = ltb-true 64 v l in absurd (omega (arith, few_variants))
      go false true a b d l m x y w q = let over = ltb-true 16 many m in absurd (omega (arith, (haplotype_count c e).1))
      go false false true b d l m x y w q = absurd (omega arith)
      go false false false true d l m x y w q = absurd (omega arith)
      go false false false false true l m x y w q = absurd (omega arith)
      go false false false false false l m x y w q = (x, (y, w))

  -- each haplotype's own numbers are good too
  own_good : number_fault v 1 n.numbers v ≡ 0
  unfolding number_fault
  own_good =
      let enough : little_answer_room (v * 1) v ≡ false = le-ltb v (v * 1) (omega (arith, mul-one v)) in
      rw (le-ltb 64 v few_variants, passed.0, passed.1.0, enough) refl

  pub same_fault : several_fault c ≡ numbered_several_fault n
  same_fault = sym (several_good n good)

  same_count : answered c ≡ numbered_answered n
  same_count = ap (λ (m : ℕ). answered_after m many) same_fault

  all_answered : answered c ≡ many
  all_answered = ap (λ (m : ℕ). answered_after m many) e

  pub rows_left : (rows : List ℕ) {rows' : List ℕ} → rows' ≡ rows_after c rows → rows' ≡ numbered_rows_after n rows
  rows_left rows h =
      h ∙ (laid_alike v (λ i. rows_of (own_call c i)) rows (λ i. numbered_rows (own_numbered n i)) (answered c) (λ j l. as_placed (own_numbered n j) own_good)
      ∙ ap (λ (m : ℕ). laid v (λ i. numbered_rows (own_numbered n i)) m rows) same_count)

  pub reports_left : (reports : List ℕ) {reports' : List ℕ} → reports' ≡ reports_after c reports → reports' ≡ numbered_reports_after n reports
  reports_left reports h =
      h ∙ (laid_alike 8 (λ i. report_words (answer_of (own_call c i))) reports (λ i. report_words (numbered_answer (own_numbered n i))) (answered c)
      (λ j l. ap report_words (as_answered (own_numbered n j) own_good))
      ∙ ap (λ (m : ℕ). laid 8 (λ i. report_words (numbered_answer (own_numbered n i))) m reports) same_count)

  any_alike : (f g : ℕ → Bool) → ((i : ℕ) → f i ≡ g i) → (m : ℕ) → any_below m f ≡ any_below m g
  unfolding any_below
  any_alike f g same zero = refl
  any_alike f g same (suc m) = rw (any_alike f g same m, same m) refl

  pub searches_left : several_searches c ≡ numbered_several_searches n
  searches_left =
      any_alike (λ i. searches (own_call c i)) (λ i. numbered_searches (own_numbered n i)) (λ i. as_searched (own_numbered n i) own_good) (answered c)
      ∙ ap (λ (m : ℕ). any_below m (λ i. numbered_searches (own_numbered n i))) same_count

  few_each : (i : ℕ) → length (rows_of (own_call c i)) ≤ v
  few_each i = few_rows (own_call c i) v (λ _. omega arith)

  -- the second word of a report counts the rows
  second_word : (i : ℕ) → get_or (report_words (answer_of (own_call c i))) 1 0 ≡ length (rows_of (own_call c i))
  unfolding answer_of rows_of
  second_word i = refl

  -- ---- the records, from what stands in the rows and the reports
  module _ (rows reports : List ℕ) {rows' reports' : List ℕ} (room : length rows ≡ c.answer_room) (report-room : length reports ≡ c.report_room)
      (rows_are : rows' ≡ rows_after c rows) (reports_are : reports' ≡ reports_after c reports) where
    rows_stand : rows' ≡ laid v (λ i. rows_of (own_call c i)) many rows
    rows_stand = rows_are ∙ ap (λ (m : ℕ). laid v (λ i. rows_of (own_call c i)) m rows) all_answered

    reports_stand : reports' ≡ laid 8 (λ i. report_words (answer_of (own_call c i))) many reports
    reports_stand = reports_are ∙ ap (λ (m : ℕ). laid 8 (λ i. report_words (answer_of (own_call c i))) m reports) all_answered

    counted : (i : ℕ) → i < many → row_count reports' i ≡ length (rows_of (own_call c i))
    counted i l =
        let first = laid_first 8 (λ j. report_words (answer_of (own_call c j))) reports many i l (λ j q. omega arith) (omega (arith, reports_suffice c e, report-room)) in
        let words : take 8 (drop (i * 8) reports') ≡ report_words (answer_of (own_call c i)) = ap (λ (m : List ℕ). take 8 (drop (i * 8) m)) reports_stand ∙ first in
        sym (get_or-take 8 (drop (i * 8) reports') 1 0 (omega arith) ∙ get_or-drop (i * 8) reports' 1 0) ∙ (ap (λ (m : List ℕ). get_or m 1 0) words ∙ second_word i)

    rows_room : many * v ≤ length rows
    rows_room = omega (arith, rows_suffice c e, mul_comm many v, room)

    pub stretched : (records : List ℕ) → length records ≡ n.record_room → Stretched v many rows' reports' records
    stretched records r =
        let w = ltb-false n.record_room (v * many) passed.1.1 in
        record {
          few = (haplotype_count c e).1;
          v_few = few_variants;
          rows_room = omega (arith, rows_room, ap length rows_stand, laid_length v (λ i. rows_of (own_call c i)) rows many);
          records_room = omega (arith, w, mul_comm many v, r);
          reports_room = omega (arith, reports_suffice c e, report-room, ap length reports_stand, laid_length 8 (λ i. report_words (answer_of (own_call c i))) reports many);
          counted = λ i l. omega (arith, counted i l, few_each i);
        }

    pub records_left : (records : List ℕ) {records' : List ℕ} → records' ≡ laid v (records_in v n.numbers rows' reports') many records → records' ≡ records_after n records
    records_left records h =
        let each : (i : ℕ) → i < many → records_in v n.numbers rows' reports' i ≡ records_of (own_numbered n i) =
        λ i l. ap (λ (m : List ℕ). records_at n.numbers m)
        (ap (λ (k : ℕ). take k (drop (i * v) rows')) (counted i l)
        ∙ (ap (λ (m : List ℕ). take (length (rows_of (own_call c i))) (drop (i * v) m)) rows_stand
        ∙ (laid_first v (λ j. rows_of (own_call c j)) rows many i l (λ j q. few_each j) rows_room ∙ as_placed (own_numbered n i) own_good))) in
        h ∙ (laid_alike v (records_in v n.numbers rows' reports') records (λ i. records_of (own_numbered n i)) many each
        ∙ ap (λ (m : ℕ). laid v (λ i. records_of (own_numbered n i)) m records) (sym all_answered ∙ same_count))
