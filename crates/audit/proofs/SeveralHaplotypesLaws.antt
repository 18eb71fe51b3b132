-- The rows that the haplotypes add to the table of refusals are not given where there is one, whose ends are its slices' lengths; a haplotype's own call has
-- the table's rows, none of which is given in an accepted call, and those of its parts. What each lays down is no longer than its stretch. Assumes nothing.
use Prim.Native.Nat.{ℕ, zero, suc, ◌+◌, ◌-◌, ◌*◌, ◌^◌, ◌≤◌, ◌<◌}
use native.Mathlib.Omega.{arith}
use native.Mathlib.Nat.{mul-one, mul_comm, mul-le-mul_right, suc-mul}
use mathlib.Core.Path.{◌≡◌, refl, sym, ap, ◌∙◌}
use mathlib.Core.Bool.{false}
use mathlib.Core.List.{List, [], ◌∷◌, ◌++◌, append-nil}
use borrow.Author.Tests.{le-ltb, ltb-false, eq-eqb}
use lib.IntN.{pos}
use lib.Ieee.{binary32, to_bits, of_int}
use lib.ListN.{length, take, drop, length-drop, drop_of_length-le}
use lib.Seq.{sets, sets-eq, take-length, length-take-le}
use Rattle.metrics.specs.Placed.{placed}
use Rattle.params.specs.Numbers.{Parts, Call, call_of, first_of, parts_rules, any_below, first_fault}
use Rattle.params.specs.Several.{Several, haplotypes, parts_at, own_call, ends_disagree, stretches_disagree}
use Rattle.params.proofs.CheckLaws.{Passed, none_given}
use Rattle.kplib.specs.Answer.{Found, none_found, answer_with, found_after, rows_of}
use Rattle.kplib.specs.Haplotypes.{laid, report_words, answered_after}
use Rattle.kplib.specs.declared.traverse.Answer.{Answer}
use Rattle.kplib.proofs.StretchLaws.{none_laid}
use Rattle.dive.specs.Numbered.{Numbered, numbered_rules, numbered_fault, numbered_answer, numbered_rows, records_at, records_of}
use Rattle.dive.specs.NumberedSeveral.{NumberedSeveral, own_numbered, numbered_several_rules, numbered_several_fault, numbered_answered, numbered_rows_after, records_after, numbered_reports_after}
use Rattle.dive.proofs.RowLaws.{rows_within}
use Rattle.dive.proofs.LaidLaws.{laid_at}
use Rattle.audit.specs.SeveralHaplotypes.{alone, stretch_at, OneOfSeveral, AsByItself, SeveralHaplotypes}
use Rattle.audit.proofs.RecordNumbersLaws.{accepted_as, record_numbers_lem}

-- ---- a call with numbers: no more rows than its table has, and nothing where it is refused
rows_found : (c : Call) → first_fault c ≡ 0 → (found_after 0 c).rows ≡ rows_of c
unfolding rows_of
rows_found c e = ap (λ (fault : ℕ). (found_after fault c).rows) (sym e)

few_rows : (n : Numbered) → length (numbered_rows n) ≤ length n.call.table.starts
unfolding numbered_rows
few_rows n = go (numbered_fault n) refl
  where
    go : (fault : ℕ) → numbered_fault n ≡ fault → length (found_after fault n.call).rows ≤ length n.call.table.starts
    go zero e =
        let own : first_fault n.call ≡ 0 = sym (accepted_as n e) ∙ e in
        rw (rows_found n.call own) (rows_within n.call own)
    go (suc fault) e = omega arith

few_records : (n : Numbered) → length (records_of n) ≤ length n.call.table.starts
few_records n = omega (arith, record_numbers_lem.as_many n, few_rows n)

zero_bits : to_bits binary32 (of_int binary32 (pos 0)) ≡ 0
unfolding to_bits of_int
zero_bits = refl

seven_zeros : (fault : ℕ) → report_words (answer_with fault none_found) ≡ fault ∷ 0 ∷ 0 ∷ 0 ∷ 0 ∷ 0 ∷ 0 ∷ 0 ∷ []
seven_zeros fault = rw zero_bits refl

nothing_found : (n : Numbered) → (numbered_fault n ≡ 0 → ⊥)
    → (numbered_rows n ≡ []) × ((records_of n ≡ []) × (report_words (numbered_answer n) ≡ numbered_fault n ∷ 0 ∷ 0 ∷ 0 ∷ 0 ∷ 0 ∷ 0 ∷ 0 ∷ []))
unfolding numbered_rows numbered_answer records_at
nothing_found n h = go (numbered_fault n) refl h
  where
    go : (fault : ℕ) → numbered_fault n ≡ fault → (fault ≡ 0 → ⊥)
        → ((found_after fault n.call).rows ≡ [])
        × ((records_at n.numbers (found_after fault n.call).rows ≡ [])
        × (report_words (answer_with fault (found_after fault n.call)) ≡ fault ∷ 0 ∷ 0 ∷ 0 ∷ 0 ∷ 0 ∷ 0 ∷ 0 ∷ []))
    go zero e h = absurd (h refl)
    go (suc fault) e h = (refl, (refl, seven_zeros (suc fault)))

-- ---- each of several
stretch_length : (width i many : ℕ) (buffer : List ℕ) → i < many → many * width ≤ length buffer → length (stretch_at width i buffer) ≡ width
stretch_length width i many buffer l room =
    length-take-le width (drop (i * width) buffer) (omega (arith, length-drop (i * width) buffer, suc-mul i width, mul-le-mul_right width l))

-- eight words fill a stretch of eight
eight_placed : (a : Answer) (stretch : List ℕ) → length stretch ≡ 8 → placed stretch (report_words a) ≡ report_words a
eight_placed a stretch l =
    let nothing-behind : length stretch ≤ 8 → drop 8 stretch ≡ [] = λ z. drop_of_length-le stretch z in
    ap (λ (m : List ℕ). report_words a ++ m) (nothing-behind (omega arith)) ∙ append-nil (report_words a)

module _ (n : NumberedSeveral) (e : numbered_several_fault n ≡ 0) where
  abbrev whole : Several
  whole = n.several

  abbrev variants : ℕ
  variants = length n.several.table.starts

  abbrev many : ℕ
  many = haplotypes n.several

  all_passed : Passed (numbered_several_rules n)
  unfolding numbered_several_fault
  all_passed = none_given (numbered_several_rules n) refl e

  -- the table's rows are not given, so that the parts' are left
  by_parts : (i : ℕ) → numbered_fault (own_numbered n i) ≡ first_of (parts_rules (4 ^ whole.settings.k) (parts_at whole i))
  unfolding numbered_fault
  by_parts i =
      let a = all_passed in
      let shape = a.1.1.1.1.1 in
      let bounds = shape.1.1.1.1.1.1 in
      let limits = bounds.1.1.1 in
      rw (
        le-ltb variants variants (omega arith),
        a.0,
        a.1.0,
        a.1.1.0,
        a.1.1.1.0,
        shape.0,
        shape.1.1.0,
        shape.1.1.1.1.1.0,
        bounds.0,
        bounds.1.0,
        bounds.1.1.0,
        limits.0,
        limits.1.1.0,
        limits.1.1.1.1.0,
        limits.1.1.1.1.1.0,
      ) refl

  rooms_suffice : (many * variants ≤ whole.answer_room) × ((many * variants ≤ n.record_room) × (many * 8 ≤ whole.report_room))
  rooms_suffice =
      let last = all_passed.1.1.1.1.1.1.1.1.1.1.1.1.1.1.1.1.1.1.1.1 in
      let rows = ltb-false whole.answer_room (variants * many) last.0 in
      let reports = ltb-false whole.report_room (8 * many) last.1.0 in
      let records = ltb-false n.record_room (variants * many) last.1.1.0 in
      (omega (arith, rows, mul_comm many variants), (omega (arith, records, mul_comm many variants), omega (arith, reports)))

  all_answered : numbered_answered n ≡ many
  all_answered = ap (λ (fault : ℕ). answered_after fault many) e

  -- a stretch, whatever is laid down in it
  stretch_holds : (width i : ℕ) (each : ℕ → List ℕ) (buffer : List ℕ) → i < many → ((j : ℕ) → length (each j) ≤ width) → many * width ≤ length buffer
      → stretch_at width i (laid width each (numbered_answered n) buffer) ≡ placed (stretch_at width i buffer) (each i)
  stretch_holds width i each buffer l few room =
      ap (λ (m : ℕ). stretch_at width i (laid width each m buffer)) all_answered ∙ laid_at width each buffer many i l (λ j _. few j) room

  as_by_itself : (i : ℕ) → i < many → AsByItself n i
  as_by_itself i l = record {
    refusal = by_parts i;
    rows = λ rows q. stretch_holds variants i (λ j. numbered_rows (own_numbered n j)) rows l (λ j. few_rows (own_numbered n j)) (omega (arith, rooms_suffice.0, q));
    records = λ records q. stretch_holds variants i (λ j. records_of (own_numbered n j)) records l (λ j. few_records (own_numbered n j)) (omega (arith, rooms_suffice.1.0, q));
    report = λ reports q.
        let room : many * 8 ≤ length reports = omega (arith, rooms_suffice.1.1, q) in
        stretch_holds 8 i (λ j. report_words (numbered_answer (own_numbered n j))) reports l (λ j. omega arith) room ∙ eight_placed (numbered_answer (own_numbered n i)) (stretch_at 8 i reports)
        (stretch_length 8 i many reports l room);
  }

-- ---- one haplotype
one_end : (m : ℕ) → ends_disagree (m ∷ []) m ≡ false
unfolding ends_disagree any_below
one_end m = rw (le-ltb m 0 (omega arith), eq-eqb m m refl) refl

whole_stretch : {A : Type 0} (l : List A) → take (length l - 0) l ≡ l
whole_stretch l = let z : length l - 0 ≡ length l = omega arith in rw z (take-length l)

module _ (n : Numbered) (room : ℕ) (enough : 8 ≤ room) where
  abbrev one : NumberedSeveral
  one = alone n room

  abbrev v : ℕ
  v = length n.call.table.starts

  ends_agree : stretches_disagree one.several.part_ends one.several.feature_ends (length n.call.parts.sizes) (length n.call.parts.features) ≡ false
  ends_agree = rw (one_end (length n.call.parts.sizes), one_end (length n.call.parts.features)) refl

  same_fault : numbered_several_fault one ≡ numbered_fault n
  unfolding numbered_several_fault numbered_fault
  same_fault = rw (ends_agree, mul-one v, le-ltb room 8 enough) refl

  own_parts : parts_at one.several 0 ≡ n.call.parts
  own_parts = rw (whole_stretch n.call.parts.sizes, whole_stretch n.call.parts.features) refl

  -- its own call is refused by its parts alone, and they are not
  own_fault : numbered_fault n ≡ 0 → numbered_fault (own_numbered one 0) ≡ 0
  unfolding numbered_fault
  own_fault e =
      let a = none_given (numbered_rules n) refl e in
      let shape = a.1.1.1 in
      let limits = shape.1.1.1.1.1.1.1.1.1 in
      let parts : first_of (parts_rules (4 ^ n.call.settings.k) n.call.parts) ≡ 0 = rw (shape.1.1.0, shape.1.1.1.1.0, limits.1.0, limits.1.1.1.0) refl in
      by_parts one (same_fault ∙ e) 0 ∙ (ap (λ (p : Parts). first_of (parts_rules (4 ^ n.call.settings.k) p)) own_parts ∙ parts)

  same_found : found_after 0 (own_call one.several 0) ≡ found_after 0 n.call
  same_found = ap (λ (p : Parts). found_after 0 (call_of n.call.settings n.call.table p 0 0)) own_parts

  module _ (e : numbered_fault n ≡ 0) where
    own_rows : numbered_rows (own_numbered one 0) ≡ numbered_rows n
    unfolding numbered_rows
    own_rows =
        ap (λ (fault : ℕ). (found_after fault (own_call one.several 0)).rows) (own_fault e)
        ∙ (ap (λ (f : Found). f.rows) same_found ∙ ap (λ (fault : ℕ). (found_after fault n.call).rows) (sym e))

    own_answer : numbered_answer (own_numbered one 0) ≡ numbered_answer n
    unfolding numbered_answer
    own_answer =
        ap (λ (fault : ℕ). answer_with fault (found_after fault (own_call one.several 0))) (own_fault e)
        ∙ (ap (λ (f : Found). answer_with 0 f) same_found ∙ ap (λ (fault : ℕ). answer_with fault (found_after fault n.call)) (sym e))

    answered_one : numbered_answered one ≡ 1
    answered_one = ap (λ (fault : ℕ). answered_after fault 1) (same_fault ∙ e)

    -- one list laid down stands at the front
    laid_one : (width : ℕ) (each : ℕ → List ℕ) (buffer : List ℕ) → length (each 0) ≤ length buffer → laid width each (numbered_answered one) buffer ≡ placed buffer (each 0)
    unfolding laid
    laid_one width each buffer few =
        let z : 0 * width ≡ 0 = omega arith in
        let y : 0 + length (each 0) ≡ length (each 0) = omega arith in
        ap (λ (m : ℕ). laid width each m buffer) answered_one
        ∙ (ap (λ (at : ℕ). sets buffer at (each 0)) z ∙ (sets-eq (each 0) buffer 0 (omega arith) ∙ ap (λ (at : ℕ). each 0 ++ drop at buffer) y))

    rooms : (v ≤ n.call.answer_room) × (v ≤ n.record_room)
    unfolding numbered_fault
    rooms =
        let a = none_given (numbered_rules n) refl e in
        let last = a.1.1.1.1.1.1.1.1.1.1.1.1.1.1.1.1.1.1 in
        (ltb-false n.call.answer_room v last.0, ltb-false n.record_room v last.1.0)

  -- where it is refused nothing is laid down
  module _ (h : numbered_fault n ≡ 0 → ⊥) where
    none_answered : numbered_answered one ≡ 0
    none_answered = go (numbered_several_fault one) (λ z. h (sym same_fault ∙ z))
      where
        go : (fault : ℕ) → (fault ≡ 0 → ⊥) → answered_after fault 1 ≡ 0
        go zero q = absurd (q refl)
        go (suc fault) q = refl

    laid_none : (width : ℕ) (each : ℕ → List ℕ) (buffer l : List ℕ) → l ≡ [] → laid width each (numbered_answered one) buffer ≡ placed buffer l
    laid_none width each buffer l q =
        ap (λ (m : ℕ). laid width each m buffer) none_answered ∙ (sym (none_laid width each buffer) ∙ ap (λ (m : List ℕ). placed buffer m) (sym q))

  either : (P : Type 0) → (numbered_fault n ≡ 0 → P) → ((numbered_fault n ≡ 0 → ⊥) → P) → P
  either P accepted refused = go (numbered_fault n) refl
    where
      go : (fault : ℕ) → numbered_fault n ≡ fault → P
      go zero e = accepted e
      go (suc fault) e = refused (λ z. let w : ◌≡◌ {A = ℕ} 0 (suc fault) = sym z ∙ e in absurd (omega arith))

  one_holds : OneOfSeveral n room
  one_holds = record {
    refusal = same_fault;
    rows = λ rows l. either _
        (λ e. laid_one e v (λ i. numbered_rows (own_numbered one i)) rows (omega (arith, few_rows (own_numbered one 0), (rooms e).0, l)) ∙ ap (λ (m : List ℕ). placed rows m) (own_rows e))
        (λ h. laid_none h v (λ i. numbered_rows (own_numbered one i)) rows (numbered_rows n) (nothing_found n h).0);
    records = λ records l. either _
        (λ e. laid_one e v (λ i. records_of (own_numbered one i)) records (omega (arith, few_records (own_numbered one 0), (rooms e).1, l))
        ∙ ap (λ (m : List ℕ). placed records (records_at n.numbers m)) (own_rows e))
        (λ h. laid_none h v (λ i. records_of (own_numbered one i)) records (records_of n) (nothing_found n h).1.0);
    report = λ e reports l. laid_one e 8 (λ i. report_words (numbered_answer (own_numbered one i))) reports (omega arith) ∙ ap (λ (a : Answer). placed reports (report_words a)) (own_answer e);
  }

whole_refused : (n : NumberedSeveral) → (numbered_several_fault n ≡ 0 → ⊥) → (rows records reports : List ℕ)
    → (numbered_rows_after n rows ≡ rows) × ((records_after n records ≡ records) × (numbered_reports_after n reports ≡ reports))
whole_refused n h rows records reports = (none _ _ rows, (none _ _ records, none _ _ reports))
  where
    no_one : (fault : ℕ) → (fault ≡ 0 → ⊥) → answered_after fault (haplotypes n.several) ≡ 0
    no_one zero q = absurd (q refl)
    no_one (suc fault) q = refl

    none : (width : ℕ) (each : ℕ → List ℕ) (buffer : List ℕ) → laid width each (numbered_answered n) buffer ≡ buffer
    none width each buffer = ap (λ (m : ℕ). laid width each m buffer) (no_one (numbered_several_fault n) h) ∙ sym (none_laid width each buffer)

pub several_haplotypes : SeveralHaplotypes
several_haplotypes = record {
  one = λ n room enough. one_holds n room enough;
  each = λ n e i l. as_by_itself n e i l;
  refused_one = λ n i h. nothing_found (own_numbered n i) h;
  whole_refused = λ n h rows records reports. whole_refused n h rows records reports;
  demand3 = λ n i h. record_numbers_lem.demand3 (own_numbered n i) h;
}
