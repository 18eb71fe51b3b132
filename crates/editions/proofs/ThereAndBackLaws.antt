-- There and back: what is moved holds the same job with the same record numbers, so the way back is open; and by `moved_twice` it gives what moving the job into its own
-- edition gives, which is the job itself. Assumes nothing.
use Prim.Native.Nat.{ℕ, zero, suc, ◌≤◌, ◌^◌}
use native.Mathlib.Omega.{arith}
use mathlib.Core.Path.{◌≡◌, refl, sym, ap, ◌∙◌}
use mathlib.Core.Bool.{false}
use mathlib.Core.List.{List}
use lib.Dec.{ltb}
use lib.ListN.{length, drop}
use borrow.Author.Tests.{le-ltb, eqb-true, eq-eqb, ltb-false}
use Rattle.params.specs.Numbers.{first_of}
use Rattle.params.proofs.CheckLaws.{or_no}
use Rattle.form.specs.declared.records.Edition.{Edition}
use Rattle.form.specs.declared.records.Edition.TheVariants.{One, Two}
use Rattle.form.specs.declared.records.Counts.{Counts}
use Rattle.std.specs.Prelude.{Result, Ok, Err}
use Rattle.metrics.specs.declared.refusals.Refusal.{Refusal}
use Rattle.form.specs.Form.{run, outset}
use Rattle.form.specs.Settings40.{settings_in}
use Rattle.form.specs.Job.{Job, Held, read_of, read_job, job_of, edition_of, settings_by, numbers_by, numbers_of, row_numbers, variant_here, gather, haplotypes_in}
use Rattle.form.proofs.CountLaws.{not_back}
use Rattle.editions.specs.Moving.{other_edition, edition_number, moved, moved_over, off_row, no_room, moving_rules, moving_case, moving_by, moving_of}
use Rattle.editions.specs.ThereAndBack.{AreBytes, Moves, ThereAndBack}
use Rattle.editions.proofs.RuleLaws.{Settled, settled, none_last}
use Rattle.editions.proofs.OrderedLaws.{Ordered, ordered, together}
use Rattle.editions.proofs.MoveLaws.{Alike, moved_ordered}
use Rattle.editions.proofs.SameJobLaws.{variants_moved, haplotypes_moved}
use Rattle.editions.proofs.EditionLaws.{First, starts, Unlettered, Same, edition_moved, settings_moved, stays_whole, moved_twice, numbers_new, own_rows}

-- ---- a job in good order, without letters, whose numbers are its rows
pub record Movable (s : List ℕ) : Type 0 where
  pub counts : Counts
  pub good : run s 0 outset ≡ Ok counts
  pub rows : off_row 0 (numbers_of s) ≡ false
  pub unlettered : Unlettered s
  pub bytes : AreBytes s
  pub few : length (job_of s).variants ≤ 4294967296

module _ (s : List ℕ) (m : Movable s) where
  abbrev order : Ordered outset s m.counts
  order = ordered s outset m.counts m.good

  abbrev begun : First m.counts s
  begun = starts order

  same_start : (e : Edition) → Alike e outset outset
  same_start e = record { phase = refl; left = refl; variants = refl; parts = refl; breaks = refl; letters = refl }

  good_moved : (e : Edition) → run (moved e s) 0 outset ≡ Ok m.counts
  good_moved e = together (moved_ordered e order outset (same_start e) 0)

  job_moved : (e : Edition) → job_of (moved e s) ≡ job_of s
  unfolding job_of
  job_moved e =
      let settings : settings_by (edition_of (moved e s)) (drop 1 (moved e s)) ≡ settings_by (edition_of s) (drop 1 s) =
      ap (λ (d : Edition). settings_by d (drop 1 (moved e s))) (edition_moved e begun) ∙ settings_moved e begun m.unlettered in
      let variants : gather variant_here (moved e s) 0 ≡ gather variant_here s 0 = variants_moved e order 0 in
      let haplotypes : haplotypes_in (moved e s) 0 ≡ haplotypes_in s 0 = haplotypes_moved e order 0 in
      λ i. record { settings = settings i; variants = variants i; haplotypes = haplotypes i }

  pub read_moved : (e : Edition) → read_job (moved e s) ≡ read_job s
  unfolding read_job
  read_moved e = rw (good_moved e, m.good) (ap Held (job_moved e))

  kept : Same (edition_of s) s 0
  unfolding numbers_by
  kept = go (edition_of s) m.rows
    where
      go : (e : Edition) → off_row 0 (numbers_by e s) ≡ false → Same e s 0
      go One h = tt
      go Two h = (h, m.bytes)

  pub own_edition : moved (edition_of s) s ≡ s
  own_edition = stays_whole begun m.unlettered kept

  variant_count : length (gather variant_here s 0) ≤ 4294967296
  unfolding job_of
  variant_count = m.few

  numbers_in : (e : Edition) → numbers_by e (moved e s) ≡ row_numbers (length (gather variant_here s 0))
  unfolding numbers_by
  numbers_in One = ap (λ (q : List _). row_numbers (length q)) (variants_moved One order 0)
  numbers_in Two = numbers_new order variant_count

  numbers_rows : (e : Edition) → numbers_of (moved e s) ≡ row_numbers (length (gather variant_here s 0))
  numbers_rows e = ap (λ (d : Edition). numbers_by d (moved e s)) (edition_moved e begun) ∙ numbers_in e

  pub numbers_moved : (e : Edition) → numbers_of (moved e s) ≡ numbers_of s
  numbers_moved e = numbers_rows e ∙ sym (ap numbers_of (sym own_edition) ∙ numbers_rows (edition_of s))

  pub over_edition : edition_of (moved_over s) ≡ other_edition (edition_of s)
  over_edition = edition_moved (other_edition (edition_of s)) begun

  other_twice : (e : Edition) → other_edition (other_edition e) ≡ e
  other_twice One = refl
  other_twice Two = refl

  pub back : moved_over (moved_over s) ≡ s
  back =
      ap (λ (d : Edition). moved (other_edition d) (moved_over s)) over_edition ∙ ap (λ (d : Edition). moved d (moved_over s)) (other_twice (edition_of s))
      ∙ moved_twice (edition_of s) (other_edition (edition_of s)) order 0 ∙ own_edition

-- ---- what an answer tells
record Told (v : Result Counts Refusal) (fault long n : ℕ) : Type 0 where
  counts : Counts
  good : v ≡ Ok counts
  none : fault ≡ 0
  is : n ≡ long

told : (v : Result Counts Refusal) (job : Job) (fault long n : ℕ) → moving_by (read_of v job) fault long ≡ Ok n → Told v fault long n
told (Err refusal) job fault long n e = let z : ◌≡◌ {A = ℕ} 0 1 = cc in let no : ⊥ = omega arith in absurd no
told (Ok c) job zero long n e = record { counts = c; good = refl; none = refl; is = cc }
told (Ok c) job (suc f) long n e = let z : ◌≡◌ {A = ℕ} 0 1 = cc in let no : ⊥ = omega arith in absurd no

module _ (asked : ℕ) (s : List ℕ) (room : ℕ) where
  -- an accepted move
  pub record Open : Type 0 where
    pub counts : Counts
    pub good : run s 0 outset ≡ Ok counts
    pub rules : Settled asked s room

  wrote_open : (n : ℕ) → moving_of asked s room ≡ Ok n → Open × (n ≡ length (moved_over s))
  unfolding moving_of read_job
  wrote_open n e =
      let t = told (run s 0 outset) (job_of s) (first_of (moving_rules asked s room)) (length (moved_over s)) n e in
      (record { counts = t.counts; good = t.good; rules = settled asked s room t.none }, t.is)

  open_wrote : Open → moving_of asked s room ≡ Ok (length (moved_over s))
  unfolding moving_of read_job
  open_wrote o =
      let r = o.rules in
      let none : 0 ≡ first_of (moving_rules asked s room) = none_last asked s room r.edition r.rows r.letters r.roomy in
      rw o.good (ap (λ (f : ℕ). moving_case f (length (moved_over s))) (sym none))

module _ (asked : ℕ) (s : List ℕ) (room n : ℕ) (moves : Moves asked s room n) where
  opened : Open asked s room
  opened = (wrote_open asked s room n moves.wrote).0

  unlettered : Unlettered s
  unfolding job_of
  unlettered = opened.rules.letters

  movable : Movable s
  movable = record {
    counts = opened.counts;
    good = opened.good;
    rows = opened.rules.rows;
    unlettered = unlettered;
    bytes = moves.bytes;
    few = ltb-false _ _ (or_no (ltb room (length (moved_over s))) (ltb (2 ^ 32) (length (job_of s).variants)) opened.rules.roomy).1;
  }

  goes_back : (room' : ℕ) → length s ≤ room' → Open (edition_number (edition_of s)) (moved_over s) room'
  goes_back room' h =
      let m = movable in
      let d : Edition = other_edition (edition_of s) in
      let there : length (moved_over (moved_over s)) ≡ length s = ap length (back s m) in
      record {
        counts = m.counts;
        good = good_moved s m d;
        rules = record {
          edition = rw (over_edition s m, other_twice s m (edition_of s), eq-eqb (edition_number (edition_of s)) (edition_number (edition_of s)) refl);
          rows = rw (numbers_moved s m d) m.rows;
          letters = rw (job_moved s m d) opened.rules.letters;
          roomy = rw (there, job_moved s m d, le-ltb room' (length s) h, le-ltb (2 ^ 32) (length (job_of s).variants) m.few);
        };
      }

  asked_is : edition_number (other_edition (edition_of s)) ≡ asked
  asked_is = sym (eqb-true _ _ (not_back _ opened.rules.edition))

-- ---- where the way is open
pub held_job : (s : List ℕ) (job : Job) → read_job s ≡ Held job → (c : Counts) × ((run s 0 outset ≡ Ok c) × (job_of s ≡ job))
unfolding read_job
held_job s job e = go (run s 0 outset) refl e
  where
    go : (v : Result Counts Refusal) → run s 0 outset ≡ v → read_of v (job_of s) ≡ Held job → (c : Counts) × ((run s 0 outset ≡ Ok c) × (job_of s ≡ job))
    go (Err refusal) i h = let z : ◌≡◌ {A = ℕ} 0 1 = cc in let no : ⊥ = omega arith in absurd no
    go (Ok c) i h = (c, (i, cc))

-- edition 1 has row numbers and no letters
module _ (s : List ℕ) (one : edition_of s ≡ One) where
  pub rows_one : off_row 0 (numbers_of s) ≡ false
  unfolding numbers_by
  rows_one = ap (λ (e : Edition). off_row 0 (numbers_by e s)) one ∙ own_rows (length (gather variant_here s 0))

  pub letters_one_lem : (job_of s).settings.letters ≡ 0
  unfolding job_of settings_by settings_in
  letters_one_lem = ap (λ (e : Edition). (settings_by e (drop 1 s)).letters) one

opens_up : (s : List ℕ) (job : Job) (room : ℕ) → read_job s ≡ Held job → edition_of s ≡ One → no_room s room ≡ false → Open 2 s room
opens_up s job room e one r =
    let h = held_job s job e in
    record { counts = h.0; good = h.1.0; rules = record { edition = rw one; rows = rows_one s one; letters = rw (letters_one_lem s one); roomy = r } }

opens_down : (s : List ℕ) (job : Job) (room : ℕ) → read_job s ≡ Held job → edition_of s ≡ Two → no_room s room ≡ false
    → (t : List ℕ) → edition_of t ≡ One → read_job t ≡ Held job → numbers_of t ≡ numbers_of s → Open 1 s room
opens_down s job room e two r t one f n =
    let h = held_job s job e in
    let g = held_job t job f in
    let same : job_of s ≡ job_of t = h.1.1 ∙ sym g.1.1 in
    record { counts = h.0; good = h.1.0; rules = record { edition = rw two; rows = rw (sym n) (rows_one t one); letters = rw (same, letters_one_lem t one); roomy = r } }

pub there_and_back : ThereAndBack
there_and_back = record {
  moved_length = λ asked s room n m. (wrote_open asked s room n m.wrote).1;
  moved_edition = λ asked s room n m. ap edition_number (over_edition s (movable asked s room n m)) ∙ asked_is asked s room n m;
  way_back = λ asked s room n m room' h.
      open_wrote (edition_number (edition_of s)) (moved_over s) room' (goes_back asked s room n m room' h) ∙ ap (λ (q : List ℕ). Ok (length q)) (back s (movable asked s room n m));
  there_and_back = λ asked s room n m. back s (movable asked s room n m);
  moved_read = λ asked s room n m. read_moved s (movable asked s room n m) (other_edition (edition_of s));
  moved_numbers = λ asked s room n m. numbers_moved s (movable asked s room n m) (other_edition (edition_of s));
  open_up = λ s job room e one r. open_wrote 2 s room (opens_up s job room e one r);
  open_down = λ s job room e two r t one f n. open_wrote 1 s room (opens_down s job room e two r t one f n);
}
