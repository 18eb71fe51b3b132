-- Each refusal of a move in its place, by what the code asks: of a job in edition 1 only the edition asked for and the room, of one in edition 2 also its record numbers and `letters`.
-- The length that the code computes is the moved job's. Assumes nothing.
use Prim.Native.Nat.{ℕ, zero, suc, ◌+◌, ◌-◌, ◌*◌, ◌≤◌, ◌<◌, ◌^◌}
use native.Mathlib.Omega.{arith}
use mathlib.Core.Path.{◌≡◌, refl, sym, ap, subst, ◌∙◌}
use mathlib.Core.Bool.{true, false, cond}
use mathlib.Core.List.{List}
use lib.Dec.{ltb}
use lib.ListN.{length, get_or, drop, length-append}
use lib.Seq.{sets, get_or-drop}
use borrow.Author.Tests.{eq-eqb, ne_eqb, ltb-false}
use Rattle.params.specs.Numbers.{first_of}
use Rattle.params.proofs.CheckLaws.{or_no}
use Rattle.form.specs.declared.records.Edition.{Edition}
use Rattle.form.specs.declared.records.Edition.TheVariants.{One, Two}
use Rattle.form.specs.declared.records.Counts.{Counts}
use Rattle.form.specs.declared.records.Kind.{Kind}
use Rattle.form.specs.declared.records.Kind.TheVariants.{End, Settings, Variant, Part, Letters, Next, Settings2, Variant2, Unknown}
use Rattle.std.specs.Prelude.{Result, Ok, Err}
use Rattle.metrics.specs.declared.refusals.Refusal.{Refusal}
use Rattle.metrics.specs.Refusals.{refusal_of, refusal_number}
use Rattle.metrics.proofs.RefusalLaws.{never_zero, numbered_is}
use Rattle.form.specs.Form.{kind_of, is_settings, is_second, body_len, run, outset}
use Rattle.form.specs.Settings41.{settings41_in}
use Rattle.form.specs.Job.{Read, Faulty, Held, read_of, read_job, job_of, edition_of, settings_by, numbers_by, numbers_of, number_here, gather}
use Rattle.form.specs.Lent.{job_counts, scan_of}
use Rattle.form.proofs.FormLaws.{mixed}
use Rattle.editions.specs.Moving.{other_edition, moved, moved_over, off_row, wrong_edition, numbers_off, letters_one, moving_rules, moving_case, moving_by, moving_of, out_after}
use Rattle.editions.specs.ThereAndBack.{AreBytes}
use Rattle.editions.specs.Steps.{Put}
use Rattle.editions.proofs.RuleLaws.{edition_first, numbers_second, letters_third, many_rows, little_room_lem, enough_room, settled}
use Rattle.editions.proofs.OrderedLaws.{Ordered, ordered}
use Rattle.editions.proofs.EditionLaws.{First, first, starts, apart, Unlettered, Same, stays_whole, longer_whole}
use Rattle.editions.proofs.ThereAndBackLaws.{held_job, rows_one, letters_one_lem}
use Rattle.editions.proofs.WalkLaws.{front_placed}

module _ (s : List ℕ) (held : read_job s ≡ Held (job_of s)) where
  abbrev counts : Counts
  counts = (held_job s (job_of s) held).0

  order : Ordered outset s counts
  order = ordered s outset counts (held_job s (job_of s) held).1.0

  begun : First counts s
  begun = starts order

  two_longer : length (moved Two s) ≡ length (moved One s) + (1 + 4 * length (job_of s).variants)
  unfolding job_of
  two_longer = longer_whole order

  kept : Unlettered s → Same (edition_of s) s 0 → moved (edition_of s) s ≡ s
  kept u same = stays_whole begun u same

-- ---- a job in edition 1
module _ (asked : ℕ) (s : List ℕ) (room : ℕ) (held : read_job s ≡ Held (job_of s)) (one : edition_of s ≡ One) where
  two_asked : asked ≡ 2 → wrong_edition asked s ≡ false
  two_asked h = rw (one, eq-eqb asked 2 h)

  no_letters : letters_one s ≡ false
  no_letters = rw (letters_one_lem s one)

  plain : Unlettered s
  unfolding job_of
  plain = no_letters

  up_same : Same (edition_of s) s 0
  up_same = subst (λ (e : Edition). Same e s 0) (sym one) tt

  up_length : (v : ℕ) → v ≡ length (job_of s).variants → length s + (1 + 4 * v) ≡ length (moved_over s)
  up_length v is =
      let o : length (moved Two s) ≡ length (moved One s) + (1 + 4 * length (job_of s).variants) = two_longer s held in
      let k : moved One s ≡ s = subst (λ (e : Edition). moved e s ≡ s) one (kept s held plain up_same) in
      let m : length (moved_over s) ≡ length (moved Two s) = ap (λ (e : Edition). length (moved (other_edition e) s)) one in
      rw is (ap (λ (l : List ℕ). length l + (1 + 4 * length (job_of s).variants)) (sym k) ∙ sym o ∙ sym m)

  pub up_edition : (asked ≡ 2 → ⊥) → 22 ≡ first_of (moving_rules asked s room)
  up_edition h = let t : wrong_edition asked s ≡ true = rw (one, ne_eqb asked 2 h) in edition_first asked s room t

  module _ (is-two : asked ≡ 2) (v : ℕ) (is : v ≡ length (job_of s).variants) where
    pub up_rows : 4294967296 < v → 30 ≡ first_of (moving_rules asked s room)
    up_rows h = many_rows asked s room (two_asked is-two) (rows_one s one) no_letters v is h

    pub up_little : room < length s + (1 + 4 * v) → 30 ≡ first_of (moving_rules asked s room)
    up_little h = little_room_lem asked s room (two_asked is-two) (rows_one s one) no_letters (length s + (1 + 4 * v)) (up_length v is) h

    pub up_none : v ≤ 4294967296 → length s + (1 + 4 * v) ≤ room → 0 ≡ first_of (moving_rules asked s room)
    up_none few h = enough_room asked s room (two_asked is-two) (rows_one s one) no_letters v (length s + (1 + 4 * v)) is few (up_length v is) h

-- ---- a job in edition 2
long_second : (kind : Kind) → is_settings kind ≡ true → cond (is_second kind) Two One ≡ Two → body_len kind ≡ 41
unfolding body_len
long_second Settings2 h e = refl
long_second Settings h e = apart e
long_second End h e = mixed (sym h)
long_second Variant h e = mixed (sym h)
long_second Part h e = mixed (sym h)
long_second Letters h e = mixed (sym h)
long_second Next h e = mixed (sym h)
long_second Variant2 h e = mixed (sym h)
long_second Unknown h e = mixed (sym h)

long_two : {s : List ℕ} {c : Counts} → First c s → edition_of s ≡ Two → 42 ≤ length s
long_two {s} {c} (first k body rest l t f o) two = omega (arith, l, length-append body rest, long_second (kind_of k) t two)

pub down_long : (s : List ℕ) → read_job s ≡ Held (job_of s) → edition_of s ≡ Two → 42 ≤ length s
down_long s held two = long_two (begun s held) two

module _ (asked : ℕ) (s : List ℕ) (room : ℕ) (held : read_job s ≡ Held (job_of s)) (two : edition_of s ≡ Two) where
  one_asked : asked ≡ 1 → wrong_edition asked s ≡ false
  one_asked h = rw (two, eq-eqb asked 1 h)

  numbers_two : numbers_of s ≡ gather number_here s 0
  unfolding numbers_by
  numbers_two = ap (λ (e : Edition). numbers_by e s) two

  letters_two : (job_of s).settings.letters ≡ get_or s 41 0
  unfolding job_of settings_by settings41_in
  letters_two = ap (λ (e : Edition). (settings_by e (drop 1 s)).letters) two ∙ get_or-drop 1 s 40 0

  pub down_edition : (asked ≡ 1 → ⊥) → 22 ≡ first_of (moving_rules asked s room)
  down_edition h = let t : wrong_edition asked s ≡ true = rw (two, ne_eqb asked 1 h) in edition_first asked s room t

  module _ (is_one : asked ≡ 1) where
    pub down_off : off_row 0 (gather number_here s 0) ≡ true → 28 ≡ first_of (moving_rules asked s room)
    down_off h = numbers_second asked s room (one_asked is_one) (ap (off_row 0) numbers_two ∙ h)

    module _ (rows : off_row 0 (gather number_here s 0) ≡ false) where
      on_rows : numbers_off s ≡ false
      on_rows = ap (off_row 0) numbers_two ∙ rows

      pub down_letters : get_or s 41 0 ≡ 1 → 29 ≡ first_of (moving_rules asked s room)
      down_letters h =
          let t : letters_one s ≡ true = rw (letters_two, h) in
          letters_third asked s room (one_asked is_one) on_rows t

      module _ (none : get_or s 41 0 ≡ 1 → ⊥) (v : ℕ) (is : v ≡ length (job_of s).variants) where
        not_one : letters_one s ≡ false
        not_one = rw letters_two (ne_eqb (get_or s 41 0) 1 none)

        bare : Unlettered s
        unfolding job_of
        bare = not_one

        pub down_rows : 4294967296 < v → 30 ≡ first_of (moving_rules asked s room)
        down_rows h = many_rows asked s room (one_asked is_one) on_rows not_one v is h

        module _ (bytes : AreBytes s) where
          down_same : Same (edition_of s) s 0
          down_same = subst (λ (e : Edition). Same e s 0) (sym two) (rows, bytes)

          down_length : length s ≡ length (moved_over s) + (1 + 4 * v)
          down_length =
              let o : length (moved Two s) ≡ length (moved One s) + (1 + 4 * length (job_of s).variants) = two_longer s held in
              let k : moved Two s ≡ s = subst (λ (e : Edition). moved e s ≡ s) two (kept s held bare down_same) in
              let m : length (moved_over s) ≡ length (moved One s) = ap (λ (e : Edition). length (moved (other_edition e) s)) two in
              rw (is, m) (ap length (sym k) ∙ o)

          pub down_takes : 1 + 4 * v ≤ length s
          down_takes = let h = down_length in omega arith

          less : length s - (1 + 4 * v) ≡ length (moved_over s)
          less = let h = down_length in omega arith

          pub down_little : room < length s - (1 + 4 * v) → 30 ≡ first_of (moving_rules asked s room)
          down_little h = little_room_lem asked s room (one_asked is_one) on_rows not_one (length s - (1 + 4 * v)) less h

          pub down_none : v ≤ 4294967296 → length s - (1 + 4 * v) ≤ room → 0 ≡ first_of (moving_rules asked s room)
          down_none few h = enough_room asked s room (one_asked is_one) on_rows not_one v (length s - (1 + 4 * v)) is few less h

-- ---- the answer
module _ (s : List ℕ) where
  faulty : (r : Read) (refusal : Refusal) (fault written : ℕ) → Err refusal ≡ scan_of r → Err refusal ≡ moving_by r fault written
  unfolding scan_of
  faulty (Faulty m) refusal fault written e = let same : refusal ≡ refusal_of m = cc in ap (λ (found : Refusal). Err found) same
  faulty (Held job) refusal fault written e = let z : ◌≡◌ {A = ℕ} 0 1 = cc in let no : ⊥ = omega arith in absurd no

  pub form_refused : (asked room : ℕ) (refusal : Refusal) (out : List ℕ) → Err refusal ≡ scan_of (read_job s)
      → (Err refusal ≡ moving_of asked s room) × (out ≡ out_after (Err refusal) (moved_over s) out)
  unfolding moving_of out_after
  form_refused asked room refusal out e = (faulty (read_job s) refusal _ _ e, refl)

  -- a job in good form, and its counts
  pub record Accepted (c : Counts) : Type 0 where
    pub held : read_job s ≡ Held (job_of s)
    pub variants : c.variants ≡ length (job_of s).variants

  pub accepted : (c : Counts) → Ok c ≡ scan_of (read_job s) → Accepted c
  unfolding scan_of read_job job_counts
  accepted c e = go (run s 0 outset) refl e
    where
      go : (v : Result Counts Refusal) → run s 0 outset ≡ v → Ok c ≡ scan_of (read_of v (job_of s)) → Accepted c
      go (Err refusal) i h = let z : ◌≡◌ {A = ℕ} 0 1 = cc in let no : ⊥ = omega arith in absurd no
      go (Ok d) i h = let j : c ≡ job_counts (job_of s) = cc in record { held = rw i; variants = ap (λ (x : Counts). x.variants) j }

  module _ (held : read_job s ≡ Held (job_of s)) (asked : ℕ) (out : List ℕ) where
    pub move_refused : (refusal : Refusal) → refusal_number refusal ≡ first_of (moving_rules asked s (length out))
        → (Err refusal ≡ moving_of asked s (length out)) × (out ≡ out_after (Err refusal) (moved_over s) out)
    unfolding moving_of out_after
    move_refused refusal is = (rw held (go _ is), refl)
      where
        go : (f : ℕ) → refusal_number refusal ≡ f → Err refusal ≡ moving_case f (length (moved_over s))
        go zero e = absurd (never_zero refusal e)
        go (suc f) e = ap (λ (found : Refusal). Err found) (numbered_is refusal (suc f) e)

    module _ (none : 0 ≡ first_of (moving_rules asked s (length out))) where
      move_room : length (moved_over s) ≤ length out
      move_room =
          let o = settled asked s (length out) (sym none) in
          ltb-false _ _ (or_no (ltb (length out) (length (moved_over s))) (ltb (2 ^ 32) (length (job_of s).variants)) o.roomy).0

      pub room_there : (e : Edition) → e ≡ other_edition (edition_of s) → length (moved e s) ≤ length out
      room_there e i = rw i move_room

      pub move_done : (laid : List ℕ) (n : ℕ) (e : Edition) → e ≡ other_edition (edition_of s) → Put out laid 0 n (moved e s)
          → (Ok n ≡ moving_of asked s (length out)) × (laid ≡ out_after (Ok n) (moved_over s) out)
      unfolding moving_of out_after
      move_done laid n e i p =
          let same : moved e s ≡ moved_over s = ap (λ (d : Edition). moved d s) i in
          let long : n ≡ length (moved_over s) = omega (arith, p.next, ap length same) in
          (sym (rw (held, sym none) (ap (λ (written : ℕ). Ok written) (sym long))), p.is ∙ ap (λ (l : List ℕ). sets out 0 l) same ∙ front_placed out (moved_over s) move_room)
