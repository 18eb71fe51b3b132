-- What writing a job answers: its length is what the checks took away, and settings, variants, haplotypes and end are stored one behind the other. Assumes nothing.
use Prim.Native.Nat.{ℕ, zero, suc, ◌+◌, ◌*◌, ◌≤◌, ◌<◌}
use native.Mathlib.Omega.{arith}
use mathlib.Core.Path.{◌≡◌, refl, sym, ap, ◌∙◌}
use mathlib.Core.Bool.{Bool, true, false}
use mathlib.Core.List.{List, [], ◌∷◌, ◌++◌}
use lib.IntN.{ℤ, pos}
use lib.Dec.{eqb}
use lib.ListN.{length, get_or, drop, length-append, drop_of_length-le}
use lib.Seq.{sets, slice, drop-cons, sets-eq}
use borrow.Author.Tests.{lt-ltb, le-ltb, eqb-true, ne_eqb}
use Rattle.std.proofs.lemmas.Grind.{common_steps}
use Rattle.params.specs.declared.Settings.{Settings}
use Rattle.std.specs.declared.option.Option.TheVariants.{None, Some}
use Rattle.std.specs.Prelude.{Result, Ok, Err}
use Rattle.metrics.specs.declared.refusals.Refusal.{Refusal}
use Rattle.metrics.specs.declared.refusals.Refusal.TheVariants.{LittleRoom}
use Rattle.metrics.specs.Refusals.{refusal_number}
use Rattle.metrics.proofs.RefusalLaws.{never_zero, refusal_is}
use Rattle.fields.specs.Fields.{bytes2, bytes4}
use Rattle.form.specs.Form.{kind_of, body_len}
use Rattle.form.specs.Job.{records_for, sequence_bytes, part_body, settings_record, variant_record, variant_bytes, part_bytes, variants_bytes, parts_bytes, haplotypes_bytes, job_bytes, Part}
use Rattle.form.specs.declared.records.Edition.{Edition}
use Rattle.form.specs.Lent.{Lent}
use Rattle.form.specs.Lent.{sum}
use Rattle.writer.specs.Writing.{any_over, four_agree, two_agree, in_order, agree, numbers_agree, letters_lost, variants_from, parts_from, cut_at, job_from, writing_fault, writing_of, out_after}
use Rattle.writer.specs.Steps.{variant_kind_by, settings_size, variant_size, cost_of, total, left_of, VariantsFit, HaplotypesFit, Put, JobFits}
use Rattle.fields.proofs.FieldLaws.{join}
use Rattle.form.proofs.FormLaws.{both}
use Rattle.writer.proofs.WriteLaws.{enough_had, short_had}
use Rattle.writer.proofs.EditionLaws.{long_settings, long_variant, variant_cost}
use Rattle.writer.proofs.RowLaws.{long_sequence}
use Rattle.writer.proofs.CutLaws.{long_haplotypes}

-- ---- slices that agree
pub record Agreed (t : Lent) : Type 0 where
  pub ends : length t.ends ≡ length t.starts
  pub sizes : length t.sizes ≡ length t.starts
  pub negatives : length t.negatives ≡ length t.starts
  pub counts : length t.counts ≡ length t.starts
  pub part_negatives : length t.part_negatives ≡ length t.part_sizes
  pub part_counts : length t.part_counts ≡ length t.part_sizes
  pub letters : sum t.counts + sum t.part_counts ≡ length t.letters
  pub breaks : in_order (length t.part_sizes) 0 t.breaks ≡ true

pub agreed : (t : Lent) → agree t ≡ true → Agreed t
unfolding four_agree two_agree
agreed t h =
    let a = both _ _ h in let b = both _ _ a.1 in
    let c = both _ _ a.0 in let d = both _ _ c.1 in let e = both _ _ d.1 in
    let f = both _ _ b.0 in let g = both _ _ b.1 in
    record {
      ends = eqb-true _ _ c.0;
      sizes = eqb-true _ _ d.0;
      negatives = eqb-true _ _ e.0;
      counts = eqb-true _ _ e.1;
      part_negatives = eqb-true _ _ f.0;
      part_counts = eqb-true _ _ f.1;
      letters = eqb-true _ _ g.0;
      breaks = g.1;
    }

-- ---- how long the rows are
long_body : (size : ℤ) (negative : Bool) (count : ℕ) → length (part_body size negative count) ≡ 9
unfolding part_body bytes4 bytes2
long_body size negative count = refl

cost_is : (kind c : ℕ) → eqb kind 4 ≡ false → cost_of kind c ≡ 1 + body_len (kind_of kind) + 17 * records_for c
unfolding cost_of
cost_is kind c h = rw h

total_next : (kind : ℕ) (counts : List ℕ) (r : ℕ) → r < length counts → total kind (drop r counts) ≡ cost_of kind (get_or counts r 0) + total kind (drop (suc r) counts)
unfolding total
total_next kind counts r h = ap (total kind) (drop-cons counts r 0 h)

total_none : (kind : ℕ) (counts : List ℕ) (r : ℕ) → length counts ≤ r → total kind (drop r counts) ≡ 0
unfolding total
total_none kind counts r h = ap (total kind) (drop_of_length-le counts {i = r} h)

sum_here : (counts : List ℕ) (r : ℕ) → r < length counts → sum (drop r counts) ≡ get_or counts r 0 + sum (drop (suc r) counts)
unfolding sum
sum_here counts r h = ap sum (drop-cons counts r 0 h)

variants_total : (e : Edition) (numbers starts ends : List ℕ) (sizes : List ℤ) (negatives : List Bool) (counts letters : List ℕ) (n r p : ℕ) → r + n ≡ length counts
    → p + sum (drop r counts) ≤ length letters
    → length (variants_bytes e numbers (variants_from starts ends sizes negatives counts letters r p n)) ≡ total (variant_kind_by e) (drop r counts)
unfolding variants_bytes variants_from variant_bytes
variants_total e numbers starts ends sizes negatives counts letters zero r p h g = sym (total_none (variant_kind_by e) counts r (omega arith))
variants_total e numbers starts ends sizes negatives counts letters (suc n) r p h g =
    let c : ℕ = get_or counts r 0 in
    let i : r < length counts = omega arith in
    let s = sum_here counts r i in
    let l : p + c ≤ length letters = omega (arith, s, g) in
    let w = long_sequence letters p c l in
    let here : ℕ = length (slice p (p + c) letters) in
    let xs : List ℕ = variant_record e (get_or numbers 0 0) (get_or starts r 0) (get_or ends r 0) (get_or sizes r (pos 0)) (get_or negatives r false) here in
    let ys : List ℕ = sequence_bytes (slice p (p + c) letters) in
    let zs : List ℕ = variants_bytes e (drop 1 numbers) (variants_from starts ends sizes negatives counts letters (suc r) (p + c) n) in
    let x : length xs ≡ variant_size e = long_variant e (get_or numbers 0 0) (get_or starts r 0) (get_or ends r 0) (get_or sizes r (pos 0)) (get_or negatives r false) here in
    let y = length-append xs ys in
    let z = length-append (xs ++ ys) zs in
    let t = total_next (variant_kind_by e) counts r i in
    let k = variant_cost e c in
    let v = variants_total e (drop 1 numbers) starts ends sizes negatives counts letters n (suc r) (p + c) (omega arith) (omega (arith, s, g)) in
    omega (arith, w, x, y, z, t, k, v)

parts_total : (sizes : List ℤ) (negatives : List Bool) (counts letters : List ℕ) (n r p : ℕ) → r + n ≡ length counts → p + sum (drop r counts) ≤ length letters
    → length (parts_bytes (parts_from sizes negatives counts letters r p n)) ≡ total 3 (drop r counts)
unfolding parts_bytes parts_from part_bytes kind_of body_len
parts_total sizes negatives counts letters zero r p h g = sym (total_none 3 counts r (omega arith))
parts_total sizes negatives counts letters (suc n) r p h g =
    let c : ℕ = get_or counts r 0 in
    let i : r < length counts = omega arith in
    let s = sum_here counts r i in
    let l : p + c ≤ length letters = omega (arith, s, g) in
    let w = long_sequence letters p c l in
    let xs : List ℕ = part_body (get_or sizes r (pos 0)) (get_or negatives r false) (length (slice p (p + c) letters)) in
    let ys : List ℕ = sequence_bytes (slice p (p + c) letters) in
    let zs : List ℕ = parts_bytes (parts_from sizes negatives counts letters (suc r) (p + c) n) in
    let x : length xs ≡ 9 = long_body (get_or sizes r (pos 0)) (get_or negatives r false) (length (slice p (p + c) letters)) in
    let y = length-append xs ys in
    let z = length-append (xs ++ ys) zs in
    let t = total_next 3 counts r i in
    let k = cost_is 3 c refl in
    let v = parts_total sizes negatives counts letters n (suc r) (p + c) (omega arith) (omega (arith, s, g)) in
    omega (arith, w, x, y, z, t, k, v)

module _ (e : Edition) (numbers : List ℕ) (s : Settings) (t : Lent) where
  abbrev vs : List ℕ
  vs = variants_bytes e numbers (variants_from t.starts t.ends t.sizes t.negatives t.counts t.letters 0 0 (length t.starts))

  abbrev ps : ℕ → List Part
  ps from = parts_from t.part_sizes t.part_negatives t.part_counts t.letters 0 from (length t.part_sizes)

  abbrev hs : List ℕ
  hs = haplotypes_bytes (cut_at 0 t.breaks (ps (sum t.counts)))

  long_job : length (job_bytes e numbers (job_from s t)) ≡ settings_size e + 1 + (length vs + length hs)
  unfolding job_bytes job_from
  long_job =
      let a = length-append (settings_record e s) (vs ++ (hs ++ (0 ∷ []))) in
      let b = length-append vs (hs ++ (0 ∷ [])) in
      let c = length-append hs (0 ∷ []) in
      let d = long_settings e s in
      omega (arith, a, b, c, d)

  job_total : Agreed t → length (job_bytes e numbers (job_from s t)) ≡ settings_size e + 1 + length t.breaks + (total (variant_kind_by e) t.counts + total 3 t.part_counts)
  job_total g =
      let v : length vs ≡ total (variant_kind_by e) t.counts
      = variants_total _ _ _ _ _ _ _ _ (length t.starts) 0 0 (omega (arith, g.counts)) (omega (arith, g.letters)) in
      let p : length (parts_bytes (ps (sum t.counts))) ≡ total 3 t.part_counts
      = parts_total _ _ _ _ (length t.part_sizes) 0 (sum t.counts) (omega (arith, g.part_counts)) (omega (arith, g.letters)) in
      let h = long_haplotypes 0 t.breaks (ps (sum t.counts)) in
      omega (arith, v, p, h, long_job)

  module _ (room : ℕ) (fit : JobFits e numbers s t room) where
    ag : Agreed t
    ag = agreed t fit.agrees

    pub job_room : settings_size e + 1 + (length vs + length hs) ≤ room
    job_room = omega (arith, long_job, fit.fits)

    pub variants_fit : (first there : ℕ) → first ≡ settings_size e → there ≡ room
        → VariantsFit e numbers t.starts t.ends t.sizes t.negatives t.counts t.letters first there
    variants_fit first there f n = record {
      ends_are = ag.ends;
      sizes_are = ag.sizes;
      negatives_are = ag.negatives;
      counts_are = ag.counts;
      letters_are = let g = ag.letters in omega (arith, g);
      fits = let h = job_room in omega (arith, h, n, f);
    }

    module _ (first from at : ℕ) (first-is : first ≡ settings_size e) (from_is : from ≡ sum t.counts) (at-is : at ≡ first + length vs) where
      abbrev hs_at : List ℕ
      hs_at = haplotypes_bytes (cut_at 0 t.breaks (ps from))

      hs_is : hs_at ≡ hs
      hs_is = rw from_is

      pub haplotypes_fit : (there : ℕ) → there ≡ room → HaplotypesFit t.part_sizes t.part_negatives t.part_counts t.letters from t.breaks at there
      haplotypes_fit there n = record {
        negatives_are = ag.part_negatives;
        counts_are = ag.part_counts;
        letters_are = let g = ag.letters in omega (arith, g, from_is);
        breaks_are = ag.breaks;
        fits = let h = job_room in let g = ap length hs_is in omega (arith, h, n, g, first-is, at-is);
      }

      pub end_there : (last : ℕ) → last ≡ at + length hs_at → last + 1 ≤ room
      end_there last n = let h = job_room in let g = ap length hs_is in omega (arith, h, g, n, first-is, at-is)

      pub job_stored : (l a b c d : List ℕ) (last : ℕ) → a ≡ sets l 0 (settings_record e s) → b ≡ sets a first vs
          → c ≡ sets b at hs_at → last ≡ at + length hs_at → d ≡ sets c last (0 ∷ []) → Put l d 0 (last + 1) (job_bytes e numbers (job_from s t))
      unfolding job_bytes job_from
      job_stored l a b c d last p q r n w =
          let m : length hs_at ≡ length hs = ap length hs_is in
          let z : 0 + length (settings_record e s) ≡ first = omega (arith, first-is, long_settings e s) in
          record {
            is = join l a d 0 first (settings_record e s) (vs ++ (hs ++ (0 ∷ []))) z p
                (join a b d first at vs (hs ++ (0 ∷ [])) (sym at-is) q
                (join b c d at last hs (0 ∷ []) (omega (arith, n, m)) (r ∙ ap (sets b at) hs_is) w));
            next = let k : length (job_bytes e numbers (job_from s t)) ≡ settings_size e + 1 + (length vs + length hs) = long_job in omega (arith, k, n, m, first-is, at-is);
          }

-- ---- what holds where there is no fault
pub record Sound (e : Edition) (numbers : List ℕ) (s : Settings) (t : Lent) : Type 0 where
  pub within : length t.breaks ≤ 15
  pub numbered : numbers_agree e (length numbers) (length t.starts) ≡ true
  pub agrees : agree t ≡ true
  pub flag : s.letters ≤ 1
  pub few : any_over t.counts ≡ false
  pub few_parts : any_over t.part_counts ≡ false
  pub kept : letters_lost e s.letters ≡ false

pub sound : (e : Edition) (numbers : List ℕ) (s : Settings) (t : Lent) → writing_fault e numbers s t ≡ 0 → Sound e numbers s t
unfolding writing_fault
sound e numbers s t z = record {
  within = grind (arith, common_steps);
  numbered = grind (arith, common_steps);
  agrees = grind (arith, common_steps);
  flag = grind (arith, common_steps);
  few = grind (arith, common_steps);
  few_parts = grind (arith, common_steps);
  kept = grind (arith, common_steps);
}

-- ---- the answer
module _ (e : Edition) (numbers : List ℕ) (s : Settings) (t : Lent) (out : List ℕ) where
  abbrev bytes : List ℕ
  bytes = job_bytes e numbers (job_from s t)

  abbrev least : ℕ
  least = settings_size e + 1 + length t.breaks + (total (variant_kind_by e) t.counts + total 3 t.part_counts)

  -- answered so, with what stands in the lent room then
  abbrev Answered : Result ℕ Refusal → List ℕ → Type 0
  Answered r u = (r ≡ writing_of e numbers s t (length out)) × (u ≡ out_after r bytes out)

  pub write_fault_lem : (refusal : Refusal) → refusal_number refusal ≡ writing_fault e numbers s t → Answered (Err refusal) out
  unfolding writing_of out_after
  write_fault_lem refusal f = (sym (rw (sym f, ne_eqb (refusal_number refusal) 0 (never_zero refusal)) (ap (λ (r : Refusal). Err r) (refusal_is refusal))), refl)

  module _ (none : 0 ≡ writing_fault e numbers s t) where
    pub write_short : None ≡ left_of least (length out) → Answered (Err LittleRoom) out
    unfolding writing_of out_after
    write_short short =
        let h = short_had _ _ short in
        let k = job_total e numbers s t (agreed t (sound e numbers s t (sym none)).agrees) in
        let g : length out < length bytes = omega (arith, h, k) in
        (sym (rw (sym none, lt-ltb _ _ g)), refl)

    pub write_fits : {n : ℕ} → Some n ≡ left_of least (length out) → JobFits e numbers s t (length out)
    write_fits enough =
        let h = enough_had _ _ _ enough in
        let ok = sound e numbers s t (sym none) in
        let k = job_total e numbers s t (agreed t ok.agrees) in
        record { agrees = ok.agrees; fits = omega (arith, h.fits, k) }

    pub wrote : JobFits e numbers s t (length out) → {r : ℕ} {u : List ℕ} → Put out u 0 r bytes → Answered (Ok r) u
    unfolding writing_of out_after
    wrote fit {r} {u} p =
        let z : 0 + length bytes ≡ length bytes = omega arith in
        let h = fit.fits in
        let n : r ≡ length bytes = p.next ∙ z in (
          sym (rw (sym none, le-ltb _ _ h, n)),
          p.is ∙ sets-eq bytes out 0 (rw z h) ∙ ap (λ (k : ℕ). bytes ++ drop k out) z,
        )
