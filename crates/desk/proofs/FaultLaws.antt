-- The faults of the form have numbers below 30, each that of a refusal: a reader that gives it has found the form good and its room too small. A form in good order has 1 to 16 haplotypes.
use Prim.Native.Nat.{ℕ, zero, suc, ◌+◌, ◌≤◌, ◌<◌}
use native.Mathlib.Omega.{arith}
use mathlib.Core.Path.{◌≡◌, refl, sym, ap, subst}
use mathlib.Core.Bool.{Bool, true, false, cond, not, ◌&&◌}
use mathlib.Core.List.{List, [], ◌∷◌}
use lib.Dec.{ltb, leb, eqb}
use lib.ListN.{length}
use borrow.Author.Tests.{eqb-true, eqb-false, leb-false}
use Rattle.form.specs.declared.records.State.{State}
use Rattle.form.specs.declared.records.Counts.{Counts}
use Rattle.std.specs.Prelude.{Result, Ok, Err}
use Rattle.metrics.specs.declared.refusals.Refusal.{Refusal}
use Rattle.metrics.specs.Refusals.{refusal_number, refusal_of}
use Rattle.metrics.proofs.RefusalLaws.{refusal_is}
use Rattle.form.specs.declared.records.Kind.{Kind}
use Rattle.form.specs.Form.{kind_of, is_end, is_next, is_unknown, body_len, in_place, flags_ok, count_of, pad_ok, too_many, fault_of, after, outset, counted, judge, run}
use Rattle.form.specs.Job.{Job, Read, Faulty, Held, read_of, job_of, read_job}
use Rattle.form.specs.Lent.{breaks_of, job_counts}
use Rattle.form.proofs.NumberLaws.{held_good, held_job}
use Rattle.form.proofs.HaplotypeLaws.{some_haplotype}

abbrev Low : Result Counts Refusal → Type 0
Low (Err refusal) = refusal_number refusal < 30
Low (Ok c) = c.breaks ≤ 15

-- the number of a refusal, and below 30
abbrev LowRead : Read → Type 0
LowRead (Faulty n) = (refusal_number (refusal_of n) ≡ n) × (n < 30)
LowRead (Held job) = Unit {0}

-- the refusal of this number, if it is one, has a number below 30
record Fine (n : ℕ) : Type 0 where
  below : (n ≡ 0 → ⊥) → refusal_number (refusal_of n) < 30

either : (t : Bool) {a b : ℕ} → Fine a → Fine b → Fine (cond t a b)
either true p q = p
either false p q = q

fine : (n : ℕ) {m : ℕ} → refusal_number (refusal_of n) ≡ m → m < 30 → Fine n
fine n is h = record { below = λ some. subst (λ (m : ℕ). m < 30) (sym is) h }

no_fault : Fine 0
no_fault = record { below = λ some. absurd (some refl) }

fault_low : (st : State) (kind : Kind) (b : List ℕ) → Fine (fault_of st kind b)
unfolding fault_of
fault_low st kind b =
    either (is_unknown kind) (fine 20 {m = 20} refl (omega arith))
    (either (ltb (length b) (body_len kind)) (fine 21 {m = 21} refl (omega arith))
    (either (not (in_place st kind)) (fine 22 {m = 22} refl (omega arith))
    (either (too_many st kind) (fine 27 {m = 27} refl (omega arith))
    (either (not (flags_ok kind b)) (fine 24 {m = 24} refl (omega arith))
    (either (ltb 131072 (count_of kind b)) (fine 13 {m = 13} refl (omega arith))
    (either (not (pad_ok st kind b)) (fine 23 {m = 23} refl (omega arith))
    (either (is_end kind && ltb 0 (length b)) (fine 25 {m = 25} refl (omega arith)) no_fault)))))))

-- a record without a fault is not the sixteenth break
not_late : (a b c d : Bool) (rest : ℕ) → ◌≡◌ {A = ℕ} (cond a 20 (cond b 21 (cond c 22 (cond d 27 rest)))) 0 → d ≡ false
not_late true b c d rest e = let z : ⊥ = omega arith in absurd z
not_late false true c d rest e = let z : ⊥ = omega arith in absurd z
not_late false false true d rest e = let z : ⊥ = omega arith in absurd z
not_late false false false true rest e = let z : ⊥ = omega arith in absurd z
not_late false false false false rest e = refl

breaks_after : (next : Bool) (n : ℕ) → n ≤ 15 → next && leb 15 n ≡ false → cond next (n + 1) n ≤ 15
breaks_after true n few e = let h = leb-false 15 n e in omega arith
breaks_after false n few e = few

few_after : (st : State) (kind : Kind) (b : List ℕ) → st.breaks ≤ 15 → fault_of st kind b ≡ 0 → (after st kind b).breaks ≤ 15
unfolding fault_of too_many after
few_after st kind b few e =
    breaks_after (is_next kind) st.breaks few
    (not_late (is_unknown kind) (ltb (length b) (body_len kind)) (not (in_place st kind)) (is_next kind && leb 15 st.breaks) _ e)

judge_low : (f : ℕ) (kind : Kind) (st : State) (rest : Result Counts Refusal) → Fine f → st.breaks ≤ 15 → (f ≡ 0 → Low rest) → Low (judge f kind st rest)
judge_low f kind st rest h few low = go (eqb f 0) (is_end kind) refl
  where
    go : (none last : Bool) → eqb f 0 ≡ none → Low (cond none (cond last (Ok (counted st)) rest) (Err (refusal_of f)))
    go true true e = few
    go true false e = low (eqb-true f 0 e)
    go false last e = h.below (eqb-false f 0 e)

run_low : (s : List ℕ) (n : ℕ) (st : State) → st.breaks ≤ 15 → Low (run s n st)
unfolding run
run_low [] n st few = omega arith
run_low (k ∷ b) (suc n) st few = run_low b n st few
run_low (k ∷ b) zero st few =
    judge_low (fault_of st (kind_of k) b) (kind_of k) st (run b (body_len (kind_of k)) (after st (kind_of k) b)) (fault_low st (kind_of k) b) few
    (λ none. run_low b (body_len (kind_of k)) (after st (kind_of k) b) (few_after st (kind_of k) b few none))

read_low : (found : Result Counts Refusal) (job : Job) → Low found → LowRead (read_of found job)
read_low (Err refusal) job h = (ap refusal_number (refusal_is refusal), h)
read_low (Ok c) job h = tt

job_low : (input : List ℕ) → LowRead (read_job input)
unfolding read_job
job_low input = read_low (run input 0 outset) (job_of input) (run_low input 0 outset (omega arith))

pub form_fault : (input : List ℕ) (n : ℕ) → read_job input ≡ Faulty n → (refusal_number (refusal_of n) ≡ n) × (n < 30)
form_fault input n e = subst LowRead e (job_low input)

module _ (input : List ℕ) (job : Job) (held : read_job input ≡ Held job) where
  pub few_breaks : length (breaks_of job.haplotypes) ≤ 15
  unfolding job_counts
  few_breaks = subst Low (held_good input held) (run_low input 0 outset (omega arith))

  pub some_held : 1 ≤ length job.haplotypes
  unfolding job_of
  some_held = subst (λ (j : Job). 1 ≤ length j.haplotypes) (held_job input held) (some_haplotype input 0)
