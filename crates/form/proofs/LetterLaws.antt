-- A job has fewer letters than bytes: each letters record announces at most the sixteen bytes that it has.
use Prim.Native.Nat.{ℕ, zero, suc, ◌+◌, ◌≤◌}
use native.Mathlib.Omega.{arith}
use mathlib.Core.Path.{◌≡◌, refl, ap, ◌∙◌}
use mathlib.Core.Bool.{Bool, true, false, cond}
use mathlib.Core.List.{List, [], ◌∷◌}
use lib.Dec.{leb, eqb}
use lib.ListN.{length}
use borrow.Author.Tests.{leb-true}
use Rattle.form.specs.declared.records.Kind.{Kind}
use Rattle.form.specs.declared.records.State.{State}
use Rattle.form.specs.declared.records.Counts.{Counts}
use Rattle.std.specs.Prelude.{Result, Ok, Err}
use Rattle.metrics.specs.declared.refusals.Refusal.{Refusal}
use Rattle.metrics.specs.Refusals.{refusal_of}
use Rattle.form.specs.Form.{kind_of, is_end, is_letters, body_len, fault_of, after, counted, judge, run, outset}
use Rattle.form.specs.Job.{Job, Held, read_job}
use Rattle.form.specs.Lent.{letters_of, job_counts, scan_of}
use Rattle.form.proofs.CountLaws.{scan_is}
use Rattle.form.proofs.FormLaws.{letters_kind_lem}

-- the letters that a record adds
owed : (t : Bool) (left : ℕ) → leb left 16 ≡ t → cond t left 16 ≤ 16
owed true left e = leb-true left 16 e
owed false left e = omega arith

grows : (t : Bool) (st : State) (kind : Kind) (b : List ℕ) → is_letters kind ≡ t → (after st kind b).letters ≤ st.letters + body_len kind
unfolding after body_len
grows true st kind b e =
    let f = letters_kind_lem kind e in
    let g = owed (leb st.left 16) st.left refl in
    rw f (omega arith)
grows false st kind b e = rw e (omega arith)

-- one step: a fault, the end, or the rest
one : (f : ℕ) (kind : Kind) (st : State) (rest : Result Counts Refusal) (c : Counts) (e z : Bool) → eqb f 0 ≡ e → is_end kind ≡ z → judge f kind st rest ≡ Ok c → (m : ℕ) →
    (rest ≡ Ok c → c.letters ≤ st.letters + m) → c.letters ≤ st.letters + m
one f kind st rest c false z p q g m h = let w : ◌≡◌ {A = Result Counts Refusal} (Err (refusal_of f)) (Ok c) = rw p at g in let y : ◌≡◌ {A = ℕ} 0 1 = cc in omega arith
one f kind st rest c true true p q g m h =
    let w : ◌≡◌ {A = Result Counts Refusal} (Ok (counted st)) (Ok c) = rw (p, q) at g in
    let y : counted st ≡ c = cc in
    let l : st.letters ≡ c.letters = ap (λ (x : Counts). x.letters) y in
    omega arith
one f kind st rest c true false p q g m h = h (rw (p, q) at g)

run_letters : (s : List ℕ) (n : ℕ) (st : State) (c : Counts) → run s n st ≡ Ok c → c.letters + n ≤ st.letters + length s
unfolding run
run_letters [] n st c e = let y : ◌≡◌ {A = ℕ} 0 1 = cc in omega arith
run_letters (k ∷ b) (suc n) st c e = let h = run_letters b n st c e in omega arith
run_letters (k ∷ b) zero st c e =
    let h = one (fault_of st (kind_of k) b) (kind_of k) st (run b (body_len (kind_of k)) (after st (kind_of k) b)) c (eqb (fault_of st (kind_of k) b) 0) (is_end (kind_of k)) refl refl e
    (length b) (λ r.
    let i = run_letters b (body_len (kind_of k)) (after st (kind_of k) b) c r in
    let j = grows (is_letters (kind_of k)) st (kind_of k) b refl in
    omega arith) in
    omega arith

few_letters : (s : List ℕ) (c : Counts) → run s 0 outset ≡ Ok c → c.letters ≤ length s
few_letters s c e = let h = run_letters s 0 outset c e in omega arith

pub letters_within : (s : List ℕ) (job : Job) → read_job s ≡ Held job → length (letters_of job) ≤ length s
unfolding scan_of job_counts
letters_within s job e =
    let good : run s 0 outset ≡ Ok (job_counts job) = scan_is s ∙ ap scan_of e in
    few_letters s (job_counts job) good
