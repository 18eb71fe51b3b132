-- A form in good order as the list of its records: what `run` accepts is taken apart into records with whole bodies, each without a fault, and what is put together
-- from such records is accepted. The laws of moving go record by record over this. Assumes nothing.
use Prim.Native.Nat.{ℕ, zero, suc}
use mathlib.Core.Path.{◌≡◌, refl, sym, ap, subst, ◌∙◌}
use mathlib.Core.Bool.{true, false}
use mathlib.Core.List.{List, [], ◌∷◌, ◌++◌}
use mathlib.Core.Logic.{⊎_elim}
use lib.Dec.{eqb}
use lib.ListN.{length, take, drop, take-append-drop}
use lib.Seq.{length-take-le, drop_at}
use borrow.Author.Tests.{eqb-true}
use Rattle.form.specs.declared.records.Kind.{Kind}
use Rattle.form.specs.declared.records.Kind.TheVariants.{End}
use Rattle.form.specs.declared.records.State.{State}
use Rattle.form.specs.declared.records.Counts.{Counts}
use Rattle.std.specs.Prelude.{Result, Ok, Err}
use Rattle.metrics.specs.declared.refusals.Refusal.{Refusal}
use Rattle.metrics.specs.Refusals.{refusal_of}
use Rattle.form.specs.Form.{kind_of, is_end, body_len, fault_of, after, run, counted}
use Rattle.form.proofs.FormLaws.{split, skip, judge_done, judge_more, end_kind_lem}
use Rattle.form.proofs.CountLaws.{never, none_whole, end_empty}

-- from a state on, the records of s end in these counts
pub data Ordered : State → List ℕ → Counts → Type 0 where
  ends : {st : State} {c : Counts} (k : ℕ) → kind_of k ≡ End → fault_of st End [] ≡ 0 → counted st ≡ c → Ordered st (k ∷ []) c
  goes : {st : State} {c : Counts} (k : ℕ) (body rest : List ℕ) → length body ≡ body_len (kind_of k) → is_end (kind_of k) ≡ false
      → fault_of st (kind_of k) (body ++ rest) ≡ 0 → Ordered (after st (kind_of k) (body ++ rest)) rest c → Ordered st (k ∷ (body ++ rest)) c

good_is : {c d : Counts} → ◌≡◌ {A = Result Counts Refusal} (Ok c) (Ok d) → c ≡ d
good_is e = cc

module _ (k : ℕ) (b : List ℕ) (st : State) (c : Counts) (none : fault_of st (kind_of k) b ≡ 0) where
  at_end : is_end (kind_of k) ≡ true → ◌≡◌ {A = Result Counts Refusal} (Ok (counted st)) (Ok c) → Ordered st (k ∷ b) c
  at_end g e =
      let i : kind_of k ≡ End = end_kind_lem (kind_of k) g in
      let empty : b ≡ [] = end_empty st (kind_of k) b none g in
      let f : fault_of st End [] ≡ 0 = ap (λ (q : List ℕ). fault_of st End q) (sym empty) ∙ ap (λ (j : Kind). fault_of st j b) (sym i) ∙ none in
      subst (λ (q : List ℕ). Ordered st (k ∷ q) c) (sym empty) (ends k i f (good_is e))

  goes_on : is_end (kind_of k) ≡ false → Ordered (after st (kind_of k) b) (drop (body_len (kind_of k)) b) c → Ordered st (k ∷ b) c
  goes_on g r =
      let n : ℕ = body_len (kind_of k) in
      let whole : take n b ++ drop n b ≡ b = take-append-drop n b in
      subst (λ (q : List ℕ). Ordered st (k ∷ q) c) whole (goes k (take n b) (drop n b) (length-take-le n b (none_whole st (kind_of k) b none)) g
      (ap (λ (q : List ℕ). fault_of st (kind_of k) q) whole ∙ none)
      (subst (λ (q : List ℕ). Ordered (after st (kind_of k) q) (drop n b) c) (sym whole) r))

apart : (s : List ℕ) (n : ℕ) (st : State) (c : Counts) → run s n st ≡ Ok c → Ordered st (drop n s) c
unfolding run
apart [] n st c e = let z : ◌≡◌ {A = ℕ} 1 0 = cc in absurd (never z)
apart (k ∷ b) (suc n) st c e = apart b n st c e
apart (k ∷ b) zero st c e = ⊎_elim
    (λ (f : eqb (fault_of st (kind_of k) b) 0 ≡ true).
    let z : fault_of st (kind_of k) b ≡ 0 = eqb-true _ _ f in
    ⊎_elim
    (λ (g : is_end (kind_of k) ≡ true). let e' : ◌≡◌ {A = Result Counts Refusal} (Ok (counted st)) (Ok c) = simp (f, g) at e in at_end k b st c z g e')
    (λ (g : is_end (kind_of k) ≡ false).
    let e' : run b (body_len (kind_of k)) (after st (kind_of k) b) ≡ Ok c = simp (f, g) at e in
    goes_on k b st c z g (apart b (body_len (kind_of k)) (after st (kind_of k) b) c e'))
    (split (is_end (kind_of k))))
    (λ (f : eqb (fault_of st (kind_of k) b) 0 ≡ false).
    let w : ◌≡◌ {A = Result Counts Refusal} (Err (refusal_of (fault_of st (kind_of k) b))) (Ok c) = simp f at e in
    let z : ◌≡◌ {A = ℕ} 1 0 = cc in absurd (never z))
    (split (eqb (fault_of st (kind_of k) b) 0))

pub ordered : (s : List ℕ) (st : State) (c : Counts) → run s 0 st ≡ Ok c → Ordered st s c
ordered s st c e = apart s 0 st c e

pub together : {s : List ℕ} {st : State} {c : Counts} → Ordered st s c → run s 0 st ≡ Ok c
unfolding run
together {s} {st} {c} (ends k i f e) = rw i (judge_done (fault_of st End []) End st (run [] (body_len End) (after st End [])) f refl) ∙ ap (λ (counts : Counts). Ok counts) e
together {s} {st} {c} (goes k body rest l g f o) =
    judge_more (fault_of st (kind_of k) (body ++ rest)) (kind_of k) st _ f g
    ∙ skip (body ++ rest) (body_len (kind_of k)) (after st (kind_of k) (body ++ rest))
    ∙ ap (λ (q : List ℕ). run q 0 (after st (kind_of k) (body ++ rest))) (drop_at body rest (body_len (kind_of k)) l)
    ∙ together o
