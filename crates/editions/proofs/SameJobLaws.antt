-- What a form in good order holds, it holds when it is moved: each record's fields stand in the bytes that both editions have, and the letters behind a variant or a part
-- stand in letters records, which are common. Assumes nothing.
use Prim.Native.Nat.{ℕ, zero, suc, ◌+◌, ◌-◌, ◌/◌, ◌≤◌, ◌<◌}
use native.Mathlib.Omega.{arith}
use mathlib.Core.Path.{◌≡◌, refl, sym, ap, ◌∙◌}
use mathlib.Core.Bool.{Bool, true, false, cond}
use mathlib.Core.List.{List, [], ◌∷◌, ◌++◌, append-nil}
use mathlib.Core.Logic.{⊎_elim}
use lib.Dec.{ltb, leb}
use lib.ListN.{length, get_or, take, length-append, get_or-append}
use lib.Seq.{drop_at, take_all, get_or-append-add}
use borrow.Author.Tests.{le-ltb, leb-true, ltb-true, ltb-false}
use Rattle.form.specs.declared.records.Kind.{Kind}
use Rattle.form.specs.declared.records.Kind.TheVariants.{End, Settings, Variant as VariantRecord, Part as PartRecord, Letters, Next, Settings2, Variant2, Unknown}
use Rattle.form.specs.declared.records.Edition.{Edition}
use Rattle.form.specs.declared.records.Edition.TheVariants.{One, Two}
use Rattle.form.specs.declared.records.State.{State}
use Rattle.form.specs.declared.records.Counts.{Counts}
use Rattle.form.specs.Form.{kind_of, is_variant, is_part, is_letters, body_len, count_of, after}
use Rattle.form.specs.Job.{Part, letters_in, letters_after, variant_of, part_of, variant_here, part_here, gather, haplotypes_here, haplotypes_in}
use Rattle.form.proofs.FormLaws.{split, mixed, letters_kind_lem}
use Rattle.form.proofs.GatherLaws.{gather_skip}
use Rattle.form.proofs.HaplotypeLaws.{haplotypes_record}
use Rattle.form.proofs.CountLaws.{none_placed, owed_none}
use Rattle.editions.specs.Moving.{byte_in, shared_len, added_in, next_row, moved_from}
use Rattle.editions.proofs.OrderedLaws.{Ordered, ends, goes}
use Rattle.editions.proofs.AgreeLaws.{Agree, four_agree_lem, eight_agree}
use Rattle.editions.proofs.MoveLaws.{sorted, kind_in, kind_moved, body_in, long_body, body_agrees, count_moved, moved_record, moved_end}

-- ---- what a record adds, and what the rest does
pub gather_record : {A : Type 0} (here : Kind → List ℕ → List A) (k : ℕ) (kind : Kind) (body rest : List ℕ) → kind_of k ≡ kind → length body ≡ body_len kind
    → gather here (k ∷ (body ++ rest)) 0 ≡ here kind (body ++ rest) ++ gather here rest 0
unfolding gather
gather_record {A} here k kind body rest i l =
    rw i (ap (λ (q : List A). here kind (body ++ rest) ++ q)
    (gather_skip here (body ++ rest) (body_len kind) ∙ ap (λ (q : List ℕ). gather here q 0) (drop_at body rest (body_len kind) l)))

-- ---- the letters that are owed
-- where the j-th letter of a sequence stands
abbrev place : ℕ → ℕ
place j = 1 + j + j / 16

letters_alike : (a b : List ℕ) (i n : ℕ) → ((j : ℕ) → j < n → get_or a (place (i + j)) 0 ≡ get_or b (place (i + j)) 0) → letters_in a i n ≡ letters_in b i n
unfolding letters_in
letters_alike a b i zero h = refl
letters_alike a b i (suc n) h =
    let z : i + 0 ≡ i = omega arith in
    let first : get_or a (place i) 0 ≡ get_or b (place i) 0 = ap (λ (m : ℕ). get_or a (place m) 0) (sym z) ∙ h 0 (omega arith) ∙ ap (λ (m : ℕ). get_or b (place m) 0) z in
    let rest : letters_in a (suc i) n ≡ letters_in b (suc i) n = letters_alike a b (suc i) n (λ (j : ℕ) (g : j < n).
    let e : suc i + j ≡ i + suc j = omega arith in
    ap (λ (m : ℕ). get_or a (place m) 0) e ∙ h (suc j) (omega arith) ∙ ap (λ (m : ℕ). get_or b (place m) 0) (sym e)) in
    rw (first, rest)

-- a letter of the first letters record, and one behind it
module _ (k : ℕ) (body rest : List ℕ) (long : length body ≡ 16) (j : ℕ) where
  near : j < 16 → get_or (k ∷ (body ++ rest)) (place j) 0 ≡ get_or body j 0
  near h =
      let e : place j ≡ suc j = omega arith in
      ap (λ (m : ℕ). get_or (k ∷ (body ++ rest)) m 0) e ∙ get_or-append body rest 0 j (omega arith)

  far : 16 ≤ j → get_or (k ∷ (body ++ rest)) (place j) 0 ≡ get_or rest (place (j - 16)) 0
  far h =
      let e : place j ≡ suc (length body + place (j - 16)) = omega arith in
      ap (λ (m : ℕ). get_or (k ∷ (body ++ rest)) m 0) e ∙ get_or-append-add body rest (place (j - 16)) 0

letters_in_place : (k : ℕ) (body a b : List ℕ) (left : ℕ) → length body ≡ 16
    → ((j : ℕ) → j < left - 16 → get_or a (place j) 0 ≡ get_or b (place j) 0)
    → (j : ℕ) → j < left → get_or (k ∷ (body ++ a)) (place j) 0 ≡ get_or (k ∷ (body ++ b)) (place j) 0
letters_in_place k body a b left long rest j h = ⊎_elim
    (λ (t : ltb j 16 ≡ true). let g : j < 16 = ltb-true _ _ t in near k body a long j g ∙ sym (near k body b long j g))
    (λ (t : ltb j 16 ≡ false).
    let g : 16 ≤ j = ltb-false _ _ t in
    far k body a long j g ∙ rest (j - 16) (omega arith) ∙ sym (far k body b long j g))
    (split (ltb j 16))

-- letters owed behind a letters record
owed_behind : (st : State) (b : List ℕ) → (after st Letters b).left ≡ st.left - 16
unfolding after
owed_behind st b = go (leb st.left 16) refl
  where
    go : (t : Bool) → leb st.left 16 ≡ t → cond t 0 (st.left - 16) ≡ st.left - 16
    go true e = let h : st.left ≤ 16 = leb-true _ _ e in omega arith
    go false e = refl

-- a common record is copied as it is
pub body_same : (e : Edition) (body : List ℕ) (row : ℕ) → length body ≡ body_len Letters → body_in e Letters body row ≡ body
unfolding shared_len body_len added_in
body_same One body row l = append-nil (take 16 body) ∙ take_all 16 body (omega arith)
body_same Two body row l = append-nil (take 16 body) ∙ take_all 16 body (omega arith)

byte_same : (e : Edition) (k : ℕ) → kind_of k ≡ Letters → byte_in e k ≡ k
unfolding byte_in
byte_same e k i = rw i

owed_letters : (e : Edition) {st : State} {s : List ℕ} {c : Counts} → Ordered st s c → (row j : ℕ) → j < st.left → get_or (moved_from e s 0 row) (place j) 0 ≡ get_or s (place j) 0
unfolding body_len
owed_letters e {st} {s} {c} (ends k i f n) row j h =
    let z : st.left ≡ 0 = owed_none st End (none_placed st End [] f) refl in
    let no : ⊥ = omega arith in absurd no
owed_letters e {st} {s} {c} (goes k body rest l g f o) row j h = ⊎_elim
    (λ (t : is_letters (kind_of k) ≡ true).
    let i : kind_of k ≡ Letters = letters_kind_lem (kind_of k) t in
    let long : length body ≡ 16 = l ∙ ap body_len i in
    let behind : (after st (kind_of k) (body ++ rest)).left ≡ st.left - 16 = ap (λ (kind : Kind). (after st kind (body ++ rest)).left) i ∙ owed_behind st (body ++ rest) in
    let next : List ℕ = moved_from e rest 0 (next_row (kind_of k) row) in
    let is : moved_from e (k ∷ (body ++ rest)) 0 row ≡ k ∷ (body ++ next) =
    moved_record e k body rest row l ∙ ap (λ (kind : Kind). byte_in e k ∷ (body_in e kind body row ++ next)) i
    ∙ ap (λ (q : List ℕ). byte_in e k ∷ (q ++ next)) (body_same e body row long) ∙ ap (λ (m : ℕ). m ∷ (body ++ next)) (byte_same e k i) in
    ap (λ (q : List ℕ). get_or q (place j) 0) is
    ∙ letters_in_place k body next rest st.left long (λ (m : ℕ) (q : m < st.left - 16). owed_letters e o (next_row (kind_of k) row) m (omega arith)) j h)
    (λ (t : is_letters (kind_of k) ≡ false).
    let z : st.left ≡ 0 = owed_none st (kind_of k) (none_placed st (kind_of k) (body ++ rest) f) t in
    let no : ⊥ = omega arith in absurd no)
    (split (is_letters (kind_of k)))

pub letters_moved : (e : Edition) {st : State} {s : List ℕ} {c : Counts} → Ordered st s c → (row n : ℕ) → n ≡ st.left → letters_in (moved_from e s 0 row) 0 n ≡ letters_in s 0 n
letters_moved e {st} {s} {c} o row n is = letters_alike (moved_from e s 0 row) s 0 n (λ (j : ℕ) (h : j < n).
    let z : 0 + j ≡ j = omega arith in
    ap (λ (m : ℕ). get_or (moved_from e s 0 row) (place m) 0) z ∙ owed_letters e o row j (omega arith) ∙ ap (λ (m : ℕ). get_or s (place m) 0) (sym z))

-- ---- a variant and a part, with the letters behind them
shared_variant : (kind : Kind) → is_variant kind ≡ true → 25 ≤ shared_len kind
unfolding shared_len
shared_variant VariantRecord t = omega arith
shared_variant Variant2 t = omega arith
shared_variant End t = mixed (sym t)
shared_variant Settings t = mixed (sym t)
shared_variant PartRecord t = mixed (sym t)
shared_variant Letters t = mixed (sym t)
shared_variant Next t = mixed (sym t)
shared_variant Settings2 t = mixed (sym t)
shared_variant Unknown t = mixed (sym t)

variant_no_letters : (kind : Kind) → is_variant kind ≡ true → is_letters kind ≡ false
variant_no_letters VariantRecord t = refl
variant_no_letters Variant2 t = refl
variant_no_letters End t = mixed (sym t)
variant_no_letters Settings t = mixed (sym t)
variant_no_letters PartRecord t = mixed (sym t)
variant_no_letters Letters t = mixed (sym t)
variant_no_letters Next t = mixed (sym t)
variant_no_letters Settings2 t = mixed (sym t)
variant_no_letters Unknown t = mixed (sym t)

owes : (st : State) (kind : Kind) (b : List ℕ) → is_letters kind ≡ false → count_of kind b ≡ (after st kind b).left
unfolding after
owes st kind b h = sym (rw h)

module _ (e : Edition) (st : State) (c : Counts) (kind : Kind) (body rest : List ℕ) (row : ℕ) (long : length body ≡ body_len kind)
    (o : Ordered (after st kind (body ++ rest)) rest c) where
  abbrev next : List ℕ
  next = moved_from e rest 0 (next_row kind row)

  abbrev new : List ℕ
  new = body_in e kind body row

  agree : Agree (shared_len kind) (new ++ next) (body ++ rest)
  agree = body_agrees e kind body rest next row long

  letters_behind : is_letters kind ≡ false → letters_after (kind_in e kind) (new ++ next) ≡ letters_after kind (body ++ rest)
  unfolding letters_after
  letters_behind h =
      let n : count_of (kind_in e kind) (new ++ next) ≡ count_of kind (body ++ rest) = count_moved e kind (body ++ rest) (new ++ next) agree in
      rw (n, drop_at new next (body_len (kind_in e kind)) (long_body e kind body row long), drop_at body rest (body_len kind) long)
      (letters_moved e o (next_row kind row) (count_of kind (body ++ rest)) (owes st kind (body ++ rest) h))

  pub variant_same : 25 ≤ shared_len kind → is_letters kind ≡ false → variant_of (kind_in e kind) (new ++ next) ≡ variant_of kind (body ++ rest)
  unfolding variant_of
  variant_same m h =
      let a = agree in
      rw (
        eight_agree (shared_len kind) (new ++ next) (body ++ rest) a 0 (omega arith),
        eight_agree (shared_len kind) (new ++ next) (body ++ rest) a 8 (omega arith),
        four_agree_lem (shared_len kind) (new ++ next) (body ++ rest) a 16 (omega arith),
        a 20 (omega arith),
        letters_behind h,
      )

  pub part_same : 9 ≤ shared_len kind → kind ≡ PartRecord → kind_in e kind ≡ PartRecord → is_letters kind ≡ false → part_of (new ++ next) ≡ part_of (body ++ rest)
  unfolding part_of
  part_same m i j h =
      let a = agree in
      let l : letters_after PartRecord (new ++ next) ≡ letters_after PartRecord (body ++ rest) =
      ap (λ (d : Kind). letters_after d (new ++ next)) (sym j) ∙ letters_behind h ∙ ap (λ (d : Kind). letters_after d (body ++ rest)) i in
      rw (four_agree_lem (shared_len kind) (new ++ next) (body ++ rest) a 0 (omega arith), a 4 (omega arith), l)

  whole_old : body_len kind ≤ length (body ++ rest)
  whole_old = omega (arith, length-append body rest)

  whole_new : body_len (kind_in e kind) ≤ length (new ++ next)
  whole_new = omega (arith, length-append new next, long_body e kind body row long)

  pub variants_here : variant_here (kind_in e kind) (new ++ next) ≡ variant_here kind (body ++ rest)
  unfolding variant_here
  variants_here = ⊎_elim
      (λ (t : is_variant kind ≡ true). rw ((sorted e kind).variant, t, le-ltb _ _ whole_new, le-ltb _ _ whole_old, variant_same (shared_variant kind t) (variant_no_letters kind t)))
      (λ (t : is_variant kind ≡ false). rw ((sorted e kind).variant, t))
      (split (is_variant kind))

parts_there : (e : Edition) (st : State) (c : Counts) (kind : Kind) (body rest : List ℕ) (row : ℕ) (long : length body ≡ body_len kind)
    (o : Ordered (after st kind (body ++ rest)) rest c) → is_part kind ≡ true
    → part_here (kind_in e kind) (body_in e kind body row ++ moved_from e rest 0 (next_row kind row)) ≡ part_here kind (body ++ rest)
unfolding part_here shared_len body_len
parts_there e st c PartRecord body rest row long o t =
    let n = whole_new e st c PartRecord body rest row long o in
    let m = whole_old e st c PartRecord body rest row long o in
    rw (le-ltb _ _ n, le-ltb _ _ m, part_same e st c PartRecord body rest row long o (omega arith) refl refl refl)
parts_there e st c End body rest row long o t = mixed (sym t)
parts_there e st c Settings body rest row long o t = mixed (sym t)
parts_there e st c VariantRecord body rest row long o t = mixed (sym t)
parts_there e st c Letters body rest row long o t = mixed (sym t)
parts_there e st c Next body rest row long o t = mixed (sym t)
parts_there e st c Settings2 body rest row long o t = mixed (sym t)
parts_there e st c Variant2 body rest row long o t = mixed (sym t)
parts_there e st c Unknown body rest row long o t = mixed (sym t)

module _ (e : Edition) (st : State) (c : Counts) (kind : Kind) (body rest : List ℕ) (row : ℕ) (long : length body ≡ body_len kind)
    (o : Ordered (after st kind (body ++ rest)) rest c) where
  parts_here : part_here (kind_in e kind) (body_in e kind body row ++ moved_from e rest 0 (next_row kind row)) ≡ part_here kind (body ++ rest)
  unfolding part_here
  parts_here = ⊎_elim
      (λ (t : is_part kind ≡ true). parts_there e st c kind body rest row long o t)
      (λ (t : is_part kind ≡ false). rw ((sorted e kind).part, t))
      (split (is_part kind))

  haplotypes_here_lem : (hs : List (List Part)) → haplotypes_here (kind_in e kind) (body_in e kind body row ++ moved_from e rest 0 (next_row kind row)) hs ≡ haplotypes_here kind (body ++ rest) hs
  unfolding haplotypes_here
  haplotypes_here_lem hs = rw ((sorted e kind).next, parts_here)

-- ---- the whole form
pub variants_moved : (e : Edition) {st : State} {s : List ℕ} {c : Counts} → Ordered st s c → (row : ℕ) → gather variant_here (moved_from e s 0 row) 0 ≡ gather variant_here s 0
variants_moved e {st} {s} {c} (ends k i f n) row = ap (λ (q : List ℕ). gather variant_here q 0) (moved_end e k row i)
variants_moved e {st} {s} {c} (goes k body rest l g f o) row =
    let kind : Kind = kind_of k in
    let next : List ℕ = moved_from e rest 0 (next_row kind row) in
    ap (λ (q : List ℕ). gather variant_here q 0) (moved_record e k body rest row l)
    ∙ gather_record variant_here (byte_in e k) (kind_in e kind) (body_in e kind body row) next (kind_moved e k) (long_body e kind body row l)
    ∙ rw (variants_here e st c kind body rest row l o, variants_moved e o (next_row kind row)) (sym (gather_record variant_here k kind body rest refl l))

pub haplotypes_moved : (e : Edition) {st : State} {s : List ℕ} {c : Counts} → Ordered st s c → (row : ℕ) → haplotypes_in (moved_from e s 0 row) 0 ≡ haplotypes_in s 0
haplotypes_moved e {st} {s} {c} (ends k i f n) row = ap (λ (q : List ℕ). haplotypes_in q 0) (moved_end e k row i)
haplotypes_moved e {st} {s} {c} (goes k body rest l g f o) row =
    let kind : Kind = kind_of k in
    let next : List ℕ = moved_from e rest 0 (next_row kind row) in
    ap (λ (q : List ℕ). haplotypes_in q 0) (moved_record e k body rest row l)
    ∙ haplotypes_record (byte_in e k) (body_len (kind_in e kind)) (kind_in e kind) (body_in e kind body row) next (kind_moved e k) refl (long_body e kind body row l)
    ∙ rw (haplotypes_here_lem e st c kind body rest row l o (haplotypes_in next 0), haplotypes_moved e o (next_row kind row)) (sym (haplotypes_record k (body_len kind) kind body rest refl refl l))
