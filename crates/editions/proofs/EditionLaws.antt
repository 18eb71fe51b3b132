-- A job in good order begins with the settings of its edition. Moved into another edition it is in that edition and has the same settings, where `letters` is not 1;
-- moved into its own it stays as it is, where its record numbers are its rows; and moving twice comes to the second move alone. So there and back gives the first bytes.
-- Edition 2 is longer by a byte in the settings and four in each variant. Assumes nothing.
use Prim.Native.Nat.{ℕ, zero, suc, ◌+◌, ◌*◌, ◌%◌, ◌/◌, ◌≤◌, ◌<◌}
use native.Mathlib.Omega.{arith}
use native.Mathlib.Numerals.{add-one}
use mathlib.Core.Path.{◌≡◌, refl, sym, ap, subst, ◌∙◌}
use mathlib.Core.Bool.{Bool, true, false, cond, not, ◌&&◌}
use mathlib.Core.List.{List, [], ◌∷◌, ◌++◌, append_assoc, append-nil}
use mathlib.Core.Logic.{⊎_elim}
use lib.Dec.{ltb, eqb}
use lib.ListN.{length, get_or, take, drop, length-append, take-append-drop, length-drop, get_or-append}
use lib.Seq.{take-suc, take_all, take_at, length-take-le, get_or-append-add, get_or-drop}
use borrow.Author.Tests.{le-ltb, eqb-true, eqb-false, eq-eqb, ne_eqb, ltb-true, ltb-false}
use Rattle.params.proofs.CheckLaws.{or_no}
use Rattle.fields.specs.Fields.{le2, le4, bytes2, bytes4}
use Rattle.fields.proofs.FieldLaws.{four_back, long4, past}
use Rattle.form.specs.declared.records.Kind.{Kind}
use Rattle.form.specs.declared.records.Kind.TheVariants.{End, Settings, Variant, Part, Letters, Next, Settings2, Variant2, Unknown}
use Rattle.form.specs.declared.records.Edition.{Edition}
use Rattle.form.specs.declared.records.Edition.TheVariants.{One, Two}
use Rattle.form.specs.declared.records.State.{State}
use Rattle.form.specs.declared.records.Counts.{Counts}
use Rattle.form.specs.Form.{kind_of, is_end, is_settings, is_variant, is_second, is_unknown, body_len, in_place, flags_ok, are_flags, fault_of, after, outset}
use Rattle.form.specs.Settings40.{settings_in}
use Rattle.form.specs.Settings41.{settings41_in}
use Rattle.form.specs.Job.{variant_of, variant_here, number_here, gather, edition_of, settings_by, row_numbers}
use Rattle.form.proofs.FormLaws.{split, both, mixed}
use Rattle.form.proofs.CountLaws.{tests, not_back, none_placed}
use Rattle.editions.specs.Moving.{settings_byte, variant_byte, byte_in, shared_len, added_in, next_row, moved_from, moved, off_row}
use Rattle.editions.specs.ThereAndBack.{AreBytes}
use Rattle.editions.proofs.OrderedLaws.{Ordered, ends, goes}
use Rattle.editions.proofs.AgreeLaws.{Agree, four_agree_lem}
use Rattle.editions.proofs.MoveLaws.{sorted, kind_in, settings_of, kind_moved, body_in, long_body, body_agrees, shared_within, late_zero, moved_record, moved_end}
use Rattle.editions.proofs.SameJobLaws.{gather_record}

-- ---- the first record
pub data First (c : Counts) : List ℕ → Type 0 where
  first : (k : ℕ) (body rest : List ℕ) → length body ≡ body_len (kind_of k) → is_settings (kind_of k) ≡ true → fault_of outset (kind_of k) (body ++ rest) ≡ 0
      → Ordered (after outset (kind_of k) (body ++ rest)) rest c → First c (k ∷ (body ++ rest))

settings_first : (kind : Kind) → in_place outset kind ≡ true → is_settings kind ≡ true
unfolding in_place
settings_first End h = mixed (sym h)
settings_first Settings h = refl
settings_first Variant h = mixed (sym h)
settings_first Part h = mixed (sym h)
settings_first Letters h = mixed (sym h)
settings_first Next h = mixed (sym h)
settings_first Settings2 h = refl
settings_first Variant2 h = mixed (sym h)
settings_first Unknown h = mixed (sym h)

begins : {st : State} {s : List ℕ} {c : Counts} → Ordered st s c → st ≡ outset → First c s
unfolding in_place
begins {st} {s} {c} (ends k i f n) e =
    let p : in_place outset End ≡ true = none_placed outset End [] (ap (λ (x : State). fault_of x End []) (sym e) ∙ f) in
    mixed (sym p)
begins {st} {s} {c} (goes k body rest l g f o) e =
    let f' : fault_of outset (kind_of k) (body ++ rest) ≡ 0 = ap (λ (x : State). fault_of x (kind_of k) (body ++ rest)) (sym e) ∙ f in
    first k body rest l (settings_first (kind_of k) (none_placed outset (kind_of k) (body ++ rest) f')) f' (subst (λ (x : State). Ordered (after x (kind_of k) (body ++ rest)) rest c) e o)

pub starts : {s : List ℕ} {c : Counts} → Ordered outset s c → First c s
starts o = begins o refl

-- ---- its edition
second_settings : (e : Edition) (kind : Kind) → is_settings kind ≡ true → cond (is_second (kind_in e kind)) Two One ≡ e
second_settings One Settings h = refl
second_settings Two Settings h = refl
second_settings One Settings2 h = refl
second_settings Two Settings2 h = refl
second_settings e End h = mixed (sym h)
second_settings e Variant h = mixed (sym h)
second_settings e Part h = mixed (sym h)
second_settings e Letters h = mixed (sym h)
second_settings e Next h = mixed (sym h)
second_settings e Variant2 h = mixed (sym h)
second_settings e Unknown h = mixed (sym h)

pub edition_moved : (e : Edition) {s : List ℕ} {c : Counts} → First c s → edition_of (moved e s) ≡ e
edition_moved e (first k body rest l t f o) =
    ap edition_of (moved_record e k body rest 0 l) ∙ ap (λ (kind : Kind). cond (is_second kind) Two One) (kind_moved e k) ∙ second_settings e (kind_of k) t

-- ---- its settings
settings_agree : (a b : List ℕ) → Agree 40 a b → settings_in a ≡ settings_in b
unfolding settings_in
settings_agree a b g = rw (
  g 0 (omega arith),
  g 1 (omega arith),
  g 2 (omega arith),
  g 3 (omega arith),
  four_agree_lem 40 a b g 4 (omega arith),
  four_agree_lem 40 a b g 8 (omega arith),
  four_agree_lem 40 a b g 12 (omega arith),
  four_agree_lem 40 a b g 16 (omega arith),
  four_agree_lem 40 a b g 20 (omega arith),
  four_agree_lem 40 a b g 24 (omega arith),
  four_agree_lem 40 a b g 28 (omega arith),
  four_agree_lem 40 a b g 32 (omega arith),
  four_agree_lem 40 a b g 36 (omega arith),
)

-- without letters both editions say the same
plain : (e : Edition) (b : List ℕ) → (e ≡ Two → get_or b 40 0 ≡ 0) → settings_by e b ≡ settings_in b
unfolding settings_by settings41_in settings_in
plain One b z = refl
plain Two b z = rw (z refl)

shared_settings : (kind : Kind) → is_settings kind ≡ true → shared_len kind ≡ 40
unfolding shared_len
shared_settings Settings h = refl
shared_settings Settings2 h = refl
shared_settings End h = mixed (sym h)
shared_settings Variant h = mixed (sym h)
shared_settings Part h = mixed (sym h)
shared_settings Letters h = mixed (sym h)
shared_settings Next h = mixed (sym h)
shared_settings Variant2 h = mixed (sym h)
shared_settings Unknown h = mixed (sym h)

-- the flag of edition 2's settings is 0, where it is not 1
low : (x : ℕ) → ltb x 2 ≡ true → (x ≡ 1 → ⊥) → x ≡ 0
low zero h n = refl
low (suc zero) h n = absurd (n refl)
low (suc (suc x)) h n = let l : suc (suc x) < 2 = ltb-true _ _ h in let z : ⊥ = omega arith in absurd z

-- one edition is not the other
pub apart : {A : Type 0} → One ≡ Two → A
apart e = let z : ◌≡◌ {A = ℕ} 0 1 = cc in let no : ⊥ = omega arith in absurd no

letters_none : (kind : Kind) (b : List ℕ) → is_settings kind ≡ true → fault_of outset kind b ≡ 0 → eqb (settings_by (cond (is_second kind) Two One) b).letters 1 ≡ false
    → cond (is_second kind) Two One ≡ Two → get_or b 40 0 ≡ 0
unfolding settings_by settings41_in flags_ok
letters_none Settings b t f h e = apart e
letters_none Settings2 b t f h e =
    let flags : are_flags b 1 3 && are_flags b 40 1 ≡ true = not_back _ (tests outset Settings2 b f).flags in
    let late : ltb (get_or b 40 0) 2 && true ≡ true = (both (are_flags b 1 3) (are_flags b 40 1) flags).1 in
    low (get_or b 40 0) (both (ltb (get_or b 40 0) 2) true late).0 (eqb-false _ _ h)
letters_none End b t f h e = mixed (sym t)
letters_none Variant b t f h e = mixed (sym t)
letters_none Part b t f h e = mixed (sym t)
letters_none Letters b t f h e = mixed (sym t)
letters_none Next b t f h e = mixed (sym t)
letters_none Variant2 b t f h e = mixed (sym t)
letters_none Unknown b t f h e = mixed (sym t)

settings_kind_lem : (e : Edition) (kind : Kind) → is_settings kind ≡ true → kind_in e kind ≡ settings_of e
settings_kind_lem e Settings t = refl
settings_kind_lem e Settings2 t = refl
settings_kind_lem e End t = mixed (sym t)
settings_kind_lem e Variant t = mixed (sym t)
settings_kind_lem e Part t = mixed (sym t)
settings_kind_lem e Letters t = mixed (sym t)
settings_kind_lem e Next t = mixed (sym t)
settings_kind_lem e Variant2 t = mixed (sym t)
settings_kind_lem e Unknown t = mixed (sym t)

-- a job whose `letters` is not 1
abbrev pub Unlettered : List ℕ → Type 0
Unlettered s = eqb (settings_by (edition_of s) (drop 1 s)).letters 1 ≡ false

pub settings_moved : (e : Edition) {s : List ℕ} {c : Counts} → First c s → Unlettered s → settings_by e (drop 1 (moved e s)) ≡ settings_by (edition_of s) (drop 1 s)
settings_moved e {s} {c} (first k body rest l t f o) h =
    let kind : Kind = kind_of k in
    let next : List ℕ = moved_from e rest 0 (next_row kind 0) in
    let new : List ℕ = body_in e kind body 0 in
    let agree : Agree 40 (new ++ next) (body ++ rest) = subst (λ (m : ℕ). Agree m (new ++ next) (body ++ rest)) (shared_settings kind t) (body_agrees e kind body rest next 0 l) in
    ap (λ (q : List ℕ). settings_by e (drop 1 q)) (moved_record e k body rest 0 l)
    ∙ plain e (new ++ next) (λ (z : e ≡ Two). late_zero e kind body next 0 l (settings_kind_lem e kind t ∙ ap settings_of z))
    ∙ settings_agree (new ++ next) (body ++ rest) agree
    ∙ sym (plain (edition_of (k ∷ (body ++ rest))) (body ++ rest) (letters_none kind (body ++ rest) t f h))

-- ---- the numbers from a row on
unfoldable rows_from : ℕ → ℕ → List ℕ
rows_from row zero = []
rows_from row (suc n) = row ∷ rows_from (suc row) n

rows_last : (row n : ℕ) → rows_from row (suc n) ≡ rows_from row n ++ ((row + n) ∷ [])
unfolding rows_from
rows_last row zero = let z : row + 0 ≡ row = omega arith in rw z
rows_last row (suc n) = let z : suc row + n ≡ row + suc n = omega arith in ap (λ (q : List ℕ). row ∷ q) (rows_last (suc row) n ∙ rw z)

rows_are : (n : ℕ) → row_numbers n ≡ rows_from 0 n
unfolding row_numbers rows_from
rows_are zero = refl
rows_are (suc n) = let z : 0 + n ≡ n = omega arith in ap (λ (q : List ℕ). q ++ (n ∷ [])) (rows_are n) ∙ sym (rows_last 0 n ∙ rw z)

rows_stay : (row n : ℕ) → off_row row (rows_from row n) ≡ false
unfolding off_row rows_from
rows_stay row zero = refl
rows_stay row (suc n) = rw (eq-eqb row row refl, rows_stay (suc row) n)

pub own_rows : (n : ℕ) → off_row 0 (row_numbers n) ≡ false
own_rows n = ap (off_row 0) (rows_are n) ∙ rows_stay 0 n

-- ---- a record that has its edition's kind stays as it is
-- the phases of an edition behind its settings
abbrev Own : Edition → ℕ → Type 0
Own One p = (1 ≤ p) × (p ≤ 2)
Own Two p = (2 ≤ p) × (p ≤ 3)

no_settings_lem : (e : Edition) (p : ℕ) → Own e p → (x : Bool) → x && eqb p 0 ≡ true → ⊥
no_settings_lem One p own x h = let z : p ≡ 0 = eqb-true _ _ (both x (eqb p 0) h).1 in omega arith
no_settings_lem Two p own x h = let z : p ≡ 0 = eqb-true _ _ (both x (eqb p 0) h).1 in omega arith

own_kind : (e : Edition) (st : State) (kind : Kind) → Own e st.phase → in_place st kind ≡ true → (kind_in e kind ≡ kind) × (is_settings kind ≡ false)
unfolding in_place
own_kind e st End own h = (refl, refl)
own_kind e st Settings own h = absurd (no_settings_lem e st.phase own (eqb st.left 0) h)
own_kind One st Variant own h = (refl, refl)
own_kind Two st Variant own h = let z : st.phase ≡ 1 = eqb-true _ _ (both (eqb st.left 0) (eqb st.phase 1) h).1 in let no : ⊥ = omega arith in absurd no
own_kind e st Part own h = (refl, refl)
own_kind e st Letters own h = (refl, refl)
own_kind e st Next own h = (refl, refl)
own_kind e st Settings2 own h = absurd (no_settings_lem e st.phase own (eqb st.left 0) h)
own_kind One st Variant2 own h = let z : st.phase ≡ 3 = eqb-true _ _ (both (eqb st.left 0) (eqb st.phase 3) h).1 in let no : ⊥ = omega arith in absurd no
own_kind Two st Variant2 own h = (refl, refl)
own_kind e st Unknown own h = mixed (sym h)

own_two : (e : Edition) → Own e 2
own_two One = (omega arith, omega arith)
own_two Two = (omega arith, omega arith)

own_after : (e : Edition) (st : State) (kind : Kind) (b : List ℕ) → Own e st.phase → is_settings kind ≡ false → Own e (after st kind b).phase
unfolding after
own_after e st End b own h = own
own_after e st Settings b own h = mixed h
own_after e st Variant b own h = own
own_after e st Part b own h = own_two e
own_after e st Letters b own h = own
own_after e st Next b own h = own_two e
own_after e st Settings2 b own h = mixed h
own_after e st Variant2 b own h = own
own_after e st Unknown b own h = own

-- the byte of a kind that is known
abbrev byte_of : Kind → ℕ
byte_of End = 0
byte_of Settings = 1
byte_of Variant = 2
byte_of Part = 3
byte_of Letters = 4
byte_of Next = 5
byte_of Settings2 = 17
byte_of Variant2 = 18
byte_of Unknown = 0

byte_step : (k n : ℕ) (kind rest : Kind) → byte_of kind ≡ n → (is_unknown rest ≡ false → byte_of rest ≡ k) → is_unknown (cond (eqb k n) kind rest) ≡ false
    → byte_of (cond (eqb k n) kind rest) ≡ k
byte_step k n kind rest i more h = go (eqb k n) refl h
  where
    go : (t : Bool) → eqb k n ≡ t → is_unknown (cond t kind rest) ≡ false → byte_of (cond t kind rest) ≡ k
    go true e h = i ∙ sym (eqb-true _ _ e)
    go false e h = more h

byte_back : (k : ℕ) → is_unknown (kind_of k) ≡ false → byte_of (kind_of k) ≡ k
unfolding kind_of
byte_back k = byte_step k 0 End _ refl (byte_step k 1 Settings _ refl (byte_step k 2 Variant _ refl (byte_step k 3 Part _ refl
    (byte_step k 4 Letters _ refl (byte_step k 5 Next _ refl (byte_step k 17 Settings2 _ refl (byte_step k 18 Variant2 Unknown refl (λ h. mixed h))))))))

byte_own : (e : Edition) (k : ℕ) → is_unknown (kind_of k) ≡ false → kind_in e (kind_of k) ≡ kind_of k → byte_in e k ≡ k
byte_own e k u i =
    let u' : is_unknown (kind_of (byte_in e k)) ≡ false = rw (kind_moved e k, i) u in
    sym (byte_back (byte_in e k) u') ∙ ap byte_of (kind_moved e k ∙ i) ∙ byte_back k u

-- a number of four bytes, read and written
-- two halves put together and taken apart
low_half : (l h : ℕ) → l < 65536 → (l + 65536 * h) % 65536 ≡ l
low_half l h p = omega arith

high_half : (l h : ℕ) → l < 65536 → (l + 65536 * h) / 65536 ≡ h
high_half l h p = omega arith

low_byte : (l h : ℕ) → l < 256 → (l + 256 * h) % 256 ≡ l
low_byte l h p = omega arith

high_byte : (l h : ℕ) → l < 256 → h < 256 → (l + 256 * h) / 256 % 256 ≡ h
high_byte l h p q = omega arith

halves : (a b c d : ℕ) → a < 256 → b < 256 → c < 256 → d < 256 → bytes4 (a + 256 * b + 65536 * (c + 256 * d)) ≡ a ∷ b ∷ c ∷ d ∷ []
unfolding bytes4 bytes2
halves a b c d p q r t =
    let small : a + 256 * b < 65536 = omega arith in
    rw (
      low_half (a + 256 * b) (c + 256 * d) small,
      high_half (a + 256 * b) (c + 256 * d) small,
      low_byte a b p,
      high_byte a b p q,
      low_byte c d r,
      high_byte c d r t,
    )

four_bytes : (l : List ℕ) → length l ≡ 4 → AreBytes l → bytes4 (le4 l 0) ≡ l
unfolding bytes4 bytes2 le4 le2
four_bytes [] e h = let no : ⊥ = omega arith in absurd no
four_bytes (a ∷ []) e h = let no : ⊥ = omega arith in absurd no
four_bytes (a ∷ b ∷ []) e h = let no : ⊥ = omega arith in absurd no
four_bytes (a ∷ b ∷ c ∷ []) e h = let no : ⊥ = omega arith in absurd no
four_bytes (a ∷ b ∷ c ∷ d ∷ []) e h = halves a b c d (h 0) (h 1) (h 2) (h 3)
four_bytes (a ∷ b ∷ c ∷ d ∷ x ∷ l) e h = let no : ⊥ = omega arith in absurd no

module _ (body : List ℕ) (long : length body ≡ 29) where
  tail_long : length (drop 25 body) ≡ 4
  tail_long = simp length-drop (omega arith)

  -- a variant of edition 2 whose number is its row
  variant_own : (row : ℕ) → AreBytes body → le4 body 25 ≡ row → take 25 body ++ bytes4 row ≡ body
  unfolding le4 le2
  variant_own row h e =
      let t : le4 (drop 25 body) 0 ≡ row = rw (get_or-drop 25 body 0 0, get_or-drop 25 body 1 0, get_or-drop 25 body 2 0, get_or-drop 25 body 3 0) e in
      let d : AreBytes (drop 25 body) = λ (i : ℕ). rw (get_or-drop 25 body i 0) (h (25 + i)) in
      ap (λ (x : ℕ). take 25 body ++ bytes4 x) (sym t) ∙ ap (λ (q : List ℕ). take 25 body ++ q) (four_bytes (drop 25 body) tail_long d) ∙ take-append-drop 25 body

-- settings of edition 2 without letters
settings_own : (body : List ℕ) → length body ≡ 41 → get_or body 40 0 ≡ 0 → take 40 body ++ (0 ∷ []) ≡ body
settings_own body long z = ap (λ (x : ℕ). take 40 body ++ (x ∷ [])) (sym z) ∙ sym (take-suc body 40 0 (omega arith)) ∙ take_all 41 body (omega arith)

-- what keeps a job of an edition as it is: in edition 2 its numbers are its rows
abbrev pub Same : Edition → List ℕ → ℕ → Type 0
Same One s row = Unit {0}
Same Two s row = (off_row row (gather number_here s 0) ≡ false) × AreBytes s

module _ (k : ℕ) (body rest : List ℕ) where
  bytes_body : AreBytes (k ∷ (body ++ rest)) → (i : ℕ) → i < length body → get_or body i 0 < 256
  bytes_body h i l = rw (sym (get_or-append body rest 0 i l)) (h (suc i))

  bytes_rest : AreBytes (k ∷ (body ++ rest)) → AreBytes rest
  bytes_rest h i = rw (sym (get_or-append-add body rest i 0)) (h (suc (length body + i)))

-- behind the last byte a list has zeros
bytes_all : (l : List ℕ) → ((i : ℕ) → i < length l → get_or l i 0 < 256) → AreBytes l
bytes_all l h i = ⊎_elim
    (λ (t : ltb i (length l) ≡ true). h i (ltb-true _ _ t))
    (λ (t : ltb i (length l) ≡ false). rw (sym (past l i 0 (ltb-false _ _ t))) (omega arith))
    (split (ltb i (length l)))

-- the number of a variant of edition 2
number_there : (body rest : List ℕ) → length body ≡ 29 → number_here Variant2 (body ++ rest) ≡ le4 body 25 ∷ []
unfolding number_here body_len le4 le2
number_there body rest l =
    let h : 29 ≤ length (body ++ rest) = omega (arith, length-append body rest) in
    rw (
      le-ltb (length (body ++ rest)) 29 h,
      get_or-append body rest 0 25 (omega arith),
      get_or-append body rest 0 26 (omega arith),
      get_or-append body rest 0 27 (omega arith),
      get_or-append body rest 0 28 (omega arith),
    )

number_none : (kind : Kind) (b : List ℕ) → is_variant kind ≡ false → number_here kind b ≡ []
unfolding number_here
number_none kind b h = rw h

off_next : (n row : ℕ) (ns : List ℕ) → off_row row (n ∷ ns) ≡ false → (n ≡ row) × (off_row (row + 1) ns ≡ false)
unfolding off_row
off_next n row ns h =
    let p = or_no (not (eqb n row)) (off_row (suc row) ns) h in
    (eqb-true _ _ (not_back (eqb n row) p.0), rw (add-one row) p.1)

-- one record
record Stays (e : Edition) (kind : Kind) (body rest : List ℕ) (row : ℕ) : Type 0 where
  body_is : body_in e kind body row ≡ body
  rest_is : Same e rest (next_row kind row)

common : (e : Edition) (kind : Kind) (body rest : List ℕ) (row : ℕ) → length body ≡ body_len kind → is_settings kind ≡ false → is_variant kind ≡ false
    → Same e rest row → Stays e kind body rest row
unfolding shared_len added_in next_row
common One kind body rest row l s v same = record { body_is = rw (s, v) (append-nil (take (body_len kind) body) ∙ take_all (body_len kind) body (omega arith)); rest_is = tt }
common Two kind body rest row l s v same = record { body_is = rw (s, v) (append-nil (take (body_len kind) body) ∙ take_all (body_len kind) body (omega arith)); rest_is = rw v same }

stays_one : (k : ℕ) (body rest : List ℕ) (row : ℕ) → (kind : Kind) → kind_of k ≡ kind → length body ≡ body_len kind → kind_in One kind ≡ kind → is_settings kind ≡ false
    → Stays One kind body rest row
unfolding shared_len added_in body_len
stays_one k body rest row Variant i l own s = record { body_is = append-nil (take 25 body) ∙ take_all 25 body (omega arith); rest_is = tt }
stays_one k body rest row Variant2 i l own s = mixed (ap is_second (sym own))
stays_one k body rest row Settings i l own s = mixed s
stays_one k body rest row Settings2 i l own s = mixed s
stays_one k body rest row End i l own s = common One End body rest row l refl refl tt
stays_one k body rest row Part i l own s = common One Part body rest row l refl refl tt
stays_one k body rest row Letters i l own s = common One Letters body rest row l refl refl tt
stays_one k body rest row Next i l own s = common One Next body rest row l refl refl tt
stays_one k body rest row Unknown i l own s = common One Unknown body rest row l refl refl tt

module _ (k : ℕ) (body rest : List ℕ) (row : ℕ) (same : Same Two (k ∷ (body ++ rest)) row) where
  others : (kind : Kind) → kind_of k ≡ kind → length body ≡ body_len kind → is_settings kind ≡ false → is_variant kind ≡ false → Stays Two kind body rest row
  others kind i l s v =
      let e : gather number_here (k ∷ (body ++ rest)) 0 ≡ gather number_here rest 0 =
      gather_record number_here k kind body rest i l ∙ ap (λ (q : List ℕ). q ++ gather number_here rest 0) (number_none kind (body ++ rest) v) in
      common Two kind body rest row l s v (ap (off_row row) (sym e) ∙ same.0, bytes_rest k body rest same.1)

  numbered : kind_of k ≡ Variant2 → length body ≡ 29 → Stays Two Variant2 body rest row
  unfolding body_len shared_len added_in next_row
  numbered i l =
      let e : gather number_here (k ∷ (body ++ rest)) 0 ≡ le4 body 25 ∷ gather number_here rest 0 =
      gather_record number_here k Variant2 body rest i l ∙ ap (λ (q : List ℕ). q ++ gather number_here rest 0) (number_there body rest l) in
      let p = off_next (le4 body 25) row (gather number_here rest 0) (ap (off_row row) (sym e) ∙ same.0) in
      record {
        body_is = variant_own body l row (bytes_all body (bytes_body k body rest same.1)) p.0;
        rest_is = (p.1, bytes_rest k body rest same.1);
      }

  stays_two : (kind : Kind) → kind_of k ≡ kind → length body ≡ body_len kind → kind_in Two kind ≡ kind → is_settings kind ≡ false → Stays Two kind body rest row
  unfolding body_len
  stays_two Variant i l own s = mixed (ap is_second own)
  stays_two Variant2 i l own s = numbered i l
  stays_two Settings i l own s = mixed s
  stays_two Settings2 i l own s = mixed s
  stays_two End i l own s = others End i l refl refl
  stays_two Part i l own s = others Part i l refl refl
  stays_two Letters i l own s = others Letters i l refl refl
  stays_two Next i l own s = others Next i l refl refl
  stays_two Unknown i l own s = others Unknown i l refl refl

record_stays : (e : Edition) (k : ℕ) (body rest : List ℕ) (row : ℕ) → length body ≡ body_len (kind_of k) → kind_in e (kind_of k) ≡ kind_of k → is_settings (kind_of k) ≡ false
    → Same e (k ∷ (body ++ rest)) row → Stays e (kind_of k) body rest row
record_stays One k body rest row l own s same = stays_one k body rest row (kind_of k) refl l own s
record_stays Two k body rest row l own s same = stays_two k body rest row same (kind_of k) refl l own s

stays : (e : Edition) {st : State} {s : List ℕ} {c : Counts} → Ordered st s c → Own e st.phase → (row : ℕ) → Same e s row → moved_from e s 0 row ≡ s
stays e {st} {s} {c} (ends k i f n) own row same = moved_end e k row i
stays e {st} {s} {c} (goes k body rest l g f o) own row same =
    let kind : Kind = kind_of k in
    let p = own_kind e st kind own (none_placed st kind (body ++ rest) f) in
    let t = record_stays e k body rest row l p.0 p.1 same in
    moved_record e k body rest row l
    ∙ rw (byte_own e k (tests st kind (body ++ rest) f).known p.0, t.body_is, stays e o (own_after e st kind (body ++ rest) own p.1) (next_row kind row) t.rest_is)

-- ---- the whole job stays as it is in its own edition
settings_stay : (e : Edition) (kind : Kind) (body : List ℕ) → length body ≡ body_len kind → is_settings kind ≡ true → cond (is_second kind) Two One ≡ e
    → (e ≡ Two → get_or body 40 0 ≡ 0) → (kind_in e kind ≡ kind) × (body_in e kind body 0 ≡ body)
unfolding shared_len added_in body_len
settings_stay One Settings body l t i z = (refl, append-nil (take 40 body) ∙ take_all 40 body (omega arith))
settings_stay Two Settings2 body l t i z = (refl, settings_own body l (z refl))
settings_stay Two Settings body l t i z = apart i
settings_stay One Settings2 body l t i z = apart (sym i)
settings_stay e End body l t i z = mixed (sym t)
settings_stay e Variant body l t i z = mixed (sym t)
settings_stay e Part body l t i z = mixed (sym t)
settings_stay e Letters body l t i z = mixed (sym t)
settings_stay e Next body l t i z = mixed (sym t)
settings_stay e Variant2 body l t i z = mixed (sym t)
settings_stay e Unknown body l t i z = mixed (sym t)

own_begun : (kind : Kind) (b : List ℕ) → is_settings kind ≡ true → Own (cond (is_second kind) Two One) (after outset kind b).phase
unfolding after
own_begun Settings b t = (omega arith, omega arith)
own_begun Settings2 b t = (omega arith, omega arith)
own_begun End b t = mixed (sym t)
own_begun Variant b t = mixed (sym t)
own_begun Part b t = mixed (sym t)
own_begun Letters b t = mixed (sym t)
own_begun Next b t = mixed (sym t)
own_begun Variant2 b t = mixed (sym t)
own_begun Unknown b t = mixed (sym t)

-- no record number stands in the settings
rest_same : (e : Edition) (k : ℕ) (body rest : List ℕ) → length body ≡ body_len (kind_of k) → is_variant (kind_of k) ≡ false → Same e (k ∷ (body ++ rest)) 0 → Same e rest 0
rest_same One k body rest l v same = tt
rest_same Two k body rest l v same =
    let e : gather number_here (k ∷ (body ++ rest)) 0 ≡ gather number_here rest 0 =
    gather_record number_here k (kind_of k) body rest refl l ∙ ap (λ (q : List ℕ). q ++ gather number_here rest 0) (number_none (kind_of k) (body ++ rest) v) in
    (ap (off_row 0) (sym e) ∙ same.0, bytes_rest k body rest same.1)

settings_no_variant : (kind : Kind) → is_settings kind ≡ true → is_variant kind ≡ false
settings_no_variant Settings t = refl
settings_no_variant Settings2 t = refl
settings_no_variant End t = mixed (sym t)
settings_no_variant Variant t = mixed (sym t)
settings_no_variant Part t = mixed (sym t)
settings_no_variant Letters t = mixed (sym t)
settings_no_variant Next t = mixed (sym t)
settings_no_variant Variant2 t = mixed (sym t)
settings_no_variant Unknown t = mixed (sym t)

front_letters : (kind : Kind) (body rest : List ℕ) → length body ≡ body_len kind → is_settings kind ≡ true → cond (is_second kind) Two One ≡ Two
    → get_or (body ++ rest) 40 0 ≡ 0 → get_or body 40 0 ≡ 0
unfolding body_len
front_letters Settings body rest l t i z = apart i
front_letters Settings2 body rest l t i z = sym (get_or-append body rest 0 40 (omega arith)) ∙ z
front_letters End body rest l t i z = mixed (sym t)
front_letters Variant body rest l t i z = mixed (sym t)
front_letters Part body rest l t i z = mixed (sym t)
front_letters Letters body rest l t i z = mixed (sym t)
front_letters Next body rest l t i z = mixed (sym t)
front_letters Variant2 body rest l t i z = mixed (sym t)
front_letters Unknown body rest l t i z = mixed (sym t)

row_kept : (e : Edition) (kind : Kind) (rest : List ℕ) (row : ℕ) → is_variant kind ≡ false → Same e rest row → Same e rest (next_row kind row)
unfolding next_row
row_kept e kind rest row v same = rw v same

pub stays_whole : {s : List ℕ} {c : Counts} → First c s → Unlettered s → Same (edition_of s) s 0 → moved (edition_of s) s ≡ s
stays_whole {s} {c} (first k body rest l t f o) h same =
    let kind : Kind = kind_of k in
    let e : Edition = edition_of (k ∷ (body ++ rest)) in
    let v : is_variant kind ≡ false = settings_no_variant kind t in
    let p = settings_stay e kind body l t refl (λ (z : e ≡ Two). front_letters kind body rest l t z (letters_none kind (body ++ rest) t f h z)) in
    let same' : Same e rest (next_row kind 0) = row_kept e kind rest 0 v (rest_same e k body rest l v same) in
    moved_record e k body rest 0 l
    ∙ rw (byte_own e k (tests outset kind (body ++ rest) f).known p.0, p.1, stays e o (own_begun kind (body ++ rest) t) (next_row kind 0) same')

-- ---- moving twice comes to the second move
shared_in : (e : Edition) (kind : Kind) → shared_len (kind_in e kind) ≡ shared_len kind
unfolding shared_len
shared_in One Settings = refl
shared_in Two Settings = refl
shared_in One Settings2 = refl
shared_in Two Settings2 = refl
shared_in One Variant = refl
shared_in Two Variant = refl
shared_in One Variant2 = refl
shared_in Two Variant2 = refl
shared_in e End = refl
shared_in e Part = refl
shared_in e Letters = refl
shared_in e Next = refl
shared_in e Unknown = refl

added_in_lem : (d e : Edition) (kind : Kind) (row : ℕ) → added_in d (kind_in e kind) row ≡ added_in d kind row
unfolding added_in
added_in_lem One e kind row = refl
added_in_lem Two e kind row = rw ((sorted e kind).settings, (sorted e kind).variant)

row_in : (e : Edition) (kind : Kind) (row : ℕ) → next_row (kind_in e kind) row ≡ next_row kind row
unfolding next_row
row_in e kind row = rw (sorted e kind).variant

byte_in_lem : (d e : Edition) (k : ℕ) → byte_in d (byte_in e k) ≡ byte_in d k
unfolding byte_in
byte_in_lem d e k =
    ap (λ (kind : Kind). cond (is_settings kind) (settings_byte d) (cond (is_variant kind) (variant_byte d) (byte_in e k))) (kind_moved e k)
    ∙ rw ((sorted e (kind_of k)).settings, (sorted e (kind_of k)).variant) (go (is_settings (kind_of k)) (is_variant (kind_of k)))
  where
    go : (t u : Bool) → cond t (settings_byte d) (cond u (variant_byte d) (cond t (settings_byte e) (cond u (variant_byte e) k))) ≡ cond t (settings_byte d) (cond u (variant_byte d) k)
    go true u = refl
    go false true = refl
    go false false = refl

body_in_lem : (d e : Edition) (kind : Kind) (body : List ℕ) (row : ℕ) → length body ≡ body_len kind → body_in d (kind_in e kind) (body_in e kind body row) row ≡ body_in d kind body row
body_in_lem d e kind body row l =
    let h : shared_len kind ≤ length body = rw l (shared_within kind) in
    rw (shared_in e kind, added_in_lem d e kind row, take_at (take (shared_len kind) body) (added_in e kind row) (shared_len kind) (length-take-le (shared_len kind) body h))

pub moved_twice : (d e : Edition) {st : State} {s : List ℕ} {c : Counts} → Ordered st s c → (row : ℕ) → moved_from d (moved_from e s 0 row) 0 row ≡ moved_from d s 0 row
moved_twice d e {st} {s} {c} (ends k i f n) row = ap (λ (q : List ℕ). moved_from d q 0 row) (moved_end e k row i)
moved_twice d e {st} {s} {c} (goes k body rest l g f o) row =
    let kind : Kind = kind_of k in
    let next : List ℕ = moved_from e rest 0 (next_row kind row) in
    let new : List ℕ = body_in e kind body row in
    let i : kind_of (byte_in e k) ≡ kind_in e kind = kind_moved e k in
    let long : length new ≡ body_len (kind_of (byte_in e k)) = rw i (long_body e kind body row l) in
    ap (λ (q : List ℕ). moved_from d q 0 row) (moved_record e k body rest row l)
    ∙ moved_record d (byte_in e k) new next row long
    ∙ rw (i, row_in e kind row, byte_in_lem d e k, body_in_lem d e kind body row l, moved_twice d e o (next_row kind row)) (sym (moved_record d k body rest row l))

-- ---- edition 2 is longer
-- settings are still to come
abbrev fresh : ℕ → ℕ
fresh p = cond (eqb p 0) 1 0

fresh_none : (p : ℕ) → ltb 0 p ≡ true → fresh p ≡ 0
fresh_none p h = let l : 0 < p = ltb-true _ _ h in let z : p ≡ 0 → ⊥ = λ e. omega arith in rw (ne_eqb p 0 z)

fresh_after : (st : State) (kind : Kind) (b : List ℕ) → in_place st kind ≡ true → is_end kind ≡ false → fresh st.phase ≡ cond (is_settings kind) 1 0 + fresh (after st kind b).phase
unfolding in_place after
fresh_after st End b h g = mixed g
fresh_after st Settings b h g = rw (both (eqb st.left 0) (eqb st.phase 0) h).1
fresh_after st Variant b h g = omega arith
fresh_after st Part b h g = fresh_none st.phase (both (eqb st.left 0) (ltb 0 st.phase) h).1
fresh_after st Letters b h g = omega arith
fresh_after st Next b h g = fresh_none st.phase (both (eqb st.left 0) (ltb 0 st.phase) h).1
fresh_after st Settings2 b h g = rw (both (eqb st.left 0) (eqb st.phase 0) h).1
fresh_after st Variant2 b h g = omega arith
fresh_after st Unknown b h g = mixed (sym h)

longer_kind : (kind : Kind) → body_len (kind_in Two kind) ≡ body_len (kind_in One kind) + (cond (is_settings kind) 1 0 + 4 * cond (is_variant kind) 1 0)
unfolding body_len
longer_kind End = refl
longer_kind Settings = refl
longer_kind Variant = refl
longer_kind Part = refl
longer_kind Letters = refl
longer_kind Next = refl
longer_kind Settings2 = refl
longer_kind Variant2 = refl
longer_kind Unknown = refl

one_variant : (kind : Kind) (body rest : List ℕ) → length body ≡ body_len kind → length (variant_here kind (body ++ rest)) ≡ cond (is_variant kind) 1 0
unfolding variant_here
one_variant kind body rest l =
    let h : body_len kind ≤ length (body ++ rest) = omega (arith, length-append body rest) in
    rw (le-ltb (length (body ++ rest)) (body_len kind) h) (go (is_variant kind))
  where
    go : (t : Bool) → length (cond t (variant_of kind (body ++ rest) ∷ []) []) ≡ cond t 1 0
    go true = refl
    go false = refl

variants_count : (k : ℕ) (body rest : List ℕ) → length body ≡ body_len (kind_of k)
    → length (gather variant_here (k ∷ (body ++ rest)) 0) ≡ cond (is_variant (kind_of k)) 1 0 + length (gather variant_here rest 0)
variants_count k body rest l =
    ap length (gather_record variant_here k (kind_of k) body rest refl l) ∙ length-append (variant_here (kind_of k) (body ++ rest)) (gather variant_here rest 0)
    ∙ ap (λ (n : ℕ). n + length (gather variant_here rest 0)) (one_variant (kind_of k) body rest l)

end_variants : (k : ℕ) → kind_of k ≡ End → gather variant_here (k ∷ []) 0 ≡ []
unfolding gather variant_here
end_variants k i = rw i

long_record : (e : Edition) (k : ℕ) (body rest : List ℕ) (row : ℕ) → length body ≡ body_len (kind_of k)
    → length (moved_from e (k ∷ (body ++ rest)) 0 row) ≡ suc (body_len (kind_in e (kind_of k)) + length (moved_from e rest 0 (next_row (kind_of k) row)))
long_record e k body rest row l =
    ap length (moved_record e k body rest row l)
    ∙ ap suc (length-append (body_in e (kind_of k) body row) (moved_from e rest 0 (next_row (kind_of k) row)) ∙ rw (long_body e (kind_of k) body row l))

longer : {st : State} {s : List ℕ} {c : Counts} → Ordered st s c → (row : ℕ)
    → length (moved_from Two s 0 row) ≡ length (moved_from One s 0 row) + (fresh st.phase + 4 * length (gather variant_here s 0))
unfolding in_place
longer {st} {s} {c} (ends k i f n) row =
    let h : eqb st.left 0 && ltb 0 st.phase ≡ true = none_placed st End [] f in
    rw (moved_end Two k row i, moved_end One k row i, end_variants k i, fresh_none st.phase (both (eqb st.left 0) (ltb 0 st.phase) h).1)
longer {st} {s} {c} (goes k body rest l g f o) row =
    let kind : Kind = kind_of k in
    let two = long_record Two k body rest row l in
    let one = long_record One k body rest row l in
    let more = longer_kind kind in
    let count = variants_count k body rest l in
    let turn = fresh_after st kind (body ++ rest) (none_placed st kind (body ++ rest) f) g in
    let ih = longer o (next_row kind row) in
    omega (arith, two, one, more, count, turn, ih)

pub longer_whole : {s : List ℕ} {c : Counts} → Ordered outset s c → length (moved Two s) ≡ length (moved One s) + (1 + 4 * length (gather variant_here s 0))
longer_whole o = longer o 0

-- ---- the record numbers of edition 2 are the rows
four_behind : (xs ys : List ℕ) → length xs ≡ 25 → le4 (xs ++ ys) 25 ≡ le4 ys 0
unfolding le4 le2
four_behind xs ys l =
    let at : (i : ℕ) → get_or (xs ++ ys) (25 + i) 0 ≡ get_or ys i 0 = λ (i : ℕ). ap (λ (n : ℕ). get_or (xs ++ ys) (n + i) 0) (sym l) ∙ get_or-append-add xs ys i 0 in
    rw (at 0, at 1, at 2, at 3)

four_read : (x : ℕ) (rest : List ℕ) → x < 4294967296 → le4 (bytes4 x ++ rest) 0 ≡ x
unfolding le4 le2 bytes4 bytes2
four_read x rest h = four_back x h

number_new : (body rest : List ℕ) (row : ℕ) → length body ≡ 25 → row < 4294967296 → number_here Variant2 ((body ++ bytes4 row) ++ rest) ≡ row ∷ []
unfolding number_here body_len
number_new body rest row l h =
    let w : 29 ≤ length ((body ++ bytes4 row) ++ rest) = omega (arith, length-append (body ++ bytes4 row) rest, length-append body (bytes4 row), long4 row) in
    rw (le-ltb (length ((body ++ bytes4 row) ++ rest)) 29 w, append_assoc body (bytes4 row) rest, four_behind body (bytes4 row ++ rest) l, four_read row rest h)

numbers_here : (kind : Kind) (body rest : List ℕ) (row : ℕ) → length body ≡ body_len kind → row < 4294967296
    → number_here (kind_in Two kind) (body_in Two kind body row ++ rest) ≡ cond (is_variant kind) (row ∷ []) []
unfolding shared_len body_len added_in
numbers_here Variant body rest row l h = number_new (take 25 body) rest row (length-take-le 25 body (omega arith)) h
numbers_here Variant2 body rest row l h = number_new (take 25 body) rest row (length-take-le 25 body (omega arith)) h
numbers_here End body rest row l h = number_none End (body_in Two End body row ++ rest) refl
numbers_here Settings body rest row l h = number_none Settings2 (body_in Two Settings body row ++ rest) refl
numbers_here Part body rest row l h = number_none Part (body_in Two Part body row ++ rest) refl
numbers_here Letters body rest row l h = number_none Letters (body_in Two Letters body row ++ rest) refl
numbers_here Next body rest row l h = number_none Next (body_in Two Next body row ++ rest) refl
numbers_here Settings2 body rest row l h = number_none Settings2 (body_in Two Settings2 body row ++ rest) refl
numbers_here Unknown body rest row l h = number_none Unknown (body_in Two Unknown body row ++ rest) refl

end_numbers : (k : ℕ) → kind_of k ≡ End → gather number_here (k ∷ []) 0 ≡ []
unfolding gather number_here
end_numbers k i = rw i

-- a row, where the record is a variant, and those behind it
rows_next : (t : Bool) (row n m : ℕ) → m ≡ cond t 1 0 + n → cond t (row ∷ []) [] ++ rows_from (cond t (row + 1) row) n ≡ rows_from row m
unfolding rows_from
rows_next true row n m e = let z : m ≡ suc n = omega arith in rw (z, add-one row)
rows_next false row n m e = let z : m ≡ n = omega arith in rw z

row_room : (t : Bool) (row n m : ℕ) → m ≡ cond t 1 0 + n → row + m ≤ 4294967296 → cond t (row + 1) row + n ≤ 4294967296
row_room true row n m e h = omega arith
row_room false row n m e h = omega arith

row_here : (t : Bool) (kind : Kind) → is_variant kind ≡ t → (body rest : List ℕ) (row : ℕ) → length body ≡ body_len kind
    → (n m : ℕ) → m ≡ cond t 1 0 + n → row + m ≤ 4294967296
    → number_here (kind_in Two kind) (body_in Two kind body row ++ rest) ≡ cond t (row ∷ []) []
row_here true kind i body rest row l n m e h = numbers_here kind body rest row l (omega arith) ∙ rw i
row_here false kind i body rest row l n m e h = number_none (kind_in Two kind) (body_in Two kind body row ++ rest) ((sorted Two kind).variant ∙ i)

numbers_by_lem : {st : State} {s : List ℕ} {c : Counts} → Ordered st s c → (row : ℕ) → row + length (gather variant_here s 0) ≤ 4294967296
    → gather number_here (moved_from Two s 0 row) 0 ≡ rows_from row (length (gather variant_here s 0))
unfolding next_row rows_from
numbers_by_lem {st} {s} {c} (ends k i f n) row h = rw (moved_end Two k row i, end_variants k i, end_numbers k i)
numbers_by_lem {st} {s} {c} (goes k body rest l g f o) row h =
    let kind : Kind = kind_of k in
    let next : List ℕ = moved_from Two rest 0 (next_row kind row) in
    let v : ℕ = length (gather variant_here rest 0) in
    let count : length (gather variant_here (k ∷ (body ++ rest)) 0) ≡ cond (is_variant kind) 1 0 + v = variants_count k body rest l in
    let here : number_here (kind_in Two kind) (body_in Two kind body row ++ next) ≡ cond (is_variant kind) (row ∷ []) [] = row_here (is_variant kind) kind refl body next row l v _ count h in
    ap (λ (q : List ℕ). gather number_here q 0) (moved_record Two k body rest row l)
    ∙ gather_record number_here (byte_in Two k) (kind_in Two kind) (body_in Two kind body row) next (kind_moved Two k) (long_body Two kind body row l)
    ∙ rw (here, numbers_by_lem o (next_row kind row) (row_room (is_variant kind) row v _ count h)) (rows_next (is_variant kind) row v _ count)

pub numbers_new : {s : List ℕ} {c : Counts} → Ordered outset s c → length (gather variant_here s 0) ≤ 4294967296
    → gather number_here (moved Two s) 0 ≡ row_numbers (length (gather variant_here s 0))
numbers_new {s} {c} o h = numbers_by_lem o 0 (omega arith) ∙ sym (rows_are (length (gather variant_here s 0)))
