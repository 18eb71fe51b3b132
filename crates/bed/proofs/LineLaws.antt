-- A line's text says its name and its numbers, and no other line says them. Assumes nothing.
use Prim.Native.Nat.{ℕ, zero, suc, ◌+◌, ◌-◌, ◌*◌, ◌/◌, ◌%◌, ◌^◌, ◌≤◌, ◌<◌}
use native.Mathlib.Omega.{arith}
use native.Mathlib.Nat.{pow-suc}
use mathlib.Core.Path.{◌≡◌, refl, sym, ap, subst, ◌∙◌}
use mathlib.Core.Bool.{Bool, true, false, cond, ◌&&◌}
use mathlib.Core.List.{List, [], ◌∷◌, ◌++◌, append_assoc}
use lib.Dec.{leb, ltb, eqb}
use lib.ListN.{length, drop, length-append}
use lib.Pointwise.{pointwise}
use borrow.Author.Tests.{eq-eqb, ne_eqb, eqb-true, ltb-true, lt-ltb, leb-true}
use Rattle.paths.proofs.BooleanLaws.{clash, and_both}
use Rattle.text.specs.Text.{digits_within}
use Rattle.text.proofs.TextLaws.{digits_short}
use Rattle.bed.specs.Bed.{printable, good_name, bed_line, decimal64, tab, newline}
use Rattle.bed.specs.Reading.{same_bytes, up_to, behind_first, value_from, value_of, name_in, start_in, end_in, good_line}
use Rattle.bed.specs.Steps.{Reads64, Judged}
use Rattle.bed.specs.declared.lines.Bounds.{Bounds}
use Rattle.std.specs.Prelude.{Option, Some, None}

pub same_self : (a : List ℕ) → same_bytes a a ≡ true
unfolding same_bytes
same_self [] = refl
same_self (x ∷ a) = rw (eq-eqb x x refl) (same_self a)

pub same_is : (a b : List ℕ) → same_bytes a b ≡ true → a ≡ b
unfolding same_bytes
same_is [] [] h = refl
same_is [] (y ∷ b) h = absurd (clash false refl h)
same_is (x ∷ a) [] h = absurd (clash false refl h)
same_is (x ∷ a) (y ∷ b) h =
    let both = and_both (eqb x y) (same_bytes a b) h in
    let p = eqb-true x y both.0 in
    let q = same_is a b both.1 in
    cc

-- the library's test of two slices
pub same_pointwise : (a b : List ℕ) → pointwise eqb a b ≡ same_bytes a b
unfolding same_bytes
same_pointwise [] [] = refl
same_pointwise [] (y ∷ b) = refl
same_pointwise (x ∷ a) [] = refl
same_pointwise (x ∷ a) (y ∷ b) = ap (λ (t : Bool). eqb x y && t) (same_pointwise a b)

-- ---- bytes that are none of b

abbrev Free : ℕ → List ℕ → Type 0
Free b [] = Unit {0}
Free b (x ∷ xs) = (x ≡ b → ⊥) × Free b xs

free_append : (b : ℕ) (xs ys : List ℕ) → Free b xs → Free b ys → Free b (xs ++ ys)
free_append b [] ys p q = q
free_append b (x ∷ xs) ys p q = (p.0, free_append b xs ys p.1 q)

pub free_name : (b : ℕ) (name : List ℕ) → b < 33 → printable name ≡ true → Free b name
unfolding printable
free_name b [] l h = tt
free_name b (x ∷ name) l h =
    let both = and_both (leb 33 x && leb x 126) (printable name) h in
    let low = leb-true 33 x (and_both (leb 33 x) (leb x 126) both.0).0 in
    ((λ e. omega arith), free_name b name l both.1)

pub free_digits : (b left n : ℕ) → b < 48 → Free b (digits_within left n)
unfolding digits_within
free_digits b zero n l = tt
free_digits b (suc left) n l = go (ltb n 10) (free_digits b left (n / 10) l)
  where
    go : (t : Bool) → Free b (digits_within left (n / 10)) → Free b (cond t ((48 + n) ∷ []) (digits_within left (n / 10) ++ ((48 + n % 10) ∷ [])))
    go true h = ((λ e. omega arith), tt)
    go false h = free_append b (digits_within left (n / 10)) ((48 + n % 10) ∷ []) h ((λ e. omega arith), tt)

up_at : (b : ℕ) (xs ys : List ℕ) → Free b xs → up_to b (xs ++ b ∷ ys) ≡ xs
unfolding up_to
up_at b [] ys f = rw (eq-eqb b b refl)
up_at b (x ∷ xs) ys f = rw (ne_eqb x b f.0) (ap (λ (l : List ℕ). x ∷ l) (up_at b xs ys f.1))

behind_at : (b : ℕ) (xs ys : List ℕ) → Free b xs → behind_first b (xs ++ b ∷ ys) ≡ ys
unfolding behind_first
behind_at b xs ys f = rw (up_at b xs ys f) (go xs)
  where
    go : (xs : List ℕ) → drop (suc (length xs)) (xs ++ b ∷ ys) ≡ ys
    go [] = refl
    go (x ∷ xs) = go xs

-- ---- digits and their value

value_snoc : (v : ℕ) (xs : List ℕ) (d : ℕ) → value_from v (xs ++ (d ∷ [])) ≡ value_from v xs * 10 + (d - 48)
unfolding value_from
value_snoc v [] d = refl
value_snoc v (x ∷ xs) d = value_snoc (v * 10 + (x - 48)) xs d

digits_value : (left n : ℕ) → n < 10 ^ left → value_of (digits_within left n) ≡ n
unfolding digits_within value_from
digits_value zero n h = omega arith
digits_value (suc left) n h = go (ltb n 10) refl (digits_value left (n / 10))
  where
    go : (t : Bool) → ltb n 10 ≡ t → (n / 10 < 10 ^ left → value_of (digits_within left (n / 10)) ≡ n / 10)
        → value_of (cond t ((48 + n) ∷ []) (digits_within left (n / 10) ++ ((48 + n % 10) ∷ []))) ≡ n
    go true e k = omega arith
    go false e k =
        let p = pow-suc 10 left in
        let less : n / 10 < 10 ^ left = omega arith in
        let ih = k less in
        value_snoc 0 (digits_within left (n / 10)) (48 + n % 10) ∙ rw ih (omega arith)

pub decimal_value : (n : ℕ) → n < 18446744073709551616 → value_of (decimal64 n) ≡ n
decimal_value n h = digits_value 20 n (omega arith)

-- ---- a line

pub name_parts : (name : List ℕ) → good_name name ≡ true → (1 ≤ length name) × ((length name ≤ 32) × (printable name ≡ true))
unfolding good_name
name_parts name h =
    let a = and_both (leb 1 (length name)) (leb (length name) 32 && printable name) h in
    let b = and_both (leb (length name) 32) (printable name) a.1 in
    (leb-true 1 (length name) a.0, (leb-true (length name) 32 b.0, b.1))

pub line_short : (name : List ℕ) (start end : ℕ) → good_name name ≡ true → length (bed_line name start end) ≤ 75
unfolding bed_line
line_short name start end h =
    let n = (name_parts name h).1.0 in
    let s = digits_short 20 start in
    let e = digits_short 20 end in
    simp length-append (omega arith)

module _ (name : List ℕ) (start end : ℕ) (good : good_name name ≡ true) where
  free : (b : ℕ) → b < 33 → Free b name
  free b l = free_name b name l (name_parts name good).1.1

  abbrev ending : List ℕ
  ending = decimal64 end ++ (newline ∷ [])

  abbrev behind_name : List ℕ
  behind_name = decimal64 start ++ (tab ∷ ending)

  line_right : bed_line name start end ≡ name ++ (tab ∷ behind_name)
  unfolding bed_line
  line_right = simp append_assoc

  pub name_said : name_in (bed_line name start end) ≡ name
  name_said = ap name_in line_right ∙ up_at tab name behind_name (free tab (omega arith))

  behind_name_lem : behind_first tab (bed_line name start end) ≡ behind_name
  behind_name_lem = ap (behind_first tab) line_right ∙ behind_at tab name behind_name (free tab (omega arith))

  pub start_said : start < 18446744073709551616 → start_in (bed_line name start end) ≡ start
  start_said h =
      ap (λ (l : List ℕ). value_of (up_to tab l)) behind_name_lem ∙ ap value_of (up_at tab (decimal64 start) ending (free_digits tab 20 start (omega arith))) ∙ decimal_value start h

  pub end_said : end < 18446744073709551616 → end_in (bed_line name start end) ≡ end
  end_said h =
      ap (λ (l : List ℕ). value_of (up_to newline (behind_first tab l))) behind_name_lem
      ∙ ap (λ (l : List ℕ). value_of (up_to newline l)) (behind_at tab (decimal64 start) ending (free_digits tab 20 start (omega arith)))
      ∙ ap value_of (up_at newline (decimal64 end) [] (free_digits newline 20 end (omega arith)))
      ∙ decimal_value end h

  -- a line's only newline ends it
  pub line_ends : (rest : List ℕ) → up_to newline (bed_line name start end ++ rest) ≡ name ++ (tab ∷ (decimal64 start ++ (tab ∷ decimal64 end)))
  line_ends rest =
      ap (λ (l : List ℕ). up_to newline (l ++ rest)) line_right
      ∙ ap (up_to newline) (simp append_assoc)
      ∙ up_at newline (name ++ (tab ∷ (decimal64 start ++ (tab ∷ decimal64 end)))) rest
      (free_append newline name (tab ∷ (decimal64 start ++ (tab ∷ decimal64 end))) (free newline (omega arith)) (
        (λ e. omega arith),
        free_append newline (decimal64 start) (tab ∷ decimal64 end) (free_digits newline 20 start (omega arith))
            ((λ e. omega arith), free_digits newline 20 end (omega arith)),
      ))

  pub line_whole : bed_line name start end ≡ name ++ (tab ∷ (decimal64 start ++ (tab ∷ decimal64 end))) ++ (newline ∷ [])
  line_whole = line_right ∙ simp append_assoc

  -- its name stands before the first tab, whatever follows
  pub name_first : (rest : List ℕ) → name_in (bed_line name start end ++ rest) ≡ name
  name_first rest =
      ap (λ (l : List ℕ). up_to tab (l ++ rest)) line_right ∙ ap (up_to tab) (simp append_assoc) ∙ up_at tab name (behind_name ++ rest) (free tab (omega arith))

-- what a good line is made of
pub record Said (line : List ℕ) : Type 0 where
  pub name : good_name (name_in line) ≡ true
  pub start : start_in line < 18446744073709551616
  pub end : end_in line < 18446744073709551616
  pub text : line ≡ bed_line (name_in line) (start_in line) (end_in line)

pub good_said : (line : List ℕ) → good_line line ≡ true → Said line
unfolding good_line
good_said line h =
    let own = bed_line (name_in line) (start_in line) (end_in line) in
    let a = and_both (good_name (name_in line)) (ltb (start_in line) 18446744073709551616 && (ltb (end_in line) 18446744073709551616 && same_bytes line own)) h in
    let b = and_both (ltb (start_in line) 18446744073709551616) (ltb (end_in line) 18446744073709551616 && same_bytes line own) a.1 in
    let d = and_both (ltb (end_in line) 18446744073709551616) (same_bytes line own) b.1 in
    record {
      name = a.0;
      start = ltb-true (start_in line) 18446744073709551616 b.0;
      end = ltb-true (end_in line) 18446744073709551616 d.0;
      text = same_is line own d.1;
    }

pub said_good : (line : List ℕ) → Said line → good_line line ≡ true
unfolding good_line
said_good line s =
    rw (s.name, lt-ltb (start_in line) 18446744073709551616 s.start, lt-ltb (end_in line) 18446744073709551616 s.end)
    (ap (same_bytes line) (sym s.text) ∙ same_self line)

-- the text of a good name and of numbers that fit is a good line
pub line_good : (name : List ℕ) (start end : ℕ) → good_name name ≡ true → start < 18446744073709551616 → end < 18446744073709551616
    → Said (bed_line name start end)
line_good name start end g p q =
    let n = name_said name start end g in
    let s = start_said name start end g p in
    let e = end_said name start end g q in
    record { name = ap good_name n ∙ g; start = rw s p; end = rw e q; text = sym (rw (n, s, e) refl) }

-- ---- what the code finds of a line

pub judged_as : {xs ys : List ℕ} (r : Option Bounds) → xs ≡ ys → Judged xs r → Judged ys r
judged_as {xs} {ys} r e p = subst (λ (l : List ℕ). Judged l r) e p

pub reads_as : {xs ys : List ℕ} {r : ℕ} → xs ≡ ys → Reads64 (value_of xs) r → Reads64 (value_of ys) r
reads_as {xs} {ys} {r} e p = subst (λ (l : List ℕ). Reads64 (value_of l) r) e p

pub judged_bad : (line : List ℕ) → good_name (name_in line) ≡ false → Judged line None
unfolding good_line
judged_bad line h = rw h

module _ (line : List ℕ) (b : Bounds) (good : good_name (name_in line) ≡ true) (start : Reads64 (start_in line) b.start) (end : Reads64 (end_in line) b.end)
    (startFits : b.start < 18446744073709551616) (endFits : b.end < 18446744073709551616) where
  abbrev own : List ℕ
  own = bed_line (name_in line) b.start b.end

  pub judged_good : same_bytes line own ≡ true → Judged line (Some b)
  judged_good t =
      let is : line ≡ own = same_is line own t in
      let s : b.start ≡ start_in line = sym (ap start_in is ∙ start_said (name_in line) b.start b.end good startFits) in
      let n : b.end ≡ end_in line = sym (ap end_in is ∙ end_said (name_in line) b.start b.end good endFits) in
      let said : Said line = record {
        name = good;
        start = rw (sym s) startFits;
        end = rw (sym n) endFits;
        text = is ∙ ap (λ (m : ℕ). bed_line (name_in line) m b.end) s ∙ ap (bed_line (name_in line) (start_in line)) n;
      } in
      (said_good line said, (s, n))

  pub judged_other : same_bytes line own ≡ false → Judged line None
  judged_other f = go (good_line line) refl
    where
      go : (g : Bool) → good_line line ≡ g → good_line line ≡ false
      go false e = e
      go true e =
          let said = good_said line e in
          let s = start said.start in
          let n = end said.end in
          let same : line ≡ own = said.text ∙ sym (ap (λ (m : ℕ). bed_line (name_in line) m b.end) s ∙ ap (bed_line (name_in line) (start_in line)) n) in
          absurd (clash (same_bytes line own) f (ap (same_bytes line) (sym same) ∙ same_self line))
