-- Records without their letters, stored field by field, and how a loop over rows ends. Assumes nothing.
use Prim.Native.Nat.{ℕ, ◌+◌, ◌≤◌}
use native.Mathlib.Omega.{arith}
use mathlib.Core.Path.{◌≡◌, refl, sym, ap, ◌∙◌}
use mathlib.Core.Bool.{Bool}
use mathlib.Core.List.{List, [], ◌∷◌, ◌++◌}
use lib.IntN.{ℤ}
use lib.ListN.{length, drop, drop_of_length-le}
use lib.Seq.{sets}
use Rattle.fields.specs.Fields.{bytes2, bytes4, bytes8}
use Rattle.params.specs.declared.Settings.{Settings}
use Rattle.form.specs.Job.{part_body, variant_body, settings_record, variant_record}
use Rattle.form.specs.declared.records.Edition.{Edition}
use Rattle.form.specs.Lent.{sum}
use Rattle.writer.specs.Steps.{variant_kind_by, number_tail, Put}
use Rattle.fields.proofs.FieldLaws.{join, long8}
use Rattle.writer.proofs.EditionLaws.{settings_byte, settings_body, settings_record_lem, numbered_body, variant_record_lem}

pub settings_stored : (e : Edition) (l a b : List ℕ) (s : Settings) → a ≡ sets l 0 (settings_byte e ∷ []) → b ≡ sets a 1 (settings_body e s) → b ≡ sets l 0 (settings_record e s)
settings_stored e l a b s p q = join l a b 0 1 (settings_byte e ∷ []) (settings_body e s) refl p q ∙ ap (sets l 0) (sym (settings_record_lem e s))

-- edition 1's bytes of a variant
old_stored : (l b c d : List ℕ) (at first last : ℕ) (size : ℤ) (negative : Bool) (count : ℕ) → b ≡ sets l (at + 1) (bytes8 first) → c ≡ sets b (at + 9) (bytes8 last)
    → d ≡ sets c (at + 17) (part_body size negative count) → d ≡ sets l (at + 1) (variant_body first last size negative count)
unfolding variant_body
old_stored l b c d at first last size negative count q r t =
    join l b d (at + 1) (at + 9) (bytes8 first) (bytes8 last ++ part_body size negative count) (rw (long8 first) (omega arith)) q
    (join b c d (at + 9) (at + 17) (bytes8 last) (part_body size negative count) (rw (long8 last) (omega arith)) r t)

long_old : (first last : ℕ) (size : ℤ) (negative : Bool) (count : ℕ) → length (variant_body first last size negative count) ≡ 25
unfolding variant_body part_body bytes8 bytes4 bytes2
long_old first last size negative count = refl

-- with the kind before them and the record number behind
pub variant_stored : (e : Edition) (l a b c d f : List ℕ) (at number first last : ℕ) (size : ℤ) (negative : Bool) (count kind : ℕ) (z : ℤ) → kind ≡ variant_kind_by e → z ≡ size
    → a ≡ sets l at (kind ∷ []) → b ≡ sets a (at + 1) (bytes8 first) → c ≡ sets b (at + 9) (bytes8 last) → d ≡ sets c (at + 17) (part_body z negative count)
    → f ≡ sets d (at + 26) (number_tail e number) → f ≡ sets l at (variant_record e number first last size negative count)
variant_stored e l a b c d f at number first last size negative count kind z same_kind same p q r t w =
    let n : at + 1 + 25 ≡ at + 26 = omega arith in
    let t' = t ∙ ap (λ (y : ℤ). sets c (at + 17) (part_body y negative count)) same in
    let old = old_stored a b c d at first last size negative count q r t' in
    let body = join a d f (at + 1) (at + 26) (variant_body first last size negative count) (number_tail e number) (rw (long_old first last size negative count) n) old w in
    join l a f at (at + 1) (variant_kind_by e ∷ []) (numbered_body e number first last size negative count) refl (p ∙ ap (λ (m : ℕ). sets l at (m ∷ [])) same_kind) body
    ∙ ap (sets l at) (sym (variant_record_lem e number first last size negative count))

pub part_stored : (l a d : List ℕ) (at : ℕ) (size : ℤ) (negative : Bool) (count : ℕ) (z : ℤ) → z ≡ size
    → a ≡ sets l at (3 ∷ []) → d ≡ sets a (at + 1) (part_body z negative count) → d ≡ sets l at (3 ∷ part_body size negative count)
part_stored l a d at size negative count z same p q =
    join l a d at (at + 1) (3 ∷ []) (part_body size negative count) refl p (q ∙ ap (λ (y : ℤ). sets a (at + 1) (part_body y negative count)) same)

-- the loop's end: nothing is left to write
pub rows_put : {t u : List ℕ} {at r : ℕ} {first rest whole : List ℕ} → rest ≡ [] → first ≡ whole
    → sets u r rest ≡ sets t at first → r + length rest ≡ at + length first → Put t u at r whole
rows_put {t} {u} {at} {r} {first} {rest} {whole} e f p q =
    let n : length rest ≡ 0 = ap length e in
    let m : length first ≡ length whole = ap length f in
    record { is = ap (sets u r) (sym e) ∙ p ∙ ap (sets t at) f; next = omega (arith, n, m, q) }

-- and all letters are written
pub sum_done : (counts : List ℕ) (p i n : ℕ) → length counts ≤ i → p + sum (drop i counts) ≡ n → p ≡ n
unfolding sum
sum_done counts p i n g q =
    let z : sum (drop i counts) ≡ 0 = ap sum (drop_of_length-le counts {i = i} g) in
    omega (arith, z, q)
