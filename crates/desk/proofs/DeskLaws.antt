-- Which text is given where, and that all of it stands at the front of the buffer.
use Prim.Native.Nat.{ℕ, ◌+◌, ◌≤◌, ◌<◌}
use native.Mathlib.Omega.{arith}
use native.Mathlib.Nat.{zero-add}
use mathlib.Core.Path.{◌≡◌, ap, subst, ◌∙◌}
use mathlib.Core.List.{List, ◌++◌}
use lib.ListN.{length, drop, length-append}
use lib.Seq.{sets-eq}
use borrow.Author.Tests.{lt-ltb, le-ltb}
use Rattle.form.specs.Job.{read_job, numbers_of}
use Rattle.metrics.specs.Placed.{placed}
use Rattle.text.specs.Text.{refused_text}
use Rattle.text.specs.Written.{Written}
use Rattle.text.proofs.TextLaws.{refused_short}
use Rattle.text.proofs.PieceLaws.{written_then}
use Rattle.desk.specs.Desk.{read_text, desk_text}
use Rattle.desk.specs.Memory.{Printed}

-- the line of a refusal, and the same text under another name
pub printed_refused : {t u : List ℕ} {at r : ℕ} {most : ℕ} (n : ℕ) → 19 ≤ most → Written t at (refused_text n) u r → Printed most t at (refused_text n) u r
printed_refused n m w = record { written = w; short = let h = refused_short n in omega arith }

pub printed_as : {t u : List ℕ} {at r : ℕ} {most : ℕ} {xs ys : List ℕ} → Printed most t at xs u r → xs ≡ ys → Printed most t at ys u r
printed_as {t} {u} {at} {r} {most} {xs} {ys} p e = subst (λ (l : List ℕ). Printed most t at l u r) e p

-- a shorter text than is asked for
pub printed_within : {t u : List ℕ} {at r : ℕ} {few most : ℕ} {xs : List ℕ} → few ≤ most → Printed few t at xs u r → Printed most t at xs u r
printed_within l p = record { written = p.written; short = let h = p.short in omega arith }

-- one text behind the other
pub printed_then : {t u w : List ℕ} {at r q : ℕ} {few more : ℕ} {xs ys : List ℕ} → Printed few t at xs u r → Printed more u r ys w q → Printed (few + more) t at (xs ++ ys) w q
printed_then {t} {u} {w} {at} {r} {q} {few} {more} {xs} {ys} p s = record {
  written = written_then p.written s.written;
  short = let h = p.short in let g = s.short in simp length-append (omega arith);
}

-- what is printed into a buffer with room for it is placed at its front
pub printed_placed : {t u : List ℕ} {r most : ℕ} {xs : List ℕ} → Printed most t 0 xs u r → most ≤ length t → (r ≡ length xs) × (u ≡ placed t xs)
printed_placed {t} {u} {r} {most} {xs} p h =
    let w = p.written.next in
    let s = p.short in
    let room : 0 + length xs ≤ length t = omega arith in
    let e : 0 + length xs ≡ length xs = zero-add (length xs) in
    (omega arith, p.written.is ∙ sets-eq xs t 0 room ∙ ap (λ (k : ℕ). xs ++ drop k t) e)

module _ (input : List ℕ) where
  pub desk_long : 32768 < length input → refused_text 26 ≡ desk_text input
  unfolding desk_text
  desk_long h = simp (lt-ltb _ _ h)

  pub desk_read : length input ≤ 32768 → read_text (numbers_of input) (read_job input) ≡ desk_text input
  unfolding desk_text
  desk_read h = simp (le-ltb _ _ h)
