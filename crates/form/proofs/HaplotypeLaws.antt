-- The haplotypes of a form: one behind the other they are its parts, and where they begin is counted in one walk over the records. Assumes nothing.
use Prim.Native.Nat.{ℕ, zero, suc, ◌+◌, ◌≤◌}
use native.Mathlib.Omega.{arith}
use native.Mathlib.Nat.{add-zero, zero-add}
use mathlib.Core.Path.{◌≡◌, refl, sym, ap, ◌∙◌}
use mathlib.Core.Bool.{true, false}
use mathlib.Core.List.{List, [], ◌∷◌, ◌++◌, flatten, append_assoc}
use mathlib.Core.Logic.{⊎_elim}
use lib.ListN.{length, drop, length-append}
use lib.Seq.{drop-nil, drop_at}
use Rattle.form.specs.declared.records.Kind.{Kind}
use Rattle.form.specs.declared.records.Kind.TheVariants.{End, Settings, Variant, Part as PartRecord, Letters, Next, Settings2, Variant2, Unknown}
use Rattle.form.specs.Form.{kind_of, is_next, body_len}
use Rattle.form.specs.Job.{Part, part_here, gather, to_first, haplotypes_here, haplotypes_in}
use Rattle.form.specs.Lent.{breaks_from, breaks_of}
use Rattle.form.specs.Steps.{break_here, breaks_walk}
use Rattle.form.proofs.FormLaws.{split, mixed}

pub next_kind_lem : (kind : Kind) → is_next kind ≡ true → kind ≡ Next
next_kind_lem End e = mixed (sym e)
next_kind_lem Settings e = mixed (sym e)
next_kind_lem Variant e = mixed (sym e)
next_kind_lem PartRecord e = mixed (sym e)
next_kind_lem Letters e = mixed (sym e)
next_kind_lem Next e = refl
next_kind_lem Settings2 e = mixed (sym e)
next_kind_lem Variant2 e = mixed (sym e)
next_kind_lem Unknown e = mixed (sym e)

-- a record that begins a haplotype adds no part
pub next_no_part : (kind : Kind) (b : List ℕ) → is_next kind ≡ true → part_here kind b ≡ []
unfolding part_here
next_no_part kind b e = rw (next_kind_lem kind e)

-- ---- how many there are
long_first : (xs : List Part) (hs : List (List Part)) → 1 ≤ length hs → length (to_first xs hs) ≡ length hs
unfolding to_first
long_first xs [] h = let z : ⊥ = omega arith in absurd z
long_first xs (h ∷ hs) g = refl

module _ (kind : Kind) (b : List ℕ) (rest : List (List Part)) (some : 1 ≤ length rest) where
  pub long_next : is_next kind ≡ true → length (haplotypes_here kind b rest) ≡ suc (length rest)
  unfolding haplotypes_here
  long_next e = rw e

  pub long_other : is_next kind ≡ false → length (haplotypes_here kind b rest) ≡ length rest
  unfolding haplotypes_here
  long_other e = rw e (long_first (part_here kind b) rest some)

  some_here : 1 ≤ length (haplotypes_here kind b rest)
  some_here = ⊎_elim
      (λ (e : is_next kind ≡ true). rw (long_next e) (omega arith))
      (λ (e : is_next kind ≡ false). rw (long_other e) some)
      (split (is_next kind))

-- a form has at least one
pub some_haplotype : (s : List ℕ) (n : ℕ) → 1 ≤ length (haplotypes_in s n)
unfolding haplotypes_in
some_haplotype [] n = omega arith
some_haplotype (k ∷ b) (suc n) = some_haplotype b n
some_haplotype (k ∷ b) zero = some_here (kind_of k) b (haplotypes_in b (body_len (kind_of k))) (some_haplotype b (body_len (kind_of k)))

long_at : (hs : List (List Part)) (n : ℕ) → length (breaks_from n hs) ≡ length hs
unfolding breaks_from
long_at [] n = refl
long_at (h ∷ hs) n = ap suc (long_at hs _)

pub long_from : (n : ℕ) (hs : List (List Part)) → length (breaks_from n hs) ≡ length hs
long_from n hs = long_at hs n

-- each but the first begins with a break
pub long_breaks : (hs : List (List Part)) → 1 ≤ length hs → suc (length (breaks_of hs)) ≡ length hs
unfolding breaks_of
long_breaks [] h = let z : ⊥ = omega arith in absurd z
long_breaks (h ∷ hs) g = ap suc (long_from _ hs)

-- ---- what the records behind add
pub first_none : (hs : List (List Part)) → 1 ≤ length hs → to_first [] hs ≡ hs
unfolding to_first
first_none [] h = let z : ⊥ = omega arith in absurd z
first_none (h ∷ hs) g = refl

pub first_append : (xs ys : List Part) (hs : List (List Part)) → to_first xs (to_first ys hs) ≡ to_first (xs ++ ys) hs
unfolding to_first
first_append xs ys [] = refl
first_append xs ys (h ∷ hs) = ap (λ (l : List Part). l ∷ hs) (sym (append_assoc xs ys h))

pub haplotypes_skip : (s : List ℕ) (n : ℕ) → haplotypes_in s n ≡ haplotypes_in (drop n s) 0
unfolding haplotypes_in
haplotypes_skip [] n = simp drop-nil
haplotypes_skip (k ∷ b) zero = refl
haplotypes_skip (k ∷ b) (suc n) = haplotypes_skip b n

-- a record whose body is there, and the haplotypes of what stands behind it
pub haplotypes_record : (k n : ℕ) (kind : Kind) (body rest : List ℕ) → kind_of k ≡ kind → n ≡ body_len kind → length body ≡ n
    → haplotypes_in (k ∷ (body ++ rest)) 0 ≡ haplotypes_here kind (body ++ rest) (haplotypes_in rest 0)
unfolding haplotypes_in
haplotypes_record k n kind body rest is e l = rw is (ap (λ (hs : List (List Part)). haplotypes_here kind (body ++ rest) hs)
    (haplotypes_skip (body ++ rest) (body_len kind) ∙ ap (λ (q : List ℕ). haplotypes_in q 0) (drop_at body rest (body_len kind) (l ∙ e))))

-- ---- one behind the other they are the parts
flat_first : (xs : List Part) (hs : List (List Part)) → flatten (to_first xs hs) ≡ xs ++ flatten hs
unfolding to_first flatten
flat_first xs [] = refl
flat_first xs (h ∷ hs) = append_assoc xs h (flatten hs)

flat_here : (kind : Kind) (b : List ℕ) (hs : List (List Part)) → flatten (haplotypes_here kind b hs) ≡ part_here kind b ++ flatten hs
unfolding haplotypes_here flatten
flat_here kind b hs = ⊎_elim
    (λ (e : is_next kind ≡ true). rw (e, next_no_part kind b e))
    (λ (e : is_next kind ≡ false). rw e (flat_first (part_here kind b) hs))
    (split (is_next kind))

pub flat_haplotypes : (s : List ℕ) (n : ℕ) → flatten (haplotypes_in s n) ≡ gather part_here s n
unfolding haplotypes_in gather flatten
flat_haplotypes [] n = refl
flat_haplotypes (k ∷ b) (suc n) = flat_haplotypes b n
flat_haplotypes (k ∷ b) zero =
    flat_here (kind_of k) b (haplotypes_in b (body_len (kind_of k))) ∙ ap (λ (l : List Part). part_here (kind_of k) b ++ l) (flat_haplotypes b (body_len (kind_of k)))

-- ---- where they begin, behind p parts
unfoldable breaks_behind : ℕ → List (List Part) → List ℕ
breaks_behind p [] = []
breaks_behind p (first ∷ rest) = breaks_from (p + length first) rest

behind_next : (p : ℕ) (hs : List (List Part)) → 1 ≤ length hs → breaks_behind p ([] ∷ hs) ≡ p ∷ breaks_behind (p + 0) hs
unfolding breaks_behind breaks_from
behind_next p [] h = let z : ⊥ = omega arith in absurd z
behind_next p (h ∷ hs) g = rw (add-zero p)

behind_first_lem : (p : ℕ) (xs : List Part) (hs : List (List Part)) → 1 ≤ length hs → breaks_behind p (to_first xs hs) ≡ breaks_behind (p + length xs) hs
unfolding breaks_behind to_first
behind_first_lem p xs [] h = let z : ⊥ = omega arith in absurd z
behind_first_lem p xs (h ∷ hs) g = let e : p + length (xs ++ h) ≡ p + length xs + length h = simp length-append (omega arith) in rw e

behind_here : (kind : Kind) (b : List ℕ) (p : ℕ) (hs : List (List Part)) → 1 ≤ length hs
    → break_here kind p ++ breaks_behind (p + length (part_here kind b)) hs ≡ breaks_behind p (haplotypes_here kind b hs)
unfolding break_here haplotypes_here
behind_here kind b p hs h = ⊎_elim
    (λ (e : is_next kind ≡ true). rw (e, next_no_part kind b e) (sym (behind_next p hs h)))
    (λ (e : is_next kind ≡ false). rw e (sym (behind_first_lem p (part_here kind b) hs h)))
    (split (is_next kind))

walk_behind : (s : List ℕ) (n p : ℕ) → breaks_walk s n p ≡ breaks_behind p (haplotypes_in s n)
unfolding breaks_walk haplotypes_in breaks_behind breaks_from
walk_behind [] n p = refl
walk_behind (k ∷ b) (suc n) p = walk_behind b n p
walk_behind (k ∷ b) zero p =
    ap (λ (l : List ℕ). break_here (kind_of k) p ++ l) (walk_behind b (body_len (kind_of k)) (p + length (part_here (kind_of k) b)))
    ∙ behind_here (kind_of k) b p (haplotypes_in b (body_len (kind_of k))) (some_haplotype b (body_len (kind_of k)))

behind_none : (hs : List (List Part)) → breaks_behind 0 hs ≡ breaks_of hs
unfolding breaks_behind breaks_of
behind_none [] = refl
behind_none (h ∷ hs) = rw (zero-add (length h))

pub breaks_are : (s : List ℕ) → breaks_walk s 0 0 ≡ breaks_of (haplotypes_in s 0)
breaks_are s = walk_behind s 0 0 ∙ behind_none (haplotypes_in s 0)
