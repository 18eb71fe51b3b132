-- A list as words: what is done and what is left come to the whole, 28 words at a time. Assumes nothing.
use Prim.Native.Nat.{ℕ, zero, suc, ◌+◌, ◌-◌, ◌*◌, ◌/◌, ◌%◌, ◌≤◌, ◌<◌}
use native.Mathlib.Omega.{arith}
use mathlib.Core.Path.{◌≡◌, refl, sym, ap, ◌∙◌}
use mathlib.Core.List.{List, [], ◌∷◌}
use mathlib.Core.Bool.{Bool, true, false}
use native.Mathlib.Nat.{div-add-mod', div-eq_of_lt}
use borrow.Author.Tests.{eq-eqb, ne_eqb, ltb-true, ltb-false}
use lib.Dec.{ltb}
use lib.ListN.{length, take, drop, length-drop}
use lib.Seq.{drop-drop, length-take-le}
use Rattle.std.specs.Prelude.{Result, Ok, Err}
use Rattle.metrics.specs.declared.refusals.Refusal.{Refusal}
use Rattle.metrics.specs.declared.refusals.Refusal.TheVariants.{BadLengths, BadSamples}
use Rattle.metrics.specs.Refusals.{refusal_number}
use Rattle.metrics.proofs.RefusalLaws.{never_zero}
use Rattle.meta.specs.Meta.{Made, blank_of, count_fault, made_unless, combine_fault, combined_of, combined_unless, combined_two, not_made, made_result, joined_result}
use Rattle.meta.specs.Words.{meta_of_words}
use Rattle.meta.specs.Grouping.{next_unless, all_from, all_made, metas_in, all_in_words}
use Rattle.meta.specs.declared.HaplotypeMeta.{HaplotypeMeta}
use Rattle.meta.specs.declared.NotMade.{NotMade}
use Rattle.meta.proofs.FaultLaws.{refused_by}

-- how many there are
pub whole_words : (l : ℕ) → 28 * (l / 28) ≤ l
whole_words l = omega (arith, div-add-mod' l 28)

pub some_words : (l : ℕ) → (l / 28 ≡ 0 → ⊥) → 28 ≤ l
some_words l h = go (ltb l 28) refl
  where
    go : (t : Bool) → ltb l 28 ≡ t → 28 ≤ l
    go true e = absurd (h (div-eq_of_lt (ltb-true l 28 e)))
    go false e = ltb-false l 28 e

pub front_length : (w : List ℕ) → (length w / 28 ≡ 0 → ⊥) → length (take 28 w) ≡ 28
front_length w h = length-take-le 28 w (some_words (length w) h)

pub part_length : (w : List ℕ) (i : ℕ) → 28 * i + 28 ≤ length w → length (take (28 * i + 28 - 28 * i) (drop (28 * i) w)) ≡ 28
part_length w i h =
    let k : 28 * i + 28 - 28 * i ≡ 28 = omega arith in
    let room : 28 ≤ length (drop (28 * i) w) = omega (arith, length-drop (28 * i) w) in
    ap (λ (m : ℕ). length (take m (drop (28 * i) w))) k ∙ length-take-le 28 (drop (28 * i) w) room

-- ---- what the code gives of a list
-- a refusal stays to the end of the list
refused_stays : (f : ℕ) (m : HaplotypeMeta) (rest : List HaplotypeMeta) → all_from (made_unless (suc f) m) rest ≡ made_unless (suc f) m
unfolding all_from
refused_stays f m [] = refl
refused_stays f m (b ∷ rest) = refused_stays f m rest

-- the first is refused by its count
pub first_refused : (fault : ℕ) (refusal : Refusal) (m : HaplotypeMeta) (rest : List HaplotypeMeta) → refusal_number refusal ≡ fault
    → ◌≡◌ {A = Result HaplotypeMeta NotMade} (Err (not_made refusal)) (made_result (all_from (made_unless fault m) rest))
first_refused zero refusal m rest e = absurd (never_zero refusal e)
first_refused (suc f) refusal m rest e = refused_by (suc f) refusal m e ∙ sym (ap made_result (refused_stays f m rest))

-- what one more was refused by, as the list is
abbrev list_refused : Result HaplotypeMeta Refusal → Result HaplotypeMeta NotMade
list_refused (Ok m) = Ok m
list_refused (Err refusal) = Err (not_made refusal)

-- one more is refused with those before it
next_refused : (fault : ℕ) (refusal : Refusal) (a b : HaplotypeMeta) (rest : List HaplotypeMeta) → Err refusal ≡ joined_result (combined_unless fault a b)
    → ◌≡◌ {A = Result HaplotypeMeta NotMade} (Err (not_made refusal)) (made_result (all_from (made_unless fault (combined_of a b)) rest))
next_refused zero refusal a b rest e = cc
next_refused (suc f) refusal a b rest e = ap list_refused e ∙ sym (ap made_result (refused_stays f (combined_of a b) rest))

abbrev data_of : Result HaplotypeMeta Refusal → HaplotypeMeta
data_of (Ok m) = m
data_of (Err refusal) = blank_of 1

-- or is one with them
next_made : (fault : ℕ) (x a b : HaplotypeMeta) → Ok x ≡ joined_result (combined_unless fault a b) → made_unless 0 x ≡ made_unless fault (combined_of a b)
next_made zero x a b e = ap (λ (r : Result HaplotypeMeta Refusal). made_unless 0 (data_of r)) e
next_made (suc f) x a b e = cc

module _ (w : List ℕ) where
  -- those from the i-th on
  abbrev pub later : ℕ → ℕ → List HaplotypeMeta
  later n i = metas_in (n - i) (drop (28 * i) w)

  first_of : (m : ℕ) (words : List ℕ) → metas_in (suc m) words ≡ meta_of_words (take 28 words) ∷ metas_in m (drop 28 words)
  unfolding metas_in
  first_of m words = refl

  one_less : (n i : ℕ) → i < n → later n i ≡ meta_of_words (take 28 (drop (28 * i) w)) ∷ later n (i + 1)
  one_less n i h =
      let e : n - i ≡ suc (n - (i + 1)) = omega arith in
      let k : 28 * i + 28 ≡ 28 * (i + 1) = omega arith in
      ap (λ (m : ℕ). metas_in m (drop (28 * i) w)) e
      ∙ first_of (n - (i + 1)) (drop (28 * i) w)
      ∙ ap (λ (t : List ℕ). meta_of_words (take 28 (drop (28 * i) w)) ∷ metas_in (n - (i + 1)) t) (drop-drop 28 (28 * i) w ∙ ap (λ (m : ℕ). drop m w) k)

  all_next : (r : Made) (b : HaplotypeMeta) (rest : List HaplotypeMeta) → all_from r (b ∷ rest) ≡ all_from (next_unless r.refusal r b) rest
  unfolding all_from
  all_next r b rest = refl

  all_first : (a : HaplotypeMeta) (rest : List HaplotypeMeta) → all_made (a ∷ rest) ≡ all_from (made_unless (count_fault a.samples) a) rest
  unfolding all_made
  all_first a rest = refl

  all_done : (r : Made) → all_from r [] ≡ r
  unfolding all_from
  all_done r = refl

  begun : (n : ℕ) {first : HaplotypeMeta} → (n ≡ 0 → ⊥) → first ≡ meta_of_words (take 28 w) → all_from (made_unless (count_fault first.samples) first) (later n 1) ≡ all_made (metas_in n w)
  begun n h e =
      let k : 0 < n = omega arith in
      let z : n ≡ n - 0 = omega arith in
      sym (ap (λ (m : ℕ). all_made (metas_in m w)) z ∙ ap all_made (one_less n 0 k) ∙ all_first (meta_of_words (take 28 w)) (later n 1)
      ∙ ap (λ (a : HaplotypeMeta). all_from (made_unless (count_fault a.samples) a) (later n 1)) (sym e))

  pub begin : (n : ℕ) {first : HaplotypeMeta} → (n ≡ 0 → ⊥) → first ≡ meta_of_words (take 28 w) → 0 ≡ count_fault first.samples
      → all_from (made_unless 0 first) (later n 1) ≡ all_made (metas_in n w)
  begin n {first} h e z = ap (λ (f : ℕ). all_from (made_unless f first) (later n 1)) z ∙ begun n h e

  -- what the next with those before it comes to
  following : (n i k : ℕ) (all : HaplotypeMeta) {whole : Made} {other : HaplotypeMeta} → i < n → k ≡ 28 → other ≡ meta_of_words (take k (drop (28 * i) w))
      → all_from (made_unless 0 all) (later n i) ≡ whole → all_from (made_unless (combine_fault all other) (combined_of all other)) (later n (i + 1)) ≡ whole
  following n i k all {whole} {other} h q o e =
      let o' : other ≡ meta_of_words (take 28 (drop (28 * i) w)) = o ∙ ap (λ (j : ℕ). meta_of_words (take j (drop (28 * i) w))) q in
      ap (λ (b : HaplotypeMeta). all_from (next_unless 0 (made_unless 0 all) b) (later n (i + 1))) o'
      ∙ sym (all_next (made_unless 0 all) (meta_of_words (take 28 (drop (28 * i) w))) (later n (i + 1)))
      ∙ ap (all_from (made_unless 0 all)) (sym (one_less n i h)) ∙ e

  pub on : (n i k : ℕ) (all : HaplotypeMeta) {whole : Made} {other x : HaplotypeMeta} → i < n → k ≡ 28 → other ≡ meta_of_words (take k (drop (28 * i) w))
      → Ok x ≡ joined_result (combined_two all other) → all_from (made_unless 0 all) (later n i) ≡ whole → all_from (made_unless 0 x) (later n (i + 1)) ≡ whole
  on n i k all {whole} {other} {x} h q o m e =
      ap (λ (r : Made). all_from r (later n (i + 1))) (next_made (combine_fault all other) x all other m) ∙ following n i k all h q o e

  none_left : (n i : ℕ) → n ≤ i → later n i ≡ []
  unfolding metas_in
  none_left n i h = let z : n - i ≡ 0 = omega arith in ap (λ (m : ℕ). metas_in m (drop (28 * i) w)) z

  -- ---- the whole
  no_metas : (n : ℕ) → n ≡ 0 → made_unless 50 (blank_of 1) ≡ all_made (metas_in n w)
  unfolding all_made metas_in
  no_metas n z = rw z

  pub odd_length : (length w % 28 ≡ 0 → ⊥) → Err (not_made BadLengths) ≡ made_result (all_in_words w)
  unfolding all_in_words
  odd_length h = rw (ne_eqb (length w % 28) 0 h)

  module _ (even : length w % 28 ≡ 0) where
    even_length : all_made (metas_in (length w / 28) w) ≡ all_in_words w
    unfolding all_in_words
    even_length = rw (eq-eqb (length w % 28) 0 even)

    pub no_list : length w / 28 ≡ 0 → Err (not_made BadSamples) ≡ made_result (all_in_words w)
    no_list z = ap made_result (no_metas (length w / 28) z ∙ even_length)

    pub refused_at_first : (refusal : Refusal) {first : HaplotypeMeta} → (length w / 28 ≡ 0 → ⊥) → first ≡ meta_of_words (take 28 w) → refusal_number refusal ≡ count_fault first.samples
        → Err (not_made refusal) ≡ made_result (all_in_words w)
    refused_at_first refusal {first} h e f =
        first_refused (count_fault first.samples) refusal first (later (length w / 28) 1) f ∙ ap made_result (begun (length w / 28) h e ∙ even_length)

    pub refused_at : (refusal : Refusal) (i k : ℕ) (all : HaplotypeMeta) {other : HaplotypeMeta} → i < length w / 28 → k ≡ 28 → other ≡ meta_of_words (take k (drop (28 * i) w))
        → Err refusal ≡ joined_result (combined_two all other) → all_from (made_unless 0 all) (later (length w / 28) i) ≡ all_made (metas_in (length w / 28) w)
        → Err (not_made refusal) ≡ made_result (all_in_words w)
    refused_at refusal i k all {other} h q o m e =
        next_refused (combine_fault all other) refusal all other (later (length w / 28) (i + 1)) m
        ∙ ap made_result (following (length w / 28) i k all h q o e ∙ even_length)

    pub end : (i : ℕ) (all : HaplotypeMeta) → length w / 28 ≤ i → all_from (made_unless 0 all) (later (length w / 28) i) ≡ all_made (metas_in (length w / 28) w)
        → Ok all ≡ made_result (all_in_words w)
    end i all h e =
        ap made_result (sym (all_done (made_unless 0 all)) ∙ ap (all_from (made_unless 0 all)) (sym (none_left (length w / 28) i h)) ∙ e ∙ even_length)
