-- The lists as they lie: where the part lists were laid down, each code says what the scoring needs of its list, and the lists as they lie score
-- a chain as the part lists do, one after another. Assumes nothing.
use mathlib.Core.Path.{◌≡◌, refl, sym, ap, ◌∙◌, subst}
use mathlib.Core.List.{List, [], ◌∷◌}
use Prim.Native.Nat.{ℕ, suc, ◌+◌, ◌^◌, ◌≤◌, ◌<◌}
use native.Mathlib.Omega.{arith}
use lib.IntN.{ℤ, pos, nat_abs}
use lib.ListN.{length, get_or, take}
use lib.Seq.{length-take-le, get_or-take}
use Rattle.params.specs.Checked.{Sized}
use Rattle.params.specs.Numbers.{Parts}
use Rattle.kplib.specs.Parts.{part_lists}
use Rattle.kplib.specs.Sums.{Total}
use Rattle.kplib.specs.Score.{after_list, after_lists, total_score}
use Rattle.kplib.specs.Scoring.{AllBelow, LaidList, LaidDown, CodedList, Coded, after_code, after_codes, coded_score}
use Rattle.params.specs.declared.Settings.{Settings}
use Rattle.kplib.specs.declared.pathscore.Scored.{Scored}
use Rattle.kplib.specs.declared.plan.Plan.{Plan}
use Rattle.kplib.proofs.SizeSumLaws.{size_le}

-- ---- one list
coded_list : {part_sizes : List ℤ} {code : ℕ} {size : ℤ} {list : List ℕ} → Sized part_sizes → LaidList part_sizes code size list → CodedList (length part_sizes) code size
coded_list {part_sizes} {code} {size} {list} z e = record {
  count_is = e.count_is ∙ ap length (sym e.list_is);
  within = subst (λ (l : List ℕ). AllBelow (length part_sizes) l) (sym e.list_is) e.within;
  most = omega (arith, e.count_is, e.most);
  size_small = subst (λ (x : ℤ). nat_abs x ≤ 8388608) (sym e.size_is) (size_le part_sizes list z (omega (arith, e.most, z.few)));
}

coded_after : {s : Settings} (plan : Plan) (p : Parts) {code : ℕ} {size : ℤ} {list : List ℕ} → plan.s ≡ s → plan.m ≡ length p.sizes → plan.width ≡ 4 ^ s.k
    → LaidList p.sizes code size list → (chain : Total) (best : Scored) → after_code plan p.features chain best code size ≡ after_list s p chain best list
unfolding after_code after_list
coded_after plan p es em ew e chain best = rw (es, em, ew, e.list_is, e.count_is, e.size_is)

-- ---- all of them
codes_are : (after : Scored → ℕ → ℤ → Scored) (f : Scored → List ℕ → Scored) (best : Scored) (lists : List (List ℕ)) (codes : List ℕ) (sizes : List ℤ)
    → length codes ≡ length lists → length sizes ≡ length lists
    → ((i : ℕ) → i < length lists → (b : Scored) → after b (get_or codes i 0) (get_or sizes i (pos 0)) ≡ f b (get_or lists i []))
    → after_codes after best codes sizes ≡ after_lists f best lists
unfolding after_codes after_lists
codes_are after f best [] [] sizes c z e = refl
codes_are after f best [] (code ∷ codes) sizes c z e = let n : ⊥ = omega arith in absurd n
codes_are after f best (l ∷ lists) [] sizes c z e = let n : ⊥ = omega arith in absurd n
codes_are after f best (l ∷ lists) (code ∷ codes) [] c z e = let n : ⊥ = omega arith in absurd n
codes_are after f best (l ∷ lists) (code ∷ codes) (size ∷ sizes) c z e =
    let first : after best code size ≡ f best l = e 0 (omega arith) best in
    ap (λ (b : Scored). after_codes after b codes sizes) first ∙ codes_are after f (f best l) lists codes sizes (omega arith) (omega arith) (λ i h b. e (suc i) (omega arith) b)

-- ---- the lists of a search
module _ {s : Settings} {part_sizes : List ℤ} {codes : List ℕ} {list_sizes : List ℤ} {count : ℕ} (d : LaidDown s part_sizes codes list_sizes count) where
  abbrev lists : List (List ℕ)
  lists = part_lists (length part_sizes) s.fnmax s.pileupmax

  codes_length : length (take count codes) ≡ count
  codes_length = length-take-le count codes d.room

  sizes_length : length (take count list_sizes) ≡ count
  sizes_length = length-take-le count list_sizes d.beside

  laid_at : {i : ℕ} → i < count → LaidList part_sizes (get_or (take count codes) i 0) (get_or (take count list_sizes) i (pos 0)) (get_or lists i [])
  laid_at {i} h =
      let z : 0 + i ≡ i = omega arith in
      rw (get_or-take count codes i 0 h, get_or-take count list_sizes i (pos 0) h) (rw z at (d.laid i (omega (arith, d.counted))))

pub coded_down : {s : Settings} {part_sizes : List ℤ} {codes : List ℕ} {list_sizes : List ℤ} {count : ℕ} → Sized part_sizes → LaidDown s part_sizes codes list_sizes count
    → Coded (length part_sizes) (take count codes) (take count list_sizes)
coded_down z d = record {
  alike = sizes_length d ∙ sym (codes_length d);
  each = λ i h. coded_list z (laid_at d (omega (arith, codes_length d)));
}

pub coded_score_lem : {s : Settings} (plan : Plan) (p : Parts) {codes : List ℕ} {list_sizes : List ℤ} {count : ℕ} → plan.s ≡ s → plan.m ≡ length p.sizes → plan.width ≡ 4 ^ s.k
    → LaidDown s p.sizes codes list_sizes count → (chain : Total) → coded_score plan p.features (take count codes) (take count list_sizes) chain ≡ total_score s p chain
unfolding coded_score total_score
coded_score_lem {s} plan p {codes} {list_sizes} {count} es em ew d chain =
    codes_are (after_code plan p.features chain) (after_list s p chain) _ (lists d) (take count codes) (take count list_sizes) (codes_length d ∙ d.counted) (sizes_length d ∙ d.counted)
    (λ i h b. coded_after plan p es em ew (laid_at d (omega (arith, d.counted))) chain b)
