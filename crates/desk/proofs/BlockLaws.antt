-- The blocks of several haplotypes: those that are printed and those that are left make the text of all.
use Prim.Native.Nat.{ℕ, suc, ◌+◌, ◌-◌, ◌*◌, ◌≤◌, ◌<◌}
use native.Mathlib.Omega.{arith}
use native.Mathlib.Numerals.{add-one}
use native.Mathlib.Nat.{mul-le-mul_right}
use mathlib.Core.Path.{◌≡◌, refl, sym, ap, ◌∙◌}
use mathlib.Core.Bool.{cond}
use mathlib.Core.List.{List, [], ◌∷◌, ◌++◌, append-nil, append_assoc}
use lib.Dec.{eqb}
use lib.IntN.{ℤ}
use lib.ListN.{length, get_or, drop}
use lib.Seq.{take_all}
use borrow.Author.Tests.{eq-eqb, ne_eqb}
use Rattle.params.specs.declared.Settings.{Settings}
use Rattle.params.specs.Numbers.{Table, Parts, parts_of}
use Rattle.text.specs.Text.{refused_text, hap_text}
use Rattle.text.specs.Written.{Written}
use Rattle.text.proofs.TextLaws.{hap_short}
use Rattle.text.proofs.PieceLaws.{written_none}
use Rattle.desk.specs.Desk.{haplotype_text, whole_fault, blocks_text, haplotypes_text}
use Rattle.desk.specs.Memory.{Printed, most_of_one, most_of_block, most_of_all, ends_of, Rising, stretch, block_text, stretches, BlocksFit}
use Rattle.desk.proofs.StretchLaws.{ends_here, rising_here, no_ends}
use Rattle.desk.proofs.DeskLaws.{printed_as, printed_within, printed_then}

-- the `hap` line, and the haplotype's lines behind it
pub block_printed : {old mid new : List ℕ} {at behind r : ℕ} (s : Settings) (t : Table) (numbers : List ℕ) (p : Parts) (i : ℕ) →
    Written old at (hap_text i) mid behind → Printed most_of_one mid behind (haplotype_text s t numbers p) new r → Printed most_of_block old at (block_text s t numbers i p) new r
block_printed {old} {mid} {new} {at} {behind} {r} s t numbers p i w q =
    let h : Printed 15 old at (hap_text i) mid behind = record { written = w; short = hap_short i } in
    printed_then h q

-- what holds before each haplotype
pub record Printing (s : Settings) (t : Table) (numbers : List ℕ) (p : Parts) (e : ℕ) (breaks old out : List ℕ) (i from end : ℕ) : Type 0 where
  pub done : List ℕ
  pub whole : done ++ blocks_text s t numbers i (stretches e from (drop i (ends_of breaks (length p.sizes))) p)
      ≡ blocks_text s t numbers 0 (stretches e 0 (ends_of breaks (length p.sizes)) p)
  pub printed : Printed (i * most_of_block) old 0 done out end
  pub rising : Rising (length p.sizes) from (drop i (ends_of breaks (length p.sizes)))
  pub within : i ≤ length breaks + 1

blocks_none : (s : Settings) (t : Table) (numbers : List ℕ) (e from i : ℕ) (p : Parts) → blocks_text s t numbers i (stretches e from [] p) ≡ []
unfolding blocks_text stretches
blocks_none s t numbers e from i p = refl

blocks_cons : (s : Settings) (t : Table) (numbers : List ℕ) (e from i to : ℕ) (ends : List ℕ) (p : Parts) →
    blocks_text s t numbers i (stretches e from (to ∷ ends) p) ≡ block_text s t numbers i (stretch e from to p) ++ blocks_text s t numbers (suc i) (stretches e to ends p)
unfolding blocks_text stretches
blocks_cons s t numbers e from i to ends p =
    sym (append_assoc (hap_text i) (haplotype_text s t numbers (stretch e from to p)) (blocks_text s t numbers (suc i) (stretches e to ends p)))

module _ (s : Settings) (t : Table) (numbers : List ℕ) (p : Parts) (e : ℕ) (breaks old : List ℕ) (fits : BlocksFit e p breaks) where
  pub blocks_start : Printing s t numbers p e breaks old old 0 0 0
  blocks_start = record {
    done = [];
    whole = refl;
    printed = record { written = written_none old 0; short = omega arith };
    rising = fits.rising;
    within = omega arith;
  }

  module _ (out : List ℕ) (i from end : ℕ) (now : Printing s t numbers p e breaks old out i from end) where
    module _ (more : i ≤ length breaks) (to : ℕ) (is : to ≡ get_or (ends_of breaks (length p.sizes)) i 0) where
      abbrev here : (from ≤ to) × ((to ≤ length p.sizes) × Rising (length p.sizes) to (drop (suc i) (ends_of breaks (length p.sizes))))
      here = rising_here breaks (length p.sizes) i to more is (length p.sizes) from now.rising

      -- the stretch lies within the parts, and its rows within theirs
      pub rises : from ≤ to
      rises = here.0

      pub parts_end : to ≤ length p.sizes
      parts_end = here.1.0

      pub rows_rise : from * e ≤ to * e
      rows_rise = mul-le-mul_right e rises

      pub rows_end : to * e ≤ length p.features
      rows_end = let h : to * e ≤ length p.sizes * e = mul-le-mul_right e parts_end in let r = fits.rows in omega arith

      pub blocks_next : (new : List ℕ) (r : ℕ) → Printed most_of_block out end (block_text s t numbers i (stretch e from to p)) new r → Printing s t numbers p e breaks old new (i + 1) to r
      blocks_next new r q =
          let block = block_text s t numbers i (stretch e from to p) in
          let ends = drop (suc i) (ends_of breaks (length p.sizes)) in
          let step : (done : List ℕ) → (done ++ block) ++ blocks_text s t numbers (suc i) (stretches e to ends p) ≡ done ++ blocks_text s t numbers i (stretches e from (to ∷ ends) p) =
          λ done. append_assoc done block (blocks_text s t numbers (suc i) (stretches e to ends p)) ∙ ap (λ (l : List ℕ). done ++ l) (sym (blocks_cons s t numbers e from i to ends p)) in
          let left = ap (λ (l : List ℕ). now.done ++ blocks_text s t numbers i (stretches e from l p)) (sym (ends_here breaks (length p.sizes) i to more is)) in
          rw (add-one i) record {
            done = now.done ++ block;
            whole = step now.done ∙ left ∙ now.whole;
            printed = printed_within (omega arith) (printed_then now.printed q);
            rising = here.1.1;
            within = omega arith;
          }

    pub blocks_done : length breaks < i → Printed most_of_all old 0 (blocks_text s t numbers 0 (stretches e 0 (ends_of breaks (length p.sizes)) p)) out end
    blocks_done past =
        let w = now.within in
        let few = fits.haplotypes in
        let none = no_ends breaks (length p.sizes) i past in
        let left = ap (λ (l : List ℕ). blocks_text s t numbers i (stretches e from l p)) none ∙ blocks_none s t numbers e from i p in
        let all = sym (append-nil now.done) ∙ ap (λ (l : List ℕ). now.done ++ l) (sym left) ∙ now.whole in
        printed_within (omega arith) (printed_as now.printed all)

-- the stretch of one haplotype is all parts
stretch_all : (e m : ℕ) (sizes features : List ℤ) → length sizes ≤ m → length features ≤ m * e → stretch e 0 m (parts_of sizes features) ≡ parts_of sizes features
stretch_all e m sizes features a b =
    let z : m - 0 ≡ m = omega arith in
    let y : m * e - 0 * e ≡ m * e = omega arith in
    let x : 0 * e ≡ 0 = omega arith in
    rw (z, y, x, take_all m sizes a, take_all (m * e) features b)

one_of : (s : Settings) (t : Table) (numbers : List ℕ) (p : Parts) (e m : ℕ) (breaks : List ℕ) → length breaks ≡ 0 → stretch e 0 m p ≡ p
    → haplotype_text s t numbers p ≡ haplotypes_text s t numbers (stretches e 0 (ends_of breaks m) p)
unfolding stretches haplotypes_text
one_of s t numbers p e m [] none h = ap (haplotype_text s t numbers) (sym h)
one_of s t numbers p e m (b ∷ breaks) none h = let z : ⊥ = omega arith in absurd z

-- several, by what refuses the whole job
abbrev several_text : Settings → Table → List ℕ → List Parts → List ℕ
several_text s t numbers ps = cond (eqb (whole_fault s t numbers) 0) (blocks_text s t numbers 0 ps) (refused_text (whole_fault s t numbers))

several_of : (s : Settings) (t : Table) (numbers : List ℕ) (p : Parts) (e m : ℕ) (breaks : List ℕ) → (length breaks ≡ 0 → ⊥) →
    several_text s t numbers (stretches e 0 (ends_of breaks m) p) ≡ haplotypes_text s t numbers (stretches e 0 (ends_of breaks m) p)
unfolding stretches haplotypes_text
several_of s t numbers p e m [] some = let z : ⊥ = some refl in absurd z
several_of s t numbers p e m (b ∷ []) some = refl
several_of s t numbers p e m (b ∷ (d ∷ breaks)) some = refl

module _ (s : Settings) (t : Table) (numbers : List ℕ) (p : Parts) (e : ℕ) (breaks : List ℕ) (fits : BlocksFit e p breaks) where
  pub one_text : length breaks ≡ 0 → haplotype_text s t numbers p ≡ haplotypes_text s t numbers (stretches e 0 (ends_of breaks (length p.sizes)) p)
  one_text none =
      let r = fits.rows in
      one_of s t numbers p e (length p.sizes) breaks none (stretch_all e (length p.sizes) p.sizes p.features (omega arith) (omega arith))

  module _ (some : length breaks ≡ 0 → ⊥) (fault : ℕ) (is : fault ≡ whole_fault s t numbers) where
    pub whole_refused : (fault ≡ 0 → ⊥) → refused_text fault ≡ haplotypes_text s t numbers (stretches e 0 (ends_of breaks (length p.sizes)) p)
    whole_refused h = rw (← several_of s t numbers p e (length p.sizes) breaks some, ← is, ne_eqb fault 0 h)

    pub whole_accepted : fault ≡ 0 → blocks_text s t numbers 0 (stretches e 0 (ends_of breaks (length p.sizes)) p) ≡ haplotypes_text s t numbers (stretches e 0 (ends_of breaks (length p.sizes)) p)
    whole_accepted h = rw (← several_of s t numbers p e (length p.sizes) breaks some, ← is, eq-eqb fault 0 h)
