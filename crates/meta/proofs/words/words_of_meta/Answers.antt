-- Three words, three eights and a 0, one behind the other. Assumes nothing.
use Rattle.std.proofs.Common.{◌≡◌, refl, ℕ, List, [], ◌∷◌, length, arith}
use Rattle.meta.specs.Words.{eight_at}
use Rattle.meta.proofs.words.words_of_meta.Goals as goal

eights : (xs laid : List ℕ) → laid ≡ xs → length laid ≡ 8 → laid ≡ eight_at xs 0
eights xs laid e l = rw e (go xs (rw e at l))
  where
    go : (xs : List ℕ) → length xs ≡ 8 → xs ≡ eight_at xs 0
    go (a ∷ b ∷ c ∷ d ∷ e ∷ f ∷ g ∷ h ∷ []) l = refl
    go xs l = absurd (omega arith)

pub returns : goal.returns
returns c =
    let coverage = eights _ _ c.copy_from_slice-3.ensures.after c.copy_from_slice-3.ensures.len in
    let ps = eights _ _ c.copy_from_slice-2.ensures.after c.copy_from_slice-2.ensures.len in
    let hp = eights _ _ c.copy_from_slice.ensures.after c.copy_from_slice.ensures.len in
    rw (c.copy_from_slice-4.ensures.after, coverage, ps, hp)
