-- Document 01, "Part lists": zero parts give no list unless pileupmax is 0; then the whole haplotype, of no parts, is the one list.
use Rattle.std.specs.Prelude.{ℕ, suc, ◌≡◌, [], ◌∷◌}
use Rattle.kplib.specs.Parts.{part_lists}

pub record NoParts : Type 0 where
  pub no_list : (fnmax p : ℕ) → part_lists 0 fnmax (suc p) ≡ []
  pub only_whole : (fnmax : ℕ) → part_lists 0 fnmax 0 ≡ [] ∷ []
