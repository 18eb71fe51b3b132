-- What a job's numbers are as values of their types, with the setting `letters` that an edition has a place for, at most 131,072 letters in a sequence and 1 to 16 haplotypes:
-- every job that the writer accepts for an edition is such a one. Record numbers stand beside the job, as values of their type.
use Rattle.std.specs.Prelude.{ℕ, ◌≤◌, ◌<◌, ◌^◌, List, [], ◌∷◌, ◌≡◌, T, pos, length, get_or}
use Rattle.std.specs.Float.{binary32}
use Rattle.std.specs.Float.Ieee.{fits}
use Rattle.std.proofs.Common.{SFits}
use Rattle.std.specs.Int.{w32}
use Rattle.params.specs.declared.Settings.{Settings}
use Rattle.form.specs.Job.{Variant, Part, Job}
use Rattle.form.specs.Lent.{Lent}
use Rattle.form.specs.declared.records.Edition.{Edition}
use Rattle.form.specs.declared.records.Edition.TheVariants.{One, Two}

pub record SettingsHold (s : Settings) : Type 0 where
  pub maxpaths : s.maxpaths < 2 ^ 32
  pub maxnodes : s.maxnodes < 2 ^ 32
  pub fnmax : s.fnmax < 2 ^ 32
  pub pileupmax : s.pileupmax < 2 ^ 32
  pub minkfreq : s.minkfreq < 2 ^ 32
  pub sizesim : T (fits binary32 s.sizesim)
  pub seqsim : T (fits binary32 s.seqsim)
  pub fpenalty : T (fits binary32 s.fpenalty)
  pub gpenalty : T (fits binary32 s.gpenalty)

-- edition 1 has no place for `letters`: it reads as 0; in edition 2 it is a flag
abbrev pub LettersHold : Edition → ℕ → Type 0
LettersHold One letters = letters ≡ 0
LettersHold Two letters = letters ≤ 1

pub record VariantHolds (x : Variant) : Type 0 where
  pub start : x.start < 2 ^ 64
  pub end : x.end < 2 ^ 64
  pub size : SFits w32 x.size
  pub letters : length x.letters ≤ 131072

pub record PartHolds (x : Part) : Type 0 where
  pub size : SFits w32 x.size
  pub letters : length x.letters ≤ 131072

abbrev pub VariantsHold : List Variant → Type 0
VariantsHold [] = Unit {0}
VariantsHold (x ∷ xs) = VariantHolds x × VariantsHold xs

abbrev pub PartsHold : List Part → Type 0
PartsHold [] = Unit {0}
PartsHold (x ∷ xs) = PartHolds x × PartsHold xs

abbrev pub HaplotypesHold : List (List Part) → Type 0
HaplotypesHold [] = Unit {0}
HaplotypesHold (xs ∷ rest) = PartsHold xs × HaplotypesHold rest

pub record JobHolds (e : Edition) (job : Job) : Type 0 where
  pub settings : SettingsHold job.settings
  pub letters : LettersHold e job.settings.letters
  pub variants : VariantsHold job.variants
  pub haplotypes : HaplotypesHold job.haplotypes
  pub some : 1 ≤ length job.haplotypes
  pub few : length job.haplotypes ≤ 16

-- the record numbers, as values of their type
abbrev pub NumbersHold : List ℕ → Type 0
NumbersHold numbers = (r : ℕ) → get_or numbers r 0 < 2 ^ 32

-- the lent slices, as values of their types
pub record LentHolds (t : Lent) : Type 0 where
  pub starts : (r : ℕ) → get_or t.starts r 0 < 2 ^ 64
  pub ends : (r : ℕ) → get_or t.ends r 0 < 2 ^ 64
  pub sizes : (r : ℕ) → SFits w32 (get_or t.sizes r (pos 0))
  pub part_sizes : (r : ℕ) → SFits w32 (get_or t.part_sizes r (pos 0))
