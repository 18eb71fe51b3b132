-- What the steps of a search are told, as the contracts speak of it. No public promise cites this file.
use Rattle.std.specs.Prelude.{ℕ, List, Bool, ℤ}
use Rattle.kplib.specs.declared
use Rattle.kplib.specs.declared.plan.Plan.{Plan}

pub record Told : Type 0 where
  pub plan : Plan
  pub together : List Bool
  pub sizes : List ℤ
  pub features : List ℤ
  pub part_features : List ℤ
  pub codes : List ℕ
  pub list_sizes : List ℤ

abbrev pub told_of : Plan → List Bool → List ℤ → List ℤ → List ℤ → List ℕ → List ℤ → Told
told_of plan together sizes features part_features codes list_sizes = record {
  plan = plan;
  together = together;
  sizes = sizes;
  features = features;
  part_features = part_features;
  codes = codes;
  list_sizes = list_sizes;
}

-- what the code's struct holds
abbrev pub told_held : declared.plan.Told.Told → Told
told_held t = told_of t.plan t.together.now t.sizes.now t.features.now t.part_features.now t.lists.codes.now t.lists.sizes.now
