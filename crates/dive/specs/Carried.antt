-- Document 02, P12: each answer, a refused one too, has the target's own data unchecked and unchanged, in one-to-one too.
use Rattle.std.specs.Prelude.{◌≡◌, List}
use Rattle.metrics.specs.Refusals.{told}
use Rattle.meta.specs.declared.HaplotypeMeta.{HaplotypeMeta}
use Rattle.dive.specs.declared.told.Told.{Told}
use Rattle.dive.specs.declared.told.ToldSeveral.{ToldSeveral}
use Rattle.dive.specs.Numbered.{Numbered, numbered_answer}
use Rattle.dive.specs.NumberedSeveral.{NumberedSeveral, numbered_several_fault}

abbrev pub told_of : Numbered → HaplotypeMeta → Told
told_of n meta = record { answer = numbered_answer n; meta = meta }

-- for several haplotypes each has its own, whatever is refused
abbrev pub ToldSeveralOf : NumberedSeveral → List HaplotypeMeta → ToldSeveral → Type 0
ToldSeveralOf n metas r = (told r.found ≡ numbered_several_fault n) × (r.metas ≡ metas)
