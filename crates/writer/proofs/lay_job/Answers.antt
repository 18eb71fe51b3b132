-- Settings, variants, haplotypes and end are stored one behind the other; each finds its room because the whole does.
use native.Mathlib.Omega.{arith}
use mathlib.Core.Path.{◌∙◌}
use Prim.Native.Nat.{◌+◌, ◌≤◌}
use lib.ListN.{length}
use Rattle.writer.specs.Steps.{held}
use Rattle.writer.proofs.JobLaws.{variants_fit, haplotypes_fit, end_there, job_stored}
use Rattle.writer.proofs.lay_job.Goals.{After-write_haplotypes-at}
use Rattle.writer.proofs.lay_job.Goals as goal

-- the end fits behind the haplotypes
end : (c : After-write_haplotypes-at) → c.write_haplotypes-at.result + 1 ≤ length c.args.out.now
end c =
    end_there _ _ _ (held c.args.job.now) _ c.requires _ _ _ c.settings_size.ensures c.write_variants-v.ensures.letter
    c.write_variants-v.ensures.rows.next _
    c.write_haplotypes-at.ensures.next

pub write_variants-v-requires : goal.write_variants-v-requires
write_variants-v-requires c =
    variants_fit _ _ _ (held c.args.job.now) _ c.requires _ _ c.settings_size.ensures c.write_settings_record.auto.out

pub write_haplotypes-at-requires : goal.write_haplotypes-at-requires
write_haplotypes-at-requires c =
    haplotypes_fit _ _ _ (held c.args.job.now) _ c.requires _ _ _ c.settings_size.ensures c.write_variants-v.ensures.letter
    c.write_variants-v.ensures.rows.next _
    (c.write_variants-v.auto.out ∙ c.write_settings_record.auto.out)

pub overflow_add-result : goal.overflow_add-result
overflow_add-result c = omega (arith, end (goal.at.overflow_add-result c).After-write_haplotypes-at, c.well_formed)

pub returns : goal.returns
returns c =
    job_stored _ _ _ (held c.args.job.now) _ c.requires _ _ _ c.settings_size.ensures c.write_variants-v.ensures.letter
    c.write_variants-v.ensures.rows.next _ _ _ _ _ _
    c.write_settings_record.ensures c.write_variants-v.ensures.rows.is c.write_haplotypes-at.ensures.is c.write_haplotypes-at.ensures.next
    c.put_u8.ensures
