-- The whole haplotype is summed once, then the rows are gone through. Assumes nothing.
use Rattle.kplib.proofs.OneToOneLaws.{whole_ok, matching, matched}
use Rattle.kplib.proofs.onetoone.one_to_one.Goals as goal

pub sum_features-requires : goal.sum_features-requires
sum_features-requires c = whole_ok c.requires c.all_positions.ensures

pub match_rows-requires : goal.match_rows-requires
match_rows-requires c =
    matching c.requires c.all_positions.ensures c.sum_features.ensures c.whole_size.ensures

pub returns : goal.returns
returns c =
    matched c.requires c.all_positions.ensures c.sum_features.ensures c.whole_size.ensures c.match_rows.ensures
