-- The counter refuses none of these rows, so the part of the table holds its counts.
use Rattle.desk.proofs.FeatureLaws.{row_counted}
use Rattle.desk.proofs.features.count_row.Goals as goal

pub returns : goal.returns
returns c =
    row_counted c.args.reading c.args.k c.args.at c.args.end c.args.from c.args.to c.args.negative c.args.letters.now c.args.table.now c.requires
    _ c.seq_to_kmer.ensures.0 _ c.seq_to_kmer.ensures.1
