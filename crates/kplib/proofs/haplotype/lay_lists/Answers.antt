-- Only the whole haplotype where m is at least pileupmax; else all lengths.
use Rattle.kplib.proofs.LayLaws.{whole_laid, lengths_laid}
use Rattle.kplib.proofs.haplotype.lay_lists.Goals as goal

pub returns-then-s-m : goal.returns-then-s-m
returns-then-s-m c = whole_laid c.requires c.whole_size.ensures c.if-s-m.true

pub returns : goal.returns
returns c =
    lengths_laid c.requires c.lengths_of-lengths.ensures.0 c.lengths_of-lengths.ensures.1 c.if-s-m.false c.lay_lengths.auto.codes c.lay_lengths.auto.list_sizes
    c.lay_lengths.ensures
