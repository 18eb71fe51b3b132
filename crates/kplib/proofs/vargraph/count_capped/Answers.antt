-- A bare graph has one chain; a full one has the empty chain and those that go on from it by some of the rows. Assumes nothing.
use Rattle.kplib.proofs.CappedLaws.{bare_count, graph_count}
use Rattle.kplib.proofs.vargraph.count_capped.Goals as goal

pub returns-then-not-full : goal.returns-then-not-full
returns-then-not-full c = bare_count _ _ _ _ (c.if-not-full.true) c.if-cap-eq0.false

pub returns : goal.returns
returns c =
    graph_count _ _ c.pairs_together-together.result c.pairs_together-together.ensures c.first_rows-rows.result _ _ _ c.first_rows-rows.ensures.1 (c.if-not-full.false) c.if-cap-eq0.false
    c.count_rows.ensures.0
