-- Which way the definition goes, by the same two comparisons.
use Rattle.metrics.proofs.Casts.{zero_is}
use Rattle.kplib.proofs.OneToOneLaws.{latest_old, latest_new, no_candidate}
use Rattle.kplib.proofs.onetoone.latest_of.Goals as goal

pub returns-then-x-old : goal.returns-then-x-old
returns-then-x-old c =
    let a = c.args in
    latest_old a.best a.row a.x (rw zero_is at c.if-x.true) c.if-x-old.true

pub returns-then-x : goal.returns-then-x
returns-then-x c =
    let a = c.args in
    latest_new a.best a.row a.x (rw zero_is at c.if-x.true) c.if-x-old.false

pub returns : goal.returns
returns c =
    let a = c.args in
    no_candidate a.best _ a.x (rw zero_is at c.if-x.false)
