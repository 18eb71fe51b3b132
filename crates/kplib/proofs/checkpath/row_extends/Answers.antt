-- There is no such row, or it does not come later, or none may follow; else each row of the chain is asked.
use mathlib.Core.Logic.{inl, inr}
use mathlib.Core.List.{reverse}
use native.Mathlib.Omega.{arith}
use Rattle.kplib.proofs.RowChainLaws.{row_absent, row_early, row_bare, row_stands}
use Rattle.kplib.proofs.checkpath.row_extends.Goals as goal

pub returns-then-s-starts : goal.returns-then-s-starts
returns-then-s-starts c =
    let a = c.args in
    elim c.then-s-starts.either [
      | inl h ↦ row_absent a.starts.now a.ends.now a.full (reverse a.chain.now) a.s (omega arith)
      | inr later ↦ elim later [
        | inl h ↦ row_early a.starts.now a.ends.now a.full (reverse a.chain.now) a.s c.requires.3 (omega arith)
        | inr h ↦ row_bare a.starts.now a.ends.now a.full (reverse a.chain.now) a.s h.2
      ]
    ]

pub returns : goal.returns
returns c =
    let a = c.args in
    row_stands a.starts.now a.ends.now a.full (reverse a.chain.now) a.s (omega arith) c.requires.3 (omega arith) c.if-not-full.false
    c.stands_with_all.ensures
