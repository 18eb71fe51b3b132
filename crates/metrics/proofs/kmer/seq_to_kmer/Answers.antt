-- Each return is one case of the definition, tried in the table's order; only the last has touched the row.
use Rattle.metrics.specs.Letters.{counter_answer}
use Rattle.std.proofs.Common.{◌≡◌, ℕ, ◌^◌, replicate, pos, refl, ap, ◌∙◌, arith, le-ltb, lt-ltb, eq-eqb, ne_eqb, le-leb}
use Rattle.metrics.proofs.Entries.{power}
use Rattle.metrics.proofs.kmer.seq_to_kmer.Goals.{After-entries-size}
use Rattle.metrics.proofs.kmer.seq_to_kmer.Goals as goal

-- the row's entries are 4 to the k once k is known to be at most 6
size_is : (c : After-entries-size) → c.entries-size.result ≡ 4 ^ c.args.k
size_is c = c.entries-size.ensures ∙ power _ c.if-k-gt6.false

pub returns-then-out-size : goal.returns-then-out-size
unfolding counter_answer
returns-then-out-size c =
    let e = size_is (goal.at.returns-then-out-size c).After-entries-size in
    (rw (le-leb _ _ c.if-k-lt1.false, le-leb _ _ c.if-k-gt6.false, le-ltb _ _ c.if-letters-gt1.false, ← e, ne_eqb _ _ c.if-out-size.true), refl)

pub returns-then-seq-gt131072 : goal.returns-then-seq-gt131072
unfolding counter_answer
returns-then-seq-gt131072 c =
    let e = size_is (goal.at.returns-then-seq-gt131072 c).After-entries-size in (
      rw (
        le-leb _ _ c.if-k-lt1.false,
        le-leb _ _ c.if-k-gt6.false,
        le-ltb _ _ c.if-letters-gt1.false,
        ← e,
        eq-eqb _ _ c.if-out-size.false,
        lt-ltb _ _ c.if-seq-gt131072.true,
      ),
      refl,
    )

pub count_windows-requires : goal.count_windows-requires
count_windows-requires c =
    let e = size_is (goal.at.count_windows-requires c).After-entries-size in (
      e,
      omega arith,
      omega arith,
      omega arith,
      c.clear_row.ensures ∙ ap (λ (n : ℕ). replicate n (pos 0)) (c.if-out-size.false ∙ e),
    )

pub returns : goal.returns
unfolding counter_answer
returns c =
    let e = size_is (goal.at.returns c).After-entries-size in (
      rw (
        le-leb _ _ c.if-k-lt1.false,
        le-leb _ _ c.if-k-gt6.false,
        le-ltb _ _ c.if-letters-gt1.false,
        ← e,
        eq-eqb _ _ c.if-out-size.false,
        le-ltb _ _ c.if-seq-gt131072.false,
      ),
      c.count_windows.ensures,
    )
