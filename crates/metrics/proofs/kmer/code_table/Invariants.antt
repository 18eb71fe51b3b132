-- The entries below byte b are laid, and those from b on are 0.
use Rattle.std.proofs.Common.{◌≡◌, ℕ, ◌<◌, ◌≤◌, length, get_or}
use Rattle.metrics.specs.Letters.{encoded}
use Rattle.metrics.specs.Lanes.{entry_of}
use Rattle.metrics.proofs.kmer.code_table.Given as goal

abbrev pub invariant-loop-b : goal.invariant-loop-b
invariant-loop-b l = record {
  whole : length l.table ≡ 256;
  laid : (i : ℕ) → i < l.b → get_or l.table i 0 ≡ entry_of (encoded i);
  empty : (i : ℕ) → l.b ≤ i → i < 256 → get_or l.table i 0 ≡ 0;
}
