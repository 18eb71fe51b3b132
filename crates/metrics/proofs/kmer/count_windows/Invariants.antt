-- The number of the last k letters is that of all letters read, modulo 4 ^ k; the row has the counts of these letters by the reading. Where the reading
-- is not 0, the run says whether the window that ends here is kept; by reading 0 it always is, once there are k letters.
use Rattle.std.proofs.Common.{◌≡◌, ◌%◌, ◌^◌, ◌<◌, ◌≤◌, length, take}
use Rattle.metrics.specs.Letters.{read_by, number_of, counts_reading}
use Rattle.metrics.proofs.Runs.{run_from}
use Rattle.metrics.proofs.kmer.count_windows.Given as goal

abbrev pub invariant-loop-i : goal.invariant-loop-i
invariant-loop-i l = record {
  fits : l.window < l.size;
  last : l.window ≡ number_of (take l.i l.seq) % 4 ^ l.k;
  room : length l.out ≡ l.size;
  counted : l.out ≡ counts_reading (read_by l.letters) l.k l.negative (take l.i l.seq);
  few : l.run ≤ l.i;
  in_a_row : (l.letters ≡ 0 → ⊥) → l.run ≡ run_from (read_by l.letters) 0 (take l.i l.seq);
}
