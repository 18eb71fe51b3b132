-- The number of the last k letters is that of all letters read, modulo 4 ^ k; the row has the counts of these letters by the reading. Where the reading
-- is not 0, the run says whether the window that ends here is kept; by reading 0 it always is, once there are k letters.
use Rattle.std.proofs.Common.{◌≡◌, ℕ, ◌+◌, ◌%◌, ◌^◌, ◌<◌, ◌≤◌, eqb, List, length, get_or, take, ℤ, pos, nat_abs, sym, refl, ap, ◌∙◌, subst, mod-lt, arith, length-take-le}
use native.Mathlib.Nat.{zero-mod}
use borrow.Author.Tests.{lt-leb}
use lib.ListN.{length-replicate}
use lib.Seq.{take-length}
use Rattle.metrics.specs.Letters.{read_by, number_of, counts_by}
use Rattle.metrics.proofs.Ints.{read_back}
use Rattle.metrics.proofs.Entries.{few_entries}
use Rattle.metrics.proofs.Codes.{cond_le, entry_le}
use Rattle.metrics.proofs.Windows.{last_letters, all_by_zero, counts_none, counts_size, four_pos, turn_number, turn_window, turn_kept, turn_left}
use Rattle.metrics.proofs.Runs.{run_from, turn_coded, turn_by_run}
use Rattle.metrics.proofs.kmer.count_windows.Goals.{After-next_window-window, Then-width-i, then-letters-eq0+then-width-i, then-letters-eq0+else-width-i, else-letters-eq0}
use Rattle.metrics.proofs.kmer.count_windows.Goals as goal

pub loop-i-init : goal.loop-i-init
unfolding number_of run_from
loop-i-init c =
    let k = c.args.k in
    let zeros = c.requires.4 in
    record {
      fits = rw c.requires.0 (four_pos k);
      last = sym (zero-mod (4 ^ k));
      room = ap length zeros ∙ length-replicate (4 ^ k) (pos 0) ∙ sym c.requires.0;
      counted = zeros ∙ sym (counts_none (read_by c.args.letters) k c.args.negative);
      few = omega arith;
      in_a_row = λ other. refl;
    }

pub entry_by_table-entry-requires : goal.entry_by_table-entry-requires
entry_by_table-entry-requires c = c.code_table-table.ensures

pub next_window-window-requires : goal.next_window-window-requires
next_window-window-requires c =
    (c.requires.0, omega (arith, few_entries c.args.k c.requires.2), omega (arith, entry_le (get_or c.args.seq.now c.loop-i.i 0)))

below : (r n m : ℕ) → r ≡ n % m → 0 < m → r < m
below r n m e h = rw e (mod-lt n h)

new_lt : (c : After-next_window-window) → (c.next_window-window.result) < c.args.size
new_lt c = below ((c.next_window-window.result)) _ c.args.size c.next_window-window.ensures (omega arith)

new_is : (c : After-next_window-window) → (c.next_window-window.result) ≡ number_of (take (c.loop-i.i + 1) c.args.seq.now) % 4 ^ c.args.k
new_is c =
    c.next_window-window.ensures
    ∙ turn_number c.args.k c.args.seq.now c.loop-i.i c.loop-i.window c.entry_by_table-entry.result c.args.size
    c.requires.0 c.requires.2 c.loop-i-test.true c.loop-i.invariant.last c.entry_by_table-entry.ensures

new_few : (c : After-next_window-window) → (c.next_window-window.result) < 4096
new_few c = omega (arith, new_lt c, few_entries c.args.k c.requires.2)

-- an entry of the row is at most the number of letters read
entry_size : (c : After-next_window-window) → nat_abs (get_or c.loop-i.out ((c.next_window-window.result)) (pos 0)) ≤ 131072
entry_size c =
    let k = c.args.k in
    let seq = c.args.seq.now in
    let read = c.loop-i.i in
    let room : (c.next_window-window.result) < 4 ^ k = omega (arith, new_lt c) in
    subst (λ (row : List ℤ). nat_abs (get_or row ((c.next_window-window.result)) (pos 0)) ≤ 131072) (sym c.loop-i.invariant.counted)
    (omega (arith, counts_size (read_by c.args.letters) k c.args.negative (take read seq) ((c.next_window-window.result)) room, length-take-le read seq (omega arith)))

-- ---- reading 0
new_window : (c : Then-width-i) → (c.next_window-window.result) ≡ number_of (last_letters c.args.k (take (c.loop-i.i + 1) c.args.seq.now))
new_window c =
    let new_is_here : (c.next_window-window.result) ≡ number_of (take (c.loop-i.i + 1) c.args.seq.now) % 4 ^ c.args.k = c.next_window-window.ensures
    ∙ turn_number c.args.k c.args.seq.now c.loop-i.i c.loop-i.window c.entry_by_table-entry.result c.args.size
    c.requires.0 c.requires.2 c.loop-i-test.true c.loop-i.invariant.last c.entry_by_table-entry.ensures in
    new_is_here ∙ turn_window c.args.k c.args.seq.now c.loop-i.i c.loop-i-test.true c.if-width-i.true

pub offset_bounds-out-window : goal.offset_bounds-out-window
offset_bounds-out-window c = omega (arith, new_few (goal.at.offset_bounds-out-window c).After-next_window-window)

pub slice_copy_out-counted_once_more : goal.slice_copy_out-counted_once_more
slice_copy_out-counted_once_more c = omega (arith, new_lt (goal.at.slice_copy_out-counted_once_more c).After-next_window-window)

pub counted_once_more-requires : goal.counted_once_more-requires
counted_once_more-requires c = rw (read_back _ c.counted_once_more-arg-1.given) (entry_size (goal.at.counted_once_more-requires c).After-next_window-window)

pub offset_bounds-out-window-then-width-i : goal.offset_bounds-out-window-then-width-i
offset_bounds-out-window-then-width-i c = omega (arith, new_few (goal.at.offset_bounds-out-window-then-width-i c).After-next_window-window)

pub bounds-out-window : goal.bounds-out-window
bounds-out-window c = omega (arith, new_lt (goal.at.bounds-out-window c).After-next_window-window)

-- ---- another reading
pub next_run-run-requires : goal.next_run-run-requires
next_run-run-requires c = omega arith

pub offset_bounds-out-window-else-letters-eq0 : goal.offset_bounds-out-window-else-letters-eq0
offset_bounds-out-window-else-letters-eq0 c = omega (arith, new_few (goal.at.offset_bounds-out-window-else-letters-eq0 c).After-next_window-window)

pub slice_copy_out-counted_if : goal.slice_copy_out-counted_if
slice_copy_out-counted_if c = omega (arith, new_lt (goal.at.slice_copy_out-counted_if c).After-next_window-window)

pub counted_if-requires : goal.counted_if-requires
counted_if-requires c = rw (read_back _ c.counted_if-arg-1.given) (entry_size (goal.at.counted_if-requires c).After-next_window-window)

pub offset_bounds-out-window-else-letters-eq0-2 : goal.offset_bounds-out-window-else-letters-eq0-2
offset_bounds-out-window-else-letters-eq0-2 c = omega (arith, new_few (goal.at.offset_bounds-out-window-else-letters-eq0-2 c).After-next_window-window)

pub bounds-out-window-else-letters-eq0 : goal.bounds-out-window-else-letters-eq0
bounds-out-window-else-letters-eq0 c = omega (arith, new_lt (goal.at.bounds-out-window-else-letters-eq0 c).After-next_window-window)

-- ---- the turn's end: by reading 0 the window is kept or there are too few letters; by another reading the run decides
pub loop-i-preserved : goal.loop-i-preserved
loop-i-preserved c =
    let n = (goal.at.loop-i-preserved c).After-next_window-window in
    let k = c.args.k in
    let seq = c.args.seq.now in
    let i = c.loop-i.i in
    let out = c.loop-i.out in
    let before = c.loop-i.invariant in
    let window = c.next_window-window.result in
    let room : length c.if-letters-eq0.out ≡ c.args.size = c.if-letters-eq0.auto.out ∙ before.room in
    elim c.if-letters-eq0.branch [
      | then-letters-eq0+then-width-i w ↦ record {
        fits = new_lt n;
        last = new_is n;
        room = room;
        counted =
            let y = rw (read_back (get_or out window (pos 0)) w.counted_once_more-arg-1.given) at w.counted_once_more.ensures in
            rw (w.out-is, read_back w.counted_once_more.result w.counted_once_more.type_inv)
            (turn_kept k seq i c.loop-i-test.true (read_by c.args.letters) (omega arith) c.args.negative out before.counted
            w.if-width-i.true (all_by_zero _ w.if-letters-eq0.true (last_letters k (take (i + 1) seq))) window
            w.counted_once_more.result (new_is n ∙ turn_window k seq i c.loop-i-test.true w.if-width-i.true) y);
        few = omega arith;
        in_a_row = λ other. absurd (other w.if-letters-eq0.true);
      }
      | then-letters-eq0+else-width-i w ↦ record {
        fits = new_lt n;
        last = new_is n;
        room = room;
        counted = rw w.out-is
            (turn_left k seq i c.loop-i-test.true (read_by c.args.letters) (omega arith) c.args.negative out before.counted (rw (lt-leb _ _ w.if-width-i.false)));
        few = omega arith;
        in_a_row = λ other. absurd (other w.if-letters-eq0.true);
      }
      | else-letters-eq0 w ↦
          let run : w.next_run-run.result ≡ run_from (read_by c.args.letters) 0 (take (i + 1) seq) =
          turn_coded k seq i c.loop-i-test.true c.args.letters w.if-letters-eq0.false c.loop-i.run c.entry_by_table-entry.result w.next_run-run.result
          (before.in_a_row w.if-letters-eq0.false) c.entry_by_table-entry.ensures w.next_run-run.ensures in
          record {
            fits = new_lt n;
            last = new_is n;
            room = room;
            counted =
                let y = rw (read_back (get_or out window (pos 0)) w.counted_if-arg-1.given) at w.counted_if.ensures in
                rw (w.out-is, read_back w.counted_if.result w.counted_if.type_inv)
                (turn_by_run k seq i c.loop-i-test.true (read_by c.args.letters) (omega arith) c.args.negative out before.counted
                w.next_run-run.result window w.counted_if.result run (new_is n) y);
            few = omega (arith, w.run-is, w.next_run-run.ensures, cond_le (eqb c.entry_by_table-entry.result 0) 0 (c.loop-i.run + 1) (i + 1) (omega arith) (omega arith));
            in_a_row = λ other. w.run-is ∙ run;
          }
    ]

pub shape_of-out : goal.shape_of-out
shape_of-out c =
    c.loop-i.invariant.room ∙ c.requires.0 ∙ sym (ap length c.requires.4 ∙ length-replicate (4 ^ c.args.k) (pos 0))

pub returns : goal.returns
unfolding counts_by
returns c =
    let e : c.loop-i.i ≡ length c.args.seq.now = omega arith in
    rw (e, take-length) at c.loop-i.invariant.counted
