-- The first i entries are joined by each function that f computes, the others the left's. Assumes nothing.
use Rattle.std.proofs.Common.{◌≡◌, ℕ, ◌<◌, get_or}
use Rattle.meta.specs.Meta.{joined_first}
use Rattle.meta.proofs.arrays.joined_first.Given as goal

abbrev pub invariant-loop-i : goal.invariant-loop-i
invariant-loop-i g l =
    (op : ℕ → ℕ → ℕ) → ((k : ℕ) (x : _) → k < l.n → goal.F-post g l.f (get_or l.a k 0) (get_or l.b k 0) x → x ≡ op (get_or l.a k 0) (get_or l.b k 0))
    → l.joined ≡ joined_first op l.i l.a l.b
