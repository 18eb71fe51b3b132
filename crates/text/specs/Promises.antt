-- The promise of each public function, said once: the function's `ensures` and `Unique` (crates/audit) cite it by name.
-- Its arguments are the function's own, in their order, a lent slice by what it holds at entry; then what the `&mut` holds at exit; then the result r.
use Rattle.std.specs.Prelude.{ℕ, List, take}
use Rattle.kplib.specs.declared.traverse.Answer.{Answer}
use Rattle.text.specs.Text.{digits_within, refused_text, hap_text, answer_text}
use Rattle.text.specs.Written.{Written}

abbrev pub PutBytesPromise : List ℕ → ℕ → List ℕ → List ℕ → ℕ → Type 0
PutBytesPromise out at src out' r = Written out at src out' r

abbrev pub PutDigitsPromise : List ℕ → ℕ → ℕ → ℕ → List ℕ → ℕ → Type 0
PutDigitsPromise out at n left out' r = Written out at (digits_within left n) out' r

abbrev pub PutRefusedPromise : List ℕ → ℕ → ℕ → List ℕ → ℕ → Type 0
PutRefusedPromise out at n out' r = Written out at (refused_text n) out' r

abbrev pub PutHapPromise : List ℕ → ℕ → ℕ → List ℕ → ℕ → Type 0
PutHapPromise out at i out' r = Written out at (hap_text i) out' r

-- the rows, and their records, are the first of those lent, as many as the answer counts, or all where fewer are lent
abbrev pub PutAnswerPromise : List ℕ → ℕ → List ℕ → List ℕ → Answer → List ℕ → ℕ → Type 0
PutAnswerPromise out at rows records a out' r = Written out at (answer_text a (take a.rows rows) (take a.rows records)) out' r
