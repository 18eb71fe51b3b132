-- Private: what single records store. No public promise cites this file.
use Rattle.std.specs.Prelude.{ℕ, ◌+◌, ◌≡◌, Bool, ◌&&◌, List, leb, length}
use Rattle.std.proofs.lemmas.List.Edits.{sets}
use Rattle.form.specs.Form.{is_variant, is_second, body_len}
use Rattle.form.specs.declared.records.Kind.{Kind}

-- a whole variant of edition 2, with b from its body on
unfoldable pub has_number : Kind → List ℕ → Bool
has_number kind b = is_variant kind && (is_second kind && leb (body_len kind) (length b))

-- xs stand in u from position at on, and r is behind them
pub record Put (t u : List ℕ) (at r : ℕ) (xs : List ℕ) : Type 0 where
  pub is : u ≡ sets t at xs
  pub next : r ≡ at + length xs
