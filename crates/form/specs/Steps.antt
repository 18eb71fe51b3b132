-- Private: what single records do. No public promise cites this file.
use Rattle.std.specs.Prelude.{ℕ, zero, suc, ◌+◌, ◌-◌, ◌≤◌, ◌≡◌, List, [], ◌∷◌, ◌++◌, cond, length, ltb, leb}
use Rattle.form.specs.Form.{letters_kind, letters_len, kind_of, is_variant, is_part, is_letters, is_next, body_len, count_of, after}
use Rattle.form.specs.Job.{letters_in, letters_after, part_here}
use Rattle.form.specs.declared.records.Kind.{Kind}
use Rattle.form.specs.declared.records.Kind.TheVariants.{Part}
use Rattle.form.specs.declared.records.State.{State}

-- a state that a record with no fault leads to, with bounds that keep the counts within the input's length
pub record Follows (st : State) (kind : Kind) (b : List ℕ) (r : State) : Type 0 where
  pub is : r ≡ after st kind b
  pub variants_grow : r.variants ≤ st.variants + 1
  pub parts_grow : r.parts ≤ st.parts + 1
  pub breaks_grow : r.breaks ≤ st.breaks + 1
  pub letters_grow : r.letters ≤ st.letters + body_len kind

-- counts that leave room for one more record
abbrev pub Small : State → ℕ → Type 0
Small st n = (st.variants ≤ n) × ((st.parts ≤ n) × ((st.breaks ≤ n) × (st.letters ≤ n)))

-- the letters behind a variant, and behind a part
unfoldable pub variant_letters_here : Kind → List ℕ → List ℕ
variant_letters_here kind b = cond (is_variant kind) (cond (ltb (length b) (body_len kind)) [] (letters_after kind b)) []

unfoldable pub part_letters_here : Kind → List ℕ → List ℕ
part_letters_here kind b = cond (is_part kind) (cond (ltb (length b) (body_len Part)) [] (letters_after Part b)) []

-- of the letters that are owed, those that a record gives, and those owed behind it
unfoldable pub letters_given : Kind → ℕ → ℕ
letters_given kind left = cond (is_letters kind) (cond (leb left letters_len) left letters_len) 0

-- a record that announces count letters
unfoldable pub letters_owed : Kind → ℕ → ℕ → ℕ
letters_owed kind count left = cond (is_letters kind) (cond (leb left letters_len) 0 (left - letters_len)) count

-- the letters in the order of the bytes, of which the first n belong to a record that was read already
unfoldable pub letters_walk : List ℕ → ℕ → ℕ → List ℕ
letters_walk [] n left = []
letters_walk (k ∷ b) (suc n) left = letters_walk b n left
letters_walk (k ∷ b) zero left =
    letters_in (letters_kind ∷ b) 0 (letters_given (kind_of k) left) ++ letters_walk b (body_len (kind_of k)) (letters_owed (kind_of k) (count_of (kind_of k) b) left)

-- a haplotype that begins at a record, behind p parts
unfoldable pub break_here : Kind → ℕ → List ℕ
break_here kind p = cond (is_next kind) (p ∷ []) []

-- how many parts stand before each haplotype that begins in the bytes, of which the first n belong to a record that was read already, behind p parts
unfoldable pub breaks_walk : List ℕ → ℕ → ℕ → List ℕ
breaks_walk [] n p = []
breaks_walk (k ∷ b) (suc n) p = breaks_walk b n p
breaks_walk (k ∷ b) zero p = break_here (kind_of k) p ++ breaks_walk b (body_len (kind_of k)) (p + length (part_here (kind_of k) b))
