-- Rows as they are sent are a chain exactly when each is there and extends those before it: what has grown from no chain is none, so that the first row which does not decides.
-- Whether a row stands with each of a chain's does not depend on the order in which they are asked. Assumes nothing.
use mathlib.Core.Path.{◌≡◌, refl, sym, ap, ◌∙◌}
use Prim.Native.Nat.{ℕ, ◌+◌, ◌≤◌, ◌<◌}
use native.Mathlib.Omega.{arith}
use native.Mathlib.Numerals.{add-one}
use mathlib.Core.Bool.{Bool, true, false, not, ◌&&◌}
use mathlib.Core.List.{List, [], ◌∷◌, ◌++◌, reverse, reverse-cons, reverse-append, reverse-reverse}
use lib.Dec.{leb, ltb}
use lib.ListN.{length, get_or, take, drop, take-append-drop, drop_of_length-le}
use lib.Seq.{take-suc, drop-cons}
use borrow.Author.Tests.{lt-leb, lt-ltb, le-ltb, le-leb}
use Rattle.metrics.specs.Similarity.{overlaps_of}
use Rattle.paths.specs.Best.{All}
use Rattle.paths.specs.Chains.{first_after, extends, is_chain}
use Rattle.paths.specs.Count.{stands_with_all}
use Rattle.paths.proofs.BooleanLaws.{and_false, and_true, and_assoc}
use Rattle.paths.proofs.QueueLaws.{all_append, chain_parts}
use Rattle.kplib.specs.Graph.{edge, extends_in, is_chain_in}
use Rattle.kplib.specs.Scoring.{AllBelow}

-- ---- a chain's rows are below n, in whichever order they are written
pub all_reverse : (P : ℕ → Type 0) (l : List ℕ) → All P l → All P (reverse l)
all_reverse P [] h = tt
all_reverse P (x ∷ l) h = rw (reverse-cons x l) (all_append P (reverse l) (x ∷ []) (all_reverse P l h.1) (h.0, tt))

pub chain_below : (follows : List ℕ → ℕ → Bool) (n : ℕ) (c : List ℕ) → is_chain follows n c ≡ true → AllBelow n c
chain_below follows n [] e = tt
chain_below follows n (s ∷ c) e = let p = chain_parts follows n s c e in (p.1, chain_below follows n c p.0)

pub sent_below : (follows : List ℕ → ℕ → Bool) (n : ℕ) (rows : List ℕ) → is_chain follows n (reverse rows) ≡ true → AllBelow n rows
sent_below follows n rows e = rw (← reverse-reverse rows) (all_reverse (λ r. r < n) (reverse rows) (chain_below follows n (reverse rows) e))

-- ---- a row and each of a chain's
stands_both : (joins : ℕ → ℕ → Bool) (a b : List ℕ) (s : ℕ) → stands_with_all joins (a ++ b) s ≡ (stands_with_all joins a s && stands_with_all joins b s)
stands_both joins [] b s = refl
stands_both joins (r ∷ a) b s = rw (stands_both joins a b s) (sym (and_assoc (joins r s) (stands_with_all joins a s) (stands_with_all joins b s)))

and_swap : (a b : Bool) → (a && b) ≡ (b && a)
and_swap true b = sym (and_true b)
and_swap false b = sym (and_false b)

stands_reversed : (joins : ℕ → ℕ → Bool) (c : List ℕ) (s : ℕ) → stands_with_all joins (reverse c) s ≡ stands_with_all joins c s
stands_reversed joins [] s = refl
stands_reversed joins (r ∷ c) s =
    rw (reverse-cons r c, stands_both joins (reverse c) (r ∷ []) s, stands_reversed joins c s, and_true (joins r s)) (and_swap (stands_with_all joins c s) (joins r s))

pub edge_is : (starts ends : List ℕ) (r s : ℕ) {o : Bool} → o ≡ overlaps_of (get_or starts r 0) (get_or ends r 0) (get_or starts s 0) (get_or ends s 0) → edge starts ends r s ≡ not o
unfolding edge
edge_is starts ends r s e = rw e refl

-- the rows from place i on decide
pub record Standing (joins : ℕ → ℕ → Bool) (chain : List ℕ) (s i : ℕ) : Type 0 where
  pub rest : stands_with_all joins (drop i chain) s ≡ stands_with_all joins chain s

pub none_asked : (joins : ℕ → ℕ → Bool) (chain : List ℕ) (s : ℕ) → Standing joins chain s 0
none_asked joins chain s = record { rest = refl }

module _ {joins : ℕ → ℕ → Bool} {chain : List ℕ} {s i : ℕ} (h : Standing joins chain s i) where
  row_first : i < length chain → (joins (get_or chain i 0) s && stands_with_all joins (drop (i + 1) chain) s) ≡ stands_with_all joins chain s
  row_first k = rw (add-one i) (sym (ap (λ (l : List ℕ). stands_with_all joins l s) (drop-cons chain i 0 k)) ∙ h.rest)

  pub stands_on : i < length chain → joins (get_or chain i 0) s ≡ true → Standing joins chain s (i + 1)
  stands_on k e = record { rest = rw e at (row_first k) }

  pub stands_not : i < length chain → joins (get_or chain i 0) s ≡ false → false ≡ stands_with_all joins (reverse chain) s
  stands_not k e = rw (stands_reversed joins chain s) (rw e at (row_first k))

  pub stands_all : length chain ≤ i → true ≡ stands_with_all joins (reverse chain) s
  stands_all k = rw (stands_reversed joins chain s) (rw (drop_of_length-le chain k) at h.rest)

-- ---- one row
module _ (starts ends : List ℕ) (full : Bool) (c : List ℕ) (s : ℕ) where
  pub row_absent : length starts ≤ s → false ≡ (ltb s (length starts) && extends_in starts ends full c s)
  row_absent h = rw (le-ltb s (length starts) h)

  pub row_early : {next : ℕ} → next ≡ first_after c → s < next → false ≡ (ltb s (length starts) && extends_in starts ends full c s)
  unfolding extends
  row_early e h = rw (lt-leb (first_after c) s (omega (arith, e))) (sym (and_false (ltb s (length starts))))

  pub row_bare : full ≡ false → false ≡ (ltb s (length starts) && extends_in starts ends full c s)
  unfolding extends
  row_bare e = rw (e, and_false (leb (first_after c) s)) (sym (and_false (ltb s (length starts))))

  pub row_stands : {next : ℕ} {r : Bool} → s < length starts → next ≡ first_after c → next ≤ s → full ≡ true → r ≡ stands_with_all (edge starts ends) c s
      → r ≡ (ltb s (length starts) && extends_in starts ends full c s)
  unfolding extends
  row_stands h e k f g = rw (lt-ltb s (length starts) h, le-leb (first_after c) s (omega (arith, e)), f) g

-- ---- the rows one by one
module _ (starts ends : List ℕ) (full : Bool) (rows : List ℕ) where
  pub record Grown (i next : ℕ) : Type 0 where
    pub after : next ≡ first_after (reverse (take i rows))
    pub chain : is_chain_in starts ends full (reverse (take i rows)) ≡ true

  -- what has grown from no chain is none
  never : (a c : List ℕ) → is_chain_in starts ends full c ≡ false → is_chain_in starts ends full (a ++ c) ≡ false
  unfolding is_chain
  never [] c z = z
  never (s ∷ a) c z = rw (never a c z)

  pub none_grown : Grown 0 0
  unfolding is_chain
  none_grown = record { after = refl; chain = refl }

  module _ {i next : ℕ} (h : Grown i next) where
    pub grown_below : AllBelow (length starts) (take i rows)
    grown_below = sent_below _ (length starts) (take i rows) h.chain

    abbrev extended : Bool
    extended = ltb (get_or rows i 0) (length starts) && extends_in starts ends full (reverse (take i rows)) (get_or rows i 0)

    longer : i < length rows → reverse (take (i + 1) rows) ≡ get_or rows i 0 ∷ reverse (take i rows)
    longer k = rw (add-one i, take-suc rows i 0 k) (reverse-append (take i rows) (get_or rows i 0 ∷ []))

    grown_is : i < length rows → is_chain_in starts ends full (reverse (take (i + 1) rows)) ≡ extended
    unfolding is_chain
    grown_is k = rw (longer k, h.chain) refl

    pub grown_on : i < length rows → {r : Bool} → r ≡ extended → r ≡ true → Grown (i + 1) (get_or rows i 0 + 1)
    grown_on k e f = record { after = rw (longer k) (add-one (get_or rows i 0)); chain = grown_is k ∙ sym e ∙ f }

    pub grown_not : i < length rows → {r : Bool} → r ≡ extended → r ≡ false → false ≡ is_chain_in starts ends full (reverse rows)
    grown_not k e f =
        sym (ap (λ (l : List ℕ). is_chain_in starts ends full (reverse l)) (sym (take-append-drop (i + 1) rows))
        ∙ rw (reverse-append (take (i + 1) rows) (drop (i + 1) rows)) (never (reverse (drop (i + 1) rows)) (reverse (take (i + 1) rows)) (grown_is k ∙ sym e ∙ f)))
