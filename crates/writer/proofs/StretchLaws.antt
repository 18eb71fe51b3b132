-- Haplotypes written one behind the other: the parts up to a break, the record of the next haplotype, and then the rest, are the bytes from there on. Assumes nothing.
use Prim.Native.Nat.{ℕ, zero, suc, ◌+◌, ◌-◌, ◌≤◌, ◌<◌}
use native.Mathlib.Omega.{arith}
use native.Mathlib.Numerals.{add-one}
use mathlib.Core.Path.{◌≡◌, refl, sym, ap, ◌∙◌}
use mathlib.Core.Bool.{Bool, true}
use mathlib.Core.List.{List, [], ◌∷◌, ◌++◌}
use lib.IntN.{ℤ}
use lib.ListN.{length, get_or, take, drop, length-append, drop_of_length-le}
use lib.Seq.{drop-cons, sets}
use Rattle.form.specs.Job.{Part, parts_bytes, haplotypes_bytes}
use Rattle.form.specs.Lent.{sum}
use Rattle.writer.specs.Writing.{parts_from, cut_at, in_order}
use Rattle.writer.specs.Steps.{PartsFit, HaplotypesFit, Put}
use Rattle.fields.proofs.FieldLaws.{sets_append}
use Rattle.form.proofs.GatherLaws.{sum_next}
use Rattle.writer.proofs.RowLaws.{parts_at}
use Rattle.writer.proofs.CutLaws.{ordered_at, last_bytes, more_bytes}

-- ---- the rows that stand before a break, and those behind it, whose letters begin at q
module _ (sizes : List ℤ) (negatives : List Bool) (counts letters : List ℕ) where
  rows_before : (n k r p : ℕ) → take n (parts_from sizes negatives counts letters r p (n + k)) ≡ parts_from sizes negatives counts letters r p n
  unfolding parts_from
  rows_before zero k r p = refl
  rows_before (suc n) k r p = let e : suc n + k ≡ suc (n + k) = omega arith in rw (e, rows_before n k (suc r) (p + get_or counts r 0))

  rows_behind : (n k r p q : ℕ) → r + n ≤ length counts → p + sum (drop r counts) ≡ q + sum (drop (r + n) counts)
      → drop n (parts_from sizes negatives counts letters r p (n + k)) ≡ parts_from sizes negatives counts letters (r + n) q k
  unfolding parts_from
  rows_behind zero k r p q h e =
      let z : r + 0 ≡ r = omega arith in
      let s = ap (λ (i : ℕ). sum (drop i counts)) z in
      let g : p ≡ q = omega (arith, e, s) in
      let y : 0 + k ≡ k = omega arith in
      rw (z, y, g)
  rows_behind (suc n) k r p q h e =
      let f : r + suc n ≡ suc r + n = omega arith in
      let g : suc n + k ≡ suc (n + k) = omega arith in
      let i : r < length counts = omega arith in
      let s = rw (add-one r) at (sum_next counts r i) in
      let t = ap (λ (j : ℕ). sum (drop j counts)) f in
      rw (f, g) (rows_behind n k (suc r) (p + get_or counts r 0) q (omega arith) (omega (arith, s, t, e)))

-- ---- the bytes from row r on, whose letters begin at p, with the breaks from the i-th on
module _ (sizes : List ℤ) (negatives : List Bool) (counts letters breaks : List ℕ) where
  abbrev pub haplotypes_at : ℕ → ℕ → ℕ → List ℕ
  haplotypes_at i r p = haplotypes_bytes (cut_at r (drop i breaks) (parts_from sizes negatives counts letters r p (length sizes - r)))

  abbrev stretch : ℕ → ℕ → ℕ → List ℕ
  stretch r p end = parts_at sizes negatives counts letters end r p

  pub haplotypes_whole : (from : ℕ) → haplotypes_at 0 0 from ≡ haplotypes_bytes (cut_at 0 breaks (parts_from sizes negatives counts letters 0 from (length sizes)))
  haplotypes_whole from = let e : length sizes - 0 ≡ length sizes = omega arith in rw e

  pub haplotypes_last : (i r p : ℕ) → length breaks ≤ i → haplotypes_at i r p ≡ stretch r p (length sizes)
  haplotypes_last i r p h = rw (drop_of_length-le breaks {i = i} h) (last_bytes r (parts_from sizes negatives counts letters r p (length sizes - r)))

  module _ (i r p : ℕ) (inside : i < length breaks) (counted : length counts ≡ length sizes) (order : in_order (length sizes) r (drop i breaks) ≡ true) where
    abbrev rows : List Part
    rows = parts_from sizes negatives counts letters r p (length sizes - r)

    abbrev here : ℕ
    here = get_or breaks i 0

    parted : length sizes - r ≡ here - r + (length sizes - here)
    parted = let o = ordered_at (length sizes) r breaks i inside order in omega (arith, o.low_in, o.end_in)

    before : take (here - r) rows ≡ parts_from sizes negatives counts letters r p (here - r)
    before = rw parted (rows_before sizes negatives counts letters (here - r) (length sizes - here) r p)

    first_and_rest : haplotypes_at i r p ≡ stretch r p here ++ (5 ∷ haplotypes_bytes (cut_at here (drop (suc i) breaks) (drop (here - r) rows)))
    first_and_rest = ap (λ (bs : List ℕ). haplotypes_bytes (cut_at r bs rows)) (drop-cons breaks i 0 inside) ∙ more_bytes r here (drop (suc i) breaks) rows
        ∙ ap (λ (l : List Part). parts_bytes l ++ (5 ∷ haplotypes_bytes (cut_at here (drop (suc i) breaks) (drop (here - r) rows)))) before

    pub first_short : length (stretch r p here) + 1 ≤ length (haplotypes_at i r p)
    first_short =
        let e = ap length first_and_rest in
        let a = length-append (stretch r p here) (5 ∷ haplotypes_bytes (cut_at here (drop (suc i) breaks) (drop (here - r) rows))) in
        omega (arith, e, a)

    module _ (q : ℕ) (sums : p + sum (drop r counts) ≡ q + sum (drop here counts)) where
      behind : drop (here - r) rows ≡ parts_from sizes negatives counts letters here q (length sizes - here)
      behind =
          let o = ordered_at (length sizes) r breaks i inside order in
          let z : r + (here - r) ≡ here = omega (arith, o.low_in) in
          rw parted (rows_behind sizes negatives counts letters (here - r) (length sizes - here) r p q (omega (arith, z, o.end_in, counted)) (rw z sums) ∙ rw z)

      step : haplotypes_at i r p ≡ stretch r p here ++ (5 ∷ haplotypes_at (i + 1) here q)
      step = first_and_rest ∙ rw (behind, add-one i)

      pub haplotypes_more : (out m u : List ℕ) (a b : ℕ) → Put out m a b (stretch r p here) → u ≡ sets m b (5 ∷ [])
          → (sets u (b + 1) (haplotypes_at (i + 1) here q) ≡ sets out a (haplotypes_at i r p))
          × (b + 1 + length (haplotypes_at (i + 1) here q) ≡ a + length (haplotypes_at i r p))
      haplotypes_more out m u a b f g =
          let rest : List ℕ = haplotypes_at (i + 1) here q in
          let l = length-append (stretch r p here) (5 ∷ rest) in
          let s = ap length step in (
            rw (g, add-one b, f.is, f.next) (sym (sets_append out a (stretch r p here) (5 ∷ rest))) ∙ ap (sets out a) (sym step),
            omega (arith, l, s, f.next),
          )

  -- the room of the whole is room for what is left
  module _ (from at room : ℕ) (fit : HaplotypesFit sizes negatives counts letters from breaks at room) (a p r i : ℕ)
      (long : a + length (haplotypes_at i r p) ≡ at + length (haplotypes_at 0 0 from)) (sums : p + sum (drop r counts) ≡ length letters)
      (order : in_order (length sizes) r (drop i breaks) ≡ true) where
    left_fits : a + length (haplotypes_at i r p) ≤ room
    left_fits = let e = ap length (haplotypes_whole from) in omega (arith, e, long, fit.fits)

    pub turn_room : i < length breaks → a + length (stretch r p (get_or breaks i 0)) + 1 ≤ room
    turn_room inside = let s = first_short i r p inside fit.counts_are order in omega (arith, s, left_fits)

    pub turn_fit : i < length breaks → (there : ℕ) → there ≡ room → PartsFit sizes negatives counts letters p r (get_or breaks i 0) a there
    turn_fit inside there e = let o = ordered_at (length sizes) r breaks i inside order in record {
      negatives_are = fit.negatives_are;
      counts_are = fit.counts_are;
      letters_are = sums;
      first_in = o.low_in;
      end_in = o.end_in;
      fits = let h = turn_room inside in omega (arith, h, e);
    }

    pub last_fit : length breaks ≤ i → r ≤ length sizes → (there : ℕ) → there ≡ room → PartsFit sizes negatives counts letters p r (length sizes) a there
    last_fit done within there e = record {
      negatives_are = fit.negatives_are;
      counts_are = fit.counts_are;
      letters_are = sums;
      first_in = within;
      end_in = omega arith;
      fits = let h = ap length (haplotypes_last i r p done) in omega (arith, h, e, left_fits);
    }

  pub last_put : (from at a b i r p : ℕ) (t m u : List ℕ) → length breaks ≤ i → sets m a (haplotypes_at i r p) ≡ sets t at (haplotypes_at 0 0 from)
      → a + length (haplotypes_at i r p) ≡ at + length (haplotypes_at 0 0 from) → Put m u a b (stretch r p (length sizes))
      → Put t u at b (haplotypes_bytes (cut_at 0 breaks (parts_from sizes negatives counts letters 0 from (length sizes))))
  last_put from at a b i r p t m u done same long put =
      let e = haplotypes_last i r p done in
      let w = haplotypes_whole from in
      let f = ap length e in
      let g = ap length w in
      record { is = put.is ∙ ap (sets m a) (sym e) ∙ same ∙ ap (sets t at) w; next = omega (arith, put.next, f, g, long) }
