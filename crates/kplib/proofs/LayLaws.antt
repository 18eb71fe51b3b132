-- Part lists laid down as codes: one list, one position more, lists laid one after another, all lengths, and the whole haplotype alone. Assumes nothing.
use mathlib.Core.Path.{◌≡◌, refl, sym, ap, ◌∙◌, subst}
use mathlib.Core.Bool.{Bool, true, false}
use mathlib.Core.List.{List, [], ◌∷◌, ◌++◌, map, append-nil}
use Prim.Native.Nat.{ℕ, zero, suc, ◌+◌, ◌-◌, ◌*◌, ◌/◌, ◌%◌, ◌^◌, ◌≤◌, ◌<◌}
use native.Mathlib.Nat.{not-suc-le-zero, le_of_suc-le-suc, pow-suc}
use native.Mathlib.Numerals.{add-one}
use native.Mathlib.Omega.{arith}
use borrow.Author.Tests.{ltb-true, ltb-false}
use lib.Dec.{ltb}
use lib.IntN.{ℤ, pos, nat_abs, ◌+ℤ◌}
use lib.ListN.{length, get_or, take, set, length-append, length-set, get_or-append}
use lib.Seq.{get_or-append-add, get_or-take, take-take, take-set-le, get_or-set_same}
use lib.Pow.{pow_mono}
use mir.Syntax.{w32}
use mir.Val.{to_z, of_z}
use Rattle.metrics.proofs.Ints.{add_le}
use Rattle.kplib.specs.Parts.{whole_of, choices, falling_lists, lengths_of, part_lists}
use Rattle.kplib.specs.Sums.{size_from, size_of}
use Rattle.kplib.specs.Scoring.{positions_of_bits, LaidList, LaidFrom, Choosing, Chosen, LayingLengths, LaidLengths, Layable, LaidDown}
use Rattle.params.specs.declared.Settings.{Settings}
use Rattle.kplib.proofs.WordLaws.{back}
use Rattle.kplib.proofs.PartLaws.{choices_none, one_choice, map_length, split_under, split_length, falling_none, falling_more, falling_few, whole_only, all_lengths}
use Rattle.kplib.proofs.CodeLaws.{bits_zero, bits_more, code_bits, code_whole, bits_below, bits_length, whole_below, whole_length}
use Rattle.kplib.proofs.SizeSumLaws.{size_snoc, size_le}

-- ---- laid one after another
get_d_kept : {A : Type 0} (d : A) (n i : ℕ) (a b : List A) → take n a ≡ take n b → i < n → get_or a i d ≡ get_or b i d
get_d_kept d n i a b e h = sym (get_or-take n a i d h) ∙ ap (λ (x : List _). get_or x i d) e ∙ get_or-take n b i d h

module _ (at mid : ℕ) (sizes : List ℤ) (c c' : List ℕ) (z z' : List ℤ) (L R : List (List ℕ)) (g : mid ≡ at + length L)
    (kc : take mid c' ≡ take mid c) (kz : take mid z' ≡ take mid z) (hl : LaidFrom sizes at c z L) (hr : LaidFrom sizes mid c' z' R) where
  first_part : (i : ℕ) → i < length L → LaidList sizes (get_or c' (at + i) 0) (get_or z' (at + i) (pos 0)) (get_or (L ++ R) i [])
  first_part i h =
      let b : at + i < mid = omega arith in
      rw (get_d_kept 0 mid (at + i) c' c kc b, get_d_kept (pos 0) mid (at + i) z' z kz b, get_or-append L R [] i h) (hl i h)

  second_part : (i j : ℕ) → i ≡ length L + j → j < length R → LaidList sizes (get_or c' (at + i) 0) (get_or z' (at + i) (pos 0)) (get_or (L ++ R) i [])
  second_part i j e h =
      let b : at + i ≡ mid + j = omega arith in
      rw (b, e, get_or-append-add L R j []) (hr j h)

  pub laid_append : LaidFrom sizes at c' z' (L ++ R)
  laid_append i h = go (ltb i (length L)) refl
    where
      go : (t : Bool) → ltb i (length L) ≡ t → LaidList sizes (get_or c' (at + i) 0) (get_or z' (at + i) (pos 0)) (get_or (L ++ R) i [])
      go true t = first_part i (ltb-true i (length L) t)
      go false t =
          let le : length L ≤ i = ltb-false i (length L) t in
          second_part i (i - length L) (omega arith) (omega (arith, length-append L R))

-- ---- the lists from a prefix on
take_shorter : {A : Type 0} (k n : ℕ) (a b : List A) → k ≤ n → take n a ≡ take n b → take k a ≡ take k b
take_shorter k n a b h e = sym (take-take k n a h) ∙ ap (λ (x : List _). take k x) e ∙ take-take k n b h

module _ {p n d bits bit at : ℕ} {size : ℤ} {sizes : List ℤ} {codes : List ℕ} {list_sizes : List ℤ} (y : Choosing p n d bits bit at size sizes codes list_sizes) where
  prefix_le : nat_abs size ≤ 8388608
  prefix_le =
      subst (λ (z : ℤ). nat_abs z ≤ 8388608) (sym y.size_is)
      (size_le sizes (positions_of_bits 0 (length sizes) bits) y.sized (omega (arith, y.count, y.less, y.inside, y.few)))

  size_back : to_z w32 (of_z w32 size) ≡ size
  size_back = back size (omega (arith, prefix_le))

  pub size_ok : nat_abs (to_z w32 (of_z w32 size)) ≤ 8388608
  size_ok = rw size_back prefix_le

  bit_le : 2 ^ p ≤ 65536
  bit_le = let h : p ≤ 16 = omega (arith, y.inside, y.few) in pow_mono {j = 16} h

  pub numbers : (bits < 65536) × (bit ≤ 65536) × (d ≤ 16)
  numbers = omega (arith, bit_le, y.low, y.bit_is, y.less, y.inside, y.few)

  pub none_chosen : length sizes - p < n → Chosen p n bits at sizes codes codes list_sizes list_sizes at
  none_chosen h =
      let e = choices_none (length sizes - p) p n h in
      record {
        end = rw e (omega arith);
        codes_kept = refl;
        sizes_kept = refl;
        laid = rw e (λ i k. absurd (not-suc-le-zero k));
      }

  leaf_entry : n ≡ 0 → at < length codes
      → LaidList sizes (get_or (set codes at (bits + 65536 * d)) at 0) (get_or (set list_sizes at (to_z w32 (of_z w32 size))) at (pos 0)) (positions_of_bits 0 (length sizes) bits ++ [])
  leaf_entry u h =
      let k = numbers in
      let v : (bits + 65536 * d) % 65536 ≡ bits = omega arith in
      let w : (bits + 65536 * d) / 65536 ≡ d = omega arith in
      let l : at < length list_sizes = omega (arith, y.beside) in
      rw (get_or-set_same codes at (bits + 65536 * d) 0 h, get_or-set_same list_sizes at (to_z w32 (of_z w32 size)) (pos 0) l, append-nil (positions_of_bits 0 (length sizes) bits))
      (record {
        list_is = code_bits (length sizes) (bits + 65536 * d) (λ q. omega (arith, q, v, u, y.held, y.some)) ∙ rw v;
        count_is = w ∙ y.count;
        size_is = size_back ∙ y.size_is;
        within = bits_below (length sizes) (length sizes) 0 bits (omega arith);
        most = bits_length (length sizes) 0 bits;
      })

  pub leaf_room : n ≡ 0 → (at < length codes) × (at < length list_sizes)
  leaf_room z = omega (arith, ap length (one_choice (length sizes - p) p n z), y.room, y.beside)

  pub one_chosen : n ≡ 0 → Chosen p n bits at sizes codes (set codes at (bits + 65536 * d)) list_sizes (set list_sizes at (to_z w32 (of_z w32 size))) (at + 1)
  one_chosen z =
      let e = one_choice (length sizes - p) p n z in
      record {
        end = omega (arith, ap length e);
        codes_kept = take-set-le at codes at (bits + 65536 * d) (omega arith);
        sizes_kept = take-set-le at list_sizes at (to_z w32 (of_z w32 size)) (omega arith);
        laid = rw e (go (leaf_entry z (leaf_room z).0));
      }
    where
      go : LaidList sizes (get_or (set codes at (bits + 65536 * d)) at 0) (get_or (set list_sizes at (to_z w32 (of_z w32 size))) at (pos 0)) (positions_of_bits 0 (length sizes) bits ++ [])
          → LaidFrom sizes at (set codes at (bits + 65536 * d)) (set list_sizes at (to_z w32 (of_z w32 size))) ((positions_of_bits 0 (length sizes) bits ++ []) ∷ [])
      go x zero k = let a : at + 0 ≡ at = omega arith in rw a x
      go x (suc i) k = absurd (not-suc-le-zero (le_of_suc-le-suc k))

  module _ (enough : n ≤ length sizes - p) (nz : n ≡ 0 → ⊥) where
    pub position_left : p < length sizes
    position_left = omega (arith, enough, nz)

    bits_next : positions_of_bits 0 (length sizes) (bits + bit) ≡ positions_of_bits 0 (length sizes) bits ++ (p ∷ [])
    bits_next =
        let z : 0 + p ≡ p = omega arith in
        rw (y.bit_is, bits_more p (length sizes) 0 bits y.low position_left, z)

    bit_next : bit * 2 ≡ 2 ^ (p + 1)
    bit_next = rw (y.bit_is, add-one p) (sym (pow-suc 2 p))

    pub taking : {more : ℤ} → more ≡ to_z w32 (of_z w32 size) +ℤ get_or sizes p (pos 0)
        → Choosing (p + 1) (n - 1) (d + 1) (bits + bit) (bit * 2) at (to_z w32 (of_z w32 more)) sizes codes list_sizes
    taking {more} f =
        let g : more ≡ size +ℤ get_or sizes p (pos 0) = f ∙ ap (λ (z : ℤ). z +ℤ get_or sizes p (pos 0)) size_back in
        let r : nat_abs more ≤ 16777216 = omega (arith, ap nat_abs g, add_le size (get_or sizes p (pos 0)), y.sized.sized p, prefix_le) in
        record {
          few = y.few;
          inside = omega (arith, position_left);
          bit_is = bit_next;
          low = omega (arith, y.low, y.bit_is, bit_next);
          count = omega (arith, ap length bits_next, length-append (positions_of_bits 0 (length sizes) bits) (p ∷ []), y.count);
          held = omega (arith, y.held, y.low, y.bit_is);
          some = omega arith;
          less = omega (arith, y.less);
          sized = y.sized;
          size_is = back more r ∙ g ∙ ap (λ (z : ℤ). z +ℤ get_or sizes p (pos 0)) y.size_is
              ∙ sym (size_snoc sizes (positions_of_bits 0 (length sizes) bits) p) ∙ ap (λ (l : List ℕ). size_of sizes l) (sym bits_next);
          room = omega (arith, split_length (length sizes) p n position_left nz, y.room);
          beside = y.beside;
        }

    module _ {codes1 : List ℕ} {listSizes1 : List ℤ} {mid : ℕ} (w : Chosen (p + 1) (n - 1) (bits + bit) at sizes codes codes1 list_sizes listSizes1 mid)
        (lc : length codes1 ≡ length codes) (ll : length listSizes1 ≡ length list_sizes) where
      pub leaving : Choosing (p + 1) n d bits (bit * 2) mid (to_z w32 (of_z w32 size)) sizes codes1 listSizes1
      leaving = record {
        few = y.few;
        inside = omega (arith, position_left);
        bit_is = bit_next;
        low = omega (arith, y.low, y.bit_is, bit_next);
        count = y.count;
        held = y.held;
        some = y.some;
        less = omega (arith, y.less);
        sized = y.sized;
        size_is = size_back ∙ y.size_is;
        room = omega (arith, split_length (length sizes) p n position_left nz, y.room, w.end);
        beside = ll ∙ y.beside ∙ sym lc;
      }

      pub both_chosen : {codes2 : List ℕ} {listSizes2 : List ℤ} {r : ℕ} → Chosen (p + 1) n bits mid sizes codes1 codes2 listSizes1 listSizes2 r
          → Chosen p n bits at sizes codes codes2 list_sizes listSizes2 r
      both_chosen {codes2} {listSizes2} v =
          let A = choices (length sizes - (p + 1)) (p + 1) (n - 1) in
          let L = map (λ (l : List ℕ). (positions_of_bits 0 (length sizes) bits ++ (p ∷ [])) ++ l) A in
          let R = map (λ (l : List ℕ). positions_of_bits 0 (length sizes) bits ++ l) (choices (length sizes - (p + 1)) (p + 1) n) in
          let le : at ≤ mid = omega (arith, w.end) in
          let g : mid ≡ at + length L = omega (arith, w.end, map_length (positions_of_bits 0 (length sizes) bits ++ (p ∷ [])) A) in
          record {
            end = omega (arith, v.end, w.end, split_length (length sizes) p n position_left nz);
            codes_kept = take_shorter at mid codes2 codes1 le v.codes_kept ∙ w.codes_kept;
            sizes_kept = take_shorter at mid listSizes2 listSizes1 le v.sizes_kept ∙ w.sizes_kept;
            laid = rw (split_under (length sizes) p n position_left nz (positions_of_bits 0 (length sizes) bits))
                (laid_append at mid sizes codes1 codes2 listSizes1 listSizes2 L R g v.codes_kept v.sizes_kept (rw bits_next at w.laid) v.laid);
          }

-- ---- one length after another
map_nil : (xs : List (List ℕ)) → map (λ (l : List ℕ). [] ++ l) xs ≡ xs
map_nil [] = refl
map_nil (x ∷ xs) = ap (λ (t : List (List ℕ)). x ∷ t) (map_nil xs)

-- the lists of the first i lengths are laid
abbrev pub Laying : List ℤ → ℕ → ℕ → List ℕ → List ℤ → Type 0
Laying sizes i at codes list_sizes =
    (at ≡ length (falling_lists (length sizes) i (length sizes))) × LaidFrom sizes 0 codes list_sizes (falling_lists (length sizes) i (length sizes))

pub laying_starts : (sizes : List ℤ) (codes : List ℕ) (list_sizes : List ℤ) → Laying sizes 0 0 codes list_sizes
laying_starts sizes codes list_sizes = rw (falling_none (length sizes) (length sizes)) (refl, λ i k. absurd (not-suc-le-zero k))

module _ {sizes : List ℤ} {lengths : ℕ} {codes₀ : List ℕ} {listSizes₀ : List ℤ} (y : LayingLengths sizes lengths codes₀ listSizes₀) {i at : ℕ} (h : i < lengths)
    (codes : List ℕ) (list_sizes : List ℤ) (lc : length codes ≡ length codes₀) (ll : length list_sizes ≡ length listSizes₀) (v : Laying sizes i at codes list_sizes) where
  all_left : length sizes - 0 ≡ length sizes
  all_left = omega arith

  next_length : length (falling_lists (length sizes) (i + 1) (length sizes)) ≡ at + length (choices (length sizes) 0 (length sizes - i))
  next_length =
      ap length (falling_more (length sizes) i (length sizes)) ∙ length-append (falling_lists (length sizes) i (length sizes)) (choices (length sizes) 0 (length sizes - i))
      ∙ ap (λ (x : ℕ). x + length (choices (length sizes) 0 (length sizes - i))) (sym v.0)

  pub choosing : Choosing 0 (length sizes - i) 0 0 1 at (pos 0) sizes codes list_sizes
  unfolding size_of size_from
  choosing = record {
    few = omega (arith, y.few);
    inside = omega arith;
    bit_is = refl;
    low = omega arith;
    held = omega arith;
    some = omega (arith, y.lengths_few);
    count = rw (bits_zero 0 (length sizes));
    less = omega arith;
    sized = y.sized;
    size_is = rw (bits_zero 0 (length sizes));
    room = rw all_left (omega (arith, next_length, falling_few (length sizes) (i + 1) (length sizes) (omega (arith, y.lengths_few)) y.few, y.room, lc));
    beside = ll ∙ y.beside ∙ sym lc;
  }

  pub laying_turn : {codes' : List ℕ} {listSizes' : List ℤ} {r : ℕ} → Chosen 0 (length sizes - i) 0 at sizes codes codes' list_sizes listSizes' r → Laying sizes (i + 1) r codes' listSizes'
  laying_turn {codes'} {listSizes'} w =
      let R = choices (length sizes) 0 (length sizes - i) in
      let laid : LaidFrom sizes at codes' listSizes' R = rw (bits_zero 0 (length sizes), all_left, map_nil R) at w.laid in
      let g : at ≡ 0 + length (falling_lists (length sizes) i (length sizes)) = omega (arith, v.0) in (
        (rw all_left at w.end) ∙ sym next_length,
        rw (falling_more (length sizes) i (length sizes))
            (laid_append 0 at sizes codes codes' list_sizes listSizes' (falling_lists (length sizes) i (length sizes)) R g w.codes_kept w.sizes_kept v.1 laid),
      )

pub laying_done : {sizes : List ℤ} {lengths : ℕ} {codes₀ : List ℕ} {listSizes₀ : List ℤ} → LayingLengths sizes lengths codes₀ listSizes₀ → {i at : ℕ} → i ≡ lengths
    → (codes : List ℕ) (list_sizes : List ℤ) → Laying sizes i at codes list_sizes → LaidLengths sizes lengths codes list_sizes at
laying_done {sizes} {lengths} y e codes list_sizes v =
    let w = rw e at v in
    record { counted = w.0; laid = w.1; few = omega (arith, w.0, falling_few (length sizes) lengths (length sizes) y.lengths_few y.few) }

-- ---- all the part lists
module _ {s : Settings} {sizes : List ℤ} {codes : List ℕ} {list_sizes : List ℤ} (y : Layable s sizes codes list_sizes) where
  pub whole_laid : {size : ℤ} → size ≡ size_of sizes (whole_of (length sizes)) → s.pileupmax ≤ length sizes
      → LaidDown s sizes (set codes 0 (65536 * length sizes)) (set list_sizes 0 (to_z w32 (of_z w32 size))) 1
  whole_laid {size} e h =
      let m = length sizes in
      let only = whole_only m s.fnmax s.pileupmax h in
      let b : nat_abs size ≤ 8388608 = subst (λ (z : ℤ). nat_abs z ≤ 8388608) (sym e) (size_le sizes (whole_of m) y.sized (omega (arith, whole_length m, y.sized.few))) in
      let bits : 65536 * m % 65536 ≡ 0 = omega arith in
      let count : 65536 * m / 65536 ≡ m = omega arith in
      let one : LaidList sizes (65536 * m) size (whole_of m) = record {
        list_is = code_whole m (65536 * m) bits ∙ ap whole_of count;
        count_is = count ∙ sym (whole_length m);
        size_is = e;
        within = whole_below m;
        most = omega (arith, whole_length m);
      } in
      record {
        counted = sym (ap length only);
        laid = rw (only, back size (omega arith)) (go size one);
        room = simp length-set (omega (arith, y.room));
        beside = simp length-set (omega (arith, y.room, y.beside));
      }
    where
      go : (size : ℤ) → LaidList sizes (65536 * length sizes) size (whole_of (length sizes))
          → LaidFrom sizes 0 (set codes 0 (65536 * length sizes)) (set list_sizes 0 size) (whole_of (length sizes) ∷ [])
      go size x zero k = rw (get_or-set_same codes 0 (65536 * length sizes) 0 (omega (arith, y.room)), get_or-set_same list_sizes 0 size (pos 0) (omega (arith, y.room, y.beside))) x
      go size x (suc i) k = absurd (not-suc-le-zero (le_of_suc-le-suc k))

  module _ {lengths : ℕ} (e : lengths ≡ lengths_of (length sizes) s.fnmax) (f : lengths ≤ length sizes) (h : length sizes < s.pileupmax) where
    pub lengths_laid : {codes' : List ℕ} {listSizes' : List ℤ} {r : ℕ} → length codes' ≡ length codes → length listSizes' ≡ length list_sizes
        → LaidLengths sizes lengths codes' listSizes' r → LaidDown s sizes codes' listSizes' r
    lengths_laid lc ll w =
        let all : part_lists (length sizes) s.fnmax s.pileupmax ≡ falling_lists (length sizes) lengths (length sizes) =
        all_lengths (length sizes) s.fnmax s.pileupmax h ∙ ap (λ (x : ℕ). falling_lists (length sizes) x (length sizes)) (sym e) in
        record {
          counted = w.counted ∙ sym (ap length all);
          laid = rw all w.laid;
          room = omega (arith, w.few, y.room, lc);
          beside = omega (arith, w.few, y.room, y.beside, ll);
        }
