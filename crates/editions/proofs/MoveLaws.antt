-- One record moved: its kind, its length, and that it is without a fault where it was, in a state that differs by the edition alone. Then all of a form in good order:
-- what is moved is in good order too, and ends in the same counts. Assumes nothing.
use Prim.Native.Nat.{ℕ, zero, suc, ◌+◌, ◌≤◌, ◌<◌}
use native.Mathlib.Omega.{arith}
use mathlib.Core.Path.{◌≡◌, refl, sym, ap, subst, ◌∙◌}
use mathlib.Core.Bool.{Bool, true, false, cond, ◌&&◌, ◌||◌}
use mathlib.Core.List.{List, [], ◌∷◌, ◌++◌, append_assoc}
use mathlib.Core.Logic.{⊎_elim}
use lib.Dec.{ltb, eqb}
use lib.ListN.{length, get_or, take, drop, length-append}
use lib.Seq.{drop-nil, drop_at, take-append-le, length-take-le, get_or_at}
use borrow.Author.Tests.{lt-ltb, ltb-true, ltb-false, eqb-true, eq-eqb}
use Rattle.fields.proofs.FieldLaws.{long4}
use Rattle.form.specs.declared.records.Kind.{Kind}
use Rattle.form.specs.declared.records.Kind.TheVariants.{End, Settings, Variant, Part, Letters, Next, Settings2, Variant2, Unknown}
use Rattle.form.specs.declared.records.Edition.{Edition}
use Rattle.form.specs.declared.records.Edition.TheVariants.{One, Two}
use Rattle.form.specs.declared.records.State.{State}
use Rattle.form.specs.declared.records.Counts.{Counts}
use Rattle.form.specs.Form.{kind_of, is_end, is_settings, is_variant, is_part, is_letters, is_next, is_second, is_unknown, body_len}
use Rattle.form.specs.Form.{in_place, are_flags, flags_ok, count_of, pad_ok, too_many, fault_of, after, counted}
use Rattle.form.proofs.FormLaws.{split, both, mixed, fault_none, fault_none_end, pad_rest}
use Rattle.form.proofs.CountLaws.{tests, not_back}
use Rattle.editions.specs.Moving.{settings_byte, variant_byte, byte_in, shared_len, added_in, record_in, next_row, moved_from}
use Rattle.editions.proofs.OrderedLaws.{Ordered, ends, goes}
use Rattle.editions.proofs.AgreeLaws.{Agree, flags_agree, four_agree_lem, take_agree, front_agree}

-- ---- the kind of a record in an edition
abbrev pub settings_of : Edition → Kind
settings_of One = Settings
settings_of Two = Settings2

abbrev pub variants_of : Edition → Kind
variants_of One = Variant
variants_of Two = Variant2

abbrev pub kind_in : Edition → Kind → Kind
kind_in e End = End
kind_in e Settings = settings_of e
kind_in e Variant = variants_of e
kind_in e Part = Part
kind_in e Letters = Letters
kind_in e Next = Next
kind_in e Settings2 = settings_of e
kind_in e Variant2 = variants_of e
kind_in e Unknown = Unknown

settings_byte_lem : (e : Edition) → kind_of (settings_byte e) ≡ settings_of e
unfolding kind_of
settings_byte_lem One = refl
settings_byte_lem Two = refl

variant_byte_lem : (e : Edition) → kind_of (variant_byte e) ≡ variants_of e
unfolding kind_of
variant_byte_lem One = refl
variant_byte_lem Two = refl

pub kind_moved : (e : Edition) (k : ℕ) → kind_of (byte_in e k) ≡ kind_in e (kind_of k)
unfolding byte_in
kind_moved e k = go (kind_of k) refl
  where
    go : (kind : Kind) → kind_of k ≡ kind → kind_of (cond (is_settings kind) (settings_byte e) (cond (is_variant kind) (variant_byte e) k)) ≡ kind_in e kind
    go End i = i
    go Settings i = settings_byte_lem e
    go Variant i = variant_byte_lem e
    go Part i = i
    go Letters i = i
    go Next i = i
    go Settings2 i = settings_byte_lem e
    go Variant2 i = variant_byte_lem e
    go Unknown i = i

pub shared_within : (kind : Kind) → shared_len kind ≤ body_len kind
unfolding shared_len body_len
shared_within End = omega arith
shared_within Settings = omega arith
shared_within Variant = omega arith
shared_within Part = omega arith
shared_within Letters = omega arith
shared_within Next = omega arith
shared_within Settings2 = omega arith
shared_within Variant2 = omega arith
shared_within Unknown = omega arith

long_kind : (e : Edition) (kind : Kind) (row : ℕ) → shared_len kind + length (added_in e kind row) ≡ body_len (kind_in e kind)
unfolding shared_len body_len added_in
long_kind One End row = refl
long_kind One Settings row = refl
long_kind One Variant row = refl
long_kind One Part row = refl
long_kind One Letters row = refl
long_kind One Next row = refl
long_kind One Settings2 row = refl
long_kind One Variant2 row = refl
long_kind One Unknown row = refl
long_kind Two End row = refl
long_kind Two Settings row = refl
long_kind Two Variant row = simp long4
long_kind Two Part row = refl
long_kind Two Letters row = refl
long_kind Two Next row = refl
long_kind Two Settings2 row = refl
long_kind Two Variant2 row = simp long4
long_kind Two Unknown row = refl

-- a body in an edition
abbrev pub body_in : Edition → Kind → List ℕ → ℕ → List ℕ
body_in e kind body row = take (shared_len kind) body ++ added_in e kind row

pub long_body : (e : Edition) (kind : Kind) (body : List ℕ) (row : ℕ) → length body ≡ body_len kind → length (body_in e kind body row) ≡ body_len (kind_in e kind)
long_body e kind body row l =
    let h : shared_len kind ≤ length body = rw l (shared_within kind) in
    length-append (take (shared_len kind) body) (added_in e kind row) ∙ rw (length-take-le (shared_len kind) body h) (long_kind e kind row)

pub body_agrees : (e : Edition) (kind : Kind) (body rest rest' : List ℕ) (row : ℕ) → length body ≡ body_len kind
    → Agree (shared_len kind) (body_in e kind body row ++ rest') (body ++ rest)
body_agrees e kind body rest rest' row l = front_agree (shared_len kind) body (added_in e kind row) rest rest' (rw l (shared_within kind))

-- ---- the walk
pub move_skip : (e : Edition) (s : List ℕ) (n row : ℕ) → moved_from e s n row ≡ moved_from e (drop n s) 0 row
unfolding moved_from
move_skip e [] n row = simp drop-nil
move_skip e (k ∷ b) zero row = refl
move_skip e (k ∷ b) (suc n) row = move_skip e b n row

pub moved_record : (e : Edition) (k : ℕ) (body rest : List ℕ) (row : ℕ) → length body ≡ body_len (kind_of k)
    → moved_from e (k ∷ (body ++ rest)) 0 row ≡ byte_in e k ∷ (body_in e (kind_of k) body row ++ moved_from e rest 0 (next_row (kind_of k) row))
unfolding moved_from record_in
moved_record e k body rest row l =
    let h : shared_len (kind_of k) ≤ length body = rw l (shared_within (kind_of k)) in
    let next : ℕ = next_row (kind_of k) row in
    rw (take-append-le (shared_len (kind_of k)) body rest h)
    (ap (λ (q : List ℕ). byte_in e k ∷ (body_in e (kind_of k) body row ++ q))
    (move_skip e (body ++ rest) (body_len (kind_of k)) next ∙ ap (λ (q : List ℕ). moved_from e q 0 next) (drop_at body rest (body_len (kind_of k)) l)))

end_body : (e : Edition) (row : ℕ) → body_in e End [] row ≡ []
unfolding shared_len body_len added_in
end_body One row = refl
end_body Two row = refl

pub moved_end : (e : Edition) (k row : ℕ) → kind_of k ≡ End → moved_from e (k ∷ []) 0 row ≡ k ∷ []
unfolding moved_from record_in byte_in
moved_end e k row i =
    ap (λ (kind : Kind). (cond (is_settings kind) (settings_byte e) (cond (is_variant kind) (variant_byte e) k) ∷ body_in e kind [] row) ++ []) i
    ∙ ap (λ (q : List ℕ). k ∷ (q ++ [])) (end_body e row)

-- ---- states that differ by the edition alone: the phase in which its variants may stand
abbrev open_phase : Edition → ℕ
open_phase One = 1
open_phase Two = 3

abbrev phase_in : Edition → ℕ → ℕ
phase_in e p = cond (eqb p 1 || eqb p 3) (open_phase e) p

pub record Alike (e : Edition) (st st' : State) : Type 0 where
  pub phase : st'.phase ≡ phase_in e st.phase
  pub left : st'.left ≡ st.left
  pub variants : st'.variants ≡ st.variants
  pub parts : st'.parts ≡ st.parts
  pub breaks : st'.breaks ≡ st.breaks
  pub letters : st'.letters ≡ st.letters

open_some : (e : Edition) → 0 < open_phase e
open_some One = omega arith
open_some Two = omega arith

phase_some : (e : Edition) (p : ℕ) → 0 < p → 0 < phase_in e p
phase_some e p h = go (eqb p 1 || eqb p 3)
  where
    go : (t : Bool) → 0 < cond t (open_phase e) p
    go true = open_some e
    go false = h

module _ (e : Edition) (st st' : State) (alike : Alike e st st') where
  none_owed : eqb st.left 0 ≡ true → eqb st'.left 0 ≡ true
  none_owed h = rw alike.left h

  some_phase : ltb 0 st.phase ≡ true → ltb 0 st'.phase ≡ true
  some_phase h = rw alike.phase (lt-ltb 0 (phase_in e st.phase) (phase_some e st.phase (ltb-true 0 st.phase h)))

  begins : eqb st.left 0 && eqb st.phase 0 ≡ true → eqb st'.left 0 && eqb st'.phase 0 ≡ true
  begins h =
      let p = both (eqb st.left 0) (eqb st.phase 0) h in
      let z : st.phase ≡ 0 = eqb-true _ _ p.1 in
      rw (none_owed p.0, alike.phase, z)

  stands : (p : ℕ) → phase_in e p ≡ open_phase e → eqb st.left 0 && eqb st.phase p ≡ true → eqb st'.left 0 && eqb st'.phase (open_phase e) ≡ true
  stands p i h =
      let t = both (eqb st.left 0) (eqb st.phase p) h in
      let z : st.phase ≡ p = eqb-true _ _ t.1 in
      rw (none_owed t.0, alike.phase, z, i) (eq-eqb (open_phase e) (open_phase e) refl)

  follows : eqb st.left 0 && ltb 0 st.phase ≡ true → eqb st'.left 0 && ltb 0 st'.phase ≡ true
  follows h = let t = both (eqb st.left 0) (ltb 0 st.phase) h in rw (none_owed t.0) (some_phase t.1)

  settings_placed : eqb st.left 0 && eqb st.phase 0 ≡ true → in_place st' (settings_of e) ≡ true
  unfolding in_place
  settings_placed h = go e (begins h)
    where
      go : (d : Edition) → eqb st'.left 0 && eqb st'.phase 0 ≡ true → in_place st' (settings_of d) ≡ true
      go One g = g
      go Two g = g

  variants_placed : eqb st'.left 0 && eqb st'.phase (open_phase e) ≡ true → in_place st' (variants_of e) ≡ true
  unfolding in_place
  variants_placed g = go e g
    where
      go : (d : Edition) → eqb st'.left 0 && eqb st'.phase (open_phase d) ≡ true → in_place st' (variants_of d) ≡ true
      go One h = h
      go Two h = h

  pub placed_moved : (kind : Kind) → in_place st kind ≡ true → in_place st' (kind_in e kind) ≡ true
  unfolding in_place
  placed_moved End h = follows h
  placed_moved Settings h = settings_placed h
  placed_moved Variant h = variants_placed (stands 1 refl h)
  placed_moved Part h = follows h
  placed_moved Letters h = rw alike.left h
  placed_moved Next h = follows h
  placed_moved Settings2 h = settings_placed h
  placed_moved Variant2 h = variants_placed (stands 3 refl h)
  placed_moved Unknown h = h

  pub same_counts : counted st' ≡ counted st
  same_counts = λ i. record { variants = alike.variants i; parts = alike.parts i; breaks = alike.breaks i; letters = alike.letters i }

-- ---- a record without a fault is moved into one
count_within : (kind : Kind) (a b : List ℕ) (e : Edition) → Agree (shared_len kind) b a → count_of (kind_in e kind) b ≡ count_of kind a
unfolding count_of shared_len body_len
count_within End a b e g = refl
count_within Settings a b One g = refl
count_within Settings a b Two g = refl
count_within Variant a b One g = four_agree_lem 25 b a g 21 (omega arith)
count_within Variant a b Two g = four_agree_lem 25 b a g 21 (omega arith)
count_within Part a b e g = four_agree_lem 9 b a g 5 (omega arith)
count_within Letters a b e g = refl
count_within Next a b e g = refl
count_within Settings2 a b One g = refl
count_within Settings2 a b Two g = refl
count_within Variant2 a b One g = four_agree_lem 25 b a g 21 (omega arith)
count_within Variant2 a b Two g = four_agree_lem 25 b a g 21 (omega arith)
count_within Unknown a b e g = refl

pub count_moved : (e : Edition) (kind : Kind) (a b : List ℕ) → Agree (shared_len kind) b a → count_of (kind_in e kind) b ≡ count_of kind a
count_moved e kind a b g = count_within kind a b e g

-- the flag that edition 2 has behind the shared bytes is 0
abbrev pub LateZero : Edition → Kind → List ℕ → Type 0
LateZero e kind b = kind_in e kind ≡ Settings2 → get_or b 40 0 ≡ 0

first_flags : (b : List ℕ) (x : Bool) → are_flags b 1 3 && x ≡ true → are_flags b 1 3 ≡ true
first_flags b x h = (both (are_flags b 1 3) x h).0

module _ (a b : List ℕ) where
  settings_flags : (e : Edition) (x : Bool) → Agree 40 b a → (settings_of e ≡ Settings2 → get_or b 40 0 ≡ 0) → are_flags a 1 3 && x ≡ true → flags_ok (settings_of e) b ≡ true
  unfolding flags_ok
  settings_flags One x g z h = rw (flags_agree 40 b a g 1 3 (omega arith), first_flags a x h)
  settings_flags Two x g z h = rw (flags_agree 40 b a g 1 3 (omega arith), first_flags a x h, z refl)

  variant_flags : (e : Edition) → Agree 25 b a → are_flags a 20 1 && true ≡ true → flags_ok (variants_of e) b ≡ true
  unfolding flags_ok
  variant_flags One g h = rw (flags_agree 25 b a g 20 1 (omega arith)) h
  variant_flags Two g h = rw (flags_agree 25 b a g 20 1 (omega arith)) h

  flags_moved : (e : Edition) (kind : Kind) → Agree (shared_len kind) b a → LateZero e kind b → flags_ok kind a ≡ true → flags_ok (kind_in e kind) b ≡ true
  unfolding flags_ok shared_len body_len
  flags_moved e End g z h = refl
  flags_moved e Settings g z h = settings_flags e true g z h
  flags_moved e Variant g z h = variant_flags e g h
  flags_moved e Part g z h = rw (flags_agree 9 b a g 4 1 (omega arith)) h
  flags_moved e Letters g z h = refl
  flags_moved e Next g z h = refl
  flags_moved e Settings2 g z h = settings_flags e (are_flags a 40 1) g z h
  flags_moved e Variant2 g z h = variant_flags e g h
  flags_moved e Unknown g z h = refl

-- what the kinds of both editions share
pub record Sorted (kind kind' : Kind) : Type 0 where
  pub unknown : is_unknown kind' ≡ is_unknown kind
  pub end : is_end kind' ≡ is_end kind
  pub next : is_next kind' ≡ is_next kind
  pub settings : is_settings kind' ≡ is_settings kind
  pub variant : is_variant kind' ≡ is_variant kind
  pub part : is_part kind' ≡ is_part kind
  pub letters : is_letters kind' ≡ is_letters kind

pub sorted : (e : Edition) (kind : Kind) → Sorted kind (kind_in e kind)
sorted e End = record { unknown = refl; end = refl; next = refl; settings = refl; variant = refl; part = refl; letters = refl }
sorted One Settings = record { unknown = refl; end = refl; next = refl; settings = refl; variant = refl; part = refl; letters = refl }
sorted Two Settings = record { unknown = refl; end = refl; next = refl; settings = refl; variant = refl; part = refl; letters = refl }
sorted One Variant = record { unknown = refl; end = refl; next = refl; settings = refl; variant = refl; part = refl; letters = refl }
sorted Two Variant = record { unknown = refl; end = refl; next = refl; settings = refl; variant = refl; part = refl; letters = refl }
sorted e Part = record { unknown = refl; end = refl; next = refl; settings = refl; variant = refl; part = refl; letters = refl }
sorted e Letters = record { unknown = refl; end = refl; next = refl; settings = refl; variant = refl; part = refl; letters = refl }
sorted e Next = record { unknown = refl; end = refl; next = refl; settings = refl; variant = refl; part = refl; letters = refl }
sorted One Settings2 = record { unknown = refl; end = refl; next = refl; settings = refl; variant = refl; part = refl; letters = refl }
sorted Two Settings2 = record { unknown = refl; end = refl; next = refl; settings = refl; variant = refl; part = refl; letters = refl }
sorted One Variant2 = record { unknown = refl; end = refl; next = refl; settings = refl; variant = refl; part = refl; letters = refl }
sorted Two Variant2 = record { unknown = refl; end = refl; next = refl; settings = refl; variant = refl; part = refl; letters = refl }
sorted e Unknown = record { unknown = refl; end = refl; next = refl; settings = refl; variant = refl; part = refl; letters = refl }

pad_letters : (e : Edition) (st st' : State) → Alike e st st' → (kind : Kind) (a b : List ℕ) → Agree (shared_len kind) b a → is_letters kind ≡ true
    → body_len kind ≤ length a → body_len (kind_in e kind) ≤ length b → pad_ok st kind a ≡ true → pad_ok st' (kind_in e kind) b ≡ true
unfolding pad_ok shared_len body_len
pad_letters e st st' alike Letters a b q t h g p = rw (alike.left, take_agree 16 b a q g h) p
pad_letters e st st' alike End a b q t h g p = mixed (sym t)
pad_letters e st st' alike Settings a b q t h g p = mixed (sym t)
pad_letters e st st' alike Variant a b q t h g p = mixed (sym t)
pad_letters e st st' alike Part a b q t h g p = mixed (sym t)
pad_letters e st st' alike Next a b q t h g p = mixed (sym t)
pad_letters e st st' alike Settings2 a b q t h g p = mixed (sym t)
pad_letters e st st' alike Variant2 a b q t h g p = mixed (sym t)
pad_letters e st st' alike Unknown a b q t h g p = mixed (sym t)

module _ (e : Edition) (st st' : State) (alike : Alike e st st') (kind : Kind) (a b : List ℕ) (agree : Agree (shared_len kind) b a) where
  pad_moved : body_len kind ≤ length a → body_len (kind_in e kind) ≤ length b → pad_ok st kind a ≡ true → pad_ok st' (kind_in e kind) b ≡ true
  pad_moved h g p = ⊎_elim
      (λ (t : is_letters kind ≡ true). pad_letters e st st' alike kind a b agree t h g p)
      (λ (t : is_letters kind ≡ false). sym (pad_rest st' (kind_in e kind) b ((sorted e kind).letters ∙ t)))
      (split (is_letters kind))

  few_moved : too_many st kind ≡ false → too_many st' (kind_in e kind) ≡ false
  unfolding too_many
  few_moved h = rw ((sorted e kind).next, alike.breaks) h

  pub none_moved : is_end kind ≡ false → body_len (kind_in e kind) ≤ length b → LateZero e kind b → fault_of st kind a ≡ 0 → fault_of st' (kind_in e kind) b ≡ 0
  none_moved other whole z none =
      let t = tests st kind a none in
      let few : count_of (kind_in e kind) b ≤ 131072 = rw (count_moved e kind a b agree) (ltb-false _ _ t.few) in
      sym (fault_none st' (kind_in e kind) b ((sorted e kind).unknown ∙ t.known) (body_len (kind_in e kind)) refl whole
      (placed_moved e st st' alike kind (not_back _ t.placed)) (few_moved t.within) (flags_moved a b e kind agree z (not_back _ t.flags)) few
      (pad_moved (ltb-false _ _ t.whole) whole (not_back _ t.padded)) ((sorted e kind).end ∙ other))

-- ---- the state behind it
after_moved : (e : Edition) (st st' : State) → Alike e st st' → (kind : Kind) (a b : List ℕ) → count_of (kind_in e kind) b ≡ count_of kind a
    → Alike e (after st kind a) (after st' (kind_in e kind) b)
unfolding after
after_moved e st st' k End a b n = record { phase = k.phase; left = n; variants = k.variants; parts = k.parts; breaks = k.breaks; letters = k.letters }
after_moved One st st' k Settings a b n = record { phase = refl; left = n; variants = k.variants; parts = k.parts; breaks = k.breaks; letters = k.letters }
after_moved Two st st' k Settings a b n = record { phase = refl; left = n; variants = k.variants; parts = k.parts; breaks = k.breaks; letters = k.letters }
after_moved One st st' k Variant a b n = record { phase = k.phase; left = n; variants = ap (λ (m : ℕ). m + 1) k.variants; parts = k.parts; breaks = k.breaks; letters = k.letters }
after_moved Two st st' k Variant a b n = record { phase = k.phase; left = n; variants = ap (λ (m : ℕ). m + 1) k.variants; parts = k.parts; breaks = k.breaks; letters = k.letters }
after_moved e st st' k Part a b n = record { phase = refl; left = n; variants = k.variants; parts = ap (λ (m : ℕ). m + 1) k.parts; breaks = k.breaks; letters = k.letters }
after_moved e st st' k Letters a b n = record {
  phase = k.phase;
  left = rw k.left;
  variants = k.variants;
  parts = k.parts;
  breaks = k.breaks;
  letters = rw (k.left, k.letters);
}
after_moved e st st' k Next a b n = record { phase = refl; left = n; variants = k.variants; parts = k.parts; breaks = ap (λ (m : ℕ). m + 1) k.breaks; letters = k.letters }
after_moved One st st' k Settings2 a b n = record { phase = refl; left = n; variants = k.variants; parts = k.parts; breaks = k.breaks; letters = k.letters }
after_moved Two st st' k Settings2 a b n = record { phase = refl; left = n; variants = k.variants; parts = k.parts; breaks = k.breaks; letters = k.letters }
after_moved One st st' k Variant2 a b n = record { phase = k.phase; left = n; variants = ap (λ (m : ℕ). m + 1) k.variants; parts = k.parts; breaks = k.breaks; letters = k.letters }
after_moved Two st st' k Variant2 a b n = record { phase = k.phase; left = n; variants = ap (λ (m : ℕ). m + 1) k.variants; parts = k.parts; breaks = k.breaks; letters = k.letters }
after_moved e st st' k Unknown a b n = record { phase = k.phase; left = n; variants = k.variants; parts = k.parts; breaks = k.breaks; letters = k.letters }

-- ---- the whole form
behind : (front rest : List ℕ) → length front ≡ 40 → get_or ((front ++ (0 ∷ [])) ++ rest) 40 0 ≡ 0
behind front rest l = ap (λ (q : List ℕ). get_or q 40 0) (append_assoc front (0 ∷ []) rest) ∙ get_or_at front 0 rest 0 40 l

end_flags : flags_ok End [] ≡ true
unfolding flags_ok
end_flags = refl

end_few : count_of End [] ≤ 131072
unfolding count_of
end_few = omega arith

pub late_zero : (e : Edition) (kind : Kind) (body rest : List ℕ) (row : ℕ) → length body ≡ body_len kind → LateZero e kind (body_in e kind body row ++ rest)
unfolding shared_len body_len added_in
late_zero e End body rest row l z = mixed (ap is_end z)
late_zero One Settings body rest row l z = mixed (ap is_second (sym z))
late_zero Two Settings body rest row l z = behind (take 40 body) rest (length-take-le 40 body (omega arith))
late_zero One Variant body rest row l z = mixed (ap is_settings (sym z))
late_zero Two Variant body rest row l z = mixed (ap is_settings (sym z))
late_zero e Part body rest row l z = mixed (ap is_settings (sym z))
late_zero e Letters body rest row l z = mixed (ap is_settings (sym z))
late_zero e Next body rest row l z = mixed (ap is_settings (sym z))
late_zero One Settings2 body rest row l z = mixed (ap is_second (sym z))
late_zero Two Settings2 body rest row l z = behind (take 40 body) rest (length-take-le 40 body (omega arith))
late_zero One Variant2 body rest row l z = mixed (ap is_settings (sym z))
late_zero Two Variant2 body rest row l z = mixed (ap is_settings (sym z))
late_zero e Unknown body rest row l z = mixed (ap is_settings (sym z))

-- a record whose kind is known
goes_by : {st : State} {c : Counts} (k : ℕ) (kind : Kind) (body rest : List ℕ) → kind_of k ≡ kind → length body ≡ body_len kind → is_end kind ≡ false
    → fault_of st kind (body ++ rest) ≡ 0 → Ordered (after st kind (body ++ rest)) rest c → Ordered st (k ∷ (body ++ rest)) c
goes_by {st} {c} k kind body rest i l g f o = goes {st = st} {c = c} k body rest (rw i l) (rw i g) (rw i f) (rw i o)

pub moved_ordered : (e : Edition) {st : State} {s : List ℕ} {c : Counts} → Ordered st s c → (st' : State) → Alike e st st' → (row : ℕ) → Ordered st' (moved_from e s 0 row) c
moved_ordered e {st} {s} {c} (ends k i f n) st' alike row =
    let t = tests st End [] f in
    let f' : fault_of st' End [] ≡ 0 = sym (fault_none_end st' End [] refl (body_len End) refl (ltb-false _ _ t.whole) (placed_moved e st st' alike End (not_back _ t.placed))
    (few_moved e st st' alike End [] [] (λ j l. refl) t.within) (end_flags) (end_few) (sym (pad_rest st' End [] refl)) refl (ltb-false 0 0 refl)) in
    subst (λ (q : List ℕ). Ordered st' q c) (sym (moved_end e k row i)) (ends k i f' (same_counts e st st' alike ∙ n))
moved_ordered e {st} {s} {c} (goes k body rest l g f o) st' alike row =
    let kind : Kind = kind_of k in
    let next : List ℕ = moved_from e rest 0 (next_row kind row) in
    let new : List ℕ = body_in e kind body row in
    let agree : Agree (shared_len kind) (new ++ next) (body ++ rest) = body_agrees e kind body rest next row l in
    let long : length new ≡ body_len (kind_in e kind) = long_body e kind body row l in
    let whole : body_len (kind_in e kind) ≤ length (new ++ next) = omega (arith, length-append new next) in
    let none : fault_of st' (kind_in e kind) (new ++ next) ≡ 0 = none_moved e st st' alike kind (body ++ rest) (new ++ next) agree g whole (late_zero e kind body next row l) f in
    let same : Alike e (after st kind (body ++ rest)) (after st' (kind_in e kind) (new ++ next)) =
    after_moved e st st' alike kind (body ++ rest) (new ++ next) (count_moved e kind (body ++ rest) (new ++ next) agree) in
    subst (λ (q : List ℕ). Ordered st' q c) (sym (moved_record e k body rest row l))
    (goes_by (byte_in e k) (kind_in e kind) new next (kind_moved e k) long ((sorted e kind).end ∙ g) none
    (moved_ordered e o (after st' (kind_in e kind) (new ++ next)) same (next_row kind row)))
