-- A call whose k or letters no byte holds is answered as the one that the code makes of it, where such a number is 255: the settings of both are refused, and by the same
-- of 1 to 3, since 255 is as much too large. All other settings are the code's own. Assumes nothing.
use mathlib.Core.Path.{◌≡◌, refl, sym, ap, subst, ◌∙◌}
use mathlib.Core.Bool.{Bool, true, false, cond, ◌||◌}
use mathlib.Core.List.{List}
use Prim.Native.Nat.{ℕ, suc, ◌<◌}
use native.Mathlib.Omega.{arith}
use lib.Dec.{ltb}
use borrow.Author.Tests.{ltb-true, lt-ltb, ne_eqb}
use Rattle.params.specs.Numbers.{Table, Parts, call_of, bad_k, bad_float, bad_number, first_of, settings_rules, any_below}
use Rattle.params.specs.Several.{haplotypes}
use Rattle.params.specs.declared.Settings.{Settings}
use Rattle.params.proofs.CheckLaws.{k_high}
use Rattle.kplib.specs.Answer.{found_after}
use Rattle.kplib.specs.Proposal.{Proposal, proposal_fault, check_of, is_good}
use Rattle.std.specs.Prelude.{Err}
use Rattle.metrics.specs.Refusals.{refusal_of, refused_or}
use Rattle.kplib.specs.Haplotypes.{laid, answered_after}
use Rattle.dive.specs.Numbered.{Numbered, numbered_fault, numbered_answer, numbered_rows, records_at, records_of, numbered_searches}
use Rattle.dive.specs.NumberedSeveral.{NumberedSeveral, own_numbered, numbered_several_fault, numbered_answered, numbered_rows_after, records_after, numbered_reports_after, numbered_several_searches}
use Rattle.capi.specs.Held.{settings_held}

-- ---- the settings
data Kept (s : Settings) : Type 0 where
  same : settings_held s ≡ s → Kept s
  refused : (n : ℕ) → first_of (settings_rules (settings_held s)) ≡ suc n → first_of (settings_rules s) ≡ suc n → Kept s

k_refused : (s : Settings) → 6 < s.k → first_of (settings_rules s) ≡ 1
unfolding bad_k
k_refused s wide = rw (k_high s.k wide) refl

later : (a b : Bool) → b ≡ true → (a || b) ≡ true
later true b e = refl
later false b e = e

letters_refused : (s : Settings) → 1 < s.letters → bad_number s ≡ true
unfolding bad_number
letters_refused s h =
    later (ltb 4095 s.maxpaths) _
    (later (ltb 65535 s.maxnodes) _
    (later (ltb 65535 s.fnmax) _
    (later (ltb 12 s.pileupmax) _
    (later (ltb 16777216 s.minkfreq) _ (lt-ltb 1 s.letters h)))))

-- k and the floats are the same, so that it is the same of 1 to 3
number_kept : (s : Settings) (low float : Bool) → first_of (settings_rules (settings_held s)) ≡ cond low 1 (cond float 2 3) → first_of (settings_rules s) ≡ cond low 1 (cond float 2 3) → Kept s
number_kept s true float = refused 0
number_kept s false true = refused 1
number_kept s false false = refused 2

kept : (s : Settings) → Kept s
unfolding bad_k bad_float
kept s = go (ltb 255 s.k) (ltb 255 s.letters) refl refl
  where
    go : (wide other : Bool) → ltb 255 s.k ≡ wide → ltb 255 s.letters ≡ other → Kept s
    go true other e f =
        let h : 255 < s.k = ltb-true 255 s.k e in
        refused 0 (k_refused (settings_held s) (rw e (omega arith))) (k_refused s (omega arith))
    go false false e f = same (rw (e, f) refl)
    go false true e f =
        let h : 255 < s.letters = ltb-true 255 s.letters f in
        let made : bad_number (settings_held s) ≡ true = letters_refused (settings_held s) (rw f (omega arith)) in
        let own : bad_number s ≡ true = letters_refused s (omega arith) in
        number_kept s (bad_k s) (bad_float s) (rw (made, e) refl) (rw own refl)

-- settings that are refused have the call refused by the same number
by_settings : (s : Settings) (n rest : ℕ) → first_of (settings_rules s) ≡ suc n → cond (bad_k s) 1 (cond (bad_float s) 2 (cond (bad_number s) 3 rest)) ≡ suc n
by_settings s n rest = go (bad_k s) (bad_float s) (bad_number s)
  where
    go : (k float number : Bool) → cond k 1 (cond float 2 (cond number 3 0)) ≡ suc n → cond k 1 (cond float 2 (cond number 3 rest)) ≡ suc n
    go true float number e = e
    go false true number e = e
    go false false true e = e
    go false false false e = absurd (omega arith)

-- ---- two calls that are answered alike
pub record Alike (x y : Numbered) : Type 0 where
  pub answer : numbered_answer x ≡ numbered_answer y
  pub rows : numbered_rows x ≡ numbered_rows y
  pub records : records_of x ≡ records_of y
  pub search : numbered_searches x ≡ numbered_searches y

refused_call : (x : Numbered) (n : ℕ) → first_of (settings_rules x.call.settings) ≡ suc n → numbered_fault x ≡ suc n
unfolding numbered_fault
refused_call x n e = by_settings x.call.settings n _ e

both_refused : (x y : Numbered) (n : ℕ) → numbered_fault x ≡ suc n → numbered_fault y ≡ suc n → Alike x y
unfolding numbered_answer numbered_rows records_at numbered_searches
both_refused x y n ex ey = record {
  answer = rw (ex, ey) refl;
  rows = ap (λ n. (found_after n x.call).rows) ex ∙ sym (ap (λ n. (found_after n y.call).rows) ey);
  records = ap (λ n. records_at x.numbers (found_after n x.call).rows) ex ∙ sym (ap (λ n. records_at y.numbers (found_after n y.call).rows) ey);
  search = rw (ex, ey, ne_eqb (suc n) 0 (λ z. omega arith)) refl;
}

module _ (s : Settings) (t : Table) (p : Parts) (queue answers : ℕ) (numbers : List ℕ) (room : ℕ) where
  -- the call of these settings, all else alike
  abbrev with_settings : Settings → Numbered
  with_settings made = record { call = call_of made t p queue answers; numbers = numbers; record_room = room }

  alike_kept : Kept s → Alike (with_settings (settings_held s)) (with_settings s)
  alike_kept (same e) = subst (λ (made : Settings). Alike (with_settings made) (with_settings s)) (sym e) (record { answer = refl; rows = refl; records = refl; search = refl })
  alike_kept (refused n ex ey) = both_refused _ _ n (refused_call (with_settings (settings_held s)) n ex) (refused_call (with_settings s) n ey)

  -- whatever record the code made
  pub held_alike : {made : Settings} → made ≡ settings_held s → Alike (with_settings made) (with_settings s)
  held_alike e = rw e (alike_kept (kept s))

-- ---- the same of a call of several haplotypes
pub record SeveralAlike (x y : NumberedSeveral) : Type 0 where
  pub fault : numbered_several_fault x ≡ numbered_several_fault y
  pub rows : (l : List ℕ) → numbered_rows_after x l ≡ numbered_rows_after y l
  pub records : (l : List ℕ) → records_after x l ≡ records_after y l
  pub reports : (l : List ℕ) → numbered_reports_after x l ≡ numbered_reports_after y l
  pub search : numbered_several_searches x ≡ numbered_several_searches y

refused_several : (x : NumberedSeveral) (n : ℕ) → first_of (settings_rules x.several.settings) ≡ suc n → numbered_several_fault x ≡ suc n
unfolding numbered_several_fault
refused_several x n e = by_settings x.several.settings n _ e

none_laid : (x : NumberedSeveral) (n : ℕ) → numbered_several_fault x ≡ suc n → (width : ℕ) (each : ℕ → List ℕ) (l : List ℕ) → laid width each (numbered_answered x) l ≡ l
unfolding laid
none_laid x n e width each l = ap (λ (fault : ℕ). laid width each (answered_after fault (haplotypes x.several)) l) e

none_searched : (x : NumberedSeveral) (n : ℕ) → numbered_several_fault x ≡ suc n → numbered_several_searches x ≡ false
unfolding any_below
none_searched x n e = ap (λ (fault : ℕ). any_below (answered_after fault (haplotypes x.several)) (λ i. numbered_searches (own_numbered x i))) e

both_several : (x y : NumberedSeveral) (n : ℕ) → numbered_several_fault x ≡ suc n → numbered_several_fault y ≡ suc n → SeveralAlike x y
both_several x y n ex ey = record {
  fault = ex ∙ sym ey;
  rows = λ l. none_laid x n ex _ _ l ∙ sym (none_laid y n ey _ _ l);
  records = λ l. none_laid x n ex _ _ l ∙ sym (none_laid y n ey _ _ l);
  reports = λ l. none_laid x n ex _ _ l ∙ sym (none_laid y n ey _ _ l);
  search = none_searched x n ex ∙ sym (none_searched y n ey);
}

module _ (s : Settings) (t : Table) (p : Parts) (part_ends feature_ends : List ℕ) (queue answers reports : ℕ) (numbers : List ℕ) (room : ℕ) where
  abbrev several_with : Settings → NumberedSeveral
  several_with made = record {
    several = record {
      settings = made;
      table = t;
      parts = p;
      part_ends = part_ends;
      feature_ends = feature_ends;
      queue_room = queue;
      answer_room = answers;
      report_room = reports;
    };
    numbers = numbers;
    record_room = room;
  }

  several_kept : Kept s → SeveralAlike (several_with (settings_held s)) (several_with s)
  several_kept (same e) = subst (λ (made : Settings). SeveralAlike (several_with made) (several_with s)) (sym e)
      (record { fault = refl; rows = λ l. refl; records = λ l. refl; reports = λ l. refl; search = refl })
  several_kept (refused n ex ey) = both_several _ _ n (refused_several (several_with (settings_held s)) n ex) (refused_several (several_with s) n ey)

  pub several_alike : {made : Settings} → made ≡ settings_held s → SeveralAlike (several_with made) (several_with s)
  several_alike e = rw e (several_kept (kept s))

-- ---- the same of a proposal
module _ (s : Settings) (t : Table) (p : Parts) (o : Proposal) where
  refused_check : (made : Settings) (n : ℕ) → first_of (settings_rules made) ≡ suc n → check_of made t p o ≡ Err (refusal_of (suc n))
  unfolding check_of proposal_fault
  refused_check made n e = ap (λ (fault : ℕ). refused_or fault (is_good made t p o)) (by_settings made n _ e)

  check_kept : Kept s → check_of (settings_held s) t p o ≡ check_of s t p o
  check_kept (same e) = ap (λ (made : Settings). check_of made t p o) e
  check_kept (refused n ex ey) = refused_check (settings_held s) n ex ∙ sym (refused_check s n ey)

  pub check_alike : {made : Settings} → made ≡ settings_held s → check_of made t p o ≡ check_of s t p o
  check_alike e = rw e (check_kept (kept s))
