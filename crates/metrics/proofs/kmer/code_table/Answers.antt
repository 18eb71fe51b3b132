-- The turn of byte b lays its entry and no other; no byte below 65 or above 116 has a code.
use Rattle.std.proofs.Common.{◌≡◌, ℕ, ◌+◌, ◌<◌, ◌≤◌, Bool, true, false, ltb, length, get_or, refl, ap, ◌∙◌, arith, length-set, get_or-set_other, ltb-false, ltb-true}
use lib.ListN.{get_or-replicate}
use Rattle.metrics.specs.Letters.{encoded}
use Rattle.metrics.specs.Lanes.{entry_of}
use Rattle.metrics.proofs.Codes.{coded_more, outside}
use Rattle.metrics.proofs.kmer.code_table.Goals as goal

low : (b x : ℕ) → b < 65 → 65 ≤ x → b ≡ x → ⊥
low b x h l e = omega arith

high : (b x : ℕ) → 117 ≤ b → x ≤ 116 → b ≡ x → ⊥
high b x h l e = omega arith

differs : (b i : ℕ) → i + 1 ≤ b → b ≡ i → ⊥
differs b i h e = omega arith

pub loop-b-init : goal.loop-b-init
loop-b-init c = record {
  whole = refl;
  laid = λ b h. get_or-replicate 256 b 0 0 (omega arith) ∙ outside b (λ x l r. low b x h l);
  empty = λ b h r. get_or-replicate 256 b 0 0 r;
}

pub loop-b-preserved : goal.loop-b-preserved
loop-b-preserved c =
    let l = c.loop-b in
    let h : l.b < length l.table = omega arith in
    let v = c.as_entry.result in
    record {
      whole = simp length-set l.invariant.whole;
      laid = coded_more l.table l.b v h (c.as_entry.ensures ∙ ap entry_of c.encode_nuc.ensures) l.invariant.laid;
      empty = λ b from room. get_or-set_other l.table l.b b v 0 (differs b l.b from) ∙ l.invariant.empty b (omega arith) room;
    }

pub returns : goal.returns
returns c = record { at = λ b h. go b h (ltb b c.loop-b.b) refl }
  where
    go : (b : ℕ) → b < 256 → (t : Bool) → ltb b c.loop-b.b ≡ t → get_or c.loop-b.table b 0 ≡ entry_of (encoded b)
    go b h true e = c.loop-b.invariant.laid b (ltb-true b c.loop-b.b e)
    go b h false e =
        let from = ltb-false b c.loop-b.b e in
        c.loop-b.invariant.empty b from h ∙ outside b (λ x lo hi. high b x (omega arith) hi)
