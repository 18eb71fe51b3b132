-- Each call gives one byte of what is left from the first on. Assumes nothing.
use Rattle.std.proofs.Common.{ℕ, ◌∙◌, refl, ap, List, get_or, rules, tests}
use Rattle.std.proofs.lemmas.List.{get_or-drop}
use Rattle.fields.proofs.FieldLaws.{all_given, left_is}
use Rattle.fields.proofs.bytes_at.Goals as goal

pub returns : goal.returns
returns g c = λ i h.
    let s = c.args.s.now in
    let left = ap (λ r. r.now) c.unwrap_or-rest.ensures ∙ left_is s c.args.at _ _ refl c.get.ensures.lookup in
    all_given _ _ (λ k. get_or c.unwrap_or-rest.result.now k 0) (λ k y q call. search (rules, tests)) _ 0 _ c.from_fn.ensures.items.each i h
    ∙ ap (λ (l : List ℕ). get_or l i 0) left
    ∙ get_or-drop c.args.at s i 0
