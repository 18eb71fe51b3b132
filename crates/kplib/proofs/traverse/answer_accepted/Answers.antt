-- The job's mode says which answer it is.
use mathlib.Core.Path.{refl, sym, ◌∙◌}
use native.Mathlib.Omega.{arith}
use Rattle.params.proofs.CheckedLaws.{accepted, answer_suffices}
use Rattle.kplib.specs.Promises.{call_lent}
use Rattle.kplib.proofs.FoundLaws.{searched_accepted, alone_accepted, did_search, startable}
use Rattle.kplib.proofs.OneToOneLaws.{tables_of}
use Rattle.kplib.proofs.traverse.answer_accepted.Goals as goal

pub answer_search-requires : goal.answer_search-requires
answer_search-requires c =
    let a = c.args in
    (startable a.links.now a.keys.now _ c.requires (sym c.search_mode.ensures ∙ c.if-search_mode.true), answer_suffices _ c.requires)

pub returns-then-search_mode : goal.returns-then-search_mode
returns-then-search_mode c =
    let a = c.args in
    let call = call_lent a.s a.table.now a.parts.now a.links.now a.keys.now a.rows.now in
    let mode = sym c.search_mode.ensures ∙ c.if-search_mode.true in
    let h = searched_accepted call c.requires a.rows.now mode c.answer_search.ensures in
    (h.0, (h.1, (did_search call c.requires mode, did_search call c.requires mode)))

pub answer_alone-requires : goal.answer_alone-requires
answer_alone-requires c =
    let a = c.args in
    let call = call_lent a.s a.table.now a.parts.now a.links.now a.keys.now a.rows.now in
    let h = accepted call c.requires in
    record {
      le_k = (h.k_low, h.k_high, tables_of h);
      starts_len_bound = (omega (arith, h.sized.few, h.sizes_are), omega (arith, h.some, answer_suffices call c.requires));
    }

pub returns : goal.returns
returns c =
    let a = c.args in
    let call = call_lent a.s a.table.now a.parts.now a.links.now a.keys.now a.rows.now in
    let h = alone_accepted call c.requires a.rows.now (sym c.search_mode.ensures ∙ c.if-search_mode.false) c.answer_alone.ensures in
    (h.0, (h.1, (λ _. refl, λ _. refl)))
