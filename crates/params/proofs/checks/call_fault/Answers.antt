-- Each group of rows finds the first refusal, or has no row whose test holds, which is what the next group asks and what places its answer in the whole list.
use Rattle.std.proofs.Common.{◌≡◌, ◌^◌, refl, sym, ◌∙◌, rules}
use Rattle.metrics.specs.Refusals.{refusal_number}
use Rattle.metrics.proofs.Entries.{power}
use Rattle.metrics.proofs.RefusalLaws.{never_zero}
use Rattle.params.specs.Held.{table_held, parts_held}
use Rattle.params.specs.Numbers.{Call, call_of, settings_rules, length_rules, bound_rules, limit_rules, first_fault}
use Rattle.params.proofs.CheckLaws.{Passed, none_given}
use Rattle.params.proofs.CheckedLaws.{Settled, settled, Measured, measured}
use Rattle.params.proofs.CallLaws.{by_lengths, by_bounds, by_limits, by_rooms}
use Rattle.params.proofs.checks.call_fault.Goals.{Start, After-entries-e, In_ok-length_fault, In_ok-bound_fault, In_ok-limit_fault}
use Rattle.params.proofs.checks.call_fault.Goals as goal

abbrev call : Start → Call
call c = let a = c.args in call_of a.s (table_held a.table.now) (parts_held a.parts.now) a.queue_room a.answer_room

settings_passed : (c : After-entries-e) → Passed (settings_rules c.args.s)
settings_passed c = none_given (settings_rules c.args.s) refl (sym c.in_ok-settings_fault.ensures)

known : (c : After-entries-e) → Settled c.args.s
known c = settled c.args.s (settings_passed c)

width : (c : After-entries-e) → c.entries-e.result ≡ 4 ^ c.args.s.k
width c = c.entries-e.ensures ∙ power _ (known c).k_high

lengths_passed : (c : In_ok-length_fault) → let a = c.args in Passed (length_rules c.entries-e.result (table_held a.table.now) (parts_held a.parts.now))
lengths_passed c = none_given (length_rules c.entries-e.result (table_held c.args.table.now) (parts_held c.args.parts.now)) refl (sym c.in_ok-length_fault.ensures)

shaped : (c : In_ok-length_fault) → let a = c.args in Measured c.entries-e.result (table_held a.table.now) (parts_held a.parts.now)
shaped c = measured _ _ _ (lengths_passed c)

bounds_passed : (c : In_ok-bound_fault) → let t = table_held c.args.table.now in Passed (bound_rules t.starts t.ends)
bounds_passed c = let t = table_held c.args.table.now in none_given (bound_rules t.starts t.ends) refl (sym c.in_ok-bound_fault.ensures)

limits_passed : (c : In_ok-limit_fault) → let a = c.args in Passed (limit_rules c.entries-e.result (table_held a.table.now) (parts_held a.parts.now))
limits_passed c = none_given (limit_rules c.entries-e.result (table_held c.args.table.now) (parts_held c.args.parts.now)) refl (sym c.in_ok-limit_fault.ensures)

pub returns-in_err-length_fault : goal.returns-in_err-length_fault
returns-in_err-length_fault c =
    let at = goal.at.returns-in_err-length_fault c in
    let e = at.After-entries-e in
    let h : refusal_number c.in_err-length_fault.field-0.0 ≡ first_fault (call at.Start) =
    by_lengths (call at.Start) _ (settings_passed e) (rw (width e) at c.in_err-length_fault.ensures) (never_zero _) in
    search (rules, h)

pub returns-in_err-bound_fault : goal.returns-in_err-bound_fault
returns-in_err-bound_fault c =
    let at = goal.at.returns-in_err-bound_fault c in
    let e = at.After-entries-e in
    let h : refusal_number c.in_err-bound_fault.field-0.0 ≡ first_fault (call at.Start) =
    by_bounds (call at.Start) _ (settings_passed e) (rw (width e) at (lengths_passed at.In_ok-length_fault)) c.in_err-bound_fault.ensures (never_zero _) in
    search (rules, h)

pub returns-in_err-limit_fault : goal.returns-in_err-limit_fault
returns-in_err-limit_fault c =
    let at = goal.at.returns-in_err-limit_fault c in
    let e = at.After-entries-e in
    let h : refusal_number c.in_err-limit_fault.field-0.0 ≡ first_fault (call at.Start) =
    by_limits (call at.Start) _ (settings_passed e) (rw (width e) at (lengths_passed at.In_ok-length_fault)) (bounds_passed at.In_ok-bound_fault)
    (rw (width e) at c.in_err-limit_fault.ensures) (never_zero _) in
    search (rules, h)

pub room_fault-requires : goal.room_fault-requires
room_fault-requires c =
    let at = goal.at.room_fault-requires c in
    ((known at.After-entries-e).maxpaths, (shaped at.In_ok-length_fault).few)

pub returns : goal.returns
returns c =
    let at = goal.at.returns c in
    let e = at.After-entries-e in
    by_rooms (call at.Start) _ (settings_passed e) (rw (width e) at (lengths_passed at.In_ok-length_fault)) (bounds_passed at.In_ok-bound_fault)
    (rw (width e) at (limits_passed at.In_ok-limit_fault)) c.room_fault.ensures
