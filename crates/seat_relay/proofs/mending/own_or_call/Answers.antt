use Rattle.std.proofs.Common.{sym, refl}
use Rattle.seat_relay.proofs.Nearest.{may_call, fault_is_none, is_fault, only_action}
use Rattle.seat_relay.proofs.mending.own_or_call.Goals as goal

pub returns-in-Some-clause-allowed : goal.returns-in-Some-clause-allowed
returns-in-Some-clause-allowed c = fault_is_none _ _ _ (sym c.fault.ensures) (c.if-is_none.ensures)

pub returns-in-Some-clause-else_call : goal.returns-in-Some-clause-else_call
returns-in-Some-clause-else_call c = λ none. absurd (none c.in-Some.action c.in-Some.ensures.found (fault_is_none _ _ _ (sym c.fault.ensures) (c.if-is_none.ensures)))

pub returns-in_default-clause-allowed : goal.returns-in_default-clause-allowed
returns-in_default-clause-allowed c = may_call _ _ _ refl c.requires.turn

pub returns-in_default-clause-own : goal.returns-in_default-clause-own
returns-in_default-clause-own c = λ wanted text can. absurd (is_fault _ _ _ (sym c.fault.ensures) (c.if-is_none.ensures) (only_action _ _ (sym (c.in-Some.ensures.only wanted text)) can))

pub returns-in_default-2-clause-allowed : goal.returns-in_default-2-clause-allowed
returns-in_default-2-clause-allowed c = may_call _ _ _ refl c.requires.turn
