-- Orders that the player to act is played for, worked out, and near misses of their laws.
use Rattle.std.proofs.Common.{◌≡◌, ℕ, true, false, [], ◌∷◌, Option, Some, None, Ok, Err, Result, refl, ap, sym, ◌∙◌, arith}
use Rattle.betting.specs.declared.action.Action.TheVariants.{Call}
use Rattle.paxos_wire.specs.declared.message.Message.TheVariants.{Accept, Accepted, Forward}
use Rattle.slot_log.specs.declared.command.Command.{Command}
use Rattle.slot_log.specs.declared.command.Command.TheVariants.{Act, Away}
use Rattle.protocol_model.specs.Arrivals.{Ordered}
use Rattle.protocol_model.specs.Stores.{empty_store}
use Rattle.dealer_kind.specs.Kind.{hands_after}
use Rattle.node_rules.specs.Standings.{Standing}
use Rattle.node_rules.specs.Turns.{Turn, Refusal, Down, NothingToAct, still, sending, and_then}
use Rattle.node_rules.specs.Proposing.{closing}
use Rattle.node_rules.specs.Seats.{ordering}
use Rattle.node_rules.specs.Calls as call
use Rattle.node_rules.specs.Rules.{stopping, IsTurn}
use Rattle.node_rules.specs.Called.{taken_events, failed_events}
use Rattle.node_rules.specs.LawsOrder.{Orders}
use Rattle.node_rules.specs.LawsPending.{WaitsUp}
use Rattle.node_rules.specs.LawsRefused.{RefusesUp}
use Rattle.node_rules.proofs.Examples.{opened, setting, place, ballot, dealt, to, done, first, voted_1, dealt_0, over_0}
use Rattle.node_rules.proofs.TurnExamples.{runs, no_own}

-- ---- at the leader

abbrev ordered : Turn
ordered = done (and_then (ordering (place 0) dealt_0) (closing (place 0)))

-- the player to act is played for, and that is proposed at the front
order_is_proposed : ordered.frames
    ≡ to 1 (Accept (ballot 1 0) 1 (Away 0 0 ∷ [])) ∷ to 2 (Accept (ballot 1 0) 1 (Away 0 0 ∷ []))
    ∷ to 1 (Accepted (ballot 1 0) 1 (Away 0 0 ∷ [])) ∷ to 2 (Accepted (ballot 1 0) 1 (Away 0 0 ∷ [])) ∷ []
unfolding opened
order_is_proposed = refl

order_waits : ordered.after.pending ≡ Some (Away 0 0)
unfolding opened
order_waits = refl

-- before the first deal and after the last hand there is nobody to play for
nobody_yet : and_then (ordering (place 0) (first 0)) (closing (place 0)) ≡ Err NothingToAct
unfolding opened
nobody_yet = refl

nobody_any_more : and_then (ordering (place 0) over_0) (closing (place 0)) ≡ Err NothingToAct
unfolding opened
nobody_any_more = refl

-- nor is there at a node that is down, which says that it is
down_takes_no_order : (outcome : Result Turn Refusal) → IsTurn (place 0) (stopping (place 0) dealt_0).after call.Away outcome → outcome ≡ Err Down
down_takes_no_order outcome turn = turn

-- ---- elsewhere

-- node 1, which knows the deal and promised node 0's ballot
abbrev knowing_1 : Standing
knowing_1 = record voted_1 { learned = dealt_0.learned }

order_goes_on : ordering (place 1) knowing_1 ≡ Ok (sending (to 0 (Forward (Away 0 0)) ∷ []) (record knowing_1 { pending = Some (Away 0 0) }))
unfolding opened
order_goes_on = refl

-- again too, and where an act waits, which it leaves waiting
order_goes_on_beside_an_act : ordering (place 1) (record knowing_1 { pending = Some (Act 0 0 Call) })
    ≡ Ok (sending (to 0 (Forward (Away 0 0)) ∷ []) (record knowing_1 { pending = Some (Act 0 0 Call) }))
unfolding opened
order_goes_on_beside_an_act = refl

-- a node that promised nothing sends it to nobody
order_with_nobody_to_send_to : ordering (place 1) (record knowing_1 { store = empty_store }) ≡ Ok (sending [] (record knowing_1 { store = empty_store; pending = Some (Away 0 0) }))
unfolding opened
order_with_nobody_to_send_to = refl

-- at the second turn it is of the second index
abbrev called_0 : Standing
called_0 = record dealt_0 { learned = record dealt_0.learned { log = record { below = Act 0 0 Call ∷ dealt 0 ∷ []; beyond = [] } } }

order_at_the_second_turn : (done (and_then (ordering (place 0) called_0) (closing (place 0)))).after.pending ≡ Some (Away 0 1)
unfolding opened
order_at_the_second_turn = refl

-- ---- what came

order_has_come : taken_events 1 7 true call.Away ≡ (Ordered 1 7 ∷ []) ∷ []
order_has_come = refl

order_may_have_come : failed_events 1 7 call.Away ≡ [] ∷ (Ordered 1 7 ∷ []) ∷ []
order_may_have_come = refl

tick_brings_no_order : taken_events 1 7 true call.Tick ≡ [] ∷ []
tick_brings_no_order = refl

-- ---- near misses

-- an order that is passed over
order_passed_over : WaitsUp no_own (place 0) dealt_0 runs call.Away (still dealt_0) → ⊥
unfolding opened
order_passed_over (act, next, waits) = let clash : ◌≡◌ {A = Option Command} None (Some act) = waits in cc

-- one that takes the place of the act that waits
order_in_the_place_of_an_act : WaitsUp no_own (place 0) (record dealt_0 { pending = Some (Act 0 0 Call) }) runs call.Away (still (record dealt_0 { pending = Some (Away 0 0) })) → ⊥
unfolding opened
order_in_the_place_of_an_act (act, next, waits) = let clash : ◌≡◌ {A = Option Command} (Some (Away 0 0)) (Some (Act 0 0 Call)) = waits in cc

-- 96 of a node at which a hand runs
refused_in_a_hand : Orders (place 0) runs (hands_after setting (dealt 0 ∷ [])) dealt_0 (Err NothingToAct) → ⊥
unfolding opened
refused_in_a_hand orders = let clash : true ≡ false = orders.only_nothing refl in cc

-- an order of a node at which none runs
taken_between_hands : (turn : Turn) → Orders (place 0) runs [] (first 0) (Ok turn) → ⊥
taken_between_hands turn orders = let clash : ◌≡◌ {A = Result Turn Refusal} (Ok turn) (Err NothingToAct) = orders.nothing refl in cc

-- the index of a command that plays for somebody
abbrev index_in : Option Command → ℕ
index_in (Some (Away hand index)) = index
index_in other = 0

-- the index behind the next one
next_index_ordered : (turn : Turn) → turn.after.pending ≡ Some (Away 0 1) → WaitsUp no_own (place 0) dealt_0 runs call.Away turn → ⊥
unfolding opened
next_index_ordered turn e (act, next, waits) =
    let mine : ◌≡◌ {A = Option Command} (Some (Away 0 0)) (Some act) = next in
    let clash : ◌≡◌ {A = Option Command} (Some (Away 0 1)) (Some act) = sym e ∙ waits in
    let same : ◌≡◌ {A = ℕ} 0 1 = ap index_in (mine ∙ sym clash) in omega (arith, same)

-- a refusal for another reason
order_refused_as_a_tick : RefusesUp call.Away Down → ⊥
order_refused_as_a_tick why = let clash : Down ≡ NothingToAct = why in cc
