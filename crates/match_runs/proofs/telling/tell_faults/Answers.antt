use Rattle.std.proofs.Common.{◌≡◌, ◌∷◌, List, ℕ, rules, sym, subst}
use Rattle.std.specs.Prelude.{Option}
use Rattle.std.proofs.lemmas.List.{drop_more}
use Rattle.dealer_node.specs.declared.seat_fault.SeatFault.{SeatFault}
use Rattle.dealer_world.specs.Stepping.{View}
use Rattle.match_runs.specs.Refusals.{TellsFault, TellsFaults}
use Rattle.match_runs.proofs.telling.tell_faults.Goals as goal

-- a fault, and the further ones
both_told : {N : Type 0} (view : View N) (piece : List ℕ) (node : ℕ) (found : SeatFault) (faults rest : List SeatFault) (held between after : Option (List ℕ)) → faults ≡ found ∷ rest
    → TellsFault view piece node found held between → TellsFaults view piece node rest between after → TellsFaults view piece node faults held after
both_told view piece node found faults rest held between after is first more =
    subst (λ (fs : List SeatFault). TellsFaults view piece node fs held after) (sym is) (between, first, more)

pub loop-found-preserved : goal.loop-found-preserved
loop-found-preserved g c = λ after rest. c.loop-found.invariant after
    (both_told _ _ _ _ _ _ _ _ after (drop_more c.args.faults.now c.loop-found.found-index _ (search rules)) c.tell_fault.ensures rest)
