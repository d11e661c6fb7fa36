-- What an order comes to at a node that runs.
use Rattle.std.proofs.Common.{◌≡◌, ℕ, inl, Bool, true, false, if◌then◌else◌, List, [], ◌∷◌, length, Option, Some, None, Result, Ok, Err, refl, ap, sym, ◌∙◌, subst}
use Rattle.paxos_wire.specs.declared.ballot.Ballot.{Ballot}
use Rattle.paxos_wire.specs.Fits.{MayGoOn}
use Rattle.promise_store.specs.declared.disk.Disk.{Ghosts}
use Rattle.slot_log.specs.Hand.{Hand}
use Rattle.slot_log.specs.Dealer.{is_finished, next_away}
use Rattle.slot_log.specs.declared.command.Command.{Command}
use Rattle.slot_log.specs.declared.command.Command.TheVariants.{Away}
use Rattle.game_def.specs.Game.{Game}
use Rattle.node_rules.specs.Standings.{Standing}
use Rattle.node_rules.specs.Turns.{Turn, NothingToAct, sending, and_then, still}
use Rattle.node_rules.specs.Proposing.{closing}
use Rattle.node_rules.specs.Seats.{away_at, ordering, ordering_by, pending_act, forwarding}
use Rattle.dealer_node.specs.declared.up.Up.{Up}
use Rattle.dealer_node.specs.declared.running.Running.{Running}
use Rattle.dealer_node.specs.declared.fault.NodeFault.{NodeFault}
use Rattle.dealer_node.specs.Outs.{Told}
use Rattle.dealer_node.specs.Members.{Membership, place_at}
use Rattle.dealer_node.specs.Hearing.{TakesAct}
use Rattle.dealer_node.specs.Running.{IsRunning, IsTaken}
use Rattle.dealer_node.specs.Working.{IsUp, Took, Works}
use Rattle.dealer_node.proofs.Messages.{no_messages}
use Rattle.dealer_node.proofs.Worked.{nothing_more, memory_took, then_works}
use Rattle.node_rules.proofs.Results.{ok_is}

-- what is done where this is meant: it waits, and goes on
abbrev pub order_step : Membership → Command → Standing → Turn
order_step member act s = sending (forwarding (place_at member) act s) (pending_act (place_at member) act s)

-- what runs takes it as the first of a call
pub order_taken : (member : Membership) (running : Running) (s : Standing) (promised : Ballot) (act : Command) (waits : Option Command) (earlier later : Told)
    → IsRunning member running s → s.store.promise ≡ promised → TakesAct (place_at member) running.table promised act running.pending waits earlier later
    → IsTaken member (record running { pending = waits }) earlier later (order_step member act s)
order_taken member running s promised act waits earlier later is same takes =
    let heard = takes (still s) earlier (record { hands = is.hands; promise = same; waits = is.waits; told = nothing_more earlier s; fits = no_messages }) in
    record {
      runs = record { up = is.up; campaign = is.campaign; learned = is.learned; hands = is.hands; waits = heard.waits; greatest = is.greatest; sessions = is.sessions };
      told = heard.told;
      fits = heard.fits;
    }

-- what is meant, by the table
pub meant_by_table : (member : Membership) (running : Running) (s : Standing) → IsRunning member running s → next_away running.table.game running.table.hands ≡ away_at (place_at member) s
meant_by_table member running s is =
    ap (λ (g : Game). next_away g running.table.hands) is.hands.game ∙ ap (λ (h : List Hand). next_away member.setting.game h) is.hands.hands

-- and that may go on
goes_on_by : (finished : Bool) (hand index : ℕ) (act : Command) → ◌≡◌ {A = Option Command} (if finished then None else Some (Away hand index)) (Some act) → MayGoOn act
goes_on_by true hand index act is = absurd cc
goes_on_by false hand index act is = let same : Away hand index ≡ act = cc in subst MayGoOn same tt

pub meant_goes_on : (game : Game) (hands : List Hand) (act : Command) → next_away game hands ≡ Some act → MayGoOn act
meant_goes_on game [] act is = absurd cc
meant_goes_on game (newest ∷ earlier) act is = goes_on_by (is_finished game newest) (length earlier) (length newest.past) act is

-- where nothing is meant it is refused
pub order_refused : (member : Membership) (s : Standing) → away_at (place_at member) s ≡ None → and_then (ordering (place_at member) s) (closing (place_at member)) ≡ Err NothingToAct
order_refused member s none = ap (λ (meant : Option Command). and_then (ordering_by (place_at member) meant s) (closing (place_at member))) none

module _ {D : Type 0} (g : Ghosts D) where
  pub order_took : (member : Membership) (s : Standing) (act : Command) (up : Up D) (running : Running) (earlier later : Told)
      → IsUp g member up s → IsTaken member running earlier later (order_step member act s)
      → Took g member s (Ok (order_step member act s)) up (record up { running = running }) earlier later
  order_took member s act up running earlier later is taken =
      memory_took g member s (Ok (order_step member act s)) (order_step member act s) up running earlier later is refl taken.runs refl refl is.stands taken.told taken.fits

  -- and then the call is closed
  pub order_works : (member : Membership) (s : Standing) (act : Command) (a b c : Up D) (earlier middle later : Told) (answer : Result (Unit {0}) NodeFault)
      → away_at (place_at member) s ≡ Some act
      → (first : Took g member s (Ok (order_step member act s)) a b earlier middle)
      → Works g member first.turn.after (closing (place_at member) first.turn.after) b c middle later answer
      → Works g member s (and_then (ordering (place_at member) s) (closing (place_at member))) a c earlier later answer
  order_works member s act a b c earlier middle later answer meant first works =
      let same : first.turn.after.store ≡ s.store = ap (λ (t : Turn). t.after.store) (sym (ok_is (order_step member act s) first.turn first.rule)) in
      subst (λ (m : Option Command). Works g member s (and_then (ordering_by (place_at member) m s) (closing (place_at member))) a c earlier later answer) (sym meant)
      (then_works g member s (closing (place_at member)) (Ok (order_step member act s)) a b c earlier middle later answer first (inl same) works)
