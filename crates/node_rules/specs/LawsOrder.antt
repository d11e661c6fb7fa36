-- What an order comes to that the player to act is played for, told by the hands that the node of the world knows below its front.
use Rattle.std.specs.Prelude.{◌≡◌, ℕ, Bool, true, false, List, [], ◌∷◌, length, Result, Ok, Err}
use Rattle.slot_log.specs.Hand.{Hand}
use Rattle.slot_log.specs.Dealer.{is_finished, is_running}
use Rattle.slot_log.specs.declared.command.Command.{Command}
use Rattle.slot_log.specs.declared.command.Command.TheVariants as command
use Rattle.protocol_model.specs.Nodes.{Node, Knows}
use Rattle.protocol_model.specs.Worlds.{World}
use Rattle.dealer_kind.specs.Kind.{hands_after}
use Rattle.node_rules.specs.Standings.{Place, Standing, front_of}
use Rattle.node_rules.specs.Turns.{Turn, Refusal, NothingToAct}
use Rattle.node_rules.specs.Calls.{Away}
use Rattle.node_rules.specs.Rules.{IsTurn, standing_after}
use Rattle.node_rules.specs.Sound.{Stands}
use Rattle.node_rules.specs.LawsAnswers.{forwards, Sends}
use Rattle.node_rules.specs.LawsPending.{first_of}

-- the command waits where none does, and goes to the other node whose ballot was promised
pub record Plays (place : Place) (node : Node) (act : Command) (s : Standing) (turn : Turn) : Type 0 where
  pub waits : turn.after.pending ≡ first_of s.pending (act ∷ [])
  pub sends : Sends place turn (forwards place node.store.promise (act ∷ [])) []

-- what a running node's order comes to, where these are its hands
pub record Orders (place : Place) (node : Node) (hands : List Hand) (s : Standing) (outcome : Result Turn Refusal) : Type 0 where
  -- 96 comes exactly where none of them runs, and then nothing changes
  pub nothing : is_running place.setting.game hands ≡ false → outcome ≡ Err NothingToAct
  pub only_nothing : outcome ≡ Err NothingToAct → is_running place.setting.game hands ≡ false
  pub unchanged : outcome ≡ Err NothingToAct → standing_after place s outcome ≡ s
  -- else the player to act is played for: in the newest hand, with the number of its actions so far
  pub plays : (newest : Hand) (earlier : List Hand) → hands ≡ newest ∷ earlier → is_finished place.setting.game newest ≡ false
      → (turn : Turn) × (outcome ≡ Ok turn) × Plays place node (command.Away (length earlier) (length newest.past)) s turn

abbrev pub OrdersAreTaken : Type 0
OrdersAreTaken =
    (own : ℕ → Command → Bool) (place : Place) (world : World) (s : Standing) (outcome : Result Turn Refusal) (before : List Command)
    → Stands own place world s → s.up ≡ true → IsTurn place s Away outcome → Knows (world.nodes place.node).known before → front_of s ≡ length before
    → Orders place (world.nodes place.node) (hands_after place.setting before) s outcome
