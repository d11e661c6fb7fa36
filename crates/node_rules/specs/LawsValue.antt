-- What a node has of its own to propose, told by the dealer of the match, by the commands that the node of the world knows, by its own deals, and by
-- the act that waits, as the node's reader shows it.
use Rattle.std.specs.Prelude.{◌≡◌, ℕ, Bool, true, List, length, Option, Some}
use Rattle.slot_log.specs.declared.command.Command.{Command}
use Rattle.slot_log.specs.declared.command.Command.TheVariants.{Deal}
use Rattle.protocol_model.specs.Dealers.{Dealer}
use Rattle.protocol_model.specs.Nodes.{Knows}
use Rattle.protocol_model.specs.Worlds.{World}
use Rattle.dealer_kind.specs.Kind.{dealer_of}
use Rattle.node_rules.specs.Standings.{Place, Standing, front_of}
use Rattle.node_rules.specs.Proposing.{own_value}
use Rattle.node_rules.specs.Sound.{Stands}

-- a deal of the node's own that fits after these commands
abbrev pub IsOwnDeal : Dealer → Place → List Command → ℕ → List ℕ → Type 0
IsOwnDeal dealer place before hand deal = (place.deals hand ≡ Some deal) × (dealer.fits before (Deal hand deal) ≡ true)

-- its own deal, where one fits, and else the act that waits
pub record IsOwnValue (dealer : Dealer) (place : Place) (before : List Command) (pending value : Option Command) : Type 0 where
  pub deals : (hand : ℕ) (deal : List ℕ) → IsOwnDeal dealer place before hand deal → value ≡ Some (Deal hand deal)
  pub waits : ((hand : ℕ) (deal : List ℕ) → IsOwnDeal dealer place before hand deal → ⊥) → value ≡ pending

-- after the commands that the node knows below its front
abbrev pub DealsComeFirst : Type 0
DealsComeFirst =
    (own : ℕ → Command → Bool) (place : Place) (world : World) (s : Standing) (before : List Command)
    → Stands own place world s → s.up ≡ true → Knows (world.nodes place.node).known before → front_of s ≡ length before
    → IsOwnValue (dealer_of place.setting own) place before s.pending (own_value place s)
