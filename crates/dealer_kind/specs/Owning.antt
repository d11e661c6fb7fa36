-- Which commands are a node's own, and where a command of a match comes from.
use Rattle.std.specs.Prelude.{◌≡◌, ℕ, Bool, true, ◌||◌, List}
use Rattle.slot_log.specs.declared.command.Command.{Command}
use Rattle.slot_log.specs.declared.command.Command.TheVariants.{Deal, Act, Away}
use Rattle.slot_log.specs.Dealer.{IsDealing}
use Rattle.protocol_model.specs.Messages.{Message}
use Rattle.protocol_model.specs.Arrivals.{Arrival}
use Rattle.protocol_model.specs.Dealers.{Dealer}
use Rattle.protocol_model.specs.Laws.{IsOwned, WasSaid, WasOrdered}

-- what is a node's own is a deal
abbrev pub OwnsDeals : (ℕ → Command → Bool) → Type 0
OwnsDeals own = (node : ℕ) (command : Command) → own node command ≡ true → IsDealing command

-- what is a node's own by the one or by the other, as after an `open` with other deals
abbrev pub either : (ℕ → Command → Bool) → (ℕ → Command → Bool) → ℕ → Command → Bool
either own other node command = own node command || other node command

-- a deal is some node's own, an act was said, and it was ordered that a player who is away is played for
abbrev pub IsDealtSaidOrOrdered : Dealer → ℕ → List Message → List Arrival → Command → Type 0
IsDealtSaidOrOrdered dealer n ever came (Deal hand deal) = IsOwned dealer n (Deal hand deal)
IsDealtSaidOrOrdered dealer n ever came (Act hand index action) = WasSaid dealer n ever came (Act hand index action)
IsDealtSaidOrOrdered dealer n ever came (Away hand index) = WasOrdered dealer n ever came (Away hand index)
