-- What a cluster that was opened goes on from.
use Rattle.std.specs.Prelude.{◌≡◌, ℕ, ◌<◌, ◌⊎◌, false, Some, List, [], map}
use Rattle.paxos_wire.specs.declared.ballot.Ballot.{Ballot}
use Rattle.slot_log.specs.declared.command.Command.{Command}
use Rattle.protocol_model.specs.Sets.{In, IsBeginning}
use Rattle.protocol_model.specs.Messages.{Message, Accepted}
use Rattle.protocol_model.specs.Arrivals as model
use Rattle.protocol_model.specs.Stores.{Store}
use Rattle.protocol_model.specs.Nodes.{Node as WorldNode}
use Rattle.protocol_model.specs.Dealers.{Dealer}
use Rattle.protocol_model.specs.Moves.{Output, Chain}
use Rattle.protocol_model.specs.Worlds.{World, Reached}
use Rattle.protocol_model.specs.Laws.{IsLeft}
use Rattle.dealer_world.specs.Records.{Arrived, Ordered}
use Rattle.dealer_world.specs.Hearing.{WasHeard}
use Rattle.dealer_world.specs.Headline.{Era, said_in, InSome}
use Rattle.dealer_world.specs.Calls.{HasKnown, BringsAll}
use Rattle.dealer_world.specs.Behind.{AreEras, EachNode, CameAs, IsOrderOf}

-- a reached world of n nodes, in which all was sent that the eras' frames say, and nothing accepted but what they say, and which showed what they show
pub record BehindEras (dealer : Dealer) (n : ℕ) (eras : List Era) : Type 0 where
  pub world : World
  pub reached : Reached dealer n world
  pub carried : (message : Message) → In message (said_in eras) → In message world.ever
  pub accepted : (sender : ℕ) (ballot : Ballot) (slot : ℕ) (command : Command)
      → In (Accepted sender ballot slot command) world.ever → In (Accepted sender ballot slot command) (said_in eras)
  pub shown : AreEras world.shown eras
  pub heard : (earlier : List model.Arrival) (node seat : ℕ) (bytes : List ℕ) → IsBeginning earlier world.came
      → model.heard_in earlier node seat ≡ Some bytes → InSome (λ era. WasHeard era.record_of.delivered node seat bytes) eras
  pub ordered : (node front sent : ℕ) → CameAs world.came node front sent → IsOrderOf n eras node front

-- a run that made these eras may end so that its nodes' stores are in these files; `Stands i file store` says that a file is that of node i and has the store
pub record Leaves (Stands : ℕ → List ℕ → Store → Type 0) (dealer : Dealer) (n : ℕ) (eras : List Era) (files : List (List ℕ)) : Type 0 where
  pub behind : BehindEras dealer n eras
  pub stores : ℕ → Store
  pub left : (i : ℕ) → i < n → IsLeft i (behind.world.nodes i) (stores i)
  pub held : EachNode (λ i file. Stands i file (stores i)) 0 files

-- what was begun when the call stopped in its middle: some moves of its node, which showed nothing and accepted nothing, and after which the store may be
-- left like this
pub record LeftInside (dealer : Dealer) (n i : ℕ) (ever : List Message) (first : WorldNode) (arrived : List Arrived) (store : Store) : Type 0 where
  pub output : Output
  pub last : WorldNode
  pub chain : Chain dealer n i ever first output last
  pub left : IsLeft i last store
  pub none_accepted : (sender : ℕ) (ballot : Ballot) (slot : ℕ) (command : Command) → In (Accepted sender ballot slot command) output.sent → ⊥
  pub none_shown : output.shown ≡ []
  pub knew : (node front : ℕ) → In (Ordered node front) arrived → HasKnown first front
  pub came : BringsAll i false arrived (map (λ (arrival : model.Arrival). arrival.event) output.came) ⊎ (output.came ≡ [])
