-- What a node does with a message that asks nothing of its store.
use Rattle.std.specs.Prelude.{◌≡◌, Result}
use Rattle.paxos_wire.specs.declared.message.Message.{Message}
use Rattle.paxos_wire.specs.declared.message.Message.TheVariants as frame
use Rattle.node_rules.specs.Standings.{Standing}
use Rattle.node_rules.specs.Turns.{Turn, Refusal}
use Rattle.dealer_node.specs.declared.running.Running.{Running}
use Rattle.dealer_node.specs.Outs.{Told}
use Rattle.dealer_node.specs.Members.{Membership}
use Rattle.dealer_node.specs.Running.{TakesTurn}
use Rattle.dealer_node.specs.Working.{StandsByIts}

-- the store is neither asked nor changed: it is no Prepare and no Accept
abbrev pub IsStoreless : Message → Type 0
IsStoreless (frame.Prepare ballot slot) = ⊥
IsStoreless (frame.Promise ballot slot entries) = Unit {0}
IsStoreless (frame.Refuse ballot slot promised) = Unit {0}
IsStoreless (frame.Accept ballot slot commands) = ⊥
IsStoreless (frame.Accepted ballot slot commands) = Unit {0}
IsStoreless (frame.Chosen slot command) = Unit {0}
IsStoreless (frame.Ask slot) = Unit {0}
IsStoreless (frame.Forward command) = Unit {0}

-- the store stays, and the ballot that was begun
pub record KeepsStore (s after : Standing) : Type 0 where
  pub store : after.store ≡ s.store
  pub begun : after.begun ≡ s.begun
  pub stands : StandsByIts s → StandsByIts after

-- the outcome of a rule is a turn that leaves the store as it is, and that was taken
pub record TakesStoreless (member : Membership) (running : Running) (earlier later : Told) (s : Standing) (outcome : Result Turn Refusal) : Type 0 where
  pub takes : TakesTurn member running earlier later outcome
  pub keeps : KeepsStore s takes.turn.after
