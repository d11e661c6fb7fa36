-- The ballots that a node has seen.
use Rattle.std.specs.Prelude.{◌≡◌, ◌⊎◌, List, [], ◌∷◌, map}
use Rattle.paxos_wire.specs.declared.ballot.Ballot.{Ballot}
use Rattle.paxos_wire.specs.declared.entry.Entry.{Entry}
use Rattle.protocol_model.specs.Sets.{In}
use Rattle.protocol_model.specs.Ballots.{AtMost, no_ballot}
use Rattle.protocol_model.specs.Messages.{Message, Prepare, Promise, Refuse, Accept, Accepted, Chosen, Ask, Forward, Said}

-- the ballots that a message tells
abbrev pub ballots_in : Message → List Ballot
ballots_in (Prepare ballot slot) = ballot ∷ []
ballots_in (Promise sender ballot slot told) = ballot ∷ map (λ (entry : Entry). entry.ballot) told
ballots_in (Refuse sender ballot slot promised) = ballot ∷ promised ∷ []
ballots_in (Accept ballot slot command) = ballot ∷ []
ballots_in (Accepted sender ballot slot command) = ballot ∷ []
ballots_in (Chosen sender slot command) = []
ballots_in (Ask sender slot) = []
ballots_in (Forward sender command) = []
ballots_in (Said sender command) = []

-- some message tells it
abbrev pub IsTold : List Message → Ballot → Type 0
IsTold messages ballot = (message : Message) × In message messages × In ballot (ballots_in message)

-- no ballot that the messages tell is above both the greatest one seen and the promise; and that one is told by one of them, if there is any
pub record Sees (messages : List Message) (promise seen : Ballot) : Type 0 where
  pub all : (ballot : Ballot) → IsTold messages ballot → AtMost ballot seen ⊎ AtMost ballot promise
  pub some : (seen ≡ no_ballot) ⊎ IsTold messages seen
