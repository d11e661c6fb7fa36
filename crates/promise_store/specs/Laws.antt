-- What laws say of records and of images.
use Rattle.std.specs.Prelude.{◌≡◌, ◌⊎◌, ℕ, ◌+◌, List, [], ◌∷◌, ◌++◌}
use Rattle.paxos_wire.specs.declared.ballot.Ballot.{Ballot}
use Rattle.paxos_wire.specs.declared.entry.Entry.{Entry}
use Rattle.slot_log.specs.declared.command.Command.{Command}
use Rattle.protocol_model.specs.Sets.{In}
use Rattle.protocol_model.specs.Ballots.{Below, AtMost, no_ballot}
use Rattle.protocol_model.specs.Messages.{Vote, Message}
use Rattle.protocol_model.specs.Backing.{Backs}
use Rattle.protocol_model.specs.Stores.{Store}
use Rattle.promise_store.specs.declared.records.Record.{Record}
use Rattle.promise_store.specs.declared.records.Record.TheVariants.{Promised, VotedOne, Opened, Voted}
use Rattle.promise_store.specs.Holding.{StandsFor}

-- the ballot that was promised or accepted in, or none
abbrev pub ballot_of_record : Record → Ballot
ballot_of_record (Promised ballot) = ballot
ballot_of_record (VotedOne ballot slot command) = ballot
ballot_of_record Opened = no_ballot
ballot_of_record (Voted ballot slot commands) = ballot

-- no record's ballot is above it, and it is some record's; that of no records is below every ballot
pub record IsGreatest (records : List Record) (ballot : Ballot) : Type 0 where
  pub most : (r : Record) → In r records → AtMost (ballot_of_record r) ballot
  pub some : (ballot ≡ no_ballot) ⊎ ((r : Record) × In r records × (ballot_of_record r ≡ ballot))

-- the commands at the slots from this one on, as entries of the ballot
abbrev pub entries_of : Ballot → ℕ → List Command → List Entry
entries_of ballot slot [] = []
entries_of ballot slot (command ∷ commands) = record { slot = slot; ballot = ballot; command = command } ∷ entries_of ballot (slot + 1) commands

-- what a record says was accepted
abbrev pub accepted_by : Record → List Entry
accepted_by (Promised ballot) = []
accepted_by (VotedOne ballot slot command) = entries_of ballot slot (command ∷ [])
accepted_by Opened = []
accepted_by (Voted ballot slot commands) = entries_of ballot slot commands

-- what the records say was accepted, the oldest first
abbrev pub accepted_in : List Record → List Entry
accepted_in [] = []
accepted_in (r ∷ records) = accepted_by r ++ accepted_in records

-- some record says that the command was accepted at the slot in the ballot
abbrev pub Says : List Record → Ballot → ℕ → Command → Type 0
Says records ballot slot command = In (record { slot = slot; ballot = ballot; command = command }) (accepted_in records)

-- it is said that it was accepted at the slot; nothing is said of a greater ballot there, and behind it nothing of the same one
pub record IsLastOfGreatest (accepted : List Entry) (slot : ℕ) (vote : Vote) : Type 0 where
  pub before : List Entry
  pub after : List Entry
  pub is : accepted ≡ before ++ record { slot = slot; ballot = vote.ballot; command = vote.command } ∷ after
  pub most : (ballot : Ballot) (command : Command) → In (record { slot = slot; ballot = ballot; command = command }) before → AtMost ballot vote.ballot
  pub last : (ballot : Ballot) (command : Command) → In (record { slot = slot; ballot = ballot; command = command }) after → Below ballot vote.ballot

-- the image stands for a store that backs the message
abbrev pub IsBacked : List ℕ → List ℕ → Message → Type 0
IsBacked head image message = (store : Store) × StandsFor head image store × Backs store message
