-- What an acceptor keeps on its disk, and what one append may make of it.
use Rattle.std.specs.Prelude.{◌≡◌, ℕ, Option, Some, None, List}
use Rattle.paxos_wire.specs.declared.ballot.Ballot.{Ballot}
use Rattle.slot_log.specs.declared.command.Command.{Command}
use Rattle.protocol_model.specs.Sets.{In, put}
use Rattle.protocol_model.specs.Ballots.{Below, AtMost, no_ballot}
use Rattle.paxos_wire.specs.declared.entry.Entry.{Entry}
use Rattle.protocol_model.specs.Messages.{Vote, entry_of, vote_of, Message, Covers, Prepare, Accept}

-- what an acceptor keeps
pub record Store : Type 0 where
  -- no ballot below it is accepted any more
  pub promise : Ballot
  -- what was accepted last at each slot
  pub votes : ℕ → Option Vote

-- nothing was promised or accepted
abbrev pub empty_store : Store
empty_store = record { promise = no_ballot; votes = λ slot. None }

-- once this ballot was promised
abbrev pub promised : Store → Ballot → Store
promised store ballot = record store { promise = ballot }

-- once this was accepted at the slot, which promises its ballot too
abbrev pub voted : Store → ℕ → Vote → Store
voted store slot vote = record { promise = vote.ballot; votes = put store.votes slot (Some vote) }

-- the entries are those of the 64 slots from the first on, and no others
pub record Tells (store : Store) (first : ℕ) (told : List Entry) : Type 0 where
  pub all : (slot : ℕ) (vote : Vote) → Covers first slot → store.votes slot ≡ Some vote → In (entry_of slot vote) told
  pub only : (entry : Entry) → In entry told → Covers first entry.slot × (store.votes entry.slot ≡ Some (vote_of entry))

-- what one store move of this node makes of a store, by the messages that the node has: its own promise, a promise, a vote
pub data StoreMove (node : ℕ) (has : List Message) (old new : Store) : Type 0 where
  own_promise : (ballot : Ballot) → ballot.node ≡ node → Below old.promise ballot → new ≡ promised old ballot → StoreMove node has old new
  promise : (ballot : Ballot) (slot : ℕ) → In (Prepare ballot slot) has → Below old.promise ballot → new ≡ promised old ballot → StoreMove node has old new
  vote : (ballot : Ballot) (slot : ℕ) (command : Command) → In (Accept ballot slot command) has → AtMost old.promise ballot
      → new ≡ voted old slot (record { ballot = ballot; command = command }) → StoreMove node has old new

-- what the store may be after an append that was begun: an append is of any number of store moves, one after another
pub data Append (node : ℕ) (has : List Message) (old : Store) : Store → Type 0 where
  unchanged : (new : Store) → new ≡ old → Append node has old new
  moved : (between new : Store) → Append node has old between → StoreMove node has between new → Append node has old new
