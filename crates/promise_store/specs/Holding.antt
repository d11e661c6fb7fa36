-- What a journal's records make of a store.
use Rattle.std.specs.Prelude.{◌≡◌, ℕ, ◌+◌, if◌then◌else◌, Option, Some, None, List, [], ◌∷◌, length}
use Rattle.paxos_wire.specs.declared.ballot.Ballot.{Ballot}
use Rattle.paxos_wire.specs.Spelling.{command_text}
use Rattle.slot_log.specs.declared.command.Command.{Command}
use Rattle.protocol_model.specs.Ballots.{no_ballot}
use Rattle.protocol_model.specs.Sets.{put}
use Rattle.protocol_model.specs.Messages.{Vote}
use Rattle.protocol_model.specs.Stores.{Store}
use Rattle.promise_store.specs.declared.records.Record.{Record}
use Rattle.promise_store.specs.declared.records.Record.TheVariants.{Promised, VotedOne, Opened, Voted}
use Rattle.promise_store.specs.declared.placed.Placed.{Placed}
use Rattle.promise_store.specs.declared.held.Held.{Held}
use Rattle.promise_store.specs.Records.{payload}
use Rattle.promise_store.specs.Journals.{gated, IsJournal}
use Rattle.promise_store.specs.Index.{found, later}
use Rattle.paxos_wire.specs.Order.{is_below}

-- an accepted command, and where it stands in the journal, with its ballot and its slot
pub record Kept : Type 0 where
  pub command : Command
  pub placed : Placed

-- what a journal holds: the promise, and the entry of each slot
pub record Holding : Type 0 where
  pub promise : Ballot
  pub entries : ℕ → Option Kept

-- what an empty one holds
abbrev pub nothing_held : Holding
nothing_held = record { promise = no_ballot; entries = λ slot. None }

-- the greater of two ballots
abbrev pub greater : Ballot → Ballot → Ballot
greater a b = if is_below a b then b else a

abbrev pub ballot_of : Kept → Ballot
ballot_of kept = kept.placed.ballot

-- where the first command stands of a record behind this gate, whose payload has so many bytes: the payload begins behind the gate and the two bytes of its length, and the command so far inside it
abbrev pub first_at : ℕ → ℕ → ℕ → Ballot → ℕ → Placed
first_at gate size inside ballot slot = record { place = gate + 3; ballot = ballot; slot = slot; length = size; inside = inside }

-- where the command behind this one stands in the same record: that of the next slot, behind its bytes
abbrev pub next_at : Placed → Command → Placed
next_at placed command = record placed { slot = placed.slot + 1; inside = placed.inside + length (command_text command) }

-- the entries with a record's commands more, the first of which stands here: an entry is of the greatest ballot at its slot, of several of one ballot the last
abbrev pub with_votes : Placed → List Command → (ℕ → Option Kept) → ℕ → Option Kept
with_votes placed [] entries = entries
with_votes placed (command ∷ commands) entries =
    let kept : Kept = record { command = command; placed = placed } in
    with_votes (next_at placed command) commands (put entries placed.slot (Some (later ballot_of (entries placed.slot) kept)))

-- one record more, behind this gate: a promise is the greatest ballot; what was accepted raises it to its ballot. The command of a record of version 1 begins behind its kind, ballot and slot, those of a record of version 2 behind their count too
abbrev pub with_record : ℕ → Holding → Record → Holding
with_record gate held (Promised ballot) = record held { promise = greater held.promise ballot }
with_record gate held (VotedOne ballot slot command) = record {
  promise = greater held.promise ballot;
  entries = with_votes (first_at gate (length (payload (VotedOne ballot slot command))) 10 ballot slot) (command ∷ []) held.entries;
}
with_record gate held Opened = held
with_record gate held (Voted ballot slot commands) = record {
  promise = greater held.promise ballot;
  entries = with_votes (first_at gate (length (payload (Voted ballot slot commands))) 11 ballot slot) commands held.entries;
}

-- these records more, the oldest first, the first of them behind this gate
abbrev pub held_from : ℕ → Holding → List Record → Holding
held_from gate held [] = held
held_from gate held (r ∷ records) = held_from (gate + length (gated (r ∷ []))) (with_record gate held r) records

-- what is held after the records of a journal with this head
abbrev pub holding : List ℕ → List Record → Holding
holding head records = held_from (length head) nothing_held records

abbrev pub vote_of : Option Kept → Option Vote
vote_of None = None
vote_of (Some kept) = Some (record { ballot = kept.placed.ballot; command = kept.command })

-- the model's store of what is held: the promise, and the vote of each slot
abbrev pub store_of : Holding → Store
store_of held = record { promise = held.promise; votes = λ slot. vote_of (held.entries slot) }

abbrev pub placed_of : Option Kept → Option Placed
placed_of None = None
placed_of (Some kept) = Some kept.placed

-- a value of the program holds this: the promise, and of each slot the ballot of its entry and where it stands
pub record Indexes (index : Held) (held : Holding) : Type 0 where
  pub promise : index.promised ≡ held.promise
  pub entries : (slot : ℕ) → found slot index.entries.items ≡ placed_of (held.entries slot)

-- the bytes are a journal with this head, of either version, whose records make this store
pub record StandsFor (head bytes : List ℕ) (store : Store) : Type 0 where
  pub records : List Record
  pub journal : IsJournal head bytes records
  pub is : store ≡ store_of (holding head records)

-- the model's votes with these commands more, accepted in a ballot at the slots from this one on
abbrev pub voting : Ballot → ℕ → List Command → (ℕ → Option Vote) → ℕ → Option Vote
voting ballot slot [] votes = votes
voting ballot slot (command ∷ commands) votes =
    let vote : Vote = record { ballot = ballot; command = command } in
    voting ballot (slot + 1) commands (put votes slot (Some (later (λ v. v.ballot) (votes slot) vote)))

-- the model's store with one record more
abbrev pub stored : Store → Record → Store
stored store (Promised ballot) = record store { promise = greater store.promise ballot }
stored store (VotedOne ballot slot command) = record { promise = greater store.promise ballot; votes = voting ballot slot (command ∷ []) store.votes }
stored store Opened = store
stored store (Voted ballot slot commands) = record { promise = greater store.promise ballot; votes = voting ballot slot commands store.votes }
