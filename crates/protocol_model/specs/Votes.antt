-- What a store tells of its votes, and what a vote makes of it.
use Rattle.std.specs.Prelude.{◌≡◌, ℕ, zero, suc, ◌+◌, ◌<◌, ◌≤◌, Bool, false, not, if◌then◌else◌, List, [], ◌∷◌, ◌++◌, Option, Some, None}
use Rattle.paxos_wire.specs.declared.limits.TheConstants.{WINDOW}
use Rattle.paxos_wire.specs.declared.ballot.Ballot.{Ballot}
use Rattle.paxos_wire.specs.declared.entry.Entry.{Entry}
use Rattle.paxos_wire.specs.Order.{is_same_ballot}
use Rattle.slot_log.specs.declared.command.Command.{Command}
use Rattle.protocol_model.specs.Messages.{Vote, entry_of}
use Rattle.protocol_model.specs.Stores.{Store, voted}

-- ---- what a promise tells

-- the entry of a slot where there is a vote
abbrev pub told_at : ℕ → Option Vote → List Entry
told_at slot None = []
told_at slot (Some vote) = entry_of slot vote ∷ []

-- the votes at so many slots from the first on, by rising slots
unfoldable pub told_from : Store → ℕ → ℕ → List Entry
told_from store first zero = []
told_from store first (suc places) = told_from store first places ++ told_at (first + places) (store.votes (first + places))

-- what a promise that covers the 64 slots from this one on tells
abbrev pub told_by : Store → ℕ → List Entry
told_by store first = told_from store first WINDOW

-- ---- a vote

-- the vote is of this ballot
abbrev pub is_of_ballot : Option Vote → Ballot → Bool
is_of_ballot None ballot = false
is_of_ballot (Some vote) ballot = is_same_ballot vote.ballot ballot

-- the command that the ballot has at the slot: what was stored in it stays
abbrev pub stored_in : Option Vote → Ballot → Command → Command
stored_in None ballot command = command
stored_in (Some vote) ballot command = if is_same_ballot vote.ballot ballot then vote.command else command

-- the store with a vote, unless it has one of the ballot there
abbrev pub storing : Store → Ballot → ℕ → Command → Store
storing store ballot slot command =
    if is_of_ballot (store.votes slot) ballot then store else voted store slot (record { ballot = ballot; command = command })

-- ---- the votes of a command run: of commands for this slot and the slots behind it, in order

-- the ballot has a vote at the slot
abbrev pub is_voted : Store → Ballot → ℕ → Bool
is_voted store ballot slot = is_of_ballot (store.votes slot) ballot

abbrev pub is_alike : Bool → Bool → Bool
is_alike a b = if a then b else not b

-- up to the first slot where it is otherwise than this whether the ballot has a vote: the commands that the ballot has there, once those at slots
-- without a vote are voted for
abbrev pub command_run_from : Bool → Store → Ballot → ℕ → List Command → List Command
command_run_from voted store ballot slot [] = []
command_run_from voted store ballot slot (command ∷ more) =
    if is_alike voted (is_voted store ballot slot) then stored_in (store.votes slot) ballot command ∷ command_run_from voted store ballot (slot + 1) more else []

-- what is taken of a command run: its beginning up to the first slot that differs from the first one in whether the ballot has a vote there
abbrev pub command_run_at : Store → Ballot → ℕ → List Command → List Command
command_run_at store ballot slot commands = command_run_from (is_voted store ballot slot) store ballot slot commands

-- the store with a vote at each of these slots, but where it has one of the ballot
abbrev pub storing_command_run : Store → Ballot → ℕ → List Command → Store
storing_command_run store ballot slot [] = store
storing_command_run store ballot slot (command ∷ more) = storing_command_run (storing store ballot slot command) ballot (slot + 1) more

-- the store with a vote for all that is taken
abbrev pub taking_command_run : Store → Ballot → ℕ → List Command → Store
taking_command_run store ballot slot commands = storing_command_run store ballot slot (command_run_at store ballot slot commands)

-- ---- how far a command run is taken

-- of a command run of so many commands it goes so far: at each slot that far it is as this says whether the ballot has a vote there, and at the slot behind
-- them, where the command run goes on, it is otherwise
pub record GoesTo (voted : Bool) (store : Store) (ballot : Ballot) (slot all count : ℕ) : Type 0 where
  pub alike : (k : ℕ) → slot ≤ k → k < slot + count → is_voted store ballot k ≡ voted
  pub differs : count < all → is_voted store ballot (slot + count) ≡ not voted
