-- What an acceptor answers, and what it keeps then, by what it kept.
use Rattle.std.specs.Prelude.{◌≡◌, ℕ, zero, suc, ◌+◌, ◌≤◌, Bool, false, if◌then◌else◌, List, [], ◌∷◌, ◌++◌, Option, Some, None, length}
use Rattle.paxos_wire.specs.Fits.{IsBallot, IsInRange, IsCommandRun, AreEntries}
use Rattle.paxos_wire.specs.declared.ballot.Ballot.{Ballot}
use Rattle.paxos_wire.specs.declared.entry.Entry.{Entry}
use Rattle.slot_log.specs.declared.command.Command.{Command}
use Rattle.protocol_model.specs.Messages.{Vote}
use Rattle.protocol_model.specs.Stores.{Store, promised}
use Rattle.protocol_model.specs.Votes.{told_by, stored_in, storing, command_run_at, taking_command_run}
use Rattle.acceptor.specs.declared.answers.PrepareAnswer.{PrepareAnswer}
use Rattle.acceptor.specs.declared.answers.PrepareAnswer.TheVariants.{Promise, Refuse as RefusePrepare}
use Rattle.acceptor.specs.declared.answers.AcceptAnswer.{AcceptAnswer}
use Rattle.acceptor.specs.declared.answers.AcceptAnswer.TheVariants.{Accepted, Refuse as RefuseAccept}
use Rattle.acceptor.specs.declared.answers.RunAnswer.{RunAnswer}
use Rattle.acceptor.specs.declared.answers.RunAnswer.TheVariants.{Accepted as AcceptedRun, Refuse as RefuseRun}
use Rattle.promise_store.specs.declared.placed.Placed.{Placed}
use Rattle.paxos_wire.specs.Order.{is_below, is_same_ballot}

-- ---- what is read of a store

-- the entry of what was found at a slot
abbrev pub told_pair : ℕ → Option (Ballot × Command) → List Entry
told_pair slot None = []
told_pair slot (Some found) = record { slot = slot; ballot = found.0; command = found.1 } ∷ []

abbrev pub command_found : Option (Ballot × Command) → Option Command
command_found None = None
command_found (Some found) = Some found.1

-- the command of a vote of this very ballot
abbrev pub stored_command : Ballot → Option Vote → Option Command
stored_command ballot None = None
stored_command ballot (Some vote) = if is_same_ballot vote.ballot ballot then Some vote.command else None

-- the command of a vote
abbrev pub command_at : Option Vote → List Command
command_at None = []
command_at (Some vote) = vote.command ∷ []

-- and of what was found at a slot
abbrev pub command_in : Option (Ballot × Command) → List Command
command_in None = []
command_in (Some found) = found.1 ∷ []

-- the commands accepted at so many slots from the first on, by rising slots
unfoldable pub commands_told : Store → ℕ → ℕ → List Command
commands_told store first zero = []
commands_told store first (suc places) = commands_told store first places ++ command_at (store.votes (first + places))

-- what an index shows at a slot is of this very ballot
abbrev pub is_placed_in : Ballot → Option Placed → Bool
is_placed_in ballot None = false
is_placed_in ballot (Some placed) = is_same_ballot placed.ballot ballot

-- ---- a Prepare

-- a ballot above what it promised is promised
abbrev pub answer_to_prepare : Ballot → ℕ → Store → PrepareAnswer
answer_to_prepare ballot slot store =
    if is_below store.promise ballot then Promise ballot slot (told_by store slot) else RefusePrepare ballot slot store.promise

-- any other is refused by the promise alone, which is told
abbrev pub refusal_of_prepare : Ballot → ℕ → Ballot → Option PrepareAnswer
refusal_of_prepare ballot slot promise = if is_below promise ballot then None else Some (RefusePrepare ballot slot promise)

-- what is kept then: with the promise, where it is made
abbrev pub prepared : Ballot → Store → Store
prepared ballot store = if is_below store.promise ballot then promised store ballot else store

-- an answer that a frame carries: of that ballot and slot, its numbers within their ranges, its entries among the 64 slots and rising
abbrev pub AnswersPrepare : Ballot → ℕ → PrepareAnswer → Type 0
AnswersPrepare ballot slot (Promise b s entries) = (b ≡ ballot) × (s ≡ slot) × AreEntries slot entries
AnswersPrepare ballot slot (RefusePrepare b s promise) = (b ≡ ballot) × (s ≡ slot) × IsBallot promise

-- ---- a proposal

-- a proposal of no ballot below what it promised is accepted
abbrev pub answer_to_accept : Ballot → ℕ → Command → Store → AcceptAnswer
answer_to_accept ballot slot command store =
    if is_below ballot store.promise then RefuseAccept ballot slot store.promise
    else Accepted ballot slot (stored_in (store.votes slot) ballot command)

-- any other is refused by the promise alone, which is told
abbrev pub refusal_of_accept : Ballot → ℕ → Ballot → Option AcceptAnswer
refusal_of_accept ballot slot promise = if is_below ballot promise then Some (RefuseAccept ballot slot promise) else None

-- once a ballot and slot: where a vote of the ballot is there, it stays
abbrev pub accepted : Ballot → ℕ → Command → Store → Store
accepted ballot slot command store =
    if is_below ballot store.promise then store else storing store ballot slot command

-- an answer that a frame carries
abbrev pub AnswersAccept : Ballot → ℕ → AcceptAnswer → Type 0
AnswersAccept ballot slot (Accepted b s command) = (b ≡ ballot) × (s ≡ slot) × IsInRange command
AnswersAccept ballot slot (RefuseAccept b s promise) = (b ≡ ballot) × (s ≡ slot) × IsBallot promise

-- ---- a run of proposals

-- of a ballot that isn't below what it promised the beginning is accepted up to the first slot that differs from the first one in whether a vote of the ballot is there; told is what the ballot then has there
abbrev pub answer_to_run : Ballot → ℕ → List Command → Store → RunAnswer
answer_to_run ballot slot commands store =
    if is_below ballot store.promise then RefuseRun ballot slot store.promise
    else AcceptedRun ballot slot (command_run_at store ballot slot commands)

-- any other is refused by the promise alone, which is told
abbrev pub refusal_of_run : Ballot → ℕ → Ballot → Option RunAnswer
refusal_of_run ballot slot promise = if is_below ballot promise then Some (RefuseRun ballot slot promise) else None

-- what is kept then: with the votes that are taken, where they are
abbrev pub accepted_run : Ballot → ℕ → List Command → Store → Store
accepted_run ballot slot commands store =
    if is_below ballot store.promise then store else taking_command_run store ballot slot commands

-- an answer that a frame carries, with no more commands than were proposed
abbrev pub AnswersRun : Ballot → ℕ → List Command → RunAnswer → Type 0
AnswersRun ballot slot commands (AcceptedRun b s told) = (b ≡ ballot) × (s ≡ slot) × IsCommandRun slot told × (length told ≤ length commands)
AnswersRun ballot slot commands (RefuseRun b s promise) = (b ≡ ballot) × (s ≡ slot) × IsBallot promise
