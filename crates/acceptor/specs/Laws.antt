-- What holds of what an acceptor answers and keeps, in the words of the model of nodes.
use Rattle.std.specs.Prelude.{◌≡◌, ℕ, ◌+◌, ◌⊎◌, ◌↔◌, true, List, Some}
use Rattle.std.specs.List.{slice_get}
use Rattle.paxos_wire.specs.Fits.{IsEntry, AreEntries}
use Rattle.paxos_wire.specs.declared.ballot.Ballot.{Ballot}
use Rattle.slot_log.specs.declared.command.Command.{Command}
use Rattle.protocol_model.specs.Sets.{In}
use Rattle.protocol_model.specs.Ballots.{Below, AtMost}
use Rattle.protocol_model.specs.Messages.{Vote, entry_of, Message, Prepare, Accept}
use Rattle.protocol_model.specs.Stores.{Store, promised, voted, Tells, StoreMove, Append}
use Rattle.protocol_model.specs.Frames.{proposals}
use Rattle.protocol_model.specs.Backing.{HasVote, IsWithinPromise}
use Rattle.acceptor.specs.declared.answers.PrepareAnswer.TheVariants.{Promise, Refuse as RefusePrepare}
use Rattle.acceptor.specs.declared.answers.AcceptAnswer.TheVariants.{Accepted, Refuse as RefuseAccept}
use Rattle.acceptor.specs.declared.answers.RunAnswer.TheVariants.{Accepted as AcceptedRun}
use Rattle.protocol_model.specs.Votes.{told_by, stored_in}
use Rattle.acceptor.specs.Answers.{answer_to_prepare, prepared, answer_to_accept, accepted, answer_to_run, accepted_run}
use Rattle.paxos_wire.specs.Order.{is_below, is_same_ballot}

-- the tests tell the order of ballots, and whether two are the same
abbrev pub BelowIsTested : Type 0
BelowIsTested = (a b : Ballot) → (is_below a b ≡ true) ↔ Below a b

abbrev pub SameIsTested : Type 0
SameIsTested = (a b : Ballot) → (is_same_ballot a b ≡ true) ↔ (a ≡ b)

-- ---- what a promise tells

-- the entries of its 64 slots, and no others
abbrev pub ToldAreHeld : Type 0
ToldAreHeld = (store : Store) (first : ℕ) → Tells store first (told_by store first)

-- by rising slots, so that a frame can carry them
abbrev pub ToldRise : Type 0
ToldRise =
    (store : Store) (first : ℕ) → ((slot : ℕ) (vote : Vote) → store.votes slot ≡ Some vote → IsEntry (entry_of slot vote))
    → AreEntries first (told_by store first)

-- ---- the answer to a Prepare

-- promised is a ballot above what was promised
pub record IsPromised (ballot : Ballot) (slot : ℕ) (store : Store) : Type 0 where
  pub answer : answer_to_prepare ballot slot store ≡ Promise ballot slot (told_by store slot)
  pub kept : prepared ballot store ≡ promised store ballot

-- any other is refused, and nothing is stored
pub record IsNotPromised (ballot : Ballot) (slot : ℕ) (store : Store) : Type 0 where
  pub answer : answer_to_prepare ballot slot store ≡ RefusePrepare ballot slot store.promise
  pub kept : prepared ballot store ≡ store

-- a ballot above what was promised
abbrev pub PromisesAbove : Type 0
PromisesAbove = (ballot : Ballot) (slot : ℕ) (store : Store) → Below store.promise ballot → IsPromised ballot slot store

-- any other
abbrev pub RefusesOthers : Type 0
RefusesOthers = (ballot : Ballot) (slot : ℕ) (store : Store) → ¬ Below store.promise ballot → IsNotPromised ballot slot store

-- ---- the answer to a proposal

-- what is told as accepted is stored then: a vote of the ballot that was there already, and nothing else is written; or the
-- proposal, where no vote of the ballot was there
pub record IsAccepted (ballot : Ballot) (slot : ℕ) (command : Command) (store : Store) : Type 0 where
  pub answer : answer_to_accept ballot slot command store ≡ Accepted ballot slot (stored_in (store.votes slot) ballot command)
  pub stored : (accepted ballot slot command store).votes slot ≡ Some (record { ballot = ballot; command = stored_in (store.votes slot) ballot command })
  pub kept : (accepted ballot slot command store ≡ store)
      ⊎ ((accepted ballot slot command store ≡ voted store slot (record { ballot = ballot; command = command }))
      × (stored_in (store.votes slot) ballot command ≡ command)
      × ((vote : Vote) → store.votes slot ≡ Some vote → vote.ballot ≡ ballot → ⊥))

-- refused, and nothing is stored
pub record IsNotAccepted (ballot : Ballot) (slot : ℕ) (command : Command) (store : Store) : Type 0 where
  pub answer : answer_to_accept ballot slot command store ≡ RefuseAccept ballot slot store.promise
  pub kept : accepted ballot slot command store ≡ store

-- a ballot that isn't below what was promised
abbrev pub AcceptsAtMost : Type 0
AcceptsAtMost = (ballot : Ballot) (slot : ℕ) (command : Command) (store : Store) → AtMost store.promise ballot → IsAccepted ballot slot command store

-- any other
abbrev pub RefusesBelow : Type 0
RefusesBelow = (ballot : Ballot) (slot : ℕ) (command : Command) (store : Store) → ¬ AtMost store.promise ballot → IsNotAccepted ballot slot command store

-- ---- moves of the model

-- what is stored at a Prepare that the node has, or at one of its own, is a move of its store
abbrev pub PreparesAreMoves : Type 0
PreparesAreMoves =
    (node : ℕ) (has : List Message) (ballot : Ballot) (slot : ℕ) (store : Store) → (In (Prepare ballot slot) has) ⊎ (ballot.node ≡ node)
    → (prepared ballot store ≡ store) ⊎ StoreMove node has store (prepared ballot store)

-- and so at a proposal that it has
abbrev pub AcceptsAreMoves : Type 0
AcceptsAreMoves =
    (node : ℕ) (has : List Message) (ballot : Ballot) (slot : ℕ) (command : Command) (store : Store) → In (Accept ballot slot command) has
    → (accepted ballot slot command store ≡ store) ⊎ StoreMove node has store (accepted ballot slot command store)

-- ---- one vote a ballot and slot

-- a vote stays, or one of a greater ballot takes its place
abbrev pub VotesStand : Type 0
VotesStand =
    (ballot : Ballot) (slot : ℕ) (command : Command) (store : Store) (other : ℕ) (vote : Vote) → IsWithinPromise store → store.votes other ≡ Some vote
    → (later : Vote) × ((accepted ballot slot command store).votes other ≡ Some later) × ((later ≡ vote) ⊎ Below vote.ballot later.ballot)

-- no vote is of a ballot above the promise, from then on too
abbrev pub StaysWithinPromise : Type 0
StaysWithinPromise =
    (ballot : Ballot) (slot : ℕ) (command : Command) (store : Store) → IsWithinPromise store
    → IsWithinPromise (prepared ballot store) × IsWithinPromise (accepted ballot slot command store)

-- ---- runs of proposals

-- what is stored of a run whose proposals the node has is one append of the model's, of any number of moves
abbrev pub RunsAreAppends : Type 0
RunsAreAppends =
    (node : ℕ) (has : List Message) (ballot : Ballot) (slot : ℕ) (commands : List Command) (store : Store) → ((message : Message) → In message (proposals ballot slot commands) → In message has)
    → Append node has store (accepted_run ballot slot commands store)

-- each command that is told is stored at its slot then
abbrev pub RunsAreStored : Type 0
RunsAreStored =
    (ballot : Ballot) (slot : ℕ) (commands : List Command) (store : Store) (given : List Command) → answer_to_run ballot slot commands store ≡ AcceptedRun ballot slot given
    → (place : ℕ) (command : Command) → slice_get given place ≡ Some command → (accepted_run ballot slot commands store).votes (slot + place) ≡ Some (record { ballot = ballot; command = command })

-- a vote stays, or one of a greater ballot takes its place
abbrev pub RunVotesStand : Type 0
RunVotesStand =
    (ballot : Ballot) (slot : ℕ) (commands : List Command) (store : Store) (other : ℕ) (vote : Vote) → IsWithinPromise store → store.votes other ≡ Some vote
    → HasVote (accepted_run ballot slot commands store) other vote

-- no vote is of a ballot above the promise, from then on too
abbrev pub RunsStayWithin : Type 0
RunsStayWithin = (ballot : Ballot) (slot : ℕ) (commands : List Command) (store : Store) → IsWithinPromise store → IsWithinPromise (accepted_run ballot slot commands store)
