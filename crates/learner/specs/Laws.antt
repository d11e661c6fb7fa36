-- What holds of what a learner counts and knows.
use Rattle.std.specs.Prelude.{◌≡◌, ℕ, ◌<◌, ◌≤◌, ◌↔◌, true, List, [], ◌∷◌, IsOk}
use Rattle.paxos_wire.specs.declared.limits.TheConstants.{NODES}
use Rattle.paxos_wire.specs.declared.ballot.Ballot.{Ballot}
use Rattle.slot_log.specs.declared.command.Command.{Command}
use Rattle.slot_log.specs.Slots.{IsLog}
use Rattle.protocol_model.specs.Sets.{In}
use Rattle.protocol_model.specs.Messages.{Message, Accepted}
use Rattle.protocol_model.specs.Quorums.{IsChosenIn}
use Rattle.learner.specs.Same.{is_same}
use Rattle.learner.specs.Learning.{Learned, new_learned, completes, answer_to, hearing, believing}
use Rattle.learner.specs.Counted.{IsOpen, CountsFrom, CountsAll, KnowsChosen}

-- the test of two commands tells whether they are the same
abbrev pub SameIsEqual : Type 0
SameIsEqual = (first second : Command) → (is_same first second ≡ true) ↔ (first ≡ second)

-- an answer that completes a quorum shows that its command is chosen in its ballot
abbrev pub CompletedIsChosen : Type 0
CompletedIsChosen =
    (messages : List Message) (l : Learned) (from : ℕ) (ballot : Ballot) (slot : ℕ) (command : Command)
    → CountsFrom messages l → In (Accepted from ballot slot command) messages → IsOpen l.log slot
    → completes l from ballot slot command ≡ true → IsChosenIn l.nodes messages ballot slot command

-- an answer completes a quorum exactly where its command is chosen in its ballot with it, and wasn't without it
abbrev pub CompletesOnce : Type 0
CompletesOnce =
    (came : List Message) (l : Learned) (from : ℕ) (ballot : Ballot) (slot : ℕ) (command : Command)
    → CountsFrom came l → CountsAll came l → from < l.nodes → IsOpen l.log slot
    → (completes l from ballot slot command ≡ true)
    ↔ (IsChosenIn l.nodes (Accepted from ballot slot command ∷ came) ballot slot command × ¬ IsChosenIn l.nodes came ballot slot command)

-- ---- the premises are kept as messages come

-- nothing is counted at first
abbrev pub NewCounts : Type 0
NewCounts = (messages : List Message) (nodes : ℕ) → CountsFrom messages (new_learned nodes)

-- and nothing came
abbrev pub NewCountsAll : Type 0
NewCountsAll = (nodes : ℕ) → nodes ≤ NODES → CountsAll [] (new_learned nodes)

-- an answer that came is counted, or passed over
abbrev pub AnswerCounts : Type 0
AnswerCounts =
    (messages : List Message) (l : Learned) (from : ℕ) (ballot : Ballot) (slot : ℕ) (command : Command)
    → In (Accepted from ballot slot command) messages → CountsFrom messages l → CountsFrom messages (hearing l from ballot slot command)

-- one that came while its slot was open is counted, unless it was refused
abbrev pub AnswerCountsAll : Type 0
AnswerCountsAll =
    (came : List Message) (l : Learned) (from : ℕ) (ballot : Ballot) (slot : ℕ) (command : Command)
    → from < l.nodes → IsOpen l.log slot → IsOk (answer_to l from ballot slot command)
    → CountsAll came l → CountsAll (Accepted from ballot slot command ∷ came) (hearing l from ballot slot command)

-- one for a slot that isn't open, and one that is refused, change nothing
abbrev pub OthersArePassedOver : Type 0
OthersArePassedOver =
    (l : Learned) (from : ℕ) (ballot : Ballot) (slot : ℕ) (command : Command)
    → (IsOpen l.log slot → ¬ IsOk (answer_to l from ballot slot command)) → hearing l from ballot slot command ≡ l

-- a Chosen that came lets nothing be counted that didn't come, and leaves nothing out
abbrev pub ChosenCounts : Type 0
ChosenCounts =
    (messages : List Message) (l : Learned) (slot : ℕ) (command : Command) → CountsFrom messages l → CountsFrom messages (believing l slot command)

-- and leaves nothing out that came
abbrev pub ChosenCountsAll : Type 0
ChosenCountsAll =
    (came : List Message) (l : Learned) (slot : ℕ) (command : Command) → CountsAll came l → CountsAll came (believing l slot command)

-- another message that came changes nothing
abbrev pub MoreMessages : Type 0
MoreMessages = (messages : List Message) (l : Learned) (message : Message) → CountsFrom messages l → CountsFrom (message ∷ messages) l

-- ---- what was chosen is known

-- nothing is chosen at first
abbrev pub NewKnows : Type 0
NewKnows = (nodes : ℕ) → KnowsChosen [] (new_learned nodes)

-- what an answer completes is known from then on, unless it was refused
abbrev pub AnswersAreKnown : Type 0
AnswersAreKnown =
    (came : List Message) (l : Learned) (from : ℕ) (ballot : Ballot) (slot : ℕ) (command : Command)
    → IsLog l.log → IsOpen l.log slot → from < l.nodes → IsOk (answer_to l from ballot slot command)
    → CountsFrom came l → CountsAll came l → KnowsChosen came l → KnowsChosen (Accepted from ballot slot command ∷ came) (hearing l from ballot slot command)

-- and what a Chosen tells is, at an open slot
abbrev pub ChosenAreKnown : Type 0
ChosenAreKnown =
    (came : List Message) (l : Learned) (slot : ℕ) (command : Command)
    → IsLog l.log → KnowsChosen came l → KnowsChosen came (believing l slot command)

-- the count of nodes stays
abbrev pub NodesStay : Type 0
NodesStay =
    (l : Learned) (from : ℕ) (ballot : Ballot) (slot : ℕ) (command : Command)
    → ((hearing l from ballot slot command).nodes ≡ l.nodes) × ((believing l slot command).nodes ≡ l.nodes)
