-- What holds of what a learner counts and knows where a node's answer for a command run comes.
use Rattle.std.specs.Prelude.{◌≡◌, ℕ, ◌+◌, ◌<◌, ◌≤◌, ◌↔◌, Bool, true, if◌then◌else◌, List, [], ◌∷◌, ◌++◌, length, slice_get, Option, Some, Ok, IsOk}
use Rattle.paxos_wire.specs.declared.limits.TheConstants.{WINDOW}
use Rattle.paxos_wire.specs.declared.ballot.Ballot.{Ballot}
use Rattle.slot_log.specs.declared.command.Command.{Command}
use Rattle.slot_log.specs.Slots.{Log, IsLog}
use Rattle.protocol_model.specs.Sets.{In}
use Rattle.protocol_model.specs.Messages.{Message, Accepted}
use Rattle.protocol_model.specs.Frames.{answers}
use Rattle.protocol_model.specs.Quorums.{IsChosenIn}
use Rattle.learner.specs.Learning.{Learned, is_open, answer_to, hearing}
use Rattle.learner.specs.CommandRuns.{hearing_run, answer_to_run}
use Rattle.learner.specs.Counted.{CountsFrom, CountsAll, KnowsChosen}

-- the answers for those of its slots that are open
abbrev pub open_answers : Log → ℕ → Ballot → ℕ → List Command → List Message
open_answers log from ballot slot [] = []
open_answers log from ballot slot (command ∷ more) =
    if is_open log slot then Accepted from ballot slot command ∷ open_answers log from ballot (slot + 1) more else open_answers log from ballot (slot + 1) more

-- ---- when it is refused

-- it is refused exactly where the answer for one of its slots would be
abbrev pub RefusedByOne : Type 0
RefusedByOne =
    (l : Learned) (from : ℕ) (ballot : Ballot) (slot : ℕ) (commands : List Command)
    → IsOk (answer_to_run l from ballot slot commands)
    ↔ ((place : ℕ) (command : Command) → slice_get commands place ≡ Some command → IsOk (answer_to l from ballot (slot + place) command))

-- and then nothing changes
abbrev pub RefusedIsUnchanged : Type 0
RefusedIsUnchanged =
    (l : Learned) (from : ℕ) (ballot : Ballot) (slot : ℕ) (commands : List Command)
    → ¬ IsOk (answer_to_run l from ballot slot commands) → hearing_run l from ballot slot commands ≡ l

-- one of one command is an answer for its slot
abbrev pub OneIsAnAnswer : Type 0
OneIsAnAnswer =
    (l : Learned) (from : ℕ) (ballot : Ballot) (slot : ℕ) (command : Command)
    → hearing_run l from ballot slot (command ∷ []) ≡ hearing l from ballot slot command

-- ---- what is counted

-- nothing is counted but what came
abbrev pub CommandRunCounts : Type 0
CommandRunCounts =
    (messages : List Message) (l : Learned) (from : ℕ) (ballot : Ballot) (slot : ℕ) (commands : List Command)
    → ((message : Message) → In message (answers from ballot slot commands) → In message messages)
    → CountsFrom messages l → CountsFrom messages (hearing_run l from ballot slot commands)

-- and what came while its slot was open is counted, unless all was refused
abbrev pub CommandRunCountsAll : Type 0
CommandRunCountsAll =
    (came : List Message) (l : Learned) (from : ℕ) (ballot : Ballot) (slot : ℕ) (commands : List Command)
    → IsLog l.log → from < l.nodes → length commands ≤ WINDOW → IsOk (answer_to_run l from ballot slot commands)
    → CountsAll came l → CountsAll (open_answers l.log from ballot slot commands ++ came) (hearing_run l from ballot slot commands)

-- the count of nodes stays
abbrev pub CommandRunNodesStay : Type 0
CommandRunNodesStay =
    (l : Learned) (from : ℕ) (ballot : Ballot) (slot : ℕ) (commands : List Command) → (hearing_run l from ballot slot commands).nodes ≡ l.nodes

-- ---- what is chosen

-- a command of which it is told that it was chosen is chosen at its slot
abbrev pub ToldIsChosen : Type 0
ToldIsChosen =
    (messages : List Message) (l : Learned) (from : ℕ) (ballot : Ballot) (slot : ℕ) (commands : List Command) (told : List Bool) (place : ℕ) (command : Command)
    → CountsFrom messages l → ((message : Message) → In message (answers from ballot slot commands) → In message messages)
    → answer_to_run l from ballot slot commands ≡ Ok told → slice_get commands place ≡ Some command → slice_get told place ≡ Some true
    → IsChosenIn l.nodes messages ballot (slot + place) command

-- what a quorum of the answers that came chose is known from then on, unless all was refused
abbrev pub CommandRunsAreKnown : Type 0
CommandRunsAreKnown =
    (came : List Message) (l : Learned) (from : ℕ) (ballot : Ballot) (slot : ℕ) (commands : List Command)
    → IsLog l.log → from < l.nodes → length commands ≤ WINDOW → IsOk (answer_to_run l from ballot slot commands)
    → CountsFrom came l → CountsAll came l → KnowsChosen came l
    → KnowsChosen (open_answers l.log from ballot slot commands ++ came) (hearing_run l from ballot slot commands)
