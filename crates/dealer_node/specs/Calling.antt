-- What a whole call needs and makes of a node that runs.
use Rattle.std.specs.Prelude.{◌≡◌, ◌⊎◌, ℕ, ◌+◌, ◌*◌, ◌≤◌, length, Result, Err}
use Rattle.paxos_wire.specs.declared.limits.TheConstants.{MOST_SINGLE_FRAME}
use Rattle.paxos_wire.specs.declared.message.Message.{Message}
use Rattle.paxos_wire.specs.declared.message.Message.TheVariants as message
use Rattle.promise_store.specs.declared.disk.Disk.{Ghosts}
use Rattle.proposer.specs.CommandRuns.{IsBounded}
use Rattle.node_rules.specs.Standings.{Standing}
use Rattle.node_rules.specs.Turns.{Turn, Refusal}
use Rattle.node_rules.specs.Calls.{Call}
use Rattle.node_rules.specs.Rules.{IsTurnUp}
use Rattle.dealer_node.specs.declared.limits.TheConstants.{FRAMES_TO_ALL, ANSWERS_OF_A_CALL, FRAMES_OF_A_CLOSE, FRAMES_OF_AN_ANSWER}
use Rattle.dealer_node.specs.declared.up.Up.{Up}
use Rattle.dealer_node.specs.declared.running.Running.{Running}
use Rattle.dealer_node.specs.declared.made.Made.{Made}
use Rattle.dealer_node.specs.declared.made.Need.{Need}
use Rattle.dealer_node.specs.declared.fault.NodeFault.{NodeFault}
use Rattle.dealer_node.specs.declared.fault.NodeFault.TheVariants as fault
use Rattle.dealer_node.specs.Outs.{Told, HasRoom}
use Rattle.dealer_node.specs.Members.{Membership, place_at}
use Rattle.dealer_node.specs.Running.{ahead_of, IsBoundedBehind}
use Rattle.dealer_node.specs.Working.{disk_under, store_room, IsUp}
use Rattle.dealer_node.specs.Handling.{Stays, Handles}

-- what a call makes at most that learns so many commands and sends so many frames
abbrev pub need_of : Running → ℕ → ℕ → Need
need_of running commands frames = record {
  frames = frames;
  frame_bytes = MOST_SINGLE_FRAME * frames;
  texts = 11 * (ahead_of running + commands);
  text_bytes = 45716 * (ahead_of running + commands);
  faults = 0;
}

-- what the close of a call makes at most that proposes so many commands
abbrev pub close_need : Running → ℕ → Need
close_need running most = need_of running most (FRAMES_OF_A_CLOSE * most)

-- what an order makes at most: a frame with which it goes on, and the close
abbrev pub away_need : Running → ℕ → Need
away_need running most = need_of running most (FRAMES_OF_A_CLOSE * most + 1)

-- and with a piece of a seat's bytes that is given fewer answers than these: a frame and a fault for each, the seat's line, and the close
abbrev pub line_need : Running → ℕ → ℕ → Need
line_need running limit most = record {
  frames = limit + FRAMES_OF_A_CLOSE * most;
  frame_bytes = MOST_SINGLE_FRAME * (limit + FRAMES_OF_A_CLOSE * most);
  texts = 1 + 11 * (ahead_of running + most);
  text_bytes = 4096 + 45716 * (ahead_of running + most);
  faults = limit;
}

-- how many commands a message has that may be voted for or learned: those that it asks to accept, or tells to be accepted, and else one
abbrev pub commands_in : Message → ℕ
commands_in (message.Prepare ballot slot) = 1
commands_in (message.Promise ballot slot entries) = 1
commands_in (message.Refuse ballot slot promised) = 1
commands_in (message.Accept ballot slot commands) = length commands
commands_in (message.Accepted ballot slot commands) = length commands
commands_in (message.Chosen slot command) = 1
commands_in (message.Ask slot) = 1
commands_in (message.Forward command) = 1

-- what a message of another node makes at most that has so many commands and behind which so many are proposed: what it is answered with, a vote
-- for each of its commands, what the close makes, and a question
abbrev pub frames_behind : ℕ → ℕ → ℕ
frames_behind commands most = FRAMES_OF_AN_ANSWER + FRAMES_TO_ALL * commands + FRAMES_OF_A_CLOSE * most + 1

abbrev pub frame_need : Running → ℕ → ℕ → Need
frame_need running commands most = need_of running (commands + most) (frames_behind commands most)

-- of what runs the room alone has changed: to count and to apply commands
pub record ChangesRoomAlone (old new : Running) : Type 0 where
  pub seats : new.seats ≡ old.seats
  pub ahead : ahead_of new ≡ ahead_of old
  pub learned : new.learner.learned ≡ old.learner.learned
  pub seen : new.seen ≡ old.seen
  pub proposer : new.proposer ≡ old.proposer

module _ {D : Type 0} where
  -- there is room for so much, to count so many answers with so many commands in all, and to store as many votes
  pub record HasCallRoom (up : Up D) (made : Made) (need : Need) (answers commands : ℕ) : Type 0 where
    pub shown : HasRoom made need
    pub counted : answers ≤ up.running.learner.answers
    pub known : commands ≤ up.running.learner.commands
    pub table : ahead_of up.running + commands ≤ up.running.table.room
    pub store : commands ≤ store_room up

  -- the close of a call proposes no more commands than so many, one at least, and there is room for all that the call needs by then
  pub record CanClose (up : Up D) (made : Made) (need : ℕ → Need) (most : ℕ) : Type 0 where
    pub some : 1 ≤ most
    pub bounded : IsBounded up.running.proposer most
    pub room : HasCallRoom up made (need most) 1 most

  -- behind this message the close proposes no more commands than so many, and there is room for all that a call with the message needs by then
  pub record CanTake (up : Up D) (made : Made) (message : Message) (most : ℕ) : Type 0 where
    pub bounded : IsBoundedBehind up.running.proposer message most
    pub room : HasCallRoom up made (frame_need up.running (commands_in message) most) ANSWERS_OF_A_CALL (commands_in message + most)

module _ {D : Type 0} (g : Ghosts D) where
  -- room alone has changed
  pub record Unmoved (before after : Up D) : Type 0 where
    pub up : (member : Membership) (s : Standing) → IsUp g member before s → IsUp g member after s
    pub disk : disk_under after ≡ disk_under before

  -- there was no memory
  pub record Wants (member : Membership) (s : Standing) (before after : Up D) (answer : Result (Unit {0}) NodeFault) : Type 0 where
    pub stays : Stays g member s before after
    pub memory : answer ≡ Err fault.OutOfMemory

  -- a call that found no memory, or whose outcome is by its rule
  abbrev pub HandlesCall : Membership → Standing → Call → Up D → Up D → Told → Told → Result (Unit {0}) NodeFault → Type 0
  HandlesCall member s called before after earlier later answer =
      Wants member s before after answer
      ⊎ ((outcome : Result Turn Refusal) × IsTurnUp (place_at member) s called outcome × Handles g member s outcome before after earlier later answer)
