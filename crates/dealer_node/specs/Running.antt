-- What runs at a node, as the rules see it.
use Rattle.std.specs.Prelude.{◌≡◌, ℕ, ◌+◌, ◌-◌, ◌*◌, ◌^◌, ◌≤◌, ◌==◌, ◌||◌, Bool, true, nat_le, if◌then◌else◌, length, List, ◌++◌, Option, Some, None, IfSome, Result, Ok, Err}
use Rattle.std.specs.List.{AllByRecursion}
use Rattle.paxos_wire.specs.declared.limits.TheConstants.{SLOTS}
use Rattle.paxos_wire.specs.declared.ballot.Ballot.{Ballot}
use Rattle.paxos_wire.specs.declared.message.Message.{Message}
use Rattle.paxos_wire.specs.declared.message.Message.TheVariants.{Prepare, Promise, Refuse, Accept, Accepted, Chosen, Ask, Forward}
use Rattle.paxos_wire.specs.Fits.{IsBallot, IsEntry, IsInRange}
use Rattle.slot_log.specs.Slots.{Log, front, known_at}
use Rattle.slot_log.specs.declared.command.Command.{Command}
use Rattle.proposer.specs.declared.accept_run.AcceptRun.{AcceptRun}
use Rattle.proposer.specs.declared.campaign.Campaign.{Campaign}
use Rattle.proposer.specs.Campaigns.{Proposing, leads, promise_by, counting}
use Rattle.proposer.specs.CommandRuns.{most_commands, IsBounded}
use Rattle.node_rules.specs.Standings.{Place, Standing, applied}
use Rattle.node_rules.specs.Turns.{Turn, Refusal, Conflict, still}
use Rattle.learner.specs.Learning.{Learning, answer_to_chosen, believing}
use Rattle.node_rules.specs.Learning.{learning}
use Rattle.node_rules.specs.Proposing.{higher, proposing, closing}
use Rattle.node_rules.specs.Seats.{session_at, HearsPiece}
use Rattle.dealer_node.specs.declared.made.Made.{Made}
use Rattle.dealer_node.specs.declared.running.Running.{Running}
use Rattle.dealer_node.specs.Members.{Membership, place_at}
use Rattle.dealer_node.specs.Outs.{Told, both_told}
use Rattle.dealer_node.specs.Rooms.{Grows}
use Rattle.dealer_node.specs.Turned.{told_of}
use Rattle.dealer_node.specs.Fitting.{AreMessages}
use Rattle.dealer_node.specs.Scenes.{IsTableOf}

-- ---- what it is seen as

-- all but the store stands as the standing says
pub record IsRunning (member : Membership) (running : Running) (s : Standing) : Type 0 where
  pub up : s.up ≡ true
  pub campaign : running.proposer.campaign ≡ s.campaign
  pub learned : running.learner.learned ≡ s.learned
  pub hands : IsTableOf member.setting (applied s) running.table
  pub waits : running.pending ≡ s.pending
  pub greatest : running.seen ≡ s.seen
  pub sessions : running.seats.talks ≡ s.sessions

-- what runs and what was made behind other things are those of a turn, whose messages have frames
pub record IsTaken (member : Membership) (running : Running) (earlier later : Told) (turn : Turn) : Type 0 where
  pub runs : IsRunning member running turn.after
  pub told : later ≡ both_told earlier (told_of turn)
  pub fits : AreMessages turn.frames

-- the outcome of a rule is a turn, and that was taken
pub record TakesTurn (member : Membership) (running : Running) (earlier later : Told) (outcome : Result Turn Refusal) : Type 0 where
  pub turn : Turn
  pub rule : outcome ≡ Ok turn
  pub taken : IsTaken member running earlier later turn

-- whatever it is seen as, the turn of the rule was taken, by which nothing changes of what runs
abbrev pub TakesBeside : (Standing → Turn) → Running → Told → Told → Type 0
TakesBeside rule running earlier later = (member : Membership) (s : Standing) → IsRunning member running s → IsTaken member running earlier later (rule s)

-- whatever it is seen as, the outcome of the rule is a turn, and that was taken
abbrev pub TakesRule : Membership → (Standing → Result Turn Refusal) → Running → Running → Told → Told → Type 0
TakesRule member rule old new earlier later = (s : Standing) → IsRunning member old s → TakesTurn member new earlier later (rule s)

-- whatever it is seen as, by the rule another command is known at a slot
abbrev pub ClashesBy : Membership → (Standing → Result Turn Refusal) → Running → Type 0
ClashesBy member rule old = (s : Standing) → IsRunning member old s → rule s ≡ Err (Conflict s.store)

-- a node's word that a command was chosen at a slot is taken, and what the front then passes is applied
abbrev pub learning_chosen : Place → ℕ → Command → Standing → Result Turn Refusal
learning_chosen place slot command s = learning place (answer_to_chosen s.learned.log slot command) (believing s.learned slot command) s

-- a turn of a piece of a seat's bytes was taken
pub record TakesPiece (member : Membership) (running : Running) (earlier later : Told) (seat : ℕ) (piece : List ℕ) (s : Standing) : Type 0 where
  pub turn : Turn
  pub rule : HearsPiece (place_at member) seat piece (session_at s.sessions seat) s turn
  pub taken : IsTaken member running earlier later turn
  -- which changes the sessions and the act that waits, and nothing else
  pub rest : turn.after ≡ record s { sessions = running.seats.talks; pending = running.pending }

-- ---- the close

-- what is left of the close of a call, once this was proposed, or nothing
abbrev pub proposed_by : Place → Option AcceptRun → Standing → Result Turn Refusal
proposed_by place None s = Ok (still s)
proposed_by place (Some made) s = proposing place made s

-- the close comes to proposing this; its campaign alone may have changed
pub record Closes (member : Membership) (running : Running) (s : Standing) (made : Option AcceptRun) : Type 0 where
  pub marked : Standing
  pub runs : IsRunning member running marked
  pub rule : closing (place_at member) s ≡ proposed_by (place_at member) made marked
  pub rest : marked ≡ record s { campaign = marked.campaign }
  -- and it proposes in no other ballot than the one that it leads
  pub stands : (ballot : Ballot) → IfSome s.campaign (λ campaign. campaign.ballot ≡ ballot) → IfSome marked.campaign (λ campaign. campaign.ballot ≡ ballot)
  pub own : (ballot : Ballot) → IfSome s.campaign (λ campaign. campaign.ballot ≡ ballot) → IfSome made (λ run. run.ballot ≡ ballot)

-- how many commands the close of a call proposes at most: one, but where a quorum has promised and commands are told that weren't proposed yet
abbrev pub most_proposed : Proposing → ℕ
most_proposed p = if leads p.nodes p.campaign then most_commands p 0 else 1

-- and behind a message: a promise may make a quorum, and tells of its entries
abbrev pub most_proposed_behind : Proposing → Message → ℕ
most_proposed_behind p (Prepare ballot slot) = most_proposed p
most_proposed_behind p (Promise ballot slot entries) = most_commands p (length entries)
most_proposed_behind p (Refuse ballot slot promised) = most_proposed p
most_proposed_behind p (Accept ballot slot commands) = most_proposed p
most_proposed_behind p (Accepted ballot slot commands) = most_proposed p
most_proposed_behind p (Chosen slot command) = most_proposed p
most_proposed_behind p (Ask slot) = most_proposed p
most_proposed_behind p (Forward command) = most_proposed p

-- it proposes no more than so many behind a message, of a promise once that was counted, or passed over
abbrev pub IsBoundedBehind : Proposing → Message → ℕ → Type 0
IsBoundedBehind p (Prepare ballot slot) most = IsBounded p most
IsBoundedBehind p (Promise ballot slot entries) most = (from : ℕ) → IsBounded (counting p from ballot slot entries) most
IsBoundedBehind p (Refuse ballot slot promised) most = IsBounded p most
IsBoundedBehind p (Accept ballot slot commands) most = IsBounded p most
IsBoundedBehind p (Accepted ballot slot commands) most = IsBounded p most
IsBoundedBehind p (Chosen slot command) most = IsBounded p most
IsBoundedBehind p (Ask slot) most = IsBounded p most
IsBoundedBehind p (Forward command) most = IsBounded p most

-- no round is above those seen, or no slot is left
abbrev pub is_spent_at : Running → Ballot → Bool
is_spent_at running promised = (higher running.seen promised).round == 2 ^ 32 - 1 || nat_le SLOTS (front running.learner.learned.log)

-- ---- what holds of all that runs

-- the ballot is one, and what its promises tell has its numbers within their ranges
pub record IsCampaign (campaign : Campaign) : Type 0 where
  pub ballot : IsBallot campaign.ballot
  pub told : (node : ℕ) → IfSome (promise_by campaign node) (λ entries. AllByRecursion IsEntry entries)

-- the numbers of all commands that are known are within their ranges
abbrev pub AreInRange : Log → Type 0
AreInRange log = (slot : ℕ) (command : Command) → known_at log slot ≡ Some command → IsInRange command

-- the log went on: what lay below its front does still, and so many commands more are known at most
pub record GoesOn (old new : Log) (commands : ℕ) : Type 0 where
  pub later : List Command
  pub below : new.below ≡ later ++ old.below
  pub fronts : front old ≤ front new
  pub count : front new + length new.beyond ≤ front old + length old.beyond + commands

-- no more answers were counted than these, with no more commands in all; the log went on, and all that it knows has its numbers within their ranges
pub record HearsUpTo (answers commands : ℕ) (old new : Learning) : Type 0 where
  pub nodes : new.learned.nodes ≡ old.learned.nodes
  pub counted : old.answers ≤ new.answers + answers
  pub known : old.commands ≤ new.commands + commands
  pub goes_on : GoesOn old.learned.log new.learned.log commands
  pub in_range : AreInRange new.learned.log

-- it runs at this member, and all that it may send has its numbers within their ranges
pub record IsAt (member : Membership) (running : Running) : Type 0 where
  pub node : running.proposer.node ≡ member.node
  pub nodes : running.proposer.nodes ≡ member.nodes
  pub counted : running.learner.learned.nodes ≡ member.nodes
  pub game : running.table.game ≡ member.setting.game
  pub count : running.table.count ≡ member.setting.title.hands
  pub seats : length running.seats.talks ≡ member.setting.game.players
  pub ballots : IfSome running.proposer.campaign (λ campaign. IsCampaign campaign)
  pub commands : AreInRange running.learner.learned.log
  pub act : IfSome running.pending (λ command. IsInRange command)

-- ---- room

-- how many commands are known beyond the front
abbrev pub ahead_of : Running → ℕ
ahead_of running = length running.learner.learned.log.beyond

-- how many commands from this slot on the front has passed
abbrev pub passed_from : Running → ℕ → ℕ
passed_from running slot = front running.learner.learned.log - slot

-- there is room to count so many answers more, which have so many commands in all, and to apply these and all that are known beyond the front
pub record CanLearn (running : Running) (made : Made) (answers commands : ℕ) : Type 0 where
  pub counted : answers ≤ running.learner.answers
  pub known : commands ≤ running.learner.commands
  pub table : ahead_of running + commands ≤ running.table.room
  pub texts : 11 * (ahead_of running + commands) ≤ made.shown.text_room
  pub bytes : 45716 * (ahead_of running + commands) ≤ made.shown.byte_room

-- one answer at most was counted, so many commands more were learned at most, and those that were applied are no longer known beyond the front
pub record Learns (commands : ℕ) (old new : Running) (earlier later : Made) : Type 0 where
  pub counted : old.learner.answers ≤ new.learner.answers + 1
  pub known : old.learner.commands ≤ new.learner.commands + commands
  pub ahead : ahead_of new ≤ ahead_of old + commands
  pub table : old.table.room + ahead_of new ≤ new.table.room + ahead_of old + commands
  pub shown : Grows earlier.shown later.shown (11 * (ahead_of old + commands - ahead_of new)) (45716 * (ahead_of old + commands - ahead_of new))
