-- Each word that stands for several clauses says these and no more: it is made of them, and they follow from it.
use Rattle.std.proofs.Common.{◌≡◌, ◌≢◌, ℕ, ◌+◌, ◌*◌, ◌≤◌, ◌<◌, IsTrue}
use Rattle.std.specs.Prelude.{Result, Ok, vec_len, vec_capacity}
use Rattle.paxos_wire.specs.declared.limits.TheConstants.{MOST_SINGLE_FRAME}
use Rattle.paxos_wire.specs.declared.message.Message.{Message}
use Rattle.promise_store.specs.declared.disk.Disk.{Ghosts}
use Rattle.promise_store.specs.declared.fault.StoreFault.{StoreFault}
use Rattle.promise_store.specs.declared.fault.StoreFault.TheVariants.{Disk}
use Rattle.promise_store.specs.Settled.{OnlyReads}
use Rattle.promise_store.specs.Refusals.{Refuses}
use Rattle.slot_log.specs.Hand.{Match}
use Rattle.seat_session.specs.declared.said.Said.{Said}
use Rattle.seat_session.specs.declared.said.Said.TheVariants.{Ready}
use Rattle.seat_session.specs.declared.session_fault.SessionFault.{SessionFault}
use Rattle.learner.specs.Learning.{Learning}
use Rattle.proposer.specs.CommandRuns.{IsBounded}
use Rattle.dealer_kind.specs.Kind.{Setting}
use Rattle.dealer_node.specs.declared.limits.TheConstants.{ANSWERS_OF_A_CALL, FRAMES_OF_A_CLOSE}
use Rattle.dealer_node.specs.declared.up.Up.{Up}
use Rattle.dealer_node.specs.declared.made.Made.{Made}
use Rattle.dealer_node.specs.declared.made.Need.{Need}
use Rattle.dealer_node.specs.declared.fault.NodeFault.{NodeFault}
use Rattle.dealer_node.specs.declared.fault.NodeFault.TheVariants as fault
use Rattle.dealer_node.specs.Texts.{Written}
use Rattle.dealer_node.specs.Members.{Membership}
use Rattle.dealer_node.specs.Rooms.{HasSpace, Grows, Tells, Makes, piece_need}
use Rattle.dealer_node.specs.Scenes.{IsTableAt}
use Rattle.dealer_node.specs.Hearing.{IsSeatOf, HasAnswerRoom, MakesAnswer}
use Rattle.dealer_node.specs.declared.running.Running.{Running}
use Rattle.dealer_node.specs.Running.{ahead_of, AreInRange, GoesOn, HearsUpTo, CanLearn, IsBoundedBehind}
use Rattle.dealer_node.specs.Working as part
use Rattle.dealer_node.specs.Working.{head_of, store_room, IsOfPart, EndsPart, HasCloseRoom}
use Rattle.dealer_node.specs.Calling.{commands_in, frame_need, HasCallRoom, ChangesRoomAlone, CanClose, CanTake}
use Rattle.dealer_node.specs.Starting.{GoesOnNew, MarksJournal}
use Rattle.dealer_node.specs.Taking.{IsOfStart}
use Rattle.dealer_node.specs.Opening.{MarksDisk, RefusesDisk}

-- ---- room, and what is made

space_of : {T : Type 0} (written : Written T) (texts bytes : ℕ) → (texts ≤ written.text_room) × (bytes ≤ written.byte_room) → HasSpace written texts bytes
space_of written texts bytes (t, b) = record { text_room = t; byte_room = b }

in_space : {T : Type 0} (written : Written T) (texts bytes : ℕ) → HasSpace written texts bytes → (texts ≤ written.text_room) × (bytes ≤ written.byte_room)
in_space written texts bytes has = (has.text_room, has.byte_room)

abbrev Made_by : Made → Made → Need → Type 0
Made_by old new need = Grows old.frames new.frames need.frames need.frame_bytes × (Grows old.shown new.shown need.texts need.text_bytes × Tells old new need.faults)

makes_of : (old new : Made) (need : Need) → Made_by old new need → Makes old new need
makes_of old new need (frames, (shown, faults)) = record { frames = frames; shown = shown; faults = faults }

in_makes : (old new : Made) (need : Need) → Makes old new need → Made_by old new need
in_makes old new need makes = (makes.frames, (makes.shown, makes.faults))

-- ---- a table, and a seat's answer

table_of : (setting : Setting) (sessions : ℕ) (table : Match) → (table.game ≡ setting.game) × ((table.count ≡ setting.title.hands) × (sessions ≡ setting.game.players)) → IsTableAt setting sessions table
table_of setting sessions table (game, (count, seats)) = record { game = game; count = count; seats = seats }

in_table : (setting : Setting) (sessions : ℕ) (table : Match) → IsTableAt setting sessions table → (table.game ≡ setting.game) × ((table.count ≡ setting.title.hands) × (sessions ≡ setting.game.players))
in_table setting sessions table is = (is.game, (is.count, is.seats))

seat_of : (setting : Setting) (table : Match) (seat : ℕ) → (table.game ≡ setting.game) × (seat < table.game.players) → IsSeatOf setting table seat
seat_of setting table seat (game, within) = record { game = game; within = within }

in_seat : (setting : Setting) (table : Match) (seat : ℕ) → IsSeatOf setting table seat → (table.game ≡ setting.game) × (seat < table.game.players)
in_seat setting table seat is = (is.game, is.within)

abbrev Answer : Type 0
Answer = Result Said SessionFault

abbrev Room_for : Answer → Made → Type 0
Room_for said made =
    (1 ≤ made.frames.text_room)
    × ((MOST_SINGLE_FRAME ≤ made.frames.byte_room)
    × ((said ≡ Ok Ready → 1 ≤ made.shown.text_room)
    × ((said ≡ Ok Ready → 4096 ≤ made.shown.byte_room)
    × (vec_len made.faults < vec_capacity made.faults))))

answer_room : (said : Answer) (made : Made) → Room_for said made → HasAnswerRoom said made
answer_room said made (frames, (frame_bytes, (texts, (text_bytes, faults)))) = record { frames = frames; frame_bytes = frame_bytes; texts = texts; text_bytes = text_bytes; faults = faults }

in_answer_room : (said : Answer) (made : Made) → HasAnswerRoom said made → Room_for said made
in_answer_room said made has = (has.frames, (has.frame_bytes, (has.texts, (has.text_bytes, has.faults))))

answer_makes : (said : Answer) (old new : Made) → Makes old new (piece_need 1) × ((said ≡ Ok Ready → ⊥) → new.shown ≡ old.shown) → MakesAnswer said old new
answer_makes said old new (makes, still) = record { makes = makes; still = still }

in_answer_makes : (said : Answer) (old new : Made) → MakesAnswer said old new → Makes old new (piece_need 1) × ((said ≡ Ok Ready → ⊥) → new.shown ≡ old.shown)
in_answer_makes said old new answers = (answers.makes, answers.still)

-- ---- what a learner heard

abbrev Heard_up_to : ℕ → ℕ → Learning → Learning → Type 0
Heard_up_to answers commands old new =
    (new.learned.nodes ≡ old.learned.nodes)
    × ((old.answers ≤ new.answers + answers) × ((old.commands ≤ new.commands + commands) × (GoesOn old.learned.log new.learned.log commands × AreInRange new.learned.log)))

hears_of : (answers commands : ℕ) (old new : Learning) → Heard_up_to answers commands old new → HearsUpTo answers commands old new
hears_of answers commands old new (nodes, (counted, (known, (goes_on, in_range)))) = record { nodes = nodes; counted = counted; known = known; goes_on = goes_on; in_range = in_range }

in_hears : (answers commands : ℕ) (old new : Learning) → HearsUpTo answers commands old new → Heard_up_to answers commands old new
in_hears answers commands old new hears = (hears.nodes, (hears.counted, (hears.known, (hears.goes_on, hears.in_range))))

-- ---- the close of a call

module _ {D : Type 0} where
  abbrev Closing : Up D → Made → ℕ → Type 0
  Closing up made most =
      IsBounded up.running.proposer most
      × ((most ≤ store_room up)
      × (CanLearn up.running made 1 most
      × ((FRAMES_OF_A_CLOSE * most ≤ made.frames.text_room) × (MOST_SINGLE_FRAME * (FRAMES_OF_A_CLOSE * most) ≤ made.frames.byte_room))))

  close_room_of : (up : Up D) (made : Made) (most : ℕ) → Closing up made most → HasCloseRoom up made most
  close_room_of up made most (bounded, (store, (learn, (texts, bytes)))) = record { bounded = bounded; store = store; learn = learn; texts = texts; bytes = bytes }

  in_close_room : (up : Up D) (made : Made) (most : ℕ) → HasCloseRoom up made most → Closing up made most
  in_close_room up made most has = (has.bounded, (has.store, (has.learn, (has.texts, has.bytes))))

  can_close : (up : Up D) (made : Made) (need : ℕ → Need) (most : ℕ) → (1 ≤ most) × (IsBounded up.running.proposer most × HasCallRoom up made (need most) 1 most) → CanClose up made need most
  can_close up made need most (some, (bounded, room)) = record { some = some; bounded = bounded; room = room }

  in_can_close : (up : Up D) (made : Made) (need : ℕ → Need) (most : ℕ) → CanClose up made need most → (1 ≤ most) × (IsBounded up.running.proposer most × HasCallRoom up made (need most) 1 most)
  in_can_close up made need most can = (can.some, (can.bounded, can.room))

  abbrev Taken : Up D → Made → Message → ℕ → Type 0
  Taken up made message most =
      IsBoundedBehind up.running.proposer message most
      × HasCallRoom up made (frame_need up.running (commands_in message) most) ANSWERS_OF_A_CALL (commands_in message + most)

  can_take : (up : Up D) (made : Made) (message : Message) (most : ℕ) → Taken up made message most → CanTake up made message most
  can_take up made message most (bounded, room) = record { bounded = bounded; room = room }

  in_can_take : (up : Up D) (made : Made) (message : Message) (most : ℕ) → CanTake up made message most → Taken up made message most
  in_can_take up made message most can = (can.bounded, can.room)

abbrev Room_alone : Running → Running → Type 0
Room_alone old new = (new.seats ≡ old.seats) × ((ahead_of new ≡ ahead_of old) × ((new.learner.learned ≡ old.learner.learned) × ((new.seen ≡ old.seen) × (new.proposer ≡ old.proposer))))

alone_of : (old new : Running) → Room_alone old new → ChangesRoomAlone old new
alone_of old new (seats, (ahead, (learned, (seen, proposer)))) = record { seats = seats; ahead = ahead; learned = learned; seen = seen; proposer = proposer }

in_alone : (old new : Running) → ChangesRoomAlone old new → Room_alone old new
in_alone old new alone = (alone.seats, (alone.ahead, (alone.learned, (alone.seen, alone.proposer))))

-- ---- the end of a part, and a disk that was opened

module _ {D : Type 0} (g : Ghosts D) where
  ends_of : (before after : Up D) (answer : Result (Unit {0}) NodeFault) → part.GoesOn g before after answer × IsOfPart answer → EndsPart g before after answer
  ends_of before after answer (goes_on, only) = record { goes_on = goes_on; only = only }

  in_ends : (before after : Up D) (answer : Result (Unit {0}) NodeFault) → EndsPart g before after answer → part.GoesOn g before after answer × IsOfPart answer
  in_ends before after answer ends = (ends.goes_on, ends.only)

  abbrev Opened : Membership → D → D → Type 0
  Opened member before after =
      (IsTrue g.is_honest → MarksJournal (head_of member) (g.seen before) (g.seen after))
      × (IsTrue g.is_honest → GoesOnNew (head_of member) (g.seen before) → OnlyReads g before after)

  marks_of : (member : Membership) (before after : D) → Opened member before after → MarksDisk g member before after
  marks_of member before after (marks, quiet) = record { marks = marks; quiet = quiet }

  in_marks : (member : Membership) (before after : D) → MarksDisk g member before after → Opened member before after
  in_marks member before after opens = (opens.marks, opens.quiet)

  abbrev Refused : Membership → D → D → NodeFault → Type 0
  Refused member before after why =
      IsOfStart why
      × ((IsTrue g.is_honest → (found : StoreFault) → why ≡ fault.Store found → Refuses (head_of member) (g.seen before) found)
      × ((why ≢ fault.Store Disk → OnlyReads g before after)
      × (IsTrue g.is_honest → GoesOnNew (head_of member) (g.seen before) → OnlyReads g before after)))

  refuses_of : (member : Membership) (before after : D) (why : NodeFault) → Refused member before after why → RefusesDisk g member before after why
  refuses_of member before after why (of_start, (finds, (unwritten, quiet))) = record { of_start = of_start; finds = finds; unwritten = unwritten; quiet = quiet }

  in_refuses : (member : Membership) (before after : D) (why : NodeFault) → RefusesDisk g member before after why → Refused member before after why
  in_refuses member before after why refuses = (refuses.of_start, (refuses.finds, (refuses.unwritten, refuses.quiet)))
