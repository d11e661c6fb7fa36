-- No more is made than was needed.
use Rattle.std.proofs.Common.{◌≡◌, ℕ, ◌+◌, ◌*◌, arith, ap, sym, subst, length, vec_len}
use Rattle.paxos_wire.specs.declared.limits.TheConstants.{MOST_SINGLE_FRAME}
use Rattle.dealer_node.specs.declared.limits.TheConstants.{FRAMES_OF_A_CLOSE, ANSWERS_OF_A_CALL}
use Rattle.dealer_node.specs.declared.running.Running.{Running}
use Rattle.dealer_node.specs.declared.made.Made.{Made}
use Rattle.dealer_node.specs.declared.made.Need.{Need}
use Rattle.dealer_node.specs.declared.up.Up.{Up}
use Rattle.dealer_node.specs.Texts.{byte_total}
use Rattle.dealer_node.specs.Outs.{Told, told_by, nothing_told, HasRoom, HasRoomFor}
use Rattle.dealer_node.specs.Rooms.{Grows, Makes, piece_need}
use Rattle.proposer.specs.Campaigns.{Proposing}
use Rattle.proposer.specs.CommandRuns.{IsBounded}
use Rattle.dealer_node.specs.Running.{ahead_of, CanLearn}
use Rattle.dealer_node.specs.Working.{store_room, HasLeft, HasCloseRoom}
use Rattle.dealer_node.specs.Handling.{IsWithin}
use Rattle.dealer_node.specs.Calling.{need_of, close_need, away_need, line_need, frames_behind, frame_need, HasCallRoom, CanClose}

-- what is left was needed
pub left_within : (running : Running) (made : Made) (need : Need) → HasLeft running made need 0 0 0 → IsWithin made need
left_within running made need left = record {
  frames = omega (arith, left.frames_made);
  frame_bytes = omega (arith, left.bytes_made);
  texts = omega (arith, left.texts_shown);
  text_bytes = omega (arith, left.bytes_shown);
  faults = left.faults_told;
}

-- and so there is room for it where there is room for that
pub room_for : (out made : Made) (need : Need) → HasRoom out need → IsWithin made need → HasRoomFor out made
room_for out made need room within = record {
  frames = omega (arith, room.frames, within.frames);
  frame_bytes = omega (arith, room.frame_bytes, within.frame_bytes);
  texts = omega (arith, room.texts, within.texts);
  text_bytes = omega (arith, room.text_bytes, within.text_bytes);
  faults = omega (arith, room.faults, within.faults);
}

-- nothing is made at first
no_frames : (made : Made) → told_by made ≡ nothing_told → length made.frames.texts ≡ 0
no_frames made nothing = ap (λ (t : Told). length t.frames) nothing

no_bytes : (made : Made) → told_by made ≡ nothing_told → byte_total made.frames.texts ≡ 0
no_bytes made nothing = ap (λ (t : Told). byte_total t.frames) nothing

no_texts : (made : Made) → told_by made ≡ nothing_told → length made.shown.texts ≡ 0
no_texts made nothing = ap (λ (t : Told). length t.shown) nothing

no_text_bytes : (made : Made) → told_by made ≡ nothing_told → byte_total made.shown.texts ≡ 0
no_text_bytes made nothing = ap (λ (t : Told). byte_total t.shown) nothing

no_faults : (made : Made) → told_by made ≡ nothing_told → vec_len made.faults ≡ 0
no_faults made nothing = let none : length made.faults.items ≡ 0 = ap (λ (t : Told). length t.faults) nothing in omega (arith, none, made.faults.ok.0)

module _ {D : Type 0} where
  pub call_learn : (up : Up D) (made : Made) (answers commands frames : ℕ) → HasCallRoom up made (need_of up.running commands frames) answers commands → CanLearn up.running made answers commands
  call_learn up made answers commands frames room = record {
    counted = room.counted;
    known = room.known;
    table = room.table;
    texts = omega (arith, room.shown.texts);
    bytes = omega (arith, room.shown.text_bytes);
  }

  call_left : (up : Up D) (made : Made) (answers commands frames : ℕ) → told_by made ≡ nothing_told → HasCallRoom up made (need_of up.running commands frames) answers commands
      → HasLeft up.running made (need_of up.running commands frames) answers commands frames
  call_left up made answers commands frames nothing room = record {
    learn = call_learn up made answers commands frames room;
    texts = room.shown.frames;
    bytes = room.shown.frame_bytes;
    frames_made = omega (arith, no_frames made nothing);
    bytes_made = omega (arith, no_bytes made nothing);
    texts_shown = omega (arith, no_texts made nothing);
    bytes_shown = omega (arith, no_text_bytes made nothing);
    faults_told = omega (arith, no_faults made nothing);
  }

  pub close_left : (up : Up D) (made : Made) (most : ℕ) → told_by made ≡ nothing_told → HasCallRoom up made (close_need up.running most) 1 most
      → HasLeft up.running made (close_need up.running most) 1 most (FRAMES_OF_A_CLOSE * most)
  close_left up made most nothing room = call_left up made 1 most (FRAMES_OF_A_CLOSE * most) nothing room

  pub frame_left : (up : Up D) (made : Made) (commands most : ℕ) → told_by made ≡ nothing_told → HasCallRoom up made (frame_need up.running commands most) ANSWERS_OF_A_CALL (commands + most)
      → HasLeft up.running made (frame_need up.running commands most) ANSWERS_OF_A_CALL (commands + most) (frames_behind commands most)
  frame_left up made commands most nothing room = call_left up made ANSWERS_OF_A_CALL (commands + most) (frames_behind commands most) nothing room

  -- once what was ordered goes on
  pub away_left : (up after : Up D) (earlier later : Made) (most : ℕ) → told_by earlier ≡ nothing_told → HasCallRoom up earlier (away_need up.running most) 1 most
      → Grows earlier.frames later.frames 1 MOST_SINGLE_FRAME → later ≡ record earlier { frames = later.frames }
      → after ≡ record up { running = record up.running { pending = after.running.pending } }
      → HasLeft after.running later (away_need up.running most) 1 most (FRAMES_OF_A_CLOSE * most)
  away_left up after earlier later most nothing room frames others rest =
      let answers : after.running.learner.answers ≡ up.running.learner.answers = ap (λ (u : Up D). u.running.learner.answers) rest in
      let commands : after.running.learner.commands ≡ up.running.learner.commands = ap (λ (u : Up D). u.running.learner.commands) rest in
      let table : after.running.table.room ≡ up.running.table.room = ap (λ (u : Up D). u.running.table.room) rest in
      let ahead : ahead_of after.running ≡ ahead_of up.running = ap (λ (u : Up D). ahead_of u.running) rest in
      let text_room : later.shown.text_room ≡ earlier.shown.text_room = ap (λ (m : Made). m.shown.text_room) others in
      let byte_room : later.shown.byte_room ≡ earlier.shown.byte_room = ap (λ (m : Made). m.shown.byte_room) others in
      let texts : length later.shown.texts ≡ length earlier.shown.texts = ap (λ (m : Made). length m.shown.texts) others in
      let bytes : byte_total later.shown.texts ≡ byte_total earlier.shown.texts = ap (λ (m : Made). byte_total m.shown.texts) others in
      let faults : vec_len later.faults ≡ vec_len earlier.faults = ap (λ (m : Made). vec_len m.faults) others in
      record {
        learn = record {
          counted = omega (arith, answers, room.counted);
          known = omega (arith, commands, room.known);
          table = omega (arith, table, ahead, room.table);
          texts = omega (arith, ahead, room.shown.texts, text_room);
          bytes = omega (arith, ahead, room.shown.text_bytes, byte_room);
        };
        texts = omega (arith, room.shown.frames, frames.text_room);
        bytes = omega (arith, room.shown.frame_bytes, frames.byte_room);
        frames_made = omega (arith, no_frames earlier nothing, frames.len);
        bytes_made = omega (arith, no_bytes earlier nothing, frames.size);
        texts_shown = omega (arith, ahead, no_texts earlier nothing, texts);
        bytes_shown = omega (arith, ahead, no_text_bytes earlier nothing, bytes);
        faults_told = omega (arith, no_faults earlier nothing, faults);
      }

  -- once the piece was heard
  pub line_left : (up after : Up D) (earlier later : Made) (limit most : ℕ) → told_by earlier ≡ nothing_told → HasCallRoom up earlier (line_need up.running limit most) 1 most
      → Makes earlier later (piece_need limit)
      → after ≡ record up { running = record up.running { pending = after.running.pending; seats = after.running.seats } }
      → HasLeft after.running later (line_need up.running limit most) 1 most (FRAMES_OF_A_CLOSE * most)
  line_left up after earlier later limit most nothing room makes rest =
      let answers : after.running.learner.answers ≡ up.running.learner.answers = ap (λ (u : Up D). u.running.learner.answers) rest in
      let commands : after.running.learner.commands ≡ up.running.learner.commands = ap (λ (u : Up D). u.running.learner.commands) rest in
      let table : after.running.table.room ≡ up.running.table.room = ap (λ (u : Up D). u.running.table.room) rest in
      let ahead : ahead_of after.running ≡ ahead_of up.running = ap (λ (u : Up D). ahead_of u.running) rest in
      record {
        learn = record {
          counted = omega (arith, answers, room.counted);
          known = omega (arith, commands, room.known);
          table = omega (arith, table, ahead, room.table);
          texts = omega (arith, ahead, room.shown.texts, makes.shown.text_room);
          bytes = omega (arith, ahead, room.shown.text_bytes, makes.shown.byte_room);
        };
        texts = omega (arith, room.shown.frames, makes.frames.text_room);
        bytes = omega (arith, room.shown.frame_bytes, makes.frames.byte_room);
        frames_made = omega (arith, no_frames earlier nothing, makes.frames.len);
        bytes_made = omega (arith, no_bytes earlier nothing, makes.frames.size);
        texts_shown = omega (arith, ahead, no_texts earlier nothing, makes.shown.len);
        bytes_shown = omega (arith, ahead, no_text_bytes earlier nothing, makes.shown.size);
        faults_told = omega (arith, no_faults earlier nothing, makes.faults.len);
      }

  -- ---- the room of the close

  -- at once
  pub close_room : (up : Up D) (made : Made) (most : ℕ) → CanClose up made (close_need up.running) most → HasCloseRoom up made most
  close_room up made most can = record {
    bounded = can.bounded;
    store = can.room.store;
    learn = call_learn up made 1 most (FRAMES_OF_A_CLOSE * most) can.room;
    texts = can.room.shown.frames;
    bytes = can.room.shown.frame_bytes;
  }

  -- once what was ordered goes on
  pub away_room : (up after : Up D) (earlier later : Made) (most : ℕ) → CanClose up earlier (away_need up.running) most
      → Grows earlier.frames later.frames 1 MOST_SINGLE_FRAME → later ≡ record earlier { frames = later.frames }
      → after ≡ record up { running = record up.running { pending = after.running.pending } } → HasCloseRoom after later most
  away_room up after earlier later most can frames others rest =
      let learn = call_learn up earlier 1 most (FRAMES_OF_A_CLOSE * most + 1) can.room in
      let store : store_room after ≡ store_room up = ap store_room rest in
      let answers : after.running.learner.answers ≡ up.running.learner.answers = ap (λ (u : Up D). u.running.learner.answers) rest in
      let commands : after.running.learner.commands ≡ up.running.learner.commands = ap (λ (u : Up D). u.running.learner.commands) rest in
      let table : after.running.table.room ≡ up.running.table.room = ap (λ (u : Up D). u.running.table.room) rest in
      let ahead : ahead_of after.running ≡ ahead_of up.running = ap (λ (u : Up D). ahead_of u.running) rest in
      let text_room : later.shown.text_room ≡ earlier.shown.text_room = ap (λ (m : Made). m.shown.text_room) others in
      let byte_room : later.shown.byte_room ≡ earlier.shown.byte_room = ap (λ (m : Made). m.shown.byte_room) others in
      record {
        bounded = subst (λ (p : Proposing). IsBounded p most) (sym (ap (λ (u : Up D). u.running.proposer) rest)) can.bounded;
        store = omega (arith, store, can.room.store);
        learn = record {
          counted = omega (arith, answers, learn.counted);
          known = omega (arith, commands, learn.known);
          table = omega (arith, table, ahead, learn.table);
          texts = omega (arith, ahead, learn.texts, text_room);
          bytes = omega (arith, ahead, learn.bytes, byte_room);
        };
        texts = omega (arith, can.room.shown.frames, frames.text_room);
        bytes = omega (arith, can.room.shown.frame_bytes, frames.byte_room);
      }

  -- once the piece was heard
  pub line_room : (up after : Up D) (earlier later : Made) (limit most : ℕ) → CanClose up earlier (line_need up.running limit) most → Makes earlier later (piece_need limit)
      → after ≡ record up { running = record up.running { pending = after.running.pending; seats = after.running.seats } } → HasCloseRoom after later most
  line_room up after earlier later limit most can makes rest =
      let store : store_room after ≡ store_room up = ap store_room rest in
      let answers : after.running.learner.answers ≡ up.running.learner.answers = ap (λ (u : Up D). u.running.learner.answers) rest in
      let commands : after.running.learner.commands ≡ up.running.learner.commands = ap (λ (u : Up D). u.running.learner.commands) rest in
      let table : after.running.table.room ≡ up.running.table.room = ap (λ (u : Up D). u.running.table.room) rest in
      let ahead : ahead_of after.running ≡ ahead_of up.running = ap (λ (u : Up D). ahead_of u.running) rest in
      record {
        bounded = subst (λ (p : Proposing). IsBounded p most) (sym (ap (λ (u : Up D). u.running.proposer) rest)) can.bounded;
        store = omega (arith, store, can.room.store);
        learn = record {
          counted = omega (arith, answers, can.room.counted);
          known = omega (arith, commands, can.room.known);
          table = omega (arith, table, ahead, can.room.table);
          texts = omega (arith, ahead, can.room.shown.texts, makes.shown.text_room);
          bytes = omega (arith, ahead, can.room.shown.text_bytes, makes.shown.byte_room);
        };
        texts = omega (arith, can.room.shown.frames, makes.frames.text_room);
        bytes = omega (arith, can.room.shown.frame_bytes, makes.frames.byte_room);
      }
