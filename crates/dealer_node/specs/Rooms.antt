-- How much a step of a call makes at most.
use Rattle.std.specs.Prelude.{◌≡◌, ℕ, ◌+◌, ◌*◌, ◌≤◌, length, vec_len, vec_capacity}
use Rattle.paxos_wire.specs.declared.limits.TheConstants.{MOST_SINGLE_FRAME}
use Rattle.dealer_node.specs.declared.made.Made.{Made}
use Rattle.dealer_node.specs.declared.made.Need.{Need}
use Rattle.dealer_node.specs.Texts.{Written, byte_total}

-- there is room for so many texts more, of so many bytes in all
pub record HasSpace {T : Type 0} (written : Written T) (texts bytes : ℕ) : Type 0 where
  pub text_room : texts ≤ written.text_room
  pub byte_room : bytes ≤ written.byte_room

-- no more texts and bytes than these were written, and no more room was taken up
pub record Grows {T : Type 0} (old new : Written T) (texts bytes : ℕ) : Type 0 where
  pub text_room : old.text_room ≤ new.text_room + texts
  pub byte_room : old.byte_room ≤ new.byte_room + bytes
  pub len : length new.texts ≤ length old.texts + texts
  pub size : byte_total new.texts ≤ byte_total old.texts + bytes

-- no more faults than these were told, into room that was there
pub record Tells (old new : Made) (faults : ℕ) : Type 0 where
  pub len : vec_len new.faults ≤ vec_len old.faults + faults
  pub capacity : vec_capacity new.faults ≡ vec_capacity old.faults

-- no more than this was made, into room that was there
pub record Makes (old new : Made) (need : Need) : Type 0 where
  pub frames : Grows old.frames new.frames need.frames need.frame_bytes
  pub shown : Grows old.shown new.shown need.texts need.text_bytes
  pub faults : Tells old new need.faults

-- what a piece of a seat's bytes makes at most, before its call is closed, that is given so many answers: a frame and a fault for each, and the
-- seat's line
abbrev pub piece_need : ℕ → Need
piece_need answers = record { frames = answers; frame_bytes = MOST_SINGLE_FRAME * answers; texts = 1; text_bytes = 4096; faults = answers }
