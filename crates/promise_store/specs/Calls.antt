-- What a file in memory keeps of its calls, and what a crash may leave of it.
use Rattle.std.specs.Prelude.{◌≡◌, ◌⊎◌, ℕ, zero, suc, ◌+◌, ◌-◌, ◌/◌, ◌%◌, ◌≤◌, Bool, if◌then◌else◌, List, [], ◌∷◌, ◌++◌, length, take, drop, map, reverse, replicate}
use Rattle.std.proofs.Common.{inl, inr, arith}
use Rattle.promise_store.specs.Disks.{Torn}
use Rattle.promise_store.specs.declared.call.Call.{Call}
use Rattle.promise_store.specs.declared.call.Call.TheVariants.{Wrote, Synced, Stopped}

pub data Event : Type 0 where
  wrote : (at : ℕ) (bytes : List ℕ) (done : Bool) → Event
  synced : Event
  stopped : (pick : ℕ) → Event

abbrev pub event_of : Call → Event
event_of (Wrote at bytes done) = wrote at bytes.items done
event_of Synced = synced
event_of (Stopped pick) = stopped pick

-- the newest first
abbrev pub events : List Call → List Event
events calls = reverse (map event_of calls)

-- the file with zeros up to an end
abbrev pub grown : List ℕ → ℕ → List ℕ
grown file end = file ++ replicate (end - length file) 0

-- these bytes over what stands at the offset
abbrev pub overlaid : List ℕ → ℕ → List ℕ → List ℕ
overlaid file at bytes = take at file ++ bytes ++ drop (at + length bytes) file

-- what a digit makes of a write: 0 the old bytes, with zeros past the old end; 1 the new bytes; else ones
abbrev pub landed : ℕ → List ℕ → ℕ → List ℕ → List ℕ
landed zero file at bytes = grown file (at + length bytes)
landed (suc zero) file at bytes = overlaid (grown file (at + length bytes)) at bytes
landed (suc (suc digit)) file at bytes = overlaid (grown file (at + length bytes)) at (replicate (length bytes) 1)

-- an offset, and bytes
abbrev pub Write : Type 0
Write = ℕ × List ℕ

-- what the digits of the pick in base 3, the lowest first, make of writes, the oldest first
abbrev pub picked : List ℕ → List Write → ℕ → List ℕ
picked file [] pick = file
picked file (write ∷ writes) pick = picked (landed (pick % 3) file write.0 write.1) writes (pick / 3)

pub record Contents : Type 0 where
  -- what a read gives
  pub seen : List ℕ
  -- what was on the disk for certain at the last sync or stop
  pub base : List ℕ
  -- the writes since, the oldest first, failed ones too
  pub pending : List Write

abbrev pub after : Event → Contents → Contents
after (wrote at bytes done) was = record {
  seen = if done then landed 1 was.seen at bytes else was.seen;
  base = was.base;
  pending = was.pending ++ (at, bytes) ∷ [];
}
after synced was = record { seen = was.seen; base = was.seen; pending = [] }
after (stopped pick) was = record { seen = picked was.base was.pending pick; base = picked was.base was.pending pick; pending = [] }

-- an empty file after these calls
abbrev pub contents : List Event → Contents
contents [] = record { seen = []; base = []; pending = [] }
contents (event ∷ earlier) = after event (contents earlier)

-- from a file through torn writes
abbrev pub Reaches : List ℕ → List Write → List ℕ → Type 0
Reaches file [] image = image ≡ file
Reaches file (write ∷ writes) image = (between : List ℕ) × Torn write.0 (length write.1) file between × Reaches between writes image

-- a crash may leave what a read gives, and any bytes in the ranges written since the last sync
abbrev pub IsImage : Contents → List ℕ → Type 0
IsImage now image = (image ≡ now.seen) ⊎ Reaches now.base now.pending image

-- it was an image before one of these calls, from the moment t on
abbrev pub Had : ℕ → List Event → List ℕ → Type 0
Had t [] image = ⊥
Had t (event ∷ earlier) image = ((t ≤ length earlier) × IsImage (contents earlier) image) ⊎ Had t earlier image

-- it is an image after these calls, or was one, from the moment t on
abbrev pub Since : ℕ → List Event → List ℕ → Type 0
Since t calls image = IsImage (contents calls) image ⊎ Had t calls image

none_had : (t : ℕ) (calls : List Event) (image : List ℕ) → length calls ≤ t → Had t calls image → ⊥
none_had t [] image le had = had
none_had t (event ∷ earlier) image le (inl here) = absurd (omega arith)
none_had t (event ∷ earlier) image le (inr had) = none_had t earlier image (omega arith) had

-- since the last call there are the images now
pub only_images : (calls : List Event) (image : List ℕ) → Since (length calls) calls image → IsImage (contents calls) image
only_images calls image (inl now) = now
only_images calls image (inr had) = absurd (none_had (length calls) calls image (omega arith) had)

abbrev pub write_of : Call → Write
write_of (Wrote at bytes done) = (at, bytes.items)
write_of Synced = (0, [])
write_of (Stopped pick) = (0, [])

-- what a read gives after a call: only a write that was done changes it
abbrev pub redone : Call → List ℕ → List ℕ
redone (Wrote at bytes done) file = if done then landed 1 file at bytes.items else file
redone Synced file = file
redone (Stopped pick) file = file

-- what a read gives after calls without a stop, the oldest first
abbrev pub replayed : List ℕ → List Call → List ℕ
replayed file [] = file
replayed file (call ∷ calls) = replayed (redone call file) calls

-- the fields are what the calls make of an empty file, and it was begun after some of them: the base and what was replayed since
pub record IsTied (bytes base : List ℕ) (based unsynced begun : ℕ) (calls : List Call) : Type 0 where
  pub is_seen : bytes ≡ (contents (events calls)).seen
  -- what was on the disk for certain at the last sync
  pub is_base : replayed base (take (unsynced - based) (drop based calls)) ≡ (contents (events calls)).base
  pub is_replayed : replayed base (drop based calls) ≡ bytes
  pub ordered : based ≤ unsynced
  pub within : unsynced ≤ length calls
  pub is_pending : map write_of (drop unsynced calls) ≡ (contents (events calls)).pending
  pub has_begun : begun ≤ length calls
