-- A stream of frames: how much of it makes the frame in front whole.
use Rattle.std.specs.Prelude.{◌≡◌, ℕ, ◌+◌, ◌<◌, ◌≤◌, ◌⊎◌, Bool, ◌&&◌, nat_lt, nat_le, if◌then◌else◌, List, [], ◌∷◌, ◌++◌, length, take, Option, Some, None}
use Rattle.std.specs.List.{AllByRecursion}
use Rattle.paxos_wire.specs.declared.limits.TheConstants.{LEAST_LENGTH, MOST_LENGTH}
use Rattle.paxos_wire.specs.declared.fault.FrameFault.{FrameFault}
use Rattle.paxos_wire.specs.declared.message.Message.{Message}
use Rattle.paxos_wire.specs.Fits.{IsMessage}
use Rattle.paxos_wire.specs.Spelling.{IsText}
use Rattle.paxos_wire.specs.Faults.{length_field, fault_of}

-- a length that a frame may have
abbrev pub is_length : ℕ → Bool
is_length n = nat_le LEAST_LENGTH n && nat_le n MOST_LENGTH

-- how many bytes it takes to answer: those of the length, and then the frame, if a frame may be so long
unfoldable pub needed : List ℕ → ℕ
needed bytes =
    if nat_lt (length bytes) 4 then 4
    else (if is_length (length_field bytes) then 4 + length_field bytes else 4)

-- the frame in front, or the length that no frame may have
abbrev pub front : List ℕ → List ℕ
front bytes = take (needed bytes) bytes

-- neither a whole frame nor at fault
abbrev pub IsPartial : List ℕ → Type 0
IsPartial bytes = length bytes < needed bytes

-- a text of the message stands in front, and the rest behind it
pub record IsInFront (m : Message) (bytes rest : List ℕ) : Type 0 where
  pub text : List ℕ
  pub is : IsText m text
  pub whole : bytes ≡ text ++ rest

-- in front stands no frame, however the stream goes on, and this is the first fault of what stands there
pub record IsFaulty (bytes : List ℕ) (fault : FrameFault) : Type 0 where
  pub there : needed bytes ≤ length bytes
  pub none : (m : Message) (rest : List ℕ) → IsMessage m → IsInFront m bytes rest → ⊥
  pub first : fault ≡ fault_of (front bytes)

-- a piece is taken: it stands behind what waits, or the stream was at fault and stays as it was
abbrev pub Takes : List ℕ → List ℕ → List ℕ → Type 0
Takes old piece new = (new ≡ old ++ piece) ⊎ ((fault : FrameFault) × IsFaulty old fault × (new ≡ old))

-- the stream is these messages, one after the other, each in a text of its own, and then the rest
abbrev pub IsStreamOf : List Message → List ℕ → List ℕ → Type 0
IsStreamOf [] rest stream = stream ≡ rest
IsStreamOf (m ∷ ms) rest stream = (behind : List ℕ) × IsInFront m stream behind × IsStreamOf ms rest behind

-- the rest is less than a frame, or it is at fault
abbrev pub IsRest : Option FrameFault → List ℕ → Type 0
IsRest None rest = IsPartial rest
IsRest (Some fault) rest = IsFaulty rest fault

-- the stream is these messages, and then less than a frame, or this fault
pub record Splits (stream : List ℕ) (messages : List Message) (fault : Option FrameFault) : Type 0 where
  pub rest : List ℕ
  pub whole : IsStreamOf messages rest stream
  pub each : AllByRecursion IsMessage messages
  pub ends : IsRest fault rest
