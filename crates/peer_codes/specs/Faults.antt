-- A stream of records: how much of it makes the record in front whole, and what it is or which fault it shows first.
use Rattle.std.specs.Prelude.{◌≡◌, ℕ, ◌+◌, ◌≤◌, ◌<◌, Bool, ◌&&◌, nat_lt, nat_le, if◌then◌else◌, List, ◌++◌, length, slice_index, drop, take, Option, Some, None, Result, Ok, Err}
use Rattle.byteorder.specs.Endian.{big_number}
use Rattle.peer_codes.specs.declared.limits.TheConstants.{MOST_LENGTH}
use Rattle.peer_codes.specs.declared.fault.RecordFault.{RecordFault}
use Rattle.peer_codes.specs.declared.fault.RecordFault.TheVariants.{BadLength, BadKind}
use Rattle.peer_codes.specs.declared.records.Record.{Record}
use Rattle.peer_codes.specs.declared.kind.Kind.{Kind}
use Rattle.peer_codes.specs.Kinds.{kind_told}
use Rattle.peer_codes.specs.Reading.{content_of}
use Rattle.peer_codes.specs.Spelling.{record_text}
use Rattle.peer_codes.specs.Fits.{IsRecord}

-- what the first four bytes say, of what follows them
abbrev pub length_field : List ℕ → ℕ
length_field bytes = big_number 4 bytes

-- a length that a record may have
abbrev pub is_length : ℕ → Bool
is_length n = nat_le 1 n && nat_le n MOST_LENGTH

-- how many bytes it takes to answer: those of the length, and then the record, if a record may be so long
unfoldable pub needed : List ℕ → ℕ
needed bytes =
    if nat_lt (length bytes) 4 then 4
    else (if is_length (length_field bytes) then 4 + length_field bytes else 4)

-- the record in front, or the length that no record may have
abbrev pub front : List ℕ → List ℕ
front bytes = take (needed bytes) bytes

-- neither a whole record nor at fault
abbrev pub IsPartial : List ℕ → Type 0
IsPartial bytes = length bytes < needed bytes

abbrev pub kind_or_fault : Option Kind → Result Kind RecordFault
kind_or_fault None = Err BadKind
kind_or_fault (Some kind) = Ok kind

-- the kind of what stands in front; where it has no kind, its length is none
unfoldable pub kind_in : List ℕ → Result Kind RecordFault
kind_in bytes =
    if nat_lt (length bytes) 5 then Err BadLength
    else kind_or_fault (kind_told (slice_index bytes 4))

-- a kind's fault goes before those of the bytes behind it
abbrev pub content_read : Result Kind RecordFault → List ℕ → Result Record RecordFault
content_read (Err fault) content = Err fault
content_read (Ok kind) content = content_of kind content

-- what stands in front, read from left to right
unfoldable pub reading : List ℕ → Result Record RecordFault
reading bytes = content_read (kind_in bytes) (drop 5 bytes)

-- in front stands no record, however the stream goes on, and this is the first fault of what stands there
pub record IsFaulty (bytes : List ℕ) (fault : RecordFault) : Type 0 where
  pub there : needed bytes ≤ length bytes
  pub none : (r : Record) (rest : List ℕ) → IsRecord r → bytes ≡ record_text r ++ rest → ⊥
  pub first : reading (front bytes) ≡ Err fault
