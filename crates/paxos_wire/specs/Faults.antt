-- Which fault bytes show that are no message's frame: the first of these, in this order.
use Rattle.std.specs.Prelude.{ℕ, ◌+◌, Bool, not, ◌&&◌, ◌==◌, nat_lt, nat_le, if◌then◌else◌, List, length, slice_index, drop, Option, Some, None, Result, Ok, Err}
use Rattle.std.specs.Option.{unwrap_or}
use Rattle.byteorder.specs.Endian.{big_number}
use Rattle.paxos_wire.specs.declared.limits.TheConstants.{LEAST_LENGTH, MOST_LENGTH}
use Rattle.paxos_wire.specs.declared.fault.FrameFault.{FrameFault}
use Rattle.paxos_wire.specs.declared.fault.FrameFault.TheVariants.{TooShort, TooLong, BadVersion, BadKind, BadBody}
use Rattle.paxos_wire.specs.declared.message.Message.{Message}
use Rattle.paxos_wire.specs.Versions.{is_version, version_of}
use Rattle.paxos_wire.specs.Reading.{body_of}

-- what the first four bytes say, of what follows them
abbrev pub length_field : List ℕ → ℕ
length_field bytes = big_number 4 bytes

-- the kinds are 1 to 8
abbrev pub is_kind : ℕ → Bool
is_kind kind = nat_le 1 kind && nat_le kind 8

-- the fault that the length, the version or the kind of a frame shows
unfoldable pub header_fault : List ℕ → Option FrameFault
header_fault bytes =
    if nat_lt (length bytes) 4 then Some TooShort
    else (if nat_lt (length_field bytes) LEAST_LENGTH then Some TooShort
    else (if nat_lt MOST_LENGTH (length_field bytes) then Some TooLong
    else (if not (length bytes == 4 + length_field bytes) then Some BadBody
    else (if not (is_version (slice_index bytes 4)) then Some BadVersion
    else (if not (is_kind (slice_index bytes 5)) then Some BadKind
    else None)))))

-- the fault of bytes that are no message's frame
abbrev pub fault_of : List ℕ → FrameFault
fault_of bytes = unwrap_or (header_fault bytes) BadBody

-- the header's fault goes before the body
abbrev pub behind : Option FrameFault → Option Message → Result Message FrameFault
behind (Some fault) body = Err fault
behind None (Some message) = Ok message
behind None None = Err BadBody

-- a whole frame, read from left to right
unfoldable pub reading : List ℕ → Result Message FrameFault
reading bytes = behind (header_fault bytes) (body_of (version_of (slice_index bytes 4)) (slice_index bytes 5) (drop 6 bytes))
