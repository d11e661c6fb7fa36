-- Reading fields from the front of bytes: a value and the bytes after it, or nothing.
use Rattle.std.specs.Prelude.{ℕ, ◌%◌, Bool, not, ◌&&◌, ◌==◌, nat_lt, nat_le, if◌then◌else◌, List, length, drop, slice_index, Option, Some, None, Result, Ok, Err}
use Rattle.byteorder.specs.Endian.{big_number}
use Rattle.paxos_wire.specs.declared.ballot.Ballot.{Ballot}
use Rattle.paxos_wire.specs.declared.version.Version.TheVariants.{New}
use Rattle.paxos_wire.specs.Reading.{◌>>=◌, when, byte_at, number_at, bytes_at, ballot_at}
use Rattle.peer_codes.specs.declared.limits.TheConstants.{NODES, DIGEST_BYTES, LIFE_BYTES, NONCE_BYTES, TAG_BYTES, BALLOT_BYTES, BEAT_BYTES, LEAST_FRAME, MOST_FRAME}
use Rattle.peer_codes.specs.declared.fault.RecordFault.{RecordFault}
use Rattle.peer_codes.specs.declared.fault.RecordFault.TheVariants.{BadLength, BadKind, BadHello}
use Rattle.peer_codes.specs.declared.version.Version.{Version}
use Rattle.peer_codes.specs.declared.hello.Ends.{Ends}
use Rattle.peer_codes.specs.declared.hello.Life.{Life}
use Rattle.peer_codes.specs.declared.hello.Link.{Link}
use Rattle.peer_codes.specs.declared.hello.Link.TheVariants.{Plain, Coded}
use Rattle.peer_codes.specs.declared.hello.Hello.{Hello}
use Rattle.peer_codes.specs.declared.beat.Beat.{Beat}
use Rattle.peer_codes.specs.declared.records.Record.{Record}
use Rattle.peer_codes.specs.declared.records.Record.TheVariants as record_of
use Rattle.peer_codes.specs.declared.kind.Kind.{Kind}
use Rattle.peer_codes.specs.declared.kind.Kind.TheVariants as kind_of
use Rattle.peer_codes.specs.Versions.{version_told}
use Rattle.peer_codes.specs.Fits.{are_zeros}

-- two different nodes among so many, and no more nodes than there may be
abbrev pub are_ends : ℕ → ℕ → ℕ → Bool
are_ends from to nodes = nat_le nodes NODES && (nat_lt from nodes && (nat_lt to nodes && not (from == to)))

unfoldable pub ends_at : List ℕ → Option (Ends × List ℕ)
ends_at bytes = do
  from ← byte_at bytes
  to ← byte_at from.1
  nodes ← byte_at to.1
  when (are_ends from.0 to.0 nodes.0) (record { from = from.0; to = to.0; nodes = nodes.0 }, nodes.1)

unfoldable pub life_at : List ℕ → Option (Life × List ℕ)
life_at bytes = do
  life ← bytes_at LIFE_BYTES bytes
  when (not (are_zeros life.0)) (record { bytes = life.0 }, life.1)

-- zeros where no life is kept
abbrev pub kept_of : List ℕ → Option Life
kept_of bytes = if are_zeros bytes then None else Some (record { bytes = bytes })

unfoldable pub kept_at : List ℕ → Option (Option Life × List ℕ)
kept_at bytes = do
  life ← bytes_at LIFE_BYTES bytes
  Some (kept_of life.0, life.1)

-- a ballot as one that there is
abbrev pub promised_of : Option (Ballot × List ℕ) → Option (Option Ballot × List ℕ)
promised_of None = None
promised_of (Some ballot) = Some (Some ballot.0, ballot.1)

-- zeros where nothing is promised
unfoldable pub promised_at : List ℕ → Option (Option Ballot × List ℕ)
promised_at bytes = do
  front ← bytes_at BALLOT_BYTES bytes
  if are_zeros front.0 then Some (None, front.1) else promised_of (ballot_at New bytes)

-- what stands in front of a Hello: its version, the byte of its kind of connection, and who speaks to whom
unfoldable pub greeting_at : List ℕ → Option (Version × ℕ × Ends × List ℕ)
greeting_at bytes = do
  magic ← number_at 4 bytes
  link ← byte_at magic.1
  ends ← ends_at link.1
  version ← version_told magic.0
  Some (version, link.0, ends.0, ends.1)

-- the match, and both lives
unfoldable pub lives_at : List ℕ → Option (List ℕ × Life × Option Life × List ℕ)
lives_at bytes = do
  digest ← bytes_at DIGEST_BYTES bytes
  life ← life_at digest.1
  kept ← kept_at life.1
  Some (digest.0, life.0, kept.0, kept.1)

-- the nonce, where the connection has codes
unfoldable pub link_at : ℕ → List ℕ → Option (Link × List ℕ)
link_at byte bytes =
    if byte == 0 then Some (Plain, bytes)
    else (if byte == 1 then (bytes_at NONCE_BYTES bytes >>= λ nonce. Some (Coded (record { bytes = nonce.0 }), nonce.1))
    else None)

-- a Hello, all of the bytes
unfoldable pub hello_of : List ℕ → Option Hello
hello_of bytes = do
  greeting ← greeting_at bytes
  lives ← lives_at greeting.3
  promised ← promised_at lives.3
  link ← link_at greeting.1 promised.1
  when (length link.1 == 0) (record { version = greeting.0; ends = greeting.2; digest = record { bytes = lives.0 }; life = lives.1; kept = lives.2; promised = promised.0; link = link.0 })

-- the bytes of a beat, where there are as many as one has
abbrev pub beat_in : List ℕ → Beat
beat_in bytes = record {
  number = big_number 4 bytes;
  got = big_number 4 (drop 4 bytes);
  front = big_number 4 (drop 8 bytes);
  campaigns = slice_index bytes 12 % 2 == 1;
  over = nat_le 2 (slice_index bytes 12);
  seats = big_number 2 (drop 13 bytes);
}

unfoldable pub beat_of : List ℕ → Result Beat RecordFault
beat_of bytes =
    if not (length bytes == BEAT_BYTES) then Err BadLength
    else (if nat_lt 3 (slice_index bytes 12) then Err BadKind
    else Ok (beat_in bytes))

abbrev pub hello_record : Option Hello → Result Record RecordFault
hello_record None = Err BadHello
hello_record (Some hello) = Ok (record_of.Hello hello)

abbrev pub beat_record : Result Beat RecordFault → Result Record RecordFault
beat_record (Err fault) = Err fault
beat_record (Ok beat) = Ok (record_of.Beat beat)

-- as many bytes as a frame may have
abbrev pub is_frame : List ℕ → Bool
is_frame bytes = nat_le LEAST_FRAME (length bytes) && nat_le (length bytes) MOST_FRAME

-- the record of a kind with these bytes, all of them, or its fault
unfoldable pub content_of : Kind → List ℕ → Result Record RecordFault
content_of kind_of.Hello bytes = hello_record (hello_of bytes)
content_of kind_of.Proof bytes = if length bytes == TAG_BYTES then Ok (record_of.Proof (record { tag = bytes })) else Err BadLength
content_of kind_of.Frame bytes = if is_frame bytes then Ok (record_of.Frame (record { bytes = record { items = bytes } })) else Err BadLength
content_of kind_of.Beat bytes = beat_record (beat_of bytes)
content_of (kind_of.More byte) bytes = if nat_le (length bytes) MOST_FRAME then Ok (record_of.More (record { kind = byte; bytes = record { items = bytes } })) else Err BadLength
