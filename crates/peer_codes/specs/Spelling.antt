-- The one text of each record: big-endian numbers, and a length in front of each.
use Rattle.std.specs.Prelude.{ℕ, ◌+◌, Bool, if◌then◌else◌, List, [], ◌∷◌, ◌++◌, length, replicate, Option, Some, None}
use Rattle.byteorder.specs.Endian.{big_bytes}
use Rattle.paxos_wire.specs.declared.ballot.Ballot.{Ballot}
use Rattle.paxos_wire.specs.Spelling.{ballot_text}
use Rattle.peer_codes.specs.declared.limits.TheConstants.{LIFE_BYTES, BALLOT_BYTES}
use Rattle.peer_codes.specs.declared.hello.Ends.{Ends}
use Rattle.peer_codes.specs.declared.hello.Life.{Life}
use Rattle.peer_codes.specs.declared.hello.Link.{Link}
use Rattle.peer_codes.specs.declared.hello.Link.TheVariants.{Plain, Coded}
use Rattle.peer_codes.specs.declared.hello.Hello.{Hello}
use Rattle.peer_codes.specs.declared.beat.Beat.{Beat}
use Rattle.peer_codes.specs.declared.records.Record.{Record}
use Rattle.peer_codes.specs.declared.records.Record.TheVariants as record_of
use Rattle.peer_codes.specs.declared.kind.Kind.{Kind}
use Rattle.peer_codes.specs.declared.kind.Kind.TheVariants as kind_of
use Rattle.peer_codes.specs.Versions.{magic_of}
use Rattle.peer_codes.specs.Kinds.{kind_byte}

-- 0 says a connection without codes, 1 one with codes
abbrev pub link_byte : Link → ℕ
link_byte Plain = 0
link_byte (Coded nonce) = 1

-- a nonce stands only where the connection has codes
abbrev pub nonce_text : Link → List ℕ
nonce_text Plain = []
nonce_text (Coded nonce) = nonce.bytes

-- a byte each: from, to, and how many there are
abbrev pub ends_text : Ends → List ℕ
ends_text e = e.from ∷ e.to ∷ e.nodes ∷ []

-- zeros where no life is kept
abbrev pub kept_text : Option Life → List ℕ
kept_text None = replicate LIFE_BYTES 0
kept_text (Some life) = life.bytes

-- zeros where nothing is promised
abbrev pub promised_text : Option Ballot → List ℕ
promised_text None = replicate BALLOT_BYTES 0
promised_text (Some ballot) = ballot_text ballot

-- the bytes HDN1 or HDN2 and what kind of connection it is, who speaks to whom, the match, both lives, what is promised, and the nonce
abbrev pub hello_text : Hello → List ℕ
hello_text h = big_bytes 4 (magic_of h.version) ++ (link_byte h.link ∷ (ends_text h.ends ++ (h.digest.bytes ++ (h.life.bytes ++ (kept_text h.kept ++ (promised_text h.promised ++ nonce_text h.link))))))

-- 1 says that the speaker campaigns, 2 that its match is over
abbrev pub flags_byte : Bool → Bool → ℕ
flags_byte campaigns over = (if campaigns then 1 else 0) + (if over then 2 else 0)

-- four bytes each of the number, of the last that was got and of the front, a byte of flags, and two of seats
abbrev pub beat_text : Beat → List ℕ
beat_text b = big_bytes 4 b.number ++ (big_bytes 4 b.got ++ (big_bytes 4 b.front ++ (flags_byte b.campaigns b.over ∷ big_bytes 2 b.seats)))

abbrev pub kind : Record → Kind
kind (record_of.Hello hello) = kind_of.Hello
kind (record_of.Proof proof) = kind_of.Proof
kind (record_of.Frame frame) = kind_of.Frame
kind (record_of.Beat beat) = kind_of.Beat
kind (record_of.More more) = kind_of.More more.kind

abbrev pub body : Record → List ℕ
body (record_of.Hello hello) = hello_text hello
body (record_of.Proof proof) = proof.tag
body (record_of.Frame frame) = frame.bytes.items
body (record_of.Beat beat) = beat_text beat
body (record_of.More more) = more.bytes.items

-- a kind and bytes behind it, with a length in front that counts both
unfoldable pub enveloped : Kind → List ℕ → List ℕ
enveloped k content = big_bytes 4 (length content + 1) ++ (kind_byte k ∷ content)

abbrev pub record_text : Record → List ℕ
record_text r = enveloped (kind r) (body r)
