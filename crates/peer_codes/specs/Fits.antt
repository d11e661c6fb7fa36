-- Which records have a text: the ranges of their numbers, and how long their parts are.
use Rattle.std.specs.Prelude.{◌≡◌, ℕ, ◌^◌, ◌<◌, ◌≤◌, true, false, List, length, IfSome}
use Rattle.std.specs.List.{list_all}
use Rattle.std.specs.Prelude.{◌==◌, Bool}
use Rattle.paxos_wire.specs.Fits.{IsBallot}
use Rattle.peer_codes.specs.declared.limits.TheConstants.{NODES, DIGEST_BYTES, LIFE_BYTES, NONCE_BYTES, TAG_BYTES, LEAST_FRAME, MOST_FRAME}
use Rattle.peer_codes.specs.declared.hello.Ends.{Ends}
use Rattle.peer_codes.specs.declared.hello.Life.{Life}
use Rattle.peer_codes.specs.declared.hello.Link.{Link}
use Rattle.peer_codes.specs.declared.hello.Link.TheVariants.{Plain, Coded}
use Rattle.peer_codes.specs.declared.hello.Hello.{Hello}
use Rattle.peer_codes.specs.declared.beat.Beat.{Beat}
use Rattle.peer_codes.specs.declared.more.More.{More}
use Rattle.peer_codes.specs.declared.records.Record.{Record}
use Rattle.peer_codes.specs.declared.records.Record.TheVariants as record_of
use Rattle.peer_codes.specs.Mores.{is_more}

-- zeros and nothing else
abbrev pub are_zeros : List ℕ → Bool
are_zeros bytes = list_all (λ byte. byte == 0) bytes

-- two different nodes among so many, and no more nodes than there may be
pub record AreEnds (e : Ends) : Type 0 where
  pub most : e.nodes ≤ NODES
  pub from : e.from < e.nodes
  pub to : e.to < e.nodes
  pub apart : e.from ≡ e.to → ⊥

-- a life is as long as each, and isn't zeros
pub record IsLife (life : Life) : Type 0 where
  pub long : length life.bytes ≡ LIFE_BYTES
  pub some : are_zeros life.bytes ≡ false

abbrev pub IsLink : Link → Type 0
IsLink Plain = Unit {0}
IsLink (Coded nonce) = length nonce.bytes ≡ NONCE_BYTES

pub record IsHello (h : Hello) : Type 0 where
  pub ends : AreEnds h.ends
  pub digest : length h.digest.bytes ≡ DIGEST_BYTES
  pub life : IsLife h.life
  pub kept : IfSome h.kept IsLife
  pub promised : IfSome h.promised IsBallot
  pub link : IsLink h.link

-- a frame's bytes, by their count
pub record IsFrame (bytes : List ℕ) : Type 0 where
  pub least : LEAST_FRAME ≤ length bytes
  pub most : length bytes ≤ MOST_FRAME

pub record IsBeat (b : Beat) : Type 0 where
  pub number : b.number < 2 ^ 32
  pub got : b.got < 2 ^ 32
  pub front : b.front < 2 ^ 32
  pub seats : b.seats < 2 ^ 16

-- a kind that there is, and at most as many bytes as a frame has
pub record IsMore (more : More) : Type 0 where
  pub kind : is_more more.kind ≡ true
  pub most : length more.bytes.items ≤ MOST_FRAME

-- a record that has a text
abbrev pub IsRecord : Record → Type 0
IsRecord (record_of.Hello hello) = IsHello hello
IsRecord (record_of.Proof proof) = length proof.tag ≡ TAG_BYTES
IsRecord (record_of.Frame frame) = IsFrame frame.bytes.items
IsRecord (record_of.Beat beat) = IsBeat beat
IsRecord (record_of.More more) = IsMore more

-- what a caller sees to, so that a Hello is read
pub record CanGreet (h : Hello) : Type 0 where
  pub ends : AreEnds h.ends
  pub life : are_zeros h.life.bytes ≡ false
  pub kept : IfSome h.kept (λ life. are_zeros life.bytes ≡ false)
  pub promised : IfSome h.promised IsBallot

-- what a caller sees to, so that a record is read
abbrev pub CanBeSaid : Record → Type 0
CanBeSaid (record_of.Hello hello) = CanGreet hello
CanBeSaid (record_of.Proof proof) = Unit {0}
CanBeSaid (record_of.Frame frame) = LEAST_FRAME ≤ length frame.bytes.items
CanBeSaid (record_of.Beat beat) = Unit {0}
CanBeSaid (record_of.More more) = is_more more.kind ≡ true

-- the parts of a Hello are as long as those of each value of the program
pub record HasWidths (h : Hello) : Type 0 where
  pub digest : length h.digest.bytes ≡ DIGEST_BYTES
  pub life : length h.life.bytes ≡ LIFE_BYTES
  pub kept : IfSome h.kept (λ life. length life.bytes ≡ LIFE_BYTES)
  pub link : IsLink h.link

-- what holds of each record of the program
abbrev pub IsHeld : Record → Type 0
IsHeld (record_of.Hello hello) = HasWidths hello
IsHeld (record_of.Proof proof) = length proof.tag ≡ TAG_BYTES
IsHeld (record_of.Frame frame) = length frame.bytes.items ≤ MOST_FRAME
IsHeld (record_of.Beat beat) = IsBeat beat
IsHeld (record_of.More more) = length more.bytes.items ≤ MOST_FRAME
