-- What a call that begins a record does: nothing, or one record is begun of what waits, which is taken out.
use Rattle.std.specs.Prelude.{◌≡◌, ◌⊎◌, ◌<◌, ℕ, List, length, Some, None}
use Rattle.peer_codes.specs.declared.limits.TheConstants.{LAST_NUMBER}
use Rattle.peer_codes.specs.declared.hello.Hello.{Hello}
use Rattle.peer_codes.specs.declared.beat.Beat.{Beat}
use Rattle.peer_codes.specs.declared.frame.Frame.{Frame}
use Rattle.peer_codes.specs.declared.more.More.{More}
use Rattle.peer_codes.specs.declared.records.Proof.{Proof}
use Rattle.peer_codes.specs.declared.records.Record.TheVariants as record_of
use Rattle.peer_codes.specs.declared.kind.Kind.{Kind}
use Rattle.peer_codes.specs.declared.kind.Kind.TheVariants as kind_of
use Rattle.peer_codes.specs.declared.phase.Ways.{Ways}
use Rattle.peer_codes.specs.declared.phase.Phase.TheVariants as phases
use Rattle.peer_codes.specs.declared.outgoing.Outgoing.{Outgoing}
use Rattle.peer_codes.specs.declared.connection.Connection.{Connection}
use Rattle.peer_codes.specs.Spelling.{beat_text, record_text}
use Rattle.peer_codes.specs.Codes.{coded}
use Rattle.peer_codes.specs.Outgoings.{unwritten, with_begun}
use Rattle.peer_codes.specs.Histories.{Said, phase_after}

-- nothing is begun, and nothing changes
pub record NothingBegun (old new : Connection) : Type 0 where
  pub key : new.key ≡ old.key
  pub phase : new.phase ≡ old.phase
  pub came : new.came ≡ old.came
  pub out : new.out ≡ old.out

-- nothing was unfinished, and this text is begun, behind which this is left to say
pub record TextBegun (text : List ℕ) (left : Outgoing) (old new : Connection) : Type 0 where
  pub finished : length (unwritten old.out) ≡ 0
  pub key : new.key ≡ old.key
  pub came : new.came ≡ old.came
  pub out : new.out ≡ with_begun text left

-- the own Hello goes before all else, neither coded nor sealed
pub record HelloBegun (old new : Connection) : Type 0 where
  pub hello : Hello
  pub waited : old.out.hello ≡ Some hello
  pub phase : new.phase ≡ old.phase
  pub begun : TextBegun (record_text (record_of.Hello hello)) (record old.out { hello = None }) old new

-- the own proof goes next, the same
pub record ProofBegun (old new : Connection) : Type 0 where
  pub proof : Proof
  pub hello : old.out.hello ≡ None
  pub waited : old.out.proof ≡ Some proof
  pub phase : new.phase ≡ old.phase
  pub begun : TextBegun (record_text (record_of.Proof proof)) (record old.out { proof = None }) old new

-- both are said, the connection is open, and a record with this body is coded now, as the next of the own way
pub record CodedBegun (kind : Kind) (body : List ℕ) (left : Outgoing) (old new : Connection) : Type 0 where
  pub ways : Ways
  pub hello : old.out.hello ≡ None
  pub proof : old.out.proof ≡ None
  pub open_was : old.phase ≡ phases.Open ways
  pub number : ways.writing.number < LAST_NUMBER
  pub phase : new.phase ≡ phase_after old.key.bytes old.phase (Said (length body))
  pub begun : TextBegun (coded ways.writing kind body) left old new

-- the beat that waited is said
pub record BeatBegun (old new : Connection) : Type 0 where
  pub beat : Beat
  pub waited : old.out.beat ≡ Some beat
  pub begun : CodedBegun kind_of.Beat (beat_text beat) (record old.out { beat = None }) old new

-- no beat waited, and the record of a further kind that did is said
pub record MoreBegun (old new : Connection) : Type 0 where
  pub more : More
  pub beat : old.out.beat ≡ None
  pub waited : old.out.more ≡ Some more
  pub begun : CodedBegun (kind_of.More more.kind) more.bytes.items (record old.out { more = None }) old new

-- neither waited, and the frame that did is said
pub record FrameBegun (old new : Connection) : Type 0 where
  pub frame : Frame
  pub beat : old.out.beat ≡ None
  pub more : old.out.more ≡ None
  pub waited : old.out.frame ≡ Some frame
  pub begun : CodedBegun kind_of.Frame frame.bytes.items (record old.out { frame = None }) old new

-- nothing is begun, or the first of what waits
abbrev pub Begins : Connection → Connection → Type 0
Begins old new = NothingBegun old new ⊎ (HelloBegun old new ⊎ (ProofBegun old new ⊎ (BeatBegun old new ⊎ (MoreBegun old new ⊎ FrameBegun old new))))
