-- What is to be written on a connection.
use Rattle.std.specs.Prelude.{◌≡◌, ℕ, ◌==◌, ◌&&◌, Bool, List, length, drop, Option, Some, None, is_none}
use Rattle.peer_codes.specs.declared.records.Proof.{Proof}
use Rattle.peer_codes.specs.declared.frame.Frame.{Frame}
use Rattle.peer_codes.specs.declared.outgoing.Outgoing.{Outgoing}

-- what of the record that was begun isn't written yet
abbrev pub unwritten : Outgoing → List ℕ
unwritten o = drop o.written o.begun.items

-- a proof in place of one that isn't begun yet
abbrev pub later : Option Proof → Option Proof → Option Proof
later old None = old
later old (Some proof) = Some proof

-- the record with this text is begun
abbrev pub with_begun : List ℕ → Outgoing → Outgoing
with_begun text o = record { hello = o.hello; proof = o.proof; beat = o.beat; more = o.more; frame = o.frame; begun = record { items = text }; written = 0 }

-- a frame waits, but not where one does already
abbrev pub and_frame : Option Frame → Frame → Option Frame
and_frame None frame = Some frame
and_frame (Some other) frame = Some other

-- nothing is unfinished, and nothing waits
abbrev pub is_idle : Outgoing → Bool
is_idle o = length (unwritten o) == 0 && (is_none o.hello && (is_none o.proof && (is_none o.beat && (is_none o.more && is_none o.frame))))

-- a frame waits, or it is given back where one does already
abbrev pub Put : Option Frame → Frame → Outgoing → Outgoing → Option Frame → Type 0
Put None frame old new back = (new ≡ record old { frame = Some frame }) × (back ≡ None)
Put (Some other) frame old new back = (new ≡ old) × (back ≡ Some frame)
