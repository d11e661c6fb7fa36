-- Connections with codes on values: what is judged when, what comes, what waits, and what a frame that is told goes by.
use Rattle.std.proofs.Common.{◌≡◌, ℕ, ◌+◌, List, [], ◌∷◌, ◌++◌, length, replicate, true, false, Option, Some, None, Ok, Err, refl, ap, subst}
use Rattle.paxos_wire.specs.Reading.{ballot_at}
use Rattle.peer_codes.specs.declared.fault.RecordFault.TheVariants.{BadKind}
use Rattle.peer_codes.specs.declared.connection_fault.ConnectionFault.TheVariants as channel_faults
use Rattle.peer_codes.specs.declared.event.Event.TheVariants as events
use Rattle.peer_codes.specs.declared.frame.Frame.{Frame}
use Rattle.peer_codes.specs.declared.version.Version.TheVariants.{First, Second}
use Rattle.peer_codes.specs.declared.hello.Hello.{Hello}
use Rattle.peer_codes.specs.declared.hello.Life.{Life}
use Rattle.peer_codes.specs.declared.hello.Link.TheVariants as links
use Rattle.peer_codes.specs.declared.key.Key.{Key}
use Rattle.peer_codes.specs.declared.kind.Kind.{Kind}
use Rattle.peer_codes.specs.declared.kind.Kind.TheVariants as kind_of
use Rattle.peer_codes.specs.declared.records.Record.{Record}
use Rattle.peer_codes.specs.declared.records.Record.TheVariants as record_of
use Rattle.peer_codes.specs.declared.role.Role.TheVariants.{Caller, Called}
use Rattle.peer_codes.specs.declared.way.Way.{Way}
use Rattle.peer_codes.specs.declared.outgoing.Outgoing.{Outgoing}
use Rattle.peer_codes.specs.declared.connection.Connection.{Connection as Channel}
use Rattle.peer_codes.specs.Faults.{kind_in}
use Rattle.peer_codes.specs.Reading.{hello_of, greeting_at, ends_at, lives_at, life_at, kept_at, promised_at, link_at}
use Rattle.byteorder.specs.Endian.{big_bytes}
use Rattle.peer_codes.specs.Kinds.{kind_byte}
use Rattle.peer_codes.specs.Spelling.{enveloped, hello_text, record_text}
use Rattle.node_links.specs.declared.own.Own.{Own}
use Rattle.node_links.specs.declared.own.Known.TheVariants.{Nothing, One}
use Rattle.node_links.specs.declared.own.Met.{Met}
use Rattle.node_links.specs.declared.further.Further.TheVariants as furthers
use Rattle.node_links.specs.declared.peer_fault.Mismatch.TheVariants.{Digest}
use Rattle.node_links.specs.declared.peer_fault.Whose.TheVariants as whose
use Rattle.node_links.specs.declared.peer_fault.PeerFault.TheVariants as faults
use Rattle.node_links.specs.declared.heard.Heard.{Heard}
use Rattle.node_links.specs.declared.heard.Heard.TheVariants as heards
use Rattle.node_links.specs.declared.phase.Phase.TheVariants as phases
use Rattle.node_links.specs.declared.stage.Stage.TheVariants as stages
use Rattle.node_links.specs.Coding.{coded_step, settled_stage, has_said_hello, given, closed}
use Rattle.node_links.specs.Talks.{Piece, way_behind, bytes_of, role_of, hellos_of, IsOfKind, IsHelloIn, IsWritten, SaysPlain, SaysCoded, HeardBy}
use Rattle.node_links.specs.Going.{PlainAt}

-- ---- node 0 of three, and node 1 that dialled it

abbrev life : ℕ → Life
life n = record { bytes = replicate 16 n }

abbrev key : Key
key = record { bytes = replicate 32 7 }

abbrev own : Own
own = record { number = 0; nodes = 3; digest = record { bytes = replicate 32 9 }; life = life 6; key = Some key }

abbrev hello_by : ℕ → ℕ → ℕ → ℕ → Hello
hello_by from to digest nonce =
    record { version = First; ends = record { from = from; to = to; nodes = 3 }; digest = record { bytes = replicate 32 digest }; life = life 5; kept = None; promised = None; link = links.Coded (record { bytes = replicate 32 nonce }) }

abbrev theirs : Hello
theirs = hello_by 1 0 9 3

abbrev mine : Hello
mine = hello_by 0 1 9 4

abbrev unmet : Met
unmet = record { lives = Nothing; is_here = false }

-- node 1 is here by another connection, and its store had another life
abbrev here : List Met
here = unmet ∷ record { lives = One (life 4); is_here = true } ∷ []

abbrev gone_back : List Met
gone_back = unmet ∷ record { lives = One (life 4); is_here = false } ∷ []

-- ---- what is judged when

pub other_match_at_once : settled_stage own None [] (stages.Asked (hello_by 1 0 8 3)) ≡ stages.Closed (faults.OtherMatch (Digest (record { here = 151587081; there = 134744072 })))
other_match_at_once = refl

-- that it is here says one who may have no key
pub here_not_judged_yet : settled_stage own None here (stages.Asked theirs) ≡ stages.Matched theirs
here_not_judged_yet = refl

pub here_judged_when_proved : settled_stage own None here (stages.Proved theirs) ≡ stages.Closed faults.AlreadyHere
here_judged_when_proved = refl

pub store_judged_when_proved : settled_stage own None gone_back (stages.Proved theirs) ≡ stages.Closed (faults.StoreReplaced whose.Other)
store_judged_when_proved = refl

pub opens_when_proved : settled_stage own None [] (stages.Proved theirs) ≡ stages.Open theirs
opens_when_proved = refl

-- a Hello of this match alone opens nothing
pub waits_for_the_proof : settled_stage own None [] (stages.Matched theirs) ≡ stages.Matched theirs
waits_for_the_proof = refl

-- ---- what comes

abbrev frame : Frame
frame = record { bytes = record { items = 0 ∷ 0 ∷ 0 ∷ 6 ∷ 2 ∷ 7 ∷ 0 ∷ 0 ∷ 0 ∷ 1 ∷ [] } }

pub proof_told : coded_step (stages.Matched theirs) (Ok events.Opened) ≡ record { stage = stages.Proved theirs; heard = Ok (heards.Proved theirs) }
proof_told = refl

pub wrong_proof : coded_step (stages.Matched theirs) (Err channel_faults.WrongProof) ≡ closed faults.WrongProof
wrong_proof = refl

pub frame_before_it_is_open : coded_step (stages.Proved theirs) (Ok (events.Frame frame)) ≡ closed faults.UnexpectedRecord
frame_before_it_is_open = refl

pub frame_told : coded_step (stages.Open theirs) (Ok (events.Frame frame)) ≡ record { stage = stages.Open theirs; heard = Ok (heards.Frame frame) }
frame_told = refl

-- a record of a further kind: behind a Hello of the second version, and of the first
pub more_told : coded_step (stages.Open (record theirs { version = Second })) (Ok (events.More (record { kind = 9; bytes = record { items = [] } }))) ≡ record { stage = stages.Open (record theirs { version = Second }); heard = Ok (heards.Further furthers.Unknown) }
more_told = refl

pub more_behind_the_first : coded_step (stages.Open theirs) (Ok (events.More (record { kind = 9; bytes = record { items = [] } }))) ≡ closed (faults.Record BadKind)
more_behind_the_first = refl

-- ---- what waits

-- the channel has the frame as it is, and codes it later
pub frame_given : (c : Channel) → c.out.frame ≡ None → (given c (Some (record_of.Frame frame))).out.frame ≡ Some frame
frame_given c e = ap (λ (f : Option Frame). Rattle.peer_codes.specs.Outgoings.and_frame f frame) e

pub short_frame_dropped : (c : Channel) → given c (Some (record_of.Frame (record { bytes = record { items = 0 ∷ [] } }))) ≡ c
short_frame_dropped c = refl

-- ---- what a frame that is told goes by

-- a record of a frame of one byte, by its fifth
pub is_of_a_frame : IsOfKind kind_of.Frame (7 ∷ []) (0 ∷ 0 ∷ 0 ∷ 2 ∷ 2 ∷ 7 ∷ [])
unfolding kind_in
is_of_a_frame = (refl, refl)

pub beat-not_of_a_frame : IsOfKind kind_of.Frame (7 ∷ []) (0 ∷ 0 ∷ 0 ∷ 2 ∷ 3 ∷ 7 ∷ []) → ⊥
unfolding kind_in
beat-not_of_a_frame is = let e : Ok kind_of.Beat ≡ Ok kind_of.Frame = is.0 in absurd cc

abbrev text : List ℕ
text = 0 ∷ 0 ∷ 0 ∷ 110 ∷ 0 ∷ hello_text theirs

pub hello_in : IsHelloIn theirs text
unfolding kind_in hello_of greeting_at ends_at lives_at life_at kept_at promised_at ballot_at link_at
hello_in = (refl, refl)

-- of two records on a way the second has the next number
pub numbers_go_on : (way : Way) (one two : Piece) → (way_behind way (two ∷ one ∷ [])).number ≡ way.number + 1 + 1
numbers_go_on way one two = refl

pub pieces_in_order : bytes_of (record { kind = kind_of.Beat; body = []; bytes = 2 ∷ [] } ∷ record { kind = kind_of.Frame; body = []; bytes = 1 ∷ [] } ∷ []) ≡ 1 ∷ 2 ∷ []
pieces_in_order = refl

-- the caller's Hello is this side's, or the other's
pub called_by_theirs : (hellos_of Called mine theirs).caller ≡ theirs
called_by_theirs = refl

pub calls_them : (hellos_of Caller mine theirs).caller ≡ mine
calls_them = refl

pub who_was_dialled_is_called : role_of None ≡ Called
who_was_dialled_is_called = refl

pub who_dialled_calls : role_of (Some 1) ≡ Caller
who_dialled_calls = refl

-- the own Hello is written, and a byte behind it
pub own_hello_written : IsWritten mine (record_text (record_of.Hello mine) ++ 7 ∷ [])
own_hello_written = (7 ∷ [], refl)

none_in : (a b : List ℕ) → [] ≡ a ++ b → a ≡ []
none_in [] b e = refl
none_in (x ∷ a) b e = absurd cc

never_empty : (a : List ℕ) (x : ℕ) (b : List ℕ) → a ++ (x ∷ b) ≡ [] → ⊥
never_empty [] x b e = absurd cc
never_empty (y ∷ a) x b e = absurd cc

never_enveloped : (kind : Kind) (content : List ℕ) → enveloped kind content ≡ [] → ⊥
unfolding enveloped
never_enveloped kind content e = never_empty (big_bytes 4 (length content + 1)) (kind_byte kind) content e

-- where nothing was written it isn't
pub nothing_written : IsWritten mine [] → ⊥
nothing_written (more, e) = never_enveloped kind_of.Hello (hello_text mine) (none_in (record_text (record_of.Hello mine)) more e)

abbrev IsOfPeer : Heard → Type 0
IsOfPeer (heards.Frame found) = Unit {0}
IsOfPeer (heards.Beat beat) = Unit {0}
IsOfPeer (heards.Further further) = Unit {0}
IsOfPeer (heards.Hello hello) = ⊥
IsOfPeer (heards.Proved hello) = ⊥

abbrev left : Option Hello → List ℕ → Outgoing
left waits begun = record { hello = waits; proof = None; beat = None; more = None; frame = None; begun = record { items = begun }; written = 0 }

-- the own Hello waits, or something is unfinished, or neither
pub hello_waits : has_said_hello (left (Some mine) []) ≡ false
hello_waits = refl

pub hello_unfinished : has_said_hello (left None (7 ∷ [])) ≡ false
hello_unfinished = refl

pub hello_said : has_said_hello (left None []) ≡ true
hello_said = refl

-- where nothing came nothing was said
nothing_said : (kind : Kind) (body wrote : List ℕ) → SaysCoded key own 1 kind body (record { dialled = None; came = []; wrote = wrote }) → ⊥
unfolding kind_in
nothing_said kind body wrote says =
    let none : says.hello ≡ [] = none_in says.hello _ says.text in
    let e : kind_in [] ≡ Ok kind_of.Hello = subst (λ (t : List ℕ). kind_in t ≡ Ok kind_of.Hello) none says.hello_is.0 in absurd cc

-- no frame, no beat and no record of a further kind
pub nothing_told : (heard : Heard) (wrote : List ℕ) → IsOfPeer heard → HeardBy (Some key) own 1 heard (record { dialled = None; came = []; wrote = wrote }) → ⊥
nothing_told (heards.Frame found) wrote is says = nothing_said kind_of.Frame found.bytes.items wrote says
nothing_told (heards.Beat beat) wrote is (body, reading, says) = nothing_said kind_of.Beat body wrote says
nothing_told (heards.Further further) wrote is (more, says, reading) = nothing_said (kind_of.More more.kind) more.bytes.items wrote says
nothing_told (heards.Hello hello) wrote is says = is
nothing_told (heards.Proved hello) wrote is says = is

-- ---- without codes

plain_unsaid : (last : Record) (wrote : List ℕ) → SaysPlain own 1 last None [] → ⊥
plain_unsaid last wrote says = never_enveloped kind_of.Hello (hello_text says.hello) (none_in (record_text (record_of.Hello says.hello)) _ says.text)

pub nothing_heard : (heard : Heard) (wrote : List ℕ) → IsOfPeer heard → HeardBy None own 1 heard (record { dialled = None; came = []; wrote = wrote }) → ⊥
nothing_heard (heards.Frame found) wrote is says = plain_unsaid (record_of.Frame found) wrote says
nothing_heard (heards.Beat beat) wrote is says = plain_unsaid (record_of.Beat beat) wrote says
nothing_heard (heards.Further further) wrote is (more, says, reading) = plain_unsaid (record_of.More more) wrote says
nothing_heard (heards.Hello hello) wrote is says = is
nothing_heard (heards.Proved hello) wrote is says = is

-- before anything was read all that came waits
pub nothing_read : PlainAt own None (1 ∷ 2 ∷ []) (1 ∷ 2 ∷ []) (phases.Greeting None)
nothing_read = refl

-- what came can't have gone
pub something_gone : PlainAt own None (1 ∷ []) [] (phases.Greeting None) → ⊥
something_gone e = absurd cc
