-- What records do to connections, and what connections write: some that open one, and near misses.
use Rattle.std.proofs.Common.{true, false, ◌≡◌, inl, inr, ℕ, List, [], ◌∷◌, ◌++◌, replicate, Option, Some, None, Err, refl, sym, ap, ◌∙◌}
use Rattle.peer_codes.specs.declared.fault.RecordFault.TheVariants.{BadLength, BadKind}
use Rattle.peer_codes.specs.declared.connection_fault.ConnectionFault.TheVariants as faults
use Rattle.peer_codes.specs.declared.version.Version.TheVariants.{First, Second}
use Rattle.peer_codes.specs.declared.hello.Link.{Link}
use Rattle.peer_codes.specs.declared.hello.Link.TheVariants.{Plain, Coded}
use Rattle.peer_codes.specs.declared.hello.Hello.{Hello}
use Rattle.peer_codes.specs.declared.records.Proof.{Proof}
use Rattle.peer_codes.specs.declared.frame.Frame.{Frame}
use Rattle.peer_codes.specs.declared.more.More.{More}
use Rattle.peer_codes.specs.declared.kind.Kind.TheVariants as kind_of
use Rattle.peer_codes.specs.declared.way.Way.{Way}
use Rattle.peer_codes.specs.declared.phase.Ways.{Ways}
use Rattle.peer_codes.specs.declared.phase.Phase.{Phase}
use Rattle.peer_codes.specs.declared.phase.Phase.TheVariants as phases
use Rattle.peer_codes.specs.declared.outgoing.Outgoing.{Outgoing}
use Rattle.peer_codes.specs.declared.connection.Connection.{Connection}
use Rattle.peer_codes.specs.Outgoings.{unwritten, later}
use Rattle.peer_codes.specs.Faults.{kind_in}
use Rattle.peer_codes.specs.Codes.{coded}
use Rattle.peer_codes.specs.Reading.{hello_of, greeting_at}
use Rattle.peer_codes.specs.Spelling.{enveloped, beat_text}
use Rattle.peer_codes.specs.declared.beat.Beat.{Beat}
use Rattle.peer_codes.specs.declared.fault.RecordFault.TheVariants.{BadHello}
use Rattle.peer_codes.proofs.HistoryLaws.{proof_happened}
use Rattle.peer_codes.specs.Steps.{closed, opened, only_coded, of_version, stepped, front_step}
use Rattle.peer_codes.specs.Connections.{answered, takes_more, begun_next}
use Rattle.peer_codes.specs.Histories.{Came, Answered, Said, phase_behind, IsProved}
use Rattle.peer_codes.specs.Beginning.{NothingBegun, BeatBegun, Begins}

abbrev key : List ℕ
key = replicate 32 7

abbrev way : ℕ → Way
way number = record { version = First; key = replicate 32 1; number = number; seal = record { key = []; stream = 0; word_pos = 0 } }

abbrev ways : Ways
ways = record { reading = way 3; writing = way 5 }

abbrev theirs : Proof
theirs = record { tag = replicate 32 1 }

abbrev hello : Link → Hello
hello link = record { version = First; ends = record { from = 1; to = 0; nodes = 3 }; digest = record { bytes = replicate 32 9 }; life = record { bytes = replicate 16 5 }; kept = None; promised = None; link = link }

-- ---- what records do

pub right_proof : stepped key (phases.Proving theirs ways) kind_of.Proof (replicate 32 1) ≡ opened ways
unfolding stepped
right_proof = refl

pub wrong_proof : stepped key (phases.Proving theirs ways) kind_of.Proof (replicate 31 1 ++ 2 ∷ []) ≡ closed faults.WrongProof
unfolding stepped
wrong_proof = refl

pub short_proof : stepped key (phases.Proving theirs ways) kind_of.Proof (replicate 31 1) ≡ closed (faults.Record BadLength)
unfolding stepped
short_proof = refl

pub frame_before_the_proof : stepped key (phases.Proving theirs ways) kind_of.Frame (replicate 42 1) ≡ closed faults.UnexpectedRecord
unfolding stepped
frame_before_the_proof = refl

pub proof_before_the_hello : stepped key (phases.Greeting None) kind_of.Proof (replicate 32 1) ≡ closed faults.UnexpectedRecord
unfolding stepped
proof_before_the_hello = refl

pub second_proof : stepped key (phases.Open ways) kind_of.Proof (replicate 32 1) ≡ closed faults.UnexpectedRecord
unfolding stepped
second_proof = refl

pub plain_hello-none : only_coded (Some (hello Plain)) ≡ None
plain_hello-none = refl

-- a further kind on a connection of the first version
pub more_on_the_first : stepped key (phases.Open ways) (kind_of.More 4) (replicate 40 1) ≡ closed (faults.Record BadKind)
unfolding stepped
more_on_the_first = refl

pub more_before_the_proof : stepped key (phases.Proving theirs ways) (kind_of.More 4) (replicate 40 1) ≡ closed (faults.Record BadKind)
unfolding stepped
more_before_the_proof = refl

-- who dialled takes a Hello of its own version, and none of another; the called takes both
abbrev second : Link → Hello
second link = record (hello link) { version = Second }

pub other_version-none : of_version (Some (hello Plain)) (Some (second Plain)) ≡ None
other_version-none = refl

pub its_own_version : of_version (Some (second Plain)) (Some (second Plain)) ≡ Some (second Plain)
its_own_version = refl

pub called_in_any_version : of_version None (Some (second Plain)) ≡ Some (second Plain)
called_in_any_version = refl

-- nor is another Hello taken on one that is open
pub second_hello : stepped key (phases.Open ways) kind_of.Hello (replicate 109 1) ≡ closed faults.UnexpectedRecord
unfolding stepped
second_hello = refl

pub coded_hello : only_coded (Some (hello (Coded (record { bytes = replicate 32 8 })))) ≡ Some (hello (Coded (record { bytes = replicate 32 8 })))
coded_hello = refl

-- ---- histories

pub nothing_happened : phase_behind key None [] ≡ phases.Greeting None
nothing_happened = refl

-- a record of a kind that there isn't closes it, and what comes then changes nothing
pub unknown_kind : phase_behind key None (Came (0 ∷ 0 ∷ 0 ∷ 1 ∷ 3 ∷ []) ∷ Came (0 ∷ 0 ∷ 0 ∷ 1 ∷ 108 ∷ []) ∷ []) ≡ phases.Closed (faults.Record BadKind)
unfolding front_step stepped kind_in
unknown_kind = refl

-- and so does one of a further kind that comes before it is open
pub early_kind : phase_behind key None (Came (0 ∷ 0 ∷ 0 ∷ 1 ∷ 4 ∷ []) ∷ []) ≡ phases.Closed (faults.Record BadKind)
unfolding front_step stepped kind_in
early_kind = refl

-- nobody answers whom nobody called, and nothing is coded then
pub answered_too_early : phase_behind key None (Said 10 ∷ Answered (hello Plain) ∷ []) ≡ phases.Greeting None
answered_too_early = refl

pub no_proof-none : IsProved key None (Said 10 ∷ Answered (hello Plain) ∷ []) ways → ⊥
no_proof-none is = elim (proof_happened key None (Said 10 ∷ Answered (hello Plain) ∷ []) ways is) [ inl none ↦ none | inr none ↦ elim none [ inl none ↦ none | inr none ↦ none ] ]

-- ---- what is written

abbrev ask : Frame
ask = record { bytes = record { items = 0 ∷ 0 ∷ 0 ∷ 6 ∷ 2 ∷ 7 ∷ 0 ∷ 0 ∷ 0 ∷ 1 ∷ [] } }

abbrev out : Option Frame → List ℕ → ℕ → Outgoing
out frame begun written = record { hello = None; proof = None; beat = None; more = None; frame = frame; begun = record { items = begun }; written = written }

abbrev connection : Phase → Outgoing → Connection
connection phase outgoing = record { key = record { bytes = key }; phase = phase; came = record { waiting = []; room = 0 }; out = outgoing }

pub half_is_written : unwritten (out None (1 ∷ 2 ∷ 3 ∷ 4 ∷ []) 3) ≡ 4 ∷ []
half_is_written = refl

pub earlier_proof_stays : later (Some theirs) None ≡ Some theirs
earlier_proof_stays = refl

-- a frame waits, uncoded, while a record is unfinished
pub unfinished_first : begun_next (connection (phases.Open ways) (out (Some ask) (1 ∷ 2 ∷ []) 1)) ≡ connection (phases.Open ways) (out (Some ask) (1 ∷ 2 ∷ []) 1)
unfolding begun_next
unfinished_first = refl

-- and before the connection is open
pub not_open_yet : begun_next (connection (phases.Proving theirs ways) (out (Some ask) (1 ∷ 2 ∷ []) 2)) ≡ connection (phases.Proving theirs ways) (out (Some ask) (1 ∷ 2 ∷ []) 2)
unfolding begun_next
not_open_yet = refl

-- once it is, it has the way's number, and the next has the next
pub coded_once : (begun_next (connection (phases.Open ways) (out (Some ask) (1 ∷ 2 ∷ []) 2))).out.frame ≡ None
unfolding begun_next
coded_once = refl

abbrev number_of : Phase → ℕ
number_of (phases.Open both) = both.writing.number
number_of (phases.Greeting own) = 0
number_of (phases.Asked caller) = 0
number_of (phases.Proving awaited both) = 0
number_of phases.Refused = 0
number_of (phases.Closed fault) = 0

pub number_went_on : number_of (begun_next (connection (phases.Open ways) (out (Some ask) [] 0))).phase ≡ 6
unfolding begun_next
number_went_on = refl

-- what is begun is coded, under the own way and its number
pub begun_frame : (begun_next (connection (phases.Open ways) (out (Some ask) [] 0))).out.begun.items ≡ coded (way 5) kind_of.Frame ask.bytes.items
unfolding begun_next
begun_frame = refl

abbrev beat : Beat
beat = record { number = 1; got = 0; front = 37; campaigns = true; over = false; seats = 5 }

abbrev further : More
further = record { kind = 4; bytes = record { items = 1 ∷ 2 ∷ [] } }

abbrev both : Outgoing
both = record { hello = None; proof = None; beat = Some beat; more = Some further; frame = Some ask; begun = record { items = [] }; written = 0 }

-- the beat goes first, and the frame waits
pub begun_beat : (begun_next (connection (phases.Open ways) both)).out.begun.items ≡ coded (way 5) kind_of.Beat (beat_text beat)
unfolding begun_next
begun_beat = refl

pub more_waits : (begun_next (connection (phases.Open ways) both)).out.more ≡ Some further
unfolding begun_next
more_waits = refl

-- the record of a further kind next
pub begun_more : (begun_next (connection (phases.Open ways) (record both { beat = None }))).out.begun.items ≡ coded (way 5) (kind_of.More 4) (1 ∷ 2 ∷ [])
unfolding begun_next
begun_more = refl

-- none is taken on a connection of the first version, nor where one waits, nor before it is open
abbrev second_way : Way
second_way = record (way 3) { version = Second }

pub taken_on_the_second : takes_more (phases.Open (record { reading = second_way; writing = second_way })) None 4 ≡ true
taken_on_the_second = refl

pub on_the_first-not_taken : takes_more (phases.Open ways) None 4 ≡ false
on_the_first-not_taken = refl

pub beat_as_more-not_taken : takes_more (phases.Open (record { reading = second_way; writing = second_way })) None 3 ≡ false
beat_as_more-not_taken = refl

pub second_more-not_taken : takes_more (phases.Open (record { reading = second_way; writing = second_way })) (Some further) 4 ≡ false
second_more-not_taken = refl

pub before_it_is_open-not_taken : takes_more (phases.Proving theirs (record { reading = second_way; writing = second_way })) None 4 ≡ false
before_it_is_open-not_taken = refl

pub frame_waits : (begun_next (connection (phases.Open ways) both)).out.frame ≡ Some ask
unfolding begun_next
frame_waits = refl

-- nothing is coded on one that is closed, nor where no number is left
pub closed_begins_nothing : begun_next (connection (phases.Closed faults.WrongTag) both) ≡ connection (phases.Closed faults.WrongTag) both
unfolding begun_next
closed_begins_nothing = refl

abbrev last_ways : Ways
last_ways = record { reading = way 3; writing = way 18446744073709551615 }

pub no_number_left : begun_next (connection (phases.Open last_ways) both) ≡ connection (phases.Open last_ways) both
unfolding begun_next
no_number_left = refl

-- no bytes are no Hello: the caller said its own and is closed, the called may still say its own, once
pub nothing_as_a_hello : stepped key (phases.Greeting (Some (hello Plain))) kind_of.Hello [] ≡ closed (faults.Record BadHello)
unfolding stepped hello_of greeting_at
nothing_as_a_hello = refl

pub nothing_to_the_called : stepped key (phases.Greeting None) kind_of.Hello [] ≡ record { phase = phases.Refused; proof = None; event = Err (faults.Record BadHello) }
unfolding stepped hello_of greeting_at
nothing_to_the_called = refl

abbrev idle : Outgoing
idle = out None [] 0

pub refused_answers : answered phases.Refused (hello Plain) (connection phases.Refused idle) ≡ connection (phases.Closed (faults.Record BadHello)) (record idle { hello = Some (hello Plain) })
refused_answers = refl

-- who called in another version hears the own Hello alone
pub other_version_is_turned_away : answered (phases.Asked (second Plain)) (hello Plain) (connection (phases.Asked (second Plain)) idle)
    ≡ connection (phases.Closed (faults.Record BadHello)) (record idle { hello = Some (hello Plain) })
other_version_is_turned_away = refl

pub closed_answers_nothing : answered (phases.Closed (faults.Record BadHello)) (hello Plain) (connection (phases.Closed (faults.Record BadHello)) idle) ≡ connection (phases.Closed (faults.Record BadHello)) idle
closed_answers_nothing = refl

-- no call that begins a record opens the connection
pub opens_itself-none : (o : Outgoing) → Begins (connection (phases.Proving theirs ways) o) (connection (phases.Open ways) o) → ⊥
opens_itself-none o h = elim h [
  | inl nothing ↦ let e : ◌≡◌ {A = Phase} (phases.Open ways) (phases.Proving theirs ways) = nothing.phase in absurd cc
  | inr own ↦
      elim own [
        | inl hello ↦ let e : ◌≡◌ {A = Phase} (phases.Open ways) (phases.Proving theirs ways) = hello.phase in absurd cc
        | inr behind ↦
            elim behind [
              | inl proof ↦ let e : ◌≡◌ {A = Phase} (phases.Open ways) (phases.Proving theirs ways) = proof.phase in absurd cc
              | inr coded ↦
                  elim coded [
                    | inl beat ↦ let e : ◌≡◌ {A = Phase} (phases.Proving theirs ways) (phases.Open beat.begun.ways) = beat.begun.open_was in absurd cc
                    | inr behind_it ↦
                        elim behind_it [
                          | inl more ↦ let e : ◌≡◌ {A = Phase} (phases.Proving theirs ways) (phases.Open more.begun.ways) = more.begun.open_was in absurd cc
                          | inr frame ↦ let e : ◌≡◌ {A = Phase} (phases.Proving theirs ways) (phases.Open frame.begun.ways) = frame.begun.open_was in absurd cc
                        ]
                  ]
            ]
      ]
]

-- what is said waits no longer
pub said_again-none : (new : Connection) → new.out.beat ≡ Some beat → BeatBegun (connection (phases.Open ways) both) new → ⊥
said_again-none new waits h =
    let e : ◌≡◌ {A = Option Beat} None (Some beat) = sym (ap (λ (o : Outgoing). o.beat) h.begun.begun.out) ∙ waits in
    absurd cc

-- nor is a frame begun uncoded on one that is open
pub uncoded-none : NothingBegun (connection (phases.Open ways) (out (Some ask) [] 0)) (connection (phases.Open ways) (out None (enveloped kind_of.Frame ask.bytes.items) 0)) → ⊥
uncoded-none h = let e : ◌≡◌ {A = Option Frame} None (Some ask) = ap (λ (o : Outgoing). o.frame) h.out in absurd cc
