-- What came over the lines of node 0 of three, and what is told of it, on values.
use Rattle.std.proofs.Common.{◌≡◌, inl, inr, ℕ, List, [], ◌∷◌, ◌++◌, replicate, Option, Some, None, refl, ap, arith, lit<, lit≤}
use Rattle.peer_codes.specs.declared.frame.Frame.{Frame}
use Rattle.peer_codes.specs.declared.version.Version.TheVariants.{First}
use Rattle.peer_codes.specs.declared.hello.Hello.{Hello}
use Rattle.peer_codes.specs.declared.hello.Link.TheVariants.{Plain, Coded}
use Rattle.peer_codes.specs.declared.records.Record.TheVariants as record_of
use Rattle.peer_codes.specs.Fits.{IsHello}
use Rattle.peer_codes.specs.Spelling.{record_text}
use Rattle.node_links.specs.declared.own.Own.{Own}
use Rattle.node_wires.specs.declared.line.Line.{Line}
use Rattle.node_wires.specs.declared.line.Line.TheVariants.{Peer, Caller, Seat, Guest, Asker}
use Rattle.node_wires.specs.Passages.{Passage, Began, Came, Wrote, Gave, Logged, Tried, Ended, Closed, Saw, Waited, Called}
use Rattle.node_peers.specs.declared.notice.Notice.TheVariants as notices
use Rattle.node_wires.specs.declared.way.Way.TheVariants.{Reading, Writing}
use Rattle.node_peers.specs.Adding.{IsOfPeers}
use Rattle.node_peers.specs.Lines.{line_at, dialled_over}
use Rattle.node_peers.specs.Hearing.{IsTold, talk_over}
use Rattle.node_peers.specs.Greeting.{IsOurs, coded_by, first_of}
use Rattle.node_peers.specs.Handing.{Is}
use Rattle.node_peers.specs.declared.peer.Peer.{Peer as OfPeer}
use Rattle.node_peers.specs.Knowing.{known_of, IsOfOne, lives_told}
use Rattle.node_peers.specs.Replacing.{IsClosed, Fades}
use Rattle.node_links.specs.declared.own.Known.TheVariants.{Nothing, One, Two}
use Rattle.peer_codes.specs.declared.hello.Life.{Life}

peer_first : line_at 6 ≡ Peer 6
peer_first = refl

peer_again : line_at 7 ≡ Peer 7
peer_again = refl

caller_behind : line_at 14 ≡ Caller 0
caller_behind = refl

peer_was_dialled : dialled_over (line_at 6) ≡ Some 6
peer_was_dialled = refl

-- over the second line to it too
peer_was_dialled_again : dialled_over (line_at 13) ≡ Some 6
peer_was_dialled_again = refl

caller_dialled : dialled_over (line_at 14) ≡ None
caller_dialled = refl

abbrev own : Own
own = record { number = 0; nodes = 3; digest = record { bytes = replicate 32 9 }; life = record { bytes = replicate 16 1 }; key = None }

-- node 1 says so to node 0
abbrev hello : Hello
hello = record {
  version = First;
  ends = record { from = 1; to = 0; nodes = 3 };
  digest = record { bytes = replicate 32 9 };
  life = record { bytes = replicate 16 2 };
  kept = None;
  promised = None;
  link = Plain;
}

hello_is : IsHello hello
hello_is = record {
  ends = record { most = lit≤ tt; from = lit< tt; to = lit< tt; apart = λ e. absurd cc };
  digest = refl;
  life = record { long = refl; some = refl };
  kept = tt;
  promised = tt;
  link = tt;
}

-- an Ask
abbrev ask : Frame
ask = record { bytes = record { items = 0 ∷ 0 ∷ 0 ∷ 6 ∷ 2 ∷ 7 ∷ 0 ∷ 0 ∷ 0 ∷ 1 ∷ [] } }

abbrev both : List ℕ
both = record_text (record_of.Hello hello) ++ (record_text (record_of.Frame ask) ++ [])

-- it dialled, and what it sent came in one piece
abbrev passed : List Passage
passed = Began (Caller 0) ∷ Came (Caller 0) both ∷ []

-- the Ask is told of node 1
ask_told : IsTold own passed (notices.Frame 1 ask)
ask_told =
    ∣ (record {
      place = 14;
      before = passed;
      since = [];
      passed_is = refl;
      says = record { hello = hello; is = hello_is; from_is = refl; takes = ([], refl); said = []; are = tt; last_is = record { least = lit≤ tt; most = lit≤ tt }; rest = []; text = refl };
    }) ∣₁

-- and node 1 is told to be there, whose life is kept
node_1_told : IsTold own passed (notices.Joined 1 (Some (record { bytes = replicate 16 2 })))
node_1_told =
    ∣ (record {
      hello = hello;
      from_is = refl;
      life_is = refl;
      opened = record { place = 14; before = passed; since = []; passed_is = refl; opens = record { is = hello_is; takes = ([], refl); rest = record_text (record_of.Frame ask) ++ []; text = refl } };
    }) ∣₁

-- what was written before a connection began is none of it
began_anew : talk_over (Wrote (Caller 0) (7 ∷ []) ∷ passed) (Caller 0) ≡ record { dialled = None; came = both; wrote = [] }
began_anew = refl

-- and what is written to another line is none either
written_there : talk_over (passed ++ Wrote (Caller 0) (7 ∷ []) ∷ Wrote (Caller 1) (8 ∷ []) ∷ []) (Caller 0) ≡ record { dialled = None; came = both; wrote = 7 ∷ [] }
written_there = refl

-- reads and writes that did nothing leave that, and so it stays behind a connection that is closed
closed_there : talk_over (passed ++ Wrote (Caller 0) (7 ∷ []) ∷ Tried (Caller 0) Reading ∷ Ended (Caller 0) Writing ∷ Closed (Caller 0) ∷ []) (Caller 0) ≡ record { dialled = None; came = both; wrote = 7 ∷ [] }
closed_there = refl

-- the lines of peers are closed, and of no seat
closes_peer : IsOfPeers (Closed (Peer 1))
closes_peer = tt

closes_no_seat : IsOfPeers (Closed (Seat 1)) → ⊥
closes_no_seat is = is

waits_never : IsOfPeers (Waited 0) → ⊥
waits_never is = is

-- ---- what is said first, and what was handed to peers

-- node 1 says it, not node 0
another_says_it : IsOurs own hello → ⊥
another_says_it is = omega (arith, is.from)

nonce_is_drawn : coded_by (Some (7 ∷ [])) ≡ Some (Coded (record { bytes = 7 ∷ [] }))
nonce_is_drawn = refl

none_drawn : coded_by None ≡ None
none_drawn = refl

first_is_kept : first_of None hello.life ≡ Some hello.life
first_is_kept = refl

no_second_is_told : first_of (Some own.life) hello.life ≡ None
no_second_is_told = refl

abbrev vote : List ℕ
vote = 65 ∷ []

handed_second : Is (Wrote (Peer 1) vote) (Wrote (Peer 2) vote ∷ Wrote (Peer 1) vote ∷ [])
handed_second = inr (inl refl)

abbrev number_of : Line → ℕ
number_of (Peer number) = number
number_of (Caller place) = 0
number_of (Seat number) = 0
number_of (Guest place) = 0
number_of (Asker place) = 0

abbrev to_whom : Passage → ℕ
to_whom (Wrote line bytes) = number_of line
to_whom (Began line) = 0
to_whom (Came line bytes) = 0
to_whom (Gave place seat) = 0
to_whom (Logged text) = 0
to_whom (Tried line way) = 0
to_whom (Ended line way) = 0
to_whom (Closed line) = 0
to_whom (Saw moment) = 0
to_whom (Waited most) = 0
to_whom Called = 0

-- what was handed to node 2 wasn't to node 1
handed_to_another : Is (Wrote (Peer 1) vote) (Wrote (Peer 2) vote ∷ []) → ⊥
handed_to_another (inl same) = omega (arith, ap to_whom same)
handed_to_another (inr never) = absurd never

-- ---- which lives are known, at node 0 of three: nodes 1 and 2 are there

abbrev life : ℕ → Life
life n = record { bytes = replicate 16 n }

-- no life is kept of it, and it tells this one of node 1
abbrev teller : OfPeer → ℕ → OfPeer
teller peer n = record peer { kept = None; told = None ∷ Some (life n) ∷ None ∷ [] }

-- nothing is known of this node, nothing is kept of node 1, and it tells its own life and node 2 this one
abbrev there : OfPeer → ℕ → List OfPeer
there peer n = record peer { kept = None; told = [] } ∷ teller peer 5 ∷ teller peer n ∷ []

one_is_known : (peer : OfPeer) → known_of own 1 (there peer 5) ≡ One (life 5)
one_is_known peer = refl

two_are_known : (peer : OfPeer) → known_of own 1 (there peer 6) ≡ Two
two_are_known peer = refl

nothing_is_known : (peer : OfPeer) → known_of own 2 (there peer 5) ≡ Nothing
nothing_is_known peer = refl

-- that of this node is its own
own_is_known : (peer : OfPeer) → known_of own 0 (there peer 5) ≡ One own.life
own_is_known peer = refl

-- what is kept counts as what is told
kept_is_another : (peer : OfPeer) → known_of own 1 (record peer { kept = None; told = [] } ∷ record (teller peer 5) { kept = Some (life 7) } ∷ []) ≡ Two
kept_is_another peer = refl

-- no frame of node 1 is told then
none_of_its_frames : (peer : OfPeer) → IsOfOne own (there peer 6) (notices.Frame 1 ask) → ⊥
none_of_its_frames peer is = is refl

frames_of_another : (peer : OfPeer) → IsOfOne own (there peer 6) (notices.Frame 2 ask)
frames_of_another peer e = absurd cc

-- its own life, that which is heard of node 1, and none of node 2
what_is_told : (peer : OfPeer) → lives_told own (there peer 6) ≡ record { nodes = 3; lives = Some own.life ∷ Some (life 5) ∷ None ∷ None ∷ None ∷ None ∷ None ∷ [] }
what_is_told peer = refl

-- ---- of which nodes no connection is open

-- two lives of node 1 are known, and this is the place by which it is there
abbrev with_open : OfPeer → Option ℕ → List OfPeer
with_open peer place = record peer { kept = None; told = [] } ∷ record (teller peer 5) { «open» = place } ∷ teller peer 6 ∷ []

is_closed : (peer : OfPeer) → IsClosed own (with_open peer None) 1
is_closed peer other is = refl

is_there : (peer : OfPeer) → IsClosed own (with_open peer (Some 7)) 1 → ⊥
is_there peer closed = let none = closed (λ e. absurd cc) refl in absurd (cc none)

-- by a call that only ends connections nobody comes
comes_anew : (peer : OfPeer) → Fades (record peer { «open» = None }) (record peer { «open» = Some 7 }) → ⊥
comes_anew peer fades = elim fades.place as (λ _. ⊥) [
  | inl same ↦ absurd (cc same)
  | inr none ↦ absurd (cc none)
]
