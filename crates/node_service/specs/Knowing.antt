-- What a process knows of its peers and of the seat to act, and what is due by that.
use Rattle.std.specs.Prelude.{◌≡◌, ℕ, zero, suc, ◌+◌, ◌-◌, ◌*◌, ◌%◌, ◌^◌, ◌==◌, ◌&&◌, not, min, max, nat_lt, nat_le, if◌then◌else◌, bit_and, slice_get, Bool, true, false, List, [], ◌∷◌, ◌++◌, length, Option, Some, None}
use Rattle.std.specs.Borrow.{Bor}
use Rattle.promise_store.specs.declared.disk.Disk.{Ghosts}
use Rattle.paxos_wire.specs.declared.ballot.Ballot.{Ballot}
use Rattle.betting.specs.Rounds.{to_act, turns}
use Rattle.game_def.specs.Game.{Game}
use Rattle.slot_log.specs.Hand.{Hand, Match}
use Rattle.slot_log.specs.declared.command.Command.{Command}
use Rattle.slot_log.specs.declared.command.Command.TheVariants as command
use Rattle.slot_log.specs.Dealer.{hand_at}
use Rattle.dealer_node.specs.Nodes.{Node}
use Rattle.dealer_node.specs.Seeing.{table_in, pending_in}
use Rattle.dealer_world.specs.declared.event.Event.{Event}
use Rattle.dealer_world.specs.declared.event.Event.TheVariants as event
use Rattle.clockwork.specs.Dues.{due_of}
use Rattle.clockwork.specs.Measuring.{lately}
use Rattle.clockwork.specs.Openings.{is_open, stood_open}
use Rattle.clockwork.specs.Orders.{order_due_of}
use Rattle.clockwork.specs.SeatWatches.{since_of, turns_of}
use Rattle.clockwork.specs.Silence.{is_heard}
use Rattle.clockwork.specs.Wakings.{is_awake}
use Rattle.clockwork.specs.Watches.{known_of}
use Rattle.clockwork.specs.declared.action_timeout.Awaited.{Awaited}
use Rattle.clockwork.specs.declared.answer.Due.TheVariants.{Now}
use Rattle.clockwork.specs.declared.known.Link.{Link}
use Rattle.clockwork.specs.declared.known.Link.TheVariants.{Closed, Open}
use Rattle.clockwork.specs.declared.known.Peer.{Peer}
use Rattle.clockwork.specs.declared.known.PeerReport.{PeerReport}
use Rattle.clockwork.specs.declared.limits.TheConstants.{LATEST, LONGEST_PATIENCE, MOST_PEERS}
use Rattle.clockwork.specs.declared.order.Expected.{Expected}
use Rattle.clockwork.specs.declared.seat_watch.At.{At}
use Rattle.clockwork.specs.declared.watch.Seen.{Seen}
use Rattle.node_links.specs.Owing.{serves}
use Rattle.node_links.specs.declared.owed.Question.{Question}
use Rattle.node_peers.specs.Viewing.{view_of}
use Rattle.node_peers.specs.declared.view.View.{View}
use Rattle.node_seats.specs.Crowding.{crowded_at}
use Rattle.node_seats.specs.Seating.{is_here_at}
use Rattle.node_wires.specs.declared.wire.Wire.{Ghosts as OfWire}
use Rattle.stations.specs.Looking.{look_of}
use Rattle.node_service.specs.Serving.{nodes_of, ending_in}
use Rattle.node_service.specs.declared.outcome.Outcome.TheVariants.{GoesOn}
use Rattle.node_service.specs.Watching.{watch_at, was_taken, here_of, there_of}
use Rattle.node_service.specs.declared.limits.TheConstants.{SEATS}
use Rattle.node_service.specs.declared.peer_reports.LastReport.{LastReport}
use Rattle.node_service.specs.declared.peer_reports.PeerReports.{PeerReports}
use Rattle.node_service.specs.declared.server.NodeServer.{NodeServer}

-- ---- peers

-- what a peer told last over its open connection
abbrev pub beat_in : Option LastReport → Option PeerReport
beat_in None = None
beat_in (Some report) = report.beat

-- its connection, as it is seen
abbrev pub link_by : View → Option PeerReport → Bool → Link
link_by view beat is_owed =
    if not view.is_open then Closed view.since
    else Open (record { opened = view.since; heard = view.heard; unanswered = is_owed; beat = beat })

abbrev pub peer_by : PeerReports → ℕ → View → Bool → ℕ → Peer
peer_by reports number view is_owed now =
    record { number = number; accepted = view.accepted; longest = lately view.measured now; link = link_by view (beat_in (slice_get reports.all number)) is_owed }

-- it owes an answer from before its connection opened that would still serve a node of which this is seen, in this ballot
abbrev pub is_owed_by : Option Question → Seen → Option Ballot → Bool
is_owed_by None seen leader = false
is_owed_by (Some asked) seen leader = seen.campaigns && serves asked leader seen.front

-- one more is listed, while there is a place
abbrev pub with_one : List Peer → Option Peer → List Peer
with_one peers None = peers
with_one peers (Some peer) = if nat_lt (length peers) MOST_PEERS then peers ++ peer ∷ [] else peers

-- ---- seats

-- whether the bit of a number is set
abbrev pub has_bit : ℕ → ℕ → Bool
has_bit bits number = not (bit_and bits (1 * 2 ^ number % 2 ^ 16) == 0)

-- a peer told that a bot sits there at this seat
abbrev pub tells_seat : Option LastReport → ℕ → Bool
tells_seat None seat = false
tells_seat (Some report) seat = nat_lt seat 16 && has_bit report.seats seat

-- a peer that is seen so is there: its connection is open, and it wasn't silent for so long
abbrev pub is_there : Option View → ℕ → ℕ → Bool
is_there None now silence = false
is_there (Some view) now silence = view.is_open && is_heard view.heard now silence

-- when it was last ordered, where that was since the front moved
abbrev pub ordered_since : Option ℕ → ℕ → Option ℕ
ordered_since None moved = None
ordered_since (Some moment) moved = if nat_le moved moment then Some moment else None

-- the seat to act at a table; none where no hand runs
abbrev pub seat_by : ℕ → ℕ → Option ℕ → Option ℕ
seat_by hand players None = None
seat_by hand players (Some position) = Some ((position + hand) % players)

abbrev pub seat_in_hand : Game → ℕ → Option Hand → Option ℕ
seat_in_hand game hand None = None
seat_in_hand game hand (Some found) = seat_by hand game.players (to_act game (turns game found.past))

abbrev pub seat_to_act : Match → Option ℕ
seat_to_act table = if length table.hands == 0 then None else seat_in_hand table.game (length table.hands - 1) (hand_at table.hands (length table.hands - 1))

-- by the node's table this seat is to act
abbrev pub IsToAct : {D : Type 0} → Node D → ℕ → Type 0
IsToAct node seat = seat_to_act (table_in node) ≡ Some seat

-- no seat is
abbrev pub IsNobodyToAct : {D : Type 0} → Node D → Type 0
IsNobodyToAct node = seat_to_act (table_in node) ≡ None

-- whether what waits is an act that a seat said itself
abbrev pub is_own : Option Command → Bool
is_own None = false
is_own (Some (command.Deal hand deal)) = false
is_own (Some (command.Act hand index action)) = true
is_own (Some (command.Away hand index)) = false

-- a moment, 0 where there was none
abbrev pub moment_or_none : Option ℕ → ℕ
moment_or_none None = 0
moment_or_none (Some moment) = moment

-- ---- what is due

module _ {D W : Type 0} {disk : Ghosts D} {wire : OfWire W} where
  abbrev pub number_of : NodeServer D W disk wire → ℕ
  number_of server = (look_of server.desk.member.station).number

  -- the moment at which it last looked at the clock for what is due
  abbrev pub moment_of : NodeServer D W disk wire → ℕ
  moment_of server = min server.looked LATEST

  -- another node as it is seen; none is of this one's own number
  abbrev pub seen_other : NodeServer D W disk wire → ℕ → Option View → Option Peer
  seen_other server number None = None
  seen_other server number (Some view) = Some (peer_by server.reports number view (is_owed_by view.unanswered server.watch.seen server.leader) (moment_of server))

  abbrev pub other_at : NodeServer D W disk wire → ℕ → Option Peer
  other_at server number = if number == number_of server then None else seen_other server number (view_of server.desk.company.peers number)

  -- those of them with lower numbers than this
  abbrev pub others_below : NodeServer D W disk wire → ℕ → List Peer
  others_below server zero = []
  others_below server (suc number) = with_one (others_below server number) (other_at server number)

  -- all of them
  abbrev pub others_of : NodeServer D W disk wire → List Peer
  others_of server = others_below server (nodes_of server)

  -- a tick is due by what it knows: of its node by its watch, of the others by these, at the moment of its last look
  pub record IsTickDue (server : NodeServer D W disk wire) : Type 0 where
    pub others : Bor (List Peer)
    pub all : others.now ≡ others_of server
    pub due : due_of (known_of server.watch (number_of server) others (moment_of server)) ≡ Now

  -- how many seats the match has
  abbrev pub players_of : NodeServer D W disk wire → ℕ
  players_of server = (look_of server.desk.member.station).config.setting.game.players

  -- whether a bot sits here at a seat, that doesn't still wait for the line that it named; at a node that is apart none does
  abbrev pub sits_here : NodeServer D W disk wire → ℕ → Bool
  sits_here server seat = nat_lt seat SEATS && not server.desk.apart.is_apart && is_here_at server.desk.seats.seats.items seat

  -- whether one does at a peer, as far as that is there and has told
  abbrev pub sits_at_peer : NodeServer D W disk wire → ℕ → ℕ → ℕ → Bool
  sits_at_peer server seat now number = is_there (view_of server.desk.company.peers number) now server.silence && tells_seat (slice_get server.reports.all number) seat

  -- at how many of those with lower numbers than this
  abbrev pub sits_below : NodeServer D W disk wire → ℕ → ℕ → ℕ → ℕ
  sits_below server seat now zero = 0
  sits_below server seat now (suc number) = if sits_at_peer server seat now number then sits_below server seat now number + 1 else sits_below server seat now number

  -- how many nodes come before it where this seat is to be played for
  abbrev pub rank_for : NodeServer D W disk wire → ℕ → ℕ
  rank_for server seat = if sits_here server seat then sits_below server seat (moment_of server) (number_of server) else server.rank

  -- how a seat is seen at another node: gone where that isn't there
  abbrev pub seen_there : NodeServer D W disk wire → ℕ → ℕ → ℕ → At
  seen_there server seat now number = there_of (is_there (view_of server.desk.company.peers number) now server.silence) (tells_seat (slice_get server.reports.all number) seat)

  -- and at each node of the match
  abbrev pub seen_at : NodeServer D W disk wire → ℕ → ℕ → ℕ → At
  seen_at server seat now number = if number == number_of server then here_of (was_taken server.seat_watches seat) (sits_here server seat) else seen_there server seat now number

  -- since when the table has stood: its front moved, the node became quorate, the process began, and seats began to be played for
  abbrev pub stood_of : NodeServer D W disk wire → ℕ
  stood_of server = stood_open server.opening (max server.watch.moved server.turn_timer.quorate_since)

  -- what it knows of a seat, where one may hold the table for so long
  abbrev pub awaited_of : NodeServer D W disk wire → ℕ → ℕ → Awaited
  awaited_of server seat patience = record {
    time = moment_of server;
    patience = min patience LONGEST_PATIENCE;
    over = server.watch.seen.over;
    hand_runs = server.watch.seen.hand_runs;
    quorate = server.turn_timer.is_quorate;
    replays = server.replays;
    sits_here = sits_here server seat;
    sits_elsewhere = nat_lt 0 (sits_below server seat (moment_of server) (nodes_of server));
    rank = min (rank_for server seat) MOST_PEERS;
    since = since_of (watch_at server.seat_watches seat).places (stood_of server);
    ordered = ordered_since server.turn_timer.ordered server.watch.moved;
  }

  -- and of itself and the match
  abbrev pub expected_of : NodeServer D W disk wire → ℕ → ℕ → Expected
  expected_of server seat patience = record {
    awaited = awaited_of server seat patience;
    is_awake = is_awake server.waking (nodes_of server);
    is_open = is_open server.opening;
    turns = turns_of (watch_at server.seat_watches seat);
    stood = stood_of server;
    slept = server.waking.slept;
    nodes = nodes_of server;
    crowded = moment_or_none (crowded_at server.desk.seats.crowds seat);
  }

  -- this is what it knows of this seat, which is to act, in a match in which one that does nothing is played for, in a turn in which it read what came of seats
  pub record IsExpected (server : NodeServer D W disk wire) (seat : ℕ) (expected : Expected) : Type 0 where
    pub patience : ℕ
    pub most : server.desk.member.terms.patience ≡ Some patience
    pub acts : IsToAct (look_of server.desk.member.station).node seat
    pub heard : server.has_read_seats ≡ true
    pub is : expected ≡ expected_of server seat patience

  -- an act that a seat said itself waits at its node
  abbrev pub HasOwnAct : NodeServer D W disk wire → Type 0
  HasOwnAct server = is_own (pending_in (look_of server.desk.member.station).node) ≡ true

  -- nobody is played for: the process is to end, what came of seats wasn't read, an own act waits, nobody is in this match, or no seat is to act
  pub data IsNobodyExpected (server : NodeServer D W disk wire) : Type 0 where
    ends : (ending_in server ≡ GoesOn → ⊥) → IsNobodyExpected server
    unread : server.has_read_seats ≡ false → IsNobodyExpected server
    acted : HasOwnAct server → IsNobodyExpected server
    patient : server.desk.member.terms.patience ≡ None → IsNobodyExpected server
    idle : IsNobodyToAct (look_of server.desk.member.station).node → IsNobodyExpected server

  -- that the seat to act is played for is due by what it knows
  pub record IsAwayDue (server : NodeServer D W disk wire) : Type 0 where
    pub seat : ℕ
    pub expected : Expected
    pub known : IsExpected server seat expected
    pub due : order_due_of expected ≡ Now

  -- what a process gives to its node: a start once and never a stop, a tick and an order that a seat is played for only where they are due
  abbrev pub MayCall : NodeServer D W disk wire → Event → Type 0
  MayCall server (event.Start node) = server.desk.member.is_started ≡ false
  MayCall server (event.Stop node pick) = ⊥
  MayCall server (event.Tick node) = IsTickDue server
  MayCall server (event.Away node) = IsAwayDue server
  MayCall server (event.Frame from to bytes) = Unit {0}
  MayCall server (event.Line node seat bytes) = Unit {0}
  MayCall server (event.Connect node seat) = Unit {0}
  MayCall server (event.Drop node seat) = Unit {0}
