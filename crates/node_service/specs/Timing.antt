-- How what a process knows of time and of its seats is kept: since when it has a quorum, whether it slept, and how it looks at seats.
use Rattle.std.specs.Prelude.{◌≡◌, ℕ, zero, suc, ◌+◌, ◌-◌, ◌^◌, ◌<◌, min, Bool, false, not, ◌&&◌, if◌then◌else◌, Some, None, unwrap_or}
use Rattle.promise_store.specs.declared.disk.Disk.{Ghosts}
use Rattle.node_wires.specs.declared.wire.Wire.{Ghosts as OfWire}
use Rattle.dealer_world.specs.declared.event.Event.{Event}
use Rattle.dealer_world.specs.declared.event.Event.TheVariants as event
use Rattle.clockwork.specs.Openings.{looked}
use Rattle.clockwork.specs.SeatWatches.{looked_at}
use Rattle.clockwork.specs.Wakings.{passed, stood_since, is_awake}
use Rattle.clockwork.specs.Watches.{ticked_at}
use Rattle.clockwork.specs.declared.limits.TheConstants.{LONGEST_PATIENCE}
use Rattle.clockwork.specs.declared.opening.Opening.{Opening}
use Rattle.clockwork.specs.declared.seat_watch.Acts.{Acts}
use Rattle.clockwork.specs.declared.seat_watch.SeatLook.{SeatLook}
use Rattle.clockwork.specs.declared.seat_watch.SeatWatch.{SeatWatch}
use Rattle.clockwork.specs.declared.waking.Waking.{Waking}
use Rattle.clockwork.specs.declared.watch.Watch.{Watch}
use Rattle.node_service.specs.Acts.{acts_at}
use Rattle.node_service.specs.Knowing.{moment_of, seen_at, stood_of, players_of}
use Rattle.node_service.specs.Serving.{nodes_of}
use Rattle.node_service.specs.declared.limits.TheConstants.{CALLERS}
use Rattle.node_service.specs.Unread.{slept_in}
use Rattle.node_service.specs.declared.unread.Unread.{Unread}
use Rattle.node_service.specs.Watching.{watch_at, was_taken, seen_at_node, have_come_below}
use Rattle.node_service.specs.declared.server.NodeServer.{NodeServer}
use Rattle.node_service.specs.declared.turn_timer.TurnTimer.{TurnTimer}

-- ---- the timer

abbrev pub timer_of : ℕ → TurnTimer
timer_of now = record { is_quorate = false; quorate_since = now; ordered = None }

-- a quorum counts from when it is there without a break
abbrev pub stood_at : TurnTimer → (quorate : Bool) → ℕ → TurnTimer
stood_at timer quorate now = record {
  is_quorate = quorate;
  quorate_since = if quorate && not timer.is_quorate then now else timer.quorate_since;
  ordered = timer.ordered;
}

-- ---- its sleep

-- of what those took who dialled, and of what those took who came to seats, up to 25 ms isn't sleep, as calls aren't
abbrev pub with_callers : (in_calls took : ℕ) → ℕ
with_callers in_calls took = min (in_calls + min took CALLERS) (2 ^ 64 - 1)

module _ {D W : Type 0} {disk : Ghosts D} {wire : OfWire W} where
  -- what went by until now beyond calls and a wait of so long was slept through, of the time for which the table has stood
  abbrev pub marked_at : NodeServer D W disk wire → (now most : ℕ) → Waking
  marked_at server now most = passed (stood_since server.waking (stood_of server)) (now - server.marked - server.in_calls - most)

  -- and by the same what was read since
  abbrev pub unread_at : NodeServer D W disk wire → (now most : ℕ) → Unread
  unread_at server now most = slept_in server.unread (now - server.marked - server.in_calls - most)

  -- a tick and an order are of the moment of the last look at what is due
  abbrev pub watch_given : NodeServer D W disk wire → Event → Watch
  watch_given server (event.Tick node) = ticked_at server.watch (moment_of server)
  watch_given server (event.Away node) = server.watch
  watch_given server (event.Frame from to bytes) = server.watch
  watch_given server (event.Line node seat bytes) = server.watch
  watch_given server (event.Connect node seat) = server.watch
  watch_given server (event.Drop node seat) = server.watch
  watch_given server (event.Stop node pick) = server.watch
  watch_given server (event.Start node) = server.watch

  abbrev pub timer_given : NodeServer D W disk wire → Event → TurnTimer
  timer_given server (event.Away node) = record server.turn_timer { ordered = Some (moment_of server) }
  timer_given server (event.Tick node) = server.turn_timer
  timer_given server (event.Frame from to bytes) = server.turn_timer
  timer_given server (event.Line node seat bytes) = server.turn_timer
  timer_given server (event.Connect node seat) = server.turn_timer
  timer_given server (event.Drop node seat) = server.turn_timer
  timer_given server (event.Stop node pick) = server.turn_timer
  timer_given server (event.Start node) = server.turn_timer

  -- ---- its looks at seats

  -- a seat was looked at, at each node of a lower number than this
  abbrev pub seen_below : NodeServer D W disk wire → (seat now : ℕ) → ℕ → SeatWatch
  seen_below server seat now zero = watch_at server.seat_watches seat
  seen_below server seat now (suc number) = seen_at_node (seen_below server seat now number) number (seen_at server seat now number) server.watch.moved now

  -- at each node of the match, and by what the list says of its acts
  abbrev pub seen_by : NodeServer D W disk wire → ℕ → Acts → SeatLook → SeatWatch
  seen_by server seat acts seen = looked_at (seen_below server seat seen.now (nodes_of server)) acts seen

  -- a look at this moment: that a seat sits nowhere is known where the node has a quorum and is awake
  abbrev pub look_at : NodeServer D W disk wire → ℕ → SeatLook
  look_at server now = record {
    quorate = server.turn_timer.is_quorate && is_awake server.waking (nodes_of server);
    gives_up = server.desk.member.terms.gives_up;
    patience = min (unwrap_or server.desk.member.terms.patience LONGEST_PATIENCE) LONGEST_PATIENCE;
    now = now;
  }

  -- of what a look goes by nothing changes but what is kept of seats
  pub record KeepsRest (old new : NodeServer D W disk wire) : Type 0 where
    pub desk : new.desk ≡ old.desk
    pub watch : new.watch ≡ old.watch
    pub reports : new.reports ≡ old.reports
    pub silence : new.silence ≡ old.silence
    pub turn_timer : new.turn_timer ≡ old.turn_timer
    pub acts : new.acts ≡ old.acts
    pub opening : new.opening ≡ old.opening
    pub waking : new.waking ≡ old.waking

  -- each seat of the match is looked at
  pub record LooksAtSeats (seen : SeatLook) (old new : NodeServer D W disk wire) : Type 0 where
    pub same : KeepsRest old new
    pub seats : (seat : ℕ) → seat < players_of old → watch_at new.seat_watches seat ≡ seen_by old seat (acts_at old.acts.all seat) seen
    pub taken : (seat : ℕ) → was_taken new.seat_watches seat ≡ false

  -- seats are played for once each has come, as far as it was looked at, or was waited for long enough
  abbrev pub opened_at : NodeServer D W disk wire → ℕ → Opening
  opened_at server now = looked server.opening server.turn_timer.is_quorate (have_come_below server.seat_watches (players_of server)) server.desk.member.terms.start now
