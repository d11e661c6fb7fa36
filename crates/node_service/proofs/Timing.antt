-- How a seat is looked at, node after node, and seat after seat.
use Rattle.std.proofs.Common.{◌≡◌, inl, inr, ℕ, zero, suc, ◌+◌, ◌<◌, ◌≤◌, ◌∙◌, refl, sym, ap, subst, add-one, arith}
use Rattle.std.proofs.lemmas.Bool.{cases_eq}
use Rattle.std.specs.Prelude.{min, length}
use Rattle.promise_store.specs.declared.disk.Disk.{Ghosts}
use Rattle.node_wires.specs.declared.wire.Wire.{Ghosts as OfWire}
use Rattle.clockwork.specs.declared.seat_watch.At.{At}
use Rattle.clockwork.specs.SeatWatches.{looked_at}
use Rattle.clockwork.specs.declared.seat_watch.SeatLook.{SeatLook}
use Rattle.clockwork.specs.declared.seat_watch.SeatWatch.{SeatWatch}
use Rattle.clockwork.specs.declared.watch.Watch.{Watch}
use Rattle.stations.specs.Looking.{look_of}
use Rattle.node_service.specs.Acts.{acts_at}
use Rattle.node_service.specs.Serving.{nodes_of}
use Rattle.node_service.specs.declared.desk.Desk.{Desk}
use Rattle.node_service.specs.declared.limits.TheConstants.{NODES}
use Rattle.node_service.specs.declared.seat_acts.SeatActs.{SeatActs}
use Rattle.node_service.specs.declared.seat_watches.SeatWatches.{SeatWatches}
use Rattle.node_service.specs.declared.server.NodeServer.{NodeServer}
use Rattle.node_service.specs.Knowing.{seen_at}
use Rattle.node_service.specs.Watching.{watch_at, seen_at_node, IsOfSeat}
use Rattle.node_service.specs.Timing.{seen_below, seen_by, KeepsRest}

module _ {D W : Type 0} {disk : Ghosts D} {wire : OfWire W} where
  pub kept_at_all : (server : NodeServer D W disk wire) → KeepsRest server server
  kept_at_all server = record { desk = refl; watch = refl; reports = refl; silence = refl; turn_timer = refl; acts = refl; opening = refl; waking = refl }

  pub kept_further : (one two three : NodeServer D W disk wire) → KeepsRest one two → KeepsRest two three → KeepsRest one three
  kept_further one two three first then = record {
    desk = then.desk ∙ first.desk;
    watch = then.watch ∙ first.watch;
    reports = then.reports ∙ first.reports;
    silence = then.silence ∙ first.silence;
    turn_timer = then.turn_timer ∙ first.turn_timer;
    acts = then.acts ∙ first.acts;
    opening = then.opening ∙ first.opening;
    waking = then.waking ∙ first.waking;
  }

  one_node : (server : NodeServer D W disk wire) (seat now number : ℕ)
      → seen_below server seat now (number + 1) ≡ seen_at_node (seen_below server seat now number) number (seen_at server seat now number) server.watch.moved now
  one_node server seat now number = rw add-one refl

  -- how a seat is seen doesn't change by what is kept of seats, but by who took one
  seen_alike : (server current : NodeServer D W disk wire) (seat now number : ℕ) → KeepsRest server current → current.seat_watches.taken ≡ server.seat_watches.taken
      → seen_at current seat now number ≡ seen_at server seat now number
  seen_alike server current seat now number same taken = rw (same.desk, same.reports, same.silence, taken) refl

  moved_alike : (server current : NodeServer D W disk wire) → KeepsRest server current → current.watch.moved ≡ server.watch.moved
  moved_alike server current same = ap (λ (w : Watch). w.moved) same.watch

  pub looks_on : (server current : NodeServer D W disk wire) (watches : SeatWatches) (seat now number : ℕ) (seen : At) (moved : ℕ)
      → KeepsRest server current
      → IsOfSeat seat (seen_below server seat now number) server.seat_watches current.seat_watches
      → seen ≡ seen_at current seat now number
      → moved ≡ current.watch.moved
      → IsOfSeat seat (seen_at_node (watch_at current.seat_watches seat) number seen moved now) current.seat_watches watches
      → IsOfSeat seat (seen_below server seat now (number + 1)) server.seat_watches watches
  looks_on server current watches seat now number seen moved same before seen_is moved_is after =
      let seen_then : seen ≡ seen_at server seat now number = seen_is ∙ seen_alike server current seat now number same before.taken in
      let moved_then : moved ≡ server.watch.moved = moved_is ∙ moved_alike server current same in
      record {
        here =
            after.here
            ∙ (ap (λ (w : SeatWatch). seen_at_node w number seen moved now) before.here
            ∙ (ap (λ (a : At). seen_at_node (seen_below server seat now number) number a moved now) seen_then
            ∙ (ap (λ (m : ℕ). seen_at_node (seen_below server seat now number) number (seen_at server seat now number) m now) moved_then
            ∙ sym (one_node server seat now number))));
        others = λ other differs. after.others other differs ∙ before.others other differs;
        taken = after.taken ∙ before.taken;
      }

  below_alike : (server current : NodeServer D W disk wire) (seat now number : ℕ) → KeepsRest server current → current.seat_watches.taken ≡ server.seat_watches.taken
      → watch_at current.seat_watches seat ≡ watch_at server.seat_watches seat → seen_below current seat now number ≡ seen_below server seat now number
  below_alike server current seat now zero same taken alike = alike
  below_alike server current seat now (suc number) same taken alike =
      ap (λ (w : SeatWatch). seen_at_node w number (seen_at current seat now number) current.watch.moved now) (below_alike server current seat now number same taken alike)
      ∙ (ap (λ (a : At). seen_at_node (seen_below server seat now number) number a current.watch.moved now) (seen_alike server current seat now number same taken)
      ∙ ap (λ (m : ℕ). seen_at_node (seen_below server seat now number) number (seen_at server seat now number) m now) (moved_alike server current same))

  -- of each seat of a lower number than this it is kept how it was seen
  pub record LooksBelow (number : ℕ) (seen : SeatLook) (server : NodeServer D W disk wire) (watches : SeatWatches) : Type 0 where
    pub done : (seat : ℕ) → seat < number → watch_at watches seat ≡ seen_by server seat (acts_at server.acts.all seat) seen
    pub rest : (seat : ℕ) → number ≤ seat → watch_at watches seat ≡ watch_at server.seat_watches seat
    pub taken : watches.taken ≡ server.seat_watches.taken

  pub looks_at_none : (seen : SeatLook) (server : NodeServer D W disk wire) → LooksBelow 0 seen server server.seat_watches
  looks_at_none seen server = record { done = λ seat below. absurd (omega (arith, below)); rest = λ seat from. refl; taken = refl }

  by_alike : (server current : NodeServer D W disk wire) (number : ℕ) (seen : SeatLook) → KeepsRest server current → LooksBelow number seen server current.seat_watches
      → seen_by current number (acts_at current.acts.all number) seen ≡ seen_by server number (acts_at server.acts.all number) seen
  by_alike server current number seen same looks =
      let nodes : nodes_of current ≡ nodes_of server = ap (λ (d : Desk D W disk). min (length (look_of d.member.station).config.sources) NODES) same.desk in
      let alike = below_alike server current number seen.now (nodes_of server) same looks.taken (looks.rest number (omega arith)) in
      ap (λ (a : SeatActs). looked_at (seen_below current number seen.now (nodes_of current)) (acts_at a.all number) seen) same.acts
      ∙ (ap (λ (n : ℕ). looked_at (seen_below current number seen.now n) (acts_at server.acts.all number) seen) nodes
      ∙ ap (λ (w : SeatWatch). looked_at w (acts_at server.acts.all number) seen) alike)

  pub looks_at_one : (server current : NodeServer D W disk wire) (watches : SeatWatches) (number : ℕ) (seen : SeatLook)
      → KeepsRest server current
      → LooksBelow number seen server current.seat_watches
      → IsOfSeat number (seen_by current number (acts_at current.acts.all number) seen) current.seat_watches watches
      → LooksBelow (number + 1) seen server watches
  looks_at_one server current watches number seen same looks after = record {
    done = λ seat below. elim (cases_eq number seat) [
      | inl is ↦ subst (λ n. watch_at watches n ≡ seen_by server n (acts_at server.acts.all n) seen) is (after.here ∙ by_alike server current number seen same looks)
      | inr differs ↦ after.others seat differs ∙ looks.done seat (omega (arith, below, differs))
    ];
    rest = λ seat from. after.others seat (λ is. absurd (omega (arith, from, is))) ∙ looks.rest seat (omega (arith, from));
    taken = after.taken ∙ looks.taken;
  }
