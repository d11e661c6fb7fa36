use Rattle.std.proofs.Common.{ℕ, List, ◌∙◌, ap, sym, subst, refl, inr, Ok}
use Rattle.protocol_model.specs.Stores.{empty_store}
use Rattle.node_rules.specs.Calls as call
use Rattle.dealer_node.specs.Outs.{nothing_told}
use Rattle.dealer_world.specs.Events.{call_of}
use Rattle.dealer_world.proofs.Giving.{given, started}
use Rattle.dealer_node.specs.Most.{most_shown_of, most_shown_by, ShowsWithin}
use Rattle.dealer_world.proofs.Showing.{none_shown, shown_first}
use Rattle.dealer_world.proofs.cluster.give.Goals as goal

pub returns-in-Frame-clause-given : goal.returns-in-Frame-clause-given
returns-in-Frame-clause-given g c = given g.D.Disk (call.Frame c.in-Frame.from c.deref.result.now) c.args.event.now c.args.node.now c.on_frame.new.self c.args.made.now c.on_frame.new.out c.on_frame.result
    c.requires.nothing (ap (call.Frame c.in-Frame.from) c.deref.ensures.value ∙ ap (call_of empty_store) (sym c.in-Frame.is)) c.on_frame.ensures.taken c.on_frame.ensures.stays (rw c.in-Frame.is tt)

pub returns-in-Line-clause-given : goal.returns-in-Line-clause-given
returns-in-Line-clause-given g c = given g.D.Disk (call.Line c.in-Line.seat c.deref-in-Line.result.now) c.args.event.now c.args.node.now c.on_line.new.self c.args.made.now c.on_line.new.out c.on_line.result
    c.requires.nothing (ap (call.Line c.in-Line.seat) c.deref-in-Line.ensures.value ∙ ap (call_of empty_store) (sym c.in-Line.is)) c.on_line.ensures.taken c.on_line.ensures.stays (rw c.in-Line.is tt)

pub returns-in-Tick-clause-given : goal.returns-in-Tick-clause-given
returns-in-Tick-clause-given g c = given g.D.Disk call.Tick c.args.event.now c.args.node.now c.on_tick.new.self c.args.made.now c.on_tick.new.out c.on_tick.result
    c.requires.nothing (ap (call_of empty_store) (sym c.in-Tick.is)) c.on_tick.ensures.taken c.on_tick.ensures.stays (rw c.in-Tick.is tt)

pub returns-in-Away-clause-given : goal.returns-in-Away-clause-given
returns-in-Away-clause-given g c = given g.D.Disk call.Away c.args.event.now c.args.node.now c.on_away.new.self c.args.made.now c.on_away.new.out c.on_away.result
    c.requires.nothing (ap (call_of empty_store) (sym c.in-Away.is)) c.on_away.ensures.taken c.on_away.ensures.stays (rw c.in-Away.is tt)

pub returns-in-Connect-clause-given : goal.returns-in-Connect-clause-given
returns-in-Connect-clause-given g c = rw c.requires.nothing (given g.D.Disk (call.Connect c.in-Connect.seat) c.args.event.now c.args.node.now c.connect.new.self nothing_told nothing_told c.connect.result
    refl (ap (call_of empty_store) (sym c.in-Connect.is)) c.connect.ensures.taken c.connect.ensures.stays (rw c.in-Connect.is tt))

pub returns-in-Drop-clause-given : goal.returns-in-Drop-clause-given
returns-in-Drop-clause-given g c = rw c.requires.nothing (given g.D.Disk (call.Drop c.in-Drop.seat) c.args.event.now c.args.node.now c.drop_seat.new.self nothing_told nothing_told c.drop_seat.result
    refl (ap (call_of empty_store) (sym c.in-Drop.is)) c.drop_seat.ensures.taken c.drop_seat.ensures.stays (rw c.in-Drop.is tt))

pub returns-in-Stop-clause-given : goal.returns-in-Stop-clause-given
returns-in-Stop-clause-given g c = rw c.requires.nothing (given g.D.Disk call.Stop c.args.event.now c.args.node.now c.stop.new.self nothing_told nothing_told (Ok tt)
    refl (ap (call_of empty_store) (sym c.in-Stop.is)) c.stop.ensures.taken c.stop.ensures.stays (rw c.in-Stop.is c.stop.ensures.picked))

pub returns-in-Start-clause-given : goal.returns-in-Start-clause-given
returns-in-Start-clause-given g c = started g.D.Disk c.args.event.now c.args.node.now c.start.new.self c.args.made.now c.start.new.out c.start.result c.requires.nothing
    (λ s honest seen. let t = c.start.ensures.taken s honest seen in (t.0, rw c.in-Start.is t.1)) c.start.ensures.stays
    (rw c.in-Start.is record { faults = c.start.ensures.faults; opens = inr c.start.ensures.disk; found = c.start.ensures.found; refused = c.start.ensures.refused })

pub returns-in-Frame-clause-shows : goal.returns-in-Frame-clause-shows
returns-in-Frame-clause-shows g c = rw c.in-Frame.is (subst (λ (bytes : List ℕ). ShowsWithin (most_shown_by c.args.node.now bytes) nothing_told c.on_frame.new.out) c.deref.ensures.value
    (shown_first (most_shown_by c.args.node.now c.deref.result.now) c.args.made.now c.on_frame.new.out c.requires.nothing c.on_frame.ensures.shows))

pub returns-in-Line-clause-shows : goal.returns-in-Line-clause-shows
returns-in-Line-clause-shows g c = rw c.in-Line.is (shown_first (most_shown_of c.args.node.now) c.args.made.now c.on_line.new.out c.requires.nothing c.on_line.ensures.shows)

pub returns-in-Tick-clause-shows : goal.returns-in-Tick-clause-shows
returns-in-Tick-clause-shows g c = rw c.in-Tick.is (shown_first (most_shown_of c.args.node.now) c.args.made.now c.on_tick.new.out c.requires.nothing c.on_tick.ensures.shows)

pub returns-in-Away-clause-shows : goal.returns-in-Away-clause-shows
returns-in-Away-clause-shows g c = rw c.in-Away.is (shown_first (most_shown_of c.args.node.now) c.args.made.now c.on_away.new.out c.requires.nothing c.on_away.ensures.shows)

pub returns-in-Start-clause-shows : goal.returns-in-Start-clause-shows
returns-in-Start-clause-shows g c = rw c.in-Start.is (shown_first (most_shown_of c.args.node.now) c.args.made.now c.start.new.out c.requires.nothing c.start.ensures.shows)

pub returns-in-Connect-clause-shows : goal.returns-in-Connect-clause-shows
returns-in-Connect-clause-shows g c = rw c.in-Connect.is (none_shown (most_shown_of c.args.node.now) c.args.made.now c.requires.nothing)

pub returns-in-Drop-clause-shows : goal.returns-in-Drop-clause-shows
returns-in-Drop-clause-shows g c = rw c.in-Drop.is (none_shown (most_shown_of c.args.node.now) c.args.made.now c.requires.nothing)

pub returns-in-Stop-clause-shows : goal.returns-in-Stop-clause-shows
returns-in-Stop-clause-shows g c = rw c.in-Stop.is (none_shown (most_shown_of c.args.node.now) c.args.made.now c.requires.nothing)
