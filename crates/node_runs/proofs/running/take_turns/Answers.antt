use Rattle.std.proofs.Common.{refl, sym, subst, ◌∙◌, arith}
use Rattle.dealer_node.specs.Nodes.{Node}
use Rattle.node_service.specs.Served.{Served}
use Rattle.node_service.specs.Serving.{served_of}
use Rattle.node_runs.specs.Running.{GoesOnTo}
use Rattle.node_runs.proofs.Runs.{begun, told_one, turned, ended, stopped, spent}
use Rattle.node_runs.proofs.running.take_turns.Goals as goal
use Rattle.node_runs.proofs.running.take_turns.Goals.{in-Some+in_default-tell, in_default+in_default-end_of}

pub loop-steps-init : goal.loop-steps-init
loop-steps-init g c = (begun g.L.LifeKeeper.kept c.args.teller.now.port c.args.server.now c.args.first (g.N.Write.contents c.args.notes.now) c.args.lives.now c.args.teller.now.waiting c.requires.holds c.requires.clock c.requires.log c.requires.over c.requires.further, refl)

pub returns-in-Some-end_of-clause-went : goal.returns-in-Some-end_of-clause-went
returns-in-Some-end_of-clause-went g c =
    ended g.L.LifeKeeper.kept c.args.teller.now.port c.args.server.now c.args.first _ c.args.lives.now c.loop-steps.server c.notice.new.self c.loop-steps.outcome c.in-Some-end_of.answer _ _ _ c.loop-steps.teller.waiting
    c.loop-steps.invariant.0 (c.in_default.ensures.none refl) c.notice.ensures.same (sym c.end_of.ensures ∙ c.in-Some-end_of.is)

pub returns-clause-went : goal.returns-clause-went
returns-clause-went g c =
    let least = c.loop-steps-test.false in
    let most = c.loop-steps.auto.steps-end in
    rw c.from-2.ensures
    (spent g.L.LifeKeeper.kept c.args.teller.now.port c.args.server.now c.args.first _ c.args.lives.now c.loop-steps.server c.loop-steps.outcome c.loop-steps.steps _ _ c.loop-steps.teller.waiting c.loop-steps.invariant.0
    (omega (arith, least, most)))

pub returns-in-Err-clause-went : goal.returns-in-Err-clause-went
returns-in-Err-clause-went g c =
    rw (c.from.ensures, c.in-Err.ensures.same)
    (stopped g.L.LifeKeeper.kept c.args.teller.now.port c.args.server.now c.args.first _ c.args.lives.now c.loop-steps.server c.notice.new.self c.loop-steps.outcome _ c.in-Some.told c.in-Err.fault _ _ _ _ c.loop-steps.teller.waiting
    c.loop-steps.invariant.0 c.in-Some.ensures.next c.notice.ensures.same c.in-Err.ensures.unkept.0 c.in-Err.ensures.unkept.1 c.in-Some.ensures.shown)

pub loop-steps-preserved : goal.loop-steps-preserved
loop-steps-preserved g c = elim c.match-notice.branch [
  | in-Some+in_default-tell w ↦
      let told = rw w.station.ensures at w.in_default-tell.ensures.told in
      let one = rw c.loop-steps.invariant.1 at told.one in
      rw (w.server-is, w.outcome-is, w.notes-is, w.lives-is, w.teller-is) (
        told_one g.L.LifeKeeper.kept c.args.teller.now.port c.args.server.now c.args.first _ c.args.lives.now c.lives_stay_shown.ensures c.loop-steps.server c.notice.new.self c.loop-steps.outcome c.loop-steps.steps w.in-Some.told _ _ _ _
            c.loop-steps.teller.waiting _ told.is_told c.loop-steps.invariant.0 w.in-Some.ensures.next c.notice.ensures.same c.notice.ensures.outcome one told.takes w.in_default-tell.ensures.clock w.in-Some.ensures.shown,
        w.in_default-tell.ensures.port ∙ c.loop-steps.invariant.1,
      )
  | in_default+in_default-end_of w ↦
      let port = c.loop-steps.invariant.1 in
      let left = w.left-left.ensures in
      let later = rw (w.station-in_default-end_of.ensures, left, port) at w.tell_due.ensures.later in
      let due_at = rw left at w.tell_due.ensures.clock in
      let away = rw (w.station-in_default-end_of-2.ensures, w.tell_due.ensures.port, port) at w.tell_turned_away.ensures.away in
      rw (w.server-is, w.outcome-is, w.notes-is, w.lives-is, w.teller-is) (
        turned g.L.LifeKeeper.kept c.args.teller.now.port c.args.server.now c.args.first _ c.args.lives.now c.turns_are_one.ensures c.lives_stay_shown.ensures c.loop-steps.server c.notice.new.self w.turn.new.self c.loop-steps.outcome
            w.turn.result.0 c.loop-steps.steps _ _ _ _ c.loop-steps.teller.waiting w.tell_due.new.self.waiting w.tell_turned_away.new.self.waiting _ c.loop-steps.invariant.0 later due_at away w.tell_turned_away.ensures.clock
            (sym w.end_of.ensures ∙ w.in_default-end_of.is) (w.in_default.ensures.none refl) c.notice.ensures.same
            (record {
              goes = w.turn.ensures.goes;
              lives = w.turn.ensures.lives;
              takes = w.turn.ensures.takes;
              left = record { log = w.turn.ensures.log; up = w.turn.ensures.runs };
              over = w.turn.ensures.over;
              served = w.turn.ensures.served;
            }) c.notice.ensures.outcome w.turn.ensures.further
            w.turn.ensures.known w.turn.ensures.fault w.turn.ensures.behind,
        w.tell_turned_away.ensures.port ∙ (w.tell_due.ensures.port ∙ port),
      )
]

pub returns-in-Err-clause-whole : goal.returns-in-Err-clause-whole
returns-in-Err-clause-whole g c = subst (λ (s : Served (Node _)). GoesOnTo g.D.Disk (served_of c.args.server.now) s) (sym c.notice.ensures.same) c.loop-steps.invariant.0.whole

pub returns-in-Some-end_of-clause-whole : goal.returns-in-Some-end_of-clause-whole
returns-in-Some-end_of-clause-whole g c = subst (λ (s : Served (Node _)). GoesOnTo g.D.Disk (served_of c.args.server.now) s) (sym c.notice.ensures.same) c.loop-steps.invariant.0.whole
