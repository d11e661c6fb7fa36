use Rattle.std.proofs.Common.{refl, ◌∙◌, arith}
use Rattle.serving.specs.Serving.{served_of}
use Rattle.match_runs.specs.Serving.{none}
use Rattle.match_runs.proofs.GoingOn.{turn_goes_on}
use Rattle.match_runs.proofs.HandingOn.{hands_here, turn_hands_on, hands_on_twice, turn_gives_all}
use Rattle.match_runs.proofs.ServedTurns.{ends_well, ends_in_fault, one_more, few_waits}
use Rattle.match_runs.proofs.served_match.serve_run.Goals as goal

pub loop-turns-init : goal.loop-turns-init
loop-turns-init g c = record {
  told = none;
  few = omega arith;
  unforged = λ unforged. unforged;
  goes_on = λ before goes. goes;
  begun = refl;
  handed = λ within. hands_here _ within;
  all = λ all. all;
}

pub returns-in-Ok-Over-clause-served : goal.returns-in-Ok-Over-clause-served
returns-in-Ok-Over-clause-served g c =
    ends_well g.D.Disk c.args.ports (served_of c.args.server.now) (served_of c.loop-turns.server) (served_of c.turn.new.self) _ _ _ _ _ c.loop-turns.turns
    c.loop-turns.waits c.awaited-awaited.ensures c.loop-turns.invariant.told (rw c.in-Ok-Over.field-0-is at c.in-Ok-Over.ensures.turned)
    (rw c.cluster-cluster.ensures.same at c.tell_first.ensures) (rw c.cluster.ensures.same at c.tell_score.ensures)

pub returns-in-Ok-Over-clause-unforged : goal.returns-in-Ok-Over-clause-unforged
returns-in-Ok-Over-clause-unforged g c = λ unforged. c.turn.ensures.unforged (c.loop-turns.invariant.unforged unforged)

pub returns-in-Ok-Over-clause-handed : goal.returns-in-Ok-Over-clause-handed
returns-in-Ok-Over-clause-handed g c = λ within.
    let so_far = c.loop-turns.invariant.handed within in
    hands_on_twice _ _ _ so_far (turn_hands_on g.D.Disk _ _ _ so_far.within c.in-Ok-Over.ensures.turned)

pub returns-in-Ok-Over-clause-all : goal.returns-in-Ok-Over-clause-all
returns-in-Ok-Over-clause-all g c = λ all. turn_gives_all g.D.Disk _ _ _ (c.loop-turns.invariant.all all) c.in-Ok-Over.ensures.turned

pub returns-in-Ok-Over-clause-one_list : goal.returns-in-Ok-Over-clause-one_list
returns-in-Ok-Over-clause-one_list g c = λ before goes honest unforged.
    c.turn.ensures.promised before
    (turn_goes_on g.D.Disk _ _ _ before c.in-Ok-Over.ensures.turned c.turn.ensures.begun (c.loop-turns.invariant.goes_on before goes)) honest
    (c.turn.ensures.unforged (c.loop-turns.invariant.unforged unforged))

pub returns-in-Err-clause-served : goal.returns-in-Err-clause-served
returns-in-Err-clause-served g c =
    ends_in_fault g.D.Disk c.args.ports (served_of c.args.server.now) (served_of c.loop-turns.server) (served_of c.turn.new.self) _ _ _ _ c.loop-turns.turns
    c.loop-turns.waits c.in-Err.fault c.awaited-awaited.ensures c.loop-turns.invariant.told c.in-Err.ensures.turned
    (rw c.cluster-cluster.ensures.same at c.tell_first.ensures)

pub returns-in-Err-clause-unforged : goal.returns-in-Err-clause-unforged
returns-in-Err-clause-unforged g c = λ unforged. c.turn.ensures.unforged (c.loop-turns.invariant.unforged unforged)

pub returns-in-Err-clause-handed : goal.returns-in-Err-clause-handed
returns-in-Err-clause-handed g c = λ within.
    let so_far = c.loop-turns.invariant.handed within in
    hands_on_twice _ _ _ so_far (turn_hands_on g.D.Disk _ _ _ so_far.within c.in-Err.ensures.turned)

pub returns-in-Err-clause-one_list : goal.returns-in-Err-clause-one_list
returns-in-Err-clause-one_list g c = λ before goes honest unforged.
    c.turn.ensures.promised before
    (turn_goes_on g.D.Disk _ _ _ before c.in-Err.ensures.turned c.turn.ensures.begun (c.loop-turns.invariant.goes_on before goes)) honest
    (c.turn.ensures.unforged (c.loop-turns.invariant.unforged unforged))

pub loop-turns-preserved : goal.loop-turns-preserved
loop-turns-preserved g c = record {
  told = rw c.waits_after-waits.ensures
      (one_more g.D.Disk c.args.ports (served_of c.args.server.now) (served_of c.loop-turns.server) (served_of c.turn.new.self) _ _ _ _ _ c.at-dealt.result.hands c.loop-turns.turns
      c.loop-turns.waits c.in-Ok.turn c.awaited-awaited.ensures (rw c.cluster-cluster.ensures.same at c.at-dealt.ensures) c.loop-turns.invariant.told c.in-Ok.ensures.turned
      (rw c.cluster-cluster.ensures.same at c.tell_first.ensures) (rw c.waits_after-waits.ensures at c.tell_after.ensures));
  few = rw c.waits_after-waits.ensures (few_waits c.in-Ok.turn c.loop-turns.waits c.loop-turns.turns c.loop-turns.invariant.few);
  unforged = λ unforged. c.turn.ensures.unforged (c.loop-turns.invariant.unforged unforged);
  goes_on = λ before goes. turn_goes_on g.D.Disk _ _ _ before c.in-Ok.ensures.turned c.turn.ensures.begun (c.loop-turns.invariant.goes_on before goes);
  begun = c.turn.ensures.begun ∙ c.loop-turns.invariant.begun;
  handed = λ within. let so_far = c.loop-turns.invariant.handed within in hands_on_twice _ _ _ so_far (turn_hands_on g.D.Disk _ _ _ so_far.within c.in-Ok.ensures.turned);
  all = λ all. turn_gives_all g.D.Disk _ _ _ (c.loop-turns.invariant.all all) c.in-Ok.ensures.turned;
}

pub returns-clause-one_list : goal.returns-clause-one_list
returns-clause-one_list g c = λ before goes honest unforged.
    c.loop-turns.server.promised before (c.loop-turns.invariant.goes_on before goes) honest (c.loop-turns.invariant.unforged unforged)
