use Rattle.std.proofs.Common.{arith, ◌≤◌}
use Rattle.betting.proofs.Taken.{can_take, somebody_takes, taken_place, taker_seat, taker_place, taken_round, taker_owes, taken_room, taken_raises, taken_up, taken_kept, taken_value, taken_few}
use Rattle.betting.proofs.play.Play.take_action.Goals as goal

pub unreachable-requires : goal.unreachable-requires
unreachable-requires c = somebody_takes c.self.inside c.args.self.now c.self.view_is c.self.invariant c.args.action c.in_default.is c.requires

pub bounds-self-inside-self-inside : goal.bounds-self-inside-self-inside
bounds-self-inside-self-inside c = taken_place c.self.inside c.in-Some.position c.args.action (can_take c.self.inside c.args.self.now c.self.view_is c.self.invariant c.args.action c.in-Some.position c.in-Some.is c.requires)

pub act-requires-clause-seat : goal.act-requires-clause-seat
act-requires-clause-seat c = taker_seat c.self.inside c.in-Some.position c.args.action (can_take c.self.inside c.args.self.now c.self.view_is c.self.invariant c.args.action c.in-Some.position c.in-Some.is c.requires)

pub act-requires-clause-array : goal.act-requires-clause-array
act-requires-clause-array c = taker_place c.self.inside c.in-Some.position c.args.action (can_take c.self.inside c.args.self.now c.self.view_is c.self.invariant c.args.action c.in-Some.position c.in-Some.is c.requires)

pub act-requires-clause-round : goal.act-requires-clause-round
act-requires-clause-round c = taken_round c.self.inside c.in-Some.position c.args.action (can_take c.self.inside c.args.self.now c.self.view_is c.self.invariant c.args.action c.in-Some.position c.in-Some.is c.requires)

pub act-requires-clause-acts : goal.act-requires-clause-acts
act-requires-clause-acts c = taker_owes c.self.inside c.in-Some.position c.args.action (can_take c.self.inside c.args.self.now c.self.view_is c.self.invariant c.args.action c.in-Some.position c.in-Some.is c.requires)

pub act-requires-clause-room : goal.act-requires-clause-room
act-requires-clause-room c = taken_room c.self.inside c.in-Some.position c.args.action (can_take c.self.inside c.args.self.now c.self.view_is c.self.invariant c.args.action c.in-Some.position c.in-Some.is c.requires)

pub act-requires-clause-raises : goal.act-requires-clause-raises
act-requires-clause-raises c = taken_raises c.self.inside c.in-Some.position c.args.action (can_take c.self.inside c.args.self.now c.self.view_is c.self.invariant c.args.action c.in-Some.position c.in-Some.is c.requires)

pub act-requires-clause-above : goal.act-requires-clause-above
act-requires-clause-above c = taken_up c.self.inside c.in-Some.position c.args.action (can_take c.self.inside c.args.self.now c.self.view_is c.self.invariant c.args.action c.in-Some.position c.in-Some.is c.requires)

pub overflow_cast-self : goal.overflow_cast-self
overflow_cast-self c =
    let few : c.act.new.self.round ≤ 3 = taken_few c.self.inside c.in-Some.position c.args.action (can_take c.self.inside c.args.self.now c.self.view_is c.self.invariant c.args.action c.in-Some.position c.in-Some.is c.requires) c.act.new.self c.act.ensures in
    omega (arith, c.saturating_sub.ensures, few)

pub bounds-self-inside-self-inside-2 : goal.bounds-self-inside-self-inside-2
bounds-self-inside-self-inside-2 c = taken_place c.self.inside c.in-Some.position c.args.action (can_take c.self.inside c.args.self.now c.self.view_is c.self.invariant c.args.action c.in-Some.position c.in-Some.is c.requires)

pub invariant_of-self : goal.invariant_of-self
invariant_of-self c =
    taken_kept c.self.inside c.in-Some.position c.args.action (can_take c.self.inside c.args.self.now c.self.view_is c.self.invariant c.args.action c.in-Some.position c.in-Some.is c.requires) c.saturating_sub.result c.act.new.self c.act.ensures c.saturating_sub.ensures

pub returns : goal.returns
returns c =
    taken_value c.self.inside c.in-Some.position c.args.action (can_take c.self.inside c.args.self.now c.self.view_is c.self.invariant c.args.action c.in-Some.position c.in-Some.is c.requires) c.args.self.now c.self.view_is c.saturating_sub.result c.act.new.self
