use Rattle.dealer_world.proofs.Calling.{events_are_calls, vain_events_are_none, broken_events_are_calls, conflicts_are_refusals, fronts_are_seen}
use Rattle.dealer_world.proofs.laws.events_are_calls.Goals as goal

pub returns-clause-calls : goal.returns-clause-calls
returns-clause-calls g c = events_are_calls g.D.Disk c.seen_as_one.ensures.up

pub returns-clause-none : goal.returns-clause-none
returns-clause-none g c = vain_events_are_none g.D.Disk

pub returns-clause-broken : goal.returns-clause-broken
returns-clause-broken g c = broken_events_are_calls

pub returns-clause-conflict : goal.returns-clause-conflict
returns-clause-conflict g c = conflicts_are_refusals g.D.Disk c.seen_as_one.ensures.up

pub returns-clause-front : goal.returns-clause-front
returns-clause-front g c = fronts_are_seen g.D.Disk
