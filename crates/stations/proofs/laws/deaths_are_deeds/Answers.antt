use Rattle.stations.proofs.Dying.{dies_at_rest, dies_inside}
use Rattle.stations.proofs.laws.deaths_are_deeds.Goals as goal

pub returns-clause-rest : goal.returns-clause-rest
returns-clause-rest g c = dies_at_rest g.D.Disk c.images_are_seen.ensures c.seen_as_one.ensures.up

pub returns-clause-inside : goal.returns-clause-inside
returns-clause-inside g c =
    dies_inside g.D.Disk c.images_are_seen.ensures c.moments_pass.ensures c.seen_as_one.ensures.up c.events_are_calls.ensures.broken c.events_are_calls.ensures.front
