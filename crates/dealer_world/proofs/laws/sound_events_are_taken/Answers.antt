use Rattle.dealer_world.proofs.TakenEvents.{sound_events_are_taken}
use Rattle.dealer_world.proofs.laws.sound_events_are_taken.Goals as goal

pub returns : goal.returns
returns g c = sound_events_are_taken g.D.Disk c.seen_as_one.ensures.up
