use Rattle.seat_relay.proofs.Stories.{after_one_more}
use Rattle.seat_relay.proofs.relay.Relay.says.Goals as goal

pub invariant_of-self-2 : goal.invariant_of-self-2
invariant_of-self-2 c = after_one_more c.self.inside.mode c.self.inside.nodes c.self.inside.machine c.says.new.self c.self.inside.events.items c.and-self-inside.result.items _ c.self.invariant c.in_ok-kept.ensures.ok c.and-self-inside.ensures
