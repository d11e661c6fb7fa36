use Rattle.seat_relay.proofs.Stories.{after_one_more}
use Rattle.seat_relay.proofs.relay.Relay.closes.Goals as goal

pub invariant_of-self : goal.invariant_of-self
invariant_of-self c = after_one_more c.self.inside.mode c.self.inside.nodes c.self.inside.machine c.closes.new.self c.self.inside.events.items c.and-self-inside.result.items _ c.self.invariant c.closes.ensures c.and-self-inside.ensures
