use Rattle.seat_relay.proofs.Stories.{after_nothing}
use Rattle.seat_relay.proofs.relay.Relay.new.Goals as goal

pub invariant_of-result : goal.invariant_of-result
invariant_of-result c = after_nothing c.args.mode c.args.nodes c.in_ok-new.field-0 c.new-2.result.items c.in_ok-new.ensures c.new-2.ensures
