use Rattle.paxos_wire.proofs.StreamLaws.{shorter, one_more}
use Rattle.paxos_wire.proofs.read_streams.take_message.Goals as goal

pub returns-in_ok-push-in-Some-Ok-clause-stream : goal.returns-in_ok-push-in-Some-Ok-clause-stream
returns-in_ok-push-in-Some-Ok-clause-stream c =
    let found = rw c.in-Some-Ok.field-0-is at c.in-Some-Ok.ensures.found in
    λ stream is. rw (c.in_ok-push-in-Some-Ok.ensures.items, c.in_ok-kept-in-Some-Ok.ensures) (one_more c.args.messages.now.items c.in-Some-Ok.message c.args.feed.now.waiting c.next.new.self.waiting stream found.1 is)

pub returns-in_ok-push-in-Some-Ok-clause-taken : goal.returns-in_ok-push-in-Some-Ok-clause-taken
returns-in_ok-push-in-Some-Ok-clause-taken c =
    let found = rw c.in-Some-Ok.field-0-is at c.in-Some-Ok.ensures.found in
    shorter c.in-Some-Ok.message c.args.feed.now.waiting c.next.new.self.waiting found.0 found.1
