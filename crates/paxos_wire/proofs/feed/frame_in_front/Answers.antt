use Rattle.std.proofs.Common.{arith}
use Rattle.paxos_wire.proofs.StreamLaws.{found_by, only_by, faulty_by}
use Rattle.paxos_wire.proofs.feed.frame_in_front.Goals as goal

pub returns-clause-found : goal.returns-clause-found
returns-clause-found c = found_by c.args.bytes.now c.in_ok-end.end c.message_of_frame-read.result (λ i. omega (arith, c.type_inv.bytes i)) c.in_ok-end.ensures.end c.message_of_frame-read.ensures

pub returns-clause-only : goal.returns-clause-only
returns-clause-only c = only_by c.args.bytes.now c.in_ok-end.end c.message_of_frame-read.result c.in_ok-end.ensures.end c.message_of_frame-read.ensures

pub returns-clause-fault : goal.returns-clause-fault
returns-clause-fault c = faulty_by c.args.bytes.now c.in_ok-end.end c.message_of_frame-read.result c.in_ok-end.ensures.end c.in_ok-end.ensures.there c.message_of_frame-read.ensures
