use Rattle.std.proofs.Common.{◌∙◌, arith}
use Rattle.paxos_wire.proofs.FrameLaws.{text_framed}
use Rattle.paxos_wire.proofs.Readers.{frame_found, frame_fault}
use Rattle.paxos_wire.proofs.read_frames.decode.Goals as goal

pub returns-clause-found : goal.returns-clause-found
returns-clause-found c = frame_found c.args.bytes.now c.message_of_frame.result (λ i. omega (arith, c.type_inv.bytes i)) c.message_of_frame.ensures

pub returns-clause-only : goal.returns-clause-only
returns-clause-only c = λ m fits is. c.message_of_frame.ensures ∙ (text_framed m c.args.bytes.now fits is).read

pub returns-clause-fault : goal.returns-clause-fault
returns-clause-fault c = frame_fault c.args.bytes.now c.message_of_frame.result c.message_of_frame.ensures

pub returns-clause-exact : goal.returns-clause-exact
returns-clause-exact c = c.message_of_frame.ensures
