use Rattle.std.proofs.Common.{refl, arith}
use Rattle.peer_codes.proofs.StreamLaws.{found_by, only_by, not_partial, faulty_by}
use Rattle.peer_codes.proofs.reading.read_record.Goals as goal

pub returns-clause-found : goal.returns-clause-found
returns-clause-found c = found_by c.args.bytes.now c.in_ok-end.end c.record_of-read.result (λ i. omega (arith, c.type_inv.bytes i)) c.in_ok-end.ensures.end c.in_ok-end.ensures.there c.record_of-read.ensures

pub returns-clause-only : goal.returns-clause-only
returns-clause-only c = only_by c.args.bytes.now c.in_ok-end.end c.record_of-read.result c.in_ok-end.ensures.end c.record_of-read.ensures

pub returns-clause-fault : goal.returns-clause-fault
returns-clause-fault c = faulty_by c.args.bytes.now c.in_ok-end.end c.record_of-read.result c.in_ok-end.ensures.end c.in_ok-end.ensures.there c.record_of-read.ensures

pub returns-in_err-end-clause-only : goal.returns-in_err-end-clause-only
returns-in_err-end-clause-only c = λ r rest fits is. absurd (not_partial r c.args.bytes.now rest fits is (c.in_err-end.ensures.partial.0 refl))
