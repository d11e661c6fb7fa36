use Rattle.peer_codes.proofs.ApartLaws.{records_apart, seal_apart, proofs_apart, ways_apart, proof_apart}
use Rattle.peer_codes.proofs.laws.codes_are_of_one_thing.Goals as goal

pub returns-clause-records : goal.returns-clause-records
returns-clause-records c = records_apart

pub returns-clause-seal : goal.returns-clause-seal
returns-clause-seal c = seal_apart

pub returns-clause-proofs : goal.returns-clause-proofs
returns-clause-proofs c = proofs_apart

pub returns-clause-ways : goal.returns-clause-ways
returns-clause-ways c = ways_apart

pub returns-clause-apart : goal.returns-clause-apart
returns-clause-apart c = proof_apart
