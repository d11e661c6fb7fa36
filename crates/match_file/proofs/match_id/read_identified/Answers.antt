use Rattle.match_file.proofs.match_id.read_identified.Goals as goal

pub returns-in_err-bytes-clause-only : goal.returns-in_err-bytes-clause-only
returns-in_err-bytes-clause-only c = λ id kept are many is. absurd (c.in_err-bytes.ensures.only id kept are many is)

pub returns-clause-only : goal.returns-clause-only
returns-clause-only c = λ id kept are many is. c.in_ok-bytes.ensures.only id kept are many is
