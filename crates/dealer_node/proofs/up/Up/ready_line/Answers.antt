use Rattle.std.proofs.Common.{ap, ◌∙◌}
use Rattle.dealer_node.specs.declared.running.Running.{Running}
use Rattle.dealer_node.specs.Running.{ahead_of}
use Rattle.dealer_node.proofs.up.Up.ready_line.Goals as goal

pub returns-in_err-reserve_bytes-clause-at : goal.returns-in_err-reserve_bytes-clause-at
returns-in_err-reserve_bytes-clause-at g c = λ member at. c.reserve_bytes.ensures.at member (c.ready.ensures.at member at)

pub returns-clause-at : goal.returns-clause-at
returns-clause-at g c = λ member at. c.reserve_bytes.ensures.at member (c.ready.ensures.at member at)

pub returns-in_err-reserve_bytes-clause-ahead : goal.returns-in_err-reserve_bytes-clause-ahead
returns-in_err-reserve_bytes-clause-ahead g c = ap ahead_of c.reserve_bytes.ensures.rest ∙ c.ready.ensures.alone.ahead

pub returns-clause-ahead : goal.returns-clause-ahead
returns-clause-ahead g c = ap ahead_of c.reserve_bytes.ensures.rest ∙ c.ready.ensures.alone.ahead

pub returns-in_err-reserve_bytes-clause-proposer : goal.returns-in_err-reserve_bytes-clause-proposer
returns-in_err-reserve_bytes-clause-proposer g c = ap (λ (r : Running). r.proposer) c.reserve_bytes.ensures.rest ∙ c.ready.ensures.alone.proposer

pub returns-clause-proposer : goal.returns-clause-proposer
returns-clause-proposer g c = ap (λ (r : Running). r.proposer) c.reserve_bytes.ensures.rest ∙ c.ready.ensures.alone.proposer
