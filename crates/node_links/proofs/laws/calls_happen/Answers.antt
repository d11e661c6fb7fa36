use Rattle.node_links.proofs.HistoryLaws.{next_happens, settle_happens}
use Rattle.node_links.proofs.laws.calls_happen.Goals as goal

pub returns-clause-next : goal.returns-clause-next
returns-clause-next c = next_happens

pub returns-clause-settle : goal.returns-clause-settle
returns-clause-settle c = settle_happens
