use Rattle.node_links.proofs.HearingLaws.{said_is_heard, whole_is_told}
use Rattle.node_links.proofs.laws.said_is_heard.Goals as goal

pub returns-clause-heard : goal.returns-clause-heard
returns-clause-heard c = said_is_heard c.records_are_told_apart.ensures

pub returns-clause-told : goal.returns-clause-told
returns-clause-told c = whole_is_told c.records_are_whole.ensures
