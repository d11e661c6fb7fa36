use Rattle.node_links.proofs.DialLaws.{first_is_for_older, older_is_met, newer_is_met}
use Rattle.node_links.proofs.laws.dials_take_turns.Goals as goal

pub returns-clause-first : goal.returns-clause-first
returns-clause-first c = first_is_for_older

pub returns-clause-older : goal.returns-clause-older
returns-clause-older c = older_is_met

pub returns-clause-newer : goal.returns-clause-newer
returns-clause-newer c = newer_is_met
