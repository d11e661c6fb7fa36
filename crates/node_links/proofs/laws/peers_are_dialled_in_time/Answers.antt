use Rattle.node_links.proofs.DialLaws.{waits_end, dials_are_apart, pauses_are_kept}
use Rattle.node_links.proofs.laws.peers_are_dialled_in_time.Goals as goal

pub returns-clause-waits : goal.returns-clause-waits
returns-clause-waits c = waits_end

pub returns-clause-apart : goal.returns-clause-apart
returns-clause-apart c = dials_are_apart

pub returns-clause-pauses : goal.returns-clause-pauses
returns-clause-pauses c = pauses_are_kept
