use Rattle.node_rules.proofs.Backed.{sent_is_backed, backed_stays_so}
use Rattle.node_rules.proofs.laws.sent_is_backed.Goals as goal

pub returns-clause-sent : goal.returns-clause-sent
returns-clause-sent c =
    sent_is_backed c.layers_below.ensures
    (record { promise = c.backing_lasts.ensures.promise; vote = c.backing_lasts.ensures.vote; command_run = c.layers_below.ensures.command_run_stays; left = c.backing_lasts.ensures.left })

pub returns-clause-stays : goal.returns-clause-stays
returns-clause-stays c =
    backed_stays_so c.layers_below.ensures
    (record { promise = c.backing_lasts.ensures.promise; vote = c.backing_lasts.ensures.vote; command_run = c.layers_below.ensures.command_run_stays; left = c.backing_lasts.ensures.left })
