use Rattle.relay_runs.proofs.server.RelayServer.take_or_lose.Goals as goal

pub returns-in_err-goes_on : goal.returns-in_err-goes_on
returns-in_err-goes_on g c = c.take_lines.ensures.kept _

pub returns-else-not-goes_on : goal.returns-else-not-goes_on
returns-else-not-goes_on g c = c.take_lines.ensures.kept _
