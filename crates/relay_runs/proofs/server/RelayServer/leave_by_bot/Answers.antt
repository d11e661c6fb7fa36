use Rattle.relay_runs.proofs.server.RelayServer.leave_by_bot.Goals as goal

pub returns-in_err-answer : goal.returns-in_err-answer
returns-in_err-answer g c = c.answer.ensures.kept _
