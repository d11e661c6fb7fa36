use Rattle.match_log.proofs.checking.check.Goals as goal

pub returns-clause-only : goal.returns-clause-only
returns-clause-only c other says = c.one_verdict.ensures c.args.game.now c.args.log.now other c.verdict.result c.limits.ensures says c.verdict.ensures
