use Rattle.std.proofs.Common.{sym, rules, ◌∙◌}
use Rattle.std.proofs.lemmas.List.{append-nil}
use Rattle.serving.proofs.taking.accept.Goals as goal

pub returns-in-Err-Failed-clause-fault : goal.returns-in-Err-Failed-clause-fault
returns-in-Err-Failed-clause-fault g c = search rules

pub returns-in-Err-Failed-clause-taken : goal.returns-in-Err-Failed-clause-taken
returns-in-Err-Failed-clause-taken g c = c.in-Err-Failed.ensures.failed ∙ sym (append-nil (g.L.Links.passed c.args.links.now))

pub returns-in-Err-Slow-clause-taken : goal.returns-in-Err-Slow-clause-taken
returns-in-Err-Slow-clause-taken g c = c.in-Err-Slow.ensures.failed ∙ sym (append-nil (g.L.Links.passed c.args.links.now))
