use Rattle.std.proofs.Common.{◌∙◌, ◌++◌, ap, rules}
use Rattle.std.proofs.lemmas.Result.{on_ok_weaker}
use Rattle.streamed.proofs.Taking.{names_answer}
use Rattle.streamed.proofs.dealing.Dealing.take_names.Goals as goal

pub returns-clause-answered : goal.returns-clause-answered
returns-clause-answered c =
    on_ok_weaker c.put_header.result
    (λ put game count log before stands. put ∙ ap (λ z. c.args.out.now.items ++ z) (names_answer game count log before c.args.self.now c.args.names c.requires.first c.put_header.ensures.some stands))
    c.put_header.ensures.ok

pub returns-clause-stands : goal.returns-clause-stands
returns-clause-stands c = search rules
