use Rattle.std.proofs.Common.{sym, ap, subst}
use Rattle.node_links.specs.declared.connection.Connection.{Connection}
use Rattle.node_links.specs.declared.connection.Connection.TheVariants.{Plain, Coded}
use Rattle.node_links.specs.Going.{GoesOn}
use Rattle.node_links.specs.declared.plain_connection.PlainConnection.{PlainConnection}
use Rattle.node_links.proofs.PlainGoing.{plain_stays}
use Rattle.node_links.specs.Speaking.{SpeaksAs}
use Rattle.node_links.proofs.PlainSpeaking.{plain_answers_so}
use Rattle.node_links.proofs.connection.Connection.answer.Goals as goal

pub returns-in-Plain-clause-goes : goal.returns-in-Plain-clause-goes
returns-in-Plain-clause-goes c =
    subst (λ (s : Connection). GoesOn s (Plain c.answer.new.self)) (sym c.in-Plain.is)
    (plain_stays c.in-Plain.plain c.answer.new.self (ap (λ (p : PlainConnection). p.came.waiting) c.answer.ensures) (ap (λ (p : PlainConnection). p.phase) c.answer.ensures))

pub returns-in-Coded-clause-goes : goal.returns-in-Coded-clause-goes
returns-in-Coded-clause-goes c = subst (λ (s : Connection). GoesOn s (Coded c.answer_coded.new.coded)) (sym c.in-Coded.is) c.answer_coded.ensures.goes

pub returns-in-Plain-clause-speaks : goal.returns-in-Plain-clause-speaks
returns-in-Plain-clause-speaks c = subst (λ (s : Connection). SpeaksAs s (Plain c.answer.new.self) c.args.own) (sym c.in-Plain.is) (plain_answers_so c.in-Plain.plain c.answer.new.self c.args.own c.answer.ensures)

pub returns-in-Coded-clause-speaks : goal.returns-in-Coded-clause-speaks
returns-in-Coded-clause-speaks c = subst (λ (s : Connection). SpeaksAs s (Coded c.answer_coded.new.coded) c.args.own) (sym c.in-Coded.is) c.answer_coded.ensures.speaks
