use Rattle.std.proofs.Common.{sym, ap, subst}
use Rattle.node_links.specs.declared.connection.Connection.{Connection}
use Rattle.node_links.specs.declared.connection.Connection.TheVariants.{Plain, Coded}
use Rattle.node_links.specs.Going.{GoesOnWritten}
use Rattle.node_links.specs.declared.plain_connection.PlainConnection.{PlainConnection}
use Rattle.node_links.proofs.PlainGoing.{plain_writes}
use Rattle.node_links.proofs.CodedSaying.{coded_writes}
use Rattle.node_links.specs.Speaking.{SpeaksOnWritten}
use Rattle.node_links.proofs.PlainSpeaking.{plain_writes_so}
use Rattle.node_links.proofs.CodedSpeaking.{coded_writes_so}
use Rattle.node_links.proofs.connection.Connection.wrote.Goals as goal

pub returns-in-Plain-clause-goes : goal.returns-in-Plain-clause-goes
returns-in-Plain-clause-goes c =
    subst (λ (s : Connection). GoesOnWritten s (Plain c.wrote.new.self) c.args.count) (sym c.in-Plain.is)
    (plain_writes c.in-Plain.plain c.wrote.new.self c.args.count (ap (λ (p : PlainConnection). p.came.waiting) c.wrote.ensures.others) (ap (λ (p : PlainConnection). p.phase) c.wrote.ensures.others))

pub returns-in-Coded-clause-goes : goal.returns-in-Coded-clause-goes
returns-in-Coded-clause-goes c =
    subst (λ (s : Connection). GoesOnWritten s (Coded c.wrote-in-Coded.new.self) c.args.count) (sym c.in-Coded.is)
    (coded_writes c.in-Coded.coded c.wrote-in-Coded.new.self c.args.count c.wrote-in-Coded.ensures.unwritten c.wrote-in-Coded.ensures.others)

pub returns-in-Plain-clause-speaks : goal.returns-in-Plain-clause-speaks
returns-in-Plain-clause-speaks c =
    subst (λ (s : Connection). SpeaksOnWritten s (Plain c.wrote.new.self) c.args.count) (sym c.in-Plain.is) (plain_writes_so c.in-Plain.plain c.wrote.new.self c.args.count c.wrote.ensures.unwritten c.wrote.ensures.others)

pub returns-in-Coded-clause-speaks : goal.returns-in-Coded-clause-speaks
returns-in-Coded-clause-speaks c =
    subst (λ (s : Connection). SpeaksOnWritten s (Coded c.wrote-in-Coded.new.self) c.args.count) (sym c.in-Coded.is)
    (coded_writes_so c.in-Coded.coded c.wrote-in-Coded.new.self c.args.count c.wrote-in-Coded.ensures.unwritten c.wrote-in-Coded.ensures.others)
