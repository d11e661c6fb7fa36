use Rattle.std.proofs.Common.{Result, Ok, Err, OnOk, sym, ap, subst}
use Rattle.node_links.specs.declared.connection.Connection.{Connection}
use Rattle.node_links.specs.declared.connection.Connection.TheVariants.{Plain, Coded}
use Rattle.node_links.specs.Going.{GoesOnWith}
use Rattle.node_links.specs.declared.plain_connection.PlainConnection.{PlainConnection}
use Rattle.node_links.proofs.PlainGoing.{plain_takes}
use Rattle.node_links.proofs.CodedSaying.{coded_takes}
use Rattle.node_links.specs.Speaking.{SpeaksOnWith}
use Rattle.node_links.proofs.PlainSpeaking.{plain_takes_so}
use Rattle.node_links.proofs.CodedSpeaking.{coded_takes_so}
use Rattle.node_links.proofs.connection.Connection.take.Goals as goal

ok_so : {A E P Q : Type 0} (r : Result A E) → (P → Q) → OnOk r P → OnOk r Q
ok_so (Ok a) so ok = so ok
ok_so (Err e) so ok = tt

pub returns-in-Plain-clause-ok : goal.returns-in-Plain-clause-ok
returns-in-Plain-clause-ok c =
    subst (λ (s : Connection). OnOk c.take.result (GoesOnWith s (Plain c.take.new.self) c.args.piece.now)) (sym c.in-Plain.is)
    (ok_so c.take.result (λ waiting. plain_takes c.in-Plain.plain c.take.new.self c.args.piece.now waiting (ap (λ (p : PlainConnection). p.phase) c.take.ensures.others)) c.take.ensures.ok)

pub returns-in-Coded-clause-ok : goal.returns-in-Coded-clause-ok
returns-in-Coded-clause-ok c =
    subst (λ (s : Connection). OnOk c.take-in-Coded.result (GoesOnWith s (Coded c.take-in-Coded.new.self) c.args.piece.now)) (sym c.in-Coded.is)
    (ok_so c.take-in-Coded.result (λ waiting. coded_takes c.in-Coded.coded c.take-in-Coded.new.self c.args.piece.now waiting c.take-in-Coded.ensures.others) c.take-in-Coded.ensures.ok)

pub returns-in-Plain-clause-speaks : goal.returns-in-Plain-clause-speaks
returns-in-Plain-clause-speaks c =
    subst (λ (s : Connection). OnOk c.take.result (SpeaksOnWith s (Plain c.take.new.self) c.args.piece.now)) (sym c.in-Plain.is)
    (ok_so c.take.result (λ waiting. plain_takes_so c.in-Plain.plain c.take.new.self c.args.piece.now waiting c.take.ensures.others) c.take.ensures.ok)

pub returns-in-Coded-clause-speaks : goal.returns-in-Coded-clause-speaks
returns-in-Coded-clause-speaks c =
    subst (λ (s : Connection). OnOk c.take-in-Coded.result (SpeaksOnWith s (Coded c.take-in-Coded.new.self) c.args.piece.now)) (sym c.in-Coded.is)
    (ok_so c.take-in-Coded.result (λ waiting. coded_takes_so c.in-Coded.coded c.take-in-Coded.new.self c.args.piece.now waiting c.take-in-Coded.ensures.others) c.take-in-Coded.ensures.ok)
