use Rattle.std.proofs.Common.{sym, subst}
use Rattle.node_links.specs.declared.connection.Connection.{Connection}
use Rattle.node_links.specs.declared.connection.Connection.TheVariants.{Plain, Coded}
use Rattle.node_links.specs.Going.{GoesOn, Tells}
use Rattle.node_links.specs.Arriving.{told}
use Rattle.node_links.proofs.PlainGoing.{plain_nexts, plain_tells}
use Rattle.node_links.proofs.CodedGoing.{coded_nexts, coded_tells}
use Rattle.node_links.specs.Speaking.{SpeaksOn}
use Rattle.node_links.proofs.PlainSpeaking.{plain_nexts_so}
use Rattle.node_links.proofs.CodedSpeaking.{coded_nexts_so}
use Rattle.node_links.proofs.connection.Connection.next.Goals as goal

pub returns-in-Plain-clause-goes : goal.returns-in-Plain-clause-goes
returns-in-Plain-clause-goes c = subst (λ (s : Connection). GoesOn s (Plain c.next.new.self)) (sym c.in-Plain.is) (plain_nexts c.in-Plain.plain c.next.new.self (told c.next.result c.next.new.frame) c.next.ensures)

pub returns-in-Plain-clause-tells : goal.returns-in-Plain-clause-tells
returns-in-Plain-clause-tells c = subst (λ (s : Connection). Tells (told c.next.result c.next.new.frame) s (Plain c.next.new.self)) (sym c.in-Plain.is) (plain_tells c.in-Plain.plain c.next.new.self (told c.next.result c.next.new.frame) c.next.ensures)

pub returns-in-Coded-clause-goes : goal.returns-in-Coded-clause-goes
returns-in-Coded-clause-goes c =
    subst (λ (s : Connection). GoesOn s (Coded c.next-in-Coded.new.self)) (sym c.in-Coded.is)
    (coded_nexts c.events_stand_in_front.ensures c.calls_happen.ensures.waits c.in-Coded.coded c.next-in-Coded.new.self (told c.next-in-Coded.result c.next-in-Coded.new.frame) c.next-in-Coded.ensures)

pub returns-in-Coded-clause-tells : goal.returns-in-Coded-clause-tells
returns-in-Coded-clause-tells c =
    subst (λ (s : Connection). Tells (told c.next-in-Coded.result c.next-in-Coded.new.frame) s (Coded c.next-in-Coded.new.self)) (sym c.in-Coded.is)
    (coded_tells c.events_stand_in_front.ensures c.in-Coded.coded c.next-in-Coded.new.self (told c.next-in-Coded.result c.next-in-Coded.new.frame) c.next-in-Coded.ensures)

pub returns-in-Plain-clause-speaks : goal.returns-in-Plain-clause-speaks
returns-in-Plain-clause-speaks c = subst (λ (s : Connection). SpeaksOn s (Plain c.next.new.self)) (sym c.in-Plain.is) (plain_nexts_so c.in-Plain.plain c.next.new.self (told c.next.result c.next.new.frame) c.next.ensures)

pub returns-in-Coded-clause-speaks : goal.returns-in-Coded-clause-speaks
returns-in-Coded-clause-speaks c =
    subst (λ (s : Connection). SpeaksOn s (Coded c.next-in-Coded.new.self)) (sym c.in-Coded.is)
    (coded_nexts_so c.events_stand_in_front.ensures c.calls_happen.ensures.waits c.own_proofs_are_said.ensures.next c.in-Coded.coded c.next-in-Coded.new.self (told c.next-in-Coded.result c.next-in-Coded.new.frame) c.next-in-Coded.ensures)
