use Rattle.std.proofs.Common.{sym, subst}
use Rattle.node_links.specs.declared.connection.Connection.{Connection}
use Rattle.node_links.specs.declared.connection.Connection.TheVariants.{Plain, Coded}
use Rattle.node_links.specs.Going.{GoesOn, peer_of}
use Rattle.node_links.proofs.PlainGoing.{plain_says}
use Rattle.node_links.proofs.CodedSaying.{coded_says}
use Rattle.node_links.proofs.Beginning.{plain_begun, coded_begun}
use Rattle.node_links.specs.Speaking.{SpeaksOf}
use Rattle.node_links.proofs.PlainSpeaking.{plain_says_so}
use Rattle.node_links.proofs.CodedSpeaking.{coded_says_so}
use Rattle.node_links.proofs.connection.Connection.begin.Goals as goal

pub returns-in-Plain-clause-goes : goal.returns-in-Plain-clause-goes
returns-in-Plain-clause-goes c = subst (λ (s : Connection). GoesOn s (Plain c.begin.new.self)) (sym c.in-Plain.is) (plain_says c.in-Plain.plain c.begin.new.self c.args.waiting.now c.begin.ensures.own)

pub returns-in-Coded-clause-goes : goal.returns-in-Coded-clause-goes
returns-in-Coded-clause-goes c =
    subst (λ (s : Connection). GoesOn s (Coded c.begin-in-Coded.new.self)) (sym c.in-Coded.is)
    (coded_says c.calls_happen.ensures.begin c.in-Coded.coded c.begin-in-Coded.new.self c.args.waiting.now c.begin-in-Coded.ensures.own)

pub returns-in-Plain-clause-waiting : goal.returns-in-Plain-clause-waiting
returns-in-Plain-clause-waiting c = plain_begun c.in-Plain.plain c.args.waiting.now c.begin.new.waiting c.begin.ensures.waiting

pub returns-in-Coded-clause-waiting : goal.returns-in-Coded-clause-waiting
returns-in-Coded-clause-waiting c = coded_begun c.in-Coded.coded c.args.waiting.now c.begin-in-Coded.new.waiting c.begin-in-Coded.ensures.waiting

pub returns-in-Plain-clause-speaks : goal.returns-in-Plain-clause-speaks
returns-in-Plain-clause-speaks c =
    subst (λ (s : Connection). SpeaksOf s (Plain c.begin.new.self) (peer_of s) c.args.waiting.now.frames) (sym c.in-Plain.is) (plain_says_so c.in-Plain.plain c.begin.new.self c.args.waiting.now c.begin.ensures.own)

pub returns-in-Coded-clause-speaks : goal.returns-in-Coded-clause-speaks
returns-in-Coded-clause-speaks c =
    subst (λ (s : Connection). SpeaksOf s (Coded c.begin-in-Coded.new.self) (peer_of s) c.args.waiting.now.frames) (sym c.in-Coded.is)
    (coded_says_so c.calls_happen.ensures.begin c.in-Coded.coded c.begin-in-Coded.new.self c.args.waiting.now c.begin-in-Coded.ensures.own)
