use Rattle.std.proofs.Common.{◌≡◌, sym, ap, subst}
use Rattle.node_links.specs.declared.connection.Connection.{Connection}
use Rattle.node_links.specs.declared.connection.Connection.TheVariants.{Plain, Coded}
use Rattle.node_links.specs.Talks.{Talk}
use Rattle.node_links.specs.Going.{Goes}
use Rattle.node_links.specs.declared.plain_connection.PlainConnection.{PlainConnection}
use Rattle.node_links.proofs.PlainGoing.{plain_settles}
use Rattle.node_links.proofs.CodedSaying.{coded_settles}
use Rattle.node_links.specs.Judging.{IsKnown}
use Rattle.node_links.specs.Going.{taken_in, taken_at, taken_of}
use Rattle.node_links.proofs.Beginning.{plain_known, coded_known}
use Rattle.node_links.specs.Speaking.{SpeaksOn}
use Rattle.node_links.proofs.PlainSpeaking.{plain_settles_so}
use Rattle.node_links.proofs.CodedSpeaking.{coded_settles_so}
use Rattle.node_links.proofs.connection.Connection.settle.Goals as goal

pub returns-in-Plain-clause-goes : goal.returns-in-Plain-clause-goes
returns-in-Plain-clause-goes c =
    subst (λ (s : Connection). (talk : Talk) → talk.dialled ≡ c.args.dialled → Goes c.args.own.now talk s → Goes c.args.own.now talk (Plain c.settle.new.self)) (sym c.in-Plain.is)
    (plain_settles c.args.own.now c.args.dialled c.args.met.now c.in-Plain.plain c.settle.new.self (ap (λ (p : PlainConnection). p.came.waiting) c.settle.ensures) (ap (λ (p : PlainConnection). p.phase) c.settle.ensures))

pub returns-in-Coded-clause-goes : goal.returns-in-Coded-clause-goes
returns-in-Coded-clause-goes c =
    subst (λ (s : Connection). (talk : Talk) → talk.dialled ≡ c.args.dialled → Goes c.args.own.now talk s → Goes c.args.own.now talk (Coded c.settle-in-Coded.new.self)) (sym c.in-Coded.is)
    (coded_settles c.args.own.now c.args.dialled c.args.met.now c.in-Coded.coded c.settle-in-Coded.new.self c.settle-in-Coded.ensures)

pub returns-in-Plain-clause-known : goal.returns-in-Plain-clause-known
returns-in-Plain-clause-known c =
    subst (λ (s : Connection). IsKnown c.args.own.now c.args.met.now (taken_of s) (taken_in c.settle.new.self.phase)) (sym c.in-Plain.is)
    (plain_known c.args.own.now c.args.dialled c.args.met.now c.in-Plain.plain c.settle.new.self c.settle.ensures)

pub returns-in-Coded-clause-known : goal.returns-in-Coded-clause-known
returns-in-Coded-clause-known c =
    subst (λ (s : Connection). IsKnown c.args.own.now c.args.met.now (taken_of s) (taken_at c.settle-in-Coded.new.self.stage)) (sym c.in-Coded.is)
    (coded_known c.args.own.now c.args.dialled c.args.met.now c.in-Coded.coded c.settle-in-Coded.new.self c.settle-in-Coded.ensures)

pub returns-in-Plain-clause-speaks : goal.returns-in-Plain-clause-speaks
returns-in-Plain-clause-speaks c =
    subst (λ (s : Connection). SpeaksOn s (Plain c.settle.new.self)) (sym c.in-Plain.is) (plain_settles_so c.args.own.now c.args.dialled c.args.met.now c.in-Plain.plain c.settle.new.self c.settle.ensures)

pub returns-in-Coded-clause-speaks : goal.returns-in-Coded-clause-speaks
returns-in-Coded-clause-speaks c =
    subst (λ (s : Connection). SpeaksOn s (Coded c.settle-in-Coded.new.self)) (sym c.in-Coded.is)
    (coded_settles_so c.args.own.now c.args.dialled c.args.met.now c.in-Coded.coded c.settle-in-Coded.new.self c.settle-in-Coded.ensures)
