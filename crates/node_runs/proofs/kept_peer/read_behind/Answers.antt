use Rattle.std.proofs.Common.{ap, sym, ◌∙◌}
use Rattle.std.specs.Prelude.{Option, Some}
use Rattle.paxos_wire.specs.declared.ballot.Ballot.{Ballot}
use Rattle.node_runs.proofs.KeptPeers.{says_none, says_some, empty_is}
use Rattle.node_runs.proofs.kept_peer.read_behind.Goals as goal

pub returns-then-is_empty-clause-only : goal.returns-then-is_empty-clause-only
returns-then-is_empty-clause-only c = λ promised fits says.
    ap (λ (p : Option Ballot). Some p) (sym (says_none c.args.text.now promised (empty_is c.args.text.now (sym c.is_empty.ensures ∙ c.if-is_empty.true)) says))

pub returns-in-Some-clause-only : goal.returns-in-Some-clause-only
returns-in-Some-clause-only c = λ promised fits says.
    let one = says_some c.args.text.now promised (sym c.is_empty.ensures ∙ c.if-is_empty.false) fits says in
    ap (λ (p : Option Ballot). Some p) (c.in-Some.ensures.only one.0 one.1.1.0 one.1.1.1 ∙ sym one.1.0)

pub returns-in-None-clause-only : goal.returns-in-None-clause-only
returns-in-None-clause-only c = λ promised fits says.
    let one = says_some c.args.text.now promised (sym c.is_empty.ensures ∙ c.if-is_empty.false) fits says in
    let never = c.in-None.ensures.only one.0 one.1.1.0 one.1.1.1 in
    absurd (cc)
