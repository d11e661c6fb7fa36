use Rattle.std.proofs.Common.{ℕ, ◌+◌, ◌*◌, length, refl, ap, sym, subst, ◌∙◌, arith}
use Rattle.paxos_wire.specs.Order.{is_below}
use Rattle.node_rules.specs.Standings.{idle}
use Rattle.proposer.specs.Campaigns.{Proposing}
use Rattle.proposer.specs.CommandRuns.{IsBounded}
use Rattle.dealer_node.specs.declared.limits.TheConstants.{FRAMES_TO_ALL, FRAMES_OF_AN_ANSWER}
use Rattle.dealer_node.specs.Outs.{told_by}
use Rattle.dealer_node.specs.Working.{head_of, IsUp}
use Rattle.dealer_node.proofs.Left.{fewer_left}
use Rattle.dealer_node.proofs.Stored.{accept_voted}
use Rattle.dealer_node.proofs.up.Up.accept.Goals as goal

pub vote-requires-clause-at : goal.vote-requires-clause-at
vote-requires-clause-at g c = c.turn_idle.ensures.at c.args.member.now c.requires.at

pub returns-clause-left : goal.returns-clause-left
returns-clause-left g c need answers more frames left =
    let k : ℕ = length c.args.commands.now in
    c.vote.ensures.left need answers more frames
    (fewer_left c.args.self.now.running c.turn_idle.new.self c.args.made.now need (answers + 1) (more + k) (more + k) (frames + FRAMES_TO_ALL * k) (frames + (FRAMES_OF_AN_ANSWER + FRAMES_TO_ALL * k)) (omega arith) (omega arith) c.turn_idle.ensures.rest left)

pub returns-clause-works : goal.returns-clause-works
returns-clause-works g c s honest is =
    let same = c.promised-promised.ensures.kept (head_of c.args.member.now) s.store is.keeps honest in
    let above = sym c.is_below.ensures ∙ c.if-is_below.false in
    let there : IsUp g.D.Disk c.args.member.now (record c.args.self.now { running = c.turn_idle.new.self }) (idle s) = record { running = c.turn_idle.ensures.runs c.args.member.now s is.running; keeps = is.keeps; unbegun = is.unbegun; stands = tt } in
    accept_voted g.D.Disk c.args.member.now s c.args.from c.args.ballot c.promised-promised.result c.args.slot c.args.commands.now (record c.args.self.now { running = c.turn_idle.new.self }) c.args.self.now c.vote.new.self (told_by c.args.made.now) (told_by c.vote.new.made) c.vote.result refl same above
    (c.vote.ensures.works (idle s) honest there (ap (is_below c.args.ballot) (sym same) ∙ above) tt)

pub returns-clause-bounded : goal.returns-clause-bounded
returns-clause-bounded g c = λ most bounded. subst (λ (p : Proposing). IsBounded p most) (sym c.vote.ensures.proposer) (c.turn_idle.ensures.bounded most)
