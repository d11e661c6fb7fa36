use Rattle.std.proofs.Common.{sym, ◌∙◌, ap, List, Bool, rules}
use Rattle.learner.specs.Tallies.{nodes_for, is_completed}
use Rattle.learner.specs.Learning.{tallies_at}
use Rattle.learner.specs.Cells.{tallies_in, learned_by}
use Rattle.learner.proofs.Heard.{refused_answer}
use Rattle.learner.proofs.hearing.hear_answer.Goals as goal

pub returns-in-Err-clause-answer : goal.returns-in-Err-clause-answer
returns-in-Err-clause-answer c =
    let counted = c.answered_at-answered.ensures ∙ ap (λ cells. nodes_for c.args.ballot c.args.command (tallies_at (tallies_in cells) c.args.slot)) c.deref.ensures.value in
    let complete = ap (λ (nodes : List Bool). is_completed c.args.nodes nodes c.args.from) (sym counted) ∙ sym c.is_completed.ensures ∙ c.if-not-is_completed.false in
    refused_answer (learned_by c.args.nodes c.args.cells.now.items c.args.log.now.log) c.args.from c.args.ballot c.args.slot c.args.command c.in-Err.fault c.requires.opened complete c.in-Err.ensures.answer

pub returns-in-Ok-clause-learned : goal.returns-in-Ok-clause-learned
returns-in-Ok-clause-learned c = search rules
