use Rattle.std.proofs.Common.{◌≡◌, ◌∙◌, ◌-◌, ℕ, ap, subst, List}
use Rattle.std.specs.Prelude.{map, ◌++◌, min}
use Rattle.slot_log.specs.Slots.{Log, front}
use Rattle.learner.specs.Learning.{Learned}
use Rattle.node_rules.specs.Sending.{Frame}
use Rattle.node_rules.specs.Learning.{telling_from, next_window}
use Rattle.dealer_node.specs.Outs.{told_by}
use Rattle.dealer_node.specs.Turned.{framed}
use Rattle.dealer_node.specs.Fitting.{AreMessages}
use Rattle.dealer_node.proofs.Learned.{sent_taken}
use Rattle.dealer_node.proofs.running.Running.tell_chosen.Goals as goal

pub returns-clause-taken : goal.returns-clause-taken
returns-clause-taken c = λ member s is.
    let first : c.log.result.now.log ≡ s.learned.log = c.log.ensures ∙ ap (λ (l : Learned). l.log) is.learned in
    let second : c.log-2.result.now.log ≡ s.learned.log = c.log-2.ensures ∙ ap (λ (l : Learned). l.log) is.learned in
    let slots : c.told_slots-slots.result ≡ min (front s.learned.log) (next_window c.args.slot) - c.args.slot =
    c.told_slots-slots.ensures.value ∙ ap (λ (l : Log). min (front l) (next_window c.args.slot) - c.args.slot) first in
    let all : telling_from c.log-2.result.now.log c.args.from c.args.slot c.told_slots-slots.result ≡ telling_from s.learned.log c.args.from c.args.slot (min (front s.learned.log) (next_window c.args.slot) - c.args.slot) =
    ap (λ (l : Log). telling_from l c.args.from c.args.slot c.told_slots-slots.result) second ∙ ap (λ (n : ℕ). telling_from s.learned.log c.args.from c.args.slot n) slots in
    sent_taken member c.args.self.now s (told_by c.args.made.now) c.send_chosen.new.frames.texts (telling_from s.learned.log c.args.from c.args.slot (min (front s.learned.log) (next_window c.args.slot) - c.args.slot)) is
    (c.send_chosen.ensures.texts ∙ ap (λ (fs : List Frame). c.args.made.now.frames.texts ++ map framed fs) all)
    (subst (λ (fs : List Frame). AreMessages fs) all c.send_chosen.ensures.fits)
