use Rattle.std.proofs.Common.{◌≤◌, ℕ, List, length, take, reverse, sym, ap, subst, ◌∙◌}
use Rattle.std.proofs.lemmas.List.{reverse-reverse, length-reverse}
use Rattle.slot_log.specs.declared.command.Command.{Command}
use Rattle.node_rules.specs.Standings.{applied}
use Rattle.node_service.specs.Acts.{AreActsBy}
use Rattle.node_service.proofs.ticking.follow_list.Goals as goal

pub returns : goal.returns
returns g c =
    λ s seen within old.
    let list = c.commands.ensures.seen s (rw c.node.ensures seen) in
    let enough = subst (λ (n : ℕ). c.args.acts.now.followed ≤ n) (sym (ap length list ∙ length-reverse (applied s))) within in
    let first = subst (λ (cs : List Command). AreActsBy c.args.acts.now (reverse (take c.args.acts.now.followed cs))) (sym list) old in
    subst (λ (cs : List Command). AreActsBy c.follow.new.self cs) (ap reverse list ∙ reverse-reverse (applied s)) (c.follow.ensures.by first enough)
