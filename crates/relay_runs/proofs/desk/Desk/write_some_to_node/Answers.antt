use Rattle.std.proofs.Common.{◌≡◌, ◌<◌, length, get_or, refl, ap, sym, ◌∙◌, arith}
use Rattle.std.proofs.lemmas.Grind.{common_steps}
use Rattle.std.proofs.lemmas.List.{get_or_default}
use Rattle.byte_queue.specs.Queued.{Queued}
use Rattle.relay_runs.specs.Said.{nothing_waits, waits_at}
use Rattle.relay_runs.proofs.Writing.{writes_as}
use Rattle.relay_runs.proofs.Keeping.{kept_to_node}
use Rattle.relay_runs.proofs.desk.Desk.write_some_to_node.Goals as goal

pub returns-in-Some : goal.returns-in-Some
returns-in-Some g c =
    let within : c.args.node < length c.args.self.now.to_nodes.items = grind (arith, common_steps) in
    let slot : c.in-Some.waiting.now ≡ get_or c.args.self.now.to_nodes.items c.args.node nothing_waits = c.in-Some.ensures.value ∙ get_or_default c.args.self.now.to_nodes.items c.args.node c.in-Some.waiting.now nothing_waits within in
    let waited : waits_at c.args.self.now.to_nodes.items c.args.node ≡ c.in-Some.waiting.now.waiting = ap (λ (q : Queued). q.waiting) (sym slot) in
    kept_to_node _ _ _ _ c.args.node c.write_some.new.waiting (sym c.was_dialled.ensures ∙ c.if-not-was_dialled.false) refl refl refl refl refl refl within refl refl refl refl (writes_as _ _ _ _ _ _ waited c.write_some.ensures)
