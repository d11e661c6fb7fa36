use Rattle.std.proofs.Common.{◌++◌, ◌∙◌, List, ℕ, ap, append_assoc}
use Rattle.std.proofs.lemmas.Result.{on_ok_weaker}
use Rattle.operator_notes.specs.NodeNotes.{seed_text, machine_text}
use Rattle.operator_notes.proofs.node_note.put_other_machine.Goals as goal

pub returns : goal.returns
returns c =
    let behind = machine_text c.args.node in
    on_ok_weaker c.put_machine.result
    (λ all. all ∙ (ap (λ (z : List ℕ). z ++ behind) c.in_ok-put_seed.ensures ∙ append_assoc c.args.out.now.items (seed_text c.args.node) behind))
    c.put_machine.ensures
