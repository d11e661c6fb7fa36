use Rattle.std.proofs.Common.{◌++◌, ◌∙◌, List, ℕ, ap, append_assoc}
use Rattle.std.proofs.lemmas.Result.{on_ok_weaker}
use Rattle.operator_notes.specs.NodeNotes.{behind_text, slowest_text}
use Rattle.operator_notes.proofs.node_note.put_behind.Goals as goal

pub returns : goal.returns
returns c =
    let behind = slowest_text c.args.slowest in
    on_ok_weaker c.put_slowest.result
    (λ all. all ∙ (ap (λ (z : List ℕ). z ++ behind) c.in_ok-put_lag.ensures ∙ append_assoc c.args.out.now.items (behind_text c.args.peer c.args.behind) behind))
    c.put_slowest.ensures
