use Rattle.std.proofs.Common.{◌++◌, ◌∙◌, List, ℕ, codes, decimal, ap, append_assoc}
use Rattle.std.proofs.lemmas.Result.{on_ok_weaker}
use Rattle.operator_notes.proofs.node_note.put_lag.Goals as goal

pub returns : goal.returns
returns c =
    let peer : List ℕ = codes "peer " ++ decimal c.args.peer ++ codes ": " in
    let behind : List ℕ = decimal c.args.behind ++ codes " commands behind" in
    on_ok_weaker c.put_commands.result
    (λ all. all ∙ (ap (λ (z : List ℕ). z ++ behind) c.in_ok-put_peer_name.ensures ∙ append_assoc c.args.out.now.items peer behind))
    c.put_commands.ensures
