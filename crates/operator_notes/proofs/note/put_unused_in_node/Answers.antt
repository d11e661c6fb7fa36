use Rattle.std.proofs.Common.{◌≡◌, ◌++◌, ◌∙◌, List, ℕ, codes, decimal, ap, sym, append_assoc}
use Rattle.std.proofs.lemmas.Result.{on_ok_weaker}
use Rattle.operator_notes.specs.Shown.{shown}
use Rattle.operator_notes.proofs.note.put_unused_in_node.Goals as goal

pub returns : goal.returns
returns c =
    let out = c.args.out.now.items in
    let key : List ℕ = shown c.args.key.now in
    let node : List ℕ = decimal c.args.node in
    let of : List ℕ = codes " of node " in
    let unused : List ℕ = codes " in the match file, ignored" in
    let behind : key ++ (of ++ (node ++ unused)) ≡ ((key ++ of) ++ node) ++ unused = sym (append_assoc (key ++ of) node unused ∙ append_assoc key of (node ++ unused)) in
    on_ok_weaker c.put_unused_of.result
    (λ all. all ∙ (ap (λ (z : List ℕ). z ++ (of ++ (node ++ unused))) c.in_ok-put_named.ensures
    ∙ (append_assoc out (codes "unknown key " ++ key) (of ++ (node ++ unused)) ∙ ap (λ (z : List ℕ). out ++ (codes "unknown key " ++ z)) behind)))
    c.put_unused_of.ensures
