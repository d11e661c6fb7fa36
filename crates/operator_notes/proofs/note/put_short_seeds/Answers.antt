use Rattle.std.proofs.Common.{◌++◌, ◌∙◌, List, ℕ, codes, ap, append_assoc}
use Rattle.std.specs.List.{flat_map}
use Rattle.std.proofs.lemmas.Result.{on_ok_weaker}
use Rattle.operator_notes.specs.Notes.{port_text}
use Rattle.operator_notes.proofs.note.put_short_seeds.Goals as goal

pub returns : goal.returns
returns c =
    let numbers = flat_map port_text c.args.nodes.now in
    on_ok_weaker c.put_numbers.result
    (λ all. all ∙ (ap (λ (z : List ℕ). z ++ numbers) c.in_ok-extend_from_slice.ensures.items ∙ append_assoc c.args.out.now.items (codes "seeds below 2^55 can be guessed from one hand: of node") numbers))
    c.put_numbers.ensures
