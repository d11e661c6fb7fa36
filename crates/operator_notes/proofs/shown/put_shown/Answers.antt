use Rattle.std.proofs.Common.{◌++◌, ◌∙◌, List, ℕ, ap, sym, map-id}
use Rattle.std.specs.List.{flat_map}
use Rattle.std.proofs.lemmas.Iterator.{YieldsList-from_chars}
use Rattle.std.proofs.lemmas.Iterator.Consumers.{YieldsList-end}
use Rattle.operator_notes.specs.Shown.{shown_char}
use Rattle.operator_notes.proofs.shown.put_shown.Goals as goal

pub returns : goal.returns
returns c =
    let whole = (YieldsList-end (YieldsList-from_chars c.args.text.now c.utf8.text cc) c.loop-c.yielded _ c.loop-c.yielded_by _ _ c.in-None.is c.next.ensures.steps).0 in
    c.loop-c.invariant ∙ ap (λ (cs : List ℕ). c.args.out.now.items ++ flat_map shown_char cs) (sym (map-id c.loop-c.yielded) ∙ whole)
