use Rattle.std.proofs.Common.{◌++◌, map, sym, ap, ◌∙◌}
use Rattle.std.proofs.lemmas.List.{append-nil}
use Rattle.match_file.proofs.UnusedKeys.{node_unused_in, node_unused_seen}
use Rattle.match_file.proofs.unused.unused_in.Goals as goal

pub returns : goal.returns
returns c =
    let over = c.in-None.ensures.steps in
    let told = map (λ key. key.now) c.loop-key.unused.items in
    sym (append-nil told) ∙ (ap (λ keys. told ++ node_unused_in keys) (sym over.0) ∙ (c.loop-key.invariant ∙ sym (node_unused_seen c.args.table.now)))
