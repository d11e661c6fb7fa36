use Rattle.std.proofs.Common.{◌++◌, map, sym, ap, ◌∙◌}
use Rattle.std.proofs.lemmas.List.{append-nil}
use Rattle.match_file.proofs.UnusedKeys.{unused_in, unused_seen}
use Rattle.match_file.proofs.match_file.MatchFile.unused.Goals as goal

pub returns : goal.returns
returns c =
    let over = c.in-None.ensures.steps in
    let told = map (λ key. key.now) c.loop-key.unused.items in
    sym (append-nil told) ∙ (ap (λ keys. told ++ unused_in keys) (sym over.0) ∙ (c.loop-key.invariant ∙ sym (unused_seen c.args.self.now.table)))
