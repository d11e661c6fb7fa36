use Rattle.std.proofs.Common.{◌≡◌, ◌++◌, ◌∷◌, [], ◌∙◌, sym, ap}
use Rattle.node_runs.specs.KeyFiles.{without_feed}
use Rattle.node_runs.proofs.Feeds.{feed_goes, other_stays}
use Rattle.node_runs.proofs.key_file.without_feed.Goals as goal

pub returns-in-Some : goal.returns-in-Some
returns-in-Some c =
    let front = c.in-Some.front.now in
    let ends : c.args.text.now ≡ front ++ 10 ∷ [] = rw (← c.if-last-eq10.true) c.in-Some.ensures.cases.0 in
    sym (ap without_feed ends ∙ feed_goes front)

pub returns-in_default : goal.returns-in_default
returns-in_default c =
    let ends = c.in-Some.ensures.cases.0 in
    rw ends (sym (other_stays c.in-Some.front.now c.in-Some.last.now c.if-last-eq10.false))
