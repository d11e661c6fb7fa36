use Rattle.std.proofs.Common.{◌≡◌, ◌++◌, ◌∙◌, ap, ℕ, subst, rules}
use Rattle.std.specs.Prelude.{IfSome, codes}
use Rattle.game_def.specs.Game.{Game}
use Rattle.streamed.specs.Names.{IsNamesLine}
use Rattle.streamed.proofs.SeatNames.{line_named}
use Rattle.streamed.proofs.dealing.Dealing.read_names.Goals as goal

pub returns-clause-found : goal.returns-clause-found
returns-clause-found c =
    let Named : ℕ → Type 0 = λ players. IfSome c.read.result (λ names. IsNamesLine players names c.args.line.now) in
    let behind : c.args.line.now ≡ codes "names " ++ c.in_ok-text.text.now = search rules in
    subst Named (c.players.ensures.value ∙ ap (λ (g : Game). g.players) c.game-2.ensures)
    (line_named c.players.result c.args.line.now c.in_ok-text.text.now c.read.result behind c.read.ensures.found c.read.ensures.names)
