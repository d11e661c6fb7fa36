use Rattle.std.proofs.Common.{◌≤◌, subst}
use Rattle.game_def.specs.Game.{Game}
use Rattle.streamed.proofs.Lengths.{says_whole}
use Rattle.streamed.proofs.Telling.{says_in_turn}
use Rattle.streamed.proofs.dealing.Dealing.read.Goals as goal

pub returns-clause-says : goal.returns-clause-says
returns-clause-says c =
    let few : Game → Type 0 = λ g. g.players ≤ 10 in
    λ line kept. says_whole _ _ _ c.args.front.now line c.read_line.result (subst few c.game.ensures c.limits.ensures.most_players) kept c.read_line.ensures

pub returns-clause-in_turn : goal.returns-clause-in_turn
returns-clause-in_turn c = says_in_turn _ _ _ c.args.front.now c.read_line.result c.read_line.ensures
