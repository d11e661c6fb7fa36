-- What the fields of a game definition keep, and that they are got back from the game.
use Rattle.std.specs.Prelude.{◌≡◌, ℕ, ◌-◌, ◌++◌, List, take, replicate}
use Rattle.std.proofs.Common.{sym, ◌∙◌, ap}
use Rattle.game_def.specs.Game.{Game, IsGame}
use Rattle.game_def.specs.declared.game.GameDef.TheInside.{Inside}

-- the game that the fields hold
abbrev pub game_of : Inside → Game
game_of d = record {
  players = d.players;
  stacks = take d.players d.stacks;
  blinds = take d.players d.blinds;
  raise_sizes = d.raise_sizes;
  first_players = d.first_players;
  max_raises = d.max_raises;
}

-- in the places behind the last player stands 0
pub record IsKept (d : Inside) : Type 0 where
  pub game : IsGame (game_of d)
  pub stacks : d.stacks ≡ take d.players d.stacks ++ replicate (10 - d.players) 0
  pub blinds : d.blinds ≡ take d.players d.blinds ++ replicate (10 - d.players) 0

abbrev pub inside_of : Game → Inside
inside_of game = record {
  players = game.players;
  stacks = game.stacks ++ replicate (10 - game.players) 0;
  blinds = game.blinds ++ replicate (10 - game.players) 0;
  raise_sizes = game.raise_sizes;
  first_players = game.first_players;
  max_raises = game.max_raises;
}

pub inside_of-game_of : (d : Inside) → IsKept d → inside_of (game_of d) ≡ d
inside_of-game_of d kept =
    let with_stacks : List ℕ → Inside = λ stacks. record (inside_of (game_of d)) { stacks = stacks } in
    let with_both : List ℕ → Inside = λ blinds. record d { blinds = blinds } in
    ap with_stacks (sym kept.stacks) ∙ ap with_both (sym kept.blinds)
