use Rattle.std.proofs.Common.{refl}
use Rattle.game_def.proofs.whole_file.playable.Goals as goal

pub returns : goal.returns
returns c = rw (c.first_players_play.ensures, c.raises_sized.ensures, c.stacks_exceed.ensures, c.greatest_blind-blind.ensures) refl
