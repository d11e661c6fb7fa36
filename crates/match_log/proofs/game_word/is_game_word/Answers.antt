use Rattle.std.proofs.Common.{arith}
use Rattle.std.proofs.lemmas.Grind.{elements}
use Rattle.match_log.proofs.game_word.is_game_word.Goals as goal

pub returns-then-bytes-le-MOST_CHARACTERS : goal.returns-then-bytes-le-MOST_CHARACTERS
returns-then-bytes-le-MOST_CHARACTERS c = grind (arith, elements)
