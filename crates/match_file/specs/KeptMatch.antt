-- A kept match that was read, as what it says.
use Rattle.match_file.specs.Kept.{Kept}
use Rattle.match_file.specs.declared.kept_match.KeptMatch.{KeptMatch}

abbrev pub kept_in : KeptMatch → Kept
kept_in found = record {
  setting = record { game = found.game; title = record { name = found.name; game = found.game_word.now; hands = found.hands }; names = found.names };
  nodes = found.nodes;
}
