use Rattle.std.proofs.Common.{◌≡◌, ◌<◌, ◌++◌, ℕ, List, length, drop}
use Rattle.std.specs.List.{AllByRecursion, flat_map, range_with_len}
use Rattle.match_log.specs.Lines.{names_field}
use Rattle.match_log.specs.Names.{IsName}
use Rattle.luck.specs.Lines.{position_line}
use Rattle.luck.proofs.lines.put_hand.Given as goal

abbrev pub invariant-loop-position : goal.invariant-loop-position
invariant-loop-position l =
    (names : List (List ℕ)) → length names ≡ l.line.play.game.players → AllByRecursion IsName names → l.line.names.now ≡ names_field names
    → (l.position < length names → l.names ≡ names_field (drop l.position names))
    × (l.out.items ≡ l.fn.out.items ++ flat_map (position_line l.key l.line.play.game names l.number (record { deal = l.line.deal; past = l.line.play.past })) (range_with_len 0 l.position))
