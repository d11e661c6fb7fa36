use Rattle.std.proofs.Common.{◌≡◌, ◌+◌, ◌*◌, ◌≤◌, ◌++◌, ◌∷◌, [], map, vec_len, vec_capacity}
use Rattle.std.specs.List.{join_by, range_with_len}
use Rattle.card_core.specs.Deal.{hole_of}
use Rattle.matchstate.specs.Cards.{cards_text}
use Rattle.match_log.proofs.fields.put_holes.Given as goal

abbrev pub invariant-loop-position : goal.invariant-loop-position
invariant-loop-position l = record {
  written : l.out.items ≡ l.initial.out.items ++ join_by cards_text (124 ∷ []) (map (hole_of l.deal) (range_with_len 0 l.position));
  len : vec_len l.out ≤ vec_len l.initial.out + 5 * l.position;
  capacity : vec_capacity l.initial.out ≤ vec_capacity l.out;
}
