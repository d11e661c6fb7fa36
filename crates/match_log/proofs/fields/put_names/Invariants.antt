use Rattle.std.proofs.Common.{◌≡◌, ◌+◌, ◌*◌, ◌≤◌, ◌++◌, ◌∷◌, [], map, length, get_or, vec_len, vec_capacity}
use Rattle.std.specs.List.{join_by, range_with_len}
use Rattle.matchstate.specs.View.{seat_of}
use Rattle.match_log.proofs.fields.put_names.Given as goal

abbrev pub invariant-loop-position : goal.invariant-loop-position
invariant-loop-position l = record {
  written : l.out.items ≡ l.initial.out.items ++ join_by (λ name. name) (124 ∷ []) (map (λ position. get_or l.names (seat_of (length l.names) l.hand position) []) (range_with_len 0 l.position));
  len : vec_len l.out ≤ vec_len l.initial.out + 33 * l.position;
  capacity : vec_capacity l.initial.out ≤ vec_capacity l.out;
}
