use Rattle.std.proofs.Common.{◌≡◌, ◌+◌, ◌*◌, ◌≤◌, ◌++◌, take, reverse, vec_len}
use Rattle.std.specs.Vec.{vec_capacity}
use Rattle.betting.specs.Text.{text}
use Rattle.matchstate.proofs.betting_field.BettingText.put.Given as goal

abbrev pub invariant-loop-place : goal.invariant-loop-place
invariant-loop-place l = record {
  items : l.out.items ≡ l.fn.out.items ++ text l.self-inside.game.now (reverse (take l.place l.self-inside.actions.now));
  len : vec_len l.out ≤ vec_len l.fn.out + 14 * l.place;
  capacity : vec_capacity l.fn.out ≤ vec_capacity l.out;
}
