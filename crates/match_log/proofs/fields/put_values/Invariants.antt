use Rattle.std.proofs.Common.{◌≡◌, ◌+◌, ◌*◌, ◌≤◌, ◌++◌, take, vec_len, vec_capacity}
use Rattle.match_log.specs.Lines.{values_field}
use Rattle.match_log.proofs.fields.put_values.Given as goal

abbrev pub invariant-loop-place : goal.invariant-loop-place
invariant-loop-place l = record {
  written : l.out.items ≡ l.initial.out.items ++ values_field (take l.place l.values);
  len : vec_len l.out ≤ vec_len l.initial.out + 21 * l.place;
  capacity : vec_capacity l.initial.out ≤ vec_capacity l.out;
}
