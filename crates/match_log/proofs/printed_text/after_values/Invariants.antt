use Rattle.std.proofs.Common.{◌≡◌, ◌++◌, take}
use Rattle.match_log.specs.Lines.{values_field}
use Rattle.match_log.proofs.printed_text.after_values.Given as goal

abbrev pub invariant-loop-place : goal.invariant-loop-place
invariant-loop-place l = l.bytes ≡ values_field (take l.place l.values) ++ l.rest
