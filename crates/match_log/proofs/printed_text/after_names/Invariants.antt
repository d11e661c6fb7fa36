use Rattle.std.proofs.Common.{◌≡◌, ◌++◌, take}
use Rattle.match_log.specs.Lines.{names_field}
use Rattle.match_log.proofs.printed_text.after_names.Given as goal

abbrev pub invariant-loop-place : goal.invariant-loop-place
invariant-loop-place l = l.bytes ≡ names_field (take l.place l.names) ++ l.rest
