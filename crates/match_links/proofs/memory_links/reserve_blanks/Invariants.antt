use Rattle.std.proofs.Common.{◌≤◌, vec_len}
use Rattle.match_links.proofs.memory_links.reserve_blanks.Given as goal

-- so many are there, and none is lost
abbrev pub invariant-loop : goal.invariant-loop
invariant-loop l = record {
  ready : l.counter ≤ vec_len l.blanks;
  kept : vec_len l.initial.blanks ≤ vec_len l.blanks;
}
