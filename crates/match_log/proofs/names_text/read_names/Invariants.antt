use Rattle.std.proofs.Common.{◌≡◌, ◌++◌, ℕ, List, length, take, drop}
use Rattle.std.specs.List.{AllByRecursion}
use Rattle.match_log.specs.Lines.{names_field}
use Rattle.match_log.specs.Names.{IsName}
use Rattle.match_log.proofs.Naming.{ended}
use Rattle.match_log.proofs.names_text.read_names.Given as goal

abbrev pub invariant-loop-position : goal.invariant-loop-position
invariant-loop-position l = record {
  places : length l.names ≡ 10;
  so_far : l.bytes ≡ ended (take l.position l.names) ++ l.rest;
  each_name : AllByRecursion IsName (take l.position l.names);
  only : (names : List (List ℕ)) → length names ≡ l.players → AllByRecursion IsName names → l.bytes ≡ names_field names → (take l.position l.names ≡ take l.position names) × (l.rest ≡ names_field (drop l.position names));
}
