-- A byte that doesn't stand in a text, so that the text ends where it comes.
use Rattle.std.specs.Prelude.{◌≢◌, ℕ, List}
use Rattle.std.specs.List.{AllByRecursion}

-- no such byte stands in the text
abbrev pub IsFreeOf : ℕ → List ℕ → Type 0
IsFreeOf byte text = AllByRecursion (λ other. other ≢ byte) text
