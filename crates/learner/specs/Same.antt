-- The test whether two commands are the same.
use Rattle.std.specs.Prelude.{ℕ, Bool, true, false, ◌==◌, if◌then◌else◌, List, [], ◌∷◌}
use Rattle.betting.specs.declared.action.Action.{Action}
use Rattle.betting.specs.declared.action.Action.TheVariants.{Fold, Call, Raise}
use Rattle.slot_log.specs.declared.command.Command.{Command}
use Rattle.slot_log.specs.declared.command.Command.TheVariants.{Deal, Act, Away}

abbrev pub is_same_deal : List ℕ → List ℕ → Bool
is_same_deal [] [] = true
is_same_deal [] (d ∷ ds) = false
is_same_deal (c ∷ cs) [] = false
is_same_deal (c ∷ cs) (d ∷ ds) = if c == d then is_same_deal cs ds else false

abbrev pub is_same_action : Action → Action → Bool
is_same_action Fold Fold = true
is_same_action Fold Call = false
is_same_action Fold (Raise n) = false
is_same_action Call Fold = false
is_same_action Call Call = true
is_same_action Call (Raise n) = false
is_same_action (Raise m) Fold = false
is_same_action (Raise m) Call = false
is_same_action (Raise m) (Raise n) = m == n

-- the two commands are the same
unfoldable pub is_same : Command → Command → Bool
is_same (Deal h c) (Deal k d) = if h == k then is_same_deal c d else false
is_same (Deal h c) (Act k j b) = false
is_same (Deal h c) (Away k j) = false
is_same (Act h i a) (Deal k d) = false
is_same (Act h i a) (Act k j b) = if h == k then (if i == j then is_same_action a b else false) else false
is_same (Act h i a) (Away k j) = false
is_same (Away h i) (Deal k d) = false
is_same (Away h i) (Act k j b) = false
is_same (Away h i) (Away k j) = if h == k then i == j else false
