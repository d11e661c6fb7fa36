-- What a node showed to its log, and what became of it.
use Rattle.std.specs.Prelude.{◌≡◌, ◌≢◌, ℕ, Bool, true, false, List, [], ◌∷◌, ◌++◌}
use Rattle.dealer_world.specs.Calls.{Text, added_by}
use Rattle.stations.specs.Deeds.{Deed}

-- what these texts add to a log
abbrev pub added : List Text → List ℕ
added [] = []
added (text ∷ more) = added_by text.reader text.text ++ added more

-- what all these deeds showed to it, of which the newest stands first
abbrev pub shown_log : List Deed → List ℕ
shown_log [] = []
shown_log (deed ∷ before) = shown_log before ++ added deed.made.texts

-- the log gained what was shown to it; from the first time on that it couldn't be written it gains nothing, so that it then has a beginning of what was shown, and not all of it
abbrev pub LogGains : (failed_before failed_after : Bool) → (shown before after : List ℕ) → Type 0
LogGains false false shown before after = after ≡ before ++ shown
LogGains false true shown before after = (given : List ℕ) × (rest : List ℕ) × (shown ≡ given ++ rest) × (rest ≢ []) × (after ≡ before ++ given)
LogGains true failed_after shown before after = (failed_after ≡ true) × (after ≡ before)
