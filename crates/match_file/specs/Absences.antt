-- What is done about seats where nobody acts: by `serve` about those that were dropped, and by `node`.
use Rattle.std.specs.Prelude.{◌≡◌, ℕ, List, codes, Option, Some, None}
use Rattle.toml.specs.Data.{Data, Members, string}
use Rattle.match_file.specs.declared.absent.Absent.{Absent}
use Rattle.match_file.specs.declared.absent.Absent.TheVariants.{Wait, Play}
use Rattle.match_file.specs.declared.key.Key.TheVariants.{Away}
use Rattle.match_file.specs.Said.{SaysIfThere}
use Rattle.match_file.specs.Matches.{entry_at}

-- as it stands in a match file
abbrev pub absent_text : Absent → List ℕ
absent_text Wait = codes "wait"
absent_text Play = codes "play"

-- one of these texts; where there is no entry they are waited for
abbrev pub SaysOf : Option Data → Absent → Type 0
SaysOf None absent = absent ≡ Wait
SaysOf (Some entry) absent = entry ≡ string (absent_text absent)

-- what stands at its key, for `serve`
abbrev pub SaysAbsent : Members → Absent → Type 0
SaysAbsent table absent = SaysOf (entry_at Away table) absent

-- the same for `node`; nothing where there is no entry
abbrev pub SaysAway : Members → Option Absent → Type 0
SaysAway table absent = SaysIfThere (λ entry one. entry ≡ string (absent_text one)) (entry_at Away table) absent
