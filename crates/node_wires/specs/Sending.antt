-- What was gathered for connections, and which of it was sent.
use Rattle.std.specs.Prelude.{◌≡◌, ◌<◌, ℕ, length, true, false, List, [], Option, slice_get, Some}
use Rattle.node_wires.specs.declared.wired.Wired.{Wired}

-- nothing that was gathered waits, where the connection has room and hasn't failed
abbrev pub IsSent : Wired → Type 0
IsSent wired = wired.may_write ≡ true → wired.has_failed ≡ false → wired.gathered.waiting ≡ []

-- what was gathered for the connection of the line at this place is sent, where it has one
abbrev pub IsSentAt : List (Option Wired) → ℕ → Type 0
IsSentAt lines place = (wired : Wired) → slice_get lines place ≡ Some (Some wired) → IsSent wired

-- the same of each line
abbrev pub AllSent : List (Option Wired) → Type 0
AllSent lines = (place : ℕ) → place < length lines → IsSentAt lines place
