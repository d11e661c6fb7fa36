-- Whom of those who wait at a port to seat, and who goes on waiting.
use Rattle.std.specs.Prelude.{ℕ, not, Bool, List, slice_get, Option, Some, None}
use Rattle.std.specs.List.{remove}
use Rattle.match_links.specs.Waiting.{can_sit, is_over}
use Rattle.match_links.specs.declared.held.Held.{Held}

-- he can be seated
abbrev pub sits : Held → Bool
sits held = can_sit held.input held.ended

-- he isn't over
abbrev pub stays : Held → Bool
stays held = not (is_over held.input held.ended)

-- who stands at this place, if it is one
abbrev pub at_place : {A : Type 0} → List A → Option ℕ → Option A
at_place all None = None
at_place all (Some at) = slice_get all at

-- all but the one at this place, if it is one
abbrev pub without : {A : Type 0} → List A → Option ℕ → List A
without all None = all
without all (Some at) = remove all at
