-- What those who ask were given.
use Rattle.std.specs.Prelude.{◌≡◌, ℕ, ◌-◌, ◌<◌, ◌&&◌, ◌==◌, Bool, true, false, not, if◌then◌else◌, List, [], map, length, get_or}
use Rattle.std.specs.List.{list_any}
use Rattle.node_status.specs.declared.asker.Asker.{Asker}
use Rattle.node_status.specs.declared.limits.TheConstants.{REPLY_LIMIT}

-- whether somebody stands there and since when, the line that he was given, [] as long as he waits for it, and how many of
-- its bytes are written
pub record Given : Type 0 where
  pub is_here : Bool
  pub since : ℕ
  pub line : List ℕ
  pub written : ℕ

abbrev pub given_of : Asker → Given
given_of asker = record { is_here = asker.is_here; since = asker.since; line = asker.line.items; written = asker.written }

abbrev pub nobody : Given
nobody = record { is_here = false; since = 0; line = []; written = 0 }

-- somebody who came at this moment
abbrev pub come_at : ℕ → Given
come_at now = record { is_here = true; since = now; line = []; written = 0 }

-- at a place
abbrev pub given_at : List Asker → ℕ → Given
given_at askers place = get_or (map given_of askers) place nobody

abbrev pub waits : Given → Bool
waits g = g.is_here && (length g.line == 0)

-- behind an answer: who waits has the line, and the others what they had
abbrev pub with_line : List ℕ → Given → Given
with_line line g = if waits g then record { is_here = true; since = g.since; line = line; written = 0 } else g

abbrev pub has_all : Given → Bool
has_all g = not (length g.line == 0) && (g.written == length g.line)

-- who is still there hasn't all of his line, and hasn't taken too long
abbrev pub IsServed : ℕ → Given → Type 0
IsServed now g = g.is_here ≡ true → (has_all g ≡ false) × (now - g.since < REPLY_LIMIT)

abbrev pub is_awaited : List Asker → Bool
is_awaited askers = list_any (λ asker. waits (given_of asker)) askers
