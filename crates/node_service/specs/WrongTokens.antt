-- Who came to seats without their tokens, for notes.
use Rattle.std.specs.Prelude.{◌≡◌, ℕ, ◌+◌, min, if◌then◌else◌, get_or, Option, Some, None}
use Rattle.std.specs.declared.net.ip_addr.IpAddr.{IpAddr}
use Rattle.node_links.specs.Refusing.{is_noted}
use Rattle.node_service.specs.declared.wrong_tokens.Untold.{Untold}
use Rattle.node_service.specs.declared.wrong_tokens.WrongTokens.{WrongTokens}

-- nobody came, and no note was made
abbrev pub nobody : Untold
nobody = record { count = 0; noted = None; source = None }

-- who came to a seat
abbrev pub untold_at : WrongTokens → ℕ → Untold
untold_at tokens seat = get_or tokens.all seat nobody

-- one more came, from this address where it is known; they are counted as far as four bytes hold
abbrev pub and_one : Option IpAddr → Untold → Untold
and_one source untold = record { count = min 4294967295 (untold.count + 1); noted = untold.noted; source = source }

-- so many are to be told at this moment: all who came since the last note, where that may be followed by one, and else nobody yet
abbrev pub due_of : Untold → ℕ → ℕ
due_of untold now = if is_noted untold.noted now then untold.count else 0

-- they are told at this moment
abbrev pub told_at : ℕ → Untold
told_at now = record { count = 0; noted = Some now; source = None }

-- of this seat it is so from now on, and of the others as before
pub record Becomes (at : ℕ) (untold : Untold) (old new : WrongTokens) : Type 0 where
  pub here : untold_at new at ≡ untold
  pub others : (seat : ℕ) → (at ≡ seat → ⊥) → untold_at new seat ≡ untold_at old seat
