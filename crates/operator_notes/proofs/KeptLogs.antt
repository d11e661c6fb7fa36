-- Which log stands at the front of another.
use Rattle.std.proofs.Common.{◌≡◌, ℕ, List, ◌++◌, true, Bor, Option, Some, None, refl}
use Rattle.std.specs.Prelude.{◌↔◌, IfSome, IsSomeAnd, is_some}
use Rattle.std.proofs.lemmas.Bool.{false≢true}
use Rattle.operator_notes.specs.LogNames.{StandsIn}

pub stands_by : (found : Option (Bor (List ℕ))) (log kept : List ℕ) → IfSome found (λ behind. kept ≡ log ++ behind.now) → ((behind : List ℕ) → kept ≡ log ++ behind → IsSomeAnd found (λ rest. rest.now ≡ behind)) → (is_some found ≡ true) ↔ StandsIn log kept
stands_by None log kept found only = (λ shown. absurd (false≢true shown), λ stands. absurd (only stands.0 stands.1))
stands_by (Some behind) log kept found only = (λ shown. (behind.now, found), λ stands. refl)
