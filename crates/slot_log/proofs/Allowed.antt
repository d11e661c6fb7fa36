-- A chain of tests that finds no reason.
use Rattle.std.proofs.Common.{◌≡◌, Bool, true, false, cond, Option, Some, None, refl}

-- an if-chain gives nothing only where its test fails
pub past_test : {A : Type 0} (b : Bool) (reason : A) (rest : Option A) → cond b (Some reason) rest ≡ None → (b ≡ false) × (rest ≡ None)
past_test true reason rest e = cc
past_test false reason rest e = (refl, e)
