-- When the last order was long ago.
use Rattle.std.proofs.Common.{ℕ, ◌≡◌, ◌-◌, ◌≤◌, Option, Some, None, refl, arith}
use Rattle.std.specs.Prelude.{min, IfSome}
use Rattle.clockwork.specs.declared.limits.TheConstants.{ORDERED_AGAIN}
use Rattle.clockwork.specs.ActionTimeout.{order_left}
use Rattle.clockwork.proofs.Ticking.{none_left}

pub long_ago : (time : ℕ) (ordered : Option ℕ) (patience : ℕ) → order_left time ordered patience ≡ 0 → IfSome ordered (λ moment. min patience ORDERED_AGAIN ≤ time - moment)
long_ago time None patience none = tt
long_ago time (Some moment) patience none = none_left (min patience ORDERED_AGAIN) (time - moment) none

pub none_of_long_ago : (time : ℕ) (ordered : Option ℕ) (patience : ℕ) → IfSome ordered (λ moment. min patience ORDERED_AGAIN ≤ time - moment) → order_left time ordered patience ≡ 0
none_of_long_ago time None patience ago = refl
none_of_long_ago time (Some moment) patience ago = omega arith
