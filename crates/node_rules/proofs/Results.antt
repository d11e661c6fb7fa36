-- Equal results of a call are of equal turns, or of equal refusals.
use Rattle.std.proofs.Common.{◌≡◌, Result, Ok, Err}
use Rattle.node_rules.specs.Turns.{Turn, Refusal}

pub ok_is : (t u : Turn) → ◌≡◌ {A = Result Turn Refusal} (Ok t) (Ok u) → t ≡ u
ok_is t u e = cc

pub err_is : (a b : Refusal) → ◌≡◌ {A = Result Turn Refusal} (Err a) (Err b) → a ≡ b
err_is a b e = cc

pub ok_not : (t : Turn) (r : Refusal) → ◌≡◌ {A = Result Turn Refusal} (Ok t) (Err r) → ⊥
ok_not t r e = cc
