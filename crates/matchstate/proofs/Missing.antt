-- What is None isn't found.
use Rattle.std.proofs.Common.{◌≡◌, Option, Some, None, IsSomeAnd}

pub missing : {A : Type 0} (P : A → Type 0) {r : Option A} → r ≡ None → IsSomeAnd r P → ⊥
missing P {r = None} is some = some
missing P {r = Some x} is some = cc
