-- A node whose store was just made is a new one.
use Rattle.std.proofs.Common.{true≢false, refl, sym}
use Rattle.node_rules.specs.LawsCreated.{CreatedIsNew}

pub created_is_new : CreatedIsNew
created_is_new own place = record { up = refl; store = refl; begun = refl; runs = λ up. absurd (true≢false (sym up)) }
