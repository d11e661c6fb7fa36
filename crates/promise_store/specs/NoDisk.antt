-- The images of a disk of which nothing is said.
use Rattle.std.specs.Prelude.{false, IsTrue}

abbrev pub none_left : Type 0
none_left = ⊥

pub never_honest : {P : Type 0} → IsTrue false → P
never_honest {P} honest = cc

pub never_left : {P : Type 0} → ⊥ → P
never_left none = absurd none
