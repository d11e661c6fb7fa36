-- What the fields of marks keep.
use Rattle.std.specs.Prelude.{◌≤◌, List, Bool, length}
use Rattle.playing.specs.declared.marks.Marks.TheInside.{Inside}
use Rattle.playing.specs.Marks.{AreDelivered}

abbrev pub delivered_in : Inside → List Bool
delivered_in m = m.delivered.items

-- all before the place were delivered
pub record IsKept (m : Inside) : Type 0 where
  pub before : AreDelivered m.delivered.items m.place
  pub within : m.place ≤ length m.delivered.items
