-- How the logic stores events.
use Rattle.std.specs.Prelude.{◌≡◌, ℕ, ◌==◌, cond, List, [], refl}
use Rattle.std.specs.Coded.{Coded, code_by, coded×, coded_ℕ, coded_list}
use Rattle.seat_relay.specs.Relaying.{with_place, Event, Begins, Ends, Tells, Closes, Says, Pushes}

-- the kind, the node, where the line stands, and the text
abbrev Parts : Type 0
Parts = ℕ × (ℕ × (ℕ × (ℕ × List ℕ)))

abbrev to_parts : Event → Parts
to_parts (Begins node) = (0, (node, (0, (0, []))))
to_parts (Ends node) = (1, (node, (0, (0, []))))
to_parts (Tells node line) = (2, (node, (line.place.hand, (line.place.len, line.text))))
to_parts (Says text) = (3, (0, (0, (0, text))))
to_parts (Pushes node) = (4, (node, (0, (0, []))))
to_parts (Closes node) = (5, (node, (0, (0, []))))

abbrev from_parts : Parts → Event
from_parts p =
    cond (p.0 == 0) (Begins p.1.0) (cond (p.0 == 1) (Ends p.1.0) (cond (p.0 == 2) (Tells p.1.0 (with_place p.1.1.1.1 (record { hand = p.1.1.0; len = p.1.1.1.0 })))
    (cond (p.0 == 3) (Says p.1.1.1.1) (cond (p.0 == 4) (Pushes p.1.0) (Closes p.1.0)))))

pub from_parts-to_parts : (e : Event) → from_parts (to_parts e) ≡ e
from_parts-to_parts (Begins node) = refl
from_parts-to_parts (Ends node) = refl
from_parts-to_parts (Tells node line) = refl
from_parts-to_parts (Says text) = refl
from_parts-to_parts (Pushes node) = refl
from_parts-to_parts (Closes node) = refl

abbrev pub events_code : Coded (List Event)
events_code = coded_list (code_by Parts (coded× coded_ℕ (coded× coded_ℕ (coded× coded_ℕ (coded× coded_ℕ (coded_list coded_ℕ))))) to_parts from_parts from_parts-to_parts)
