-- How the logic stores what a node did, and the tables that it had.
use Rattle.std.specs.Prelude.{◌≡◌, ℕ, ◌==◌, Bool, cond, List, [], refl}
use Rattle.std.specs.Coded.{Coded, Coded-set, code_by, coded×, coded_ℕ, coded_bool, coded_list}
use Rattle.slot_log.specs.Hand.{Match}
use Rattle.slot_log.specs.contracts.table.Table as Table
use Rattle.protocol_model.specs.Dealers.{Reader, Seat, Log}
use Rattle.dealer_node.specs.Nodes.{Node}
use Rattle.dealer_world.specs.Records.{Frame, Arrived, Delivered, Came, Connected, Dropped, Ordered}
use Rattle.dealer_world.specs.Calls.{Text}
use Rattle.stations.specs.Deeds.{Deed}
use Rattle.stations.specs.Moments.{Moment, EndNow}

abbrev Four : Type 0
Four = ℕ × (ℕ × (ℕ × List ℕ))

abbrev coded_four : Coded Four
coded_four = coded× coded_ℕ (coded× coded_ℕ (coded× coded_ℕ (coded_list coded_ℕ)))

abbrev from_arrived : Arrived → Four
from_arrived (Delivered frame) = (0, (frame.from, (frame.to, frame.bytes)))
from_arrived (Came node seat bytes) = (1, (node, (seat, bytes)))
from_arrived (Connected node seat) = (2, (node, (seat, [])))
from_arrived (Dropped node seat) = (3, (node, (seat, [])))
from_arrived (Ordered node front) = (4, (node, (front, [])))

abbrev to_arrived : Four → Arrived
to_arrived p = cond (p.0 == 0) (Delivered (record { from = p.1.0; to = p.1.1.0; bytes = p.1.1.1 }))
    (cond (p.0 == 1) (Came p.1.0 p.1.1.0 p.1.1.1)
    (cond (p.0 == 2) (Connected p.1.0 p.1.1.0) (cond (p.0 == 3) (Dropped p.1.0 p.1.1.0) (Ordered p.1.0 p.1.1.0))))

pub same_arrived : (a : Arrived) → to_arrived (from_arrived a) ≡ a
same_arrived (Delivered frame) = refl
same_arrived (Came node seat bytes) = refl
same_arrived (Connected node seat) = refl
same_arrived (Dropped node seat) = refl
same_arrived (Ordered node front) = refl

abbrev coded_arrived : Coded Arrived
coded_arrived = code_by Four coded_four from_arrived to_arrived same_arrived

abbrev parts_of : Reader → List ℕ → Four
parts_of (Seat seat) bytes = (0, (seat, (0, bytes)))
parts_of Log bytes = (1, (0, (0, bytes)))

abbrev from_text : Text → Four
from_text text = parts_of text.reader text.text

abbrev to_text : Four → Text
to_text p = record { reader = cond (p.0 == 0) (Seat p.1.0) Log; text = p.1.1.1 }

same_parts : (reader : Reader) (bytes : List ℕ) → to_text (parts_of reader bytes) ≡ record { reader = reader; text = bytes }
same_parts (Seat seat) bytes = refl
same_parts Log bytes = refl

pub same_text : (text : Text) → to_text (from_text text) ≡ text
same_text text = same_parts text.reader text.text

abbrev coded_text : Coded Text
coded_text = code_by Four coded_four from_text to_text same_text

abbrev Framed : Type 0
Framed = ℕ × (ℕ × List ℕ)

abbrev coded_frame : Coded Frame
coded_frame = code_by Framed (coded× coded_ℕ (coded× coded_ℕ (coded_list coded_ℕ))) (λ (f : Frame). (f.from, (f.to, f.bytes)))
    (λ (p : Framed). record { from = p.0; to = p.1.0; bytes = p.1.1 }) (λ f. refl)

abbrev Parts : Type 0
Parts = List Arrived × (List Frame × (List Text × Bool))

abbrev pub deeds_code : Coded (List Deed)
deeds_code = coded_list (code_by Parts (coded× (coded_list coded_arrived) (coded× (coded_list coded_frame) (coded× (coded_list coded_text) coded_bool)))
    (λ (d : Deed). (d.arrived, (d.made.frames, (d.made.texts, d.made.began))))
    (λ (p : Parts). record { arrived = p.0; made = record { frames = p.1.0; texts = p.1.1.0; began = p.1.1.1 } }) (λ d. refl))

abbrev pub moments_code : Coded (List Moment)
moments_code = coded_list (code_by (Match × List Deed) (coded× Table.the_row.coded deeds_code) (λ (m : Moment). (m.table, m.deeds))
    (λ (p : Match × List Deed). record { table = p.0; deeds = p.1 }) (λ m. refl))

pub now_prop : {D : Type 0} (node : Node D) (deeds : List Deed) (moments : List Moment) → IsProp (EndNow node deeds moments)
now_prop node deeds moments = Coded-set moments_code _ _
