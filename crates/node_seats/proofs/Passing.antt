-- What passed over the lines of guests, call by call.
use Rattle.std.proofs.Common.{◌≡◌, ℕ, List, [], ◌∷◌, ◌++◌, append_assoc, append-nil, ap, sym, ◌∙◌}
use Rattle.node_wires.specs.declared.line.Line.TheVariants.{Guest}
use Rattle.node_wires.specs.declared.way.Way.TheVariants.{Reading}
use Rattle.node_wires.specs.declared.halt.Halt.{Halt}
use Rattle.node_wires.specs.declared.halt.Halt.TheVariants as halts
use Rattle.node_wires.specs.Passages.{Passage, Tried, Ended, Closed, halted_as}
use Rattle.node_seats.specs.Passing.{IsOfGuests, AreOfGuests, Grows}

pub both_of_guests : (xs ys : List Passage) → AreOfGuests xs → AreOfGuests ys → AreOfGuests (xs ++ ys)
both_of_guests [] ys are_xs are_ys = are_ys
both_of_guests (p ∷ xs) ys are_xs are_ys = (are_xs.0, both_of_guests xs ys are_xs.1 are_ys)

pub nothing_grown : (old new wired_old wired_new : List Passage) → new ≡ old → wired_new ≡ wired_old → Grows old new wired_old wired_new
nothing_grown old new wired_old wired_new same stays = record { more = []; of_guests = tt; put_down = same ∙ sym (append-nil old); wired = stays ∙ sym (append-nil wired_old) }

pub one_grown : (p : Passage) (old new wired_old wired_new : List Passage) → IsOfGuests p → new ≡ old ++ p ∷ [] → wired_new ≡ wired_old ++ p ∷ [] → Grows old new wired_old wired_new
one_grown p old new wired_old wired_new is same wired = record { more = p ∷ []; of_guests = (is, tt); put_down = same; wired = wired }

pub grown_on : (a b c x y z : List Passage) → Grows a b x y → Grows b c y z → Grows a c x z
grown_on a b c x y z one two = record {
  more = one.more ++ two.more;
  of_guests = both_of_guests one.more two.more one.of_guests two.of_guests;
  put_down = two.put_down ∙ (ap (λ (ps : List Passage). ps ++ two.more) one.put_down ∙ append_assoc a one.more two.more);
  wired = two.wired ∙ (ap (λ (ps : List Passage). ps ++ two.more) one.wired ∙ append_assoc x one.more two.more);
}

pub halted_grown : (place : ℕ) (halt : Halt) (old new wired_old wired_new : List Passage) → new ≡ old ++ halted_as Reading (Guest place) halt ∷ [] → wired_new ≡ wired_old ++ halted_as Reading (Guest place) halt ∷ []
    → Grows old new wired_old wired_new
halted_grown place halts.Later old new wired_old wired_new same wired = one_grown (Tried (Guest place) Reading) old new wired_old wired_new tt same wired
halted_grown place halts.Ended old new wired_old wired_new same wired = one_grown (Ended (Guest place) Reading) old new wired_old wired_new tt same wired

pub closed_grown : (place : ℕ) (old new wired_old wired_new : List Passage) → new ≡ old ++ Closed (Guest place) ∷ [] → wired_new ≡ wired_old ++ Closed (Guest place) ∷ [] → Grows old new wired_old wired_new
closed_grown place old new wired_old wired_new same wired = one_grown (Closed (Guest place)) old new wired_old wired_new tt same wired
