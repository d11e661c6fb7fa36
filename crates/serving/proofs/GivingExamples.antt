-- What is taken and given, on values.
use Rattle.std.proofs.Common.{◌≡◌, ℕ, refl, ap, sym, List, [], ◌∷◌, ◌++◌, map, slice_get, Some, inl, inr, ◌∙◌}
use Rattle.protocol_model.specs.Dealers.{Seat, Log}
use Rattle.dealer_world.specs.Records.{Piece}
use Rattle.dealer_world.specs.declared.event.Event.TheVariants as event
use Rattle.match_links.specs.Passages.{Passage, Told, Emptied, Logged, sat}
use Rattle.serving.specs.declared.place.Place.{Place}
use Rattle.serving.specs.declared.place.Place.TheVariants.{Seated, Leaving}
use Rattle.serving.specs.Giving.{taken_for, all_emptied, given_as, AreGiven}

-- ---- where no reader is away, all is given, and nothing else

abbrev IsHere : List Place → Piece → Type 0
IsHere places piece = (seat : ℕ) → piece.reader ≡ Seat seat → slice_get places seat ≡ Some (Seated piece.node)

abbrev AreHere : List Place → List Piece → Type 0
AreHere places [] = Unit {0}
AreHere places (piece ∷ pieces) = IsHere places piece × AreHere places pieces

pub given_whole : (places : List Place) (pieces : List Piece) (given : List Passage) → AreHere places pieces → AreGiven places pieces given → given ≡ map given_as pieces
given_whole places [] given here each = each
given_whole places (piece ∷ pieces) given (here, others) (first, rest, inl is, more, whole) =
    whole ∙ ap (λ (ps : List Passage). ps ++ rest) is ∙ ap (λ (ps : List Passage). given_as piece ∷ ps) (given_whole places pieces rest others more)
given_whole places (piece ∷ pieces) given (here, others) (first, rest, inr ((seat, reads, away), none), more, whole) = absurd (away (here seat reads))

-- ---- pieces

-- a line of seat 1 at node 0, and what node 0 puts into its log
abbrev line : Piece
line = record { node = 0; start = 0; reader = Seat 1; text = 77 ∷ [] }

abbrev text : Piece
text = record { node = 0; start = 0; reader = Log; text = 35 ∷ 10 ∷ [] }

abbrev both : List Place
both = Seated 0 ∷ Seated 0 ∷ []

seat_of : (seat : ℕ) → Seat 1 ≡ Seat seat → 1 ≡ seat
seat_of seat is = cc

line_is_here : AreHere both (line ∷ [])
line_is_here = (λ seat is. ap (λ (s : ℕ). slice_get both s) (sym (seat_of seat is)), tt)

text_is_here : AreHere both (text ∷ [])
text_is_here = (λ seat is. cc, tt)

in_order : AreGiven both (line ∷ text ∷ []) (Told 0 1 (77 ∷ []) ∷ Logged 0 (35 ∷ 10 ∷ []) ∷ [])
in_order = (Told 0 1 (77 ∷ []) ∷ [], Logged 0 (35 ∷ 10 ∷ []) ∷ [], inl refl, (Logged 0 (35 ∷ 10 ∷ []) ∷ [], [], inl refl, refl, refl), refl)

-- the line of a seat that left may be left out
left_out : AreGiven (Seated 0 ∷ Leaving 0 ∷ []) (line ∷ []) []
left_out = ([], [], inr ((1, refl, λ seated. cc), refl), refl, refl)

not_to_another_seat : AreGiven both (line ∷ []) (Told 0 0 (77 ∷ []) ∷ []) → ⊥
not_to_another_seat each = other (given_whole both (line ∷ []) _ line_is_here each) where
  other : Told 0 0 (77 ∷ []) ∷ [] ≡ Told 0 1 (77 ∷ []) ∷ [] → ⊥
  other is = cc

not_twice : AreGiven both (line ∷ []) (Told 0 1 (77 ∷ []) ∷ Told 0 1 (77 ∷ []) ∷ []) → ⊥
not_twice each = other (given_whole both (line ∷ []) _ line_is_here each) where
  other : Told 0 1 (77 ∷ []) ∷ Told 0 1 (77 ∷ []) ∷ [] ≡ Told 0 1 (77 ∷ []) ∷ [] → ⊥
  other is = cc

not_dropped : AreGiven both (line ∷ []) [] → ⊥
not_dropped each = other (given_whole both (line ∷ []) _ line_is_here each) where
  other : [] ≡ Told 0 1 (77 ∷ []) ∷ [] → ⊥
  other is = cc

not_into_another_log : AreGiven both (text ∷ []) (Logged 1 (35 ∷ 10 ∷ []) ∷ []) → ⊥
not_into_another_log each = other (given_whole both (text ∷ []) _ text_is_here each) where
  other : Logged 1 (35 ∷ 10 ∷ []) ∷ [] ≡ Logged 0 (35 ∷ 10 ∷ []) ∷ [] → ⊥
  other is = cc

text_of_no_seat : AreHere (Leaving 0 ∷ Leaving 0 ∷ []) (text ∷ [])
text_of_no_seat = (λ seat is. cc, tt)

log_is_never_left_out : AreGiven (Leaving 0 ∷ Leaving 0 ∷ []) (text ∷ []) [] → ⊥
log_is_never_left_out each = other (given_whole (Leaving 0 ∷ Leaving 0 ∷ []) (text ∷ []) [] text_of_no_seat each) where
  other : [] ≡ Logged 0 (35 ∷ 10 ∷ []) ∷ [] → ⊥
  other is = cc

-- ---- what is taken

nothing_for_a_tick : taken_for (event.Tick 1) ≡ []
nothing_for_a_tick = refl

nothing_for_an_order : taken_for (event.Away 1) ≡ []
nothing_for_an_order = refl

a_seat_that_is_seated : taken_for (event.Connect 1 0) ≡ sat 1 0 ∷ []
a_seat_that_is_seated = refl

nothing_where_it_is_dropped : taken_for (event.Drop 1 0) ≡ []
nothing_where_it_is_dropped = refl

log_of_a_node_that_starts : taken_for (event.Start 1) ≡ Emptied 1 ∷ []
log_of_a_node_that_starts = refl

three_logs : all_emptied 3 ≡ Emptied 0 ∷ Emptied 1 ∷ Emptied 2 ∷ []
three_logs = refl
