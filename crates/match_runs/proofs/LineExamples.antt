-- Lines of seats, and whether one is late, on values.
use Rattle.std.proofs.Common.{◌≡◌, ℕ, zero, suc, List, [], ◌∷◌, ◌++◌, ◌+◌, slice_get, refl, sym, ap, subst, arith}
use Rattle.std.proofs.lemmas.Option.{same_Some}
use Rattle.std.specs.Prelude.{codes, true, Option, Some, None}
use Rattle.protocol_model.specs.Dealers.{Seat}
use Rattle.dealer_world.specs.Records.{Record, Piece}
use Rattle.match_runs.specs.Refusals.{IsOneLine}
use Rattle.match_runs.specs.SeatLines.{IsLineAt, HasNoLineFrom, IsNewestLine, HasLine, IsLate, past, newest, unseen}
use Rattle.match_runs.specs.Turning.{HasLineToTell}

-- a line of a seat at a node, within this start of the node
abbrev line : ℕ → ℕ → ℕ → List ℕ → Piece
line node start seat text = record { node = node; start = start; reader = Seat seat; text = text }

abbrev a : List ℕ
a = 65 ∷ []

abbrev b : List ℕ
b = 66 ∷ []

abbrev first_of : List ℕ → ℕ
first_of [] = 0
first_of (byte ∷ more) = byte

apart : a ≡ b → ⊥
apart is =
    let bytes : 65 ≡ 66 = ap first_of is in
    omega (arith, bytes)

some_apart : Some b ≡ Some a → ⊥
some_apart is = apart (sym (same_Some b a is))

-- node 0 was started twice, node 1 once; seat 1 had the lines A and B at node 0, then A at node 1, and seat 0 one at node 0
abbrev all : Record
all = record {
  sent = [];
  delivered = [];
  starts = (record { node = 0; start = 0 }) ∷ (record { node = 1; start = 0 }) ∷ (record { node = 0; start = 1 }) ∷ [];
  shown = line 0 0 1 (79 ∷ []) ∷ line 0 1 1 a ∷ line 0 1 1 b ∷ line 1 0 1 a ∷ line 0 1 0 (67 ∷ []) ∷ [];
}

-- ---- the line that a seat has at a node

abbrev is_none : Option Piece → Type 0
is_none None = Unit {0}
is_none (Some piece) = ⊥

none_behind : HasNoLineFrom all 1 0 3
none_behind zero piece first counted found is_line = omega (arith, first)
none_behind (suc zero) piece first counted found is_line = omega (arith, first)
none_behind (suc (suc zero)) piece first counted found is_line = omega (arith, first)
none_behind (suc (suc (suc zero))) piece first counted found is_line =
    let other = is_line.by_node in
    cc
none_behind (suc (suc (suc (suc zero)))) piece first counted found is_line =
    let other = is_line.to_seat in
    cc
none_behind (suc (suc (suc (suc (suc n))))) piece first counted found is_line = subst is_none found tt

seat_1_has_b_at_node_0 : IsNewestLine all 1 0 b
seat_1_has_b_at_node_0 = record {
  number = 2;
  piece = line 0 1 1 b;
  found = refl;
  is_line = record { by_node = refl; by_start = refl; to_seat = refl };
  of_text = refl;
  last = none_behind;
}

-- whatever it has there is that
it_is_the_newest : (number : ℕ) (piece : Piece) (text : List ℕ) → slice_get all.shown number ≡ Some piece → IsLineAt all.starts 1 0 piece → piece.text ≡ text
    → HasNoLineFrom all 1 0 (number + 1) → text ≡ b
it_is_the_newest zero piece text found is_line of_text last =
    let other = is_line.by_start in
    cc
it_is_the_newest (suc zero) piece text found is_line of_text last =
    absurd (last 2 (line 0 1 1 b) (omega arith) (omega arith) refl (record { by_node = refl; by_start = refl; to_seat = refl }))
it_is_the_newest (suc (suc zero)) piece text found is_line of_text last = cc
it_is_the_newest (suc (suc (suc zero))) piece text found is_line of_text last =
    let other = is_line.by_node in
    cc
it_is_the_newest (suc (suc (suc (suc zero)))) piece text found is_line of_text last =
    let other = is_line.to_seat in
    cc
it_is_the_newest (suc (suc (suc (suc (suc n))))) piece text found is_line of_text last = absurd (subst is_none found tt)

no_other_line : (text : List ℕ) → IsNewestLine all 1 0 text → text ≡ b
no_other_line text is = it_is_the_newest is.number is.piece text is.found is.is_line is.of_text is.last

an_older_line_is_not_the_newest : IsNewestLine all 1 0 a → ⊥
an_older_line_is_not_the_newest is = apart (no_other_line a is)

a_line_before_the_last_start_is_none : IsLineAt all.starts 1 0 (line 0 0 1 (79 ∷ [])) → ⊥
a_line_before_the_last_start_is_none is =
    let other = is.by_start in
    cc

a_seat_that_is_awaited_is_told_no_line : HasLineToTell all true 1 0 (Some b) → ⊥
a_seat_that_is_awaited_is_told_no_line is = cc

-- ---- late lines

a_line_that_has_passed_is_late : IsLate all 1 0 a true
a_line_that_has_passed_is_late =
    past refl (record { number = 1; piece = line 0 1 1 a; found = refl; to_seat = refl; of_text = refl })
    (record { newest = Some b; has = seat_1_has_b_at_node_0; other = some_apart })

has_one : HasNoLineFrom all 1 0 0 → ⊥
has_one none = none 2 (line 0 1 1 b) (omega arith) (omega arith) refl (record { by_node = refl; by_start = refl; to_seat = refl })

another_is : (newest : Option (List ℕ)) → HasLine all 1 0 newest → (newest ≡ Some b → ⊥) → ⊥
another_is None has other = has_one has
another_is (Some text) has other = other (ap (λ (l : List ℕ). Some l) (no_other_line text has))

the_newest_is_not_late : IsLate all 1 0 b true → ⊥
the_newest_is_not_late (past is shown another) = another_is another.newest another.has another.other
the_newest_is_not_late (newest is has) = cc
the_newest_is_not_late (unseen is none) = cc

-- ---- a piece that is one line

a_line_with_its_end : IsOneLine (codes "AB" ++ 13 ∷ 10 ∷ []) (codes "AB")
a_line_with_its_end = record { line = codes "AB" ++ 13 ∷ []; ended = refl; is_text = refl }

without_end : (line : List ℕ) → codes "AB" ≡ line ++ 10 ∷ [] → ⊥
without_end [] is = cc
without_end (x ∷ []) is = cc
without_end (x ∷ y ∷ []) is = cc
without_end (x ∷ y ∷ z ∷ more) is = cc

a_rest_is_no_line : (text : List ℕ) → IsOneLine (codes "AB") text → ⊥
a_rest_is_no_line text is = without_end is.line is.ended
