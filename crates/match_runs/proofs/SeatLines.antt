-- Lines of seats, looked for from the newest piece on.
use Rattle.std.proofs.Common.{◌≡◌, ℕ, zero, suc, ◌+◌, ◌≤◌, ◌⊎◌, inl, inr, Bool, true, false, List, map, count_by, ◌==◌, refl, sym, ap, subst, ◌∙◌, arith}
use Rattle.std.proofs.lemmas.List.Recursion.{is_count_by}
use Rattle.std.proofs.lemmas.Option.{same_Some}
use Rattle.std.specs.Prelude.{Some, slice_get}
use Rattle.dealer_world.specs.Records.{Record, Piece, start_count}
use Rattle.dealer_world.specs.Recordings.{start_by}
use Rattle.dealer_world.specs.declared.begun.Begun.{Begun}
use Rattle.protocol_model.specs.Dealers.{Seat}
use Rattle.match_runs.specs.SeatLines.{IsLineAt, HasNoLineFrom, HasOtherLine, WasShown, WasNotShownFrom, IsLate, past, unseen}

this_or_later : (first number : ℕ) → first ≤ number → (number ≡ first) ⊎ (first + 1 ≤ number)
this_or_later zero zero within = inl refl
this_or_later zero (suc number) within = inr (omega arith)
this_or_later (suc first) zero within = absurd (omega arith)
this_or_later (suc first) (suc number) within =
    elim (this_or_later first number (omega arith)) [ inl same ↦ inl (omega arith) | inr later ↦ inr (omega arith) ]

-- no line from the next number on, and the piece of this number is none
pub no_line_from : (all : Record) (seat node number : ℕ) (piece : Piece) → slice_get all.shown number ≡ Some piece → (IsLineAt all.starts seat node piece → ⊥)
    → HasNoLineFrom all seat node (number + 1) → HasNoLineFrom all seat node number
no_line_from all seat node number piece found other later n p first counted is =
    elim (this_or_later number n first) [
      | inl same ↦ λ line. other (subst (IsLineAt all.starts seat node) (same_Some p piece (sym is ∙ ap (slice_get all.shown) same ∙ found)) line)
      | inr behind ↦ later n p behind counted is
    ]

pub not_shown_from : (all : Record) (seat : ℕ) (line : List ℕ) (number : ℕ) (piece : Piece) → slice_get all.shown number ≡ Some piece
    → (piece.reader ≡ Seat seat → piece.text ≡ line → ⊥) → WasNotShownFrom all seat line (number + 1) → WasNotShownFrom all seat line number
not_shown_from all seat line number piece found other later n p first counted is =
    elim (this_or_later number n first) [
      | inl same ↦
          let it : p ≡ piece = same_Some p piece (sym is ∙ ap (slice_get all.shown) same ∙ found) in
          λ reader text. other (sym (ap (λ (q : Piece). q.reader) it) ∙ reader) (sym (ap (λ (q : Piece). q.text) it) ∙ text)
      | inr behind ↦ later n p behind counted is
    ]

-- of a line that isn't the one that the seat has
pub late_where_shown : (all : Record) (seat node : ℕ) (line : List ℕ) (shown : Bool) → HasOtherLine all seat node line → (shown ≡ true → WasShown all seat line)
    → (shown ≡ false → WasNotShownFrom all seat line 0) → IsLate all seat node line shown
late_where_shown all seat node line true other was wasnt = past refl (was refl) other
late_where_shown all seat node line false other was wasnt = unseen refl (wasnt refl)

-- a node's starts are those among all that are its own
pub counted_starts : (starts : List Begun) (node : ℕ) → start_count (map start_by starts) node ≡ count_by (λ begun. begun.node == node) starts
counted_starts starts node = is_count_by (λ (bs : List Begun). start_count (map start_by bs) node) (λ begun. begun.node == node) refl (λ begun more. refl) starts
