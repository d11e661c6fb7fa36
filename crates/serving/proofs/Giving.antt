-- What is given of a record, piece by piece.
use Rattle.std.proofs.Common.{◌≡◌, ℕ, zero, suc, ◌+◌, ◌<◌, ◌≤◌, List, [], ◌∷◌, ◌++◌, length, map, take, drop, slice_get, Some, inl, inr, refl, ap, sym, subst, ◌∙◌, arith, add-one}
use Rattle.std.proofs.lemmas.List.{append_assoc, append-nil, map-append, drop-take, drop-append-le, length-take-le}
use Rattle.std.proofs.lemmas.Option.{slice_get_within}
use Rattle.dealer_world.specs.Records.{Piece}
use Rattle.dealer_world.proofs.Logging.{take_next}
use Rattle.match_links.specs.Passages.{Passage, Came, came}
use Rattle.serving.specs.declared.place.Place.{Place}
use Rattle.serving.specs.Giving.{given_as, to_give, IsGiven, AreGiven, Gives}
use Rattle.serving.specs.Going.{OnlyLeave}
use Rattle.serving.proofs.Leaving.{seated_before}

-- ---- lists

plus_none : (n : ℕ) → n ≡ n + 0
plus_none n = omega arith

taken_none : {A : Type 0} (n : ℕ) (xs : List A) → drop n (take n xs) ≡ []
taken_none n xs = ap (λ k. drop n (take k xs)) (plus_none n) ∙ drop-take n 0 xs

-- ---- what was given

one_more : (places : List Place) (pieces : List Piece) (piece : Piece) (given last : List Passage)
    → AreGiven places pieces given → IsGiven places piece last → AreGiven places (pieces ++ piece ∷ []) (given ++ last)
one_more places [] piece given last each is = (last, [], is, refl, ap (λ g. g ++ last) each ∙ sym (append-nil last))
one_more places (p ∷ pieces) piece given last (first, rest, here, more, whole) is =
    (first, rest ++ last, here, one_more places pieces piece rest last more is, ap (λ g. g ++ last) whole ∙ append_assoc first rest last)

is_still_given : (lines told : List Passage) (old new : List Place) (piece : Piece) (given : List Passage) → OnlyLeave lines told old new → IsGiven old piece given → IsGiven new piece given
is_still_given lines told old new piece given leave (inl is) = inl is
is_still_given lines told old new piece given leave (inr ((seat, reads, away), none)) = inr ((seat, reads, λ seated. away (seated_before lines told old new leave seat piece.node seated)), none)

are_still_given : (lines told : List Passage) (old new : List Place) (pieces : List Piece) (given : List Passage) → OnlyLeave lines told old new → AreGiven old pieces given → AreGiven new pieces given
are_still_given lines told old new [] given leave each = each
are_still_given lines told old new (piece ∷ pieces) given leave (first, rest, here, more, whole) =
    (first, rest, is_still_given lines told old new piece first leave here, are_still_given lines told old new pieces rest leave more, whole)

-- none was given yet
pub gives_none : (places : List Place) (pieces : List Piece) (from : ℕ) → from ≤ length pieces → Gives places pieces from from []
gives_none places pieces from within = record {
  onwards = omega arith;
  within = within;
  each = subst (λ (ps : List Piece). AreGiven places ps []) (sym (taken_none from pieces)) refl;
}

-- seats may have left since
pub gives_still : (lines told : List Passage) (old new : List Place) (pieces : List Piece) (from to : ℕ) (given : List Passage) → OnlyLeave lines told old new
    → Gives old pieces from to given → Gives new pieces from to given
gives_still lines told old new pieces from to given leave gives = record {
  onwards = gives.onwards;
  within = gives.within;
  each = are_still_given lines told old new (drop from (take to pieces)) given leave gives.each;
}

-- so many pieces, and the next one
next_piece : (pieces : List Piece) (from to : ℕ) (piece : Piece) → from ≤ to → slice_get pieces to ≡ Some piece
    → drop from (take (to + 1) pieces) ≡ drop from (take to pieces) ++ piece ∷ []
next_piece pieces from to piece onwards is =
    let below : to < length pieces = slice_get_within pieces to piece is in
    ap (λ k. drop from (take k pieces)) (add-one to) ∙ ap (drop from) (take_next pieces to piece is)
    ∙ drop-append-le from (take to pieces) (piece ∷ []) (omega (arith, onwards, below, length-take-le to pieces (omega (arith, below))))

-- and what is to be given of them
pub next_to_give : (pieces : List Piece) (from to : ℕ) (piece : Piece) → from ≤ to → slice_get pieces to ≡ Some piece
    → to_give pieces from (to + 1) ≡ to_give pieces from to ++ given_as piece ∷ []
next_to_give pieces from to piece onwards is =
    ap (map given_as) (next_piece pieces from to piece onwards is) ∙ map-append given_as (drop from (take to pieces)) (piece ∷ [])

-- the next piece was given
pub gives_next : (places : List Place) (pieces : List Piece) (from to : ℕ) (given last : List Passage) (piece : Piece) → Gives places pieces from to given
    → slice_get pieces to ≡ Some piece → IsGiven places piece last → Gives places pieces from (to + 1) (given ++ last)
gives_next places pieces from to given last piece gives is given_too =
    let below : to < length pieces = slice_get_within pieces to piece is in
    let same = next_piece pieces from to piece gives.onwards is in
    record {
      onwards = omega (arith, gives.onwards);
      within = omega (arith, below);
      each = subst (λ (ps : List Piece). AreGiven places ps (given ++ last)) (sym same)
          (one_more places (drop from (take to pieces)) piece given last gives.each given_too);
    }

-- ---- what came

-- bytes that came are a piece
pub came_some : (node seat : ℕ) (bytes : List ℕ) → 0 < length bytes → came node seat bytes ≡ Came node seat bytes ∷ []
came_some node seat [] some = absurd (omega (arith, some))
came_some node seat (byte ∷ bytes) some = refl

-- none at all are nothing
pub came_none : (node seat count : ℕ) (bytes : List ℕ) → count ≡ 0 → came node seat (take count bytes) ≡ []
came_none node seat count bytes none = ap (λ n. came node seat (take n bytes)) none

-- the front of a buffer, whatever lies behind it
pub front_of : (count len : ℕ) (piece rest : List ℕ) → count ≤ length piece → length piece ≤ len → take count (take len (piece ++ rest)) ≡ take count piece
front_of zero len piece rest within long = refl
front_of (suc count) len [] rest within long = absurd (omega (arith, within))
front_of (suc count) zero (byte ∷ piece) rest within long = absurd (omega (arith, long))
front_of (suc count) (suc len) (byte ∷ piece) rest within long = ap (λ bs. byte ∷ bs) (front_of count len piece rest (omega (arith, within)) (omega (arith, long)))
