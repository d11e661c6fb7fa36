-- What is found of the past of a match, by its parts.
use Rattle.std.proofs.Common.{◌≡◌, ℕ, ◌<◌, ◌≤◌, nat_eq, nat_le, Bool, true, false, if◌then◌else◌, List, [], ◌∷◌, length, Option, Some, None, refl, sym, arith}
use Rattle.std.specs.List.{AllByRecursion}
use Rattle.std.proofs.lemmas.Bool.Decides.{nat_tests}
use Rattle.game_def.specs.Game.{Game}
use Rattle.slot_log.specs.Hand.{Hand}
use Rattle.matchstate.specs.View.{View, view_of, position_of, seat_view}
use Rattle.line_cursor.specs.Past.{cut_to, hands_at, seen_by, seat_view_at}

-- a hand that was dealt, cut to its first so many actions, and the hands before it; what is so of all hands is so of it
pub record IsFoundAt (Is : Hand → Type 0) (hands : List Hand) (hand actions : ℕ) (found : List Hand) : Type 0 where
  pub dealt : Hand
  pub before : List Hand
  pub found_is : found ≡ cut_to dealt actions ∷ before
  pub number : hand ≡ length before
  pub few : actions ≤ length dealt.past
  pub below : hand < length hands
  pub is_one : AllByRecursion Is hands → Is dealt

is_less : (k n : ℕ) → nat_le k n ≡ true → k ≤ n
is_less k n h = grind (arith, nat_tests)

is_same : (k n : ℕ) → nat_eq k n ≡ true → k ≡ n
is_same k n h = grind (arith, nat_tests)

pub found_at : (Is : Hand → Type 0) (hands : List Hand) (hand actions : ℕ) (found : List Hand) → hands_at hands hand actions ≡ Some found → IsFoundAt Is hands hand actions found
found_at Is [] hand actions found e = absurd cc
found_at Is (newest ∷ earlier) hand actions found e =
    let P : Bool → Type 0 = λ b. nat_eq hand (length earlier) ≡ b
    → (if b then (if nat_le actions (length newest.past) then Some (cut_to newest actions ∷ earlier) else None) else hands_at earlier hand actions) ≡ Some found
    → IsFoundAt Is (newest ∷ earlier) hand actions found in
    let step : P (nat_eq hand (length earlier)) = elim (nat_eq hand (length earlier)) as P [
      | true ↦ λ same h.
          let Q : Bool → Type 0 = λ b. nat_le actions (length newest.past) ≡ b → (if b then Some (cut_to newest actions ∷ earlier) else None) ≡ Some found
          → IsFoundAt Is (newest ∷ earlier) hand actions found in
          let inner : Q (nat_le actions (length newest.past)) = elim (nat_le actions (length newest.past)) as Q [
            | true ↦ λ le got.
                let number : hand ≡ length earlier = is_same hand (length earlier) same in
                record {
                  dealt = newest;
                  before = earlier;
                  found_is = (let is : cut_to newest actions ∷ earlier ≡ found = cc in sym is);
                  number = number;
                  few = is_less actions (length newest.past) le;
                  below = omega arith;
                  is_one = λ all. all.0;
                }
            | false ↦ λ le got. absurd cc
          ] in
          inner refl h
      | false ↦ λ other h.
          let f = found_at Is earlier hand actions found h in
          let less = f.below in
          record {
            dealt = f.dealt;
            before = f.before;
            found_is = f.found_is;
            number = f.number;
            few = f.few;
            below = omega arith;
            is_one = λ all. f.is_one all.1;
          }
    ] in
    step refl e

-- the hands that a match had come to, of which a seat saw this
pub record HasCome (game : Game) (hands : List Hand) (seat hand actions : ℕ) (view : View) : Type 0 where
  pub newest : Hand
  pub before : List Hand
  pub come_to : hands_at hands hand actions ≡ Some (newest ∷ before)
  pub view_is : view ≡ view_of game (position_of game.players (length before) seat) (length before) newest

seen_of : (game : Game) (hands : List Hand) (seat hand actions : ℕ) (view : View) (found : List Hand) → hands_at hands hand actions ≡ Some found → seat_view game found seat ≡ Some view
    → HasCome game hands seat hand actions view
seen_of game hands seat hand actions view [] is h = absurd cc
seen_of game hands seat hand actions view (newest ∷ before) is h =
    record { newest = newest; before = before; come_to = is; view_is = (let same : view_of game (position_of game.players (length before) seat) (length before) newest ≡ view = cc in sym same) }

pub has_come : (game : Game) (hands : List Hand) (seat hand actions : ℕ) (view : View) → seat_view_at game hands seat hand actions ≡ Some view → HasCome game hands seat hand actions view
has_come game hands seat hand actions view e =
    let P : Option (List Hand) → Type 0 = λ o. hands_at hands hand actions ≡ o → seen_by game seat o ≡ Some view → HasCome game hands seat hand actions view in
    let step : P (hands_at hands hand actions) = elim (hands_at hands hand actions) as P [
      | None ↦ λ is h. absurd cc
      | Some found ↦ λ is h. seen_of game hands seat hand actions view found is h
    ] in
    step refl e
