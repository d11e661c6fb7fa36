-- A hand of the past, by its number.
use Rattle.std.proofs.Common.{◌≡◌, ℕ, zero, suc, ◌-◌, ◌<◌, ◌≤◌, ◌==◌, nat_eq, nat_lt, nat_le, Bool, true, false, if◌then◌else◌, List, [], ◌∷◌, ◌++◌, reverse, length, drop, Option, Some, None, refl, sym, ap, ◌∙◌, arith}
use Rattle.std.specs.List.{slice_get}
use Rattle.std.specs.Option.{option_map}
use Rattle.std.proofs.lemmas.List.{length-reverse, length-append}
use Rattle.std.proofs.lemmas.Bool.Decides.{nat_tests}
use Rattle.game_def.specs.Game.{Game}
use Rattle.betting.specs.declared.action.Action.{Action}
use Rattle.slot_log.specs.Hand.{Hand}
use Rattle.slot_log.specs.Dealer.{hand_at}
use Rattle.slot_log.proofs.Hands.{in_front, reverse-cons}
use Rattle.matchstate.specs.View.{View, view_of, position_of}
use Rattle.line_cursor.specs.Past.{cut_to, hands_at, seen_by, seat_view_at}
use Rattle.matchstate.proofs.Seats.{newest_at}

-- the hands that were dealt before the one of a number
abbrev older : List Hand → ℕ → List Hand
older [] hand = []
older (newest ∷ earlier) hand = if hand == length earlier then earlier else older earlier hand

abbrev by_hand : Option Hand → List Hand → ℕ → Option (List Hand)
by_hand None before k = None
by_hand (Some hand) before k = if nat_le k (length hand.past) then Some (cut_to hand k ∷ before) else None

past_end : {X : Type 0} (xs : List X) (i : ℕ) → length xs ≤ i → slice_get xs i ≡ None
past_end [] i below = refl
past_end (x ∷ xs) zero below = absurd (omega (arith, below))
past_end (x ∷ xs) (suc i) below = past_end xs i (omega (arith, below))

-- the newest hand has no other number than its own
pub not_newest : (newest : Hand) (earlier : List Hand) (hand : ℕ) → nat_eq hand (length earlier) ≡ false → hand_at (newest ∷ earlier) hand ≡ hand_at earlier hand
not_newest newest earlier hand other =
    let back : hand_at (newest ∷ earlier) hand ≡ slice_get (reverse earlier ++ newest ∷ []) hand = ap (λ (hs : List Hand). slice_get hs hand) (reverse-cons newest earlier) in
    let count : length (reverse earlier) ≡ length earlier = length-reverse earlier in
    (elim (nat_lt hand (length earlier)) as (λ (b : Bool). nat_lt hand (length earlier) ≡ b → hand_at (newest ∷ earlier) hand ≡ hand_at earlier hand) [
      | true ↦ λ e. let less : hand < length (reverse earlier) = let l : hand < length earlier = grind (arith, nat_tests) in omega arith in back ∙ in_front (reverse earlier) (newest ∷ []) hand less
      | false ↦ λ e. let more : length earlier < hand = grind (arith, nat_tests) in
          let all : length (reverse earlier ++ newest ∷ []) ≤ hand = omega (arith, length-append (reverse earlier) (newest ∷ []))
          in back ∙ past_end (reverse earlier ++ newest ∷ []) hand all ∙ sym (past_end (reverse earlier) hand (omega arith))
    ]) refl

hands_at_is : (hands : List Hand) (hand k : ℕ) → hands_at hands hand k ≡ by_hand (hand_at hands hand) (older hands hand) k
hands_at_is [] hand k = refl
hands_at_is (newest ∷ earlier) hand k =
    (elim (nat_eq hand (length earlier)) as (λ (b : Bool). nat_eq hand (length earlier) ≡ b
    → (if b then (if nat_le k (length newest.past) then Some (cut_to newest k ∷ earlier) else None) else hands_at earlier hand k) ≡ by_hand (hand_at (newest ∷ earlier) hand) (if b then earlier else older earlier hand) k) [
      | true ↦ λ e.
          let number : hand ≡ length earlier = grind (arith, nat_tests) in
          let at : hand_at (newest ∷ earlier) hand ≡ Some newest = ap (hand_at (newest ∷ earlier)) number ∙ newest_at newest earlier in
          ap (λ (o : Option Hand). by_hand o earlier k) (sym at)
      | false ↦ λ e. hands_at_is earlier hand k ∙ ap (λ (o : Option Hand). by_hand o (older earlier hand) k) (sym (not_newest newest earlier hand e))
    ]) refl

older_count : (hands : List Hand) (hand : ℕ) (found : Hand) → hand_at hands hand ≡ Some found → length (older hands hand) ≡ hand
older_count [] hand found e = absurd cc
older_count (newest ∷ earlier) hand found e =
    (elim (nat_eq hand (length earlier)) as (λ (b : Bool). nat_eq hand (length earlier) ≡ b → length (if b then earlier else older earlier hand) ≡ hand) [
      | true ↦ λ same. grind (arith, nat_tests)
      | false ↦ λ other. older_count earlier hand found (sym (not_newest newest earlier hand other) ∙ e)
    ]) refl

-- ---- what is seen of it

none_of : {A B : Type 0} (f : A → B) (o : Option A) → None ≡ option_map f o → o ≡ None
none_of f None e = refl
none_of f (Some a) e = absurd cc

pub none_there : (game : Game) (hands : List Hand) (seat hand k : ℕ) → None ≡ option_map (λ found. found.deal) (hand_at hands hand) → None ≡ seat_view_at game hands seat hand k
none_there game hands seat hand k e =
    let gone : hand_at hands hand ≡ None = none_of (λ (found : Hand). found.deal) (hand_at hands hand) e in
    sym (ap (seen_by game seat) (hands_at_is hands hand k ∙ ap (λ (o : Option Hand). by_hand o (older hands hand) k) gone))

-- the hand there, by its parts
the_hand : (o : Option Hand) (deal : List ℕ) (past : List Action) → Some deal ≡ option_map (λ found. found.deal) o → Some past ≡ option_map (λ found. found.past) o
    → o ≡ Some (let h : Hand = record { deal = deal; past = past } in h)
the_hand None deal past d p = absurd cc
the_hand (Some hand) deal past d p =
    let e : deal ≡ hand.deal = cc in
    let f : past ≡ hand.past = cc in
    ap Some (sym (ap (λ (x : List ℕ). let h : Hand = record { deal = x; past = past } in h) e ∙ ap (λ (x : List Action). let h : Hand = record { deal = hand.deal; past = x } in h) f))

pub none_so_far : (game : Game) (hands : List Hand) (seat hand k : ℕ) (deal : List ℕ) (past : List Action) → Some deal ≡ option_map (λ found. found.deal) (hand_at hands hand)
    → Some past ≡ option_map (λ found. found.past) (hand_at hands hand) → length past < k → None ≡ seat_view_at game hands seat hand k
none_so_far game hands seat hand k deal past d p few =
    let at = the_hand (hand_at hands hand) deal past d p in
    let more : nat_le k (length past) ≡ false = grind (arith, nat_tests) in
    let found : Hand = record { deal = deal; past = past } in
    sym (ap (seen_by game seat) (hands_at_is hands hand k ∙ (ap (λ (o : Option Hand). by_hand o (older hands hand) k) at
    ∙ ap (λ (b : Bool). if b then Some (cut_to found k ∷ older hands hand) else None) more)))

pub seen_there : (game : Game) (hands : List Hand) (seat hand k : ℕ) (deal : List ℕ) (past : List Action) (view : View) → Some deal ≡ option_map (λ found. found.deal) (hand_at hands hand)
    → Some past ≡ option_map (λ found. found.past) (hand_at hands hand) → k ≤ length past
    → view ≡ view_of game (position_of game.players hand seat) hand (let h : Hand = record { deal = deal; past = drop (length past - k) past } in h) → Some view ≡ seat_view_at game hands seat hand k
seen_there game hands seat hand k deal past view d p few is =
    let at = the_hand (hand_at hands hand) deal past d p in
    let less : nat_le k (length past) ≡ true = grind (arith, nat_tests) in
    let found : Hand = record { deal = deal; past = past } in
    let count : length (older hands hand) ≡ hand = older_count hands hand found at in
    let there : hands_at hands hand k ≡ Some (cut_to found k ∷ older hands hand) =
    hands_at_is hands hand k ∙ (ap (λ (o : Option Hand). by_hand o (older hands hand) k) at
    ∙ ap (λ (b : Bool). if b then Some (cut_to found k ∷ older hands hand) else None) less) in
    ap Some is ∙ (ap (λ (n : ℕ). Some (view_of game (position_of game.players n seat) n (cut_to found k))) (sym count) ∙ sym (ap (seen_by game seat) there))

pub none_dealt : (game : Game) (hands : List Hand) (seat hand k : ℕ) → length hands ≤ hand → None ≡ seat_view_at game hands seat hand k
none_dealt game hands seat hand k more =
    let count : length (reverse hands) ≡ length hands = length-reverse hands in
    let gone : hand_at hands hand ≡ None = past_end (reverse hands) hand (omega arith) in
    sym (ap (seen_by game seat) (hands_at_is hands hand k ∙ ap (λ (o : Option Hand). by_hand o (older hands hand) k) gone))
