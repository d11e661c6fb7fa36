-- The lines of a match as texts: each names a place, has no line feed in it, and isn't long.
use Rattle.std.proofs.Common.{◌≡◌, ◌≢◌, ◌⊎◌, ℕ, zero, suc, ◌+◌, ◌*◌, ◌-◌, ◌^◌, ◌<◌, ◌≤◌, Bool, true, false, if◌then◌else◌, List, [], ◌∷◌, ◌++◌, length, map, take, drop, replicate, get_or, codes, decimal, Option, Some, None, refl, sym, ap, ◌∙◌, subst, inl, inr, arith}
use Rattle.std.specs.Char.{is_ascii_digit}
use Rattle.std.specs.Str.{all_ascii_digits}
use Rattle.std.specs.List.{AllByRecursion, join_by, range_with_len}
use Rattle.std.proofs.lemmas.Bool.{false≢true, and_parts}
use Rattle.std.proofs.lemmas.Fmt.{digits_decimal, length-decimal-le}
use Rattle.std.proofs.lemmas.List.{length-append, length-take, length-drop, length-map, length-replicate}
use Rattle.std.proofs.lemmas.List.FromFn.{length-range_with_len}
use Rattle.game_def.specs.Game.{Game, IsGame}
use Rattle.card_core.specs.Card.{rank_of, suit_of}
use Rattle.card_core.specs.Deal.{hole_of, board_of}
use Rattle.betting.specs.declared.action.Action.{Action}
use Rattle.betting.specs.declared.action.Action.TheVariants.{Fold, Call, Raise}
use Rattle.betting.specs.Laws.{HandsEnd}
use Rattle.betting.specs.Legal.{Legal, CanAct}
use Rattle.betting.specs.Rounds.{turns, current_round}
use Rattle.betting.specs.Text.{text, action_text}
use Rattle.betting.proofs.Slashes.{rounds_fit}
use Rattle.slot_log.specs.Hand.{Hand}
use Rattle.slot_log.specs.Dealer.{hands_of}
use Rattle.slot_log.specs.Laws.{CommandsMakeHands}
use Rattle.slot_log.specs.declared.command.Command.{Command}
use Rattle.matchstate.specs.Cards.{cards_text, cards_field, boards_of}
use Rattle.matchstate.specs.Free.{IsFreeOf}
use Rattle.matchstate.specs.Line.{line_text}
use Rattle.matchstate.specs.Reading.{slashes_after}
use Rattle.matchstate.specs.View.{View, view_of, position_of, sees, rounds_seen}
use Rattle.matchstate.proofs.OneField.{marked}
use Rattle.matchstate.proofs.Texts.{text_none, text_next}
use Rattle.matchstate.proofs.Words.{raise_fits, decimals_are_numerals}
use Rattle.line_cursor.specs.Past.{seat_view_at, PastIsABeginning}
use Rattle.line_cursor.proofs.Found.{HasCome, has_come}
use Rattle.seat_relay.specs.Places.{IsPlaced}
use Rattle.seat_relay.specs.declared.place.Place.{Place}
use Rattle.joined_lines.proofs.Gathering.{all_both}
use Rattle.joined_lines.proofs.Placed.{IsShown, place_of_view, is_shown}

-- what is so of the text of each line
pub record IsGood (line : List ℕ) : Type 0 where
  pub place : Place
  pub placed : IsPlaced line place
  pub short : length line ≤ 4096
  pub free : IsFreeOf 10 line

-- ---- bytes that stand in no field: a line feed, and the colon between fields

abbrev IsMark : ℕ → Type 0
IsMark mark = (mark ≡ 10) ⊎ (mark ≡ 58)

a_feed : IsMark 10
a_feed = inl refl

a_colon : IsMark 58
a_colon = inr refl

module _ (mark : ℕ) (is : IsMark mark) where
  no_digit : is_ascii_digit mark ≡ false
  no_digit = elim is as (λ _. is_ascii_digit mark ≡ false) [ inl feed ↦ ap is_ascii_digit feed | inr colon ↦ ap is_ascii_digit colon ]

  both : (xs ys : List ℕ) → IsFreeOf mark xs → IsFreeOf mark ys → IsFreeOf mark (xs ++ ys)
  both xs ys = all_both (λ (byte : ℕ). byte ≢ mark) xs ys

  free_digits : (digits : List ℕ) → all_ascii_digits digits ≡ true → IsFreeOf mark digits
  free_digits [] all = tt
  free_digits (digit ∷ digits) all =
      let parts = and_parts (is_ascii_digit digit) (all_ascii_digits digits) all in
      (λ same. false≢true (sym no_digit ∙ (ap is_ascii_digit (sym same) ∙ parts.0)), free_digits digits parts.1)

  free_decimal : (number : ℕ) → number < 2 ^ 64 → IsFreeOf mark (decimal number)
  free_decimal number small = free_digits (decimal number) (digits_decimal decimals_are_numerals number small)

  free_slashes : (count : ℕ) → IsFreeOf mark (replicate count 47)
  free_slashes zero = tt
  free_slashes (suc count) = (omega arith, free_slashes count)

  free_action : (game : Game) (past : List Action) (action : Action) → IsGame game → CanAct game (turns game past) action → IsFreeOf mark (action_text game action)
  unfolding action_text
  free_action game past Fold is_game can = (omega arith, tt)
  free_action game past Call is_game can = (omega arith, tt)
  free_action game past (Raise amount) is_game can = of_raise game.raise_sizes
    where
      of_raise : (sizes : Option (List ℕ)) → IsFreeOf mark (elim sizes as (λ _. List ℕ) [ None ↦ 114 ∷ decimal amount | Some _ ↦ 114 ∷ [] ])
      of_raise None =
          let fits = raise_fits game (turns game past) amount is_game can in
          (omega arith, free_decimal amount (omega arith))
      of_raise (Some sizes) = (omega arith, tt)

  free_text : (game : Game) (past : List Action) → IsGame game → Legal game past → IsFreeOf mark (text game past)
  free_text game [] is_game legal = subst (IsFreeOf mark) (sym (text_none game)) tt
  free_text game (action ∷ past) is_game legal =
      subst (IsFreeOf mark) (sym (text_next game past action))
      (both (text game past ++ action_text game action) (slashes_after game past action)
      (both (text game past) (action_text game action) (free_text game past is_game legal.0) (free_action game past action is_game legal.1))
      (free_slashes (current_round game (turns game (action ∷ past)) - current_round game (turns game past))))

  free_at : (letters : List ℕ) (place : ℕ) → IsFreeOf mark letters → get_or letters place 0 ≢ mark
  free_at [] place free = omega arith
  free_at (letter ∷ letters) zero free = free.0
  free_at (letter ∷ letters) (suc place) free = free_at letters place free.1

  free_ranks : IsFreeOf mark (codes "23456789TJQKA")
  free_ranks = (omega arith, (omega arith, (omega arith, (omega arith, (omega arith, (omega arith, (omega arith, (omega arith, (omega arith, (omega arith, (omega arith, (omega arith, (omega arith, tt)))))))))))))

  free_suits : IsFreeOf mark (codes "cdhs")
  free_suits = (omega arith, (omega arith, (omega arith, (omega arith, tt))))

  free_cards : (cards : List ℕ) → IsFreeOf mark (cards_text cards)
  free_cards [] = tt
  free_cards (card ∷ cards) = (free_at (codes "23456789TJQKA") (rank_of card) free_ranks, (free_at (codes "cdhs") (suit_of card) free_suits, free_cards cards))

  free_groups : (sign : ℕ) (groups : List (List ℕ)) → sign ≢ mark → IsFreeOf mark (marked sign groups)
  free_groups sign [] other = tt
  free_groups sign (group ∷ groups) other = (other, both (cards_text group) (marked sign groups) (free_cards group) (free_groups sign groups other))

  free_holes : (holes : List (List ℕ)) → IsFreeOf mark (join_by cards_text (124 ∷ []) holes)
  free_holes [] = tt
  free_holes (hole ∷ holes) = both (cards_text hole) (marked 124 holes) (free_cards hole) (free_groups 124 holes (omega arith))

  free_field : (holes boards : List (List ℕ)) → IsFreeOf mark (cards_field holes boards)
  free_field holes boards = both (join_by cards_text (124 ∷ []) holes) (marked 47 boards) (free_holes holes) (free_groups 47 boards (omega arith))

-- ---- lengths

action_length : (game : Game) (past : List Action) (action : Action) → IsGame game → CanAct game (turns game past) action → length (action_text game action) ≤ 11
unfolding action_text
action_length game past Fold is can = omega arith
action_length game past Call is can = omega arith
action_length game past (Raise amount) is can = of_raise game.raise_sizes
  where
    of_raise : (sizes : Option (List ℕ)) → length (elim sizes as (λ _. List ℕ) [ None ↦ 114 ∷ decimal amount | Some _ ↦ 114 ∷ [] ]) ≤ 11
    of_raise None =
        let fits = raise_fits game (turns game past) amount is can in
        let long = length-decimal-le 10 amount (omega arith) (omega arith) (omega arith) in
        omega (arith, long)
    of_raise (Some sizes) = omega arith

text_length : (game : Game) (past : List Action) → IsGame game → Legal game past → length (text game past) ≤ 14 * length past
text_length game [] is legal = subst (λ (t : List ℕ). length t ≤ 14 * 0) (sym (text_none game)) (omega arith)
text_length game (action ∷ past) is legal =
    let slashes : ℕ = current_round game (turns game (action ∷ past)) - current_round game (turns game past) in
    let before = text_length game past is legal.0 in
    let one = action_length game past action is legal.1 in
    let few = rounds_fit game (action ∷ past) in
    let marks = length-replicate {A = ℕ} slashes 47 in
    let two = length-append (text game past) (action_text game action) in
    let all = length-append (text game past ++ action_text game action) (slashes_after game past action) in
    subst (λ (t : List ℕ). length t ≤ 14 * length (action ∷ past)) (sym (text_next game past action)) (omega (arith, before, one, few, marks, two, all))

cards_length : (cards : List ℕ) → length (cards_text cards) ≡ 2 * length cards
cards_length [] = refl
cards_length (card ∷ cards) = let more = cards_length cards in omega (arith, more)

groups_length : (most sign : ℕ) (groups : List (List ℕ)) → AllByRecursion (λ group. length group ≤ most) groups → length (marked sign groups) ≤ (2 * most + 1) * length groups
groups_length most sign [] few = omega arith
groups_length most sign (group ∷ groups) few =
    let one = few.0 in
    let own = cards_length group in
    let more = groups_length most sign groups few.1 in
    let all = length-append (cards_text group) (marked sign groups) in
    omega (arith, one, own, more, all)

-- few cards are seen
pub record HasFewCards (view : View) : Type 0 where
  pub holes : AllByRecursion (λ hole. length hole ≤ 2) view.holes
  pub hole_count : length view.holes ≤ 10
  pub boards : AllByRecursion (λ board. length board ≤ 5) view.boards
  pub board_count : length view.boards ≤ 3

holes_length : (holes : List (List ℕ)) → AllByRecursion (λ hole. length hole ≤ 2) holes → length (join_by cards_text (124 ∷ []) holes) ≤ 5 * length holes
holes_length [] few = omega arith
holes_length (hole ∷ holes) few =
    let one = few.0 in
    let own = cards_length hole in
    let more = groups_length 2 124 holes few.1 in
    let all = length-append (cards_text hole) (marked 124 holes) in
    omega (arith, one, own, more, all)

hole_seen : (sees_it : Bool) (deal : List ℕ) (position : ℕ) → length (if sees_it then hole_of deal position else []) ≤ 2
hole_seen true deal position = let long = length-take 2 (drop (2 * position) deal) in omega (arith, long)
hole_seen false deal position = omega arith

all_seen : (sees_it : ℕ → Bool) (deal : List ℕ) (positions : List ℕ) → AllByRecursion (λ hole. length hole ≤ 2) (map (λ position. if sees_it position then hole_of deal position else []) positions)
all_seen sees_it deal [] = tt
all_seen sees_it deal (position ∷ positions) = (hole_seen (sees_it position) deal position, all_seen sees_it deal positions)

all_taken : {A : Type 0} (P : A → Type 0) (n : ℕ) (xs : List A) → AllByRecursion P xs → AllByRecursion P (take n xs)
all_taken P zero xs all = tt
all_taken P (suc n) [] all = tt
all_taken P (suc n) (x ∷ xs) all = (all.0, all_taken P n xs all.1)

few_boards : (deal : List ℕ) → AllByRecursion (λ board. length board ≤ 5) (boards_of deal)
few_boards deal =
    let all = length-drop (length deal - 5) deal in
    let flop = length-take 3 (board_of deal) in
    let turn = length-take 1 (drop 3 (board_of deal)) in
    let river = length-drop 4 (board_of deal) in
    (omega (arith, flop), (omega (arith, turn), (omega (arith, river, all), tt)))

few_cards : (game : Game) (position number : ℕ) (hand : Hand) → IsGame game → HasFewCards (view_of game position number hand)
few_cards game position number hand is =
    let most = is.most_players in
    let count = length-map (range_with_len 0 game.players) (λ (p : ℕ). if sees game hand.past position p then hole_of hand.deal p else []) in
    let positions = length-range_with_len 0 game.players in
    let rounds = length-take (rounds_seen game hand.past) (boards_of hand.deal) in
    record {
      holes = all_seen (sees game hand.past position) hand.deal (range_with_len 0 game.players);
      hole_count = omega (arith, most, count, positions);
      boards = all_taken (λ board. length board ≤ 5) (rounds_seen game hand.past) (boards_of hand.deal) (few_boards hand.deal);
      board_count = omega (arith, rounds);
    }

-- ---- a line

line_length : HandsEnd → (view : View) → IsShown view → HasFewCards view → length (line_text view) ≤ 4096
line_length ends view is cards =
    let most = is.is_game.most_players in
    let below = is.seated in
    let numbered = is.numbered in
    let position = length-decimal-le 2 view.position (omega arith) (omega (arith, most, below)) (omega (arith, most, below)) in
    let hand = length-decimal-le 4 view.hand (omega arith) (omega (arith, numbered)) (omega (arith, numbered)) in
    let actions = ends view.game view.past is.is_game is.legal in
    let betting = text_length view.game view.past is.is_game is.legal in
    let holes = holes_length view.holes cards.holes in
    let hole_count = cards.hole_count in
    let boards = groups_length 5 47 view.boards cards.boards in
    let board_count = cards.board_count in
    let field = length-append (join_by cards_text (124 ∷ []) view.holes) (marked 47 view.boards) in
    let three = length-append (text view.game view.past) (58 ∷ cards_field view.holes view.boards) in
    let two = length-append (decimal view.hand) (58 ∷ (text view.game view.past ++ 58 ∷ cards_field view.holes view.boards)) in
    let one = length-append (decimal view.position) (58 ∷ (decimal view.hand ++ 58 ∷ (text view.game view.past ++ 58 ∷ cards_field view.holes view.boards))) in
    omega (arith, position, hand, actions, betting, holes, hole_count, boards, board_count, field, three, two, one)

view_placed : (view : View) → IsShown view → IsPlaced (line_text view) (place_of_view view)
view_placed view is =
    let most = is.is_game.most_players in
    let below = is.seated in
    let numbered = is.numbered in
    record {
      fields = record { position = decimal view.position; hand = decimal view.hand; betting = text view.game view.past; cards = cards_field view.holes view.boards };
      has_fields = record {
        whole = refl;
        position_field = free_decimal 58 a_colon view.position (omega (arith, most, below));
        hand_field = free_decimal 58 a_colon view.hand (omega (arith, numbered));
        betting_field = free_text 58 a_colon view.game view.past is.is_game is.legal;
        cards_field = free_field 58 a_colon view.holes view.boards;
      };
      hand_text = refl;
      hand_below = omega (arith, numbered);
      betting_len = refl;
    }

view_free : (view : View) → IsShown view → IsFreeOf 10 (line_text view)
view_free view is =
    let most = is.is_game.most_players in
    let below = is.seated in
    let numbered = is.numbered in
    let word : IsFreeOf 10 (codes "MATCHSTATE:") =
    (omega arith, (omega arith, (omega arith, (omega arith, (omega arith, (omega arith, (omega arith, (omega arith, (omega arith, (omega arith, (omega arith, tt))))))))))) in
    let three = both 10 a_feed (text view.game view.past) (58 ∷ cards_field view.holes view.boards) (free_text 10 a_feed view.game view.past is.is_game is.legal) (omega arith, free_field 10 a_feed view.holes view.boards) in
    let two = both 10 a_feed (decimal view.hand) (58 ∷ (text view.game view.past ++ 58 ∷ cards_field view.holes view.boards)) (free_decimal 10 a_feed view.hand (omega (arith, numbered))) (omega arith, three) in
    let one = both 10 a_feed (decimal view.position) (58 ∷ (decimal view.hand ++ 58 ∷ (text view.game view.past ++ 58 ∷ cards_field view.holes view.boards)))
    (free_decimal 10 a_feed view.position (omega (arith, most, below))) (omega arith, two) in
    both 10 a_feed (codes "MATCHSTATE:") (decimal view.position ++ 58 ∷ (decimal view.hand ++ 58 ∷ (text view.game view.past ++ 58 ∷ cards_field view.holes view.boards))) word one

-- so it is of what a seat saw of a match at any place
pub view_is_good : HandsEnd → CommandsMakeHands → PastIsABeginning → (game : Game) (count : ℕ) (commands : List Command) (seat hand actions : ℕ) (view : View) → IsGame game → count ≤ 10000
    → ((number : ℕ) → position_of game.players number seat < game.players) → seat_view_at game (hands_of game count commands) seat hand actions ≡ Some view → IsGood (line_text view)
view_is_good ends make past game count commands seat hand actions view is most seated e =
    let shown : IsShown view = is_shown make past game count commands seat hand actions view is most seated e in
    let come : HasCome game (hands_of game count commands) seat hand actions view = has_come game (hands_of game count commands) seat hand actions view e in
    let cards : HasFewCards view = subst HasFewCards (sym come.view_is) (few_cards game (position_of game.players (length come.before) seat) (length come.before) come.newest is) in
    record { place = place_of_view view; placed = view_placed view shown; short = line_length ends view shown cards; free = view_free view shown }
