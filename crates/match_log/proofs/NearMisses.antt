-- Worked texts where a hand's line is due that are no hand's line: near misses, refuted.
use Rattle.std.proofs.Common.{◌≡◌, ◌≢◌, ℕ, ◌<◌, ◌≤◌, true, false, ◌&&◌, eqb, nat_eq, lit<, List, [], ◌∷◌, ◌++◌, length, get_or, refl, sym, ◌∙◌, ap, subst, append_assoc, rules, arith, inl, inr}
use Rattle.std.specs.Prelude.{codes, decimal}
use Rattle.std.specs.List.{AllByRecursion}
use Rattle.std.specs.Str.Parse.{digits_value}
use Rattle.std.proofs.lemmas.Bool.{agree_below_at, eqb-true}
use Rattle.std.proofs.lemmas.List.{append_cancel_left}
use Rattle.std.proofs.lemmas.Map.Keys.{apart_from_distinct}
use Rattle.card_core.specs.Card.{text_of}
use Rattle.card_core.specs.Deal.{IsDeal}
use Rattle.betting.specs.Text.{text}
use Rattle.betting.specs.declared.action.Action.{Action}
use Rattle.betting.specs.declared.action.Action.TheVariants.{Fold}
use Rattle.matchstate.specs.OneToOne.{BettingTextsAreOneToOne}
use Rattle.slot_log.specs.Hand.{Hand}
use Rattle.slot_log.specs.Dealer.{hands_of}
use Rattle.slot_log.specs.declared.command.Command.TheVariants.{Deal, Act}
use Rattle.matchstate.specs.Cards.{cards_field, holes_of}
use Rattle.match_log.specs.Names.{names_by_position}
use Rattle.match_log.specs.Lines.{names_field, shown_cards}
use Rattle.matchstate.proofs.Fronts.{stands_within, cut_alike}
use Rattle.match_log.proofs.Examples.{opened, two_players, alice_and_bob, ten_ace}
use Rattle.match_log.specs.Numeral.{IsDecimal, IsWhole}
use Rattle.match_log.specs.Log.{Title}
use Rattle.match_log.specs.declared.fault_kind.LogFaultKind.TheVariants.{BadHeader, BadState}
use Rattle.match_log.specs.Check.{DealsFairly, IsTitle, IsPlayed, BeginsLine, HasState, HasNoState, IsFirstFault}
use Rattle.matchstate.specs.Free.{IsFreeOf}
use Rattle.match_log.proofs.FieldCuts.{All-weaker}
use Rattle.match_log.proofs.NumberTexts.{IsSignedByte, decimal_bytes, whole_bytes}
use Rattle.match_log.proofs.FieldBytes.{no_colon, digits_plain, text_plain, values_plain, values_without_bar}
use Rattle.match_log.proofs.SameHands.{header_parts}
use Rattle.match_log.proofs.CheckExamples.{no_minus_nought}
use Rattle.match_log.proofs.VerdictExamples.{two_player_game, one_hand, folded_hand, hand_played, fault_at, header_and}
use Rattle.match_log.proofs.OneLine.{line_fields, cards_end, field_tells}

-- ---- what a line's fields say

-- a text with these fields
abbrev line_of : (number betting cards values names behind : List ℕ) → List ℕ
line_of number betting cards values names behind =
    codes "STATE:" ++ (number ++ 58 ∷ (betting ++ 58 ∷ (cards ++ 58 ∷ (values ++ 58 ∷ (names ++ 10 ∷ behind)))))

-- the fields are those of a hand
record AreFieldsOf (number betting cards values : List ℕ) (digits : List ℕ) (hand : Hand) (amounts : List (List ℕ)) : Type 0 where
  numbered : number ≡ digits
  its_betting : betting ≡ text two_players hand.past
  its_cards : cards ≡ shown_cards two_players hand.past hand.deal
  its_values : values ≡ names_field amounts

record AreApart (number betting cards values : List ℕ) : Type 0 where
  number_ends : IsFreeOf 58 number
  betting_ends : IsFreeOf 58 betting
  cards_end : IsFreeOf 58 cards
  values_end : IsFreeOf 58 values

fields_read : (names : List (List ℕ)) (hands : List Hand) (number betting cards values seats behind digits : List ℕ) (hand : Hand) (amounts : List (List ℕ)) → AreApart number betting cards values → (state : HasState two_players names hands (line_of number betting cards values seats behind) digits hand amounts)
    → AreFieldsOf number betting cards values digits hand amounts × (seats ++ 10 ∷ behind ≡ names_field state.by_position ++ 10 ∷ state.behind)
fields_read names hands number betting cards values seats behind digits hand amounts apart state =
    let whole = append_cancel_left (codes "STATE:") _ _ (state.whole ∙ line_fields two_players digits hand amounts state.by_position state.behind) in
    let first = cut_alike 58 number digits _ _ apart.number_ends (no_colon digits (digits_plain digits (decimal_bytes digits state.numbered))) whole in
    let second = cut_alike 58 betting (text two_players hand.past) _ _ apart.betting_ends (no_colon _ (text_plain two_players hand.past)) first.1 in
    let third = cut_alike 58 cards (shown_cards two_players hand.past hand.deal) _ _ apart.cards_end (cards_end two_players hand) second.1 in
    let fourth = cut_alike 58 values (names_field amounts) _ _ apart.values_end (no_colon _ (values_plain amounts (All-weaker IsWhole (AllByRecursion IsSignedByte) amounts whole_bytes state.whole_values))) third.1 in
    (record { numbered = first.0; its_betting = second.0; its_cards = third.0; its_values = fourth.0 }, fourth.1)

-- bytes that aren't a colon
apart_from_colon : (bytes : List ℕ) → AllByRecursion (λ byte. eqb byte 58 ≡ false) bytes → IsFreeOf 58 bytes
apart_from_colon [] all = tt
apart_from_colon (byte ∷ bytes) all = (λ e. let test : eqb 58 58 ≡ false = subst (λ (b : ℕ). eqb b 58 ≡ false) e all.0 in cc, apart_from_colon bytes all.1)

-- fields without a colon
abbrev no_colon_in : List ℕ → Type 0
no_colon_in bytes = AllByRecursion (λ byte. eqb byte 58 ≡ false) bytes

apart_by_tests : (number betting cards values : List ℕ) → no_colon_in number → no_colon_in betting → no_colon_in cards → no_colon_in values → AreApart number betting cards values
apart_by_tests number betting cards values a b c d = record {
  number_ends = apart_from_colon number a;
  betting_ends = apart_from_colon betting b;
  cards_end = apart_from_colon cards c;
  values_end = apart_from_colon values d;
}

-- ---- a number with a 0 in front

two_zeros : IsDecimal (codes "00") → ⊥
two_zeros is = let count : ◌≡◌ {A = ℕ} 2 1 = is.plain refl in omega (arith, count)

zero_in_front : HasNoState two_players alice_and_bob [] (line_of (codes "00") (codes "f") (codes "TdAs|8hTc") (codes "5|-5") (codes "alice|bob") [])
zero_in_front digits hand amounts state =
    let apart = apart_by_tests (codes "00") (codes "f") (codes "TdAs|8hTc") (codes "5|-5") (search rules) (search rules) (search rules) (search rules) in
    let read = fields_read alice_and_bob [] (codes "00") (codes "f") (codes "TdAs|8hTc") (codes "5|-5") (codes "alice|bob") [] digits hand amounts apart state in
    two_zeros (subst IsDecimal (sym read.0.numbered) state.numbered)

-- ---- a card twice: TdAs|8hTd

record FourCards (deal : List ℕ) : Type 0 where
  one : ℕ
  two : ℕ
  three : ℕ
  four : ℕ
  others : List ℕ
  whole : deal ≡ one ∷ two ∷ three ∷ four ∷ others

four_cards : (deal : List ℕ) → length deal ≡ 9 → FourCards deal
four_cards [] count = absurd (omega arith)
four_cards (a ∷ []) count = absurd (omega arith)
four_cards (a ∷ b ∷ []) count = absurd (omega arith)
four_cards (a ∷ b ∷ c ∷ []) count = absurd (omega arith)
four_cards (a ∷ b ∷ c ∷ d ∷ others) count = record { one = a; two = b; three = c; four = d; others = others; whole = refl }

-- the two letters tell the card
ten_of_diamonds : (card : ℕ) → card < 52 → get_or (text_of card) 0 0 ≡ 84 → get_or (text_of card) 1 0 ≡ 100 → card ≡ 33
ten_of_diamonds card below rank suit =
    let both : (eqb (get_or (text_of card) 0 0) 84 && eqb (get_or (text_of card) 1 0) 100) ≡ true = rw (rank, suit) refl in
    eqb-true card 33 (sym (agree_below_at (λ c. eqb (get_or (text_of c) 0 0) 84 && eqb (get_or (text_of c) 1 0) 100) (λ c. eqb c 33) 52 card refl below) ∙ both)

no_card_twice : (one two three four : ℕ) (others : List ℕ) (boards : List (List ℕ)) → IsDeal 2 (one ∷ two ∷ three ∷ four ∷ others) → codes "TdAs|8hTd" ≢ cards_field (holes_of 2 (one ∷ two ∷ three ∷ four ∷ others)) boards
no_card_twice one two three four others boards dealt e =
    let first : one ≡ 33 = ten_of_diamonds one dealt.cards_of_the_pack.0 (sym (ap (λ (t : List ℕ). get_or t 0 0) e)) (sym (ap (λ (t : List ℕ). get_or t 1 0) e)) in
    let last : four ≡ 33 = ten_of_diamonds four dealt.cards_of_the_pack.1.1.1.0 (sym (ap (λ (t : List ℕ). get_or t 7 0) e)) (sym (ap (λ (t : List ℕ). get_or t 8 0) e)) in
    let differ : nat_eq one four ≡ false = apart_from_distinct nat_eq _ 0 3 0 dealt.distinct (lit< tt) (omega arith) in
    let same : nat_eq 33 33 ≡ false = subst (λ (n : ℕ). nat_eq 33 n ≡ false) last (subst (λ (n : ℕ). nat_eq n four ≡ false) first differ) in
    cc

card_twice : HasNoState two_players alice_and_bob [] (line_of (codes "0") (codes "f") (codes "TdAs|8hTd") (codes "5|-5") (codes "alice|bob") [])
card_twice digits hand amounts state =
    let apart = apart_by_tests (codes "0") (codes "f") (codes "TdAs|8hTd") (codes "5|-5") (search rules) (search rules) (search rules) (search rules) in
    let read = fields_read alice_and_bob [] (codes "0") (codes "f") (codes "TdAs|8hTd") (codes "5|-5") (codes "alice|bob") [] digits hand amounts apart state in
    let cards = four_cards hand.deal state.played.dealt.count in
    no_card_twice cards.one cards.two cards.three cards.four cards.others _ (subst (IsDeal 2) cards.whole state.played.dealt)
    (read.0.its_cards ∙ ap (λ (deal : List ℕ). shown_cards two_players hand.past deal) cards.whole)

-- ---- the flop shown where all but one have folded

fold_text : text two_players (Fold ∷ []) ≡ codes "f"
unfolding opened
fold_text = refl

no_board : (deal : List ℕ) → shown_cards two_players (Fold ∷ []) deal ≡ cards_field (holes_of 2 deal) []
unfolding opened
no_board deal = refl

length_of_holes : (one two three four : ℕ) (others : List ℕ) → length (cards_field (holes_of 2 (one ∷ two ∷ three ∷ four ∷ others)) []) ≡ 9
length_of_holes one two three four others = refl

flop_after_a_fold : BettingTextsAreOneToOne → HasNoState two_players alice_and_bob [] (line_of (codes "0") (codes "f") (codes "TdAs|8hTc/2c8c3h") (codes "5|-5") (codes "alice|bob") [])
flop_after_a_fold texts digits hand amounts state =
    let apart = apart_by_tests (codes "0") (codes "f") (codes "TdAs|8hTc/2c8c3h") (codes "5|-5") (search rules) (search rules) (search rules) (search rules) in
    let read = fields_read alice_and_bob [] (codes "0") (codes "f") (codes "TdAs|8hTc/2c8c3h") (codes "5|-5") (codes "alice|bob") [] digits hand amounts apart state in
    let folds : hand.past ≡ Fold ∷ [] = texts two_players hand.past (Fold ∷ []) two_player_game state.played.legal hand_played.legal (sym read.0.its_betting ∙ sym fold_text) in
    let cards = four_cards hand.deal state.played.dealt.count in
    let shown : codes "TdAs|8hTc/2c8c3h" ≡ cards_field (holes_of 2 (cards.one ∷ cards.two ∷ cards.three ∷ cards.four ∷ cards.others)) [] =
    read.0.its_cards ∙ ap (λ (past : List Action). shown_cards two_players past hand.deal) folds ∙ no_board hand.deal ∙ ap (λ (deal : List ℕ). cards_field (holes_of 2 deal) []) cards.whole in
    omega (arith, ap length shown, length_of_holes cards.one cards.two cards.three cards.four cards.others)

-- ---- the names of the second hand where the first one's were

not_moved_on : HasNoState two_players alice_and_bob (folded_hand ∷ []) (line_of (codes "1") (codes "f") (codes "2d2h|3d3s") (codes "5|-5") (codes "alice|bob") [])
not_moved_on digits hand amounts state =
    let apart = apart_by_tests (codes "1") (codes "f") (codes "2d2h|3d3s") (codes "5|-5") (search rules) (search rules) (search rules) (search rules) in
    let read = fields_read alice_and_bob (folded_hand ∷ []) (codes "1") (codes "f") (codes "2d2h|3d3s") (codes "5|-5") (codes "alice|bob") [] digits hand amounts apart state in
    let turned : state.by_position ≡ codes "bob" ∷ codes "alice" ∷ [] = state.names_fit ∙ ap (λ (number : List ℕ). names_by_position 2 (digits_value 10 number) alice_and_bob) (sym read.0.numbered) in
    let first : ◌≡◌ {A = ℕ} 97 98 = ap (λ (t : List ℕ). get_or t 0 0) (read.1 ∙ ap (λ (names : List (List ℕ)). names_field names ++ 10 ∷ state.behind) turned) in
    omega (arith, first)

-- ---- a value that is no whole number

minus_zero : HasNoState two_players alice_and_bob [] (line_of (codes "0") (codes "f") (codes "TdAs|8hTc") (codes "5|-0") (codes "alice|bob") [])
minus_zero digits hand amounts state =
    let apart = apart_by_tests (codes "0") (codes "f") (codes "TdAs|8hTc") (codes "5|-0") (search rules) (search rules) (search rules) (search rules) in
    let read = fields_read alice_and_bob [] (codes "0") (codes "f") (codes "TdAs|8hTc") (codes "5|-0") (codes "alice|bob") [] digits hand amounts apart state in
    let bytes = All-weaker IsWhole (AllByRecursion IsSignedByte) amounts whole_bytes state.whole_values in
    let same : codes "5" ∷ codes "-0" ∷ [] ≡ amounts =
    field_tells (codes "5" ∷ codes "-0" ∷ []) amounts (sym state.value_each)
    (((λ e. omega arith), tt), (((λ e. omega arith), ((λ e. omega arith), tt)), tt)) (values_without_bar amounts bytes) read.0.its_values in
    no_minus_nought (subst (AllByRecursion IsWhole) (sym same) state.whole_values).1.0

-- ---- so they are faults of their lines

after_header : (rest : List ℕ) → HasNoState two_players alice_and_bob [] (83 ∷ 84 ∷ rest) → IsFirstFault two_players (codes "# name/game/hands m l2.game 1\n" ++ 83 ∷ 84 ∷ rest) (fault_at BadState 2)
after_header rest none = inr (inl (record {
  title = one_hand;
  names = alice_and_bob;
  hands = [];
  rest = 83 ∷ 84 ∷ rest;
  before = header_and (83 ∷ 84 ∷ rest);
  line = refl;
  wrong = inl (omega arith, (λ e. cc, λ begins. let second : ◌≡◌ {A = ℕ} 84 67 = ap (λ (t : List ℕ). get_or t 1 0) begins.whole in omega (arith, second), none));
}))

bad_number : IsFirstFault two_players (codes "# name/game/hands m l2.game 1\nSTATE:00:f:TdAs|8hTc:5|-5:alice|bob\n") (fault_at BadState 2)
bad_number = after_header _ zero_in_front

bad_cards : IsFirstFault two_players (codes "# name/game/hands m l2.game 1\nSTATE:0:f:TdAs|8hTd:5|-5:alice|bob\n") (fault_at BadState 2)
bad_cards = after_header _ card_twice

bad_board : BettingTextsAreOneToOne → IsFirstFault two_players (codes "# name/game/hands m l2.game 1\nSTATE:0:f:TdAs|8hTc/2c8c3h:5|-5:alice|bob\n") (fault_at BadState 2)
bad_board texts = after_header _ (flop_after_a_fold texts)

bad_value : IsFirstFault two_players (codes "# name/game/hands m l2.game 1\nSTATE:0:f:TdAs|8hTc:5|-0:alice|bob\n") (fault_at BadState 2)
bad_value = after_header _ minus_zero

-- ---- a header without its line's end

no_end_of_line : IsFirstFault two_players (codes "# name/game/hands m l2.game 1") (fault_at BadHeader 1)
no_end_of_line = inl (refl, (λ e. cc, λ title rest has. by title rest (has.whole ∙ header_parts title rest)))
  where
    without : IsFreeOf 10 (codes "# name/game/hands m l2.game 1")
    without = search rules

    by : (title : Title) (rest : List ℕ) → codes "# name/game/hands m l2.game 1" ≡ codes "# name/game/hands " ++ (title.name ++ 32 ∷ (title.game ++ 32 ∷ (decimal title.hands ++ 10 ∷ rest))) → ⊥
    by title rest e =
        stands_within 10 (codes "# name/game/hands " ++ (title.name ++ 32 ∷ (title.game ++ 32 ∷ decimal title.hands))) rest
        (subst (IsFreeOf 10) (e ∙ regroup (codes "# name/game/hands ") title.name title.game (decimal title.hands) rest) without)
      where
        regroup : (a b c d others : List ℕ) → a ++ (b ++ 32 ∷ (c ++ 32 ∷ (d ++ 10 ∷ others))) ≡ (a ++ (b ++ 32 ∷ (c ++ 32 ∷ d))) ++ 10 ∷ others
        regroup a b c d others = simp append_assoc

-- ---- pieces of a log that miss what they should be

-- a match has a hand
no_hands : IsTitle (record { name = codes "m"; game = codes "l2.game"; hands = 0 }) → ⊥
no_hands title = let least : 1 ≤ 0 = title.least in omega arith

too_many_hands : IsTitle (record { name = codes "m"; game = codes "l2.game"; hands = 10001 }) → ⊥
too_many_hands title = let most : 10001 ≤ 10000 = title.most in omega arith

-- the ten of diamonds in a hand and on the river
abbrev river_twice : List ℕ
river_twice = 33 ∷ 51 ∷ 26 ∷ 32 ∷ 0 ∷ 24 ∷ 6 ∷ 28 ∷ 33 ∷ []

unfair_deal : DealsFairly (Deal 0 river_twice) → ⊥
unfair_deal dealt = let apart : true ≡ false = apart_from_distinct nat_eq _ 0 8 0 dealt.distinct (lit< tt) (lit< tt) in cc

-- such a hand isn't played though the dealer takes its commands
unfair_hand : AllByRecursion (IsPlayed two_players) (hands_of two_players 1 (Act 0 0 Fold ∷ Deal 0 river_twice ∷ [])) → ⊥
unfolding opened
unfair_hand played = let apart : true ≡ false = apart_from_distinct nat_eq _ 0 8 0 played.0.dealt.distinct (lit< tt) (lit< tt) in cc

-- a hand that runs isn't played to its end
running_hand : IsPlayed two_players (record { deal = ten_ace; past = [] }) → ⊥
unfolding opened
running_hand played = let ended : false ≡ true = played.finished in cc

-- a line needs its end
line_without_end : BeginsLine (codes "SCORE:") (codes "SCORE:0|0:alice|bob") → ⊥
line_without_end begins =
    stands_within 10 (codes "SCORE:" ++ begins.line) begins.behind
    (subst (IsFreeOf 10) (begins.whole ∙ sym (append_assoc (codes "SCORE:") begins.line (10 ∷ begins.behind))) without)
  where
    without : IsFreeOf 10 (codes "SCORE:0|0:alice|bob")
    without = search rules
