-- Witnesses of what lines say, and near misses.
use Rattle.std.proofs.Common.{◌≡◌, ◌≢◌, ℕ, ◌<◌, Bool, true, false, not, ◌&&◌, eqb, List, [], ◌∷◌, ◌++◌, map, length, get_or, Some, None, Result, Ok, Err, refl, sym, ap, ◌∙◌, subst, arith, inl, inr}
use Rattle.std.specs.Prelude.{codes, decimal}
use Rattle.std.specs.Str.Parse.{digits_value}
use Rattle.std.proofs.lemmas.Bool.{agree_below_at, false≢true}
use Rattle.std.proofs.lemmas.Bool.Decides.{nat_tests}
use Rattle.std.proofs.lemmas.Fmt.{decimal_is_IsNumeral}
use Rattle.game_def.specs.Game.{Game, IsGame}
use Rattle.card_core.specs.Card.{rank_of, rank_letter}
use Rattle.betting.specs.declared.action.Action.{Action}
use Rattle.betting.specs.declared.action.Action.TheVariants.{Fold, Call, Raise}
use Rattle.betting.specs.declared.fault.ActFault.TheVariants.{FoldNotFacing, TooManyRaises, RaiseTooLarge}
use Rattle.betting.specs.Rounds.{turns}
use Rattle.betting.specs.Legal.{Legal, CanAct}
use Rattle.betting.specs.Text.{text, action_text}
use Rattle.betting.proofs.Legal.{can_act-none, none-can_act}
use Rattle.matchstate.specs.ActionText.{IsActionText}
use Rattle.matchstate.specs.Cards.{cards_text, cards_field, all_cards}
use Rattle.matchstate.specs.Reading.{slashes_after}
use Rattle.matchstate.specs.View.{View, IsView, sees}
use Rattle.matchstate.specs.Line.{Fields, joined, IsField, HasFields, AreNumbers, IsBetting, AreCards, IsLine, ReadsAs}
use Rattle.matchstate.specs.declared.line_fault.LineFault.{LineFault}
use Rattle.matchstate.specs.declared.line_fault.LineFault.TheVariants.{NotMatchstate, BadNumber, BadBetting, BadCards}
use Rattle.matchstate.proofs.Behind.{Behind, behind_all, next_behind}
use Rattle.matchstate.proofs.Counts.{count_of, count_of-append}
use Rattle.matchstate.proofs.Examples.{opened, limit_pair, no_limit_pair, first_deal, first_deal_dealt}
use Rattle.matchstate.proofs.Seen.{place_from_seen}
use Rattle.matchstate.proofs.Words.{raise_fits, cut_word}
use Rattle.matchstate.proofs.OneBetting.{letter, letter_is}
use Rattle.matchstate.proofs.Parts.{AllOfPack}
use Rattle.matchstate.proofs.OneLine.{fields_with, same_fields, lines_are_texts, texts_read_back}

-- ---- the games are games

pub limit_pair_game : IsGame limit_pair
limit_pair_game =
    record {
      least_players = omega arith;
      most_players = omega arith;
      stack_each = refl;
      blind_each = refl;
      stacks_fit = (omega arith, (omega arith, tt));
      stacks_above = (omega arith, (omega arith, tt));
      some_blind = omega arith;
      four_sizes = refl;
      sizes_fit = (omega arith, (omega arith, (omega arith, (omega arith, tt))));
      some_size = (omega arith, (omega arith, (omega arith, (omega arith, tt))));
      first_each = refl;
      firsts_play = (omega arith, (omega arith, (omega arith, (omega arith, tt))));
      raises_each = refl;
      raises_fit = (omega arith, (omega arith, (omega arith, (omega arith, tt))));
    }

pub no_limit_pair_game : IsGame no_limit_pair
no_limit_pair_game =
    record {
      least_players = omega arith;
      most_players = omega arith;
      stack_each = refl;
      blind_each = refl;
      stacks_fit = (omega arith, (omega arith, tt));
      stacks_above = (omega arith, (omega arith, tt));
      some_blind = omega arith;
      four_sizes = tt;
      sizes_fit = tt;
      some_size = tt;
      first_each = refl;
      firsts_play = (omega arith, (omega arith, (omega arith, (omega arith, tt))));
      raises_each = refl;
      raises_fit = (omega arith, (omega arith, (omega arith, (omega arith, tt))));
    }

-- ---- fields

-- no colon stands in a text
abbrev is_apart : List ℕ → Bool
is_apart [] = true
is_apart (byte ∷ bytes) = not (eqb byte 58) && is_apart bytes

from_test : (bytes : List ℕ) → is_apart bytes ≡ true → IsField bytes
from_test [] apart = tt
from_test (byte ∷ bytes) apart =
    let parts = both (eqb byte 58) (is_apart bytes) apart in
    (λ colon. false≢true (sym parts.0 ∙ ap (λ b. eqb b 58) colon), from_test bytes parts.1)
  where
    both : (a b : Bool) → (not a && b) ≡ true → (a ≡ false) × (b ≡ true)
    both true b e = cc
    both false b e = (refl, e)

pub has_fields : (position hand betting cards : List ℕ) → is_apart position ≡ true → is_apart hand ≡ true → is_apart betting ≡ true → is_apart cards ≡ true → HasFields (joined (fields_with position hand betting cards)) (fields_with position hand betting cards)
has_fields position hand betting cards p h b c =
    record {
      whole = refl;
      position_field = from_test position p;
      hand_field = from_test hand h;
      betting_field = from_test betting b;
      cards_field = from_test cards c;
    }

-- the fields of MATCHSTATE:0:0:rrrc/:TdAs|/2c8c3h
abbrev flop_fields : Fields
flop_fields = fields_with (codes "0") (codes "0") (codes "rrrc/") (codes "TdAs|/2c8c3h")

flop_has_fields : HasFields (codes "MATCHSTATE:0:0:rrrc/:TdAs|/2c8c3h") flop_fields
flop_has_fields = has_fields (codes "0") (codes "0") (codes "rrrc/") (codes "TdAs|/2c8c3h") refl refl refl refl

pub count_from_field : (bytes : List ℕ) → IsField bytes → count_of 58 bytes ≡ 0
count_from_field [] field = refl
count_from_field (byte ∷ bytes) field =
    let other : byte ≢ 58 = field.0 in
    let test : eqb byte 58 ≡ false = grind (arith, nat_tests) in
    rw test (omega (arith, count_from_field bytes field.1))

-- the word and four fields have four colons
four_colons : (bytes : List ℕ) (fields : Fields) → HasFields bytes fields → count_of 58 bytes ≡ 4
four_colons bytes fields has =
    let whole : count_of 58 bytes ≡ count_of 58 (joined fields) = ap (count_of 58) has.whole in
    let position = count_from_field fields.position has.position_field in
    let hand = count_from_field fields.hand has.hand_field in
    let betting = count_from_field fields.betting has.betting_field in
    let cards = count_from_field fields.cards has.cards_field in
    omega (
      arith,
      count_of-append 58 fields.position (58 ∷ (fields.hand ++ 58 ∷ (fields.betting ++ 58 ∷ fields.cards))),
      count_of-append 58 fields.hand (58 ∷ (fields.betting ++ 58 ∷ fields.cards)),
      count_of-append 58 fields.betting (58 ∷ fields.cards),
    )

three_fields_none : ReadsAs limit_pair (codes "MATCHSTATE:0:0:TdAs|") (Err NotMatchstate)
three_fields_none fields has = let four : ◌≡◌ {A = ℕ} 3 4 = four_colons (codes "MATCHSTATE:0:0:TdAs|") fields has in absurd (omega arith)

five_fields_none : ReadsAs limit_pair (codes "MATCHSTATE:0:0::TdAs|:r") (Err NotMatchstate)
five_fields_none fields has = let four : ◌≡◌ {A = ℕ} 5 4 = four_colons (codes "MATCHSTATE:0:0::TdAs|:r") fields has in absurd (omega arith)

another_word_none : ReadsAs limit_pair (codes "HELLO:1:2:3:4") (Err NotMatchstate)
another_word_none fields has = let first : ◌≡◌ {A = ℕ} 72 77 = ap (λ t. get_or t 0 0) has.whole in absurd (omega arith)

-- ---- numbers

flop_numbers : AreNumbers limit_pair flop_fields 0 0
unfolding opened
flop_numbers = record { position_text = refl; position_below = omega arith; hand_text = refl; hand_most = omega arith }

last_hand_numbers : AreNumbers limit_pair (fields_with (codes "1") (codes "9999") [] (codes "|8hTc")) 1 9999
unfolding opened
last_hand_numbers = record { position_text = refl; position_below = omega arith; hand_text = refl; hand_most = omega arith }

-- what a decimal says
value : (number : ℕ) (bytes : List ℕ) → number < 10000 → bytes ≡ decimal number → digits_value 10 bytes ≡ number
value number bytes small is = ap (digits_value 10) is ∙ (decimal_is_IsNumeral number (omega arith)).1

third_position_none : (position hand : ℕ) → AreNumbers limit_pair (fields_with (codes "2") (codes "0") (codes "c/") (codes "|")) position hand → ⊥
third_position_none position hand numbers =
    let below = numbers.position_below in
    let two : ◌≡◌ {A = ℕ} 2 position = value position (codes "2") (omega arith) numbers.position_text in
    omega arith

hand_10000_none : (position hand : ℕ) → AreNumbers limit_pair (fields_with (codes "0") (codes "10000") [] (codes "TdAs|")) position hand → ⊥
hand_10000_none position hand numbers =
    let most = numbers.hand_most in
    let above : ◌≡◌ {A = ℕ} 10000 hand = value hand (codes "10000") (omega arith) numbers.hand_text in
    omega arith

leading_zero_none : (position hand : ℕ) → AreNumbers limit_pair (fields_with (codes "0") (codes "01") [] (codes "TdAs|")) position hand → ⊥
unfolding opened
leading_zero_none position hand numbers =
    let most = numbers.hand_most in
    let one : ◌≡◌ {A = ℕ} 1 hand = value hand (codes "01") (omega arith) numbers.hand_text in
    let short : codes "01" ≡ decimal 1 = numbers.hand_text ∙ ap decimal (sym one) in
    cc

empty_hand_none : (position hand : ℕ) → AreNumbers limit_pair (fields_with (codes "0") [] [] (codes "TdAs|")) position hand → ⊥
unfolding opened
empty_hand_none position hand numbers =
    let most = numbers.hand_most in
    let none : ◌≡◌ {A = ℕ} 0 hand = value hand [] (omega arith) numbers.hand_text in
    let short : [] ≡ decimal 0 = numbers.hand_text ∙ ap decimal (sym none) in
    cc

-- a position that the game hasn't is told before a betting text that isn't one
third_position_reads : ReadsAs limit_pair (codes "MATCHSTATE:2:0:c/:|") (Err BadNumber)
third_position_reads = (
  fields_with (codes "2") (codes "0") (codes "c/") (codes "|"),
  has_fields (codes "2") (codes "0") (codes "c/") (codes "|") refl refl refl refl,
  third_position_none,
)

third_position_first : ReadsAs limit_pair (codes "MATCHSTATE:2:0:c/:|") (Err BadBetting) → ⊥
third_position_first reads =
    let fields = same_fields (codes "MATCHSTATE:2:0:c/:|") reads.0 (fields_with (codes "2") (codes "0") (codes "c/") (codes "|")) reads.1
    (has_fields (codes "2") (codes "0") (codes "c/") (codes "|") refl refl refl refl) in
    third_position_none reads.2.0 reads.2.1 (subst (λ f. AreNumbers limit_pair f reads.2.0 reads.2.1) fields reads.2.2)

hand_10000_reads : ReadsAs limit_pair (codes "MATCHSTATE:0:10000::TdAs|") (Err BadNumber)
hand_10000_reads = (
  fields_with (codes "0") (codes "10000") [] (codes "TdAs|"),
  has_fields (codes "0") (codes "10000") [] (codes "TdAs|") refl refl refl refl,
  hand_10000_none,
)

leading_zero_reads : ReadsAs limit_pair (codes "MATCHSTATE:0:01::TdAs|") (Err BadNumber)
leading_zero_reads = (
  fields_with (codes "0") (codes "01") [] (codes "TdAs|"),
  has_fields (codes "0") (codes "01") [] (codes "TdAs|") refl refl refl refl,
  leading_zero_none,
)

-- ---- betting texts

abbrev pub flop_past : List Action
flop_past = Call ∷ Raise 40 ∷ Raise 30 ∷ Raise 20 ∷ []

flop_legal : Legal limit_pair flop_past
unfolding opened
flop_legal = (
  (
    (
      (tt, none-can_act limit_pair (turns limit_pair []) (Raise 20) refl),
      none-can_act limit_pair (turns limit_pair (Raise 20 ∷ [])) (Raise 30) refl,
    ),
    none-can_act limit_pair (turns limit_pair (Raise 30 ∷ Raise 20 ∷ [])) (Raise 40) refl,
  ),
  none-can_act limit_pair (turns limit_pair (Raise 40 ∷ Raise 30 ∷ Raise 20 ∷ [])) Call refl,
)

flop_betting : IsBetting limit_pair flop_fields flop_past
unfolding opened
flop_betting = record { betting_text = refl; legal = flop_legal }

-- a betting text goes on with an action's letter
no_letter : (game : Game) (past : List Action) (byte : ℕ) (rest : List ℕ) (whole : List Action) → Behind game past (byte ∷ rest) whole → Legal game whole → byte ≢ 102 → byte ≢ 99 → byte ≢ 114 → ⊥
no_letter game past byte rest whole behind legal fold call raise =
    let next = next_behind game past (byte ∷ rest) whole behind legal (omega arith) in
    by_action next.action (ap (λ t. get_or t 0 0) next.begins.text_is ∙ letter_is game next.action (slashes_after game past next.action ++ next.behind))
  where
    by_action : (action : Action) → byte ≡ letter action → ⊥
    by_action Fold is = fold is
    by_action Call is = call is
    by_action (Raise amount) is = raise is

-- a c is a call
record Called (game : Game) (past : List Action) (rest : List ℕ) (whole : List Action) : Type 0 where
  behind : List ℕ
  rest_is : rest ≡ slashes_after game past Call ++ behind
  others : Behind game (Call ∷ past) behind whole

called : (game : Game) (past : List Action) (rest : List ℕ) (whole : List Action) → Behind game past (99 ∷ rest) whole → Legal game whole → Called game past rest whole
unfolding action_text
called game past rest whole behind legal =
    let next = next_behind game past (99 ∷ rest) whole behind legal (omega arith) in
    let is_call = by_action next.action (ap (λ t. get_or t 0 0) next.begins.text_is ∙ letter_is game next.action (slashes_after game past next.action ++ next.behind)) in
    let text_is : 99 ∷ rest ≡ 99 ∷ (slashes_after game past Call ++ next.behind) =
    next.begins.text_is ∙ ap (λ a. action_text game a ++ (slashes_after game past a ++ next.behind)) is_call in
    record { behind = next.behind; rest_is = cc; others = subst (λ a. Behind game (a ∷ past) next.behind whole) is_call next.others }
  where
    by_action : (action : Action) → 99 ≡ letter action → action ≡ Call
    by_action Fold is = absurd (omega arith)
    by_action Call is = refl
    by_action (Raise amount) is = absurd (omega arith)

-- a slash behind a round that goes on
slash_too_early : (past : List Action) → IsBetting limit_pair (fields_with (codes "1") (codes "0") (codes "c/") (codes "|8hTc/2c8c3h")) past → ⊥
unfolding opened
slash_too_early past betting =
    let first = called limit_pair [] (codes "/") past (behind_all limit_pair past (codes "c/") betting.betting_text) betting.legal in
    let rest : codes "/" ≡ first.behind = first.rest_is in
    no_letter limit_pair (Call ∷ []) 47 [] past (subst (λ b. Behind limit_pair (Call ∷ []) b past) (sym rest) first.others) betting.legal (omega arith) (omega arith) (omega arith)

pub slash_too_early_reads : ReadsAs limit_pair (codes "MATCHSTATE:1:0:c/:|8hTc/2c8c3h") (Err BadBetting)
unfolding opened
slash_too_early_reads = (
  fields_with (codes "1") (codes "0") (codes "c/") (codes "|8hTc/2c8c3h"),
  has_fields (codes "1") (codes "0") (codes "c/") (codes "|8hTc/2c8c3h") refl refl refl refl,
  (1, 0, record { position_text = refl; position_below = omega arith; hand_text = refl; hand_most = omega arith }),
  slash_too_early,
)

-- no slash behind a round that has ended
slash_missing : (past : List Action) → IsBetting limit_pair (fields_with (codes "0") (codes "0") (codes "cc") (codes "TdAs|/2c8c3h")) past → ⊥
unfolding opened
slash_missing past betting =
    let first = called limit_pair [] (codes "c") past (behind_all limit_pair past (codes "cc") betting.betting_text) betting.legal in
    let rest : codes "c" ≡ first.behind = first.rest_is in
    let second = called limit_pair (Call ∷ []) [] past (subst (λ b. Behind limit_pair (Call ∷ []) b past) (sym rest) first.others) betting.legal in
    let slash : [] ≡ 47 ∷ second.behind = second.rest_is in
    cc

slash_missing_reads : ReadsAs limit_pair (codes "MATCHSTATE:0:0:cc:TdAs|/2c8c3h") (Err BadBetting)
unfolding opened
slash_missing_reads = (
  fields_with (codes "0") (codes "0") (codes "cc") (codes "TdAs|/2c8c3h"),
  has_fields (codes "0") (codes "0") (codes "cc") (codes "TdAs|/2c8c3h") refl refl refl refl,
  (0, 0, record { position_text = refl; position_below = omega arith; hand_text = refl; hand_most = omega arith }),
  slash_missing,
)

-- a leading zero of an amount
zero_before_amount : (past : List Action) → IsBetting no_limit_pair (fields_with (codes "0") (codes "0") (codes "r0200") (codes "TdAs|")) past → ⊥
unfolding opened
zero_before_amount past betting =
    let next = next_behind no_limit_pair [] (codes "r0200") past (behind_all no_limit_pair past (codes "r0200") betting.betting_text) betting.legal (omega arith) in
    let cut = cut_word no_limit_pair [] (codes "r0200") next.action next.behind 5 no_limit_pair_game next.begins next.no_digit refl in
    by_action next.action next.begins.can cut.0
  where
    by_action : (action : Action) → CanAct no_limit_pair (turns no_limit_pair []) action → codes "r0200" ≡ action_text no_limit_pair action → ⊥
    by_action Fold can is = cc
    by_action Call can is = cc
    by_action (Raise amount) can is =
        let small = raise_fits no_limit_pair (turns no_limit_pair []) amount no_limit_pair_game can in
        let digits_are : codes "0200" ≡ decimal amount = cc in
        let amount_is : ◌≡◌ {A = ℕ} 200 amount = ap (digits_value 10) digits_are ∙ (decimal_is_IsNumeral amount (omega arith)).1 in
        let short : codes "0200" ≡ decimal 200 = digits_are ∙ ap decimal (sym amount_is) in
        cc

zero_before_amount_reads : ReadsAs no_limit_pair (codes "MATCHSTATE:0:0:r0200:TdAs|") (Err BadBetting)
unfolding opened
zero_before_amount_reads = (
  fields_with (codes "0") (codes "0") (codes "r0200") (codes "TdAs|"),
  has_fields (codes "0") (codes "0") (codes "r0200") (codes "TdAs|") refl refl refl refl,
  (0, 0, record { position_text = refl; position_below = omega arith; hand_text = refl; hand_most = omega arith }),
  zero_before_amount,
)

-- lists of actions that aren't legal may share a text
illegal_raises_share_a_text : text limit_pair (Raise 20 ∷ []) ≡ text limit_pair (Raise 30 ∷ [])
unfolding opened
illegal_raises_share_a_text = refl

-- ---- cards

-- without the places one field may stand for two lists, and so may numbers that are no cards
nobody_and_nobody_seen : cards_field [] [] ≡ cards_field ([] ∷ []) []
nobody_and_nobody_seen = refl

no_cards_share_a_text : cards_text (52 ∷ []) ≡ cards_text (56 ∷ [])
no_cards_share_a_text = refl

flop_cards : AreCards limit_pair flop_fields 0 flop_past ((33 ∷ 51 ∷ []) ∷ [] ∷ []) ((0 ∷ 24 ∷ 6 ∷ []) ∷ [])
unfolding opened
flop_cards = record { cards_text = refl; seen = (first_deal, record { dealt = first_deal_dealt; hole_cards = refl; board_cards = refl }) }

no_bar : (card : ℕ) → card < 52 → 124 ≢ rank_letter (rank_of card)
no_bar card below bar =
    false≢true (sym (agree_below_at (λ c. eqb (rank_letter (rank_of c)) 124) (λ _. false) 52 card refl below) ∙ ap (λ r. eqb r 124) (sym bar))

-- the field of a position that is seen begins with a card
bar_in_front : (holes boards : List (List ℕ)) → map length holes ≡ 2 ∷ 0 ∷ [] → AllOfPack (all_cards holes boards) → codes "|8hTc" ≡ cards_field holes boards → ⊥
bar_in_front [] boards counts pack is = cc
bar_in_front ([] ∷ holes) boards counts pack is = cc
bar_in_front ((card ∷ cards) ∷ holes) boards counts pack is =
    let bar : 124 ≡ rank_letter (rank_of card) = cc in
    no_bar card pack.0 bar

other_hole_cards : (holes boards : List (List ℕ)) → AreCards limit_pair (fields_with (codes "0") (codes "0") [] (codes "|8hTc")) 0 [] holes boards → ⊥
unfolding opened
other_hole_cards holes boards cards =
    let place = place_from_seen 2 (sees limit_pair [] 0) 0 holes boards cards.seen.0 cards.seen.1 in
    bar_in_front holes boards place.hole_counts place.pack cards.cards_text

other_hole_cards_read : ReadsAs limit_pair (codes "MATCHSTATE:0:0::|8hTc") (Err BadCards)
unfolding opened
other_hole_cards_read = (
  fields_with (codes "0") (codes "0") [] (codes "|8hTc"),
  has_fields (codes "0") (codes "0") [] (codes "|8hTc") refl refl refl refl,
  (
    0,
    0,
    record { position_text = refl; position_below = omega arith; hand_text = refl; hand_most = omega arith },
    ([], record { betting_text = refl; legal = tt }, other_hole_cards),
  ),
)

-- ---- views and lines

abbrev pub flop_view : View
flop_view = record { game = limit_pair; position = 0; hand = 0; past = flop_past; holes = (33 ∷ 51 ∷ []) ∷ [] ∷ []; boards = (0 ∷ 24 ∷ 6 ∷ []) ∷ [] }

flop_is_view : IsView flop_view
flop_is_view = record { seated = omega arith; numbered = omega arith; legal = flop_legal; seen = flop_cards.seen }

view_of_hand_10000_none : IsView (record flop_view { hand = 10000 }) → ⊥
view_of_hand_10000_none sight = let most = sight.numbered in omega arith

view_of_third_position_none : IsView (record flop_view { position = 2 }) → ⊥
view_of_third_position_none sight = let below = sight.seated in omega arith

-- the other's cards before a showdown
view_of_other_cards_none : IsView (record flop_view { holes = (33 ∷ 51 ∷ []) ∷ (26 ∷ 32 ∷ []) ∷ [] }) → ⊥
unfolding opened
view_of_other_cards_none sight =
    let place = place_from_seen 2 (sees limit_pair flop_past 0) 1 ((33 ∷ 51 ∷ []) ∷ (26 ∷ 32 ∷ []) ∷ []) ((0 ∷ 24 ∷ 6 ∷ []) ∷ []) sight.seen.0 sight.seen.1 in
    let counts : ◌≡◌ {A = ℕ} 2 0 = ap (λ c. get_or c 1 0) place.hole_counts in
    absurd (omega arith)

-- a fold that faces nothing
view_of_needless_fold_none : IsView (record flop_view { past = Fold ∷ Call ∷ [] }) → ⊥
unfolding opened
view_of_needless_fold_none sight =
    let wrong : Some FoldNotFacing ≡ None = can_act-none limit_pair (turns limit_pair (Call ∷ [])) Fold sight.legal.1 in
    cc

pub flop_line : IsLine limit_pair (codes "MATCHSTATE:0:0:rrrc/:TdAs|/2c8c3h") flop_view
flop_line =
    record {
      fields = flop_fields;
      has_fields = flop_has_fields;
      same_game = refl;
      numbers = flop_numbers;
      betting = flop_betting;
      cards = flop_cards;
    }

flop_reads : ReadsAs limit_pair (codes "MATCHSTATE:0:0:rrrc/:TdAs|/2c8c3h") (Ok flop_view)
flop_reads = flop_line

-- it reads as nothing else
flop_has_no_fault : ReadsAs limit_pair (codes "MATCHSTATE:0:0:rrrc/:TdAs|/2c8c3h") (Err BadCards) → ⊥
unfolding opened
flop_has_no_fault reads =
    let same : ◌≡◌ {A = Result View LineFault} (Err BadCards) (Ok flop_view) = texts_read_back flop_view (Err BadCards) limit_pair_game flop_is_view reads in
    cc

flop_line_of_other_position_none : IsLine limit_pair (codes "MATCHSTATE:0:0:rrrc/:TdAs|/2c8c3h") (record flop_view { position = 1 }) → ⊥
unfolding opened
flop_line_of_other_position_none line =
    let same = (lines_are_texts limit_pair (codes "MATCHSTATE:0:0:rrrc/:TdAs|/2c8c3h") (record flop_view { position = 1 }) line).1 in
    cc

-- ---- actions' texts

-- r is the one raise that is allowed
limit_raise_of_another_size : IsActionText limit_pair [] (codes "r") (Raise 30) → ⊥
unfolding opened
limit_raise_of_another_size text = elim text.1 [
  | inl can ↦ let wrong : Some (RaiseTooLarge 20) ≡ None = can_act-none limit_pair [] (Raise 30) can in cc
  | inr none ↦ let zero_amount : ◌≡◌ {A = ℕ} 30 0 = none.0 in absurd (omega arith)
]

limit_raise_with_amount : IsActionText limit_pair [] (codes "r20") (Raise 20) → ⊥
limit_raise_with_amount text = let letters : codes "r20" ≡ codes "r" = text.0 in cc

-- where no raise is allowed r is a raise to 0
abbrev three_raises : List Action
three_raises = Raise 40 ∷ Raise 30 ∷ Raise 20 ∷ []

fourth_raise_reads : IsActionText limit_pair (turns limit_pair three_raises) (codes "r") (Raise 0)
unfolding opened
fourth_raise_reads = (refl, inr (refl, λ other can. let wrong : Some TooManyRaises ≡ None = can_act-none limit_pair (turns limit_pair three_raises) (Raise other) can in cc))

fourth_raise_of_its_size : IsActionText limit_pair (turns limit_pair three_raises) (codes "r") (Raise 50) → ⊥
unfolding opened
fourth_raise_of_its_size text = elim text.1 [
  | inl can ↦ let wrong : Some TooManyRaises ≡ None = can_act-none limit_pair (turns limit_pair three_raises) (Raise 50) can in cc
  | inr none ↦ let zero_amount : ◌≡◌ {A = ℕ} 50 0 = none.0 in absurd (omega arith)
]
