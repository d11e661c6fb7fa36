-- A view has one line, and a line says one view.
use Rattle.std.proofs.Common.{◌≡◌, ℕ, ◌<◌, List, Ok, Err, decimal, codes, refl, sym, ap, ◌∙◌, subst, arith}
use Rattle.std.proofs.lemmas.Fmt.{decimal_injective}
use Rattle.std.proofs.lemmas.List.{append_cancel_left}
use Rattle.game_def.specs.Game.{Game, IsGame}
use Rattle.betting.specs.declared.action.Action.{Action}
use Rattle.betting.specs.Legal.{Legal}
use Rattle.betting.specs.Text.{text}
use Rattle.matchstate.specs.Cards.{cards_field, AreSeen}
use Rattle.matchstate.specs.View.{View, IsView, sees, rounds_seen}
use Rattle.matchstate.specs.Line.{Fields, joined, HasFields, AreNumbers, IsBetting, AreCards, IsLine, line_text, ReadsAs}
use Rattle.matchstate.specs.declared.line_fault.LineFault.{LineFault}
use Rattle.matchstate.specs.declared.line_fault.LineFault.TheVariants.{NotMatchstate, BadNumber, BadBetting, BadCards, BadAction}
use Rattle.matchstate.proofs.Fronts.{cut_alike}
use Rattle.matchstate.proofs.Seen.{place_from_seen}
use Rattle.matchstate.specs.OneLine.{TextsAreLines, LinesAreTexts, LinesSayOneView, TextsReadBack}
use Rattle.matchstate.specs.OneReading.{LinesReadOneWay}
use Rattle.matchstate.proofs.OneField.{seen_fields_are_one_to_one}
use Rattle.matchstate.proofs.OneBetting.{betting_texts_are_one_to_one}
use Rattle.matchstate.proofs.NoColon.{no_colon_in_decimal, no_colon_in_text, no_colon_in_field}

-- ---- a text has its fields in one way

abbrev pub fields_with : List ℕ → List ℕ → List ℕ → List ℕ → Fields
fields_with position hand betting cards = record { position = position; hand = hand; betting = betting; cards = cards }

pub same_fields : (bytes : List ℕ) (fields others : Fields) → HasFields bytes fields → HasFields bytes others → fields ≡ others
same_fields bytes fields others has have =
    let whole = append_cancel_left (codes "MATCHSTATE:") _ _ (sym has.whole ∙ have.whole) in
    let position = cut_alike 58 fields.position others.position _ _ has.position_field have.position_field whole in
    let hand = cut_alike 58 fields.hand others.hand _ _ has.hand_field have.hand_field position.1 in
    let betting = cut_alike 58 fields.betting others.betting _ _ has.betting_field have.betting_field hand.1 in
    ap (λ x. fields_with x fields.hand fields.betting fields.cards) position.0
    ∙ ap (λ x. fields_with others.position x fields.betting fields.cards) hand.0
    ∙ ap (λ x. fields_with others.position others.hand x fields.cards) betting.0
    ∙ ap (λ x. fields_with others.position others.hand others.betting x) betting.1

-- ---- fields say one thing

same_position : (game : Game) (fields : Fields) (position hand other number : ℕ) → IsGame game → AreNumbers game fields position hand → AreNumbers game fields other number → position ≡ other
same_position game fields position hand other number is are be =
    let few = is.most_players in
    let below = are.position_below in
    let within = be.position_below in
    decimal_injective position other (omega arith) (omega arith) (sym are.position_text ∙ be.position_text)

same_hand : (game : Game) (fields : Fields) (position hand other number : ℕ) → AreNumbers game fields position hand → AreNumbers game fields other number → hand ≡ number
same_hand game fields position hand other number are be =
    let most = are.hand_most in
    let last = be.hand_most in
    decimal_injective hand number (omega arith) (omega arith) (sym are.hand_text ∙ be.hand_text)

same_past : (game : Game) (fields : Fields) (past taken : List Action) → IsGame game → IsBetting game fields past → IsBetting game fields taken → past ≡ taken
same_past game fields past taken is betting play =
    betting_texts_are_one_to_one game past taken is betting.legal play.legal (sym betting.betting_text ∙ play.betting_text)

-- ---- the text of a view is a line that says it

abbrev view_fields : View → Fields
view_fields view = fields_with (decimal view.position) (decimal view.hand) (text view.game view.past) (cards_field view.holes view.boards)

text_has_fields : (view : View) → IsGame view.game → IsView view → HasFields (line_text view) (view_fields view)
text_has_fields view is sight =
    let few = is.most_players in
    let seated = sight.seated in
    let numbered = sight.numbered in
    let place = place_from_seen view.game.players (sees view.game view.past view.position) (rounds_seen view.game view.past) view.holes view.boards sight.seen.0 sight.seen.1 in
    record {
      whole = refl;
      position_field = no_colon_in_decimal view.position (omega arith);
      hand_field = no_colon_in_decimal view.hand (omega arith);
      betting_field = no_colon_in_text view.game view.past is sight.legal;
      cards_field = no_colon_in_field view.holes view.boards place.pack;
    }

numbers_of_view : (view : View) → IsView view → AreNumbers view.game (view_fields view) view.position view.hand
numbers_of_view view sight = record { position_text = refl; position_below = sight.seated; hand_text = refl; hand_most = sight.numbered }

betting_of_view : (view : View) → IsView view → IsBetting view.game (view_fields view) view.past
betting_of_view view sight = record { betting_text = refl; legal = sight.legal }

cards_of_view : (view : View) → IsView view → AreCards view.game (view_fields view) view.position view.past view.holes view.boards
cards_of_view view sight = record { cards_text = refl; seen = sight.seen }

pub texts_are_lines : TextsAreLines
texts_are_lines view is sight =
    record {
      fields = view_fields view;
      has_fields = text_has_fields view is sight;
      same_game = refl;
      numbers = numbers_of_view view sight;
      betting = betting_of_view view sight;
      cards = cards_of_view view sight;
    }

-- ---- what a line says some viewer could see, and the line is its text

line_is_view : (game : Game) (bytes : List ℕ) (view : View) → IsLine game bytes view → IsView view
line_is_view game bytes view line =
    let own = sym line.same_game in
    record {
      seated = subst (λ (g : Game). view.position < g.players) own line.numbers.position_below;
      numbered = line.numbers.hand_most;
      legal = subst (λ (g : Game). Legal g view.past) own line.betting.legal;
      seen = subst (λ (g : Game). AreSeen g.players (sees g view.past view.position) (rounds_seen g view.past) view.holes view.boards) own line.cards.seen;
    }

pub line_is_text : (game : Game) (bytes : List ℕ) (view : View) → IsLine game bytes view → bytes ≡ line_text view
line_is_text game bytes view line =
    line.has_fields.whole
    ∙ ap (λ x. joined (fields_with x line.fields.hand line.fields.betting line.fields.cards)) line.numbers.position_text
    ∙ ap (λ x. joined (fields_with (decimal view.position) x line.fields.betting line.fields.cards)) line.numbers.hand_text
    ∙ ap (λ x. joined (fields_with (decimal view.position) (decimal view.hand) x line.fields.cards)) (line.betting.betting_text ∙ ap (λ g. text g view.past) (sym line.same_game))
    ∙ ap (λ x. joined (fields_with (decimal view.position) (decimal view.hand) (text view.game view.past) x)) line.cards.cards_text

pub lines_are_texts : LinesAreTexts
lines_are_texts game bytes view line = (line_is_view game bytes view line, line_is_text game bytes view line)

-- ---- a line says one view

abbrev view_with : Game → ℕ → ℕ → List Action → List (List ℕ) → List (List ℕ) → View
view_with game position hand past holes boards = record { game = game; position = position; hand = hand; past = past; holes = holes; boards = boards }

same_view : (first second : View) → first.game ≡ second.game → first.position ≡ second.position → first.hand ≡ second.hand → first.past ≡ second.past → first.holes ≡ second.holes → first.boards ≡ second.boards → first ≡ second
same_view first second game position hand past holes boards =
    ap (λ x. view_with x first.position first.hand first.past first.holes first.boards) game
    ∙ ap (λ x. view_with second.game x first.hand first.past first.holes first.boards) position
    ∙ ap (λ x. view_with second.game second.position x first.past first.holes first.boards) hand
    ∙ ap (λ x. view_with second.game second.position second.hand x first.holes first.boards) past
    ∙ ap (λ x. view_with second.game second.position second.hand second.past x first.boards) holes
    ∙ ap (λ x. view_with second.game second.position second.hand second.past second.holes x) boards

pub lines_say_one_view : LinesSayOneView
lines_say_one_view game bytes first second is line other =
    let fields = same_fields bytes line.fields other.fields line.has_fields other.has_fields in
    let numbers = subst (λ f. AreNumbers game f second.position second.hand) (sym fields) other.numbers in
    let betting = subst (λ f. IsBetting game f second.past) (sym fields) other.betting in
    let position = same_position game line.fields first.position first.hand second.position second.hand is line.numbers numbers in
    let hand = same_hand game line.fields first.position first.hand second.position second.hand line.numbers numbers in
    let past = same_past game line.fields first.past second.past is line.betting betting in
    let seen : AreSeen game.players (sees game first.past first.position) (rounds_seen game first.past) second.holes second.boards =
    subst (λ p. AreSeen game.players (sees game first.past p) (rounds_seen game first.past) second.holes second.boards) (sym position)
    (subst (λ t. AreSeen game.players (sees game t second.position) (rounds_seen game t) second.holes second.boards) (sym past) other.cards.seen) in
    let one : cards_field first.holes first.boards ≡ cards_field second.holes second.boards =
    sym line.cards.cards_text ∙ ap (λ (f : Fields). f.cards) fields ∙ other.cards.cards_text in
    let cards = seen_fields_are_one_to_one game.players (sees game first.past first.position) (rounds_seen game first.past) first.holes first.boards second.holes second.boards line.cards.seen seen one in
    same_view first second (line.same_game ∙ sym other.same_game) position hand past cards.0 cards.1

-- ---- a text reads as a line in one way

clash_of_fields : (game : Game) (bytes : List ℕ) (fields : Fields) → ReadsAs game bytes (Err NotMatchstate) → HasFields bytes fields → ⊥
clash_of_fields game bytes fields none has = none fields has

clash_of_numbers : (game : Game) (bytes : List ℕ) (fields : Fields) (position hand : ℕ) → ReadsAs game bytes (Err BadNumber) → HasFields bytes fields → AreNumbers game fields position hand → ⊥
clash_of_numbers game bytes fields position hand reads has numbers =
    let same = same_fields bytes fields reads.0 has reads.1 in
    reads.2 position hand (subst (λ f. AreNumbers game f position hand) same numbers)

clash_of_betting : (game : Game) (bytes : List ℕ) (fields : Fields) (past : List Action) → ReadsAs game bytes (Err BadBetting) → HasFields bytes fields → IsBetting game fields past → ⊥
clash_of_betting game bytes fields past reads has betting =
    let same = same_fields bytes fields reads.0 has reads.1 in
    reads.3 past (subst (λ f. IsBetting game f past) same betting)

clash_of_cards : (game : Game) (bytes : List ℕ) (view : View) → IsGame game → ReadsAs game bytes (Err BadCards) → IsLine game bytes view → ⊥
clash_of_cards game bytes view is reads line =
    let found = reads.2 in
    let fields = same_fields bytes line.fields reads.0 line.has_fields reads.1 in
    let numbers = subst (λ f. AreNumbers game f view.position view.hand) fields line.numbers in
    let betting = subst (λ f. IsBetting game f view.past) fields line.betting in
    let cards = subst (λ f. AreCards game f view.position view.past view.holes view.boards) fields line.cards in
    let position = same_position game reads.0 view.position view.hand found.0 found.1 is numbers found.2 in
    let past = same_past game reads.0 view.past found.3.0 is betting found.3.1 in
    found.3.2 view.holes view.boards
    (subst (λ p. AreCards game reads.0 p found.3.0 view.holes view.boards) position
    (subst (λ t. AreCards game reads.0 view.position t view.holes view.boards) past cards))

-- a line has no fault
no_fault_of_line : (game : Game) (bytes : List ℕ) (view : View) (fault : LineFault) → IsGame game → IsLine game bytes view → ReadsAs game bytes (Err fault) → ⊥
no_fault_of_line game bytes view NotMatchstate is line reads = clash_of_fields game bytes line.fields reads line.has_fields
no_fault_of_line game bytes view BadNumber is line reads = clash_of_numbers game bytes line.fields view.position view.hand reads line.has_fields line.numbers
no_fault_of_line game bytes view BadBetting is line reads = clash_of_betting game bytes line.fields view.past reads line.has_fields line.betting
no_fault_of_line game bytes view BadCards is line reads = clash_of_cards game bytes view is reads line
no_fault_of_line game bytes view BadAction is line reads = reads

-- a text has one fault
one_fault : (game : Game) (bytes : List ℕ) (fault other : LineFault) → ReadsAs game bytes (Err fault) → ReadsAs game bytes (Err other) → fault ≡ other
one_fault game bytes NotMatchstate NotMatchstate a b = refl
one_fault game bytes NotMatchstate BadNumber a b = absurd (clash_of_fields game bytes b.0 a b.1)
one_fault game bytes NotMatchstate BadBetting a b = absurd (clash_of_fields game bytes b.0 a b.1)
one_fault game bytes NotMatchstate BadCards a b = absurd (clash_of_fields game bytes b.0 a b.1)
one_fault game bytes BadNumber NotMatchstate a b = absurd (clash_of_fields game bytes a.0 b a.1)
one_fault game bytes BadNumber BadNumber a b = refl
one_fault game bytes BadNumber BadBetting a b = absurd (clash_of_numbers game bytes b.0 b.2.0 b.2.1 a b.1 b.2.2)
one_fault game bytes BadNumber BadCards a b = absurd (clash_of_numbers game bytes b.0 b.2.0 b.2.1 a b.1 b.2.2)
one_fault game bytes BadBetting NotMatchstate a b = absurd (clash_of_fields game bytes a.0 b a.1)
one_fault game bytes BadBetting BadNumber a b = absurd (clash_of_numbers game bytes a.0 a.2.0 a.2.1 b a.1 a.2.2)
one_fault game bytes BadBetting BadBetting a b = refl
one_fault game bytes BadBetting BadCards a b = absurd (clash_of_betting game bytes b.0 b.2.3.0 a b.1 b.2.3.1)
one_fault game bytes BadCards NotMatchstate a b = absurd (clash_of_fields game bytes a.0 b a.1)
one_fault game bytes BadCards BadNumber a b = absurd (clash_of_numbers game bytes a.0 a.2.0 a.2.1 b a.1 a.2.2)
one_fault game bytes BadCards BadBetting a b = absurd (clash_of_betting game bytes a.0 a.2.3.0 b a.1 a.2.3.1)
one_fault game bytes BadCards BadCards a b = refl
one_fault game bytes fault BadAction a b = absurd b
one_fault game bytes BadAction other a b = absurd a

pub lines_read_one_way : LinesReadOneWay
lines_read_one_way game bytes (Ok view) (Ok other) is a b = ap Ok (lines_say_one_view game bytes view other is a b)
lines_read_one_way game bytes (Ok view) (Err fault) is a b = absurd (no_fault_of_line game bytes view fault is a b)
lines_read_one_way game bytes (Err fault) (Ok view) is a b = absurd (no_fault_of_line game bytes view fault is b a)
lines_read_one_way game bytes (Err fault) (Err other) is a b = ap Err (one_fault game bytes fault other a b)

-- ---- whatever the text of a view reads as is that view

pub texts_read_back : TextsReadBack
texts_read_back view result is sight reads = lines_read_one_way view.game (line_text view) result (Ok view) is reads (texts_are_lines view is sight)
