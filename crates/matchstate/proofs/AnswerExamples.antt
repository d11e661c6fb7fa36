-- Worked answers that pin what a text reads as.
use Rattle.std.proofs.Common.{◌≡◌, ◌≢◌, ℕ, ◌+◌, cond, eqb, List, [], ◌∷◌, ◌++◌, Ok, Err, get_or, length, refl, sym, ap, ◌∙◌, subst, arith, inl, inr}
use Rattle.std.specs.Prelude.{codes}
use Rattle.std.proofs.lemmas.Bool.Decides.{eqb_tells}
use Rattle.game_def.specs.Game.{Game}
use Rattle.betting.specs.declared.action.Action.{Action}
use Rattle.betting.specs.declared.action.Action.TheVariants.{Fold, Call, Raise}
use Rattle.matchstate.specs.View.{View, view_of}
use Rattle.matchstate.specs.Line.{Fields, HasFields, IsField, IsLine}
use Rattle.matchstate.specs.Answer.{IsCut, SaysAction, AnswerReadsAs}
use Rattle.matchstate.specs.declared.line_fault.LineFault.TheVariants.{NotMatchstate, BadAction}
use Rattle.matchstate.proofs.Counts.{count_of, count_of-append}
use Rattle.matchstate.proofs.LastField.{same_cut}
use Rattle.matchstate.proofs.LineExamples.{count_from_field}
use Rattle.matchstate.proofs.Examples.{opened, limit_pair, first_deal, played, first_deal_dealt}

-- ---- counting colons

colon_first : (bytes : List ℕ) → cond (eqb 58 58) 1 0 + count_of 58 bytes ≡ 1 + count_of 58 bytes
colon_first bytes = refl

field_from_count : (bytes : List ℕ) → count_of 58 bytes ≡ 0 → IsField bytes
field_from_count [] none = tt
field_from_count (byte ∷ bytes) none =
    elim (eqb_tells byte 58) [
      | inl same ↦ absurd (let one : 1 + count_of 58 bytes ≡ 0 = rw same.0 at none in omega arith)
      | inr apart ↦ (apart.1, field_from_count bytes (let rest : 0 + count_of 58 bytes ≡ 0 = rw apart.0 at none in omega arith))
    ]

behind_colon : (field rest : List ℕ) → IsField field → count_of 58 (field ++ 58 ∷ rest) ≡ 1 + count_of 58 rest
behind_colon field rest is = omega (arith, count_of-append 58 field (58 ∷ rest), count_from_field field is, colon_first rest)

-- the word and four fields have four colons, and an answer one more
five_colons : (bytes line field : List ℕ) (fields : Fields) → IsCut bytes line field → HasFields line fields → count_of 58 bytes ≡ 5
five_colons bytes line field fields cut has =
    let cards = count_from_field fields.cards has.cards_field in
    let betting = behind_colon fields.betting fields.cards has.betting_field in
    let hand = behind_colon fields.hand (fields.betting ++ 58 ∷ fields.cards) has.hand_field in
    let position = behind_colon fields.position (fields.hand ++ 58 ∷ (fields.betting ++ 58 ∷ fields.cards)) has.position_field in
    let four : count_of 58 line ≡ 4 = ap (count_of 58) has.whole ∙ omega arith in
    omega (arith, ap (count_of 58) cut.whole, count_of-append 58 line (58 ∷ field), count_from_field field cut.last, colon_first field)

no_answer : (game : Game) (bytes : List ℕ) → (count_of 58 bytes ≢ 5) → AnswerReadsAs game bytes (Err NotMatchstate)
no_answer game bytes other = λ line field fields cut has. other (five_colons bytes line field fields cut has)

hello : AnswerReadsAs limit_pair (codes "HELLO") (Err NotMatchstate)
hello = no_answer limit_pair (codes "HELLO") (λ e. omega arith)

line_alone : AnswerReadsAs limit_pair (codes "MATCHSTATE:1:0::|8hTc") (Err NotMatchstate)
line_alone = no_answer limit_pair (codes "MATCHSTATE:1:0::|8hTc") (λ e. omega arith)

a_field_too_many : AnswerReadsAs limit_pair (codes "MATCHSTATE:1:0::|8hTc:c:c") (Err NotMatchstate)
a_field_too_many = no_answer limit_pair (codes "MATCHSTATE:1:0::|8hTc:c:c") (λ e. omega arith)

-- ---- an answer, and two whose last field is no action's text

own_view : View
unfolding opened
own_view = view_of limit_pair 1 0 (played first_deal [])

own_line : IsLine limit_pair (codes "MATCHSTATE:1:0::|8hTc") own_view
unfolding opened own_view
own_line =
    record {
      fields = record { position = codes "1"; hand = codes "0"; betting = []; cards = codes "|8hTc" };
      has_fields = record {
        whole = refl;
        position_field = field_from_count (codes "1") refl;
        hand_field = field_from_count (codes "0") refl;
        betting_field = tt;
        cards_field = field_from_count (codes "|8hTc") refl;
      };
      same_game = refl;
      numbers = record { position_text = refl; position_below = omega arith; hand_text = refl; hand_most = omega arith };
      betting = record { betting_text = refl; legal = tt };
      cards = record { cards_text = refl; seen = (first_deal, record { dealt = first_deal_dealt; hole_cards = refl; board_cards = refl }) };
    }

a_call : AnswerReadsAs limit_pair (codes "MATCHSTATE:1:0::|8hTc:c") (Ok (own_view, Call))
unfolding opened own_view
a_call =
    record {
      line = codes "MATCHSTATE:1:0::|8hTc";
      field = codes "c";
      cut = record { whole = refl; last = field_from_count (codes "c") refl };
      line_is = own_line;
      action_is = refl;
    }

other_letter : (text other : List ℕ) → get_or text 0 0 ≢ get_or other 0 0 → text ≢ other
other_letter text other apart same = apart (ap (λ letters. get_or letters 0 0) same)

other_length : (text other : List ℕ) → length text ≢ length other → text ≢ other
other_length text other apart same = apart (ap length same)

bad_action : (field : List ℕ) → IsField field → field ≢ codes "f" → field ≢ codes "c" → field ≢ codes "r" → AnswerReadsAs limit_pair (codes "MATCHSTATE:1:0::|8hTc" ++ 58 ∷ field) (Err BadAction)
bad_action field is fold call raise =
    let none : (action : Action) → SaysAction limit_pair own_view field action → ⊥ = λ action. elim action as (λ a. SaysAction limit_pair own_view field a → ⊥) [
      | Fold ↦ λ says. fold says
      | Call ↦ λ says. call says
      | Raise amount ↦ λ says. raise says.0
    ] in
    (codes "MATCHSTATE:1:0::|8hTc", field, record { whole = refl; last = is }, (own_view, own_line, none))

x_is_no_action : AnswerReadsAs limit_pair (codes "MATCHSTATE:1:0::|8hTc:x") (Err BadAction)
x_is_no_action = bad_action (codes "x") (field_from_count (codes "x") refl)
    (other_letter (codes "x") (codes "f") (λ e. omega arith)) (other_letter (codes "x") (codes "c") (λ e. omega arith)) (other_letter (codes "x") (codes "r") (λ e. omega arith))

no_amount_in_a_limit_game : AnswerReadsAs limit_pair (codes "MATCHSTATE:1:0::|8hTc:r20") (Err BadAction)
no_amount_in_a_limit_game = bad_action (codes "r20") (field_from_count (codes "r20") refl)
    (other_letter (codes "r20") (codes "f") (λ e. omega arith)) (other_letter (codes "r20") (codes "c") (λ e. omega arith)) (other_length (codes "r20") (codes "r") (λ e. omega arith))

x_is_no_answer : (view : View) (action : Action) → AnswerReadsAs limit_pair (codes "MATCHSTATE:1:0::|8hTc:x") (Ok (view, action)) → ⊥
x_is_no_answer view action answer =
    let same = same_cut answer.line answer.field (codes "MATCHSTATE:1:0::|8hTc") (codes "x") answer.cut.last (field_from_count (codes "x") refl) (sym answer.cut.whole) in
    let says : SaysAction limit_pair view (codes "x") action = subst (λ field. SaysAction limit_pair view field action) same.1 answer.action_is in
    elim action as (λ a. SaysAction limit_pair view (codes "x") a → ⊥) [
      | Fold ↦ other_letter (codes "x") (codes "f") (λ e. omega arith)
      | Call ↦ other_letter (codes "x") (codes "c") (λ e. omega arith)
      | Raise amount ↦ λ says. other_letter (codes "x") (codes "r") (λ e. omega arith) says.0
    ] says
