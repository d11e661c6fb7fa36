-- Further witnesses of what answers say, and near misses.
use Rattle.std.proofs.Common.{◌≡◌, ℕ, [], ◌∷◌, get_or, Some, None, Result, Err, refl, ap, ◌∙◌, arith, inl, inr}
use Rattle.std.specs.Prelude.{codes, decimal}
use Rattle.std.specs.Str.Parse.{digits_value}
use Rattle.std.proofs.lemmas.Fmt.{decimal_is_IsNumeral}
use Rattle.betting.specs.declared.action.Action.{Action}
use Rattle.betting.specs.declared.action.Action.TheVariants.{Fold, Call, Raise}
use Rattle.betting.specs.declared.fault.ActFault.TheVariants.{RaiseTooSmall}
use Rattle.betting.specs.Rounds.{turns}
use Rattle.betting.proofs.Legal.{can_act-none, none-can_act}
use Rattle.matchstate.specs.View.{View}
use Rattle.matchstate.specs.Line.{IsLine}
use Rattle.matchstate.specs.Answer.{IsCut, SaysAction, AnswerReadsAs}
use Rattle.matchstate.specs.declared.line_fault.LineFault.{LineFault}
use Rattle.matchstate.specs.declared.line_fault.LineFault.TheVariants.{BadBetting, BadAction}
use Rattle.matchstate.proofs.Examples.{opened, limit_pair, no_limit_pair, first_deal, first_deal_dealt}
use Rattle.matchstate.proofs.LineExamples.{limit_pair_game, flop_past, flop_view, slash_too_early_reads, has_fields}
use Rattle.matchstate.proofs.OneAnswer.{answers_read_one_way}
use Rattle.matchstate.proofs.OneLine.{fields_with}

-- ---- the last field

last_colon_cuts : IsCut (codes "a:b:c") (codes "a:b") (codes "c")
last_colon_cuts = record { whole = refl; last = (omega arith, tt) }

first_colon_none : IsCut (codes "a:b:c") (codes "a") (codes "b:c") → ⊥
first_colon_none cut = cut.last.1.0 refl

-- ---- what an answer's field says

-- r is the raise that is allowed, by the size of the round
flop_raise : SaysAction limit_pair flop_view (codes "r") (Raise 50)
unfolding opened
flop_raise = (refl, inl (none-can_act limit_pair (turns limit_pair flop_past) (Raise 50) refl))

flop_raise_to_the_same_none : SaysAction limit_pair flop_view (codes "r") (Raise 40) → ⊥
unfolding opened
flop_raise_to_the_same_none said = elim said.1 [
  | inl can ↦ let wrong : Some (RaiseTooSmall 50) ≡ None = can_act-none limit_pair (turns limit_pair flop_past) (Raise 40) can in cc
  | inr none ↦ let nothing : ◌≡◌ {A = ℕ} 40 0 = none.0 in absurd (omega arith)
]

-- a view of the first hand of a no-limit game
abbrev first_view : View
first_view = record { game = no_limit_pair; position = 0; hand = 0; past = []; holes = (33 ∷ 51 ∷ []) ∷ [] ∷ []; boards = [] }

first_line : IsLine no_limit_pair (codes "MATCHSTATE:0:0::TdAs|") first_view
unfolding opened
first_line =
    record {
      fields = fields_with (codes "0") (codes "0") [] (codes "TdAs|");
      has_fields = has_fields (codes "0") (codes "0") [] (codes "TdAs|") refl refl refl refl;
      same_game = refl;
      numbers = record { position_text = refl; position_below = omega arith; hand_text = refl; hand_most = omega arith };
      betting = record { betting_text = refl; legal = tt };
      cards = record { cards_text = refl; seen = (first_deal, record { dealt = first_deal_dealt; hole_cards = refl; board_cards = refl }) };
    }

greatest_amount : SaysAction no_limit_pair first_view (codes "r4294967295") (Raise 4294967295)
unfolding opened
greatest_amount = (refl, omega arith)

amount_above_it : (action : Action) → SaysAction no_limit_pair first_view (codes "r4294967296") action → ⊥
amount_above_it Fold said = let letter : ◌≡◌ {A = ℕ} 114 102 = ap (λ t. get_or t 0 0) said in absurd (omega arith)
amount_above_it Call said = let letter : ◌≡◌ {A = ℕ} 114 99 = ap (λ t. get_or t 0 0) said in absurd (omega arith)
amount_above_it (Raise amount) said =
    let small = said.1 in
    let texts : codes "r4294967296" ≡ 114 ∷ decimal amount = said.0 in
    let digits : codes "4294967296" ≡ decimal amount = cc in
    let value : ◌≡◌ {A = ℕ} 4294967296 amount = ap (digits_value 10) digits ∙ (decimal_is_IsNumeral amount (omega arith)).1 in
    absurd (omega arith)

amount_above_it_reads : AnswerReadsAs no_limit_pair (codes "MATCHSTATE:0:0::TdAs|:r4294967296") (Err BadAction)
amount_above_it_reads = (
  codes "MATCHSTATE:0:0::TdAs|",
  codes "r4294967296",
  record { whole = refl; last = (omega arith, (omega arith, (omega arith, (omega arith, (omega arith, (omega arith, (omega arith, (omega arith, (omega arith, (omega arith, (omega arith, tt))))))))))) },
  (first_view, first_line, amount_above_it),
)

-- ---- faults of the line come first

bad_betting_with_an_action : AnswerReadsAs limit_pair (codes "MATCHSTATE:1:0:c/:|8hTc/2c8c3h:x") (Err BadBetting)
bad_betting_with_an_action = (codes "MATCHSTATE:1:0:c/:|8hTc/2c8c3h", codes "x", record { whole = refl; last = (omega arith, tt) }, slash_too_early_reads)

bad_betting_told_first : AnswerReadsAs limit_pair (codes "MATCHSTATE:1:0:c/:|8hTc/2c8c3h:x") (Err BadAction) → ⊥
bad_betting_told_first reads =
    let same : ◌≡◌ {A = Result (View × Action) LineFault} (Err BadAction) (Err BadBetting) =
    answers_read_one_way limit_pair (codes "MATCHSTATE:1:0:c/:|8hTc/2c8c3h:x") (Err BadAction) (Err BadBetting) limit_pair_game reads bad_betting_with_an_action in
    cc
