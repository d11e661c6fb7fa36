-- A text has one verdict.
use Rattle.std.proofs.Common.{◌≡◌, ℕ, Bool, true, List, [], ◌++◌, Result, Ok, Err, refl, sym, ◌∙◌, ap, arith, inl, inr, ◌⊎◌}
use Rattle.std.specs.Prelude.{if◌then◌else◌}
use Rattle.std.proofs.lemmas.List.{append-nil}
use Rattle.game_def.specs.Game.{Game}
use Rattle.betting.specs.Laws.{NobodyPassesHisStack}
use Rattle.matchstate.specs.OneToOne.{BettingTextsAreOneToOne}
use Rattle.slot_log.specs.Hand.{Hand}
use Rattle.slot_log.specs.Dealer.{hands_of, is_match_over}
use Rattle.match_log.specs.Lines.{header_line, score_line}
use Rattle.match_log.specs.Log.{Title, state_lines, log_of, log_lines}
use Rattle.match_log.specs.Check.{IsMatchLog, HasTitle, HasHands, IsHeaderFault, Says}
use Rattle.match_log.specs.declared.fault.LogFault.{LogFault}
use Rattle.match_log.specs.declared.fault_kind.LogFaultKind.{LogFaultKind}
use Rattle.match_log.specs.declared.fault_kind.LogFaultKind.TheVariants.{BadHeader, BadState, WrongNumber, WrongValues, WrongScore}
use Rattle.match_log.specs.Verdict.{HandsEndFinished, PayoffsAreThoseShown, OneVerdict}
use Rattle.match_log.proofs.SameHands.{header_parts}
use Rattle.match_log.proofs.Endings.{Ending, in_hands, at_score, behind_score, at_end, one_fault, readings_agree}

-- ---- each verdict as a reading of the lines before it, or a fault of the header

pub record IsReading (game : Game) (bytes : List ℕ) (verdict : Result (Unit {0}) LogFault) : Type 0 where
  pub title : Title
  pub names : List (List ℕ)
  pub hands : List Hand
  pub rest : List ℕ
  pub before : HasHands game bytes title names hands rest
  pub ending : Ending game title names hands rest verdict

pub record IsNoHeader (bytes : List ℕ) (verdict : Result (Unit {0}) LogFault) : Type 0 where
  pub fault : LogFault
  pub told : verdict ≡ Err fault
  pub line : fault.line ≡ 1
  pub wrong : IsHeaderFault bytes fault.kind

-- the lines of a whole log
log_parts : (game : Game) (title : Title) (names : List (List ℕ)) (hands : List Hand) → is_match_over game title.hands hands ≡ true → log_of game title names hands ≡ header_line title.name title.game title.hands ++ (state_lines game names hands ++ (score_line game names hands ++ []))
unfolding log_of
log_parts game title names hands over =
    ap (λ (b : Bool). header_line title.name title.game title.hands ++ (state_lines game names hands ++ (if b then score_line game names hands else []))) over
    ∙ ap (λ (t : List ℕ). header_line title.name title.game title.hands ++ (state_lines game names hands ++ t)) (sym (append-nil (score_line game names hands)))

whole_log : HandsEndFinished → (game : Game) (bytes : List ℕ) → IsMatchLog game bytes → IsReading game bytes (Ok tt)
unfolding log_lines
whole_log finishing game bytes log =
    let hands = hands_of game log.title.hands log.commands in
    let ended = finishing game log.title.hands log.commands log.deals log.over in
    record {
      title = log.title;
      names = log.names;
      hands = hands;
      rest = score_line game log.names hands ++ [];
      before = record {
        behind_header = state_lines game log.names hands ++ (score_line game log.names hands ++ []);
        header = record { is_title = log.is_title; whole = log.lines ∙ log_parts game log.title log.names hands log.over };
        are_names = log.are_names;
        played = ended.0;
        no_more = let count = ended.1 in omega arith;
        lines = refl;
      };
      ending = at_end refl ended.1 refl;
    }

reading_of : HandsEndFinished → (game : Game) (bytes : List ℕ) (verdict : Result (Unit {0}) LogFault) → Says game bytes verdict → IsNoHeader bytes verdict ⊎ IsReading game bytes verdict
reading_of finishing game bytes (Ok told) says = inr (whole_log finishing game bytes says)
reading_of finishing game bytes (Err fault) (inl header) = inl (record { fault = fault; told = refl; line = header.0; wrong = header.1 })
reading_of finishing game bytes (Err fault) (inr (inl line)) = inr (record {
  title = line.title;
  names = line.names;
  hands = line.hands;
  rest = line.rest;
  before = line.before;
  ending = elim line.wrong [
    | inl state ↦ in_hands fault refl line.line state.0 state.1
    | inr score ↦ at_score fault refl line.line score.0 score.1
  ];
})
reading_of finishing game bytes (Err fault) (inr (inr further)) = inr (record {
  title = further.title;
  names = further.names;
  hands = further.hands;
  rest = score_line game further.names further.hands ++ further.behind;
  before = further.before;
  ending = behind_score fault further.behind refl further.line further.all_hands further.kind refl further.further;
})

-- ---- against one another

no_title : (bytes : List ℕ) (title : Title) (rest : List ℕ) → HasTitle bytes title rest → (kind : LogFaultKind) → IsHeaderFault bytes kind → ⊥
no_title bytes title rest has BadHeader wrong = wrong.1 title rest has
no_title bytes title rest has BadState wrong = wrong
no_title bytes title rest has WrongNumber wrong = wrong
no_title bytes title rest has WrongValues wrong = wrong
no_title bytes title rest has WrongScore wrong = let there = sym wrong ∙ has.whole ∙ header_parts title rest in cc

one_header_fault : (bytes : List ℕ) (kind other : LogFaultKind) → IsHeaderFault bytes kind → IsHeaderFault bytes other → kind ≡ other
one_header_fault bytes BadHeader BadHeader f g = refl
one_header_fault bytes BadHeader BadState f g = absurd g
one_header_fault bytes BadHeader WrongNumber f g = absurd g
one_header_fault bytes BadHeader WrongValues f g = absurd g
one_header_fault bytes BadHeader WrongScore f g = absurd (f.0 g)
one_header_fault bytes BadState other f g = absurd f
one_header_fault bytes WrongNumber other f g = absurd f
one_header_fault bytes WrongValues other f g = absurd f
one_header_fault bytes WrongScore BadHeader f g = absurd (g.0 f)
one_header_fault bytes WrongScore BadState f g = absurd g
one_header_fault bytes WrongScore WrongNumber f g = absurd g
one_header_fault bytes WrongScore WrongValues f g = absurd g
one_header_fault bytes WrongScore WrongScore f g = refl

pub one_verdict : BettingTextsAreOneToOne → PayoffsAreThoseShown → NobodyPassesHisStack → HandsEndFinished → OneVerdict
one_verdict texts pays stacks finishing game bytes first second is one two = by (reading_of finishing game bytes first one) (reading_of finishing game bytes second two)
  where
    by : IsNoHeader bytes first ⊎ IsReading game bytes first → IsNoHeader bytes second ⊎ IsReading game bytes second → first ≡ second
    by (inl header) (inl again) =
        one_fault first second header.fault again.fault header.told again.told (header.line ∙ sym again.line) (one_header_fault bytes header.fault.kind again.fault.kind header.wrong again.wrong)
    by (inl header) (inr reading) = absurd (no_title bytes reading.title reading.before.behind_header reading.before.header header.fault.kind header.wrong)
    by (inr reading) (inl header) = absurd (no_title bytes reading.title reading.before.behind_header reading.before.header header.fault.kind header.wrong)
    by (inr reading) (inr other) =
        readings_agree texts pays stacks game is bytes reading.title other.title reading.names other.names reading.hands other.hands reading.rest other.rest first second reading.before other.before reading.ending other.ending
