-- What is wrong where a hand's line is due is one thing, and nothing is wrong with a right line.
use Rattle.std.proofs.Common.{◌≡◌, ◌≢◌, ℕ, ◌^◌, ◌<◌, ◌≤◌, ℤ, List, [], ◌∷◌, ◌++◌, length, map, get_or, refl, sym, ◌∙◌, ap, subst, arith, inl, inr}
use Rattle.std.specs.Prelude.{codes, decimal}
use Rattle.std.specs.Fmt.{signed_decimal}
use Rattle.std.specs.Int.Signed.{mag}
use Rattle.std.specs.List.{AllByRecursion}
use Rattle.std.specs.Str.Parse.{digits_value}
use Rattle.std.proofs.lemmas.Fmt.{decimal_is_IsNumeral}
use Rattle.game_def.specs.Game.{Game, IsGame}
use Rattle.betting.specs.Laws.{NobodyPassesHisStack}
use Rattle.matchstate.specs.OneToOne.{BettingTextsAreOneToOne}
use Rattle.slot_log.specs.Hand.{Hand}
use Rattle.match_log.specs.Names.{IsName, AreNames, names_by_position}
use Rattle.match_log.specs.Payoffs.{payoffs_of}
use Rattle.match_log.specs.Lines.{state_line}
use Rattle.match_log.specs.Numeral.{IsWhole}
use Rattle.match_log.specs.Check.{IsPlayed, BeginsLine, FitNames, said_text, HasState, IsStateFault}
use Rattle.match_log.specs.declared.fault_kind.LogFaultKind.{LogFaultKind}
use Rattle.match_log.specs.declared.fault_kind.LogFaultKind.TheVariants.{BadHeader, BadState, WrongNumber, WrongValues, WrongScore}
use Rattle.match_log.specs.Verdict.{PayoffsAreThoseShown}
use Rattle.match_log.proofs.FieldCuts.{All-weaker}
use Rattle.match_log.proofs.NumberTexts.{IsSignedByte, decimal_bytes, whole_bytes, decimal_is_decimal, signed_is_whole}
use Rattle.match_log.proofs.FieldBytes.{no_colon, digits_plain, by_position_are_names, length_by_position}
use Rattle.match_log.proofs.OneLine.{AreSaid, SaysTheSame, lines_say_the_same, line_fields, paid, length_paid, state_line_says}
use Rattle.match_log.proofs.PayoffBounds.{payoffs_bounded}
use Rattle.match_log.proofs.SameHands.{says_pay}

-- a hand's line isn't empty, and is no score's
no_empty_line : (game : Game) (number : List ℕ) (hand : Hand) (values names : List (List ℕ)) (behind : List ℕ) → [] ≢ said_text game number hand values names ++ behind
no_empty_line game number hand values names behind e = let there = e ∙ line_fields game number hand values names behind in cc

pub words_differ : (line other : List ℕ) → codes "SCORE:" ++ line ≢ codes "STATE:" ++ other
words_differ line other e = let second : ◌≡◌ {A = ℕ} 67 84 = ap (λ (bytes : List ℕ). get_or bytes 1 0) e in omega (arith, second)

no_score_line : (game : Game) (number : List ℕ) (hand : Hand) (values names : List (List ℕ)) (behind rest : List ℕ) → BeginsLine (codes "SCORE:") rest → rest ≢ said_text game number hand values names ++ behind
no_score_line game number hand values names behind rest begins e =
    words_differ (begins.line ++ 10 ∷ begins.behind) _ (sym begins.whole ∙ e ∙ line_fields game number hand values names behind)

-- names that fit one reading fit another with as many hands before them
fit_again : (players number : ℕ) (names seats by_position : List (List ℕ)) (hands others : List Hand) → length hands ≡ length others → (1 ≤ length hands → names ≡ seats) → FitNames players names hands number by_position → FitNames players seats others number by_position
fit_again players number names seats by_position [] [] count same fit = fit
fit_again players number names seats by_position [] (other ∷ others) count same fit = absurd (omega arith)
fit_again players number names seats by_position (hand ∷ hands) [] count same fit = absurd (omega arith)
fit_again players number names seats by_position (hand ∷ hands) (other ∷ others) count same fit = fit ∙ ap (names_by_position players number) (same (omega arith))

-- and so does a line
state_again : (game : Game) (names seats : List (List ℕ)) (hands others : List Hand) (rest number : List ℕ) (hand : Hand) (values : List (List ℕ)) → length hands ≡ length others → (1 ≤ length hands → names ≡ seats) → HasState game names hands rest number hand values → HasState game seats others rest number hand values
state_again game names seats hands others rest number hand values count same state = record {
  played = state.played;
  numbered = state.numbered;
  value_each = state.value_each;
  whole_values = state.whole_values;
  by_position = state.by_position;
  names_fit = fit_again game.players (digits_value 10 number) names seats state.by_position hands others count same state.names_fit;
  behind = state.behind;
  whole = state.whole;
}

module _ (texts : BettingTextsAreOneToOne) (pays : PayoffsAreThoseShown) (stacks : NobodyPassesHisStack) (game : Game) (is : IsGame game) where
  some_players : 1 ≤ game.players
  some_players = let least = is.least_players in omega arith

  fit_names : (names : List (List ℕ)) (hands : List Hand) (number : ℕ) (by_position : List (List ℕ)) → AreNames game.players names → FitNames game.players names hands number by_position → (length by_position ≡ game.players) × AllByRecursion IsName by_position
  fit_names names [] number by_position are fit =
      (ap length fit.2 ∙ length_by_position game.players number fit.0, subst (AllByRecursion IsName) (sym fit.2) (by_position_are_names game.players number fit.0 some_players fit.1))
  fit_names names (hand ∷ hands) number by_position are fit =
      (ap length fit ∙ length_by_position game.players number names, subst (AllByRecursion IsName) (sym fit) (by_position_are_names game.players number names some_players are))

  state_said : (names : List (List ℕ)) (hands : List Hand) (rest number : List ℕ) (hand : Hand) (values : List (List ℕ)) → AreNames game.players names → (state : HasState game names hands rest number hand values) → AreSaid game.players number values state.by_position
  state_said names hands rest number hand values are state =
      let fit = fit_names names hands (digits_value 10 number) state.by_position are state.names_fit in
      record {
        number_ends = no_colon number (digits_plain number (decimal_bytes number state.numbered));
        value_each = state.value_each;
        are_values = All-weaker IsWhole (AllByRecursion IsSignedByte) values whole_bytes state.whole_values;
        name_each = fit.0;
        each_name = fit.1;
      }

  -- two hands' lines at one place say the same
  states_alike : (names seats : List (List ℕ)) (hands others : List Hand) (rest number other : List ℕ) (hand another : Hand) (values amounts : List (List ℕ)) → AreNames game.players names → AreNames game.players seats
      → (one : HasState game names hands rest number hand values) (two : HasState game seats others rest other another amounts)
      → SaysTheSame game number other hand another values amounts one.by_position two.by_position one.behind two.behind
  states_alike names seats hands others rest number other hand another values amounts are those one two =
      lines_say_the_same game number other hand another values amounts one.by_position two.by_position one.behind two.behind
      (state_said names hands rest number hand values are one) (state_said seats others rest other another amounts those two)
      (sym one.whole ∙ two.whole)

  -- where the other line's values are what its hand pays, so are this one's
  values_alike : (names seats : List (List ℕ)) (hands others : List Hand) (rest number other : List ℕ) (hand another : Hand) (values : List (List ℕ)) → AreNames game.players names → AreNames game.players seats
      → HasState game names hands rest number hand values → HasState game seats others rest other another (paid game another) → values ≡ paid game hand
  values_alike names seats hands others rest number other hand another values are those one two =
      let same = states_alike names seats hands others rest number other hand another values (paid game another) are those one two in
      same.same_values
      ∙ ap (map signed_decimal) (sym (says_pay texts pays game is number other hand another values (paid game another) one.by_position two.by_position one.behind two.behind one.played two.played same))

  paid_whole : (hand : Hand) → IsPlayed game hand → AllByRecursion IsWhole (paid game hand)
  paid_whole hand played = by (payoffs_of game hand) (payoffs_bounded stacks game hand is played.legal)
    where
      by : (values : List ℤ) → AllByRecursion (λ z. mag z < 10 ^ 62) values → AllByRecursion IsWhole (map signed_decimal values)
      by [] small = tt
      by (z ∷ values) small = (signed_is_whole z small.0, by values small.1)

  -- a right line is a line of a played hand
  right_state : (names seats : List (List ℕ)) (hands : List Hand) (rest behind : List ℕ) (next : Hand) → AreNames game.players seats → (1 ≤ length hands → names ≡ seats) → length hands ≤ 10000 → IsPlayed game next
      → rest ≡ state_line game seats (length hands) next ++ behind → HasState game names hands rest (decimal (length hands)) next (paid game next)
  right_state names seats hands rest behind next those same few played whole = record {
    played = played;
    numbered = decimal_is_decimal (length hands) (omega arith);
    value_each = length_paid game next;
    whole_values = paid_whole next played;
    by_position = names_by_position game.players (length hands) seats;
    names_fit = subst (λ (n : ℕ). FitNames game.players names hands n (names_by_position game.players (length hands) seats)) (sym (decimal_is_IsNumeral (length hands) (omega arith)).1) (fit hands same);
    behind = behind;
    whole = whole ∙ ap (λ (t : List ℕ). t ++ behind) (state_line_says game seats (length hands) next);
  }
    where
      fit : (before : List Hand) → (1 ≤ length before → names ≡ seats) → FitNames game.players names before (length before) (names_by_position game.players (length before) seats)
      fit [] same_before = (seats, those, refl)
      fit (hand ∷ before) same_before = ap (names_by_position game.players (length (hand ∷ before))) (sym (same_before (omega arith)))

  -- and no fault
  pub no_fault : (names seats : List (List ℕ)) (hands : List Hand) (rest behind : List ℕ) (next : Hand) (kind : LogFaultKind) → AreNames game.players names → AreNames game.players seats → (1 ≤ length hands → names ≡ seats) → length hands ≤ 10000 → IsPlayed game next
      → rest ≡ state_line game seats (length hands) next ++ behind → IsStateFault game names hands rest kind → ⊥
  no_fault names seats hands rest behind next kind are those same few played whole fault = by (right_state names seats hands rest behind next those same few played whole) kind fault
    where
      by : HasState game names hands rest (decimal (length hands)) next (paid game next) → (kind_at : LogFaultKind) → IsStateFault game names hands rest kind_at → ⊥
      by right BadHeader f = f
      by right BadState f = f.2 (decimal (length hands)) next (paid game next) right
      by right WrongNumber (inl score) = no_score_line game (decimal (length hands)) next (paid game next) right.by_position right.behind rest score right.whole
      by right WrongNumber (inr f) = f.4 (states_alike names names hands hands rest f.0 (decimal (length hands)) f.1 next f.2 (paid game next) are are f.3 right).same_number
      by right WrongValues f = f.3 (values_alike names names hands hands rest (decimal (length hands)) (decimal (length hands)) f.0 next f.1 are are f.2 right)
      by right WrongScore f = no_empty_line game (decimal (length hands)) next (paid game next) right.by_position right.behind (sym f ∙ right.whole)

  -- ---- two faults of one line

  module _ (rest : List ℕ) where
    bad_or_number : (names seats : List (List ℕ)) (hands others : List Hand) → length hands ≡ length others → (1 ≤ length hands → names ≡ seats) → IsStateFault game seats others rest BadState → IsStateFault game names hands rest WrongNumber → ⊥
    bad_or_number names seats hands others count same bad (inl score) = bad.1 score
    bad_or_number names seats hands others count same bad (inr f) = bad.2 f.0 f.1 f.2 (state_again game names seats hands others rest f.0 f.1 f.2 count same f.3)

    bad_or_values : (names seats : List (List ℕ)) (hands others : List Hand) → length hands ≡ length others → (1 ≤ length hands → names ≡ seats) → IsStateFault game seats others rest BadState → IsStateFault game names hands rest WrongValues → ⊥
    bad_or_values names seats hands others count same bad f = bad.2 (decimal (length hands)) f.0 f.1 (state_again game names seats hands others rest (decimal (length hands)) f.0 f.1 count same f.2)

    number_or_values : (names seats : List (List ℕ)) (hands others : List Hand) → AreNames game.players names → AreNames game.players seats → length hands ≡ length others → IsStateFault game names hands rest WrongNumber → IsStateFault game seats others rest WrongValues → ⊥
    number_or_values names seats hands others are those count (inl score) g = no_score_line game (decimal (length others)) g.0 g.1 g.2.by_position g.2.behind rest score g.2.whole
    number_or_values names seats hands others are those count (inr f) g =
        f.4 ((states_alike names seats hands others rest f.0 (decimal (length others)) f.1 g.0 f.2 g.1 are those f.3 g.2).same_number ∙ ap decimal (sym count))

    number_or_none : (names : List (List ℕ)) (hands : List Hand) → IsStateFault game names hands rest WrongNumber → rest ≡ [] → ⊥
    number_or_none names hands (inl score) none = let there : [] ≡ codes "SCORE:" ++ (score.line ++ 10 ∷ score.behind) = sym none ∙ score.whole in cc
    number_or_none names hands (inr f) none = no_empty_line game f.0 f.1 f.2 f.3.by_position f.3.behind (sym none ∙ f.3.whole)

    values_or_none : (names : List (List ℕ)) (hands : List Hand) → IsStateFault game names hands rest WrongValues → rest ≡ [] → ⊥
    values_or_none names hands f none = no_empty_line game (decimal (length hands)) f.0 f.1 f.2.by_position f.2.behind (sym none ∙ f.2.whole)

    pub one_state_fault : (names seats : List (List ℕ)) (hands others : List Hand) (kind other : LogFaultKind) → AreNames game.players names → AreNames game.players seats → length hands ≡ length others → (1 ≤ length hands → names ≡ seats)
        → IsStateFault game names hands rest kind → IsStateFault game seats others rest other → kind ≡ other
    one_state_fault names seats hands others kind other are those count same f g = by kind other f g
      where
        back : 1 ≤ length others → seats ≡ names
        back some = sym (same (omega arith))

        by : (k l : LogFaultKind) → IsStateFault game names hands rest k → IsStateFault game seats others rest l → k ≡ l
        by BadHeader l p q = absurd p
        by BadState BadHeader p q = absurd q
        by BadState BadState p q = refl
        by BadState WrongNumber p q = absurd (bad_or_number seats names others hands (sym count) back p q)
        by BadState WrongValues p q = absurd (bad_or_values seats names others hands (sym count) back p q)
        by BadState WrongScore p q = absurd (p.0 q)
        by WrongNumber BadHeader p q = absurd q
        by WrongNumber BadState p q = absurd (bad_or_number names seats hands others count same q p)
        by WrongNumber WrongNumber p q = refl
        by WrongNumber WrongValues p q = absurd (number_or_values names seats hands others are those count p q)
        by WrongNumber WrongScore p q = absurd (number_or_none names hands p q)
        by WrongValues BadHeader p q = absurd q
        by WrongValues BadState p q = absurd (bad_or_values names seats hands others count same q p)
        by WrongValues WrongNumber p q = absurd (number_or_values seats names others hands those are (sym count) q p)
        by WrongValues WrongValues p q = refl
        by WrongValues WrongScore p q = absurd (values_or_none names hands p q)
        by WrongScore BadHeader p q = absurd q
        by WrongScore BadState p q = absurd (q.0 p)
        by WrongScore WrongNumber p q = absurd (number_or_none seats others q p)
        by WrongScore WrongValues p q = absurd (values_or_none seats others q p)
        by WrongScore WrongScore p q = refl
