-- A text's verdict is given at the place up to which its lines are right. Two readings come to one place, and
-- there they say the same.
use Rattle.std.proofs.Common.{◌≡◌, ◌≢◌, ℕ, ◌+◌, ◌<◌, ◌≤◌, List, [], ◌∷◌, ◌++◌, length, Result, Ok, Err, refl, sym, ◌∙◌, ap, subst, arith, inl, inr, ◌⊎◌}
use Rattle.std.specs.Prelude.{codes}
use Rattle.std.proofs.lemmas.Bool.{cases_lt}
use Rattle.std.proofs.lemmas.List.{append_cancel_left}
use Rattle.game_def.specs.Game.{Game, IsGame}
use Rattle.betting.specs.Laws.{NobodyPassesHisStack}
use Rattle.matchstate.specs.OneToOne.{BettingTextsAreOneToOne}
use Rattle.slot_log.specs.Hand.{Hand}
use Rattle.match_log.specs.Names.{AreNames}
use Rattle.match_log.specs.Payoffs.{totals_of}
use Rattle.match_log.specs.Lines.{state_line, values_field, names_field, score_text, score_line}
use Rattle.match_log.specs.Log.{Title}
use Rattle.match_log.specs.Check.{IsPlayed, HasHands, BeginsLine, IsStateFault, IsScoreFault}
use Rattle.match_log.specs.declared.fault.LogFault.{LogFault}
use Rattle.match_log.specs.declared.fault_kind.LogFaultKind.{LogFaultKind}
use Rattle.match_log.specs.declared.fault_kind.LogFaultKind.TheVariants.{BadHeader, BadState, WrongNumber, WrongValues, WrongScore}
use Rattle.match_log.specs.Verdict.{PayoffsAreThoseShown}
use Rattle.match_log.proofs.SameHands.{headers_alike, next_hand, hands_alike, totals_alike}
use Rattle.match_log.proofs.StateFaults.{words_differ, no_fault, one_state_fault}

-- ---- faults of the score's line

score_begins : (game : Game) (names : List (List ℕ)) (hands : List Hand) (behind : List ℕ) → score_line game names hands ++ behind ≡ codes "SCORE:" ++ ((values_field (totals_of game hands) ++ 58 ∷ (names_field names ++ 10 ∷ [])) ++ behind)
unfolding score_line score_text
score_begins game names hands behind = refl

no_state_line : (game : Game) (names : List (List ℕ)) (hands : List Hand) (rest behind : List ℕ) → BeginsLine (codes "STATE:") rest → rest ≢ score_line game names hands ++ behind
no_state_line game names hands rest behind begins e =
    words_differ _ (begins.line ++ 10 ∷ begins.behind) (sym (score_begins game names hands behind) ∙ sym e ∙ begins.whole)

no_score_fault : (game : Game) (names seats : List (List ℕ)) (hands others : List Hand) (rest behind : List ℕ) (kind : LogFaultKind) → score_line game seats others ≡ score_line game names hands → rest ≡ score_line game seats others ++ behind → IsScoreFault game names hands rest kind → ⊥
no_score_fault game names seats hands others rest behind BadHeader same whole f = f
no_score_fault game names seats hands others rest behind BadState same whole f = f
no_score_fault game names seats hands others rest behind WrongNumber same whole f = no_state_line game seats others rest behind f whole
no_score_fault game names seats hands others rest behind WrongValues same whole f = f
no_score_fault game names seats hands others rest behind WrongScore same whole f = f.1 behind (whole ∙ ap (λ (t : List ℕ). t ++ behind) same)

one_score_fault : (game : Game) (names seats : List (List ℕ)) (hands others : List Hand) (rest : List ℕ) (kind other : LogFaultKind) → IsScoreFault game names hands rest kind → IsScoreFault game seats others rest other → kind ≡ other
one_score_fault game names seats hands others rest BadHeader other f g = absurd f
one_score_fault game names seats hands others rest BadState other f g = absurd f
one_score_fault game names seats hands others rest WrongValues other f g = absurd f
one_score_fault game names seats hands others rest WrongNumber BadHeader f g = absurd g
one_score_fault game names seats hands others rest WrongNumber BadState f g = absurd g
one_score_fault game names seats hands others rest WrongNumber WrongNumber f g = refl
one_score_fault game names seats hands others rest WrongNumber WrongValues f g = absurd g
one_score_fault game names seats hands others rest WrongNumber WrongScore f g = absurd (g.0 f)
one_score_fault game names seats hands others rest WrongScore BadHeader f g = absurd g
one_score_fault game names seats hands others rest WrongScore BadState f g = absurd g
one_score_fault game names seats hands others rest WrongScore WrongNumber f g = absurd (f.0 g)
one_score_fault game names seats hands others rest WrongScore WrongValues f g = absurd g
one_score_fault game names seats hands others rest WrongScore WrongScore f g = refl

-- ---- where a verdict is given

-- behind the header, or at its line
pub data Ending (game : Game) (title : Title) (names : List (List ℕ)) (hands : List Hand) (rest : List ℕ) (verdict : Result (Unit {0}) LogFault) : Type 0 where
  in_hands : (fault : LogFault) → verdict ≡ Err fault → fault.line ≡ length hands + 2 → length hands < title.hands → IsStateFault game names hands rest fault.kind → Ending game title names hands rest verdict
  at_score : (fault : LogFault) → verdict ≡ Err fault → fault.line ≡ length hands + 2 → length hands ≡ title.hands → IsScoreFault game names hands rest fault.kind → Ending game title names hands rest verdict
  behind_score : (fault : LogFault) (behind : List ℕ) → verdict ≡ Err fault → fault.line ≡ length hands + 3 → length hands ≡ title.hands → fault.kind ≡ WrongScore → rest ≡ score_line game names hands ++ behind → behind ≢ [] → Ending game title names hands rest verdict
  at_end : verdict ≡ Ok tt → length hands ≡ title.hands → rest ≡ score_line game names hands ++ [] → Ending game title names hands rest verdict

same_fault : (one other : LogFault) → one.line ≡ other.line → one.kind ≡ other.kind → one ≡ other
same_fault one other line kind =
    ap (λ (n : ℕ). let f : LogFault = record { line = n; kind = one.kind } in f) line
    ∙ ap (λ (k : LogFaultKind). let f : LogFault = record { line = other.line; kind = k } in f) kind

pub one_fault : (verdict another : Result (Unit {0}) LogFault) (fault other : LogFault) → verdict ≡ Err fault → another ≡ Err other → fault.line ≡ other.line → fault.kind ≡ other.kind → verdict ≡ another
one_fault verdict another fault other is again line kind = is ∙ ap Err (same_fault fault other line kind) ∙ sym again

module _ (texts : BettingTextsAreOneToOne) (pays : PayoffsAreThoseShown) (stacks : NobodyPassesHisStack) (game : Game) (is : IsGame game) where
  -- where the text goes on with a right line, and another hand's line is due, there is no verdict
  goes_on : (title : Title) (names seats : List (List ℕ)) (hands : List Hand) (rest behind : List ℕ) (next : Hand) (verdict : Result (Unit {0}) LogFault) → AreNames game.players names → AreNames game.players seats → (1 ≤ length hands → names ≡ seats) → length hands < title.hands → title.hands ≤ 10000 → IsPlayed game next
      → rest ≡ state_line game seats (length hands) next ++ behind → Ending game title names hands rest verdict → ⊥
  goes_on title names seats hands rest behind next verdict are those same more few played whole (in_hands fault told line less wrong) =
      no_fault texts pays stacks game is names seats hands rest behind next fault.kind are those same (omega arith) played whole wrong
  goes_on title names seats hands rest behind next verdict are those same more few played whole (at_score fault told line all wrong) = omega arith
  goes_on title names seats hands rest behind next verdict are those same more few played whole (behind_score fault further told line all kind score some) = omega arith
  goes_on title names seats hands rest behind next verdict are those same more few played whole (at_end told all score) = omega arith

  -- a reading that is longer has a right line where the shorter one ends
  longer : (bytes : List ℕ) (title other : Title) (names seats : List (List ℕ)) (hands others : List Hand) (rest behind : List ℕ) (verdict : Result (Unit {0}) LogFault)
      → (one : HasHands game bytes title names hands rest) (two : HasHands game bytes other seats others behind) → length hands < length others → Ending game title names hands rest verdict → ⊥
  longer bytes title other names seats hands others rest behind verdict one two more ending =
      let heads = headers_alike bytes title other one.behind_header two.behind_header one.header two.header in
      let found = next_hand game seats (length hands) others behind more two.played in
      let alike = hands_alike texts pays game is names seats hands found.earlier rest (state_line game seats (length hands) found.next ++ found.behind) one.are_names two.are_names (sym found.counts) one.played found.played
      (sym one.lines ∙ heads.1 ∙ two.lines ∙ found.lines) in
      let least = two.no_more in
      let most = one.header.is_title.most in
      let hands_of_both = heads.0 in
      goes_on title names seats hands rest found.behind found.next verdict one.are_names two.are_names alike.same_names (omega arith) most found.next_played alike.same_rest ending

  -- one place, and as many hands
  module _ (title other : Title) (names seats : List (List ℕ)) (hands others : List Hand) (rest : List ℕ) (verdict another : Result (Unit {0}) LogFault) (are : AreNames game.players names) (those : AreNames game.players seats)
      (titles : title.hands ≡ other.hands) (least : 1 ≤ title.hands) (most : title.hands ≤ 10000) (count : length hands ≡ length others) (same : 1 ≤ length hands → names ≡ seats) (totals : totals_of game hands ≡ totals_of game others) where
    same_score : length hands ≡ title.hands → score_line game names hands ≡ score_line game seats others
    unfolding score_line
    same_score all = ap (λ (ns : List (List ℕ)). score_text (totals_of game hands) ns) (same (omega arith)) ∙ ap (λ zs. score_text zs seats) totals

    one_ending : Ending game title names hands rest verdict → Ending game other seats others rest another → verdict ≡ another
    one_ending (in_hands fault told line less wrong) (in_hands fault_2 told_2 line_2 less_2 wrong_2) =
        one_fault verdict another fault fault_2 told told_2 (omega arith)
        (one_state_fault texts pays stacks game is rest names seats hands others fault.kind fault_2.kind are those count same wrong wrong_2)
    one_ending (in_hands fault told line less wrong) (at_score fault_2 told_2 line_2 all_2 wrong_2) = absurd (omega arith)
    one_ending (in_hands fault told line less wrong) (behind_score fault_2 further_2 told_2 line_2 all_2 kind_2 score_2 some_2) = absurd (omega arith)
    one_ending (in_hands fault told line less wrong) (at_end told_2 all_2 score_2) = absurd (omega arith)
    one_ending (at_score fault told line all wrong) (in_hands fault_2 told_2 line_2 less_2 wrong_2) = absurd (omega arith)
    one_ending (at_score fault told line all wrong) (at_score fault_2 told_2 line_2 all_2 wrong_2) =
        one_fault verdict another fault fault_2 told told_2 (omega arith) (one_score_fault game names seats hands others rest fault.kind fault_2.kind wrong wrong_2)
    one_ending (at_score fault told line all wrong) (behind_score fault_2 further_2 told_2 line_2 all_2 kind_2 score_2 some_2) =
        absurd (no_score_fault game names seats hands others rest further_2 fault.kind (sym (same_score all)) score_2 wrong)
    one_ending (at_score fault told line all wrong) (at_end told_2 all_2 score_2) =
        absurd (no_score_fault game names seats hands others rest [] fault.kind (sym (same_score all)) score_2 wrong)
    one_ending (behind_score fault further told line all kind score some) (in_hands fault_2 told_2 line_2 less_2 wrong_2) = absurd (omega arith)
    one_ending (behind_score fault further told line all kind score some) (at_score fault_2 told_2 line_2 all_2 wrong_2) =
        absurd (no_score_fault game seats names others hands rest further fault_2.kind (same_score all) score wrong_2)
    one_ending (behind_score fault further told line all kind score some) (behind_score fault_2 further_2 told_2 line_2 all_2 kind_2 score_2 some_2) =
        one_fault verdict another fault fault_2 told told_2 (omega arith) (kind ∙ sym kind_2)
    one_ending (behind_score fault further told line all kind score some) (at_end told_2 all_2 score_2) =
        absurd (some (append_cancel_left (score_line game seats others) further [] (ap (λ (t : List ℕ). t ++ further) (sym (same_score all)) ∙ sym score ∙ score_2)))
    one_ending (at_end told all score) (in_hands fault_2 told_2 line_2 less_2 wrong_2) = absurd (omega arith)
    one_ending (at_end told all score) (at_score fault_2 told_2 line_2 all_2 wrong_2) =
        absurd (no_score_fault game seats names others hands rest [] fault_2.kind (same_score all) score wrong_2)
    one_ending (at_end told all score) (behind_score fault_2 further_2 told_2 line_2 all_2 kind_2 score_2 some_2) =
        absurd (some_2 (append_cancel_left (score_line game seats others) further_2 [] (sym score_2 ∙ score ∙ ap (λ (t : List ℕ). t ++ []) (same_score all))))
    one_ending (at_end told all score) (at_end told_2 all_2 score_2) = told ∙ sym told_2

  -- two readings of one text
  pub readings_agree : (bytes : List ℕ) (title other : Title) (names seats : List (List ℕ)) (hands others : List Hand) (rest behind : List ℕ) (verdict another : Result (Unit {0}) LogFault)
      → HasHands game bytes title names hands rest → HasHands game bytes other seats others behind → Ending game title names hands rest verdict → Ending game other seats others behind another → verdict ≡ another
  readings_agree bytes title other names seats hands others rest behind verdict another one two ending end = by (cases_lt (length hands) (length others)) (cases_lt (length others) (length hands))
    where
      by : (length hands < length others) ⊎ (length others ≤ length hands) → (length others < length hands) ⊎ (length hands ≤ length others) → verdict ≡ another
      by (inl less) second = absurd (longer bytes title other names seats hands others rest behind verdict one two less ending)
      by (inr up) (inl less) = absurd (longer bytes other title seats names others hands behind rest another two one less end)
      by (inr up) (inr down) =
          let count : length hands ≡ length others = omega arith in
          let heads = headers_alike bytes title other one.behind_header two.behind_header one.header two.header in
          let alike = hands_alike texts pays game is names seats hands others rest behind one.are_names two.are_names count one.played two.played (sym one.lines ∙ heads.1 ∙ two.lines) in
          one_ending title other names seats hands others rest verdict another one.are_names two.are_names heads.0 one.header.is_title.least one.header.is_title.most count alike.same_names
          (totals_alike game hands others alike.same_totals) ending (subst (λ (r : List ℕ). Ending game other seats others r another) (sym alike.same_rest) end)
