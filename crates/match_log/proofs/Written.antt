-- What one writer after another appends, and the fields of a hand's line.
use Rattle.std.proofs.Common.{◌≡◌, ℕ, List, [], ◌∷◌, ◌++◌, take, ◌∙◌, ap, append_assoc}
use Rattle.std.specs.Prelude.{codes, decimal}
use Rattle.game_def.specs.Game.{Game}
use Rattle.card_core.specs.Deal.{IsDeal, player_count}
use Rattle.betting.specs.declared.action.Action.{Action}
use Rattle.betting.specs.Text.{text}
use Rattle.slot_log.specs.Hand.{Hand}
use Rattle.matchstate.specs.Cards.{cards_field, holes_of, boards_of}
use Rattle.matchstate.specs.View.{rounds_seen}
use Rattle.match_log.specs.Lines.{values_field, names_field, shown_cards, state_text, state_line, score_text, score_line}
use Rattle.match_log.specs.Names.{names_by_position}
use Rattle.match_log.specs.Payoffs.{payoffs_of, totals_of}
use Rattle.match_log.proofs.Settling.{deal_players}

-- a further piece behind others
pub and_then : (before out after written piece : List ℕ) → out ≡ before ++ written → after ≡ out ++ piece → after ≡ before ++ (written ++ piece)
and_then before out after written piece so_far now = now ∙ (ap (λ (t : List ℕ). t ++ piece) so_far ∙ append_assoc before written piece)

-- pieces are the same however they are grouped
pub eleven : (a b c d e f g h i j k : List ℕ) → (((((((((a ++ b) ++ c) ++ d) ++ e) ++ f) ++ g) ++ h) ++ i) ++ j) ++ k ≡ a ++ (b ++ (c ++ (d ++ (e ++ (f ++ (g ++ (h ++ (i ++ (j ++ k)))))))))
eleven a b c d e f g h i j k =
    append_assoc _ j k ∙ (append_assoc _ i (j ++ k) ∙ (append_assoc _ h (i ++ (j ++ k)) ∙ (append_assoc _ g (h ++ (i ++ (j ++ k)))
    ∙ (append_assoc _ f (g ++ (h ++ (i ++ (j ++ k)))) ∙ (append_assoc _ e (f ++ (g ++ (h ++ (i ++ (j ++ k)))))
    ∙ (append_assoc _ d (e ++ (f ++ (g ++ (h ++ (i ++ (j ++ k)))))) ∙ (append_assoc _ c (d ++ (e ++ (f ++ (g ++ (h ++ (i ++ (j ++ k)))))))
    ∙ append_assoc a b (c ++ (d ++ (e ++ (f ++ (g ++ (h ++ (i ++ (j ++ k)))))))))))))))

-- ---- the fields of a hand's line

pub shown_as : (game : Game) (past : List Action) (deal : List ℕ) (rounds : ℕ) → IsDeal game.players deal → rounds ≡ rounds_seen game past → cards_field (holes_of (player_count deal) deal) (take rounds (boards_of deal)) ≡ shown_cards game past deal
shown_as game past deal rounds dealt same =
    ap (λ (n : ℕ). cards_field (holes_of n deal) (take rounds (boards_of deal))) (deal_players game.players deal dealt)
    ∙ ap (λ (r : ℕ). cards_field (holes_of game.players deal) (take r (boards_of deal))) same

-- the pieces are the line
pub state_line_written : (game : Game) (names : List (List ℕ)) (number : ℕ) (hand : Hand) (before after betting cards values by_position : List ℕ)
    → after ≡ before ++ ((((((((((codes "STATE:" ++ decimal number) ++ (58 ∷ [])) ++ betting) ++ (58 ∷ [])) ++ cards) ++ (58 ∷ [])) ++ values) ++ (58 ∷ [])) ++ by_position) ++ (10 ∷ []))
    → betting ≡ text game hand.past → cards ≡ shown_cards game hand.past hand.deal → values ≡ values_field (payoffs_of game hand) → by_position ≡ names_field (names_by_position game.players number names)
    → after ≡ before ++ state_line game names number hand
unfolding state_line state_text
state_line_written game names number hand before after betting cards values by_position written as_text as_cards as_values as_names =
    written
    ∙ (ap (λ (t : List ℕ). before ++ t) (eleven (codes "STATE:") (decimal number) (58 ∷ []) betting (58 ∷ []) cards (58 ∷ []) values (58 ∷ []) by_position (10 ∷ []))
    ∙ (ap (λ (t : List ℕ). before ++ (codes "STATE:" ++ (decimal number ++ 58 ∷ (t ++ 58 ∷ (cards ++ 58 ∷ (values ++ 58 ∷ (by_position ++ 10 ∷ []))))))) as_text
    ∙ (ap (λ (t : List ℕ). before ++ (codes "STATE:" ++ (decimal number ++ 58 ∷ (text game hand.past ++ 58 ∷ (t ++ 58 ∷ (values ++ 58 ∷ (by_position ++ 10 ∷ []))))))) as_cards
    ∙ (ap (λ (t : List ℕ). before ++ (codes "STATE:" ++ (decimal number ++ 58 ∷ (text game hand.past ++ 58 ∷ (shown_cards game hand.past hand.deal ++ 58 ∷ (t ++ 58 ∷ (by_position ++ 10 ∷ []))))))) as_values
    ∙ ap (λ (t : List ℕ). before ++ (codes "STATE:" ++ (decimal number ++ 58 ∷ (text game hand.past ++ 58 ∷ (shown_cards game hand.past hand.deal ++ 58 ∷ (values_field (payoffs_of game hand) ++ 58 ∷ (t ++ 10 ∷ []))))))) as_names))))

pub five : (a b c d e : List ℕ) → (((a ++ b) ++ c) ++ d) ++ e ≡ a ++ (b ++ (c ++ (d ++ e)))
five a b c d e = append_assoc _ d e ∙ (append_assoc _ c (d ++ e) ∙ append_assoc a b (c ++ (d ++ e)))

pub score_line_written : (game : Game) (names : List (List ℕ)) (hands : List Hand) (before after values in_order : List ℕ)
    → after ≡ before ++ ((((codes "SCORE:" ++ values) ++ (58 ∷ [])) ++ in_order) ++ (10 ∷ []))
    → values ≡ values_field (totals_of game hands) → in_order ≡ names_field names
    → after ≡ before ++ score_line game names hands
unfolding score_line score_text
score_line_written game names hands before after values in_order written as_values as_names =
    written
    ∙ (ap (λ (t : List ℕ). before ++ t) (five (codes "SCORE:") values (58 ∷ []) in_order (10 ∷ []))
    ∙ (ap (λ (t : List ℕ). before ++ (codes "SCORE:" ++ (t ++ 58 ∷ (in_order ++ 10 ∷ [])))) as_values
    ∙ ap (λ (t : List ℕ). before ++ (codes "SCORE:" ++ (values_field (totals_of game hands) ++ 58 ∷ (t ++ 10 ∷ [])))) as_names))
