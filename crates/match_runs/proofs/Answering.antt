-- What pieces say, and what they don't.
use Rattle.std.proofs.Common.{◌≡◌, ℕ, List, [], ◌∷◌, ◌++◌, Err, refl, sym, ap, subst, ◌∙◌}
use Rattle.game_def.specs.Game.{Game}
use Rattle.betting.specs.declared.action.Action.{Action}
use Rattle.matchstate.specs.View.{View}
use Rattle.matchstate.specs.Answer.{IsAnswer, AnswerReadsAs}
use Rattle.matchstate.specs.Line.{IsField}
use Rattle.matchstate.specs.declared.line_fault.LineFault.{LineFault}
use Rattle.matchstate.proofs.Fronts.{stands_within}
use Rattle.seat_session.specs.Lines.{text_of}
use Rattle.match_runs.specs.Refusals.{IsOneLine, AnswersNothing}

same_front : (xs ys : List ℕ) (byte : ℕ) → xs ++ byte ∷ [] ≡ ys ++ byte ∷ [] → xs ≡ ys
same_front [] [] byte is = refl
same_front [] (y ∷ []) byte is = cc
same_front [] (y ∷ z ∷ ys) byte is = cc
same_front (x ∷ []) [] byte is = cc
same_front (x ∷ z ∷ xs) [] byte is = cc
same_front (x ∷ xs) (y ∷ ys) byte is =
    let first : x ≡ y = cc in
    let rest : xs ++ byte ∷ [] ≡ ys ++ byte ∷ [] = cc in
    let same = same_front xs ys byte rest in
    cc

-- of a piece there is one text
pub one_text : (piece text other : List ℕ) → IsOneLine piece text → IsOneLine piece other → text ≡ other
one_text piece text other p q = p.is_text ∙ ap text_of (same_front p.line q.line 10 (sym p.ended ∙ q.ended)) ∙ sym q.is_text

-- a line that reads as a fault is no answer
pub no_answer : (game : Game) (piece text : List ℕ) (fault : LineFault) → IsOneLine piece text → AnswerReadsAs game text (Err fault) → AnswersNothing game piece
no_answer game piece text fault one reads = λ other is. (fault, subst (λ (t : List ℕ). AnswerReadsAs game t (Err fault)) (one_text piece text other one is) reads)

-- an answer has a colon
pub has_colon : (game : Game) (text : List ℕ) (view : View) (action : Action) → IsAnswer game text view action → IsField text → ⊥
has_colon game text view action reads none = stands_within 58 reads.line reads.field (subst IsField reads.cut.whole none)
