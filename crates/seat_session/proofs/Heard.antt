-- One answer of a session.
use Rattle.std.proofs.Common.{◌≡◌, ℕ, false, List, inl, inr, Option, Some, Result, Err, refl, subst}
use Rattle.game_def.specs.Game.{Game}
use Rattle.slot_log.specs.Hand.{Hand}
use Rattle.seat_session.specs.Lines.{Breaks, BeginsWith, text_of}
use Rattle.seat_session.specs.Skipped.{is_skipped, Skips}
use Rattle.seat_session.specs.Session.{Standing, closed_by, after_line, FrontSays, AnswersOpen, Answers}
use Rattle.seat_session.specs.declared.phase.Phase.{Phase}
use Rattle.seat_session.specs.declared.phase.Phase.TheVariants.{Greeting, Ready, Closed}
use Rattle.seat_session.specs.declared.said.Said.{Said}
use Rattle.seat_session.specs.declared.session_fault.SessionFault.{SessionFault}
use Rattle.seat_session.specs.declared.session_fault.SessionFault.TheVariants.{LineTooLong}

abbrev pub standing : Phase → List ℕ → Standing
standing phase waiting = record { phase = phase; waiting = waiting }

-- the answer of a session that isn't closed is one of `AnswersOpen`
pub answers_open : (game : Game) (hands : List Hand) (seat : ℕ) (phase : Phase) (waiting : List ℕ) (answer : Option (Result Said SessionFault)) (new : Standing)
    → ((fault : SessionFault) → phase ≡ Closed fault → ⊥)
    → AnswersOpen game hands seat (record { phase = phase; waiting = waiting }) answer new
    → Answers game hands seat (record { phase = phase; waiting = waiting }) answer new
answers_open game hands seat Greeting waiting answer new unclosed answers = answers
answers_open game hands seat Ready waiting answer new unclosed answers = answers
answers_open game hands seat (Closed fault) waiting answer new unclosed answers = absurd (unclosed fault refl)

-- what stands in front says something, and the session goes on behind it
pub answers_front : (game : Game) (hands : List Hand) (seat : ℕ) (old : Standing) (phase : Phase) (waiting rest : List ℕ) (said : Result Said SessionFault) (new : Standing)
    → standing phase waiting ≡ old
    → ((fault : SessionFault) → phase ≡ Closed fault → ⊥)
    → Skips waiting rest
    → ((line behind : List ℕ) → BeginsWith rest line behind → is_skipped (text_of line) ≡ false)
    → FrontSays game hands seat phase rest said
    → ((line behind : List ℕ) → Breaks rest line behind → new ≡ after_line said behind)
    → (said ≡ Err LineTooLong → new ≡ closed_by LineTooLong)
    → Answers game hands seat old (Some said) new
answers_front game hands seat old phase waiting rest said new same unclosed skips counts front line_taken closed =
    let now = standing phase waiting in
    let heard : FrontSays game hands seat phase rest said → AnswersOpen game hands seat now (Some said) new = λ front. elim front [
      | inl too_long ↦ inl (record { rest = rest; skips = skips; too_long = too_long; closed = closed too_long.fault })
      | inr says ↦ inr (record { rest = rest; skips = skips; line = says; counts = counts says.line says.behind says.begins; after = line_taken says.line says.behind says.begins.breaks })
    ] in
    subst (λ (s : Standing). Answers game hands seat s (Some said) new) same (answers_open game hands seat phase waiting (Some said) new unclosed (heard front))
