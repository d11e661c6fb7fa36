-- A whole line of a session is one of the protocol.
use Rattle.std.proofs.Common.{◌≡◌, ◌↔◌, ℕ, inl, inr, List, [], ◌∷◌, ◌++◌, refl, ap, sym, ◌∙◌, append_assoc}
use Rattle.std.proofs.lemmas.List.{append-nil}
use Rattle.seat_session.specs.Lines.{HasNoFeed}
use Rattle.seat_session.specs.Skipped.{on_stream}
use Rattle.seat_session.specs.Laws.{HoldsLine}
use Rattle.protocol_model.specs.Dealers.{IsLineStart, HasLine}
use Rattle.dealer_kind.specs.Laws.{OneMeaningOfLines}

starts_line : (lines : List (List ℕ)) → IsLineStart (on_stream lines)
starts_line [] = inl refl
starts_line (line ∷ lines) = elim (starts_line lines) [
  | inl none ↦ inr (line, ap (λ z. (line ++ 10 ∷ []) ++ z) none ∙ append-nil (line ++ 10 ∷ []))
  | inr last ↦ inr ((line ++ 10 ∷ []) ++ last.0, ap (λ z. (line ++ 10 ∷ []) ++ z) last.1 ∙ sym (append_assoc (line ++ 10 ∷ []) last.0 (10 ∷ [])))
]

pub held : (bytes line : List ℕ) → HoldsLine bytes line → HasLine bytes line
held bytes line holds = record {
  before = on_stream holds.before;
  after = holds.behind;
  whole = holds.whole;
  starts = starts_line holds.before;
  one_line = holds.one_line;
}

-- what stands before a line is lines
lines_before : (before : List ℕ) → IsLineStart before → (lines : List (List ℕ)) × (before ≡ on_stream lines)
lines_before before (inl none) = ([], none)
lines_before before (inr last) = (last.0 ∷ [], last.1 ∙ sym (append-nil (last.0 ++ 10 ∷ [])))

holding : (bytes line : List ℕ) → HasLine bytes line → HoldsLine bytes line
holding bytes line has =
    let lines = lines_before has.before has.starts in
    record {
      before = lines.0;
      behind = has.after;
      whole = has.whole ∙ ap (λ z. z ++ (line ++ 10 ∷ has.after)) lines.1;
      one_line = has.one_line;
    }

pub one_meaning : OneMeaningOfLines
one_meaning bytes line = ((held bytes line, holding bytes line), ((λ none. none), (λ none. none)))
