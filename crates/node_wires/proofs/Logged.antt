-- What one more passage leaves of the log.
use Rattle.std.proofs.Common.{◌≡◌, ℕ, List, [], ◌∷◌, ◌++◌, append_assoc, append-nil, refl, ap, sym, ◌∙◌}
use Rattle.node_wires.specs.declared.line.Line.{Line}
use Rattle.node_wires.specs.declared.way.Way.{Way}
use Rattle.node_wires.specs.declared.halt.Halt.{Halt}
use Rattle.node_wires.specs.declared.halt.Halt.TheVariants as halts
use Rattle.node_wires.specs.Passages.{Passage, Began, Came, Wrote, Gave, Logged, Tried, Ended, Closed, Saw, Waited, Called, halted_as, logged_in}

more : (xs ys : List Passage) → logged_in (xs ++ ys) ≡ logged_in xs ++ logged_in ys
more [] ys = refl
more (Began line ∷ xs) ys = more xs ys
more (Came line bytes ∷ xs) ys = more xs ys
more (Wrote line bytes ∷ xs) ys = more xs ys
more (Gave place seat ∷ xs) ys = more xs ys
more (Tried line way ∷ xs) ys = more xs ys
more (Ended line way ∷ xs) ys = more xs ys
more (Closed line ∷ xs) ys = more xs ys
more (Saw moment ∷ xs) ys = more xs ys
more (Waited most ∷ xs) ys = more xs ys
more (Called ∷ xs) ys = more xs ys
more (Logged text ∷ xs) ys = ap (λ ls. text ++ ls) (more xs ys) ∙ sym (append_assoc text (logged_in xs) (logged_in ys))

pub when_began : (passed : List Passage) (line : Line) → logged_in (passed ++ Began line ∷ []) ≡ logged_in passed
when_began passed line = more passed (Began line ∷ []) ∙ append-nil (logged_in passed)

pub when_came : (passed : List Passage) (line : Line) (bytes : List ℕ) → logged_in (passed ++ Came line bytes ∷ []) ≡ logged_in passed
when_came passed line bytes = more passed (Came line bytes ∷ []) ∙ append-nil (logged_in passed)

pub when_wrote : (passed : List Passage) (line : Line) (bytes : List ℕ) → logged_in (passed ++ Wrote line bytes ∷ []) ≡ logged_in passed
when_wrote passed line bytes = more passed (Wrote line bytes ∷ []) ∙ append-nil (logged_in passed)

pub when_gave : (passed : List Passage) (place seat : ℕ) → logged_in (passed ++ Gave place seat ∷ []) ≡ logged_in passed
when_gave passed place seat = more passed (Gave place seat ∷ []) ∙ append-nil (logged_in passed)

pub when_logged : (passed : List Passage) (text : List ℕ) → logged_in (passed ++ Logged text ∷ []) ≡ logged_in passed ++ text
when_logged passed text = more passed (Logged text ∷ []) ∙ ap (λ t. logged_in passed ++ t) (append-nil text)

pub when_halted : (passed : List Passage) (way : Way) (line : Line) (halt : Halt) → logged_in (passed ++ halted_as way line halt ∷ []) ≡ logged_in passed
when_halted passed way line halts.Later = more passed (Tried line way ∷ []) ∙ append-nil (logged_in passed)
when_halted passed way line halts.Ended = more passed (Ended line way ∷ []) ∙ append-nil (logged_in passed)

pub when_closed : (passed : List Passage) (line : Line) → logged_in (passed ++ Closed line ∷ []) ≡ logged_in passed
when_closed passed line = more passed (Closed line ∷ []) ∙ append-nil (logged_in passed)

pub when_seen : (passed : List Passage) (moment : ℕ) → logged_in (passed ++ Saw moment ∷ []) ≡ logged_in passed
when_seen passed moment = more passed (Saw moment ∷ []) ∙ append-nil (logged_in passed)

pub when_waited : (passed : List Passage) (most : ℕ) → logged_in (passed ++ Waited most ∷ []) ≡ logged_in passed
when_waited passed most = more passed (Waited most ∷ []) ∙ append-nil (logged_in passed)

pub when_called : (passed : List Passage) → logged_in (passed ++ Called ∷ []) ≡ logged_in passed
when_called passed = more passed (Called ∷ []) ∙ append-nil (logged_in passed)
