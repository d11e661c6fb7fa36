-- Lines among what was shown, and what a call has got.
use Rattle.std.proofs.Common.{◌≡◌, ℕ, inl, inr, [], ◌∷◌, refl}
use Rattle.protocol_model.specs.Messages.{Ask}
use Rattle.protocol_model.specs.Dealers.{Reader, Seat, Log}
use Rattle.protocol_model.specs.Moves.{Shown}
use Rattle.protocol_model.specs.Calls.{lines_in, HasGotAtMost, HasGotExactly}

abbrev to : Reader → ℕ → Shown
to reader count = record { node = 0; start = 1; reader = reader; count = count; text = count ∷ [] }

-- seat 0 and seat 1 are shown a line, then the log, then seat 0 a line: the lines, oldest first
lines : lines_in (to (Seat 0) 2 ∷ to Log 1 ∷ to (Seat 1) 1 ∷ to (Seat 0) 1 ∷ []) ≡ to (Seat 0) 1 ∷ to (Seat 1) 1 ∷ to (Seat 0) 2 ∷ []
lines = refl

no_log : lines_in (to Log 1 ∷ []) ≡ []
no_log = refl

-- it had nothing, the frame carries an Ask, and it sent one itself, which it may have got or not
got_both : HasGotExactly [] (Ask 1 5 ∷ []) (Ask 0 7 ∷ []) (Ask 0 7 ∷ Ask 1 5 ∷ [])
got_both = record {
  at_most = λ message here. elim here [ inl e ↦ inr (inr (inl e)) | inr (inl e) ↦ inr (inl (inl e)) | inr (inr none) ↦ absurd none ];
  all = λ message here. elim here [ inl e ↦ inr (inl e) | inr none ↦ absurd none ];
}

got_the_frame : HasGotExactly [] (Ask 1 5 ∷ []) (Ask 0 7 ∷ []) (Ask 1 5 ∷ [])
got_the_frame = record {
  at_most = λ message here. elim here [ inl e ↦ inr (inl (inl e)) | inr none ↦ absurd none ];
  all = λ message here. elim here [ inl e ↦ inl e | inr none ↦ absurd none ];
}

-- a call that fails may have got nothing; one that doesn't has got what the frame carries; none has got anything else
nothing_yet : HasGotAtMost [] (Ask 1 5 ∷ []) [] []
nothing_yet message here = absurd here

frame_passed_over : HasGotExactly [] (Ask 1 5 ∷ []) [] [] → ⊥
frame_passed_over got = got.all (Ask 1 5) (inl refl)

same_slot : (slot other : ℕ) → Ask 1 slot ≡ Ask 1 other → slot ≡ other
same_slot slot other e = cc

another_frame : HasGotAtMost [] (Ask 1 5 ∷ []) [] (Ask 1 6 ∷ []) → ⊥
another_frame got = elim (got (Ask 1 6) (inl refl)) [
  | inl none ↦ none
  | inr (inl (inl e)) ↦ let slots = same_slot 6 5 e in cc
  | inr (inl (inr none)) ↦ none
  | inr (inr none) ↦ none
]
