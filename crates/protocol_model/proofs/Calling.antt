-- The lines among what was shown.
use Rattle.std.proofs.Common.{◌≡◌, ◌↔◌, ℕ, inl, inr, List, [], ◌∷◌, ◌++◌, refl, ap, sym, ◌∙◌, subst, append_assoc}
use Rattle.std.proofs.lemmas.List.{append-nil}
use Rattle.protocol_model.specs.Sets.{In}
use Rattle.protocol_model.specs.Dealers.{Reader, Seat, Log}
use Rattle.protocol_model.specs.Moves.{Shown, Output, both}
use Rattle.protocol_model.specs.Calls.{IsToSeat, line_to, lines_in}
use Rattle.protocol_model.proofs.Sets.{in_split, in_later, in_first}

lines_joined : (later earlier : List Shown) → lines_in (later ++ earlier) ≡ lines_in earlier ++ lines_in later
lines_joined [] earlier = sym (append-nil (lines_in earlier))
lines_joined (latest ∷ later) earlier =
    ap (λ xs. xs ++ line_to latest.reader latest) (lines_joined later earlier) ∙ append_assoc (lines_in earlier) (lines_in later) (line_to latest.reader latest)

pub joined : (earlier later : Output) → lines_in (both later earlier).shown ≡ lines_in earlier.shown ++ lines_in later.shown
joined earlier later = lines_joined later.shown earlier.shown

to_line : (reader : Reader) (shown line : Shown) → shown.reader ≡ reader → In line (line_to reader shown) → (line ≡ shown) × IsToSeat line
to_line (Seat seat) shown line is (inl e) = (e, (seat, ap (λ (s : Shown). s.reader) e ∙ is))
to_line (Seat seat) shown line is (inr none) = absurd none
to_line Log shown line is here = absurd here

from_line : (reader : Reader) (shown : Shown) → shown.reader ≡ reader → IsToSeat shown → In shown (line_to reader shown)
from_line (Seat seat) shown is seated = inl refl
from_line Log shown is seated = no_seat seated.0 (sym is ∙ seated.1)
  where
    no_seat : (seat : ℕ) → Log ≡ Seat seat → ⊥
    no_seat seat e = cc

line_in : (shown : List Shown) (line : Shown) → In line (lines_in shown) → In line shown × IsToSeat line
line_in [] line here = absurd here
line_in (latest ∷ before) line here = elim (in_split (lines_in before) (line_to latest.reader latest) line here) [
  | inl old ↦ let found = line_in before line old in (inr found.0, found.1)
  | inr new ↦ let found = to_line latest.reader latest line refl new in (inl found.0, found.1)
]

in_lines : (shown : List Shown) (line : Shown) → In line shown → IsToSeat line → In line (lines_in shown)
in_lines [] line here seated = absurd here
in_lines (latest ∷ before) line (inl e) seated =
    in_later (lines_in before) (line_to latest.reader latest) line
    (subst (λ (s : Shown). In s (line_to latest.reader latest)) (sym e) (from_line latest.reader latest refl (subst IsToSeat e seated)))
in_lines (latest ∷ before) line (inr here) seated = in_first (lines_in before) (line_to latest.reader latest) line (in_lines before line here seated)

pub lines : (shown : List Shown) (line : Shown) → In line (lines_in shown) ↔ In line shown × IsToSeat line
lines shown line = (line_in shown line, λ both. in_lines shown line both.0 both.1)
