-- Lists of bytes with and without line feeds.
use Rattle.std.proofs.Common.{◌≡◌, ◌≢◌, ℕ, zero, suc, ◌+◌, ◌<◌, ◌≤◌, List, [], ◌∷◌, ◌++◌, length, take, drop, get_or, refl, sym, ◌∙◌, ap, arith, length-take}
use Rattle.std.proofs.lemmas.List.{take-append-drop, drop_at, append_assoc, length-append, get_or_at, get_or_append_left}
use Rattle.std.proofs.lemmas.List.Elements.{All-from_recursion}
use Rattle.std.proofs.lemmas.Bool.Decides.{nat_tests}
use Rattle.matchstate.proofs.Fronts.{stands_within, cut_alike}
use Rattle.seat_session.specs.Lines.{HasNoFeed, Breaks, BeginsWith, IsOverlong, text_of}

pub one_break : (stream line rest other more : List ℕ) → Breaks stream line rest → Breaks stream other more → (line ≡ other) × (rest ≡ more)
one_break stream line rest other more first second =
    cut_alike 10 line other rest more first.one_line second.one_line (sym first.joined ∙ second.joined)

-- where a line feed stands, not all bytes are others
pub not_clear : (stream line rest : List ℕ) → Breaks stream line rest → HasNoFeed stream → ⊥
not_clear stream line rest breaks clear = stands_within 10 line rest (rw breaks.joined at clear)

pub HasNoFeed-take : (count : ℕ) (bytes : List ℕ) → HasNoFeed bytes → HasNoFeed (take count bytes)
HasNoFeed-take zero bytes clear = tt
HasNoFeed-take (suc count) [] clear = tt
HasNoFeed-take (suc count) (x ∷ xs) clear = (clear.0, HasNoFeed-take count xs clear.1)

pub text_of-return : (text : List ℕ) → text_of (text ++ 13 ∷ []) ≡ text
text_of-return [] = refl
text_of-return (x ∷ []) = refl
text_of-return (x ∷ y ∷ more) = ap (λ (l : List ℕ). x ∷ l) (text_of-return (y ∷ more))

pub text_of-other : (text : List ℕ) (last : ℕ) → last ≢ 13 → text_of (text ++ last ∷ []) ≡ text ++ last ∷ []
text_of-other [] last other = grind (arith, nat_tests)
text_of-other (x ∷ []) last other = grind (arith, nat_tests)
text_of-other (x ∷ y ∷ more) last other = ap (λ (l : List ℕ). x ∷ l) (text_of-other (y ∷ more) last other)

-- what is left behind the line feed at the end of a line
pub drop_line : (stream line rest : List ℕ) (place : ℕ) → Breaks stream line rest → length line ≡ place → drop (place + 1) stream ≡ rest
drop_line stream line rest place breaks long =
    let split : stream ≡ (line ++ 10 ∷ []) ++ rest = breaks.joined ∙ sym (append_assoc line (10 ∷ []) rest) in
    let count : length (line ++ 10 ∷ []) ≡ place + 1 = simp length-append (omega arith) in
    ap (drop (place + 1)) split ∙ drop_at (line ++ 10 ∷ []) rest (place + 1) count

-- a long line is overlong
pub overlong_line : (stream line rest : List ℕ) → Breaks stream line rest → 4097 ≤ length line → (front more : List ℕ) × IsOverlong stream front more
overlong_line stream line rest breaks long =
    let split : stream ≡ take 4097 line ++ (drop 4097 line ++ 10 ∷ rest) =
    breaks.joined ∙ ap (λ (l : List ℕ). l ++ 10 ∷ rest) (sym (take-append-drop 4097 line)) ∙ append_assoc (take 4097 line) (drop 4097 line) (10 ∷ rest) in
    (take 4097 line, drop 4097 line ++ 10 ∷ rest, record { joined = split; one_line = HasNoFeed-take 4097 line breaks.one_line; long = simp length-take (omega arith) })

pub overlong_rest : (stream : List ℕ) → HasNoFeed stream → 4097 ≤ length stream → (front more : List ℕ) × IsOverlong stream front more
overlong_rest stream clear long =
    (take 4097 stream, drop 4097 stream, record { joined = sym (take-append-drop 4097 stream); one_line = HasNoFeed-take 4097 stream clear; long = simp length-take (omega arith) })

-- a whole line isn't overlong
pub not_whole_and_overlong : (stream line rest front more : List ℕ) → BeginsWith stream line rest → IsOverlong stream front more → ⊥
not_whole_and_overlong stream line rest front more begins overlong =
    let inside : length line < length front = omega (arith, begins.short, overlong.long) in
    let clear = All-from_recursion (λ byte. byte ≢ 10) front overlong.one_line (length line) 0 inside in
    let in_stream : get_or stream (length line) 0 ≡ 10 =
    ap (λ (l : List ℕ). get_or l (length line) 0) begins.breaks.joined ∙ get_or_at line 10 rest 0 (length line) refl in
    let in_front : get_or stream (length line) 0 ≡ get_or front (length line) 0 =
    ap (λ (l : List ℕ). get_or l (length line) 0) overlong.joined ∙ get_or_append_left front more 0 (length line) inside in
    clear (sym in_front ∙ in_stream)
