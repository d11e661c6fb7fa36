-- What came over a connection is cut into the lines that were told, as far as it came.
use Rattle.std.proofs.Common.{◌≡◌, ℕ, List, [], ◌∷◌, ◌++◌, map, codes, get_or, Option, Some, None, refl, sym, ap, ◌∙◌, subst, inl, inr, append_assoc, append-nil, arith}
use Rattle.std.proofs.lemmas.List.{append_cancel_right}
use Rattle.std.specs.List.{AllByRecursion}
use Rattle.matchstate.specs.Free.{IsFreeOf}
use Rattle.matchstate.proofs.Fronts.{cut_alike}
use Rattle.seat_relay.specs.Places.{IsPlaced}
use Rattle.seat_relay.specs.Relaying.{Line, with_place}
use Rattle.seat_relay.specs.declared.place.Place.{Place}
use Rattle.seat_relay.specs.Laws.{Word, Shows, Over, lines_of}
use Rattle.node_seats.specs.declared.bot.Parting.{Parting}
use Rattle.node_seats.specs.declared.bot.Parting.TheVariants as partings
use Rattle.node_seats.specs.Lines.{line_of}
use Rattle.node_seats.specs.Telling.{text_of, parting_line, parting_text}
use Rattle.relay_runs.specs.Heard.{with_feeds, IsTextOf, Adds, AreHeard}
use Rattle.joined_lines.specs.Bringing.{text_in}
use Rattle.joined_lines.proofs.Gathering.{all_both}
use Rattle.joined_lines.proofs.Lines.{IsGood}
use Rattle.joined_lines.proofs.Told.{IsPlacedLine}

-- ---- a line's bytes

abbrev first_byte : List ℕ → ℕ
first_byte bytes = get_or bytes 0 0

-- a dealer's line doesn't begin with #
no_sign : (line rest : List ℕ) (place : Place) → IsPlaced line place → line ≡ 35 ∷ rest → ⊥
no_sign line rest place is e =
    let same : first_byte (35 ∷ rest) ≡ 77 = ap first_byte (sym e ∙ is.has_fields.whole) in
    absurd (omega (arith, same))

text_same : (raw text line : List ℕ) → IsTextOf raw text → raw ≡ line ++ 13 ∷ [] → text ≡ line
text_same raw text line (inl is) e = append_cancel_right text line (13 ∷ []) (sym is ∙ e)
text_same raw text line (inr is) e = absurd (is.1 line e)

-- ---- one line

-- the dealer's line is told, and nothing else
pub record IsShownAs (line : List ℕ) (own : List Word) : Type 0 where
  pub shown : Line
  pub own_is : own ≡ Shows shown ∷ []
  pub text_is : shown.text ≡ line

one_line : (raw line : List ℕ) → IsGood line → raw ≡ line ++ 13 ∷ [] → (own : List Word) → Adds raw own → IsShownAs line own
one_line raw line good e own (Adds.shows shown is) = record { shown = shown; own_is = refl; text_is = text_same raw shown.text line is.text e }
one_line raw line good e own (Adds.closes text is over) =
    absurd (no_sign line (codes "OVER") good.place good.placed (sym (text_same raw text line is e) ∙ over))
one_line raw line good e own (Adds.nothing text is none not_over) =
    absurd (none (with_place line good.place) (record { text = inl e; short = good.short; placed = good.placed }))

-- by what is told behind the lines none is told
sign_of : (parting : Parting) → (rest : List ℕ) × (parting_line parting ≡ 35 ∷ rest)
sign_of partings.Over = (codes "OVER", refl)
sign_of partings.Other = (codes "OTHER", refl)
sign_of partings.Wait = (codes "WAIT", refl)

no_line : (raw : List ℕ) (parting : Parting) → raw ≡ parting_line parting ++ 13 ∷ [] → (own : List Word) → Adds raw own → lines_of own ≡ []
no_line raw parting e own (Adds.shows shown is) =
    absurd (no_sign shown.text (sign_of parting).0 shown.place is.placed (text_same raw shown.text (parting_line parting) is.text e ∙ (sign_of parting).1))
no_line raw parting e own (Adds.closes text is over) = refl
no_line raw parting e own (Adds.nothing text is none not_over) = refl

-- ---- all

lines_both : (xs ys : List Word) → lines_of (xs ++ ys) ≡ lines_of xs ++ lines_of ys
lines_both [] ys = refl
lines_both (Shows line ∷ xs) ys = ap (λ (ls : List Line). line ∷ ls) (lines_both xs ys)
lines_both (Over ∷ xs) ys = lines_both xs ys

no_bytes : (raw more : List ℕ) → raw ++ 10 ∷ more ≡ [] → ⊥
no_bytes [] more e = cc
no_bytes (byte ∷ raw) more e = cc

feeds_end : (raws : List (List ℕ)) (rest : List ℕ) (words : List Word) → with_feeds raws ++ rest ≡ [] → AreHeard raws words → words ≡ []
feeds_end [] rest words e heard = heard
feeds_end (raw ∷ raws) rest words e heard = absurd (no_bytes raw (with_feeds raws ++ rest) (sym (append_assoc raw (10 ∷ with_feeds raws) rest) ∙ e))

-- the bytes of a line, cut before its line feed
cut_line : (line more : List ℕ) → line_of line ++ more ≡ (line ++ 13 ∷ []) ++ 10 ∷ more
cut_line line more = append_assoc line (13 ∷ 10 ∷ []) more ∙ sym (append_assoc line (13 ∷ []) (10 ∷ more))

free_ended : (line : List ℕ) → IsFreeOf 10 line → IsFreeOf 10 (line ++ 13 ∷ [])
free_ended line free = all_both (λ (byte : ℕ). byte ≡ 10 → ⊥) line (13 ∷ []) free (omega arith, tt)

free_parting : (parting : Parting) → IsFreeOf 10 (parting_line parting)
free_parting partings.Over = (omega arith, (omega arith, (omega arith, (omega arith, (omega arith, tt)))))
free_parting partings.Wait = (omega arith, (omega arith, (omega arith, (omega arith, (omega arith, tt)))))
free_parting partings.Other = (omega arith, (omega arith, (omega arith, (omega arith, (omega arith, (omega arith, tt))))))

shown_last : (line : List ℕ) (lines : List (List ℕ)) (shown : Line) (behind words : List Word) → shown.text ≡ line → words ≡ Shows shown ∷ behind → lines ≡ map text_in (lines_of behind)
    → line ∷ lines ≡ map text_in (lines_of words)
shown_last line lines shown behind words text told more =
    ap (λ (ls : List (List ℕ)). line ∷ ls) more ∙ (ap (λ (first : List ℕ). first ∷ map text_in (lines_of behind)) (sym text) ∙ ap (λ (ws : List Word). map text_in (lines_of ws)) (sym told))

shown_first : (line : List ℕ) (lines : List (List ℕ)) (shown : Line) (behind : List Word) (further : List (List ℕ)) (words : List Word) → shown.text ≡ line → words ≡ Shows shown ∷ behind
    → lines ≡ map text_in (lines_of behind) ++ further → line ∷ lines ≡ map text_in (lines_of words) ++ further
shown_first line lines shown behind further words text told more =
    ap (λ (ls : List (List ℕ)). line ∷ ls) more
    ∙ (ap (λ (first : List ℕ). first ∷ (map text_in (lines_of behind) ++ further)) (sym text) ∙ ap (λ (ws : List Word). map text_in (lines_of ws) ++ further) (sym told))

-- the lines that were told are the first of those that were to be
pub record AreFirst (words : List Word) (lines : List (List ℕ)) : Type 0 where
  pub further : List (List ℕ)
  pub joined : lines ≡ map text_in (lines_of words) ++ further

behind_lines : (raw : List ℕ) (raws : List (List ℕ)) (rest : List ℕ) (words : List Word) (parting : Option Parting) → with_feeds (raw ∷ raws) ++ rest ≡ parting_text parting → AreHeard (raw ∷ raws) words
    → lines_of words ≡ []
behind_lines raw raws rest words None e heard = absurd (no_bytes raw (with_feeds raws ++ rest) (sym (append_assoc raw (10 ∷ with_feeds raws) rest) ∙ e))
behind_lines raw raws rest words (Some parting) e heard =
    let whole : raw ++ 10 ∷ (with_feeds raws ++ rest) ≡ (parting_line parting ++ 13 ∷ []) ++ 10 ∷ [] =
    sym (append_assoc raw (10 ∷ with_feeds raws) rest) ∙ (e ∙ (sym (append-nil (line_of (parting_line parting))) ∙ cut_line (parting_line parting) [])) in
    let cut = cut_alike 10 raw (parting_line parting ++ 13 ∷ []) (with_feeds raws ++ rest) [] heard.3 (free_ended (parting_line parting) (free_parting parting)) whole in
    ap lines_of heard.2 ∙ (ap (λ (ws : List Word). lines_of (heard.0 ++ ws)) (feeds_end raws rest heard.1 cut.1 heard.5)
    ∙ (lines_both heard.0 [] ∙ (append-nil (lines_of heard.0) ∙ no_line raw parting cut.0 heard.0 heard.4)))

pub heard_lines : (lines : List (List ℕ)) (parting : Option Parting) (raws : List (List ℕ)) (rest : List ℕ) (words : List Word) → AllByRecursion IsGood lines → with_feeds raws ++ rest ≡ text_of lines ++ parting_text parting
    → AreHeard raws words → AreFirst words lines
heard_lines lines parting [] rest words good e heard = record { further = lines; joined = ap (λ (ws : List Word). map text_in (lines_of ws) ++ lines) (sym heard) }
heard_lines [] parting (raw ∷ raws) rest words good e heard =
    record { further = []; joined = ap (λ (ls : List Line). map text_in ls ++ []) (sym (behind_lines raw raws rest words parting e heard)) }
heard_lines (line ∷ lines) parting (raw ∷ raws) rest words good e heard =
    let behind : List ℕ = text_of lines ++ parting_text parting in
    let whole : raw ++ 10 ∷ (with_feeds raws ++ rest) ≡ (line ++ 13 ∷ []) ++ 10 ∷ behind =
    sym (append_assoc raw (10 ∷ with_feeds raws) rest) ∙ (e ∙ (append_assoc (line_of line) (text_of lines) (parting_text parting) ∙ cut_line line behind)) in
    let cut = cut_alike 10 raw (line ++ 13 ∷ []) (with_feeds raws ++ rest) behind heard.3 (free_ended line good.0.free) whole in
    let one : IsShownAs line heard.0 = one_line raw line good.0 cut.0 heard.0 heard.4 in
    let more : AreFirst heard.1 lines = heard_lines lines parting raws rest heard.1 good.1 cut.1 heard.5 in
    let told : words ≡ Shows one.shown ∷ heard.1 = heard.2 ∙ ap (λ (ws : List Word). ws ++ heard.1) one.own_is in
    record { further = more.further; joined = shown_first line lines one.shown heard.1 more.further words one.text_is told more.joined }

-- ---- that the match is over

not_none : (front : List Word) (word : Word) → [] ≡ front ++ word ∷ [] → ⊥
not_none [] word e = cc
not_none (first ∷ front) word e = cc

-- the first of words that end so
pub record BeginsShown (words : List Word) (shown : Line) (more : List Word) : Type 0 where
  pub behind : List Word
  pub words_are : words ≡ Shows shown ∷ behind
  pub more_are : more ≡ behind ++ Over ∷ []

begins_shown : (words : List Word) (shown : Line) (more : List Word) → words ++ Over ∷ [] ≡ Shows shown ∷ more → BeginsShown words shown more
begins_shown [] shown more e = absurd cc
begins_shown (first ∷ words) shown more e =
    let head : first ≡ Shows shown = cc in
    let tail : words ++ Over ∷ [] ≡ more = cc in
    record { behind = words; words_are = ap (λ (w : Word). w ∷ words) head; more_are = sym tail }

-- all was told that was to be, and then that the match is over
pub record AreAll (words : List Word) (lines : List (List ℕ)) (parting : Option Parting) : Type 0 where
  pub joined : lines ≡ map text_in (lines_of words)
  pub over : parting ≡ Some partings.Over

no_over : (raw : List ℕ) (own : List Word) → Adds raw own → raw ≡ parting_line partings.Other ++ 13 ∷ [] → own ≡ Over ∷ [] → ⊥
no_over raw own (Adds.shows shown is) e f = cc
no_over raw own (Adds.closes text is over) e f =
    let same : codes "#OTHER" ≡ codes "#OVER" = sym (text_same raw text (codes "#OTHER") is e) ∙ over in
    let third : get_or (codes "#OTHER") 2 0 ≡ get_or (codes "#OVER") 2 0 = ap (λ (bytes : List ℕ). get_or bytes 2 0) same in
    absurd (omega (arith, third))
no_over raw own (Adds.nothing text is none not_over) e f = cc

never_over : (raw : List ℕ) (own : List Word) → Adds raw own → raw ≡ parting_line partings.Wait ++ 13 ∷ [] → own ≡ Over ∷ [] → ⊥
never_over raw own (Adds.shows shown is) e f = cc
never_over raw own (Adds.closes text is over) e f =
    let same : codes "#WAIT" ≡ codes "#OVER" = sym (text_same raw text (codes "#WAIT") is e) ∙ over in
    let second : get_or (codes "#WAIT") 1 0 ≡ get_or (codes "#OVER") 1 0 = ap (λ (bytes : List ℕ). get_or bytes 1 0) same in
    absurd (omega (arith, second))
never_over raw own (Adds.nothing text is none not_over) e f = cc

is_over : (raw : List ℕ) (own : List Word) (parting : Parting) → Adds raw own → raw ≡ parting_line parting ++ 13 ∷ [] → own ≡ Over ∷ [] → parting ≡ partings.Over
is_over raw own partings.Over adds e one = refl
is_over raw own partings.Other adds e one = absurd (no_over raw own adds e one)
is_over raw own partings.Wait adds e one = absurd (never_over raw own adds e one)

only_over : (words own : List Word) → words ++ Over ∷ [] ≡ own ++ [] → lines_of own ≡ [] → (lines_of words ≡ []) × (own ≡ words ++ Over ∷ [])
only_over words own e none =
    let same : own ≡ words ++ Over ∷ [] = sym (e ∙ append-nil own) in
    let over : lines_of (words ++ Over ∷ []) ≡ lines_of words = lines_both words (Over ∷ []) ∙ append-nil (lines_of words) in
    (sym over ∙ (ap lines_of (sym same) ∙ none), same)

-- one word alone that doesn't show a line
one_word : (raw : List ℕ) (own : List Word) → Adds raw own → (words : List Word) → own ≡ words ++ Over ∷ [] → own ≡ Over ∷ []
one_word raw own (Adds.shows shown is) [] e = cc
one_word raw own (Adds.shows shown is) (first ∷ words) e = let tail : [] ≡ words ++ Over ∷ [] = cc in absurd (not_none words Over tail)
one_word raw own (Adds.closes text is over) words e = refl
one_word raw own (Adds.nothing text is none not_over) words e = absurd (not_none words Over e)

ends_behind : (raw : List ℕ) (raws : List (List ℕ)) (rest : List ℕ) (words : List Word) (parting : Option Parting) → with_feeds (raw ∷ raws) ++ rest ≡ parting_text parting → AreHeard (raw ∷ raws) (words ++ Over ∷ []) → AreAll words [] parting
ends_behind raw raws rest words None e heard = absurd (no_bytes raw (with_feeds raws ++ rest) (sym (append_assoc raw (10 ∷ with_feeds raws) rest) ∙ e))
ends_behind raw raws rest words (Some parting) e heard =
    let whole : raw ++ 10 ∷ (with_feeds raws ++ rest) ≡ (parting_line parting ++ 13 ∷ []) ++ 10 ∷ [] =
    sym (append_assoc raw (10 ∷ with_feeds raws) rest) ∙ (e ∙ (sym (append-nil (line_of (parting_line parting))) ∙ cut_line (parting_line parting) [])) in
    let cut = cut_alike 10 raw (parting_line parting ++ 13 ∷ []) (with_feeds raws ++ rest) [] heard.3 (free_ended (parting_line parting) (free_parting parting)) whole in
    let told : words ++ Over ∷ [] ≡ heard.0 ++ [] = heard.2 ∙ ap (λ (ws : List Word). heard.0 ++ ws) (feeds_end raws rest heard.1 cut.1 heard.5) in
    let only = only_over words heard.0 told (no_line raw parting cut.0 heard.0 heard.4) in
    let one : heard.0 ≡ Over ∷ [] = one_word raw heard.0 heard.4 words only.1 in
    record { joined = ap (λ (ls : List Line). map text_in ls) (sym only.0); over = ap Some (is_over raw heard.0 parting heard.4 cut.0 one) }

heard_as : (raws : List (List ℕ)) (words others : List Word) → words ≡ others → AreHeard raws words → AreHeard raws others
heard_as raws words others e heard = subst (AreHeard raws) e heard

pub ended_lines : (lines : List (List ℕ)) (parting : Option Parting) (raws : List (List ℕ)) (rest : List ℕ) (words : List Word) → AllByRecursion IsGood lines → with_feeds raws ++ rest ≡ text_of lines ++ parting_text parting
    → AreHeard raws (words ++ Over ∷ []) → AreAll words lines parting
ended_lines lines parting [] rest words good e heard = absurd (not_none words Over (sym heard))
ended_lines [] parting (raw ∷ raws) rest words good e heard = ends_behind raw raws rest words parting e heard
ended_lines (line ∷ lines) parting (raw ∷ raws) rest words good e heard =
    let behind : List ℕ = text_of lines ++ parting_text parting in
    let whole : raw ++ 10 ∷ (with_feeds raws ++ rest) ≡ (line ++ 13 ∷ []) ++ 10 ∷ behind =
    sym (append_assoc raw (10 ∷ with_feeds raws) rest) ∙ (e ∙ (append_assoc (line_of line) (text_of lines) (parting_text parting) ∙ cut_line line behind)) in
    let cut = cut_alike 10 raw (line ++ 13 ∷ []) (with_feeds raws ++ rest) behind heard.3 (free_ended line good.0.free) whole in
    let one : IsShownAs line heard.0 = one_line raw line good.0 cut.0 heard.0 heard.4 in
    let told : words ++ Over ∷ [] ≡ Shows one.shown ∷ heard.1 = heard.2 ∙ ap (λ (ws : List Word). ws ++ heard.1) one.own_is in
    let begins : BeginsShown words one.shown heard.1 = begins_shown words one.shown heard.1 told in
    let more : AreAll begins.behind lines parting = ended_lines lines parting raws rest begins.behind good.1 cut.1 (heard_as raws heard.1 (begins.behind ++ Over ∷ []) begins.more_are heard.5) in
    record { joined = shown_last line lines one.shown begins.behind words one.text_is begins.words_are more.joined; over = more.over }

-- ---- places

own_placed : (raw : List ℕ) (own : List Word) → Adds raw own → AllByRecursion IsPlacedLine (lines_of own)
own_placed raw own (Adds.shows line is) = (is.placed, tt)
own_placed raw own (Adds.closes text is over) = tt
own_placed raw own (Adds.nothing text is none not_over) = tt

pub heard_placed : (raws : List (List ℕ)) (words : List Word) → AreHeard raws words → AllByRecursion IsPlacedLine (lines_of words)
heard_placed [] words heard = subst (λ (ws : List Word). AllByRecursion IsPlacedLine (lines_of ws)) (sym heard) tt
heard_placed (raw ∷ raws) words heard =
    subst (AllByRecursion IsPlacedLine) (sym (ap lines_of heard.2 ∙ lines_both heard.0 heard.1))
    (all_both IsPlacedLine (lines_of heard.0) (lines_of heard.1) (own_placed raw heard.0 heard.4) (heard_placed raws heard.1 heard.5))
