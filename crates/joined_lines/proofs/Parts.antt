-- Where connections bring lines that a seat is told off tables of one match, each brings a part of the seat's lines.
use Rattle.std.proofs.Common.{◌≡◌, ℕ, ◌==◌, Bool, true, false, if◌then◌else◌, List, [], ◌∷◌, ◌++◌, map, refl, sym, ap, ◌∙◌, subst, append_assoc, append-nil, inl, inr}
use Rattle.std.proofs.lemmas.Bool.Decides.{eqb_tells}
use Rattle.std.specs.List.{AllByRecursion}
use Rattle.slot_log.specs.Laws.{CommandsMakeHands}
use Rattle.slot_log.specs.declared.command.Command.{Command}
use Rattle.line_cursor.specs.Past.{PastIsABeginning}
use Rattle.line_cursor.specs.Telling.{CursorsTellTheLines}
use Rattle.seat_relay.specs.Relaying.{Line, Event, Begins, Ends, Tells, Closes, Says, Pushes}
use Rattle.seat_relay.specs.Laws.{Word, Shows, Over, lines_of, words_by, words_behind, words_over, told_over, IsPart, TellParts}
use Rattle.dealer_kind.specs.Kind.{Setting}
use Rattle.dealer_kind.specs.Plans.{IsSetting}
use Rattle.stations.specs.Tables.{ShowsBeginning}
use Rattle.joined_lines.specs.Chosen.{lines_by}
use Rattle.joined_lines.specs.Bringing.{IsOfPlaced, text_in, AreToldFirst}
use Rattle.joined_lines.proofs.Gathering.{all_both, all_front, node_of, AtEach, Brings}
use Rattle.joined_lines.proofs.Told.{IsPlacedLine, part_told}

-- ---- words

pub words_more : (node : ℕ) (before : List Word) (done : List Event) (e : Event) → words_behind node before (done ++ e ∷ []) ≡ words_by node (words_behind node before done) e
words_more node before [] e = refl
words_more node before (d ∷ done) e = words_more node (words_by node before d) done e

-- of another node nothing is told
words_stay : (node : ℕ) (before : List Word) (e : Event) → (node_of e == node) ≡ false → words_by node before e ≡ before
words_stay node before (Begins other) apart = ap (λ (b : Bool). if b then [] else before) apart
words_stay node before (Ends other) apart = refl
words_stay node before (Tells other line) apart = ap (λ (b : Bool). if b then before ++ Shows line ∷ [] else before) apart
words_stay node before (Closes other) apart = ap (λ (b : Bool). if b then before ++ Over ∷ [] else before) apart
words_stay node before (Says text) apart = refl
words_stay node before (Pushes other) apart = refl

pub lines_more : (words : List Word) (line : Line) → lines_of (words ++ Shows line ∷ []) ≡ lines_of words ++ line ∷ []
lines_more [] line = refl
lines_more (Shows first ∷ words) line = ap (λ (ls : List Line). first ∷ ls) (lines_more words line)
lines_more (Over ∷ words) line = lines_more words line

lines_over : (words : List Word) → lines_of (words ++ Over ∷ []) ≡ lines_of words
lines_over [] = refl
lines_over (Shows first ∷ words) = ap (λ (ls : List Line). first ∷ ls) (lines_over words)
lines_over (Over ∷ words) = lines_over words

abbrev ArePlacedIn : List Word → Type 0
ArePlacedIn words = AllByRecursion IsPlacedLine (lines_of words)

if_placed : (b : Bool) (one other : List Word) → ArePlacedIn one → ArePlacedIn other → ArePlacedIn (if b then one else other)
if_placed b one other p q = elim b as (λ (c : Bool). ArePlacedIn (if c then one else other)) [ true ↦ p | false ↦ q ]

placed_by : (node : ℕ) (before : List Word) (e : Event) → ArePlacedIn before → IsOfPlaced e → ArePlacedIn (words_by node before e)
placed_by node before (Begins other) are is = if_placed (other == node) [] before tt are
placed_by node before (Ends other) are is = are
placed_by node before (Tells other line) are is =
    if_placed (other == node) (before ++ Shows line ∷ []) before (subst (AllByRecursion IsPlacedLine) (sym (lines_more before line)) (all_both IsPlacedLine (lines_of before) (line ∷ []) are (is, tt))) are
placed_by node before (Closes other) are is = if_placed (other == node) (before ++ Over ∷ []) before (subst (AllByRecursion IsPlacedLine) (sym (lines_over before)) are) are
placed_by node before (Says text) are is = are
placed_by node before (Pushes other) are is = are

placed_behind : (node : ℕ) (before : List Word) (events : List Event) → ArePlacedIn before → AllByRecursion IsOfPlaced events → ArePlacedIn (words_behind node before events)
placed_behind node before [] are placed = are
placed_behind node before (e ∷ more) are placed = placed_behind node (words_by node before e) more (placed_by node before e are placed.0) placed.1

pub placed_over : (node : ℕ) (events : List Event) → AllByRecursion IsOfPlaced events → AllByRecursion IsPlacedLine (told_over node events)
placed_over node events placed = placed_behind node [] events tt placed

-- ---- parts

module _ (make : CommandsMakeHands) (past : PastIsABeginning) (cursors : CursorsTellTheLines) (setting : Setting) (is : IsSetting setting) (seat : ℕ) (commands : List Command) where
  abbrev IsPartBy : ℕ → List Event → Type 0
  IsPartBy node done = IsPart (told_over node done) (lines_by setting seat commands)

  one_more : (node : ℕ) (done : List Event) (e : Event) → AreToldFirst (ShowsBeginning setting commands) seat (map text_in (told_over (node_of e) (done ++ e ∷ []))) → AllByRecursion IsOfPlaced (done ++ e ∷ [])
      → IsPartBy node done → IsPartBy node (done ++ e ∷ [])
  one_more node done e first placed before = elim (eqb_tells (node_of e) node) as (λ _. IsPartBy node (done ++ e ∷ [])) [
    | inl same ↦
        subst (λ (n : ℕ). IsPartBy n (done ++ e ∷ [])) same.1
        (part_told make past setting is seat commands cursors (told_over (node_of e) (done ++ e ∷ [])) first (placed_over (node_of e) (done ++ e ∷ []) placed))
    | inr other ↦
        subst (λ (words : List Word). IsPart (lines_of words) (lines_by setting seat commands)) (sym (words_more node [] done e ∙ words_stay node (words_over node done) e other.0)) before
  ]

  walk : (node : ℕ) (done front behind : List Event) → AtEach (Brings (ShowsBeginning setting commands) seat) done (front ++ behind) → AllByRecursion IsOfPlaced (done ++ front) → IsPartBy node done → IsPartBy node (done ++ front)
  walk node done [] behind each placed before = subst (IsPartBy node) (sym (append-nil done)) before
  walk node done (e ∷ front) behind each placed before =
      let whole : (done ++ e ∷ []) ++ front ≡ done ++ e ∷ front = append_assoc done (e ∷ []) front in
      let are : AllByRecursion IsOfPlaced ((done ++ e ∷ []) ++ front) = subst (AllByRecursion IsOfPlaced) (sym whole) placed in
      subst (IsPartBy node) whole
      (walk node (done ++ e ∷ []) front behind each.1 are (one_more node done e each.0 (all_front IsOfPlaced (done ++ e ∷ []) front are) before))

  pub tell_parts : (events : List Event) → AtEach (Brings (ShowsBeginning setting commands) seat) [] events → AllByRecursion IsOfPlaced events → TellParts (lines_by setting seat commands) events
  tell_parts events each placed node front behind whole =
      walk node [] front behind (subst (AtEach (Brings (ShowsBeginning setting commands) seat) []) whole each) (all_front IsOfPlaced front behind (subst (AllByRecursion IsOfPlaced) whole placed))
      (record { before = []; behind = lines_by setting seat commands; joined = refl })
