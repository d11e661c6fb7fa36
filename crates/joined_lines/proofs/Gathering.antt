-- The finitely many tables off which lines were told: what holds of all of them holds of all that was told.
use Rattle.std.proofs.Common.{◌≡◌, ℕ, List, [], ◌∷◌, ◌++◌, map, sym, ◌∙◌, subst, append_assoc, append-nil}
use Rattle.std.specs.List.{AllByRecursion}
use Rattle.slot_log.specs.Hand.{Match}
use Rattle.slot_log.specs.declared.command.Command.{Command}
use Rattle.line_cursor.specs.declared.cursor.Cursor.{Cursor}
use Rattle.line_cursor.specs.Cursors.{next_cursor}
use Rattle.seat_relay.specs.Relaying.{Event, Begins, Ends, Tells, Closes, Says, Pushes}
use Rattle.seat_relay.specs.Laws.{told_over}
use Rattle.dealer_kind.specs.Kind.{Setting}
use Rattle.stations.specs.Tables.{ShowsBeginning}
use Rattle.node_seats.specs.Telling.{TellsFrom}
use Rattle.joined_lines.specs.Bringing.{text_in, AreToldFirst, BringToldLines}

-- ---- lists

pub all_both : {A : Type 0} (P : A → Type 0) (xs ys : List A) → AllByRecursion P xs → AllByRecursion P ys → AllByRecursion P (xs ++ ys)
all_both P [] ys p q = q
all_both P (x ∷ xs) ys p q = (p.0, all_both P xs ys p.1 q)

pub all_front : {A : Type 0} (P : A → Type 0) (xs ys : List A) → AllByRecursion P (xs ++ ys) → AllByRecursion P xs
all_front P [] ys p = tt
all_front P (x ∷ xs) ys p = (p.0, all_front P xs ys p.1)

pub all_back : {A : Type 0} (P : A → Type 0) (xs ys : List A) → AllByRecursion P (xs ++ ys) → AllByRecursion P ys
all_back P [] ys p = p
all_back P (x ∷ xs) ys p = all_back P xs ys p.1

-- ---- tables

-- something is so by each list of commands of which each of these tables, all such, shows a beginning
pub record IsGathered (setting : Setting) (such : Match → Type 0) (So : List Command → Type 0) : Type 0 where
  pub tables : List Match
  pub are : AllByRecursion such tables
  pub by : (commands : List Command) → AllByRecursion (ShowsBeginning setting commands) tables → So commands

pub gathered_none : (setting : Setting) (such : Match → Type 0) (So : List Command → Type 0) → ((commands : List Command) → So commands) → IsGathered setting such So
gathered_none setting such So so = record { tables = []; are = tt; by = λ commands shown. so commands }

pub gathered_as : (setting : Setting) (such : Match → Type 0) (So Too : List Command → Type 0) → ((commands : List Command) → So commands → Too commands) → IsGathered setting such So → IsGathered setting such Too
gathered_as setting such So Too change one = record { tables = one.tables; are = one.are; by = λ commands shown. change commands (one.by commands shown) }

pub gathered_both : (setting : Setting) (such : Match → Type 0) (So Too : List Command → Type 0) → IsGathered setting such So → IsGathered setting such Too → IsGathered setting such (λ commands. So commands × Too commands)
gathered_both setting such So Too one other = record {
  tables = one.tables ++ other.tables;
  are = all_both such one.tables other.tables one.are other.are;
  by = λ commands shown.
      (one.by commands (all_front (ShowsBeginning setting commands) one.tables other.tables shown), other.by commands (all_back (ShowsBeginning setting commands) one.tables other.tables shown));
}

pub gathered_one : (setting : Setting) (such : Match → Type 0) (table : Match) → such table → IsGathered setting such (λ commands. ShowsBeginning setting commands table)
gathered_one setting such table is = record { tables = table ∷ []; are = (is, tt); by = λ commands shown. shown.0 }

pub gathered_tells : (setting : Setting) (such : Match → Type 0) (seat : ℕ) (at : Cursor) (texts : List (List ℕ)) (next : Cursor) → TellsFrom such seat at texts next
    → IsGathered setting such (λ commands. TellsFrom (ShowsBeginning setting commands) seat at texts next)
gathered_tells setting such seat at [] next tells = gathered_none setting such (λ commands. TellsFrom (ShowsBeginning setting commands) seat at [] next) (λ commands. tells)
gathered_tells setting such seat at (text ∷ texts) next (table, (is, (told, more))) =
    let rest = gathered_tells setting such seat (next_cursor table.game table.hands at) texts next more in
    record { tables = table ∷ rest.tables; are = (is, rest.are); by = λ commands shown. (table, (shown.0, (told, rest.by commands shown.1))) }

-- ---- connections

-- the node of which something happens
abbrev pub node_of : Event → ℕ
node_of (Begins node) = node
node_of (Ends node) = node
node_of (Tells node line) = node
node_of (Closes node) = node
node_of (Says text) = 0
node_of (Pushes node) = node

-- so it is of each of these events, which follow those that happened
abbrev pub AtEach : (List Event → Event → Type 0) → List Event → List Event → Type 0
AtEach So done [] = Unit {0}
AtEach So done (e ∷ more) = So done e × AtEach So (done ++ e ∷ []) more

pub at_each_more : (So : List Event → Event → Type 0) (done more : List Event) (e : Event) → AtEach So done more → So (done ++ more) e → AtEach So done (more ++ e ∷ [])
at_each_more So done [] e each is = (subst (λ (l : List Event). So l e) (append-nil done) is, tt)
at_each_more So done (d ∷ more) e each is = (each.0, at_each_more So (done ++ d ∷ []) more e each.1 (subst (λ (l : List Event). So l e) (sym (append_assoc done (d ∷ []) more)) is))

pub at_place : (So : List Event → Event → Type 0) (done front behind : List Event) (e : Event) → AtEach So done (front ++ e ∷ behind) → So (done ++ front) e
at_place So done [] behind e each = subst (λ (l : List Event). So l e) (sym (append-nil done)) each.0
at_place So done (d ∷ front) behind e each = subst (λ (l : List Event). So l e) (append_assoc done (d ∷ []) front) (at_place So (done ++ d ∷ []) front behind e each.1)

-- behind it the connection of its node had brought such lines
abbrev pub Brings : (Match → Type 0) → ℕ → List Event → Event → Type 0
Brings such seat done e = AreToldFirst such seat (map text_in (told_over (node_of e) (done ++ e ∷ [])))

pub bring_each : (such : Match → Type 0) (seat : ℕ) (done more : List Event) → BringToldLines such seat (done ++ more) → AtEach (Brings such seat) done more
bring_each such seat done [] brings = tt
bring_each such seat done (e ∷ more) brings =
    let whole : done ++ e ∷ more ≡ (done ++ e ∷ []) ++ more = sym (append_assoc done (e ∷ []) more) in
    (brings (node_of e) (done ++ e ∷ []) more whole, bring_each such seat (done ++ e ∷ []) more (λ node front behind is. brings node front behind (whole ∙ is)))

pub gathered_first : (setting : Setting) (such : Match → Type 0) (seat : ℕ) (texts : List (List ℕ)) → AreToldFirst such seat texts → IsGathered setting such (λ commands. AreToldFirst (ShowsBeginning setting commands) seat texts)
gathered_first setting such seat texts first =
    gathered_as setting such (λ commands. TellsFrom (ShowsBeginning setting commands) seat first.start (texts ++ first.further) first.next) (λ commands. AreToldFirst (ShowsBeginning setting commands) seat texts)
    (λ commands tells. record { start = first.start; next = first.next; further = first.further; told = tells })
    (gathered_tells setting such seat first.start (texts ++ first.further) first.next first.told)

pub gathered_each : (setting : Setting) (such : Match → Type 0) (seat : ℕ) (done more : List Event) → AtEach (Brings such seat) done more
    → IsGathered setting such (λ commands. AtEach (Brings (ShowsBeginning setting commands) seat) done more)
gathered_each setting such seat done [] each = gathered_none setting such (λ commands. Unit {0}) (λ commands. tt)
gathered_each setting such seat done (e ∷ more) each =
    gathered_both setting such (λ commands. Brings (ShowsBeginning setting commands) seat done e) (λ commands. AtEach (Brings (ShowsBeginning setting commands) seat) (done ++ e ∷ []) more)
    (gathered_first setting such seat (map text_in (told_over (node_of e) (done ++ e ∷ []))) each.0) (gathered_each setting such seat (done ++ e ∷ []) more each.1)
