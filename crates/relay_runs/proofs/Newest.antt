-- An answer is said while its line is the newest.
use Rattle.std.proofs.Common.{◌≡◌, ◌⊎◌, ℕ, ◌==◌, ◌&&◌, Bool, true, false, if◌then◌else◌, List, [], ◌∷◌, ◌++◌, append_assoc, append-nil, inl, inr, Option, Some, None, refl, ap, sym, subst, ◌∙◌}
use Rattle.std.proofs.lemmas.Bool.{cases_eq, ne_eqb, eq-eqb}
use Rattle.std.specs.List.{AllByRecursion}
use Rattle.seat_relay.specs.declared.mode.Mode.{Mode}
use Rattle.seat_relay.specs.Relaying.{Line, Standing, Event, Begins, Ends, Tells, Closes, Says, Pushes, happens, answered, after, given, all_given, is_news, is_taken, is_even, has_told, is_kept, link_at, with_news, with_old, with_over, with_answer, with_link}
use Rattle.seat_relay.specs.declared.link.Link.TheVariants.{Said as WasSaid}
use Rattle.seat_relay.specs.Laws.{fresh, Said, said_with, all_said, IsCurrent, AnswersAreCurrent}
use Rattle.relay_runs.specs.Said.{over_by, over_behind}
use Rattle.relay_runs.specs.Told.{WasCurrent}

-- ---- all of a list

all_joined : {A : Type 0} (P : A → Type 0) (first second : List A) → AllByRecursion P first → AllByRecursion P second → AllByRecursion P (first ++ second)
all_joined P [] second one two = two
all_joined P (x ∷ first) second one two = (one.0, all_joined P first second one.1 two)

all_behind : {A : Type 0} (P : A → Type 0) (first second : List A) → AllByRecursion P (first ++ second) → AllByRecursion P second
all_behind P [] second all = all
all_behind P (x ∷ first) second all = all_behind P first second all.1

-- ---- the newest line

-- a bot that was given this line last: behind these events, or before them
abbrev IsLast : Standing → List Event → Line → Type 0
IsLast s front line = ((lines : List Line) × (all_given s front ≡ lines ++ line ∷ [])) ⊎ ((s.last ≡ Some line) × (all_given s front ≡ []))

abbrev line_in : Option Line → Line → Line
line_in None other = other
line_in (Some l) other = l

same_line : (l line : Line) → Some l ≡ Some line → l ≡ line
same_line l line same = ap (λ (o : Option Line). line_in o l) same

last_by : (s : Standing) (x : Event) (more : List Event) (line : Line) → IsLast (happens s x) more line → IsLast s (x ∷ more) line
unfolding happens all_given
last_by s x more line (inl is) = inl (given s x ++ is.0, ap (λ (ls : List Line). given s x ++ ls) is.1 ∙ sym (append_assoc (given s x) is.0 (line ∷ [])))
last_by s (Begins node) more line (inr is) = inr is
last_by s (Ends node) more line (inr is) = inr is
last_by s (Tells node l) more line (inr is) =
    (elim (is_taken s.mode.newest s.last (link_at s.links node) l.place) as (λ (t : Bool). (if t then (if is_news s.last l then with_news s node l else with_old s node l) else s).last ≡ Some line
    → all_given (if t then (if is_news s.last l then with_news s node l else with_old s node l) else s) more ≡ []
    → ((lines : List Line) × ((if t && is_news s.last l then l ∷ [] else []) ++ all_given (if t then (if is_news s.last l then with_news s node l else with_old s node l) else s) more ≡ lines ++ line ∷ []))
    ⊎ ((s.last ≡ Some line) × ((if t && is_news s.last l then l ∷ [] else []) ++ all_given (if t then (if is_news s.last l then with_news s node l else with_old s node l) else s) more ≡ []))) [
      | true ↦ elim (is_news s.last l) as (λ (b : Bool). (if b then with_news s node l else with_old s node l).last ≡ Some line → all_given (if b then with_news s node l else with_old s node l) more ≡ []
          → ((lines : List Line) × ((if b then l ∷ [] else []) ++ all_given (if b then with_news s node l else with_old s node l) more ≡ lines ++ line ∷ []))
          ⊎ ((s.last ≡ Some line) × ((if b then l ∷ [] else []) ++ all_given (if b then with_news s node l else with_old s node l) more ≡ []))) [
            | true ↦ λ same none. inl ([], ap (λ (ls : List Line). l ∷ ls) none ∙ ap (λ (one : Line). one ∷ []) (same_line l line same))
            | false ↦ λ same none. inr (same, none)
          ]
      | false ↦ λ same none. inr (same, none)
    ]) is.0 is.1
last_by s (Closes node) more line (inr is) =
    (elim (has_told (link_at s.links node)) as (λ (b : Bool). (if b then with_over s else s).last ≡ Some line → all_given (if b then with_over s else s) more ≡ []
    → ((lines : List Line) × (all_given (if b then with_over s else s) more ≡ lines ++ line ∷ [])) ⊎ ((s.last ≡ Some line) × (all_given (if b then with_over s else s) more ≡ []))) [
      | true ↦ λ same none. inr (same, none)
      | false ↦ λ same none. inr (same, none)
    ]) is.0 is.1
last_by s (Says text) more line (inr is) =
    (elim (is_kept s text) as (λ (b : Bool). (if b then with_answer s text else s).last ≡ Some line → all_given (if b then with_answer s text else s) more ≡ []
    → ((lines : List Line) × (all_given (if b then with_answer s text else s) more ≡ lines ++ line ∷ [])) ⊎ ((s.last ≡ Some line) × (all_given (if b then with_answer s text else s) more ≡ []))) [
      | true ↦ λ same none. inr (same, none)
      | false ↦ λ same none. inr (same, none)
    ]) is.0 is.1
last_by s (Pushes node) more line (inr is) =
    (elim (is_even (link_at s.links node)) as (λ (b : Bool). (if b then with_link s node WasSaid else s).last ≡ Some line → all_given (if b then with_link s node WasSaid else s) more ≡ []
    → ((lines : List Line) × (all_given (if b then with_link s node WasSaid else s) more ≡ lines ++ line ∷ [])) ⊎ ((s.last ≡ Some line) × (all_given (if b then with_link s node WasSaid else s) more ≡ []))) [
      | true ↦ λ same none. inr (same, none)
      | false ↦ λ same none. inr (same, none)
    ]) is.0 is.1

is_last : (s : Standing) (front : List Event) (line : Line) → (after s front).last ≡ Some line → IsLast s front line
unfolding after all_given
is_last s [] line same = inr (same, refl)
is_last s (x ∷ more) line same = last_by s x more line (is_last (happens s x) more line same)

no_line : (line : Line) → None ≡ Some line → ⊥
no_line line same = cc

given_last : (mode : Mode) (nodes : ℕ) (front : List Event) (line : Line) → (after (fresh mode nodes) front).last ≡ Some line
    → (lines : List Line) × (all_given (fresh mode nodes) front ≡ lines ++ line ∷ [])
given_last mode nodes front line same =
    elim (is_last (fresh mode nodes) front line same) [
      | inl is ↦ is
      | inr none ↦ absurd (no_line line none.0)
    ]

-- ---- an answer that is said

after_more : (s : Standing) (events : List Event) (e : Event) → after s (events ++ e ∷ []) ≡ happens (after s events) e
unfolding after
after_more s [] e = refl
after_more s (x ∷ more) e = after_more (happens s x) more e

said_more : (s : Standing) (events : List Event) (e : Event) → all_said s (events ++ e ∷ []) ≡ all_said s events ++ said_with (after s events).last (answered (after s events) e)
unfolding after all_said
said_more s [] e = append-nil (said_with s.last (answered s e))
said_more s (x ∷ more) e =
    ap (λ (l : List Said). said_with s.last (answered s x) ++ l) (said_more (happens s x) more e)
    ∙ sym (append_assoc (said_with s.last (answered s x)) (all_said (happens s x) more) (said_with (after (happens s x) more).last (answered (after (happens s x) more) e)))

each_said : (last : Option Line) (texts : List (List ℕ)) (Q : List ℕ → Type 0) → ((text : List ℕ) → IsCurrent (record { last = last; text = text }) → Q text) → AllByRecursion IsCurrent (said_with last texts) → AllByRecursion Q texts
each_said last [] Q so all = tt
each_said last (text ∷ texts) Q so all = (so text all.0, each_said last texts Q so all.1)

own_current : AnswersAreCurrent → (mode : Mode) (nodes node : ℕ) (front more : List Event) → AllByRecursion (WasCurrent mode nodes (front ++ Pushes node ∷ more) node) (answered (after (fresh mode nodes) front) (Pushes node))
own_current law mode nodes node front more =
    let s : Standing = after (fresh mode nodes) front in
    let texts : List (List ℕ) = answered s (Pushes node) in
    let all : AllByRecursion IsCurrent (said_with s.last texts) =
    all_behind IsCurrent (all_said (fresh mode nodes) front) (said_with s.last texts) (subst (AllByRecursion IsCurrent) (said_more (fresh mode nodes) front (Pushes node)) (law mode nodes (front ++ Pushes node ∷ []))) in
    each_said s.last texts (WasCurrent mode nodes (front ++ Pushes node ∷ more) node) (λ text is.
    let found : (lines : List Line) × (all_given (fresh mode nodes) front ≡ lines ++ is.line ∷ []) = given_last mode nodes front is.line is.given_last in
    record { front = front; behind = more; moment = refl; lines = found.0; line = is.line; given_last = found.1; field = is.field; whole = is.whole }) all

-- ---- over the connection of a node

by_one : AnswersAreCurrent → (mode : Mode) (nodes node : ℕ) (front : List Event) (e : Event) (more : List Event) (before : List (List ℕ)) → AllByRecursion (WasCurrent mode nodes (front ++ e ∷ more) node) before
    → AllByRecursion (WasCurrent mode nodes (front ++ e ∷ more) node) (over_by node (after (fresh mode nodes) front) before e)
by_one law mode nodes node front (Begins other) more before all =
    elim (other == node) as (λ (b : Bool). AllByRecursion (WasCurrent mode nodes (front ++ Begins other ∷ more) node) (if b then [] else before)) [ true ↦ tt | false ↦ all ]
by_one law mode nodes node front (Ends other) more before all = all
by_one law mode nodes node front (Tells other line) more before all = all
by_one law mode nodes node front (Closes other) more before all = all
by_one law mode nodes node front (Says text) more before all = all
by_one law mode nodes node front (Pushes other) more before all =
    let s : Standing = after (fresh mode nodes) front in
    let P : ℕ → Type 0 = λ n. AllByRecursion (WasCurrent mode nodes (front ++ Pushes n ∷ more) node) before
    → AllByRecursion (WasCurrent mode nodes (front ++ Pushes n ∷ more) node) (if n == node then before ++ answered s (Pushes n) else before) in
    let here : P node = λ before_all.
    subst (λ (b : Bool). AllByRecursion (WasCurrent mode nodes (front ++ Pushes node ∷ more) node) (if b then before ++ answered s (Pushes node) else before)) (sym (eq-eqb node node refl))
    (all_joined (WasCurrent mode nodes (front ++ Pushes node ∷ more) node) before (answered s (Pushes node)) before_all (own_current law mode nodes node front more)) in
    elim (cases_eq other node) [
      | inl same ↦ subst P (sym same) here all
      | inr differs ↦ subst (λ (b : Bool). AllByRecursion (WasCurrent mode nodes (front ++ Pushes other ∷ more) node) (if b then before ++ answered s (Pushes other) else before)) (sym (ne_eqb other node differs)) all
    ]

over_from : AnswersAreCurrent → (mode : Mode) (nodes node : ℕ) (front events : List Event) (before : List (List ℕ)) → AllByRecursion (WasCurrent mode nodes (front ++ events) node) before
    → AllByRecursion (WasCurrent mode nodes (front ++ events) node) (over_behind node (after (fresh mode nodes) front) before events)
unfolding over_behind
over_from law mode nodes node front [] before all = all
over_from law mode nodes node front (e ∷ more) before all =
    let s : Standing = after (fresh mode nodes) front in
    let next : List (List ℕ) = over_by node s before e in
    let joined : (front ++ e ∷ []) ++ more ≡ front ++ e ∷ more = append_assoc front (e ∷ []) more in
    let one : AllByRecursion (WasCurrent mode nodes (front ++ e ∷ more) node) next = by_one law mode nodes node front e more before all in
    let rest : AllByRecursion (WasCurrent mode nodes ((front ++ e ∷ []) ++ more) node) (over_behind node (after (fresh mode nodes) (front ++ e ∷ [])) next more) =
    over_from law mode nodes node (front ++ e ∷ []) more next (subst (λ (es : List Event). AllByRecursion (WasCurrent mode nodes es node) next) (sym joined) one) in
    subst (λ (n : Standing). AllByRecursion (WasCurrent mode nodes (front ++ e ∷ more) node) (over_behind node n next more)) (after_more (fresh mode nodes) front e)
    (subst (λ (es : List Event). AllByRecursion (WasCurrent mode nodes es node) (over_behind node (after (fresh mode nodes) (front ++ e ∷ [])) next more)) joined rest)

pub over_current : AnswersAreCurrent → (mode : Mode) (nodes node : ℕ) (events : List Event) → AllByRecursion (WasCurrent mode nodes events node) (over_behind node (fresh mode nodes) [] events)
unfolding after
over_current law mode nodes node events = over_from law mode nodes node [] events [] tt
