-- What one event more adds to what a bot is given, and to what a node is answered.
use Rattle.std.proofs.Common.{◌≡◌, ℕ, ◌+◌, ◌==◌, Bool, true, false, if◌then◌else◌, List, [], ◌∷◌, ◌++◌, append_assoc, append-nil, Option, Some, refl, ap, sym, ◌∙◌, arith}
use Rattle.seat_relay.specs.Relaying.{Line, Standing, Event, Begins, Ends, Tells, Closes, Says, Pushes, happens, after, answered, given, all_given}
use Rattle.seat_relay.specs.Laws.{begun}
use Rattle.relay_runs.specs.Said.{ended, bytes_of_lines, bytes_of_answers, asks, asked_by, asked_behind, over_by, over_behind, begins_at}

pub given_more : (s : Standing) (events : List Event) (e : Event) → all_given s (events ++ e ∷ []) ≡ all_given s events ++ given (after s events) e
unfolding after all_given
given_more s [] e = append-nil (given s e)
given_more s (x ∷ more) e =
    ap (λ (ls : List Line). given s x ++ ls) (given_more (happens s x) more e) ∙ sym (append_assoc (given s x) (all_given (happens s x) more) (given (after (happens s x) more) e))

pub over_more : (node : ℕ) (s : Standing) (before : List (List ℕ)) (events : List Event) (e : Event) → over_behind node s before (events ++ e ∷ []) ≡ over_by node (after s events) (over_behind node s before events) e
unfolding after over_behind
over_more node s before [] e = refl
over_more node s before (x ∷ more) e = over_more node (happens s x) (over_by node s before x) more e

-- from where on a node is asked to tell, after one event more
pub asked_more : (node : ℕ) (s : Standing) (before : Option (List ℕ)) (events : List Event) (e : Event) → asked_behind node s before (events ++ e ∷ []) ≡ asked_by node (after s events) (asked_behind node s before events) e
unfolding after asked_behind
asked_more node s before [] e = refl
asked_more node s before (x ∷ more) e = asked_more node (happens s x) (asked_by node s before x) more e

-- where a connection begins by it
pub asked_begins : (node : ℕ) (s : Standing) (before : Option (List ℕ)) (e : Event) → begins_at node e ≡ true → asked_by node s before e ≡ Some (asks s)
asked_begins node s before (Begins other) is_it =
    (elim (other == node) as (λ (b : Bool). b ≡ true → (if b then Some (asks s) else before) ≡ Some (asks s)) [ true ↦ λ y. refl | false ↦ λ y. absurd cc ]) is_it
asked_begins node s before (Ends other) is_it = absurd cc
asked_begins node s before (Tells other line) is_it = absurd cc
asked_begins node s before (Closes other) is_it = absurd cc
asked_begins node s before (Says text) is_it = absurd cc
asked_begins node s before (Pushes other) is_it = absurd cc

-- and where none does
pub asked_stays : (node : ℕ) (s : Standing) (before : Option (List ℕ)) (e : Event) → begins_at node e ≡ false → asked_by node s before e ≡ before
asked_stays node s before (Begins other) isnt =
    (elim (other == node) as (λ (b : Bool). b ≡ false → (if b then Some (asks s) else before) ≡ before) [ true ↦ λ n. absurd cc | false ↦ λ n. refl ]) isnt
asked_stays node s before (Ends other) isnt = refl
asked_stays node s before (Tells other line) isnt = refl
asked_stays node s before (Closes other) isnt = refl
asked_stays node s before (Says text) isnt = refl
asked_stays node s before (Pushes other) isnt = refl

-- how many have begun
pub begun_more : (node : ℕ) (events : List Event) (e : Event) → begun node (events ++ e ∷ []) ≡ begun node events + (if begins_at node e then 1 else 0)
begun_more node [] (Begins other) = omega arith
begun_more node [] (Ends other) = refl
begun_more node [] (Tells other line) = refl
begun_more node [] (Closes other) = refl
begun_more node [] (Says text) = refl
begun_more node [] (Pushes other) = refl
begun_more node (Begins one ∷ more) e = let h : begun node (more ++ e ∷ []) ≡ begun node more + (if begins_at node e then 1 else 0) = begun_more node more e in omega arith
begun_more node (Ends one ∷ more) e = begun_more node more e
begun_more node (Tells one line ∷ more) e = begun_more node more e
begun_more node (Closes one ∷ more) e = begun_more node more e
begun_more node (Says text ∷ more) e = begun_more node more e
begun_more node (Pushes one ∷ more) e = begun_more node more e

pub lines_more : (first second : List Line) → bytes_of_lines (first ++ second) ≡ bytes_of_lines first ++ bytes_of_lines second
lines_more [] second = refl
lines_more (line ∷ first) second = ap (λ (b : List ℕ). ended line.text ++ b) (lines_more first second) ∙ sym (append_assoc (ended line.text) (bytes_of_lines first) (bytes_of_lines second))

pub answers_more : (first second : List (List ℕ)) → bytes_of_answers (first ++ second) ≡ bytes_of_answers first ++ bytes_of_answers second
answers_more [] second = refl
answers_more (answer ∷ first) second = ap (λ (b : List ℕ). ended answer ++ b) (answers_more first second) ∙ sym (append_assoc (ended answer) (bytes_of_answers first) (bytes_of_answers second))

-- the answer that an event says to a node
abbrev pub more_over : ℕ → Standing → Event → List (List ℕ)
more_over node s (Begins other) = []
more_over node s (Ends other) = []
more_over node s (Tells other line) = []
more_over node s (Closes other) = []
more_over node s (Says text) = []
more_over node s (Pushes other) = if other == node then answered s (Pushes other) else []

pub over_is : (node : ℕ) (s : Standing) (before : List (List ℕ)) (e : Event) → begins_at node e ≡ false → over_by node s before e ≡ before ++ more_over node s e
over_is node s before (Begins other) isnt =
    (elim (other == node) as (λ (b : Bool). b ≡ false → (if b then [] else before) ≡ before ++ []) [ true ↦ λ n. absurd cc | false ↦ λ n. sym (append-nil before) ]) isnt
over_is node s before (Ends other) isnt = sym (append-nil before)
over_is node s before (Tells other line) isnt = sym (append-nil before)
over_is node s before (Closes other) isnt = sym (append-nil before)
over_is node s before (Says text) isnt = sym (append-nil before)
over_is node s before (Pushes other) isnt =
    elim (other == node) as (λ (b : Bool). (if b then before ++ answered s (Pushes other) else before) ≡ before ++ (if b then answered s (Pushes other) else [])) [ true ↦ refl | false ↦ sym (append-nil before) ]

pub over_begins : (node : ℕ) (s : Standing) (before : List (List ℕ)) (e : Event) → begins_at node e ≡ true → over_by node s before e ≡ []
over_begins node s before (Begins other) is_it =
    (elim (other == node) as (λ (b : Bool). b ≡ true → (if b then [] else before) ≡ []) [ true ↦ λ y. refl | false ↦ λ y. absurd cc ]) is_it
over_begins node s before (Ends other) is_it = absurd cc
over_begins node s before (Tells other line) is_it = absurd cc
over_begins node s before (Closes other) is_it = absurd cc
over_begins node s before (Says text) is_it = absurd cc
over_begins node s before (Pushes other) is_it = absurd cc
