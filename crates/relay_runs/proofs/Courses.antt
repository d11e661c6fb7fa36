-- What follows of how a relay came to where it stands.
use Rattle.std.proofs.Common.{◌≡◌, ℕ, zero, suc, ◌<◌, Bool, true, false, if◌then◌else◌, List, [], ◌∷◌, ◌++◌, append_assoc, append-nil, Option, Some, None, option_to_list, refl, ap, sym, subst, ◌∙◌, arith}
use Rattle.std.specs.List.{AllByRecursion}
use Rattle.std.proofs.lemmas.Bool.{eq-eqb}
use Rattle.matchstate.specs.Free.{IsFreeOf}
use Rattle.node_wires.specs.declared.line.Line.TheVariants.{Peer}
use Rattle.node_wires.specs.Passages.{Passage, came_over}
use Rattle.seat_relay.specs.Relaying.{Line, Standing, Event, Begins, Ends, Tells, Closes, Says, Pushes, after, given, all_given, is_given}
use Rattle.seat_relay.specs.declared.mode.Mode.{Mode}
use Rattle.seat_relay.specs.Laws.{fresh, Word, Shows, Over, words_over}
use Rattle.relay_runs.specs.declared.desk.Desk.{Desk}
use Rattle.relay_runs.specs.Since.{begun_over}
use Rattle.relay_runs.specs.Said.{waits_at, lines_given}
use Rattle.relay_runs.specs.Heard.{with_feeds, IsLineOf, Adds, AreHeard, IsHeardOf}
use Rattle.relay_runs.specs.Course.{Explains, Course, CoursesExplain, CameFrom, LinesCame}
use Rattle.relay_runs.proofs.Hearing.{words_more}
use Rattle.relay_runs.proofs.Happening.{given_more}

pub courses_explain : CoursesExplain
courses_explain desk passed (Course.begin at story explains) = explains
courses_explain desk passed (Course.step old new passed_old passed_new before next explains) = explains

-- ---- all of a list

all_joined : {A : Type 0} (P : A → Type 0) (first second : List A) → AllByRecursion P first → AllByRecursion P second → AllByRecursion P (first ++ second)
all_joined P [] second one two = two
all_joined P (x ∷ first) second one two = (one.0, all_joined P first second one.1 two)

all_so : {A : Type 0} (P Q : A → Type 0) → ((x : A) → P x → Q x) → (items : List A) → AllByRecursion P items → AllByRecursion Q items
all_so P Q so [] all = tt
all_so P Q so (x ∷ items) all = (so x all.0, all_so P Q so items all.1)

last_of : {A : Type 0} (P : A → Type 0) (items : List A) (x : A) → AllByRecursion P (items ++ x ∷ []) → P x
last_of P [] x all = all.0
last_of P (one ∷ items) x all = last_of P items x all.1

-- ---- a line that was told

-- it is one of these
record IsOf (raws : List (List ℕ)) (line : Line) : Type 0 where
  before : List (List ℕ)
  raw : List ℕ
  behind : List (List ℕ)
  parts : raws ≡ before ++ raw ∷ behind
  free : IsFreeOf 10 raw
  is_line : IsLineOf raw line

abbrev WordIsOf : List (List ℕ) → Word → Type 0
WordIsOf raws (Shows line) = IsOf raws line
WordIsOf raws Over = Unit {0}

word_later : (raw : List ℕ) (more : List (List ℕ)) (word : Word) → WordIsOf more word → WordIsOf (raw ∷ more) word
word_later raw more (Shows line) is = record { before = raw ∷ is.before; raw = is.raw; behind = is.behind; parts = ap (λ (l : List (List ℕ)). raw ∷ l) is.parts; free = is.free; is_line = is.is_line }
word_later raw more Over is = tt

own_heard : (raw : List ℕ) (more : List (List ℕ)) (own : List Word) → IsFreeOf 10 raw → Adds raw own → AllByRecursion (WordIsOf (raw ∷ more)) own
own_heard raw more own free (Adds.shows line is) = (record { before = []; raw = raw; behind = more; parts = refl; free = free; is_line = is }, tt)
own_heard raw more own free (Adds.closes text is_text is) = (tt, tt)
own_heard raw more own free (Adds.nothing text is_text none not_over) = tt

all_heard : (raws : List (List ℕ)) (told : List Word) → AreHeard raws told → AllByRecursion (WordIsOf raws) told
all_heard [] told none = subst (AllByRecursion (WordIsOf [])) (sym none) tt
all_heard (raw ∷ more) told h =
    let P : Word → Type 0 = WordIsOf (raw ∷ more) in
    let later : AllByRecursion P h.1 = all_so (WordIsOf more) P (word_later raw more) h.1 (all_heard more h.1 h.5) in
    subst (AllByRecursion P) (sym h.2) (all_joined P h.0 h.1 (own_heard raw more h.0 h.3 h.4) later)

pub feeds_joined : (first second : List (List ℕ)) → with_feeds (first ++ second) ≡ with_feeds first ++ with_feeds second
feeds_joined [] second = refl
feeds_joined (one ∷ first) second = ap (λ (l : List ℕ). one ++ 10 ∷ l) (feeds_joined first second) ∙ sym (append_assoc one (10 ∷ with_feeds first) (with_feeds second))

pub one_behind : (before : List (List ℕ)) (raw : List ℕ) (behind : List (List ℕ)) → before ++ raw ∷ behind ≡ (before ++ raw ∷ []) ++ behind
one_behind before raw behind = sym (append_assoc before (raw ∷ []) behind)

-- what came over a node's connection, of which nothing came where none began
no_feeds : (raws : List (List ℕ)) (raw rest : List ℕ) → [] ≡ with_feeds (raws ++ raw ∷ []) ++ rest → ⊥
no_feeds [] [] rest came = cc
no_feeds [] (byte ∷ raw) rest came = cc
no_feeds ([] ∷ raws) raw rest came = cc
no_feeds ((byte ∷ one) ∷ raws) raw rest came = cc

some_begun : (n : ℕ) → (n ≡ 0 → ⊥) → 0 < n
some_begun zero isnt = absurd (isnt refl)
some_begun (suc n) isnt = omega arith

came_of : (new : Desk) (passed : List Passage) (events : List Event) (node : ℕ) (line : Line) → new.relay.events ≡ events ++ Tells node line ∷ [] → Explains new passed → CameFrom passed line
came_of new passed events node line story explains =
    let h : IsHeardOf (came_over passed (Peer node)) (waits_at new.from_nodes.items node) (words_over node new.relay.events) = explains.heard.nodes node in
    let told : words_over node new.relay.events ≡ words_over node events ++ Shows line ∷ [] =
    ap (words_over node) story ∙ (words_more node [] events (Tells node line) ∙ ap (λ (t : Bool). if t then words_over node events ++ Shows line ∷ [] else words_over node events) (eq-eqb node node refl)) in
    let is : IsOf h.raws line =
    last_of (WordIsOf h.raws) (words_over node events) (Shows line) (all_heard h.raws (words_over node events ++ Shows line ∷ []) (subst (AreHeard h.raws) told h.heard)) in
    let rest : List ℕ = with_feeds is.behind ++ waits_at new.from_nodes.items node in
    let came : came_over passed (Peer node) ≡ with_feeds (is.before ++ is.raw ∷ []) ++ rest =
    h.whole ∙ (ap (λ (l : List ℕ). l ++ waits_at new.from_nodes.items node)
    (ap with_feeds (is.parts ∙ one_behind is.before is.raw is.behind) ∙ feeds_joined (is.before ++ is.raw ∷ []) is.behind)
    ∙ append_assoc (with_feeds (is.before ++ is.raw ∷ [])) (with_feeds is.behind) (waits_at new.from_nodes.items node)) in
    record {
      front = passed;
      behind = [];
      moment = sym (append-nil passed);
      node = node;
      began = some_begun (begun_over passed (Peer node)) (λ none. no_feeds is.before is.raw rest (sym (explains.own.nothing node none).0 ∙ came));
      raws = is.before;
      raw = is.raw;
      rest = rest;
      came = came;
      free = is.free;
      is_line = is.is_line;
    }

-- ---- step by step

came_still : (x y more : List Passage) → y ≡ x ++ more → (line : Line) → CameFrom x line → CameFrom y line
came_still x y more f line c = record {
  front = c.front;
  behind = c.behind ++ more;
  moment = f ∙ (ap (λ (ps : List Passage). ps ++ more) c.moment ∙ append_assoc c.front c.behind more);
  node = c.node;
  began = c.began;
  raws = c.raws;
  raw = c.raw;
  rest = c.rest;
  came = c.came;
  free = c.free;
  is_line = c.is_line;
}

-- the lines that were given, by one step
given_next : (old new : Desk) (es : List Event) → new.relay.mode ≡ old.relay.mode → new.relay.nodes ≡ old.relay.nodes → new.relay.events ≡ old.relay.events ++ es
    → lines_given new.relay ≡ all_given (fresh old.relay.mode old.relay.nodes) (old.relay.events ++ es)
given_next old new es mode nodes story =
    ap (all_given (fresh new.relay.mode new.relay.nodes)) story
    ∙ (ap (λ (m : Mode). all_given (fresh m new.relay.nodes) (old.relay.events ++ es)) mode ∙ ap (λ (n : ℕ). all_given (fresh old.relay.mode n) (old.relay.events ++ es)) nodes)

-- where it is no event, or one
came_still_given : (old new : Desk) (y : List Passage) → new.relay.mode ≡ old.relay.mode → new.relay.nodes ≡ old.relay.nodes → new.relay.events ≡ old.relay.events ++ []
    → AllByRecursion (CameFrom y) (lines_given old.relay) → AllByRecursion (CameFrom y) (lines_given new.relay)
came_still_given old new y mode nodes story all =
    subst (AllByRecursion (CameFrom y)) (sym (given_next old new [] mode nodes story ∙ ap (all_given (fresh old.relay.mode old.relay.nodes)) (append-nil old.relay.events))) all

came_by : (old new : Desk) (y : List Passage) (e : Event) → new.relay.mode ≡ old.relay.mode → new.relay.nodes ≡ old.relay.nodes → new.relay.events ≡ old.relay.events ++ e ∷ []
    → AllByRecursion (CameFrom y) (lines_given old.relay)
    → AllByRecursion (CameFrom y) (given (after (fresh old.relay.mode old.relay.nodes) old.relay.events) e) → AllByRecursion (CameFrom y) (lines_given new.relay)
came_by old new y e mode nodes story all own =
    let start : Standing = fresh old.relay.mode old.relay.nodes in
    subst (AllByRecursion (CameFrom y)) (sym (given_next old new (e ∷ []) mode nodes story ∙ given_more start old.relay.events e))
    (all_joined (CameFrom y) (all_given start old.relay.events) (given (after start old.relay.events) e) all own)

came_on : (old new : Desk) (y : List Passage) (event : Option Event) → new.relay.mode ≡ old.relay.mode → new.relay.nodes ≡ old.relay.nodes → new.relay.events ≡ old.relay.events ++ option_to_list event → Explains new y
    → AllByRecursion (CameFrom y) (lines_given old.relay) → AllByRecursion (CameFrom y) (lines_given new.relay)
came_on old new y None mode nodes story explains all = came_still_given old new y mode nodes story all
came_on old new y (Some (Begins node)) mode nodes story explains all = came_by old new y (Begins node) mode nodes story all tt
came_on old new y (Some (Ends node)) mode nodes story explains all = came_by old new y (Ends node) mode nodes story all tt
came_on old new y (Some (Tells node line)) mode nodes story explains all =
    came_by old new y (Tells node line) mode nodes story all
    (elim (is_given (after (fresh old.relay.mode old.relay.nodes) old.relay.events) node line) as (λ (t : Bool). AllByRecursion (CameFrom y) (if t then line ∷ [] else [])) [
      | true ↦ (came_of new y old.relay.events node line story explains, tt)
      | false ↦ tt
    ])
came_on old new y (Some (Closes node)) mode nodes story explains all = came_by old new y (Closes node) mode nodes story all tt
came_on old new y (Some (Says text)) mode nodes story explains all = came_by old new y (Says text) mode nodes story all tt
came_on old new y (Some (Pushes node)) mode nodes story explains all = came_by old new y (Pushes node) mode nodes story all tt

none_came : (P : Line → Type 0) (s : Standing) → AllByRecursion P (all_given s [])
unfolding all_given
none_came P s = tt

pub lines_came : LinesCame
lines_came desk passed (Course.begin at story explains) =
    let start : Standing = fresh at.relay.mode at.relay.nodes in
    subst (λ (es : List Event). AllByRecursion (CameFrom []) (all_given start es)) (sym story) (none_came (CameFrom []) start)
lines_came desk passed (Course.step old new x y before next explains) =
    came_on old new y next.event next.mode next.nodes next.happened explains
    (all_so (CameFrom x) (CameFrom y) (came_still x y (option_to_list next.passage) next.passed) (lines_given old.relay) (lines_came old x before))
