-- What nodes are told comes from the bot.
use Rattle.std.proofs.Common.{◌≡◌, ℕ, ◌==◌, Bool, true, false, if◌then◌else◌, List, [], ◌∷◌, ◌++◌, append_assoc, Option, Some, None, IfSome, option_to_list, refl, ap, sym, subst, ◌∙◌}
use Rattle.std.specs.List.{AllByRecursion}
use Rattle.game_def.specs.Game.{Game}
use Rattle.matchstate.specs.Free.{IsFreeOf}
use Rattle.seat_relay.specs.Relaying.{Standing, Event, Begins, Ends, Tells, Closes, Says, Pushes, happens, answered, is_news, is_taken, has_told, is_kept, is_even, link_at, with_news, with_old, with_over, with_answer, with_link}
use Rattle.seat_relay.specs.declared.link.Link.TheVariants.{Said as WasSaid}
use Rattle.seat_relay.specs.Laws.{fresh, AnswersAreCurrent}
use Rattle.node_wires.specs.Passages.{Passage}
use Rattle.relay_runs.specs.declared.desk.Desk.{Desk}
use Rattle.relay_runs.specs.Said.{said_over, over_by, over_behind}
use Rattle.relay_runs.specs.Heard.{with_feeds, IsSaidFor, AddsSaid, AreSaid, sayings_in}
use Rattle.relay_runs.specs.Told.{CameFromBot, WasCurrent, IsAnswer, AnswersCame}
use Rattle.relay_runs.specs.Course.{Course}
use Rattle.relay_runs.proofs.Courses.{courses_explain, feeds_joined, one_behind}
use Rattle.relay_runs.proofs.Newest.{over_current}

-- ---- all of a list

all_joined : (P : List ℕ → Type 0) (first second : List (List ℕ)) → AllByRecursion P first → AllByRecursion P second → AllByRecursion P (first ++ second)
all_joined P [] second one two = two
all_joined P (text ∷ first) second one two = (one.0, all_joined P first second one.1 two)

all_so : (P Q : List ℕ → Type 0) → ((text : List ℕ) → P text → Q text) → (texts : List (List ℕ)) → AllByRecursion P texts → AllByRecursion Q texts
all_so P Q so [] all = tt
all_so P Q so (text ∷ texts) all = (so text all.0, all_so P Q so texts all.1)

-- ---- answers are what the bot says

kept_so : (P : List ℕ → Type 0) (s : Standing) (e : Event) → IfSome s.kept P → AllByRecursion P (sayings_in (e ∷ [])) → IfSome (happens s e).kept P
unfolding happens
kept_so P s (Begins node) kept said = kept
kept_so P s (Ends node) kept said = kept
kept_so P s (Tells node line) kept said =
    elim (is_taken s.mode.newest s.last (link_at s.links node) line.place) as (λ (b : Bool). IfSome (if b then (if is_news s.last line then with_news s node line else with_old s node line) else s).kept P) [
      | true ↦ elim (is_news s.last line) as (λ (b : Bool). IfSome (if b then with_news s node line else with_old s node line).kept P) [ true ↦ tt | false ↦ kept ]
      | false ↦ kept
    ]
kept_so P s (Closes node) kept said = elim (has_told (link_at s.links node)) as (λ (b : Bool). IfSome (if b then with_over s else s).kept P) [ true ↦ kept | false ↦ kept ]
kept_so P s (Says text) kept said = elim (is_kept s text) as (λ (b : Bool). IfSome (if b then with_answer s text else s).kept P) [ true ↦ said.0 | false ↦ kept ]
kept_so P s (Pushes node) kept said = elim (is_even (link_at s.links node)) as (λ (b : Bool). IfSome (if b then with_link s node WasSaid else s).kept P) [ true ↦ kept | false ↦ kept ]

all_kept : (P : List ℕ → Type 0) (kept : Option (List ℕ)) → IfSome kept P → AllByRecursion P (option_to_list kept)
all_kept P None is = tt
all_kept P (Some text) is = (is, tt)

over_so : (P : List ℕ → Type 0) (node : ℕ) (s : Standing) (before : List (List ℕ)) (e : Event) → AllByRecursion P before → IfSome s.kept P → AllByRecursion P (over_by node s before e)
unfolding answered
over_so P node s before (Begins other) all kept = elim (other == node) as (λ (b : Bool). AllByRecursion P (if b then [] else before)) [ true ↦ tt | false ↦ all ]
over_so P node s before (Ends other) all kept = all
over_so P node s before (Tells other line) all kept = all
over_so P node s before (Closes other) all kept = all
over_so P node s before (Says text) all kept = all
over_so P node s before (Pushes other) all kept =
    let own : AllByRecursion P (if is_even (link_at s.links other) then option_to_list s.kept else []) =
    elim (is_even (link_at s.links other)) as (λ (b : Bool). AllByRecursion P (if b then option_to_list s.kept else [])) [ true ↦ all_kept P s.kept kept | false ↦ tt ] in
    elim (other == node) as (λ (b : Bool). AllByRecursion P (if b then before ++ (if is_even (link_at s.links other) then option_to_list s.kept else []) else before)) [
      | true ↦ all_joined P before (if is_even (link_at s.links other) then option_to_list s.kept else []) all own
      | false ↦ all
    ]

first_said : (P : List ℕ → Type 0) (e : Event) (more : List Event) → AllByRecursion P (sayings_in (e ∷ more)) → AllByRecursion P (sayings_in (e ∷ [])) × AllByRecursion P (sayings_in more)
first_said P (Begins node) more said = (tt, said)
first_said P (Ends node) more said = (tt, said)
first_said P (Tells node line) more said = (tt, said)
first_said P (Closes node) more said = (tt, said)
first_said P (Says text) more said = ((said.0, tt), said.1)
first_said P (Pushes node) more said = (tt, said)

answers_so : (P : List ℕ → Type 0) (node : ℕ) (s : Standing) (before : List (List ℕ)) (events : List Event) → AllByRecursion P before → IfSome s.kept P → AllByRecursion P (sayings_in events)
    → AllByRecursion P (over_behind node s before events)
unfolding over_behind
answers_so P node s before [] all kept said = all
answers_so P node s before (e ∷ more) all kept said =
    let both = first_said P e more said in
    answers_so P node (happens s e) (over_by node s before e) more (over_so P node s before e all kept) (kept_so P s e kept both.0) both.1

-- ---- what the bot says came over its connection

record IsOf (mended : Option Game) (raws : List (List ℕ)) (text : List ℕ) : Type 0 where
  before : List (List ℕ)
  raw : List ℕ
  behind : List (List ℕ)
  parts : raws ≡ before ++ raw ∷ behind
  free : IsFreeOf 10 raw
  said_for : IsSaidFor mended raw text

own_said : (mended : Option Game) (raw : List ℕ) (more : List (List ℕ)) (old new : Bool) (own : List (List ℕ)) → IsFreeOf 10 raw → AddsSaid mended raw old new own → AllByRecursion (IsOf mended (raw ∷ more)) own
own_said mended raw more old new own free (AddsSaid.passed seated is) = tt
own_said mended raw more old new own free (AddsSaid.greets text is version) = tt
own_said mended raw more old new own free (AddsSaid.says one heard meant) = (record { before = []; raw = raw; behind = more; parts = refl; free = free; said_for = meant }, tt)

all_said : (mended : Option Game) (old : Bool) (raws : List (List ℕ)) (new : Bool) (said : List (List ℕ)) → AreSaid mended old raws new said → AllByRecursion (IsOf mended raws) said
all_said mended old [] new said none = subst (AllByRecursion (IsOf mended [])) (sym none.1) tt
all_said mended old (raw ∷ more) new said h =
    let P : List ℕ → Type 0 = IsOf mended (raw ∷ more) in
    let later : AllByRecursion P h.1 =
    all_so (IsOf mended more) P (λ text is. record { before = raw ∷ is.before; raw = is.raw; behind = is.behind; parts = ap (λ (l : List (List ℕ)). raw ∷ l) is.parts; free = is.free; said_for = is.said_for }) h.1
    (all_said mended h.2 more new h.1 h.6) in
    subst (AllByRecursion P) (sym h.3) (all_joined P h.0 h.1 (own_said mended raw more old h.2 h.0 h.4 h.5) later)

came_from_bot : (desk : Desk) (passed : List Passage) → Course desk passed → (node : ℕ) → AllByRecursion (CameFromBot desk.mended passed) (said_over node desk.relay)
came_from_bot desk passed course node =
    let h = (courses_explain desk passed course).heard.bot in
    let so : (text : List ℕ) → IsOf desk.mended h.raws text → CameFromBot desk.mended passed text = λ text is. record {
      raws = is.before;
      raw = is.raw;
      rest = with_feeds is.behind ++ (h.passed_over ++ desk.from_bot.waiting);
      came = h.whole ∙ (ap (λ (l : List ℕ). l ++ (h.passed_over ++ desk.from_bot.waiting))
          (ap with_feeds (is.parts ∙ one_behind is.before is.raw is.behind) ∙ feeds_joined (is.before ++ is.raw ∷ []) is.behind)
          ∙ append_assoc (with_feeds (is.before ++ is.raw ∷ [])) (with_feeds is.behind) (h.passed_over ++ desk.from_bot.waiting));
      free = is.free;
      said_for = is.said_for;
    } in
    answers_so (CameFromBot desk.mended passed) node (fresh desk.relay.mode desk.relay.nodes) [] desk.relay.events tt tt
    (all_so (IsOf desk.mended h.raws) (CameFromBot desk.mended passed) so (sayings_in desk.relay.events) (all_said desk.mended false h.raws desk.is_seated (sayings_in desk.relay.events) h.texts))

-- ---- together

all_both : (P Q R : List ℕ → Type 0) → ((text : List ℕ) → P text → Q text → R text) → (texts : List (List ℕ)) → AllByRecursion P texts → AllByRecursion Q texts → AllByRecursion R texts
all_both P Q R both [] one two = tt
all_both P Q R both (text ∷ texts) one two = (both text one.0 two.0, all_both P Q R both texts one.1 two.1)

pub answers_came : AnswersAreCurrent → AnswersCame
answers_came law desk passed course node =
    all_both (CameFromBot desk.mended passed) (WasCurrent desk.relay.mode desk.relay.nodes desk.relay.events node) (IsAnswer desk passed node) (λ text came current. record { came = came; current = current })
    (said_over node desk.relay) (came_from_bot desk passed course node) (over_current law desk.relay.mode desk.relay.nodes node desk.relay.events)
