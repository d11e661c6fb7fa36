-- Where first answers are to stand, they do.
use Rattle.std.proofs.Common.{◌≡◌, ℕ, Bool, true, false, not, ◌&&◌, if◌then◌else◌, List, [], ◌∷◌, ◌++◌, Option, Some, refl, sym, ap, ◌∙◌, subst}
use Rattle.std.specs.List.{AllByRecursion}
use Rattle.std.specs.Prelude.{option_to_list}
use Rattle.seat_relay.specs.declared.link.Link.TheVariants.{Apart, Begun, Said as WasSaid}
use Rattle.seat_relay.specs.Relaying.{Line, Standing, Event, Begins, Ends, Tells, Closes, Says, Pushes, link_at, is_even, is_news, is_taken, has_told, echoes, stands, with_news, with_old, with_over, with_answer, with_link, happens, answered, given, all_given, after}
use Rattle.seat_relay.specs.Laws.{Said, said_with, all_said, IsText, FirstAnswersStand}

-- ---- while an answer stands, nothing is kept

never_kept : (echoed first_stands : Bool) (kept : Option (List ℕ)) (answer : List ℕ) → first_stands ≡ true → kept ≡ Some answer → (echoed && not (stands first_stands kept)) ≡ false
never_kept false first_stands kept answer first is = refl
never_kept true first_stands kept answer first is = ap not (ap (stands first_stands) is ∙ first)

-- ---- what is said is the answer

texts_are : (last : Option Line) (kept : Option (List ℕ)) (answer : List ℕ) (b : Bool) → kept ≡ Some answer → AllByRecursion (IsText answer) (said_with last (if b then option_to_list kept else []))
texts_are last kept answer false is = tt
texts_are last kept answer true is = subst (λ (k : Option (List ℕ)). AllByRecursion (IsText answer) (said_with last (option_to_list k))) (sym is) (refl, tt)

both_all : (answer : List ℕ) (one two : List Said) → AllByRecursion (IsText answer) one → AllByRecursion (IsText answer) two → AllByRecursion (IsText answer) (one ++ two)
both_all answer [] two f g = g
both_all answer (said ∷ one) two f g = (f.0, both_all answer one two f.1 g)

-- it stands, and is all that is said
abbrev Stays : Standing → List ℕ → List Event → Type 0
Stays s answer events = all_given s events ≡ [] → ((after s events).kept ≡ Some answer) × AllByRecursion (IsText answer) (all_said s events)

pub first_answers_stand : FirstAnswersStand
unfolding happens answered all_said all_given after given
first_answers_stand s answer [] first kept none = (kept, tt)
first_answers_stand s answer (Begins node ∷ more) first kept none = first_answers_stand (with_link s node Begun) answer more first kept none
first_answers_stand s answer (Ends node ∷ more) first kept none = first_answers_stand (with_link s node Apart) answer more first kept none
first_answers_stand s answer (Tells node line ∷ more) first kept none =
    (elim (is_taken s.mode.newest s.last (link_at s.links node) line.place) as (λ (taken : Bool). ((if taken && is_news s.last line then line ∷ [] else [])
    ++ all_given (if taken then (if is_news s.last line then with_news s node line else with_old s node line) else s) more ≡ [])
    → ((after (if taken then (if is_news s.last line then with_news s node line else with_old s node line) else s) more).kept ≡ Some answer)
    × AllByRecursion (IsText answer) (all_said (if taken then (if is_news s.last line then with_news s node line else with_old s node line) else s) more)) [
      | true ↦ elim (is_news s.last line) as (λ (news : Bool). ((if news then line ∷ [] else []) ++ all_given (if news then with_news s node line else with_old s node line) more ≡ [])
          → ((after (if news then with_news s node line else with_old s node line) more).kept ≡ Some answer)
          × AllByRecursion (IsText answer) (all_said (if news then with_news s node line else with_old s node line) more)) [
            | true ↦ λ some. absurd cc
            | false ↦ λ no. first_answers_stand (with_old s node line) answer more first kept no
          ]
      | false ↦ λ no. first_answers_stand s answer more first kept no
    ]) none
first_answers_stand s answer (Closes node ∷ more) first kept none =
    (elim (has_told (link_at s.links node)) as (λ (b : Bool). Stays (if b then with_over s else s) answer more) [
      | true ↦ λ no. first_answers_stand (with_over s) answer more first kept no
      | false ↦ λ no. first_answers_stand s answer more first kept no
    ]) none
first_answers_stand s answer (Says text ∷ more) first kept none =
    subst (λ (b : Bool). Stays (if b then with_answer s text else s) answer more) (sym (never_kept (echoes s.last text) s.mode.first_stands s.kept answer first kept))
    (λ no. first_answers_stand s answer more first kept no) none
first_answers_stand s answer (Pushes node ∷ more) first kept none =
    let rest : ((after (happens s (Pushes node)) more).kept ≡ Some answer) × AllByRecursion (IsText answer) (all_said (happens s (Pushes node)) more) =
    (elim (is_even (link_at s.links node)) as (λ (b : Bool). Stays (if b then with_link s node WasSaid else s) answer more) [
      | true ↦ λ no. first_answers_stand (with_link s node WasSaid) answer more first kept no
      | false ↦ λ no. first_answers_stand s answer more first kept no
    ]) none in
    (rest.0, both_all answer (said_with s.last (answered s (Pushes node))) (all_said (happens s (Pushes node)) more) (texts_are s.last s.kept answer (is_even (link_at s.links node)) kept) rest.1)
