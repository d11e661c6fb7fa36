-- What is no line of a seat never becomes one.
use Rattle.std.proofs.Common.{◌≡◌, ◌⊎◌, ℕ, suc, ◌+◌, ◌<◌, ◌≤◌, nat_lt, Bool, true, false, cond, List, [], ◌∷◌, ◌++◌, length, Option, Some, None, refl, sym, ap, ◌∙◌, subst, inl, inr, arith}
use Rattle.std.specs.Option.{option_map}
use Rattle.std.proofs.lemmas.Bool.Decides.{nat_tests}
use Rattle.std.proofs.lemmas.List.Sums.{sum_by-cons, count_by-le-length}
use Rattle.game_def.specs.Game.{Game}
use Rattle.betting.specs.declared.action.Action.{Action}
use Rattle.slot_log.specs.Hand.{Hand}
use Rattle.slot_log.specs.Dealer.{is_finished, finished_count, hands_of, hands_after, reason_of, with_command, act_for}
use Rattle.slot_log.specs.Laws.{CommandsMakeHands}
use Rattle.slot_log.specs.declared.command.Command.{Command}
use Rattle.slot_log.specs.declared.command.Command.TheVariants.{Deal, Act, Away}
use Rattle.slot_log.specs.declared.reason.Reason.{Reason}
use Rattle.matchstate.specs.Line.{line_text}
use Rattle.line_cursor.specs.Past.{hands_at, seen_by, seat_view_at, seat_line_at}
use Rattle.line_cursor.specs.Naming.{IsNamed, OthersStay}
use Rattle.line_cursor.specs.declared.named_line.NamedLine.TheVariants.{Other}
use Rattle.line_cursor.proofs.PastHands.{on_more, behind_fitting}
use Rattle.line_cursor.proofs.Following.{a_hand_runs}
use Rattle.line_cursor.proofs.Found.{IsFoundAt, found_at, HasCome, has_come}
use Rattle.line_cursor.proofs.Names.{IsLineOf, line_of}

abbrev with_one : Hand → Action → Hand
with_one hand action = record { deal = hand.deal; past = action ∷ hand.past }

abbrev AnyHand : Hand → Type 0
AnyHand hand = Unit {0}

abbrev after_by : Option Reason → List Hand → List Hand → List Hand
after_by reason with hands = elim reason [ None ↦ with | Some r ↦ hands ]

is_less : (k n : ℕ) → nat_lt k n ≡ true → k < n
is_less k n h = grind (arith, nat_tests)

not_less : (k n : ℕ) → nat_lt k n ≡ false → n ≤ k
not_less k n h = grind (arith, nat_tests)

none_some : (o : Option (List Hand)) (found : List Hand) → o ≡ None → o ≡ Some found → ⊥
none_some o found e f = cc

-- ---- how many hands are finished

counted : (game : Game) (newest : Hand) (earlier : List Hand) → finished_count game (newest ∷ earlier) ≡ cond (is_finished game newest) 1 0 + finished_count game earlier
counted game newest earlier = sum_by-cons (λ (hand : Hand). cond (is_finished game hand) 1 0) newest earlier

no_fewer : (b : Bool) (n : ℕ) → n ≤ cond b 1 0 + n
no_fewer true n = omega arith
no_fewer false n = omega arith

no_fewer_dealt : (game : Game) (newest : Hand) (earlier : List Hand) → finished_count game earlier ≤ finished_count game (newest ∷ earlier)
no_fewer_dealt game newest earlier =
    let is = counted game newest earlier in
    let more = no_fewer (is_finished game newest) (finished_count game earlier) in
    omega arith

unfinished : (game : Game) (newest : Hand) (earlier : List Hand) → is_finished game newest ≡ false → finished_count game (newest ∷ earlier) ≡ finished_count game earlier
unfinished game newest earlier runs =
    let is = counted game newest earlier in
    let nothing : ◌≡◌ {A = ℕ} (cond (is_finished game newest) 1 0) 0 = ap (λ (b : Bool). cond b 1 0) runs in
    omega (arith, is, nothing)

no_fewer_acted : (game : Game) (newest : Hand) (earlier : List Hand) (action : Action) → is_finished game newest ≡ false
    → finished_count game (newest ∷ earlier) ≤ finished_count game (with_one newest action ∷ earlier)
no_fewer_acted game newest earlier action runs =
    let is = unfinished game newest earlier runs in
    let more = no_fewer_dealt game (with_one newest action) earlier in
    omega arith

no_fewer_fitting : (game : Game) (count : ℕ) (hands : List Hand) (command : Command) → reason_of game count hands command ≡ None
    → finished_count game hands ≤ finished_count game (with_command game hands command)
no_fewer_fitting game count hands (Deal number deal) fits = no_fewer_dealt game (let h : Hand = record { deal = deal; past = [] } in h) hands
no_fewer_fitting game count [] (Act number index action) fits = omega arith
no_fewer_fitting game count (newest ∷ earlier) (Act number index action) fits = no_fewer_acted game newest earlier action (a_hand_runs game count newest earlier number index action fits)
no_fewer_fitting game count [] (Away number index) fits = omega arith
no_fewer_fitting game count (newest ∷ earlier) (Away number index) fits =
    no_fewer_acted game newest earlier (act_for game (newest ∷ earlier)) (a_hand_runs game count newest earlier number index (act_for game (newest ∷ earlier)) fits)

no_fewer_command : (game : Game) (count : ℕ) (hands : List Hand) (command : Command) → finished_count game hands ≤ finished_count game (hands_after game count hands command)
no_fewer_command game count hands command =
    let P : Option Reason → Type 0 = λ o. reason_of game count hands command ≡ o → finished_count game hands ≤ finished_count game (after_by o (with_command game hands command) hands) in
    let step : P (reason_of game count hands command) = elim (reason_of game count hands command) as P [
      | None ↦ λ fits. no_fewer_fitting game count hands command fits
      | Some reason ↦ λ no. omega arith
    ] in
    step refl

no_fewer_after : (game : Game) (count : ℕ) (newer earlier : List Command) → finished_count game (hands_of game count earlier) ≤ finished_count game (hands_of game count (newer ++ earlier))
unfolding hands_of
no_fewer_after game count [] earlier = omega arith
no_fewer_after game count (command ∷ newer) earlier =
    let before = no_fewer_after game count newer earlier in
    let here = no_fewer_command game count (hands_of game count (newer ++ earlier)) command in
    omega arith

-- ---- a finished hand stays as it is

-- the hand that a command changes wasn't finished
newest_was_open : (game : Game) (count : ℕ) (hands : List Hand) (command : Command) (hand : ℕ) → reason_of game count hands command ≡ None
    → length (with_command game hands command) ≡ hand + 1 → finished_count game hands ≤ hand
newest_was_open game count hands (Deal number deal) hand fits long =
    let most = count_by-le-length (is_finished game) hands in
    omega arith
newest_was_open game count [] (Act number index action) hand fits long = absurd (omega (arith, long))
newest_was_open game count (newest ∷ earlier) (Act number index action) hand fits long =
    let is = unfinished game newest earlier (a_hand_runs game count newest earlier number index action fits) in
    let most = count_by-le-length (is_finished game) earlier in
    omega arith
newest_was_open game count [] (Away number index) hand fits long = absurd (omega (arith, long))
newest_was_open game count (newest ∷ earlier) (Away number index) hand fits long =
    let is = unfinished game newest earlier (a_hand_runs game count newest earlier number index (act_for game (newest ∷ earlier)) fits) in
    let most = count_by-le-length (is_finished game) earlier in
    omega arith

closed_fitting : (game : Game) (count : ℕ) (hands : List Hand) (command : Command) (hand actions : ℕ) (found : List Hand) → reason_of game count hands command ≡ None
    → hand < finished_count game hands → hands_at (with_command game hands command) hand actions ≡ Some found → hands_at hands hand actions ≡ Some found
closed_fitting game count hands command hand actions found fits closed e =
    elim (behind_fitting game hands command hand actions found e) [
      | inl same ↦
          let at : IsFoundAt AnyHand (with_command game hands command) hand actions found = found_at AnyHand (with_command game hands command) hand actions found e in
          let long : length (with_command game hands command) ≡ hand + 1 =
          (let one : length found ≡ suc (length at.before) = ap length at.found_is in let two : length found ≡ length (with_command game hands command) = ap length same in let number = at.number in omega arith) in
          let open_yet = newest_was_open game count hands command hand fits long in
          absurd (omega (arith, closed, open_yet))
      | inr before ↦ before
    ]

closed_command : (game : Game) (count : ℕ) (hands : List Hand) (command : Command) (hand actions : ℕ) (found : List Hand) → hand < finished_count game hands
    → hands_at (hands_after game count hands command) hand actions ≡ Some found → hands_at hands hand actions ≡ Some found
closed_command game count hands command hand actions found closed e =
    let P : Option Reason → Type 0 = λ o. reason_of game count hands command ≡ o → hands_at (after_by o (with_command game hands command) hands) hand actions ≡ Some found
    → hands_at hands hand actions ≡ Some found in
    let step : P (reason_of game count hands command) = elim (reason_of game count hands command) as P [
      | None ↦ λ fits h. closed_fitting game count hands command hand actions found fits closed h
      | Some reason ↦ λ no h. h
    ] in
    step refl e

closed_after : (game : Game) (count : ℕ) (newer earlier : List Command) (hand actions : ℕ) (found : List Hand) → hand < finished_count game (hands_of game count earlier)
    → hands_at (hands_of game count (newer ++ earlier)) hand actions ≡ Some found → hands_at (hands_of game count earlier) hand actions ≡ Some found
unfolding hands_of
closed_after game count [] earlier hand actions found closed e = e
closed_after game count (command ∷ newer) earlier hand actions found closed e =
    let no_fewer_there = no_fewer_after game count newer earlier in
    let still : hand < finished_count game (hands_of game count (newer ++ earlier)) = omega arith in
    closed_after game count newer earlier hand actions found closed (closed_command game count (hands_of game count (newer ++ earlier)) command hand actions found still e)

-- ---- the law

abbrev line_by : Game → ℕ → Option (List Hand) → Option (List ℕ)
line_by game seat found = option_map line_text (seen_by game seat found)

-- the line of a place is the same, or there was none
abbrev SameOrNone : Game → ℕ → List Hand → List Hand → ℕ → ℕ → Type 0
SameOrNone game seat before after hand actions =
    (seat_line_at game after seat hand actions ≡ seat_line_at game before seat hand actions) ⊎ (hands_at before hand actions ≡ None)

same_or_none : (game : Game) (count seat : ℕ) (newer earlier : List Command) (hand actions : ℕ)
    → SameOrNone game seat (hands_of game count earlier) (hands_of game count (newer ++ earlier)) hand actions
same_or_none game count seat newer earlier hand actions =
    let before : List Hand = hands_of game count earlier in
    let P : Option (List Hand) → Type 0 = λ o. hands_at before hand actions ≡ o → SameOrNone game seat before (hands_of game count (newer ++ earlier)) hand actions in
    let step : P (hands_at before hand actions) = elim (hands_at before hand actions) as P [
      | None ↦ λ e. inr e
      | Some found ↦ λ e. inl (ap (line_by game seat) (on_more game count newer earlier hand actions found e ∙ sym e))
    ] in
    step refl

-- what a match hadn't come to, of a hand that was over or that it hasn't, it doesn't come to
never : (game : Game) (count seat : ℕ) (newer earlier : List Command) (hand actions : ℕ) (line : List ℕ) → length (hands_of game count (newer ++ earlier)) ≤ count
    → hands_at (hands_of game count earlier) hand actions ≡ None → (finished_count game (hands_of game count earlier) ≤ hand → hand < count → ⊥)
    → seat_line_at game (hands_of game count (newer ++ earlier)) seat hand actions ≡ Some line → ⊥
never game count seat newer earlier hand actions line within none closed e =
    let before : List Hand = hands_of game count earlier in
    let after : List Hand = hands_of game count (newer ++ earlier) in
    let shown : IsLineOf (seat_view_at game after seat hand actions) line = line_of (seat_view_at game after seat hand actions) line e in
    let come : HasCome game after seat hand actions shown.shown = has_come game after seat hand actions shown.shown shown.view_is in
    let below = (found_at AnyHand after hand actions (come.newest ∷ come.before) come.come_to).below in
    let P : Bool → Type 0 = λ b. nat_lt hand (finished_count game before) ≡ b → ⊥ in
    let step : P (nat_lt hand (finished_count game before)) = elim (nat_lt hand (finished_count game before)) as P [
      | true ↦ λ less.
          let over : hand < finished_count game before = is_less hand (finished_count game before) less in
          let found : hands_at before hand actions ≡ Some (come.newest ∷ come.before) = closed_after game count newer earlier hand actions (come.newest ∷ come.before) over come.come_to in
          none_some (hands_at before hand actions) (come.newest ∷ come.before) none found
      | false ↦ λ more. closed (not_less hand (finished_count game before) more) (omega (arith, within, below))
    ] in
    step refl

others_after : (game : Game) (count seat : ℕ) (newer earlier : List Command) (line : List ℕ) → length (hands_of game count (newer ++ earlier)) ≤ count
    → IsNamed game count (hands_of game count earlier) seat line Other → IsNamed game count (hands_of game count (newer ++ earlier)) seat line Other
others_after game count seat newer earlier line within other = λ cursor names.
    let before : List Hand = hands_of game count earlier in
    let after : List Hand = hands_of game count (newer ++ earlier) in
    let was = other cursor names in
    let fewer = no_fewer_after game count newer earlier in
    elim (same_or_none game count seat newer earlier cursor.hand cursor.actions) [
      | inl same ↦ (
        (λ e. was.0 (sym same ∙ e)),
        λ may. let least = may.hand_not_over in was.1 (record { hand_not_over = omega (arith, least, fewer); hand_within = may.hand_within; not_yet = sym same ∙ may.not_yet }),
      )
      | inr none ↦
          let not_yet : seat_line_at game before seat cursor.hand cursor.actions ≡ None = ap (line_by game seat) none in (
            never game count seat newer earlier cursor.hand cursor.actions line within none (λ least within_match. was.1 (record { hand_not_over = least; hand_within = within_match; not_yet = not_yet })),
            λ may. let least = may.hand_not_over in was.1 (record { hand_not_over = omega (arith, least, fewer); hand_within = may.hand_within; not_yet = not_yet }),
          )
    ]

pub others_stay : CommandsMakeHands → OthersStay
others_stay make game count seat commands earlier line is other =
    subst (λ (cs : List Command). IsNamed game count (hands_of game count cs) seat line Other) (sym is.1)
    (others_after game count seat is.0 earlier line (make game count (is.0 ++ earlier)).within other)
