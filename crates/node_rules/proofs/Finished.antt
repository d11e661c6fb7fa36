-- A command that takes effect and leaves no hand running adds a line to the log.
use Rattle.std.proofs.Common.{◌≡◌, ℕ, zero, suc, ◌<◌, ◌+◌, Bool, true, false, true≢false, not, if◌then◌else◌, cond, List, [], ◌∷◌, ◌++◌, Option, Some, None, refl, sym, ap, ◌∙◌, arith, length, reverse}
use Rattle.std.specs.Prelude.{slice_get}
use Rattle.std.specs.List.{flat_map, count_by}
use Rattle.std.specs.Option.{option_to_list}
use Rattle.std.proofs.lemmas.List.{length-reverse}
use Rattle.std.proofs.lemmas.List.Sums.{sum_by-cons, count_by-le-length}
use Rattle.game_def.specs.Game.{Game}
use Rattle.slot_log.specs.Hand.{Hand}
use Rattle.slot_log.specs.Dealer.{is_finished, finished_count, is_running, is_match_over, reason_of, with_command, hands_of, hand_at}
use Rattle.slot_log.specs.declared.reason.Reason.{Reason}
use Rattle.slot_log.specs.declared.command.Command.{Command}
use Rattle.slot_log.specs.declared.command.Command.TheVariants.{Deal, Act, Away}
use Rattle.match_log.specs.Lines.{state_text, state_line}
use Rattle.match_log.specs.Further.{last_line, score_of, further_lines}
use Rattle.dealer_kind.specs.Kind.{Setting, hands_after, fits}
use Rattle.dealer_kind.proofs.Fitting.{none_then}

-- ---- a command that takes effect leaves hands

-- these are some
abbrev AreSome : List Hand → Type 0
AreSome hands = (newest : Hand) × (earlier : List Hand) × (hands ≡ newest ∷ earlier)

no_act : (over : Bool) (done other : Reason) → ◌≡◌ {A = Option Reason} (if over then Some done else Some other) None → ⊥
no_act true done other e = cc
no_act false done other e = cc

some_hands : (game : Game) (count : ℕ) (hands : List Hand) (command : Command) → reason_of game count hands command ≡ None → AreSome (with_command game hands command)
some_hands game count hands (Deal hand deal) e = (_, hands, refl)
some_hands game count [] (Act hand index action) e = absurd (no_act (is_match_over game count []) _ _ e)
some_hands game count (newest ∷ earlier) (Act hand index action) e = (_, earlier, refl)
some_hands game count [] (Away hand index) e = absurd (no_act (is_match_over game count []) _ _ e)
some_hands game count (newest ∷ earlier) (Away hand index) e = (_, earlier, refl)

hands_then : (setting : Setting) (before : List Command) (command : Command) → fits setting before command ≡ true → AreSome (hands_after setting (command ∷ before))
unfolding hands_of
hands_then setting before command e =
    let reason = none_then (reason_of setting.game setting.title.hands (hands_after setting before) command) e in
    let some = some_hands setting.game setting.title.hands (hands_after setting before) command reason in
    (some.0, some.1, ap (λ (o : Option Reason). elim o [ None ↦ with_command setting.game (hands_after setting before) command | Some why ↦ hands_after setting before ]) reason ∙ some.2)

-- ---- the line of a finished hand

pub none_past : {X : Type 0} (xs : List X) (k : ℕ) → k < length xs → slice_get xs k ≡ None → ⊥
none_past [] k low h = omega arith
none_past (x ∷ xs) zero low h = cc
none_past (x ∷ xs) (suc k) low h = none_past xs k (omega arith) h

first_empty : (xs ys : List ℕ) → xs ++ ys ≡ [] → xs ≡ []
first_empty [] ys e = refl
first_empty (x ∷ xs) ys e = absurd (cc)

some_line : (game : Game) (names : List (List ℕ)) (number : ℕ) (found : Option Hand) → (found ≡ None → ⊥) → flat_map (state_line game names number) (option_to_list found) ≡ [] → ⊥
unfolding state_line state_text
some_line game names number None found e = found refl
some_line game names number (Some hand) found e = cc

adds_line : (game : Game) (count : ℕ) (names : List (List ℕ)) (newest : Hand) (earlier : List Hand) (b : Bool) → is_running game (newest ∷ earlier) ≡ b → b ≡ false
    → further_lines game count names (newest ∷ earlier) ≡ [] → ⊥
adds_line game count names newest earlier b eb stops e =
    some_line game names finished (hand_at (newest ∷ earlier) finished)
    (none_past (reverse (newest ∷ earlier)) finished (let l = count_by-le-length (is_finished game) earlier in let r = length-reverse (newest ∷ earlier) in omega (arith, l, r)))
    (first_empty (last_line game names (newest ∷ earlier) (suc finished)) (score_of game count names (newest ∷ earlier))
    (ap (λ k. last_line game names (newest ∷ earlier) k ++ score_of game count names (newest ∷ earlier)) (sym counted)
    ∙ (ap (λ (x : Bool). if x then [] else last_line game names (newest ∷ earlier) (finished_count game (newest ∷ earlier)) ++ score_of game count names (newest ∷ earlier)) (sym (eb ∙ stops)) ∙ e)))
  where
    finished : ℕ
    finished = count_by (is_finished game) earlier

    over_now : (x : Bool) → is_finished game newest ≡ x → not x ≡ false → is_finished game newest ≡ true
    over_now true h k = h
    over_now false h k = absurd (true≢false k)

    counted : finished_count game (newest ∷ earlier) ≡ suc (count_by (is_finished game) earlier)
    counted =
        let c : finished_count game (newest ∷ earlier) ≡ 1 + count_by (is_finished game) earlier =
        sum_by-cons (λ hand. cond (is_finished game hand) 1 0) newest earlier
        ∙ ap (λ (x : Bool). cond x 1 0 + count_by (is_finished game) earlier) (over_now (is_finished game newest) refl (eb ∙ stops)) in
        omega (arith, c)

-- what a command that takes effect adds, where no hand runs then
pub adds_some : (setting : Setting) (before : List Command) (command : Command) → fits setting before command ≡ true → is_running setting.game (hands_after setting (command ∷ before)) ≡ false
    → further_lines setting.game setting.title.hands setting.names (hands_after setting (command ∷ before)) ≡ [] → ⊥
adds_some setting before command fit stops e =
    let some = hands_then setting before command fit in
    adds_line setting.game setting.title.hands setting.names some.0 some.1 _ refl
    (ap (is_running setting.game) (sym some.2) ∙ stops)
    (ap (further_lines setting.game setting.title.hands setting.names) (sym some.2) ∙ e)
