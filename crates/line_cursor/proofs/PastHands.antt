-- What a match had come to is what it was after a beginning of its commands.
use Rattle.std.proofs.Common.{◌≡◌, ◌⊎◌, ℕ, suc, ◌-◌, ◌<◌, ◌≤◌, nat_eq, nat_le, Bool, true, false, if◌then◌else◌, List, [], ◌∷◌, ◌++◌, length, drop, Option, Some, None, refl, sym, ap, ◌∙◌, subst, inl, inr, arith}
use Rattle.std.proofs.lemmas.Bool.Decides.{nat_tests}
use Rattle.game_def.specs.Game.{Game}
use Rattle.betting.specs.declared.action.Action.{Action}
use Rattle.slot_log.specs.Hand.{Hand}
use Rattle.slot_log.specs.Dealer.{hands_of, hands_after, reason_of, with_command, with_deal, with_action, act_for}
use Rattle.slot_log.specs.declared.command.Command.{Command}
use Rattle.slot_log.specs.declared.command.Command.TheVariants.{Deal, Act, Away}
use Rattle.slot_log.specs.declared.reason.Reason.{Reason}
use Rattle.line_cursor.specs.Past.{cut_to, hands_at, PastIsABeginning, BeginningsArePast}

-- ---- tests

same_number : (n : ℕ) → nat_eq n n ≡ true
same_number n = grind (arith, nat_tests)

within : (n : ℕ) → nat_le n n ≡ true
within n = grind (arith, nat_tests)

all_or_less : (k n : ℕ) → nat_le k (suc n) ≡ true → (k ≡ suc n) ⊎ (nat_le k n ≡ true)
all_or_less k n h =
    elim (nat_le k n) as (λ (b : Bool). nat_le k n ≡ b → (k ≡ suc n) ⊎ (nat_le k n ≡ true)) [
      | true ↦ λ e. inr e
      | false ↦ λ e. inl (grind (arith, nat_tests))
    ] refl

none_then : (k : ℕ) → nat_le k 0 ≡ true → k ≡ 0
none_then k h = grind (arith, nat_tests)

below : (k n : ℕ) → nat_le k n ≡ true → k ≤ n
below k n h = grind (arith, nat_tests)

not_below : (k n : ℕ) → k ≤ n → nat_le k n ≡ true
not_below k n h = grind (arith, nat_tests)

other_number : (k n : ℕ) → k < n → nat_eq k n ≡ false
other_number k n h = grind (arith, nat_tests)

some_same : {A : Type 0} (x y : A) → Some x ≡ Some y → x ≡ y
some_same x y e = cc

-- ---- one more action, or one more hand

abbrev with_one : Hand → Action → Hand
with_one hand action = record { deal = hand.deal; past = action ∷ hand.past }

-- what was found before is found behind an action, and besides it what the hands are then
abbrev OneMore : List Hand → List Hand → ℕ → ℕ → List Hand → Type 0
OneMore after before hand actions found = (found ≡ after) ⊎ (hands_at before hand actions ≡ Some found)

whole_cut : (hand : Hand) (k : ℕ) → k ≡ length hand.past → cut_to hand k ≡ hand
whole_cut hand k e =
    let n : length hand.past - k ≡ 0 = omega arith in
    ap (λ (m : ℕ). let h : Hand = record { deal = hand.deal; past = drop m hand.past } in h) n

cut_one : (hand : Hand) (action : Action) (k : ℕ) → k ≤ length hand.past → cut_to (with_one hand action) k ≡ cut_to hand k
cut_one hand action k e =
    let n : length (action ∷ hand.past) - k ≡ suc (length hand.past - k) = omega arith in
    ap (λ (m : ℕ). let h : Hand = record { deal = hand.deal; past = drop m (action ∷ hand.past) } in h) n

behind_action : (newest : Hand) (earlier : List Hand) (action : Action) (hand k : ℕ) (found : List Hand) → hands_at (with_one newest action ∷ earlier) hand k ≡ Some found
    → OneMore (with_one newest action ∷ earlier) (newest ∷ earlier) hand k found
behind_action newest earlier action hand k found e =
    (elim (nat_eq hand (length earlier)) as (λ (b : Bool).
    (if b then (if nat_le k (length (action ∷ newest.past)) then Some (cut_to (with_one newest action) k ∷ earlier) else None) else hands_at earlier hand k) ≡ Some found
    → (found ≡ with_one newest action ∷ earlier)
    ⊎ ((if b then (if nat_le k (length newest.past) then Some (cut_to newest k ∷ earlier) else None) else hands_at earlier hand k) ≡ Some found)) [
      | true ↦ λ h. (elim (nat_le k (length (action ∷ newest.past))) as (λ (b : Bool). nat_le k (length (action ∷ newest.past)) ≡ b
          → (if b then Some (cut_to (with_one newest action) k ∷ earlier) else None) ≡ Some found
          → (found ≡ with_one newest action ∷ earlier) ⊎ ((if nat_le k (length newest.past) then Some (cut_to newest k ∷ earlier) else None) ≡ Some found)) [
            | true ↦ λ less got.
                let same : cut_to (with_one newest action) k ∷ earlier ≡ found = some_same _ _ got in
                elim (all_or_less k (length newest.past) less) [
                  | inl all ↦ inl (sym same ∙ ap (λ (h : Hand). h ∷ earlier) (whole_cut (with_one newest action) k all))
                  | inr le ↦ inr (subst (λ (b : Bool). (if b then Some (cut_to newest k ∷ earlier) else None) ≡ Some found) (sym le)
                      (ap (λ (h : Hand). Some (h ∷ earlier)) (sym (cut_one newest action k (below k (length newest.past) le))) ∙ got))
                ]
            | false ↦ λ less got. absurd cc
          ]) refl h
      | false ↦ λ h. inr h
    ]) e

behind_deal : (hands : List Hand) (deal : List ℕ) (hand k : ℕ) (found : List Hand) → hands_at (with_deal hands deal) hand k ≡ Some found → OneMore (with_deal hands deal) hands hand k found
behind_deal hands deal hand k found e =
    let new : Hand = record { deal = deal; past = [] } in
    (elim (nat_eq hand (length hands)) as (λ (b : Bool). (if b then (if nat_le k 0 then Some (cut_to new k ∷ hands) else None) else hands_at hands hand k) ≡ Some found
    → (found ≡ new ∷ hands) ⊎ (hands_at hands hand k ≡ Some found)) [
      | true ↦ λ h. (elim (nat_le k 0) as (λ (b : Bool). nat_le k 0 ≡ b → (if b then Some (cut_to new k ∷ hands) else None) ≡ Some found
          → (found ≡ new ∷ hands) ⊎ (hands_at hands hand k ≡ Some found)) [
            | true ↦ λ less got. inl (sym (some_same _ _ got) ∙ ap (λ (h : Hand). h ∷ hands) (whole_cut new k (none_then k less)))
            | false ↦ λ less got. absurd cc
          ]) refl h
      | false ↦ λ h. inr h
    ]) e

behind_act : (hands : List Hand) (action : Action) (hand k : ℕ) (found : List Hand) → hands_at (with_action hands action) hand k ≡ Some found → OneMore (with_action hands action) hands hand k found
behind_act [] action hand k found e = absurd cc
behind_act (newest ∷ earlier) action hand k found e = behind_action newest earlier action hand k found e

pub behind_fitting : (game : Game) (hands : List Hand) (command : Command) (hand k : ℕ) (found : List Hand) → hands_at (with_command game hands command) hand k ≡ Some found
    → OneMore (with_command game hands command) hands hand k found
behind_fitting game hands (Deal number deal) hand k found e = behind_deal hands deal hand k found e
behind_fitting game hands (Act number index action) hand k found e = behind_act hands action hand k found e
behind_fitting game hands (Away number index) hand k found e = behind_act hands (act_for game hands) hand k found e

abbrev after_by : Option Reason → List Hand → List Hand → List Hand
after_by reason with hands = elim reason [ None ↦ with | Some r ↦ hands ]

behind_command : (game : Game) (count : ℕ) (hands : List Hand) (command : Command) (hand k : ℕ) (found : List Hand) → hands_at (hands_after game count hands command) hand k ≡ Some found
    → OneMore (hands_after game count hands command) hands hand k found
behind_command game count hands command hand k found e =
    (elim (reason_of game count hands command) as (λ (o : Option Reason). hands_at (after_by o (with_command game hands command) hands) hand k ≡ Some found
    → OneMore (after_by o (with_command game hands command) hands) hands hand k found) [
      | None ↦ λ h. behind_fitting game hands command hand k found h
      | Some reason ↦ λ h. inr h
    ]) e

pub past_is_a_beginning : PastIsABeginning
unfolding hands_of
past_is_a_beginning game count [] hand k found e = absurd cc
past_is_a_beginning game count (command ∷ commands) hand k found e =
    elim (behind_command game count (hands_of game count commands) command hand k found e) [
      | inl same ↦ (command ∷ commands, (([], refl), sym same))
      | inr before ↦
          let more = past_is_a_beginning game count commands hand k found before in
          (more.0, ((command ∷ more.1.0.0, ap (λ (l : List Command). command ∷ l) more.1.0.1), more.1.1))
    ]

-- ---- what was found is found further on

found_below : (hands : List Hand) (hand k : ℕ) (found : List Hand) → hands_at hands hand k ≡ Some found → hand < length hands
found_below [] hand k found e = absurd cc
found_below (newest ∷ earlier) hand k found e =
    (elim (nat_eq hand (length earlier)) as (λ (b : Bool). nat_eq hand (length earlier) ≡ b
    → (if b then (if nat_le k (length newest.past) then Some (cut_to newest k ∷ earlier) else None) else hands_at earlier hand k) ≡ Some found → hand < length (newest ∷ earlier)) [
      | true ↦ λ same h. let n : hand ≡ length earlier = grind (arith, nat_tests) in omega arith
      | false ↦ λ other h. let less = found_below earlier hand k found h in omega arith
    ]) refl e

on_deal : (hands : List Hand) (deal : List ℕ) (hand k : ℕ) (found : List Hand) → hands_at hands hand k ≡ Some found → hands_at (with_deal hands deal) hand k ≡ Some found
on_deal hands deal hand k found e =
    let new : Hand = record { deal = deal; past = [] } in
    subst (λ (b : Bool). (if b then (if nat_le k 0 then Some (cut_to new k ∷ hands) else None) else hands_at hands hand k) ≡ Some found)
    (sym (other_number hand (length hands) (found_below hands hand k found e))) e

on_action : (newest : Hand) (earlier : List Hand) (action : Action) (hand k : ℕ) (found : List Hand) → hands_at (newest ∷ earlier) hand k ≡ Some found
    → hands_at (with_one newest action ∷ earlier) hand k ≡ Some found
on_action newest earlier action hand k found e =
    (elim (nat_eq hand (length earlier)) as (λ (b : Bool).
    (if b then (if nat_le k (length newest.past) then Some (cut_to newest k ∷ earlier) else None) else hands_at earlier hand k) ≡ Some found
    → (if b then (if nat_le k (length (action ∷ newest.past)) then Some (cut_to (with_one newest action) k ∷ earlier) else None) else hands_at earlier hand k) ≡ Some found) [
      | true ↦ λ h. (elim (nat_le k (length newest.past)) as (λ (b : Bool). nat_le k (length newest.past) ≡ b → (if b then Some (cut_to newest k ∷ earlier) else None) ≡ Some found
          → (if nat_le k (length (action ∷ newest.past)) then Some (cut_to (with_one newest action) k ∷ earlier) else None) ≡ Some found) [
            | true ↦ λ le got.
                let less : k ≤ length newest.past = below k (length newest.past) le in
                let more : k ≤ length (action ∷ newest.past) = omega arith in
                subst (λ (b : Bool). (if b then Some (cut_to (with_one newest action) k ∷ earlier) else None) ≡ Some found) (sym (not_below k (length (action ∷ newest.past)) more))
                (ap (λ (h : Hand). Some (h ∷ earlier)) (cut_one newest action k less) ∙ got)
            | false ↦ λ le got. absurd cc
          ]) refl h
      | false ↦ λ h. h
    ]) e

on_act : (hands : List Hand) (action : Action) (hand k : ℕ) (found : List Hand) → hands_at hands hand k ≡ Some found → hands_at (with_action hands action) hand k ≡ Some found
on_act [] action hand k found e = e
on_act (newest ∷ earlier) action hand k found e = on_action newest earlier action hand k found e

pub on_fitting : (game : Game) (hands : List Hand) (command : Command) (hand k : ℕ) (found : List Hand) → hands_at hands hand k ≡ Some found → hands_at (with_command game hands command) hand k ≡ Some found
on_fitting game hands (Deal number deal) hand k found e = on_deal hands deal hand k found e
on_fitting game hands (Act number index action) hand k found e = on_act hands action hand k found e
on_fitting game hands (Away number index) hand k found e = on_act hands (act_for game hands) hand k found e

on_command : (game : Game) (count : ℕ) (hands : List Hand) (command : Command) (hand k : ℕ) (found : List Hand) → hands_at hands hand k ≡ Some found
    → hands_at (hands_after game count hands command) hand k ≡ Some found
on_command game count hands command hand k found e =
    elim (reason_of game count hands command) as (λ (o : Option Reason). hands_at (after_by o (with_command game hands command) hands) hand k ≡ Some found) [
      | None ↦ on_fitting game hands command hand k found e
      | Some reason ↦ e
    ]

pub on_more : (game : Game) (count : ℕ) (newer earlier : List Command) (hand k : ℕ) (found : List Hand) → hands_at (hands_of game count earlier) hand k ≡ Some found
    → hands_at (hands_of game count (newer ++ earlier)) hand k ≡ Some found
unfolding hands_of
on_more game count [] earlier hand k found e = e
on_more game count (command ∷ newer) earlier hand k found e =
    on_command game count (hands_of game count (newer ++ earlier)) command hand k found (on_more game count newer earlier hand k found e)

-- the hands of now, by the newest one's number and actions
pub found_now : (newest : Hand) (earlier : List Hand) → hands_at (newest ∷ earlier) (length earlier) (length newest.past) ≡ Some (newest ∷ earlier)
found_now newest earlier =
    subst (λ (b : Bool). (if b then (if nat_le (length newest.past) (length newest.past) then Some (cut_to newest (length newest.past) ∷ earlier) else None) else hands_at earlier (length earlier) (length newest.past)) ≡ Some (newest ∷ earlier))
    (sym (same_number (length earlier)))
    (subst (λ (b : Bool). (if b then Some (cut_to newest (length newest.past) ∷ earlier) else None) ≡ Some (newest ∷ earlier)) (sym (within (length newest.past)))
    (ap (λ (h : Hand). Some (h ∷ earlier)) (whole_cut newest (length newest.past) refl)))

pub beginnings_are_past : BeginningsArePast
beginnings_are_past game count commands earlier newest before is hands =
    let at : hands_at (hands_of game count earlier) (length before) (length newest.past) ≡ Some (newest ∷ before) =
    ap (λ (hs : List Hand). hands_at hs (length before) (length newest.past)) hands ∙ found_now newest before in
    ap (λ (cs : List Command). hands_at (hands_of game count cs) (length before) (length newest.past)) is.1
    ∙ on_more game count is.0 earlier (length before) (length newest.past) (newest ∷ before) at
