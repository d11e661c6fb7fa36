-- What a seat sees of a hand only grows with further commands.
use Rattle.std.proofs.Common.{◌≡◌, ◌≢◌, ℕ, zero, suc, ◌+◌, ◌≤◌, min, Bool, true, false, ◌&&◌, ◌||◌, cond, eqb, List, [], ◌∷◌, ◌++◌, length, reverse, Option, Some, None, refl, sym, ap, ◌∙◌, subst, arith, ◌⊎◌, inl, inr, length-append, append_assoc}
use Rattle.std.specs.Bool.{IsTrue}
use Rattle.std.specs.List.{slice_get}
use Rattle.std.specs.Option.{option_map, unwrap_or}
use Rattle.std.proofs.lemmas.Bool.{cases_Bool}
use Rattle.std.proofs.lemmas.Bool.Decides.{eqb_tells, nat_tests}
use Rattle.std.proofs.lemmas.List.{append-nil, reverse-append, length-reverse}
use Rattle.std.proofs.lemmas.Option.{slice_get_past}
use Rattle.game_def.specs.Game.{Game}
use Rattle.betting.specs.declared.action.Action.{Action}
use Rattle.betting.specs.Laws.{AllowedWithoutFault}
use Rattle.betting.specs.Rounds.{over, turns, with_turn, current_round, is_alone, ends_round, can_bet_on}
use Rattle.betting.specs.Legal.{Legal, CanAct}
use Rattle.slot_log.specs.Hand.{Hand}
use Rattle.slot_log.specs.Dealer.{act_for, hands_of, hands_after, with_command, with_action, with_deal, reason_of}
use Rattle.slot_log.specs.declared.command.Command.{Command}
use Rattle.slot_log.specs.declared.command.Command.TheVariants.{Deal, Act, Away}
use Rattle.slot_log.specs.declared.reason.Reason.{Reason}
use Rattle.matchstate.specs.View.{sees, rounds_seen, position_of}
use Rattle.matchstate.specs.Laws.{IsBeginning, Place, hole, board, board_count, SeesPlace, past_at, SeatSees, SameButUnseen, AllSameButUnseen}
use Rattle.matchstate.proofs.Alikeness.{alike_lines}
use Rattle.matchstate.specs.Beginnings.{BeginningsAreAlike, AlikeThroughout}
use Rattle.betting.proofs.Sound.{to_act-over}
use Rattle.slot_log.proofs.Begin.{newest_allows}

-- ---- the actions of each hand

same_test : (a b : ℕ) → eqb (suc a) (suc b) ≡ eqb a b
same_test a b = elim (eqb_tells a b) [
  | inl same ↦ (let test : eqb (suc a) (suc b) ≡ true = let e : a ≡ b = same.1 in grind (arith, nat_tests) in test) ∙ sym same.0
  | inr apart ↦ (let test : eqb (suc a) (suc b) ≡ false = let e : a ≢ b = apart.1 in grind (arith, nat_tests) in test) ∙ sym apart.0
]

last_at : (hands : List Hand) (newest : Hand) (number : ℕ) → slice_get (hands ++ newest ∷ []) number ≡ cond (eqb number (length hands)) (Some newest) (slice_get hands number)
last_at [] newest zero = refl
last_at [] newest (suc number) = let other : eqb (suc number) 0 ≡ false = grind (arith, nat_tests) in rw other refl
last_at (h ∷ hands) newest zero = let other : eqb 0 (suc (length hands)) ≡ false = grind (arith, nat_tests) in rw other refl
last_at (h ∷ hands) newest (suc number) = rw (same_test number (length hands)) (last_at hands newest number)

past_of : Option Hand → List Action
past_of found = unwrap_or (option_map (λ (h : Hand). h.past) found) []

-- those of the newest hand, and of the hands behind it
past_at-newest : (newest : Hand) (earlier : List Hand) (number : ℕ) → past_at (newest ∷ earlier) number ≡ cond (eqb number (length earlier)) newest.past (past_at earlier number)
unfolding past_of
past_at-newest newest earlier number =
    ap (λ hands. past_of (slice_get hands number)) (reverse-append (newest ∷ []) earlier)
    ∙ ap past_of (last_at (reverse earlier) newest number)
    ∙ ap (λ n. past_of (cond (eqb number n) (Some newest) (slice_get (reverse earlier) number))) (length-reverse earlier)
    ∙ by_test (eqb number (length earlier))
  where
    by_test : (b : Bool) → past_of (cond b (Some newest) (slice_get (reverse earlier) number)) ≡ cond b newest.past (past_at earlier number)
    by_test true = refl
    by_test false = refl

-- none where the hand wasn't dealt
past_at-none : (hands : List Hand) (number : ℕ) → length hands ≤ number → past_at hands number ≡ []
unfolding past_of
past_at-none hands number past = ap past_of (slice_get_past (reverse hands) number (omega (arith, length-reverse hands)))

-- ---- they only grow, and are legal

Grow : List Hand → List Hand → Type 0
Grow earlier later = (number : ℕ) → IsBeginning (past_at earlier number) (past_at later number)

AllLegal : Game → List Hand → Type 0
AllLegal game hands = (number : ℕ) → Legal game (past_at hands number)

Grow-same : (hands : List Hand) → Grow hands hands
unfolding Grow
Grow-same hands number = ([], refl)

Grow-then : (a b c : List Hand) → Grow a b → Grow b c → Grow a c
unfolding Grow
Grow-then a b c first second number =
    let one = first number in
    let two = second number in
    (two.0 ++ one.0, two.1 ∙ ap (λ p. two.0 ++ p) one.1 ∙ simp append_assoc)

Grow-deal : (hands : List Hand) (deal : List ℕ) → Grow hands (with_deal hands deal)
unfolding Grow
Grow-deal hands deal number =
    let new : Hand = record { deal = deal; past = [] } in
    let at = past_at-newest new hands number in
    elim (eqb_tells number (length hands)) [
      | inl same ↦
          let none = past_at-none hands number (omega (arith, same.1)) in
          (past_at (new ∷ hands) number, sym (ap (λ p. past_at (new ∷ hands) number ++ p) none ∙ append-nil (past_at (new ∷ hands) number)))
      | inr other ↦ ([], at ∙ ap (λ b. cond b [] (past_at hands number)) other.0)
    ]

Grow-action : (hands : List Hand) (action : Action) → Grow hands (with_action hands action)
unfolding Grow
Grow-action [] action number = ([], refl)
Grow-action (newest ∷ earlier) action number =
    let new : Hand = record newest { past = action ∷ newest.past } in
    by_test (eqb number (length earlier)) (past_at-newest newest earlier number) (past_at-newest new earlier number)
  where
    by_test : (b : Bool) {old later : List Action} → old ≡ cond b newest.past (past_at earlier number) → later ≡ cond b (action ∷ newest.past) (past_at earlier number) → IsBeginning old later
    by_test true was is = (action ∷ [], is ∙ ap (λ p. action ∷ p) (sym was))
    by_test false was is = ([], is ∙ sym was)

AllLegal-deal : (game : Game) (hands : List Hand) (deal : List ℕ) → AllLegal game hands → AllLegal game (with_deal hands deal)
unfolding AllLegal
AllLegal-deal game hands deal legal number =
    let new : Hand = record { deal = deal; past = [] } in
    subst (Legal game) (sym (past_at-newest new hands number)) (by_test (eqb number (length hands)))
  where
    by_test : (b : Bool) → Legal game (cond b [] (past_at hands number))
    by_test true = tt
    by_test false = legal number

newest_legal : (game : Game) (newest : Hand) (earlier : List Hand) → AllLegal game (newest ∷ earlier) → Legal game newest.past
unfolding AllLegal
newest_legal game newest earlier legal =
    let same : eqb (length earlier) (length earlier) ≡ true = grind (arith, nat_tests) in
    subst (Legal game) (past_at-newest newest earlier (length earlier) ∙ ap (λ b. cond b newest.past (past_at earlier (length earlier))) same) (legal (length earlier))

AllLegal-action : (game : Game) (newest : Hand) (earlier : List Hand) (action : Action) → CanAct game (turns game newest.past) action → AllLegal game (newest ∷ earlier) → AllLegal game (with_action (newest ∷ earlier) action)
unfolding AllLegal
AllLegal-action game newest earlier action can legal number =
    let new : Hand = record newest { past = action ∷ newest.past } in
    subst (Legal game) (sym (past_at-newest new earlier number))
    (by_test (eqb number (length earlier)) (subst (Legal game) (past_at-newest newest earlier number) (legal number)))
  where
    by_test : (b : Bool) → Legal game (cond b newest.past (past_at earlier number)) → Legal game (cond b (action ∷ newest.past) (past_at earlier number))
    by_test true before = (newest_legal game newest earlier legal, can)
    by_test false before = before

module _ (without : AllowedWithoutFault) (game : Game) (count : ℕ) where
  Grow-after : (hands : List Hand) (command : Command) → Grow hands (hands_after game count hands command)
  Grow-after hands command = by_reason command (reason_of game count hands command)
    where
      by_reason : (c : Command) (reason : Option Reason) → Grow hands (elim reason as (λ _. List Hand) [ None ↦ with_command game hands c | Some why ↦ hands ])
      by_reason (Deal hand deal) None = Grow-deal hands deal
      by_reason (Act hand index action) None = Grow-action hands action
      by_reason (Away hand index) None = Grow-action hands (act_for game hands)
      by_reason c (Some why) = Grow-same hands

  AllLegal-after : (hands : List Hand) (command : Command) → AllLegal game hands → AllLegal game (hands_after game count hands command)
  AllLegal-after hands command legal = by_reason hands command legal (reason_of game count hands command) refl
    where
      by_reason : (hs : List Hand) (c : Command) → AllLegal game hs → (reason : Option Reason) → reason_of game count hs c ≡ reason → AllLegal game (elim reason as (λ _. List Hand) [ None ↦ with_command game hs c | Some why ↦ hs ])
      by_reason hs (Deal hand deal) before None e = AllLegal-deal game hs deal before
      by_reason [] (Act hand index action) before None e = before
      by_reason (newest ∷ earlier) (Act hand index action) before None e = AllLegal-action game newest earlier action (newest_allows without game count (newest ∷ earlier) hand index action e).1 before
      by_reason [] (Away hand index) before None e = before
      by_reason (newest ∷ earlier) (Away hand index) before None e =
          let action = act_for game (newest ∷ earlier) in
          AllLegal-action game newest earlier action (newest_allows without game count (newest ∷ earlier) hand index action e).1 before
      by_reason hs c before (Some why) e = before

  Grow-commands : (newer earlier : List Command) → Grow (hands_of game count earlier) (hands_of game count (newer ++ earlier))
  unfolding hands_of
  Grow-commands [] earlier = Grow-same (hands_of game count earlier)
  Grow-commands (command ∷ newer) earlier =
      Grow-then (hands_of game count earlier) (hands_of game count (newer ++ earlier)) (hands_of game count ((command ∷ newer) ++ earlier))
      (Grow-commands newer earlier) (Grow-after (hands_of game count (newer ++ earlier)) command)

  AllLegal-commands : (commands : List Command) → AllLegal game (hands_of game count commands)
  unfolding hands_of AllLegal
  AllLegal-commands [] = λ number. tt
  AllLegal-commands (command ∷ commands) = AllLegal-after (hands_of game count commands) command (AllLegal-commands commands)

-- ---- nothing is done once a hand is over, and rounds go on

nobody_acts : (game : Game) (past : List Action) (action : Action) → over game (turns game past) ≡ true → CanAct game (turns game past) action → ⊥
unfolding CanAct
nobody_acts game past action done can =
    let none : ◌≡◌ {A = Option ℕ} None (Some can.0) = sym (to_act-over game (turns game past) done) ∙ can.1 in
    cc

stays_over : (game : Game) (newer past : List Action) → over game (turns game past) ≡ true → Legal game (newer ++ past) → newer ++ past ≡ past
stays_over game [] past done legal = refl
stays_over game (action ∷ newer) past done legal =
    let before = stays_over game newer past done legal.0 in
    absurd (nobody_acts game past action done (subst (λ p. CanAct game (turns game p) action) before legal.1))

-- the round after an action of a round up to the last
next_round : (alone ends bet : Bool) (round : ℕ) → round ≤ 3 → (round ≤ cond alone round (cond ends (cond bet (min 3 (round + 1)) 3) round)) × (cond alone round (cond ends (cond bet (min 3 (round + 1)) 3) round) ≤ 3)
next_round true ends bet round most = (omega arith, omega arith)
next_round false true true round most = (omega arith, omega arith)
next_round false true false round most = (omega arith, omega arith)
next_round false false bet round most = (omega arith, omega arith)

round_most : (game : Game) (past : List Action) → rounds_seen game past ≤ 3
unfolding turns with_turn current_round
round_most game [] = omega arith
round_most game (action ∷ past) =
    let after = turns game (action ∷ past) in
    (next_round (is_alone game after) (ends_round game after) (can_bet_on game after) (current_round game (turns game past)) (round_most game past)).1

rounds_grow : (game : Game) (newer past : List Action) → rounds_seen game past ≤ rounds_seen game (newer ++ past)
unfolding turns with_turn current_round
rounds_grow game [] past = omega arith
rounds_grow game (action ∷ newer) past =
    let before = rounds_grow game newer past in
    let after = turns game (action ∷ (newer ++ past)) in
    let step = (next_round (is_alone game after) (ends_round game after) (can_bet_on game after) (current_round game (turns game (newer ++ past))) (round_most game (newer ++ past))).0 in
    omega arith

all_five : (rounds : ℕ) → board_count (suc (suc (suc rounds))) ≡ 5
all_five zero = refl
all_five (suc rounds) = refl

board_grows : (few more : ℕ) → few ≤ more → board_count few ≤ board_count more
board_grows zero more less = omega arith
board_grows (suc zero) zero less = absurd (omega arith)
board_grows (suc zero) (suc zero) less = omega arith
board_grows (suc zero) (suc (suc zero)) less = omega arith
board_grows (suc zero) (suc (suc (suc more))) less = omega (arith, all_five more)
board_grows (suc (suc zero)) zero less = absurd (omega arith)
board_grows (suc (suc zero)) (suc zero) less = absurd (omega arith)
board_grows (suc (suc zero)) (suc (suc zero)) less = omega arith
board_grows (suc (suc zero)) (suc (suc (suc more))) less = omega (arith, all_five more)
board_grows (suc (suc (suc few))) zero less = absurd (omega arith)
board_grows (suc (suc (suc few))) (suc zero) less = absurd (omega arith)
board_grows (suc (suc (suc few))) (suc (suc zero)) less = absurd (omega arith)
board_grows (suc (suc (suc few))) (suc (suc (suc more))) less = omega (arith, all_five few, all_five more)

-- ---- what is seen stays so

own_only : (own done two stays other : Bool) → done ≡ false → IsTrue (own || ((done && two) && stays)) → IsTrue (own || other)
own_only true done two stays other running seen = refl
own_only false true two stays other running seen = cc
own_only false false two stays other running seen = cc

place_stays : (game : Game) (newer past : List Action) (viewer : ℕ) (place : Place) → Legal game (newer ++ past) → SeesPlace game past viewer place → SeesPlace game (newer ++ past) viewer place
place_stays game newer past viewer (hole position card) legal seen = elim (cases_Bool (over game (turns game past))) [
  | inl done ↦ subst (λ p. IsTrue (sees game p viewer position)) (sym (stays_over game newer past done legal)) seen
  | inr running ↦ own_only (eqb position viewer) (over game (turns game past)) _ _ _ running seen
]
place_stays game newer past viewer (board card) legal seen =
    let grows = board_grows (rounds_seen game past) (rounds_seen game (newer ++ past)) (rounds_grow game newer past) in
    omega arith

seat_sees_more : (game : Game) (earlier later : List Hand) (seat number : ℕ) (place : Place) → Grow earlier later → AllLegal game later → SeatSees game earlier seat number place → SeatSees game later seat number place
unfolding Grow AllLegal
seat_sees_more game earlier later seat number place grow legal seen =
    let more = grow number in
    subst (λ p. SeesPlace game p (position_of game.players number seat) place) (sym more.1)
    (place_stays game more.0 (past_at earlier number) (position_of game.players number seat) place (subst (Legal game) more.1 (legal number)) seen)

-- ---- lists that are the same but for what isn't seen

less_seen : (Seen Shown : ℕ → Place → Type 0) (first second : List Command) → ((number : ℕ) (place : Place) → Shown number place → Seen number place) → AllSameButUnseen Seen first second → AllSameButUnseen Shown first second
less_seen Seen Shown [] [] covers same = tt
less_seen Seen Shown [] (other ∷ others) covers same = absurd same
less_seen Seen Shown (command ∷ commands) [] covers same = absurd same
less_seen Seen Shown (command ∷ commands) (other ∷ others) covers same = (one command other same.0, less_seen Seen Shown commands others covers same.1)
  where
    one : (c d : Command) → SameButUnseen Seen c d → SameButUnseen Shown c d
    one (Deal hand deal) (Deal number cards) e = (e.0, e.1, λ place shown. e.2 place (covers hand place shown))
    one (Deal hand deal) (Act number index action) e = absurd e
    one (Act hand index action) (Deal number cards) e = absurd e
    one (Act hand index action) (Act number place step) e = e
    one (Deal hand deal) (Away number index) e = absurd e
    one (Act hand index action) (Away number place) e = absurd e
    one (Away hand index) (Deal number cards) e = absurd e
    one (Away hand index) (Act number place step) e = absurd e
    one (Away hand index) (Away number place) e = e

pub same_length : (Seen : ℕ → Place → Type 0) (first second : List Command) → AllSameButUnseen Seen first second → length first ≡ length second
same_length Seen [] [] same = refl
same_length Seen [] (other ∷ others) same = absurd same
same_length Seen (command ∷ commands) [] same = absurd same
same_length Seen (command ∷ commands) (other ∷ others) same = ap suc (same_length Seen commands others same.1)

same_behind : (Seen : ℕ → Place → Type 0) (newer later earlier before : List Command) → length earlier ≡ length before → AllSameButUnseen Seen (newer ++ earlier) (later ++ before) → AllSameButUnseen Seen earlier before
same_behind Seen [] [] earlier before count same = same
same_behind Seen [] (other ∷ later) earlier before count same =
    absurd (omega (arith, same_length Seen earlier ((other ∷ later) ++ before) same, length-append (other ∷ later) before))
same_behind Seen (command ∷ newer) [] earlier before count same =
    absurd (omega (arith, same_length Seen ((command ∷ newer) ++ earlier) before same, length-append (command ∷ newer) earlier))
same_behind Seen (command ∷ newer) (other ∷ later) earlier before count same = same_behind Seen newer later earlier before count same.1

pub beginnings_are_alike : AllowedWithoutFault → BeginningsAreAlike
beginnings_are_alike without game count seat first second earlier before alike begins starts count_is =
    let Seen : ℕ → Place → Type 0 = λ number place. SeatSees game (hands_of game count first) seat number place ⊎ SeatSees game (hands_of game count second) seat number place in
    let Shown : ℕ → Place → Type 0 = λ number place. SeatSees game (hands_of game count earlier) seat number place ⊎ SeatSees game (hands_of game count before) seat number place in
    let whole : AllSameButUnseen Seen (begins.0 ++ earlier) (starts.0 ++ before) =
    subst (λ l. AllSameButUnseen Seen l (starts.0 ++ before)) begins.1 (subst (λ l. AllSameButUnseen Seen first l) starts.1 alike) in
    let grows : Grow (hands_of game count earlier) (hands_of game count first) =
    subst (λ l. Grow (hands_of game count earlier) (hands_of game count l)) (sym begins.1) (Grow-commands without game count begins.0 earlier) in
    let rises : Grow (hands_of game count before) (hands_of game count second) =
    subst (λ l. Grow (hands_of game count before) (hands_of game count l)) (sym starts.1) (Grow-commands without game count starts.0 before) in
    less_seen Seen Shown earlier before
    (λ number place shown. elim shown [
      | inl seen ↦ inl (seat_sees_more game (hands_of game count earlier) (hands_of game count first) seat number place grows (AllLegal-commands without game count first) seen)
      | inr seen ↦ inr (seat_sees_more game (hands_of game count before) (hands_of game count second) seat number place rises (AllLegal-commands without game count second) seen)
    ])
    (same_behind Seen begins.0 starts.0 earlier before count_is whole)

pub alike_throughout : AllowedWithoutFault → AlikeThroughout
alike_throughout without game count seat first second earlier before alike begins starts count_is =
    alike_lines game count seat earlier before (beginnings_are_alike without game count seat first second earlier before alike begins starts count_is)
