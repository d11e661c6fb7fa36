-- Lists of commands that differ only in cards that a seat doesn't see give it the same lines.
use Rattle.std.proofs.Common.{◌≡◌, ℕ, zero, suc, ◌+◌, ◌-◌, ◌<◌, ◌≤◌, Bool, true, false, not, cond, eqb, List, [], ◌∷◌, ◌++◌, map, length, take, drop, Option, Some, None, refl, sym, ap, ◌∙◌, subst, arith, ◌⊎◌, inl}
use Rattle.std.specs.List.{slice_get, concat, range_with_len}
use Rattle.std.specs.Option.{option_map, unwrap_or}
use Rattle.std.proofs.lemmas.Bool.Decides.{nat_tests}
use Rattle.std.proofs.lemmas.List.{append-nil, length-drop, take_all, take-take, drop-take, drop-drop, take-append-drop}
use Rattle.std.proofs.lemmas.List.Sums.{sum_by-cons}
use Rattle.game_def.specs.Game.{Game}
use Rattle.betting.specs.declared.action.Action.{Action}
use Rattle.card_core.specs.Deal.{hole_of, board_of}
use Rattle.slot_log.specs.Hand.{Hand}
use Rattle.slot_log.specs.Dealer.{act_for, hands_of, hands_after, with_action, with_deal, reason_of, act_reason, is_finished, is_running, is_match_over, finished_count}
use Rattle.slot_log.specs.declared.reason.Reason.{Reason}
use Rattle.slot_log.specs.declared.reason.Reason.TheVariants.{MatchDone, HandRunning, WrongHand}
use Rattle.slot_log.specs.declared.command.Command.{Command}
use Rattle.slot_log.specs.declared.command.Command.TheVariants.{Deal, Act, Away}
use Rattle.slot_log.proofs.Allowed.{past_test}
use Rattle.matchstate.specs.Cards.{boards_of, holes_seen}
use Rattle.matchstate.specs.View.{View, view_of, sees, rounds_seen, position_of, seat_view}
use Rattle.matchstate.specs.Line.{line_text}
use Rattle.matchstate.specs.Laws.{Place, hole, board, card_at, board_count, SeesPlace, SeatSees, past_at, SameButUnseen, AllSameButUnseen, AlikeLines}
use Rattle.matchstate.proofs.Seats.{newest_at}
use Rattle.matchstate.proofs.Seen.{board_parts}
use Rattle.matchstate.proofs.Earlier.{EarlierOver, all_over, over_after}

-- hands that differ only in cards at places that aren't seen: newest first, the number of each is how many
-- stand behind it
AlikeHands : (ℕ → Place → Type 0) → List Hand → List Hand → Type 0
AlikeHands Seen [] [] = Unit {0}
AlikeHands Seen [] (k ∷ ks) = ⊥
AlikeHands Seen (h ∷ hs) [] = ⊥
AlikeHands Seen (h ∷ hs) (k ∷ ks) =
    (h.past ≡ k.past) × ((place : Place) → Seen (length hs) place → card_at h.deal place ≡ card_at k.deal place) × (length h.deal ≡ length k.deal) × AlikeHands Seen hs ks

module _ (Seen : ℕ → Place → Type 0) (game : Game) (count : ℕ) where
  alike_length : (hs ks : List Hand) → AlikeHands Seen hs ks → length hs ≡ length ks
  unfolding AlikeHands
  alike_length [] [] a = refl
  alike_length [] (k ∷ ks) a = absurd a
  alike_length (h ∷ hs) [] a = absurd a
  alike_length (h ∷ hs) (k ∷ ks) a = ap suc (alike_length hs ks a.3)

  alike_finished : (hs ks : List Hand) → AlikeHands Seen hs ks → finished_count game hs ≡ finished_count game ks
  unfolding AlikeHands
  alike_finished [] [] a = refl
  alike_finished [] (k ∷ ks) a = absurd a
  alike_finished (h ∷ hs) [] a = absurd a
  alike_finished (h ∷ hs) (k ∷ ks) a =
      let rest = alike_finished hs ks a.3 in
      let here : ◌≡◌ {A = ℕ} (cond (is_finished game h) 1 0) (cond (is_finished game k) 1 0) = ap (λ past. cond (is_finished game (let x : Hand = record { deal = h.deal; past = past } in x)) 1 0) a.0 in
      omega (arith, sum_by-cons (λ x. cond (is_finished game x) 1 0) h hs, sum_by-cons (λ x. cond (is_finished game x) 1 0) k ks)

  alike_running : (hs ks : List Hand) → AlikeHands Seen hs ks → is_running game hs ≡ is_running game ks
  unfolding AlikeHands
  alike_running [] [] a = refl
  alike_running [] (k ∷ ks) a = absurd a
  alike_running (h ∷ hs) [] a = absurd a
  alike_running (h ∷ hs) (k ∷ ks) a = ap (λ past. not (is_finished game (let x : Hand = record { deal = h.deal; past = past } in x))) a.0

  alike_act : (hs ks : List Hand) (hand index : ℕ) (action : Action) → AlikeHands Seen hs ks → act_reason game hs hand index action ≡ act_reason game ks hand index action
  unfolding AlikeHands
  alike_act [] [] hand index action a = refl
  alike_act [] (k ∷ ks) hand index action a = absurd a
  alike_act (h ∷ hs) [] hand index action a = absurd a
  alike_act (h ∷ hs) (k ∷ ks) hand index action a =
      let count_is = alike_length hs ks a.3 in
      let past_is : h.past ≡ k.past = a.0 in
      rw (count_is, past_is) refl

  alike_reason_deal : (hs ks : List Hand) (hand : ℕ) (deal cards : List ℕ) → AlikeHands Seen hs ks → length deal ≡ length cards → reason_of game count hs (Deal hand deal) ≡ reason_of game count ks (Deal hand cards)
  alike_reason_deal hs ks hand deal cards a same =
      let finished = alike_finished hs ks a in
      let running = alike_running hs ks a in
      rw (finished, running, same) refl

  alike_reason_act : (hs ks : List Hand) (hand index : ℕ) (action : Action) → AlikeHands Seen hs ks → reason_of game count hs (Act hand index action) ≡ reason_of game count ks (Act hand index action)
  alike_reason_act hs ks hand index action a =
      let finished = alike_finished hs ks a in
      let act = alike_act hs ks hand index action a in
      rw (finished, act) refl

  -- what a deal without a reason against it says
  deal_fits : (hs : List Hand) (hand : ℕ) (deal : List ℕ) → EarlierOver game hs → reason_of game count hs (Deal hand deal) ≡ None → (hand ≡ length hs) × (finished_count game hs ≡ length hs)
  deal_fits hs hand deal tidy none =
      let first = past_test (is_match_over game count hs) MatchDone _ none in
      let second = past_test (is_running game hs) HandRunning _ first.1 in
      let third = past_test (not (eqb hand (finished_count game hs))) WrongHand _ second.1 in
      let all = all_over game hs tidy second.0 in
      let test : not (eqb hand (finished_count game hs)) ≡ false = third.0 in
      let next : hand ≡ finished_count game hs = grind (arith, nat_tests) in
      (next ∙ all, all)

  alike_action : (hs ks : List Hand) (action : Action) → AlikeHands Seen hs ks → AlikeHands Seen (with_action hs action) (with_action ks action)
  unfolding AlikeHands
  alike_action [] [] action a = tt
  alike_action [] (k ∷ ks) action a = absurd a
  alike_action (h ∷ hs) [] action a = absurd a
  alike_action (h ∷ hs) (k ∷ ks) action a = (ap (λ past. action ∷ past) a.0, a.1, a.2, a.3)

  alike_deal : (hs ks : List Hand) (deal cards : List ℕ) → AlikeHands Seen hs ks → ((place : Place) → Seen (length hs) place → card_at deal place ≡ card_at cards place) → length deal ≡ length cards → AlikeHands Seen (with_deal hs deal) (with_deal ks cards)
  unfolding AlikeHands
  alike_deal hs ks deal cards a same count_is = (refl, same, count_is, a)

  -- who is away is played for alike
  alike_away : (hs ks : List Hand) → AlikeHands Seen hs ks → act_for game hs ≡ act_for game ks
  unfolding AlikeHands
  alike_away [] [] a = refl
  alike_away [] (k ∷ ks) a = absurd a
  alike_away (h ∷ hs) [] a = absurd a
  alike_away (h ∷ hs) (k ∷ ks) a = ap (λ past. act_for game (let x : Hand = record { deal = h.deal; past = past } in x ∷ hs)) a.0

  alike_after : (hs ks : List Hand) (command other : Command) → AlikeHands Seen hs ks → EarlierOver game hs → SameButUnseen Seen command other → AlikeHands Seen (hands_after game count hs command) (hands_after game count ks other)
  alike_after hs ks (Deal hand deal) (Deal number cards) a tidy same =
      let reasons : reason_of game count hs (Deal hand deal) ≡ reason_of game count ks (Deal number cards) =
      alike_reason_deal hs ks hand deal cards a same.1 ∙ ap (λ n. reason_of game count ks (Deal n cards)) same.0 in
      subst (λ r. AlikeHands Seen (hands_after game count hs (Deal hand deal)) (elim r as (λ _. List Hand) [ None ↦ with_deal ks cards | Some why ↦ ks ])) reasons
      (by_reason (reason_of game count hs (Deal hand deal)) refl)
    where
      by_reason : (reason : Option Reason) → reason_of game count hs (Deal hand deal) ≡ reason → AlikeHands Seen (elim reason as (λ _. List Hand) [ None ↦ with_deal hs deal | Some why ↦ hs ]) (elim reason as (λ _. List Hand) [ None ↦ with_deal ks cards | Some why ↦ ks ])
      by_reason None e =
          let number_is = (deal_fits hs hand deal tidy e).0 in
          alike_deal hs ks deal cards a (λ place seen. same.2 place (subst (λ n. Seen n place) (sym number_is) seen)) same.1
      by_reason (Some why) e = a
  alike_after hs ks (Deal hand deal) (Act number index action) a tidy same = absurd same
  alike_after hs ks (Act hand index action) (Deal number cards) a tidy same = absurd same
  alike_after hs ks (Act hand index action) (Act number place step) a tidy same =
      let command_is : Act hand index action ≡ Act number place step =
      ap (λ n. Act n index action) same.0 ∙ ap (λ i. Act number i action) same.1 ∙ ap (λ s. Act number place s) same.2 in
      let reasons : reason_of game count hs (Act hand index action) ≡ reason_of game count ks (Act hand index action) = alike_reason_act hs ks hand index action a in
      subst (λ c. AlikeHands Seen (hands_after game count hs (Act hand index action)) (hands_after game count ks c)) command_is
      (subst (λ r. AlikeHands Seen (hands_after game count hs (Act hand index action)) (elim r as (λ _. List Hand) [ None ↦ with_action ks action | Some why ↦ ks ])) reasons
      (by_reason (reason_of game count hs (Act hand index action))))
    where
      by_reason : (reason : Option Reason) → AlikeHands Seen (elim reason as (λ _. List Hand) [ None ↦ with_action hs action | Some why ↦ hs ]) (elim reason as (λ _. List Hand) [ None ↦ with_action ks action | Some why ↦ ks ])
      by_reason None = alike_action hs ks action a
      by_reason (Some why) = a
  alike_after hs ks (Deal hand deal) (Away number index) a tidy same = absurd same
  alike_after hs ks (Act hand index action) (Away number place) a tidy same = absurd same
  alike_after hs ks (Away hand index) (Deal number cards) a tidy same = absurd same
  alike_after hs ks (Away hand index) (Act number place step) a tidy same = absurd same
  alike_after hs ks (Away hand index) (Away number place) a tidy same =
      let command_is : Away hand index ≡ Away number place = ap (λ n. Away n index) same.0 ∙ ap (λ i. Away number i) same.1 in
      let actions : act_for game hs ≡ act_for game ks = alike_away hs ks a in
      let reasons : reason_of game count hs (Away hand index) ≡ reason_of game count ks (Away hand index) =
      alike_reason_act hs ks hand index (act_for game hs) a ∙ ap (λ action. reason_of game count ks (Act hand index action)) actions in
      subst (λ c. AlikeHands Seen (hands_after game count hs (Away hand index)) (hands_after game count ks c)) command_is
      (subst (λ r. AlikeHands Seen (hands_after game count hs (Away hand index)) (elim r as (λ _. List Hand) [ None ↦ with_action ks (act_for game ks) | Some why ↦ ks ])) reasons
      (by_reason (reason_of game count hs (Away hand index)) actions))
    where
      by_reason : (reason : Option Reason) → act_for game hs ≡ act_for game ks → AlikeHands Seen (elim reason as (λ _. List Hand) [ None ↦ with_action hs (act_for game hs) | Some why ↦ hs ]) (elim reason as (λ _. List Hand) [ None ↦ with_action ks (act_for game ks) | Some why ↦ ks ])
      by_reason None same_action = subst (λ action. AlikeHands Seen (with_action hs (act_for game hs)) (with_action ks action)) same_action (alike_action hs ks (act_for game hs) a)
      by_reason (Some why) same_action = a

  alike_hands : (first second : List Command) → AllSameButUnseen Seen first second → AlikeHands Seen (hands_of game count first) (hands_of game count second) × EarlierOver game (hands_of game count first)
  unfolding hands_of AlikeHands
  alike_hands [] [] same = (tt, tt)
  alike_hands [] (d ∷ ds) same = absurd same
  alike_hands (c ∷ cs) [] same = absurd same
  alike_hands (c ∷ cs) (d ∷ ds) same =
      let before = alike_hands cs ds same.1 in (
        alike_after (hands_of game count cs) (hands_of game count ds) c d before.0 before.1 same.0,
        over_after game count (hands_of game count cs) c before.1,
      )

-- ---- what is seen is the same

same_by_place : (xs ys : List ℕ) → ((i : ℕ) → slice_get xs i ≡ slice_get ys i) → xs ≡ ys
same_by_place [] [] same = refl
same_by_place [] (y ∷ ys) same = let e = same 0 in cc
same_by_place (x ∷ xs) [] same = let e = same 0 in cc
same_by_place (x ∷ xs) (y ∷ ys) same =
    let head : Some x ≡ Some y = same 0 in
    let first : x ≡ y = cc in
    let rest = same_by_place xs ys (λ i. same (suc i)) in
    cc

same_front : (n : ℕ) (xs ys : List ℕ) → ((i : ℕ) → i < n → slice_get xs i ≡ slice_get ys i) → take n xs ≡ take n ys
same_front zero xs ys same = refl
same_front (suc n) [] [] same = refl
same_front (suc n) [] (y ∷ ys) same = let e = same 0 (omega arith) in cc
same_front (suc n) (x ∷ xs) [] same = let e = same 0 (omega arith) in cc
same_front (suc n) (x ∷ xs) (y ∷ ys) same =
    let head : Some x ≡ Some y = same 0 (omega arith) in
    let first : x ≡ y = cc in
    let rest = same_front n xs ys (λ i below. same (suc i) (omega arith)) in
    cc

same_holes : (f : ℕ → Bool) (g h : ℕ → List ℕ) (a n : ℕ) → ((p : ℕ) → f p ≡ true → g p ≡ h p) → map (λ p. cond (f p) (g p) []) (range_with_len a n) ≡ map (λ p. cond (f p) (h p) []) (range_with_len a n)
same_holes f g h a zero same = refl
same_holes f g h a (suc n) same =
    let rest = same_holes f g h (a + 1) n same in
    let here : cond (f a) (g a) [] ≡ cond (f a) (h a) [] = by_test (f a) refl in
    cc
  where
    by_test : (b : Bool) → f a ≡ b → cond b (g a) [] ≡ cond b (h a) []
    by_test true e = same a e
    by_test false e = refl

concat_parts : (b : List ℕ) → concat (board_parts b) ≡ b
concat_parts b =
    let river : drop 1 (drop 3 b) ≡ drop 4 b = drop-drop 1 3 b in
    let later : take 1 (drop 3 b) ++ (drop 4 b ++ []) ≡ drop 3 b =
    ap (λ r. take 1 (drop 3 b) ++ r) (append-nil (drop 4 b) ∙ sym river) ∙ take-append-drop 1 (drop 3 b) in
    ap (λ r. take 3 b ++ r) later ∙ take-append-drop 3 b

-- fronts of two boards that are the same show the same rounds
same_parts : (rounds : ℕ) (b c : List ℕ) → length b ≤ 5 → length c ≤ 5 → take (board_count rounds) b ≡ take (board_count rounds) c → take rounds (board_parts b) ≡ take rounds (board_parts c)
same_parts zero b c short few same = refl
same_parts (suc zero) b c short few same = ap (λ f. f ∷ []) same
same_parts (suc (suc zero)) b c short few same =
    let flop : take 3 b ≡ take 3 c = sym (take-take 3 4 b (omega arith)) ∙ ap (take 3) same ∙ take-take 3 4 c (omega arith) in
    let turn : take 1 (drop 3 b) ≡ take 1 (drop 3 c) = sym (drop-take 3 1 b) ∙ ap (drop 3) same ∙ drop-take 3 1 c in
    cc
same_parts (suc (suc (suc rounds))) b c short few same =
    let five : board_count (suc (suc (suc rounds))) ≡ 5 = elim rounds as (λ r. board_count (suc (suc (suc r))) ≡ 5) [ zero ↦ refl | suc r ↦ refl ] in
    let whole : b ≡ c = sym (take_all 5 b short) ∙ (rw five at same) ∙ take_all 5 c few in
    ap (λ d. take (suc (suc (suc rounds))) (board_parts d)) whole

length-board : (deal : List ℕ) → length (board_of deal) ≤ 5
length-board deal = omega (arith, length-drop (length deal - 5) deal)

same_boards : (rounds : ℕ) (deal cards : List ℕ) → ((i : ℕ) → i < board_count rounds → slice_get (concat (boards_of deal)) i ≡ slice_get (concat (boards_of cards)) i) → take rounds (boards_of deal) ≡ take rounds (boards_of cards)
same_boards rounds deal cards same =
    let of_board = λ (i : ℕ) (below : i < board_count rounds).
    ap (λ b. slice_get b i) (sym (concat_parts (board_of deal))) ∙ same i below ∙ ap (λ b. slice_get b i) (concat_parts (board_of cards)) in
    same_parts rounds (board_of deal) (board_of cards) (length-board deal) (length-board cards)
    (same_front (board_count rounds) (board_of deal) (board_of cards) of_board)

-- the views of two hands with the same actions, and the same cards at the places that are seen
same_views : (game : Game) (viewer number : ℕ) (h k : Hand) → h.past ≡ k.past → ((place : Place) → SeesPlace game h.past viewer place → card_at h.deal place ≡ card_at k.deal place) → view_of game viewer number h ≡ view_of game viewer number k
same_views game viewer number h k past same =
    let holes = same_holes (sees game h.past viewer) (hole_of h.deal) (hole_of k.deal) 0 game.players
    (λ p seen. same_by_place (hole_of h.deal p) (hole_of k.deal p) (λ i. same (hole p i) seen)) in
    let boards = same_boards (rounds_seen game h.past) h.deal k.deal (λ i below. same (board i) below) in
    ap (λ (x : List (List ℕ)). let v : View = record { game = game; position = viewer; hand = number; past = h.past; holes = x; boards = take (rounds_seen game h.past) (boards_of h.deal) } in v) holes
    ∙ ap (λ (x : List (List ℕ)). let v : View = record { game = game; position = viewer; hand = number; past = h.past; holes = holes_seen game.players (sees game h.past viewer) k.deal; boards = x } in v) boards
    ∙ ap (λ (x : List Action). view_of game viewer number (let y : Hand = record { deal = k.deal; past = x } in y)) past

same_seat_views : (game : Game) (seat : ℕ) (Seen : ℕ → Place → Type 0) (hs ks : List Hand) → ((number : ℕ) (place : Place) → SeatSees game hs seat number place → Seen number place) → AlikeHands Seen hs ks → seat_view game hs seat ≡ seat_view game ks seat
unfolding AlikeHands
same_seat_views game seat Seen [] [] covers a = refl
same_seat_views game seat Seen [] (k ∷ ks) covers a = absurd a
same_seat_views game seat Seen (h ∷ hs) [] covers a = absurd a
same_seat_views game seat Seen (h ∷ hs) (k ∷ ks) covers a =
    let number = alike_length Seen game 0 hs ks a.3 in
    let at : past_at (h ∷ hs) (length hs) ≡ h.past = ap (λ o. unwrap_or (option_map (λ found. found.past) o) []) (newest_at h hs) in
    let viewer = position_of game.players (length hs) seat in
    let view = same_views game viewer (length hs) h k a.0
    (λ place sees_it. a.1 place (covers (length hs) place (subst (λ past. SeesPlace game past viewer place) (sym at) sees_it))) in
    ap Some (view ∙ ap (λ n. view_of game (position_of game.players n seat) n k) number)

pub alike_lines : AlikeLines
alike_lines game count seat first second alike =
    let Seen : ℕ → Place → Type 0 = λ number place. SeatSees game (hands_of game count first) seat number place ⊎ SeatSees game (hands_of game count second) seat number place in
    let hands = alike_hands Seen game count first second alike in
    ap (option_map line_text) (same_seat_views game seat Seen (hands_of game count first) (hands_of game count second) (λ number place seen. inl seen) hands.0)
