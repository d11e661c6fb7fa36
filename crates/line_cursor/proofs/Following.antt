-- The places of a match follow one another.
use Rattle.std.proofs.Common.{◌≡◌, ℕ, suc, ◌+◌, ◌<◌, ◌≤◌, ◌&&◌, nat_eq, nat_le, Bool, true, false, not, if◌then◌else◌, List, [], ◌∷◌, ◌++◌, length, Option, Some, None, option_to_list, refl, sym, ap, ◌∙◌, subst, append-nil, arith}
use Rattle.std.specs.List.{AllByRecursion}
use Rattle.std.proofs.lemmas.Bool.Decides.{nat_tests}
use Rattle.game_def.specs.Game.{Game}
use Rattle.betting.specs.declared.action.Action.{Action}
use Rattle.slot_log.specs.Hand.{Hand}
use Rattle.slot_log.specs.Dealer.{is_finished, is_running, is_match_over, hands_of, hands_after, reason_of, deal_reason, act_reason, with_command, with_deal, act_for}
use Rattle.slot_log.specs.declared.command.Command.{Command}
use Rattle.slot_log.specs.declared.command.Command.TheVariants.{Deal, Act, Away}
use Rattle.slot_log.specs.declared.reason.Reason.{Reason}
use Rattle.slot_log.specs.declared.reason.Reason.TheVariants.{MatchDone, NoHand, HandRunning}
use Rattle.slot_log.proofs.Allowed.{past_test}
use Rattle.line_cursor.specs.Past.{cut_to, hands_at}
use Rattle.line_cursor.proofs.PastHands.{on_more, on_fitting, found_now}
use Rattle.line_cursor.specs.declared.cursor.Cursor.{Cursor}
use Rattle.line_cursor.specs.Cursors.{cursor_at, newest_cursor, cursors_by, cursors, is_over_after, next_cursor}
use Rattle.line_cursor.specs.Laws.{FollowFrom, Follow, CursorsFollow, NextCursorStays}

-- ---- which commands take effect

no_hand_runs : (game : Game) (count : ℕ) (hands : List Hand) (number : ℕ) (deal : List ℕ) → reason_of game count hands (Deal number deal) ≡ None → is_running game hands ≡ false
no_hand_runs game count hands number deal e =
    let on = past_test (is_match_over game count hands) MatchDone (deal_reason game hands number deal) e in
    (past_test (is_running game hands) HandRunning _ on.1).0

pub a_hand_runs : (game : Game) (count : ℕ) (newest : Hand) (earlier : List Hand) (number index : ℕ) (action : Action)
    → (if is_match_over game count (newest ∷ earlier) then Some MatchDone else act_reason game (newest ∷ earlier) number index action) ≡ None → is_finished game newest ≡ false
a_hand_runs game count newest earlier number index action e =
    let on = past_test (is_match_over game count (newest ∷ earlier)) MatchDone (act_reason game (newest ∷ earlier) number index action) e in
    (past_test (is_finished game newest) NoHand _ on.1).0

-- ---- tests

same_number : (n : ℕ) → nat_eq n n ≡ true
same_number n = grind (arith, nat_tests)

one_less : (n : ℕ) → nat_eq n (suc n) ≡ false
one_less n = grind (arith, nat_tests)

within : (n : ℕ) → nat_le n n ≡ true
within n = grind (arith, nat_tests)

not_all : (n k : ℕ) → k ≤ n → nat_le (suc n) k ≡ false
not_all n k h = grind (arith, nat_tests)

below : (k n : ℕ) → nat_le k n ≡ true → k ≤ n
below k n h = grind (arith, nat_tests)

other_number : (k n : ℕ) → k < n → nat_eq k n ≡ false
other_number k n h = grind (arith, nat_tests)

pub found_below : (hands : List Hand) (hand k : ℕ) (found : List Hand) → hands_at hands hand k ≡ Some found → hand < length hands
found_below [] hand k found e = absurd cc
found_below (newest ∷ earlier) hand k found e =
    let P : Bool → Type 0 = λ b. nat_eq hand (length earlier) ≡ b → (if b then (if nat_le k (length newest.past) then Some (cut_to newest k ∷ earlier) else None) else hands_at earlier hand k) ≡ Some found
    → hand < length (newest ∷ earlier) in
    let step : P (nat_eq hand (length earlier)) = elim (nat_eq hand (length earlier)) as P [
      | true ↦ λ same h. let n : hand ≡ length earlier = grind (arith, nat_tests) in omega arith
      | false ↦ λ other h. let less = found_below earlier hand k found h in omega arith
    ] in
    step refl e

-- ---- a command that takes effect leaves the place after an earlier one as it is

abbrev with_one : Hand → Action → Hand
with_one hand action = record { deal = hand.deal; past = action ∷ hand.past }

not_false : (b : Bool) → not b ≡ false → b ≡ true
not_false true e = refl
not_false false e = absurd cc

both_true : (a b : Bool) → a ≡ true → b ≡ true → (a && b) ≡ true
both_true true b e f = f
both_true false b e f = absurd cc

both_false : (a b : Bool) → b ≡ false → (a && b) ≡ false
both_false true b e = e
both_false false b e = refl

over_by_deal : (game : Game) (hands : List Hand) (deal : List ℕ) (hand k : ℕ) → hand < length hands → is_over_after game (with_deal hands deal) hand k ≡ is_over_after game hands hand k
over_by_deal game hands deal hand k less =
    ap (λ (b : Bool). if b then nat_le 0 k && is_finished game (let h : Hand = record { deal = deal; past = [] } in h) else is_over_after game hands hand k) (other_number hand (length hands) less)

over_by_action : (game : Game) (newest : Hand) (earlier : List Hand) (action : Action) (hand k : ℕ) (found : List Hand) → is_finished game newest ≡ false
    → hands_at (newest ∷ earlier) hand k ≡ Some found → is_over_after game (with_one newest action ∷ earlier) hand k ≡ is_over_after game (newest ∷ earlier) hand k
over_by_action game newest earlier action hand k found runs e =
    let P : Bool → Type 0 = λ b. (if b then (if nat_le k (length newest.past) then Some (cut_to newest k ∷ earlier) else None) else hands_at earlier hand k) ≡ Some found
    → (if b then nat_le (length (action ∷ newest.past)) k && is_finished game (with_one newest action) else is_over_after game earlier hand k)
    ≡ (if b then nat_le (length newest.past) k && is_finished game newest else is_over_after game earlier hand k) in
    let step : P (nat_eq hand (length earlier)) = elim (nat_eq hand (length earlier)) as P [
      | true ↦ λ h.
          let Q : Bool → Type 0 = λ b. nat_le k (length newest.past) ≡ b → (if b then Some (cut_to newest k ∷ earlier) else None) ≡ Some found
          → (nat_le (length (action ∷ newest.past)) k && is_finished game (with_one newest action)) ≡ (nat_le (length newest.past) k && is_finished game newest) in
          let inner : Q (nat_le k (length newest.past)) = elim (nat_le k (length newest.past)) as Q [
            | true ↦ λ le got.
                let no : nat_le (length (action ∷ newest.past)) k ≡ false = not_all (length newest.past) k (below k (length newest.past) le) in
                ap (λ (b : Bool). b && is_finished game (with_one newest action)) no ∙ sym (both_false (nat_le (length newest.past) k) (is_finished game newest) runs)
            | false ↦ λ le got. absurd cc
          ] in
          inner refl h
      | false ↦ λ h. refl
    ] in
    step e

over_by_fitting : (game : Game) (count : ℕ) (hands : List Hand) (command : Command) (hand k : ℕ) (found : List Hand) → reason_of game count hands command ≡ None
    → hands_at hands hand k ≡ Some found → is_over_after game (with_command game hands command) hand k ≡ is_over_after game hands hand k
over_by_fitting game count hands (Deal number deal) hand k found fits e = over_by_deal game hands deal hand k (found_below hands hand k found e)
over_by_fitting game count [] (Act number index action) hand k found fits e = refl
over_by_fitting game count (newest ∷ earlier) (Act number index action) hand k found fits e =
    over_by_action game newest earlier action hand k found (a_hand_runs game count newest earlier number index action fits) e
over_by_fitting game count [] (Away number index) hand k found fits e = refl
over_by_fitting game count (newest ∷ earlier) (Away number index) hand k found fits e =
    over_by_action game newest earlier (act_for game (newest ∷ earlier)) hand k found (a_hand_runs game count newest earlier number index (act_for game (newest ∷ earlier)) fits) e

next_by : (game : Game) (hands before : List Hand) (m : Cursor) → is_over_after game hands m.hand m.actions ≡ is_over_after game before m.hand m.actions → next_cursor game hands m ≡ next_cursor game before m
next_by game hands before m e = ap (λ (b : Bool). if b then cursor_at (m.hand + 1) 0 else cursor_at m.hand (m.actions + 1)) e

abbrev after_by : Option Reason → List Hand → List Hand → List Hand
after_by reason with hands = elim reason [ None ↦ with | Some r ↦ hands ]

next_after_command : (game : Game) (count : ℕ) (hands : List Hand) (command : Command) (m : Cursor) (found : List Hand) → hands_at hands m.hand m.actions ≡ Some found
    → next_cursor game (hands_after game count hands command) m ≡ next_cursor game hands m
next_after_command game count hands command m found e =
    let P : Option Reason → Type 0 = λ o. reason_of game count hands command ≡ o → next_cursor game (after_by o (with_command game hands command) hands) m ≡ next_cursor game hands m in
    let step : P (reason_of game count hands command) = elim (reason_of game count hands command) as P [
      | None ↦ λ fits. next_by game (with_command game hands command) hands m (over_by_fitting game count hands command m.hand m.actions found fits e)
      | Some reason ↦ λ no. refl
    ] in
    step refl

stays : (game : Game) (count : ℕ) (newer earlier : List Command) (m : Cursor) (found : List Hand) → hands_at (hands_of game count earlier) m.hand m.actions ≡ Some found
    → next_cursor game (hands_of game count (newer ++ earlier)) m ≡ next_cursor game (hands_of game count earlier) m
unfolding hands_of
stays game count [] earlier m found e = refl
stays game count (command ∷ newer) earlier m found e =
    next_after_command game count (hands_of game count (newer ++ earlier)) command m found (on_more game count newer earlier m.hand m.actions found e) ∙ stays game count newer earlier m found e

pub next_cursor_stays : NextCursorStays
next_cursor_stays game count commands earlier m found is e =
    ap (λ (cs : List Command). next_cursor game (hands_of game count cs) m) is.1 ∙ stays game count is.0 earlier m found e

-- ---- the places of a match

abbrev pub IsFound : List Hand → Cursor → Type 0
IsFound hands m = (found : List Hand) × (hands_at hands m.hand m.actions ≡ Some found)

abbrev pub EndAt : List Hand → List Cursor → Type 0
EndAt [] all = all ≡ []
EndAt (newest ∷ before) all = (front : List Cursor) × (all ≡ front ++ cursor_at (length before) (length newest.past) ∷ [])

pub record Stands (game : Game) (hands : List Hand) (all : List Cursor) : Type 0 where
  pub follow : Follow game hands all
  pub found : AllByRecursion (IsFound hands) all
  pub end : EndAt hands all

-- the same by later hands
abbrev IsSame : Game → List Hand → List Hand → Type 0
IsSame game before after = (m : Cursor) → IsFound before m → IsFound after m × (next_cursor game after m ≡ next_cursor game before m)

follow_on : (game : Game) (before after : List Hand) (m : Cursor) (all : List Cursor) → IsSame game before after → IsFound before m → AllByRecursion (IsFound before) all → FollowFrom game before m all
    → FollowFrom game after m all
follow_on game before after m [] same f fs h = tt
follow_on game before after m (next ∷ more) same f fs h = (h.0 ∙ sym (same m f).1, follow_on game before after next more same fs.0 fs.1 h.1)

all_follow_on : (game : Game) (before after : List Hand) (all : List Cursor) → IsSame game before after → AllByRecursion (IsFound before) all → Follow game before all → Follow game after all
all_follow_on game before after [] same fs h = tt
all_follow_on game before after (m ∷ more) same fs h = follow_on game before after m more same fs.0 fs.1 h

all_found_on : (game : Game) (before after : List Hand) (all : List Cursor) → IsSame game before after → AllByRecursion (IsFound before) all → AllByRecursion (IsFound after) all
all_found_on game before after [] same fs = tt
all_found_on game before after (m ∷ more) same fs = ((same m fs.0).0, all_found_on game before after more same fs.1)

one_found : (hands : List Hand) (all : List Cursor) (m : Cursor) → AllByRecursion (IsFound hands) all → IsFound hands m → AllByRecursion (IsFound hands) (all ++ m ∷ [])
one_found hands [] m fs f = (f, tt)
one_found hands (first ∷ more) m fs f = (fs.0, one_found hands more m fs.1 f)

one_behind : (game : Game) (hands : List Hand) (first : Cursor) (front : List Cursor) (x y : Cursor) → FollowFrom game hands first (front ++ x ∷ []) → y ≡ next_cursor game hands x
    → FollowFrom game hands first ((front ++ x ∷ []) ++ y ∷ [])
one_behind game hands first [] x y h e = (h.0, (e, tt))
one_behind game hands first (m ∷ front) x y h e = (h.0, one_behind game hands m front x y h.1 e)

one_more : (game : Game) (hands : List Hand) (front : List Cursor) (x y : Cursor) → Follow game hands (front ++ x ∷ []) → y ≡ next_cursor game hands x → Follow game hands ((front ++ x ∷ []) ++ y ∷ [])
one_more game hands [] x y h e = (e, tt)
one_more game hands (m ∷ front) x y h e = one_behind game hands m front x y h e

-- one more place after the last
with_place : (game : Game) (newest : Hand) (before : List Hand) (next : Hand) (earlier : List Hand) (all : List Cursor) → Stands game (newest ∷ before) all
    → IsSame game (newest ∷ before) (next ∷ earlier) → cursor_at (length earlier) (length next.past) ≡ next_cursor game (next ∷ earlier) (cursor_at (length before) (length newest.past))
    → Stands game (next ∷ earlier) (all ++ option_to_list (newest_cursor (next ∷ earlier)))
with_place game newest before next earlier all s same e =
    let x : Cursor = cursor_at (length before) (length newest.past) in
    let y : Cursor = cursor_at (length earlier) (length next.past) in
    let moved : Follow game (next ∷ earlier) all = all_follow_on game (newest ∷ before) (next ∷ earlier) all same s.found s.follow in
    record {
      follow = subst (λ (l : List Cursor). Follow game (next ∷ earlier) (l ++ y ∷ [])) (sym s.end.1)
          (one_more game (next ∷ earlier) s.end.0 x y (subst (Follow game (next ∷ earlier)) s.end.1 moved) e);
      found = one_found (next ∷ earlier) all y (all_found_on game (newest ∷ before) (next ∷ earlier) all same s.found) (next ∷ earlier, found_now next earlier);
      end = (all, refl);
    }

first_place : (game : Game) (next : Hand) (earlier : List Hand) (all : List Cursor) → all ≡ [] → Stands game (next ∷ earlier) (all ++ option_to_list (newest_cursor (next ∷ earlier)))
first_place game next earlier all none =
    subst (λ (l : List Cursor). Stands game (next ∷ earlier) (l ++ option_to_list (newest_cursor (next ∷ earlier)))) (sym none)
    (record { follow = tt; found = ((next ∷ earlier, found_now next earlier), tt); end = ([], refl) })

same_by : (game : Game) (count : ℕ) (hands : List Hand) (command : Command) → reason_of game count hands command ≡ None → IsSame game hands (with_command game hands command)
same_by game count hands command fits m f = (
  (f.0, on_fitting game hands command m.hand m.actions f.0 f.1),
  next_by game (with_command game hands command) hands m (over_by_fitting game count hands command m.hand m.actions f.0 fits f.1),
)

-- after the end of a hand comes a deal
after_end : (game : Game) (newest : Hand) (before : List Hand) (deal : List ℕ) → is_running game (newest ∷ before) ≡ false
    → cursor_at (length (newest ∷ before)) 0 ≡ next_cursor game (with_deal (newest ∷ before) deal) (cursor_at (length before) (length newest.past))
after_end game newest before deal rests =
    let over : is_finished game newest ≡ true = not_false (is_finished game newest) rests in
    let less : length before < length (newest ∷ before) = omega arith in
    let is : is_over_after game (with_deal (newest ∷ before) deal) (length before) (length newest.past) ≡ true =
    over_by_deal game (newest ∷ before) deal (length before) (length newest.past) less
    ∙ (ap (λ (b : Bool). if b then nat_le (length newest.past) (length newest.past) && is_finished game newest else is_over_after game before (length before) (length newest.past)) (same_number (length before))
    ∙ both_true (nat_le (length newest.past) (length newest.past)) (is_finished game newest) (within (length newest.past)) over) in
    let number : length (newest ∷ before) ≡ length before + 1 = omega arith in
    ap (λ (n : ℕ). cursor_at n 0) number ∙ sym (ap (λ (b : Bool). if b then cursor_at (length before + 1) 0 else cursor_at (length before) (length newest.past + 1)) is)

-- and after an action of a hand that runs the next
after_action : (game : Game) (newest : Hand) (before : List Hand) (action : Action)
    → cursor_at (length before) (length (action ∷ newest.past)) ≡ next_cursor game (with_one newest action ∷ before) (cursor_at (length before) (length newest.past))
after_action game newest before action =
    let few : length newest.past ≤ length newest.past = omega arith in
    let no : nat_le (length (action ∷ newest.past)) (length newest.past) ≡ false = not_all (length newest.past) (length newest.past) few in
    let is : is_over_after game (with_one newest action ∷ before) (length before) (length newest.past) ≡ false =
    ap (λ (b : Bool). if b then nat_le (length (action ∷ newest.past)) (length newest.past) && is_finished game (with_one newest action) else is_over_after game before (length before) (length newest.past)) (same_number (length before))
    ∙ ap (λ (b : Bool). b && is_finished game (with_one newest action)) no in
    let number : length (action ∷ newest.past) ≡ length newest.past + 1 = omega arith in
    ap (λ (n : ℕ). cursor_at (length before) n) number ∙ sym (ap (λ (b : Bool). if b then cursor_at (length before + 1) 0 else cursor_at (length before) (length newest.past + 1)) is)

fitted : (game : Game) (count : ℕ) (hands : List Hand) (command : Command) (all : List Cursor) → reason_of game count hands command ≡ None → Stands game hands all
    → Stands game (with_command game hands command) (all ++ option_to_list (newest_cursor (with_command game hands command)))
fitted game count [] (Deal number deal) all fits s = first_place game (let h : Hand = record { deal = deal; past = [] } in h) [] all s.end
fitted game count (newest ∷ before) (Deal number deal) all fits s =
    with_place game newest before (let h : Hand = record { deal = deal; past = [] } in h) (newest ∷ before) all s (same_by game count (newest ∷ before) (Deal number deal) fits)
    (after_end game newest before deal (no_hand_runs game count (newest ∷ before) number deal fits))
fitted game count [] (Act number index action) all fits s = subst (Stands game []) (sym (append-nil all)) s
fitted game count (newest ∷ before) (Act number index action) all fits s =
    with_place game newest before (with_one newest action) before all s (same_by game count (newest ∷ before) (Act number index action) fits) (after_action game newest before action)
fitted game count [] (Away number index) all fits s = subst (Stands game []) (sym (append-nil all)) s
fitted game count (newest ∷ before) (Away number index) all fits s =
    with_place game newest before (with_one newest (act_for game (newest ∷ before))) before all s (same_by game count (newest ∷ before) (Away number index) fits)
    (after_action game newest before (act_for game (newest ∷ before)))

pub stand : (game : Game) (count : ℕ) (commands : List Command) → Stands game (hands_of game count commands) (cursors game count commands)
unfolding hands_of cursors
stand game count [] = record { follow = tt; found = tt; end = refl }
stand game count (command ∷ earlier) =
    let hands : List Hand = hands_of game count earlier in
    let all : List Cursor = cursors game count earlier in
    let P : Option Reason → Type 0 = λ o. reason_of game count hands command ≡ o → Stands game (after_by o (with_command game hands command) hands) (all ++ cursors_by game hands command o) in
    let step : P (reason_of game count hands command) = elim (reason_of game count hands command) as P [
      | None ↦ λ fits. fitted game count hands command all fits (stand game count earlier)
      | Some reason ↦ λ no. subst (Stands game hands) (sym (append-nil all)) (stand game count earlier)
    ] in
    step refl

pub cursors_follow : CursorsFollow
cursors_follow game count commands = (stand game count commands).follow
