-- What a cursor tells are a seat's lines, without a gap.
use Rattle.std.proofs.Common.{◌≡◌, ℕ, ◌+◌, ◌≤◌, nat_eq, nat_le, Bool, true, false, if◌then◌else◌, List, [], ◌∷◌, ◌++◌, length, Option, Some, None, option_to_list, refl, sym, ap, ◌∙◌, subst, append_assoc, append-nil, arith}
use Rattle.std.proofs.lemmas.List.{length-append}
use Rattle.std.proofs.lemmas.Bool.Decides.{nat_tests}
use Rattle.std.specs.List.{AllByRecursion}
use Rattle.game_def.specs.Game.{Game}
use Rattle.slot_log.specs.Hand.{Hand}
use Rattle.slot_log.specs.Dealer.{hands_of, reason_of, with_command}
use Rattle.slot_log.specs.declared.command.Command.{Command}
use Rattle.slot_log.specs.declared.command.Command.TheVariants.{Deal, Act, Away}
use Rattle.slot_log.specs.declared.reason.Reason.{Reason}
use Rattle.line_cursor.specs.Past.{cut_to, hands_at}
use Rattle.line_cursor.proofs.PastHands.{on_more, on_fitting, found_now}
use Rattle.line_cursor.proofs.Found.{HasCome, has_come}
use Rattle.line_cursor.specs.declared.cursor.Cursor.{Cursor}
use Rattle.line_cursor.specs.Cursors.{cursor_at, newest_cursor, cursors_by, cursors, is_over_after, next_cursor}
use Rattle.line_cursor.specs.Laws.{FollowFrom, Follow}
use Rattle.line_cursor.proofs.Following.{IsFound, EndAt, stand, next_cursor_stays, found_below}
use Rattle.seat_relay.specs.Relaying.{Line}
use Rattle.seat_relay.specs.Dealing.{line_of_hand, lines_after, lines_by, dealers_lines}
use Rattle.seat_relay.specs.Laws.{IsFront}
use Rattle.line_cursor.specs.Telling.{line_of_view, IsTold, AreTold, CursorsTellTheLines, FirstCursorsTellABeginning}

-- the line of a place, if these hands have come to it
abbrev line_found : Game → ℕ → Option (List Hand) → List Line
line_found game seat None = []
line_found game seat (Some hands) = lines_after game seat hands

abbrev line_at : Game → ℕ → List Hand → Cursor → List Line
line_at game seat hands m = line_found game seat (hands_at hands m.hand m.actions)

abbrev lines_at : Game → ℕ → List Hand → List Cursor → List Line
lines_at game seat hands [] = []
lines_at game seat hands (m ∷ more) = line_at game seat hands m ++ lines_at game seat hands more

lines_of_both : (game : Game) (seat : ℕ) (hands : List Hand) (first second : List Cursor) → lines_at game seat hands (first ++ second) ≡ lines_at game seat hands first ++ lines_at game seat hands second
lines_of_both game seat hands [] second = refl
lines_of_both game seat hands (m ∷ first) second =
    ap (λ (l : List Line). line_at game seat hands m ++ l) (lines_of_both game seat hands first second)
    ∙ sym (append_assoc (line_at game seat hands m) (lines_at game seat hands first) (lines_at game seat hands second))

-- a command that takes effect leaves earlier lines as they are
lines_stay : (game : Game) (seat : ℕ) (hands : List Hand) (command : Command) (all : List Cursor) → AllByRecursion (IsFound hands) all
    → lines_at game seat (with_command game hands command) all ≡ lines_at game seat hands all
lines_stay game seat hands command [] fs = refl
lines_stay game seat hands command (m ∷ more) fs =
    let there : line_at game seat (with_command game hands command) m ≡ line_at game seat hands m =
    ap (line_found game seat) (on_fitting game hands command m.hand m.actions fs.0.0 fs.0.1 ∙ sym fs.0.1) in
    ap (λ (l : List Line). l ++ lines_at game seat (with_command game hands command) more) there ∙ ap (λ (l : List Line). line_at game seat hands m ++ l) (lines_stay game seat hands command more fs.1)

newest_line : (game : Game) (seat : ℕ) (hands : List Hand) → lines_at game seat hands (option_to_list (newest_cursor hands)) ≡ lines_after game seat hands
newest_line game seat [] = refl
newest_line game seat (newest ∷ before) = append-nil _ ∙ ap (line_found game seat) (found_now newest before)

abbrev after_by : Option Reason → List Hand → List Hand → List Hand
after_by reason with hands = elim reason [ None ↦ with | Some r ↦ hands ]

dealt_are : (game : Game) (count seat : ℕ) (commands : List Command) → dealers_lines game count seat commands ≡ lines_at game seat (hands_of game count commands) (cursors game count commands)
unfolding hands_of cursors dealers_lines
dealt_are game count seat [] = refl
dealt_are game count seat (command ∷ earlier) =
    let hands : List Hand = hands_of game count earlier in
    let all : List Cursor = cursors game count earlier in
    let before : dealers_lines game count seat earlier ≡ lines_at game seat hands all = dealt_are game count seat earlier in
    elim (reason_of game count hands command) as (λ (o : Option Reason). dealers_lines game count seat earlier ++ lines_by game seat hands command o
    ≡ lines_at game seat (after_by o (with_command game hands command) hands) (all ++ cursors_by game hands command o)) [
      | None ↦
          ap (λ (l : List Line). l ++ lines_after game seat (with_command game hands command)) (before ∙ sym (lines_stay game seat hands command all (stand game count earlier).found))
          ∙ (ap (λ (l : List Line). lines_at game seat (with_command game hands command) all ++ l) (sym (newest_line game seat (with_command game hands command)))
          ∙ sym (lines_of_both game seat (with_command game hands command) all (option_to_list (newest_cursor (with_command game hands command)))))
      | Some reason ↦ append-nil (dealers_lines game count seat earlier) ∙ (before ∙ ap (lines_at game seat hands) (sym (append-nil all)))
    ]

-- ---- one line for each place

some_hand : (hands : List Hand) (hand k : ℕ) (found : List Hand) → hands_at hands hand k ≡ Some found → 1 ≤ length found
some_hand [] hand k found e = absurd cc
some_hand (newest ∷ earlier) hand k found e =
    let P : Bool → Type 0 = λ b. (if b then (if nat_le k (length newest.past) then Some (cut_to newest k ∷ earlier) else None) else hands_at earlier hand k) ≡ Some found → 1 ≤ length found in
    let step : P (nat_eq hand (length earlier)) = elim (nat_eq hand (length earlier)) as P [
      | true ↦ λ h.
          let Q : Bool → Type 0 = λ b. (if b then Some (cut_to newest k ∷ earlier) else None) ≡ Some found → 1 ≤ length found in
          let inner : Q (nat_le k (length newest.past)) = elim (nat_le k (length newest.past)) as Q [
            | true ↦ λ got. let same : cut_to newest k ∷ earlier ≡ found = cc in subst (λ (l : List Hand). 1 ≤ length l) same (omega arith)
            | false ↦ λ got. absurd cc
          ] in
          inner h
      | false ↦ λ h. some_hand earlier hand k found h
    ] in
    step e

one_after : (game : Game) (seat : ℕ) (found : List Hand) → 1 ≤ length found → length (lines_after game seat found) ≡ 1
one_after game seat [] some = absurd (omega (arith, some))
one_after game seat (newest ∷ before) some = refl

as_many_lines : (game : Game) (seat : ℕ) (hands : List Hand) (all : List Cursor) → AllByRecursion (IsFound hands) all → length (lines_at game seat hands all) ≡ length all
as_many_lines game seat hands [] fs = refl
as_many_lines game seat hands (m ∷ more) fs =
    let one : length (line_at game seat hands m) ≡ 1 =
    ap (λ (o : Option (List Hand)). length (line_found game seat o)) fs.0.1 ∙ one_after game seat fs.0.0 (some_hand hands m.hand m.actions fs.0.0 fs.0.1) in
    let rest = as_many_lines game seat hands more fs.1 in
    let both : length (line_at game seat hands m ++ lines_at game seat hands more) ≡ length (line_at game seat hands m) + length (lines_at game seat hands more) =
    length-append (line_at game seat hands m) (lines_at game seat hands more) in
    omega arith

front_found : (hands : List Hand) (front : List Cursor) (back : List Cursor) → AllByRecursion (IsFound hands) (front ++ back) → AllByRecursion (IsFound hands) front
front_found hands [] back fs = tt
front_found hands (m ∷ front) back fs = (fs.0, front_found hands front back fs.1)

-- ---- after the newest place there is none yet

one_beyond : (n : ℕ) → nat_eq (n + 1) n ≡ false
one_beyond n = grind (arith, nat_tests)

too_many : (n : ℕ) → nat_le (n + 1) n ≡ false
too_many n = grind (arith, nat_tests)

same_number : (n : ℕ) → nat_eq n n ≡ true
same_number n = grind (arith, nat_tests)

no_deal_yet : (newest : Hand) (before : List Hand) (found : List Hand) → hands_at (newest ∷ before) (length before + 1) 0 ≡ Some found → ⊥
no_deal_yet newest before found e =
    let h : hands_at before (length before + 1) 0 ≡ Some found =
    ap (λ (b : Bool). if b then (if nat_le 0 (length newest.past) then Some (cut_to newest 0 ∷ before) else None) else hands_at before (length before + 1) 0) (sym (one_beyond (length before))) ∙ e in
    let less = found_below before (length before + 1) 0 found h in
    absurd (omega arith)

no_action_yet : (newest : Hand) (before : List Hand) (found : List Hand) → hands_at (newest ∷ before) (length before) (length newest.past + 1) ≡ Some found → ⊥
no_action_yet newest before found e =
    let k : ℕ = length newest.past + 1 in
    let h : (if nat_le k (length newest.past) then Some (cut_to newest k ∷ before) else None) ≡ Some found =
    ap (λ (b : Bool). if b then (if nat_le k (length newest.past) then Some (cut_to newest k ∷ before) else None) else hands_at before (length before) k) (sym (same_number (length before))) ∙ e in
    let none : None ≡ Some found = ap (λ (b : Bool). if b then Some (cut_to newest k ∷ before) else None) (sym (too_many (length newest.past))) ∙ h in
    absurd cc

none_behind : (game : Game) (newest : Hand) (before : List Hand) (found : List Hand)
    → hands_at (newest ∷ before) (next_cursor game (newest ∷ before) (cursor_at (length before) (length newest.past))).hand (next_cursor game (newest ∷ before) (cursor_at (length before) (length newest.past))).actions ≡ Some found → ⊥
none_behind game newest before found e =
    let P : Bool → Type 0 = λ b. hands_at (newest ∷ before) (if b then cursor_at (length before + 1) 0 else cursor_at (length before) (length newest.past + 1)).hand (if b then cursor_at (length before + 1) 0 else cursor_at (length before) (length newest.past + 1)).actions ≡ Some found → ⊥ in
    let step : P (is_over_after game (newest ∷ before) (length before) (length newest.past)) = elim (is_over_after game (newest ∷ before) (length before) (length newest.past)) as P [
      | true ↦ no_deal_yet newest before found
      | false ↦ no_action_yet newest before found
    ] in
    step e

-- two lists with one last place
same_last : (front others : List Cursor) (x y : Cursor) → front ++ x ∷ [] ≡ others ++ y ∷ [] → x ≡ y
same_last [] [] x y e = cc
same_last [] (m ∷ others) x y e =
    let long : length (x ∷ []) ≡ length (m ∷ (others ++ y ∷ [])) = ap (length {A = Cursor}) e in
    let more = length-append others (y ∷ []) in
    absurd (omega arith)
same_last (m ∷ front) [] x y e =
    let long : length (m ∷ (front ++ x ∷ [])) ≡ length (y ∷ []) = ap (length {A = Cursor}) e in
    let more = length-append front (x ∷ []) in
    absurd (omega arith)
same_last (m ∷ front) (n ∷ others) x y e = let tail : front ++ x ∷ [] ≡ others ++ y ∷ [] = cc in same_last front others x y tail

last_is_newest : (game : Game) (hands : List Hand) (front : List Cursor) (m : Cursor) (found : List Hand) → EndAt hands (front ++ m ∷ [])
    → hands_at hands (next_cursor game hands m).hand (next_cursor game hands m).actions ≡ Some found → ⊥
last_is_newest game [] front m found end e = absurd cc
last_is_newest game (newest ∷ before) front m found end e =
    let same : m ≡ cursor_at (length before) (length newest.past) = same_last front end.0 m (cursor_at (length before) (length newest.past)) end.1 in
    none_behind game newest before found (subst (λ (x : Cursor). hands_at (newest ∷ before) (next_cursor game (newest ∷ before) x).hand (next_cursor game (newest ∷ before) x).actions ≡ Some found) same e)

-- ---- the walk

next_behind_first : (game : Game) (hands : List Hand) (first : Cursor) (front : List Cursor) (m next : Cursor) (back : List Cursor) → FollowFrom game hands first (front ++ m ∷ next ∷ back) → next ≡ next_cursor game hands m
next_behind_first game hands first [] m next back h = h.1.0
next_behind_first game hands first (x ∷ front) m next back h = next_behind_first game hands x front m next back h.1

next_behind : (game : Game) (hands : List Hand) (front : List Cursor) (m next : Cursor) (back : List Cursor) → Follow game hands (front ++ m ∷ next ∷ back) → next ≡ next_cursor game hands m
next_behind game hands [] m next back h = h.0
next_behind game hands (x ∷ front) m next back h = next_behind_first game hands x front m next back h

-- what an earlier table had come to this one has come to
found_now_too : (game : Game) (count : ℕ) (commands : List Command) (m : Cursor) (found : List Hand) (earlier : List Command) (newer : List Command) → commands ≡ newer ++ earlier
    → hands_at (hands_of game count earlier) m.hand m.actions ≡ Some found → hands_at (hands_of game count commands) m.hand m.actions ≡ Some found
found_now_too game count commands m found earlier newer is e =
    ap (λ (cs : List Command). hands_at (hands_of game count cs) m.hand m.actions) is ∙ on_more game count newer earlier m.hand m.actions found e

-- what the table that told a line had come to
come : (game : Game) (count seat : ℕ) (commands : List Command) (m : Cursor) (line : Line) (t : IsTold game count seat commands m line) → HasCome game (hands_of game count t.earlier) seat m.hand m.actions t.view
come game count seat commands m line t = has_come game (hands_of game count t.earlier) seat m.hand m.actions t.view t.found

told_here : (game : Game) (count seat : ℕ) (commands : List Command) (m : Cursor) (line : Line) → IsTold game count seat commands m line → line_at game seat (hands_of game count commands) m ≡ line ∷ []
told_here game count seat commands m line t =
    let h = come game count seat commands m line t in
    let same : line_of_hand game seat h.newest h.before ≡ line = ap line_of_view (sym h.view_is) ∙ sym t.line_is in
    ap (line_found game seat) (found_now_too game count commands m (h.newest ∷ h.before) t.earlier t.is_beginning.0 t.is_beginning.1 h.come_to) ∙ ap (λ (l : Line). l ∷ []) same

next_here : (game : Game) (count seat : ℕ) (commands : List Command) (m : Cursor) (line : Line) (t : IsTold game count seat commands m line)
    → next_cursor game (hands_of game count commands) m ≡ next_cursor game (hands_of game count t.earlier) m
next_here game count seat commands m line t =
    let h = come game count seat commands m line t in
    next_cursor_stays game count commands t.earlier m (h.newest ∷ h.before) t.is_beginning h.come_to

walk : (game : Game) (count seat : ℕ) (commands : List Command) (front back : List Cursor) (m : Cursor) (told : List Line) → cursors game count commands ≡ front ++ m ∷ back
    → AreTold game count seat commands m told → (rest : List Line) × (lines_at game seat (hands_of game count commands) (m ∷ back) ≡ told ++ rest)
walk game count seat commands front back m [] is told = (lines_at game seat (hands_of game count commands) (m ∷ back), refl)
walk game count seat commands front [] m (line ∷ []) is told = ([], ap (λ (l : List Line). l ++ []) (told_here game count seat commands m line told.0))
walk game count seat commands front [] m (line ∷ next ∷ more) is told =
    let hands : List Hand = hands_of game count commands in
    let on : AreTold game count seat commands (next_cursor game hands m) (next ∷ more) =
    subst (λ (x : Cursor). AreTold game count seat commands x (next ∷ more)) (sym (next_here game count seat commands m line told.0)) told.1 in
    let t : IsTold game count seat commands (next_cursor game hands m) next = on.0 in
    let h = come game count seat commands (next_cursor game hands m) next t in
    absurd (last_is_newest game hands front m (h.newest ∷ h.before) (subst (EndAt hands) is (stand game count commands).end)
    (found_now_too game count commands (next_cursor game hands m) (h.newest ∷ h.before) t.earlier t.is_beginning.0 t.is_beginning.1 h.come_to))
walk game count seat commands front (next ∷ back) m (line ∷ more) is told =
    let hands : List Hand = hands_of game count commands in
    let follows : next ≡ next_cursor game hands m = next_behind game hands front m next back (subst (Follow game hands) is (stand game count commands).follow) in
    let on : AreTold game count seat commands next more =
    subst (λ (x : Cursor). AreTold game count seat commands x more) (sym (next_here game count seat commands m line told.0) ∙ sym follows) told.1 in
    let further = walk game count seat commands (front ++ m ∷ []) back next more (is ∙ sym (append_assoc front (m ∷ []) (next ∷ back))) on in
    (further.0, ap (λ (l : List Line). l ++ lines_at game seat hands (next ∷ back)) (told_here game count seat commands m line told.0) ∙ ap (λ (l : List Line). line ∷ l) further.1)

pub cursors_tell_the_lines : CursorsTellTheLines
cursors_tell_the_lines game count seat commands front back m told is are =
    let hands : List Hand = hands_of game count commands in
    let w = walk game count seat commands front back m told is are in
    let fs : AllByRecursion (IsFound hands) (front ++ m ∷ back) = subst (AllByRecursion (IsFound hands)) is (stand game count commands).found in
    record {
      front = lines_at game seat hands front;
      rest = w.0;
      joined = dealt_are game count seat commands ∙ (ap (lines_at game seat hands) is ∙ (lines_of_both game seat hands front (m ∷ back) ∙ ap (λ (l : List Line). lines_at game seat hands front ++ l) w.1));
      as_many = as_many_lines game seat hands front (front_found hands front (m ∷ back) fs);
    }

-- ---- from the first place on

abbrev StartsAtFirst : List Cursor → Type 0
StartsAtFirst [] = Unit {0}
StartsAtFirst (first ∷ more) = first ≡ cursor_at 0 0

not_empty : (front : List Cursor) (x : Cursor) → [] ≡ front ++ x ∷ [] → ⊥
not_empty [] x e = cc
not_empty (m ∷ front) x e = cc

no_hands : (hands : List Hand) → EndAt hands [] → hands ≡ []
no_hands [] end = refl
no_hands (newest ∷ before) end = absurd (not_empty end.0 (cursor_at (length before) (length newest.past)) end.1)

first_by : (game : Game) (command : Command) (reason : Option Reason) → StartsAtFirst (cursors_by game [] command reason)
first_by game (Deal number deal) None = refl
first_by game (Act number index action) None = tt
first_by game (Away number index) None = tt
first_by game (Deal number deal) (Some reason) = tt
first_by game (Act number index action) (Some reason) = tt
first_by game (Away number index) (Some reason) = tt

start_more : (game : Game) (hands : List Hand) (command : Command) (reason : Option Reason) (all : List Cursor) → EndAt hands all → StartsAtFirst all
    → StartsAtFirst (all ++ cursors_by game hands command reason)
start_more game hands command reason [] end start =
    subst (λ (hs : List Hand). StartsAtFirst (cursors_by game hs command reason)) (sym (no_hands hands end)) (first_by game command reason)
start_more game hands command reason (first ∷ more) end start = start

starts : (game : Game) (count : ℕ) (commands : List Command) → StartsAtFirst (cursors game count commands)
unfolding hands_of cursors
starts game count [] = tt
starts game count (command ∷ earlier) =
    start_more game (hands_of game count earlier) command (reason_of game count (hands_of game count earlier) command) (cursors game count earlier)
    (stand game count earlier).end (starts game count earlier)

-- nothing is told before the first deal
none_told : (game : Game) (count seat : ℕ) (commands : List Command) (line : Line) → EndAt (hands_of game count commands) [] → IsTold game count seat commands (cursor_at 0 0) line → ⊥
none_told game count seat commands line end t =
    let h = come game count seat commands (cursor_at 0 0) line t in
    let found : hands_at (hands_of game count commands) 0 0 ≡ Some (h.newest ∷ h.before) =
    found_now_too game count commands (cursor_at 0 0) (h.newest ∷ h.before) t.earlier t.is_beginning.0 t.is_beginning.1 h.come_to in
    let none : None ≡ Some (h.newest ∷ h.before) = ap (λ (hs : List Hand). hands_at hs 0 0) (sym (no_hands (hands_of game count commands) end)) ∙ found in
    absurd cc

no_line : (lines : List Line) → length lines ≡ 0 → lines ≡ []
no_line [] e = refl
no_line (line ∷ lines) e = absurd (omega (arith, e))

first_part : (game : Game) (count seat : ℕ) (commands : List Command) (all : List Cursor) (told : List Line) → cursors game count commands ≡ all → StartsAtFirst all
    → AreTold game count seat commands (cursor_at 0 0) told → IsFront told (dealers_lines game count seat commands)
first_part game count seat commands all [] is start are = record { behind = dealers_lines game count seat commands; joined = refl }
first_part game count seat commands [] (line ∷ more) is start are =
    absurd (none_told game count seat commands line (subst (EndAt (hands_of game count commands)) is (stand game count commands).end) are.0)
first_part game count seat commands (first ∷ after) (line ∷ more) is start are =
    let part = cursors_tell_the_lines game count seat commands [] after first (line ∷ more) is (subst (λ (m : Cursor). AreTold game count seat commands m (line ∷ more)) (sym start) are) in
    record { behind = part.rest; joined = part.joined ∙ ap (λ (l : List Line). l ++ ((line ∷ more) ++ part.rest)) (no_line part.front part.as_many) }

pub first_cursors_tell_a_beginning : FirstCursorsTellABeginning
first_cursors_tell_a_beginning game count seat commands told are = first_part game count seat commands (cursors game count commands) told refl (starts game count commands) are
