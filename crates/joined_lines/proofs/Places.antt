-- A place to which a match has come is one of the places of its lines.
use Rattle.std.proofs.Common.{◌≡◌, ℕ, ◌-◌, ◌≤◌, List, [], ◌∷◌, ◌++◌, length, drop, Option, Some, None, option_to_list, sym, ap, ◌∙◌, append_assoc, append-nil, arith}
use Rattle.std.proofs.lemmas.List.{length-drop}
use Rattle.game_def.specs.Game.{Game}
use Rattle.slot_log.specs.Hand.{Hand}
use Rattle.slot_log.specs.Dealer.{hands_of, reason_of, with_command}
use Rattle.slot_log.specs.declared.command.Command.{Command}
use Rattle.slot_log.specs.declared.reason.Reason.{Reason}
use Rattle.line_cursor.specs.declared.cursor.Cursor.{Cursor}
use Rattle.line_cursor.specs.Cursors.{cursor_at, newest_cursor, cursors_by, cursors}
use Rattle.line_cursor.specs.Past.{cut_to, hands_at, PastIsABeginning}
use Rattle.line_cursor.proofs.Found.{IsFoundAt, found_at}

abbrev after_by : Option Reason → List Hand → List Hand → List Hand
after_by reason with hands = elim reason [ None ↦ with | Some r ↦ hands ]

-- the places end with the newest one
last_place : (game : Game) (count : ℕ) (commands : List Command) (newest : Hand) (before : List Hand) → hands_of game count commands ≡ newest ∷ before
    → (front : List Cursor) × (cursors game count commands ≡ front ++ cursor_at (length before) (length newest.past) ∷ [])
unfolding hands_of cursors
last_place game count [] newest before is = absurd cc
last_place game count (command ∷ earlier) newest before is =
    let hands : List Hand = hands_of game count earlier in
    let P : Option Reason → Type 0 = λ o. after_by o (with_command game hands command) hands ≡ newest ∷ before
    → (front : List Cursor) × (cursors game count earlier ++ cursors_by game hands command o ≡ front ++ cursor_at (length before) (length newest.past) ∷ []) in
    let step : P (reason_of game count hands command) = elim (reason_of game count hands command) as P [
      | None ↦ λ e. (cursors game count earlier, ap (λ (hs : List Hand). cursors game count earlier ++ option_to_list (newest_cursor hs)) e)
      | Some reason ↦ λ e. let last = last_place game count earlier newest before e in (last.0, append-nil (cursors game count earlier) ∙ last.1)
    ] in
    step is

-- further places stand behind those of a beginning
places_grow : (game : Game) (count : ℕ) (newer earlier : List Command) → (behind : List Cursor) × (cursors game count (newer ++ earlier) ≡ cursors game count earlier ++ behind)
unfolding cursors
places_grow game count [] earlier = ([], sym (append-nil (cursors game count earlier)))
places_grow game count (command ∷ newer) earlier =
    let more = places_grow game count newer earlier in
    let hands : List Hand = hands_of game count (newer ++ earlier) in
    let by : List Cursor = cursors_by game hands command (reason_of game count hands command) in
    (more.0 ++ by, ap (λ (l : List Cursor). l ++ by) more.1 ∙ append_assoc (cursors game count earlier) more.0 by)

-- it is one of the places of these commands
pub record IsPlaceOf (game : Game) (count : ℕ) (commands : List Command) (cursor : Cursor) : Type 0 where
  pub before : List Cursor
  pub after : List Cursor
  pub joined : cursors game count commands ≡ before ++ cursor ∷ after

stays_place : (game : Game) (count : ℕ) (commands earlier newer : List Command) (cursor : Cursor) → commands ≡ newer ++ earlier → IsPlaceOf game count earlier cursor → IsPlaceOf game count commands cursor
stays_place game count commands earlier newer cursor whole is =
    let more = places_grow game count newer earlier in
    record {
      before = is.before;
      after = is.after ++ more.0;
      joined = ap (cursors game count) whole ∙ (more.1 ∙ (ap (λ (l : List Cursor). l ++ more.0) is.joined ∙ append_assoc is.before (cursor ∷ is.after) more.0));
    }

cut_length : (dealt : Hand) (actions : ℕ) → actions ≤ length dealt.past → length (cut_to dealt actions).past ≡ actions
cut_length dealt actions few =
    let long : length (drop (length dealt.past - actions) dealt.past) ≡ length dealt.past - (length dealt.past - actions) = length-drop (length dealt.past - actions) dealt.past in
    omega arith

is_place_here : PastIsABeginning → (game : Game) (count : ℕ) (commands : List Command) (cursor : Cursor) (found : List Hand) → hands_at (hands_of game count commands) cursor.hand cursor.actions ≡ Some found
    → IsPlaceOf game count commands cursor
is_place_here law game count commands cursor found e =
    let past = law game count commands cursor.hand cursor.actions found e in
    let at : IsFoundAt (λ hand. Unit {0}) (hands_of game count commands) cursor.hand cursor.actions found = found_at (λ hand. Unit {0}) (hands_of game count commands) cursor.hand cursor.actions found e in
    let last = last_place game count past.0 (cut_to at.dealt cursor.actions) at.before (past.1.1 ∙ at.found_is) in
    let same : cursor_at (length at.before) (length (cut_to at.dealt cursor.actions).past) ≡ cursor =
    ap (λ (n : ℕ). cursor_at n (length (cut_to at.dealt cursor.actions).past)) (sym at.number) ∙ ap (cursor_at cursor.hand) (cut_length at.dealt cursor.actions at.few) in
    stays_place game count commands past.0 past.1.0.0 cursor past.1.0.1
    (record { before = last.0; after = []; joined = last.1 ∙ ap (λ (c : Cursor). last.0 ++ c ∷ []) same })

-- a place to which a beginning of these commands had come is one of theirs
pub is_place : PastIsABeginning → (game : Game) (count : ℕ) (commands earlier newer : List Command) (cursor : Cursor) (found : List Hand) → commands ≡ newer ++ earlier
    → hands_at (hands_of game count earlier) cursor.hand cursor.actions ≡ Some found → IsPlaceOf game count commands cursor
is_place law game count commands earlier newer cursor found whole e = stays_place game count commands earlier newer cursor whole (is_place_here law game count earlier cursor found e)
