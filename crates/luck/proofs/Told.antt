-- The lines of a log so far, however it is read.
use Rattle.std.proofs.Common.{◌≡◌, ℕ, zero, suc, ◌+◌, ◌-◌, ◌<◌, pos, Bool, cond, List, [], ◌∷◌, ◌++◌, length, drop, get_or, refl, sym, ◌∙◌, ap, subst, arith}
use Rattle.std.specs.List.{AllByRecursion}
use Rattle.std.proofs.lemmas.List.{append_cancel_left, drop_more, drop_all, length-drop}
use Rattle.sha2.specs.Sha256.{sha256}
use Rattle.game_def.specs.Game.{Game}
use Rattle.side_pots.specs.Pots.{total}
use Rattle.slot_log.specs.Hand.{Hand}
use Rattle.slot_log.specs.Dealer.{hands_of}
use Rattle.match_log.specs.Check.{IsMatchLog, IsPlayed, HasTitle}
use Rattle.match_log.specs.Lines.{header_line, state_line, score_line}
use Rattle.match_log.specs.Log.{state_lines, log_of, log_lines}
use Rattle.match_log.proofs.SameHands.{line_last}
use Rattle.luck.specs.Lines.{all_lines, hand_lines, LucksSumToZero}
use Rattle.luck.specs.Lucks.{lucks_of}

-- the hands of a log, read in some way
abbrev pub hands_in : (game : Game) (log : List ℕ) → IsMatchLog game log → List Hand
hands_in game log read = hands_of game read.title.hands read.commands

-- all its hands' lines and the score
abbrev pub behind_title : (game : Game) (log : List ℕ) → IsMatchLog game log → List ℕ
behind_title game log read = state_lines game read.names (hands_in game log read) ++ score_line game read.names (hands_in game log read)

over_lines : (game : Game) (log : List ℕ) (read : IsMatchLog game log) → log_lines game read.title read.names read.commands ≡ header_line read.title.name read.title.game read.title.hands ++ behind_title game log read
unfolding log_lines log_of
over_lines game log read =
    ap (λ (b : Bool). header_line read.title.name read.title.game read.title.hands ++ (state_lines game read.names (hands_in game log read) ++ cond b (score_line game read.names (hands_in game log read)) [])) read.over

pub title_is : (game : Game) (log : List ℕ) (read : IsMatchLog game log) → HasTitle log read.title (behind_title game log read)
title_is game log read = record { is_title = read.is_title; whole = read.lines ∙ over_lines game log read }

-- the first so many hands
abbrev pub first_hands : ℕ → List Hand → List Hand
first_hands number hands = drop (length hands - number) hands

-- what was told is the lines of the first so many hands, and the rest stands behind those in the log
pub record IsTold (game : Game) (log : List ℕ) (read : IsMatchLog game log) (number : ℕ) (rest out : List ℕ) : Type 0 where
  pub text : behind_title game log read ≡ state_lines game read.names (first_hands number (hands_in game log read)) ++ rest
  pub told : out ≡ all_lines (sha256 log) game read.names (first_hands number (hands_in game log read))
  pub zero_sum : LucksSumToZero (sha256 log) game (first_hands number (hands_in game log read))

none_yet : (hands : List Hand) → first_hands 0 hands ≡ []
none_yet hands = drop_all (length hands - 0) hands (omega arith)

pub nothing_told : (game : Game) (log : List ℕ) (read : IsMatchLog game log) (rest : List ℕ) → rest ≡ behind_title game log read → IsTold game log read 0 rest []
unfolding state_lines all_lines
nothing_told game log read rest is = record {
  text = sym is ∙ ap (λ (hands : List Hand). state_lines game read.names hands ++ rest) (sym (none_yet (hands_in game log read)));
  told = ap (all_lines (sha256 log) game read.names) (sym (none_yet (hands_in game log read)));
  zero_sum = subst (LucksSumToZero (sha256 log) game) (sym (none_yet (hands_in game log read))) tt;
}

-- ---- the next hand

abbrev no_hand : Hand
no_hand = record { deal = []; past = [] }

-- what stands behind the lines of the hands from a place on
behind_from : (game : Game) (names : List (List ℕ)) (place : ℕ) (hands : List Hand) (end : List ℕ) → AllByRecursion (IsPlayed game) hands → (rest : List ℕ) × (state_lines game names hands ++ end ≡ state_lines game names (drop place hands) ++ rest)
behind_from game names zero hands end played = (end, refl)
behind_from game names (suc place) [] end played = (end, refl)
behind_from game names (suc place) (hand ∷ hands) end played =
    let more = behind_from game names place hands (state_line game names (length hands) hand ++ end) played.1 in
    (more.0, line_last game names hand hands end played.0.finished ∙ more.1)

played_at : (game : Game) (hands : List Hand) (place : ℕ) → place < length hands → AllByRecursion (IsPlayed game) hands → IsPlayed game (get_or hands place no_hand)
played_at game [] place within played = absurd (omega arith)
played_at game (hand ∷ hands) zero within played = played.0
played_at game (hand ∷ hands) (suc place) within played = played_at game hands place (omega arith) played.1

-- a hand behind so many, and what stands behind its line
pub record IsNextHand (game : Game) (names : List (List ℕ)) (hands : List Hand) (number : ℕ) (end rest : List ℕ) : Type 0 where
  pub hand : Hand
  pub behind : List ℕ
  pub played : IsPlayed game hand
  pub first : first_hands (number + 1) hands ≡ hand ∷ first_hands number hands
  pub count : length (first_hands number hands) ≡ number
  pub line : rest ≡ state_line game names number hand ++ behind
  pub text : state_lines game names hands ++ end ≡ state_lines game names (first_hands (number + 1) hands) ++ behind

pub next_hand_of : (game : Game) (names : List (List ℕ)) (hands : List Hand) (number : ℕ) (end rest : List ℕ) → number < length hands → AllByRecursion (IsPlayed game) hands
    → state_lines game names hands ++ end ≡ state_lines game names (first_hands number hands) ++ rest → IsNextHand game names hands number end rest
next_hand_of game names hands number end rest more played text =
    let place = length hands - (number + 1) in
    let hand = get_or hands place no_hand in
    let at : place + 1 ≡ length hands - number = omega arith in
    let first : drop place hands ≡ hand ∷ first_hands number hands = drop_more hands place no_hand (omega arith) ∙ ap (λ n. hand ∷ drop n hands) at in
    let count : length (first_hands number hands) ≡ number = omega (arith, length-drop (length hands - number) hands) in
    let found = behind_from game names place hands end played in
    let is_played : IsPlayed game hand = played_at game hands place (omega arith) played in
    let both : state_lines game names (first_hands number hands) ++ rest ≡ state_lines game names (first_hands number hands) ++ (state_line game names (length (first_hands number hands)) hand ++ found.0) =
    sym text ∙ found.1 ∙ ap (λ (hs : List Hand). state_lines game names hs ++ found.0) first ∙ line_last game names hand (first_hands number hands) found.0 is_played.finished in
    record {
      hand = hand;
      behind = found.0;
      played = is_played;
      first = first;
      count = count;
      line = append_cancel_left (state_lines game names (first_hands number hands)) rest _ both ∙ ap (λ n. state_line game names n hand ++ found.0) count;
      text = found.1;
    }

-- one more hand is told
pub more_told : (game : Game) (log : List ℕ) (read : IsMatchLog game log) (number : ℕ) (rest out behind after : List ℕ) (told : IsTold game log read number rest out)
    (next : IsNextHand game read.names (hands_in game log read) number (score_line game read.names (hands_in game log read)) rest)
    → behind ≡ next.behind → after ≡ out ++ hand_lines (sha256 log) game read.names number next.hand → total (lucks_of (sha256 log) game number next.hand) ≡ pos 0 → IsTold game log read (number + 1) behind after
unfolding all_lines
more_told game log read number rest out behind after told next same is zero_sum = record {
  text = next.text ∙ ap (λ (b : List ℕ). state_lines game read.names (first_hands (number + 1) (hands_in game log read)) ++ b) (sym same);
  told =
      is ∙ ap (λ (t : List ℕ). t ++ hand_lines (sha256 log) game read.names number next.hand) told.told
      ∙ ap (λ n. all_lines (sha256 log) game read.names (first_hands number (hands_in game log read)) ++ hand_lines (sha256 log) game read.names n next.hand) (sym next.count)
      ∙ ap (all_lines (sha256 log) game read.names) (sym next.first);
  zero_sum = subst (LucksSumToZero (sha256 log) game) (sym next.first)
      (told.zero_sum, ap (λ n. total (lucks_of (sha256 log) game n next.hand)) next.count ∙ zero_sum);
}

pub all_told : (game : Game) (log : List ℕ) (read : IsMatchLog game log) (number : ℕ) (rest out : List ℕ) → number ≡ length (hands_in game log read) → IsTold game log read number rest out → out ≡ all_lines (sha256 log) game read.names (hands_in game log read)
all_told game log read number rest out all told =
    let none : length (hands_in game log read) - number ≡ 0 = omega arith in
    told.told ∙ ap (λ n. all_lines (sha256 log) game read.names (drop n (hands_in game log read))) none

pub all_sum_to_zero : (game : Game) (log : List ℕ) (read : IsMatchLog game log) (number : ℕ) (rest out : List ℕ) → number ≡ length (hands_in game log read) → IsTold game log read number rest out → LucksSumToZero (sha256 log) game (hands_in game log read)
all_sum_to_zero game log read number rest out all told =
    let none : length (hands_in game log read) - number ≡ 0 = omega arith in
    subst (λ n. LucksSumToZero (sha256 log) game (drop n (hands_in game log read))) none told.zero_sum
