-- A log that is right up to some line, and what may come of it.
use Rattle.std.proofs.Common.{◌≡◌, ℕ, suc, ◌+◌, ◌<◌, ◌≤◌, Bool, true, cond, leb, List, [], ◌∷◌, ◌++◌, map, length, Option, Some, None, IsSome, refl, sym, ap, ◌∙◌, subst, append_assoc, arith}
use Rattle.std.specs.List.{AllByRecursion, fold}
use Rattle.std.proofs.lemmas.Bool.Decides.{nat_tests}
use Rattle.std.proofs.lemmas.List.{append-nil}
use Rattle.card_core.specs.Deal.{IsDeal, player_count}
use Rattle.game_def.specs.Game.{Game}
use Rattle.slot_log.specs.Hand.{Hand}
use Rattle.slot_log.specs.declared.command.Command.{Command}
use Rattle.slot_log.specs.declared.command.Command.TheVariants.{Deal, Act, Away}
use Rattle.slot_log.specs.Dealer.{is_finished, finished_count, is_match_over, hands_of}
use Rattle.slot_log.specs.Laws.{HandsComeOfCommands, CommandsDealTheHands}
use Rattle.slot_log.specs.Played.{commands_of, deals_of, IsLegalHand, AreEarlierFinished}
use Rattle.match_log.specs.Check.{IsPlayed, HasTitle, HasHands, IsMatchLog, DealsFairly}
use Rattle.match_log.specs.Lines.{header_line, state_line, score_line}
use Rattle.match_log.specs.Log.{Title, state_lines, log_of, log_lines}
use Rattle.match_log.specs.Reading.{AreKnown, HasSaid, AreNamed, IsNext}
use Rattle.match_log.specs.Tally.{IsTallyOf}
use Rattle.match_log.specs.declared.checked.Checked.{Checked}
use Rattle.match_log.proofs.Settling.{deal_players}
use Rattle.match_log.proofs.SomeNames.{some_names, are_some_names}

-- a title of so many hands and the right lines of some of them stand before the rest
pub record SoFar (game : Game) (bytes : List ℕ) (count number : ℕ) (rest : List ℕ) (checked : Checked) : Type 0 where
  pub title : Title
  pub same_count : title.hands ≡ count
  pub names : List (List ℕ)
  pub hands : List Hand
  pub said_so_far : length hands ≡ number
  pub before : HasHands game bytes title names hands rest
  pub said : HasSaid game names hands checked

-- ---- line by line

no_lines : (game : Game) (names : List (List ℕ)) (rest : List ℕ) → rest ≡ state_lines game names [] ++ rest
unfolding state_lines
no_lines game names rest = refl

pub begun : (game : Game) (bytes : List ℕ) (title : Title) (count : ℕ) (rest : List ℕ) (checked : Checked) → game.players ≤ 10 → title.hands ≡ count → HasTitle bytes title rest → IsTallyOf game [] checked.score → checked.names ≡ None → SoFar game bytes count 0 rest checked
begun game bytes title count rest checked few same header tally none = record {
  title = title;
  same_count = same;
  names = some_names game.players;
  hands = [];
  said_so_far = refl;
  before = record {
    behind_header = rest;
    header = header;
    are_names = are_some_names game.players few;
    played = tt;
    no_more = omega arith;
    lines = no_lines game (some_names game.players) rest;
  };
  said = record { tally = tally; known = none };
}

same_lines : (game : Game) (names seats : List (List ℕ)) (hands : List Hand) → AreNamed hands names seats → state_lines game names hands ≡ state_lines game seats hands
unfolding state_lines
same_lines game names seats [] named = refl
same_lines game names seats (hand ∷ earlier) named = ap (λ (others : List (List ℕ)). state_lines game others (hand ∷ earlier)) (sym named)

line_more : (game : Game) (seats : List (List ℕ)) (hands : List Hand) (hand : Hand) → is_finished game hand ≡ true → state_lines game seats (hand ∷ hands) ≡ state_lines game seats hands ++ state_line game seats (length hands) hand
unfolding state_lines
line_more game seats hands hand finished = ap (λ (b : Bool). state_lines game seats hands ++ cond b (state_line game seats (length hands) hand) []) finished

pub gone_on : (game : Game) (bytes : List ℕ) (count number : ℕ) (rest behind : List ℕ) (checked after : Checked) (so_far : SoFar game bytes count number rest checked) → number < count → IsNext game so_far.names so_far.hands rest behind after → SoFar game bytes count (number + 1) behind after
gone_on game bytes count number rest behind checked after so_far more next =
    let hands = so_far.hands in
    let names = so_far.names in
    let so_many : length hands ≡ number = so_far.said_so_far in
    let same : so_far.title.hands ≡ count = so_far.same_count in
    record {
      title = so_far.title;
      same_count = same;
      names = next.seats;
      hands = next.hand ∷ hands;
      said_so_far = omega (arith, so_many);
      before = record {
        behind_header = so_far.before.behind_header;
        header = so_far.before.header;
        are_names = next.are_names;
        played = (next.played, so_far.before.played);
        no_more = omega (arith, so_many, same, more);
        lines =
            so_far.before.lines ∙ ap (λ (t : List ℕ). t ++ rest) (same_lines game names next.seats hands next.named)
            ∙ ap (λ (t : List ℕ). state_lines game next.seats hands ++ t) next.line
            ∙ sym (append_assoc (state_lines game next.seats hands) (state_line game next.seats (length hands) next.hand) behind)
            ∙ ap (λ (t : List ℕ). t ++ behind) (sym (line_more game next.seats hands next.hand next.played.finished));
      };
      said = next.said;
    }

-- ---- the names are known once there was a hand

pub are_known : (players : ℕ) (names : List (List ℕ)) (hands : List Hand) (known : Option (List (List ℕ))) → 1 ≤ length hands → AreKnown players names hands known → IsSome known
are_known players names [] known some are = absurd (omega arith)
are_known players names (hand ∷ earlier) None some are = absurd are
are_known players names (hand ∷ earlier) (Some seats) some are = refl

-- ---- the whole log

all_finished : (game : Game) (hands : List Hand) → AllByRecursion (IsPlayed game) hands → AllByRecursion (λ hand. is_finished game hand ≡ true) hands
all_finished game [] all = tt
all_finished game (hand ∷ hands) all = (all.0.finished, all_finished game hands all.1)

earlier_finished : (game : Game) (hands : List Hand) → AllByRecursion (IsPlayed game) hands → AreEarlierFinished game hands
earlier_finished game [] all = tt
earlier_finished game (hand ∷ hands) all = all_finished game hands all.1

all_legal : (game : Game) (hands : List Hand) → AllByRecursion (IsPlayed game) hands → AllByRecursion (IsLegalHand game) hands
all_legal game [] all = tt
all_legal game (hand ∷ hands) all = (record { card_count = all.0.dealt.count; legal = all.0.legal }, all_legal game hands all.1)

counted_from : (game : Game) (start : ℕ) (hands : List Hand) → AllByRecursion (IsPlayed game) hands → fold (λ count hand. count + cond (is_finished game hand) 1 0) start hands ≡ start + length hands
counted_from game start [] all = omega arith
counted_from game start (hand ∷ hands) all =
    ap (λ (b : Bool). fold (λ count other. count + cond (is_finished game other) 1 0) (start + cond b 1 0) hands) all.0.finished
    ∙ counted_from game (start + 1) hands all.1 ∙ one_more start (length hands)
  where
    one_more : (m n : ℕ) → m + 1 + n ≡ m + suc n
    one_more m n = omega arith

pub finished_all : (game : Game) (hands : List Hand) → AllByRecursion (IsPlayed game) hands → finished_count game hands ≡ length hands
finished_all game hands all = let counted = counted_from game 0 hands all in counted ∙ from_none (length hands)
  where
    from_none : (n : ℕ) → 0 + n ≡ n
    from_none n = omega arith

is_over : (game : Game) (hands : List Hand) (count : ℕ) → AllByRecursion (IsPlayed game) hands → length hands ≡ count → is_match_over game count hands ≡ true
is_over game hands count all so_many = let finished : finished_count game hands ≡ count = finished_all game hands all ∙ so_many in at_most count (finished_count game hands) (omega (arith, finished))
  where
    at_most : (a b : ℕ) → a ≤ b → leb a b ≡ true
    at_most a b h = grind (arith, nat_tests)

fair_deals : (game : Game) (hands : List Hand) → AllByRecursion (IsPlayed game) hands → AllByRecursion (λ deal. IsDeal (player_count deal) deal) (map (λ hand. hand.deal) hands)
fair_deals game [] all = tt
fair_deals game (hand ∷ hands) all = (subst (λ n. IsDeal n hand.deal) (sym (deal_players game.players hand.deal all.0.dealt)) all.0.dealt, fair_deals game hands all.1)

fair_commands : (commands : List Command) → AllByRecursion (λ deal. IsDeal (player_count deal) deal) (deals_of commands) → AllByRecursion DealsFairly commands
fair_commands [] all = tt
fair_commands (Deal hand deal ∷ commands) all = (all.0, fair_commands commands all.1)
fair_commands (Act hand index action ∷ commands) all = (tt, fair_commands commands all)
fair_commands (Away hand index ∷ commands) all = (tt, fair_commands commands all)

over_log : (game : Game) (title : Title) (names : List (List ℕ)) (commands : List Command) (hands : List Hand) → hands_of game title.hands commands ≡ hands → is_match_over game title.hands hands ≡ true
    → log_lines game title names commands ≡ header_line title.name title.game title.hands ++ (state_lines game names hands ++ score_line game names hands)
unfolding log_lines log_of
over_log game title names commands hands same over =
    ap (log_of game title names) same
    ∙ ap (λ (b : Bool). header_line title.name title.game title.hands ++ (state_lines game names hands ++ cond b (score_line game names hands) [])) over

pub whole_log : (game : Game) (bytes : List ℕ) (count : ℕ) (rest behind : List ℕ) (checked : Checked) (so_far : SoFar game bytes count count rest checked) → HandsComeOfCommands → CommandsDealTheHands → rest ≡ score_line game so_far.names so_far.hands ++ behind → behind ≡ [] → IsMatchLog game bytes
whole_log game bytes count rest behind checked so_far come deal score none =
    let title = so_far.title in
    let names = so_far.names in
    let hands = so_far.hands in
    let played = so_far.before.played in
    let so_many : length hands ≡ title.hands = so_far.said_so_far ∙ sym so_far.same_count in
    let same : hands_of game title.hands (commands_of hands) ≡ hands = come game title.hands hands (all_legal game hands played) (earlier_finished game hands played) so_far.before.no_more in
    let over : is_match_over game title.hands hands ≡ true = is_over game hands title.hands played so_many in
    record {
      title = title;
      is_title = so_far.before.header.is_title;
      names = names;
      are_names = so_far.before.are_names;
      commands = commands_of hands;
      deals = fair_commands (commands_of hands) (subst (AllByRecursion (λ d. IsDeal (player_count d) d)) (sym (deal hands)) (fair_deals game hands played));
      over = ap (is_match_over game title.hands) same ∙ over;
      lines =
          so_far.before.header.whole
          ∙ ap (λ (t : List ℕ). header_line title.name title.game title.hands ++ t) (so_far.before.lines
          ∙ ap (λ (t : List ℕ). state_lines game names hands ++ t) (score ∙ ap (λ (t : List ℕ). score_line game names hands ++ t) none ∙ append-nil (score_line game names hands)))
          ∙ sym (over_log game title names (commands_of hands) hands same over);
    }
