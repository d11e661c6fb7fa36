-- Two readings of one text: their headers, and hand by hand their lines, say the same.
use Rattle.std.proofs.Common.{◌≡◌, ℕ, ◌+◌, ◌%◌, ◌<◌, ◌≤◌, Bool, true, ℤ, pos, ◌+ℤ◌, List, [], ◌∷◌, ◌++◌, length, get_or, refl, sym, ◌∙◌, ap, subst, append_assoc, arith, inl, inr, ◌⊎◌}
use Rattle.std.specs.Prelude.{codes, decimal, if◌then◌else◌}
use Rattle.std.specs.List.{AllByRecursion}
use Rattle.std.proofs.lemmas.Bool.{cases_lt}
use Rattle.std.proofs.lemmas.List.{append_cancel_left}
use Rattle.std.proofs.lemmas.List.FromFn.{fill_by_all}
use Rattle.std.proofs.Math.Nat.{mod-eq_of_lt}
use Rattle.game_def.specs.Game.{Game, IsGame}
use Rattle.matchstate.specs.OneToOne.{BettingTextsAreOneToOne}
use Rattle.slot_log.specs.Hand.{Hand}
use Rattle.slot_log.specs.Dealer.{is_finished}
use Rattle.matchstate.specs.View.{seat_of, position_of}
use Rattle.match_log.specs.Names.{AreNames, names_by_position}
use Rattle.match_log.specs.Payoffs.{payoffs_of, total_of, totals_of}
use Rattle.match_log.specs.Lines.{header_line, state_line}
use Rattle.match_log.specs.Log.{Title, state_lines}
use Rattle.match_log.specs.Check.{IsPlayed, HasTitle}
use Rattle.match_log.specs.Verdict.{PayoffsAreThoseShown}
use Rattle.matchstate.proofs.Fronts.{cut_alike}
use Rattle.match_log.proofs.Free.{name_free, word_free}
use Rattle.std.proofs.lemmas.Fmt.{decimal_injective}
use Rattle.match_log.proofs.FieldBytes.{no_end, decimal_plain}
use Rattle.match_log.proofs.OneLine.{SaysTheSame, lines_say_the_same, paid, state_line_says, state_line_said}
use Rattle.side_pots.proofs.Settled.{map_range-same}

-- ---- headers

pub header_parts : (title : Title) (rest : List ℕ) → header_line title.name title.game title.hands ++ rest ≡ codes "# name/game/hands " ++ (title.name ++ 32 ∷ (title.game ++ 32 ∷ (decimal title.hands ++ 10 ∷ rest)))
unfolding header_line
header_parts title rest = ap (λ (t : List ℕ). codes "# name/game/hands " ++ t) (regroup title.name title.game (decimal title.hands))
  where
    regroup : (a b c : List ℕ) → (a ++ 32 ∷ (b ++ 32 ∷ (c ++ 10 ∷ []))) ++ rest ≡ a ++ 32 ∷ (b ++ 32 ∷ (c ++ 10 ∷ rest))
    regroup a b c = simp append_assoc

-- headers of one text have one number of hands, and the same behind them
pub headers_alike : (bytes : List ℕ) (title other : Title) (rest behind : List ℕ) → HasTitle bytes title rest → HasTitle bytes other behind → (title.hands ≡ other.hands) × (rest ≡ behind)
headers_alike bytes title other rest behind one another =
    let whole = append_cancel_left (codes "# name/game/hands ") _ _ (sym (header_parts title rest) ∙ sym one.whole ∙ another.whole ∙ header_parts other behind) in
    let first = cut_alike 32 title.name other.name _ _ (name_free 32 refl title.name one.is_title.name) (name_free 32 refl other.name another.is_title.name) whole in
    let second = cut_alike 32 title.game other.game _ _ (word_free title.game one.is_title.game) (word_free other.game another.is_title.game) first.1 in
    let third = cut_alike 10 (decimal title.hands) (decimal other.hands) rest behind (no_end (decimal title.hands) (decimal_plain title.hands)) (no_end (decimal other.hands) (decimal_plain other.hands)) second.1 in
    let few = one.is_title.most in
    let most = another.is_title.most in
    (decimal_injective title.hands other.hands (omega arith) (omega arith) third.0, third.1)

-- ---- lines of hands

-- the last line of some
pub line_last : (game : Game) (names : List (List ℕ)) (hand : Hand) (earlier : List Hand) (rest : List ℕ) → is_finished game hand ≡ true → state_lines game names (hand ∷ earlier) ++ rest ≡ state_lines game names earlier ++ (state_line game names (length earlier) hand ++ rest)
unfolding state_lines
line_last game names hand earlier rest finished =
    ap (λ (b : Bool). (state_lines game names earlier ++ (if b then state_line game names (length earlier) hand else [])) ++ rest) finished
    ∙ append_assoc (state_lines game names earlier) (state_line game names (length earlier) hand) rest

-- behind so many hands stands the line of a next one
pub record NextHand (game : Game) (names : List (List ℕ)) (count : ℕ) (whole : List ℕ) : Type 0 where
  pub next : Hand
  pub earlier : List Hand
  pub behind : List ℕ
  pub next_played : IsPlayed game next
  pub played : AllByRecursion (IsPlayed game) earlier
  pub counts : length earlier ≡ count
  pub lines : whole ≡ state_lines game names earlier ++ (state_line game names count next ++ behind)

pub next_hand : (game : Game) (names : List (List ℕ)) (count : ℕ) (hands : List Hand) (rest : List ℕ) → count < length hands → AllByRecursion (IsPlayed game) hands → NextHand game names count (state_lines game names hands ++ rest)
next_hand game names count [] rest more played = absurd (omega arith)
next_hand game names count (hand ∷ earlier) rest more played = by (next_hand game names count earlier (state_line game names (length earlier) hand ++ rest)) (cases_lt count (length earlier))
  where
    by : (count < length earlier → AllByRecursion (IsPlayed game) earlier → NextHand game names count (state_lines game names earlier ++ (state_line game names (length earlier) hand ++ rest))) → (count < length earlier) ⊎ (length earlier ≤ count) → NextHand game names count (state_lines game names (hand ∷ earlier) ++ rest)
    by before (inl less) = subst (NextHand game names count) (sym (line_last game names hand earlier rest played.0.finished)) (before less played.1)
    by before (inr up) =
        let same : length earlier ≡ count = omega arith in
        record {
          next = hand;
          earlier = earlier;
          behind = rest;
          next_played = played.0;
          played = played.1;
          counts = same;
          lines = line_last game names hand earlier rest played.0.finished ∙ ap (λ (n : ℕ). state_lines game names earlier ++ (state_line game names n hand ++ rest)) same;
        }

-- in the first hand the names by position are the seats' names
names_first : (players : ℕ) (names : List (List ℕ)) → length names ≡ players → names ≡ names_by_position players 0 names
names_first players names count =
    fill_by_all (λ position. get_or names (seat_of players 0 position) []) names players [] count (λ position within.
    let plain : position + 0 ≡ position = omega arith in
    let seat : seat_of players 0 position ≡ position = ap (λ (n : ℕ). n % players) plain ∙ mod-eq_of_lt within in
    ap (λ (n : ℕ). get_or names n []) (sym seat))

-- lines of as many hands say the same
pub record AreAlike (game : Game) (names seats : List (List ℕ)) (hands others : List Hand) (rest behind : List ℕ) : Type 0 where
  pub same_totals : (seat : ℕ) → total_of game hands seat ≡ total_of game others seat
  pub same_names : 1 ≤ length hands → names ≡ seats
  pub same_rest : rest ≡ behind

module _ (texts : BettingTextsAreOneToOne) (pays : PayoffsAreThoseShown) (game : Game) (is : IsGame game) where
  some_players : 1 ≤ game.players
  some_players = let least = is.least_players in omega arith

  -- played hands whose lines say the same pay the same
  pub says_pay : (number other : List ℕ) (hand another : Hand) (values amounts names seats : List (List ℕ)) (rest behind : List ℕ) → IsPlayed game hand → IsPlayed game another → SaysTheSame game number other hand another values amounts names seats rest behind → payoffs_of game hand ≡ payoffs_of game another
  says_pay number other hand another values amounts names seats rest behind played again same =
      pays game hand another is played again (texts game hand.past another.past is played.legal again.legal same.same_betting) same.same_cards

  lines_alike : (number : ℕ) (names seats : List (List ℕ)) (hand another : Hand) (rest behind : List ℕ) → AreNames game.players names → AreNames game.players seats → state_line game names number hand ++ rest ≡ state_line game seats number another ++ behind
      → SaysTheSame game (decimal number) (decimal number) hand another (paid game hand) (paid game another) (names_by_position game.players number names) (names_by_position game.players number seats) rest behind
  lines_alike number names seats hand another rest behind are those e =
      lines_say_the_same game (decimal number) (decimal number) hand another (paid game hand) (paid game another) (names_by_position game.players number names) (names_by_position game.players number seats) rest behind
      (state_line_said game names number hand some_players are) (state_line_said game seats number another some_players those)
      (sym (ap (λ (t : List ℕ). t ++ rest) (state_line_says game names number hand)) ∙ e ∙ ap (λ (t : List ℕ). t ++ behind) (state_line_says game seats number another))

  -- the first lines give the seats' names
  first_names : (names seats : List (List ℕ)) → AreNames game.players names → AreNames game.players seats → names_by_position game.players 0 names ≡ names_by_position game.players 0 seats → names ≡ seats
  first_names names seats are those same = names_first game.players names are.one_each ∙ same ∙ sym (names_first game.players seats those.one_each)

  -- they are told by the first hand's line
  names_from : (earlier : List Hand) (hand another : Hand) (rest behind : List ℕ) (names seats : List (List ℕ)) → AreNames game.players names → AreNames game.players seats → (1 ≤ length earlier → names ≡ seats)
      → SaysTheSame game (decimal (length earlier)) (decimal (length earlier)) hand another (paid game hand) (paid game another) (names_by_position game.players (length earlier) names) (names_by_position game.players (length earlier) seats) rest behind → names ≡ seats
  names_from [] hand another rest behind names seats are those before last = first_names names seats are those last.same_names
  names_from (newest ∷ earlier) hand another rest behind names seats are those before last = before (omega arith)

  pub hands_alike : (names seats : List (List ℕ)) (hands others : List Hand) (rest behind : List ℕ) → AreNames game.players names → AreNames game.players seats → length hands ≡ length others → AllByRecursion (IsPlayed game) hands → AllByRecursion (IsPlayed game) others
      → state_lines game names hands ++ rest ≡ state_lines game seats others ++ behind → AreAlike game names seats hands others rest behind
  unfolding state_lines total_of
  hands_alike names seats [] [] rest behind are those count played again e = record { same_totals = λ seat. refl; same_names = λ some. absurd (omega arith); same_rest = e }
  hands_alike names seats [] (other ∷ others) rest behind are those count played again e = absurd (omega arith)
  hands_alike names seats (hand ∷ hands) [] rest behind are those count played again e = absurd (omega arith)
  hands_alike names seats (hand ∷ hands) (other ∷ others) rest behind are those count played again e =
      let shorter : length hands ≡ length others = omega arith in
      let before = hands_alike names seats hands others (state_line game names (length hands) hand ++ rest) (state_line game seats (length others) other ++ behind) are those shorter played.1 again.1
      (sym (line_last game names hand hands rest played.0.finished) ∙ e ∙ line_last game seats other others behind again.0.finished) in
      let last = lines_alike (length hands) names seats hand other rest behind are those
      (before.same_rest ∙ ap (λ (n : ℕ). state_line game seats n other ++ behind) (sym shorter)) in
      record {
        same_totals = λ seat.
            ap (λ (z : ℤ). z +ℤ get_or (payoffs_of game hand) (position_of game.players (length hands) seat) (pos 0)) (before.same_totals seat)
            ∙ ap (λ (amounts : List ℤ). total_of game others seat +ℤ get_or amounts (position_of game.players (length hands) seat) (pos 0)) (says_pay _ _ hand other _ _ _ _ rest behind played.0 again.0 last)
            ∙ ap (λ (n : ℕ). total_of game others seat +ℤ get_or (payoffs_of game other) (position_of game.players n seat) (pos 0)) shorter;
        same_names = λ some. names_from hands hand other rest behind names seats are those before.same_names last;
        same_rest = last.same_rest;
      }

-- totals seat by seat
pub totals_alike : (game : Game) (hands others : List Hand) → ((seat : ℕ) → total_of game hands seat ≡ total_of game others seat) → totals_of game hands ≡ totals_of game others
unfolding totals_of
totals_alike game hands others same = map_range-same (total_of game hands) (total_of game others) 0 game.players (λ seat from to. same seat)
