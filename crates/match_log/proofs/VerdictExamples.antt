-- Worked texts that pin what is said of them: a log, and texts with the faults of its lines.
use Rattle.std.proofs.Common.{◌≡◌, ℕ, List, [], ◌∷◌, ◌++◌, map, get_or, refl, sym, ◌∙◌, ap, rules, arith, inl, inr, ℤ, pos, negsuc, Ok, Err}
use Rattle.std.specs.Prelude.{codes}
use Rattle.std.specs.Fmt.{signed_decimal}
use Rattle.std.specs.List.{IsDistinct}
use Rattle.game_def.specs.Game.{IsGame}
use Rattle.betting.specs.Legal.{CanAct}
use Rattle.betting.specs.declared.action.Action.TheVariants.{Fold}
use Rattle.card_core.specs.Deal.{IsDeal}
use Rattle.slot_log.specs.Hand.{Hand}
use Rattle.slot_log.specs.declared.command.Command.TheVariants.{Deal, Act}
use Rattle.match_log.specs.Names.{AreNames}
use Rattle.match_log.specs.Payoffs.{payoffs_of}
use Rattle.match_log.specs.Lines.{score_line, shown_cards}
use Rattle.match_log.specs.Log.{Title}
use Rattle.match_log.specs.declared.fault.LogFault.{LogFault}
use Rattle.match_log.specs.declared.fault_kind.LogFaultKind.{LogFaultKind}
use Rattle.match_log.specs.declared.fault_kind.LogFaultKind.TheVariants.{WrongNumber, WrongValues, WrongScore}
use Rattle.match_log.proofs.Examples.{opened, two_players, alice_and_bob, ten_ace}
use Rattle.match_log.specs.Verdict.{OneVerdict}
use Rattle.match_log.specs.Numeral.{IsDecimal, IsWhole}
use Rattle.match_log.specs.Check.{IsTitle, IsMatchLog, IsPlayed, HasHands, said_text, IsFirstFault}

pub two_player_game : IsGame two_players
two_player_game = record {
  least_players = omega arith;
  most_players = omega arith;
  stack_each = refl;
  blind_each = refl;
  stacks_fit = (omega arith, (omega arith, tt));
  stacks_above = (omega arith, (omega arith, tt));
  some_blind = omega arith;
  four_sizes = refl;
  sizes_fit = (omega arith, (omega arith, (omega arith, (omega arith, tt))));
  some_size = (omega arith, (omega arith, (omega arith, (omega arith, tt))));
  first_each = refl;
  firsts_play = (omega arith, (omega arith, (omega arith, (omega arith, tt))));
  raises_each = refl;
  raises_fit = (omega arith, (omega arith, (omega arith, (omega arith, tt))));
}

-- ---- one hand, folded at once

abbrev pub one_hand : Title
one_hand = record { name = codes "m"; game = codes "l2.game"; hands = 1 }

abbrev pub folded_hand : Hand
folded_hand = record { deal = ten_ace; past = Fold ∷ [] }

title_of_one : IsTitle one_hand
title_of_one = record {
  name = record { least = omega arith; most = omega arith; bytes = search rules };
  game = record { least = omega arith; most = omega arith; printable = search rules };
  least = omega arith;
  most = omega arith;
}

two_names : AreNames 2 alice_and_bob
unfolding IsDistinct
two_names = record {
  one_each = refl;
  each_name = (record { least = omega arith; most = omega arith; bytes = search rules }, (record { least = omega arith; most = omega arith; bytes = search rules }, tt));
  distinct = search rules;
}

two_names_turned : AreNames 2 (codes "bob" ∷ codes "alice" ∷ [])
unfolding IsDistinct
two_names_turned = record { one_each = refl; each_name = (two_names.each_name.1.0, (two_names.each_name.0, tt)); distinct = search rules }

nine_cards : IsDeal 2 ten_ace
unfolding IsDistinct
nine_cards = record { count = refl; cards_of_the_pack = search rules; distinct = search rules }

pub hand_played : IsPlayed two_players folded_hand
unfolding opened CanAct
hand_played = record { dealt = nine_cards; legal = (tt, (1, refl, omega arith)); finished = refl }

-- the whole log
log_of_one : IsMatchLog two_players (codes "# name/game/hands m l2.game 1\nSTATE:0:f:TdAs|8hTc:5|-5:alice|bob\nSCORE:5|-5:alice|bob\n")
unfolding opened
log_of_one = record {
  title = one_hand;
  is_title = title_of_one;
  names = alice_and_bob;
  are_names = two_names;
  commands = Act 0 0 Fold ∷ Deal 0 ten_ace ∷ [];
  deals = (tt, (nine_cards, tt));
  over = refl;
  lines = refl;
}

-- ---- texts with a fault in the hand's line

abbrev pub fault_at : LogFaultKind → ℕ → LogFault
fault_at kind line = record { kind = kind; line = line }

-- the right header, and the rest behind it
pub header_and : (rest : List ℕ) → HasHands two_players (codes "# name/game/hands m l2.game 1\n" ++ rest) one_hand alice_and_bob [] rest
unfolding opened
header_and rest = record {
  behind_header = rest;
  header = record { is_title = title_of_one; whole = refl };
  are_names = two_names;
  played = tt;
  no_more = omega arith;
  lines = refl;
}

five : IsDecimal (codes "5")
five = record { digits = search rules; some = omega arith; plain = λ e. refl }

four : IsDecimal (codes "4")
four = record { digits = search rules; some = omega arith; plain = λ e. refl }

minus_four : IsWhole (codes "-4")
minus_four = inr (record { digits = codes "4"; decimal = four; some = λ e. cc; whole = refl })

minus_five : IsWhole (codes "-5")
minus_five = inr (record { digits = codes "5"; decimal = five; some = λ e. cc; whole = refl })

pays_five : map signed_decimal (payoffs_of two_players folded_hand) ≡ codes "5" ∷ codes "-5" ∷ []
unfolding opened
pays_five = refl

-- the second seat loses five chips, not four
wrong_value : IsFirstFault two_players (codes "# name/game/hands m l2.game 1\nSTATE:0:f:TdAs|8hTc:5|-4:alice|bob\nSCORE:5|-4:alice|bob\n") (fault_at WrongValues 2)
unfolding opened said_text
wrong_value = inr (inl (record {
  title = one_hand;
  names = alice_and_bob;
  hands = [];
  rest = codes "STATE:0:f:TdAs|8hTc:5|-4:alice|bob\nSCORE:5|-4:alice|bob\n";
  before = header_and (codes "STATE:0:f:TdAs|8hTc:5|-4:alice|bob\nSCORE:5|-4:alice|bob\n");
  line = refl;
  wrong = inl (
    omega arith,
    (
      folded_hand,
      codes "5" ∷ codes "-4" ∷ [],
      record {
        played = hand_played;
        numbered = record { digits = search rules; some = omega arith; plain = λ e. refl };
        value_each = refl;
        whole_values = (inl five, (minus_four, tt));
        by_position = alice_and_bob;
        names_fit = (alice_and_bob, two_names, refl);
        behind = codes "SCORE:5|-4:alice|bob\n";
        whole = refl;
      },
      λ e. let digit : ◌≡◌ {A = ℕ} 52 53 = ap (λ (values : List (List ℕ)). get_or (get_or values 1 []) 1 0) (e ∙ pays_five) in omega (arith, digit),
    ),
  );
}))

-- the first hand has the number 0; by another number the positions have moved on
wrong_number : IsFirstFault two_players (codes "# name/game/hands m l2.game 1\nSTATE:1:f:TdAs|8hTc:5|-5:alice|bob\nSCORE:5|-5:alice|bob\n") (fault_at WrongNumber 2)
unfolding opened said_text
wrong_number = inr (inl (record {
  title = one_hand;
  names = alice_and_bob;
  hands = [];
  rest = codes "STATE:1:f:TdAs|8hTc:5|-5:alice|bob\nSCORE:5|-5:alice|bob\n";
  before = header_and (codes "STATE:1:f:TdAs|8hTc:5|-5:alice|bob\nSCORE:5|-5:alice|bob\n");
  line = refl;
  wrong = inl (
    omega arith,
    inr (
      codes "1",
      folded_hand,
      codes "5" ∷ codes "-5" ∷ [],
      record {
        played = hand_played;
        numbered = record { digits = search rules; some = omega arith; plain = λ e. refl };
        value_each = refl;
        whole_values = (inl five, (minus_five, tt));
        by_position = alice_and_bob;
        names_fit = (codes "bob" ∷ codes "alice" ∷ [], two_names_turned, refl);
        behind = codes "SCORE:5|-5:alice|bob\n";
        whole = refl;
      },
      λ e. let digit : ◌≡◌ {A = ℕ} 49 48 = ap (λ (number : List ℕ). get_or number 0 0) e in omega (arith, digit),
    ),
  );
}))

-- the score where a hand's line is due
score_too_soon : IsFirstFault two_players (codes "# name/game/hands m l2.game 1\nSCORE:0|0:alice|bob\n") (fault_at WrongNumber 2)
score_too_soon = inr (inl (record {
  title = one_hand;
  names = alice_and_bob;
  hands = [];
  rest = codes "SCORE:0|0:alice|bob\n";
  before = header_and (codes "SCORE:0|0:alice|bob\n");
  line = refl;
  wrong = inl (omega arith, inl (record { line = codes "0|0:alice|bob"; behind = []; one_line = search rules; whole = refl }));
}))

-- the header alone: no line follows
header_alone : IsFirstFault two_players (codes "# name/game/hands m l2.game 1\n") (fault_at WrongScore 2)
header_alone = inr (inl (record {
  title = one_hand;
  names = alice_and_bob;
  hands = [];
  rest = [];
  before = header_and [];
  line = refl;
  wrong = inl (omega arith, refl);
}))

-- no text at all lacks its first line
no_text : IsFirstFault two_players [] (fault_at WrongScore 1)
no_text = inl (refl, refl)

-- ---- texts with a fault behind the hand's line

-- the header and the hand's line, and the rest behind them
hand_and : (rest : List ℕ) → HasHands two_players (codes "# name/game/hands m l2.game 1\nSTATE:0:f:TdAs|8hTc:5|-5:alice|bob\n" ++ rest) one_hand alice_and_bob (folded_hand ∷ []) rest
unfolding opened
hand_and rest = record {
  behind_header = codes "STATE:0:f:TdAs|8hTc:5|-5:alice|bob\n" ++ rest;
  header = record { is_title = title_of_one; whole = refl };
  are_names = two_names;
  played = (hand_played, tt);
  no_more = omega arith;
  lines = refl;
}

score_of_one : score_line two_players alice_and_bob (folded_hand ∷ []) ≡ codes "SCORE:5|-5:alice|bob\n"
unfolding opened
score_of_one = refl

-- the score's line is left out
no_score : IsFirstFault two_players (codes "# name/game/hands m l2.game 1\nSTATE:0:f:TdAs|8hTc:5|-5:alice|bob\n") (fault_at WrongScore 3)
no_score = inr (inl (record {
  title = one_hand;
  names = alice_and_bob;
  hands = folded_hand ∷ [];
  rest = [];
  before = hand_and [];
  line = refl;
  wrong = inr (refl, (λ begins. let there = begins.whole in cc, λ behind e. let there = e ∙ ap (λ (t : List ℕ). t ++ behind) score_of_one in cc));
}))

-- a score of other values
other_score : IsFirstFault two_players (codes "# name/game/hands m l2.game 1\nSTATE:0:f:TdAs|8hTc:5|-5:alice|bob\nSCORE:6|-5:alice|bob\n") (fault_at WrongScore 3)
other_score = inr (inl (record {
  title = one_hand;
  names = alice_and_bob;
  hands = folded_hand ∷ [];
  rest = codes "SCORE:6|-5:alice|bob\n";
  before = hand_and (codes "SCORE:6|-5:alice|bob\n");
  line = refl;
  wrong = inr (
    refl,
    (
      λ begins. let second : ◌≡◌ {A = ℕ} 67 84 = ap (λ (t : List ℕ). get_or t 1 0) begins.whole in omega (arith, second),
      λ behind e. let value : ◌≡◌ {A = ℕ} 54 53 = ap (λ (t : List ℕ). get_or t 6 0) (e ∙ ap (λ (t : List ℕ). t ++ behind) score_of_one) in omega (arith, value),
    ),
  );
}))

-- one more hand than the match has
one_hand_too_many : IsFirstFault two_players (codes "# name/game/hands m l2.game 1\nSTATE:0:f:TdAs|8hTc:5|-5:alice|bob\nSTATE:1:f:2d2h|3d3s:5|-5:bob|alice\n") (fault_at WrongNumber 3)
one_hand_too_many = inr (inl (record {
  title = one_hand;
  names = alice_and_bob;
  hands = folded_hand ∷ [];
  rest = codes "STATE:1:f:2d2h|3d3s:5|-5:bob|alice\n";
  before = hand_and (codes "STATE:1:f:2d2h|3d3s:5|-5:bob|alice\n");
  line = refl;
  wrong = inr (refl, record { line = codes "1:f:2d2h|3d3s:5|-5:bob|alice"; behind = []; one_line = search rules; whole = refl });
}))

-- a line behind the score
further_line : IsFirstFault two_players (codes "# name/game/hands m l2.game 1\nSTATE:0:f:TdAs|8hTc:5|-5:alice|bob\nSCORE:5|-5:alice|bob\n\n") (fault_at WrongScore 4)
unfolding opened
further_line = inr (inr (record {
  title = one_hand;
  names = alice_and_bob;
  hands = folded_hand ∷ [];
  behind = codes "\n";
  before = hand_and (codes "SCORE:5|-5:alice|bob\n\n");
  all_hands = refl;
  further = λ e. cc;
  line = refl;
  kind = refl;
}))

-- ---- the law's near misses

-- the log is no text at fault, and a text at fault has no other fault
log_without_fault : OneVerdict → (fault : LogFault) → IsFirstFault two_players (codes "# name/game/hands m l2.game 1\nSTATE:0:f:TdAs|8hTc:5|-5:alice|bob\nSCORE:5|-5:alice|bob\n") fault → ⊥
log_without_fault one_verdict fault first =
    let same : Ok tt ≡ Err fault = one_verdict two_players (codes "# name/game/hands m l2.game 1\nSTATE:0:f:TdAs|8hTc:5|-5:alice|bob\nSCORE:5|-5:alice|bob\n") (Ok tt) (Err fault) two_player_game log_of_one first in
    cc

-- two boards of a hand that runs: TdAs|8hTc with 2c8c3h/9c/Kh, and with 2c4c3h/9c/Kh. The five chips that
-- nobody has called go back either way
abbrev other_board : List ℕ
other_board = 33 ∷ 51 ∷ 26 ∷ 32 ∷ 0 ∷ 8 ∷ 6 ∷ 28 ∷ 46 ∷ []

pair_of_eights : payoffs_of two_players (record { deal = ten_ace; past = [] }) ≡ negsuc 4 ∷ pos 5 ∷ []
unfolding opened
pair_of_eights = refl

ace_high : payoffs_of two_players (record { deal = other_board; past = [] }) ≡ pos 5 ∷ negsuc 4 ∷ []
unfolding opened
ace_high = refl

-- what a hand that runs would pay now isn't shown
abbrev PayoffsOfRunningHands : Type 0
PayoffsOfRunningHands = (first second : Hand) → first.past ≡ second.past → shown_cards two_players first.past first.deal ≡ shown_cards two_players second.past second.deal
    → payoffs_of two_players first ≡ payoffs_of two_players second

no_payoffs_of_running_hands : PayoffsOfRunningHands → ⊥
unfolding opened
no_payoffs_of_running_hands law =
    let same : negsuc 4 ∷ pos 5 ∷ [] ≡ pos 5 ∷ negsuc 4 ∷ [] = sym pair_of_eights ∙ law (record { deal = ten_ace; past = [] }) (record { deal = other_board; past = [] }) refl refl ∙ ace_high in
    let first : negsuc 4 ≡ pos 5 = ap (λ (values : List ℤ). get_or values 0 (pos 0)) same in
    cc
