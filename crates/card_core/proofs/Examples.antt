-- Cards and a deal as they are written and counted: TdAs|8hTc/2c8c3h/9c/Kh for two players.
use Rattle.std.proofs.Common.{◌≡◌, ◌<◌, ℕ, true, false, nat_eq, lit<, List, [], ◌∷◌, refl, rules, codes, arith}
use Rattle.std.specs.List.{IsDistinct}
use Rattle.std.proofs.lemmas.Map.Keys.{apart_from_distinct}
use Rattle.card_core.specs.Card.{rank_of, suit_of, text_of}
use Rattle.card_core.specs.Deal.{IsDeal, player_count, hole_of, board_of}
use Rattle.card_core.specs.Fault.{fault_code, fault_text}
use Rattle.card_core.specs.declared.fault.DealFault.TheVariants.{WrongCount, Repeated}

pub deuce_of_clubs : text_of 0 ≡ codes "2c"
deuce_of_clubs = refl

pub trey_of_hearts : text_of 6 ≡ codes "3h"
trey_of_hearts = refl

pub ten_of_diamonds : text_of 33 ≡ codes "Td"
ten_of_diamonds = refl

pub ace_of_spades : text_of 51 ≡ codes "As"
ace_of_spades = refl

pub rank_of_a_ten : rank_of 33 ≡ 8
rank_of_a_ten = refl

pub suit_of_a_diamond : suit_of 33 ≡ 1
suit_of_a_diamond = refl

-- TdAs|8hTc/2c8c3h/9c/Kh
abbrev pub heads_up : List ℕ
heads_up = 33 ∷ 51 ∷ 26 ∷ 32 ∷ 0 ∷ 24 ∷ 6 ∷ 28 ∷ 46 ∷ []

pub two_players : player_count heads_up ≡ 2
two_players = refl

pub hole_of_the_first : hole_of heads_up 0 ≡ 33 ∷ 51 ∷ []
hole_of_the_first = refl

pub hole_of_the_second : hole_of heads_up 1 ≡ 26 ∷ 32 ∷ []
hole_of_the_second = refl

pub board : board_of heads_up ≡ 0 ∷ 24 ∷ 6 ∷ 28 ∷ 46 ∷ []
board = refl

pub heads_up-deal : IsDeal 2 heads_up
unfolding IsDistinct
heads_up-deal = record { count = refl; cards_of_the_pack = search rules; distinct = search rules }

-- the river left out
pub eight_cards-none : IsDeal 2 (33 ∷ 51 ∷ 26 ∷ 32 ∷ 0 ∷ 24 ∷ 6 ∷ 28 ∷ []) → ⊥
eight_cards-none deal = let count = deal.count in cc

-- nine cards aren't a deal for three
pub three_players-none : IsDeal 3 heads_up → ⊥
three_players-none deal = let count = deal.count in cc

-- the ten of diamonds in a hand and on the river
pub repeated-none : IsDeal 2 (33 ∷ 51 ∷ 26 ∷ 32 ∷ 0 ∷ 24 ∷ 6 ∷ 28 ∷ 33 ∷ []) → ⊥
repeated-none deal =
    let apart : true ≡ false = apart_from_distinct nat_eq _ 0 8 0 deal.distinct (lit< tt) (lit< tt) in cc

-- 52 is no card's number
pub above_the_pack-none : IsDeal 2 (33 ∷ 51 ∷ 26 ∷ 32 ∷ 0 ∷ 24 ∷ 6 ∷ 28 ∷ 52 ∷ []) → ⊥
above_the_pack-none deal = let last : 52 < 52 = deal.cards_of_the_pack.1.1.1.1.1.1.1.1.0 in omega arith

pub wrong_count_code : fault_code WrongCount ≡ 1
wrong_count_code = refl

pub repeated_code : fault_code Repeated ≡ 2
repeated_code = refl

pub repeated_text : fault_text Repeated ≡ codes "2 Repeated"
repeated_text = refl
