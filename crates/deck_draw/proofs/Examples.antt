-- The pack, a hand's generator, and a deck that is known from outside.
use Rattle.std.proofs.Common.{◌≡◌, [], ◌∷◌, refl, replicate, get_or, length}
use Rattle.rand_chacha.specs.Block.{block_word, double_rounds, column_round, diagonal_round, quarter_round}
use Rattle.rand_core.specs.Steps.{u32_at, stream_of}
use Rattle.rand_core.specs.Stream.{next_u32}
use Rattle.rand.specs.Shuffle.{narrow_swaps, rising, grow}
use Rattle.rand.specs.Uniform.{canon}
use Rattle.deck_draw.specs.Deck.{pack, generator_of, stream_of_hand, deck_of, drawn}

pub fifty_two_cards : length pack ≡ 52
fifty_two_cards = refl

pub deuce_of_clubs_first : get_or pack 0 99 ≡ 0
deuce_of_clubs_first = refl

pub ace_of_spades_last : get_or pack 51 99 ≡ 51
ace_of_spades_last = refl

-- the seed's low byte comes first, and the hand is the stream
pub generator_of_a_seed : generator_of 0x0102030405060708 9 ≡ record { key = 0x05060708 ∷ 0x01020304 ∷ replicate 6 0; stream = 9; word_pos = 0 }
unfolding u32_at
generator_of_a_seed = refl

-- the first word of ChaCha20 with a key of zeros
pub first_word : (next_u32 (stream_of_hand 0 0)).0 ≡ 0xade0b876
unfolding next_u32 stream_of u32_at block_word double_rounds column_round diagonal_round quarter_round
first_word = refl

-- seed 0, hand 0: 6d4h|2d9d/TdAdAc/3h/Ts
pub drawn_of_zero : drawn 0 0 2 ≡ 17 ∷ 10 ∷ 1 ∷ 29 ∷ 33 ∷ 49 ∷ 48 ∷ 6 ∷ 35 ∷ []
unfolding deck_of narrow_swaps rising grow canon next_u32 stream_of u32_at block_word double_rounds column_round diagonal_round quarter_round
drawn_of_zero = refl

-- seed 0, hand 1: 4h5s|Ts3s/Kd8c9s/Td/7c
pub drawn_of_the_next_hand : drawn 0 1 2 ≡ 10 ∷ 15 ∷ 35 ∷ 7 ∷ 45 ∷ 24 ∷ 31 ∷ 33 ∷ 20 ∷ []
unfolding deck_of narrow_swaps rising grow canon next_u32 stream_of u32_at block_word double_rounds column_round diagonal_round quarter_round
drawn_of_the_next_hand = refl

-- seed 256, hand 0: 8s2s|7s8d/Js5dJd/Kc/Tc
pub drawn_of_another_seed : drawn 256 0 2 ≡ 27 ∷ 3 ∷ 23 ∷ 25 ∷ 39 ∷ 13 ∷ 37 ∷ 44 ∷ 32 ∷ []
unfolding deck_of narrow_swaps rising grow canon next_u32 stream_of u32_at block_word double_rounds column_round diagonal_round quarter_round
drawn_of_another_seed = refl
