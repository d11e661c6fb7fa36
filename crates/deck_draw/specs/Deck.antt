-- The deck of a hand: the pack in its order, shuffled once by the numbers that a seed and the hand give.
use Rattle.std.specs.Prelude.{ℕ, ◌+◌, ◌*◌, List, ◌++◌, take, replicate}
use Rattle.std.specs.List.{range_with_len}
use Rattle.std.specs.Int.{w64, to_le_bytes}
use Rattle.rand.specs.Shuffle.{shuffled}
use Rattle.rand_core.specs.Steps.{steps_u32, stream_of}
use Rattle.rand_core.specs.Stream.{Stream}
use Rattle.rand_chacha.specs.ChaCha.{ChaCha, of_seed, next_word}

-- all 52 cards by their numbers: 2c 2d 2h 2s 3c .. As
abbrev pub pack : List ℕ
pack = range_with_len 0 52

-- ChaCha with the key of the seed's eight bytes, low ones first, and 24 zeros, at the start of the hand's stream
abbrev pub generator_of : ℕ → ℕ → ChaCha
generator_of seed hand = record (of_seed (to_le_bytes w64 seed ++ replicate 24 0)) { stream = hand }

-- the words of ChaCha20, which makes ten double rounds for a block
abbrev pub stream_of_hand : ℕ → ℕ → Stream
stream_of_hand seed hand = stream_of (steps_u32 (next_word 10)) (generator_of seed hand)

-- the pack, shuffled once by rand's shuffle
unfoldable pub deck_of : ℕ → ℕ → List ℕ
deck_of seed hand = (shuffled pack 0 (stream_of_hand seed hand)).0

-- what a hand of so many players is dealt: two cards for each, and five for the board
abbrev pub drawn : ℕ → ℕ → ℕ → List ℕ
drawn seed hand players = take (2 * players + 5) (deck_of seed hand)
