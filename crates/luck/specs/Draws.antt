-- The deals that are drawn before the flop, where there are too many to take each.
use Rattle.std.specs.Prelude.{ℕ, zero, suc, List, [], ◌∷◌, ◌++◌}
use Rattle.rand.specs.Shuffle.{partially_shuffled}
use Rattle.rand_core.specs.Steps.{steps_u32, stream_of}
use Rattle.rand_core.specs.Stream.{Stream}
use Rattle.rand_chacha.specs.ChaCha.{ChaCha, of_seed, next_word}
use Rattle.card_core.specs.Deal.{board_of}
use Rattle.luck.specs.Left.{left_of}

-- ChaCha with a key, at the start of the hand's stream
abbrev pub generator_of : List ℕ → ℕ → ChaCha
generator_of key number = record (of_seed key) { stream = number }

-- the words of ChaCha20
abbrev pub stream_of_hand : List ℕ → ℕ → Stream
stream_of_hand key number = stream_of (steps_u32 (next_word 10)) (generator_of key number)

-- so many deals that begin with the known cards, and what is left of the stream: for each deal rand shuffles five of the other cards to their end
unfoldable pub drawn : List ℕ → Stream → ℕ → List (List ℕ) × Stream
drawn known stream zero = ([], stream)
drawn known stream (suc count) =
    let before = drawn known stream count in
    let next = partially_shuffled (left_of known) 5 before.1 in
    (before.0 ++ (known ++ board_of next.0) ∷ [], next.1)
