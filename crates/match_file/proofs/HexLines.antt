-- Small hex digits on a line.
use Rattle.std.proofs.Common.{◌≡◌, ◌≢◌, ℕ, zero, suc, ◌/◌, ◌%◌, List, [], ◌∷◌, length, slice_index, Ok, ap, ◌∙◌, arith}
use Rattle.game_def.specs.Text.{HasNoFeed}
use Rattle.hex.specs.Hex.{IsBytes, decode_sized, encode_with, encode_lower, lower_digits}
use Rattle.hex.proofs.HexLemmas.{decode_sized-encode_lower}

-- what stands in a table without feeds is none, and what stands behind its end is 0
no_feed_at : (table : List ℕ) (place : ℕ) → HasNoFeed table → slice_index table place ≢ 10
no_feed_at [] zero free = λ same. omega (arith, same)
no_feed_at [] (suc place) free = λ same. omega (arith, same)
no_feed_at (digit ∷ table) zero free = free.0
no_feed_at (digit ∷ table) (suc place) free = no_feed_at table place free.1

free_by_table : (table bytes : List ℕ) → HasNoFeed table → HasNoFeed (encode_with table bytes)
unfolding encode_with
free_by_table table [] free = tt
free_by_table table (byte ∷ bytes) free = (no_feed_at table (byte / 16) free, (no_feed_at table (byte % 16) free, free_by_table table bytes free))

no_feed_among_digits : HasNoFeed lower_digits
no_feed_among_digits =
    (λ e. omega (arith, e), (λ e. omega (arith, e), (λ e. omega (arith, e), (λ e. omega (arith, e), (λ e. omega (arith, e), (λ e. omega (arith, e), (λ e. omega (arith, e), (λ e. omega (arith, e), (λ e. omega (arith, e), (λ e. omega (arith, e), (λ e. omega (arith, e), (λ e. omega (arith, e), (λ e. omega (arith, e), (λ e. omega (arith, e), (λ e. omega (arith, e), (λ e. omega (arith, e), tt))))))))))))))))

pub digits_free : (bytes : List ℕ) → HasNoFeed (encode_lower bytes)
digits_free bytes = free_by_table lower_digits bytes no_feed_among_digits

-- digits of bytes are read as them
pub digits_read : (digits bytes : List ℕ) (count : ℕ) → IsBytes bytes → length bytes ≡ count → digits ≡ encode_lower bytes → decode_sized digits count ≡ Ok bytes
digits_read digits bytes count are many is = ap (λ (d : List ℕ). decode_sized d count) is ∙ decode_sized-encode_lower bytes count many are
