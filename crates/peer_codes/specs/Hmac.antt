-- HMAC-SHA256 (RFC 2104), for keys of at most 64 bytes.
use Rattle.std.specs.Prelude.{ℕ, ◌-◌, List, ◌++◌, map, length, replicate, bit_xor}
use Rattle.sha2.specs.Sha256.{sha256}

-- the key with zeros behind it up to a block, each byte with this one
abbrev pub padded : ℕ → List ℕ → List ℕ
padded mask key = map (λ byte. bit_xor byte mask) (key ++ replicate (64 - length key) 0)

abbrev pub inner_pad : ℕ
inner_pad = 0x36

abbrev pub outer_pad : ℕ
outer_pad = 0x5C

-- the tag of a message under a key
unfoldable pub hmac : List ℕ → List ℕ → List ℕ
hmac key message = sha256 (padded outer_pad key ++ sha256 (padded inner_pad key ++ message))
