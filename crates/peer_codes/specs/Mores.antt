-- The bytes that tell kinds of records without a name.
use Rattle.std.specs.Prelude.{ℕ, ◌==◌, nat_le, ◌&&◌, not, Bool}
use Rattle.peer_codes.specs.declared.limits.TheConstants.{LEAST_MORE, NO_KIND}

-- 4 and above, without 108: the last byte of 'HDN1 seal' is that
abbrev pub is_more : ℕ → Bool
is_more byte = nat_le LEAST_MORE byte && not (byte == NO_KIND)
