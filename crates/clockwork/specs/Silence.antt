-- Whether a peer was heard lately, and when its connection is closed. Times are in microseconds.
use Rattle.std.specs.Prelude.{ℕ, ◌-◌, ◌*◌, min, max, Bool, nat_lt}
use Rattle.clockwork.specs.declared.limits.TheConstants.{MOST_SILENT}
use Rattle.clockwork.specs.declared.silence.TheConstants.{SILENCES}

-- what was heard at that moment was heard within the limit; a moment that lies ahead counts as the present
abbrev pub is_heard : ℕ → ℕ → ℕ → Bool
is_heard heard now limit = nat_lt (now - heard) limit

-- how long a peer is silent until its connection is closed: four times as long as one that is present may be, and no less than the longest that was measured of it
abbrev pub closing : ℕ → ℕ → ℕ
closing silence longest = max (SILENCES * min silence MOST_SILENT) longest
