-- Whether a process that slept has heard enough since.
use Rattle.std.specs.Prelude.{◌≡◌, ◌↔◌, ℕ, zero, suc, ◌+◌, ◌*◌, ◌<◌, min, Bool, true, false, not, ◌&&◌, ◌==◌, if◌then◌else◌, nat_lt, nat_le, List, [], ◌∷◌, replicate, count_by, slice_index_or, slice_set}
use Rattle.std.specs.List.{list_any}
use Rattle.clockwork.specs.declared.waking.Waking.{Waking}
use Rattle.clockwork.specs.declared.waking.Happening.{Happening}
use Rattle.clockwork.specs.declared.waking.Happening.TheVariants.{Passed, Stood, ReadAll, Beat}
use Rattle.clockwork.specs.declared.limits.TheConstants.{LEAP, FURTHER, MOST_NODES, LATEST}

-- the process begins
abbrev pub asleep : Waking
asleep = record { has_read = false; beats = replicate MOST_NODES 0; stood = 0; slept = 0 }

-- it slept where that was long: it has heard nothing since, and seats weren't waited for meanwhile
abbrev pub passed : Waking → ℕ → Waking
passed waking lost =
    if nat_lt LEAP lost then record { has_read = false; beats = replicate MOST_NODES 0; stood = waking.stood; slept = min LATEST (waking.slept + lost) }
    else waking

-- of a seat that is waited for since another moment than before nothing was slept through
abbrev pub stood_since : Waking → ℕ → Waking
stood_since waking stood = if stood == waking.stood then waking else record waking { stood = stood; slept = 0 }

abbrev pub one_more : ℕ → ℕ
one_more beats = if nat_lt beats FURTHER then beats + 1 else beats

-- a further beat of a node counts once nothing was left to read
abbrev pub heard : Waking → ℕ → Waking
heard waking node =
    if waking.has_read && nat_lt node MOST_NODES then record waking { beats = slice_set waking.beats node (one_more (slice_index_or waking.beats node 0)) }
    else waking

-- with itself they are more than half of all nodes
unfoldable pub is_enough : List ℕ → ℕ → Bool
is_enough beats nodes = nat_lt nodes (2 * (1 + count_by (λ beats. not (nat_lt beats FURTHER)) beats))

abbrev pub is_awake : Waking → ℕ → Bool
is_awake waking nodes = waking.has_read && is_enough waking.beats nodes

-- ---- what holds of it

abbrev pub waking_after : Waking → Happening → Waking
waking_after waking (Passed lost) = passed waking lost
waking_after waking (Stood since) = stood_since waking since
waking_after waking ReadAll = record waking { has_read = true }
waking_after waking (Beat node) = heard waking node

-- behind its beginning all of this happened, the newest first
abbrev pub waking_behind : List Happening → Waking
waking_behind [] = asleep
waking_behind (happening ∷ earlier) = waking_after (waking_behind earlier) happening

abbrev pub is_sleep : Happening → Bool
is_sleep (Passed lost) = nat_lt LEAP lost
is_sleep (Stood since) = false
is_sleep ReadAll = false
is_sleep (Beat node) = false

abbrev pub is_read : Happening → Bool
is_read (Passed lost) = false
is_read (Stood since) = false
is_read ReadAll = true
is_read (Beat node) = false

abbrev pub is_beat : ℕ → Happening → Bool
is_beat node (Passed lost) = false
is_beat node (Stood since) = false
is_beat node ReadAll = false
is_beat node (Beat other) = other == node

-- what happened behind the last sleep
abbrev pub behind_sleep : List Happening → List Happening
behind_sleep [] = []
behind_sleep (happening ∷ earlier) = if is_sleep happening then [] else (happening ∷ behind_sleep earlier)

-- how many beats of a node came behind a turn in which nothing was left to read
abbrev pub further : ℕ → List Happening → ℕ
further node [] = 0
further node (happening ∷ earlier) = if is_beat node happening && list_any is_read earlier then suc (further node earlier) else further node earlier

-- so many numbers, from one on
abbrev pub numbers : (first count : ℕ) → List ℕ
numbers first zero = []
numbers first (suc count) = first ∷ numbers (suc first) count

-- of how many nodes two further beats came at least
abbrev pub well_heard : List Happening → ℕ
well_heard happenings = count_by (λ node. nat_le FURTHER (further node happenings)) (numbers 0 MOST_NODES)

-- a turn came in which nothing was left to read, and behind it two beats of so many nodes that with itself they are more than half
abbrev pub HasHeardEnough : ℕ → List Happening → Type 0
HasHeardEnough nodes happenings = (list_any is_read happenings ≡ true) × (nodes < 2 * (1 + well_heard happenings))

-- it is awake exactly where it has heard enough since its last sleep
abbrev pub WakesExactlyThen : ℕ → List Happening → Type 0
WakesExactlyThen nodes happenings = (is_awake (waking_behind happenings) nodes ≡ true) ↔ HasHeardEnough nodes (behind_sleep happenings)
