-- When a node orders that the seat to act be played for, so that it is fair. Times are in microseconds.
use Rattle.std.specs.Prelude.{◌≡◌, ◌⊎◌, ℕ, zero, suc, ◌+◌, ◌-◌, ◌*◌, ◌≤◌, min, max, Bool, true, false, not, ◌&&◌, ◌||◌, if◌then◌else◌, nat_lt, nat_le, Option, Some, None, is_some}
use Rattle.clockwork.specs.declared.order.Expected.{Expected}
use Rattle.clockwork.specs.declared.answer.Due.{Due}
use Rattle.clockwork.specs.declared.answer.Due.TheVariants.{Now}
use Rattle.clockwork.specs.declared.limits.TheConstants.{STEP, SLOW_TURNS, SLOW_TURN, LOOK, LATEST}
use Rattle.clockwork.specs.Waits.{left}
use Rattle.clockwork.specs.Dues.{due_in}
use Rattle.clockwork.specs.ActionTimeout.{is_able, order_left, IsOrderedLongAgo}

-- how long a turn waits: of a seat that is given up half a second at the first twenty, and then nothing
abbrev pub turn_wait : ℕ → Option ℕ → ℕ
turn_wait patience None = patience
turn_wait patience (Some turns) = if nat_lt turns SLOW_TURNS then min patience SLOW_TURN else 0

-- a step more for each node that comes before this one, and as long as the process slept meanwhile
abbrev pub more_of : Expected → ℕ
more_of expected = STEP * expected.awaited.rank + min LATEST expected.slept

abbrev pub wait_of : Expected → ℕ
wait_of expected = turn_wait expected.awaited.patience expected.turns + more_of expected

-- once more than there are nodes: the longest for which a seat holds the table, whatever it does
abbrev pub longest_of : Expected → ℕ
longest_of expected = (expected.nodes + 1) * expected.awaited.patience + more_of expected

abbrev pub has_stood : Expected → Bool
has_stood expected = nat_le (longest_of expected) (expected.awaited.time - expected.stood)

-- it sits nowhere as far as is known, and isn't given up: its bot may be among the callers that are kept out
abbrev pub may_be_kept_out : Expected → Bool
may_be_kept_out expected = not expected.awaited.sits_here && (not expected.awaited.sits_elsewhere && not (is_some expected.turns))

-- since when this turn's wait counts: of such a seat since a caller at its port was last kept out, if that is later
abbrev pub turn_since : Expected → ℕ
turn_since expected = if may_be_kept_out expected then max expected.awaited.since expected.crowded else expected.awaited.since

-- it sits here, or as far as is known nowhere, or has held the table for the longest
abbrev pub is_its_turn : Expected → Bool
is_its_turn expected = expected.awaited.sits_here || (not expected.awaited.sits_elsewhere || has_stood expected)

-- the order would be this node's
unfoldable pub is_to_order : Expected → Bool
is_to_order expected = is_able expected.awaited && (expected.is_awake && (expected.is_open && is_its_turn expected))

unfoldable pub turn_left : Expected → ℕ
turn_left expected =
    max (min (left expected.awaited.time (turn_since expected) (wait_of expected)) (left expected.awaited.time expected.stood (longest_of expected)))
    (order_left expected.awaited.time expected.awaited.ordered expected.awaited.patience)

unfoldable pub order_due_of : Expected → Due
order_due_of expected = if is_to_order expected then due_in expected.awaited.time (turn_left expected) else due_in expected.awaited.time LOOK

-- ---- what holds of every order, and that it comes

-- the match is on, a hand runs, the node is quorate and doesn't replay, it is awake, and each seat has come or was waited for long enough
pub record IsAble (expected : Expected) : Type 0 where
  pub able : is_able expected.awaited ≡ true
  pub awake : expected.is_awake ≡ true
  pub opened : expected.is_open ≡ true

abbrev pub IsItsTurn : Expected → Type 0
IsItsTurn expected = is_its_turn expected ≡ true

-- the wait of this turn has passed, or the longest
abbrev pub HasBeenPatient : Expected → Type 0
HasBeenPatient expected =
    (wait_of expected ≤ expected.awaited.time - turn_since expected) ⊎ (longest_of expected ≤ expected.awaited.time - expected.stood)

-- where a node is able to order, it does once the longest has passed, wherever the seat sits and however often it sat down
abbrev pub IsOrderedAtTheLatest : Expected → Type 0
IsOrderedAtTheLatest expected =
    IsAble expected → longest_of expected ≤ expected.awaited.time - expected.stood → IsOrderedLongAgo expected.awaited → order_due_of expected ≡ Now

-- and once the wait of this turn has passed, where it is its turn
abbrev pub IsOrderedInTurn : Expected → Type 0
IsOrderedInTurn expected =
    IsAble expected → IsItsTurn expected → wait_of expected ≤ expected.awaited.time - turn_since expected → IsOrderedLongAgo expected.awaited → order_due_of expected ≡ Now

-- who may be kept out is played for only once the patience has passed since callers were, or where it has held the table for the longest
abbrev pub WaitsBehindACrowd : Expected → Type 0
WaitsBehindACrowd expected =
    may_be_kept_out expected ≡ true → order_due_of expected ≡ Now → (expected.awaited.patience ≤ expected.awaited.time - expected.crowded) ⊎ (has_stood expected ≡ true)

-- nobody was kept out
abbrev pub uncrowded : Expected → Expected
uncrowded expected = record expected { crowded = 0 }

-- who sits anywhere, is given up, or was waited for anew since callers were kept out is played for when it is without them
abbrev pub IsWaitedForAsEver : Expected → Type 0
IsWaitedForAsEver expected = (may_be_kept_out expected ≡ false) ⊎ (expected.crowded ≤ expected.awaited.since) → order_due_of expected ≡ order_due_of (uncrowded expected)

-- how long so many turns of a seat that is given up wait together
abbrev pub waits_together : ℕ → ℕ → ℕ
waits_together patience zero = 0
waits_together patience (suc turns) = waits_together patience turns + turn_wait patience (Some turns)

-- ten seconds at most, however many they are
abbrev pub CostsTenSeconds : (patience turns : ℕ) → Type 0
CostsTenSeconds patience turns = waits_together patience turns ≤ SLOW_TURNS * SLOW_TURN
