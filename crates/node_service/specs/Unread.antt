-- When what lay there as a process woke counts as read.
use Rattle.std.specs.Prelude.{ℕ, ◌+◌, nat_lt, nat_le, ◌||◌, Bool, if◌then◌else◌}
use Rattle.clockwork.specs.declared.limits.TheConstants.{LEAP}
use Rattle.node_service.specs.declared.limits.TheConstants.{LOOKS}
use Rattle.node_service.specs.declared.unread.Unread.{Unread}

-- the process begins
abbrev pub nothing_read : Unread
nothing_read = record { turns = 0 }

-- where so much time was lost that it slept, nothing was read since
abbrev pub slept_in : Unread → ℕ → Unread
slept_in unread lost = if nat_lt LEAP lost then nothing_read else unread

-- one turn more in which what came next of each seat was taken
abbrev pub one_more : Unread → Unread
one_more unread = if nat_lt unread.turns LOOKS then record { turns = unread.turns + 1 } else unread

abbrev pub read_in : Bool → Unread → Unread
read_in is_read unread = if is_read then one_more unread else unread

-- they are so many that what came before them was read
abbrev pub are_enough : Unread → Bool
are_enough unread = nat_le LOOKS unread.turns

-- what came in the sleep may count as read: nothing is left, or it was read by then
abbrev pub may_be_read : (is_all : Bool) → Unread → Bool
may_be_read is_all unread = is_all || are_enough unread
