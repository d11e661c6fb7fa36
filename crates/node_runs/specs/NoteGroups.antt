-- In which groups the notes of a node's process are limited. A seat's groups are ten: its faults 80 to 85, that it is seated or gone, that its bot names a line of another match, that a token is wrong, and that it is played for.
use Rattle.std.specs.Prelude.{ℕ, ◌+◌, ◌*◌, ◌-◌, ◌%◌, ◌==◌, ◌&&◌, ◌||◌, nat_lt, nat_le, if◌then◌else◌, Option, Some, None, Bool}
use Rattle.seat_session.specs.Fault.{fault_code}
use Rattle.node_links.specs.Lines.{peer_fault_code}
use Rattle.node_service.specs.declared.server_notice.ServerNotice.{ServerNotice}
use Rattle.node_service.specs.declared.server_notice.ServerNotice.TheVariants as told

-- notes that have no group of their own
abbrev pub others : ℕ
others = 198

-- those of callers for whom there was no place
abbrev pub no_place : ℕ
no_place = 110

-- those of a seat of one kind
abbrev pub seat_group : ℕ → ℕ → ℕ
seat_group seat kind = if nat_lt seat 10 && nat_lt kind 10 then 10 * seat + kind else others

-- which of the ten faults of callers it is: 120 to 128, or 130
abbrev pub fault_kind : ℕ → Option ℕ
fault_kind code = if nat_le 120 code && nat_le code 128 then Some (code - 120) else (if code == 130 then Some 9 else None)

-- those of callers by one fault: from an address of a peer, or from others
abbrev pub caller_group : Option ℕ → ℕ → ℕ
caller_group None code = elim (fault_kind code) [ Some kind ↦ 100 + kind | None ↦ others ]
caller_group (Some peer) code = elim (fault_kind code) [ Some kind ↦ if nat_lt peer 7 then 111 + 10 * peer + kind else others | None ↦ others ]

-- those of callers who were turned away at a seat
abbrev pub seat_caller_group : ℕ → ℕ
seat_caller_group seat = if nat_lt seat 10 then 181 + seat else others

-- those of a peer that comes and goes
abbrev pub peer_group : ℕ → ℕ
peer_group peer = if nat_lt peer 7 then 191 + peer else others

-- the group of a notice
abbrev pub group_of : ServerNotice → ℕ
group_of (told.Faulty seat fault hand) = seat_group seat (fault_code fault - 80)
group_of (told.Seated seat) = seat_group seat 6
group_of (told.Left seat) = seat_group seat 6
group_of (told.OtherLine seat) = seat_group seat 7
group_of (told.WrongToken seat count source) = seat_group seat 8
group_of (told.Ordered seat) = seat_group seat 9
group_of (told.TurnedAway seat count) = seat_caller_group seat
group_of (told.Callers peer count fault) = caller_group peer (peer_fault_code fault)
group_of (told.Joined peer life) = peer_group peer
group_of (told.Gone peer) = peer_group peer
group_of other = others

-- how many a notice tells
abbrev pub weight_of : ServerNotice → ℕ
weight_of (told.Callers peer count fault) = count
weight_of (told.WrongToken seat count source) = count
weight_of (told.TurnedAway seat count) = count
weight_of other = 1

-- how many lines of a group may be told in a second: of faults 84 and 85, of orders, and of seats and peers that come and go ten, of other groups of seats and of callers one, of all without a group 50
abbrev pub most_of : ℕ → ℕ
most_of group =
    if nat_lt group 100 then (if group % 10 == 4 || group % 10 == 5 || group % 10 == 6 || group % 10 == 9 then 10 else 1) else (if nat_lt group 191 then 1 else (if nat_lt group 198 then 10 else 50))

-- those of seats and of callers
abbrev pub is_outside : ℕ → Bool
is_outside group = nat_lt group 191

-- a line of a group may be told where fewer than so many were told in the last second: ten of 50 are kept for what neither seats nor callers do
abbrev pub room_of : ℕ → ℕ
room_of group = if is_outside group then 40 else 50
