-- Room, on values.
use Rattle.std.proofs.Common.{◌≡◌, ℕ, zero, suc, ◌+◌, ◌≤◌, ◌<◌, ◌==◌, if◌then◌else◌, true, false, [], ◌∷◌, Vec, Global, Ok, Err, get_or, vec_len, vec_capacity, refl, arith}
use Rattle.match_links.specs.declared.blank.Blank.{Blank}
use Rattle.match_links.specs.declared.memory_links.Told as line
use Rattle.match_links.specs.declared.links.LinkFault.TheVariants.{Failed, Slow}
use Rattle.match_links.specs.Room.{line_room, byte_room, Room, IsAmple, Leaves, reaching}

-- three bytes more go into eight of which five are taken
three_left : (log : Vec ℕ Global) → vec_capacity log ≡ 8 → vec_len log ≡ 5 → byte_room log ≡ 3
three_left log capacity len = omega (arith, capacity, len)

-- as many lines as there are places and rooms for
as_many_as_rooms : (told : Vec line.Told Global) (blanks : Vec Blank Global) → vec_capacity told ≡ 10 → vec_len told ≡ 4 → vec_len blanks ≡ 3 → line_room told blanks ≡ 3
as_many_as_rooms told blanks capacity len rooms = omega (arith, capacity, len, rooms)

as_many_as_places : (told : Vec line.Told Global) (blanks : Vec Blank Global) → vec_capacity told ≡ 10 → vec_len told ≡ 4 → vec_len blanks ≡ 9 → line_room told blanks ≡ 6
as_many_as_places told blanks capacity len rooms = omega (arith, capacity, len, rooms)

-- ---- of two nodes

abbrev some : Room
some = record { lines = 3; logs = 100 ∷ 40 ∷ []; frame = 2576 }

in_each : (node : ℕ) → node < 2 → 40 ≤ get_or (100 ∷ 40 ∷ []) node 0
in_each zero within = omega arith
in_each (suc zero) within = omega arith
in_each (suc (suc node)) within = absurd (omega (arith, within))

three_lines_and_forty_bytes : IsAmple some 3 40
three_lines_and_forty_bytes = record { lines = omega arith; logs = in_each; frame = omega arith }

not_a_fourth_line : IsAmple some 4 40 → ⊥
not_a_fourth_line is = absurd (omega (arith, is.lines))

not_a_byte_more_of_the_second_log : IsAmple some 3 41 → ⊥
not_a_byte_more_of_the_second_log is = absurd (omega (arith, is.logs 1 (omega arith)))

no_frame_without_its_last_byte : IsAmple (record some { frame = 2575 }) 3 40 → ⊥
no_frame_without_its_last_byte is = absurd (omega (arith, is.frame))

-- a line was told, and ten bytes went into the log of node 0
abbrev later : Room
later = record { lines = 2; logs = 90 ∷ 40 ∷ []; frame = 2576 }

abbrev ten : ℕ → ℕ
ten node = if 0 == node then 10 else 0

at_each : (node : ℕ) → get_or some.logs node 0 ≤ get_or later.logs node 0 + ten node
at_each zero = omega arith
at_each (suc zero) = omega arith
at_each (suc (suc node)) = omega arith

a_line_and_ten_bytes : Leaves some 1 ten later
a_line_and_ten_bytes = record { lines = omega arith; logs = at_each; frame = omega arith }

not_nine_bytes : Leaves some 1 (λ node. 9) later → ⊥
not_nine_bytes leaves = absurd (omega (arith, leaves.logs 0))

not_without_a_line : Leaves some 0 ten later → ⊥
not_without_a_line leaves = absurd (omega (arith, leaves.lines))

-- what calls used one after another adds up
both_used : (first between last : Room) (told more : ℕ) (text further : ℕ → ℕ) → Leaves first told text between → Leaves between more further last
    → Leaves first (told + more) (λ node. text node + further node) last
both_used first between last told more text further one two = record {
  lines = omega (arith, one.lines, two.lines);
  logs = λ node. omega (arith, one.logs node, two.logs node);
  frame = omega (arith, one.frame, two.frame);
}

-- ---- answers where there is room

told_where_the_seat_is : reaching (Ok tt) true ≡ Ok tt
told_where_the_seat_is = refl

fails_where_it_is_not : reaching (Ok tt) false ≡ Err Failed
fails_where_it_is_not = refl

slow_as_it_was_told_to_be : reaching (Err Slow) false ≡ Err Slow
slow_as_it_was_told_to_be = refl
