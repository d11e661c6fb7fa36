-- The rooms of a learner, by the room in its cells and in its log.
use Rattle.std.proofs.Common.{ℕ, ◌≡◌, ◌<◌, ◌≤◌, ◌+◌, ap, sym, arith, length, List, Vec, Global}
use Rattle.paxos_wire.specs.declared.limits.TheConstants.{WINDOW}
use Rattle.learner.specs.declared.tally.Tally.{Tally}
use Rattle.learner.specs.declared.learner.Learner.TheInside.{Inside}
use Rattle.learner.specs.Learning.{Learning}
use Rattle.learner.specs.LearnerInside.{learning_of}
use Rattle.learner.specs.Cells.{spare_at, room_in}
use Rattle.learner.proofs.Cells.{room_in_step, room_in_at}

-- where each cell's room goes down by no more than this, so does that for answers
pub answers_less : (d : ℕ) (s : Inside) (cells : List (Vec Tally Global)) {was : Learning} → learning_of s ≡ was → length cells ≡ length s.cells.items
    → ((place : ℕ) → place < length s.cells.items → spare_at s.cells.items place ≤ spare_at cells place + d) → was.answers ≤ room_in cells + d
answers_less d s cells {was} is len all =
    let room : room_in s.cells.items ≡ was.answers = ap (λ (x : Learning). x.answers) is in
    let step = room_in_step d s.cells.items cells (sym len) all in
    omega (arith, room, step)

pub answers_kept : (s : Inside) (cells : List (Vec Tally Global)) {was : Learning} → learning_of s ≡ was → length cells ≡ length s.cells.items
    → ((place : ℕ) → spare_at s.cells.items place ≤ spare_at cells place) → was.answers ≤ room_in cells
answers_kept s cells is len all =
    let less = answers_less 0 s cells is len (λ place within. let kept = all place in omega (arith, kept)) in omega (arith, less)

-- no cell has less room
pub answers_at : (s : Inside) (place : ℕ) {was : Learning} → learning_of s ≡ was → place < length s.cells.items → was.answers ≤ spare_at s.cells.items place
answers_at s place {was} is within =
    let room : room_in s.cells.items ≡ was.answers = ap (λ (x : Learning). x.answers) is in
    let most = room_in_at s.cells.items place within in
    omega (arith, room, most)

pub commands_are : (s : Inside) {was : Learning} → learning_of s ≡ was → s.log.room ≡ was.commands
commands_are s is = ap (λ (x : Learning). x.commands) is
