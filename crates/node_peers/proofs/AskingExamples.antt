-- Which Prepares and Accepts count, in numbers.
use Rattle.std.proofs.Common.{◌≡◌, ℕ, Bool, true, false, List, [], ◌∷◌, Option, Some, None, refl, arith}
use Rattle.peer_codes.specs.declared.beat.Beat.{Beat}
use Rattle.node_links.specs.declared.owed.Question.{Question}
use Rattle.node_links.specs.declared.owed.Request.TheVariants.{Prepare, Accept}
use Rattle.node_links.specs.declared.owed.Subject.{Subject}
use Rattle.node_links.specs.Owing.{question_in}
use Rattle.node_peers.specs.Asking.{is_older, newer_of, marked, is_outdated, is_needless, IsDue, costs_no_sync}

-- of this round and node, at this slot
abbrev subject : ℕ → ℕ → ℕ → Subject
subject round node slot = record { ballot = record { round = round; node = node }; slot = slot }

abbrev accept : ℕ → ℕ → Question
accept slot behind = record { request = Accept behind; subject = subject 1 2 slot }

abbrev prepare : ℕ → Question
prepare slot = record { request = Prepare; subject = subject 1 2 slot }

lower_round : is_older (subject 1 2 9) (subject 2 0 3) ≡ true
lower_round = refl

lower_node : is_older (subject 2 0 9) (subject 2 1 3) ≡ true
lower_node = refl

lower_slot : is_older (subject 2 1 3) (subject 2 1 4) ≡ true
lower_slot = refl

-- what comes again is no older
the_same : is_older (subject 2 1 4) (subject 2 1 4) ≡ false
the_same = refl

-- the frame of an Accept of the ballot (1, 2) at slot 3, and that of an Ask
abbrev accept_frame : List ℕ
accept_frame = 0 ∷ 0 ∷ 0 ∷ 24 ∷ 2 ∷ 4 ∷ 0 ∷ 0 ∷ 0 ∷ 1 ∷ 2 ∷ 0 ∷ 0 ∷ 0 ∷ 3 ∷ 1 ∷ 2 ∷ 0 ∷ 0 ∷ 0 ∷ 0 ∷ 0 ∷ 0 ∷ 0 ∷ 0 ∷ 0 ∷ 0 ∷ 0 ∷ []

abbrev ask_frame : List ℕ
ask_frame = 0 ∷ 0 ∷ 0 ∷ 6 ∷ 2 ∷ 7 ∷ 0 ∷ 0 ∷ 0 ∷ 1 ∷ []

first_marked : marked 1 (question_in accept_frame) (None ∷ None ∷ []) ≡ None ∷ Some (subject 1 2 3) ∷ []
first_marked = refl

newest_stays : marked 1 (question_in accept_frame) (None ∷ Some (subject 1 2 4) ∷ []) ≡ None ∷ Some (subject 1 2 4) ∷ []
newest_stays = refl

others_mark_nothing : marked 1 (question_in ask_frame) (None ∷ None ∷ []) ≡ None ∷ None ∷ []
others_mark_nothing = refl

behind_a_newer : is_outdated (Some (subject 1 2 4)) (accept 3 4) ≡ true
behind_a_newer = refl

newest_itself : is_outdated (Some (subject 1 2 3)) (accept 3 4) ≡ false
newest_itself = refl

-- a node that has applied so many commands
abbrev beat : ℕ → Beat
beat front = record { number = 1; got = 0; front = front; campaigns = false; over = false; seats = 0 }

known_there : is_needless (Some (beat 4)) (accept 3 4) ≡ true
known_there = refl

last_slot_lacks : is_needless (Some (beat 4)) (accept 3 5) ≡ false
last_slot_lacks = refl

promise_serves : is_needless (Some (beat 9)) (prepare 3) ≡ false
promise_serves = refl

at_the_front : IsDue 3 (accept 3 4)
at_the_front = omega arith

ask_costs_none : costs_no_sync (0 ∷ 0 ∷ 0 ∷ 6 ∷ 2 ∷ 7 ∷ 0 ∷ 0 ∷ 0 ∷ 1 ∷ []) ≡ true
ask_costs_none = refl

forward_costs_one : costs_no_sync (0 ∷ 0 ∷ 0 ∷ 9 ∷ 2 ∷ 8 ∷ 2 ∷ 0 ∷ 0 ∷ 0 ∷ 0 ∷ 0 ∷ 1 ∷ []) ≡ false
forward_costs_one = refl

above_the_front : IsDue 2 (accept 3 4) → ⊥
above_the_front due = omega (arith, due)
