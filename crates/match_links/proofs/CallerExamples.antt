-- Rows of those who wait, connections in memory, the call that fails, and counts, on values.
use Rattle.std.proofs.Common.{◌≡◌, ℕ, refl, rules, true, false, [], ◌∷◌, Some, None, Ok, Err}
use Rattle.match_links.specs.Waiters.{at_place, without}
use Rattle.match_links.specs.Callers.{can_be_opened, opening, WasOpened}
use Rattle.match_links.specs.Counting.{is_due, one_less, passing, once_more}
use Rattle.match_links.specs.declared.callers.Caller.{Caller}
use Rattle.match_links.specs.declared.callers.State.TheVariants.{Waiting, Open}
use Rattle.match_links.specs.declared.links.LinkFault.TheVariants.{Failed, Slow}

-- ---- rows

second_of_three : at_place {A = ℕ} (5 ∷ 6 ∷ 7 ∷ []) (Some 1) ≡ Some 6
second_of_three = refl

the_others : without {A = ℕ} (5 ∷ 6 ∷ 7 ∷ []) (Some 1) ≡ 5 ∷ 7 ∷ []
the_others = refl

nobody : at_place {A = ℕ} (5 ∷ 6 ∷ []) None ≡ None
nobody = refl

all_stay : without {A = ℕ} (5 ∷ 6 ∷ []) None ≡ 5 ∷ 6 ∷ []
all_stay = refl

-- ---- connections in memory

who_waits_can_be_opened : (caller : Caller) → caller.node ≡ 1 → caller.seat ≡ 0 → caller.state ≡ Waiting → caller.bytes.items ≡ 65 ∷ [] → can_be_opened 1 0 caller ≡ true
who_waits_can_be_opened caller node seat state bytes = rw (node, seat, state, bytes) refl

not_for_another_seat : (caller : Caller) → caller.node ≡ 1 → caller.seat ≡ 1 → can_be_opened 1 0 caller ≡ false
not_for_another_seat caller node seat = rw (node, seat) refl

not_where_it_sends_nothing : (caller : Caller) → caller.node ≡ 1 → caller.seat ≡ 0 → caller.state ≡ Waiting → caller.bytes.items ≡ [] → can_be_opened 1 0 caller ≡ false
not_where_it_sends_nothing caller node seat state bytes = rw (node, seat, state, bytes) refl

not_twice : (caller : Caller) → caller.node ≡ 1 → caller.seat ≡ 0 → caller.state ≡ Open → can_be_opened 1 0 caller ≡ false
not_twice caller node seat state = rw (node, seat, state) refl

nobody_comes : opening None ≡ Err Failed
nobody_comes = refl

opened_stays_its_seats : (old new : Caller) → WasOpened old new → old.seat ≡ 0 → new.seat ≡ 1 → ⊥
opened_stays_its_seats old new was first second =
    let same = was.seat in
    cc

-- ---- the call that fails, and the one that is slow

the_next_one : is_due (Some 0) ≡ true
the_next_one = refl

not_the_one_before : is_due (Some 1) ≡ false
not_the_one_before = refl

counted_down : one_less (Some 2) ≡ Some 1
counted_down = refl

once_alone : one_less (Some 0) ≡ None
once_alone = refl

slow_call : passing None (Some 0) ≡ Err Slow
slow_call = refl

a_call_of_both_fails : passing (Some 0) (Some 0) ≡ Err Failed
a_call_of_both_fails = refl

call_before_both : passing (Some 1) (Some 2) ≡ Ok tt
call_before_both = refl

-- ---- how often a seat was turned away

once_more_of_bob : once_more (1 ∷ 0 ∷ 2 ∷ []) 1 ≡ 1 ∷ 1 ∷ 2 ∷ []
once_more_of_bob = refl

no_more_than_255 : once_more (255 ∷ 0 ∷ []) 0 ≡ 255 ∷ 0 ∷ []
no_more_than_255 = refl

not_of_a_seat_beyond_them : once_more (1 ∷ 0 ∷ []) 2 ≡ 1 ∷ 0 ∷ []
not_of_a_seat_beyond_them = refl

not_of_the_next_seat : once_more (0 ∷ 0 ∷ []) 0 ≡ 0 ∷ 1 ∷ [] → ⊥
not_of_the_next_seat same = absurd (search (rules, same))
