-- A node that is behind ticks once the fronts have stood.
use Rattle.std.proofs.Common.{ℕ, ◌≡◌, ◌+◌, ◌-◌, ◌*◌, ◌≤◌, true, Option, Some, None, refl, arith}
use Rattle.std.specs.Prelude.{max, min, not, ◌&&◌, ◌==◌, nat_lt, is_some}
use Rattle.clockwork.specs.declared.known.Ticks.{Ticks}
use Rattle.clockwork.specs.declared.known.PeerReport.{PeerReport}
use Rattle.clockwork.specs.declared.known.Peer.{Peer}
use Rattle.clockwork.specs.declared.known.Known.{Known}
use Rattle.clockwork.specs.declared.answer.Due.TheVariants.{Now}
use Rattle.clockwork.specs.declared.limits.TheConstants.{STEP, BEHIND}
use Rattle.clockwork.specs.Waits.{left, times, doubled, in_vain, again, spaced}
use Rattle.clockwork.specs.Presence.{told, pace_of, most_of, lag_of, present, is_quorate, is_behind, one_can_help, behind_wait}
use Rattle.clockwork.specs.Ranks.{is_before, rank_by_number}
use Rattle.clockwork.specs.Work.{steps_by_number}
use Rattle.clockwork.specs.Teaching.{told_by_leader, teaching_left, taught_left}
use Rattle.clockwork.specs.Dues.{behind_left, awaited, slow_in, due_by, due_of}
use Rattle.clockwork.specs.Laws.{quorate, longest_wait, rise_of, last_tick, waits_from, ComesOnceFrontsStand}
use Rattle.clockwork.proofs.Lists.{count_fewer}
use Rattle.clockwork.proofs.Ticking.{tick_of_none}
use Rattle.clockwork.proofs.Later.{either_none, max_none, lag_short, doubled_short, steps_few, few_of_both, before_is_told, tick_when}

left_of : (time since from length wait : ℕ) → since ≤ from → length ≤ wait → wait ≤ time - from → left time since length ≡ 0
left_of time since from length wait early short passed = omega (arith, early, short, passed)

again_of : (time : ℕ) (ticks : Option Ticks) (from length most wait : ℕ) → last_tick ticks ≤ from → doubled length (in_vain ticks) most ≤ wait → wait ≤ time - from
    → again time ticks length most ≡ 0
again_of time None from length most wait early short passed = refl
again_of time (Some ticks) from length most wait early short passed =
    either_none (ticks.in_vain == 0) 0 (left time ticks.last (doubled length ticks.in_vain most)) refl
    (left_of time ticks.last from (doubled length ticks.in_vain most) wait early short passed)

spaced_of : (time : ℕ) (ticks : Option Ticks) (from wait : ℕ) → last_tick ticks ≤ from → BEHIND ≤ wait → wait ≤ time - from → spaced time ticks ≡ 0
spaced_of time None from wait early short passed = refl
spaced_of time (Some ticks) from wait early short passed = omega (arith, early, short, passed)

teaching_of : (time slow front from wait : ℕ) (report : Option PeerReport) → rise_of report ≤ from → pace_of slow ≤ wait → wait ≤ time - from → teaching_left time slow front report ≡ 0
unfolding teaching_left
teaching_of time slow front from wait None early short passed = refl
teaching_of time slow front from wait (Some report) early short passed =
    either_none (nat_lt front report.front && not report.over) (left time report.risen (pace_of slow)) 0
    (left_of time report.risen from (pace_of slow) wait early short passed) refl

first_of : (length ticks most wait : ℕ) → doubled length ticks most ≤ wait → length ≤ wait
first_of length ticks most wait long = bound (length * times ticks) long
  where
    bound : (more : ℕ) → max length (min most more) ≤ wait → length ≤ wait
    bound more long = omega (arith, long)

within : (a b wait : ℕ) → a + b ≤ wait → a ≤ wait
within a b wait long = omega (arith, long)

both_early : (a b c d from : ℕ) → max (max a b) (max c d) ≤ from → (max a b ≤ from) × ((c ≤ from) × (d ≤ from))
both_early a b c d from early = (omega (arith, early), (omega (arith, early), omega (arith, early)))

module _ (known : Known) (slow from wait : ℕ)
    (long : doubled (max BEHIND (pace_of slow)) (in_vain known.ticks) (most_of slow) + STEP * present known.time slow known.peers.now ≤ wait)
    (passed : wait ≤ known.time - from)
    (early : max (max known.behind_since known.moved) (max (rise_of (told_by_leader known slow known.promised)) (last_tick known.ticks)) ≤ from) where
  all_early : (max known.behind_since known.moved ≤ from) × ((rise_of (told_by_leader known slow known.promised) ≤ from) × (last_tick known.ticks ≤ from))
  all_early = both_early known.behind_since known.moved (rise_of (told_by_leader known slow known.promised)) (last_tick known.ticks) from early

  most_within : doubled (max BEHIND (pace_of slow)) (in_vain known.ticks) (most_of slow) ≤ wait
  most_within = within (doubled (max BEHIND (pace_of slow)) (in_vain known.ticks) (most_of slow)) (STEP * present known.time slow known.peers.now) wait long

  first_within : max BEHIND (pace_of slow) ≤ wait
  first_within = first_of (max BEHIND (pace_of slow)) (in_vain known.ticks) (most_of slow) wait most_within

  wait_short : behind_wait known.time slow known.front known.peers.now ≤ max BEHIND (pace_of slow)
  wait_short = few_of_both (one_can_help known.time slow known.front known.peers.now) (lag_of slow) (pace_of slow) (lag_short slow)

  steps_short : steps_by_number known slow ≤ STEP * present known.time slow known.peers.now
  unfolding steps_by_number rank_by_number present
  steps_short = steps_few _ _ (count_fewer (λ (peer : Peer). is_before (told known.time slow peer.link) peer.number known.number) (λ (peer : Peer). is_some (told known.time slow peer.link)) (λ peer is. before_is_told (told known.time slow peer.link) peer.number known.number is) known.peers.now)

  first_and_steps : (first steps most more : ℕ) → first ≤ max BEHIND (pace_of slow) → max BEHIND (pace_of slow) ≤ most → steps ≤ more → most + more ≤ wait → first + steps ≤ wait
  first_and_steps first steps most more short below few enough = omega (arith, short, below, few, enough)

  wait_and_steps : behind_wait known.time slow known.front known.peers.now + steps_by_number known slow ≤ wait
  wait_and_steps =
      first_and_steps (behind_wait known.time slow known.front known.peers.now) (steps_by_number known slow)
      (doubled (max BEHIND (pace_of slow)) (in_vain known.ticks) (most_of slow)) (STEP * present known.time slow known.peers.now)
      wait_short (first_of (max BEHIND (pace_of slow)) (in_vain known.ticks) (most_of slow) (doubled (max BEHIND (pace_of slow)) (in_vain known.ticks) (most_of slow)) (omega arith)) steps_short long

  doubled_within : doubled (behind_wait known.time slow known.front known.peers.now) (in_vain known.ticks) (most_of slow) ≤ wait
  doubled_within =
      let less = doubled_short (behind_wait known.time slow known.front known.peers.now) (max BEHIND (pace_of slow)) (in_vain known.ticks) (most_of slow) (most_of slow) wait_short (omega arith) in
      let most = most_within in omega (arith, less, most)

  none_is_left : behind_left known slow ≡ 0
  unfolding behind_left taught_left
  none_is_left =
      max_none _ _
      (max_none _ _
      (left_of known.time (max known.behind_since known.moved) from (behind_wait known.time slow known.front known.peers.now + steps_by_number known slow) wait all_early.0 wait_and_steps passed)
      (again_of known.time known.ticks from (behind_wait known.time slow known.front known.peers.now) (most_of slow) wait all_early.1.1 doubled_within passed))
      (teaching_of known.time slow known.front from wait (told_by_leader known slow known.promised) all_early.1.0 (let first = first_within in omega (arith, first)) passed)

  no_space_is_left : spaced known.time known.ticks ≡ 0
  no_space_is_left = spaced_of known.time known.ticks from wait all_early.1.1 (let first = first_within in omega (arith, first)) passed

  none_is_awaited : is_behind known.time slow known.front known.peers.now ≡ true → awaited known slow ≡ 0
  unfolding awaited
  none_is_awaited is = rw is none_is_left

  it_is_due : is_quorate known.time slow known.peers.now ≡ true → is_behind known.time slow known.front known.peers.now ≡ true → due_by known slow ≡ Now
  it_is_due quorate is = tick_when _ _ _ quorate (tick_of_none known.time _ (max_none _ _ (none_is_awaited is) no_space_is_left))

pub comes_once_fronts_stand : (known : Known) → ComesOnceFrontsStand known
unfolding due_of
comes_once_fronts_stand known = λ quorate is long. it_is_due known (slow_in known) (waits_from known) (longest_wait known) (omega arith) long (omega arith) quorate is
