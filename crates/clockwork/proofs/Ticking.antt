-- Why a node ticks, and until when it doesn't.
use Rattle.std.proofs.Common.{ℕ, ◌≡◌, ◌≢◌, ◌⊎◌, ◌+◌, ◌-◌, ◌*◌, ◌<◌, ◌≤◌, true, false, Option, Some, None, inl, inr, refl, arith}
use Rattle.std.specs.Prelude.{min, max, if◌then◌else◌, ◌&&◌, ◌==◌, nat_lt}
use Rattle.std.specs.List.{list_any}
use Rattle.std.proofs.lemmas.Bool.{cases_Bool, cases_eq, and_parts, eqb-true, eqb-false, ltb-false, le-ltb}
use Rattle.clockwork.specs.declared.known.Ticks.{Ticks}
use Rattle.clockwork.specs.declared.known.PeerReport.{PeerReport}
use Rattle.clockwork.specs.declared.known.Peer.{Peer}
use Rattle.clockwork.specs.declared.known.Known.{Known}
use Rattle.clockwork.specs.declared.helping.Wait.{Wait}
use Rattle.clockwork.specs.declared.answer.Due.TheVariants.{Now, Nothing}
use Rattle.clockwork.specs.declared.standing.Standing.{Standing}
use Rattle.clockwork.specs.declared.limits.TheConstants.{SPACE, MOST_HELP, STEP, LOOK}
use Rattle.clockwork.specs.Waits.{left, doubled, in_vain, again, spaced}
use Rattle.clockwork.specs.Presence.{pace_of, most_of, lag_of, soon_of, told, is_quorate}
use Rattle.clockwork.specs.Ranks.{rank_as_far}
use Rattle.clockwork.specs.Helping.{lagging, has_passed, lagging_left, least_left, help_left, one_lags}
use Rattle.clockwork.specs.Standings.{standing, is_campaign, is_follower}
use Rattle.clockwork.specs.Work.{has_work, one_reopened, steps_by_number, is_untold, row_left, yield_left, back_left, work_left}
use Rattle.clockwork.specs.Teaching.{told_by_leader, teaches, teaching_left, is_taught, taught_left}
use Rattle.clockwork.specs.Dues.{due_in, behind_left, awaited, slow_in, due_by, due_of}
use Rattle.clockwork.specs.Laws.{quorate, behind, LongAgo, HasWaited, behind_wait_in, IsReason, to_catch_up, for_a_peer, to_work, to_be_heard}
use Rattle.clockwork.proofs.Lists.{one_is_none}

pub none_left : (wait past : ℕ) → wait - past ≡ 0 → wait ≤ past
none_left wait past none = omega arith

pub max_parts : (a b : ℕ) → max a b ≡ 0 → (a ≡ 0) × (b ≡ 0)
max_parts a b none = (omega arith, omega arith)

-- ---- what is due where so much is left

pub tick_of_none : (time wait : ℕ) → wait ≡ 0 → due_in time wait ≡ Now
unfolding due_in
tick_of_none time wait is = elim (cases_Bool (wait == 0)) [ inl so ↦ rw so refl | inr not_so ↦ absurd (eqb-false wait 0 not_so is) ]

pub none_of_tick : (time wait : ℕ) → due_in time wait ≡ Now → wait ≡ 0
unfolding due_in
none_of_tick time wait is = elim (cases_Bool (wait == 0)) [ inl so ↦ eqb-true wait 0 so | inr not_so ↦ let none = rw not_so at is in cc ]

pub until_of : (time wait until : ℕ) → due_in time wait ≡ Nothing until → (time < until) × (until ≤ time + LOOK)
unfolding due_in
until_of time wait until is = elim (cases_Bool (wait == 0)) [
  | inl so ↦ let none = rw so at is in absurd (cc)
  | inr not_so ↦
      let some : wait ≢ 0 = eqb-false wait 0 not_so in
      let nothing = rw not_so at is in
      let same : time + min wait LOOK ≡ until = cc in
      (omega (arith, some), omega arith)
]

pub later_than_now : (known : Known) (until : ℕ) → due_of known ≡ Nothing until → (known.time < until) × (until ≤ known.time + LOOK)
unfolding due_of
later_than_now known until is = elim (cases_Bool (quorate known)) [
  | inl so ↦ until_of known.time (max (awaited known (slow_in known)) (spaced known.time known.ticks)) until (rw so at is)
  | inr not_so ↦ until_of known.time LOOK until (rw not_so at is)
]

-- ---- a tick

ticks_by : (known : Known) (slow : ℕ) → due_by known slow ≡ Now
    → (is_quorate known.time slow known.peers.now ≡ true) × ((awaited known slow ≡ 0) × (spaced known.time known.ticks ≡ 0))
ticks_by known slow is = elim (cases_Bool (is_quorate known.time slow known.peers.now)) [
  | inl so ↦
      let none : max (awaited known slow) (spaced known.time known.ticks) ≡ 0 = none_of_tick known.time _ (rw so at is) in
      (so, max_parts (awaited known slow) (spaced known.time known.ticks) none)
  | inr not_so ↦ let none : LOOK ≡ 0 = none_of_tick known.time LOOK (rw not_so at is) in absurd (omega arith)
]

pub tick_by : (known : Known) → due_of known ≡ Now → (quorate known ≡ true) × ((awaited known (slow_in known) ≡ 0) × (spaced known.time known.ticks ≡ 0))
unfolding due_of
tick_by known is = ticks_by known (slow_in known) is

pub long_ago : (time : ℕ) (ticks : Option Ticks) → spaced time ticks ≡ 0 → LongAgo time ticks SPACE
long_ago time None none = tt
long_ago time (Some ticks) none = none_left SPACE (time - ticks.last) none

has_waited : (known : Known) (ticks : Option Ticks) (wait most : ℕ) → again known.time ticks wait most ≡ 0 → HasWaited known ticks wait most
has_waited known None wait most none = tt
has_waited known (Some ticks) wait most none = λ some. elim (cases_Bool (ticks.in_vain == 0)) [
  | inl so ↦ let is = eqb-true ticks.in_vain 0 so in absurd (omega arith)
  | inr not_so ↦ none_left (doubled wait ticks.in_vain most) (known.time - ticks.last) (rw not_so at none)
]

-- ---- a peer lags

passed_of_none : (time more : ℕ) (wait : Option Wait) → lagging_left time more wait ≡ 0 → has_passed time wait ≡ true
unfolding lagging_left has_passed
passed_of_none time more None none = absurd (omega arith)
passed_of_none time more (Some wait) none = rw (le-ltb (time - wait.since) wait.length (omega arith))

least_of_none : (known : Known) (slow more : ℕ) → least_left known.time slow known.front more known.peers.now ≡ 0
    → list_any (λ (peer : Peer). has_passed known.time (lagging slow known.front peer.accepted (told known.time slow peer.link))) known.peers.now ≡ true
unfolding least_left
least_of_none known slow more none =
    one_is_none
    (λ (peer : Peer). lagging_left known.time more (lagging slow known.front peer.accepted (told known.time slow peer.link)))
    (λ (peer : Peer). has_passed known.time (lagging slow known.front peer.accepted (told known.time slow peer.link)))
    (λ peer. passed_of_none known.time more (lagging slow known.front peer.accepted (told known.time slow peer.link)))
    known.peers.now LOOK (omega arith) none

lags_of_none : (known : Known) (slow : ℕ) → help_left known slow ≡ 0
    → (one_lags known slow ≡ true) × HasWaited known known.ticks (lag_of slow) MOST_HELP
unfolding help_left one_lags
lags_of_none known slow none =
    let steps = STEP * rank_as_far known.time slow known.front known.number known.peers.now in
    let both = max_parts (least_left known.time slow known.front steps known.peers.now) (again known.time known.ticks (lag_of slow) MOST_HELP) none in
    (least_of_none known slow steps both.0, has_waited known known.ticks (lag_of slow) MOST_HELP both.1)

-- ---- work

abbrev WhyWork : Known → Type 0
WhyWork known =
    (HasWaited known known.ticks (pace_of (slow_in known)) (most_of (slow_in known)) ⊎ ((one_reopened known ≡ true) × (in_vain known.ticks ≤ 1)))
    ⊎ ((is_untold known ≡ true) × HasWaited known known.ticks (soon_of (slow_in known)) (most_of (slow_in known)))

rest_of_none : (known : Known) (stance : Standing)
    → (if is_follower stance && is_untold known then again known.time known.ticks (soon_of (slow_in known)) (most_of (slow_in known))
    else max (max (row_left known (slow_in known) stance) (yield_left known (slow_in known))) (again known.time known.ticks (pace_of (slow_in known)) (most_of (slow_in known)))) ≡ 0
    → WhyWork known
rest_of_none known stance none =
    let pace = pace_of (slow_in known) in
    let soon = soon_of (slow_in known) in
    elim (cases_Bool (is_follower stance && is_untold known)) [
      | inl so ↦ inr ((and_parts (is_follower stance) (is_untold known) so).1, has_waited known known.ticks soon (most_of (slow_in known)) (rw so at none))
      | inr not_so ↦
          let both = max_parts (max (row_left known (slow_in known) stance) (yield_left known (slow_in known))) (again known.time known.ticks pace (most_of (slow_in known))) (rw not_so at none) in
          inl (inl (has_waited known known.ticks pace (most_of (slow_in known)) both.1))
    ]

back_of_none : (known : Known) → one_reopened known ≡ true → back_left known (slow_in known) ≡ 0 → WhyWork known
unfolding back_left
back_of_none known back none = elim (cases_Bool (nat_lt 1 (in_vain known.ticks))) [
  | inl so ↦ inl (inl (has_waited known known.ticks (pace_of (slow_in known)) (most_of (slow_in known)) (rw so at none)))
  | inr not_so ↦ let few = ltb-false 1 (in_vain known.ticks) not_so in inl (inr (back, omega (arith, few)))
]

work_of_none : (known : Known) (stance : Standing) → work_left known (slow_in known) stance ≡ 0 → WhyWork known
unfolding work_left
work_of_none known stance none = elim (cases_Bool (is_campaign stance && one_reopened known)) [
  | inl so ↦ back_of_none known (and_parts (is_campaign stance) (one_reopened known) so).1 (rw so at none)
  | inr not_so ↦ rest_of_none known stance (rw not_so at none)
]

-- ---- all reasons

stands_of_none : (time slow front : ℕ) (told : Option PeerReport) → teaching_left time slow front told ≡ 0 → teaches time slow front told ≡ false
unfolding teaching_left teaches
stands_of_none time slow front None none = refl
stands_of_none time slow front (Some report) none = elim (cases_Bool (nat_lt front report.front)) [
  | inl above ↦ elim (cases_Bool report.over) [
    | inl over ↦ rw above (rw over refl)
    | inr goes_on ↦
        let at_once = rw above at none in
        let none_now = rw goes_on at at_once in
        let far = none_left (pace_of slow) (time - report.risen) none_now in
        rw above (rw goes_on (le-ltb (time - report.risen) (pace_of slow) far))
  ]
  | inr not_above ↦ rw not_above refl
]

untaught : (known : Known) (slow : ℕ) → taught_left known slow ≡ 0 → is_taught known slow ≡ false
unfolding taught_left is_taught
untaught known slow none = stands_of_none known.time slow known.front (told_by_leader known slow known.promised) none

behind_of_none : (known : Known) → behind known ≡ true → behind_left known (slow_in known) ≡ 0 → IsReason known
unfolding behind_left
behind_of_none known is none =
    let slow = slow_in known in
    let all = max_parts (max (left known.time (max known.behind_since known.moved) (behind_wait_in known + steps_by_number known slow)) (again known.time known.ticks (behind_wait_in known) (most_of slow))) (taught_left known slow) none in
    let both = max_parts (left known.time (max known.behind_since known.moved) (behind_wait_in known + steps_by_number known slow)) (again known.time known.ticks (behind_wait_in known) (most_of slow)) all.0 in
    to_catch_up is (untaught known slow all.1) (has_waited known known.ticks (behind_wait_in known) (most_of slow) both.1)

pub cases_none : (a b : ℕ) → min a b ≡ 0 → (a ≡ 0) ⊎ (b ≡ 0)
cases_none a b is = elim (cases_eq a 0) [ inl none ↦ inl none | inr some ↦ inr (omega (arith, some)) ]

either_of_none : (known : Known) → behind known ≡ false → has_work known ≡ true
    → min (help_left known (slow_in known)) (work_left known (slow_in known) (standing known (slow_in known) known.promised)) ≡ 0 → IsReason known
either_of_none known isnt work none =
    let slow = slow_in known in
    elim (cases_none (help_left known slow) (work_left known slow (standing known slow known.promised)) none) [
      | inl help ↦ let why = lags_of_none known slow help in for_a_peer isnt why.0 why.1
      | inr rest ↦ elim (work_of_none known (standing known slow known.promised) rest) [ inl why ↦ to_work isnt work why | inr why ↦ to_be_heard isnt why.0 why.1 ]
    ]

reason_of_none : (known : Known) → awaited known (slow_in known) ≡ 0 → IsReason known
unfolding awaited
reason_of_none known none = elim (cases_Bool (behind known)) [
  | inl so ↦ behind_of_none known so (rw so at none)
  | inr not_so ↦
      let rest = rw not_so at none in
      elim (cases_Bool (has_work known)) [
        | inl work ↦ either_of_none known not_so work (rw work at rest)
        | inr idle ↦ let why = lags_of_none known (slow_in known) (rw idle at rest) in for_a_peer not_so why.0 why.1
      ]
]

pub why_it_ticks : (known : Known) → due_of known ≡ Now → IsReason known
why_it_ticks known is = reason_of_none known (tick_by known is).1.0
