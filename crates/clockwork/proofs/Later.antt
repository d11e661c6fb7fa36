-- After the longest wait each wait has passed.
use Rattle.std.proofs.Common.{ℕ, ◌≡◌, ◌⊎◌, ◌+◌, ◌-◌, ◌*◌, ◌≤◌, Bool, true, false, List, Option, Some, None, inl, inr, refl, sym, subst, ap, ◌∙◌, arith}
use Rattle.std.specs.Prelude.{map, min, max, if◌then◌else◌, not, ◌&&◌, ◌||◌, ◌==◌, nat_lt, is_some, find, IfSome}
use Rattle.std.proofs.lemmas.Bool.{cases_Bool, ltb-false, lt-ltb, le-ltb}
use Rattle.std.proofs.lemmas.List.{length-map}
use native.Mathlib.Nat.{mul-le-mul_right}
use Rattle.clockwork.specs.declared.known.Ticks.{Ticks}
use Rattle.clockwork.specs.declared.known.PeerReport.{PeerReport}
use Rattle.clockwork.specs.declared.known.Link.{Link}
use Rattle.clockwork.specs.declared.known.Link.TheVariants.{Closed, Open}
use Rattle.clockwork.specs.declared.known.Peer.{Peer}
use Rattle.clockwork.specs.declared.known.Known.{Known}
use Rattle.clockwork.specs.declared.helping.Wait.{Wait}
use Rattle.clockwork.specs.declared.answer.Due.{Due}
use Rattle.clockwork.specs.declared.answer.Due.TheVariants.{Now}
use Rattle.clockwork.specs.declared.standing.Standing.{Standing}
use Rattle.clockwork.specs.declared.standing.Standing.TheVariants.{Campaigns, Fresh, Led, Lost, Idle, Follows}
use Rattle.clockwork.specs.declared.limits.TheConstants.{SHORTEST, STEP, LOOK, MOST_HELP, BEHIND, ALONE}
use Rattle.clockwork.specs.Waits.{left, times, doubled, in_vain, again, spaced}
use Rattle.clockwork.specs.Presence.{told, slowest, pace_of, most_of, silence_of, lag_of, soon_of, present, is_quorate, is_above, is_behind, one_can_help, behind_wait}
use Rattle.clockwork.specs.Ranks.{is_before, rank_by_number, comes_sooner, rank_behind, is_as_far, rank_as_far}
use Rattle.clockwork.specs.Helping.{lag_within, waits_since, lagging, has_passed, lagging_left, least_left, help_left, one_lags}
use Rattle.clockwork.specs.Standings.{idle_since, gone_since, standing_by, standing_over, standing_behind, standing_to, standing, is_campaign, is_follower}
use Rattle.clockwork.specs.Work.{has_work, one_reopened, steps_by_number, steps_behind, is_untold, idle_wait, row_left, votes_alone, one_campaigns, yield_left, back_left, work_left}
use Rattle.clockwork.specs.Teaching.{told_over, told_by_leader, teaching_left, taught_left}
use Rattle.clockwork.specs.Dues.{behind_left, awaited, slow_in, due_by, due_of}
use Rattle.clockwork.specs.Laws.{IsBeatPast, IsLinkPast, IsPast, longest_wait, heard_again, peer_at, known_at, after_the_wait, ComesInTime}
use Rattle.clockwork.proofs.Lists.{each_of_all, each_changed, count_alike, count_fewer, fold_alike, any_alike, found_of_each, least_is_none}
use Rattle.clockwork.proofs.Ticking.{tick_of_none}

-- ---- numbers

pub either_none : (test : Bool) (a b : ℕ) → a ≡ 0 → b ≡ 0 → (if test then a else b) ≡ 0
either_none true a b first second = first
either_none false a b first second = second

pub max_none : (a b : ℕ) → a ≡ 0 → b ≡ 0 → max a b ≡ 0
max_none a b first second = omega arith

left_none : (time wait since length : ℕ) → since ≤ time → length ≤ wait → left (time + wait) since length ≡ 0
left_none time wait since length past short = omega arith

silence_some : (slow : ℕ) → SHORTEST ≤ silence_of slow
unfolding silence_of
silence_some slow = omega arith

pub lag_short : (slow : ℕ) → lag_of slow ≤ pace_of slow
unfolding lag_of pace_of
lag_short slow = omega arith

help_short : (slow : ℕ) → MOST_HELP ≤ most_of slow
unfolding most_of pace_of
help_short slow = omega arith

soon_short : (slow : ℕ) → soon_of slow ≤ pace_of slow
unfolding soon_of pace_of
soon_short slow = omega arith

-- a shorter wait is shorter when doubled
pub doubled_short : (one other ticks most more : ℕ) → one ≤ other → most ≤ more → doubled one ticks most ≤ doubled other ticks more
doubled_short one other ticks most more short bound = at_most (one * times ticks) (other * times ticks) (mul-le-mul_right (times ticks) short)
  where
    at_most : (a b : ℕ) → a ≤ b → max one (min most a) ≤ max other (min more b)
    at_most a b within = omega (arith, short, bound, within)

again_none : (time : ℕ) (ticks : Option Ticks) (length most wait : ℕ) → IfSome ticks (λ ticks. ticks.last ≤ time) → doubled length (in_vain ticks) most ≤ wait
    → again (time + wait) ticks length most ≡ 0
again_none time None length most wait past short = refl
again_none time (Some ticks) length most wait past short =
    either_none (ticks.in_vain == 0) 0 (left (time + wait) ticks.last (doubled length ticks.in_vain most)) refl
    (left_none time wait ticks.last (doubled length ticks.in_vain most) past short)

spaced_none : (time wait : ℕ) (ticks : Option Ticks) → IfSome ticks (λ ticks. ticks.last ≤ time) → BEHIND ≤ wait → spaced (time + wait) ticks ≡ 0
spaced_none time wait None past long = refl
spaced_none time wait (Some ticks) past long = omega arith

both_past : (a b time : ℕ) → a ≤ time → b ≤ time → max a b ≤ time
both_past a b time first second = omega arith

pub steps_few : (rank count : ℕ) → rank ≤ count → STEP * rank ≤ STEP * count
steps_few rank count within = omega arith

sum_short : (a b long steps wait : ℕ) → a ≤ long → b ≤ steps → long + steps ≤ wait → a + b ≤ wait
sum_short a b long steps wait first second enough = omega arith

most_of_both : (test : Bool) (a b wait : ℕ) → a + b ≤ wait → (if test then a else a + b) ≤ wait
most_of_both true a b wait short = omega arith
most_of_both false a b wait short = short

pub few_of_both : (test : Bool) (lag pace : ℕ) → lag ≤ pace → max lag (if test then BEHIND else ALONE) ≤ max BEHIND pace
few_of_both true lag pace short = omega (arith, short)
few_of_both false lag pace short = omega (arith, short)

-- ---- the standing then

-- a leader that is gone or told that it doesn't campaign has been so before
abbrev IsLate : ℕ → Standing → Type 0
IsLate time Campaigns = Unit {0}
IsLate time Fresh = Unit {0}
IsLate time Led = Unit {0}
IsLate time (Lost leader since) = since ≤ time
IsLate time (Idle leader since) = since ≤ time
IsLate time (Follows leader) = Unit {0}

late_of_both : (time : ℕ) (test : Bool) (a b : Standing) → IsLate time a → IsLate time b → IsLate time (if test then a else b)
late_of_both time true a b first second = first
late_of_both time false a b first second = second

-- ---- who is present

pub before_is_told : (beat : Option PeerReport) (peer number : ℕ) → is_before beat peer number ≡ true → is_some beat ≡ true
unfolding is_before
before_is_told None peer number is = is
before_is_told (Some beat) peer number is = refl

sooner_is_told : (beat : Option PeerReport) (leader peer number : ℕ) → comes_sooner beat leader peer number ≡ true → is_some beat ≡ true
unfolding comes_sooner
sooner_is_told None leader peer number is = is
sooner_is_told (Some beat) leader peer number is = refl

as_far_is_told : (beat : Option PeerReport) (front peer number : ℕ) → is_as_far beat front peer number ≡ true → is_some beat ≡ true
unfolding is_as_far
as_far_is_told None front peer number is = is
as_far_is_told (Some beat) front peer number is = refl

module _ (time slow later : ℕ) (after : time ≤ later) where
  told_again : (link : Link) → told later slow (heard_again time slow later link) ≡ told time slow link
  unfolding told
  told_again (Closed since) = refl
  told_again (Open connection) = elim (cases_Bool (nat_lt (time - connection.heard) (silence_of slow))) [
    | inl so ↦
        let some = silence_some slow in
        let now : nat_lt (later - later) (silence_of slow) ≡ true = lt-ltb (later - later) (silence_of slow) (omega (arith, some)) in
        rw so (rw now refl)
    | inr not_so ↦
        let far = ltb-false (time - connection.heard) (silence_of slow) not_so in
        let gone : nat_lt (later - connection.heard) (silence_of slow) ≡ false = le-ltb (later - connection.heard) (silence_of slow) (omega (arith, after, far)) in
        rw not_so (rw gone refl)
  ]

  present_again : (peers : List Peer) → present later slow (map (peer_at time slow later) peers) ≡ present time slow peers
  unfolding present
  present_again peers =
      count_alike (λ (peer : Peer). is_some (told time slow peer.link)) (λ (peer : Peer). is_some (told later slow peer.link)) (peer_at time slow later) (λ peer. ap is_some (told_again peer.link)) peers

  quorate_again : (peers : List Peer) → is_quorate later slow (map (peer_at time slow later) peers) ≡ is_quorate time slow peers
  unfolding is_quorate
  quorate_again peers = let many = length-map peers (peer_at time slow later) in let alike = present_again peers in cc

  behind_again : (front : ℕ) (peers : List Peer) → is_behind later slow front (map (peer_at time slow later) peers) ≡ is_behind time slow front peers
  unfolding is_behind
  behind_again front peers =
      any_alike (λ (peer : Peer). is_above front (told time slow peer.link)) (λ (peer : Peer). is_above front (told later slow peer.link)) (peer_at time slow later) (λ peer. ap (is_above front) (told_again peer.link)) peers

  -- ---- a leader that is gone, or told that it doesn't campaign

  gone_past : (link : Link) → IsLinkPast time link → IfSome (gone_since later slow (heard_again time slow later link)) (λ since. since ≤ time)
  unfolding gone_since
  gone_past (Closed since) past = past
  gone_past (Open connection) past = elim (cases_Bool (nat_lt (time - connection.heard) (silence_of slow))) [
    | inl so ↦
        let some = silence_some slow in
        let now : nat_lt (later - later) (silence_of slow) ≡ true = lt-ltb (later - later) (silence_of slow) (omega (arith, some)) in
        rw so (rw now tt)
    | inr not_so ↦
        let far = ltb-false (time - connection.heard) (silence_of slow) not_so in
        let some = silence_some slow in
        let gone : nat_lt (later - connection.heard) (silence_of slow) ≡ false = le-ltb (later - connection.heard) (silence_of slow) (omega (arith, after, far)) in
        rw not_so (rw gone (omega (arith, far, some)))
  ]

  idle_past : (beat : Option PeerReport) → IsBeatPast time beat → IfSome (idle_since beat) (λ since. since ≤ time)
  unfolding idle_since
  idle_past None past = tt
  idle_past (Some beat) past = elim (cases_Bool beat.campaigns) [ inl so ↦ rw so tt | inr not_so ↦ rw not_so past.1.0 ]

  told_past : (link : Link) → IsLinkPast time link → IsBeatPast time (told time slow link)
  unfolding told
  told_past (Closed since) past = tt
  told_past (Open connection) past = elim (cases_Bool (nat_lt (time - connection.heard) (silence_of slow))) [ inl so ↦ rw so (past.1) | inr not_so ↦ rw not_so tt ]

  report_late : (link : Link) → IsLinkPast time link → IsBeatPast time (told later slow (heard_again time slow later link))
  report_late link past = rw (told_again link) (told_past link past)

  late_by : (leader : ℕ) (gone idle : Option ℕ) → IfSome gone (λ since. since ≤ time) → IfSome idle (λ since. since ≤ time) → IsLate time (standing_by leader gone idle)
  late_by leader None None first second = tt
  late_by leader None (Some idle) first second = second
  late_by leader (Some gone) idle first second = first

  over_late : (leader : ℕ) (link : Link) → IsLinkPast time link → IsLate time (standing_over later slow leader (heard_again time slow later link))
  unfolding standing_over
  over_late leader link past =
      rw (told_again link) (late_by leader (gone_since later slow (heard_again time slow later link)) (idle_since (told time slow link)) (gone_past link past) (idle_past (told time slow link) (told_past link past)))

  behind_late : (leader : ℕ) (found : Option Peer) → IfSome found (λ peer. IsLate time (standing_over later slow leader peer.link)) → IsLate time (standing_behind later slow leader found)
  unfolding standing_behind
  behind_late leader None past = omega arith
  behind_late leader (Some peer) past = past

-- ---- a peer that lags

waits_past : (time since : ℕ) (length : Option ℕ) → since ≤ time → IfSome (waits_since since length) (λ wait. wait.since ≤ time)
waits_past time since None past = tt
waits_past time since (Some length) past = past

lagging_past : (time slow front : ℕ) (accepted : Option ℕ) (beat : Option PeerReport) → IsBeatPast time beat → IfSome (lagging slow front accepted beat) (λ wait. wait.since ≤ time)
unfolding lagging
lagging_past time slow front accepted None past = tt
lagging_past time slow front accepted (Some beat) past = elim (cases_Bool (nat_lt beat.front front)) [
  | inl so ↦ rw so (waits_past time beat.below (lag_within slow accepted beat.front) past.0)
  | inr not_so ↦ rw not_so tt
]

wait_none : (time more wait : ℕ) (lag : Option Wait) → IfSome lag (λ lag. lag.since ≤ time) → has_passed time lag ≡ true → more ≤ wait → lagging_left (time + wait) more lag ≡ 0
unfolding has_passed lagging_left
wait_none time more wait None past passed short = cc
wait_none time more wait (Some lag) past passed short = elim (cases_Bool (nat_lt (time - lag.since) lag.length)) [
  | inl so ↦ let none = rw so at passed in cc
  | inr not_so ↦ let far = ltb-false (time - lag.since) lag.length not_so in omega (arith, past, far, short)
]

peer_none : (time slow front more wait : ℕ) (peer : Peer) → IsLinkPast time peer.link → more ≤ wait
    → has_passed time (lagging slow front peer.accepted (told time slow peer.link)) ≡ true
    → lagging_left (time + wait) more (lagging slow front peer.accepted (told (time + wait) slow (heard_again time slow (time + wait) peer.link))) ≡ 0
peer_none time slow front more wait peer past short passed =
    rw (told_again time slow (time + wait) (omega arith) peer.link)
    (wait_none time more wait (lagging slow front peer.accepted (told time slow peer.link)) (lagging_past time slow front peer.accepted (told time slow peer.link) (told_past time slow (time + wait) (omega arith) peer.link past)) passed short)

-- ---- all that is left then

one_of_all : (first second work : Bool) (a b c : ℕ) → first ≡ second → a ≡ 0 → c ≡ 0 → (second ≡ true) ⊎ ((work ≡ true) ⊎ (b ≡ 0))
    → (if first then a else if work then min b c else b) ≡ 0
one_of_all true second work a b c same none rest needed = none
one_of_all false second true a b c same none rest needed = omega arith
one_of_all false second false a b c same none rest needed = elim needed [
  | inl is ↦ let never : false ≡ true = same ∙ is in cc
  | inr other ↦ elim other [ inl is ↦ cc | inr help ↦ help ]
]

pub tick_when : (test : Bool) (a b : Due) → test ≡ true → a ≡ Now → (if test then a else b) ≡ Now
tick_when true a b is tick = tick
tick_when false a b is tick = cc

-- so much later, where the slowest took so long
abbrev then_known : Known → (slow wait : ℕ) → Known
then_known known slow wait = record known { time = known.time + wait; peers = record known.peers { now = map (peer_at known.time slow (known.time + wait)) known.peers.now } }

abbrev most_wait : Known → ℕ → ℕ
most_wait known slow = doubled (max BEHIND (pace_of slow)) (in_vain known.ticks) (most_of slow)

abbrev all_steps : Known → ℕ → ℕ
all_steps known slow = STEP * present known.time slow known.peers.now

module _ (known : Known) (past : IsPast known) (slow wait : ℕ) (enough : most_wait known slow + all_steps known slow ≤ wait) where
  past_time : known.time ≤ known.time + wait
  past_time = omega arith

  not_late : (leader : ℕ) → IsLate known.time (standing_behind (known.time + wait) slow leader (find (λ (peer : Peer). peer.number == leader) (then_known known slow wait).peers.now))
  not_late leader =
      let Was : Peer → Type 0 = λ peer. IsLinkPast known.time peer.link in
      let Is : Peer → Type 0 = λ peer. IsLate known.time (standing_over (known.time + wait) slow leader peer.link) in
      let each = each_changed Was Is (peer_at known.time slow (known.time + wait)) (λ peer. over_late known.time slow (known.time + wait) past_time leader peer.link) known.peers.now
      (each_of_all Was known.peers.now past.peers) in
      behind_late known.time slow (known.time + wait) past_time leader (find (λ (peer : Peer). peer.number == leader) (then_known known slow wait).peers.now) (found_of_each Is (λ (peer : Peer). peer.number == leader) (then_known known slow wait).peers.now each)

  standing_late : (promised : Option ℕ) → IsLate known.time (standing (then_known known slow wait) slow promised)
  unfolding standing_to
  standing_late None = tt
  standing_late (Some leader) =
      late_of_both known.time ((leader == known.number) && known.campaigns) Campaigns _ tt
      (late_of_both known.time (not known.was_led) Fresh _ tt
      (late_of_both known.time (leader == known.number) Led _ tt
      (not_late leader)))

  -- ---- the front of the leader then

  told_late : (found : Option Peer) → IfSome found (λ peer. IsBeatPast known.time (told (known.time + wait) slow peer.link)) → IsBeatPast known.time (told_over (known.time + wait) slow found)
  told_late None late = tt
  told_late (Some peer) late = late

  leader_late : (promised : Option ℕ) → IsBeatPast known.time (told_by_leader (then_known known slow wait) slow promised)
  unfolding told_by_leader
  leader_late None = tt
  leader_late (Some leader) =
      let Was : Peer → Type 0 = λ peer. IsLinkPast known.time peer.link in
      let Is : Peer → Type 0 = λ peer. IsBeatPast known.time (told (known.time + wait) slow peer.link) in
      let each = each_changed Was Is (peer_at known.time slow (known.time + wait)) (λ peer. report_late known.time slow (known.time + wait) past_time peer.link) known.peers.now
      (each_of_all Was known.peers.now past.peers) in
      told_late (find (λ (peer : Peer). peer.number == leader) (then_known known slow wait).peers.now) (found_of_each Is (λ (peer : Peer). peer.number == leader) (then_known known slow wait).peers.now each)

  -- ---- how long each wait is

  first_short : max BEHIND (pace_of slow) ≤ most_wait known slow
  first_short = bound (max BEHIND (pace_of slow) * times (in_vain known.ticks))
    where
      bound : (more : ℕ) → max BEHIND (pace_of slow) ≤ max (max BEHIND (pace_of slow)) (min (most_of slow) more)
      bound more = omega arith

  within : (length most : ℕ) → length ≤ max BEHIND (pace_of slow) → most ≤ most_of slow → doubled length (in_vain known.ticks) most ≤ most_wait known slow
  within length most short bound = doubled_short length (max BEHIND (pace_of slow)) (in_vain known.ticks) most (most_of slow) short bound

  alone : (length : ℕ) → length ≤ most_wait known slow → length ≤ wait
  alone length short = omega (arith, enough, short)

  pace_within : doubled (pace_of slow) (in_vain known.ticks) (most_of slow) ≤ most_wait known slow
  pace_within = within (pace_of slow) (most_of slow) (omega arith) (omega arith)

  lag_within_pace : lag_of slow ≤ max BEHIND (pace_of slow)
  lag_within_pace = let short = lag_short slow in omega (arith, short)

  soon_within_pace : soon_of slow ≤ max BEHIND (pace_of slow)
  soon_within_pace = let short = soon_short slow in omega (arith, short)

  few : (rank : ℕ) → rank ≤ present (known.time + wait) slow (then_known known slow wait).peers.now → STEP * rank ≤ all_steps known slow
  few rank less =
      let same = present_again known.time slow (known.time + wait) past_time known.peers.now in
      steps_few rank (present known.time slow known.peers.now) (subst (λ n. rank ≤ n) same less)

  few_steps : (length : ℕ) → length ≤ all_steps known slow → length ≤ wait
  few_steps length short = omega (arith, enough, short)

  by_number : steps_by_number (then_known known slow wait) slow ≤ all_steps known slow
  unfolding steps_by_number rank_by_number present
  by_number = few _ (count_fewer (λ (peer : Peer). is_before (told (known.time + wait) slow peer.link) peer.number known.number) (λ (peer : Peer). is_some (told (known.time + wait) slow peer.link)) (λ peer is. before_is_told (told (known.time + wait) slow peer.link) peer.number known.number is) (then_known known slow wait).peers.now)

  by_leader : (leader : ℕ) → steps_behind (then_known known slow wait) slow leader ≤ all_steps known slow
  unfolding steps_behind rank_behind present
  by_leader leader = few _ (count_fewer (λ (peer : Peer). comes_sooner (told (known.time + wait) slow peer.link) leader peer.number known.number) (λ (peer : Peer). is_some (told (known.time + wait) slow peer.link)) (λ peer is. sooner_is_told (told (known.time + wait) slow peer.link) leader peer.number known.number is) (then_known known slow wait).peers.now)

  by_front : STEP * rank_as_far (known.time + wait) slow known.front known.number (then_known known slow wait).peers.now ≤ all_steps known slow
  unfolding rank_as_far present
  by_front = few _ (count_fewer (λ (peer : Peer). is_as_far (told (known.time + wait) slow peer.link) known.front peer.number known.number) (λ (peer : Peer). is_some (told (known.time + wait) slow peer.link)) (λ peer is. as_far_is_told (told (known.time + wait) slow peer.link) known.front peer.number known.number is) (then_known known slow wait).peers.now)

  sum_within : (a b : ℕ) → a ≤ most_wait known slow → b ≤ all_steps known slow → a + b ≤ wait
  sum_within a b first second = sum_short a b (most_wait known slow) (all_steps known slow) wait first second enough

  again_within : (length most : ℕ) → length ≤ max BEHIND (pace_of slow) → most ≤ most_of slow → again (known.time + wait) known.ticks length most ≡ 0
  again_within length most short bound = again_none known.time known.ticks length most wait past.ticks (alone (doubled length (in_vain known.ticks) most) (within length most short bound))

  soon_most : soon_of slow ≤ most_wait known slow
  soon_most = let first = first_short in let short = soon_within_pace in omega (arith, first, short)

  idle_short : (leader : ℕ) → idle_wait (then_known known slow wait) slow leader ≤ wait
  unfolding idle_wait
  idle_short leader = most_of_both known.act_waits (soon_of slow) (steps_behind (then_known known slow wait) slow leader) wait (sum_within (soon_of slow) (steps_behind (then_known known slow wait) slow leader) soon_most (by_leader leader))

  row_none : (standing : Standing) → IsLate known.time standing → row_left (then_known known slow wait) slow standing ≡ 0
  unfolding row_left
  row_none Campaigns late =
      left_none known.time wait (max known.work_since known.moved) (doubled (pace_of slow) (in_vain known.ticks) (most_of slow)) (both_past known.work_since known.moved known.time past.work_since past.moved)
      (alone (doubled (pace_of slow) (in_vain known.ticks) (most_of slow)) pace_within)
  row_none Fresh late = left_none known.time wait known.work_since (steps_by_number (then_known known slow wait) slow) past.work_since (few_steps (steps_by_number (then_known known slow wait) slow) by_number)
  row_none Led late = refl
  row_none (Lost leader since) late =
      either_none known.act_waits 0 (left (known.time + wait) (max known.work_since since) (steps_behind (then_known known slow wait) slow leader)) refl
      (left_none known.time wait (max known.work_since since) (steps_behind (then_known known slow wait) slow leader) (both_past known.work_since since known.time past.work_since late) (few_steps (steps_behind (then_known known slow wait) slow leader) (by_leader leader)))
  row_none (Idle leader since) late =
      left_none known.time wait (max known.work_since since) (idle_wait (then_known known slow wait) slow leader) (both_past known.work_since since known.time past.work_since late) (idle_short leader)
  row_none (Follows leader) late =
      left_none known.time wait (max known.work_since (max known.moved known.promised_since)) (doubled (pace_of slow) (in_vain known.ticks) (most_of slow) + steps_behind (then_known known slow wait) slow leader)
      (both_past known.work_since (max known.moved known.promised_since) known.time past.work_since (both_past known.moved known.promised_since known.time past.moved past.promised_since))
      (sum_within (doubled (pace_of slow) (in_vain known.ticks) (most_of slow)) (steps_behind (then_known known slow wait) slow leader) pace_within (by_leader leader))

  yield_none : yield_left (then_known known slow wait) slow ≡ 0
  unfolding yield_left
  yield_none =
      either_none (votes_alone known && (not known.was_led || one_campaigns (known.time + wait) slow (then_known known slow wait).peers.now)) _ 0
      (left_none known.time wait (max known.work_since known.moved) (doubled (pace_of slow) (in_vain known.ticks) (most_of slow) + steps_by_number (then_known known slow wait) slow)
      (both_past known.work_since known.moved known.time past.work_since past.moved) (sum_within (doubled (pace_of slow) (in_vain known.ticks) (most_of slow)) (steps_by_number (then_known known slow wait) slow) pace_within by_number))
      refl

  pace_again : again (known.time + wait) known.ticks (pace_of slow) (most_of slow) ≡ 0
  pace_again = again_within (pace_of slow) (most_of slow) (omega arith) (omega arith)

  back_none : back_left (then_known known slow wait) slow ≡ 0
  unfolding back_left
  back_none = either_none (nat_lt 1 (in_vain known.ticks)) (again (known.time + wait) known.ticks (pace_of slow) (most_of slow)) 0 pace_again refl

  work_none : (standing : Standing) → IsLate known.time standing → work_left (then_known known slow wait) slow standing ≡ 0
  unfolding work_left
  work_none standing late =
      either_none (is_campaign standing && one_reopened (then_known known slow wait)) _ _ back_none
      (either_none (is_follower standing && is_untold (then_known known slow wait)) _ _ (again_within (soon_of slow) (most_of slow) soon_within_pace (omega arith))
      (max_none _ _ (max_none _ _ (row_none standing late) yield_none) pace_again))

  behind_first : behind_wait (known.time + wait) slow known.front (then_known known slow wait).peers.now ≤ max BEHIND (pace_of slow)
  behind_first = few_of_both (one_can_help (known.time + wait) slow known.front (then_known known slow wait).peers.now) (lag_of slow) (pace_of slow) (lag_short slow)

  behind_most : behind_wait (known.time + wait) slow known.front (then_known known slow wait).peers.now ≤ most_wait known slow
  behind_most = let first = first_short in let short = behind_first in omega (arith, first, short)

  pace_alone : pace_of slow ≤ wait
  pace_alone = let first = first_short in alone (pace_of slow) (omega (arith, first))

  teaching_none : (report : Option PeerReport) → IsBeatPast known.time report → teaching_left (known.time + wait) slow known.front report ≡ 0
  unfolding teaching_left
  teaching_none None late = refl
  teaching_none (Some report) late =
      either_none (nat_lt known.front report.front && not report.over) (left (known.time + wait) report.risen (pace_of slow)) 0
      (left_none known.time wait report.risen (pace_of slow) late.1.1 pace_alone) refl

  taught_none : taught_left (then_known known slow wait) slow ≡ 0
  unfolding taught_left
  taught_none = teaching_none (told_by_leader (then_known known slow wait) slow known.promised) (leader_late known.promised)

  behind_none : behind_left (then_known known slow wait) slow ≡ 0
  unfolding behind_left
  behind_none =
      let first = behind_wait (known.time + wait) slow known.front (then_known known slow wait).peers.now in
      max_none _ _
      (max_none _ _
      (left_none known.time wait (max known.behind_since known.moved) (first + steps_by_number (then_known known slow wait) slow)
      (both_past known.behind_since known.moved known.time past.behind_since past.moved) (sum_within first (steps_by_number (then_known known slow wait) slow) behind_most by_number))
      (again_within first (most_of slow) behind_first (omega arith)))
      taught_none

  help_none : one_lags known slow ≡ true → help_left (then_known known slow wait) slow ≡ 0
  unfolding one_lags help_left least_left
  help_none any =
      let steps = STEP * rank_as_far (known.time + wait) slow known.front known.number (then_known known slow wait).peers.now in
      let short : steps ≤ wait = few_steps steps by_front in
      let each = each_of_all (λ (peer : Peer). IsLinkPast known.time peer.link) known.peers.now past.peers in
      max_none _ _
      (least_is_none
      (λ (peer : Peer). lagging_left (known.time + wait) steps (lagging slow known.front peer.accepted (told (known.time + wait) slow peer.link)))
      (peer_at known.time slow (known.time + wait))
      (λ (peer : Peer). has_passed known.time (lagging slow known.front peer.accepted (told known.time slow peer.link)))
      (λ (peer : Peer). IsLinkPast known.time peer.link)
      (λ peer was passed. peer_none known.time slow known.front steps wait peer was short passed)
      known.peers.now LOOK each any)
      (again_within (lag_of slow) MOST_HELP lag_within_pace (help_short slow))

  all_none : (is_behind known.time slow known.front known.peers.now ≡ true) ⊎ ((has_work known ≡ true) ⊎ (one_lags known slow ≡ true)) → awaited (then_known known slow wait) slow ≡ 0
  unfolding awaited has_work
  all_none needed =
      one_of_all (is_behind (known.time + wait) slow known.front (then_known known slow wait).peers.now) (is_behind known.time slow known.front known.peers.now) (has_work known)
      (behind_left (then_known known slow wait) slow) (help_left (then_known known slow wait) slow) (work_left (then_known known slow wait) slow (standing (then_known known slow wait) slow known.promised))
      (behind_again known.time slow (known.time + wait) past_time known.front known.peers.now)
      behind_none
      (work_none (standing (then_known known slow wait) slow known.promised) (standing_late known.promised))
      (elim needed [ inl is ↦ inl is | inr rest ↦ elim rest [ inl is ↦ inr (inl is) | inr is ↦ inr (inr (help_none is)) ] ])

  tick_then : is_quorate known.time slow known.peers.now ≡ true → (is_behind known.time slow known.front known.peers.now ≡ true) ⊎ ((has_work known ≡ true) ⊎ (one_lags known slow ≡ true))
      → due_by (then_known known slow wait) slow ≡ Now
  tick_then is needed =
      tick_when _ _ _
      (quorate_again known.time slow (known.time + wait) past_time known.peers.now ∙ is)
      (tick_of_none (known.time + wait) _ (max_none _ _ (all_none needed) (spaced_none known.time wait known.ticks past.ticks (let first = first_short in alone BEHIND (omega (arith, first))))))

slow_again : (known : Known) (later : ℕ) → slow_in (known_at known later) ≡ slow_in known
unfolding slowest
slow_again known later = fold_alike (λ most (peer : Peer). max most peer.longest) (peer_at known.time (slow_in known) later) (λ most peer. refl) known.peers.now known.longest_call known.longest_call refl

pub comes_in_time : (known : Known) → ComesInTime known
unfolding due_of
comes_in_time known = λ past is needed.
    subst (λ slow. due_by (after_the_wait known) slow ≡ Now) (sym (slow_again known (known.time + longest_wait known)))
    (tick_then known past (slow_in known) (longest_wait known) (omega arith) is needed)
