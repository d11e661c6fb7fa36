-- How many commands a command run may have: as many as told commands wait.
use Rattle.std.proofs.Common.{ℕ, zero, suc, ◌≡◌, ◌≢◌, ◌<◌, ◌≤◌, ◌+◌, ◌-◌, ◌⊎◌, inl, inr, Bool, true, false, true≢false, List, [], ◌∷◌, Option, Some, None, Ok, refl, sym, ap, subst, ◌∙◌, arith, if◌then◌else◌, length, ◌==◌, set, get_or, get_or-set_other}
use Rattle.std.specs.Prelude.{is_some, max, min}
use Rattle.std.proofs.lemmas.Bool.{lt-ltb, le-ltb, eqb-true, eq-eqb}
use Rattle.std.proofs.lemmas.Bool.Decides.{eqb_tells}
use Rattle.paxos_wire.specs.declared.limits.TheConstants.{WINDOW, SLOTS}
use Rattle.paxos_wire.specs.declared.ballot.Ballot.{Ballot}
use Rattle.paxos_wire.specs.declared.entry.Entry.{Entry}
use Rattle.slot_log.specs.declared.command.Command.{Command}
use Rattle.protocol_model.specs.Sets.{In}
use Rattle.protocol_model.specs.Quorums.{count}
use Rattle.protocol_model.proofs.Quorums.{one_counted}
use Rattle.proposer.specs.declared.campaign.Campaign.{Campaign}
use Rattle.proposer.specs.declared.accept_run.AcceptRun.{AcceptRun}
use Rattle.proposer.specs.Campaigns.{Proposing, is_proposed, greatest_told, is_counted, with_promise, counting}
use Rattle.proposer.specs.CommandRuns.{may_follow, in_front, told_commands, commands_of, run_by, is_waiting, waiting_by, most_commands, IsBounded}
use Rattle.proposer.specs.Counted.{Tells, IsGreatest}
use Rattle.proposer.proofs.Greatest.{greatest_decides}
use Rattle.proposer.proofs.ToldCommands.{follows, stays_covered}
use Rattle.proposer.proofs.SafeRuns.{passed_run}

-- ---- counts

within_or_end : (a n : ℕ) → a ≤ suc n → (a ≤ n) ⊎ (a ≡ suc n)
within_or_end a n most = grind arith

-- where all of a row are in the set, it has at least as many
pub row_counted : (set_of : ℕ → Bool) (first many n : ℕ) → first + many ≤ n → ((k : ℕ) → first ≤ k → k < first + many → set_of k ≡ true) → many ≤ count set_of n
row_counted set_of first zero n most all = omega arith
row_counted set_of first (suc many) zero most all = absurd (omega (arith, most))
row_counted set_of first (suc many) (suc n) most all = by (set_of n) refl (within_or_end (first + suc many) n most)
    (λ within. row_counted set_of first (suc many) n within all)
    (λ end. row_counted set_of first many n (omega (arith, end)) (λ k low high. all k low (omega (arith, high))))
  where
    by : (b : Bool) → set_of n ≡ b → (first + suc many ≤ n) ⊎ (first + suc many ≡ suc n)
        → (first + suc many ≤ n → suc many ≤ count set_of n) → (first + suc many ≡ suc n → many ≤ count set_of n)
        → suc many ≤ (if b then 1 + count set_of n else count set_of n)
    by true e (inl within) whole shorter = let rest = whole within in omega (arith, rest)
    by false e (inl within) whole shorter = whole within
    by true e (inr end) whole shorter = let rest = shorter end in omega (arith, rest)
    by false e (inr end) whole shorter = absurd (true≢false (sym (all n (omega (arith, end)) (omega (arith, end))) ∙ e))

-- what is in one of two sets is counted in one of them
pub either_counted : (whole one other : ℕ → Bool) (n : ℕ) → ((k : ℕ) → k < n → whole k ≡ true → (one k ≡ true) ⊎ (other k ≡ true)) → count whole n ≤ count one n + count other n
either_counted whole one other zero all = omega arith
either_counted whole one other (suc n) all = by (whole n) (one n) (other n) refl refl refl (either_counted whole one other n (λ k below. all k (omega (arith, below))))
  where
    by : (w a b : Bool) → whole n ≡ w → one n ≡ a → other n ≡ b → count whole n ≤ count one n + count other n
        → (if w then 1 + count whole n else count whole n) ≤ (if a then 1 + count one n else count one n) + (if b then 1 + count other n else count other n)
    by false true true ew ea eb rest = omega (arith, rest)
    by false true false ew ea eb rest = omega (arith, rest)
    by false false true ew ea eb rest = omega (arith, rest)
    by false false false ew ea eb rest = omega (arith, rest)
    by true true true ew ea eb rest = omega (arith, rest)
    by true true false ew ea eb rest = omega (arith, rest)
    by true false true ew ea eb rest = omega (arith, rest)
    by true false false ew ea eb rest = elim (all n (omega arith) ew) [
      | inl first ↦ absurd (true≢false (sym first ∙ ea))
      | inr second ↦ absurd (true≢false (sym second ∙ eb))
    ]

-- ---- the slots of a command run wait

waits : (n : ℕ) (c : Campaign) (slot : ℕ) (e : Entry) → may_follow c slot ≡ true → greatest_told c slot n ≡ Some e → is_waiting n c slot ≡ true
waits n c slot e follow told = rw (follow, told) refl

waiting_told_by : (n : ℕ) (c : Campaign) (slot : ℕ) (b : Bool) (o : Option Entry) (behind : List Command) → may_follow c slot ≡ b → greatest_told c slot n ≡ o
    → ((k : ℕ) → slot + 1 ≤ k → k < slot + 1 + length behind → is_waiting n c k ≡ true)
    → (k : ℕ) → slot ≤ k → k < slot + length (if b then in_front o behind else []) → is_waiting n c k ≡ true
waiting_told_by n c slot false o behind eb et rest k low high = absurd (omega (arith, low, high))
waiting_told_by n c slot true None behind eb et rest k low high = absurd (omega (arith, low, high))
waiting_told_by n c slot true (Some e) behind eb et rest k low high = elim (eqb_tells k slot) [
  | inl same ↦ subst (λ (s : ℕ). is_waiting n c s ≡ true) (sym same.1) (waits n c slot e eb et)
  | inr other ↦ let differs = other.1 in rest k (omega (arith, low, differs)) (omega (arith, high))
]

waiting_each : (n : ℕ) (c : Campaign) (more slot k : ℕ) → slot ≤ k → k < slot + length (told_commands n c more slot) → is_waiting n c k ≡ true
unfolding told_commands
waiting_each n c zero slot k low high = absurd (omega (arith, low, high))
waiting_each n c (suc more) slot k low high =
    waiting_told_by n c slot (may_follow c slot) (greatest_told c slot n) (told_commands n c more (slot + 1)) refl refl (λ j a b. waiting_each n c more (slot + 1) j a b) k low high

follow_if : (c : Campaign) (slot : ℕ) → c.first ≤ slot → slot < c.first + WINDOW → slot < SLOTS → is_proposed c slot ≡ false → may_follow c slot ≡ true
follow_if c slot low high is_slot unmarked = rw (le-ltb slot c.first low, lt-ltb slot (c.first + WINDOW) high, lt-ltb slot SLOTS is_slot, unmarked) refl

-- the slot behind may follow only where there is a slot before it
some_behind : (n : ℕ) (c : Campaign) (slot : ℕ) → 1 ≤ length (told_commands n c (WINDOW - 1) (slot + 1)) → slot < SLOTS
unfolding told_commands
some_behind n c slot some = by (may_follow c (slot + 1)) refl some
  where
    by : (b : Bool) → may_follow c (slot + 1) ≡ b → 1 ≤ length (if b then in_front (greatest_told c (slot + 1) n) (told_commands n c (WINDOW - 2) (slot + 1 + 1)) else []) → slot < SLOTS
    by true e some = let low = (follows c (slot + 1) e).is_slot in omega (arith, low)
    by false e some = absurd (omega (arith, some))

waiting_counted : (n : ℕ) (c : Campaign) (first many : ℕ) → c.first ≤ first → first + many ≤ c.first + WINDOW
    → ((k : ℕ) → first ≤ k → k < first + many → is_waiting n c k ≡ true) → many ≤ waiting_by n c
unfolding waiting_by
waiting_counted n c first many low high all =
    row_counted (λ place. is_waiting n c (c.first + place)) (first - c.first) many WINDOW (omega (arith, low, high))
    (λ k above below. all (c.first + k) (omega (arith, low, above)) (omega (arith, low, below)))

none_or_some : (a : ℕ) → (a ≡ 0) ⊎ (1 ≤ a)
none_or_some a = grind arith

told_bounded : (n : ℕ) (c : Campaign) (slot : ℕ) (e : Entry) → c.first ≤ slot → slot < c.first + WINDOW → is_proposed c slot ≡ false → greatest_told c slot n ≡ Some e
    → suc (length (told_commands n c (WINDOW - 1) (slot + 1))) ≤ max 1 (min WINDOW (waiting_by n c))
told_bounded n c slot e low high unmarked told = elim (none_or_some (length (told_commands n c (WINDOW - 1) (slot + 1)))) [
  | inl none ↦ omega (arith, none)
  | inr some ↦
      let covered = stays_covered n c (WINDOW - 1) (slot + 1) (omega (arith, high)) in
      let follow = follow_if c slot low high (some_behind n c slot some) unmarked in
      let all : (k : ℕ) → slot ≤ k → k < slot + suc (length (told_commands n c (WINDOW - 1) (slot + 1))) → is_waiting n c k ≡ true =
      (λ k above below. elim (eqb_tells k slot) [
        | inl same ↦ subst (λ (s : ℕ). is_waiting n c s ≡ true) (sym same.1) (waits n c slot e follow told)
        | inr other ↦ let differs = other.1 in waiting_each n c (WINDOW - 1) (slot + 1) k (omega (arith, above, differs)) (omega (arith, below))
      ]) in
      let counted = waiting_counted n c slot (suc (length (told_commands n c (WINDOW - 1) (slot + 1)))) low (omega (arith, covered)) all in
      omega (arith, counted, covered, low)
]

pub commands_bounded : (n : ℕ) (c : Campaign) (slot : ℕ) (own : Option Command) (told : Option Entry) → c.first ≤ slot → slot < c.first + WINDOW → is_proposed c slot ≡ false
    → greatest_told c slot n ≡ told → length (commands_of told (told_commands n c (WINDOW - 1) (slot + 1)) own) ≤ max 1 (min WINDOW (waiting_by n c))
commands_bounded n c slot own (Some e) low high unmarked told = told_bounded n c slot e low high unmarked told
commands_bounded n c slot (Some command) None low high unmarked told = omega arith
commands_bounded n c slot None None low high unmarked told = omega arith

pub run_bounded : (n : ℕ) (c : Campaign) (slot : ℕ) (own : Option Command) (made : AcceptRun) → run_by n c slot own ≡ Ok (Some made)
    → length made.commands ≤ max 1 (min WINDOW (waiting_by n c))
run_bounded n c slot own made h =
    let p = passed_run n c slot own made h in
    let most = commands_bounded n c slot own (greatest_told c slot n) p.low p.high p.unmarked refl in
    let count = ap length p.commands in omega (arith, count, most)

-- ---- one promise more

-- one of these entries is of the slot
abbrev tells_of : List Entry → ℕ → Bool
tells_of [] slot = false
tells_of (entry ∷ entries) slot = if entry.slot == slot then true else tells_of entries slot

told_in : (told : List Entry) (e : Entry) (slot : ℕ) → In e told → e.slot ≡ slot → tells_of told slot ≡ true
told_in [] e slot among at = absurd among
told_in (x ∷ xs) e slot (inl same) at = rw (eq-eqb x.slot slot (ap (λ (y : Entry). y.slot) (sym same) ∙ at)) refl
told_in (x ∷ xs) e slot (inr later) at = by (x.slot == slot) (told_in xs e slot later at)
  where
    by : (b : Bool) → tells_of xs slot ≡ true → (if b then true else tells_of xs slot) ≡ true
    by true there = refl
    by false there = there

none_at_all : (n : ℕ) → count (λ place. false) n ≤ 0
none_at_all zero = omega arith
none_at_all (suc n) = none_at_all n

so_many_told : (told : List Entry) (first n : ℕ) → count (λ place. tells_of told (first + place)) n ≤ length told
so_many_told [] first n = none_at_all n
so_many_told (e ∷ es) first n =
    let one : count (λ place. e.slot == first + place) n ≤ 1 = one_counted (λ place. e.slot == first + place) (e.slot - first) n
    (λ k below is. let at : e.slot ≡ first + k = eqb-true e.slot (first + k) is in omega (arith, at)) in
    let rest = so_many_told es first n in
    let either = either_counted (λ place. tells_of (e ∷ es) (first + place)) (λ place. e.slot == first + place) (λ place. tells_of es (first + place)) n
    (λ k below is. by (first + k) (e.slot == first + k) refl is) in
    omega (arith, one, rest, either)
  where
    by : (s : ℕ) (b : Bool) → (e.slot == s) ≡ b → (if b then true else tells_of es s) ≡ true → (b ≡ true) ⊎ (tells_of es s ≡ true)
    by s true eq is = inl refl
    by s false eq is = inr is

set_there : {X : Type 0} (xs : List (Option X)) (i : ℕ) (x y : X) → get_or (set xs i (Some x)) i None ≡ Some y → x ≡ y
set_there [] i x y h = absurd (cc)
set_there (z ∷ zs) zero x y h = cc
set_there (z ∷ zs) (suc i) x y h = set_there zs i x y h

module _ (n : ℕ) (c : Campaign) (from : ℕ) (told : List Entry) where
  abbrev counted : Campaign
  counted = record c { promises = set c.promises from (Some told) }

  some_before : (slot : ℕ) (o : Option Entry) (e : Entry) → IsGreatest n c slot o → Tells n c slot e → is_some o ≡ true
  some_before slot (Some g) e h t = refl
  some_before slot None e h t = absurd (h e t)

  told_before : (slot : ℕ) (e : Entry) → Tells n counted slot e → (is_some (greatest_told c slot n) ≡ true) ⊎ (tells_of told slot ≡ true)
  told_before slot e t = by (eqb_tells t.0 from)
    where
      by : ((t.0 == from) ≡ true) × (t.0 ≡ from) ⊎ ((t.0 == from) ≡ false) × (t.0 ≢ from) → (is_some (greatest_told c slot n) ≡ true) ⊎ (tells_of told slot ≡ true)
      by (inl same) =
          let one : told ≡ t.1 = set_there c.promises from told t.1 (ap (λ k. get_or (set c.promises from (Some told)) k None) (sym same.1) ∙ t.3) in
          inr (told_in told e slot (subst (In e) (sym one) t.4) t.5)
      by (inr other) =
          inl (some_before slot (greatest_told c slot n) e (greatest_decides n c slot)
          (t.0, t.1, t.2, sym (get_or-set_other c.promises from t.0 (Some told) None other.1) ∙ t.3, t.4, t.5))

  told_now : (slot : ℕ) (o : Option Entry) → greatest_told counted slot n ≡ o → IsGreatest n counted slot o → is_some o ≡ true
      → (is_some (greatest_told c slot n) ≡ true) ⊎ (tells_of told slot ≡ true)
  told_now slot (Some e) eq h is = told_before slot e h.0
  told_now slot None eq h is = absurd (cc)

  waiting_now : (slot : ℕ) → is_waiting n counted slot ≡ true → (is_waiting n c slot ≡ true) ⊎ (tells_of told slot ≡ true)
  waiting_now slot is = by (may_follow c slot) is
    where
      by : (b : Bool) → (if b then is_some (greatest_told counted slot n) else false) ≡ true
          → ((if b then is_some (greatest_told c slot n) else false) ≡ true) ⊎ (tells_of told slot ≡ true)
      by true is = told_now slot (greatest_told counted slot n) refl (greatest_decides n counted slot) is
      by false is = absurd (cc)

  waiting_more : waiting_by n counted ≤ waiting_by n c + length told
  unfolding waiting_by
  waiting_more =
      let either = either_counted (λ place. is_waiting n counted (c.first + place)) (λ place. is_waiting n c (c.first + place)) (λ place. tells_of told (c.first + place)) WINDOW
      (λ k below is. waiting_now (c.first + k) is) in
      let many = so_many_told told c.first WINDOW in omega (arith, either, many)

promise_waiting : (n : ℕ) (c : Campaign) (from : ℕ) (ballot : Ballot) (first : ℕ) (told : List Entry) → waiting_by n (with_promise n c from ballot first told) ≤ waiting_by n c + length told
promise_waiting n c from ballot first told = by (is_counted n c from ballot first)
  where
    by : (b : Bool) → waiting_by n (if b then record c { promises = set c.promises from (Some told) } else c) ≤ waiting_by n c + length told
    by true = waiting_more n c from told
    by false = omega arith

-- ---- bounds

pub bound_is_least : (p : Proposing) (further : ℕ) → 1 ≤ most_commands p further
bound_is_least p further = omega arith

pub bound_is_most : (p : Proposing) (further : ℕ) → most_commands p further ≤ WINDOW
bound_is_most p further = omega arith

now_by : (node n : ℕ) (o : Option Campaign) (further : ℕ) → IsBounded (record { node = node; nodes = n; campaign = o }) (most_commands (record { node = node; nodes = n; campaign = o }) further)
now_by node n None further slot own made h = absurd (cc)
now_by node n (Some c) further slot own made h = let most = run_bounded n c slot own made h in omega (arith, most)

pub bounded_now : (p : Proposing) (further : ℕ) → IsBounded p (most_commands p further)
bounded_now p further = now_by p.node p.nodes p.campaign further

later_by : (node n : ℕ) (o : Option Campaign) (further from : ℕ) (ballot : Ballot) (first : ℕ) (told : List Entry) → length told ≤ further
    → IsBounded (counting (record { node = node; nodes = n; campaign = o }) from ballot first told) (most_commands (record { node = node; nodes = n; campaign = o }) further)
later_by node n None further from ballot first told few slot own made h = absurd (cc)
later_by node n (Some c) further from ballot first told few slot own made h =
    let most = run_bounded n (with_promise n c from ballot first told) slot own made h in
    let more = promise_waiting n c from ballot first told in omega (arith, most, more, few)

pub bounded_later : (p : Proposing) (further from : ℕ) (ballot : Ballot) (first : ℕ) (told : List Entry)
    → length told ≤ further → IsBounded (counting p from ballot first told) (most_commands p further)
bounded_later p further from ballot first told few = later_by p.node p.nodes p.campaign further from ballot first told few
