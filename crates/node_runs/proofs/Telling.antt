-- Lines of what waited, one after another.
use Rattle.std.proofs.Common.{◌≡◌, ℕ, ◌+◌, ◌-◌, ◌<◌, ◌≤◌, ◌==◌, ◌&&◌, Bool, true, false, cond, List, [], ◌∷◌, ◌++◌, length, refl, sym, ap, ◌∙◌, subst, inl, inr, append_assoc, arith}
use Rattle.std.specs.Prelude.{Option, nat_lt}
use Rattle.std.specs.List.{count_by, filter}
use Rattle.std.proofs.lemmas.Bool.{and_parts, cases_eq, cases_lt, cond-true, cond-false, eq-eqb, false_from_ne_true, ne_eqb, lt-ltb, ltb-true, le-ltb, cases_order}
use Rattle.std.proofs.lemmas.List.{append-nil, length_push}
use Rattle.std.proofs.lemmas.List.Elements.{filter-append}
use Rattle.std.proofs.lemmas.List.Sums.{sum_by_push}
use Rattle.stations.specs.Stations.{Look}
use Rattle.operator_notes.specs.Notes.{AreNoted}
use Rattle.node_service.specs.declared.server_notice.ServerNotice.{ServerNotice}
use Rattle.node_runs.specs.NoteGroups.{most_of, no_place, room_of}
use Rattle.node_runs.specs.NoteLimits.{IsNoneDue, has_due, has_room, is_of, is_recent, second, waiting_at, counted_at}
use Rattle.node_runs.specs.Running.{later_lines}
use Rattle.node_runs.specs.ServerNotes.{group_lines}
use Rattle.node_runs.specs.ServerNotes as said
use Rattle.node_runs.specs.Tellers as teller
use Rattle.node_runs.specs.Tellers.{TellsLater, TellsOf, TellsRest, TellsSome, TurnsAway}
use Rattle.node_runs.specs.WaitingNotes.{Holds, TakesCount, newest_at}
use Rattle.node_runs.specs.declared.note_limits.Count.{Count}
use Rattle.node_runs.specs.declared.waiting_notes.WaitingNotes.{WaitingNotes}
use Rattle.node_runs.proofs.Accounts.{room_at_most, sum_pushed}

cond_same : (b : Bool) → ◌≡◌ {A = ℕ} (cond b 0 0) 0
cond_same true = refl
cond_same false = refl

-- of the groups below this one as much as this says, and of the others nothing
abbrev pub below : (ℕ → ℕ) → ℕ → ℕ → ℕ
below much bound group = cond (nat_lt group bound) (much group) 0

-- of the groups below the next one it is as much more as this says of this one
next_below : (much : ℕ → ℕ) (bound group : ℕ) → below much (bound + 1) group ≡ below much bound group + cond (bound == group) (much bound) 0
next_below much bound group = elim (cases_order bound group) [
  | inl same ↦
      let now = cond-true (nat_lt group (bound + 1)) (much group) 0 (lt-ltb group (bound + 1) (omega arith)) in
      let before = cond-false (nat_lt group bound) (much group) 0 (le-ltb group bound (omega arith)) in
      let more = cond-true (bound == group) (much bound) 0 (eq-eqb bound group same) in
      let is = ap much same in
      omega (arith, now, before, more, is)
  | inr (inl past) ↦
      let now = cond-false (nat_lt group (bound + 1)) (much group) 0 (le-ltb group (bound + 1) (omega arith)) in
      let before = cond-false (nat_lt group bound) (much group) 0 (le-ltb group bound (omega arith)) in
      let none = cond-false (bound == group) (much bound) 0 (ne_eqb bound group (λ same. omega (arith, same))) in
      omega (arith, now, before, none)
  | inr (inr within) ↦
      let now = cond-true (nat_lt group (bound + 1)) (much group) 0 (lt-ltb group (bound + 1) (omega arith)) in
      let before = cond-true (nat_lt group bound) (much group) 0 (lt-ltb group bound (omega arith)) in
      let none = cond-false (bound == group) (much bound) 0 (ne_eqb bound group (λ same. omega (arith, same))) in
      omega (arith, now, before, none)
]

count_pushed : (group : ℕ) (counts : List Count) (one : Count) → count_by (is_of group) (counts ++ one ∷ []) ≡ count_by (is_of group) counts + cond (one.group == group) 1 0
count_pushed group counts one = sum_by_push (λ (x : Count). cond (is_of group x) 1 0) counts one

below_one : (bound group : ℕ) → below (λ _. 1) bound group ≤ 1
below_one bound group = elim (cases_lt group bound) [
  | inl within ↦ let is = cond-true {A = ℕ} (nat_lt group bound) 1 0 (lt-ltb group bound within) in omega (arith, is)
  | inr behind ↦ let is = cond-false {A = ℕ} (nat_lt group bound) 1 0 (le-ltb group bound behind) in omega (arith, is)
]

more_below : (bound group : ℕ) → below (λ _. 1) bound group ≤ below (λ _. 1) (bound + 1) group
more_below bound group = let next = next_below (λ _. 1) bound group in omega (arith, next)

-- lines that are told now are among those of the last second
recent_lines : (texts : ℕ → ℕ → List (List ℕ)) (time : ℕ) (start : Option (List ℕ)) (lines more : List Count) (held : Option (List ℕ)) → said.Later texts time start more held
    → length more ≤ length (filter (is_recent time) (lines ++ more))
recent_lines texts time start lines more held said.Later.none = omega arith
recent_lines texts time start lines more held (said.Later.more before one between after later at noted) =
    let rest = recent_lines texts time start lines before between later in
    let kept : filter (is_recent time) (one ∷ []) ≡ one ∷ [] = cond-true (is_recent time one) (one ∷ []) [] (lt-ltb (time - one.time) second (omega (arith, at))) in
    let split : filter (is_recent time) (lines ++ (before ++ one ∷ [])) ≡ filter (is_recent time) (lines ++ before) ++ one ∷ [] =
    ap (filter (is_recent time)) (sym (append_assoc lines before (one ∷ [])))
    ∙ (filter-append (is_recent time) (lines ++ before) (one ∷ []) ∙ ap (λ (l : List Count). filter (is_recent time) (lines ++ before) ++ l) kept) in
    let long = ap (λ (l : List Count). length l) split ∙ length_push (filter (is_recent time) (lines ++ before)) one in
    let longer = length_push before one in
    omega (arith, rest, longer, long)

-- behind 50 lines of the last second no other is told
no_room : (recent : List Count) (group : ℕ) → 50 ≤ length recent → has_room recent group ≡ false
no_room recent group full = false_from_ne_true (has_room recent group) (λ room.
    let parts = and_parts (nat_lt (length recent) (room_of group)) (nat_lt (count_by (is_of group) recent) (most_of group)) room in
    let fewer = ltb-true (length recent) (room_of group) parts.0 in
    let most = room_at_most group in
    omega (arith, full, fewer, most))

-- nothing is due
none_due : (things : List ServerNotice) (came lines : List Count) (waiting : WaitingNotes) → Holds things came lines waiting → ((group : ℕ) → has_due waiting.limits group ≡ false) → IsNoneDue came lines waiting.limits.clock
none_due things came lines waiting holds none = λ group few less.
    let exact = holds.account.exact group few in
    let some : nat_lt 0 (waiting_at waiting.limits group) ≡ true = lt-ltb 0 (waiting_at waiting.limits group) (omega (arith, exact, less)) in
    let is : has_room waiting.limits.recent.items group ≡ false = ap (λ (b : Bool). b && has_room waiting.limits.recent.items group) (sym some) ∙ none group in
    subst (λ (l : List Count). has_room l group ≡ false) holds.account.recent is

module _ {N : Type 0} (look : Look N) (port : ℕ) where
  -- time went by
  pub nothing_later : (time : ℕ) (old new : WaitingNotes) (held : Option (List ℕ)) → ((things : List ServerNotice) (came lines : List Count) → Holds things came lines old → Holds things came lines new)
      → TellsSome look port time 0 old new held held
  nothing_later time old new held passes = λ things came lines holds. record {
    more = [];
    told = said.Later.none;
    holds = subst (λ (l : List Count). Holds things came l new) (sym (append-nil lines)) (passes things came lines holds);
    counted = refl;
  }

  -- one line more was told
  pub one_later : (time count there : ℕ) (old mid new : WaitingNotes) (one : Count) (held between after : Option (List ℕ)) → there ≡ port → TellsSome look port time count old mid held between
      → ((things : List ServerNotice) (came lines : List Count) → Holds things came lines mid → Holds things came (lines ++ one ∷ []) new) → one.time ≡ time
      → AreNoted (group_lines look.config.setting.names look.number there (newest_at new one.group) one.group one.count) between after → TellsSome look port time (count + 1) old new held after
  one_later time count there old mid new one held between after same so more at noted = λ things came lines holds.
      let before = so things came lines holds in
      let now = more things came (lines ++ before.more) before.holds in
      let here = subst (λ (p : ℕ). AreNoted (group_lines look.config.setting.names look.number p (newest_at new one.group) one.group one.count) between after) same noted in
      record {
        more = before.more ++ one ∷ [];
        told = said.Later.more before.more one between after before.told at
            (subst (λ (newest : Option ServerNotice). AreNoted (group_lines look.config.setting.names look.number port newest one.group one.count) between after) (now.newest one.group) here);
        holds = subst (λ (l : List Count). Holds things came l new) (append_assoc lines before.more (one ∷ [])) now;
        counted = let longer = length_push before.more one in let counted = before.counted in omega (arith, longer, counted);
      }

  -- nothing more is due
  pub none_later : (time count : ℕ) (old mid new : WaitingNotes) (held between : Option (List ℕ)) → TellsSome look port time count old mid held between
      → ((things : List ServerNotice) (came lines : List Count) → Holds things came lines mid → Holds things came lines new) → ((group : ℕ) → has_due new.limits group ≡ false) → new.limits.clock ≡ time
      → TellsLater look port time old new held between
  none_later time count old mid new held between so same none at = λ things came lines holds.
      let before = so things came lines holds in
      let now = same things came (lines ++ before.more) before.holds in
      record {
        more = before.more;
        told = before.told;
        holds = now;
        none = subst (λ (t : ℕ). IsNoneDue came (lines ++ before.more) t) at (none_due things came (lines ++ before.more) new now none);
      }

  -- as many as may be were told
  pub full_later : (time count : ℕ) (old new : WaitingNotes) (held between : Option (List ℕ)) → TellsSome look port time count old new held between → 50 ≤ count → TellsLater look port time old new held between
  full_later time count old new held between so full = λ things came lines holds.
      let before = so things came lines holds in
      let many = before.counted in
      let recent = recent_lines (later_lines look port things) time held lines before.more between before.told in
      record {
        more = before.more;
        told = before.told;
        holds = before.holds;
        none = λ group few less. no_room (filter (is_recent time) (lines ++ before.more)) group (omega (arith, full, many, recent));
      }

  -- callers for whom there was no place are told at once, or wait
  pub told_away : (count : ℕ) (is_told : Bool) (old new : WaitingNotes) (held after : Option (List ℕ)) → TakesCount old.limits.clock no_place count is_told old new
      → AreNoted (cond is_told (group_lines look.config.setting.names look.number port (newest_at new no_place) no_place count) []) held after → TurnsAway look port count old new held after
  told_away count is_told old new held after takes noted = teller.TurnsAway.some is_told after takes (λ things came lines holds.
      subst (λ (newest : Option ServerNotice). AreNoted (cond is_told (group_lines look.config.setting.names look.number port newest no_place count) []) held after) ((takes.holds things came lines holds).newest no_place) noted)

  pub nothing_rest : (waiting : WaitingNotes) (held : Option (List ℕ)) → TellsOf look port (below (waiting_at waiting.limits) 0) (below (λ _. 1) 0) waiting held held
  nothing_rest waiting held = λ things came lines holds. record {
    rest = [];
    told = said.Later.none;
    sums = λ group. sym (cond-false (nat_lt group 0) (waiting_at waiting.limits group) 0 (le-ltb group 0 (omega arith)));
    few = λ group. omega arith;
  }

  one_rest : (waiting : WaitingNotes) (bound count : ℕ) (held between after : Option (List ℕ)) → TellsOf look port (below (waiting_at waiting.limits) bound) (below (λ _. 1) bound) waiting held between
      → count ≡ waiting_at waiting.limits bound → AreNoted (group_lines look.config.setting.names look.number port (newest_at waiting bound) bound count) between after
      → TellsOf look port (below (waiting_at waiting.limits) (bound + 1)) (below (λ _. 1) (bound + 1)) waiting held after
  one_rest waiting bound count held between after so is noted = λ things came lines holds.
      let before = so things came lines holds in
      record {
        rest = before.rest ++ counted_at waiting.limits.clock bound count ∷ [];
        told = said.Later.more before.rest (counted_at waiting.limits.clock bound count) between after before.told refl
            (subst (λ (newest : Option ServerNotice). AreNoted (group_lines look.config.setting.names look.number port newest bound count) between after) (holds.newest bound) noted);
        sums = λ group.
            let pushed = sum_pushed group before.rest (counted_at waiting.limits.clock bound count) in
            let had = before.sums group in
            let next = next_below (waiting_at waiting.limits) bound group in
            let same = ap (λ (n : ℕ). cond (bound == group) n 0) is in
            omega (arith, pushed, had, next, same);
        few = λ group.
            let pushed = count_pushed group before.rest (counted_at waiting.limits.clock bound count) in
            let had = before.few group in
            let next = next_below (λ _. 1) bound group in
            omega (arith, pushed, had, next);
      }

  none_rest : (waiting : WaitingNotes) (bound : ℕ) (held between : Option (List ℕ)) → TellsOf look port (below (waiting_at waiting.limits) bound) (below (λ _. 1) bound) waiting held between
      → waiting_at waiting.limits bound ≡ 0 → TellsOf look port (below (waiting_at waiting.limits) (bound + 1)) (below (λ _. 1) (bound + 1)) waiting held between
  none_rest waiting bound held between so none = λ things came lines holds.
      let before = so things came lines holds in
      record {
        rest = before.rest;
        told = before.told;
        sums = λ group.
            let had = before.sums group in
            let next = next_below (waiting_at waiting.limits) bound group in
            let same = ap (λ (n : ℕ). cond (bound == group) n 0) none in
            let nothing = cond_same (bound == group) in
            omega (arith, had, next, same, nothing);
        few = λ group.
            let had = before.few group in
            let more = more_below bound group in
            omega (arith, had, more);
      }

  -- a group was looked at: what waits of it was told, or nothing does
  pub next_rest : (waiting : WaitingNotes) (bound : ℕ) (held between after : Option (List ℕ)) → TellsOf look port (below (waiting_at waiting.limits) bound) (below (λ _. 1) bound) waiting held between
      → (waiting_at waiting.limits bound ≡ 0 → after ≡ between)
      → (0 < waiting_at waiting.limits bound → AreNoted (group_lines look.config.setting.names look.number port (newest_at waiting bound) bound (waiting_at waiting.limits bound)) between after)
      → TellsOf look port (below (waiting_at waiting.limits) (bound + 1)) (below (λ _. 1) (bound + 1)) waiting held after
  next_rest waiting bound held between after so none some = elim (cases_eq (waiting_at waiting.limits bound) 0) [
    | inl nothing ↦ subst (λ (h : Option (List ℕ)). TellsOf look port (below (waiting_at waiting.limits) (bound + 1)) (below (λ _. 1) (bound + 1)) waiting held h) (sym (none nothing)) (none_rest waiting bound held between so nothing)
    | inr more ↦ one_rest waiting bound (waiting_at waiting.limits bound) held between after so refl (some (omega (arith, more)))
  ]

  pub all_rest : (waiting : WaitingNotes) (bound : ℕ) (held between : Option (List ℕ)) → TellsOf look port (below (waiting_at waiting.limits) bound) (below (λ _. 1) bound) waiting held between
      → ((group : ℕ) → bound ≤ group → waiting_at waiting.limits group ≡ 0) → TellsRest look port waiting held between
  all_rest waiting bound held between so past = λ things came lines holds.
      let before = so things came lines holds in
      record {
        rest = before.rest;
        told = before.told;
        sums = λ group. before.sums group ∙ elim (cases_lt group bound) [
          | inl within ↦ cond-true (nat_lt group bound) (waiting_at waiting.limits group) 0 (lt-ltb group bound within)
          | inr behind ↦ cond-false (nat_lt group bound) (waiting_at waiting.limits group) 0 (le-ltb group bound behind) ∙ sym (past group behind)
        ];
        few = λ group. let had = before.few group in let most = below_one bound group in omega (arith, had, most);
      }
