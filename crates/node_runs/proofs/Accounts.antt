-- The account of notes, step by step.
use Rattle.std.proofs.Common.{◌≡◌, ℕ, ◌+◌, ◌-◌, ◌^◌, ◌<◌, ◌≤◌, ◌==◌, ◌&&◌, min, get_or, Bool, true, cond, List, [], ◌∷◌, ◌++◌, refl, sym, ap, ◌∙◌, subst, length, inl, inr, arith}
use Rattle.std.specs.List.{count_by, filter}
use Rattle.std.specs.Prelude.{nat_lt}
use Rattle.std.proofs.lemmas.Bool.{and_parts, ltb-true, lt-ltb, eqb-true, eq-eqb, ne_eqb, cases_eq, cond-true, cond-false, cond_both}
use Rattle.std.proofs.lemmas.List.Elements.{filter-append}
use Rattle.std.proofs.lemmas.List.Sums.{sum_by_push, count_by-le-length}
use Rattle.node_runs.specs.NoteGroups.{is_outside, most_of, room_of}
use Rattle.node_runs.specs.NoteLimits.{IsAccount, is_of, is_low, is_recent, sum_of, waiting_at, has_room, has_due, counted_at, second}
use Rattle.node_runs.specs.declared.note_limits.Count.{Count}
use Rattle.node_runs.specs.declared.note_limits.NoteLimits.{NoteLimits}
use Rattle.node_runs.specs.NoteSteps.{Waits}
use Rattle.node_runs.proofs.Counting.{filter-filter, at_most_more}

-- nothing came, nothing was told, and nothing waits
pub begun : (limits : NoteLimits) → limits.recent.items ≡ [] → ((group : ℕ) → waiting_at limits group ≡ 0) → IsAccount [] [] limits
begun limits none nobody = record {
  recent = none;
  all = λ start. omega arith;
  low = λ start. omega arith;
  each = λ group start. omega arith;
  least = λ group. let w = nobody group in omega (arith, w);
  exact = λ group few. let w = nobody group in omega (arith, w);
}

later_too : (clock later : ℕ) → clock ≤ later → (x : Count) → is_recent later x ≡ true → is_recent clock x ≡ true
later_too clock later least x is = let new = ltb-true (later - x.time) second is in lt-ltb (clock - x.time) second (omega arith)

-- time went by
pub passed : (came told : List Count) (limits next : NoteLimits) → IsAccount came told limits → limits.clock ≤ next.clock → next.recent.items ≡ filter (is_recent next.clock) limits.recent.items
    → next.waiting ≡ limits.waiting → IsAccount came told next
passed came told limits next account later kept waits = record {
  recent = kept ∙ (ap (filter (is_recent next.clock)) account.recent ∙ filter-filter (is_recent limits.clock) (is_recent next.clock) (later_too limits.clock next.clock later) told);
  all = account.all;
  low = account.low;
  each = account.each;
  least = λ group. rw waits (account.least group);
  exact = λ group few. rw waits (account.exact group few);
}

-- of no group more lines find room than of any
pub room_at_most : (group : ℕ) → room_of group ≤ 50
room_at_most group = cond_both (is_outside group) 40 50 (λ (n : ℕ). n ≤ 50) (λ is. omega arith) (λ is. omega arith)

pub sum_pushed : (group : ℕ) (counts : List Count) (one : Count) → sum_of group (counts ++ one ∷ []) ≡ sum_of group counts + cond (one.group == group) one.count 0
sum_pushed group counts one = sum_by_push (λ (x : Count). cond (is_of group x) x.count 0) counts one

-- one line more was told, by what is left to be shown of what came and waits
pub told_line : (came came_then told : List Count) (limits next : NoteLimits) (one : Count) → IsAccount came told limits → has_room limits.recent.items one.group ≡ true → one.time ≡ limits.clock
    → next.clock ≡ limits.clock → next.recent.items ≡ limits.recent.items ++ one ∷ [] → ((group : ℕ) → sum_of group (told ++ one ∷ []) + waiting_at next group ≤ sum_of group came_then)
    → ((group : ℕ) → sum_of group came_then < 2 ^ 64 → sum_of group (told ++ one ∷ []) + waiting_at next group ≡ sum_of group came_then) → IsAccount came_then (told ++ one ∷ []) next
told_line came came_then told limits next one account room time same more least exact =
    let rooms = and_parts (nat_lt (length limits.recent.items) (room_of one.group)) (nat_lt (count_by (is_of one.group) limits.recent.items) (most_of one.group)) room in
    let in_all = ltb-true (length limits.recent.items) (room_of one.group) rooms.0 in
    let of_group = ltb-true (count_by (is_of one.group) limits.recent.items) (most_of one.group) rooms.1 in
    let kept : filter (is_recent limits.clock) (one ∷ []) ≡ one ∷ [] = cond-true (is_recent limits.clock one) (one ∷ []) [] (lt-ltb (limits.clock - one.time) second (omega arith)) in
    record {
      recent = more ∙ (ap (λ (l : List Count). l ++ one ∷ []) account.recent ∙ (ap (λ (l : List Count). filter (is_recent limits.clock) told ++ l) (sym kept)
          ∙ (sym (filter-append (is_recent limits.clock) told (one ∷ [])) ∙ ap (λ (n : ℕ). filter (is_recent n) (told ++ one ∷ [])) (sym same))));
      all = at_most_more 50 (λ _. true) limits.clock limits.recent.items told one account.recent time account.all (λ is.
          let short = count_by-le-length (λ (x : Count). true) limits.recent.items in
          let most = room_at_most one.group in
          omega (arith, short, most, in_all));
      low = at_most_more 40 is_low limits.clock limits.recent.items told one account.recent time account.low (λ is.
          let short = count_by-le-length is_low limits.recent.items in
          let most : room_of one.group ≡ 40 = cond-true (is_outside one.group) 40 50 is in
          omega (arith, short, most, in_all));
      each = λ group. at_most_more (most_of group) (is_of group) limits.clock limits.recent.items told one account.recent time (account.each group) (λ is.
          subst (λ (g : ℕ). count_by (is_of g) limits.recent.items < most_of g) (eqb-true one.group group is) of_group);
      least = least;
      exact = exact;
    }

-- a note came and was told at once
pub told_whole : (came told : List Count) (limits next : NoteLimits) (one : Count) → IsAccount came told limits → has_room limits.recent.items one.group ≡ true → one.time ≡ limits.clock
    → next.clock ≡ limits.clock → next.recent.items ≡ limits.recent.items ++ one ∷ [] → next.waiting ≡ limits.waiting → IsAccount (came ++ one ∷ []) (told ++ one ∷ []) next
told_whole came told limits next one account room time same more waits =
    told_line came (came ++ one ∷ []) told limits next one account room time same more
    (λ group. let t = sum_pushed group told one in let c = sum_pushed group came one in let l = account.least group in rw waits (omega (arith, t, c, l)))
    (λ group few. let t = sum_pushed group told one in let c = sum_pushed group came one in
    let less : sum_of group came < 2 ^ 64 = omega (arith, c, few) in let l = account.exact group less in rw waits (omega (arith, t, c, l)))

-- a note came, and waits
pub counted : (came told : List Count) (limits next : NoteLimits) (one : Count) → IsAccount came told limits → next.clock ≡ limits.clock → next.recent.items ≡ limits.recent.items
    → Waits one.group (min 18446744073709551615 (waiting_at limits one.group + one.count)) limits next → IsAccount (came ++ one ∷ []) told next
counted came told limits next one account same kept waits = record {
  recent = kept ∙ (account.recent ∙ ap (λ (n : ℕ). filter (is_recent n) told) (sym same));
  all = account.all;
  low = account.low;
  each = account.each;
  least = λ group. elim (cases_eq one.group group) [
    | inl is ↦
        let c : sum_of group (came ++ one ∷ []) ≡ sum_of group came + one.count = sum_pushed group came one ∙ ap (λ (n : ℕ). sum_of group came + n) (cond-true (one.group == group) one.count 0 (eq-eqb one.group group is)) in
        let w : waiting_at next group ≡ min 18446744073709551615 (waiting_at limits group + one.count) =
        subst (λ (g : ℕ). waiting_at next g ≡ min 18446744073709551615 (waiting_at limits g + one.count)) is waits.here in
        let l = account.least group in
        omega (arith, c, w, l)
    | inr not ↦
        let c : sum_of group (came ++ one ∷ []) ≡ sum_of group came + 0 = sum_pushed group came one ∙ ap (λ (n : ℕ). sum_of group came + n) (cond-false (one.group == group) one.count 0 (ne_eqb one.group group not)) in
        let w = waits.others group not in
        let l = account.least group in
        omega (arith, c, w, l)
  ];
  exact = λ group few. elim (cases_eq one.group group) [
    | inl is ↦
        let c : sum_of group (came ++ one ∷ []) ≡ sum_of group came + one.count = sum_pushed group came one ∙ ap (λ (n : ℕ). sum_of group came + n) (cond-true (one.group == group) one.count 0 (eq-eqb one.group group is)) in
        let w : waiting_at next group ≡ min 18446744073709551615 (waiting_at limits group + one.count) =
        subst (λ (g : ℕ). waiting_at next g ≡ min 18446744073709551615 (waiting_at limits g + one.count)) is waits.here in
        let less : sum_of group came < 2 ^ 64 = omega (arith, c, few) in
        let l = account.exact group less in
        omega (arith, c, w, l, few)
    | inr not ↦
        let c : sum_of group (came ++ one ∷ []) ≡ sum_of group came + 0 = sum_pushed group came one ∙ ap (λ (n : ℕ). sum_of group came + n) (cond-false (one.group == group) one.count 0 (ne_eqb one.group group not)) in
        let w = waits.others group not in
        let less : sum_of group came < 2 ^ 64 = omega (arith, c, few) in
        let l = account.exact group less in
        omega (arith, c, w, l)
  ];
}

due_sum : (group : ℕ) (told : List Count) (limits next : NoteLimits) (one : Count) → one.count ≡ waiting_at limits one.group → Waits one.group 0 limits next
    → sum_of group (told ++ one ∷ []) + waiting_at next group ≡ sum_of group told + waiting_at limits group
due_sum group told limits next one whole waits = elim (cases_eq one.group group) [
  | inl is ↦
      let t : sum_of group (told ++ one ∷ []) ≡ sum_of group told + one.count = sum_pushed group told one ∙ ap (λ (n : ℕ). sum_of group told + n) (cond-true (one.group == group) one.count 0 (eq-eqb one.group group is)) in
      let w : waiting_at next group ≡ 0 = subst (λ (g : ℕ). waiting_at next g ≡ 0) is waits.here in
      let all : one.count ≡ waiting_at limits group = whole ∙ ap (λ (g : ℕ). waiting_at limits g) is in
      omega (arith, t, w, all)
  | inr not ↦
      let t : sum_of group (told ++ one ∷ []) ≡ sum_of group told + 0 = sum_pushed group told one ∙ ap (λ (n : ℕ). sum_of group told + n) (cond-false (one.group == group) one.count 0 (ne_eqb one.group group not)) in
      let w = waits.others group not in
      omega (arith, t, w)
]

-- what waited of a group is told
pub told_due : (came told : List Count) (limits next : NoteLimits) (one : Count) → IsAccount came told limits → has_room limits.recent.items one.group ≡ true → one.time ≡ limits.clock
    → one.count ≡ waiting_at limits one.group → next.clock ≡ limits.clock → next.recent.items ≡ limits.recent.items ++ one ∷ [] → Waits one.group 0 limits next → IsAccount came (told ++ one ∷ []) next
told_due came told limits next one account room time whole same more waits =
    told_line came came told limits next one account room time same more
    (λ group. let s = due_sum group told limits next one whole waits in let l = account.least group in omega (arith, s, l))
    (λ group few. due_sum group told limits next one whole waits ∙ account.exact group few)

-- whether a note is told at once, by what was known when it came
pub once : (came told : List Count) (limits mid : NoteLimits) (group clock : ℕ) (is_told : Bool) → IsAccount came told mid → mid.waiting ≡ limits.waiting → clock ≡ mid.clock
    → is_told ≡ (waiting_at mid group == 0 && has_room mid.recent.items group) → is_told ≡ (waiting_at limits group == 0 && has_room (filter (is_recent clock) told) group)
once came told limits mid group clock is_told account waits same is =
    is ∙ (ap (λ (w : List ℕ). get_or w group 0 == 0 && has_room mid.recent.items group) waits
    ∙ (ap (λ (l : List Count). waiting_at limits group == 0 && has_room l group) account.recent
    ∙ ap (λ (n : ℕ). waiting_at limits group == 0 && has_room (filter (is_recent n) told) group) (sym same)))

-- what waited of a group that was due is told, step by step
pub told_next : (came told : List Count) (mid put last : NoteLimits) (group count : ℕ) → IsAccount came told mid → has_due mid group ≡ true → count ≡ waiting_at mid group → put.clock ≡ mid.clock
    → put.recent.items ≡ mid.recent.items ++ counted_at mid.clock group count ∷ [] → put.waiting ≡ mid.waiting → Waits group 0 put last → last.clock ≡ put.clock → last.recent.items ≡ put.recent.items
    → IsAccount came (told ++ counted_at last.clock group count ∷ []) last
told_next came told mid put last group count account due whole at more kept waits same stays =
    let parts = and_parts (nat_lt 0 (waiting_at mid group)) (has_room mid.recent.items group) due in
    let from_mid : Waits group 0 mid last = record { here = waits.here; others = λ other not. waits.others other not ∙ ap (λ (w : List ℕ). get_or w other 0) kept } in
    subst (λ (t : ℕ). IsAccount came (told ++ counted_at t group count ∷ []) last) (sym (same ∙ at))
    (told_due came told mid last (counted_at mid.clock group count) account parts.1 refl whole (same ∙ at) (stays ∙ more) from_mid)

-- which group is looked at first changes nothing
pub with_next : (came told : List Count) (limits : NoteLimits) (next : ℕ) → IsAccount came told limits → IsAccount came told (record { clock = limits.clock; recent = limits.recent; waiting = limits.waiting; next = next })
with_next came told limits next account = record {
  recent = account.recent;
  all = account.all;
  low = account.low;
  each = account.each;
  least = account.least;
  exact = account.exact;
}
