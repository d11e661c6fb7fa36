-- What is known of a log of slots, and what a further command changes.
use Rattle.std.proofs.Common.{◌≡◌, ℕ, zero, suc, ◌+◌, ◌<◌, ◌≤◌, ◌==◌, inl, inr, true, false, if◌then◌else◌, List, [], ◌∷◌, ◌++◌, length, reverse, Option, Some, None, refl, sym, ap, ◌∙◌, subst, arith, append_assoc}
use Rattle.std.specs.Prelude.{IsSome, IsSomeAnd}
use Rattle.std.specs.List.{slice_get}
use Rattle.std.proofs.lemmas.Bool.{cases_lt, cases_eq, eq-eqb, ne_eqb, lt-ltb, le-ltb}
use Rattle.std.proofs.lemmas.List.{length-reverse}
use Rattle.slot_log.specs.declared.command.Command.{Command}
use Rattle.slot_log.specs.declared.known.Known.{Known}
use Rattle.slot_log.specs.declared.limits.TheConstants.{SLOTS}
use Rattle.slot_log.specs.Slots.{Log, IsLog, Rise, front, known_by, find, known_at, with_known, settled, with_command}
use Rattle.slot_log.specs.SlotsInside.{run_of}
use Rattle.slot_log.specs.SlotLaws.{FrontIsFirstHole, SlotsEnd, OneMoreIsKnown, FrontsGoOn, CommandsAreKept, known_count}
use Rattle.slot_log.proofs.Hands.{reverse-cons, at_end, in_front}

-- ---- places in a list

got : {X : Type 0} (xs : List X) (i : ℕ) → i < length xs → IsSome (slice_get xs i)
got [] i below = absurd (omega (arith, below))
got (x ∷ xs) zero below = refl
got (x ∷ xs) (suc i) below = got xs i (omega (arith, below))

-- ---- what stands beyond

find_at : (known : Known) (others : List Known) (slot : ℕ) → known.slot ≡ slot → find (known ∷ others) slot ≡ Some known.command
find_at known others slot same = rw (eq-eqb known.slot slot same) refl

find_past : (known : Known) (others : List Known) (slot : ℕ) → (known.slot ≡ slot → ⊥) → find (known ∷ others) slot ≡ find others slot
find_past known others slot other = rw (ne_eqb known.slot slot other) refl

find_before : (from : ℕ) (known : List Known) (slot : ℕ) → Rise from known → slot < from → find known slot ≡ None
find_before from [] slot rise before = refl
find_before from (known ∷ others) slot rise before =
    let first : from ≤ known.slot = rise.0 in
    find_past known others slot (λ same. omega (arith, same, first, before))
    ∙ find_before (known.slot + 1) others slot rise.2 (omega (arith, first, before))

find_within : (from : ℕ) (known : List Known) (slot : ℕ) (command : Command) → Rise from known → find known slot ≡ Some command → slot < SLOTS
find_within from [] slot command rise e = absurd (let wrong : ◌≡◌ {A = Option Command} None (Some command) = e in cc)
find_within from (known ∷ others) slot command rise e =
    elim (cases_eq known.slot slot) [
      | inl same ↦ let here : known.slot < SLOTS = rise.1 in omega (arith, same, here)
      | inr other ↦ find_within (known.slot + 1) others slot command rise.2 (sym (find_past known others slot other) ∙ e)
    ]

rise_from : (from other : ℕ) (known : List Known) → other ≤ from → Rise from known → Rise other known
rise_from from other [] less rise = tt
rise_from from other (known ∷ others) less rise = let first : from ≤ known.slot = rise.0 in (omega (arith, less, first), rise.1, rise.2)

-- ---- one more beyond

not_here : (known : Known) (others : List Known) (slot : ℕ) → find (known ∷ others) slot ≡ None → known.slot ≡ slot → ⊥
not_here known others slot none same = let wrong : Some known.command ≡ None = sym (find_at known others slot same) ∙ none in cc

module _ (slot : ℕ) (command : Command) where
  at_slot : (known : List Known) (other : ℕ) → find (known_by slot command ∷ known) other ≡ (if other == slot then Some command else find known other)
  at_slot known other =
      elim (cases_eq other slot) [
        | inl same ↦ find_at (known_by slot command) known other (sym same) ∙ sym (rw (eq-eqb other slot same) refl)
        | inr differs ↦ find_past (known_by slot command) known other (λ same. differs (sym same)) ∙ sym (rw (ne_eqb other slot differs) refl)
      ]

  find_with : (known : List Known) (other : ℕ) → find known slot ≡ None → find (with_known (known_by slot command) known) other ≡ (if other == slot then Some command else find known other)
  find_with [] other none = at_slot [] other
  find_with (known ∷ others) other none =
      elim (cases_lt slot known.slot) [
        | inl before ↦
            let put : with_known (known_by slot command) (known ∷ others) ≡ known_by slot command ∷ known ∷ others = rw (lt-ltb slot known.slot before) refl in
            ap (λ ks. find ks other) put ∙ at_slot (known ∷ others) other
        | inr behind ↦
            let put : with_known (known_by slot command) (known ∷ others) ≡ known ∷ with_known (known_by slot command) others = rw (le-ltb slot known.slot behind) refl in
            let differs = not_here known others slot none in
            let rest : find others slot ≡ None = sym (find_past known others slot differs) ∙ none in
            elim (cases_eq known.slot other) [
              | inl same ↦
                  let not_slot : other ≡ slot → ⊥ = λ e. differs (same ∙ e) in
                  ap (λ ks. find ks other) put ∙ find_at known (with_known (known_by slot command) others) other same
                  ∙ sym (find_at known others other same) ∙ sym (rw (ne_eqb other slot not_slot) refl)
              | inr past ↦
                  ap (λ ks. find ks other) put ∙ find_past known (with_known (known_by slot command) others) other past
                  ∙ find_with others other rest
                  ∙ ap (λ (o : Option Command). if other == slot then Some command else o) (sym (find_past known others other past))
            ]
      ]

  rise_with : (from : ℕ) (known : List Known) → from ≤ slot → slot < SLOTS → find known slot ≡ None → Rise from known → Rise from (with_known (known_by slot command) known)
  rise_with from [] first within none rise = (first, within, tt)
  rise_with from (known ∷ others) first within none rise =
      elim (cases_lt slot known.slot) [
        | inl before ↦ rw (lt-ltb slot known.slot before) (first, within, (omega (arith, before), rise.1, rise.2))
        | inr behind ↦
            let differs = not_here known others slot none in
            let after : known.slot + 1 ≤ slot = omega (arith, behind, differs) in
            rw (le-ltb slot known.slot behind)
            (rise.0, rise.1, rise_with (known.slot + 1) others after within (sym (find_past known others slot differs) ∙ none) rise.2)
      ]

-- ---- the front goes on

abbrev pub log_by : List Command → List Known → Log
log_by below beyond = record { below = below; beyond = beyond }

below_at : (below : List Command) (beyond : List Known) (slot : ℕ) → slot < length below → known_at (log_by below beyond) slot ≡ slice_get (reverse below) slot
below_at below beyond slot within = rw (lt-ltb slot (length below) within) refl

beyond_at : (below : List Command) (beyond : List Known) (slot : ℕ) → length below ≤ slot → known_at (log_by below beyond) slot ≡ find beyond slot
beyond_at below beyond slot past = rw (le-ltb slot (length below) past) refl

-- the front passes one command
passed : (below : List Command) (known : Known) (others : List Known) (slot : ℕ) → known.slot ≡ length below
    → known_at (log_by (known.command ∷ below) others) slot ≡ known_at (log_by below (known ∷ others)) slot
passed below known others slot same =
    elim (cases_lt slot (length below)) [
      | inl within ↦
          below_at (known.command ∷ below) others slot (omega (arith, within))
          ∙ ap (λ hs. slice_get hs slot) (reverse-cons known.command below)
          ∙ in_front (reverse below) (known.command ∷ []) slot (omega (arith, length-reverse below, within))
          ∙ sym (below_at below (known ∷ others) slot within)
      | inr past ↦
          elim (cases_eq slot (length below)) [
            | inl here ↦
                below_at (known.command ∷ below) others slot (omega (arith, here))
                ∙ ap (λ hs. slice_get hs slot) (reverse-cons known.command below)
                ∙ ap (λ i. slice_get (reverse below ++ known.command ∷ []) i) (here ∙ sym (length-reverse below))
                ∙ at_end (reverse below) known.command
                ∙ sym (find_at known others slot (same ∙ sym here))
                ∙ sym (beyond_at below (known ∷ others) slot past)
            | inr later ↦
                beyond_at (known.command ∷ below) others slot (omega (arith, past, later))
                ∙ sym (find_past known others slot (λ e. later (sym e ∙ same)))
                ∙ sym (beyond_at below (known ∷ others) slot past)
          ]
    ]

settled_on : (below : List Command) (known : Known) (others : List Known) → known.slot ≡ length below → settled below (known ∷ others) ≡ settled (known.command ∷ below) others
settled_on below known others same = rw (eq-eqb known.slot (length below) same) refl

settled_here : (below : List Command) (known : Known) (others : List Known) → (known.slot ≡ length below → ⊥) → settled below (known ∷ others) ≡ log_by below (known ∷ others)
settled_here below known others differs = rw (ne_eqb known.slot (length below) differs) refl

settled_log : (below : List Command) (beyond : List Known) → length below ≤ SLOTS → Rise (length below) beyond → IsLog (settled below beyond)
settled_log below [] within rise = record { below = within; beyond = tt }
settled_log below (known ∷ others) within rise =
    elim (cases_eq known.slot (length below)) [
      | inl same ↦
          let last : known.slot < SLOTS = rise.1 in
          rw (settled_on below known others same)
          (settled_log (known.command ∷ below) others (omega (arith, same, last)) (rise_from (known.slot + 1) (suc (length below)) others (omega (arith, same)) rise.2))
      | inr differs ↦
          let first : length below ≤ known.slot = rise.0 in
          rw (settled_here below known others differs)
          (record { below = within; beyond = (omega (arith, first, differs), rise.1, rise.2) })
    ]

settled_known : (below : List Command) (beyond : List Known) (slot : ℕ) → known_at (settled below beyond) slot ≡ known_at (log_by below beyond) slot
settled_known below [] slot = refl
settled_known below (known ∷ others) slot =
    elim (cases_eq known.slot (length below)) [
      | inl same ↦ ap (λ (l : Log). known_at l slot) (settled_on below known others same) ∙ settled_known (known.command ∷ below) others slot ∙ passed below known others slot same
      | inr differs ↦ ap (λ (l : Log). known_at l slot) (settled_here below known others differs)
    ]

settled_below : (below : List Command) (beyond : List Known) → (later : List Command) × ((settled below beyond).below ≡ later ++ below)
settled_below below [] = ([], refl)
settled_below below (known ∷ others) =
    elim (cases_eq known.slot (length below)) [
      | inl same ↦
          let rest = settled_below (known.command ∷ below) others in (
            rest.0 ++ known.command ∷ [],
            ap (λ (l : Log). l.below) (settled_on below known others same) ∙ rest.1 ∙ sym (append_assoc rest.0 (known.command ∷ []) below),
          )
      | inr differs ↦ ([], ap (λ (l : Log). l.below) (settled_here below known others differs))
    ]

settled_front : (below : List Command) (beyond : List Known) → front (settled below beyond) ≡ length below + run_of (length below) beyond
settled_front below [] = omega arith
settled_front below (known ∷ others) =
    elim (cases_eq known.slot (length below)) [
      | inl same ↦
          let rest : front (settled (known.command ∷ below) others) ≡ suc (length below) + run_of (suc (length below)) others = settled_front (known.command ∷ below) others in
          let on : front (settled below (known ∷ others)) ≡ front (settled (known.command ∷ below) others) = ap front (settled_on below known others same) in
          let next : run_of (suc (length below)) others ≡ run_of (length below + 1) others = ap (λ n. run_of n others) (omega arith) in
          let run : run_of (length below) (known ∷ others) ≡ 1 + run_of (length below + 1) others = rw (eq-eqb known.slot (length below) same) refl in
          omega (arith, rest, on, next, run)
      | inr differs ↦
          let here : front (settled below (known ∷ others)) ≡ length below = ap front (settled_here below known others differs) in
          let run : run_of (length below) (known ∷ others) ≡ 0 = rw (ne_eqb known.slot (length below) differs) refl in
          omega (arith, here, run)
    ]

-- ---- the laws

pub front_is_first_hole : FrontIsFirstHole
front_is_first_hole log is = (
  λ slot within. rw (below_at log.below log.beyond slot within) (got (reverse log.below) slot (omega (arith, length-reverse log.below, within))),
  beyond_at log.below log.beyond (front log) (omega arith) ∙ find_before (front log + 1) log.beyond (front log) is.beyond (omega arith),
)

pub slots_end : SlotsEnd
slots_end log slot command is e =
    elim (cases_lt slot (front log)) [
      | inl within ↦ let most : front log ≤ SLOTS = is.below in omega (arith, within, most)
      | inr past ↦ find_within (front log + 1) log.beyond slot command is.beyond (sym (beyond_at log.below log.beyond slot past) ∙ e)
    ]

-- where nothing is known at a slot, it isn't below the front
past_front : (log : Log) (slot : ℕ) → known_at log slot ≡ None → front log ≤ slot
past_front log slot none =
    elim (cases_lt slot (front log)) [
      | inl within ↦
          let there : IsSome (slice_get (reverse log.below) slot) = got (reverse log.below) slot (omega (arith, length-reverse log.below, within)) in
          let wrong : false ≡ true = subst (λ (o : Option Command). IsSome o) (sym (below_at log.below log.beyond slot within) ∙ none) there in
          absurd (cc)
      | inr past ↦ past
    ]

pub one_more_is_known : OneMoreIsKnown
one_more_is_known log slot command is within none =
    let past : front log ≤ slot = past_front log slot none in
    let free : find log.beyond slot ≡ None = sym (beyond_at log.below log.beyond slot past) ∙ none in
    let beyond : List Known = with_known (known_by slot command) log.beyond in
    let rise : Rise (front log) beyond = rise_with slot command (front log) log.beyond past within free (rise_from (front log + 1) (front log) log.beyond (omega arith) is.beyond) in (
      settled_log log.below beyond is.below rise,
      λ other. settled_known log.below beyond other ∙ elim (cases_lt other (front log)) [
        | inl before ↦
            let differs : other ≡ slot → ⊥ = λ same. omega (arith, same, past, before) in
            below_at log.below beyond other before ∙ sym (below_at log.below log.beyond other before) ∙ sym (rw (ne_eqb other slot differs) refl)
        | inr behind ↦
            beyond_at log.below beyond other behind ∙ find_with slot command log.beyond other free
            ∙ ap (λ (o : Option Command). if other == slot then Some command else o) (sym (beyond_at log.below log.beyond other behind))
      ],
    )

pub fronts_go_on : FrontsGoOn
fronts_go_on log slot command = settled_below log.below (with_known (known_by slot command) log.beyond)

-- ---- how many commands are known

one_more : (new : Known) (known : List Known) → length (with_known new known) ≡ length known + 1
one_more new [] = refl
one_more new (known ∷ others) =
    elim (cases_lt new.slot known.slot) [
      | inl before ↦ rw (lt-ltb new.slot known.slot before) omega arith
      | inr behind ↦ rw (le-ltb new.slot known.slot behind) omega (arith, one_more new others)
    ]

none_lost : (below : List Command) (beyond : List Known) → known_count (settled below beyond) ≡ length below + length beyond
none_lost below [] = refl
none_lost below (known ∷ others) =
    elim (cases_eq known.slot (length below)) [
      | inl same ↦ rw (eq-eqb known.slot (length below) same) omega (arith, none_lost (known.command ∷ below) others)
      | inr other ↦ rw (ne_eqb known.slot (length below) other) refl
    ]

pub commands_are_kept : CommandsAreKept
commands_are_kept log slot command =
    omega (arith, none_lost log.below (with_known (known_by slot command) log.beyond), one_more (known_by slot command) log.beyond)

-- ---- by how much the front goes on

pub run_at_front : (log : Log) (command : Command) → IsLog log → 1 + run_of (front log + 1) log.beyond + front log ≡ front (with_command log (front log) command)
run_at_front log command is =
    let new : Known = known_by (front log) command in
    let first : (beyond : List Known) → Rise (front log + 1) beyond → with_known new beyond ≡ new ∷ beyond = first_of new in
    let put : with_known new log.beyond ≡ new ∷ log.beyond = first log.beyond is.beyond in
    let ran : front (settled log.below (new ∷ log.beyond)) ≡ front log + run_of (front log) (new ∷ log.beyond) = settled_front log.below (new ∷ log.beyond) in
    let run : run_of (front log) (new ∷ log.beyond) ≡ 1 + run_of (front log + 1) log.beyond = rw (eq-eqb (front log) (front log) refl) refl in
    let all : front (with_command log (front log) command) ≡ front (settled log.below (new ∷ log.beyond)) = ap (λ ks. front (settled log.below ks)) put in
    omega (arith, all, ran, run)
  where
    first_of : (new : Known) (beyond : List Known) → Rise (new.slot + 1) beyond → with_known new beyond ≡ new ∷ beyond
    first_of new [] rise = refl
    first_of new (known ∷ others) rise = let above : new.slot + 1 ≤ known.slot = rise.0 in rw (lt-ltb new.slot known.slot (omega (arith, above))) refl

pub run_elsewhere : (log : Log) (slot : ℕ) (command : Command) → IsLog log → (slot ≡ front log → ⊥) → front log ≡ front (with_command log slot command)
run_elsewhere log slot command is differs =
    let none : run_of (front log) (with_known (known_by slot command) log.beyond) ≡ 0 = stays log.beyond is.beyond in
    let ran : front (with_command log slot command) ≡ front log + run_of (front log) (with_known (known_by slot command) log.beyond) = settled_front log.below (with_known (known_by slot command) log.beyond) in
    omega (arith, none, ran)
  where
    past_all : (known : Known) (others : List Known) → (known.slot ≡ front log → ⊥) → run_of (front log) (known ∷ others) ≡ 0
    past_all known others other = rw (ne_eqb known.slot (front log) other) refl

    stays : (beyond : List Known) → Rise (front log + 1) beyond → run_of (front log) (with_known (known_by slot command) beyond) ≡ 0
    stays [] rise = past_all (known_by slot command) [] differs
    stays (known ∷ others) rise =
        elim (cases_lt slot known.slot) [
          | inl before ↦ rw (lt-ltb slot known.slot before) (past_all (known_by slot command) (known ∷ others) differs)
          | inr behind ↦
              let above : front log + 1 ≤ known.slot = rise.0 in
              rw (le-ltb slot known.slot behind) (past_all known (with_known (known_by slot command) others) (λ same. omega (arith, same, above)))
        ]

-- a slot that there isn't has no command
pub none_spent : (log : Log) (slot : ℕ) (P : Command → Type 0) → IsLog log → SLOTS ≤ slot → IsSomeAnd (known_at log slot) P → ⊥
none_spent log slot P is spent there = by_found (known_at log slot) refl there
  where
    by_found : (o : Option Command) → known_at log slot ≡ o → IsSomeAnd o P → ⊥
    by_found None e there = there
    by_found (Some command) e there = let within : slot < SLOTS = slots_end log slot command is e in omega (arith, spent, within)
