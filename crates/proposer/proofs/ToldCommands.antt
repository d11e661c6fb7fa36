-- Told commands as a loop finds them, marks as it sets them, and the slots that wait as it counts them.
use Rattle.std.proofs.Common.{◌≡◌, ℕ, zero, suc, ◌+◌, ◌-◌, ◌<◌, ◌≤◌, Bool, true, false, List, [], ◌∷◌, ◌++◌, refl, sym, ap, ◌∙◌, append_assoc, arith, not, if◌then◌else◌, length}
use Rattle.std.specs.Prelude.{Option, Some, None, is_some, slice_set, nat_lt}
use Rattle.std.proofs.lemmas.List.{append-nil}
use Rattle.std.proofs.lemmas.Bool.{le-ltb, ltb-true, ltb-false}
use Rattle.paxos_wire.specs.declared.limits.TheConstants.{WINDOW, SLOTS}
use Rattle.paxos_wire.specs.declared.entry.Entry.{Entry}
use Rattle.slot_log.specs.declared.command.Command.{Command}
use Rattle.protocol_model.specs.Quorums.{count}
use Rattle.proposer.specs.declared.campaign.Campaign.{Campaign}
use Rattle.proposer.specs.Campaigns.{is_covered, greatest_told, is_proposed}
use Rattle.proposer.specs.CommandRuns.{may_follow, in_front, told_commands, commands_of, accept_run_of, marked_places, is_waiting, waiting_by}

-- ---- no command follows at a slot that there isn't

past_by : (covered low marked : Bool) → low ≡ false → (if not covered then false else if not low then false else marked) ≡ false
past_by false low marked e = refl
past_by true true marked e = absurd (let clash : true ≡ false = e in cc)
past_by true false marked e = refl

pub none_past : (campaign : Campaign) (slot : ℕ) → SLOTS ≤ slot → may_follow campaign slot ≡ false
none_past campaign slot past = past_by (is_covered campaign.first slot) (nat_lt slot SLOTS) (not (is_proposed campaign slot)) (le-ltb slot SLOTS past)

pub none_told_past : (n : ℕ) (campaign : Campaign) (more slot : ℕ) → SLOTS ≤ slot → told_commands n campaign more slot ≡ []
unfolding told_commands
none_told_past n campaign zero slot past = refl
none_told_past n campaign (suc more) slot past =
    ap (λ (b : Bool). if b then in_front (greatest_told campaign slot n) (told_commands n campaign more (slot + 1)) else []) (none_past campaign slot past)

none_waits : (n : ℕ) (campaign : Campaign) (slot : ℕ) → SLOTS ≤ slot → is_waiting n campaign slot ≡ false
none_waits n campaign slot past = ap (λ (b : Bool). if b then is_some (greatest_told campaign slot n) else false) (none_past campaign slot past)

none_counted : (n : ℕ) (campaign : Campaign) (places : ℕ) → SLOTS ≤ campaign.first → count (λ place. is_waiting n campaign (campaign.first + place)) places ≡ 0
none_counted n campaign zero past = refl
none_counted n campaign (suc places) past = rw (none_waits n campaign (campaign.first + places) (omega (arith, past))) (none_counted n campaign places past)

pub none_waiting : (n : ℕ) (campaign : Campaign) → SLOTS ≤ campaign.first → waiting_by n campaign ≡ 0
unfolding waiting_by
none_waiting n campaign past = none_counted n campaign WINDOW past

-- ---- no command waits where none is told

nowhere_by : (follows : Bool) (told : Option Entry) → told ≡ None → (if follows then is_some told else false) ≡ false
nowhere_by follows (Some entry) e = absurd (cc)
nowhere_by true None e = refl
nowhere_by false None e = refl

nowhere_counted : (n : ℕ) (campaign : Campaign) (places : ℕ) → ((slot : ℕ) → greatest_told campaign slot n ≡ None)
    → count (λ place. is_waiting n campaign (campaign.first + place)) places ≡ 0
nowhere_counted n campaign zero none = refl
nowhere_counted n campaign (suc places) none =
    rw (nowhere_by (may_follow campaign (campaign.first + places)) _ (none (campaign.first + places))) (nowhere_counted n campaign places none)

pub nowhere_waiting : (n : ℕ) (campaign : Campaign) → ((slot : ℕ) → greatest_told campaign slot n ≡ None) → waiting_by n campaign ≡ 0
unfolding waiting_by
nowhere_waiting n campaign none = nowhere_counted n campaign WINDOW none

pub all_counted : (n : ℕ) (campaign : Campaign) (waiting place : ℕ) → waiting ≡ count (λ p. is_waiting n campaign (campaign.first + p)) place → WINDOW ≤ place → place ≤ WINDOW → waiting ≡ waiting_by n campaign
unfolding waiting_by
all_counted n campaign waiting place counted low high =
    let end : place ≡ WINDOW = omega (arith, low, high) in counted ∙ ap (count (λ p. is_waiting n campaign (campaign.first + p))) end

-- ---- where told commands stand

-- what the test shows of the slot
pub record Follows (campaign : Campaign) (slot : ℕ) : Type 0 where
  pub low : campaign.first ≤ slot
  pub high : slot < campaign.first + WINDOW
  pub is_slot : slot < SLOTS
  pub unmarked : is_proposed campaign slot ≡ false

follows_by : (campaign : Campaign) (slot : ℕ) (below within low marked : Bool) → nat_lt slot campaign.first ≡ below → nat_lt slot (campaign.first + WINDOW) ≡ within
    → nat_lt slot SLOTS ≡ low → is_proposed campaign slot ≡ marked
    → (if not (if below then false else within) then false else if not low then false else not marked) ≡ true → Follows campaign slot
follows_by campaign slot true within low marked a b d e h = absurd (let clash : false ≡ true = h in cc)
follows_by campaign slot false false low marked a b d e h = absurd (let clash : false ≡ true = h in cc)
follows_by campaign slot false true false marked a b d e h = absurd (let clash : false ≡ true = h in cc)
follows_by campaign slot false true true true a b d e h = absurd (let clash : false ≡ true = h in cc)
follows_by campaign slot false true true false a b d e h =
    record { low = ltb-false slot campaign.first a; high = ltb-true slot (campaign.first + WINDOW) b; is_slot = ltb-true slot SLOTS d; unmarked = e }

pub follows : (campaign : Campaign) (slot : ℕ) → may_follow campaign slot ≡ true → Follows campaign slot
follows campaign slot h = follows_by campaign slot _ _ _ _ refl refl refl refl h

covered_by : (first slot : ℕ) (below within : Bool) → nat_lt slot first ≡ below → nat_lt slot (first + WINDOW) ≡ within → (if below then false else within) ≡ true
    → (first ≤ slot) × (slot < first + WINDOW)
covered_by first slot true within a b h = absurd (let clash : false ≡ true = h in cc)
covered_by first slot false false a b h = absurd (let clash : false ≡ true = h in cc)
covered_by first slot false true a b h = (ltb-false slot first a, ltb-true slot (first + WINDOW) b)

pub covered_means : (first slot : ℕ) → is_covered first slot ≡ true → (first ≤ slot) × (slot < first + WINDOW)
covered_means first slot h = covered_by first slot _ _ refl refl h

-- they stay among the slots that are covered
stays_by : (campaign : Campaign) (slot : ℕ) (b : Bool) (told : Option Entry) (behind : List Command) → may_follow campaign slot ≡ b → slot ≤ campaign.first + WINDOW
    → (slot + 1 ≤ campaign.first + WINDOW → slot + 1 + length behind ≤ campaign.first + WINDOW)
    → slot + length (if b then in_front told behind else []) ≤ campaign.first + WINDOW
stays_by campaign slot false told behind e most rest = omega (arith, most)
stays_by campaign slot true None behind e most rest = omega (arith, most)
stays_by campaign slot true (Some entry) behind e most rest =
    let one = follows campaign slot e in
    let high = one.high in
    let all = rest (omega (arith, high)) in omega (arith, all)

pub stays_covered : (n : ℕ) (campaign : Campaign) (more slot : ℕ) → slot ≤ campaign.first + WINDOW → slot + length (told_commands n campaign more slot) ≤ campaign.first + WINDOW
unfolding told_commands
stays_covered n campaign zero slot most = omega (arith, most)
stays_covered n campaign (suc more) slot most =
    stays_by campaign slot (may_follow campaign slot) (greatest_told campaign slot n) (told_commands n campaign more (slot + 1)) refl most (λ behind. stays_covered n campaign more (slot + 1) behind)

-- what is proposed stays among them
pub all_covered : (n : ℕ) (campaign : Campaign) (slot : ℕ) (own : Option Command) (told : Option Entry) → slot < campaign.first + WINDOW
    → slot + length (commands_of told (told_commands n campaign (WINDOW - 1) (slot + 1)) own) ≤ campaign.first + WINDOW
all_covered n campaign slot own (Some entry) low = let behind = stays_covered n campaign (WINDOW - 1) (slot + 1) (omega (arith, low)) in omega (arith, behind)
all_covered n campaign slot (Some command) None low = omega (arith, low)
all_covered n campaign slot None None low = omega (arith, low)

-- where there are commands, they are proposed
pub some_made : (campaign : Campaign) (slot : ℕ) (commands : List Command) → 0 < length commands
    → accept_run_of campaign slot commands ≡ Some (record { ballot = campaign.ballot; slot = slot; commands = commands })
some_made campaign slot [] some = absurd (omega (arith, some))
some_made campaign slot (command ∷ more) some = refl

pub none_made : (campaign : Campaign) (slot : ℕ) (commands : List Command) → length commands ≡ 0 → accept_run_of campaign slot commands ≡ None
none_made campaign slot [] none = refl
none_made campaign slot (command ∷ more) none = absurd (omega (arith, none))

-- ---- told commands, one after another

module _ (n : ℕ) (campaign : Campaign) (front : List Command) (step slot : ℕ) (total : List Command) where
  pub goes_on : (entry : Entry) → step < WINDOW → may_follow campaign (slot + step) ≡ true → greatest_told campaign (slot + step) n ≡ Some entry
      → front ++ told_commands n campaign (WINDOW - step) (slot + step) ≡ total
      → (front ++ entry.command ∷ []) ++ told_commands n campaign (WINDOW - (step + 1)) (slot + (step + 1)) ≡ total
  unfolding told_commands
  goes_on entry lt follows told so_far =
      let k : WINDOW - step ≡ suc (WINDOW - (step + 1)) = omega (arith, lt) in
      let next : slot + step + 1 ≡ slot + (step + 1) = omega arith in
      let one : told_commands n campaign (WINDOW - step) (slot + step) ≡ entry.command ∷ told_commands n campaign (WINDOW - (step + 1)) (slot + (step + 1)) =
      rw (k, follows, told) (ap (λ (s : ℕ). entry.command ∷ told_commands n campaign (WINDOW - (step + 1)) s) next) in
      append_assoc front (entry.command ∷ []) (told_commands n campaign (WINDOW - (step + 1)) (slot + (step + 1))) ∙ ap (λ (l : List Command). front ++ l) (sym one) ∙ so_far

  pub none_follows : step < WINDOW → may_follow campaign (slot + step) ≡ false → front ++ told_commands n campaign (WINDOW - step) (slot + step) ≡ total → front ≡ total
  unfolding told_commands
  none_follows lt follows so_far =
      let k : WINDOW - step ≡ suc (WINDOW - (step + 1)) = omega (arith, lt) in
      let one : told_commands n campaign (WINDOW - step) (slot + step) ≡ [] = rw (k, follows) refl in
      sym (append-nil front) ∙ ap (λ (l : List Command). front ++ l) (sym one) ∙ so_far

  pub none_told : step < WINDOW → may_follow campaign (slot + step) ≡ true → greatest_told campaign (slot + step) n ≡ None
      → front ++ told_commands n campaign (WINDOW - step) (slot + step) ≡ total → front ≡ total
  unfolding told_commands
  none_told lt follows told so_far =
      let k : WINDOW - step ≡ suc (WINDOW - (step + 1)) = omega (arith, lt) in
      let one : told_commands n campaign (WINDOW - step) (slot + step) ≡ [] = rw (k, follows, told) refl in
      sym (append-nil front) ∙ ap (λ (l : List Command). front ++ l) (sym one) ∙ so_far

  pub is_done : WINDOW ≤ step → front ++ told_commands n campaign (WINDOW - step) (slot + step) ≡ total → front ≡ total
  unfolding told_commands
  is_done le so_far =
      let k : WINDOW - step ≡ 0 = omega (arith, le) in
      let one : told_commands n campaign (WINDOW - step) (slot + step) ≡ [] = rw k refl in
      sym (append-nil front) ∙ ap (λ (l : List Command). front ++ l) (sym one) ∙ so_far

-- ---- marks, one after another

pub marks_go_on : (marks : List Bool) (first step places : ℕ) (total : List Bool) → step < places → marked_places marks (first + step) (places - step) ≡ total
    → marked_places (slice_set marks (first + step) true) (first + (step + 1)) (places - (step + 1)) ≡ total
marks_go_on marks first step places total lt so_far =
    let k : places - step ≡ suc (places - (step + 1)) = omega (arith, lt) in
    let next : first + step + 1 ≡ first + (step + 1) = omega arith in
    let one : marked_places marks (first + step) (places - step) ≡ marked_places (slice_set marks (first + step) true) (first + (step + 1)) (places - (step + 1)) =
    rw k (ap (λ (p : ℕ). marked_places (slice_set marks (first + step) true) p (places - (step + 1))) next) in
    sym one ∙ so_far
