-- How a log goes on.
use borrow.Author.Tests.{ltb-true}
use Rattle.std.proofs.Common.{◌≡◌, ℕ, suc, ◌+◌, ◌<◌, ◌≤◌, Bool, true, false, true≢false, List, [], ◌∷◌, ◌++◌, refl, ap, sym, ◌∙◌, subst, arith, length, length-append, append_assoc}
use Rattle.std.specs.Prelude.{not, nat_lt, ◌==◌, if◌then◌else◌, Some, None, is_none}
use Rattle.slot_log.specs.declared.limits.TheConstants.{SLOTS}
use Rattle.slot_log.specs.declared.command.Command.{Command}
use Rattle.slot_log.specs.declared.known.Known.{Known}
use Rattle.slot_log.specs.Range.{IsInRange}
use Rattle.slot_log.specs.Slots.{Log, IsLog, Rise, front, known_at, with_command}
use Rattle.slot_log.specs.SlotLaws.{OneMoreIsKnown, FrontsGoOn, FrontIsFirstHole, CommandsAreKept}
use Rattle.paxos_wire.specs.declared.ballot.Ballot.{Ballot}
use Rattle.learner.specs.Learning.{Learned, is_open, counting, knowing, hearing, believing}
use Rattle.learner.specs.CommandRuns.{hearing_each, is_refused, hearing_run}
use Rattle.learner.proofs.RunSteps.{is_log_heard}
use Rattle.std.specs.List.{AllByRecursion}
use Rattle.dealer_kind.proofs.Fitting.{none_then}
use Rattle.dealer_node.specs.Running.{AreInRange, GoesOn}

rise_few : (from : ℕ) (known : List Known) → Rise from known → from ≤ SLOTS + 1 → from + length known ≤ SLOTS + 1
rise_few from [] rise most = omega arith
rise_few from (one ∷ others) rise most =
    let rest : (one.slot + 1) + length others ≤ SLOTS + 1 = rise_few (one.slot + 1) others rise.2 (omega (arith, rise.1)) in
    omega (arith, rise.0, rest)

-- beyond the front no more are known than there are slots
pub few_ahead : (log : Log) → IsLog log → length log.beyond ≤ SLOTS
few_ahead log is = let all : (front log + 1) + length log.beyond ≤ SLOTS + 1 = rise_few (front log + 1) log.beyond is.beyond (omega (arith, is.below)) in omega (arith, all)

-- ---- nothing is known, or one command more

pub stays : (log : Log) (commands : ℕ) → GoesOn log log commands
stays log commands = record { later = []; below = refl; fronts = omega arith; count = omega arith }

pub one_more : FrontsGoOn → CommandsAreKept → (log : Log) (slot : ℕ) (command : Command) → GoesOn log (with_command log slot command) 1
one_more goes kept log slot command =
    let on = goes log slot command in
    let new : Log = with_command log slot command in
    let fronts : length new.below ≡ length on.0 + length log.below = ap (λ (l : List Command). length l) on.1 ∙ length-append on.0 log.below in
    let all : length new.below + length new.beyond ≡ length log.below + length log.beyond + 1 = kept log slot command in
    record { later = on.0; below = on.1; fronts = omega (arith, fronts); count = omega (arith, all) }

-- one after another
both_go : (old between new : Log) (a b all : ℕ) → a + b ≡ all → GoesOn old between a → GoesOn between new b → GoesOn old new all
both_go old between new a b all sum one other = record {
  later = other.later ++ one.later;
  below = other.below ∙ (ap (λ (l : List Command). other.later ++ l) one.below ∙ sym (append_assoc other.later one.later old.below));
  fronts = omega (arith, one.fronts, other.fronts);
  count = omega (arith, sum, one.count, other.count);
}

range_by : (log : Log) (command : Command) (other : ℕ) (known : Command) (b : Bool) → IsInRange command → AreInRange log → (if b then Some command else known_at log other) ≡ Some known → IsInRange known
range_by log command other known true within all e = let same : command ≡ known = cc in subst (λ (c : Command). IsInRange c) same within
range_by log command other known false within all e = all other known e

range_more : OneMoreIsKnown → (log : Log) (slot : ℕ) (command : Command) → IsLog log → slot < SLOTS → known_at log slot ≡ None → IsInRange command → AreInRange log
    → AreInRange (with_command log slot command)
range_more law log slot command is here none within all = λ other known found.
    range_by log command other known (other == slot) within all (sym ((law log slot command is here none).1 other) ∙ found)

-- the log of a learner goes on, and its commands stay within their ranges
pub record Goes (old new : Log) (commands : ℕ) : Type 0 where
  pub on : GoesOn old new commands
  pub range : AreInRange new

open_slot : (slot : ℕ) (a b c : Bool) → nat_lt slot SLOTS ≡ c → (if a then false else if b then c else false) ≡ true → slot < SLOTS
open_slot slot true b c is e = absurd (true≢false (sym e))
open_slot slot false false c is e = absurd (true≢false (sym e))
open_slot slot false true true is e = ltb-true slot SLOTS is
open_slot slot false true false is e = absurd (true≢false (sym e))

module _ (goes : FrontsGoOn) (kept : CommandsAreKept) (law : OneMoreIsKnown) where
  known_goes : (log : Log) (slot : ℕ) (command : Command) (b : Bool) → is_none (known_at log slot) ≡ b → IsLog log → slot < SLOTS → IsInRange command → AreInRange log
      → Goes log (if b then with_command log slot command else log) 1
  known_goes log slot command true e is here within all = record {
    on = one_more goes kept log slot command;
    range = range_more law log slot command is here (none_then (known_at log slot) e) within all;
  }
  known_goes log slot command false e is here within all = record { on = stays log 1; range = all }

  heard_by : (l : Learned) (from : ℕ) (b : Ballot) (slot : ℕ) (c : Command) (x y z : Bool) → is_open l.log slot ≡ x → IsLog l.log → IsInRange c → AreInRange l.log
      → Goes l.log (let r : Learned = if not x then l else if not y then counting l from b slot c else if z then l else knowing (counting l from b slot c) slot c in r.log) 1
  heard_by l from b slot c false y z e is within all = record { on = stays l.log 1; range = all }
  heard_by l from b slot c true false z e is within all = record { on = stays l.log 1; range = all }
  heard_by l from b slot c true true true e is within all = record { on = stays l.log 1; range = all }
  heard_by l from b slot c true true false e is within all = known_goes l.log slot c (is_none (known_at l.log slot)) refl is (open_slot slot _ _ _ refl e) within all

  pub heard_goes : (l : Learned) (from : ℕ) (b : Ballot) (slot : ℕ) (c : Command) → IsLog l.log → IsInRange c → AreInRange l.log → Goes l.log (hearing l from b slot c).log 1
  heard_goes l from b slot c is within all = heard_by l from b slot c _ _ _ refl is within all

  -- several of them, one after another
  heard_each_goes : (hole : FrontIsFirstHole) (l : Learned) (from : ℕ) (b : Ballot) (slot : ℕ) (cs : List Command) → IsLog l.log → AllByRecursion IsInRange cs → AreInRange l.log
      → Goes l.log (hearing_each l from b slot cs).log (length cs)
  unfolding hearing_each
  heard_each_goes hole l from b slot [] is within all = record { on = stays l.log 0; range = all }
  heard_each_goes hole l from b slot (c ∷ more) is within all =
      let first = heard_goes l from b slot c is within.0 all in
      let rest = heard_each_goes hole (hearing l from b slot c) from b (slot + 1) more (is_log_heard goes law hole l from b slot c is) within.1 first.range in
      record { on = both_go l.log (hearing l from b slot c).log (hearing_each (hearing l from b slot c) from b (slot + 1) more).log 1 (length more) (suc (length more)) (omega arith) first.on rest.on; range = rest.range }

  heard_run_by : (hole : FrontIsFirstHole) (l : Learned) (from : ℕ) (b : Ballot) (slot : ℕ) (cs : List Command) (refused : Bool) → IsLog l.log → AllByRecursion IsInRange cs → AreInRange l.log
      → Goes l.log (let r : Learned = if refused then l else hearing_each l from b slot cs in r.log) (length cs)
  heard_run_by hole l from b slot cs true is within all = record { on = stays l.log (length cs); range = all }
  heard_run_by hole l from b slot cs false is within all = heard_each_goes hole l from b slot cs is within all

  pub heard_run_goes : (hole : FrontIsFirstHole) (l : Learned) (from : ℕ) (b : Ballot) (slot : ℕ) (cs : List Command) → IsLog l.log → AllByRecursion IsInRange cs → AreInRange l.log
      → Goes l.log (hearing_run l from b slot cs).log (length cs)
  heard_run_goes hole l from b slot cs is within all = heard_run_by hole l from b slot cs (is_refused l from b slot cs) is within all

  believed_by : (l : Learned) (slot : ℕ) (c : Command) (x y : Bool) → is_open l.log slot ≡ x → IsLog l.log → IsInRange c → AreInRange l.log
      → Goes l.log (let r : Learned = if not x then l else if y then l else knowing l slot c in r.log) 1
  believed_by l slot c false y e is within all = record { on = stays l.log 1; range = all }
  believed_by l slot c true true e is within all = record { on = stays l.log 1; range = all }
  believed_by l slot c true false e is within all = known_goes l.log slot c (is_none (known_at l.log slot)) refl is (open_slot slot _ _ _ refl e) within all

  pub believed_goes : (l : Learned) (slot : ℕ) (c : Command) → IsLog l.log → IsInRange c → AreInRange l.log → Goes l.log (believing l slot c).log 1
  believed_goes l slot c is within all = believed_by l slot c _ _ refl is within all
