-- What a promise tells fits into a frame.
use Rattle.std.proofs.Common.{ℕ, zero, suc, ◌≡◌, ◌<◌, ◌≤◌, ◌+◌, List, [], ◌∷◌, ◌++◌, Option, Some, None, refl, subst, arith, length, length-append}
use Rattle.std.specs.Prelude.{IfSome}
use Rattle.std.specs.List.{AllByRecursion}
use Rattle.paxos_wire.specs.declared.limits.TheConstants.{WINDOW}
use Rattle.paxos_wire.specs.declared.ballot.Ballot.{Ballot}
use Rattle.paxos_wire.specs.declared.entry.Entry.{Entry}
use Rattle.slot_log.specs.declared.command.Command.{Command}
use Rattle.slot_log.proofs.Inside.{all_joined}
use Rattle.paxos_wire.specs.Fits.{IsInRange, IsEntry, AreEntries, Rise}
use Rattle.protocol_model.specs.Messages.{Vote, entry_of}
use Rattle.protocol_model.specs.Stores.{Store}
use Rattle.protocol_model.specs.Votes.{told_at, told_from, told_by}
use Rattle.acceptor.specs.Answers.{told_pair, command_found}

-- ---- by rising slots

rise_from : (from other limit : ℕ) (es : List Entry) → other ≤ from → Rise from limit es → Rise other limit es
rise_from from other limit [] less rise = tt
rise_from from other limit (e ∷ es) less rise = let first : from ≤ e.slot = rise.0 in (omega arith, rise.1, rise.2)

rise_append : (from mid limit : ℕ) (es ds : List Entry) → from ≤ mid → mid ≤ limit → Rise from mid es → Rise mid limit ds → Rise from limit (es ++ ds)
rise_append from mid limit [] ds low high rise later = rise_from mid from limit ds low later
rise_append from mid limit (e ∷ es) ds low high rise later =
    let first : from ≤ e.slot = rise.0 in
    let last : e.slot < mid = rise.1 in
    (first, omega arith, rise_append (e.slot + 1) mid limit es ds (omega arith) high rise.2 later)

one_rises : (slot : ℕ) (o : Option Vote) → Rise slot (slot + 1) (told_at slot o)
one_rises slot None = tt
one_rises slot (Some vote) = (omega arith, omega arith, tt)

told_rise : (store : Store) (first n : ℕ) → Rise first (first + n) (told_from store first n)
unfolding told_from
told_rise store first zero = tt
told_rise store first (suc n) =
    let next : first + n + 1 ≡ first + suc n = omega arith in
    subst (λ (m : ℕ). Rise first m (told_from store first (suc n))) next
    (rise_append first (first + n) (first + n + 1) (told_from store first n) (told_at (first + n) (store.votes (first + n)))
    (omega arith) (omega arith) (told_rise store first n) (one_rises (first + n) (store.votes (first + n))))

at_most_one : (slot : ℕ) (o : Option Vote) → length (told_at slot o) ≤ 1
at_most_one slot None = omega arith
at_most_one slot (Some vote) = omega arith

told_count : (store : Store) (first n : ℕ) → length (told_from store first n) ≤ n
unfolding told_from
told_count store first zero = omega arith
told_count store first (suc n) =
    let rest = told_count store first n in
    let one = at_most_one (first + n) (store.votes (first + n)) in
    omega (arith, length-append (told_from store first n) (told_at (first + n) (store.votes (first + n))))

module _ (store : Store) (fits : (slot : ℕ) (vote : Vote) → store.votes slot ≡ Some vote → IsEntry (entry_of slot vote)) where
  one_fits : (slot : ℕ) (o : Option Vote) → store.votes slot ≡ o → AllByRecursion IsEntry (told_at slot o)
  one_fits slot None e = tt
  one_fits slot (Some vote) e = (fits slot vote e, tt)

  told_each : (first n : ℕ) → AllByRecursion IsEntry (told_from store first n)
  unfolding told_from
  told_each first zero = tt
  told_each first (suc n) = all_joined IsEntry (told_from store first n) _ (told_each first n) (one_fits (first + n) (store.votes (first + n)) refl)

pub told_are_entries : (store : Store) (first : ℕ) → ((slot : ℕ) (vote : Vote) → store.votes slot ≡ Some vote → IsEntry (entry_of slot vote)) → AreEntries first (told_by store first)
told_are_entries store first fits = record { most = told_count store first WINDOW; each = told_each store fits first WINDOW; rise = told_rise store first WINDOW }

-- ---- whatever a store gives

pair_rises : (slot : ℕ) (found : Option (Ballot × Command)) → Rise slot (slot + 1) (told_pair slot found)
pair_rises slot None = tt
pair_rises slot (Some vote) = (omega arith, omega arith, tt)

abbrev pub IsVoteAt : ℕ → Option (Ballot × Command) → Type 0
IsVoteAt slot found = IfSome found (λ vote. IsEntry (record { slot = slot; ballot = vote.0; command = vote.1 }))

pair_fits : (slot : ℕ) (found : Option (Ballot × Command)) → IsVoteAt slot found → AllByRecursion IsEntry (told_pair slot found)
pair_fits slot None fits = tt
pair_fits slot (Some vote) fits = (fits, tt)

-- one slot further
pub more_fit : (first place : ℕ) (entries all : List Entry) (found : Option (Ballot × Command))
    → all ≡ entries ++ told_pair (first + place) found → AllByRecursion IsEntry entries → Rise first (first + place) entries → IsVoteAt (first + place) found
    → AllByRecursion IsEntry all × Rise first (first + (place + 1)) all
more_fit first place entries all found is each rise fits =
    let next : first + place + 1 ≡ first + (place + 1) = omega arith in rw is (
      all_joined IsEntry entries _ each (pair_fits (first + place) found fits),
      subst (λ (m : ℕ). Rise first m (entries ++ told_pair (first + place) found)) next
          (rise_append first (first + place) (first + place + 1) entries (told_pair (first + place) found) (omega arith) (omega arith) rise (pair_rises (first + place) found)),
    )

-- the command of what was found
pub command_fits : (slot : ℕ) (found : Option (Ballot × Command)) → IsVoteAt slot found → IfSome (command_found found) IsInRange
command_fits slot None fits = tt
command_fits slot (Some vote) fits = fits.command
