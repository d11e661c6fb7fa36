-- What is answered to a run of proposals, and what is stored of it.
use Rattle.std.proofs.Common.{ℕ, zero, suc, ◌≡◌, ◌+◌, ◌<◌, ◌≤◌, Bool, true, false, not, Option, Some, None, List, [], ◌∷◌, ◌++◌, length, take, refl, sym, ◌∙◌, ap, subst, arith, append_assoc, length-append}
use Rattle.std.specs.Prelude.{IsSome, IfSome}
use Rattle.std.proofs.SliceLists.{all_by_recursion_push}
use Rattle.std.proofs.lemmas.Option.{same_Some}
use Rattle.std.specs.List.{AllByRecursion}
use Rattle.slot_log.specs.Range.{IsInRange}
use Rattle.std.proofs.lemmas.List.{length-take-le, append-nil}
use Rattle.paxos_wire.specs.declared.ballot.Ballot.{Ballot}
use Rattle.paxos_wire.specs.Fits.{IsEntry, IsCommandRun}
use Rattle.paxos_wire.specs.Order.{is_below, is_same_ballot}
use Rattle.slot_log.specs.declared.command.Command.{Command}
use Rattle.protocol_model.specs.Messages.{Vote}
use Rattle.protocol_model.specs.Stores.{Store}
use Rattle.protocol_model.specs.Backing.{IsWithinPromise}
use Rattle.protocol_model.specs.Votes.{is_of_ballot, stored_in, storing, is_voted, command_run_from, command_run_at, storing_command_run}
use Rattle.protocol_model.proofs.Ballots.{at_most_if_not}
use Rattle.promise_store.specs.declared.records.Record.TheVariants.{Voted}
use Rattle.promise_store.specs.declared.placed.Placed.{Placed}
use Rattle.promise_store.specs.declared.held.Held.{Held}
use Rattle.promise_store.specs.Room.{placed_in}
use Rattle.promise_store.specs.Holding.{stored}
use Rattle.promise_store.specs.Shown.{vote_pair, vote_ballot, placed_ballot, pair_ballot}
use Rattle.acceptor.specs.declared.answers.RunAnswer.TheVariants.{Accepted}
use Rattle.acceptor.specs.Answers.{command_at, command_in, commands_told, is_placed_in, answer_to_run, accepted_run}
use Rattle.acceptor.proofs.Stored.{VotesMove}

-- ---- what the index shows

pub placed_votes : (b : Ballot) (p : Option Placed) (o : Option Vote) → placed_ballot p ≡ vote_ballot o → is_placed_in b p ≡ is_of_ballot o b
placed_votes b None None e = refl
placed_votes b None (Some v) e = absurd cc
placed_votes b (Some p) None e = absurd cc
placed_votes b (Some p) (Some v) e = let one : p.ballot ≡ v.ballot = cc in ap (λ (x : Ballot). is_same_ballot x b) one

-- where the index shows no vote of the ballot there is none
pub none_placed : (b : Ballot) (p : Option Placed) (o : Option Vote) (v : Bool) → placed_ballot p ≡ vote_ballot o → v ≡ is_placed_in b p → v ≡ false → is_of_ballot o b ≡ true → ⊥
none_placed b p o v same shown none there = let e : true ≡ false = sym there ∙ sym (placed_votes b p o same) ∙ sym shown ∙ none in cc

pub placed_some : (b : Ballot) (p : Option Placed) → is_placed_in b p ≡ true → IsSome p
placed_some b None e = absurd cc
placed_some b (Some p) e = refl

not_twice : (v : Bool) → v ≡ not v → ⊥
not_twice true e = absurd cc
not_twice false e = absurd cc

-- a beginning that ends where the first slot differs from itself isn't empty
pub begins : (test : ℕ → Bool) (first count size : ℕ) (v : Bool) → v ≡ test first → 1 ≤ size → (count < size → test (first + count) ≡ not v) → 1 ≤ count
begins test first zero size v is some ends =
    absurd (not_twice v (is ∙ (let same : first ≡ first + 0 = omega arith in ap test same) ∙ ends (omega (arith, some))))
begins test first (suc count) size v is some ends = omega arith

-- ---- the command of a slot

not_of : (b : Ballot) (c : Command) (o : Option Vote) → is_of_ballot o b ≡ false → stored_in o b c ≡ c
not_of b c None e = refl
not_of b c (Some v) e = rw e refl

of_it : (b : Ballot) (c : Command) (o : Option Vote) → is_of_ballot o b ≡ true → command_at o ≡ stored_in o b c ∷ []
of_it b c None e = absurd cc
of_it b c (Some v) e = rw e refl

-- ---- by rising slots, from the front

pub from_front : (store : Store) (first places : ℕ) → commands_told store first (suc places) ≡ command_at (store.votes first) ++ commands_told store (first + 1) places
unfolding commands_told
from_front store first zero =
    let same : first + 0 ≡ first = omega arith in
    ap (λ (k : ℕ). command_at (store.votes k)) same ∙ sym (append-nil (command_at (store.votes first)))
from_front store first (suc places) =
    let same : first + suc places ≡ first + 1 + places = omega arith in
    ap (λ (l : List Command). l ++ command_at (store.votes (first + suc places))) (from_front store first places)
    ∙ append_assoc (command_at (store.votes first)) (commands_told store (first + 1) places) (command_at (store.votes (first + suc places)))
    ∙ ap (λ (k : ℕ). command_at (store.votes first) ++ (commands_told store (first + 1) places ++ command_at (store.votes k))) same

module _ (b : Ballot) (held : Store) where
  -- no slot has a vote of the ballot: the beginning itself
  pub fresh_run : (slot : ℕ) (cs : List Command) (count : ℕ) → count ≤ length cs → ((k : ℕ) → slot ≤ k → k < slot + count → is_voted held b k ≡ false)
      → (count < length cs → is_voted held b (slot + count) ≡ true) → command_run_from false held b slot cs ≡ take count cs
  fresh_run slot [] zero few alike ends = refl
  fresh_run slot [] (suc count) few alike ends = absurd (omega (arith, few))
  fresh_run slot (c ∷ cs) zero few alike ends =
      let same : slot + 0 ≡ slot = omega arith in
      let test : is_voted held b slot ≡ true = ap (is_voted held b) (sym same) ∙ ends (omega arith) in
      rw test refl
  fresh_run slot (c ∷ cs) (suc count) few alike ends =
      let test : is_voted held b slot ≡ false = alike slot (omega arith) (omega arith) in
      let one : stored_in (held.votes slot) b c ≡ c = not_of b c (held.votes slot) test in
      let same : slot + 1 + count ≡ slot + suc count = omega arith in
      let rest : command_run_from false held b (slot + 1) cs ≡ take count cs =
      fresh_run (slot + 1) cs count (omega (arith, few)) (λ k low high. alike k (omega (arith, low)) (omega (arith, high)))
      (λ more. ap (is_voted held b) same ∙ ends (omega (arith, more))) in
      rw test (λ i. one i ∷ rest i)

  -- each slot has one: what stands there
  pub stored_run : (slot : ℕ) (cs : List Command) (count : ℕ) → count ≤ length cs → ((k : ℕ) → slot ≤ k → k < slot + count → is_voted held b k ≡ true)
      → (count < length cs → is_voted held b (slot + count) ≡ false) → command_run_from true held b slot cs ≡ commands_told held slot count
  unfolding commands_told
  stored_run slot [] zero few alike ends = refl
  stored_run slot [] (suc count) few alike ends = absurd (omega (arith, few))
  stored_run slot (c ∷ cs) zero few alike ends =
      let same : slot + 0 ≡ slot = omega arith in
      let test : is_voted held b slot ≡ false = ap (is_voted held b) (sym same) ∙ ends (omega arith) in
      rw test refl
  stored_run slot (c ∷ cs) (suc count) few alike ends =
      let test : is_voted held b slot ≡ true = alike slot (omega arith) (omega arith) in
      let one : command_at (held.votes slot) ≡ stored_in (held.votes slot) b c ∷ [] = of_it b c (held.votes slot) test in
      let same : slot + 1 + count ≡ slot + suc count = omega arith in
      let rest : command_run_from true held b (slot + 1) cs ≡ commands_told held (slot + 1) count =
      stored_run (slot + 1) cs count (omega (arith, few)) (λ k low high. alike k (omega (arith, low)) (omega (arith, high)))
      (λ more. ap (is_voted held b) same ∙ ends (omega (arith, more))) in
      let whole : stored_in (held.votes slot) b c ∷ command_run_from true held b (slot + 1) cs ≡ commands_told held slot (suc count) =
      ap (λ (l : List Command). stored_in (held.votes slot) b c ∷ l) rest ∙ ap (λ (l : List Command). l ++ commands_told held (slot + 1) count) (sym one) ∙ sym (from_front held slot count) in
      rw test whole

  -- nothing is stored at slots that have a vote of the ballot
  pub storing_nothing : (slot : ℕ) (cs : List Command) → ((k : ℕ) → slot ≤ k → k < slot + length cs → is_voted held b k ≡ true) → storing_command_run held b slot cs ≡ held
  storing_nothing slot [] alike = refl
  storing_nothing slot (c ∷ cs) alike =
      let test : is_voted held b slot ≡ true = alike slot (omega arith) (omega arith) in
      let one : storing held b slot c ≡ held = rw test refl in
      ap (λ (s : Store). storing_command_run s b (slot + 1) cs) one ∙ storing_nothing (slot + 1) cs (λ k low high. alike k (omega (arith, low)) (omega (arith, high)))

  commands_few : (first places : ℕ) → length (commands_told held first places) ≤ places
  unfolding commands_told
  commands_few first zero = omega arith
  commands_few first (suc places) = few_by (held.votes (first + places)) (commands_told held first places) (commands_few first places)
    where
      few_by : (o : Option Vote) (l : List Command) → length l ≤ places → length (l ++ command_at o) ≤ suc places
      few_by None l few = omega (arith, few, length-append l [])
      few_by (Some v) l few = omega (arith, few, length-append l (v.command ∷ []))

  module _ (p : Ballot) (same : p ≡ held.promise) (high : is_below b p ≡ false) (slot : ℕ) (cs : List Command) (count : ℕ) (few : count ≤ length cs) where
    low : is_below b held.promise ≡ false
    low = ap (is_below b) (sym same) ∙ high

    -- the first slot has a vote of the ballot
    module _ (first : is_voted held b slot ≡ true) (alike : (k : ℕ) → slot ≤ k → k < slot + count → is_voted held b k ≡ true) (ends : count < length cs → is_voted held b (slot + count) ≡ false) where
      run_is : command_run_at held b slot cs ≡ commands_told held slot count
      run_is = ap (λ (v : Bool). command_run_from v held b slot cs) first ∙ stored_run slot cs count few alike ends

      pub stored_told : (given : List Command) → given ≡ commands_told held slot count → Accepted b slot given ≡ answer_to_run b slot cs held
      stored_told given is = rw low (ap (Accepted b slot) (is ∙ sym run_is))

      pub stored_stays : accepted_run b slot cs held ≡ held
      stored_stays =
          let all = commands_few slot count in
          rw low (ap (storing_command_run held b slot) run_is ∙ storing_nothing slot (commands_told held slot count) (λ k from to. alike k from (omega (arith, to, all))))

    -- it has none
    module _ (first : is_voted held b slot ≡ false) (alike : (k : ℕ) → slot ≤ k → k < slot + count → is_voted held b k ≡ false) (ends : count < length cs → is_voted held b (slot + count) ≡ true) where
      fresh_is : command_run_at held b slot cs ≡ take count cs
      fresh_is = ap (λ (v : Bool). command_run_from v held b slot cs) first ∙ fresh_run slot cs count few alike ends

      pub fresh_told : (given : List Command) → given ≡ take count cs → Accepted b slot given ≡ answer_to_run b slot cs held
      fresh_told given is = rw low (ap (Accepted b slot) (is ∙ sym fresh_is))

      pub fresh_stored : VotesMove → 1 ≤ count → IsWithinPromise held → accepted_run b slot cs held ≡ stored held (Voted b slot (take count cs))
      fresh_stored moves some within =
          let long : length (take count cs) ≡ count = length-take-le count cs few in
          rw low (ap (storing_command_run held b slot) fresh_is
          ∙ sym (moves held b slot (take count cs) (omega (arith, long, some)) within (at_most_if_not b held.promise low) (λ k from to. alike k from (omega (arith, to, long)))))

-- ---- by what the index shows

module _ (b : Ballot) (held : Store) (index : Held) (shows : (k : ℕ) → placed_ballot (placed_in index k) ≡ vote_ballot (held.votes k)) (p : Ballot) (same : p ≡ held.promise) (high : is_below b p ≡ false)
    (slot : ℕ) (cs : List Command) (count : ℕ) (few : count ≤ length cs) (v : Bool) (is : v ≡ is_placed_in b (placed_in index slot))
    (alike : (k : ℕ) → slot ≤ k → k < slot + count → is_placed_in b (placed_in index k) ≡ v) (ends : count < length cs → is_placed_in b (placed_in index (slot + count)) ≡ not v) where
  test_is : (k : ℕ) → is_voted held b k ≡ is_placed_in b (placed_in index k)
  test_is k = sym (placed_votes b (placed_in index k) (held.votes k) (shows k))

  pub by_index_stored : v ≡ true → (given : List Command) → given ≡ commands_told held slot count → (Accepted b slot given ≡ answer_to_run b slot cs held) × (accepted_run b slot cs held ≡ held)
  by_index_stored e given told =
      let first : is_voted held b slot ≡ true = test_is slot ∙ sym is ∙ e in
      let each : (k : ℕ) → slot ≤ k → k < slot + count → is_voted held b k ≡ true = λ k from to. test_is k ∙ alike k from to ∙ e in
      let end : count < length cs → is_voted held b (slot + count) ≡ false = λ more. test_is (slot + count) ∙ ends more ∙ ap not e in
      (stored_told b held p same high slot cs count few first each end given told, stored_stays b held p same high slot cs count few first each end)

  pub by_index_told : v ≡ false → (given : List Command) → given ≡ take count cs → Accepted b slot given ≡ answer_to_run b slot cs held
  by_index_told e given told =
      let first : is_voted held b slot ≡ false = test_is slot ∙ sym is ∙ e in
      let each : (k : ℕ) → slot ≤ k → k < slot + count → is_voted held b k ≡ false = λ k from to. test_is k ∙ alike k from to ∙ e in
      let end : count < length cs → is_voted held b (slot + count) ≡ true = λ more. test_is (slot + count) ∙ ends more ∙ ap not e in
      fresh_told b held p same high slot cs count few first each end given told

  pub by_index_fresh : v ≡ false → VotesMove → 1 ≤ length cs → IsWithinPromise held → accepted_run b slot cs held ≡ stored held (Voted b slot (take count cs))
  by_index_fresh e moves some within =
      let first : is_voted held b slot ≡ false = test_is slot ∙ sym is ∙ e in
      let each : (k : ℕ) → slot ≤ k → k < slot + count → is_voted held b k ≡ false = λ k from to. test_is k ∙ alike k from to ∙ e in
      let end : count < length cs → is_voted held b (slot + count) ≡ true = λ more. test_is (slot + count) ∙ ends more ∙ ap not e in
      fresh_stored b held p same high slot cs count few first each end moves (begins (λ k. is_placed_in b (placed_in index k)) slot count (length cs) v is some ends) within

-- ---- reading one slot after the other

pub pair_command : (o : Option (Ballot × Command)) (v : Option Vote) → o ≡ vote_pair v → command_in o ≡ command_at v
pair_command None None e = refl
pair_command None (Some v) e = absurd cc
pair_command (Some found) None e = absurd cc
pair_command (Some found) (Some v) e = let one : found ≡ (v.ballot, v.command) = same_Some found (v.ballot, v.command) e in ap (λ (x : Ballot × Command). x.1 ∷ []) one

-- one slot further
pub command_more : (held : Store) (first place : ℕ) (told : List Command) (found : Option (Ballot × Command)) (all : List Command)
    → all ≡ told ++ command_in found → told ≡ commands_told held first place → found ≡ vote_pair (held.votes (first + place)) → all ≡ commands_told held first (place + 1)
unfolding commands_told
command_more held first place told found all put before is =
    put ∙ ap (λ (l : List Command). l ++ command_in found) before
    ∙ ap (λ (l : List Command). commands_told held first place ++ l) (pair_command found (held.votes (first + place)) is)
    ∙ ap (commands_told held first) (let e : suc place ≡ place + 1 = omega arith in e)

pub command_few : (told : List Command) (found : Option (Ballot × Command)) (all : List Command) → all ≡ told ++ command_in found → length all ≤ length told + 1
command_few told None all put = omega (arith, ap length put, length-append told [])
command_few told (Some found) all put = omega (arith, ap length put, length-append told (found.1 ∷ []))

pub command_one : (told : List Command) (found : Option (Ballot × Command)) (p : Option Placed) (all : List Command) → all ≡ told ++ command_in found → pair_ballot found ≡ placed_ballot p → IsSome p → length all ≡ length told + 1
command_one told None None all put same some = absurd cc
command_one told None (Some p) all put same some = absurd cc
command_one told (Some found) p all put same some = omega (arith, ap length put, length-append told (found.1 ∷ []))

pub command_range : (slot : ℕ) (told : List Command) (found : Option (Ballot × Command)) (all : List Command) → all ≡ told ++ command_in found
    → IfSome found (λ vote. IsEntry (record { slot = slot; ballot = vote.0; command = vote.1 })) → AllByRecursion IsInRange told → AllByRecursion IsInRange all
command_range slot told None all put fits each = subst (AllByRecursion IsInRange) (sym (put ∙ append-nil told)) each
command_range slot told (Some found) all put fits each = subst (AllByRecursion IsInRange) (sym put) (all_by_recursion_push IsInRange told found.1 each fits.command)

-- ---- numbers of what is told

pub run_fits : (slot count : ℕ) (cs given : List Command) → IsCommandRun slot cs → count ≤ length cs → 1 ≤ count → length given ≡ count → AllByRecursion IsInRange given → IsCommandRun slot given
run_fits slot count cs given run few some long range = record {
  least = omega (arith, long, some);
  most = omega (arith, long, few, run.most);
  slots = omega (arith, long, few, run.slots);
  each = range;
}

pub taken_fits : (slot count : ℕ) (cs : List Command) → IsCommandRun slot cs → count ≤ length cs → 1 ≤ count → IsCommandRun slot (take count cs)
taken_fits slot count cs run few some = run_fits slot count cs (take count cs) run few some (length-take-le count cs few) (front count cs run.each)
  where
    front : (n : ℕ) (xs : List Command) → AllByRecursion IsInRange xs → AllByRecursion IsInRange (take n xs)
    front zero xs each = tt
    front (suc n) [] each = tt
    front (suc n) (x ∷ xs) each = (each.0, front n xs each.1)
