-- Nodes counted one by one. Two quorums share a node, and what quorums said stays said.
use Rattle.std.proofs.Common.{◌≡◌, ℕ, zero, suc, ◌+◌, ◌<◌, ◌≤◌, Bool, true, false, cond, if◌then◌else◌, List, [], ◌∷◌, length, refl, arith}
use Rattle.paxos_wire.specs.declared.ballot.Ballot.{Ballot}
use Rattle.slot_log.specs.declared.command.Command.{Command}
use Rattle.paxos_wire.specs.declared.entry.Entry.{Entry}
use Rattle.protocol_model.specs.Messages.{Message}
use Rattle.protocol_model.specs.Quorums.{count, IsQuorum, IsChosenIn, IsChosen, AreChosen, HasPromises, IsGreatestTold}
use Rattle.protocol_model.proofs.Sets.{Within}

within_step : (p q : ℕ → Bool) (n : ℕ) (x y : Bool) → (x ≡ true → y ≡ true) → count p n ≤ count q n → (if x then 1 + count p n else count p n) ≤ (if y then 1 + count q n else count q n)
within_step p q n true true h k = omega arith
within_step p q n true false h k = let e = h refl in absurd (cc)
within_step p q n false true h k = omega arith
within_step p q n false false h k = k

-- a set counts no more than one that it is part of
pub count_within : (p q : ℕ → Bool) (n : ℕ) → ((k : ℕ) → k < n → p k ≡ true → q k ≡ true) → count p n ≤ count q n
count_within p q zero h = omega arith
count_within p q (suc n) h = within_step p q n (p n) (q n) (h n (omega arith)) (count_within p q n (λ k is. h k (omega arith)))

none_step : (b : Bool) (k : ℕ) → (b ≡ true → ⊥) → k ≡ 0 → (if b then 1 + k else k) ≡ 0
none_step true k not_so e = absurd (not_so refl)
none_step false k not_so e = e

-- nobody of an empty set is counted
pub none_counted : (chosen : ℕ → Bool) (n : ℕ) → ((k : ℕ) → k < n → chosen k ≡ true → ⊥) → count chosen n ≡ 0
none_counted chosen zero none = refl
none_counted chosen (suc n) none = none_step (chosen n) (count chosen n) (λ e. none n (omega arith) e) (none_counted chosen n (λ k low is. none k (omega arith) is))

one_step : (b : Bool) (k : ℕ) → (b ≡ true → k ≡ 0) → k ≤ 1 → (if b then 1 + k else k) ≤ 1
one_step true k zero_then low = let e = zero_then refl in omega (arith, e)
one_step false k zero_then low = low

-- of a set that has no other node than this one, one is counted at most
pub one_counted : (chosen : ℕ → Bool) (only n : ℕ) → ((k : ℕ) → k < n → chosen k ≡ true → k ≡ only) → count chosen n ≤ 1
one_counted chosen only zero single = omega arith
one_counted chosen only (suc n) single = one_step (chosen n) (count chosen n)
    (λ e. none_counted chosen n (λ k l is. let a = single k (omega arith) is in let b = single n (omega arith) e in absurd (omega (arith, a, b))))
    (one_counted chosen only n (λ k l is. single k (omega arith) is))

pub one_is_no_quorum : (n only : ℕ) (set : ℕ → Bool) → 3 ≤ n → ((node : ℕ) → node < n → set node ≡ true → node ≡ only) → IsQuorum n set → ⊥
one_is_no_quorum n only set three single most = let few = one_counted set only n single in omega arith

-- sets that count more than n together share one of the first n
abbrev Shares : ℕ → (ℕ → Bool) → (ℕ → Bool) → Type 0
Shares n a b = (node : ℕ) × (node < n) × (a node ≡ true) × (b node ≡ true)

grown : (n : ℕ) (a b : ℕ → Bool) → Shares n a b → Shares (suc n) a b
grown n a b s = (s.0, omega arith, s.2, s.3)

meets : (n : ℕ) (a b : ℕ → Bool) → (x y : Bool) → a n ≡ x → b n ≡ y → suc n < cond x (1 + count a n) (count a n) + cond y (1 + count b n) (count b n)
    → (n < count a n + count b n → Shares n a b) → Shares (suc n) a b
meets n a b true true ea eb h ih = (n, omega arith, ea, eb)
meets n a b true false ea eb h ih = grown n a b (ih (omega arith))
meets n a b false true ea eb h ih = grown n a b (ih (omega arith))
meets n a b false false ea eb h ih = grown n a b (ih (omega arith))

meeting : (n : ℕ) (a b : ℕ → Bool) → n < count a n + count b n → Shares n a b
meeting zero a b h = absurd (omega arith)
meeting (suc n) a b h = meets n a b (a n) (b n) refl refl h (meeting n a b)

pub quorums_meet : (n : ℕ) (a b : ℕ → Bool) → IsQuorum n a → IsQuorum n b → Shares n a b
quorums_meet n a b ha hb = meeting n a b (omega arith)

-- what holds of fewer messages holds of more
pub chosen_in_stays : (n : ℕ) (xs ys : List Message) (ballot : Ballot) (slot : ℕ) (command : Command)
    → Within xs ys → IsChosenIn n xs ballot slot command → IsChosenIn n ys ballot slot command
chosen_in_stays n xs ys ballot slot command within c = (c.0, c.1, λ node is q. within _ (c.2 node is q))

pub chosen_stays : (n : ℕ) (xs ys : List Message) (slot : ℕ) (command : Command) → Within xs ys → IsChosen n xs slot command → IsChosen n ys slot command
chosen_stays n xs ys slot command within c = (c.0, chosen_in_stays n xs ys c.0 slot command within c.1)

pub all_chosen_stay : (n : ℕ) (xs ys : List Message) (commands : List Command) → Within xs ys → AreChosen n xs commands → AreChosen n ys commands
all_chosen_stay n xs ys [] within c = tt
all_chosen_stay n xs ys (command ∷ before) within c =
    (chosen_stays n xs ys (length before) command within c.0, all_chosen_stay n xs ys before within c.1)

pub promises_stay : (n : ℕ) (xs ys : List Message) (ballot : Ballot) (slot : ℕ) (IsSo : Entry → Type 0)
    → Within xs ys → HasPromises n xs ballot slot IsSo → HasPromises n ys ballot slot IsSo
promises_stay n xs ys ballot slot IsSo within p =
    (p.0, p.1, λ node is q. let one = p.2 node is q in (one.0, one.1, within _ one.2, one.3, one.4))

pub greatest_stays : (n : ℕ) (xs ys : List Message) (ballot : Ballot) (slot : ℕ) (command : Command)
    → Within xs ys → IsGreatestTold n xs ballot slot command → IsGreatestTold n ys ballot slot command
greatest_stays n xs ys ballot slot command within g =
    let told = g.1 in
    (g.0, (told.0, told.1, told.2, within _ told.3, told.4), promises_stay n xs ys ballot slot _ within g.2)
