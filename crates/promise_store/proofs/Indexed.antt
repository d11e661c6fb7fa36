-- What an index has after a record's commands were put into it.
use Rattle.std.proofs.Common.{◌≡◌, inl, inr, ℕ, ◌+◌, ◌≤◌, refl, ◌∙◌, ap, List, [], ◌∷◌, ◌++◌, length, true, false, Bool, arith, length-append}
use Rattle.std.specs.Prelude.{◌==◌, nat_eq, if◌then◌else◌, Option, Some, None}
use Rattle.std.specs.List.{flat_map}
use Rattle.std.proofs.lemmas.Bool.Decides.{nat_tests}
use Rattle.std.proofs.lemmas.Bool.{cases_eq}
use Rattle.std.proofs.lemmas.List.Concat.{flat_map-cons}
use Rattle.paxos_wire.specs.Order.{is_below}
use Rattle.paxos_wire.specs.Spelling.{command_text}
use Rattle.slot_log.specs.declared.command.Command.{Command}
use Rattle.protocol_model.specs.Sets.{put}
use Rattle.promise_store.specs.declared.placed.Placed.{Placed}
use Rattle.promise_store.specs.Index.{later}
use Rattle.promise_store.specs.Holding.{Kept, ballot_of, next_at, with_votes, placed_of}

-- where the command behind these stands
abbrev pub behind_all : Placed → List Command → Placed
behind_all placed [] = placed
behind_all placed (c ∷ cs) = behind_all (next_at placed c) cs

pub behind_push : (placed : Placed) (cs : List Command) (c : Command) → behind_all placed (cs ++ c ∷ []) ≡ next_at (behind_all placed cs) c
behind_push placed [] c = refl
behind_push placed (d ∷ cs) c = behind_push (next_at placed d) cs c

-- one command more
abbrev pub with_one : Placed → Command → (ℕ → Option Kept) → ℕ → Option Kept
with_one placed c entries = put entries placed.slot (Some (later ballot_of (entries placed.slot) (record { command = c; placed = placed })))

pub votes_push : (placed : Placed) (cs : List Command) (c : Command) (entries : ℕ → Option Kept) → with_votes placed (cs ++ c ∷ []) entries ≡ with_one (behind_all placed cs) c (with_votes placed cs entries)
votes_push placed [] c entries = refl
votes_push placed (d ∷ cs) c entries = votes_push (next_at placed d) cs c (with_one placed d entries)

-- where it stands, in numbers
pub record IsBehind (placed next : Placed) (cs : List Command) : Type 0 where
  pub ballot : next.ballot ≡ placed.ballot
  pub slot : next.slot ≡ placed.slot + length cs
  pub inside : next.inside ≡ placed.inside + length (flat_map command_text cs)

pub is_behind : (placed : Placed) (cs : List Command) → IsBehind placed (behind_all placed cs) cs
is_behind placed [] = record { ballot = refl; slot = omega arith; inside = omega arith }
is_behind placed (c ∷ cs) =
    let rest = is_behind (next_at placed c) cs in
    let long : length (flat_map command_text (c ∷ cs)) ≡ length (command_text c) + length (flat_map command_text cs) = ap length (flat_map-cons command_text c cs) ∙ length-append (command_text c) (flat_map command_text cs) in
    record { ballot = rest.ballot; slot = omega (arith, rest.slot); inside = omega (arith, rest.inside, long) }

flat_length : (front more : List Command) → length (flat_map command_text (front ++ more)) ≡ length (flat_map command_text front) + length (flat_map command_text more)
flat_length [] more = omega arith
flat_length (c ∷ front) more =
    let all : length (flat_map command_text (c ∷ (front ++ more))) ≡ length (command_text c) + length (flat_map command_text (front ++ more)) = ap length (flat_map-cons command_text c (front ++ more)) ∙ length-append (command_text c) (flat_map command_text (front ++ more)) in
    let long : length (flat_map command_text (c ∷ front)) ≡ length (command_text c) + length (flat_map command_text front) = ap length (flat_map-cons command_text c front) ∙ length-append (command_text c) (flat_map command_text front) in
    omega (arith, all, long, flat_length front more)

-- a beginning has no more bytes than all
pub beginning_most : (front : List Command) (c : Command) (more all : List Command) → front ++ c ∷ more ≡ all → length (flat_map command_text front) + length (command_text c) ≤ length (flat_map command_text all)
beginning_most front c more all is =
    let tail : length (flat_map command_text (c ∷ more)) ≡ length (command_text c) + length (flat_map command_text more) = ap length (flat_map-cons command_text c more) ∙ length-append (command_text c) (flat_map command_text more) in
    omega (arith, tail, flat_length front (c ∷ more), ap (λ (l : List Command). length (flat_map command_text l)) is)

later_placed : (was : Option Kept) (placed : Placed) (c : Command) → Some (later (λ (e : Placed). e.ballot) (placed_of was) placed) ≡ placed_of (Some (later ballot_of was (record { command = c; placed = placed })))
later_placed None placed c = refl
later_placed (Some kept) placed c = by (is_below placed.ballot kept.placed.ballot)
  where
    by : (test : Bool) → Some (if test then kept.placed else placed) ≡ placed_of (Some (if test then kept else record { command = c; placed = placed }))
    by true = refl
    by false = refl

-- an index with one entry more holds one command more
pub holds_more : (old new : ℕ → Option Placed) (held : ℕ → Option Kept) (placed : Placed) (c : Command) → ((k : ℕ) → old k ≡ placed_of (held k))
    → ((k : ℕ) → new k ≡ (if nat_eq k placed.slot then Some (later (λ (e : Placed). e.ballot) (old k) placed) else old k)) → (k : ℕ) → new k ≡ placed_of (with_one placed c held k)
holds_more old new held placed c has put_there k = put_there k ∙ elim (cases_eq k placed.slot) [
  | inl here ↦ at_slot here
  | inr other ↦ (let test : (k == placed.slot) ≡ false = grind (arith, nat_tests, other) in rw test (has k))
]
  where
    at_slot : k ≡ placed.slot → (if nat_eq k placed.slot then Some (later (λ (e : Placed). e.ballot) (old k) placed) else old k) ≡ placed_of (with_one placed c held k)
    at_slot here =
        let test : (k == placed.slot) ≡ true = grind (arith, nat_tests, here) in
        rw test (ap (λ (o : Option Placed). Some (later (λ (e : Placed). e.ballot) o placed)) (has k ∙ ap (λ (j : ℕ). placed_of (held j)) here) ∙ later_placed (held placed.slot) placed c)
