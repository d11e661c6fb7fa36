-- What records make of a store.
use Rattle.std.proofs.Common.{◌≡◌, ◌⊎◌, inl, inr, ℕ, ◌+◌, refl, sym, ◌∙◌, ap, List, [], ◌∷◌, ◌++◌, length, true, false, Bool, arith, length-append}
use Rattle.std.specs.Prelude.{◌==◌, if◌then◌else◌, Option, Some, None}
use Rattle.protocol_model.specs.Sets.{put}
use Rattle.protocol_model.specs.Messages.{Vote}
use Rattle.protocol_model.specs.Stores.{Store}
use Rattle.promise_store.specs.declared.records.Record.{Record}
use Rattle.promise_store.specs.declared.records.Record.TheVariants.{Promised, VotedOne, Opened, Voted}
use Rattle.promise_store.specs.declared.placed.Placed.{Placed}
use Rattle.slot_log.specs.declared.command.Command.{Command}
use Rattle.promise_store.specs.Index.{later}
use Rattle.paxos_wire.specs.Order.{is_below}
use Rattle.promise_store.specs.Records.{payload}
use Rattle.promise_store.specs.Journals.{gated, IsEither, gate_behind}
use Rattle.promise_store.specs.Holding.{Kept, Holding, nothing_held, greater, first_at, next_at, ballot_of, with_votes, with_record, held_from, holding, vote_of, store_of, StandsFor, voting, stored}

pub held_push : (gate : ℕ) (held : Holding) (records : List Record) (r : Record) → held_from gate held (records ++ r ∷ []) ≡ with_record (gate + length (gated records)) (held_from gate held records) r
held_push gate held [] r = let same : gate ≡ gate + 0 = omega arith in ap (λ (k : ℕ). with_record k held r) same
held_push gate held (first ∷ records) r =
    let both : gate + length (gated (first ∷ [])) + length (gated records) ≡ gate + length (gated (first ∷ records)) = omega (arith, one first records) in
    held_push (gate + length (gated (first ∷ []))) (with_record gate held first) records r
    ∙ ap (λ (k : ℕ). with_record k (held_from (gate + length (gated (first ∷ []))) (with_record gate held first) records) r) both
  where
    one : (first : Record) (records : List Record) → length (gated (first ∷ records)) ≡ length (gated (first ∷ [])) + length (gated records)
    one first records = omega (arith, length-append (payload first) (gated records), length-append (payload first) [])

pub holding_push : (head : List ℕ) (records : List Record) (r : Record) → holding head (records ++ r ∷ []) ≡ with_record (gate_behind head records) (holding head records) r
holding_push head records r =
    let same : length head + length (gated records) ≡ gate_behind head records = sym (length-append head (gated records)) in
    held_push (length head) nothing_held records r ∙ ap (λ (k : ℕ). with_record k (holding head records) r) same

-- one vote more, seen as the model's
choice : (new : Kept) (old : Option Kept) (was : Option Vote) → vote_of old ≡ was
    → vote_of (Some (later ballot_of old new)) ≡ Some (later (λ (v : Vote). v.ballot) was (record { ballot = new.placed.ballot; command = new.command }))
choice new None was same = ap (λ (o : Option Vote). Some (later (λ (v : Vote). v.ballot) o (record { ballot = new.placed.ballot; command = new.command }))) same
choice new (Some old) was same = under (is_below new.placed.ballot old.placed.ballot) ∙ ap (λ (o : Option Vote). Some (later (λ (v : Vote). v.ballot) o (record { ballot = new.placed.ballot; command = new.command }))) same
  where
    under : (b : Bool) → vote_of (Some (if b then old else new)) ≡ Some (if b then record { ballot = old.placed.ballot; command = old.command } else record { ballot = new.placed.ballot; command = new.command })
    under true = refl
    under false = refl

-- a record's votes, seen as the model's
same_votes : (placed : Placed) (cs : List Command) (entries : ℕ → Option Kept) (votes : ℕ → Option Vote)
    → ((k : ℕ) → vote_of (entries k) ≡ votes k) → (k : ℕ) → vote_of (with_votes placed cs entries k) ≡ voting placed.ballot placed.slot cs votes k
same_votes placed [] entries votes same k = same k
same_votes placed (c ∷ cs) entries votes same k =
    same_votes (next_at placed c) cs (put entries placed.slot (Some (later ballot_of (entries placed.slot) new)))
    (put votes placed.slot (Some (later (λ (v : Vote). v.ballot) (votes placed.slot) (record { ballot = placed.ballot; command = c })))) (λ j. at j (j == placed.slot)) k
  where
    new : Kept
    new = record { command = c; placed = placed }

    at : (j : ℕ) (b : Bool) → vote_of (if b then Some (later ballot_of (entries placed.slot) (record { command = c; placed = placed })) else entries j)
        ≡ (if b then Some (later (λ (v : Vote). v.ballot) (votes placed.slot) (record { ballot = placed.ballot; command = c })) else votes j)
    at j true = choice (record { command = c; placed = placed }) (entries placed.slot) (votes placed.slot) (same placed.slot)
    at j false = same j

-- the model's store of what is held with a record more
pub store_with : (gate : ℕ) (held : Holding) (r : Record) → store_of (with_record gate held r) ≡ stored (store_of held) r
store_with gate held (Promised ballot) = refl
store_with gate held Opened = refl
store_with gate held (VotedOne ballot slot command) = λ i. record {
  promise = greater held.promise ballot;
  votes = λ k. same_votes (first_at gate (length (payload (VotedOne ballot slot command))) 10 ballot slot) (command ∷ []) held.entries (λ j. vote_of (held.entries j)) (λ j. refl) k i;
}
store_with gate held (Voted ballot slot commands) = λ i. record {
  promise = greater held.promise ballot;
  votes = λ k. same_votes (first_at gate (length (payload (Voted ballot slot commands))) 11 ballot slot) commands held.entries (λ j. vote_of (held.entries j)) (λ j. refl) k i;
}

module _ (head : List ℕ) (records : List Record) (held : Store) (is : held ≡ store_of (holding head records)) (r : Record) where
  pub next_is : stored held r ≡ store_of (holding head (records ++ r ∷ []))
  next_is =
      ap (λ s. stored s r) is ∙ sym (store_with (gate_behind head records) (holding head records) r)
      ∙ ap store_of (sym (holding_push head records r))

  pub either_store : (image : List ℕ) → IsEither head records (records ++ r ∷ []) image → StandsFor head image held ⊎ StandsFor head image (stored held r)
  either_store image (inl was) = inl (record { records = records; journal = was; is = is })
  either_store image (inr new) = inr (record { records = records ++ r ∷ []; journal = new; is = next_is })
