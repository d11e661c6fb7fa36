-- What is told to the others has a frame, since there are others.
use Rattle.std.proofs.Common.{◌≡◌, ℕ, zero, suc, ◌≤◌, Bool, true, false, [], ◌++◌, inl, refl, subst, arith, true≢false}
use Rattle.std.specs.Prelude.{◌==◌, if◌then◌else◌, IfSome, Some, None}
use Rattle.std.proofs.lemmas.Bool.{eqb-true}
use Rattle.paxos_wire.specs.declared.message.Message.{Message}
use Rattle.protocol_model.specs.Sets.{In}
use Rattle.node_rules.specs.Sending.{Frame, one, to_first}
use Rattle.dealer_node.specs.Working.{TellsNoStore}
use Rattle.protocol_model.proofs.Sets.{in_first, in_later}

-- of the last two nodes the one or the other is told
one_of_two : (k node : ℕ) (message : Message) (a b : Bool) → (suc k == node) ≡ a → (k == node) ≡ b
    → (sent : Frame) × In sent ((to_first k node message ++ (if b then [] else one k message)) ++ (if a then [] else one (suc k) message)) × (sent.message ≡ message)
one_of_two k node message false b e f =
    (record { to = suc k; message = message }, in_later (to_first k node message ++ (if b then [] else one k message)) (one (suc k) message) _ (inl refl), refl)
one_of_two k node message true false e f =
    (record { to = k; message = message }, in_first (to_first k node message ++ one k message) [] _ (in_later (to_first k node message) (one k message) _ (inl refl)), refl)
one_of_two k node message true true e f =
    let last : suc k ≡ node = eqb-true (suc k) node e in
    let before : k ≡ node = eqb-true k node f in
    absurd (omega arith)

some_other : (nodes node : ℕ) (message : Message) → 2 ≤ nodes → (sent : Frame) × In sent (to_first nodes node message) × (sent.message ≡ message)
unfolding to_first
some_other zero node message many = absurd (omega arith)
some_other (suc zero) node message many = absurd (omega arith)
some_other (suc (suc k)) node message many = one_of_two k node message (suc k == node) (k == node) refl refl

-- so where nothing was told of the store, this wasn't told to the others
pub told_to_none : (nodes node : ℕ) (message : Message) → 2 ≤ nodes → (TellsNoStore message → ⊥) → ((sent : Frame) → In sent (to_first nodes node message) → TellsNoStore sent.message) → ⊥
told_to_none nodes node message many tells still =
    let other = some_other nodes node message many in
    tells (subst (λ (m : Message). TellsNoStore m) other.2 (still other.0 other.1))

-- what a refusal by the promise alone has, once it is one
pub of_refusal : {T : Type 0} (b : Bool) (told : T) (P : T → Type 0) → b ≡ false → IfSome (if b then None else Some told) P → P told
of_refusal true told P e has = absurd (true≢false e)
of_refusal false told P e has = has
