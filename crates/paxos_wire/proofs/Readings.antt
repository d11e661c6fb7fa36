-- What is read, of whatever bytes, has 1 to 64 commands where it is an Accept or an Accepted.
use Rattle.std.proofs.Common.{◌≡◌, ℕ, zero, suc, ◌+◌, ◌<◌, ◌≤◌, lit≤, Bool, true, false, cond, ◌&&◌, ltb, leb, eqb, List, [], ◌∷◌, length, slice_index, drop, Some, None, Ok, sym, ap, subst, ◌∙◌, arith}
use Rattle.std.proofs.lemmas.Bool.{ltb-true, leb-true, and_parts}
use Rattle.std.proofs.lemmas.Option.{same_Some}
use Rattle.slot_log.specs.declared.command.Command.{Command}
use Rattle.paxos_wire.specs.declared.limits.TheConstants.{SLOTS, WINDOW}
use Rattle.paxos_wire.specs.declared.ballot.Ballot.{Ballot}
use Rattle.paxos_wire.specs.declared.message.Message.{Message}
use Rattle.paxos_wire.specs.declared.message.Message.TheVariants.{Prepare, Promise, Refuse, Accept, Accepted, Chosen, Ask, Forward}
use Rattle.paxos_wire.specs.declared.version.Version.{Version}
use Rattle.paxos_wire.specs.declared.version.Version.TheVariants.{Old, New}
use Rattle.paxos_wire.specs.Versions.{version_of}
use Rattle.paxos_wire.specs.Fits.{HasCommands}
use Rattle.paxos_wire.specs.Reading.{◌>>=◌, when, byte_at, below_at, ballot_at, command_at, commands_at, entries_at, promise_at, refuse_at, behind_count, proposed_at, accept_at, of_ballot_at, chosen_at, ask_at, may_go_on, forward_at, message_at, body_of}
use Rattle.paxos_wire.specs.Faults.{header_fault, reading}
use Rattle.paxos_wire.proofs.Steps.{bind_some, when_some}
use Rattle.paxos_wire.proofs.FrameLaws.{behind_ok}

-- as many commands as were asked for
as_many : (count : ℕ) (bytes : List ℕ) (x : List Command × List ℕ) → commands_at count bytes ≡ Some x → length x.0 ≡ count
unfolding commands_at
as_many zero bytes x e = ap (λ (r : List Command × List ℕ). length r.0) (sym (same_Some ([], bytes) x e))
as_many (suc count) bytes x e =
    let a = bind_some (command_at bytes) (λ first. commands_at count first.1 >>= λ others. Some (first.0 ∷ others.0, others.1)) x e in
    let b = bind_some (commands_at count a.0.1) (λ others. Some (a.0.0 ∷ others.0, others.1)) x a.2 in
    ap (λ (r : List Command × List ℕ). length r.0) (sym (same_Some (a.0.0 ∷ b.0.0, b.0.1) x b.2)) ∙ ap suc (as_many count a.0.1 b.0 b.1)

count_is : (version : Version) (bytes : List ℕ) (x : ℕ × List ℕ) → behind_count version bytes ≡ Some x → (1 ≤ x.0) × (x.0 ≤ WINDOW)
unfolding behind_count
count_is Old bytes x e = subst (λ (y : ℕ × List ℕ). (1 ≤ y.0) × (y.0 ≤ WINDOW)) (same_Some (1, bytes) x e) (lit≤ tt, lit≤ tt)
count_is New bytes x e =
    let a = bind_some (byte_at bytes) (λ count. when (ltb 0 count.0 && leb count.0 WINDOW) count) x e in
    let g = when_some (ltb 0 a.0.0 && leb a.0.0 WINDOW) a.0 x a.2 in
    let tests = and_parts (ltb 0 a.0.0) (leb a.0.0 WINDOW) g.0 in
    let above : 0 < a.0.0 = ltb-true 0 a.0.0 tests.0 in
    let least : 1 ≤ a.0.0 = omega (arith, above) in
    subst (λ (y : ℕ × List ℕ). (1 ≤ y.0) × (y.0 ≤ WINDOW)) g.1 (least, leb-true a.0.0 WINDOW tests.1)

run_counts : (version : Version) (s : ℕ) (bytes : List ℕ) (x : List Command × List ℕ) → proposed_at version s bytes ≡ Some x → (1 ≤ length x.0) × (length x.0 ≤ WINDOW)
unfolding proposed_at
run_counts version s bytes x e =
    let a = bind_some (behind_count version bytes) (λ count. commands_at count.0 count.1 >>= λ commands. when (leb (s + count.0) SLOTS) commands) x e in
    let c = bind_some (commands_at a.0.0 a.0.1) (λ commands. when (leb (s + a.0.0) SLOTS) commands) x a.2 in
    let g = when_some (leb (s + a.0.0) SLOTS) c.0 x c.2 in
    let count = count_is version bytes a.0 a.1 in
    let low : 1 ≤ a.0.0 = count.0 in
    let high : a.0.0 ≤ WINDOW = count.1 in
    let len : length c.0.0 ≡ a.0.0 = as_many a.0.0 a.0.1 c.0 c.1 in
    let least : 1 ≤ length c.0.0 = omega (arith, low, len) in
    let most : length c.0.0 ≤ WINDOW = omega (arith, high, len) in
    subst (λ (y : List Command × List ℕ). (1 ≤ length y.0) × (length y.0 ≤ WINDOW)) g.1 (least, most)

-- an Accept, or an Accepted
of_run : (version : Version) (made : Ballot → ℕ → List Command → Message) (b : Ballot) (s : ℕ) (bytes : List ℕ) (x : Message × List ℕ)
    → ((cs : List Command) → 1 ≤ length cs → length cs ≤ WINDOW → HasCommands (made b s cs)) → accept_at version made b s bytes ≡ Some x → HasCommands x.0
unfolding accept_at
of_run version made b s bytes x has e =
    let a = bind_some (proposed_at version s bytes) (λ commands. Some (made b s commands.0, commands.1)) x e in
    let count = run_counts version s bytes a.0 a.1 in
    subst (λ (y : Message × List ℕ). HasCommands y.0) (same_Some (made b s a.0.0, a.0.1) x a.2) (has a.0.0 count.0 count.1)

by_kind : (version : Version) (b : Ballot) (s : ℕ) (bytes : List ℕ) (x : Message × List ℕ) (one two three four : Bool)
    → cond one (Some (Prepare b s, bytes)) (cond two (promise_at version b s bytes) (cond three (refuse_at version b s bytes) (cond four (accept_at version Accept b s bytes) (accept_at version Accepted b s bytes)))) ≡ Some x
    → HasCommands x.0
unfolding promise_at refuse_at
by_kind version b s bytes x true two three four e = subst (λ (y : Message × List ℕ). HasCommands y.0) (same_Some (Prepare b s, bytes) x e) tt
by_kind version b s bytes x false true three four e =
    let a = bind_some (byte_at bytes) (λ count. cond (leb count.0 WINDOW) (entries_at version count.0 s (s + WINDOW) count.1) None >>= λ entries. Some (Promise b s entries.0, entries.1)) x e in
    let c = bind_some (cond (leb a.0.0 WINDOW) (entries_at version a.0.0 s (s + WINDOW) a.0.1) None) (λ entries. Some (Promise b s entries.0, entries.1)) x a.2 in
    subst (λ (y : Message × List ℕ). HasCommands y.0) (same_Some (Promise b s c.0.0, c.0.1) x c.2) tt
by_kind version b s bytes x false false true four e =
    let a = bind_some (ballot_at version bytes) (λ promised. Some (Refuse b s promised.0, promised.1)) x e in
    subst (λ (y : Message × List ℕ). HasCommands y.0) (same_Some (Refuse b s a.0.0, a.0.1) x a.2) tt
by_kind version b s bytes x false false false true e = of_run version Accept b s bytes x (λ cs least most. (least, most)) e
by_kind version b s bytes x false false false false e = of_run version Accepted b s bytes x (λ cs least most. (least, most)) e

of_ballot : (version : Version) (k : ℕ) (bytes : List ℕ) (x : Message × List ℕ) → of_ballot_at version k bytes ≡ Some x → HasCommands x.0
unfolding of_ballot_at
of_ballot version k bytes x e =
    let a = bind_some (ballot_at version bytes) (λ ballot. below_at 4 SLOTS ballot.1 >>= λ slot. cond (eqb k 1) (Some (Prepare ballot.0 slot.0, slot.1)) (cond (eqb k 2) (promise_at version ballot.0 slot.0 slot.1) (cond (eqb k 3) (refuse_at version ballot.0 slot.0 slot.1) (cond (eqb k 4) (accept_at version Accept ballot.0 slot.0 slot.1) (accept_at version Accepted ballot.0 slot.0 slot.1))))) x e in
    let c = bind_some (below_at 4 SLOTS a.0.1) (λ slot. cond (eqb k 1) (Some (Prepare a.0.0 slot.0, slot.1)) (cond (eqb k 2) (promise_at version a.0.0 slot.0 slot.1) (cond (eqb k 3) (refuse_at version a.0.0 slot.0 slot.1) (cond (eqb k 4) (accept_at version Accept a.0.0 slot.0 slot.1) (accept_at version Accepted a.0.0 slot.0 slot.1))))) x a.2 in
    by_kind version a.0.0 c.0.0 c.0.1 x (eqb k 1) (eqb k 2) (eqb k 3) (eqb k 4) c.2

by_later_kind : (version : Version) (k : ℕ) (bytes : List ℕ) (x : Message × List ℕ) (low six seven : Bool)
    → cond low (of_ballot_at version k bytes) (cond six (chosen_at bytes) (cond seven (ask_at bytes) (forward_at bytes))) ≡ Some x → HasCommands x.0
unfolding chosen_at ask_at forward_at
by_later_kind version k bytes x true six seven e = of_ballot version k bytes x e
by_later_kind version k bytes x false true seven e =
    let a = bind_some (below_at 4 SLOTS bytes) (λ slot. command_at slot.1 >>= λ command. Some (Chosen slot.0 command.0, command.1)) x e in
    let c = bind_some (command_at a.0.1) (λ command. Some (Chosen a.0.0 command.0, command.1)) x a.2 in
    subst (λ (y : Message × List ℕ). HasCommands y.0) (same_Some (Chosen a.0.0 c.0.0, c.0.1) x c.2) tt
by_later_kind version k bytes x false false true e =
    let a = bind_some (below_at 4 SLOTS bytes) (λ slot. Some (Ask slot.0, slot.1)) x e in
    subst (λ (y : Message × List ℕ). HasCommands y.0) (same_Some (Ask a.0.0, a.0.1) x a.2) tt
by_later_kind version k bytes x false false false e =
    let a = bind_some (command_at bytes) (λ command. when (may_go_on command.0) (Forward command.0, command.1)) x e in
    let g = when_some (may_go_on a.0.0) (Forward a.0.0, a.0.1) x a.2 in
    subst (λ (y : Message × List ℕ). HasCommands y.0) g.1 tt

of_body : (version : Version) (k : ℕ) (bytes : List ℕ) (m : Message) → body_of version k bytes ≡ Some m → HasCommands m
unfolding body_of message_at
of_body version k bytes m e =
    let a = bind_some (message_at version k bytes) (λ message. when (eqb (length message.1) 0) message.0) m e in
    let g = when_some (eqb (length a.0.1) 0) a.0.0 m a.2 in
    subst (λ (n : Message). HasCommands n) g.1 (by_later_kind version k bytes a.0 (leb k 5) (eqb k 6) (eqb k 7) a.1)

pub readings_have_commands : (bytes : List ℕ) (m : Message) → reading bytes ≡ Ok m → HasCommands m
unfolding reading
readings_have_commands bytes m e =
    let parts = behind_ok (header_fault bytes) (body_of (version_of (slice_index bytes 4)) (slice_index bytes 5) (drop 6 bytes)) m e in
    of_body (version_of (slice_index bytes 4)) (slice_index bytes 5) (drop 6 bytes) m parts.1
