use Rattle.std.proofs.Common.{◌≡◌, ℕ, ◌+◌, ◌≤◌, ◌==◌, ◌&&◌, true, min, List, [], ◌∷◌, ◌++◌, refl, sym, ◌∙◌, subst, arith}
use Rattle.std.proofs.lemmas.Bool.{and_parts}
use Rattle.std.proofs.lemmas.List.{append-nil}
use Rattle.node_runs.specs.NoteLimits.{IsAccount, waiting_at, has_room, counted_at}
use Rattle.node_runs.specs.NoteSteps.{Waits}
use Rattle.node_runs.specs.declared.note_limits.Count.{Count}
use Rattle.node_runs.proofs.Accounts.{passed, told_whole, counted, once}
use Rattle.node_runs.proofs.note_limits.NoteLimits.note.Goals as goal

pub returns-then-is_free-clause-account : goal.returns-then-is_free-clause-account
returns-then-is_free-clause-account c = λ came told account.
    let later : c.args.self.now.clock ≤ c.pass.new.self.clock = omega (arith, c.pass.ensures.clock) in
    let mid = passed came told c.args.self.now c.pass.new.self account later c.pass.ensures.recent c.pass.ensures.waiting in
    let free : (waiting_at c.pass.new.self c.args.group == 0 && has_room c.pass.new.self.recent.items c.args.group) ≡ true = sym c.is_free.ensures ∙ c.if-is_free.true in
    let parts = and_parts (waiting_at c.pass.new.self c.args.group == 0) (has_room c.pass.new.self.recent.items c.args.group) free in
    subst (λ (t : ℕ). IsAccount (came ++ counted_at t c.args.group c.args.count ∷ []) (told ++ counted_at t c.args.group c.args.count ∷ []) c.put.new.self) (sym c.put.ensures.clock)
    (told_whole came told c.pass.new.self c.put.new.self (counted_at c.pass.new.self.clock c.args.group c.args.count) mid parts.1 refl c.put.ensures.clock c.put.ensures.recent c.put.ensures.waiting)

pub returns-then-is_free-clause-at_once : goal.returns-then-is_free-clause-at_once
returns-then-is_free-clause-at_once c = λ came told account.
    let later : c.args.self.now.clock ≤ c.pass.new.self.clock = omega (arith, c.pass.ensures.clock) in
    let mid = passed came told c.args.self.now c.pass.new.self account later c.pass.ensures.recent c.pass.ensures.waiting in
    once came told c.args.self.now c.pass.new.self c.args.group c.put.new.self.clock _ mid c.pass.ensures.waiting c.put.ensures.clock (sym c.if-is_free.true ∙ c.is_free.ensures)

pub returns-clause-account : goal.returns-clause-account
returns-clause-account c = λ came told account.
    let later : c.args.self.now.clock ≤ c.pass.new.self.clock = omega (arith, c.pass.ensures.clock) in
    let mid = passed came told c.args.self.now c.pass.new.self account later c.pass.ensures.recent c.pass.ensures.waiting in
    let all : c.saturating_add-all.result ≡ min 18446744073709551615 (waiting_at c.pass.new.self c.args.group + c.args.count) = omega (arith, c.saturating_add-all.ensures, c.count_of.ensures) in
    let waits : Waits c.args.group (min 18446744073709551615 (waiting_at c.pass.new.self c.args.group + c.args.count)) c.pass.new.self c.set_waiting.new.self =
    subst (λ (n : ℕ). Waits c.args.group n c.pass.new.self c.set_waiting.new.self) all c.set_waiting.ensures.waits in
    subst (λ (t : ℕ). IsAccount (came ++ counted_at t c.args.group c.args.count ∷ []) (told ++ []) c.set_waiting.new.self) (sym c.set_waiting.ensures.clock)
    (subst (λ (l : List Count). IsAccount (came ++ counted_at c.pass.new.self.clock c.args.group c.args.count ∷ []) l c.set_waiting.new.self) (sym (append-nil told))
    (counted came told c.pass.new.self c.set_waiting.new.self (counted_at c.pass.new.self.clock c.args.group c.args.count) mid c.set_waiting.ensures.clock c.set_waiting.ensures.recent waits))

pub returns-clause-at_once : goal.returns-clause-at_once
returns-clause-at_once c = λ came told account.
    let later : c.args.self.now.clock ≤ c.pass.new.self.clock = omega (arith, c.pass.ensures.clock) in
    let mid = passed came told c.args.self.now c.pass.new.self account later c.pass.ensures.recent c.pass.ensures.waiting in
    once came told c.args.self.now c.pass.new.self c.args.group c.set_waiting.new.self.clock _ mid c.pass.ensures.waiting c.set_waiting.ensures.clock (sym c.if-is_free.false ∙ c.is_free.ensures)
