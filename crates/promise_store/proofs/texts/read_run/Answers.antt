use Rattle.std.proofs.Common.{◌≡◌, ◌∙◌, ◌++◌, [], ℕ, List, length, ap, sym, arith, get_or, take, drop, Some, ◌==◌, true, false}
use Rattle.std.specs.Prelude.{◌-◌}
use Rattle.std.proofs.lemmas.List.{take_all, append-nil}
use Rattle.slot_log.specs.declared.command.Command.{Command}
use Rattle.std.specs.List.{flat_map}
use Rattle.paxos_wire.specs.Spelling.{ballot_text, slot_text, command_text, run_text}
use Rattle.promise_store.specs.declared.records.Record.TheVariants.{Promised, VotedOne, Opened, Voted}
use Rattle.promise_store.proofs.Gated.{kind_of, behind_kind, slot_of_run}
use Rattle.promise_store.proofs.texts.read_run.Goals.{then-count-eq0-via-then-count-eq0, then-count-eq0-via-else-count-eq0+then-count-gt-WINDOW, then-count-eq0-via-else-count-eq0+else-count-gt-WINDOW+then-slot-count}
use Rattle.promise_store.proofs.texts.read_run.Goals as goal

-- what stands behind a count
behind_count : (bytes : List ℕ) (cs : List Command) → bytes ≡ run_text cs → (get_or bytes 0 0 ≡ length cs) × (take (length bytes - 1) (drop 1 bytes) ≡ flat_map command_text cs ++ [])
behind_count bytes cs is = (
  ap (λ (l : List ℕ). get_or l 0 0) is,
  ap (λ (l : List ℕ). take (length l - 1) (drop 1 l)) is ∙ take_all _ (flat_map command_text cs) (omega arith) ∙ sym (append-nil (flat_map command_text cs)),
)

pub returns-then-count-eq0-clause-only : goal.returns-then-count-eq0-clause-only
returns-then-count-eq0-clause-only c (Promised ballot) is text = absurd (let kinds = ap kind_of text in omega (arith, kinds))
returns-then-count-eq0-clause-only c (VotedOne ballot slot command) is text = absurd (let kinds = ap kind_of text in omega (arith, kinds))
returns-then-count-eq0-clause-only c Opened is text = absurd (let kinds = ap kind_of text in omega (arith, kinds))
returns-then-count-eq0-clause-only c (Voted ballot slot commands) is text =
    let all : c.args.bytes.now ≡ ballot_text ballot ++ (slot_text slot ++ run_text commands) = ap behind_kind text in
    let one = c.in_ok-ballot.ensures.only ballot (slot_text slot ++ run_text commands) is.0 is.0.node all in
    let two = c.in_ok-slot.ensures.only slot (run_text commands) (slot_of_run slot commands is.1) one.1 in
    let size : get_or c.in_ok-slot.rest.now 0 0 ≡ length commands = ap (λ (l : List ℕ). get_or l 0 0) two.1 in
    absurd (elim c.then-count-eq0.branch [
      | then-count-eq0-via-then-count-eq0 w ↦ omega (arith, size, w.if-count-eq0.true, is.1.least)
      | then-count-eq0-via-else-count-eq0+then-count-gt-WINDOW w ↦ omega (arith, size, w.if-count-gt-WINDOW.true, is.1.most)
      | then-count-eq0-via-else-count-eq0+else-count-gt-WINDOW+then-slot-count w ↦ omega (arith, size, two.0, w.if-slot-count.true, is.1.slots)
    ])

pub returns-in_err-rest-clause-only : goal.returns-in_err-rest-clause-only
returns-in_err-rest-clause-only c (Promised ballot) is text = absurd (let kinds = ap kind_of text in omega (arith, kinds))
returns-in_err-rest-clause-only c (VotedOne ballot slot command) is text = absurd (let kinds = ap kind_of text in omega (arith, kinds))
returns-in_err-rest-clause-only c Opened is text = absurd (let kinds = ap kind_of text in omega (arith, kinds))
returns-in_err-rest-clause-only c (Voted ballot slot commands) is text =
    let all : c.args.bytes.now ≡ ballot_text ballot ++ (slot_text slot ++ run_text commands) = ap behind_kind text in
    let one = c.in_ok-ballot.ensures.only ballot (slot_text slot ++ run_text commands) is.0 is.0.node all in
    let two = c.in_ok-slot.ensures.only slot (run_text commands) (slot_of_run slot commands is.1) one.1 in
    let behind = behind_count c.in_ok-slot.rest.now commands two.1 in
    absurd (c.in_err-rest.ensures.only commands [] (sym behind.0) is.1.each is.2 behind.1)

pub returns-then-is_empty-clause-only : goal.returns-then-is_empty-clause-only
returns-then-is_empty-clause-only c (Promised ballot) is text = absurd (let kinds = ap kind_of text in omega (arith, kinds))
returns-then-is_empty-clause-only c (VotedOne ballot slot command) is text = absurd (let kinds = ap kind_of text in omega (arith, kinds))
returns-then-is_empty-clause-only c Opened is text = absurd (let kinds = ap kind_of text in omega (arith, kinds))
returns-then-is_empty-clause-only c (Voted ballot slot commands) is text =
    let all : c.args.bytes.now ≡ ballot_text ballot ++ (slot_text slot ++ run_text commands) = ap behind_kind text in
    let one = c.in_ok-ballot.ensures.only ballot (slot_text slot ++ run_text commands) is.0 is.0.node all in
    let two = c.in_ok-slot.ensures.only slot (run_text commands) (slot_of_run slot commands is.1) one.1 in
    let behind = behind_count c.in_ok-slot.rest.now commands two.1 in
    let parts = c.in_ok-rest.ensures.only commands [] (sym behind.0) is.1.each is.2 behind.1 in
    let same : c.new.result ≡ commands = c.new.ensures ∙ c.as_slice.ensures.value ∙ parts.0 in
    (λ i. Some (Voted (one.0 i) (two.0 i) (same i)))

pub returns-else-is_empty-clause-only : goal.returns-else-is_empty-clause-only
returns-else-is_empty-clause-only c (Promised ballot) is text = absurd (let kinds = ap kind_of text in omega (arith, kinds))
returns-else-is_empty-clause-only c (VotedOne ballot slot command) is text = absurd (let kinds = ap kind_of text in omega (arith, kinds))
returns-else-is_empty-clause-only c Opened is text = absurd (let kinds = ap kind_of text in omega (arith, kinds))
returns-else-is_empty-clause-only c (Voted ballot slot commands) is text =
    let all : c.args.bytes.now ≡ ballot_text ballot ++ (slot_text slot ++ run_text commands) = ap behind_kind text in
    let one = c.in_ok-ballot.ensures.only ballot (slot_text slot ++ run_text commands) is.0 is.0.node all in
    let two = c.in_ok-slot.ensures.only slot (run_text commands) (slot_of_run slot commands is.1) one.1 in
    let behind = behind_count c.in_ok-slot.rest.now commands two.1 in
    let parts = c.in_ok-rest.ensures.only commands [] (sym behind.0) is.1.each is.2 behind.1 in
    absurd (let more : false ≡ (length c.in_ok-rest.rest.now == 0) = c.if-is_empty.ensures in let e : false ≡ true = more ∙ ap (λ (l : List ℕ). length l == 0) parts.1 in cc)
