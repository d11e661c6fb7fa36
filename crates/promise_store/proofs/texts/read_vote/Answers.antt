use Rattle.std.proofs.Common.{◌≡◌, ◌∙◌, ◌++◌, [], ap, sym, arith}
use Rattle.std.proofs.lemmas.List.{append-nil}
use Rattle.paxos_wire.specs.Spelling.{ballot_text, slot_text, command_text}
use Rattle.promise_store.specs.declared.records.Record.TheVariants.{Promised, VotedOne, Opened, Voted}
use Rattle.promise_store.proofs.Gated.{kind_of, behind_kind}
use Rattle.promise_store.proofs.texts.read_vote.Goals as goal

pub returns-in_default-clause-only : goal.returns-in_default-clause-only
returns-in_default-clause-only c (Promised ballot) is text = absurd (let kinds = ap kind_of text in omega (arith, kinds))
returns-in_default-clause-only c Opened is text = absurd (let kinds = ap kind_of text in omega (arith, kinds))
returns-in_default-clause-only c (Voted ballot slot commands) is text = absurd (let kinds = ap kind_of text in omega (arith, kinds))
returns-in_default-clause-only c (VotedOne ballot slot command) is text =
    let all : c.args.bytes.now ≡ ballot_text ballot ++ (slot_text slot ++ command_text command) = ap behind_kind text in
    let one = c.in_ok-ballot.ensures.only ballot (slot_text slot ++ command_text command) is.0 is.0.node all in
    let two = c.in_ok-slot.ensures.only slot (command_text command) is.1 one.1 in
    absurd (c.in_default.ensures.only command [] is.2 (two.1 ∙ sym (append-nil (command_text command))))
