use Rattle.std.proofs.Common.{List, ℕ, sym, ap, subst, refl, append_assoc}
use Rattle.std.proofs.Output.{has_written_append, has_written_of_eq}
use Rattle.std.specs.Fmt.{HasWritten}
use Rattle.slot_log.specs.declared.command.Command.TheVariants.{Act, Away}
use Rattle.paxos_wire.specs.Lines.{command_line}
use Rattle.paxos_wire.proofs.print_messages.CommandLineDisplay.fmt.Goals as goal

pub returns-in_ok-write-in-Act-clause-writes : goal.returns-in_ok-write-in-Act-clause-writes
returns-in_ok-write-in-Act-clause-writes g c = λ plain ok.
    let first = c.in_ok-write-in-Act.ensures.writes plain refl in
    let second = c.write-in-Act-2.ensures.writes first.plain ok in
    let whole = ap command_line (sym c.in-Act.is) in
    subst (λ (line : List ℕ). HasWritten g.W.Write.write_str_gives c.args.f.now line c.write-in-Act-2.new.self) whole
    (has_written_of_eq _ _ _ (command_line (Act c.in-Act.hand c.in-Act.index c.in-Act.action)) _ (simp append_assoc) (has_written_append _ _ _ _ _ _ first second))

pub returns-in-Away-clause-writes : goal.returns-in-Away-clause-writes
returns-in-Away-clause-writes g c = λ plain ok.
    let whole = ap command_line (sym c.in-Away.is) in
    subst (λ (line : List ℕ). HasWritten g.W.Write.write_str_gives c.args.f.now line c.write-in-Away.new.self) whole
    (has_written_of_eq _ _ _ (command_line (Away c.in-Away.hand c.in-Away.index)) _ (simp append_assoc) (c.write-in-Away.ensures.writes plain ok))
