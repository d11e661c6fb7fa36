use Rattle.std.proofs.Common.{rules}
use Rattle.promise_store.proofs.Calls.{write_noted, tied_wrote}
use Rattle.promise_store.proofs.medium.Medium.write_at.Goals as goal

pub invariant_of-self-then-not-passes : goal.invariant_of-self-then-not-passes
invariant_of-self-then-not-passes c =
    record { tied = tied_wrote _ _ _ _ _ _ c.args.self.now.tied c.args.at c.in-Ok.copy c.args.passes c.write.new.file.items c.push_reserved.new.self.items (search rules) (search rules) }

pub invariant_of-self-else-not-passes : goal.invariant_of-self-else-not-passes
invariant_of-self-else-not-passes c =
    record { tied = tied_wrote _ _ _ _ _ _ c.args.self.now.tied c.args.at c.in-Ok.copy c.args.passes c.write.new.file.items c.push_reserved.new.self.items (search rules) (search rules) }

pub returns-then-not-passes-clause-crash : goal.returns-then-not-passes-clause-crash
returns-then-not-passes-clause-crash c =
    write_noted c.args.self.now.calls.items c.push_reserved.new.self.items c.args.at c.in-Ok.copy c.args.bytes.now c.args.passes (search rules) (search rules)

pub returns-clause-crash : goal.returns-clause-crash
returns-clause-crash c =
    write_noted c.args.self.now.calls.items c.push_reserved.new.self.items c.args.at c.in-Ok.copy c.args.bytes.now c.args.passes (search rules) (search rules)

pub returns-clause-nothing : goal.returns-clause-nothing
returns-clause-nothing c = search rules
