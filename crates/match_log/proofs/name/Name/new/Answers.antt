use Rattle.std.proofs.Common.{rules}
use Rattle.match_log.proofs.Named.{name_kept}
use Rattle.match_log.proofs.name.Name.new.Goals as goal

pub invariant_of-result : goal.invariant_of-result
invariant_of-result c = name_kept c.args.bytes.now c.copy_from_slice.new.self (c.is_name.ensures.0 c.if-not-is_name.false) (search rules)
