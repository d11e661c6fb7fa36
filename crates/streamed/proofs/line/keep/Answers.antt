use Rattle.std.proofs.Common.{◌∙◌, arith}
use Rattle.streamed.proofs.Takes.{take_room, take_full}
use Rattle.streamed.proofs.line.keep.Goals as goal

pub returns-then-len-le-LONGEST_LINE : goal.returns-then-len-le-LONGEST_LINE
returns-then-len-le-LONGEST_LINE c = c.push.ensures.items ∙ take_room 336 c.args.line.now.items c.args.byte (omega arith)

pub returns-else-len-le-LONGEST_LINE : goal.returns-else-len-le-LONGEST_LINE
returns-else-len-le-LONGEST_LINE c = take_full 336 c.args.line.now.items c.args.byte (omega arith)
