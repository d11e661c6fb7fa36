use Rattle.dealer_node.specs.Members.{place_at}
use Rattle.dealer_node.specs.Outs.{told_by}
use Rattle.dealer_node.proofs.Answered.{act_taken}
use Rattle.dealer_node.proofs.seat_input.take_act.Goals as goal

pub returns-clause-taken : goal.returns-clause-taken
returns-clause-taken c = act_taken (place_at c.args.member.now) c.args.table.now c.args.promised c.args.act.now c.args.pending.now c.wait.new.pending (told_by c.args.made.now) c.forward.new.frames.texts c.wait.ensures.value c.forward.ensures.texts c.forward.ensures.fits
