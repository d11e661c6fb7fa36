use Rattle.std.proofs.Common.{refl}
use Rattle.dealer_node.specs.Outs.{told_by}
use Rattle.dealer_node.specs.Working.{head_of}
use Rattle.dealer_node.proofs.Started.{starts_by}
use Rattle.dealer_node.proofs.starting.open.Goals as goal

pub returns-in-Ok-clause-starts : goal.returns-in-Ok-clause-starts
returns-in-Ok-clause-starts g c = λ store begun honest leaves.
    let head = head_of c.args.member.now in
    starts_by g.D.Disk c.args.member.now store begun c.args.disk c.in-Ok.acceptor c.args.running (told_by c.args.made.now) (told_by c.greet.new.made)
    (c.in-Ok.ensures.opened store begun honest leaves) c.requires.runs (c.in-Ok.ensures.reopens.during store begun honest leaves)
    (λ found keeps. c.greet.ensures.told found (c.promised.ensures.kept head found keeps honest))
    (λ found keeps. c.greet.ensures.fits found (c.promised.ensures.kept head found keeps honest))

pub returns-in-Ok-clause-stands : goal.returns-in-Ok-clause-stands
returns-in-Ok-clause-stands g c = λ honest.
    let opened = c.in-Ok.ensures.stands honest in
    record { held = opened.0; stands = opened.1; now = record { running = c.requires.runs opened.0; keeps = opened.2; unbegun = refl; stands = tt } }

pub returns-in-Err-clause-stays : goal.returns-in-Err-clause-stays
returns-in-Err-clause-stays g c = λ store begun honest leaves.
    let reopens = c.in-Err.ensures.reopens_err in record {
      leaves = reopens.leaves store begun honest leaves;
      moments = reopens.during store begun honest leaves;
      fault = c.in-Err.ensures.refused store begun honest leaves;
    }
