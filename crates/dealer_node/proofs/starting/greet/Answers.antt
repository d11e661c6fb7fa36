use Rattle.dealer_node.specs.Members.{place_at}
use Rattle.dealer_node.proofs.Messages.{asks_fit}
use Rattle.dealer_node.proofs.starting.greet.Goals as goal

pub returns-then-promised-gt0-clause-fits : goal.returns-then-promised-gt0-clause-fits
returns-then-promised-gt0-clause-fits c = λ found same.
    asks_fit (place_at c.args.member.now) found c.nodes.result c.node.result c.nodes.ensures.value c.node.ensures.value c.send_to_others.ensures.fits
