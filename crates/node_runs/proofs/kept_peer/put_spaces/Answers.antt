use Rattle.std.proofs.Common.{[], sym}
use Rattle.std.proofs.lemmas.List.{append-nil}
use Rattle.node_runs.proofs.kept_peer.put_spaces.Goals as goal

pub loop-missing-init : goal.loop-missing-init
loop-missing-init c = record { spaces = []; are = tt; form = sym (append-nil c.args.text.now.items) }
