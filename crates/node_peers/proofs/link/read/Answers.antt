use Rattle.std.proofs.Common.{true, false, Some, refl}
use Rattle.node_peers.proofs.Fitting.{moves_still, moves_on}
use Rattle.node_peers.proofs.link.read.Goals as goal

pub returns-then-not-read_piece-clause-moves : goal.returns-then-not-read_piece-clause-moves
returns-then-not-read_piece-clause-moves g c =
    moves_on c.args.place (Some c.args.link.now) (Some c.loop.link) (Some c.read_piece.new.link) c.args.passed.now.items c.loop.passed.items c.read_piece.new.passed.items
    (moves_on c.args.place (Some c.args.link.now) (Some (record c.args.link.now { has_more = false })) (Some c.loop.link) c.args.passed.now.items c.args.passed.now.items c.loop.passed.items
    (moves_still c.args.place c.args.link.now (record c.args.link.now { has_more = false }) c.args.passed.now.items c.args.passed.now.items refl refl refl) c.loop.invariant.moves) c.read_piece.ensures.moves

pub returns-clause-moves : goal.returns-clause-moves
returns-clause-moves g c =
    moves_on c.args.place (Some c.args.link.now) (Some c.loop.link) (Some (record c.loop.link { has_more = true })) c.args.passed.now.items c.loop.passed.items c.loop.passed.items
    (moves_on c.args.place (Some c.args.link.now) (Some (record c.args.link.now { has_more = false })) (Some c.loop.link) c.args.passed.now.items c.args.passed.now.items c.loop.passed.items
    (moves_still c.args.place c.args.link.now (record c.args.link.now { has_more = false }) c.args.passed.now.items c.args.passed.now.items refl refl refl) c.loop.invariant.moves)
    (moves_still c.args.place c.loop.link (record c.loop.link { has_more = true }) c.loop.passed.items c.loop.passed.items refl refl refl)
