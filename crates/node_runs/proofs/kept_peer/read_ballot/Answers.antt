use Rattle.std.proofs.Common.{decimal, arith}
use Rattle.node_runs.proofs.KeptPeers.{ballot_is, no_dot}
use Rattle.node_runs.proofs.kept_peer.read_ballot.Goals as goal

pub returns-in_err-round-2-clause-only : goal.returns-in_err-round-2-clause-only
returns-in_err-round-2-clause-only c = λ ballot fits is.
    let parts = c.in_ok-round.ensures.only (decimal ballot.round) (decimal ballot.node) (no_dot ballot.round) is in
    let never = c.in_err-round-2.ensures.only ballot.round fits.round parts.0 in
    absurd (cc)

pub returns-in-Some-clause-only : goal.returns-in-Some-clause-only
returns-in-Some-clause-only c = λ ballot fits is.
    let parts = c.in_ok-round.ensures.only (decimal ballot.round) (decimal ballot.node) (no_dot ballot.round) is in
    let small = fits.node in
    ballot_is c.in_ok-round-2.round c.in-Some.node ballot (c.in_ok-round-2.ensures.only ballot.round fits.round parts.0) (c.in-Some.ensures.only ballot.node (omega (arith, small)) parts.1)

pub returns-in_default-clause-only : goal.returns-in_default-clause-only
returns-in_default-clause-only c = λ ballot fits is.
    let parts = c.in_ok-round.ensures.only (decimal ballot.round) (decimal ballot.node) (no_dot ballot.round) is in
    let small = fits.node in
    let large = c.if-node-lt256.false in
    let node = c.in-Some.ensures.only ballot.node (omega (arith, small)) parts.1 in
    grind arith

pub returns-in_default-2-clause-only : goal.returns-in_default-2-clause-only
returns-in_default-2-clause-only c = λ ballot fits is.
    let parts = c.in_ok-round.ensures.only (decimal ballot.round) (decimal ballot.node) (no_dot ballot.round) is in
    let small = fits.node in
    let never = c.in_default.ensures.only ballot.node (omega (arith, small)) parts.1 in
    absurd (cc)
