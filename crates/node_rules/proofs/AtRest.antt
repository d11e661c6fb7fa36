-- After a tick and after a frame nothing is left to propose.
use Rattle.std.proofs.Common.{◌≡◌, ℕ, true, [], Result, Ok, Err, refl}
use Rattle.paxos_wire.specs.declared.fault.FrameFault.{FrameFault}
use Rattle.paxos_wire.specs.declared.message.Message.{Message as Wire}
use Rattle.node_rules.specs.Standings.{Standing}
use Rattle.node_rules.specs.Turns.{Turn, still, and_then}
use Rattle.node_rules.specs.Proposing.{ticking, closing}
use Rattle.node_rules.specs.Rules.{seeing, taking, on_read}
use Rattle.node_rules.specs.Called.{said_in, IsSent}
use Rattle.node_rules.specs.Proposed.{IsSettled}
use Rattle.node_rules.proofs.Paths.{Scope, first_in}
use Rattle.node_rules.proofs.Beginning.{Runs, hearing_of, begin}
use Rattle.node_rules.proofs.Framing.{stood, taken}
use Rattle.node_rules.proofs.Ticking.{tick}
use Rattle.node_rules.proofs.Settled.{then_closed, asked_closed}
use Rattle.paxos_wire.specs.Fits.{HasCommands}

pub tick_settled : (x : Scope) (s : Standing) (turn : Turn) → x.ends ≡ true → Runs x s → x.messages ≡ [] → and_then (ticking x.place s) (closing x.place) ≡ Ok turn
    → IsSettled x.place turn.after
tick_settled x s turn ends r quiet e =
    then_closed x [] (hearing_of s (first_in x)) (ticking x.place s) turn
    (stood x [] (hearing_of s (first_in x)) s (ticking x.place s) (tick x [] (hearing_of s (first_in x)) (still s) ends (begin x s r quiet))) e

pub frame_settled : (x : Scope) (s : Standing) (from : ℕ) (read : Result Wire FrameFault) (turn : Turn) → ((w : Wire) → read ≡ Ok w → HasCommands w) → x.ends ≡ true → Runs x s
    → x.messages ≡ said_in from read → IsSent x.place x.world.ever from (said_in from read) → on_read x.place from read s ≡ Ok turn → IsSettled x.place turn.after
frame_settled x s from (Err fault) turn has ends r one sent e = absurd (cc)
frame_settled x s from (Ok w) turn has ends r one sent e =
    asked_closed x [] (hearing_of s (first_in x)) from w (taking x.place from w (seeing w s)) turn (taken x s from w (has w refl) ends r one sent) e
