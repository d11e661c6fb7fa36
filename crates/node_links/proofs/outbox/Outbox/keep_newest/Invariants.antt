use Rattle.std.proofs.Common.{◌≡◌, drop}
use Rattle.node_links.proofs.outbox.Outbox.keep_newest.Given as goal

abbrev pub invariant-loop : goal.invariant-loop
invariant-loop l = (l.self-inside.frames.items ≡ drop l.counter l.initial.self-inside.frames.items) × (l.self-inside.beat ≡ l.initial.self-inside.beat) × (l.self-inside.lives ≡ l.initial.self-inside.lives) × (l.self-inside.settings ≡ l.initial.self-inside.settings) × (l.self-inside.promised ≡ l.initial.self-inside.promised)
