use Rattle.std.proofs.Common.{◌≡◌, ◌<◌, ℕ}
use Rattle.game_def.specs.Game.{stack_of, blind_of}
use Rattle.match_file.proofs.sameness.have_same_chips.Given as goal

abbrev pub invariant-loop-position : goal.invariant-loop-position
invariant-loop-position l = (k : ℕ) → k < l.position → (stack_of l.game k ≡ stack_of l.other k) × (blind_of l.game k ≡ blind_of l.other k)
