use Rattle.std.proofs.Common.{◌≡◌, ◌<◌, ℕ}
use Rattle.std.specs.Prelude.{slice_index}
use Rattle.game_def.specs.Game.{raise_size_of}
use Rattle.match_file.proofs.sameness.have_same_rounds.Given as goal

abbrev pub invariant-loop-round : goal.invariant-loop-round
invariant-loop-round l = (k : ℕ) → k < l.round → (raise_size_of l.game k ≡ raise_size_of l.other k) × (slice_index l.game.first_players k ≡ slice_index l.other.first_players k) × (slice_index l.game.max_raises k ≡ slice_index l.other.max_raises k)
