use Rattle.std.proofs.Common.{◌≡◌, ℕ, List, ◌++◌, take, drop, reverse}
use Rattle.betting.specs.Text.{text}
use Rattle.matchstate.proofs.Behind.{later_text}
use Rattle.matchstate.proofs.betting_field.BettingText.after.Given as goal

abbrev pub invariant-loop-place : goal.invariant-loop-place
invariant-loop-place l = record {
  found : l.bytes ≡ text l.self-inside.game.now (reverse (take l.place l.self-inside.actions.now)) ++ l.rest;
  only : (behind : List ℕ) → l.bytes ≡ text l.self-inside.game.now (reverse l.self-inside.actions.now) ++ behind
      → l.rest ≡ later_text l.self-inside.game.now (reverse (take l.place l.self-inside.actions.now)) (drop l.place l.self-inside.actions.now) ++ behind;
}
