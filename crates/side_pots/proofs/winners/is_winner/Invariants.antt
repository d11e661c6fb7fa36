use Rattle.std.proofs.Common.{◌≡◌, not, true}
use Rattle.std.specs.List.{list_all, range_with_len}
use Rattle.side_pots.specs.Pots.{is_eligible}
use Rattle.side_pots.proofs.BestHands.{is_beaten_by}
use Rattle.side_pots.proofs.winners.is_winner.Given as goal

abbrev pub invariant-loop-other : goal.invariant-loop-other
invariant-loop-other l = list_all (λ other. not (is_beaten_by l.values (is_eligible l.spent l.folded l.level) l.position other)) (range_with_len 0 l.other) ≡ true
