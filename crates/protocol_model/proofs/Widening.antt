-- A run stays one where more deals are a node's own.
use Rattle.std.proofs.Common.{ℕ, inl, inr, Bool, List}
use Rattle.slot_log.specs.declared.command.Command.{Command}
use Rattle.paxos_wire.specs.declared.ballot.Ballot.{Ballot}
use Rattle.protocol_model.specs.Messages.{Message}
use Rattle.protocol_model.specs.Dealers.{Dealer}
use Rattle.protocol_model.specs.Nodes.{Node}
use Rattle.protocol_model.specs.Moves
use Rattle.protocol_model.specs.Moves.{Output, Move, IsAtHand, MayPropose}
use Rattle.protocol_model.specs.Worlds
use Rattle.protocol_model.specs.Worlds.{World, Run}
use Rattle.protocol_model.specs.Laws.{with_own, OwnsMore}

at_hand_widens : (dealer : Dealer) (wider : ℕ → Command → Bool) (i : ℕ) (node : Node) (command : Command) → OwnsMore dealer wider
    → IsAtHand dealer i node command → IsAtHand (with_own dealer wider) i node command
at_hand_widens dealer wider i node command more (inl own) = inl (more i command own)
at_hand_widens dealer wider i node command more (inr at_hand) = inr at_hand

may_propose_widens : (dealer : Dealer) (wider : ℕ → Command → Bool) (n i : ℕ) (node : Node) (ballot : Ballot) (slot : ℕ) (command : Command) → OwnsMore dealer wider
    → MayPropose dealer n i node ballot slot command → MayPropose (with_own dealer wider) n i node ballot slot command
may_propose_widens dealer wider n i node ballot slot command more (inl told) = inl told
may_propose_widens dealer wider n i node ballot slot command more (inr free) =
    inr (free.0, at_hand_widens dealer wider i node command more free.1, free.2)

move_widens : (dealer : Dealer) (wider : ℕ → Command → Bool) (n i : ℕ) (ever : List Message) (old : Node) (out : Output) (new : Node) → OwnsMore dealer wider
    → Move dealer n i ever old out new → Move (with_own dealer wider) n i ever old out new
move_widens dealer wider n i ever old out new owns (Moves.gets message up here eo en) = Moves.gets message up here eo en
move_widens dealer wider n i ever old out new owns (Moves.hears seat bytes up eo en) = Moves.hears seat bytes up eo en
move_widens dealer wider n i ever old out new owns (Moves.connects seat up eo en) = Moves.connects seat up eo en
move_widens dealer wider n i ever old out new owns (Moves.drops seat up eo en) = Moves.drops seat up eo en
move_widens dealer wider n i ever old out new owns (Moves.closes seat up eo en) = Moves.closes seat up eo en
move_widens dealer wider n i ever old out new owns (Moves.notes seat bytes before line act up connected knows heard says eo en) = Moves.notes seat bytes before line act up connected knows heard says eo en
move_widens dealer wider n i ever old out new owns (Moves.ordered before act up knows hole orders eo en) = Moves.ordered before act up knows hole orders eo en
move_widens dealer wider n i ever old out new owns (Moves.begins ballot slot told up own below tells eo en) = Moves.begins ballot slot told up own below tells eo en
move_widens dealer wider n i ever old out new owns (Moves.promises ballot slot told up here below tells eo en) = Moves.promises ballot slot told up here below tells eo en
move_widens dealer wider n i ever old out new owns (Moves.proposes ballot first slot command up prepared none own may eo en) = Moves.proposes ballot first slot command up prepared none own (may_propose_widens dealer wider n i old ballot slot command owns may) eo en
move_widens dealer wider n i ever old out new owns (Moves.accepts ballot slot command up here at_most eo en) = Moves.accepts ballot slot command up here at_most eo en
move_widens dealer wider n i ever old out new owns (Moves.repeats ballot slot command up stored at_most eo en) = Moves.repeats ballot slot command up stored at_most eo en
move_widens dealer wider n i ever old out new owns (Moves.refuses ballot slot greater up eo en) = Moves.refuses ballot slot greater up eo en
move_widens dealer wider n i ever old out new owns (Moves.learns slot command up chosen eo en) = Moves.learns slot command up chosen eo en
move_widens dealer wider n i ever old out new owns (Moves.believes sender slot command up here eo en) = Moves.believes sender slot command up here eo en
move_widens dealer wider n i ever old out new owns (Moves.tells slot command up knows eo en) = Moves.tells slot command up knows eo en
move_widens dealer wider n i ever old out new owns (Moves.asks slot up eo en) = Moves.asks slot up eo en
move_widens dealer wider n i ever old out new owns (Moves.forwards act up said eo en) = Moves.forwards act up said eo en
move_widens dealer wider n i ever old out new owns (Moves.shows commands reader text up knows more shown eo en) = Moves.shows commands reader text up knows more shown eo en
move_widens dealer wider n i ever old out new owns (Moves.stops begun up append eo en) = Moves.stops begun up append eo en
move_widens dealer wider n i ever old out new owns (Moves.starts store down found eo en) = Moves.starts store down found eo en

pub run_widens : (dealer : Dealer) (wider : ℕ → Command → Bool) (n : ℕ) (first last : World) → OwnsMore dealer wider
    → Run dealer n first last → Run (with_own dealer wider) n first last
run_widens dealer wider n first last more Worlds.start = Worlds.start
run_widens dealer wider n first last more (Worlds.more between i out node end run within move after) =
    Worlds.more between i out node end (run_widens dealer wider n first between more run) within
    (move_widens dealer wider n i between.ever (between.nodes i) out node more move) after
