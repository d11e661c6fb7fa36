use Rattle.std.proofs.Common.{◌≡◌, ◌+◌, ◌<◌, ◌≤◌, ℕ, None, Some, IfSome}
use Rattle.node_links.specs.declared.owed.Question.{Question}
use Rattle.node_peers.specs.declared.limits.TheConstants.{HOLD}
use Rattle.node_peers.specs.Asking.{question_at}
use Rattle.node_peers.specs.Leaving.{MayBeTold, NeedsNoAnswer, aside_of, newest_of}
use Rattle.node_peers.specs.Peering.{own_of}
use Rattle.node_peers.proofs.peers.Peers.first_aside.Given as goal

abbrev pub invariant-loop-number : goal.invariant-loop-number
invariant-loop-number l = record {
  may : IfSome l.first (MayBeTold (own_of l.self) l.self.peers.items (aside_of l.self));
  none :
      l.first ≡ None → l.self.own_front.moved + HOLD ≤ l.now → (number : ℕ) → number < l.number → (question : Question) → question_at (aside_of l.self) number ≡ Some question
      → NeedsNoAnswer (own_of l.self) l.self.peers.items (newest_of l.self) number question;
}
