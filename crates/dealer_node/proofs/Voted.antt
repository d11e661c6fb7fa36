-- What a node tells of commands and of its own votes, as it stands among what a call makes.
use Rattle.std.proofs.Common.{◌≡◌, ℕ, List, length, ◌+◌, ◌*◌, ◌++◌, ap, refl, sym, subst, ◌∙◌}
use Rattle.std.specs.Prelude.{map}
use Rattle.paxos_wire.specs.declared.ballot.Ballot.{Ballot}
use Rattle.paxos_wire.specs.declared.message.Message.{Message}
use Rattle.paxos_wire.specs.declared.message.Message.TheVariants.{Accepted}
use Rattle.paxos_wire.specs.declared.limits.TheConstants.{RUN_FRONT, MOST_COMMAND}
use Rattle.paxos_wire.specs.Fits.{Fits, IsBallot, IsCommandRun, most_bytes}
use Rattle.slot_log.specs.declared.command.Command.{Command}
use Rattle.node_rules.specs.Standings.{Standing}
use Rattle.node_rules.specs.Sending.{Frame, to_first, to_others}
use Rattle.node_rules.specs.Turns.{Turn, sending, behind, joined}
use Rattle.node_rules.specs.Learning.{counting_votes}
use Rattle.dealer_node.specs.declared.running.Running.{Running}
use Rattle.dealer_node.specs.Texts.{Marked}
use Rattle.dealer_node.specs.Members.{Membership, place_at}
use Rattle.dealer_node.specs.Outs.{Told}
use Rattle.dealer_node.specs.Turned.{framed}
use Rattle.dealer_node.specs.Fitting.{AreMessages}
use Rattle.dealer_node.specs.Running.{IsRunning, TakesTurn}
use Rattle.dealer_node.specs.declared.voting.Kind.{Kind}
use Rattle.dealer_node.specs.declared.voting.Kind.TheVariants as kind
use Rattle.dealer_node.specs.Voting.{message_with, telling_votes}
use Rattle.dealer_node.proofs.Telling.{told_with}
use Rattle.dealer_node.proofs.Learned.{sent_taken, taken_behind}

pub messages_to : (nodes node n i : ℕ) (message : Message) → n ≡ nodes → i ≡ node → AreMessages (to_first n i message) → AreMessages (to_first nodes node message)
messages_to nodes node n i message a b are =
    let P : ℕ → Type 0 = λ k. AreMessages (to_first k i message) in
    let Q : ℕ → Type 0 = λ k. AreMessages (to_first nodes k message) in
    subst Q b (subst P a are)

pub fits_with : (k : Kind) (ballot : Ballot) (slot : ℕ) (commands : List Command) → IsBallot ballot → IsCommandRun slot commands → Fits (message_with k ballot slot commands)
fits_with kind.Proposed ballot slot commands numbered run = (numbered, run)
fits_with kind.Voted ballot slot commands numbered run = (numbered, run)

pub bytes_with : (k : Kind) (ballot : Ballot) (slot : ℕ) (commands : List Command) → most_bytes (message_with k ballot slot commands) ≡ RUN_FRONT + MOST_COMMAND * length commands
bytes_with kind.Proposed ballot slot commands = refl
bytes_with kind.Voted ballot slot commands = refl

pub votes_told : (member : Membership) (old new : Running) (node : ℕ) (ballot : Ballot) (slot : ℕ) (commands : List Command) (told later : Told) (texts : List (Marked ℕ)) (s : Standing)
    → IsRunning member old s → node ≡ member.node → texts ≡ told.frames ++ map framed (to_others (place_at member) (Accepted ballot slot commands)) → AreMessages (to_others (place_at member) (Accepted ballot slot commands))
    → TakesTurn member new (told_with texts told.shown told.faults) later (counting_votes (place_at member) node ballot slot commands s)
    → TakesTurn member new told later (telling_votes (place_at member) ballot slot commands s)
votes_told member old new node ballot slot commands told later texts s is own e are t =
    let frames : List Frame = to_others (place_at member) (Accepted ballot slot commands) in
    let sent : Turn = sending frames s in
    record {
      turn = joined sent t.turn;
      rule = ap (behind sent) (sym (ap (λ i. counting_votes (place_at member) i ballot slot commands s) own) ∙ t.rule);
      taken = taken_behind member old new told (told_with texts told.shown told.faults) later sent t.turn (sent_taken member old s told texts frames is e are) t.taken;
    }
