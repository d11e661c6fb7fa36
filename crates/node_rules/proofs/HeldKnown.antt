-- What a quorum holds highest at a slot where a command is known is that command.
use Rattle.std.proofs.Common.{◌≡◌, ℕ, ◌<◌, ◌⊎◌, inl, inr, Bool, true, false, Option, List, refl, sym, ap, subst, ◌∙◌, arith}
use Rattle.paxos_wire.specs.declared.ballot.Ballot.{Ballot}
use Rattle.slot_log.specs.declared.command.Command.{Command}
use Rattle.protocol_model.specs.Sets.{In}
use Rattle.protocol_model.specs.Ballots.{Below, AtMost}
use Rattle.protocol_model.specs.Messages.{Vote, Accept, Accepted}
use Rattle.protocol_model.specs.Quorums.{IsQuorum, IsChosenIn}
use Rattle.protocol_model.specs.Stores.{Store, unchanged}
use Rattle.protocol_model.specs.Backing.{HasVote}
use Rattle.protocol_model.specs.Dealers.{Dealer}
use Rattle.protocol_model.specs.Nodes.{Node}
use Rattle.protocol_model.specs.Worlds.{World}
use Rattle.protocol_model.specs.Laws.{IsLeft}
use Rattle.dealer_kind.specs.Kind.{Setting, dealer_of}
use Rattle.node_rules.specs.Standings.{Standing}
use Rattle.node_rules.specs.Given.{Given}
use Rattle.node_rules.specs.Calm.{IsLeastQuorum, IsHeld, IsGreatestHeld}
use Rattle.node_rules.specs.CalmRound.{AreOf}
use Rattle.protocol_model.proofs.Quorums.{quorums_meet}
use Rattle.protocol_model.proofs.Ballots.{at_most_trans, at_most_of_below, equal_or_below}
use Rattle.node_rules.proofs.Members.{is_in, is_in_in, count_list, rise_distinct}
use Rattle.node_rules.proofs.Agreeing.{one_proposal, votes_are_for}

left_now : (i : ℕ) (node : Node) (up : Bool) → node.up ≡ up → IsLeft i node node.store
left_now i node true e = inl (e, unchanged node.store refl)
left_now i node false e = inr (e, inl refl)

low_by : (lower : Ballot) (command : Command) (found : Vote) (greatest : Ballot) → AtMost found.ballot greatest
    → (found ≡ record { ballot = lower; command = command }) ⊎ Below lower found.ballot → AtMost lower greatest
low_by lower command found greatest below (inl same) = subst (λ (b : Ballot). AtMost b greatest) (ap (λ (v : Vote). v.ballot) same) below
low_by lower command found greatest below (inr above) = at_most_trans lower found.ballot greatest (at_most_of_below lower found.ballot above) below

-- in a reached world: of a slot where a node knows a command, the command of the greatest ballot that the members of a quorum hold is that one
pub held_is_known : (g : Given) (own : ℕ → Command → Bool) (setting : Setting) (n : ℕ) (deals : ℕ → ℕ → Option (List ℕ)) (world : World) (standings : ℕ → Standing) (members : List ℕ)
    (slot i : ℕ) (command known : Command) → AreOf own setting n deals world standings members → IsLeastQuorum n members → IsGreatestHeld standings members slot command
    → In (slot, known) (world.nodes i).known → command ≡ known
held_is_known g own setting n deals world standings members slot i command known are quorum held knows = sym held.same ∙ elim (equal_or_below lower held.greatest.ballot low) [
  | inl same ↦ one_proposal g dealer n world lower slot held.greatest.command known are.reached
      (subst (λ (b : Ballot). In (Accept b slot held.greatest.command) world.ever) (sym same) proposed) (g.proposed dealer n member world lower slot known are.reached accepted)
  | inr above ↦ g.carried dealer n world lower held.greatest.ballot slot known held.greatest.command are.reached chosen.1 above proposed
]
  where
    dealer : Dealer
    dealer = dealer_of setting own

    chosen : (ballot : Ballot) × IsChosenIn n world.ever ballot slot known
    chosen = g.known dealer n i world slot known are.reached knows

    lower : Ballot
    lower = chosen.0

    by_members : IsQuorum n (is_in members)
    by_members = let e = count_list n members (rise_distinct 0 n members quorum.rise) in let q = quorum.most in omega (arith, e, q)

    shared : (k : ℕ) × (k < n) × (chosen.1.0 k ≡ true) × (is_in members k ≡ true)
    shared = quorums_meet n chosen.1.0 (is_in members) chosen.1.1 by_members

    member : ℕ
    member = shared.0

    is_member : In member members
    is_member = is_in_in members member shared.3

    accepted : In (Accepted member lower slot known) world.ever
    accepted = chosen.1.2 member shared.1 shared.2

    has : HasVote (world.nodes member).store slot (record { ballot = lower; command = known })
    has = (g.left dealer n member world (world.nodes member).store (Accepted member lower slot known) are.reached
        (left_now member (world.nodes member) (world.nodes member).up refl) accepted refl tt).1

    found_held : IsHeld standings members slot has.0
    found_held = (member, is_member, ap (λ (st : Store). st.votes slot) (sym (are.of member is_member).store) ∙ has.1)

    low : AtMost lower held.greatest.ballot
    low = low_by lower known has.0 held.greatest.ballot (held.above has.0 found_held) has.2

    proposed : In (Accept held.greatest.ballot slot held.greatest.command) world.ever
    proposed = (votes_are_for dealer n world held.held.0 are.reached).0 slot held.greatest
        (ap (λ (st : Store). st.votes slot) (are.of held.held.0 held.held.1).store ∙ held.held.2)
