-- What the fields of a member keep, and the member that they make.
use Rattle.dealer_node.specs.declared.member.Member.TheInside.{Inside}
use Rattle.dealer_node.specs.Members.{Membership, IsMember}

abbrev pub member_of : Inside → Membership
member_of p = record {
  setting = record { game = p.game; title = record { name = p.name; game = p.game_word.items; hands = p.hands }; names = p.names };
  source = p.source;
  nodes = p.nodes;
  node = p.node;
}

pub record IsKept (p : Inside) : Type 0 where
  pub kept : IsMember (member_of p)
