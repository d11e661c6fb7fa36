-- What a peer has told of itself, and since when.
use Rattle.std.specs.Prelude.{ℕ, ◌==◌, ◌&&◌, nat_lt, Bool, not, if◌then◌else◌, Option, Some, None}
use Rattle.clockwork.specs.declared.known.PeerReport.{PeerReport}

-- both, or neither
abbrev pub is_alike : Bool → Bool → Bool
is_alike one other = if one then other else not other

-- the earlier moment where it is the same, else the present one
abbrev pub since_same : Bool → ℕ → ℕ → ℕ
since_same same earlier now = if same then earlier else now

-- since when it has told this front while that was below this node's, both without a break
abbrev pub below_since : Option PeerReport → (front own now : ℕ) → ℕ
below_since None front own now = now
below_since (Some earlier) front own now = since_same (earlier.front == front && nat_lt front own) earlier.below now

-- since when it has told that it campaigns, or that it doesn't
abbrev pub told_since : Option PeerReport → Bool → ℕ → ℕ
told_since None campaigns now = now
told_since (Some earlier) campaigns now = since_same (is_alike earlier.campaigns campaigns) earlier.told now

-- when it last told a greater front than before; at first, now
abbrev pub risen_since : Option PeerReport → (front now : ℕ) → ℕ
risen_since None front now = now
risen_since (Some earlier) front now = since_same (not (nat_lt earlier.front front)) earlier.risen now

-- by a heartbeat that tells this front, whether the peer campaigns, and whether the match is over there, where this node's front is the other one
abbrev pub report_after : Option PeerReport → ℕ → Bool → Bool → (own now : ℕ) → PeerReport
report_after earlier front campaigns over own now = record {
  front = front;
  below = below_since earlier front own now;
  campaigns = campaigns;
  told = told_since earlier campaigns now;
  over = over;
  risen = risen_since earlier front now;
}
