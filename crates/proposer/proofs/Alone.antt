-- A ballot that just began doesn't lead by its first promise.
use Rattle.std.proofs.Common.{◌≡◌, ◌≢◌, ℕ, ◌≤◌, ◌*◌, ◌⊎◌, inl, inr, Bool, true, false, true≢false, if◌then◌else◌, List, Option, Some, None, is_some, sym, ap, ◌∙◌, arith, ◌==◌, get_or, set, replicate, get_or-set_other}
use Rattle.std.proofs.lemmas.Bool.{le-ltb}
use Rattle.std.proofs.lemmas.Bool.Decides.{eqb_tells}
use Rattle.paxos_wire.specs.declared.limits.TheConstants.{NODES}
use Rattle.paxos_wire.specs.declared.ballot.Ballot.{Ballot}
use Rattle.paxos_wire.specs.declared.entry.Entry.{Entry}
use Rattle.protocol_model.specs.Quorums.{count}
use Rattle.protocol_model.proofs.Sets.{all_same}
use Rattle.protocol_model.proofs.Quorums.{one_counted}
use Rattle.proposer.specs.Campaigns.{new_campaign, has_promised, has_quorum, is_counted, with_promise}

-- of a ballot without promises where one is set, no other stands
set_alone : (from node : ℕ) (told : List Entry) → is_some (get_or (set (replicate NODES None) from (Some told)) node None) ≡ true → node ≡ from
set_alone from node told is = by_case (eqb_tells node from)
  where
    by_case : ((node == from) ≡ true) × (node ≡ from) ⊎ ((node == from) ≡ false) × (node ≢ from) → node ≡ from
    by_case (inl same) = same.1
    by_case (inr other) =
        let none : get_or (set (replicate NODES None) from (Some told)) node None ≡ None =
        get_or-set_other (replicate NODES None) from node (Some told) None other.1 ∙ all_same {A = Option (List Entry)} None NODES node in
        absurd (true≢false (sym is ∙ ap is_some none))

alone_by : (counts : Bool) (from : ℕ) (begun : Ballot) (first : ℕ) (told : List Entry) (node : ℕ)
    → has_promised (if counts then record (new_campaign begun first) { promises = set (replicate NODES None) from (Some told) } else new_campaign begun first) node ≡ true
    → node ≡ from
alone_by true from begun first told node is = set_alone from node told is
alone_by false from begun first told node is = absurd (true≢false (sym is ∙ ap is_some (all_same {A = Option (List Entry)} None NODES node)))

pub one_promise_leads_not : (n from : ℕ) (begun ballot : Ballot) (first slot : ℕ) (told : List Entry) → 3 ≤ n
    → has_quorum n (with_promise n (new_campaign begun first) from ballot slot told) ≡ false
one_promise_leads_not n from begun ballot first slot told three =
    let few : count (has_promised (with_promise n (new_campaign begun first) from ballot slot told)) n ≤ 1 =
    one_counted (has_promised (with_promise n (new_campaign begun first) from ballot slot told)) from n
    (λ node below is. alone_by (is_counted n (new_campaign begun first) from ballot slot) from begun first told node is) in
    le-ltb n (2 * count (has_promised (with_promise n (new_campaign begun first) from ballot slot told)) n) (omega arith)
