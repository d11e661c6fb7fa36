-- What a node proposes.
use borrow.Author.Tests.{le-leb, lt-leb}
use Rattle.std.proofs.Common.{◌≡◌, ℕ, zero, suc, ◌+◌, ◌-◌, ◌<◌, ◌≤◌, Bool, true, false, true≢false, List, [], ◌∷◌, ◌++◌, length, refl, ap, sym, ◌∙◌, subst, arith}
use Rattle.std.specs.Prelude.{map, replicate, slice_index_or, slice_set, ◌==◌, ◌&&◌, nat_le, not, if◌then◌else◌, Option, Some, None, IfSome, Result, Ok, Err}
use Rattle.std.specs.List.{AllByRecursion}
use Rattle.paxos_wire.specs.declared.limits.TheConstants.{NODES, SLOTS, WINDOW}
use Rattle.paxos_wire.specs.declared.ballot.Ballot.{Ballot}
use Rattle.paxos_wire.specs.declared.entry.Entry.{Entry}
use Rattle.paxos_wire.specs.declared.message.Message.TheVariants.{Prepare}
use Rattle.paxos_wire.specs.Fits.{IsBallot, IsEntry, IsInRange, IsCommandRun}
use Rattle.slot_log.specs.Slots.{front}
use Rattle.slot_log.specs.declared.command.Command.{Command}
use Rattle.protocol_model.proofs.Sets.{all_same}
use Rattle.proposer.specs.declared.campaign.Campaign.{Campaign}
use Rattle.proposer.specs.declared.fault.ProposeFault.{ProposeFault}
use Rattle.proposer.specs.declared.fault.ProposeFault.TheVariants.{OutOfWindow}
use Rattle.proposer.specs.Told.{better, best_in, best_after}
use Rattle.paxos_wire.specs.Order.{is_below}
use Rattle.proposer.specs.Campaigns.{Proposing, next_ballot, new_campaign, is_outbid, refused, is_counted, with_promise, counting, counting_from, has_quorum, leads, is_covered, is_proposed, promise_by, greatest_told}
use Rattle.proposer.specs.declared.accept_run.AcceptRun.{AcceptRun}
use Rattle.proposer.specs.CommandRuns.{may_follow, in_front, told_commands, commands_of, commands_at, accept_run_of, run_from_campaign, run_of, marked_run_from, IsBounded}
use Rattle.proposer.proofs.ToldCommands.{follows}
use Rattle.learner.specs.Learning.{Learned}
use Rattle.node_rules.specs.Standings.{Standing, applied, front_of, idle}
use Rattle.node_rules.specs.Sending.{Frame, to_first}
use Rattle.node_rules.specs.Turns.{still}
use Rattle.protocol_model.specs.Votes.{told_by}
use Rattle.node_rules.specs.Proposing.{prepared, beginning, own_value, proposal_at, closing, closing_by}
use Rattle.dealer_node.specs.declared.running.Running.{Running}
use Rattle.dealer_node.specs.Texts.{Marked}
use Rattle.dealer_node.specs.Members.{Membership, place_at}
use Rattle.dealer_node.specs.Outs.{Told}
use Rattle.dealer_node.specs.Turned.{framed}
use Rattle.dealer_node.specs.Fitting.{AreMessages}
use Rattle.dealer_node.specs.Running.{IsRunning, IsTaken, IsCampaign, IsAt, Closes, proposed_by}
use Rattle.dealer_node.specs.Scenes.{IsTableOf}
use Rattle.dealer_node.proofs.Telling.{told_with, frames_more}

-- ---- what is proposed has its numbers within their ranges

best_by : (slot : ℕ) (entry : Entry) (best : Option Entry) → IfSome best (λ e. IsEntry e) → IsEntry entry → IfSome (better best slot entry) (λ e. IsEntry e)
best_by slot entry None is one = none_by (entry.slot == slot)
  where
    none_by : (b : Bool) → IfSome (if b then Some entry else None) (λ e. IsEntry e)
    none_by true = one
    none_by false = tt
best_by slot entry (Some best) is one = some_by (entry.slot == slot) (is_below best.ballot entry.ballot)
  where
    some_by : (b below : Bool) → IfSome (if b then (if below then Some entry else Some best) else Some best) (λ e. IsEntry e)
    some_by true true = one
    some_by true false = is
    some_by false below = is

best_of : (best : Option Entry) (slot : ℕ) (entries : List Entry) → IfSome best (λ e. IsEntry e) → AllByRecursion IsEntry entries → IfSome (best_in best slot entries) (λ e. IsEntry e)
best_of best slot [] is all = is
best_of best slot (entry ∷ entries) is all = best_of (better best slot entry) slot entries (best_by slot entry best is all.0) all.1

after_of : (best : Option Entry) (slot : ℕ) (told : Option (List Entry)) → IfSome best (λ e. IsEntry e) → IfSome told (λ entries. AllByRecursion IsEntry entries) → IfSome (best_after best slot told) (λ e. IsEntry e)
after_of best slot None is all = is
after_of best slot (Some entries) is all = best_of best slot entries is all

told_entry : (campaign : Campaign) (slot n : ℕ) → IsCampaign campaign → IfSome (greatest_told campaign slot n) (λ e. IsEntry e)
told_entry campaign slot zero is = tt
told_entry campaign slot (suc n) is = after_of (greatest_told campaign slot n) slot (promise_by campaign n) (told_entry campaign slot n is) (is.told n)

abbrev Fitting : Option AcceptRun → Type 0
Fitting made = IfSome made (λ m. IsBallot m.ballot × IsCommandRun m.slot m.commands)

-- the numbers of told commands are within their ranges
front_within : (b : Bool) (told : Option Entry) (behind : List Command) → IfSome told (λ e. IsEntry e) → AllByRecursion IsInRange behind → AllByRecursion IsInRange (if b then in_front told behind else [])
front_within false told behind is all = tt
front_within true None behind is all = tt
front_within true (Some entry) behind is all = (is.command, all)

told_within : (n : ℕ) (campaign : Campaign) (more slot : ℕ) → IsCampaign campaign → AllByRecursion IsInRange (told_commands n campaign more slot)
unfolding told_commands
told_within n campaign zero slot is = tt
told_within n campaign (suc more) slot is =
    front_within (may_follow campaign slot) (greatest_told campaign slot n) (told_commands n campaign more (slot + 1)) (told_entry campaign slot n is) (told_within n campaign more (slot + 1) is)

-- they are no more than were asked for
front_short : (b : Bool) (told : Option Entry) (behind : List Command) (more : ℕ) → length behind ≤ more → length (if b then in_front told behind else []) ≤ suc more
front_short false told behind more short = omega arith
front_short true None behind more short = omega arith
front_short true (Some entry) behind more short = omega (arith, short)

told_short : (n : ℕ) (campaign : Campaign) (more slot : ℕ) → length (told_commands n campaign more slot) ≤ more
unfolding told_commands
told_short n campaign zero slot = omega arith
told_short n campaign (suc more) slot = front_short (may_follow campaign slot) (greatest_told campaign slot n) (told_commands n campaign more (slot + 1)) more (told_short n campaign more (slot + 1))

-- and stand at slots that there are
front_slots : (campaign : Campaign) (slot : ℕ) (b : Bool) (told : Option Entry) (behind : List Command) → may_follow campaign slot ≡ b → slot ≤ SLOTS
    → (slot + 1 ≤ SLOTS → slot + 1 + length behind ≤ SLOTS) → slot + length (if b then in_front told behind else []) ≤ SLOTS
front_slots campaign slot false told behind e most rest = omega (arith, most)
front_slots campaign slot true None behind e most rest = omega (arith, most)
front_slots campaign slot true (Some entry) behind e most rest =
    let one = follows campaign slot e in
    let low = one.is_slot in
    let all = rest (omega (arith, low)) in omega (arith, all)

told_slots : (n : ℕ) (campaign : Campaign) (more slot : ℕ) → slot ≤ SLOTS → slot + length (told_commands n campaign more slot) ≤ SLOTS
unfolding told_commands
told_slots n campaign zero slot most = omega (arith, most)
told_slots n campaign (suc more) slot most =
    front_slots campaign slot (may_follow campaign slot) (greatest_told campaign slot n) (told_commands n campaign more (slot + 1)) refl most (λ behind. told_slots n campaign more (slot + 1) behind)

run_within : (n : ℕ) (campaign : Campaign) (slot : ℕ) (own : Option Command) (told : Option Entry) → IsCampaign campaign → slot < SLOTS → IfSome told (λ e. IsEntry e) → IfSome own (λ c. IsInRange c)
    → 1 ≤ length (commands_of told (told_commands n campaign (WINDOW - 1) (slot + 1)) own) → IsCommandRun slot (commands_of told (told_commands n campaign (WINDOW - 1) (slot + 1)) own)
run_within n campaign slot None None is here entry within some = absurd (omega (arith, some))
run_within n campaign slot (Some command) None is here entry within some = record { least = some; most = omega arith; slots = omega (arith, here); each = (within, tt) }
run_within n campaign slot own (Some first) is here entry within some =
    let short = told_short n campaign (WINDOW - 1) (slot + 1) in
    let slots = told_slots n campaign (WINDOW - 1) (slot + 1) (omega (arith, here)) in
    record { least = some; most = omega (arith, short); slots = omega (arith, slots); each = (entry.command, told_within n campaign (WINDOW - 1) (slot + 1) is) }

run_fits : (campaign : Campaign) (slot : ℕ) (commands : List Command) → IsBallot campaign.ballot → (1 ≤ length commands → IsCommandRun slot commands) → Fitting (accept_run_of campaign slot commands)
run_fits campaign slot [] ballot within = tt
run_fits campaign slot (command ∷ more) ballot within = (ballot, within (omega arith))

ok_fits : (made other : Option AcceptRun) → (let left : Result (Option AcceptRun) ProposeFault = Ok made in left) ≡ Ok other → Fitting other → Fitting made
ok_fits made other e fits = let same : other ≡ made = cc in subst (λ (m : Option AcceptRun). Fitting m) same fits

by_tests : (campaign : Campaign) (slot : ℕ) (commands : List Command) (made : Option AcceptRun) (quorum covered proposed : Bool)
    → Ok made ≡ (let outcome : Result (Option AcceptRun) ProposeFault = if not quorum then Ok None else if not covered then Err OutOfWindow else if proposed then Ok None else Ok (accept_run_of campaign slot commands) in outcome)
    → IsBallot campaign.ballot → (1 ≤ length commands → IsCommandRun slot commands) → Fitting made
by_tests campaign slot commands made false covered proposed e ballot within = ok_fits made None e tt
by_tests campaign slot commands made true false proposed e ballot within = absurd (cc)
by_tests campaign slot commands made true true true e ballot within = ok_fits made None e tt
by_tests campaign slot commands made true true false e ballot within = ok_fits made (accept_run_of campaign slot commands) e (run_fits campaign slot commands ballot within)

pub made_fits : (nodes slot : ℕ) (campaign : Option Campaign) (own : Option Command) (made : Option AcceptRun) → Ok made ≡ run_from_campaign nodes campaign slot own
    → IfSome campaign (λ c. IsCampaign c) → slot < SLOTS → IfSome own (λ c. IsInRange c) → Fitting made
made_fits nodes slot None own made e is here within = ok_fits made None e tt
made_fits nodes slot (Some campaign) own made e is here within =
    by_tests campaign slot (commands_at nodes campaign slot own) made (has_quorum nodes campaign) (is_covered campaign.first slot) (is_proposed campaign slot) e is.ballot
    (run_within nodes campaign slot own (greatest_told campaign slot nodes) is here (told_entry campaign slot nodes is) within)

-- ---- without a quorum nothing is proposed

none_by : (campaign : Campaign) (slot : ℕ) (commands : List Command) (quorum covered proposed : Bool) → quorum ≡ false
    → (let outcome : Result (Option AcceptRun) ProposeFault = if not quorum then Ok None else if not covered then Err OutOfWindow else if proposed then Ok None else Ok (accept_run_of campaign slot commands) in Ok None ≡ outcome)
none_by campaign slot commands true covered proposed e = absurd (true≢false e)
none_by campaign slot commands false covered proposed e = refl

no_proposal : (nodes slot : ℕ) (campaign : Option Campaign) (own : Option Command) → leads nodes campaign ≡ false → Ok None ≡ run_from_campaign nodes campaign slot own
no_proposal nodes slot None own unled = refl
no_proposal nodes slot (Some campaign) own unled =
    none_by campaign slot (commands_at nodes campaign slot own) (has_quorum nodes campaign) (is_covered campaign.first slot) (is_proposed campaign slot) unled

unmarked : (campaign : Option Campaign) → campaign ≡ marked_run_from campaign (Ok None)
unmarked None = refl
unmarked (Some campaign) = refl

-- ---- nor has it more commands than are bounded

pub within_bound : (p : Proposing) (most slot : ℕ) (own : Option Command) (made : Option AcceptRun) → Ok made ≡ run_of p slot own → IsBounded p most → IfSome made (λ m. length m.commands ≤ most)
within_bound p most slot own None e bounded = tt
within_bound p most slot own (Some run) e bounded = bounded slot own run (sym e)

-- where there is no ballot nothing is proposed
pub idle_bounded : (p : Proposing) (most : ℕ) → p.campaign ≡ None → IsBounded p most
idle_bounded p most none slot own run e =
    let nothing : Ok None ≡ Ok (Some run) = ap (λ (c : Option Campaign). run_from_campaign p.nodes c slot own) (sym none) ∙ e in absurd (cc)

-- nor where no quorum has promised
pub unled_bounded : (p : Proposing) → leads p.nodes p.campaign ≡ false → IsBounded p 1
unled_bounded p unled slot own run e =
    let nothing : Ok None ≡ Ok (Some run) = no_proposal p.nodes slot p.campaign own unled ∙ e in absurd (cc)

refused_by : (b : Bool) (p : Proposing) (most : ℕ) → IsBounded p most → IsBounded (record p { campaign = if b then None else p.campaign }) most
refused_by true p most bounded = idle_bounded (record p { campaign = None }) most refl
refused_by false p most bounded = bounded

pub refused_bounded : (old new : Proposing) (promised : Ballot) → new ≡ refused old promised → (most : ℕ) → IsBounded old most → IsBounded new most
refused_bounded old new promised e most bounded = subst (λ (p : Proposing). IsBounded p most) (sym e) (refused_by (is_outbid old.campaign promised) old most bounded)

-- ---- what is proposed is of the ballot that is led

abbrev IsOf : Ballot → Option AcceptRun → Type 0
IsOf ballot made = IfSome made (λ m. m.ballot ≡ ballot)

ok_of : (ballot : Ballot) (made other : Option AcceptRun) → (let left : Result (Option AcceptRun) ProposeFault = Ok made in left) ≡ Ok other → IsOf ballot other → IsOf ballot made
ok_of ballot made other e is = let same : other ≡ made = cc in subst (λ (m : Option AcceptRun). IsOf ballot m) same is

run_is_of : (campaign : Campaign) (slot : ℕ) (commands : List Command) (ballot : Ballot) → campaign.ballot ≡ ballot → IsOf ballot (accept_run_of campaign slot commands)
run_is_of campaign slot [] ballot e = tt
run_is_of campaign slot (command ∷ more) ballot e = e

of_by_tests : (campaign : Campaign) (slot : ℕ) (commands : List Command) (made : Option AcceptRun) (ballot : Ballot) (quorum covered proposed : Bool)
    → Ok made ≡ (let outcome : Result (Option AcceptRun) ProposeFault = if not quorum then Ok None else if not covered then Err OutOfWindow else if proposed then Ok None else Ok (accept_run_of campaign slot commands) in outcome)
    → campaign.ballot ≡ ballot → IsOf ballot made
of_by_tests campaign slot commands made ballot false covered proposed e is = ok_of ballot made None e tt
of_by_tests campaign slot commands made ballot true false proposed e is = absurd (cc)
of_by_tests campaign slot commands made ballot true true true e is = ok_of ballot made None e tt
of_by_tests campaign slot commands made ballot true true false e is = ok_of ballot made (accept_run_of campaign slot commands) e (run_is_of campaign slot commands ballot is)

made_is_of : (nodes slot : ℕ) (campaign : Option Campaign) (own : Option Command) (made : Option AcceptRun) → Ok made ≡ run_from_campaign nodes campaign slot own
    → (ballot : Ballot) → IfSome campaign (λ c. c.ballot ≡ ballot) → IsOf ballot made
made_is_of nodes slot None own made e ballot is = ok_of ballot made None e tt
made_is_of nodes slot (Some campaign) own made e ballot is =
    of_by_tests campaign slot (commands_at nodes campaign slot own) made ballot (has_quorum nodes campaign) (is_covered campaign.first slot) (is_proposed campaign slot) e is

marked_stands : (campaign : Option Campaign) (made : Option AcceptRun) (ballot : Ballot) → IfSome campaign (λ c. c.ballot ≡ ballot) → IfSome (marked_run_from campaign (Ok made)) (λ c. c.ballot ≡ ballot)
marked_stands None made ballot is = tt
marked_stands (Some campaign) None ballot is = is
marked_stands (Some campaign) (Some run) ballot is = is

-- ---- the close

-- a slot is left for a node that leads
open_by : (leading : Bool) (slot : ℕ) → (leading ≡ true → slot < SLOTS) → (leading && nat_le SLOTS slot) ≡ false
open_by true slot here = lt-leb SLOTS slot (here refl)
open_by false slot here = refl

spent_by : (leading : Bool) (slot : ℕ) → leading ≡ true → SLOTS ≤ slot → (leading && nat_le SLOTS slot) ≡ true
spent_by true slot e here = le-leb SLOTS slot here
spent_by false slot e here = absurd (true≢false (sym e))

-- it leads and no slot is left
abbrev is_spent_leader : Membership → Standing → Bool
is_spent_leader member s = leads member.nodes s.campaign && nat_le SLOTS (front_of s)

-- the campaign alone has changed
runs_with : (member : Membership) (old new : Running) (s : Standing) (campaign : Option Campaign) → IsRunning member old s → new.proposer.campaign ≡ campaign → new ≡ record old { proposer = new.proposer }
    → IsRunning member new (record s { campaign = campaign })
runs_with member old new s campaign is marks rest = record {
  up = is.up;
  campaign = marks;
  learned = ap (λ (r : Running). r.learner.learned) rest ∙ is.learned;
  hands = subst (λ (r : Running). IsTableOf member.setting (applied s) r.table) (sym rest) is.hands;
  waits = ap (λ (r : Running). r.pending) rest ∙ is.waits;
  greatest = ap (λ (r : Running). r.seen) rest ∙ is.greatest;
  sessions = ap (λ (r : Running). r.seats.talks) rest ∙ is.sessions;
}

module _ (member : Membership) (old : Running) (s : Standing) (at : IsAt member old) (is : IsRunning member old s) where
  same_front : front old.learner.learned.log ≡ front_of s
  same_front = ap (λ (l : Learned). front l.log) is.learned

  same_proposal : (own : Option Command) (slot : ℕ) (outcome : Result (Option AcceptRun) ProposeFault) → outcome ≡ run_of old.proposer slot own → slot ≡ front old.learner.learned.log → own ≡ own_value (place_at member) s
      → proposal_at (place_at member) s ≡ outcome
  same_proposal own slot outcome e here value =
      sym (e ∙ (ap (λ n. run_from_campaign n old.proposer.campaign slot own) at.nodes
      ∙ (ap (λ (c : Option Campaign). run_from_campaign member.nodes c slot own) is.campaign
      ∙ (ap (λ k. run_from_campaign member.nodes s.campaign k own) (here ∙ same_front)
      ∙ ap (λ (v : Option Command). run_from_campaign member.nodes s.campaign (front_of s) v) value))))

  goes_on : (leads member.nodes old.proposer.campaign ≡ true → front old.learner.learned.log < SLOTS) → is_spent_leader member s ≡ false
  goes_on left = open_by (leads member.nodes s.campaign) (front_of s) (λ e. subst (λ k. k < SLOTS) same_front (left (ap (λ (c : Option Campaign). leads member.nodes c) is.campaign ∙ e)))

  close_by : (outcome : Result (Option AcceptRun) ProposeFault) → proposal_at (place_at member) s ≡ outcome
      → (leads member.nodes old.proposer.campaign ≡ true → front old.learner.learned.log < SLOTS)
      → closing (place_at member) s ≡ closing_by (place_at member) outcome (record s { campaign = marked_run_from s.campaign outcome })
  close_by outcome e left =
      ap (λ (b : Bool). if b then Ok (still (idle s)) else closing_by (place_at member) (proposal_at (place_at member) s) (record s { campaign = marked_run_from s.campaign (proposal_at (place_at member) s) })) (goes_on left)
      ∙ ap (λ (p : Result (Option AcceptRun) ProposeFault). closing_by (place_at member) p (record s { campaign = marked_run_from s.campaign p })) e

  closed : (made : Option AcceptRun) (after : Standing) → closing_by (place_at member) (Ok made) after ≡ proposed_by (place_at member) made after
  closed None after = refl
  closed (Some made) after = refl

  pub close_proposed : (new : Running) (own : Option Command) (slot : ℕ) (made : Option AcceptRun)
      → Ok made ≡ run_of old.proposer slot own → slot ≡ front old.learner.learned.log → own ≡ own_value (place_at member) s
      → (leads member.nodes old.proposer.campaign ≡ true → front old.learner.learned.log < SLOTS)
      → new.proposer.campaign ≡ marked_run_from old.proposer.campaign (Ok made) → new ≡ record old { proposer = new.proposer } → Closes member new s made
  close_proposed new own slot made e here value left marks rest =
      let campaign : Option Campaign = marked_run_from s.campaign (Ok made) in
      record {
        marked = record s { campaign = campaign };
        runs = runs_with member old new s campaign is (marks ∙ ap (λ (c : Option Campaign). marked_run_from c (Ok made)) is.campaign) rest;
        rule = close_by (Ok made) (same_proposal own slot (Ok made) e here value) left ∙ closed made (record s { campaign = campaign });
        rest = refl;
        stands = marked_stands s.campaign made;
        own = λ ballot led. made_is_of old.proposer.nodes slot old.proposer.campaign own made e ballot (subst (λ (c : Option Campaign). IfSome c (λ k. k.ballot ≡ ballot)) (sym is.campaign) led);
      }

  -- a node that doesn't lead proposes nothing, whatever it would of its own
  pub close_unled : leads member.nodes old.proposer.campaign ≡ false → Closes member old s None
  close_unled unled =
      close_proposed old (own_value (place_at member) s) (front old.learner.learned.log) None
      (no_proposal old.proposer.nodes (front old.learner.learned.log) old.proposer.campaign (own_value (place_at member) s) (ap (λ n. leads n old.proposer.campaign) at.nodes ∙ unled)) refl refl
      (λ leading. absurd (true≢false (sym leading ∙ unled))) (unmarked old.proposer.campaign) refl

  pub close_outside : (new : Running) (own : Option Command) (slot : ℕ) (fault : ProposeFault)
      → Err fault ≡ run_of old.proposer slot own → slot ≡ front old.learner.learned.log → own ≡ own_value (place_at member) s
      → (leads member.nodes old.proposer.campaign ≡ true → front old.learner.learned.log < SLOTS)
      → new.proposer.campaign ≡ None → new ≡ record old { proposer = new.proposer } → Closes member new s None
  close_outside new own slot fault e here value left gone rest = record {
    marked = idle s;
    runs = runs_with member old new s None is gone rest;
    rule = close_by (Err fault) (same_proposal own slot (Err fault) e here value) left;
    rest = refl;
    stands = λ ballot led. tt;
    own = λ ballot led. tt;
  }

  pub close_spent : (new : Running) → leads member.nodes old.proposer.campaign ≡ true → SLOTS ≤ front old.learner.learned.log
      → new.proposer.campaign ≡ None → new ≡ record old { proposer = new.proposer } → Closes member new s None
  close_spent new leading most gone rest =
      let leads_too : leads member.nodes s.campaign ≡ true = ap (λ (c : Option Campaign). leads member.nodes c) (sym is.campaign) ∙ leading in
      let spent : is_spent_leader member s ≡ true = spent_by (leads member.nodes s.campaign) (front_of s) leads_too (subst (λ k. SLOTS ≤ k) same_front most) in
      record {
        marked = idle s;
        runs = runs_with member old new s None is gone rest;
        rule = ap (λ (b : Bool). if b then Ok (still (idle s)) else closing_by (place_at member) (proposal_at (place_at member) s) (record s { campaign = marked_run_from s.campaign (proposal_at (place_at member) s) })) spent;
        rest = refl;
        stands = λ ballot led. tt;
        own = λ ballot led. tt;
      }

-- ---- a ballot begins

pub begun_taken : (member : Membership) (old : Running) (begun counted : Proposing) (s : Standing) (seen ballot : Ballot) (slot node nodes number : ℕ) (entries : List Entry) (told : Told) (texts : List (Marked ℕ))
    → IsAt member old → IsRunning member old s → slot ≡ front old.learner.learned.log → node ≡ member.node → nodes ≡ member.nodes → number ≡ member.node
    → ballot ≡ next_ballot old.proposer.node seen
    → begun ≡ record old.proposer { campaign = Some (new_campaign (next_ballot old.proposer.node seen) slot) }
    → counted ≡ counting begun node ballot slot entries → entries ≡ told_by s.store (front_of s)
    → texts ≡ told.frames ++ map framed (to_first nodes number (Prepare ballot slot)) → AreMessages (to_first nodes number (Prepare ballot slot))
    → IsTaken member (record old { proposer = counted }) told (told_with texts told.shown told.faults) (beginning (place_at member) ballot s)
begun_taken member old begun counted s seen ballot slot node nodes number entries told texts at is here own many own_too next begins counts tells sends fits =
    let at_front : slot ≡ front_of s = here ∙ ap (λ (l : Learned). front l.log) is.learned in
    let first : begun.campaign ≡ Some (new_campaign ballot slot) =
    ap (λ (p : Proposing). p.campaign) begins ∙ ap (λ (b : Ballot). Some (new_campaign b slot)) (sym next) in
    let total : begun.nodes ≡ member.nodes = ap (λ (p : Proposing). p.nodes) begins ∙ at.nodes in
    let campaign : counted.campaign ≡ Some (prepared (place_at member) ballot s) =
    ap (λ (p : Proposing). p.campaign) counts
    ∙ (ap (λ (c : Option Campaign). counting_from begun.nodes c node ballot slot entries) first
    ∙ (ap (λ n. Some (with_promise n (new_campaign ballot slot) node ballot slot entries)) total
    ∙ (ap (λ n. Some (with_promise member.nodes (new_campaign ballot slot) n ballot slot entries)) own
    ∙ (ap (λ k. Some (with_promise member.nodes (new_campaign ballot k) member.node ballot k entries)) at_front
    ∙ ap (λ (es : List Entry). Some (with_promise member.nodes (new_campaign ballot (front_of s)) member.node ballot (front_of s) es)) tells)))) in
    let frames : to_first nodes number (Prepare ballot slot) ≡ to_first member.nodes member.node (Prepare ballot (front_of s)) =
    ap (λ n. to_first n number (Prepare ballot slot)) many ∙ (ap (λ n. to_first member.nodes n (Prepare ballot slot)) own_too ∙ ap (λ k. to_first member.nodes member.node (Prepare ballot k)) at_front) in
    record {
      runs = record {
        up = is.up;
        campaign = campaign;
        learned = is.learned;
        hands = is.hands;
        waits = is.waits;
        greatest = is.greatest;
        sessions = is.sessions;
      };
      told = frames_more told texts (map framed (to_first member.nodes member.node (Prepare ballot (front_of s)))) (sends ∙ ap (λ (fs : List Frame). told.frames ++ map framed fs) frames);
      fits = subst (λ (fs : List Frame). AreMessages fs) frames fits;
    }

-- what the promises tell has its numbers within their ranges
abbrev AreWithin : List (Option (List Entry)) → Type 0
AreWithin promises = (node : ℕ) → IfSome (slice_index_or promises node None) (λ entries. AllByRecursion IsEntry entries)

set_within : (promises : List (Option (List Entry))) (from : ℕ) (told : List Entry) → AreWithin promises → AllByRecursion IsEntry told → AreWithin (slice_set promises from (Some told))
set_within [] from told are all node = are node
set_within (promise ∷ promises) zero told are all zero = all
set_within (promise ∷ promises) zero told are all (suc node) = are (suc node)
set_within (promise ∷ promises) (suc from) told are all zero = are zero
set_within (promise ∷ promises) (suc from) told are all (suc node) = set_within promises from told (λ k. are (suc k)) all node

none_within : AreWithin (replicate NODES None)
none_within node = subst (λ (p : Option (List Entry)). IfSome p (λ entries. AllByRecursion IsEntry entries)) (sym (all_same {A = Option (List Entry)} None NODES node)) tt

counted_within : (counts : Bool) (campaign : Campaign) (from : ℕ) (told : List Entry) → IsCampaign campaign → AllByRecursion IsEntry told
    → IsCampaign (if counts then record campaign { promises = slice_set campaign.promises from (Some told) } else campaign)
counted_within true campaign from told is all = record { ballot = is.ballot; told = set_within campaign.promises from told is.told all }
counted_within false campaign from told is all = is

pub begun_at : (member : Membership) (old : Running) (begun counted : Proposing) (seen ballot : Ballot) (slot node : ℕ) (entries : List Entry)
    → IsAt member old → IsBallot ballot → ballot ≡ next_ballot old.proposer.node seen
    → begun ≡ record old.proposer { campaign = Some (new_campaign (next_ballot old.proposer.node seen) slot) }
    → counted ≡ counting begun node ballot slot entries → AllByRecursion IsEntry entries
    → IsAt member (record old { proposer = counted })
begun_at member old begun counted seen ballot slot node entries at is next begins counts all =
    let first : begun.campaign ≡ Some (new_campaign ballot slot) = ap (λ (p : Proposing). p.campaign) begins ∙ ap (λ (b : Ballot). Some (new_campaign b slot)) (sym next) in
    let campaign : counted.campaign ≡ Some (with_promise begun.nodes (new_campaign ballot slot) node ballot slot entries) =
    ap (λ (p : Proposing). p.campaign) counts ∙ ap (λ (c : Option Campaign). counting_from begun.nodes c node ballot slot entries) first in
    let began : IsCampaign (new_campaign ballot slot) = record { ballot = is; told = none_within } in
    record {
      node = ap (λ (p : Proposing). p.node) counts ∙ (ap (λ (p : Proposing). p.node) begins ∙ at.node);
      nodes = ap (λ (p : Proposing). p.nodes) counts ∙ (ap (λ (p : Proposing). p.nodes) begins ∙ at.nodes);
      counted = at.counted;
      game = at.game;
      count = at.count;
      seats = at.seats;
      ballots = subst (λ (c : Option Campaign). IfSome c (λ k. IsCampaign k)) (sym campaign)
          (counted_within (is_counted begun.nodes (new_campaign ballot slot) node ballot slot) (new_campaign ballot slot) node entries began all);
      commands = at.commands;
      act = at.act;
    }
