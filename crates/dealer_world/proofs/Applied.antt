-- What a running node applied is chosen.
use Rattle.std.proofs.Common.{◌≡◌, ℕ, List, ◌++◌, length, subst, sym}
use Rattle.node_rules.specs.Standings.{Standing, applied}
use Rattle.node_rules.proofs.Beginning.{commands_known}
use Rattle.protocol_model.specs.Quorums.{AreChosen}
use Rattle.dealer_kind.specs.Kind.{dealer_of}
use Rattle.dealer_world.specs.Records.{said, log_of, last_start}
use Rattle.dealer_world.specs.Headline.{said_in}
use Rattle.dealer_world.specs.Given.{Given}
use Rattle.slot_log.specs.declared.command.Command.{Command}
use Rattle.protocol_model.specs.Messages.{Accepted}
use Rattle.dealer_world.specs.RuleRuns.{RunsApplyTheChosen, RunsChooseOneList}
use Rattle.dealer_world.proofs.OneList.{IsOneChoice}
use Rattle.dealer_world.proofs.Ordering.{known_chosen, chosen_in}
use Rattle.dealer_world.proofs.Keeping.{own_of, IsNode, each_here, run_keeps}

pub runs_apply_the_chosen : Given → RunsApplyTheChosen
runs_apply_the_chosen laws setting n before sources state node s run less at up unforged =
    let kept = run_keeps laws setting n before sources state run in
    let b = kept.behind unforged in
    let IsSo : ℕ → Standing → Type 0 = λ i k. IsNode setting sources before i k (b.world.nodes i) (log_of state.now.shown i (last_start state.now.starts i)) in
    let of = subst (IsSo node) at (each_here IsSo node state.standings s less b.are_of) in
    let knows = commands_known s.learned.log (b.world.nodes node).known (of.of.runs up).knows.learner.knows in
    chosen_in n b.world.ever (said_in before ++ said state.now.sent) (applied s) b.accepted
    (subst (λ m. AreChosen m b.world.ever (applied s)) kept.count
    (known_chosen laws.known (dealer_of setting (own_of setting sources before)) (length state.standings) node b.world (applied s) b.reached knows))

pub runs_choose_one_list : Given → IsOneChoice → RunsChooseOneList
runs_choose_one_list laws one setting n before sources state shorter longer run unforged short long less =
    let kept = run_keeps laws setting n before sources state run in
    let b = kept.behind unforged in
    let there : (commands : List Command) → AreChosen n (said_in before ++ said state.now.sent) commands → AreChosen (length state.standings) b.world.ever commands =
    (λ commands chosen.
    subst (λ m. AreChosen m b.world.ever commands) (sym kept.count)
    (chosen_in n (said_in before ++ said state.now.sent) b.world.ever commands (λ sender ballot slot c h. b.carried (Accepted sender ballot slot c) h) chosen)) in
    one (dealer_of setting (own_of setting sources before)) (length state.standings) b.world shorter longer b.reached (there shorter short) (there longer long) less
