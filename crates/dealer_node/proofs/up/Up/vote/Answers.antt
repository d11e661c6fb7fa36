use Rattle.std.proofs.Common.{rules, ◌≡◌, ◌≤◌, ℕ, List, length, Some, Err, ap, subst, ◌∙◌, arith}
use Rattle.paxos_wire.specs.Fits.{IsCommandRun}
use Rattle.paxos_wire.specs.declared.ballot.Ballot.{Ballot}
use Rattle.slot_log.specs.declared.command.Command.{Command}
use Rattle.acceptor.specs.declared.answers.RunAnswer.{RunAnswer}
use Rattle.acceptor.specs.declared.answers.RunAnswer.TheVariants.{Accepted, Refuse}
use Rattle.acceptor.specs.Answers.{AnswersRun}
use Rattle.dealer_node.specs.Outs.{told_by}
use Rattle.dealer_node.specs.Working.{head_of}
use Rattle.dealer_node.specs.Answering.{accepted_in}
use Rattle.dealer_node.proofs.Left.{voted_left}
use Rattle.dealer_node.proofs.Stored.{vote_took, vote_clashed, vote_failed, vote_stands, is_disk, of_store, fails_by}
use Rattle.dealer_node.proofs.up.Up.vote.Goals as goal

-- what is told is a command run, no longer than the one that was asked for
told_run : (ballot : Ballot) (slot : ℕ) (asked told : List Command) (answer : RunAnswer) → AnswersRun ballot slot asked answer → Some told ≡ accepted_in answer
    → IsCommandRun slot told × (length told ≤ length asked)
told_run ballot slot asked told (Accepted b s commands) fits e =
    let same : commands ≡ told = cc in
    (subst (IsCommandRun slot) same fits.2, subst (λ (cs : List Command). length cs ≤ length asked) same fits.3)
told_run ballot slot asked told (Refuse b s promise) fits e = absurd (cc)

pub tell_votes-requires-clause-run : goal.tell_votes-requires-clause-run
tell_votes-requires-clause-run g c =
    (told_run c.args.ballot c.args.slot c.args.commands.now c.in-Some.stored.now c.in-Ok.answer c.in-Ok.ensures.fits (rw c.in-Some.is at c.accepted_commands.ensures)).0

pub tell_votes-requires-clause-room : goal.tell_votes-requires-clause-room
tell_votes-requires-clause-room g c =
    let short = (told_run c.args.ballot c.args.slot c.args.commands.now c.in-Some.stored.now c.in-Ok.answer c.in-Ok.ensures.fits (rw c.in-Some.is at c.accepted_commands.ensures)).1 in
    let room = c.requires.learn in
    record {
      counted = room.counted;
      known = omega (arith, room.known, short);
      table = omega (arith, room.table, short);
      texts = omega (arith, room.texts, short);
      bytes = omega (arith, room.bytes, short);
    }

pub tell_votes-requires-clause-space : goal.tell_votes-requires-clause-space
tell_votes-requires-clause-space g c =
    let short = (told_run c.args.ballot c.args.slot c.args.commands.now c.in-Some.stored.now c.in-Ok.answer c.in-Ok.ensures.fits (rw c.in-Some.is at c.accepted_commands.ensures)).1 in
    record { text_room = c.requires.space.text_room; byte_room = omega (arith, c.requires.space.byte_room, short) }

pub returns-in-Ok-tell_votes-clause-left : goal.returns-in-Ok-tell_votes-clause-left
returns-in-Ok-tell_votes-clause-left g c need answers more frames =
    let told = told_run c.args.ballot c.args.slot c.args.commands.now c.in-Some.stored.now c.in-Ok.answer c.in-Ok.ensures.fits (rw c.in-Some.is at c.accepted_commands.ensures) in
    voted_left c.args.self.now.running c.tell_votes.new.self c.args.made.now c.tell_votes.new.made need answers more frames (length c.in-Some.stored.now) (length c.args.commands.now) told.1
    c.tell_votes.ensures.learns c.tell_votes.ensures.frames told.0.least c.tell_votes.ensures.rest

pub returns-in-Err-tell_votes-clause-left : goal.returns-in-Err-tell_votes-clause-left
returns-in-Err-tell_votes-clause-left g c need answers more frames =
    let told = told_run c.args.ballot c.args.slot c.args.commands.now c.in-Some.stored.now c.in-Ok.answer c.in-Ok.ensures.fits (rw c.in-Some.is at c.accepted_commands.ensures) in
    voted_left c.args.self.now.running c.tell_votes.new.self c.args.made.now c.tell_votes.new.made need answers more frames (length c.in-Some.stored.now) (length c.args.commands.now) told.1
    c.tell_votes.ensures.learns c.tell_votes.ensures.frames told.0.least c.tell_votes.ensures.rest

pub returns-in-Ok-tell_votes-clause-works : goal.returns-in-Ok-tell_votes-clause-works
returns-in-Ok-tell_votes-clause-works g c s honest is above own =
    let t = c.in-Ok.ensures.taken in
    let done = t.ok (head_of c.args.member.now) s.store is.keeps honest in
    let accepts = rw c.in-Some.is at c.accepted_commands.ensures in
    vote_took g.D.Disk (record { promise = c.command_runs_are_moves.ensures.promise }) c.args.member.now s c.args.ballot c.args.slot c.args.commands.now c.in-Some.stored.now c.args.self.now _ (told_by c.args.made.now) (told_by c.tell_votes.new.made) is above own
    (accepts ∙ ap accepted_in done.0) done.1 (t.any_moment (head_of c.args.member.now) s.store is.keeps honest) c.in-Ok-tell_votes.ensures.ok
    (omega (arith, c.nodes-nodes.ensures.least, c.nodes-nodes.ensures.value))

pub returns-in-Err-tell_votes-clause-works : goal.returns-in-Err-tell_votes-clause-works
returns-in-Err-tell_votes-clause-works g c s honest is above own =
    let t = c.in-Ok.ensures.taken in
    let done = t.ok (head_of c.args.member.now) s.store is.keeps honest in
    let accepts = rw c.in-Some.is at c.accepted_commands.ensures in
    vote_clashed g.D.Disk c.args.member.now s c.args.ballot c.args.slot c.args.commands.now c.in-Some.stored.now c.args.self.now _ is above
    (accepts ∙ ap accepted_in done.0) (t.leaves (head_of c.args.member.now) s.store is.keeps honest) (t.any_moment (head_of c.args.member.now) s.store is.keeps honest) c.in-Err-tell_votes.ensures.err

pub returns-in-None-clause-works : goal.returns-in-None-clause-works
returns-in-None-clause-works g c s honest is above own =
    let done = c.in-Ok.ensures.taken.ok (head_of c.args.member.now) s.store is.keeps honest in
    vote_stands g.D.Disk c.args.ballot c.args.slot c.args.commands.now s.store c.in-Ok.answer above done.0 (rw c.in-None.is at c.accepted_commands.ensures)

pub returns-in-Err-clause-works : goal.returns-in-Err-clause-works
returns-in-Err-clause-works g c s honest is above own =
    let t = c.in-Err.ensures.taken in
    fails_by g.D.Disk c.args.member.now s _ c.args.self.now _ (told_by c.args.made.now) (told_by c.args.made.now) c.in-Err.fault (is_disk g.D.Disk c.in-Err.fault (t.only (head_of c.args.member.now) s.store is.keeps honest) (λ e. c.in-Err.ensures.memory (ap Err e)))
    (vote_failed g.D.Disk c.args.member.now s c.args.ballot c.args.slot c.args.commands.now c.args.self.now _ above (t.leaves (head_of c.args.member.now) s.store is.keeps honest) (t.any_moment (head_of c.args.member.now) s.store is.keeps honest))

pub returns-in-Err-clause-ends : goal.returns-in-Err-clause-ends
returns-in-Err-clause-ends g c = record {
  goes_on = search rules;
  only = of_store g.D.Disk c.in-Err.fault c.in-Err.ensures.needs.only (λ e. c.in-Err.ensures.memory (ap Err e));
}
