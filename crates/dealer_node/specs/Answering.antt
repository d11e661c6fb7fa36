-- What an acceptor's answers are sent as.
use Rattle.std.specs.Prelude.{Bool, true, false, List, Option, Some, None}
use Rattle.paxos_wire.specs.declared.message.Message.{Message}
use Rattle.paxos_wire.specs.declared.message.Message.TheVariants as frame
use Rattle.slot_log.specs.declared.command.Command.{Command}
use Rattle.acceptor.specs.declared.answers.PrepareAnswer.{PrepareAnswer}
use Rattle.acceptor.specs.declared.answers.PrepareAnswer.TheVariants.{Promise, Refuse}
use Rattle.acceptor.specs.declared.answers.RunAnswer.{RunAnswer}
use Rattle.acceptor.specs.declared.answers.RunAnswer.TheVariants.{Accepted, Refuse as RefuseRun}

-- the message of an answer to a Prepare
abbrev pub message_of : PrepareAnswer → Message
message_of (Promise ballot slot entries) = frame.Promise ballot slot entries
message_of (Refuse ballot slot promised) = frame.Refuse ballot slot promised

abbrev pub is_promise : PrepareAnswer → Bool
is_promise (Promise ballot slot entries) = true
is_promise (Refuse ballot slot promised) = false

-- the commands that were accepted
abbrev pub accepted_in : RunAnswer → Option (List Command)
accepted_in (Accepted ballot slot commands) = Some commands
accepted_in (RefuseRun ballot slot promised) = None
