-- How the program ends: its exit status, and the last line that standard error gets.
use Rattle.std.specs.Prelude.{◌≡◌, ℕ, List}
use Rattle.serving.specs.FaultText.{fault_text}
use Rattle.dealer_node.specs.declared.fault.NodeFault.TheVariants as node
use Rattle.match_file.specs.declared.match_fault.MatchFault.TheVariants.{OutOfMemory}
use Rattle.serving.specs.declared.serve_fault.ServeFault.TheVariants as serve
use Rattle.streamed.specs.declared.ending.Ending.TheVariants.{Done, Match, Unreadable, StoreInUse, OtherMatch}
use Rattle.streamed.specs.Ending.{status_of as ending_status, ending_text}
use Rattle.match_runs.specs.declared.conclusion.Conclusion.{Conclusion}
use Rattle.match_runs.specs.declared.conclusion.Conclusion.TheVariants.{Ended, Served}
use Rattle.match_runs.specs.declared.unserved.Unserved.{Unserved}
use Rattle.match_runs.specs.declared.unserved.Unserved.TheVariants as unserved

-- the exit status; of a match that can't be served, or not to its end, it is 1
abbrev pub status_of : Conclusion → ℕ
status_of (Ended ending) = ending_status ending
status_of (Served fault) = 1

-- the last line that standard error gets: nothing where all was done, and where `check` said no
abbrev pub conclusion_text : Conclusion → List ℕ
conclusion_text (Ended ending) = ending_text ending
conclusion_text (Served fault) = fault_text fault

-- how `serve` ends: the match is over; or its file or game is refused; or a file can't be read; or a store is in use, or of another match; or with a fault of the server, want of memory always so
abbrev pub IsOfServe : Conclusion → Type 0
IsOfServe (Ended Done) = Unit {0}
IsOfServe (Ended (Match why)) = why ≡ OutOfMemory → ⊥
IsOfServe (Ended Unreadable) = Unit {0}
IsOfServe (Ended StoreInUse) = Unit {0}
IsOfServe (Ended (OtherMatch difference)) = Unit {0}
IsOfServe (Ended other) = ⊥
IsOfServe (Served fault) = Unit {0}

-- memory was refused: the server can't begin, or go on
abbrev pub no_memory : Unserved
no_memory = unserved.Fault (serve.Node node.OutOfMemory)

-- how the program ends where a match isn't served: want of memory is always the server's fault
abbrev pub conclusion_of : Unserved → Conclusion
conclusion_of (unserved.Match OutOfMemory) = Served (serve.Node node.OutOfMemory)
conclusion_of (unserved.Match fault) = Ended (Match fault)
conclusion_of unserved.Unreadable = Ended Unreadable
conclusion_of unserved.StoreInUse = Ended StoreInUse
conclusion_of (unserved.OtherMatch difference) = Ended (OtherMatch difference)
conclusion_of (unserved.Fault fault) = Served fault
