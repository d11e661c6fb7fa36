-- How a node's process ends though its match isn't over: its exit status, and the last line that standard error gets.
use Rattle.std.specs.Prelude.{ℕ, List, ◌++◌, codes}
use Rattle.match_file.specs.Fault.{fault_text as match_fault_text}
use Rattle.match_file.specs.Kept.{difference_text}
use Rattle.match_file.specs.declared.match_fault.MatchFault.TheVariants.{OutOfMemory}
use Rattle.dealer_node.specs.FaultText.{fault_text as node_fault_text}
use Rattle.dealer_node.specs.declared.fault.NodeFault.TheVariants.{Store, Conflict}
use Rattle.node_runs.specs.declared.node_end.NodeEnd.{NodeEnd}
use Rattle.node_runs.specs.declared.node_end.NodeEnd.TheVariants.{Match, Unreadable, StoreInUse, OtherMatch, LinkFailed, LogFailed, Node, StoreReplaced, StoreOlder, LogDiffers}

-- the exit status: 3 of the node's own store and of a log that would differ, 2 of what is refused and of a store that was lost or is an older copy, 1 of what the system refuses
abbrev pub status_of : NodeEnd → ℕ
status_of (Match OutOfMemory) = 1
status_of (Match fault) = 2
status_of Unreadable = 2
status_of StoreInUse = 2
status_of (OtherMatch difference) = 2
status_of LinkFailed = 1
status_of LogFailed = 1
status_of (Node (Store fault)) = 3
status_of (Node Conflict) = 3
status_of (Node fault) = 1
status_of StoreReplaced = 2
status_of StoreOlder = 2
status_of LogDiffers = 3

-- the last line
abbrev pub end_text : NodeEnd → List ℕ
end_text (Match fault) = match_fault_text fault
end_text Unreadable = codes "104 Unreadable"
end_text StoreInUse = codes "108 StoreInUse"
end_text (OtherMatch difference) = codes "109 OtherMatch " ++ difference_text difference
end_text LinkFailed = codes "105 LinkFailed"
end_text LogFailed = codes "106 LogFailed"
end_text (Node fault) = node_fault_text fault
end_text StoreReplaced = codes "127 StoreReplaced"
end_text StoreOlder = codes "130 StoreOlder"
end_text LogDiffers = codes "129 LogDiffers"
