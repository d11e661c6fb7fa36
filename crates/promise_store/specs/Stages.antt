-- The stages of a journal: one of version 1 has records of that version up to the one that opens it for version 2, and records of version 2 from there on.
use Rattle.std.specs.Prelude.{ℕ, nat_lt, Bool, if◌then◌else◌, Option, Some, None, List, [], ◌∷◌, ◌++◌}
use Rattle.paxos_wire.specs.declared.limits.TheConstants.{OLD_NODES}
use Rattle.promise_store.specs.declared.records.Record.{Record}
use Rattle.promise_store.specs.declared.records.Record.TheVariants.{Promised, VotedOne, Opened, Voted}
use Rattle.promise_store.specs.declared.stage.Stage.{Stage}
use Rattle.promise_store.specs.declared.stage.Stage.TheVariants.{Old, New}

-- the same head with a 1 for its fourth byte
abbrev pub old_head : List ℕ → List ℕ
old_head [] = []
old_head (a ∷ []) = a ∷ []
old_head (a ∷ b ∷ []) = a ∷ b ∷ []
old_head (a ∷ b ∷ c ∷ []) = a ∷ b ∷ c ∷ []
old_head (a ∷ b ∷ c ∷ d ∷ rest) = a ∷ b ∷ c ∷ 49 ∷ rest

-- what a journal begins with that begins in this stage
abbrev pub head_of : Stage → List ℕ → List ℕ
head_of Old head = old_head head
head_of New head = head

-- the old stage goes on behind a record of one of its nodes, 0 to 4
abbrev pub old_where : Bool → Option Stage
old_where test = if test then Some Old else None

-- the stage behind a record that may stand in this one; None for one that may not
abbrev pub stage_after : Stage → Record → Option Stage
stage_after Old (Promised ballot) = old_where (nat_lt ballot.node OLD_NODES)
stage_after Old (VotedOne ballot slot command) = old_where (nat_lt ballot.node OLD_NODES)
stage_after Old Opened = Some New
stage_after Old (Voted ballot slot commands) = None
stage_after New (Promised ballot) = Some New
stage_after New (VotedOne ballot slot command) = None
stage_after New Opened = None
stage_after New (Voted ballot slot commands) = Some New

abbrev pub next_stage : Option Stage → Record → Option Stage
next_stage None r = None
next_stage (Some stage) r = stage_after stage r

-- the stage behind these records, the oldest first; None where one of them may not stand there
abbrev pub last_stage : Option Stage → List Record → Option Stage
last_stage stage [] = stage
last_stage stage (r ∷ records) = last_stage (next_stage stage r) records

-- the same of a journal that begins in this stage
abbrev pub stage_behind : Stage → List Record → Option Stage
stage_behind first records = last_stage (Some first) records

-- what an opening makes of a journal's records, by the stage behind them
abbrev pub marked : Stage → List Record → List Record
marked Old records = records ++ Opened ∷ []
marked New records = records
