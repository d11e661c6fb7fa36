-- The records of a journal: what may be stored, and its bytes.
use Rattle.std.specs.Prelude.{ℕ, ◌/◌, ◌%◌, List, [], ◌∷◌, ◌++◌, length}
use Rattle.std.specs.List.{AllByRecursion}
use Rattle.paxos_wire.specs.Fits.{IsBallot, IsSlot, IsCommand, IsDealt, IsCommandRun}
use Rattle.paxos_wire.specs.Spelling.{ballot_text, slot_text, command_text, run_text}
use Rattle.promise_store.specs.declared.records.Record.{Record}
use Rattle.promise_store.specs.declared.records.Record.TheVariants.{Promised, VotedOne, Opened, Voted}

-- a byte for the kind, and what was promised or accepted
abbrev pub payload : Record → List ℕ
payload (Promised ballot) = 1 ∷ ballot_text ballot
payload (VotedOne ballot slot command) = 2 ∷ (ballot_text ballot ++ (slot_text slot ++ command_text command))
payload Opened = 3 ∷ []
payload (Voted ballot slot commands) = 4 ∷ (ballot_text ballot ++ (slot_text slot ++ run_text commands))

-- its numbers are within the ranges of frames, and the cards of deals are dealt
abbrev pub IsRecord : Record → Type 0
IsRecord (Promised ballot) = IsBallot ballot
IsRecord (VotedOne ballot slot command) = IsBallot ballot × IsSlot slot × IsCommand command
IsRecord Opened = Unit {0}
IsRecord (Voted ballot slot commands) = IsBallot ballot × IsCommandRun slot commands × AllByRecursion IsDealt commands

-- two bytes of a length, the high one first, and so many bytes
abbrev pub counted : List ℕ → List ℕ
counted bytes = (length bytes / 256) ∷ (length bytes % 256) ∷ bytes

-- the bytes of a record
abbrev pub record_text : Record → List ℕ
record_text r = counted (payload r)

-- what may be stored: no accept of version 1, which is only read. That a deal's cards are dealt, its type says
abbrev pub IsStorable : Record → Type 0
IsStorable (Promised ballot) = IsBallot ballot
IsStorable (VotedOne ballot slot command) = ⊥
IsStorable Opened = Unit {0}
IsStorable (Voted ballot slot commands) = IsBallot ballot × IsCommandRun slot commands
