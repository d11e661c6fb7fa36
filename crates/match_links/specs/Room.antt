-- For how much more there is room without further memory.
use Rattle.std.specs.Prelude.{ℕ, ◌+◌, ◌-◌, ◌≤◌, ◌<◌, min, List, [], length, map, vec_len, vec_capacity, Vec, Bool, true, false, Result, Ok, Err}
use Rattle.std.specs.Global.{Global}
use Rattle.std.proofs.Common.{get_or}
use Rattle.match_links.specs.declared.limits.TheConstants.{FRAME}
use Rattle.match_links.specs.declared.blank.Blank.{Blank}
use Rattle.match_links.specs.declared.links.LinkFault.{LinkFault}
use Rattle.match_links.specs.declared.links.LinkFault.TheVariants.{Failed}
use Rattle.match_links.specs.declared.memory_links.Told as line

-- of lines that were told, and of rooms that are ready: for how many lines more
abbrev pub line_room : Vec line.Told Global → Vec Blank Global → ℕ
line_room told blanks = min (vec_capacity told - vec_len told) (vec_len blanks)

-- what stands in each log
abbrev pub log_texts : List (Vec ℕ Global) → List (List ℕ)
log_texts logs = map (λ log. log.items) logs

-- what stands in the log of this number
abbrev pub log_text : List (Vec ℕ Global) → ℕ → List ℕ
log_text logs node = get_or (log_texts logs) node []

-- of a log: for how many bytes more
abbrev pub byte_room : Vec ℕ Global → ℕ
byte_room log = vec_capacity log - vec_len log

-- for how many bytes more of the log of this number
abbrev pub log_room : List (Vec ℕ Global) → ℕ → ℕ
log_room logs node = get_or (map byte_room logs) node 0

-- for how many lines more, for how many bytes more of each log, and for how many bytes of a frame there is room
pub record Room : Type 0 where
  pub lines : ℕ
  pub logs : List ℕ
  pub frame : ℕ

-- there is room for so many lines more, so many bytes more of each log, and a frame
pub record IsAmple (room : Room) (told text : ℕ) : Type 0 where
  pub lines : told ≤ room.lines
  pub logs : (node : ℕ) → node < length room.logs → text ≤ get_or room.logs node 0
  pub frame : FRAME ≤ room.frame

-- no more than so many lines were used up, and so many bytes of each log
pub record Leaves (old : Room) (told : ℕ) (text : ℕ → ℕ) (new : Room) : Type 0 where
  pub lines : old.lines ≤ new.lines + told
  pub logs : (node : ℕ) → get_or old.logs node 0 ≤ get_or new.logs node 0 + text node
  pub frame : old.frame ≤ new.frame

-- what a call answers that is let through or not, where it has room: by what it reaches, which is there or not
abbrev pub reaching : Result (Unit {0}) LinkFault → Bool → Result (Unit {0}) LinkFault
reaching (Err why) there = Err why
reaching (Ok passes) true = Ok passes
reaching (Ok passes) false = Err Failed
