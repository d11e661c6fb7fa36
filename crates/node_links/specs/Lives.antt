-- The lives that a node tells, and the record that tells them.
use Rattle.std.specs.Prelude.{◌≡◌, ℕ, zero, suc, ◌*◌, ◌==◌, ◌&&◌, ◌≤◌, nat_le, min, if◌then◌else◌, List, [], ◌++◌, length, take, drop, get_or, set, replicate, Option, Some, None, IfSome, Result, Ok, Err}
use Rattle.peer_codes.specs.declared.limits.TheConstants.{LIFE_BYTES}
use Rattle.peer_codes.specs.declared.fault.RecordFault.{RecordFault}
use Rattle.peer_codes.specs.declared.fault.RecordFault.TheVariants.{BadLength}
use Rattle.peer_codes.specs.declared.hello.Life.{Life}
use Rattle.peer_codes.specs.declared.more.More.{More}
use Rattle.peer_codes.specs.Fits.{IsLife}
use Rattle.peer_codes.specs.Reading.{kept_of}
use Rattle.node_links.specs.declared.limits.TheConstants.{LIVES, NODES}
use Rattle.node_links.specs.declared.lives.Lives.{Lives}

-- the life at a place among these bytes; none where they are zeros
abbrev pub life_at : List ℕ → ℕ → Option Life
life_at bytes number = kept_of (take LIFE_BYTES (drop (LIFE_BYTES * number) bytes))

-- at each of the first so many places the life that these bytes say, and none at the others
abbrev pub lives_in : ℕ → List ℕ → List (Option Life)
lives_in zero bytes = replicate NODES None
lives_in (suc count) bytes = set (lives_in count bytes) count (life_at bytes count)

-- of so many nodes, and no more bytes than theirs
abbrev pub lives_of : ℕ → List ℕ → Result Lives RecordFault
lives_of nodes bytes = if nat_le nodes NODES && length bytes == LIFE_BYTES * nodes then Ok (record { nodes = nodes; lives = lives_in nodes bytes }) else Err BadLength

-- the bytes of a life, and zeros of none
abbrev pub life_text : Option Life → List ℕ
life_text None = replicate LIFE_BYTES 0
life_text (Some life) = life.bytes

abbrev pub text_of : ℕ → List (Option Life) → List ℕ
text_of zero lives = []
text_of (suc count) lives = text_of count lives ++ life_text (get_or lives count None)

abbrev pub lives_text : Lives → List ℕ
lives_text l = text_of (min l.nodes NODES) l.lives

-- the record that tells them
abbrev pub lives_more : Lives → More
lives_more l = record { kind = LIVES; bytes = record { items = lives_text l } }

-- lives as nodes have them: of so many nodes and of no other, each as long as one is and not zeros
pub record AreLives (l : Lives) : Type 0 where
  pub most : l.nodes ≤ NODES
  pub places : length l.lives ≡ NODES
  pub each : (number : ℕ) → IfSome (get_or l.lives number None) IsLife
  pub beyond : (number : ℕ) → l.nodes ≤ number → get_or l.lives number None ≡ None

-- what is told reads back
abbrev pub LivesReadBack : Type 0
LivesReadBack = (l : Lives) → AreLives l → lives_of l.nodes (lives_text l) ≡ Ok l
