-- What stands in front of a stream of records, where it lies.
use Rattle.std.specs.Prelude.{ℕ, ◌≤◌, List, length, drop, take, Ok}
use Rattle.peer_codes.specs.declared.limits.TheConstants.{MOST_FRAME}
use Rattle.peer_codes.specs.declared.records.Record.TheVariants as record_of
use Rattle.peer_codes.specs.Faults.{IsPartial}
use Rattle.node_links.specs.declared.front.Front.{Front}
use Rattle.node_links.specs.declared.front.Front.TheVariants as fronts
use Rattle.node_links.specs.Connections.{IsFront}
use Rattle.node_links.specs.Frames.{frame_of}

-- behind five bytes, up to its end, lie those of a frame whose record stands in front
pub record HasFrame (bytes : List ℕ) (end : ℕ) : Type 0 where
  pub least : 5 ≤ end
  pub there : end ≤ length bytes
  pub most : length (drop 5 (take end bytes)) ≤ MOST_FRAME
  pub front : IsFront bytes (Ok (record_of.Frame (frame_of (drop 5 (take end bytes))))) (drop end bytes)

abbrev pub StandsIn : Front → List ℕ → Type 0
StandsIn fronts.Partial bytes = IsPartial bytes
StandsIn (fronts.Frame end) bytes = HasFrame bytes end
StandsIn fronts.Other bytes = Unit {0}
