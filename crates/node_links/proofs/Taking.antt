-- What waits for a peer, taken one after another.
use Rattle.std.proofs.Common.{◌≡◌, List, [], ◌∷◌, Some, None, refl, ap}
use Rattle.peer_codes.specs.declared.frame.Frame.{Frame}
use Rattle.peer_codes.specs.declared.records.Record.TheVariants as record_of
use Rattle.node_links.specs.Waiting.{first_of, first_frame}

same_frame : (a b : Frame) → Some a ≡ Some b → a ≡ b
same_frame a b e = cc

pub frame_first : (frames : List Frame) (frame : Frame) → first_of frames ≡ Some frame → first_frame frames ≡ Some (record_of.Frame frame)
frame_first [] frame e = absurd cc
frame_first (first ∷ more) frame e = ap (λ (f : Frame). Some (record_of.Frame f)) (same_frame first frame e)

pub none_first : (frames : List Frame) → first_of frames ≡ None → first_frame frames ≡ None
none_first [] e = refl
none_first (first ∷ more) e = absurd cc
