-- No frame was delivered that hadn't been sent.
use Rattle.std.specs.Prelude.{◌≤◌, List, length, take}
use Rattle.protocol_model.specs.Sets.{In}
use Rattle.dealer_world.specs.Records.{Frame, Arrived, Delivered, Came, Connected, Dropped, Ordered, Arrival}

-- what came is a frame of these, with its sender, its receiver and its bytes, or no frame at all
abbrev pub IsAmong : List Frame → Arrived → Type 0
IsAmong sent (Delivered frame) = In frame sent
IsAmong sent (Came node seat bytes) = Unit {0}
IsAmong sent (Connected node seat) = Unit {0}
IsAmong sent (Dropped node seat) = Unit {0}
IsAmong sent (Ordered node front) = Unit {0}

-- each delivered frame stands among the frames that had been sent when it came
abbrev pub IsUnforged : List Frame → List Arrival → Type 0
IsUnforged sent delivered = (arrival : Arrival) → In arrival delivered → IsAmong (take arrival.sent_before sent) arrival.what

-- each arrival tells of no more frames than were sent
abbrev pub ArePlaced : List Frame → List Arrival → Type 0
ArePlaced sent delivered = (arrival : Arrival) → In arrival delivered → arrival.sent_before ≤ length sent
