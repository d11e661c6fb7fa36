-- Notices of peers tell nothing of seats.
use Rattle.std.proofs.Common.{◌≡◌, inl, inr, ℕ, Bool, true, false, List, [], refl}
use Rattle.std.specs.Prelude.{Option, Some, None}
use Rattle.node_peers.specs.declared.notice.Notice.{Notice}
use Rattle.node_peers.specs.declared.notice.Notice.TheVariants as notices
use Rattle.node_service.specs.Arriving.{seats_of, peers_of}
use Rattle.node_peers.specs.Noticing.{heard_by}
use Rattle.peer_codes.specs.declared.hello.Life.{Life}
use Rattle.node_service.specs.Company.{TellsOrLoses, TellsLife}
use Rattle.node_service.specs.declared.server_notice.ServerNotice.{ServerNotice}
use Rattle.node_service.specs.declared.server_notice.ServerNotice.TheVariants as tells
use Rattle.node_service.specs.Taking.{StopsAtLife}
use Rattle.node_service.specs.declared.taking.Taken.TheVariants as kind
use Rattle.node_service.specs.Telling.{told_of, told_by}

pub no_seat_told : (notice : Option Notice) → seats_of (told_by notice) ≡ []
no_seat_told None = refl
no_seat_told (Some (notices.Frame from frame)) = refl
no_seat_told (Some (notices.Joined peer (Some life))) = refl
no_seat_told (Some (notices.Joined peer None)) = refl
no_seat_told (Some (notices.Gone peer)) = refl
no_seat_told (Some (notices.Refused peer fault source)) = refl
no_seat_told (Some (notices.Strangers peer count fault)) = refl
no_seat_told (Some (notices.Settings peer settings)) = refl
no_seat_told (Some (notices.Unreached peer refuses)) = refl

-- what the peers put down of them is what they tell
pub told_is_heard : (notice : Option Notice) → heard_by notice ≡ peers_of (told_by notice)
told_is_heard None = refl
told_is_heard (Some (notices.Frame from frame)) = refl
told_is_heard (Some (notices.Joined peer (Some life))) = refl
told_is_heard (Some (notices.Joined peer None)) = refl
told_is_heard (Some (notices.Gone peer)) = refl
told_is_heard (Some (notices.Refused peer fault source)) = refl
told_is_heard (Some (notices.Strangers peer count fault)) = refl
told_is_heard (Some (notices.Settings peer settings)) = refl
told_is_heard (Some (notices.Unreached peer refuses)) = refl

-- ---- a node is told to be there

pub stops_there : (peer : ℕ) (life : Option Life) → StopsAtLife kind.Last (told_of (notices.Joined peer life))
stops_there peer None = tt
stops_there peer (Some life) = refl

pub stops_nowhere : (peer : ℕ) (life : Option Life) → life ≡ None → StopsAtLife kind.One (told_of (notices.Joined peer life))
stops_nowhere peer None none = tt
stops_nowhere peer (Some life) none = absurd cc

-- what is told of a life that is to be kept
pub life_told : (is_told lost : Bool) (peer : ℕ) (life : Option Life) (before after : List ServerNotice) → TellsOrLoses is_told before after (tells.Joined peer life) lost → TellsLife peer life before after lost
life_told is_told lost peer None before after is = tt
life_told true lost peer (Some life) before after is = inl is
life_told false lost peer (Some life) before after is = inr (is peer life refl)
