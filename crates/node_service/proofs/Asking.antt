-- What those who ask are given, one call behind another.
use Rattle.std.proofs.Common.{◌≡◌, ◌⊎◌, inl, inr, ℕ, ◌+◌, ◌<◌, List, [], ◌∷◌, ◌++◌, map, take, length, get_or, sym, ap, subst, ◌∙◌}
use Rattle.std.proofs.lemmas.List.{map-append, take_more}
use Rattle.node_status.specs.declared.asker.Asker.{Asker}
use Rattle.node_status.specs.declared.status.SeatStatus.{SeatStatus}
use Rattle.node_status.specs.declared.status.Status.{Status}
use Rattle.node_status.specs.Lines.{status_text}
use Rattle.dealer_kind.specs.Plans.{Plan}
use Rattle.stations.specs.Stations.{Look}
use Rattle.node_service.specs.Asking.{line_given, GivesOnly, IsNoLine, IsReply, IsStatusLine}

-- at one place
step : (such : List ℕ → Type 0) (a b c : List ℕ) → (b ≡ a) ⊎ such b → (c ≡ b) ⊎ such c → (c ≡ a) ⊎ such c
step such a b c (inl e) (inl f) = inl (f ∙ e)
step such a b c (inr is) (inl f) = inr (subst such (sym f) is)
step such a b c one (inr is) = inr is

weaker : (such other : List ℕ → Type 0) (a b : List ℕ) → (such b → other b) → (b ≡ a) ⊎ such b → (b ≡ a) ⊎ other b
weaker such other a b to (inl e) = inl e
weaker such other a b to (inr is) = inr (to is)

pub gives_alike : (such : List ℕ → Type 0) (a b c : List Asker) → GivesOnly such a b → GivesOnly such b c → GivesOnly such a c
gives_alike such a b c one two place within = step such (line_given a place) (line_given b place) (line_given c place) (one place within) (two place within)

pub gives_weaker : (such other : List ℕ → Type 0) (a b : List Asker) → ((line : List ℕ) → such line → other line) → GivesOnly such a b → GivesOnly other a b
gives_weaker such other a b to gives place within = weaker such other (line_given a place) (line_given b place) (to (line_given b place)) (gives place within)

reply_on : {N : Type 0} (look then_is : Look N) (line : List ℕ) → then_is.number ≡ look.number → then_is.config ≡ look.config → IsReply look line → IsReply then_is line
reply_on look then_is line number config (inl none) = inl none
reply_on look then_is line number config (inr is) =
    inr (record { status = is.status; node = is.node ∙ sym number; seats = is.seats ∙ sym (ap (λ (p : Plan). p.setting.names) config); text = is.text })

pub gives_on : {N : Type 0} (look then_is : Look N) (a b c : List Asker) → then_is.number ≡ look.number → then_is.config ≡ look.config → GivesOnly (IsReply look) a b → GivesOnly (IsReply then_is) b c → GivesOnly (IsReply then_is) a c
gives_on look then_is a b c number config one two =
    gives_alike (IsReply then_is) a b c (gives_weaker (IsReply look) (IsReply then_is) a b (λ line is. reply_on look then_is line number config is) one) two

pub none_gives : {N : Type 0} (look : Look N) (a b : List Asker) → GivesOnly IsNoLine a b → GivesOnly (IsReply look) a b
none_gives look a b gives = gives_weaker IsNoLine (IsReply look) a b (λ line e. inl e) gives

pub none_gives_on : {N : Type 0} (look : Look N) (a b c : List Asker) → GivesOnly IsNoLine a b → GivesOnly (IsReply look) b c → GivesOnly (IsReply look) a c
none_gives_on look a b c one two = gives_alike (IsReply look) a b c (none_gives look a b one) two

pub is_status : {N : Type 0} (look : Look N) (status : Status) (line : List ℕ) → status.node ≡ look.number → map (λ (seat : SeatStatus). seat.name) status.seats.now ≡ look.config.setting.names → line ≡ status_text status
    → IsStatusLine look line
is_status look status line node seats text = record { status = status; node = node; seats = seats; text = text }

-- one seat more
pub one_named : (names : List (List ℕ)) (index : ℕ) (seats : List SeatStatus) (one : SeatStatus) (none : List ℕ) → index < length names → one.name ≡ get_or names index none → map (λ (seat : SeatStatus). seat.name) seats ≡ take index names
    → map (λ (seat : SeatStatus). seat.name) (seats ++ one ∷ []) ≡ take (index + 1) names
one_named names index seats one none within is same =
    map-append (λ (seat : SeatStatus). seat.name) seats (one ∷ []) ∙ (ap (λ (m : List (List ℕ)). m ++ one.name ∷ []) same ∙ (ap (λ (n : List ℕ). take index names ++ n ∷ []) is ∙ sym (take_more names index none within)))
