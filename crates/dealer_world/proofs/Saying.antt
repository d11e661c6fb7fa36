-- What frames say, and what came by frames was sent.
use Rattle.std.proofs.Common.{◌≡◌, ℕ, zero, suc, inl, inr, List, [], ◌∷◌, ◌++◌, map, length, take, refl, ap, sym, ◌∙◌, subst, append_assoc, arith}
use Rattle.std.proofs.lemmas.List.{take-append-le, length-append}
use Rattle.std.proofs.Math.Seq.{take-append_seam}
use Rattle.protocol_model.specs.Sets.{In}
use Rattle.protocol_model.specs.Messages.{Message}
use Rattle.dealer_world.specs.Records.{Frame, Arrived, Delivered, Came, Connected, Dropped, Ordered, Arrival, said, said_by}
use Rattle.dealer_world.specs.Unforged.{IsAmong, IsUnforged, ArePlaced}
use Rattle.dealer_world.specs.Calls.{frames_in}
use Rattle.dealer_world.specs.Views.{placed_at}
use Rattle.protocol_model.proofs.Sets.{in_first, in_later, in_split}

pub said_append : (xs ys : List Frame) → said (xs ++ ys) ≡ said xs ++ said ys
said_append [] ys = refl
said_append (x ∷ xs) ys = ap (λ ms. said_by x ++ ms) (said_append xs ys) ∙ sym (append_assoc (said_by x) (said xs) (said ys))

-- what the first frames say is said where more follow
pub said_more : (count : ℕ) (xs ys : List Frame) (message : Message) → In message (said (take count xs)) → In message (said (take count (xs ++ ys)))
said_more zero xs ys message h = elim h [ ]
said_more (suc count) [] ys message h = elim h [ ]
said_more (suc count) (x ∷ xs) ys message h = elim (in_split (said_by x) (said (take count xs)) message h) [
  | inl here ↦ in_first (said_by x) (said (take count (xs ++ ys))) message here
  | inr later ↦ in_later (said_by x) (said (take count (xs ++ ys))) message (said_more count xs ys message later)
]

-- and what they say is said
pub said_of_first : (count : ℕ) (xs : List Frame) (message : Message) → In message (said (take count xs)) → In message (said xs)
said_of_first zero xs message h = elim h [ ]
said_of_first (suc count) [] message h = elim h [ ]
said_of_first (suc count) (x ∷ xs) message h = elim (in_split (said_by x) (said (take count xs)) message h) [
  | inl here ↦ in_first (said_by x) (said xs) message here
  | inr later ↦ in_later (said_by x) (said xs) message (said_of_first count xs message later)
]

pub in_said : (frame : Frame) (frames : List Frame) (message : Message) → In frame frames → In message (said_by frame) → In message (said frames)
in_said frame [] message there h = elim there [ ]
in_said frame (x ∷ xs) message (inl e) h = in_first (said_by x) (said xs) message (subst (λ f. In message (said_by f)) e h)
in_said frame (x ∷ xs) message (inr later) h = in_later (said_by x) (said xs) message (in_said frame xs message later h)

-- where the record after is unforged, so is the record before
pub unforged_before : (sent more : List Frame) (delivered newer : List Arrival) → ArePlaced sent delivered
    → IsUnforged (sent ++ more) (delivered ++ newer) → IsUnforged sent delivered
unforged_before sent more delivered newer placed unforged arrival h =
    subst (λ frames. IsAmong frames arrival.what) (take-append-le arrival.sent_before sent more (placed arrival h)) (unforged arrival (in_first delivered newer arrival h))

-- what is placed now came with all that had been sent
in_placed : (count : ℕ) (arrived : List Arrived) (arrival : Arrival) → In arrival (map (placed_at count) arrived) → arrival.sent_before ≡ count
in_placed count [] arrival h = elim h [ ]
in_placed count (what ∷ more) arrival (inl e) = ap (λ (a : Arrival). a.sent_before) e
in_placed count (what ∷ more) arrival (inr h) = in_placed count more arrival h

pub placed_after : (sent more : List Frame) (delivered : List Arrival) (arrived : List Arrived) → ArePlaced sent delivered
    → ArePlaced (sent ++ more) (delivered ++ map (placed_at (length sent)) arrived)
placed_after sent more delivered arrived placed arrival h = elim (in_split delivered (map (placed_at (length sent)) arrived) arrival h) [
  | inl old ↦ let a = placed arrival old in let b = length-append sent more in omega arith
  | inr now ↦ let a = in_placed (length sent) arrived arrival now in let b = length-append sent more in omega arith
]

each_among : (sent : List Frame) (arrived : List Arrived) → ((what : Arrived) → In what arrived → IsAmong sent what)
    → (frame : Frame) → In frame (frames_in arrived) → In frame sent
each_among sent [] among frame h = elim h [ ]
each_among sent (Delivered first ∷ more) among frame (inl is) = subst (λ f. In f sent) (sym is) (among (Delivered first) (inl refl))
each_among sent (Delivered first ∷ more) among frame (inr h) = each_among sent more (λ what later. among what (inr later)) frame h
each_among sent (Came node seat bytes ∷ more) among frame h = each_among sent more (λ what later. among what (inr later)) frame h
each_among sent (Connected node seat ∷ more) among frame h = each_among sent more (λ what later. among what (inr later)) frame h
each_among sent (Dropped node seat ∷ more) among frame h = each_among sent more (λ what later. among what (inr later)) frame h
each_among sent (Ordered node front ∷ more) among frame h = each_among sent more (λ what later. among what (inr later)) frame h

pub in_map_placed : (count : ℕ) (arrived : List Arrived) (what : Arrived) → In what arrived → In (placed_at count what) (map (placed_at count) arrived)
in_map_placed count [] what h = elim h [ ]
in_map_placed count (other ∷ more) what (inl e) = inl (ap (placed_at count) e)
in_map_placed count (other ∷ more) what (inr h) = inr (in_map_placed count more what h)

-- the frames that come had been sent
pub came_was_sent : (sent more : List Frame) (delivered : List Arrival) (arrived : List Arrived)
    → IsUnforged (sent ++ more) (delivered ++ map (placed_at (length sent)) arrived)
    → (frame : Frame) → In frame (frames_in arrived) → In frame sent
came_was_sent sent more delivered arrived unforged frame h =
    each_among sent arrived (λ what there. subst (λ frames. IsAmong frames what) (take-append_seam sent more)
    (unforged (placed_at (length sent) what) (in_later delivered _ _ (in_map_placed (length sent) arrived what there)))) frame h
