-- What giving pieces makes of a server's desk.
use Rattle.std.specs.Prelude.{◌≡◌, ◌⊎◌, ℕ, List, [], ◌∷◌, ◌++◌, slice_get, Some}
use Rattle.dealer_world.specs.Records.{Piece}
use Rattle.match_links.specs.declared.links.Links.{Ghosts}
use Rattle.match_links.specs.Passages.{Passage, Told}
use Rattle.serving.specs.declared.place.Place.TheVariants.{Seated}
use Rattle.serving.specs.declared.desk.Desk.{Desk}
use Rattle.serving.specs.Giving.{Gives, IsGiven, given_as, to_give}
use Rattle.serving.specs.Going.{IsKept, OnlyLeave}
use Rattle.serving.specs.Placed.{places_in}

-- no node was called: which was called last and what refused it are as they were, and of what is known only seats' places change
pub record CallsNone {L : Type 0} (old new : Desk L) : Type 0 where
  pub kept : IsKept old.progress new.progress
  pub called : new.last_node ≡ old.last_node
  pub refused : new.last_fault ≡ old.last_fault

module _ {L : Type 0} (links : Ghosts L) where
  -- the pieces that weren't given yet, or the first of them, were given behind what had passed; a seat that wasn't told each of its lines leaves
  pub record GivesOn (pieces : List Piece) (old new : Desk L) : Type 0 where
    pub given : List Passage
    pub passed : links.passed new.links ≡ links.passed old.links ++ given
    pub gives : Gives (places_in new.progress.places) pieces old.shown new.shown given
    pub leave : OnlyLeave (to_give pieces old.shown new.shown) given (places_in old.progress.places) (places_in new.progress.places)

  -- this piece was
  pub record GivesPiece (piece : Piece) (old new : Desk L) : Type 0 where
    pub given : List Passage
    pub passed : links.passed new.links ≡ links.passed old.links ++ given
    pub is_given : IsGiven (places_in new.progress.places) piece given
    pub leave : OnlyLeave (given_as piece ∷ []) given (places_in old.progress.places) (places_in new.progress.places)

  -- nothing passed, and no seat's place changed
  pub record GivesNothing (old new : Desk L) : Type 0 where
    pub passed : links.passed new.links ≡ links.passed old.links
    pub stay : places_in new.progress.places ≡ places_in old.progress.places

  -- a line was told to a seat by a node; or it wasn't, and the seat has no connection to the node, or no longer
  abbrev pub TellsLine : ℕ → ℕ → List ℕ → Desk L → Desk L → Type 0
  TellsLine node seat line old new =
      ((links.passed new.links ≡ links.passed old.links ++ Told node seat line ∷ []) × (places_in new.progress.places ≡ places_in old.progress.places))
      ⊎ ((links.passed new.links ≡ links.passed old.links) × (slice_get (places_in new.progress.places) seat ≡ Some (Seated node) → ⊥)
      × OnlyLeave (Told node seat line ∷ []) [] (places_in old.progress.places) (places_in new.progress.places))
