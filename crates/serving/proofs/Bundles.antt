-- Each bundle that contracts cite says what it bundles, and no more.
use Rattle.std.proofs.Common.{◌≡◌, ℕ, List, [], ◌∷◌, ◌++◌}
use Rattle.std.specs.Prelude.{Result, OnOk, map}
use Rattle.promise_store.specs.declared.disk.Disk.{Ghosts}
use Rattle.dealer_node.specs.Nodes.{Node}
use Rattle.dealer_node.specs.Seeing.{begun_of}
use Rattle.dealer_node.specs.declared.fault.NodeFault.{NodeFault}
use Rattle.dealer_world.specs.Promise.{IsPromised, HasNoForged}
use Rattle.dealer_world.specs.Records.{Piece}
use Rattle.dealer_world.specs.Stepping.{View}
use Rattle.match_links.specs.declared.links.Links.{Ghosts as OfLinks}
use Rattle.match_links.specs.Passages.{Passage}
use Rattle.serving.specs.declared.desk.Desk.{Desk}
use Rattle.serving.specs.declared.serve_fault.ServeFault.{ServeFault}
use Rattle.serving.specs.declared.server.Server.{Server}
use Rattle.serving.specs.declared.turn.Turn.{Turn}
use Rattle.serving.specs.declared.waiting.Waiting.{Waiting}
use Rattle.serving.specs.Desks.{CallsNone, GivesOn, GivesPiece, GivesNothing}
use Rattle.serving.specs.Giving.{Gives, IsGiven, given_as, to_give}
use Rattle.serving.specs.Going.{IsKept, OnlyLeave}
use Rattle.serving.specs.Placed.{places_in}
use Rattle.serving.specs.Served.{Served}
use Rattle.serving.specs.Serving.{IsStill}
use Rattle.serving.specs.Turned.{Closes, Ends, HasGivenAll, KeepsPromise, Passes}
use Rattle.serving.specs.Turning.{Tells, turn_of}

-- ---- of a desk

module _ {L : Type 0} (links : OfLinks L) (old new : Desk L) where
  abbrev MakesNoCall : Type 0
  MakesNoCall = IsKept old.progress new.progress × (new.last_node ≡ old.last_node) × (new.last_fault ≡ old.last_fault)

  no_call_is : CallsNone old new → MakesNoCall
  no_call_is is = (is.kept, is.called, is.refused)

  no_call_of : MakesNoCall → CallsNone old new
  no_call_of (kept, called, refused) = record { kept = kept; called = called; refused = refused }

  abbrev GivesThese : List Piece → Type 0
  GivesThese pieces =
      (given : List Passage) × (links.passed new.links ≡ links.passed old.links ++ given)
      × Gives (places_in new.progress.places) pieces old.shown new.shown given
      × OnlyLeave (to_give pieces old.shown new.shown) given (places_in old.progress.places) (places_in new.progress.places)

  gives_is : (pieces : List Piece) → GivesOn links pieces old new → GivesThese pieces
  gives_is pieces is = (is.given, is.passed, is.gives, is.leave)

  gives_of : (pieces : List Piece) → GivesThese pieces → GivesOn links pieces old new
  gives_of pieces (given, passed, gives, leave) = record { given = given; passed = passed; gives = gives; leave = leave }

  abbrev GivesThis : Piece → Type 0
  GivesThis piece =
      (given : List Passage) × (links.passed new.links ≡ links.passed old.links ++ given) × IsGiven (places_in new.progress.places) piece given
      × OnlyLeave (given_as piece ∷ []) given (places_in old.progress.places) (places_in new.progress.places)

  piece_is : (piece : Piece) → GivesPiece links piece old new → GivesThis piece
  piece_is piece is = (is.given, is.passed, is.is_given, is.leave)

  piece_of : (piece : Piece) → GivesThis piece → GivesPiece links piece old new
  piece_of piece (given, passed, is_given, leave) = record { given = given; passed = passed; is_given = is_given; leave = leave }

  abbrev GivesNone : Type 0
  GivesNone = (links.passed new.links ≡ links.passed old.links) × (places_in new.progress.places ≡ places_in old.progress.places)

  none_is : GivesNothing links old new → GivesNone
  none_is is = (is.passed, is.stay)

  none_of : GivesNone → GivesNothing links old new
  none_of (passed, stay) = record { passed = passed; stay = stay }

-- ---- of a server

module _ {D L : Type 0} {disk : Ghosts D} {links : OfLinks L} (old new : Server D L disk links) where
  abbrev StaysSo : Type 0
  StaysSo = (new.cluster ≡ old.cluster) × (new.last_piece ≡ old.last_piece) × (new.desk.last_node ≡ old.desk.last_node)
      × (new.desk.last_fault ≡ old.desk.last_fault)

  still_is : IsStill old new → StaysSo
  still_is is = (is.cluster, is.piece, is.called, is.refused)

  still_of : StaysSo → IsStill old new
  still_of (cluster, piece, called, refused) = record { cluster = cluster; piece = piece; called = called; refused = refused }

module _ {N : Type 0} (w : Waiting) (called : Result (Unit {0}) NodeFault) (old : Served N) (answer : Result Turn ServeFault) (new : Served N) where
  abbrev EndsSo : Type 0
  EndsSo =
      (passes : Passes [] old new)
      × OnOk answer (Ends called w (to_give new.view.all.shown old.shown new.shown) passes.given old.progress new.progress)
      × OnOk answer (HasGivenAll new)
      × Tells (turn_of w.number w.seat w.event) w.event called answer

  closes_is : Closes w called old answer new → EndsSo
  closes_is is = (is.passes, is.ends, is.all_given, is.tells)

  closes_of : EndsSo → Closes w called old answer new
  closes_of (passes, ends, all_given, tells) = record { passes = passes; ends = ends; all_given = all_given; tells = tells }

module _ {D : Type 0} (g : Ghosts D) (old new : View (Node D)) where
  abbrev PromisedAsBefore : Type 0
  PromisedAsBefore = IsPromised g new × (HasNoForged old → HasNoForged new) × (map (begun_of g) new.nodes ≡ map (begun_of g) old.nodes)

  promise_is : KeepsPromise g old new → PromisedAsBefore
  promise_is is = (is.promised, is.unforged, is.begun)

  promise_of : PromisedAsBefore → KeepsPromise g old new
  promise_of (promised, unforged, begun) = record { promised = promised; unforged = unforged; begun = begun }
