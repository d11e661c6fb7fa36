-- What is seen of places.
use Rattle.std.specs.Prelude.{List}
use Rattle.serving.specs.declared.place.Place.{Place}
use Rattle.serving.specs.declared.places.Places.{Places}

abbrev pub places_in : Places → List Place
places_in places = places.all.items
