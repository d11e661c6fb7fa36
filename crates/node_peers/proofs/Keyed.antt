-- The kind of a connection, by whether a node has a key.
use Rattle.std.proofs.Common.{◌≡◌, Option, Some, None}
use Rattle.std.specs.Prelude.{is_some}
use Rattle.peer_codes.specs.declared.hello.Link.{Link}
use Rattle.peer_codes.specs.declared.key.Key.{Key}
use Rattle.node_links.specs.Going.{IsOfKey}
use Rattle.node_links.specs.Judging.{is_coded}

pub of_key : (key : Option Key) (link : Link) → is_coded link ≡ is_some key → IsOfKey key link
of_key None link is = tt
of_key (Some key) link is = is
