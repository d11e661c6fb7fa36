-- What is known of the lives of a node's store.
use Rattle.std.specs.Prelude.{not, Bool, true, false, if◌then◌else◌, Option, Some, None}
use Rattle.std.specs.Str.{bytes_eq}
use Rattle.peer_codes.specs.declared.hello.Life.{Life}
use Rattle.node_links.specs.declared.own.Known.{Known}
use Rattle.node_links.specs.declared.own.Known.TheVariants.{Nothing, One, Two}

-- this life is known too: the same as the one before, or a second
abbrev pub with_life : Known → Life → Known
with_life Nothing life = One life
with_life (One first) life = if bytes_eq first.bytes life.bytes then One first else Two
with_life Two life = Two

abbrev pub and_life : Known → Option Life → Known
and_life known None = known
and_life known (Some life) = with_life known life

-- another life is known than this one, or two are
abbrev pub is_replaced : Known → Life → Bool
is_replaced Nothing life = false
is_replaced (One first) life = not (bytes_eq first.bytes life.bytes)
is_replaced Two life = true
