-- A match file, as its table's members.
use Rattle.toml.specs.Data.{Members}
use Rattle.toml.specs.View.{table_view}
use Rattle.match_file.specs.declared.match_file.MatchFile.{MatchFile}

abbrev pub members : MatchFile → Members
members file = table_view file.table
