-- Entries that say no hosts.
use Rattle.std.proofs.Common.{◌≡◌, refl}
use Rattle.toml.specs.Data.{Data, string, integer, float, boolean, datetime, array, table}
use Rattle.match_file.specs.Said.{IsAbsent}
use Rattle.match_file.specs.Hosts.{SaysHost, SaysHosts}

-- neither an array nor a host
pub no_hosts : (d : Data) → IsAbsent (λ items. d ≡ array items) → IsAbsent (SaysHost d) → IsAbsent (SaysHosts d)
no_hosts (array items) none other hosts says = absurd (none items refl)
no_hosts (string text) none other hosts says = other says.0 says.2
no_hosts (integer number) none other hosts says = other says.0 says.2
no_hosts (float number) none other hosts says = other says.0 says.2
no_hosts (boolean flag) none other hosts says = other says.0 says.2
no_hosts (datetime moment) none other hosts says = other says.0 says.2
no_hosts (table entries) none other hosts says = other says.0 says.2
