-- What ends a process by its peers stays noted as it is.
use Rattle.std.specs.Prelude.{◌≡◌}
use Rattle.node_service.specs.declared.company.Company.{Company}

-- a call that notes neither that a peer keeps another life of this node's store, nor that it is an older copy, nor that a life couldn't be told
abbrev pub KeepsFlags : Company → Company → Type 0
KeepsFlags old new = (new.is_replaced ≡ old.is_replaced) × ((new.is_older ≡ old.is_older) × (new.is_life_lost ≡ old.is_life_lost))
