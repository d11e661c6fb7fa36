-- What passed over wires in memory.
use Rattle.std.specs.Prelude.{List}
use Rattle.node_wires.specs.Passages.{Passage, AreInOrder}
use Rattle.node_wires.specs.declared.memory_wire.MemoryWire.{MemoryWire}

abbrev pub passed_of : MemoryWire → List Passage
passed_of wire = wire.passed.items

-- the law of `Wire` of them
pub moments_in_order : (wire : MemoryWire) → AreInOrder (passed_of wire)
moments_in_order wire = wire.timely.0
