-- The records of a memory.
use Rattle.std.specs.Prelude.{List}
use Rattle.records.specs.declared.Record.{Record}
use Rattle.records.specs.declared.Records.{Records}

abbrev pub records_of : Records → List Record
records_of memory = memory.records.items
