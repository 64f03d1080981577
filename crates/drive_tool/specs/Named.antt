-- The wire that words name, as it is read.
use Rattle.drive_tool.specs.declared.words.Wire.{Wire}
use Rattle.drive_tool.specs.Words.{WireNames}

abbrev pub wire_named : Wire → WireNames
wire_named wire = record { send = wire.send.now; receive = wire.receive.now; sleeps = wire.sleeps }
