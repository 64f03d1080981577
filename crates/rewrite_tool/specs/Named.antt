-- What the words name as the code has it.
use Rattle.rewrite_tool.specs.declared.words.Named.{Named}
use Rattle.rewrite_tool.specs.Words.{Request}

abbrev pub request_of : Named → Request
request_of named = record { files = record { board = named.board.now; file = named.program.now }; run = named.run }
