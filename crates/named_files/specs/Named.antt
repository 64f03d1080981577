-- The names of the files as the code has them.
use Rattle.named_files.specs.declared.words.Named.{Named}
use Rattle.named_files.specs.Words.{FileNames}

abbrev pub files_named : Named → FileNames
files_named named = record { board = named.board.now; file = named.file.now }
