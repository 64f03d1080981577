pub mod ProgramFiles
