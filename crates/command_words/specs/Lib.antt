pub mod KeyedWords
