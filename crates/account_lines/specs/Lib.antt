pub mod RunLines
