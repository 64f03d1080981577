pub mod LinkedPlays
