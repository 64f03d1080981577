pub mod Keys
pub mod Puts
pub mod Positions
pub mod Uses
pub mod Spelled
pub mod UnderWay
pub mod Finished
pub mod Search
