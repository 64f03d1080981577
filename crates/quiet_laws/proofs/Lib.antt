mod Alone
mod Endings
mod Good
mod Points
mod Needed
mod Asked
