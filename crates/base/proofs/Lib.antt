pub mod NumberBits
