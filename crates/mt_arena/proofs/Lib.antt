pub mod Growing
pub mod Putting
pub mod Opening
pub mod Making
pub mod Leaving
pub mod Rowing
pub mod Equating
