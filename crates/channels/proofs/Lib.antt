pub mod Chains
pub mod Rings
pub mod Places
pub mod Fronts
