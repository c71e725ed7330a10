pub mod Ranges
pub mod Stamps
pub mod StampLaws
