pub mod StepLemmas
pub mod PlaceLemmas
