pub mod KeyLemmas
pub mod LayerLemmas
pub mod ObjectLemmas
pub mod PlaceLemmas
pub mod TableLemmas
