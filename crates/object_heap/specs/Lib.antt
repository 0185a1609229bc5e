pub mod Fresh
pub mod Heap
pub mod PatternNames
