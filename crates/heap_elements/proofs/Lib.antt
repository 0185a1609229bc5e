pub mod RowLemmas
pub mod IndexLemmas
pub mod ElementLemmas
