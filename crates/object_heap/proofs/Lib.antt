pub mod LineLemmas
pub mod OlderLemmas
pub mod FreshLemmas
