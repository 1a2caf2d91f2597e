pub mod LayerLemmas
pub mod PairLemmas
pub mod OneAnswer
