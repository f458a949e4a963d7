mod Examples
pub mod HistoryLemmas
pub mod StopLemmas
