pub mod IndicatorLemmas
