pub mod IndicatorReads
