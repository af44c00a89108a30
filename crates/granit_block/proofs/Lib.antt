mod ContentLemmas
mod HeadLemmas
mod LineLemmas
mod ScalarLemmas
mod SpaceLemmas
