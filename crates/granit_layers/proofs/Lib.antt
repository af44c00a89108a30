mod NestedLemmas
mod PassingLemmas
mod SendLemmas
mod StackLemmas
