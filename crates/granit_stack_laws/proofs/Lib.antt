mod CallLemmas
mod ComingLemmas
mod ExampleLemmas
mod FreshLemmas
mod LifeLemmas
mod SingleLemmas
