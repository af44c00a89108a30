pub mod QueueLemmas
pub mod RisingLemmas
