-- What events that are given leave as it was.
pub use Rattle.granit_machine.proofs.ClosingLemmas.{flush_held-frames as flush_frames}
