-- Where the reading of an iterator's characters begins.
pub use Rattle.granit_sourced.specs.Opening.{bare_text_start}
