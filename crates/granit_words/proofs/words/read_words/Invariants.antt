use Rattle.std.proofs.Common.{◌≡◌, length, take}
use Rattle.granit_error.specs.OptionsView.{options_of}
use Rattle.granit_words.specs.Words.{option_count, spelled}
use Rattle.granit_words.proofs.WordLemmas.{Reaches}
use Rattle.granit_words.proofs.words.read_words.Given as goal

abbrev pub invariant-words : goal.invariant-words
invariant-words l = record {
  reaches : Reaches (take l.i (spelled l.words)) l.is_set (options_of l.options);
  same : l.list ≡ l.words;
  flags : length l.is_set ≡ option_count;
}
