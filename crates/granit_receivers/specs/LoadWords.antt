-- What is printed where the sending of events failed.
use Rattle.std.specs.Prelude.{ℕ, List, ◌++◌, codes, Option, Some}
use Rattle.std.specs.Option.{option_map}
use Rattle.granit_error.specs.Refused.{info_words, place_words}
use Rattle.granit_receivers.specs.declared.error.TryLoadError.{TryLoadError}
use Rattle.granit_receivers.specs.declared.error.TryLoadError.TheVariants.{Scan, Receiver}

-- which of the two failed, and then its own words, where these are told
abbrev pub load_words : {E : Type 0} → (E → Option (List ℕ)) → TryLoadError E → Option (List ℕ)
load_words words (Scan e) = Some (codes "parser error: " ++ (info_words e ++ place_words e.mark.place))
load_words words (Receiver e) = option_map (λ xs. codes "receiver error: " ++ xs) (words e)
