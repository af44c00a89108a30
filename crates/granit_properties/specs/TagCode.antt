-- How the code reads a tag.
use Rattle.std.specs.Prelude.{ℕ, Bool, List, [], None, Result, Ok}
use Rattle.granit_base.specs.Place.{Mark}
use Rattle.granit_base.specs.Written.{string_chars}
use Rattle.granit_lexemes.specs.Here.{Here}
use Rattle.granit_lexemes.specs.Outcome.{Fault, ◌>>=◌}
use Rattle.granit_lexemes.specs.Pieces.{with_front}
use Rattle.granit_lexemes.specs.Tags.{TagRead, tag_of, decoded, tag_ends, behind_verbatim, behind_handle, short_tag}
use Rattle.granit_properties.specs.UriCode.{uri_test}
use Rattle.granit_properties.specs.declared.tag.TagText.{TagText}
use Rattle.granit_properties.specs.declared.uri.Uri.{Uri}
use Rattle.granit_properties.specs.declared.uri.Uri.TheVariants.{Whole, Tag}

-- what the code holds of it
abbrev pub tag_read : TagText → TagRead
tag_read t = tag_of (string_chars t.handle) (string_chars t.suffix)

-- what is spelled behind a text
abbrev pub spelled_tag : Uri → Mark → List ℕ → Here → Result (List ℕ × Here) Fault
spelled_tag uri start front h = with_front front (decoded (uri_test uri) start None h) >>= λ x. Ok (x.0, x.1.here)

-- a tag behind `!<`, behind a handle with a second `!`, and behind a word that begins a suffix
abbrev pub verbatim_rest : Bool → Mark → Here → Result (TagRead × Here) Fault
verbatim_rest in_flow start h = spelled_tag Whole start [] h >>= λ x. behind_verbatim in_flow start x.0 x.1

abbrev pub named_rest : Bool → Mark → (handle : List ℕ) → Here → Result (TagRead × Here) Fault
named_rest in_flow start handle h = spelled_tag Tag start [] h >>= λ x. behind_handle in_flow start handle x.0 x.1

abbrev pub short_rest : Bool → Mark → (word : List ℕ) → Here → Result (TagRead × Here) Fault
short_rest in_flow start word h = spelled_tag Tag start word h >>= λ x. tag_ends in_flow start (short_tag x.0) x.1
