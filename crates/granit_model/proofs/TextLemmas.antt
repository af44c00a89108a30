-- What one write after another appends.
use Rattle.std.proofs.Common.{◌≡◌, ℕ, ◌+◌, ◌<◌, Bool, List, [], ◌∷◌, ◌++◌, length, take, get_or, String}
use Rattle.std.proofs.Common.{string_bytes, refl, sym, ap, ◌∙◌}
use Rattle.std.specs.Str.{chars, IsUtf8}
use Rattle.std.specs.declared.alloc.Global.{Global}
use Rattle.std.proofs.lemmas.List.{take_more, append-nil}
use Rattle.std.proofs.lemmas.Str.{chars-nil, scalars-chars}
use Rattle.granit_base.specs.Written.{string_chars}
use Rattle.granit_model.specs.Characters.{AreCharacters}
use Rattle.granit_model.specs.FlowText.{Appends, tag_byte, tag_bytes, quoted_character, quoted_characters, pairs_text}
use Rattle.granit_model.specs.FlowText.{pair_text, comma_unless}
use Rattle.granit_model.specs.Tree.{PlainTree, PlainPairs, AfterPairs, no_pairs}

tag_push : (bs : List ℕ) (b : ℕ) (rest : List ℕ) → tag_bytes (bs ++ b ∷ []) rest ≡ tag_bytes bs (tag_byte b rest)
tag_push [] b rest = refl
tag_push (d ∷ bs) b rest = ap (tag_byte d) (tag_push bs b rest)

-- one more byte of a tag
pub tag_more : (bs : List ℕ) (i : ℕ) (rest : List ℕ) → i < length bs
    → tag_bytes (take (i + 1) bs) rest ≡ tag_bytes (take i bs) (tag_byte (get_or bs i 0) rest)
tag_more bs i rest h = ap (λ (ds : List ℕ). tag_bytes ds rest) (take_more bs i 0 h)
    ∙ tag_push (take i bs) (get_or bs i 0) rest

-- one more character between quotes
pub quoted_push : (cs : List ℕ) (c : ℕ) (rest : List ℕ)
    → quoted_characters (cs ++ c ∷ []) rest ≡ quoted_characters cs (quoted_character c rest)
quoted_push [] c rest = refl
quoted_push (d ∷ cs) c rest = ap (quoted_character d) (quoted_push cs c rest)

-- what an empty text grew to
pub all_of_it : (a b : String Global) (write : List ℕ → List ℕ) → string_bytes a ≡ [] → Appends a b write
    → string_chars b ≡ write []
all_of_it a b write e h =
    sym (append-nil (string_chars b)) ∙ h [] ∙ ap (λ (cs : List ℕ). cs ++ write []) (ap chars e ∙ chars-nil)

-- one more pair
pub pairs_grow :
    (ps qs : PlainPairs) (k v : PlainTree) (first : Bool) (rest : List ℕ)
    → qs ≡ AfterPairs ps k v → first ≡ no_pairs ps
    → pairs_text ps (comma_unless first (pair_text k v rest)) ≡ pairs_text qs rest
pairs_grow ps qs k v first rest e f = ap (λ b. pairs_text ps (comma_unless b (pair_text k v rest))) f
    ∙ ap (λ rs. pairs_text rs rest) (sym e)

-- what is read from UTF-8 is characters
pub characters_of : (bs : List ℕ) → IsUtf8 bs → AreCharacters (chars bs)
characters_of = scalars-chars
