-- Keys that stay as they are.
use Rattle.std.proofs.Common.{◌≡◌, Bool, false, List, [], ◌∷◌, Option, Some, None, refl, ap, ◌∙◌}
use Rattle.granit_lexemes.specs.declared.layout.OpenBracket.{OpenBracket}
use Rattle.granit_lexemes.specs.declared.layout.PossibleKey.{PossibleKey}
use Rattle.granit_machine.specs.Laid.{Laid}
use Rattle.granit_machine.specs.PossibleKeys.{key_in, key_goes_on, keyed_brackets, outer_key, top_key, with_top_key}
use Rattle.granit_layout.specs.Heads.{is_headed}

same_key : (property low : Bool) (k : Option PossibleKey) → is_headed k ≡ false → key_goes_on property low k ≡ k
same_key property low None e = refl
same_key property low (Some k) e = rw e refl

same_top : (l : Laid) → with_top_key (top_key l) l ≡ l
same_top l = on l.brackets l.key
  where
    on : (bs : List OpenBracket) (k : Option PossibleKey)
        → record l { key = outer_key bs (key_in bs k) k; brackets = keyed_brackets (key_in bs k) bs }
        ≡ record l { key = k; brackets = bs }
    on [] k = refl
    on (b ∷ bs) k = refl

-- no lexeme goes on with a key that no property begins
pub headless : (property low : Bool) (l : Laid) → is_headed (top_key l) ≡ false
    → with_top_key (key_goes_on property low (top_key l)) l ≡ l
headless property low l e =
    ap (λ (k : Option PossibleKey). with_top_key k l) (same_key property low (top_key l) e) ∙ same_top l
