-- The end of a text is read alone, and no comment stands behind it.
use Rattle.std.proofs.Common.{◌≡◌, Bool, true, List, [], ◌∷◌, None, Ok, refl, sym, ap, subst}
use Rattle.std.proofs.Common.{◌∙◌}
use Rattle.granit_error.specs.OptionsData.{OptionsData}
use Rattle.granit_language.specs.Reached.{ends_column_by, of_comment, of_lexeme, Reads}
use Rattle.granit_language.specs.Before.{freshened, in_front}
use Rattle.granit_language.specs.Standing.{Given, GivenOne}
use Rattle.granit_lexemes.specs.Here.{Here}
use Rattle.granit_lexemes.specs.Lexeme.{Lexeme, Item, OfLexeme, OfComment}
use Rattle.granit_machine.specs.Laid.{Laid}
use Rattle.granit_machine.specs.LexemeSort.{TextEnd}
use Rattle.granit_machine.specs.Reader.{is_end, read}
use Rattle.granit_machine.specs.ReaderState.{ReaderState}
use Rattle.granit_places.proofs.Telling.{Answers}
use Rattle.granit_places.proofs.Telling.{read-is, ReadsBy}
use Rattle.granit_places.proofs.Telling.{end_sort}
use Rattle.granit_places.proofs.Telling.{telling}

-- a lexeme alone, and no comment behind it on its line
pub record Alone (items : List Item) : Type 0 where
  pub lexeme : Lexeme
  pub are : items ≡ OfLexeme lexeme ∷ []
  pub untailed : lexeme.tail ≡ None

end_alone : (o : OptionsData) (ends : Bool) (h : Here) (l : Laid) (items : List Item) (after : ReaderState)
    → GivenOne o ends TextEnd h l items after → Alone items
end_alone o ends h l (OfLexeme x ∷ []) after p =
    record { lexeme = x; are = refl; untailed = ap (λ (y : Lexeme). y.tail) p.0.0.is }
end_alone o ends h l [] after p = absurd p
end_alone o ends h l (OfComment c ∷ is) after p = absurd p
end_alone o ends h l (OfLexeme x ∷ i ∷ is) after p = absurd p

reads_end : (o : OptionsData) (s after : ReaderState) (items : List Item) → Reads o s items after
    → is_end items ≡ true → Alone items
reads_end o s after items (of_comment at g k) e = absurd (cc)
reads_end o s after items (of_lexeme at behind sort comes given keys) e =
    let f = freshened o at in
    let l = in_front sort f.here f.laid in
    let t = telling o (ends_column_by sort f) f.here l sort items behind given.1 in
    let same = end_sort f.here l t.lexeme sort t.says (sym (ap is_end t.are) ∙ e) in
    end_alone o (ends_column_by sort f) f.here l items behind
    (subst (λ x. Given o (ends_column_by sort f) x f.here l items behind) same given.1)

pub read_end : (o : OptionsData) (s after : ReaderState) (items : List Item) → read o s ≡ Ok (items, after)
    → is_end items ≡ true → Alone items
read_end o s after items is e =
    reads_end o s after items (subst (Answers (ReadsBy o s) _) is (read-is o s)) e
