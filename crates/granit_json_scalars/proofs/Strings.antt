-- What stands between the quotes of a JSON string spells its characters as YAML does.
use Rattle.granit_lexemes.proofs.CharTests.{backslash_stops}
use Rattle.granit_lexemes.proofs.DecodingLemmas.{u_wants_four}
use Rattle.granit_lexemes.specs.Decoding as decoding
use Rattle.granit_lexemes.specs.QuotedExtent as quoted
use Rattle.std.proofs.Common.{Bool, List, [], ap, append_assoc, arith, false, refl, subst, sym, true, ℕ, ◌++◌, ◌==◌}
use Rattle.std.proofs.Common.{◌∙◌}
use Rattle.std.proofs.Common.{◌∷◌, ◌≡◌}
use Rattle.std.proofs.Common.{◌&&◌}
use Rattle.std.proofs.lemmas.Bool.Decides.{nat_tests}
use Rattle.std.proofs.lemmas.List.{append-nil}
use Rattle.std.specs.List.{list_all}
use Rattle.std.specs.Prelude.{Some}
use Rattle.granit_base.specs.Classes.{is_blank, is_break, is_gap, is_printable}
use Rattle.granit_canonical_steps.proofs.Quoting.{one_more_blank}
use Rattle.granit_json_scalars.specs.JsonScalars.{IsString, ShortEscape, SpellsCharacter, backslash, backspace}
use Rattle.granit_json_scalars.specs.JsonScalars.{carriage_return}
use Rattle.granit_json_scalars.specs.JsonScalars.{form_feed, halves, is_unescaped, itself, line_feed, no_more, numbered}
use Rattle.granit_json_scalars.specs.JsonScalars.{one_more, quote, short, slash, tab}
use Rattle.granit_lexemes.specs.Decoding.{Escape, letter_value}
use Rattle.granit_lexemes.specs.Gap.{Each}
use Rattle.granit_lexemes.specs.LayoutData.{LayoutData}
use Rattle.granit_lexemes.specs.QuotedExtent.{Blanks, Inside, Piece, content, nothing, on_line}
use Rattle.granit_lexemes.specs.QuotedScalar.{is_kept, is_literal}
use Rattle.granit_quoted_laws.proofs.QuotedFolding.{each_behind, each_front}

short_letter : (l c : ℕ) → ShortEscape l c → letter_value l ≡ Some c
unfolding letter_value
short_letter _ _ quote = refl
short_letter _ _ backslash = refl
short_letter _ _ slash = refl
short_letter _ _ backspace = refl
short_letter _ _ form_feed = refl
short_letter _ _ line_feed = refl
short_letter _ _ carriage_return = refl
short_letter _ _ tab = refl

literal_is : (c : ℕ) → is_unescaped c ≡ true → is_printable c ≡ true → (c == 0x20) ≡ false → is_literal false c ≡ true
unfolding is_unescaped is_literal is_printable is_gap is_blank is_break
literal_is c u p n = grind (arith, nat_tests)

-- what stands between the quotes behind these blanks: content, and the blanks behind it
pub record Between (at : LayoutData) (bl source text behind : List ℕ) : Type 0 where
  pub inner : List ℕ
  pub gap : List ℕ
  pub value : List ℕ
  pub whole : bl ++ source ≡ inner ++ gap
  pub inside : Inside false at false inner (gap ++ behind) value false
  pub blanks : Each is_blank gap
  pub spells : value ++ gap ≡ bl ++ text

with_piece : (at : LayoutData) (bl source text behind written more : List ℕ) (c : ℕ) → Each is_blank bl
    → source ≡ written ++ more → ((rest : List ℕ) → Piece false written rest (c ∷ []) false)
    → Between at [] more text behind → Between at bl source (c ∷ text) behind
with_piece at bl source text behind written more c b e p r = record {
  inner = bl ++ (written ++ r.inner);
  gap = r.gap;
  value = bl ++ c ∷ r.value;
  whole = ap (λ (l : List ℕ). bl ++ l)
      (e ∙ ap (λ (l : List ℕ). written ++ l) r.whole ∙ sym (append_assoc written r.inner r.gap))
      ∙ sym (append_assoc bl (written ++ r.inner) r.gap);
  inside = content (Blanks bl) refl refl (on_line b) (p (r.inner ++ (r.gap ++ behind))) tt r.inside;
  blanks = r.blanks;
  spells = append_assoc bl (c ∷ r.value) r.gap ∙ ap (λ (l : List ℕ). bl ++ c ∷ l) r.spells;
}

with_space : (at : LayoutData) (bl source text behind more : List ℕ) (c : ℕ) → (c == 0x20) ≡ true
    → source ≡ c ∷ more → Between at (bl ++ 0x20 ∷ []) more text behind → Between at bl source (c ∷ text) behind
with_space at bl source text behind more c s e r =
    let same : 0x20 ≡ c = grind (arith, nat_tests) in record {
      inner = r.inner;
      gap = r.gap;
      value = r.value;
      whole = ap (λ (l : List ℕ). bl ++ l) (e ∙ ap (λ n. n ∷ more) (sym same))
          ∙ sym (append_assoc bl (0x20 ∷ []) more) ∙ r.whole;
      inside = r.inside;
      blanks = r.blanks;
      spells = r.spells ∙ append_assoc bl (0x20 ∷ []) text ∙ ap (λ n. bl ++ n ∷ text) same;
    }

-- an escape, as YAML reads it
as_escape : (written : List ℕ) (c : ℕ) → Escape written c → (rest : List ℕ) → Piece false written rest (c ∷ []) false
as_escape written c e rest = quoted.escape e

-- one more character, behind blanks or directly
spelled : (at : LayoutData) (bl source text behind written more : List ℕ) (c : ℕ) → Each is_blank bl
    → source ≡ written ++ more → Each is_printable written → SpellsCharacter written c
    → Between at (bl ++ 0x20 ∷ []) more text behind → Between at [] more text behind
    → Between at bl source (c ∷ text) behind
spelled at bl source text behind _ more c b e i (itself u) spaced direct = by (c == 0x20) refl
  where
    by : (v : Bool) → (c == 0x20) ≡ v → Between at bl source (c ∷ text) behind
    by true s = with_space at bl source text behind more c s e spaced
    by false s =
        with_piece at bl source text behind (c ∷ []) more c b e (λ rest. quoted.itself (literal_is c u i.0 s)) direct
spelled at bl source text behind _ more c b e i (short {l = l} s) spaced direct =
    with_piece at bl source text behind (0x5C ∷ l ∷ []) more c b e
    (as_escape (0x5C ∷ l ∷ []) c (decoding.letter (short_letter l c s))) direct
spelled at bl source text behind _ more _ b e i (numbered {digits = ds} d s) spaced direct =
    with_piece at bl source text behind (0x5C ∷ 0x75 ∷ ds) more (decoding.number_of ds) b e
    (as_escape (0x5C ∷ 0x75 ∷ ds) (decoding.number_of ds) (decoding.number u_wants_four d s)) direct
spelled at bl source text behind _ more _ b e i (halves {high = high} {low = low} d h k w) spaced direct =
    with_piece at bl source text behind (0x5C ∷ 0x75 ∷ (high ++ 0x5C ∷ 0x75 ∷ low)) more
    (decoding.joined (decoding.number_of high) (decoding.number_of low)) b e
    (as_escape (0x5C ∷ 0x75 ∷ (high ++ 0x5C ∷ 0x75 ∷ low))
    (decoding.joined (decoding.number_of high) (decoding.number_of low)) (decoding.halves d h k w)) direct

pub between_json : (at : LayoutData) (bl source text behind : List ℕ) → Each is_blank bl → IsString source text
    → Each is_printable source → Between at bl source text behind
between_json at bl _ _ behind b no_more i = record {
  inner = [];
  gap = bl;
  value = [];
  whole = append-nil bl;
  inside = nothing;
  blanks = b;
  spells = sym (append-nil bl);
}
between_json at bl source _ behind b (one_more {characters = text} {more = more} {c = c} written s e r) i =
    let parts : Each is_printable (written ++ more) = subst (Each is_printable) e i in
    let rest = each_behind is_printable written more parts in
    spelled at bl source text behind written more c b e (each_front is_printable written more parts) s
    (between_json at (bl ++ 0x20 ∷ []) more text behind (one_more_blank bl b) r rest)
    (between_json at [] more text behind tt r rest)

-- ---- what is written as it is

unescaped_kept : (c : ℕ) → is_unescaped c ≡ true → is_printable c ≡ true → is_kept false c ≡ true
unfolding is_unescaped is_literal is_printable is_gap is_blank is_break
unescaped_kept c u p = grind (arith, nat_tests)

backslash_escaped : is_unescaped 0x5C ≡ false
unfolding is_unescaped
backslash_escaped = refl

escapes : (rest : List ℕ) → list_all (is_kept false) (0x5C ∷ rest) ≡ list_all is_unescaped (0x5C ∷ rest)
escapes rest =
    ap (λ b. b && list_all (is_kept false) rest) backslash_stops
    ∙ sym (ap (λ b. b && list_all is_unescaped rest) backslash_escaped)

itself_kept : (c : ℕ) (more : List ℕ) → is_unescaped c ≡ true → is_printable c ≡ true
    → list_all (is_kept false) more ≡ list_all is_unescaped more
    → list_all (is_kept false) (c ∷ more) ≡ list_all is_unescaped (c ∷ more)
itself_kept c more u p e =
    ap (λ b. b && list_all (is_kept false) more) (unescaped_kept c u p) ∙ e
    ∙ sym (ap (λ b. b && list_all is_unescaped more) u)

piece_kept : (written more : List ℕ) (c : ℕ) → SpellsCharacter written c → Each is_printable written
    → list_all (is_kept false) more ≡ list_all is_unescaped more
    → list_all (is_kept false) (written ++ more) ≡ list_all is_unescaped (written ++ more)
piece_kept _ more c (itself u) i e = itself_kept c more u i.0 e
piece_kept _ more c (short {l = l} s) i e = escapes (l ∷ more)
piece_kept _ more _ (numbered {digits = ds} d s) i e = escapes (0x75 ∷ (ds ++ more))
piece_kept _ more _ (halves {high = high} {low = low} d h k w) i e =
    escapes (0x75 ∷ ((high ++ 0x5C ∷ 0x75 ∷ low) ++ more))

-- what stands between the quotes is kept as it is where nothing is escaped
pub all_kept : (source text : List ℕ) → IsString source text → Each is_printable source
    → list_all (is_kept false) source ≡ list_all is_unescaped source
all_kept _ _ no_more i = refl
all_kept source _ (one_more {characters = text} {more = more} {c = c} written s e r) i =
    let parts : Each is_printable (written ++ more) = subst (Each is_printable) e i in
    ap (list_all (is_kept false)) e
    ∙ piece_kept written more c s (each_front is_printable written more parts)
    (all_kept more text r (each_behind is_printable written more parts))
    ∙ sym (ap (list_all is_unescaped) e)
