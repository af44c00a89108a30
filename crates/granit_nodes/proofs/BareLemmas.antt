-- Where a node must stand, a lexeme that begins none begins the pair of an empty key.
use Rattle.std.proofs.Common.{◌≡◌, refl, sym}
use Rattle.granit_base.specs.Written.{Written}
use Rattle.granit_base.specs.declared.style.ScalarStyle.{ScalarStyle}
use Rattle.granit_error.specs.OptionsData.{OptionsData}
use Rattle.granit_items.specs.ItemViews.{kind_view}
use Rattle.granit_items.specs.declared.item.LexemeKind.{LexemeKind}
use Rattle.granit_items.specs.declared.item.LexemeKind.TheVariants as kinds
use Rattle.granit_lexemes.specs.Lexeme as spec
use Rattle.granit_lexemes.specs.declared.layout.Bracket.{Bracket}
use Rattle.granit_machine.specs.Frames.{ParserState}
use Rattle.granit_machine.specs.NodeSteps.{bare_by}
use Rattle.granit_machine.specs.TokenSort.{Token}

module _ (o : OptionsData) (t : Token) (p : ParserState) where
  by_kind : (k : LexemeKind) → ((b : Bracket) → k ≡ kinds.Open b → ⊥) → (k ≡ kinds.Dash → ⊥)
      → (k ≡ kinds.Question → ⊥) → ((name : Written) → k ≡ kinds.Alias name → ⊥)
      → ((name : Written) → k ≡ kinds.Anchor name → ⊥)
      → ((handle suffix : Written) → k ≡ kinds.Tag handle suffix → ⊥)
      → ((style : ScalarStyle) (text : Written) → k ≡ kinds.Scalar style text → ⊥)
      → bare_by o (kind_view k) t p ≡ bare_by o spec.Colon t p
  by_kind (kinds.Open b) bracket dash question alias anchor tag scalar = absurd (bracket b refl)
  by_kind kinds.Dash bracket dash question alias anchor tag scalar = absurd (dash refl)
  by_kind kinds.Question bracket dash question alias anchor tag scalar = absurd (question refl)
  by_kind (kinds.Alias name) bracket dash question alias anchor tag scalar = absurd (alias name refl)
  by_kind (kinds.Anchor name) bracket dash question alias anchor tag scalar = absurd (anchor name refl)
  by_kind (kinds.Tag handle suffix) bracket dash question alias anchor tag scalar = absurd (tag handle suffix refl)
  by_kind (kinds.Scalar style text) bracket dash question alias anchor tag scalar = absurd (scalar style text refl)
  by_kind (kinds.Version major minor) bracket dash question alias anchor tag scalar = refl
  by_kind (kinds.TagPrefix handle prefix) bracket dash question alias anchor tag scalar = refl
  by_kind (kinds.Reserved name parameters) bracket dash question alias anchor tag scalar = refl
  by_kind kinds.DocumentStart bracket dash question alias anchor tag scalar = refl
  by_kind kinds.DocumentEnd bracket dash question alias anchor tag scalar = refl
  by_kind kinds.StreamEnd bracket dash question alias anchor tag scalar = refl
  by_kind (kinds.Close b) bracket dash question alias anchor tag scalar = refl
  by_kind kinds.Comma bracket dash question alias anchor tag scalar = refl
  by_kind kinds.Colon bracket dash question alias anchor tag scalar = refl

  -- the kind is told by an equal one
  pub as_bare_colon : (k same : LexemeKind) → k ≡ same → ((b : Bracket) → k ≡ kinds.Open b → ⊥)
      → (k ≡ kinds.Dash → ⊥) → (k ≡ kinds.Question → ⊥) → ((name : Written) → k ≡ kinds.Alias name → ⊥)
      → ((name : Written) → k ≡ kinds.Anchor name → ⊥)
      → ((handle suffix : Written) → k ≡ kinds.Tag handle suffix → ⊥)
      → ((style : ScalarStyle) (text : Written) → k ≡ kinds.Scalar style text → ⊥)
      → bare_by o (kind_view same) t p ≡ bare_by o spec.Colon t p
  as_bare_colon k same e bracket dash question alias anchor tag scalar =
      rw (sym e) (by_kind k bracket dash question alias anchor tag scalar)
