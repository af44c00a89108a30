-- Aliases and properties are what their tokens tell.
use Rattle.std.proofs.Common.{◌≡◌, Bool, true, false, Result, Ok, refl, ap, ◌∙◌}
use Rattle.granit_base.specs.Written.{Written}
use Rattle.granit_error.specs.OptionsData.{OptionsData}
use Rattle.granit_lexemes.specs.Here.{Here, mark_of}
use Rattle.granit_lexemes.specs.Lexeme.{LexemeKind}
use Rattle.granit_lexemes.specs.Outcome.{Fault, ◌>>=◌}
use Rattle.granit_lexemes.specs.Tags.{TagRead, name_at, tag_at}
use Rattle.granit_lexemes.specs.declared.layout.LastLexeme.{LastLexeme}
use Rattle.granit_lexemes.specs.declared.layout.LastLexeme.TheVariants.{Another}
use Rattle.granit_machine.specs.Laid.{Laid, is_in_flow}
use Rattle.granit_machine.specs.NodeLexemes.{alias_given, alias_lexeme, anchor_given, anchor_lexeme, last_of_property}
use Rattle.granit_machine.specs.NodeLexemes.{tag_given, tag_lexeme}
use Rattle.granit_machine.specs.ReaderState.{Read, lexeme_to, given}
use Rattle.granit_cursor.specs.Reading.{coded}
use Rattle.granit_cursor.specs.declared.token.Token.{Token}
use Rattle.granit_properties.specs.PropertyTokens.{PlacedValue, placed_at, name_token, tag_token}
use Rattle.granit_steps.specs.Steps.{incoming}
use Rattle.granit_content.specs.KindViews.{kind_of_type}
use Rattle.granit_content.proofs.CodedLemmas.{coded_back, placed_back}
use Rattle.granit_content.proofs.ItemLemmas.{read_untailed}

module _ (asked ends : Bool) (h : Here) (l : Laid) where
  -- a lexeme of that kind from here to there, as items
  abbrev pub items_to : LexemeKind → LastLexeme → Here → Read
  items_to kind last after = given (lexeme_to ends kind (mark_of after) h l) last after l

  items_are : (r : Read) (kind : LexemeKind) (last : LastLexeme) (after : Here) → r ≡ items_to kind last after
      → coded (incoming asked) r ≡ items_to kind last after
  items_are r kind last after is = ap (coded (incoming asked)) is
      ∙ read_untailed asked (lexeme_to ends kind (mark_of after) h l) after _ refl

  module _ (token : Token) (after : Here) where
    name_back : (alias : Bool) → coded (name_token alias) (placed_at name_at h) ≡ Ok (token, after)
        → (p : PlacedValue Written) × (name_at h ≡ Ok (p.value, after)) × (name_token alias p ≡ token)
    name_back alias is =
        let y = coded_back (name_token alias) (placed_at name_at h) token after is in
        (y.0, (placed_back name_at h y.0 after y.1).0, y.2)

    pub alias_items : coded (name_token true) (placed_at name_at h) ≡ Ok (token, after)
        → coded (incoming asked) (alias_lexeme ends h l) ≡ items_to (kind_of_type token.token_type) Another after
    alias_items is =
        let y = name_back true is in
        items_are (alias_lexeme ends h l) (kind_of_type token.token_type) Another after
        (ap (λ (r : Result (Written × Here) Fault). r >>= λ x. alias_given ends h l x.0 x.1) y.1
        ∙ ap (λ (t : Token). items_to (kind_of_type t.token_type) Another after) y.2)

    pub anchor_items : (o : OptionsData) → coded (name_token false) (placed_at name_at h) ≡ Ok (token, after)
        → coded (incoming asked) (anchor_lexeme o ends h l)
        ≡ items_to (kind_of_type token.token_type) (last_of_property o l) after
    anchor_items o is =
        let y = name_back false is in
        items_are (anchor_lexeme o ends h l) (kind_of_type token.token_type) (last_of_property o l) after
        (ap (λ (r : Result (Written × Here) Fault). r >>= λ x. anchor_given o ends h l x.0 x.1) y.1
        ∙ ap (λ (t : Token). items_to (kind_of_type t.token_type) (last_of_property o l) after) y.2)

    pub tag_items : (o : OptionsData) → coded tag_token (placed_at (tag_at (is_in_flow l)) h) ≡ Ok (token, after)
        → coded (incoming asked) (tag_lexeme o ends h l)
        ≡ items_to (kind_of_type token.token_type) (last_of_property o l) after
    tag_items o is =
        let y = coded_back tag_token (placed_at (tag_at (is_in_flow l)) h) token after is in
        let read = (placed_back (tag_at (is_in_flow l)) h y.0 after y.1).0 in
        items_are (tag_lexeme o ends h l) (kind_of_type token.token_type) (last_of_property o l) after
        (ap (λ (r : Result (TagRead × Here) Fault). r >>= λ x. tag_given o ends h l x.0 x.1) read
        ∙ ap (λ (t : Token). items_to (kind_of_type t.token_type) (last_of_property o l) after) y.2)
