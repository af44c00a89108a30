use Rattle.std.proofs.Common.{ap, ◌∙◌}
use Rattle.std.specs.Option.{option_map}
use Rattle.granit_base.specs.declared.place.Span.{Span}
use Rattle.granit_cursor.specs.declared.token.TokenType.{TokenType}
use Rattle.granit_lexemes.specs.Lexeme.{Lexeme}
use Rattle.granit_items.specs.ItemViews.{boxed_view}
use Rattle.granit_content.specs.KindViews.{kind_of_type}
use Rattle.granit_content.proofs.scalars.scalar_lexeme.Goals as goal

pub returns : goal.returns
returns c = λ h begun.
    let parts = c.into_parts-span.ensures in
    let kind = c.lexeme_kind-kind.ensures ∙ ap (λ (p : Span × TokenType). kind_of_type p.1) parts in
    let end = ap (λ (p : Span × TokenType). p.0.end) parts in
    ap (λ (x : Lexeme). record x { tail = option_map boxed_view c.args.tail })
    (rw (kind, end) at (c.write_lexeme.ensures h begun))
