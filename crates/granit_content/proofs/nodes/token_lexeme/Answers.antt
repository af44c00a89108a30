use Rattle.std.proofs.Common.{ap, ◌∙◌}
use Rattle.granit_cursor.specs.declared.token.TokenType.{TokenType}
use Rattle.granit_base.specs.declared.place.Span.{Span}
use Rattle.granit_content.specs.KindViews.{kind_of_type}
use Rattle.granit_content.proofs.nodes.token_lexeme.Goals as goal

pub returns : goal.returns
returns g c = λ h after begun lands.
    let kind = c.lexeme_kind-kind.ensures ∙ ap (λ (p : Span × TokenType). kind_of_type p.1)
    c.into_parts-token_type.ensures in
    rw (kind, c.mark.ensures.here after lands) at (c.write_lexeme.ensures h begun)
