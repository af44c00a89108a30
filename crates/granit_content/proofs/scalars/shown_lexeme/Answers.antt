use Rattle.std.proofs.Common.{ap, ◌∙◌}
use Rattle.std.specs.Option.{option_map}
use Rattle.granit_base.specs.declared.place.Span.{Span}
use Rattle.granit_lexemes.specs.Lexeme.{Lexeme}
use Rattle.granit_items.specs.ItemViews.{boxed_view}
use Rattle.granit_content.specs.ScalarReads.{token_as}
use Rattle.granit_content.proofs.scalars.shown_lexeme.Goals as goal

pub returns : goal.returns
returns c = λ h begun.
    let token = c.args.token in
    let tail = option_map boxed_view c.args.tail in
    let span = c.span-span.result in
    ap (λ (x : Lexeme). record x { shown = record { start = span.start; end = x.shown.end }; indent = span.indent })
    (c.scalar_lexeme.ensures h begun)
    ∙ ap (λ (s : Span). record (token_as c.args.ends token tail h c.args.layouts.now) {
      shown =
          record { start = s.start; end = token.span.end };
      indent = s.indent;
    }) c.span-span.ensures
