use Rattle.std.proofs.Common.{◌∙◌, sym, ap}
use Rattle.std.proofs.lemmas.Str.{chars-nil}
use Rattle.granit_base.specs.declared.place.Span.{Span}
use Rattle.granit_cursor.specs.declared.token.TokenType.{TokenType}
use Rattle.granit_content.specs.KindViews.{note_of_type}
use Rattle.granit_content.proofs.KindLemmas.{no_note}
use Rattle.granit_content.proofs.kinds.note.Goals as goal

pub returns : goal.returns
returns c =
    let parts = c.into_parts-token_type in
    let same = ap (λ (p : Span × TokenType). note_of_type p.1 (record { start = p.0.start; end = p.0.end }))
    parts.ensures in
    rw (c.borrowed.ensures, chars-nil) (sym (no_note parts.result.1
    (record { start = parts.result.0.start; end = parts.result.0.end }) c.in_default.not-Comment) ∙ same)
