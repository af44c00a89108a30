use Rattle.std.proofs.Common.{◌≡◌, ◌==◌, ℕ, List, [], length, true, sym, ap, ◌∙◌}
use Rattle.std.specs.Str.{chars}
use Rattle.std.proofs.lemmas.Bool.{eqb-true}
use Rattle.std.proofs.lemmas.List.{nil_from_length}
use Rattle.granit_quoted.specs.QuotedCode.{kept_chars, nothing_quoted, quoted_whole}
use Rattle.granit_quoted.specs.QuotedTaken.{QuotedTaken}
use Rattle.granit_quoted.proofs.quoted.parts_begun.Goals as goal

pub returns-clause-here : goal.returns-clause-here
returns-clause-here g c = λ h k.
    let none : (length (chars c.args.front.now) == 0) ≡ true =
    sym c.is_at_end.ensures.value ∙ c.if-not-is_at_end.false in
    let empty : chars c.args.front.now ≡ [] =
    nil_from_length (chars c.args.front.now) (eqb-true (length (chars c.args.front.now)) 0 none) in
    let nothing = c.in_ok-parts.ensures ∙ ap (λ (cs : List ℕ). kept_chars nothing_quoted cs) empty in
    let words = c.in_ok-take_words.ensures.here h k (ap (λ (p : QuotedTaken). p.pending) nothing)
    (ap (λ (p : QuotedTaken). p.on_new_line) nothing) in (
      words.0,
      words.1,
      λ at start. words.2 at start
          ∙ ap (λ (p : QuotedTaken). quoted_whole c.args.single at start p h) c.in_ok-parts.ensures,
    )
