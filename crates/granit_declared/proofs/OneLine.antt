-- A tail ends on the line of what stands before it.
use Rattle.std.proofs.Common.{◌≡◌, ℕ, false, List, [], ◌∷◌, ◌++◌, length, Option}
use Rattle.std.proofs.Common.{refl, ap, ◌∙◌}
use Rattle.granit_base.specs.Classes.{is_blank, is_break}
use Rattle.granit_lexemes.proofs.CharTests.{blank_apart_from_break, no_break_noted}
use Rattle.granit_lexemes.specs.Comment.{CommentRead, StandsComment, is_line_char}
use Rattle.granit_lexemes.specs.Gap.{Each}
use Rattle.granit_lexemes.specs.HeaderExtent.{LexemeTail, commented, uncommented}
use Rattle.granit_lexemes.specs.Here.{Here, step}
use Rattle.granit_lexemes.specs.Lexeme.{opener_char}
use Rattle.granit_lexemes.specs.Moves.{steps}
use Rattle.granit_lexemes.specs.PlainExtent.{over}
use Rattle.granit_lexemes.specs.declared.layout.Bracket.{Bracket}
use Rattle.granit_lexemes.specs.declared.layout.Bracket.TheVariants.{Square, Curly}
use Rattle.granit_lexemes.proofs.HereLemmas.{stepped_text, step_line}

pub opener_line : (b : Bracket) (h : Here) (t : List ℕ) → h.unread.text ≡ opener_char b ∷ t →
    (step h).place.line ≡ h.place.line
unfolding is_break
opener_line b h t e = step_line h (opener_char b) t e (no_break b)
  where
    no_break : (b : Bracket) → is_break (opener_char b) ≡ false
    no_break Square = refl
    no_break Curly = refl

-- ---- over characters of a line

over_line : (cs more : List ℕ) (h : Here) → h.unread.text ≡ cs ++ more → Each is_blank cs →
    (over cs h).place.line ≡ h.place.line
over_line [] more h e b = refl
over_line (c ∷ cs) more h e b =
    over_line cs more (step h) (stepped_text h c (cs ++ more) e) b.1
    ∙ step_line h c (cs ++ more) e (blank_apart_from_break c b.0)

steps_line : (cs more : List ℕ) (h : Here) → h.unread.text ≡ cs ++ more → Each is_line_char cs →
    (steps (length cs) h).place.line ≡ h.place.line
unfolding steps
steps_line [] more h e b = refl
steps_line (c ∷ cs) more h e b =
    steps_line cs more (step h) (stepped_text h c (cs ++ more) e) b.1
    ∙ step_line h c (cs ++ more) e (no_break_noted c b.0)

comment_line : {h after : Here} {c : CommentRead} → StandsComment h c after → after.place.line ≡ h.place.line
unfolding steps is_break
comment_line {h = h} {c = c} p =
    let e = p.spelled.spelled in
    let cs = c.text.characters in
    ap (λ (g : Here). g.place.line) p.lands
    ∙ (steps_line cs p.spelled.behind (step h) (stepped_text h 0x23 (cs ++ p.spelled.behind) e) p.spelled.text
    ∙ step_line h 0x23 (cs ++ p.spelled.behind) e refl)

pub tail_line : {end after : Here} {held : Option CommentRead} → LexemeTail end held after →
    after.place.line ≡ end.place.line
tail_line {end = end} (commented b blanks rest c p y s) =
    comment_line s ∙ over_line (b ∷ blanks) rest end p.whole p.each
tail_line {end = end} (uncommented blanks rest p n lands) =
    ap (λ (g : Here). g.place.line) lands ∙ over_line blanks rest end p.whole p.each
