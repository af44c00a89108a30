-- Behind what is found all is told that the text tells that is left.
use Rattle.std.proofs.Common.{◌≡◌, ℕ, suc, ◌≤◌, ◌==◌, ◌||◌, ◌&&◌, not, Bool, true, false, List, [], ◌∷◌, Option, Some}
use Rattle.std.proofs.Common.{None, inr}
use Rattle.std.proofs.Common.{refl, sym, ap, subst, ◌∙◌, drop, length}
use Rattle.std.proofs.lemmas.Bool.{eq-eqb}
use Rattle.granit_base.specs.Classes.{is_blank_or_breakz, is_break, is_breakz, is_z}
use Rattle.granit_base.specs.Place.{Mark, first}
use Rattle.granit_error.specs.OptionsData.{OptionsData}
use Rattle.granit_lexemes.proofs.HereLemmas.{not_empty}
use Rattle.granit_lexemes.specs.Here.{Here, mark_of, next_char, text_len}
use Rattle.granit_lexemes.specs.Lexeme.{Lexeme, LexemeKind, Item, OfLexeme, OfComment}
use Rattle.granit_lexemes.specs.Lexeme as lexemes
use Rattle.granit_lexemes.specs.Source.{Source}
use Rattle.granit_machine.specs.Lexing.{FlaggedItem}
use Rattle.granit_machine.specs.Reader.{is_end_kind}
use Rattle.granit_restart.specs.Boundary.{is_separated}
use Rattle.granit_restart.specs.Restart.{at_found, at_lexeme, behind_fault, behind_fault_at, boundary_of, cursor_at}
use Rattle.granit_restart.specs.Restart.{is_boundary}
use Rattle.granit_restart.specs.Restart.{lexeme_or, read_boundary, without_columns}
use Rattle.granit_scalars.proofs.Comments.{steps_text}
use Rattle.granit_steps.specs.Steps.{StepState}
use Rattle.granit_behind.proofs.AtStarts.{waits_gives}
use Rattle.granit_behind.proofs.BoundaryTells.{boundary_tells, left_tells}
use Rattle.granit_behind.proofs.FoundLaws.{Holds, cursor_end, cursor_start, led_holds}
use Rattle.granit_led.proofs.KeptDeclared.{led_declared}
use Rattle.granit_behind.proofs.StartReads.{three_line}
use Rattle.granit_led.proofs.StartsRead.{is_start}
use Rattle.granit_behind.proofs.TextEnds.{end_tells}
use Rattle.granit_behind.proofs.TextTells.{text_tells}
use Rattle.granit_led.specs.Alone.{StaysDeclared}
use Rattle.granit_led.specs.Found.{StartRead}
use Rattle.granit_led.specs.Led.{Led, TellsFound, TellsMark}

-- ---- what was found is a boundary

is_found : (h : Here) (b : Bool) (x l : Lexeme) (later : Option Lexeme) → is_boundary h x.kind x ≡ b
    → (later ≡ Some l → is_boundary h l.kind l ≡ true) → lexeme_or b x later ≡ Some l → is_boundary h l.kind l ≡ true
is_found h true x l later is more e =
    let same : x ≡ l = cc in subst (λ (y : Lexeme). is_boundary h y.kind y ≡ true) same is
is_found h false x l later is more e = more e

found_of : (h : Here) (i : Item) (l : Lexeme) (later : Option Lexeme)
    → (later ≡ Some l → is_boundary h l.kind l ≡ true) → boundary_of h i later ≡ Some l
    → is_boundary h l.kind l ≡ true
found_of h (OfLexeme x) l later more e = is_found h (is_boundary h x.kind x) x l later refl more e
found_of h (OfComment c) l later more e = more e

pub found_boundary : (h : Here) (q : List FlaggedItem) (l : Lexeme) → read_boundary h q ≡ Some l
    → is_boundary h l.kind l ≡ true
found_boundary h [] l e = absurd (cc)
found_boundary h (i ∷ is) l e = found_of h i.item l (read_boundary h is) (found_boundary h is l) e

-- ---- a `---` that ends where reading stands is parted by no NUL

not_nul : (a z : Bool) → not ((true && z) && not a) ≡ true → a ≡ false → z ≡ false
not_nul true z e f = absurd (cc)
not_nul false true e f = absurd (cc)
not_nul false false e f = refl

without_nul : (a b z : Bool) → (a || (b || z)) ≡ true → z ≡ false → (a || b) ≡ true
without_nul true b z e f = refl
without_nul false true z e f = refl
without_nul false false z e f = sym f ∙ e

separated : (behind : List ℕ) → is_blank_or_breakz (first behind) ≡ true
    → not ((true && first behind == 0) && not (length behind == 0)) ≡ true → is_separated behind ≡ true
unfolding is_blank_or_breakz is_breakz is_z
separated [] parts ends = refl
separated (c ∷ cs) parts ends =
    without_nul (Rattle.granit_base.specs.Classes.is_blank c) (is_break c) (c == 0) parts
    (not_nul (length (c ∷ cs) == 0) (c == 0) ends (not_empty c cs))

behind_start : (h : Here) (l : Lexeme) (r : StartRead h l) → is_boundary h lexemes.DocumentStart l ≡ true
    → is_separated r.behind ≡ true
behind_start h l r is =
    let text : h.unread.text ≡ r.behind =
    ap (λ (g : Here). g.unread.text) r.reaches ∙ steps_text 3 r.place ∙ ap (drop 3) r.text in
    let there : l.end ≡ mark_of h = r.end ∙ sym (ap mark_of r.reaches) in
    let ends : (l.end.place.index == h.place.index) ≡ true =
    ap (λ (m : Mark). m.place.index == h.place.index) there ∙ eq-eqb h.place.index h.place.index refl in
    separated r.behind r.parted
    (sym (ap (λ (t : List ℕ). not ((true && first t == 0) && not (length t == 0))) text)
    ∙ sym (ap (λ (b : Bool). not ((b && next_char h == 0) && not (text_len h == 0))) ends) ∙ is)

-- ---- what is told

module _ (o : OptionsData) (s : StepState) (stays : StaysDeclared o s.parser) where
  abbrev number : ℕ
  number = s.reading.reader.laid.number

  mark_tells : (h : Here) (l : Lexeme) (kind : LexemeKind) → 1 ≤ h.place.line → l.kind ≡ kind
      → is_boundary h kind l ≡ true → (is_start kind ≡ true → StartRead h l)
      → (is_end_kind kind ≡ true → h.unread.text ≡ [])
      → TellsMark o number s.parser h kind l (at_lexeme h s kind l).1
  mark_tells h l lexemes.DocumentStart some e is stands left =
      let r = stands refl in
      let line : h.place.line ≡ r.place.place.line =
      ap (λ (g : Here). g.place.line) r.reaches ∙ three_line r.place r.behind r.text in (
        r,
        text_tells o number r.place s.parser (at_lexeme h s lexemes.DocumentStart l).1
            (subst (λ n. 1 ≤ n) line some)
            (λ es f gives. waits_gives o s r.place h (without_columns l) r.behind es f r.column r.text
            (behind_start h l r is) r.reaches r.kind r.keyless r.untailed
            (r.shown ∙ ap (λ (g : Here). let span : Source =
            record { start = mark_of r.place; end = mark_of g } in span)
            (sym r.reaches)) gives) stays,
      )
  mark_tells h l lexemes.DocumentEnd some e is stands left =
      λ ends. left_tells o s stays h h.unread.text some refl ends
  mark_tells h l lexemes.StreamEnd some e is stands left = end_tells o s.parser (suc number) false h (left refl)
  mark_tells h l kind some e is stands left = absurd (cc)

  by_found : (stop : Here) (r : Option Lexeme) → Holds s → 1 ≤ (cursor_at stop s.reading).place.line
      → read_boundary (cursor_at stop s.reading) s.queue ≡ r
      → TellsFound o number s.parser (cursor_at stop s.reading) r (at_found (cursor_at stop s.reading) s r).1
  by_found stop None holds some e = boundary_tells o s stays (cursor_at stop s.reading) some
  by_found stop (Some l) holds some e =
      let h = cursor_at stop s.reading in
      mark_tells h l l.kind some refl (found_boundary h s.queue l e) (cursor_start stop s l holds e)
      (cursor_end stop s l holds e)

  found_so : (stop : Here) → Led o s → 1 ≤ (cursor_at stop s.reading).place.line
      → TellsFound o number s.parser (cursor_at stop s.reading) (read_boundary (cursor_at stop s.reading) s.queue)
      (behind_fault stop s).1
  unfolding behind_fault_at
  found_so stop led some =
      by_found stop (read_boundary (cursor_at stop s.reading) s.queue) (led_holds o s led) some refl

-- handles that stay were declared, wherever turns and restarts lead
pub found_tells : (o : OptionsData) (s : StepState) (stop : Here) → Led o s
    → 1 ≤ (cursor_at stop s.reading).place.line
    → TellsFound o s.reading.reader.laid.number s.parser (cursor_at stop s.reading)
    (read_boundary (cursor_at stop s.reading) s.queue) (behind_fault stop s).1
found_tells o s stop led some = found_so o s (inr (led_declared o s led)) stop led some
