-- The `---` of canonical text and its end stand.
use Rattle.std.proofs.Common.{List, [], ap, false, refl, sym, true, ℕ, ◌∙◌, ◌∷◌, ◌≡◌}
use Rattle.std.specs.Prelude.{None}
use Rattle.granit_base.specs.Classes.{is_blank, is_blank_or_breakz}
use Rattle.granit_canonical_steps.proofs.Calm.{Calm, calm_all, calm_behind, calm_forgets, shape_outside, top_mild}
use Rattle.granit_canonical_steps.proofs.Places.{Held, directly, marked, parts_gap, past_all, spaced}
use Rattle.granit_canonical_steps.proofs.Signs.{source_is}
use Rattle.granit_canonical_steps.proofs.Taking.{Taken, begins_text, passed_at}
use Rattle.granit_error.specs.OptionsData.{OptionsData}
use Rattle.granit_language.specs.Before.{behind}
use Rattle.granit_language.specs.Begins.{at_end, dashes}
use Rattle.granit_language.specs.Reached.{ends_column_by}
use Rattle.granit_lexemes.specs.Here.{Here, mark_of}
use Rattle.granit_lexemes.specs.Lexeme.{DocumentStart, StreamEnd}
use Rattle.granit_lexemes.specs.Moves.{steps}
use Rattle.granit_lexemes.specs.PlainExtent.{over}
use Rattle.granit_lexemes.specs.declared.layout.LastLexeme.TheVariants.{Another}
use Rattle.granit_machine.specs.Columns.{closed_all}
use Rattle.granit_machine.specs.Laid.{is_opener}
use Rattle.granit_machine.specs.LexemeSort.{StartMark, TextEnd}
use Rattle.granit_machine.specs.PossibleKeys.{forgets_key}
use Rattle.granit_machine.specs.ReaderState.{ReaderState, lexeme_to}

pub three_steps : (h : Here) → over (0x2D ∷ 0x2D ∷ 0x2D ∷ []) h ≡ steps 3 h
unfolding steps
three_steps h = refl

a_blank : is_blank_or_breakz 0x20 ≡ true
unfolding is_blank_or_breakz is_blank
a_blank = refl

module _ (o : OptionsData) (x : List ℕ) where
  pub takes_start : (rest : List ℕ) (t : ReaderState) → t.here.place.column ≡ 0 → Held x t.here
      → t.here.unread.text ≡ 0x2D ∷ 0x2D ∷ 0x2D ∷ 0x20 ∷ rest → Calm [] t.laid
      → Taken o x [] StartMark DocumentStart (0x2D ∷ 0x2D ∷ 0x2D ∷ 0x20 ∷ rest) (0x20 ∷ rest) rest false t
  takes_start rest t column held e c =
      let h = t.here in
      let l = closed_all t.laid in
      let calm = calm_all [] t.laid c in
      let from = 0x2D ∷ 0x2D ∷ 0x2D ∷ 0x20 ∷ rest in
      let after = over (0x2D ∷ 0x2D ∷ 0x2D ∷ []) h in
      let p = past_all x (0x2D ∷ 0x2D ∷ 0x2D ∷ []) (0x20 ∷ rest) h e held in
      let y = lexeme_to (ends_column_by StartMark t) DocumentStart (mark_of (steps 3 h)) h l in
      record {
        lexeme = y;
        behind = record { here = after; laid = behind o StartMark y None after h l };
        begins = begins_text t from StartMark e (dashes (column, 0x20 ∷ rest, refl, a_blank));
        given = (
          tt,
          ((record { is = refl; reaches = three_steps h }, shape_outside l.brackets calm.shape), refl),
        );
        kind_is = refl;
        key_is = refl;
        tail_is = refl;
        indent_is = refl;
        start_is = marked x from h held e;
        shown_is = source_is (marked x from h held e)
            (ap mark_of (sym (three_steps h)) ∙ marked x (0x20 ∷ rest) after p.held p.text);
        before = record { gap = 0x20 ∷ []; held = p.held; text = p.text; is_gap = parts_gap spaced };
        passed = passed_at x (0x20 ∷ rest) after p.held p.text;
        calm = calm_behind Another [] (forgets_key l) (calm_forgets [] l calm);
        opener = refl;
      }

  pub takes_end : (t : ReaderState) → Held x t.here → t.here.unread.text ≡ [] → Calm [] t.laid
      → Taken o x [] TextEnd StreamEnd [] [] [] (is_opener t.laid.last) t
  takes_end t held e c =
      let h = t.here in
      let l = t.laid in
      let y = lexeme_to (ends_column_by TextEnd t) StreamEnd (mark_of h) h l in
      let calm = calm_forgets [] l c in
      record {
        lexeme = y;
        behind = record { here = h; laid = behind o TextEnd y None h h l };
        begins = begins_text t [] TextEnd e at_end;
        given = (
          tt,
          ((record { is = refl; reaches = refl }, shape_outside l.brackets c.shape, top_mild [] l c), refl),
        );
        kind_is = refl;
        key_is = refl;
        tail_is = refl;
        indent_is = refl;
        start_is = marked x [] h held e;
        shown_is = source_is (marked x [] h held e) (marked x [] h held e);
        before = directly x [] h held e;
        passed = passed_at x [] h held e;
        calm = record { key = calm.key; shape = calm.shape; columns = refl; cut = calm.cut };
        opener = refl;
      }
