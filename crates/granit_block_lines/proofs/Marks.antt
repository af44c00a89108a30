-- The `---` of block text and its end stand.
use Rattle.std.proofs.Common.{List, Option, [], arith, refl, subst, sym, ℕ, ◌++◌, ◌∙◌, ◌∷◌, ◌≡◌}
use Rattle.std.specs.Prelude.{None, if◌then◌else◌}
use Rattle.granit_base.specs.Classes.{is_break}
use Rattle.granit_block_lines.proofs.Lines.{along_all, is_flat}
use Rattle.granit_block_lines.proofs.Ready.{Around, Arrived, Begun, Behind, Lies, around_none, behind_gap_is}
use Rattle.granit_block_lines.proofs.Ready.{lands, leads, lies_mild, none_kept, none_past, outside}
use Rattle.granit_block_lines.proofs.Signs.{key_outside, keyed_outside, next_parts, top_outside}
use Rattle.granit_block_lines.proofs.Taking.{Taken}
use Rattle.granit_canonical_steps.proofs.Calm.{Mild}
use Rattle.granit_canonical_steps.proofs.Places.{past_all}
use Rattle.granit_canonical_steps.proofs.Taking.{begins_text}
use Rattle.granit_canonical_steps.proofs.Marks.{three_steps}
use Rattle.granit_error.specs.OptionsData.{OptionsData}
use Rattle.granit_language.specs.Before.{behind}
use Rattle.granit_language.specs.Begins.{at_end, dashes}
use Rattle.granit_language.specs.Reached.{ends_column_by}
use Rattle.granit_language.specs.Standing.{NoneRequired}
use Rattle.granit_lexemes.specs.Gap.{Each}
use Rattle.granit_lexemes.specs.Here.{mark_of}
use Rattle.granit_lexemes.specs.Lexeme.{DocumentStart, StreamEnd}
use Rattle.granit_lexemes.specs.Moves.{steps}
use Rattle.granit_lexemes.specs.PlainExtent.{over}
use Rattle.granit_lexemes.specs.declared.layout.OpenBracket.{OpenBracket}
use Rattle.granit_lexemes.specs.declared.layout.OpenColumn.{OpenColumn}
use Rattle.granit_lexemes.specs.declared.layout.PossibleKey.{PossibleKey}
use Rattle.granit_machine.specs.Columns.{closed_all}
use Rattle.granit_machine.specs.Laid.{Laid, is_nonempty}
use Rattle.granit_machine.specs.LexemeSort.{StartMark, TextEnd}
use Rattle.granit_machine.specs.ReaderState.{ReaderState, lexeme_to}
use Rattle.granit_canonical_steps.proofs.Places.{cols}

dashes_flat : Each is_flat (0x2D ∷ 0x2D ∷ 0x2D ∷ [])
unfolding is_break
dashes_flat = (refl, (refl, (refl, tt)))

all_closed : (obs : List OpenBracket) (cs : List OpenColumn) → Around [] obs
    → cols (if is_nonempty obs then cs else []) ≡ []
all_closed _ cs outside = refl

none_required : (l : Laid) → Around [] l.brackets → Mild l.key → NoneRequired l
none_required l a m k e = m k (sym (top_outside l.brackets l.key a) ∙ e)

module _ (o : OptionsData) (x : List ℕ) where
  pub takes_start : {g : List ℕ} (b : Behind g) (cs : List ℕ) (rest : List ℕ) (t : ReaderState)
      → Arrived x (0x2D ∷ 0x2D ∷ 0x2D ∷ (g ++ rest)) [] cs (Begun 0) t
      → Taken o x [] [] (leads b 0) StartMark DocumentStart rest t
  takes_start {g} b cs rest t a =
      let h = t.here in
      let l = closed_all t.laid in
      let from = 0x2D ∷ 0x2D ∷ 0x2D ∷ (g ++ rest) in
      let after = over (0x2D ∷ 0x2D ∷ 0x2D ∷ []) h in
      let p = past_all x (0x2D ∷ 0x2D ∷ 0x2D ∷ []) (g ++ rest) h a.text a.held in
      let along = along_all (0x2D ∷ 0x2D ∷ 0x2D ∷ []) (g ++ rest) h a.text dashes_flat in
      let at = a.lies in
      let y = lexeme_to (ends_column_by StartMark t) DocumentStart (mark_of (steps 3 h)) h l in
      record {
        lexeme = y;
        behind = record { here = after; laid = behind o StartMark y None after h l };
        begins = begins_text t from StartMark a.text (dashes (at.column, g ++ rest, refl, next_parts b rest));
        given = (
          tt,
          ((record { is = refl; reaches = three_steps h }, around_none l.brackets a.around), refl),
        );
        kind_is = refl;
        key_is = refl;
        tail_is = refl;
        indent_is = refl;
        place_is = refl;
        ready = record {
          gap = g;
          held = p.held;
          text = p.text;
          is_gap = behind_gap_is b;
          lies = subst (λ (key : Option PossibleKey). Lies (leads b 0) key (over g after))
              (sym (key_outside l.brackets None l.key a.around))
              (lands b 0 rest None after p.text
              (record { right = omega arith; tab = along.tab at.tab; kept = none_kept after.place.line }));
          around = keyed_outside l.brackets None a.around;
          columns = all_closed t.laid.brackets t.laid.columns a.around;
          cut = a.cut;
        };
      }

  pub takes_end : (cs : List ℕ) (t : ReaderState) → Arrived x [] [] cs (Begun 0) t
      → Taken o x [] [] (Begun 0) TextEnd StreamEnd [] t
  takes_end cs t a =
      let h = t.here in
      let l = t.laid in
      let at = a.lies in
      let y = lexeme_to (ends_column_by TextEnd t) StreamEnd (mark_of h) h l in
      record {
        lexeme = y;
        behind = record { here = h; laid = behind o TextEnd y None h h l };
        begins = begins_text t [] TextEnd a.text at_end;
        given = (
          tt,
          (
            (
              record { is = refl; reaches = refl },
              around_none l.brackets a.around,
              none_required l a.around (lies_mild (Begun 0) l.key h at),
            ),
            refl,
          ),
        );
        kind_is = refl;
        key_is = refl;
        tail_is = refl;
        indent_is = refl;
        place_is = refl;
        ready = record {
          gap = [];
          held = a.held;
          text = a.text;
          is_gap = tt;
          lies = subst (λ (key : Option PossibleKey). Lies (Begun 0) key h)
              (sym (key_outside l.brackets None l.key a.around))
              (record { column = at.column; begins = at.begins; tab = at.tab; past = none_past h.place.line });
          around = keyed_outside l.brackets None a.around;
          columns = refl;
          cut = a.cut;
        };
      }
