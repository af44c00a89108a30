-- Double-quoted scalars of block text stand in their lines.
use Rattle.std.proofs.Common.{List, [], ap, append_assoc, arith, false, refl, subst, sym, true, ℕ}
use Rattle.std.proofs.Common.{◌++◌, ◌==◌, ◌∙◌, ◌∷◌, ◌≡◌}
use Rattle.std.specs.Prelude.{None}
use lib.Utf8.{scalars}
use Rattle.granit_base.specs.Place.{Mark, first}
use Rattle.granit_base.specs.Written.{Written}
use Rattle.granit_base.specs.declared.style.ScalarStyle.TheVariants.{DoubleQuoted}
use Rattle.granit_block_lines.proofs.Flats.{high_flat, quoted_flat}
use Rattle.granit_block_lines.proofs.Keyed.{node_on, noded_kept, open_columns}
use Rattle.granit_block_lines.proofs.Lines.{along_all, along_then, is_flat, line_gap}
use Rattle.granit_block_lines.proofs.Ready.{Arrived, Begun, OnLine, bound, fed_to, lands}
use Rattle.granit_block_lines.proofs.Signs.{keyed_outside, no_left_inside}
use Rattle.granit_block_lines.proofs.Taking.{Taken, no_tab_fits}
use Rattle.granit_canonical_steps.proofs.Calm.{no_cut_fits}
use Rattle.granit_canonical_steps.proofs.Fronts.{quoted_front}
use Rattle.granit_canonical_steps.proofs.Places.{Starts, blank_feed, gap_stops, gap_to, past_all}
use Rattle.granit_canonical_steps.proofs.Quoting.{spelled_between}
use Rattle.granit_canonical_steps.proofs.Taking.{begins_text}
use Rattle.granit_canonical_steps.specs.Canonical.{between_quotes}
use Rattle.granit_canonical_steps.proofs.Quotes.{closing_quote, ends_by, feed_trails, quote_begins, text_between}
use Rattle.granit_error.specs.OptionsData.{OptionsData}
use Rattle.granit_generator.specs.BlockText.{indent}
use Rattle.granit_language.specs.Allowed.{MayPrefix}
use Rattle.granit_language.specs.Before.{in_front}
use Rattle.granit_language.specs.Reached.{ends_column_by}
use Rattle.granit_language.specs.Standing.{in_front_of_lexeme, quoted_lexeme_of}
use Rattle.granit_lexemes.proofs.CharTests.{feed_prints}
use Rattle.granit_lexemes.specs.Gap.{Each}
use Rattle.granit_lexemes.specs.Here.{Here, mark_of}
use Rattle.granit_lexemes.specs.LayoutData.{LayoutData}
use Rattle.granit_lexemes.specs.Lexeme.{Scalar}
use Rattle.granit_lexemes.specs.PlainExtent.{over}
use Rattle.granit_lexemes.specs.QuotedExtent.{Blanks, ends_quoted, nothing, on_line, quoted_answer}
use Rattle.granit_lexemes.specs.QuotedExtent.{quoted_end}
use Rattle.granit_lexemes.specs.declared.layout.LastLexeme.TheVariants.{Adjacent}
use Rattle.granit_machine.specs.Gaps.{behind_gap}
use Rattle.granit_machine.specs.Laid.{behind_lexeme, is_adjacent, is_in_flow}
use Rattle.granit_machine.specs.LexemeSort.{Placed, QuoteSign}
use Rattle.granit_machine.specs.PossibleKeys.{layout_of}
use Rattle.granit_machine.specs.ReaderState.{ReaderState}
use Rattle.granit_model.specs.FlowText.{quoted_characters}
use Rattle.granit_reading.proofs.Deciding.{layout_is}

-- a line's end may stand behind a quoted scalar
ends_there : (at : LayoutData) (start : Mark) (t : List ℕ) (h : Here) → h.unread.text ≡ 0x0A ∷ t
    → ends_quoted at start h ≡ true
ends_there at start t h e = ends_by at start h 0x0A t e feed_prints (λ v. feed_trails at v)

-- a quote, and what stands between it and the next one
quote_flat : (chars inside : List ℕ) → quoted_characters chars [] ≡ inside → Each is_flat (0x22 ∷ inside)
quote_flat chars inside e =
    (high_flat 0x22 (omega arith), subst (Each is_flat) e (quoted_flat chars [] tt))

module _ (o : OptionsData) (x : List ℕ) where
  pub takes_quoted : (c : ℕ) (cs chars rest : List ℕ) (t : ReaderState) → Starts rest → scalars chars ≡ true
      → Arrived x (0x22 ∷ quoted_characters chars (0x22 ∷ ((0x0A ∷ indent c []) ++ rest))) [] cs (OnLine (bound cs)) t
      → Taken o x [] cs (Begun c) (Placed (QuoteSign false)) (Scalar DoubleQuoted (between_quotes chars)) rest t
  takes_quoted c cs chars rest t st s a =
      let h = t.here in
      let g = 0x0A ∷ indent c [] in
      let l = in_front (Placed (QuoteSign false)) h t.laid in
      let layout = layout_of o h.place.column l in
      let left = 0x22 ∷ (g ++ rest) in
      let b = spelled_between layout [] chars left tt s in
      let inside = b.source ++ b.gap in
      let whole : h.unread.text ≡ 0x22 ∷ (inside ++ left) = a.text
      ∙ ap (λ (l : List ℕ). 0x22 ∷ l) (quoted_front chars left ∙ ap (λ (l : List ℕ). l ++ left) b.whole) in
      let p = past_all x (0x22 ∷ inside) left h whole a.held in
      let q = past_all x (0x22 ∷ []) (g ++ rest) (over (0x22 ∷ inside) h) p.text p.held in
      let end = quoted_end false h b.source b.gap in
      let along = along_then h (over (0x22 ∷ inside) h) end
      (along_all (0x22 ∷ inside) left h whole (quote_flat chars inside b.whole))
      (along_all (0x22 ∷ []) (g ++ rest) (over (0x22 ∷ inside) h) p.text (high_flat 0x22 (omega arith), tt)) in
      let kept = noded_kept false h t.laid cs a.around a.columns a.lies in
      let lies = lands (fed_to c) (bound cs) rest l.key end q.text
      (node_on (bound cs) l.key t.laid.key h end along a.lies kept) in
      let read = quoted_answer false h b.source b.gap chars None in
      let y = quoted_lexeme_of false (ends_column_by (Placed (QuoteSign false)) t) h l read in
      let inner = behind_lexeme Adjacent l in
      let r = past_all x g rest end q.text q.held in
      let at : ReaderState = record { here = over g end; laid = behind_gap true inner } in
      record {
        lexeme = y;
        behind = record { here = at.here; laid = record (at.laid) { last = Adjacent } };
        begins = begins_text t (0x22 ∷ quoted_characters chars left) (Placed (QuoteSign false)) a.text
            (quote_begins (is_in_flow t.laid) (is_adjacent t.laid.last) h.place.column (quoted_characters chars left));
        given = (
          no_left_inside o h l (keyed_outside t.laid.brackets _ a.around),
          record {
            read = read;
            end = end;
            note = None;
            at = at;
            layout = layout;
            told = layout_is o h.place.column l;
            answers = record {
              source = b.source;
              value = b.value;
              gap = b.gap;
              left = false;
              between = Blanks b.gap;
              rest = left;
              noted = None;
              stands = record {
                front = record {
                  whole = whole ∙ ap (λ (l : List ℕ). 0x22 ∷ l) (append_assoc b.source b.gap left);
                  inside = b.inside;
                  separated = on_line b.blanks;
                };
                closing = closing_quote (g ++ rest);
                placed = tt;
              };
              trails = nothing [] (g ++ rest) (record { whole = q.text; each = tt; all = blank_feed }) refl refl
                  (ends_there layout (mark_of h) (indent c [] ++ rest) end q.text);
              answer = ap (λ (v : List ℕ). quoted_answer false h b.source b.gap v None) (sym b.spells);
            };
            gap = in_front_of_lexeme (over g end)
                (record {
                  gap = g;
                  over = gap_to (MayPrefix inner) g rest end q.text (line_gap c);
                  stops = gap_stops (MayPrefix inner) rest (over g end) r.text st;
                })
                (ap (λ (l : List ℕ). first l == 0x23) r.text ∙ st.no_comment)
                (no_tab_fits o inner at.here lies.tab) (no_cut_fits inner at.here a.cut);
            gives = refl;
            leaves = refl;
          },
        );
        kind_is = ap (λ (text : Written). Scalar DoubleQuoted text)
            (text_between chars inside h b.whole (a.held).lends);
        key_is = refl;
        tail_is = refl;
        indent_is = refl;
        place_is = refl;
        ready = record {
          gap = [];
          held = r.held;
          text = r.text;
          is_gap = tt;
          lies = lies;
          around = keyed_outside t.laid.brackets _ a.around;
          columns = open_columns h.place.column t.laid cs a.around a.columns (a.lies).right;
          cut = refl;
        };
      }
