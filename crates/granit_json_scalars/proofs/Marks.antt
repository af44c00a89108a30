-- Brackets and commas of JSON stand, with white space behind them.
use Rattle.std.proofs.Common.{List, ap, arith, drop, false, length, refl, true, ℕ, ◌++◌, ◌<◌}
use Rattle.std.proofs.Common.{◌∷◌, ◌≡◌}
use Rattle.std.specs.Prelude.{None, if◌then◌else◌}
use Rattle.granit_canonical_steps.proofs.Calm.{Calm, Fine, calm_behind, calm_closed, calm_forgets, calm_noded}
use Rattle.granit_canonical_steps.proofs.Calm.{calm_opened}
use Rattle.granit_canonical_steps.proofs.Calm.{calm_shut, shape_flow, shape_innermost, shape_length, stands_inside}
use Rattle.granit_canonical_steps.proofs.Calm.{top_mild}
use Rattle.granit_canonical_steps.proofs.Places.{Held, Starts, held_on, marked}
use Rattle.granit_canonical_steps.proofs.Signs.{source_is, closer_begins, opener_begins, comma_begins}
use Rattle.granit_canonical_steps.proofs.Taking.{Taken, begins_text, passed_at}
use Rattle.granit_error.specs.OptionsData.{OptionsData}
use Rattle.granit_json_scalars.proofs.Gaps.{tail_past}
use Rattle.granit_language.specs.Before.{behind, in_front}
use Rattle.granit_language.specs.Reached.{ends_column_by}
use Rattle.granit_lexemes.proofs.HereLemmas.{stepped_text}
use Rattle.granit_lexemes.specs.Gap.{IsGap}
use Rattle.granit_lexemes.specs.Here.{mark_of, step}
use Rattle.granit_lexemes.specs.Lexeme.{Close, Comma, Open, closer_char, opener_char}
use Rattle.granit_lexemes.specs.declared.layout.Bracket.{Bracket}
use Rattle.granit_lexemes.specs.declared.layout.LastLexeme.TheVariants.{Adjacent, Another, Opener}
use Rattle.granit_machine.specs.Columns.{closed_at}
use Rattle.granit_machine.specs.FlowLexemes.{closed_bracket, last_of_comma, opened}
use Rattle.granit_machine.specs.Laid.{is_adjacent, is_in_flow, is_opener}
use Rattle.granit_machine.specs.LexemeSort.{CloseSign, CommaSign, OpenSign, Placed}
use Rattle.granit_machine.specs.PossibleKeys.{forgets_key}
use Rattle.granit_machine.specs.ReaderState.{ReaderState, lexeme_to, with_tail}

module _ (o : OptionsData) (x : List ℕ) where
  pub takes_opener : (bs : List Bracket) (b : Bracket) (g rest : List ℕ) (t : ReaderState) → IsGap g → Starts rest
      → length bs < o.flow_nesting_limit → Held x t.here → t.here.unread.text ≡ opener_char b ∷ (g ++ rest)
      → Calm bs t.laid → Fine bs t.laid.last
      → Taken o x (b ∷ bs) (Placed (OpenSign b)) (Open b) (opener_char b ∷ (g ++ rest)) (g ++ rest) rest true t
  takes_opener bs b g rest t i st room held e c f =
      let h = t.here in
      let l = in_front (Placed (OpenSign b)) h t.laid in
      let calm = calm_noded false h bs (closed_at h.place.column t.laid) (calm_closed h.place.column bs t.laid c) f in
      let text = stepped_text h (opener_char b) (g ++ rest) e in
      let end = held_on x h (opener_char b) (g ++ rest) e held in
      let tail = (tail_past x rest g (step h) i st end text).tail in
      let y = with_tail (lexeme_to (ends_column_by (Placed (OpenSign b)) t) (Open b) (mark_of (step h)) h l) None in
      let few : length l.brackets < o.flow_nesting_limit = omega (arith, shape_length bs l.brackets calm.shape, room) in
      record {
        lexeme = y;
        behind = record { here = tail.after; laid = behind o (Placed (OpenSign b)) y None tail.after h l };
        begins = begins_text t (opener_char b ∷ (g ++ rest)) (Placed (OpenSign b)) e
            (opener_begins b (is_in_flow t.laid) (is_adjacent t.laid.last) h.place.column (g ++ rest));
        given = (
          stands_inside o (OpenSign b) bs l h calm,
          ((record { tail = None; tailed = tail.tail; is = refl }, few), refl),
        );
        kind_is = refl;
        key_is = refl;
        tail_is = refl;
        indent_is = refl;
        start_is = marked x (opener_char b ∷ (g ++ rest)) h held e;
        shown_is = source_is (marked x (opener_char b ∷ (g ++ rest)) h held e) (marked x (g ++ rest) (step h) end text);
        before = tail.before;
        passed = passed_at x (g ++ rest) (step h) end text;
        calm = calm_behind Opener (b ∷ bs) (opened b (mark_of h) l) (calm_opened b (mark_of h) bs l calm);
        opener = refl;
      }

  pub takes_closer : (bs : List Bracket) (b : Bracket) (g rest : List ℕ) (t : ReaderState) → IsGap g → Starts rest
      → Held x t.here → t.here.unread.text ≡ closer_char b ∷ (g ++ rest) → Calm (b ∷ bs) t.laid
      → Taken o x bs (Placed (CloseSign b)) (Close b) (closer_char b ∷ (g ++ rest)) (g ++ rest) rest false t
  takes_closer bs b g rest t i st held e c =
      let h = t.here in
      let l = in_front (Placed (CloseSign b)) h t.laid in
      let calm = calm_closed h.place.column (b ∷ bs) t.laid c in
      let text = stepped_text h (closer_char b) (g ++ rest) e in
      let end = held_on x h (closer_char b) (g ++ rest) e held in
      let tail = (tail_past x rest g (step h) i st end text).tail in
      let y = with_tail (lexeme_to (ends_column_by (Placed (CloseSign b)) t) (Close b) (mark_of (step h)) h l) None in
      record {
        lexeme = y;
        behind = record { here = tail.after; laid = behind o (Placed (CloseSign b)) y None tail.after h l };
        begins = begins_text t (closer_char b ∷ (g ++ rest)) (Placed (CloseSign b)) e
            (closer_begins b (is_in_flow t.laid) (is_adjacent t.laid.last) h.place.column (g ++ rest));
        given = (
          stands_inside o (CloseSign b) (b ∷ bs) l h calm,
          ((record { tail = None; tailed = tail.tail; is = refl }, shape_innermost b bs l.brackets calm.shape), refl),
        );
        kind_is = refl;
        key_is = refl;
        tail_is = refl;
        indent_is = refl;
        start_is = marked x (closer_char b ∷ (g ++ rest)) h held e;
        shown_is = source_is (marked x (closer_char b ∷ (g ++ rest)) h held e) (marked x (g ++ rest) (step h) end text);
        before = tail.before;
        passed = passed_at x (g ++ rest) (step h) end text;
        calm = calm_behind Adjacent bs (closed_bracket (drop 1 l.brackets) l) (calm_shut b bs l calm);
        opener = refl;
      }

  pub takes_comma : (bs : List Bracket) (b : Bracket) (g rest : List ℕ) (t : ReaderState) → IsGap g → Starts rest
      → Held x t.here → t.here.unread.text ≡ 0x2C ∷ (g ++ rest) → Calm (b ∷ bs) t.laid
      → Taken o x (b ∷ bs) (Placed CommaSign) Comma (0x2C ∷ (g ++ rest)) (g ++ rest) rest true t
  takes_comma bs b g rest t i st held e c =
      let h = t.here in
      let l = in_front (Placed CommaSign) h t.laid in
      let calm = calm_closed h.place.column (b ∷ bs) t.laid c in
      let text = stepped_text h 0x2C (g ++ rest) e in
      let end = held_on x h 0x2C (g ++ rest) e held in
      let tail = (tail_past x rest g (step h) i st end text).tail in
      let y = with_tail (lexeme_to (ends_column_by (Placed CommaSign) t) Comma (mark_of (step h)) h l) None in
      record {
        lexeme = y;
        behind = record { here = tail.after; laid = behind o (Placed CommaSign) y None tail.after h l };
        begins = begins_text t (0x2C ∷ (g ++ rest)) (Placed CommaSign) e
            (comma_begins (is_in_flow t.laid) (is_adjacent t.laid.last) h.place.column (g ++ rest));
        given = (
          stands_inside o CommaSign (b ∷ bs) l h calm,
          ((record { tail = None; tailed = tail.tail; is = refl }, top_mild (b ∷ bs) l calm), refl),
        );
        kind_is = refl;
        key_is = refl;
        tail_is = refl;
        indent_is = refl;
        start_is = marked x (0x2C ∷ (g ++ rest)) h held e;
        shown_is = source_is (marked x (0x2C ∷ (g ++ rest)) h held e) (marked x (g ++ rest) (step h) end text);
        before = tail.before;
        passed = passed_at x (g ++ rest) (step h) end text;
        calm = calm_behind (last_of_comma l) (b ∷ bs) (forgets_key l) (calm_forgets (b ∷ bs) l calm);
        opener = ap (λ v. is_opener (if v then Opener else Another)) (shape_flow b bs l.brackets calm.shape);
      }
