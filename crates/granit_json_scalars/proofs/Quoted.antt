-- A string of JSON stands as a double-quoted scalar: as a value, and as a name that may be a key.
use Rattle.std.proofs.Common.{Bool, List, [], ap, append_assoc, false, inl, inr, length, refl, subst, sym}
use Rattle.std.proofs.Common.{drop, true, ℕ, ◌&&◌, ◌++◌, ◌==◌, ◌||◌, ◌∙◌, ◌∷◌, ◌≡◌, ◌⊎◌}
use Rattle.std.proofs.Common.{ap₂}
use Rattle.std.proofs.Math.Bool.{and-true}
use Rattle.std.proofs.lemmas.Bool.{and_from, or_left, or_right}
use Rattle.std.specs.List.{list_all}
use Rattle.std.specs.Prelude.{None}
use Rattle.granit_base.specs.Classes.{is_break, is_printable}
use Rattle.granit_base.specs.Place.{Mark, first}
use Rattle.granit_base.specs.Written.{Written}
use Rattle.granit_base.specs.declared.style.ScalarStyle.TheVariants.{DoubleQuoted}
use Rattle.granit_canonical_steps.proofs.Calm.{Calm, Fine, Mild, Shape, calm_closed, calm_noded, shape_flow}
use Rattle.granit_canonical_steps.proofs.Calm.{no_cut_fits}
use Rattle.granit_canonical_steps.proofs.Places.{Held, Starts, directly, gap_stops, gap_to, marked, past_all}
use Rattle.granit_canonical_steps.proofs.Quotes.{quote_begins, mark_trails, closing_quote, mark_prints}
use Rattle.granit_canonical_steps.proofs.Signs.{source_is}
use Rattle.granit_canonical_steps.proofs.Taking.{Taken, begins_text, is_mark, passed_at}
use Rattle.granit_canonical_steps.specs.Canonical.{spot, stretch}
use Rattle.granit_error.specs.OptionsData.{OptionsData}
use Rattle.granit_json_scalars.proofs.Gaps.{Ends, at_end, at_sign, ends_start, tail_past}
use Rattle.granit_json_scalars.proofs.Open.{IsOpen, open_inside, open_tabs}
use Rattle.granit_json_scalars.proofs.Strings.{all_kept, between_json}
use Rattle.granit_json_scalars.specs.JsonEvents.{string_text}
use Rattle.granit_json_scalars.specs.JsonScalars.{IsString, is_unescaped}
use Rattle.granit_language.specs.Allowed.{MayPrefix}
use Rattle.granit_language.specs.Before.{in_front}
use Rattle.granit_language.specs.Reached.{BeginsAt, GivenAt, ends_column_by}
use Rattle.granit_language.specs.Standing.{in_front_of_lexeme, quoted_lexeme_of}
use Rattle.granit_lexemes.proofs.CharTests.{break_prints}
use Rattle.granit_lexemes.specs.Basics.{lent_if}
use Rattle.granit_lexemes.specs.Gap.{Each, IsGap}
use Rattle.granit_lexemes.specs.Here.{Here, mark_of}
use Rattle.granit_lexemes.specs.LayoutData.{LayoutData}
use Rattle.granit_lexemes.specs.Lexeme.{Lexeme, OfLexeme, Scalar}
use Rattle.granit_lexemes.specs.PlainExtent.{over}
use Rattle.granit_lexemes.specs.QuotedExtent.{is_unchanged}
use Rattle.granit_lexemes.specs.QuotedExtent.{Blanks, ends_quoted, nothing, on_line, quoted_answer, quoted_end}
use Rattle.granit_lexemes.specs.QuotedScalar.{is_kept, may_trail}
use Rattle.granit_lexemes.specs.declared.layout.Bracket.{Bracket}
use Rattle.granit_lexemes.specs.declared.layout.LastLexeme.TheVariants.{Adjacent}
use Rattle.granit_machine.specs.Columns.{closed_at}
use Rattle.granit_machine.specs.Gaps.{behind_gap}
use Rattle.granit_machine.specs.Laid.{Laid, behind_lexeme, is_adjacent, is_in_flow, is_nonempty, is_opener}
use Rattle.granit_machine.specs.LexemeSort.{Placed, QuoteSign}
use Rattle.granit_machine.specs.PossibleKeys.{layout_of}
use Rattle.granit_machine.specs.ReaderState.{ReaderState}
use Rattle.granit_reading.proofs.Deciding.{layout_is}

-- ---- what may follow

-- the end of the text, or in brackets `,`, `:` or a closer
pub data Trailing (flow : Bool) : List ℕ → Type 0 where
  at_the_end : Trailing flow []
  at_mark : {c : ℕ} {rest : List ℕ} → flow ≡ true → is_mark c ≡ true → Trailing flow (c ∷ rest)

pub trailing : (flow : Bool) (bs : List Bracket) (rest : List ℕ) → Ends bs rest
    → ((b : Bracket) (ds : List Bracket) → bs ≡ b ∷ ds → flow ≡ true) → Trailing flow rest
trailing flow _ _ at_end f = at_the_end
trailing flow _ _ (at_sign {b = b} {bs = bs} e n) f = at_mark (f b bs refl) e

shown_by : (at : LayoutData) (start : Mark) (h : Here) (leaves : List ℕ) → h.unread.text ≡ leaves
    → (length leaves == 0
    || (is_printable (first leaves) && may_trail at (h.place.line == start.place.line) (first leaves))) ≡ true
    → ends_quoted at start h ≡ true
shown_by at start h leaves e p =
    ap (λ (l : List ℕ). length l == 0
    || (is_printable (first l) && may_trail at (h.place.line == start.place.line) (first l))) e ∙ p

break_trails : (at : LayoutData) (v : Bool) (c : ℕ) → is_break c ≡ true → may_trail at v c ≡ true
unfolding may_trail
break_trails at v c e =
    or_left (is_break c || (at.in_flow && ((c == 0x2C || c == 0x3A) || (c == 0x5D || c == 0x7D)))) (v && c == 0x3A)
    (or_left (is_break c) (at.in_flow && ((c == 0x2C || c == 0x3A) || (c == 0x5D || c == 0x7D))) e)

trails_rest : (at : LayoutData) (v : Bool) (rest : List ℕ) → Trailing at.in_flow rest
    → (length rest == 0 || (is_printable (first rest) && may_trail at v (first rest))) ≡ true
trails_rest at v _ at_the_end = refl
trails_rest at v _ (at_mark {c = c} {rest = rest} f m) =
    or_right (length (c ∷ rest) == 0) (is_printable c && may_trail at v c)
    (and_from (is_printable c) (may_trail at v c) (mark_prints c m) (mark_trails at v c f m))

ends_here : (at : LayoutData) (start : Mark) (h : Here) (leaves rest : List ℕ) → h.unread.text ≡ leaves
    → (is_break (first leaves) ≡ true) ⊎ (leaves ≡ rest) → Trailing at.in_flow rest → ends_quoted at start h ≡ true
ends_here at start h leaves rest e (inl b) t =
    let v = h.place.line == start.place.line in
    shown_by at start h leaves e
    (or_right (length leaves == 0) (is_printable (first leaves) && may_trail at v (first leaves))
    (and_from (is_printable (first leaves)) (may_trail at v (first leaves)) (break_prints (first leaves) b)
    (break_trails at v (first leaves) b)))
ends_here at start h leaves rest e (inr same) t =
    shown_by at start h rest (e ∙ same) (trails_rest at (h.place.line == start.place.line) rest t)

-- ---- the string

-- in front of it, what the lexemes before it say
abbrev pub before_string : ReaderState → Laid
before_string t = in_front (Placed (QuoteSign false)) t.here t.laid

-- a string that is read with the gap behind it, and what that leaves
pub record QuotedHere (o : OptionsData) (x from to rest : List ℕ) (text : Written) (t : ReaderState) : Type 0 where
  pub lexeme : Lexeme
  pub behind : ReaderState
  pub begins : BeginsAt t (Placed (QuoteSign false))
  pub given : GivenAt o (Placed (QuoteSign false)) t (OfLexeme lexeme ∷ []) behind
  pub kind_is : lexeme.kind ≡ Scalar DoubleQuoted text
  pub key_is : lexeme.key ≡ None
  pub tail_is : lexeme.tail ≡ None
  pub indent_is : lexeme.indent ≡ None
  pub number_is : lexeme.number ≡ (before_string t).number
  pub start_is : lexeme.start ≡ spot x from
  pub shown_is : lexeme.shown ≡ stretch x from to
  pub held : Held x behind.here
  pub left : behind.here.unread.text ≡ rest
  pub passed : (i : ℕ) × (drop i x ≡ to)
  pub key : behind.laid.key ≡ (before_string t).key
  pub brackets : behind.laid.brackets ≡ (before_string t).brackets
  pub columns : behind.laid.columns ≡ (before_string t).columns
  pub cut : behind.laid.cut ≡ None
  pub last : behind.laid.last ≡ Adjacent

-- the text is lent where nothing between the quotes is escaped
text_is : (source chars inside : List ℕ) (h : Here) → IsString source chars → Each is_printable source
    → source ≡ inside → h.unread.lends ≡ true → lent_if (is_unchanged false inside) h chars ≡ string_text source chars
text_is source chars inside h is p e lends =
    ap₂ (λ (kept lends : Bool). record { characters = chars; is_borrowed = kept && lends })
    (ap (list_all (is_kept false)) (sym e) ∙ all_kept source chars is p) lends
    ∙ ap (λ (lent : Bool). record { characters = chars; is_borrowed = lent }) (and-true (list_all is_unescaped source))

module _ (o : OptionsData) (x : List ℕ) where
  pub quotes_here : (source chars g rest : List ℕ) (t : ReaderState) → IsString source chars
      → Each is_printable source → IsGap g → Starts rest → Trailing (is_in_flow (before_string t)) rest → Held x t.here
      → t.here.unread.text ≡ 0x22 ∷ (source ++ 0x22 ∷ (g ++ rest)) → IsOpen (before_string t)
      → QuotedHere o x (0x22 ∷ (source ++ 0x22 ∷ (g ++ rest))) (g ++ rest) rest (string_text source chars) t
  quotes_here source chars g rest t is printable i st trails held e ready =
      let h = t.here in
      let l = before_string t in
      let layout = layout_of o h.place.column l in
      let left = 0x22 ∷ (g ++ rest) in
      let b = between_json layout [] source chars left tt is printable in
      let whole : h.unread.text ≡ 0x22 ∷ ((b.inner ++ b.gap) ++ left) = e
      ∙ ap (λ (s : List ℕ). 0x22 ∷ (s ++ left)) b.whole in
      let p = past_all x (0x22 ∷ (b.inner ++ b.gap)) left h whole held in
      let q = past_all x (0x22 ∷ []) (g ++ rest) (over (0x22 ∷ (b.inner ++ b.gap)) h) p.text p.held in
      let end = quoted_end false h b.inner b.gap in
      let k = tail_past x rest g end i st q.held q.text in
      let tail = k.tail in
      let read = quoted_answer false h b.inner b.gap chars None in
      let y = quoted_lexeme_of false (ends_column_by (Placed (QuoteSign false)) t) h l read in
      let inner = behind_lexeme Adjacent l in
      let bb = tail.before in
      let r = past_all x bb.gap rest tail.after bb.text bb.held in
      let at : ReaderState = record { here = over bb.gap tail.after; laid = behind_gap (is_nonempty bb.gap) inner } in
      let from = 0x22 ∷ (source ++ left) in
      record {
        lexeme = y;
        behind = record { here = at.here; laid = record (at.laid) { last = Adjacent } };
        begins = begins_text t from (Placed (QuoteSign false)) e
            (quote_begins (is_in_flow t.laid) (is_adjacent t.laid.last) h.place.column (source ++ left));
        given = (
          open_inside o (QuoteSign false) h l ready,
          record {
            read = read;
            end = tail.after;
            note = None;
            at = at;
            layout = layout;
            told = layout_is o h.place.column l;
            answers = record {
              source = b.inner;
              value = b.value;
              gap = b.gap;
              left = false;
              between = Blanks b.gap;
              rest = left;
              noted = None;
              stands = record {
                front = record {
                  whole = whole ∙ ap (λ (s : List ℕ). 0x22 ∷ s) (append_assoc b.inner b.gap left);
                  inside = b.inside;
                  separated = on_line b.blanks;
                };
                closing = closing_quote (g ++ rest);
                placed = tt;
              };
              trails = nothing tail.blanks k.leaves tail.behind tail.no_comment tail.lands
                  (ends_here layout (mark_of h) tail.after k.leaves rest tail.text k.begins trails);
              answer = ap (λ (v : List ℕ). quoted_answer false h b.inner b.gap v None) (sym b.spells);
            };
            gap = in_front_of_lexeme (over bb.gap tail.after)
                (record {
                  gap = bb.gap;
                  over = gap_to (MayPrefix inner) bb.gap rest tail.after bb.text bb.is_gap;
                  stops = gap_stops (MayPrefix inner) rest (over bb.gap tail.after) r.text st;
                })
                (ap (λ (s : List ℕ). first s == 0x23) r.text ∙ st.no_comment) (open_tabs o inner at.here ready.columns)
                (no_cut_fits inner at.here ready.cut);
            gives = refl;
            leaves = refl;
          },
        );
        kind_is = ap (λ (text : Written). Scalar DoubleQuoted text)
            (text_is source chars (b.inner ++ b.gap) h is printable b.whole held.lends);
        key_is = refl;
        tail_is = refl;
        indent_is = refl;
        number_is = refl;
        start_is = marked x from h held e;
        shown_is = source_is (marked x from h held e) (marked x (g ++ rest) end q.held q.text);
        held = r.held;
        left = r.text;
        passed = passed_at x (g ++ rest) end q.held q.text;
        key = refl;
        brackets = refl;
        columns = refl;
        cut = refl;
        last = refl;
      }

  -- as a value
  pub takes_string : (bs : List Bracket) (source chars g rest : List ℕ) (t : ReaderState) → IsString source chars
      → Each is_printable source → IsGap g → Ends bs rest → Held x t.here
      → t.here.unread.text ≡ 0x22 ∷ (source ++ 0x22 ∷ (g ++ rest)) → Calm bs t.laid → Fine bs t.laid.last
      → Taken o x bs (Placed (QuoteSign false)) (Scalar DoubleQuoted (string_text source chars))
      (0x22 ∷ (source ++ 0x22 ∷ (g ++ rest))) (g ++ rest) rest false t
  takes_string bs source chars g rest t is printable i ff held e c f =
      let h = t.here in
      let l = before_string t in
      let calm = calm_noded false h bs (closed_at h.place.column t.laid) (calm_closed h.place.column bs t.laid c) f in
      let trails = trailing (is_in_flow l) bs rest ff
      (λ b ds same. shape_flow b ds l.brackets (subst (λ bs. Shape bs l.brackets) same calm.shape)) in
      let q = quotes_here source chars g rest t is printable i (ends_start ff) trails held e
      (record { columns = calm.columns; cut = calm.cut }) in
      record {
        lexeme = q.lexeme;
        behind = q.behind;
        begins = q.begins;
        given = q.given;
        kind_is = q.kind_is;
        key_is = q.key_is;
        tail_is = q.tail_is;
        indent_is = q.indent_is;
        start_is = q.start_is;
        shown_is = q.shown_is;
        before = directly x rest q.behind.here q.held q.left;
        passed = q.passed;
        calm = record {
          key = subst Mild (sym q.key) calm.key;
          shape = subst (Shape bs) (sym q.brackets) calm.shape;
          columns = q.columns ∙ calm.columns;
          cut = q.cut;
        };
        opener = ap is_opener q.last;
      }
