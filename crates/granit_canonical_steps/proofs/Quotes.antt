-- Double-quoted scalars of canonical text stand.
use Rattle.std.proofs.Common.{Bool, List, [], ap, append_assoc, arith, false, length, refl, subst, sym, true, ℕ, ◌&&◌}
use Rattle.std.proofs.Common.{◌++◌, ◌==◌, ◌||◌, ◌∙◌, ◌∷◌, ◌≡◌}
use Rattle.std.proofs.lemmas.Bool.Decides.{nat_tests}
use Rattle.std.proofs.Common.{ap₂}
use Rattle.std.proofs.Math.Bool.{and-true}
use Rattle.std.proofs.lemmas.Bool.{and_from, or_right}
use Rattle.std.specs.List.{list_all}
use Rattle.std.specs.Prelude.{None}
use lib.Utf8.{scalars}
use Rattle.granit_base.specs.Classes.{is_break, is_printable}
use Rattle.granit_base.specs.Place.{Mark, first}
use Rattle.granit_base.specs.Written.{Written}
use Rattle.granit_base.specs.declared.style.ScalarStyle.TheVariants.{DoubleQuoted}
use Rattle.granit_canonical_steps.proofs.Calm.{Calm, Fine, Shape, calm_behind, calm_closed, calm_gap, calm_noded}
use Rattle.granit_canonical_steps.proofs.Calm.{cut_fits}
use Rattle.granit_canonical_steps.proofs.Calm.{shape_flow, stands_inside, tabs_fit}
use Rattle.granit_canonical_steps.proofs.Fronts.{quoted_front}
use Rattle.granit_canonical_steps.proofs.Places.{Held, directly, fed, gap_stops, gap_to, left_of, marked, past_all}
use Rattle.granit_canonical_steps.proofs.Places.{spaced}
use Rattle.granit_canonical_steps.proofs.Places.{tail_of, touching}
use Rattle.granit_canonical_steps.proofs.Quoting.{all_itself, spelled_between}
use Rattle.granit_canonical_steps.proofs.Signs.{source_is}
use Rattle.granit_canonical_steps.proofs.Taking.{Follows, Taken, at_line, begins_text, begins_with, follows_parts}
use Rattle.granit_canonical_steps.proofs.Taking.{follows_starts, in_brackets, is_mark, passed_at}
use Rattle.granit_canonical_steps.specs.Canonical.{between_quotes, stands_for_itself}
use Rattle.granit_error.specs.OptionsData.{OptionsData}
use Rattle.granit_language.specs.Allowed.{MayPrefix}
use Rattle.granit_language.specs.Before.{in_front}
use Rattle.granit_language.specs.Begins.{Begins, quote}
use Rattle.granit_language.specs.Reached.{ends_column_by}
use Rattle.granit_language.specs.Standing.{in_front_of_lexeme, quoted_lexeme_of}
use Rattle.granit_lexemes.proofs.CharTests.{feed_prints}
use Rattle.granit_lexemes.specs.Basics.{lent_if}
use Rattle.granit_lexemes.specs.Here.{Here, mark_of}
use Rattle.granit_lexemes.specs.LayoutData.{LayoutData}
use Rattle.granit_lexemes.specs.Lexeme.{Scalar}
use Rattle.granit_lexemes.specs.PlainExtent.{over}
use Rattle.granit_lexemes.specs.QuotedExtent.{Blanks, ends_quoted, is_unchanged, nothing, on_line, quoted_answer}
use Rattle.granit_lexemes.specs.QuotedExtent.{quoted_end}
use Rattle.granit_lexemes.specs.QuotedScalar.{is_closing, is_kept, may_trail}
use Rattle.granit_lexemes.specs.declared.layout.Bracket.{Bracket}
use Rattle.granit_lexemes.specs.declared.layout.LastLexeme.TheVariants.{Adjacent}
use Rattle.granit_machine.specs.Columns.{closed_at}
use Rattle.granit_machine.specs.Gaps.{behind_gap}
use Rattle.granit_machine.specs.Laid.{behind_lexeme, is_adjacent, is_in_flow, is_nonempty}
use Rattle.granit_machine.specs.LexemeSort.{Placed, QuoteSign}
use Rattle.granit_machine.specs.PossibleKeys.{layout_of}
use Rattle.granit_machine.specs.ReaderState.{ReaderState}
use Rattle.granit_model.specs.FlowText.{quoted_characters}
use Rattle.granit_places.proofs.Counting.{layout_is}

pub quote_begins : (flow adjacent : Bool) (column : ℕ) (text : List ℕ)
    → Begins flow adjacent column (0x22 ∷ text) (Placed (QuoteSign false))
unfolding is_printable is_break
quote_begins flow adjacent column text =
    begins_with flow adjacent column 0x22 text (QuoteSign false) refl refl refl refl (quote false)

pub closing_quote : (rest : List ℕ) → is_closing false (0x22 ∷ rest) ≡ true
unfolding is_closing
closing_quote rest = refl

pub mark_prints : (c : ℕ) → is_mark c ≡ true → is_printable c ≡ true
unfolding is_printable is_break
mark_prints c e = grind (arith, nat_tests)

pub feed_trails : (at : LayoutData) (v : Bool) → may_trail at v 0x0A ≡ true
unfolding may_trail is_break
feed_trails at v = refl

trails_by : (a f m r : Bool) → f ≡ true → m ≡ true → ((a || (f && m)) || r) ≡ true
trails_by true f m r p q = refl
trails_by false true true r p q = refl
trails_by false true false r p q = absurd cc
trails_by false false m r p q = absurd cc

pub mark_trails : (at : LayoutData) (v : Bool) (c : ℕ) → at.in_flow ≡ true → is_mark c ≡ true → may_trail at v c ≡ true
unfolding may_trail
mark_trails at v c f e = trails_by (is_break c) at.in_flow (is_mark c) (v && c == 0x3A) f e

pub ends_by : (at : LayoutData) (start : Mark) (h : Here) (c : ℕ) (t : List ℕ) → h.unread.text ≡ c ∷ t
    → is_printable c ≡ true → ((v : Bool) → may_trail at v c ≡ true) → ends_quoted at start h ≡ true
ends_by at start h c t e p m =
    or_right (length h.unread.text == 0)
    (is_printable (first h.unread.text) && may_trail at (h.place.line == start.place.line) (first h.unread.text))
    (ap (λ (l : List ℕ). is_printable (first l) && may_trail at (h.place.line == start.place.line) (first l)) e
    ∙ and_from (is_printable c) (may_trail at (h.place.line == start.place.line) c) p
    (m (h.place.line == start.place.line)))

-- what follows may stand behind a quoted scalar
ends_here : (at : LayoutData) (start : Mark) (bs : List Bracket) (g rest : List ℕ) (h : Here) (f : Follows bs g rest)
    → ((b : Bracket) (ds : List Bracket) → bs ≡ b ∷ ds → at.in_flow ≡ true)
    → h.unread.text ≡ left_of (follows_parts f) rest → ends_quoted at start h ≡ true
ends_here at start _ _ _ h (at_line {rest = rest} s) flow e =
    ends_by at start h 0x0A rest e feed_prints (λ v. feed_trails at v)
ends_here at start _ _ _ h (in_brackets {b = b} {bs = bs} {c = c} {rest = rest} touching m) flow e =
    ends_by at start h c rest e (mark_prints c m) (λ v. mark_trails at v c (flow b bs refl) m)
ends_here at start _ _ _ h (in_brackets {b = b} {bs = bs} {c = c} {rest = rest} spaced m) flow e =
    ends_by at start h c rest e (mark_prints c m) (λ v. mark_trails at v c (flow b bs refl) m)
ends_here at start _ _ _ h (in_brackets {b = b} {bs = bs} {c = c} {rest = rest} fed m) flow e =
    ends_by at start h 0x0A (c ∷ rest) e feed_prints (λ v. feed_trails at v)

-- the text is lent where nothing between the quotes is escaped
pub text_between : (chars inside : List ℕ) (h : Here) → quoted_characters chars [] ≡ inside → h.unread.lends ≡ true
    → lent_if (is_unchanged false inside) h chars ≡ between_quotes chars
text_between chars inside h e lends =
    ap₂ (λ (kept lends : Bool). record { characters = chars; is_borrowed = kept && lends })
    (ap (list_all (is_kept false)) (sym e) ∙ all_itself chars) lends
    ∙ ap (λ (lent : Bool). record { characters = chars; is_borrowed = lent })
    (and-true (list_all stands_for_itself chars))

module _ (o : OptionsData) (x : List ℕ) where
  pub takes_quoted : (bs : List Bracket) (chars g rest : List ℕ) (t : ReaderState) → Follows bs g rest
      → scalars chars ≡ true → Held x t.here
      → t.here.unread.text ≡ 0x22 ∷ quoted_characters chars (0x22 ∷ (g ++ rest)) → Calm bs t.laid
      → Fine bs t.laid.last
      → Taken o x bs (Placed (QuoteSign false)) (Scalar DoubleQuoted (between_quotes chars))
      (0x22 ∷ quoted_characters chars (0x22 ∷ (g ++ rest))) (g ++ rest) rest false t
  takes_quoted bs chars g rest t ff s held e c f =
      let h = t.here in
      let parts = follows_parts ff in
      let st = follows_starts ff in
      let l = in_front (Placed (QuoteSign false)) h t.laid in
      let calm = calm_noded false h bs (closed_at h.place.column t.laid) (calm_closed h.place.column bs t.laid c) f in
      let layout = layout_of o h.place.column l in
      let left = 0x22 ∷ (g ++ rest) in
      let b = spelled_between layout [] chars left tt s in
      let whole : h.unread.text ≡ 0x22 ∷ ((b.source ++ b.gap) ++ left) = e
      ∙ ap (λ (l : List ℕ). 0x22 ∷ l) (quoted_front chars left ∙ ap (λ (l : List ℕ). l ++ left) b.whole) in
      let p = past_all x (0x22 ∷ (b.source ++ b.gap)) left h whole held in
      let q = past_all x (0x22 ∷ []) (g ++ rest) (over (0x22 ∷ (b.source ++ b.gap)) h) p.text p.held in
      let end = quoted_end false h b.source b.gap in
      let tail = tail_of x rest g end parts st q.held q.text in
      let read = quoted_answer false h b.source b.gap chars None in
      let y = quoted_lexeme_of false (ends_column_by (Placed (QuoteSign false)) t) h l read in
      let inner = behind_lexeme Adjacent l in
      let calmly = calm_behind Adjacent bs l calm in
      let bb = tail.before in
      let r = past_all x bb.gap rest tail.after bb.text bb.held in
      let at : ReaderState = record { here = over bb.gap tail.after; laid = behind_gap (is_nonempty bb.gap) inner } in
      let settled = calm_gap (is_nonempty bb.gap) bs inner calmly in
      let from = 0x22 ∷ quoted_characters chars left in
      record {
        lexeme = y;
        behind = record { here = at.here; laid = record (at.laid) { last = Adjacent } };
        begins = begins_text t from (Placed (QuoteSign false)) e
            (quote_begins (is_in_flow t.laid) (is_adjacent t.laid.last) h.place.column (quoted_characters chars left));
        given = (
          stands_inside o (QuoteSign false) bs l h calm,
          record {
            read = read;
            end = tail.after;
            note = None;
            at = at;
            layout = layout;
            told = layout_is o h.place.column l;
            answers = record {
              source = b.source;
              value = b.value;
              gap = b.gap;
              left = false;
              between = Blanks b.gap;
              rest = left;
              noted = None;
              stands = record {
                front = record {
                  whole = whole ∙ ap (λ (l : List ℕ). 0x22 ∷ l) (append_assoc b.source b.gap left);
                  inside = b.inside;
                  separated = on_line b.blanks;
                };
                closing = closing_quote (g ++ rest);
                placed = tt;
              };
              trails = nothing tail.blanks (left_of parts rest) tail.behind tail.no_comment tail.lands
                  (ends_here layout (mark_of h) bs g rest tail.after ff
                  (λ b ds same. shape_flow b ds l.brackets
                  (subst (λ (bs : List Bracket). Shape bs l.brackets) same calm.shape))
                  tail.text);
              answer = ap (λ (v : List ℕ). quoted_answer false h b.source b.gap v None) (sym b.spells);
            };
            gap = in_front_of_lexeme (over bb.gap tail.after)
                (record {
                  gap = bb.gap;
                  over = gap_to (MayPrefix inner) bb.gap rest tail.after bb.text bb.is_gap;
                  stops = gap_stops (MayPrefix inner) rest (over bb.gap tail.after) r.text st;
                })
                (ap (λ (l : List ℕ). first l == 0x23) r.text ∙ st.no_comment) (tabs_fit o bs inner at.here calmly)
                (cut_fits bs inner at.here calmly);
            gives = refl;
            leaves = refl;
          },
        );
        kind_is = ap (λ (text : Written). Scalar DoubleQuoted text)
            (text_between chars (b.source ++ b.gap) h b.whole held.lends);
        key_is = refl;
        tail_is = refl;
        indent_is = refl;
        start_is = marked x from h held e;
        shown_is = source_is (marked x from h held e) (marked x (g ++ rest) end q.held q.text);
        before = directly x rest at.here r.held r.text;
        passed = passed_at x (g ++ rest) end q.held q.text;
        calm = record { key = settled.key; shape = settled.shape; columns = settled.columns; cut = settled.cut };
        opener = refl;
      }
