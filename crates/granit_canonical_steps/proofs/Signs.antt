-- Brackets, `,`, `?` and `:` of canonical text stand.
use Rattle.std.proofs.Common.{Bool, List, Option, [], ap, ap₂, arith, drop, false, length, refl, subst, sym, true, ℕ}
use Rattle.std.proofs.Common.{◌++◌, ◌<◌, ◌==◌, ◌∙◌, ◌∷◌, ◌≡◌}
use Rattle.std.specs.Prelude.{None, Some, if◌then◌else◌}
use Rattle.granit_base.specs.Classes.{is_blank, is_blank_or_breakz, is_break, is_printable}
use Rattle.granit_base.specs.Place.{Mark, first}
use Rattle.granit_canonical_steps.proofs.Calm.{Calm, Fine, calm_behind, calm_closed, calm_forgets, calm_noded}
use Rattle.granit_canonical_steps.proofs.Calm.{calm_opened}
use Rattle.granit_canonical_steps.proofs.Calm.{calm_shut, curly_key, shape_flow, shape_innermost, shape_length}
use Rattle.granit_canonical_steps.proofs.Calm.{stands_inside, top_mild}
use Rattle.granit_canonical_steps.proofs.Places.{Held, Parts, Starts, held_on, marked, parts_gap, spaced}
use Rattle.granit_canonical_steps.proofs.Places.{tail_of, touching}
use Rattle.granit_canonical_steps.proofs.Quoting.{blank_space}
use Rattle.granit_canonical_steps.proofs.Taking.{Taken, begins_text, begins_with, passed_at}
use Rattle.granit_error.specs.OptionsData.{OptionsData}
use Rattle.granit_language.specs.Before.{behind, behind_colon, behind_question_sign, in_front, last_of_colon}
use Rattle.granit_language.specs.Begins.{Begins, closes, colon, comma, opens, question}
use Rattle.granit_language.specs.Reached.{ends_column_by}
use Rattle.granit_language.specs.Standing.{ColonFits, QuestionStands, key_start}
use Rattle.granit_language.specs.Stretch.{TailIf}
use Rattle.granit_lexemes.proofs.HereLemmas.{stepped_text}
use Rattle.granit_lexemes.specs.Here.{Here, mark_of, next_char, step}
use Rattle.granit_lexemes.specs.Lexeme.{Close, Colon, Comma, Lexeme, Open, Question, closer_char, opener_char}
use Rattle.granit_lexemes.specs.Source.{Source}
use Rattle.granit_lexemes.specs.declared.layout.Bracket.{Bracket}
use Rattle.granit_lexemes.specs.declared.layout.Bracket.TheVariants.{Curly, Square}
use Rattle.granit_lexemes.specs.declared.layout.LastLexeme.{LastLexeme}
use Rattle.granit_lexemes.specs.declared.layout.LastLexeme.TheVariants.{Adjacent, Another, BehindQuestion, Opener}
use Rattle.granit_lexemes.specs.declared.layout.PossibleKey.{PossibleKey}
use Rattle.granit_machine.specs.Columns.{closed_at}
use Rattle.granit_machine.specs.FlowLexemes.{closed_bracket, last_of_comma, opened}
use Rattle.granit_machine.specs.Laid.{Laid, is_adjacent, is_in_flow, is_opener}
use Rattle.granit_machine.specs.LexemeSort.{CloseSign, ColonSign, CommaSign, OpenSign, Placed, QuestionSign}
use Rattle.granit_machine.specs.PossibleKeys.{forgets_key, top_key}
use Rattle.granit_machine.specs.ReaderState.{ReaderState, lexeme_to, sign_lexeme, with_tail}

pub source_is : {a b c d : Mark} → a ≡ c → b ≡ d
    → ◌≡◌ {A = Source} (record { start = a; end = b }) (record { start = c; end = d })
source_is p q = ap₂ (λ (m n : Mark). ranging m n) p q
  where
    ranging : Mark → Mark → Source
    ranging m n = record { start = m; end = n }

pub choose_opener : (v : Bool) (a b : LastLexeme) → is_opener a ≡ false → is_opener b ≡ false
    → is_opener (if v then a else b) ≡ false
choose_opener true a b p q = p
choose_opener false a b p q = q

pub opener_begins : (b : Bracket) (flow adjacent : Bool) (column : ℕ) (text : List ℕ)
    → Begins flow adjacent column (opener_char b ∷ text) (Placed (OpenSign b))
unfolding is_printable is_break
opener_begins Square flow adjacent column text =
    begins_with flow adjacent column 0x5B text (OpenSign Square) refl refl refl refl (opens Square)
opener_begins Curly flow adjacent column text =
    begins_with flow adjacent column 0x7B text (OpenSign Curly) refl refl refl refl (opens Curly)

pub closer_begins : (b : Bracket) (flow adjacent : Bool) (column : ℕ) (text : List ℕ)
    → Begins flow adjacent column (closer_char b ∷ text) (Placed (CloseSign b))
unfolding is_printable is_break
closer_begins Square flow adjacent column text =
    begins_with flow adjacent column 0x5D text (CloseSign Square) refl refl refl refl (closes Square)
closer_begins Curly flow adjacent column text =
    begins_with flow adjacent column 0x7D text (CloseSign Curly) refl refl refl refl (closes Curly)

pub comma_begins : (flow adjacent : Bool) (column : ℕ) (text : List ℕ)
    → Begins flow adjacent column (0x2C ∷ text) (Placed CommaSign)
unfolding is_printable is_break
comma_begins flow adjacent column text = begins_with flow adjacent column 0x2C text CommaSign refl refl refl refl comma

question_begins : (flow adjacent : Bool) (column : ℕ) (text : List ℕ)
    → Begins flow adjacent column (0x3F ∷ 0x20 ∷ text) (Placed QuestionSign)
unfolding is_printable is_break is_blank_or_breakz is_blank
question_begins flow adjacent column text =
    begins_with flow adjacent column 0x3F (0x20 ∷ text) QuestionSign refl refl refl refl (question refl)

colon_begins : (flow adjacent : Bool) (column : ℕ) (text : List ℕ)
    → Begins flow adjacent column (0x3A ∷ 0x20 ∷ text) (Placed ColonSign)
unfolding is_printable is_break is_blank_or_breakz is_blank
colon_begins flow adjacent column text =
    begins_with flow adjacent column 0x3A (0x20 ∷ text) ColonSign refl refl refl refl (colon refl)

pub no_space : (b : Bracket) → (opener_char b == 0x20) ≡ true → ⊥
no_space Square e = cc
no_space Curly e = cc

no_opener : (b : Bracket) (c : ℕ) (rest more : List ℕ) → 0x3A ∷ 0x20 ∷ rest ≡ c ∷ opener_char b ∷ more → ⊥
no_opener b c rest more e = no_space b (sym (ap (λ (l : List ℕ). first (drop 1 l) == 0x20) e))

module _ (o : OptionsData) (x : List ℕ) where
  pub opens_bracket : (bs : List Bracket) (b : Bracket) (rest : List ℕ) (t : ReaderState) → Starts rest
      → length bs < o.flow_nesting_limit → Held x t.here → t.here.unread.text ≡ opener_char b ∷ rest → Calm bs t.laid
      → Fine bs t.laid.last
      → Taken o x (b ∷ bs) (Placed (OpenSign b)) (Open b) (opener_char b ∷ rest) rest rest true t
  opens_bracket bs b rest t st room held e c f =
      let h = t.here in
      let l = in_front (Placed (OpenSign b)) h t.laid in
      let calm = calm_noded false h bs (closed_at h.place.column t.laid) (calm_closed h.place.column bs t.laid c) f in
      let text = stepped_text h (opener_char b) rest e in
      let end = held_on x h (opener_char b) rest e held in
      let tail = tail_of x rest [] (step h) touching st end text in
      let y = with_tail (lexeme_to (ends_column_by (Placed (OpenSign b)) t) (Open b) (mark_of (step h)) h l) None in
      let few : length l.brackets < o.flow_nesting_limit = omega (arith, shape_length bs l.brackets calm.shape, room) in
      record {
        lexeme = y;
        behind = record { here = tail.after; laid = behind o (Placed (OpenSign b)) y None tail.after h l };
        begins = begins_text t (opener_char b ∷ rest) (Placed (OpenSign b)) e
            (opener_begins b (is_in_flow t.laid) (is_adjacent t.laid.last) h.place.column rest);
        given = (
          stands_inside o (OpenSign b) bs l h calm,
          ((record { tail = None; tailed = tail.tail; is = refl }, few), refl),
        );
        kind_is = refl;
        key_is = refl;
        tail_is = refl;
        indent_is = refl;
        start_is = marked x (opener_char b ∷ rest) h held e;
        shown_is = source_is (marked x (opener_char b ∷ rest) h held e) (marked x rest (step h) end text);
        before = tail.before;
        passed = passed_at x rest (step h) end text;
        calm = calm_behind Opener (b ∷ bs) (opened b (mark_of h) l) (calm_opened b (mark_of h) bs l calm);
        opener = refl;
      }

  pub closes_bracket : (bs : List Bracket) (b : Bracket) (g rest : List ℕ) (t : ReaderState) → Parts g → Starts rest
      → Held x t.here → t.here.unread.text ≡ closer_char b ∷ (g ++ rest) → Calm (b ∷ bs) t.laid
      → Taken o x bs (Placed (CloseSign b)) (Close b) (closer_char b ∷ (g ++ rest)) (g ++ rest) rest false t
  closes_bracket bs b g rest t parts st held e c =
      let h = t.here in
      let l = in_front (Placed (CloseSign b)) h t.laid in
      let calm = calm_closed h.place.column (b ∷ bs) t.laid c in
      let text = stepped_text h (closer_char b) (g ++ rest) e in
      let end = held_on x h (closer_char b) (g ++ rest) e held in
      let tail = tail_of x rest g (step h) parts st end text in
      let y = with_tail (lexeme_to (ends_column_by (Placed (CloseSign b)) t) (Close b) (mark_of (step h)) h l) None in
      record {
        lexeme = y;
        behind = record { here = tail.after; laid = behind o (Placed (CloseSign b)) y None tail.after h l };
        begins = begins_text t (closer_char b ∷ (g ++ rest)) (Placed (CloseSign b)) e
            (closer_begins b (is_in_flow t.laid) (is_adjacent t.laid.last) h.place.column (g ++ rest));
        given = (
          stands_inside o (CloseSign b) (b ∷ bs) l h calm,
          ((record { tail = None; tailed = tail.tail; is = refl }, shape_innermost b bs l.brackets calm.shape), refl),
        );
        kind_is = refl;
        key_is = refl;
        tail_is = refl;
        indent_is = refl;
        start_is = marked x (closer_char b ∷ (g ++ rest)) h held e;
        shown_is = source_is (marked x (closer_char b ∷ (g ++ rest)) h held e) (marked x (g ++ rest) (step h) end text);
        before = tail.before;
        passed = passed_at x (g ++ rest) (step h) end text;
        calm = calm_behind Adjacent bs (closed_bracket (drop 1 l.brackets) l) (calm_shut b bs l calm);
        opener = refl;
      }

  pub takes_comma : (bs : List Bracket) (b : Bracket) (rest : List ℕ) (t : ReaderState) → Starts rest
      → Held x t.here → t.here.unread.text ≡ 0x2C ∷ 0x20 ∷ rest → Calm (b ∷ bs) t.laid
      → Taken o x (b ∷ bs) (Placed CommaSign) Comma (0x2C ∷ 0x20 ∷ rest) (0x20 ∷ rest) rest true t
  takes_comma bs b rest t st held e c =
      let h = t.here in
      let l = in_front (Placed CommaSign) h t.laid in
      let calm = calm_closed h.place.column (b ∷ bs) t.laid c in
      let text = stepped_text h 0x2C (0x20 ∷ rest) e in
      let end = held_on x h 0x2C (0x20 ∷ rest) e held in
      let tail = tail_of x rest (0x20 ∷ []) (step h) spaced st end text in
      let y = with_tail (lexeme_to (ends_column_by (Placed CommaSign) t) Comma (mark_of (step h)) h l) None in
      record {
        lexeme = y;
        behind = record { here = tail.after; laid = behind o (Placed CommaSign) y None tail.after h l };
        begins = begins_text t (0x2C ∷ 0x20 ∷ rest) (Placed CommaSign) e
            (comma_begins (is_in_flow t.laid) (is_adjacent t.laid.last) h.place.column (0x20 ∷ rest));
        given = (
          stands_inside o CommaSign (b ∷ bs) l h calm,
          ((record { tail = None; tailed = tail.tail; is = refl }, top_mild (b ∷ bs) l calm), refl),
        );
        kind_is = refl;
        key_is = refl;
        tail_is = refl;
        indent_is = refl;
        start_is = marked x (0x2C ∷ 0x20 ∷ rest) h held e;
        shown_is = source_is (marked x (0x2C ∷ 0x20 ∷ rest) h held e) (marked x (0x20 ∷ rest) (step h) end text);
        before = tail.before;
        passed = passed_at x (0x20 ∷ rest) (step h) end text;
        calm = calm_behind (last_of_comma l) (b ∷ bs) (forgets_key l) (calm_forgets (b ∷ bs) l calm);
        opener = ap (λ v. is_opener (if v then Opener else Another)) (shape_flow b bs l.brackets calm.shape);
      }

  pub takes_question : (bs : List Bracket) (rest : List ℕ) (t : ReaderState)
      → Held x t.here → t.here.unread.text ≡ 0x3F ∷ 0x20 ∷ rest → Calm (Curly ∷ bs) t.laid
      → Taken o x (Curly ∷ bs) (Placed QuestionSign) Question (0x3F ∷ 0x20 ∷ rest) (0x20 ∷ rest) rest false t
  takes_question bs rest t held e c =
      let h = t.here in
      let l = in_front (Placed QuestionSign) h t.laid in
      let calm = calm_closed h.place.column (Curly ∷ bs) t.laid c in
      let flow : is_in_flow l ≡ true = shape_flow Curly bs l.brackets calm.shape in
      let text = stepped_text h 0x3F (0x20 ∷ rest) e in
      let end = held_on x h 0x3F (0x20 ∷ rest) e held in
      let ends = ends_column_by (Placed QuestionSign) t in
      let y = lexeme_to ends Question (mark_of (step h)) h l in
      record {
        lexeme = y;
        behind = record { here = step h; laid = behind o (Placed QuestionSign) y None (step h) h l };
        begins = begins_text t (0x3F ∷ 0x20 ∷ rest) (Placed QuestionSign) e
            (question_begins (is_in_flow t.laid) (is_adjacent t.laid.last) h.place.column rest);
        given = (
          stands_inside o QuestionSign (Curly ∷ bs) l h calm,
          (subst (λ v. QuestionStands o ends h l y (step h) v) (sym flow) (record { is = refl; reaches = refl }), refl),
        );
        kind_is = refl;
        key_is = refl;
        tail_is = refl;
        indent_is = refl;
        start_is = marked x (0x3F ∷ 0x20 ∷ rest) h held e;
        shown_is = source_is (marked x (0x3F ∷ 0x20 ∷ rest) h held e) (marked x (0x20 ∷ rest) (step h) end text);
        before = record { gap = 0x20 ∷ []; held = end; text = text; is_gap = parts_gap spaced };
        passed = passed_at x (0x20 ∷ rest) (step h) end text;
        calm = calm_behind (if is_in_flow l then Another else BehindQuestion) (Curly ∷ bs)
            (behind_question_sign (is_in_flow l) h l)
            (subst (λ v. Calm (Curly ∷ bs) (behind_question_sign v h l)) (sym flow) (calm_forgets (Curly ∷ bs) l calm));
        opener = choose_opener (is_in_flow l) Another BehindQuestion refl refl;
      }

  bare_left : (bs : List Bracket) (h : Here) (l : Laid) (v : Bool) (key : Option PossibleKey) → v ≡ true → key ≡ None
      → Calm bs l → Calm bs (behind_colon v key h l)
  bare_left bs h l v key p q c =
      subst (λ v. Calm bs (behind_colon v key h l)) (sym p)
      (subst (λ (key : Option PossibleKey). Calm bs (behind_colon true key h l)) (sym q) c)

  bare_fits : (h : Here) (l : Laid) (v : Bool) (key : Option PossibleKey) → v ≡ true → key ≡ None
      → ColonFits o v key h l
  bare_fits h l v key p q =
      subst (λ v. ColonFits o v key h l) (sym p)
      (subst (λ (key : Option PossibleKey). ColonFits o true key h l) (sym q) tt)

  bare_opener : (v : Bool) (key : Option PossibleKey) → is_opener (last_of_colon v key) ≡ false
  bare_opener true None = refl
  bare_opener true (Some k) = refl
  bare_opener false None = refl
  bare_opener false (Some k) = refl

  pub takes_colon : (bs : List Bracket) (rest : List ℕ) (t : ReaderState) → Starts rest
      → Held x t.here → t.here.unread.text ≡ 0x3A ∷ 0x20 ∷ rest → Calm (Curly ∷ bs) t.laid
      → Taken o x (Curly ∷ bs) (Placed ColonSign) Colon (0x3A ∷ 0x20 ∷ rest) (0x20 ∷ rest) rest false t
  takes_colon bs rest t st held e c =
      let h = t.here in
      let l = in_front (Placed ColonSign) h t.laid in
      let calm = calm_closed h.place.column (Curly ∷ bs) t.laid c in
      let flow : is_in_flow l ≡ true = shape_flow Curly bs l.brackets calm.shape in
      let none : top_key l ≡ None = curly_key bs l calm in
      let text = stepped_text h 0x3A (0x20 ∷ rest) e in
      let end = held_on x h 0x3A (0x20 ∷ rest) e held in
      let tail = tail_of x rest (0x20 ∷ []) (step h) spaced st end text in
      let blank : is_blank (next_char (step h)) ≡ true = ap (λ (l : List ℕ). is_blank (first l)) text ∙ blank_space in
      let ends = ends_column_by (Placed ColonSign) t in
      let y : Lexeme = record (sign_lexeme ends Colon h l) { key = key_start (top_key l); tail = None } in
      record {
        lexeme = y;
        behind = record { here = tail.after; laid = behind o (Placed ColonSign) y None tail.after h l };
        begins = begins_text t (0x3A ∷ 0x20 ∷ rest) (Placed ColonSign) e
            (colon_begins (is_in_flow t.laid) (is_adjacent t.laid.last) h.place.column rest);
        given = (
          stands_inside o ColonSign (Curly ∷ bs) l h calm,
          (
            record {
              apart = λ last b. no_opener b.1 b.0 rest b.2 (sym e ∙ b.3);
              tail = None;
              tailed = subst (λ v. TailIf v (step h) None tail.after) (sym blank) tail.tail;
              fits = bare_fits h l (is_in_flow l) (top_key l) flow none;
              is = refl;
            },
            refl,
          ),
        );
        kind_is = refl;
        key_is = ap key_start none;
        tail_is = refl;
        indent_is = refl;
        start_is = marked x (0x3A ∷ 0x20 ∷ rest) h held e;
        shown_is = source_is (marked x (0x3A ∷ 0x20 ∷ rest) h held e) (marked x (0x20 ∷ rest) (step h) end text);
        before = tail.before;
        passed = passed_at x (0x20 ∷ rest) (step h) end text;
        calm = calm_behind (last_of_colon (is_in_flow l) (top_key l)) (Curly ∷ bs)
            (behind_colon (is_in_flow l) (top_key l) h l)
            (bare_left (Curly ∷ bs) h l (is_in_flow l) (top_key l) flow none calm);
        opener = bare_opener (is_in_flow l) (top_key l);
      }
