-- A quoted scalar that stands somewhere is read.
use Rattle.std.proofs.Common.{◌≡◌, ℕ, ◌==◌, Bool, true, false, cond, not, ◌&&◌, ◌||◌, List, [], ◌∷◌, ◌++◌, length}
use Rattle.std.proofs.Common.{Some, None, Ok, refl, sym, ap, ap₂, ◌∙◌, subst, arith, append_assoc, append-nil}
use Rattle.std.specs.Prelude.{slice_index, if◌then◌else◌}
use Rattle.std.proofs.lemmas.Bool.{and_parts, and_left}
use Rattle.std.proofs.lemmas.Bool.Decides.{nat_tests}
use Rattle.granit_base.specs.Classes.{is_blank, is_break, is_gap, is_printable}
use Rattle.granit_base.specs.Place.{Mark, first}
use Rattle.granit_lexemes.specs.Decoding.{letter_value, digit_count, Escape, letter, number, halves}
use Rattle.granit_lexemes.specs.Here.{Here, next_char, step}
use Rattle.granit_lexemes.specs.LayoutData.{LayoutData, is_left}
use Rattle.granit_lexemes.specs.Outcome.{◌>>=◌}
use Rattle.granit_lexemes.specs.Pieces.{with_front}
use Rattle.granit_lexemes.specs.PlainExtent.{over}
use Rattle.granit_lexemes.specs.Basics.{is_document_mark}
use Rattle.granit_lexemes.specs.QuotedExtent.{Between, Blanks, Lines, Separates, between_text, Piece}
use Rattle.granit_lexemes.specs.QuotedScalar.{is_literal}
use Rattle.granit_lexemes.specs.QuotedExtent.{itself, doubled, escape, before_break, may_be_left, MayStand, Inside}
use Rattle.granit_lexemes.specs.QuotedExtent.{nothing, content}
use Rattle.granit_lexemes.specs.QuotedScalar.{QuotedState, quote_char, is_closing, is_strictly_left, is_loosely_left}
use Rattle.granit_lexemes.specs.QuotedScalar.{between_quoted, quoted_at, quoted_piece, quoted_content, quoted_turn}
use Rattle.granit_lexemes.specs.QuotedScalar.{quoted_len, escape_or, quoted_rest}
use Rattle.granit_lexemes.proofs.HereLemmas.{not_empty}
use Rattle.granit_lexemes.proofs.PieceLemmas.{with_front-nil, with_front-with_front, pieces_more, pieces_done}
use Rattle.granit_scalars.proofs.PlainReads.{neither_gap}
use Rattle.granit_scalars.proofs.QuotedEscapes.{over_text, escape_is}
use Rattle.granit_quoted_laws.proofs.QuotedGaps.{gap_runs}
use Rattle.granit_quoted_laws.proofs.QuotedKept.{StateIs, between_is}
use Rattle.granit_scalars.proofs.QuotedTurns.{closing_is, Placed, QuotedTests, tests_at}
use Rattle.granit_scalars.proofs.QuotedTurns.{turn_on_tests, turn_is, quoted_shortens}
use Rattle.granit_scalars.proofs.Stepping.{over-append}

-- ---- over content

chain_at : (single : Bool) (start : Mark) (s : QuotedState) (x : QuotedTests) → x.blank ≡ false
    → x.line_break ≡ false → x.strict ≡ false → x.loose ≡ false → x.mark ≡ false → x.ended ≡ false → x.prints ≡ true
    → turn_on_tests single start s x ≡ cond x.closing (Ok (None, s)) (quoted_content single start s)
chain_at single start s x ha hb hd he hf hg hp = rw (ha, hb, hd, he, hf, hg, hp) refl

line_no : (line test : Bool) → (line ≡ true → test ≡ false) → (line && test) ≡ false
line_no true test e = e refl
line_no false test e = refl

no_true : {A : Type 0} (b : Bool) → b ≡ false → b ≡ true → A
no_true true e f = absurd cc
no_true false e f = absurd cc

strict_no : (strict f left closing : Bool) → (left && not (not strict && (f || closing))) ≡ false
    → ((strict && f) && left) ≡ false
strict_no true true true closing e = absurd cc
strict_no true true false closing e = refl
strict_no true false left closing e = refl
strict_no false f left closing e = refl

loose_no : (strict f left closing : Bool) → (left && not (not strict && (f || closing))) ≡ false
    → ((not f && (strict || not closing)) && left) ≡ false
loose_no strict true left closing e = refl
loose_no true false true closing e = absurd cc
loose_no true false false closing e = refl
loose_no false false left true e = refl
loose_no false false true false e = absurd cc
loose_no false false false false e = refl

module _ (single : Bool) (at : LayoutData) (escaped : Bool) (column : ℕ) (text : List ℕ)
    (e : (is_left at.block_column column && not (may_be_left single at escaped text)) ≡ false) where
  pub no_strictly : is_strictly_left at escaped column ≡ false
  unfolding is_strictly_left
  no_strictly = strict_no at.strict (at.in_flow || escaped) (is_left at.block_column column) (is_closing single text) e

  pub no_loosely : is_loosely_left at escaped (is_closing single text) column ≡ false
  unfolding is_loosely_left
  no_loosely = loose_no at.strict (at.in_flow || escaped) (is_left at.block_column column) (is_closing single text) e

pub placed : (single : Bool) (at : LayoutData) (x : Between) (s : QuotedState) → StateIs x s
    → MayStand single at s.escaped x s.here.unread.text → is_gap (next_char s.here) ≡ false → Placed single at s
placed single at (Blanks blanks) s i m n = record {
  no_gap = n;
  no_strict = line_no s.on_new_line (is_strictly_left at s.escaped s.here.place.column) (no_true s.on_new_line i.1);
  no_loose = line_no s.on_new_line (is_loosely_left at s.escaped
      (is_closing single s.here.unread.text) s.here.place.column) (no_true s.on_new_line i.1);
  no_mark = line_no s.on_new_line (s.here.place.column == 0
      && is_document_mark s.here.unread.text) (no_true s.on_new_line i.1);
}
placed single at (Lines empty column) s i m n = record {
  no_gap = n;
  no_strict = line_no s.on_new_line (is_strictly_left at s.escaped s.here.place.column)
      (λ _. ap (is_strictly_left at s.escaped) i.2 ∙ no_strictly single at s.escaped column s.here.unread.text m.0);
  no_loose = line_no s.on_new_line (is_loosely_left at s.escaped
      (is_closing single s.here.unread.text) s.here.place.column)
      (λ _. ap (is_loosely_left at s.escaped (is_closing single s.here.unread.text)) i.2
      ∙ no_loosely single at s.escaped column s.here.unread.text m.0);
  no_mark = line_no s.on_new_line (s.here.place.column == 0
      && is_document_mark s.here.unread.text) (λ _. ap (λ k. k == 0 && is_document_mark s.here.unread.text) i.2 ∙ m.1);
}

-- what content or the closing quote begins with
pub record Begins (text : List ℕ) : Type 0 where
  pub no_gap : is_gap (first text) ≡ false
  pub some : (length text == 0) ≡ false
  pub prints : is_printable (first text) ≡ true

pub turn_at : (single : Bool) (at : LayoutData) (start : Mark) (x : Between) (s : QuotedState) → StateIs x s
    → MayStand single at s.escaped x s.here.unread.text → Begins s.here.unread.text
    → quoted_turn single at start s ≡ cond (is_closing single s.here.unread.text) (Ok (None, s))
    (quoted_content single start s)
turn_at single at start x s i m b =
    let p = placed single at x s i m b.no_gap in
    let n = neither_gap (next_char s.here) b.no_gap in
    turn_is single at start s
    ∙ chain_at single start s (tests_at single at s)
    n.0 n.1 p.no_strict p.no_loose p.no_mark b.some b.prints

-- a piece that stands there is taken
record Takes (single : Bool) (start : Mark) (s : QuotedState) (piece taken : List ℕ) (escapes : Bool) : Type 0 where
  begins : Begins s.here.unread.text
  open_one : is_closing single s.here.unread.text ≡ false
  taken_is : quoted_content single start s ≡ Ok (
    Some (between_quoted s ++ taken),
    quoted_at escapes
        (over piece s.here),
  )

record Literal (single : Bool) (c : ℕ) : Type 0 where
  no_gap : is_gap c ≡ false
  prints : is_printable c ≡ true
  no_quote : (c == quote_char single) ≡ false
  no_escape : (single || not (c == 0x5C)) ≡ true

literal_parts : (a b c d : Bool) → ((not a && b) && (not c && d)) ≡ true → (a ≡ false) × (b ≡ true) × (c ≡ false)
    × (d ≡ true)
literal_parts true b c d e = cc
literal_parts false false c d e = cc
literal_parts false true true d e = cc
literal_parts false true false false e = cc
literal_parts false true false true e = (refl, refl, refl, refl)

literal : (single : Bool) (c : ℕ) → is_literal single c ≡ true → Literal single c
unfolding is_literal
literal single c e =
    let p = literal_parts (is_gap c) (is_printable c) (c == quote_char single) (single || not (c == 0x5C)) e in
    record { no_gap = p.0; prints = p.1; no_quote = p.2; no_escape = p.3 }

not_doubled : (single : Bool) (c : ℕ) → (c == quote_char single) ≡ false → (single && c == 0x27) ≡ false
not_doubled true c e = e
not_doubled false c e = refl

pub begins_with : (c : ℕ) (t text : List ℕ) → text ≡ c ∷ t → is_gap c ≡ false → is_printable c ≡ true → Begins text
begins_with c t text e n p = record {
  no_gap = ap (λ (l : List ℕ). is_gap (first l)) e
      ∙ n;
  some = ap (λ (l : List ℕ). length l == 0) e
      ∙ not_empty c t;
  prints = ap (λ (l : List ℕ). is_printable (first l)) e ∙ p;
}

pub quote_no_gap : (single : Bool) → is_gap (quote_char single) ≡ false
unfolding is_gap is_blank is_break
quote_no_gap true = refl
quote_no_gap false = refl

quote_prints : (single : Bool) → is_printable (quote_char single) ≡ true
unfolding is_printable is_break
quote_prints true = refl
quote_prints false = refl

pub backslash_no_gap : is_gap 0x5C ≡ false
unfolding is_gap is_blank is_break
backslash_no_gap = refl

pub backslash_prints : is_printable 0x5C ≡ true
unfolding is_printable is_break
backslash_prints = refl

no_break_letter : (l c : ℕ) → letter_value l ≡ Some c → is_break l ≡ false
unfolding letter_value is_break
no_break_letter l c e = grind (arith, nat_tests)

no_break_count : (l c : ℕ) → digit_count l ≡ Some c → is_break l ≡ false
unfolding digit_count is_break
no_break_count l c e = grind (arith, nat_tests)

no_break_u : is_break 0x75 ≡ false
unfolding is_break
no_break_u = refl

pub no_break_behind : {e : List ℕ} {c : ℕ} → Escape e c → (t : List ℕ) → (is_break (slice_index (e ++ t) 1) ≡ false)
    × (first (e ++ t) ≡ 0x5C)
no_break_behind (letter {l = l} {c = c} y) t = (no_break_letter l c y, refl)
no_break_behind (number {l = l} {count = count} y a s) t = (no_break_count l count y, refl)
no_break_behind (halves a p b q) t = (no_break_u, refl)

some_text : (t : List ℕ) (c : ℕ) → first t ≡ c → (c ≡ 0 → ⊥) → (u : List ℕ) × (t ≡ c ∷ u)
some_text [] c e n = absurd (n (sym e))
some_text (d ∷ t) c e n = (t, ap (λ k. k ∷ t) e)

pub content_chain : (single : Bool) (start : Mark) (s : QuotedState) (a b c : Bool)
    → (single && next_char s.here == 0x27) ≡ a → (single || not (next_char s.here == 0x5C)) ≡ b
    → is_break (slice_index s.here.unread.text 1) ≡ c
    → quoted_content single start s ≡ (if a then quoted_piece s (0x27, step (step s.here)) else if b then quoted_piece s
    (next_char s.here, step s.here) else if c then Ok (Some (between_quoted s), quoted_at true (step s.here)) else
    (escape_or start (step s.here) >>= quoted_piece s))
unfolding quoted_content
content_chain single start s a b c p q r = rw (p, q, r) refl

takes : (single : Bool) (start : Mark) (s : QuotedState) (piece behind taken : List ℕ) (escapes : Bool)
    → Piece single piece behind taken escapes → s.here.unread.text ≡ piece ++ behind
    → Takes single start s piece taken escapes
takes single start s piece behind taken escapes (itself {c = c} y) e =
    let l = literal single c y in
    let next : next_char s.here ≡ c = ap first e in
    let no_quote : (next_char s.here == quote_char single) ≡ false = ap (λ k. k == quote_char single) next
    ∙ l.no_quote in
    record {
      begins = begins_with c behind s.here.unread.text e l.no_gap l.prints;
      open_one = closing_is single s.here.unread.text
          ∙ and_left (next_char s.here == quote_char single) (not (single
          && slice_index s.here.unread.text 1 == 0x27)) no_quote;
      taken_is = content_chain single start s false true (is_break (slice_index s.here.unread.text 1))
          (not_doubled single (next_char s.here) no_quote) (ap (λ k. single || not (k == 0x5C)) next ∙ l.no_escape) refl
          ∙ ap (λ k. Ok (Some (between_quoted s ++ k ∷ []), quoted_at false (step s.here))) next;
    }
takes true start s piece behind taken escapes doubled e = record {
  begins = begins_with 0x27 (0x27 ∷ behind) s.here.unread.text e (quote_no_gap true) (quote_prints true);
  open_one = closing_is true s.here.unread.text ∙ ap (λ (t : List ℕ). first t == 0x27
      && not (true && slice_index t 1 == 0x27)) e;
  taken_is = content_chain true start s true true (is_break (slice_index s.here.unread.text 1))
      (ap (λ (t : List ℕ). first t == 0x27) e) refl refl;
}
takes false start s piece behind taken escapes (escape {c = c} {e = e} y) is =
    let n = no_break_behind y behind in
    let next : next_char s.here ≡ 0x5C = ap first is ∙ n.1 in
    let more = some_text s.here.unread.text 0x5C next (λ z. cc) in
    record {
      begins = begins_with 0x5C more.0 s.here.unread.text more.1 backslash_no_gap backslash_prints;
      open_one = closing_is false s.here.unread.text
          ∙ ap (λ k. k == 0x22 && not (false && slice_index s.here.unread.text 1 == 0x27)) next;
      taken_is = content_chain false start s false false false refl (ap (λ k. not (k == 0x5C)) next)
          (ap (λ (t : List ℕ). is_break (slice_index t 1)) is ∙ n.0)
          ∙ ap (λ r. r >>= quoted_piece s) (escape_is start e c behind s.here y is);
    }
takes false start s piece behind taken escapes (before_break y) e =
    let next : next_char s.here ≡ 0x5C = ap first e in
    record {
      begins = begins_with 0x5C behind s.here.unread.text e backslash_no_gap backslash_prints;
      open_one = closing_is false s.here.unread.text
          ∙ ap (λ k. k == 0x22 && not (false && slice_index s.here.unread.text 1 == 0x27)) next;
      taken_is = content_chain false start s false false true refl (ap (λ k. not (k == 0x5C)) next)
          (ap (λ (t : List ℕ). is_break (slice_index t 1)) e ∙ y)
          ∙ ap (λ (t : List ℕ). Ok (Some t, quoted_at true (step s.here))) (sym (append-nil (between_quoted s)));
    }

-- over one piece of content, and what stands before it
piece_runs : (single : Bool) (at : LayoutData) (start : Mark) (escaped : Bool)
    (h : Here) {gap piece behind taken : List ℕ} {escapes : Bool} {x : Between}
    → h.unread.text ≡ gap ++ (piece ++ behind)
    → Separates at gap (piece ++ behind) x → Piece single piece behind taken escapes
    → MayStand single at escaped x (piece ++ behind)
    → quoted_rest single at start (quoted_at escaped h) ≡ with_front (between_text escaped x ++ taken)
    (quoted_rest single at start (quoted_at escapes (over (gap ++ piece) h)))
piece_runs single at start escaped h {gap} {piece} {behind} {taken} {escapes} {x} e p q m =
    let r = gap_runs single at start escaped h p e in
    let s = r.after in
    let there : s.here.unread.text ≡ piece ++ behind = ap (λ (g : Here). g.unread.text) r.here
    ∙ over_text gap (piece ++ behind) h e in
    let t = takes single start s piece behind taken escapes q there in
    let stand : MayStand single at s.escaped x s.here.unread.text = subst
    (λ b. MayStand single at b x s.here.unread.text) (sym r.escaped)
    (subst (MayStand single at escaped x) (sym there) m) in
    let turn : quoted_turn single at start s ≡ Ok
    (Some (between_quoted s ++ taken), quoted_at escapes (over piece s.here)) =
    turn_at single at start x s r.state stand t.begins
    ∙ ap (λ c. cond c (Ok (None, s)) (quoted_content single start s)) t.open_one ∙ t.taken_is in
    r.same
    ∙ pieces_more quoted_len (quoted_turn single at start) (quoted_shortens single at start) s
    (quoted_at escapes (over piece s.here)) (between_quoted s ++ taken) turn
    ∙ ap₂ (λ (f : List ℕ) (g : Here). with_front (f ++ taken) (quoted_rest single at start (quoted_at escapes g)))
    (between_is x s r.state ∙ ap (λ b. between_text b x) r.escaped) (ap (over piece) r.here
    ∙ sym (over-append gap piece h))

pub inside_runs : (single : Bool) (at : LayoutData) (start : Mark) {escaped left : Bool} {source behind value : List ℕ}
    → Inside single at escaped source behind value left → (h : Here) → h.unread.text ≡ source ++ behind
    → quoted_rest single at start (quoted_at escaped h) ≡ with_front value
    (quoted_rest single at start (quoted_at left (over source h)))
inside_runs single at start {escaped} nothing h e =
    sym (with_front-nil (quoted_rest single at start (quoted_at escaped h)))
inside_runs single at start {escaped} {left}
    (content {escapes = escapes} {source = source} {behind = behind} {value = value} {gap = gap} {piece = piece}
    {cs = cs} {taken = taken} {more = more} x s v p q m on) h e =
    let whole : h.unread.text ≡ gap ++ (piece ++ (cs ++ behind)) = e ∙ ap (λ (t : List ℕ). t ++ behind) s
    ∙ append_assoc gap (piece ++ cs) behind ∙ ap (λ (t : List ℕ). gap ++ t) (append_assoc piece cs behind) in
    let joined : h.unread.text ≡ (gap ++ piece) ++ (cs ++ behind) = whole
    ∙ sym (append_assoc gap piece (cs ++ behind)) in
    let last = quoted_rest single at start (quoted_at left (over source h)) in
    let lands : over cs (over (gap ++ piece) h) ≡ over source h = sym (over-append (gap ++ piece) cs h)
    ∙ ap (λ (t : List ℕ). over t h) (append_assoc gap piece cs ∙ sym s) in
    piece_runs single at start escaped h whole p q m
    ∙ ap (with_front (between_text escaped x ++ taken))
    (inside_runs single at start on (over (gap ++ piece) h) (over_text (gap ++ piece) (cs ++ behind) h joined)
    ∙ ap (λ (g : Here). with_front more (quoted_rest single at start (quoted_at left g))) lands)
    ∙ with_front-with_front (between_text escaped x ++ taken) more last
    ∙ ap (λ (t : List ℕ). with_front t last) (append_assoc (between_text escaped x) taken more ∙ sym v)

-- ---- up to the closing quote

-- where reading stands at the closing quote
pub record RunsUp (single : Bool) (at : LayoutData) (start : Mark) (left : Bool) (h : Here) (gap : List ℕ)
    (x : Between) : Type 0 where
  pub after : QuotedState
  pub gives : quoted_rest single at start (quoted_at left h) ≡ Ok ([], after)
  pub here : after.here ≡ over gap h
  pub between : between_quoted after ≡ between_text left x

closes_with : (single : Bool) (text : List ℕ) → is_closing single text ≡ true → first text ≡ quote_char single
closes_with single text e =
    let p = (and_parts (first text == quote_char single) (not (single
    && slice_index text 1 == 0x27)) (sym (closing_is single text) ∙ e)).0 in
    grind (arith, nat_tests)

no_quote_nul : (single : Bool) → quote_char single ≡ 0 → ⊥
no_quote_nul true e = cc
no_quote_nul false e = cc

pub closes : (single : Bool) (at : LayoutData) (start : Mark) (left : Bool) (h : Here) {gap rest : List ℕ} {x : Between}
    → Separates at gap rest x → h.unread.text ≡ gap ++ rest → is_closing single rest ≡ true
    → MayStand single at left x rest → RunsUp single at start left h gap x
closes single at start left h {gap} {rest} {x} p e c m =
    let r = gap_runs single at start left h p e in
    let s = r.after in
    let there : s.here.unread.text ≡ rest = ap (λ (g : Here). g.unread.text) r.here ∙ over_text gap rest h e in
    let closing : is_closing single s.here.unread.text ≡ true = ap (is_closing single) there ∙ c in
    let more = some_text s.here.unread.text (quote_char single) (closes_with single s.here.unread.text closing)
    (no_quote_nul single) in
    let begins = begins_with (quote_char single) more.0 s.here.unread.text more.1 (quote_no_gap single)
    (quote_prints single) in
    let stand : MayStand single at s.escaped x s.here.unread.text = subst
    (λ b. MayStand single at b x s.here.unread.text) (sym r.escaped) (subst (MayStand single at left x) (sym there) m)
    in
    let turn : quoted_turn single at start s ≡ Ok (None, s) = turn_at single at start x s r.state stand begins
    ∙ ap (λ b. cond b (Ok (None, s)) (quoted_content single start s)) closing in
    record {
      after = s;
      gives = r.same
          ∙ pieces_done quoted_len (quoted_turn single at start) s s turn;
      here = r.here;
      between = between_is x s r.state
          ∙ ap (λ b. between_text b x) r.escaped;
    }
