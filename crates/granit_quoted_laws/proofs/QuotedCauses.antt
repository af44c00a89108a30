-- What has a cause is refused with exactly that, so at most one has.
use Rattle.std.proofs.Common.{◌≡◌, ℕ, suc, ◌==◌, Bool, true, false, cond, not, ◌&&◌, ◌||◌, List, [], ◌∷◌, ◌++◌}
use Rattle.std.proofs.Common.{length, Option, None, Result, Ok, Err, refl, sym, ap, ap₂, ◌∙◌, subst, arith}
use Rattle.std.specs.Prelude.{slice_index, if◌then◌else◌}
use Rattle.std.proofs.lemmas.Bool.{cond-true, cond-false, and_from, and_right}
use Rattle.std.proofs.lemmas.Bool.Decides.{nat_tests}
use Rattle.granit_base.specs.Classes.{is_blank, is_break, is_gap, is_printable}
use Rattle.granit_base.specs.Place.{Mark, first}
use Rattle.granit_base.specs.Written.{Written}
use Rattle.granit_error.specs.FaultKind.{FaultKind, TabInIndentation, InvalidIndentation, InvalidQuotedScalarIndent}
use Rattle.granit_error.specs.FaultKind.{DocumentIndicatorInQuotedScalar, UnclosedQuotedScalar, CommentNotSeparated}
use Rattle.granit_error.specs.FaultKind.{UnexpectedCharacter}
use Rattle.granit_lexemes.proofs.CharTests.{blank_no_hash}
use Rattle.granit_lexemes.specs.Basics.{is_document_mark, fails_at}
use Rattle.granit_lexemes.specs.Comment.{CommentRead, comment, Spoils, ReadsComment}
use Rattle.granit_lexemes.specs.Here.{Here, text_len, next_char, mark_of, step}
use Rattle.granit_lexemes.specs.LayoutData.{LayoutData, is_left}
use Rattle.granit_lexemes.specs.Moves.{steps}
use Rattle.granit_lexemes.specs.Outcome.{Fault, fault_at, ◌>>=◌}
use Rattle.granit_lexemes.specs.Pieces.{with_front}
use Rattle.granit_lexemes.specs.PlainExtent.{over, starts_comment}
use Rattle.granit_lexemes.specs.QuotedExtent.{WrongEscape, Between, BlanksBehind, ends_quoted, MayStand}
use Rattle.granit_lexemes.specs.QuotedExtent.{RefusesQuoted, inside, behind}
use Rattle.granit_lexemes.specs.QuotedExtent.{WrongInside, tab, strict, loose, mark, end, character, escape}
use Rattle.granit_lexemes.specs.QuotedExtent.{WrongBehind, touching, comment as wrong_comment}
use Rattle.granit_lexemes.specs.QuotedExtent.{character as strange_behind, trailing_single, trailing_double}
use Rattle.granit_lexemes.specs.QuotedScalar.{QuotedState, QuotedRead, quote_char, is_closing, is_tab_left}
use Rattle.granit_lexemes.specs.QuotedScalar.{is_strictly_left, is_loosely_left, between_quoted, quoted_turn}
use Rattle.granit_lexemes.specs.QuotedScalar.{quoted_content}
use Rattle.granit_lexemes.specs.QuotedScalar.{quoted_len, quoted_read, quoted_piece, asked_comment, trailing_kind}
use Rattle.granit_lexemes.specs.QuotedScalar.{may_trail}
use Rattle.granit_lexemes.specs.QuotedScalar.{quoted_text, behind_quoted, quoted_tail, quoted_scalar}
use Rattle.granit_lexemes.proofs.HereLemmas.{not_empty, stepped_text}
use Rattle.granit_lexemes.proofs.PieceLemmas.{pieces_fails}
use Rattle.granit_scalars.proofs.CommentCauses.{spoiled_once}
use Rattle.granit_scalars.proofs.Comments.{comment_reads, not_both}
use Rattle.granit_quoted_laws.proofs.EscapeCauses.{wrong_escape}
pub use Rattle.granit_scalars.proofs.Nameless.{comment_none}
use Rattle.granit_scalars.proofs.PlainReads.{neither_gap}
use Rattle.granit_scalars.proofs.QuotedEscapes.{over_text}
use Rattle.granit_quoted_laws.proofs.QuotedForms.{QuotedForm, FrontStands, FormStands, form_value}
use Rattle.granit_quoted_laws.proofs.QuotedForms.{front_of_form, end_of_form}
use Rattle.granit_quoted_laws.proofs.QuotedGaps.{gap_runs}
use Rattle.granit_quoted_laws.proofs.QuotedKept.{StateIs}
use Rattle.granit_quoted_laws.proofs.QuotedOnce.{run, body, answer_of}
use Rattle.granit_quoted_laws.proofs.QuotedRuns.{placed, begins_with, backslash_no_gap, backslash_prints}
use Rattle.granit_quoted_laws.proofs.QuotedRuns.{content_chain, turn_at, no_strictly, no_loosely, inside_runs}
use Rattle.granit_quoted_laws.proofs.QuotedTail.{tail_past, no_hash}
use Rattle.granit_scalars.proofs.QuotedTurns.{Placed, closing_is, tab_meets, strict_meets, loose_meets, mark_meets}
use Rattle.granit_scalars.proofs.QuotedTurns.{QuotedTests, tests_at, turn_on_tests, turn_is}
use Rattle.granit_scalars.proofs.Stepping.{over-append, seen_as, second_of}

-- ---- comments

-- a comment that isn't printable is refused
comment_refused : (h : Here) (kind : FaultKind) (m : Mark) → Spoils h kind m → comment h ≡ Err (fault_at kind m)
comment_refused h kind m p = on (comment h) refl (comment_reads h (ap first p.spelled.spelled))
  where
    on : (r : Result (CommentRead × Here) Fault) → comment h ≡ r → ReadsComment h r → r ≡ Err (fault_at kind m)
    on (Ok (c, after)) e q =
        absurd (not_both h.unread.text c.text.characters p.front p.character q.spelled p.spelled)
    on (Err f) e q =
        let one = spoiled_once h.unread.text q.front p.front q.character p.character q.spelled p.spelled in
        let kinds : f.kind ≡ kind = q.names ∙ ap (λ (c : ℕ). UnexpectedCharacter c) one.1 ∙ sym p.names in
        let marks : f.mark ≡ m =
        q.marks ∙ ap (λ (cs : List ℕ). mark_of (steps (suc (length cs)) h)) one.0 ∙ sym p.marks in
        ap (λ (sources : List _). Err (record f { sources = sources })) ((comment_none h).none f e)
        ∙ ap₂ (λ (k : FaultKind) (n : Mark). Err (fault_at k n)) kinds marks

-- ---- turns

module _ (single : Bool) (start : Mark) (s : QuotedState) (x : QuotedTests) where
  abbrev chain : Result (Option (List ℕ) × QuotedState) Fault
  chain = turn_on_tests single start s x

  chain_tab : x.blank ≡ true → x.tab ≡ true → chain ≡ Err (fault_at TabInIndentation (mark_of s.here))
  chain_tab ha ht = rw (ha, ht) refl

  chain_strict : x.blank ≡ false → x.line_break ≡ false → x.strict ≡ true
      → chain ≡ Err (fault_at InvalidIndentation (mark_of s.here))
  chain_strict ha hb hd = rw (ha, hb, hd) refl

  chain_loose : x.blank ≡ false → x.line_break ≡ false → x.strict ≡ false → x.loose ≡ true
      → chain ≡ Err (fault_at InvalidQuotedScalarIndent (mark_of s.here))
  chain_loose ha hb hd he = rw (ha, hb, hd, he) refl

  chain_mark : x.blank ≡ false → x.line_break ≡ false → x.strict ≡ false → x.loose ≡ false → x.mark ≡ true
      → chain ≡ Err (fault_at DocumentIndicatorInQuotedScalar start)
  chain_mark ha hb hd he hf = rw (ha, hb, hd, he, hf) refl

  chain_end : x.blank ≡ false → x.line_break ≡ false → x.strict ≡ false → x.loose ≡ false → x.mark ≡ false
      → x.ended ≡ true
      → chain ≡ Err (fault_at UnclosedQuotedScalar start)
  chain_end ha hb hd he hf hg = rw (ha, hb, hd, he, hf, hg) refl

  chain_character : x.blank ≡ false → x.line_break ≡ false → x.strict ≡ false → x.loose ≡ false → x.mark ≡ false
      → x.ended ≡ false → x.prints ≡ false
      → chain ≡ Err (fault_at (UnexpectedCharacter (next_char s.here)) (mark_of s.here))
  chain_character ha hb hd he hf hg hp = rw (ha, hb, hd, he, hf, hg, hp) refl

blank_tab : is_blank 0x09 ≡ true
unfolding is_blank
blank_tab = refl

gap_nul : is_gap 0 ≡ false
unfolding is_gap is_blank is_break
gap_nul = refl

strange_no_gap : (c : ℕ) → is_printable c ≡ false → is_gap c ≡ false
unfolding is_gap is_blank is_break is_printable
strange_no_gap c n = grind (arith, nat_tests)

strange_no_hash : (c : ℕ) → is_printable c ≡ false → (c == 0x23) ≡ false
unfolding is_printable is_break
strange_no_hash c n = grind (arith, nat_tests)

dash_or_dot : (c : ℕ) (a b d k e f : Bool)
    → ((((c == 0x2D && a) && b) && d) || (((c == 0x2E && k) && e) && f)) ≡ true → is_gap c ≡ false
unfolding is_gap is_blank is_break
dash_or_dot c a b d k e f y = grind (arith, nat_tests)

mark_no_gap : (text : List ℕ) → is_document_mark text ≡ true → is_gap (first text) ≡ false
mark_no_gap [] y = gap_nul
mark_no_gap (c ∷ t) y = dash_or_dot c _ _ _ _ _ _ y

tab_there : (line : Bool) (c column n : ℕ) (at : LayoutData) → line ≡ true → c ≡ 0x09 → column ≡ n
    → is_tab_left at n ≡ true → (line && (c == 0x09 && is_tab_left at column)) ≡ true
tab_there line c column n at p q r y = rw (p, q, r) y

strictly : (at : LayoutData) (escaped : Bool) (column : ℕ) → at.strict ≡ true → (at.in_flow || escaped) ≡ true
    → is_left at.block_column column ≡ true → is_strictly_left at escaped column ≡ true
unfolding is_strictly_left
strictly at escaped column p q r = rw (p, q, r) refl

none_strict : (s f e l : Bool) → f ≡ false → e ≡ false → ((s && (f || e)) && l) ≡ false
none_strict true f e l p q = rw (p, q) refl
none_strict false f e l p q = refl

not_strictly : (at : LayoutData) (escaped : Bool) (column : ℕ) → at.in_flow ≡ false → escaped ≡ false
    → is_strictly_left at escaped column ≡ false
unfolding is_strictly_left
not_strictly at escaped column p q = none_strict at.strict at.in_flow escaped (is_left at.block_column column) p q

loosely : (at : LayoutData) (escaped closing : Bool) (column : ℕ) → at.in_flow ≡ false → escaped ≡ false
    → is_left at.block_column column ≡ true → (at.strict || not closing) ≡ true
    → is_loosely_left at escaped closing column ≡ true
unfolding is_loosely_left
loosely at escaped closing column p q r y = rw (p, q, r, y) refl

-- a cause here is what this turn refuses
module _ (single : Bool) (at : LayoutData) (start : Mark) (s : QuotedState) where
  abbrev Fails : FaultKind → Mark → Type 0
  Fails kind m = quoted_turn single at start s ≡ Err (fault_at kind m)

  abbrev closing : Bool
  closing = is_closing single s.here.unread.text

  tab_turn : next_char s.here ≡ 0x09 → tab_meets at s ≡ true → Fails TabInIndentation (mark_of s.here)
  tab_turn next y =
      turn_is single at start s
      ∙ chain_tab single start s (tests_at single at s) (ap is_blank next ∙ blank_tab) y

  strict_turn : is_gap (next_char s.here) ≡ false → strict_meets at s ≡ true
      → Fails InvalidIndentation (mark_of s.here)
  strict_turn n y =
      let k = neither_gap (next_char s.here) n in
      turn_is single at start s
      ∙ chain_strict single start s (tests_at single at s) k.0 k.1 y

  loose_turn : is_gap (next_char s.here) ≡ false → strict_meets at s ≡ false → loose_meets single at s ≡ true
      → Fails InvalidQuotedScalarIndent (mark_of s.here)
  loose_turn n d y =
      let k = neither_gap (next_char s.here) n in
      turn_is single at start s
      ∙ chain_loose single start s (tests_at single at s) k.0 k.1 d y

  mark_turn : is_gap (next_char s.here) ≡ false → strict_meets at s ≡ false → loose_meets single at s ≡ false
      → mark_meets s ≡ true → Fails DocumentIndicatorInQuotedScalar start
  mark_turn n d l y =
      let k = neither_gap (next_char s.here) n in
      turn_is single at start s
      ∙ chain_mark single start s (tests_at single at s) k.0 k.1 d l y

  end_turn : Placed single at s → (text_len s.here == 0) ≡ true → Fails UnclosedQuotedScalar start
  end_turn p y =
      let k = neither_gap (next_char s.here) p.no_gap in
      turn_is single at start s
      ∙ chain_end single start s (tests_at single at s) k.0 k.1 p.no_strict p.no_loose p.no_mark y

  character_turn : Placed single at s → (text_len s.here == 0) ≡ false → is_printable (next_char s.here) ≡ false
      → Fails (UnexpectedCharacter (next_char s.here)) (mark_of s.here)
  character_turn p n y =
      let k = neither_gap (next_char s.here) p.no_gap in
      turn_is single at start s
      ∙ chain_character single start s (tests_at single at s) k.0 k.1 p.no_strict p.no_loose p.no_mark n y

  escape_turn : {kind : FaultKind} (x : Between) (rest : List ℕ) → StateIs x s
      → MayStand single at s.escaped x s.here.unread.text → s.here.unread.text ≡ 0x5C ∷ rest → single ≡ false
      → is_break (first rest) ≡ false → WrongEscape kind rest → Fails kind start
  escape_turn x rest k stand e y no_break w =
      let text = s.here.unread.text in
      let next : next_char s.here ≡ 0x5C = ap first e in
      let behind = stepped_text s.here 0x5C rest e in
      let second : slice_index text 1 ≡ first rest =
      second_of s.here (seen_as s.here 0x5C rest e) ∙ ap first behind in
      let open_one : is_closing single text ≡ false =
      closing_is single text
      ∙ ap₂ (λ b n. n == quote_char b && not (b && slice_index text 1 == 0x27)) y next in
      turn_at single at start x s k stand
      (begins_with 0x5C rest text e backslash_no_gap backslash_prints)
      ∙ ap (λ b. cond b (Ok (None, s)) (quoted_content single start s)) open_one
      ∙ content_chain single start s false false false (ap (λ b. b && next_char s.here == 0x27) y)
      (ap₂ (λ b n. b || not (n == 0x5C)) y next) (ap is_break second ∙ no_break)
      ∙ ap (λ r. r >>= quoted_piece s) (wrong_escape start w (step s.here) behind)

  stands_here : {left : Bool} (x : Between) {rest : List ℕ} → s.escaped ≡ left → s.here.unread.text ≡ rest
      → MayStand single at left x rest → MayStand single at s.escaped x s.here.unread.text
  stands_here {left} x q e m =
      subst (λ b. MayStand single at b x s.here.unread.text) (sym q) (subst (MayStand single at left x) (sym e) m)

  wrong_turn : {left : Bool} {x : Between} {rest : List ℕ} {place : Here} {kind : FaultKind} {m : Mark}
      → WrongInside single at start left x rest place kind m → StateIs x s → s.escaped ≡ left
      → s.here.unread.text ≡ rest → s.here ≡ place → Fails kind m
  wrong_turn (tab {column = column} is l) k q e there =
      let next : next_char s.here ≡ 0x09 = ap first e ∙ is in
      tab_turn next (tab_there s.on_new_line (next_char s.here) s.here.place.column column at k.1 next k.2 l)
      ∙ ap (λ (g : Here). Err (fault_at TabInIndentation (mark_of g))) there
  wrong_turn {left} (strict {column = column} n i f l) k q e there =
      strict_turn (ap (λ (t : List ℕ). is_gap (first t)) e ∙ n)
      (and_from s.on_new_line (is_strictly_left at s.escaped s.here.place.column) k.1
      (ap₂ (is_strictly_left at) q k.2 ∙ strictly at left column i f l))
      ∙ ap (λ (g : Here). Err (fault_at InvalidIndentation (mark_of g))) there
  wrong_turn {left} (loose {column = column} {rest = rest} n i f l c) k q e there =
      loose_turn (ap (λ (t : List ℕ). is_gap (first t)) e ∙ n)
      (and_right s.on_new_line (is_strictly_left at s.escaped s.here.place.column)
      (ap₂ (is_strictly_left at) q k.2 ∙ not_strictly at left column i f))
      (and_from s.on_new_line (is_loosely_left at s.escaped closing s.here.place.column) k.1
      (ap₂ (λ b n. is_loosely_left at b closing n) q k.2
      ∙ ap (λ (t : List ℕ). is_loosely_left at left (is_closing single t) column) e
      ∙ loosely at left (is_closing single rest) column i f l c))
      ∙ ap (λ (g : Here). Err (fault_at InvalidQuotedScalarIndent (mark_of g))) there
  wrong_turn {left} (mark {rest = rest} p y) k q e there =
      mark_turn (ap (λ (t : List ℕ). is_gap (first t)) e ∙ mark_no_gap rest y)
      (and_right s.on_new_line (is_strictly_left at s.escaped s.here.place.column)
      (ap₂ (is_strictly_left at) q k.2 ∙ no_strictly single at left 0 rest p))
      (and_right s.on_new_line (is_loosely_left at s.escaped closing s.here.place.column)
      (ap₂ (λ b n. is_loosely_left at b closing n) q k.2
      ∙ ap (λ (t : List ℕ). is_loosely_left at left (is_closing single t) 0) e
      ∙ no_loosely single at left 0 rest p))
      (and_from s.on_new_line (s.here.place.column == 0 && is_document_mark s.here.unread.text) k.1
      (ap₂ (λ n (t : List ℕ). n == 0 && is_document_mark t) k.2 e ∙ y))
  wrong_turn (end {x = x} m) k q e there =
      end_turn (placed single at x s k (stands_here x q e m) (ap (λ (t : List ℕ). is_gap (first t)) e ∙ gap_nul))
      (ap (λ (t : List ℕ). length t == 0) e)
  wrong_turn (character {x = x} {c = c} {rest = rest} m n) k q e there =
      character_turn
      (placed single at x s k (stands_here x q e m)
      (ap (λ (t : List ℕ). is_gap (first t)) e ∙ strange_no_gap c n))
      (ap (λ (t : List ℕ). length t == 0) e ∙ not_empty c rest) (ap (λ (t : List ℕ). is_printable (first t)) e ∙ n)
      ∙ ap₂ (λ c (g : Here). Err (fault_at (UnexpectedCharacter c) (mark_of g))) (ap first e) there
  wrong_turn (escape {x = x} {rest = rest} y m n w) k q e there =
      escape_turn x rest k (stands_here x q e m) e y n w

-- ---- inside the quotes

inside_refused : (single : Bool) (at : LayoutData) (h : Here) (x : QuotedForm) (kind : FaultKind) (m : Mark)
    → FrontStands single at h x
    → WrongInside single at (mark_of h) x.left x.between x.rest (front_of_form single h x) kind m
    → quoted_scalar single at h ≡ Err (fault_at kind m)
unfolding quoted_scalar
inside_refused single at h x kind m front w =
    let there : (step h).unread.text ≡ x.source ++ (x.gap ++ x.rest) =
    stepped_text h (quote_char single) (x.source ++ (x.gap ++ x.rest)) front.whole in
    let past = over x.source (step h) in
    let text_past = over_text x.source (x.gap ++ x.rest) (step h) there in
    let r = gap_runs single at (mark_of h) x.left past front.separated text_past in
    let s = r.after in
    let text : s.here.unread.text ≡ x.rest =
    ap (λ (g : Here). g.unread.text) r.here ∙ over_text x.gap x.rest past text_past in
    let place : s.here ≡ front_of_form single h x = r.here ∙ sym (over-append x.source x.gap (step h)) in
    let fails : run single at h ≡ Err (fault_at kind m) =
    inside_runs single at (mark_of h) front.inside (step h) there
    ∙ ap (with_front x.value)
    (r.same
    ∙ pieces_fails quoted_len (quoted_turn single at (mark_of h)) s (fault_at kind m)
    (wrong_turn single at (mark_of h) s w r.state r.escaped text place)) in
    ap (λ g. g >>= λ y. quoted_tail single at (mark_of h) (quoted_text single (step h) (y.0 ++ between_quoted y.1))
    (step y.1.here)) fails

-- ---- behind the closing quote

behind_strange : (single : Bool) (at : LayoutData) (start : Mark) (value : Written) (e : Mark) (h : Here) (c : ℕ)
    (t : List ℕ) → h.unread.text ≡ c ∷ t → is_printable c ≡ false
    → behind_quoted single at start value e h ≡ Err (fault_at (UnexpectedCharacter c) (mark_of h))
unfolding behind_quoted
behind_strange single at start value e h c t is n =
    cond-false (text_len h == 0) _ _ (ap (λ (u : List ℕ). length u == 0) is ∙ not_empty c t)
    ∙ cond-true (not (is_printable (next_char h))) _ _ (ap (λ (u : List ℕ). not (is_printable (first u))) is ∙ ap not n)
    ∙ ap (λ (u : List ℕ). Err (fault_at (UnexpectedCharacter (first u)) (mark_of h))) is

behind_chain : (given other : Result (QuotedRead × Here) Fault) (f : Fault) (a b c : Bool) → b ≡ true
    → (a || (b && c)) ≡ false
    → (if a then given else if not b then other else if c then given else Err f) ≡ Err f
behind_chain given other f true b c y z = absurd cc
behind_chain given other f false false c y z = absurd cc
behind_chain given other f false true true y z = absurd cc
behind_chain given other f false true false y z = refl

behind_trailing : (single : Bool) (at : LayoutData) (start : Mark) (value : Written) (e : Mark) (h : Here)
    → is_printable (next_char h) ≡ true → ends_quoted at start h ≡ false
    → behind_quoted single at start value e h ≡ Err (fault_at (trailing_kind single) (mark_of h))
unfolding behind_quoted
behind_trailing single at start value e h y z =
    behind_chain (Ok (quoted_read single start value e None, h))
    (fails_at (UnexpectedCharacter (next_char h)) (mark_of h)) (fault_at (trailing_kind single) (mark_of h))
    (text_len h == 0) (is_printable (next_char h)) (may_trail at (h.place.line == start.place.line) (next_char h)) y z

touching_refused : (single : Bool) (at : LayoutData) (start : Mark) (value : Written) (h : Here)
    → starts_comment h.unread.text ≡ true
    → quoted_tail single at start value h ≡ Err (fault_at CommentNotSeparated (mark_of h))
unfolding quoted_tail
touching_refused single at start value h y = cond-true (next_char h == 0x23) _ _ y

module _ (single : Bool) (at : LayoutData) (start : Mark) (value : Written) (h : Here) where
  -- where no comment begins behind the blanks
  past_blanks_is : (blanks rest : List ℕ) → BlanksBehind h blanks rest → starts_comment rest ≡ false
      → quoted_tail single at start value h ≡ behind_quoted single at start value (mark_of h) (over blanks h)
  past_blanks_is blanks rest p n =
      tail_past single at start value h blanks rest p (no_hash h blanks rest p n)
      ∙ cond-false (next_char (over blanks h) == 0x23) _ _
      (ap (λ (t : List ℕ). first t == 0x23) (over_text blanks rest h p.whole) ∙ n)

  trailing_refused : (blanks rest : List ℕ) (b : Bool) → single ≡ b → BlanksBehind h blanks rest
      → starts_comment rest ≡ false → is_printable (first rest) ≡ true
      → ends_quoted at start (over blanks h) ≡ false
      → quoted_tail single at start value h ≡ Err (fault_at (trailing_kind b) (mark_of (over blanks h)))
  trailing_refused blanks rest b s p n y z =
      past_blanks_is blanks rest p n
      ∙ behind_trailing single at start value (mark_of h) (over blanks h)
      (ap (λ (t : List ℕ). is_printable (first t)) (over_text blanks rest h p.whole) ∙ y) z
      ∙ ap (λ v. Err (fault_at (trailing_kind v) (mark_of (over blanks h)))) s

  tail_refused : {kind : FaultKind} {m : Mark} → WrongBehind single at start h kind m
      → quoted_tail single at start value h ≡ Err (fault_at kind m)
  tail_refused (touching y) = touching_refused single at start value h y
  tail_refused {kind} {m} (wrong_comment b blanks rest p spoils) =
      let there : (next_char (over (b ∷ blanks) h) == 0x23) ≡ true =
      ap (λ (t : List ℕ). first t == 0x23) spoils.spelled.spelled in
      tail_past single at start value h (b ∷ blanks) rest p
      (ap (λ (t : List ℕ). first t == 0x23) p.whole ∙ blank_no_hash b p.each.0)
      ∙ cond-true (next_char (over (b ∷ blanks) h) == 0x23) _ _ there
      ∙ ap (λ r. r >>= λ x. Ok (quoted_read single start value (mark_of h) (asked_comment at x.0), x.1))
      (comment_refused (over (b ∷ blanks) h) kind m spoils)
  tail_refused (strange_behind {c = c} blanks rest p n) =
      past_blanks_is blanks (c ∷ rest) p (strange_no_hash c n)
      ∙ behind_strange single at start value (mark_of h) (over blanks h) c rest
      (over_text blanks (c ∷ rest) h p.whole) n
  tail_refused (trailing_single blanks rest s p n y z) = trailing_refused blanks rest true s p n y z
  tail_refused (trailing_double blanks rest s p n y z) = trailing_refused blanks rest false s p n y z

behind_refused : (single : Bool) (at : LayoutData) (h : Here) (x : QuotedForm) (kind : FaultKind) (m : Mark)
    → FormStands single at h x → WrongBehind single at (mark_of h) (end_of_form single h x) kind m
    → quoted_scalar single at h ≡ Err (fault_at kind m)
unfolding quoted_scalar
behind_refused single at h x kind m stands w =
    let b = body single at h x stands in
    answer_of single at h (run single at h) b.text b.after b.gives
    ∙ ap₂ (λ (v : List ℕ) (g : Here). quoted_tail single at (mark_of h) (quoted_text single (step h) v) g) b.spells
    (ap step b.here)
    ∙ tail_refused single at (mark_of h) (quoted_text single (step h) (form_value x)) (end_of_form single h x) w

-- ---- the law

-- what has a cause is refused with exactly that
pub quoted_cause_refused : (single : Bool) (at : LayoutData) (h : Here) (kind : FaultKind) (m : Mark)
    → RefusesQuoted single at h kind m → quoted_scalar single at h ≡ Err (fault_at kind m)
quoted_cause_refused single at h kind m (inside source value gap left x rest front w) =
    inside_refused single at h
    (record { source = source; value = value; gap = gap; left = left; between = x; rest = rest }) kind m front w
quoted_cause_refused single at h kind m (behind source value gap left x rest stands w) =
    behind_refused single at h
    (record { source = source; value = value; gap = gap; left = left; between = x; rest = rest }) kind m stands w

same_fault : (f g : Fault) → ◌≡◌ {A = Result (QuotedRead × Here) Fault} (Err f) (Err g)
    → (f.kind ≡ g.kind) × (f.mark ≡ g.mark)
same_fault f g e = let same : f ≡ g = cc in (ap (λ (x : Fault). x.kind) same, ap (λ (x : Fault). x.mark) same)

-- at most one cause at one mark
pub one_quoted_cause : (single : Bool) (at : LayoutData) (h : Here) (kind other : FaultKind) (m n : Mark)
    → RefusesQuoted single at h kind m → RefusesQuoted single at h other n → (kind ≡ other) × (m ≡ n)
one_quoted_cause single at h kind other m n p q =
    same_fault (fault_at kind m) (fault_at other n)
    (sym (quoted_cause_refused single at h kind m p) ∙ quoted_cause_refused single at h other n q)
