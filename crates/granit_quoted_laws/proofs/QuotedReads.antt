-- What is read from a state on: the rest of a quoted scalar up to its closing quote, or what is wrong in it.
use Rattle.std.proofs.Common.{◌≡◌, ℕ, ◌==◌, Bool, true, false, not, ◌&&◌, ◌||◌, List, [], ◌∷◌, ◌++◌, length, Option}
use Rattle.std.proofs.Common.{Result, Ok, Err, refl, sym, ap, ap₂, ◌∙◌, subst, arith, append_assoc, append-nil}
use Rattle.std.specs.Prelude.{slice_index}
use Rattle.std.proofs.lemmas.Bool.{and_parts, eqb-true}
use Rattle.std.proofs.lemmas.Bool.Decides.{nat_tests}
use Rattle.std.proofs.lemmas.List.{nil_from_length}
use Rattle.granit_base.specs.Classes.{is_break, is_gap, is_printable}
use Rattle.granit_base.specs.Place.{Mark, first}
use Rattle.granit_error.specs.FaultKind.{InvalidIndentation, UnclosedQuotedScalar, DocumentIndicatorInQuotedScalar}
use Rattle.granit_error.specs.FaultKind.{TabInIndentation, InvalidQuotedScalarIndent, UnexpectedCharacter}
use Rattle.granit_lexemes.specs.Here.{Here, next_char, mark_of, step, text_len}
use Rattle.granit_lexemes.specs.LayoutData.{LayoutData, is_left}
use Rattle.granit_lexemes.specs.Outcome.{Fault, fault_at, ◌>>=◌}
use Rattle.granit_lexemes.specs.Pieces.{with_front, pieces}
use Rattle.granit_lexemes.specs.PlainExtent.{over}
use Rattle.granit_lexemes.specs.Basics.{is_document_mark}
use Rattle.granit_lexemes.specs.QuotedExtent.{Between, Blanks, Lines, Separates, between_text, Piece}
use Rattle.granit_lexemes.specs.QuotedScalar.{is_literal}
use Rattle.granit_lexemes.specs.QuotedExtent.{itself, doubled, escape as escape_piece, before_break, may_be_left}
use Rattle.granit_lexemes.specs.QuotedExtent.{is_misplaced, MayStand, Inside, nothing, content, quoted_value}
use Rattle.granit_lexemes.specs.QuotedExtent.{WrongInside, tab, strict, loose, mark, end, character, escape}
use Rattle.granit_lexemes.specs.QuotedScalar.{QuotedState, quote_char, is_closing, is_tab_left, is_strictly_left}
use Rattle.granit_lexemes.specs.QuotedScalar.{is_loosely_left, between_quoted, quoted_at, over_blank, over_break}
use Rattle.granit_lexemes.specs.QuotedScalar.{quoted_piece, quoted_content, quoted_turn, quoted_len, escape_or}
use Rattle.granit_scalars.proofs.PlainReads.{not_right}
use Rattle.granit_scalars.proofs.QuotedEscapes.{ReadsEscape, reads_escape}
use Rattle.granit_quoted_laws.proofs.QuotedForms.{QuotedForm}
use Rattle.granit_quoted_laws.proofs.QuotedKept.{StateIs, QuotedStays, quoted_fresh, between_is, QuotedGoes}
use Rattle.granit_quoted_laws.proofs.QuotedKept.{quoted_blank}
use Rattle.granit_quoted_laws.proofs.QuotedKept.{quoted_break}
use Rattle.granit_scalars.proofs.QuotedTurns.{closing_is, tab_meets, strict_meets, loose_meets, mark_meets, Placed}
use Rattle.granit_scalars.proofs.QuotedTurns.{QuotedTurned, past_a_blank, at_a_tab, past_a_break, at_strict, at_loose}
use Rattle.granit_scalars.proofs.QuotedTurns.{at_a_mark, at_the_end, at_a_character, at_the_quote, in_content}
use Rattle.granit_scalars.proofs.QuotedTurns.{quoted_turned, ContentTurned, at_a_doubled, at_itself, at_escaped_break}
use Rattle.granit_scalars.proofs.QuotedTurns.{at_an_escape, content_turned, seen_there, quoted_shortens}
use Rattle.granit_scalars.proofs.Stepping.{over-append, Seen, seen_as, second_of}
pub use Rattle.granit_scalars.proofs.Turning.{Carries, pieces_hold}

-- the rest of a scalar, behind content that ends here
pub record QuotedFinds (single : Bool) (at : LayoutData) (escaped : Bool) (behind : Here)
    (x : QuotedForm) : Type 0 where
  pub whole : behind.unread.text ≡ x.source ++ (x.gap ++ x.rest)
  pub inside : Inside single at escaped x.source (x.gap ++ x.rest) x.value x.left
  pub separated : Separates at x.gap x.rest x.between

-- a scalar up to where reading stands
abbrev pub up_to_quote : (source value gap : List ℕ) → Between → QuotedState → QuotedForm
up_to_quote source value gap between s = record {
  source = source;
  value = value;
  gap = gap;
  left = s.escaped;
  between = between;
  rest = s.here.unread.text;
}

-- up to the closing quote
pub record FindsQuote (single : Bool) (at : LayoutData) (escaped : Bool) (behind : Here) (text : List ℕ)
    (after : QuotedState) : Type 0 where
  pub source : List ℕ
  pub value : List ℕ
  pub gap : List ℕ
  pub x : Between
  pub finds : QuotedFinds single at escaped behind (up_to_quote source value gap x after)
  pub place : after.here ≡ over (source ++ gap) behind
  pub closing : is_closing single after.here.unread.text ≡ true
  pub placed : MayStand single at after.escaped x after.here.unread.text
  pub value_is : text ++ between_quoted after ≡ quoted_value value after.escaped x

-- up to what is wrong
pub record FindsWrong (single : Bool) (at : LayoutData) (start : Mark) (escaped : Bool) (behind : Here)
    (f : Fault) : Type 0 where
  pub form : QuotedForm
  pub place : Here
  pub finds : QuotedFinds single at escaped behind form
  pub place_is : place ≡ over (form.source ++ form.gap) behind
  pub wrong : WrongInside single at start form.left form.between form.rest place f.kind f.mark

abbrev pub QuotedReads : Bool → LayoutData → Mark → QuotedState → Result (List ℕ × QuotedState) Fault → Type 0
QuotedReads single at start s (Ok (text, after)) = (gap : List ℕ) (x : Between) (behind : Here)
    → QuotedStays at gap x behind s → FindsQuote single at s.escaped behind text after
QuotedReads single at start s (Err f) = (gap : List ℕ) (x : Between) (behind : Here) → QuotedStays at gap x behind s
    → FindsWrong single at start s.escaped behind f

-- ---- blanks and breaks

lengthens : (single : Bool) (at : LayoutData) (start : Mark) (s after : QuotedState)
    → ((gap : List ℕ) (x : Between) (behind : Here) → QuotedStays at gap x behind s
    → QuotedGoes at behind s.escaped after)
    → (given : Result (List ℕ × QuotedState) Fault) → QuotedReads single at start after given
    → QuotedReads single at start s (with_front [] given)
lengthens single at start s after on (Ok (text, last)) reads =
    λ gap x behind h. let k = on gap x behind h in subst (λ e. FindsQuote single at e behind text last) k.escaped_is
    (reads k.gap k.x behind k.stays)
lengthens single at start s after on (Err f) reads = λ gap x behind h. let k =
    on gap x behind h in subst (λ e. FindsWrong single at start e behind f) k.escaped_is
    (reads k.gap k.x behind k.stays)

-- ---- content

-- a piece of content, what it spells, whether it is an escaped break, and where reading then stands
record PieceRead : Type 0 where
  piece : List ℕ
  taken : List ℕ
  escapes : Bool
  after : Here

-- it stands here
record Taken (single : Bool) (h : Here) (r : PieceRead) : Type 0 where
  text : h.unread.text ≡ r.piece ++ r.after.unread.text
  is : Piece single r.piece r.after.unread.text r.taken r.escapes
  lands : r.after ≡ over r.piece h

both_no : (s f left closing : Bool) → ((s && f) && left) ≡ false → ((not f && (s || not closing)) && left) ≡ false
    → (left && not (not s && (f || closing))) ≡ false
both_no s f false closing p q = refl
both_no true true true closing p q = absurd cc
both_no true false true closing p q = absurd cc
both_no false true true closing p q = refl
both_no false false true true p q = refl
both_no false false true false p q = absurd cc

not_left : (single : Bool) (at : LayoutData) (escaped : Bool) (column : ℕ) (text : List ℕ)
    → is_strictly_left at escaped column ≡ false → is_loosely_left at escaped (is_closing single text) column ≡ false
    → (is_left at.block_column column && not (may_be_left single at escaped text)) ≡ false
unfolding is_strictly_left is_loosely_left
not_left single at escaped column text p q =
    both_no at.strict (at.in_flow || escaped) (is_left at.block_column column) (is_closing single text) p q

not_misplaced : (single : Bool) (at : LayoutData) (s : QuotedState) (column : ℕ) → s.on_new_line ≡ true
    → s.here.place.column ≡ column → strict_meets at s ≡ false → loose_meets single at s ≡ false
    → is_misplaced single at s.escaped column s.here.unread.text ≡ false
not_misplaced single at s column line there n m =
    let closing = is_closing single s.here.unread.text in
    not_left single at s.escaped column s.here.unread.text
    (ap (is_strictly_left at s.escaped) (sym there)
    ∙ not_right s.on_new_line (is_strictly_left at s.escaped s.here.place.column) n line)
    (ap (is_loosely_left at s.escaped closing) (sym there)
    ∙ not_right s.on_new_line (is_loosely_left at s.escaped closing s.here.place.column) m line)

pub may_stand : (single : Bool) (at : LayoutData) (x : Between) (s : QuotedState) → StateIs x s → Placed single at s
    → MayStand single at s.escaped x s.here.unread.text
may_stand single at (Blanks blanks) s k p = tt
may_stand single at (Lines empty column) s k p = (
  not_misplaced single at s column k.1 k.2 p.no_strict p.no_loose,
  ap (λ n. n == 0 && is_document_mark s.here.unread.text) (sym k.2)
      ∙ not_right s.on_new_line (s.here.place.column == 0 && is_document_mark s.here.unread.text) p.no_mark k.1,
)

-- a scalar with a gap and a piece in front
abbrev piece_in_front : Bool → (gap : List ℕ) → Between → PieceRead → QuotedForm → QuotedForm
piece_in_front escaped gap between r x = record x {
  source = gap ++ (r.piece ++ x.source);
  value = between_text escaped between ++ (r.taken ++ x.value);
}

inside_on : (single : Bool) (at : LayoutData) (s : QuotedState) (r : PieceRead) → Taken single s.here r
    → Placed single at s → (gap : List ℕ) (between : Between) (behind : Here) → QuotedStays at gap between behind s
    → (x : QuotedForm) → QuotedFinds single at r.escapes r.after x
    → QuotedFinds single at s.escaped behind (piece_in_front s.escaped gap between r x)
inside_on single at s r t p gap between behind h x f =
    let there : s.here.unread.text ≡ r.piece ++ (x.source ++ (x.gap ++ x.rest)) = t.text
    ∙ ap (λ (u : List ℕ). r.piece ++ u) f.whole in
    record {
      whole = h.text ∙ ap (λ (u : List ℕ). gap ++ u) (there ∙ sym (append_assoc r.piece x.source (x.gap ++ x.rest)))
          ∙ sym (append_assoc gap (r.piece ++ x.source) (x.gap ++ x.rest));
      inside = content between refl refl
          (subst (λ (u : List ℕ). Separates at gap u between) there h.separated)
          (subst (λ (u : List ℕ). Piece single r.piece u r.taken r.escapes) f.whole t.is)
          (subst (MayStand single at s.escaped between) there (may_stand single at between s h.state p))
          f.inside;
      separated = f.separated;
    }

place_on : (gap piece source further : List ℕ) (behind h after last : Here) → h ≡ over gap behind → after ≡ over piece h
    → last ≡ over (source ++ further) after → last ≡ over ((gap ++ (piece ++ source)) ++ further) behind
place_on gap piece source further behind h after last e f g =
    g ∙ ap (over (source ++ further)) (f ∙ ap (over piece) e)
    ∙ sym (ap (λ (u : List ℕ). over u behind) (append_assoc gap (piece ++ source) further
    ∙ ap (λ (u : List ℕ). gap ++ u) (append_assoc piece source further))
    ∙ over-append gap (piece ++ (source ++ further)) behind ∙ over-append piece (source ++ further) (over gap behind))

value_on : (b c taken text w value z : List ℕ) → b ≡ c → text ++ w ≡ value ++ z
    → ((b ++ taken) ++ text) ++ w ≡ (c ++ (taken ++ value)) ++ z
value_on b c taken text w value z e f =
    append_assoc (b ++ taken) text w ∙ ap (λ (u : List ℕ). (b ++ taken) ++ u) f ∙ append_assoc b taken (value ++ z)
    ∙ ap (λ (u : List ℕ). u ++ (taken ++ (value ++ z))) e
    ∙ ap (λ (u : List ℕ). c ++ u) (sym (append_assoc taken value z)) ∙ sym (append_assoc c (taken ++ value) z)

takes : (single : Bool) (at : LayoutData) (start : Mark) (s : QuotedState) (r : PieceRead) → Taken single s.here r
    → Placed single at s → (given : Result (List ℕ × QuotedState) Fault)
    → QuotedReads single at start (quoted_at r.escapes r.after) given
    → QuotedReads single at start s (with_front (between_quoted s ++ r.taken) given)
takes single at start s r t p (Ok (text, last)) reads = λ gap x behind h.
    let q = reads [] (Blanks []) r.after (quoted_fresh at r.escapes r.after) in
    record {
      source = gap ++ (r.piece ++ q.source);
      value = between_text s.escaped x ++ (r.taken ++ q.value);
      gap = q.gap;
      x = q.x;
      finds = inside_on single at s r t p gap x behind h (up_to_quote q.source q.value q.gap q.x last) q.finds;
      place = place_on gap r.piece q.source q.gap behind s.here r.after last.here h.here t.lands q.place;
      closing = q.closing;
      placed = q.placed;
      value_is = value_on (between_quoted s) (between_text s.escaped x) r.taken text (between_quoted last) q.value
          (between_text last.escaped q.x) (between_is x s h.state) q.value_is;
    }
takes single at start s r t p (Err f) reads = λ gap x behind h.
    let q = reads [] (Blanks []) r.after (quoted_fresh at r.escapes r.after) in
    record {
      form = piece_in_front s.escaped gap x r q.form;
      place = q.place;
      finds = inside_on single at s r t p gap x behind h q.form q.finds;
      place_is = place_on gap r.piece q.form.source q.form.gap behind s.here r.after q.place h.here t.lands
          q.place_is;
      wrong = q.wrong;
    }

-- ---- what is wrong here

found : (single : Bool) (at : LayoutData) (s : QuotedState) (gap : List ℕ) (x : Between) (behind : Here)
    → QuotedStays at gap x behind s → QuotedFinds single at s.escaped behind (up_to_quote [] [] gap x s)
found single at s gap x behind h = record { whole = h.text; inside = nothing; separated = h.separated }

wrong_at : (single : Bool) (at : LayoutData) (start : Mark) (s : QuotedState) (f : Fault)
    → ((x : Between) → StateIs x s → WrongInside single at start s.escaped x s.here.unread.text s.here f.kind f.mark)
    → QuotedReads single at start s (Err f)
wrong_at single at start s f w = λ gap x behind h. record {
  form = up_to_quote [] [] gap x s;
  place = s.here;
  finds = found single at s gap x behind h;
  place_is = h.here;
  wrong = w x h.state;
}

no_line : (line test : Bool) → (line && test) ≡ true → line ≡ false → ⊥
no_line true test e y = cc
no_line false test e y = cc

wrong_tab : (single : Bool) (at : LayoutData) (start : Mark) (s : QuotedState) → tab_meets at s ≡ true → (x : Between)
    → StateIs x s → WrongInside single at start s.escaped x s.here.unread.text s.here TabInIndentation (mark_of s.here)
wrong_tab single at start s y (Blanks blanks) k =
    absurd (no_line s.on_new_line (next_char s.here == 0x09 && is_tab_left at s.here.place.column) y k.1)
wrong_tab single at start s y (Lines empty column) k =
    let p = and_parts (next_char s.here == 0x09) (is_tab_left at s.here.place.column)
    (and_parts s.on_new_line (next_char s.here == 0x09 && is_tab_left at s.here.place.column) y).1 in
    let is : next_char s.here ≡ 0x09 = let a = p.0 in grind (arith, nat_tests) in
    tab is (ap (is_tab_left at) (sym k.2) ∙ p.1)

strict_parts : (at : LayoutData) (escaped : Bool) (column : ℕ) → is_strictly_left at escaped column ≡ true
    → (at.strict ≡ true) × ((at.in_flow || escaped) ≡ true) × (is_left at.block_column column ≡ true)
unfolding is_strictly_left
strict_parts at escaped column y =
    let p = and_parts (at.strict && (at.in_flow || escaped)) (is_left at.block_column column) y in
    let q = and_parts at.strict (at.in_flow || escaped) p.0 in
    (q.0, q.1, p.1)

neither : (a b : Bool) → not (a || b) ≡ true → (a ≡ false) × (b ≡ false)
neither true b e = absurd cc
neither false true e = absurd cc
neither false false e = (refl, refl)

loose_parts : (at : LayoutData) (escaped closing : Bool) (column : ℕ) → is_loosely_left at escaped closing column ≡ true
    → (at.in_flow ≡ false) × (escaped ≡ false) × (is_left at.block_column column ≡ true)
    × ((at.strict || not closing) ≡ true)
unfolding is_loosely_left
loose_parts at escaped closing column y =
    let p = and_parts (not (at.in_flow || escaped) && (at.strict || not closing)) (is_left at.block_column column) y in
    let q = and_parts (not (at.in_flow || escaped)) (at.strict || not closing) p.0 in
    let n = neither at.in_flow escaped q.0 in
    (n.0, n.1, p.1, q.1)

wrong_strict : (single : Bool) (at : LayoutData) (start : Mark) (s : QuotedState) → is_gap (next_char s.here) ≡ false
    → strict_meets at s ≡ true → (x : Between) → StateIs x s
    → WrongInside single at start s.escaped x s.here.unread.text s.here InvalidIndentation (mark_of s.here)
wrong_strict single at start s n y (Blanks blanks) k =
    absurd (no_line s.on_new_line (is_strictly_left at s.escaped s.here.place.column) y k.1)
wrong_strict single at start s n y (Lines empty column) k =
    let p = strict_parts at s.escaped column (ap (is_strictly_left at s.escaped) (sym k.2)
    ∙ (and_parts s.on_new_line (is_strictly_left at s.escaped s.here.place.column) y).1) in
    strict n p.0 p.1 p.2

wrong_loose : (single : Bool) (at : LayoutData) (start : Mark) (s : QuotedState) → is_gap (next_char s.here) ≡ false
    → loose_meets single at s ≡ true → (x : Between) → StateIs x s
    → WrongInside single at start s.escaped x s.here.unread.text s.here InvalidQuotedScalarIndent (mark_of s.here)
wrong_loose single at start s n y (Blanks blanks) k = absurd
    (no_line s.on_new_line (is_loosely_left at s.escaped
    (is_closing single s.here.unread.text) s.here.place.column) y k.1)
wrong_loose single at start s n y (Lines empty column) k =
    let c = is_closing single s.here.unread.text in
    let p = loose_parts at s.escaped c column (ap (is_loosely_left at s.escaped c) (sym k.2)
    ∙ (and_parts s.on_new_line (is_loosely_left at s.escaped c s.here.place.column) y).1) in
    loose n p.0 p.1 p.2 p.3

wrong_mark : (single : Bool) (at : LayoutData) (start : Mark) (s : QuotedState) → strict_meets at s ≡ false
    → loose_meets single at s ≡ false → mark_meets s ≡ true → (x : Between) → StateIs x s
    → WrongInside single at start s.escaped x s.here.unread.text s.here DocumentIndicatorInQuotedScalar start
wrong_mark single at start s n l y (Blanks blanks) k =
    absurd (no_line s.on_new_line (s.here.place.column == 0 && is_document_mark s.here.unread.text) y k.1)
wrong_mark single at start s n l y (Lines empty column) k =
    let p = and_parts (s.here.place.column == 0) (is_document_mark s.here.unread.text)
    (and_parts s.on_new_line (s.here.place.column == 0 && is_document_mark s.here.unread.text) y).1 in
    let none : s.here.place.column ≡ 0 = let a = p.0 in grind (arith, nat_tests) in
    subst (λ n. WrongInside single at start s.escaped
    (Lines empty n) s.here.unread.text s.here DocumentIndicatorInQuotedScalar start) (sym none ∙ k.2)
    (mark (not_misplaced single at s 0 k.1 none n l) p.1)

wrong_end : (single : Bool) (at : LayoutData) (start : Mark) (s : QuotedState) → Placed single at s
    → (text_len s.here == 0) ≡ true → (x : Between) → StateIs x s
    → WrongInside single at start s.escaped x s.here.unread.text s.here UnclosedQuotedScalar start
wrong_end single at start s p y x k =
    let none = nil_from_length s.here.unread.text (eqb-true (length s.here.unread.text) 0 y) in
    subst (λ (t : List ℕ). WrongInside single at start s.escaped x t s.here UnclosedQuotedScalar start) (sym none)
    (end (subst (MayStand single at s.escaped x) none (may_stand single at x s k p)))

wrong_character : (single : Bool) (at : LayoutData) (start : Mark) (s : QuotedState) → Placed single at s
    → (text_len s.here == 0) ≡ false → is_printable (next_char s.here) ≡ false → (x : Between) → StateIs x s
    → WrongInside single at start s.escaped x s.here.unread.text s.here (UnexpectedCharacter (next_char s.here))
    (mark_of s.here)
wrong_character single at start s p n y x k =
    let there = (seen_there s.here n).is in
    subst (λ (t : List ℕ).
    WrongInside single at start s.escaped x t s.here (UnexpectedCharacter (next_char s.here)) (mark_of s.here))
    (sym there) (character (subst (MayStand single at s.escaped x) there (may_stand single at x s k p)) y)

-- ---- content that is taken

second_quote : (c d : ℕ) → c ≡ 0x27 → (c == 0x27 && not (true && d == 0x27)) ≡ false → d ≡ 0x27
second_quote c d e y = grind (arith, nat_tests)

two_seen : (h : Here) → Seen h → (d : ℕ) → slice_index h.unread.text 1 ≡ d → (d ≡ 0 → ⊥)
    → h.unread.text ≡ next_char h ∷ d ∷ (step (step h)).unread.text
two_seen h s d e n = s.is ∙ ap (λ (t : List ℕ). next_char h ∷ t) (there (step h).unread.text refl)
  where
    there : (t : List ℕ) → (step h).unread.text ≡ t → (step h).unread.text ≡ d ∷ (step (step h)).unread.text
    there [] f = absurd (n (sym e ∙ second_of h s ∙ ap first f))
    there (c ∷ t) f = (seen_as (step h) c t f).is ∙ ap (λ k. k ∷ (step (step h)).unread.text) (sym (second_of h s) ∙ e)

abbrev doubled_read : Here → PieceRead
doubled_read h = record { piece = 0x27 ∷ 0x27 ∷ []; taken = 0x27 ∷ []; escapes = false; after = step (step h) }

taken_doubled : (single : Bool) (h : Here) → Seen h → single ≡ true → next_char h ≡ 0x27
    → is_closing single h.unread.text ≡ false → Taken single h (doubled_read h)
taken_doubled single h s y e c =
    let open_one : (next_char h == 0x27
    && not (true && slice_index h.unread.text 1 == 0x27)) ≡ false = ap (λ b. next_char h == quote_char b
    && not (b && slice_index h.unread.text 1 == 0x27)) (sym y) ∙ sym (closing_is single h.unread.text) ∙ c in
    let second = second_quote (next_char h) (slice_index h.unread.text 1) e open_one in
    record {
      text = two_seen h s 0x27 second (λ z. cc) ∙ ap (λ n. n ∷ 0x27 ∷ (step (step h)).unread.text) e;
      is = subst (λ b. Piece b (0x27 ∷ 0x27 ∷ []) (step (step h)).unread.text (0x27 ∷ []) false) (sym y) doubled;
      lands = refl;
    }

literal_of : (single : Bool) (c d : ℕ) → is_gap c ≡ false → is_printable c ≡ true
    → (c == quote_char single && not (single && d == 0x27)) ≡ false → (single && c == 0x27) ≡ false
    → (single || not (c == 0x5C)) ≡ true → is_literal single c ≡ true
unfolding is_literal
literal_of true c d n p q e f =
    ap₂ (λ (a b : Bool). (not a && b) && (not (c == 0x27) && true)) n p ∙ ap (λ b. (true && true) && (not b && true)) e
literal_of false c d n p q e f =
    let none : (c == 0x22) ≡ false = grind (arith, nat_tests) in
    ap₂ (λ (a b : Bool). (not a && b) && (not (c == 0x22) && not (c == 0x5C))) n p
    ∙ ap₂ (λ (a b : Bool). (true && true) && (not a && b)) none f

escape_reads : (single : Bool) (at : LayoutData) (start : Mark) (s : QuotedState) → Placed single at s → Seen s.here
    → single ≡ false → next_char s.here ≡ 0x5C → is_break (slice_index s.here.unread.text 1) ≡ false
    → (r : Result (ℕ × Here) Fault) → ReadsEscape start (step s.here) r
    → Carries (QuotedReads single at start) s (r >>= quoted_piece s)
escape_reads single at start s p there y e b (Ok (c, after)) read =
    takes single at start s
    (record { piece = 0x5C ∷ read.characters; taken = c ∷ []; escapes = false; after = after })
    (record {
      text = there.is ∙ ap₂ (λ n (t : List ℕ). n ∷ t) e read.text;
      is = subst (λ v. Piece v (0x5C ∷ read.characters) after.unread.text (c ∷ []) false) (sym y)
          (escape_piece read.is);
      lands = read.lands;
    }) p
escape_reads single at start s p there y e b (Err f) read =
    let no_break : is_break (first (step s.here).unread.text) ≡ false = ap is_break (sym (second_of s.here there))
    ∙ b in
    let text : s.here.unread.text ≡ 0x5C ∷ (step s.here).unread.text = there.is
    ∙ ap (λ n. n ∷ (step s.here).unread.text) e in
    wrong_at single at start s f (λ x k.
    subst (λ (t : List ℕ). WrongInside single at start s.escaped x t s.here f.kind f.mark) (sym text)
    (subst (λ m. WrongInside single at start s.escaped x (0x5C ∷ (step s.here).unread.text) s.here f.kind m)
    (sym read.0)
    (escape y (subst (MayStand single at s.escaped x) text (may_stand single at x s k p)) no_break read.1)))

content_reads : (single : Bool) (at : LayoutData) (start : Mark) (s : QuotedState) → Placed single at s
    → (text_len s.here == 0) ≡ false → is_printable (next_char s.here) ≡ true
    → is_closing single s.here.unread.text ≡ false
    → (r : Result (Option (List ℕ) × QuotedState) Fault) → ContentTurned single start s r
    → Carries (QuotedReads single at start) s r
content_reads single at start s p n pr c r (at_a_doubled y e) =
    takes single at start s (doubled_read s.here)
    (taken_doubled single s.here (seen_there s.here n) y e c) p
content_reads single at start s p n pr c r (at_itself y z) =
    let there = seen_there s.here n in
    let open_one : (next_char s.here == quote_char single
    && not (single && slice_index s.here.unread.text 1 == 0x27)) ≡ false = sym (closing_is single s.here.unread.text)
    ∙ c in
    takes single at start s (record {
      piece = next_char s.here ∷ [];
      taken = next_char s.here ∷ [];
      escapes = false;
      after = step s.here;
    })
    (record {
      text = there.is;
      is = itself (literal_of single (next_char s.here)
          (slice_index s.here.unread.text 1) p.no_gap pr open_one y z);
      lands = refl;
    }) p
content_reads single at start s p n pr c r (at_escaped_break y e b) =
    let there = seen_there s.here n in
    let next_break : is_break (first (step s.here).unread.text) ≡ true = ap is_break (sym (second_of s.here there))
    ∙ b in
    let r : PieceRead = record { piece = 0x5C ∷ []; taken = []; escapes = true; after = step s.here } in
    let t : Taken single s.here r = record {
      text = there.is ∙ ap (λ k. k ∷ (step s.here).unread.text) e;
      is = subst (λ v. Piece v (0x5C ∷ []) (step s.here).unread.text [] true) (sym y) (before_break next_break);
      lands = refl;
    } in
    λ given reads. subst (λ (f : List ℕ). QuotedReads single at start s (with_front f given))
    (append-nil (between_quoted s)) (takes single at start s r t p given reads)
content_reads single at start s p n pr c r (at_an_escape y e b) =
    escape_reads single at start s p (seen_there s.here n) y e b (escape_or start (step s.here))
    (reads_escape start (step s.here))

-- ---- every turn

stopped : (single : Bool) (at : LayoutData) (start : Mark) (s : QuotedState) → Placed single at s
    → is_closing single s.here.unread.text ≡ true → QuotedReads single at start s (Ok ([], s))
stopped single at start s p c = λ gap x behind h. record {
  source = [];
  value = [];
  gap = gap;
  x = x;
  finds = found single at s gap x behind h;
  place = h.here;
  closing = c;
  placed = may_stand single at x s h.state p;
  value_is = between_is x s h.state;
}

reads_turn : (single : Bool) (at : LayoutData) (start : Mark) (s : QuotedState) (r : Result (Option (List ℕ)
    × QuotedState) Fault) → QuotedTurned single at start s r → Carries (QuotedReads single at start) s r
reads_turn single at start s r (past_a_blank y t) =
    lengthens single at start s (over_blank s) (λ gap x behind h. quoted_blank at gap x behind s y t h)
reads_turn single at start s r (at_a_tab y) =
    wrong_at single at start s (fault_at TabInIndentation (mark_of s.here)) (wrong_tab single at start s y)
reads_turn single at start s r (past_a_break y) =
    lengthens single at start s (over_break s) (λ gap x behind h. quoted_break at gap x behind s y h)
reads_turn single at start s r (at_strict n y) =
    wrong_at single at start s (fault_at InvalidIndentation (mark_of s.here)) (wrong_strict single at start s n y)
reads_turn single at start s r (at_loose n y) =
    wrong_at single at start s (fault_at InvalidQuotedScalarIndent (mark_of s.here)) (wrong_loose single at start s n y)
reads_turn single at start s r (at_a_mark n m y) =
    wrong_at single at start s (fault_at DocumentIndicatorInQuotedScalar start) (wrong_mark single at start s n m y)
reads_turn single at start s r (at_the_end p y) =
    wrong_at single at start s (fault_at UnclosedQuotedScalar start) (wrong_end single at start s p y)
reads_turn single at start s r (at_a_character p n y) =
    wrong_at single at start s (fault_at (UnexpectedCharacter (next_char s.here)) (mark_of s.here))
    (wrong_character single at start s p n y)
reads_turn single at start s r (at_the_quote p y) = stopped single at start s p y
reads_turn single at start s r (in_content p n pr c) =
    content_reads single at start s p n pr c (quoted_content single start s) (content_turned single start s)

pub quoted_reads : (single : Bool) (at : LayoutData) (start : Mark) (s : QuotedState)
    → QuotedReads single at start s (pieces quoted_len (quoted_turn single at start) s)
quoted_reads single at start s = pieces_hold (QuotedReads single at start) quoted_len (quoted_turn single at start)
    (quoted_shortens single at start) (λ t. reads_turn single at start t (quoted_turn single at start t)
    (quoted_turned single at start t)) s
