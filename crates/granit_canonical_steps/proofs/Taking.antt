-- One read of a lexeme of canonical text, by what stands at its place.
use Rattle.std.proofs.Common.{Bool, List, Option, [], ap, arith, drop, false, subst, sym, true, ℕ, ◌==◌, ◌||◌, ◌∙◌, ◌∷◌}
use Rattle.std.proofs.Common.{◌≡◌}
use Rattle.std.proofs.lemmas.Bool.Decides.{nat_tests}
use Rattle.std.specs.Prelude.{None}
use Rattle.granit_base.specs.Classes.{is_blank, is_break, is_gap, is_printable}
use Rattle.granit_base.specs.Place.{first}
use Rattle.granit_canonical_steps.proofs.Calm.{Calm, calm_fresh, calm_gap, cut_fits, gap_opener, none_overdue, tabs_fit}
use Rattle.granit_canonical_steps.proofs.Places.{Before, Held, Parts, Starts, fed, gap_stops, gap_to, past_all}
use Rattle.granit_canonical_steps.specs.Canonical.{spot, stretch}
use Rattle.granit_error.specs.OptionsData.{OptionsData}
use Rattle.granit_language.specs.Allowed.{MayPrefix}
use Rattle.granit_language.specs.Before.{freshened}
use Rattle.granit_language.specs.Begins.{Begins, SignBegins, ThreeStand, sign}
use Rattle.granit_language.specs.Reached.{BeginsAt, GivenAt, Reads, of_lexeme}
use Rattle.granit_language.specs.Standing.{in_front_of_lexeme}
use Rattle.granit_lexemes.specs.Here.{Here, mark_of}
use Rattle.granit_lexemes.specs.Lexeme.{KeyStart, Lexeme, LexemeKind, OfLexeme}
use Rattle.granit_lexemes.specs.PlainExtent.{over}
use Rattle.granit_lexemes.specs.declared.layout.Bracket.{Bracket}
use Rattle.granit_machine.specs.Gaps.{behind_gap}
use Rattle.granit_machine.specs.Laid.{is_adjacent, is_in_flow, is_nonempty, is_opener}
use Rattle.granit_machine.specs.LexemeSort.{LexemeSort, Placed, PlacedSort}
use Rattle.granit_machine.specs.ReaderState.{ReaderState}

-- what stands behind a node: in brackets a `,`, a `:` or a closer, perhaps behind a space; else the line's end
abbrev pub is_mark : ℕ → Bool
is_mark c = (c == 0x2C || c == 0x3A) || (c == 0x5D || c == 0x7D)

pub data Follows : List Bracket → (g rest : List ℕ) → Type 0 where
  in_brackets : {b : Bracket} {bs : List Bracket} {c : ℕ} {g rest : List ℕ} → Parts g → is_mark c ≡ true
      → Follows (b ∷ bs) g (c ∷ rest)
  at_line : {rest : List ℕ} → Starts rest → Follows [] (0x0A ∷ []) rest

abbrev pub follows_parts : {bs : List Bracket} {g rest : List ℕ} → Follows bs g rest → Parts g
follows_parts (in_brackets p e) = p
follows_parts (at_line s) = fed

pub mark_starts : (c : ℕ) (rest : List ℕ) → is_mark c ≡ true → Starts (c ∷ rest)
unfolding is_gap is_blank is_break
mark_starts c rest e = record {
  no_gap = grind (arith, nat_tests);
  no_comment = grind (arith, nat_tests);
  no_mark = λ f. let g : is_mark 0xFEFF ≡ true = ap is_mark (sym f) ∙ e in cc;
}

pub follows_starts : {bs : List Bracket} {g rest : List ℕ} → Follows bs g rest → Starts rest
follows_starts (in_brackets {c = c} {rest = rest} p e) = mark_starts c rest e
follows_starts (at_line s) = s

-- a lexeme that stands at a place, and what its read gives there
pub record Taken (o : OptionsData) (x : List ℕ) (bs : List Bracket) (sort : LexemeSort) (kind : LexemeKind)
    (from to rest : List ℕ) (v : Bool) (s : ReaderState) : Type 0 where
  pub lexeme : Lexeme
  pub behind : ReaderState
  pub begins : BeginsAt s sort
  pub given : GivenAt o sort s (OfLexeme lexeme ∷ []) behind
  pub kind_is : lexeme.kind ≡ kind
  pub key_is : lexeme.key ≡ None
  pub tail_is : lexeme.tail ≡ None
  pub indent_is : lexeme.indent ≡ None
  pub start_is : lexeme.start ≡ spot x from
  pub shown_is : lexeme.shown ≡ stretch x from to
  pub before : Before x rest behind.here
  pub passed : (i : ℕ) × (drop i x ≡ to)
  pub calm : Calm bs behind.laid
  pub opener : is_opener behind.laid.last ≡ v

-- a lexeme of a kind that is read, with this simple key and no comment behind it
pub record LexemeRead (o : OptionsData) (kind : LexemeKind) (key : Option KeyStart) (s : ReaderState) : Type 0 where
  pub lexeme : Lexeme
  pub after : ReaderState
  pub reads : Reads o s (OfLexeme lexeme ∷ []) after
  pub kind_is : lexeme.kind ≡ kind
  pub key_is : lexeme.key ≡ key
  pub tail_is : lexeme.tail ≡ None

-- one read of it, with the gap before it
pub record OneRead (o : OptionsData) (x : List ℕ) (bs : List Bracket) (kind : LexemeKind) (from to rest : List ℕ)
    (v : Bool) (s : ReaderState) : Type 0 where
  pub read : LexemeRead o kind None s
  pub open read use *
  pub indent_is : lexeme.indent ≡ None
  pub start_is : lexeme.start ≡ spot x from
  pub shown_is : lexeme.shown ≡ stretch x from to
  pub before : Before x rest after.here
  pub passed : (i : ℕ) × (drop i x ≡ to)
  pub calm : Calm bs after.laid
  pub opener : is_opener after.laid.last ≡ v

pub passed_at : (x rest : List ℕ) (h : Here) → Held x h → h.unread.text ≡ rest → (i : ℕ) × (drop i x ≡ rest)
passed_at x rest h held e = (held.index, sym held.counted.text ∙ e)

module _ (o : OptionsData) (x : List ℕ) where
  -- where a lexeme stands is known of each place that can be reached so
  abbrev pub Stood : (bs ds : List Bracket) → LexemeSort → LexemeKind → (from to rest : List ℕ) → Bool → ReaderState
      → Type 0
  Stood bs ds sort kind from to rest v s =
      (t : ReaderState) → Held x t.here → t.here.unread.text ≡ from → Calm bs t.laid
      → is_opener t.laid.last ≡ is_opener s.laid.last → Taken o x ds sort kind from to rest v t

  pub reads_one : (bs ds : List Bracket) (sort : LexemeSort) (kind : LexemeKind) (from to rest : List ℕ) (v : Bool)
      (s : ReaderState) → Before x from s.here → Calm bs s.laid → Starts from
      → Stood bs ds sort kind from to rest v s → OneRead o x ds kind from to rest v s
  reads_one bs ds sort kind from to rest v s b c st f =
      let h = over b.gap s.here in
      let p = past_all x b.gap from s.here b.text b.held in
      let at : ReaderState = record { here = h; laid = behind_gap (is_nonempty b.gap) s.laid } in
      let calm = calm_gap (is_nonempty b.gap) bs s.laid c in
      let t = freshened o at in
      let k = f t p.held p.text (calm_fresh o (mark_of h) bs at.laid calm)
      (gap_opener (is_nonempty b.gap) s.laid.last) in
      record {
        read = record {
          lexeme = k.lexeme;
          after = freshened o k.behind;
          reads = of_lexeme at k.behind sort
              (record {
                gap = in_front_of_lexeme h (record {
                  gap = b.gap;
                  over = gap_to (MayPrefix s.laid) b.gap from s.here b.text b.is_gap;
                  stops = gap_stops (MayPrefix s.laid) from h p.text st;
                })
                    (ap (λ (l : List ℕ). first l == 0x23) p.text ∙ st.no_comment) (tabs_fit o bs s.laid h c)
                    (cut_fits bs s.laid h c);
                keys = none_overdue o bs at calm;
                begins = k.begins;
              })
              k.given (none_overdue o ds k.behind k.calm);
          kind_is = k.kind_is;
          key_is = k.key_is;
          tail_is = k.tail_is;
        };
        indent_is = k.indent_is;
        start_is = k.start_is;
        shown_is = k.shown_is;
        before = k.before;
        passed = k.passed;
        calm = calm_fresh o (mark_of k.behind.here) ds k.behind.laid k.calm;
        opener = k.opener;
      }

-- ---- which lexeme begins there

no_three : (d c column : ℕ) (text : List ℕ) → (c == d) ≡ false → ThreeStand d column (c ∷ text) → ⊥
no_three d c column text e s = let same : c ≡ d = cons_same (s.2) in differ (ap (λ n. c == n) same) e
  where
    cons_same : {ds : List ℕ} → c ∷ text ≡ d ∷ ds → c ≡ d
    cons_same e = cc

    differ : (c == c) ≡ (c == d) → (c == d) ≡ false → ⊥
    differ p q = let y : (c == c) ≡ false = p ∙ q in grind (arith, nat_tests)

pub begins_with : (flow adjacent : Bool) (column c : ℕ) (text : List ℕ) (sort : PlacedSort) → (c == 0x2D) ≡ false
    → (c == 0x2E) ≡ false → (c == 0x25) ≡ false → is_printable c ≡ true → SignBegins flow adjacent (first text) c sort
    → Begins flow adjacent column (c ∷ text) (Placed sort)
begins_with flow adjacent column c text sort d e f p s =
    sign (no_three 0x2D c column text d, no_three 0x2E c column text e) p (λ z q. no_percent q) s
  where
    no_percent : c ≡ 0x25 → ⊥
    no_percent q = let y : (0x25 == 0x25) ≡ false = sym (ap (λ n. n == 0x25) q) ∙ f in cc

pub begins_text : (s : ReaderState) (text : List ℕ) (sort : LexemeSort) → s.here.unread.text ≡ text
    → Begins (is_in_flow s.laid) (is_adjacent s.laid.last) s.here.place.column text sort → BeginsAt s sort
begins_text s text sort e b =
    subst (λ (l : List ℕ). Begins (is_in_flow s.laid) (is_adjacent s.laid.last) s.here.place.column l sort) (sym e) b
