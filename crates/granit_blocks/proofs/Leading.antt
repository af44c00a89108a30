-- Empty lines, and the column of content, as the plain function finds them.
use Rattle.std.proofs.Common.{◌≡◌, ℕ, zero, suc, ◌<◌, ◌≤◌, max, Bool, true, false, List, [], ◌∷◌, Option, Some, None}
use Rattle.std.proofs.Common.{Result, Ok, Err, refl, sym, ap, ◌∙◌, subst, arith}
use Rattle.std.specs.Prelude.{if◌then◌else◌}
use Rattle.granit_base.specs.Classes.{is_break}
use Rattle.granit_lexemes.specs.Here.{Here, text_len, next_char, past}
use Rattle.granit_lexemes.specs.Outcome.{Fault, ◌>>=◌}
use Rattle.granit_lexemes.specs.Pieces.{with_front, pieces, Shortens}
use Rattle.granit_lexemes.specs.Basics.{past_break}
use Rattle.granit_lexemes.proofs.PieceLemmas.{pieces_done, pieces_more}
pub use Rattle.granit_quoted_laws.proofs.QuotedReads.{Carries, pieces_hold}
use Rattle.granit_lexemes.specs.BlockHeader.{is_space, leading_turn, greatest, margin_of, content_column}
use Rattle.granit_lexemes.specs.BlockScalar.{indented, empty_turn, empty_lines}
use Rattle.granit_lexemes.specs.BlockMoves.{Breaks, AllSpaces, Spaces}
use Rattle.granit_lexemes.specs.BlockValue.{line_feeds}
use Rattle.granit_lexemes.specs.LinesExtent.{Leading, other_line, spaces_alone, ContentColumn, told_column}
use Rattle.granit_lexemes.specs.LinesExtent.{found_column, Empties, no_empty_line, empty_line}
use Rattle.granit_blocks.proofs.Moving.{all_spaces, all_spaces_is, all_spaces_len, spaces, spaces_is, spaces_len}
use Rattle.granit_blocks.proofs.Moving.{breaks_of, breaks_is, breaks_first, break_shorter}

-- each further turn leaves less
abbrev pub Lessens : {A : Type 0} → ℕ → Result (Option (List A) × Here) Fault → Type 0
Lessens n (Ok (Some piece, after)) = text_len after < n
Lessens n (Ok (None, after)) = Unit {0}
Lessens n (Err f) = Unit {0}

lessens_shortens : {A : Type 0} (turn : Here → Result (Option (List A) × Here) Fault)
    → ((h : Here) → Lessens (text_len h) (turn h)) → Shortens text_len turn
lessens_shortens turn less h after piece e = subst (Lessens (text_len h)) e (less h)

-- ---- empty lines

abbrev empty_on : Here → Bool → Result (Option (List ℕ) × Here) Fault
empty_on g b = if b then Ok (Some (0x0A ∷ []), past_break g) else Ok (None, g)

empty_turn_is : (column : ℕ) (h : Here) → empty_turn column h
    ≡ empty_on (indented column h) (is_break (next_char (indented column h)))
unfolding empty_turn
empty_turn_is column h = refl

empty_less : (n : ℕ) (g : Here) → text_len g ≤ n → (b : Bool) → is_break (next_char g) ≡ b → Lessens n (empty_on g b)
empty_less n g le true y = let s = break_shorter g y in omega arith
empty_less n g le false y = tt

pub empty_shortens : (column : ℕ) → Shortens text_len (empty_turn column)
empty_shortens column = lessens_shortens (empty_turn column) (λ h.
    subst (Lessens (text_len h)) (sym (empty_turn_is column h))
    (empty_less (text_len h) (indented column h) (spaces_len (spaces column h))
    (is_break (next_char (indented column h))) refl))

abbrev pub EmptyReads : ℕ → Here → Result (List ℕ × Here) Fault → Type 0
EmptyReads column h (Ok (empty, after)) = (k : ℕ) × (empty ≡ line_feeds k) × Empties column h after k
EmptyReads column h (Err f) = ⊥

empty_more : (column : ℕ) (h g i : Here) → Spaces column h g → Breaks g i → (given : Result (List ℕ × Here) Fault)
    → EmptyReads column i given → EmptyReads column h (with_front (0x0A ∷ []) given)
empty_more column h g i s b (Ok (empty, after)) r = (suc r.0, ap (λ (l : List ℕ). 0x0A ∷ l) r.1, empty_line s b r.2)
empty_more column h g i s b (Err f) r = absurd r

empty_carries : (column : ℕ) (h g : Here) → Spaces column h g → (b : Bool) → is_break (next_char g) ≡ b
    → Carries (EmptyReads column) h (empty_on g b)
empty_carries column h g s true y = empty_more column h g (past_break g) s (breaks_of g y)
empty_carries column h g s false y = (zero, refl, no_empty_line s y)

pub empty_reads : (column : ℕ) (h : Here) → EmptyReads column h (empty_lines column h)
empty_reads column h = pieces_hold (EmptyReads column) text_len (empty_turn column) (empty_shortens column) (λ g.
    subst (Carries (EmptyReads column) g) (sym (empty_turn_is column g))
    (empty_carries column g (indented column g) (spaces column g) (is_break (next_char (indented column g))) refl))
    h

empty_turn_at : (column : ℕ) (h g : Here) (b : Bool) → Spaces column h g → is_break (next_char g) ≡ b
    → empty_turn column h ≡ empty_on g b
empty_turn_at column h g b s y = empty_turn_is column h
    ∙ ap (λ (i : Here). empty_on i (is_break (next_char i))) (spaces_is column s) ∙ ap (empty_on g) y

pub empties_are : {column : ℕ} {h after : Here} {k : ℕ} → Empties column h after k
    → empty_lines column h ≡ Ok (line_feeds k, after)
empties_are {column} {h} {after} (no_empty_line s n) = pieces_done text_len (empty_turn column) h after
    (empty_turn_at column h after false s n)
empties_are {column} {h} (empty_line {g = g} {i = i} s b more) =
    pieces_more text_len (empty_turn column) (empty_shortens column) h i (0x0A ∷ [])
    (empty_turn_at column h g true s (breaks_first g i b)
    ∙ ap (λ (j : Here). Ok (Some (0x0A ∷ []), j)) (breaks_is g i b))
    ∙ ap (with_front (0x0A ∷ [])) (empties_are more)

-- ---- the content's column

abbrev leading_on : Here → Bool → Result (Option (List ℕ) × Here) Fault
leading_on g b = if b then Ok (Some (g.place.column ∷ []), past_break g) else Ok (None, g)

leading_turn_is : (h : Here) → leading_turn h ≡ leading_on (past is_space h) (is_break (next_char (past is_space h)))
unfolding leading_turn
leading_turn_is h = refl

leading_less : (n : ℕ) (g : Here) → text_len g ≤ n → (b : Bool) → is_break (next_char g) ≡ b
    → Lessens n (leading_on g b)
leading_less n g le true y = let s = break_shorter g y in omega arith
leading_less n g le false y = tt

pub leading_shortens : Shortens text_len leading_turn
leading_shortens = lessens_shortens leading_turn (λ h.
    subst (Lessens (text_len h)) (sym (leading_turn_is h))
    (leading_less (text_len h) (past is_space h) (all_spaces_len (all_spaces h))
    (is_break (next_char (past is_space h))) refl))

abbrev LeadingReads : Here → Result (List ℕ × Here) Fault → Type 0
LeadingReads h (Ok (widths, g)) = Leading h widths g.place.column
LeadingReads h (Err f) = ⊥

leading_more : (h g i : Here) → AllSpaces h g → Breaks g i → (given : Result (List ℕ × Here) Fault)
    → LeadingReads i given → LeadingReads h (with_front (g.place.column ∷ []) given)
leading_more h g i s b (Ok (widths, last)) r = spaces_alone s b r
leading_more h g i s b (Err f) r = absurd r

leading_carries : (h g : Here) → AllSpaces h g → (b : Bool) → is_break (next_char g) ≡ b
    → Carries LeadingReads h (leading_on g b)
leading_carries h g s true y = leading_more h g (past_break g) s (breaks_of g y)
leading_carries h g s false y = other_line s y

leading_reads : (h : Here) → LeadingReads h (pieces text_len leading_turn h)
leading_reads h = pieces_hold LeadingReads text_len leading_turn leading_shortens (λ g.
    subst (Carries LeadingReads g) (sym (leading_turn_is g))
    (leading_carries g (past is_space g) (all_spaces g) (is_break (next_char (past is_space g))) refl)) h

abbrev pub ColumnReads : Option ℕ → Option ℕ → Here → Result ℕ Fault → Type 0
ColumnReads block digit h (Ok column) = ContentColumn block digit h column
ColumnReads block digit h (Err f) = ⊥

column_found : (block : Option ℕ) (h : Here) (given : Result (List ℕ × Here) Fault) → LeadingReads h given
    → ColumnReads block None h (given >>= λ x. Ok (max (margin_of block) (greatest x.0 x.1.place.column)))
column_found block h (Ok (widths, g)) r = found_column r
column_found block h (Err f) r = absurd r

pub column_reads : (block digit : Option ℕ) (h : Here) → ColumnReads block digit h (content_column block digit h)
unfolding content_column
column_reads block (Some d) h = told_column
column_reads block None h = column_found block h (pieces text_len leading_turn h) (leading_reads h)

leading_turn_at : (h g : Here) (b : Bool) → AllSpaces h g → is_break (next_char g) ≡ b → leading_turn h ≡ leading_on g b
leading_turn_at h g b s y = leading_turn_is h
    ∙ ap (λ (i : Here). leading_on i (is_break (next_char i))) (all_spaces_is s) ∙ ap (leading_on g) y

record LeadsTo (h : Here) (widths : List ℕ) (column : ℕ) : Type 0 where
  last : Here
  gives : pieces text_len leading_turn h ≡ Ok (widths, last)
  column_is : last.place.column ≡ column

leads_to : {h : Here} {widths : List ℕ} {column : ℕ} → Leading h widths column → LeadsTo h widths column
leads_to {h} (other_line {g = g} s n) = record {
  last = g;
  gives = pieces_done text_len leading_turn h g
      (leading_turn_at h g false s n);
  column_is = refl;
}
leads_to {h} (spaces_alone {g = g} {i = i} s b more) =
    let r = leads_to more in
    record {
      last = r.last;
      gives = pieces_more text_len leading_turn leading_shortens h i (g.place.column ∷ [])
          (leading_turn_at h g true s (breaks_first g i b)
          ∙ ap (λ (j : Here). Ok (Some (g.place.column ∷ []), j)) (breaks_is g i b))
          ∙ ap (with_front (g.place.column ∷ [])) r.gives;
      column_is = r.column_is;
    }

pub column_is : {block digit : Option ℕ} {h : Here} {column : ℕ} → ContentColumn block digit h column
    → content_column block digit h ≡ Ok column
unfolding content_column
column_is told_column = refl
column_is {block} (found_column {widths = widths} l) =
    let r = leads_to l in
    ap (λ (x : Result (List ℕ × Here) Fault). x >>= λ y. Ok (max (margin_of block) (greatest y.0 y.1.place.column)))
    r.gives
    ∙ ap (λ (c : ℕ). Ok (max (margin_of block) (greatest widths c))) r.column_is
