-- How the code goes over spaces, empty lines and leading lines.
use Rattle.std.proofs.Common.{◌≡◌, ℕ, zero, suc, ◌<◌, ◌≤◌, max, ◌+◌, ◌==◌, Bool, true, false, List, [], ◌∷◌, ◌++◌}
use Rattle.std.proofs.Common.{length, Option, Some, None, Result, Ok, Err, refl, sym, ap, ap₂, ◌∙◌, subst, append_assoc}
use Rattle.std.proofs.Common.{arith}
use Rattle.std.specs.Prelude.{if◌then◌else◌}
use Rattle.std.proofs.lemmas.List.{append-nil, length-append}
use Rattle.granit_base.specs.Classes.{is_break}
use Rattle.granit_lexemes.specs.Basics.{past_break}
use Rattle.granit_lexemes.specs.BlockHeader.{is_space, leading_turn, greatest, margin_of, outer_of, content_column}
use Rattle.granit_lexemes.specs.BlockMoves.{AllSpaces, no_space, space, Spaces, at_column, no_space_left, space_left}
use Rattle.granit_lexemes.specs.BlockScalar.{indented, empty_turn, empty_lines}
use Rattle.granit_lexemes.specs.BlockValue.{line_feeds}
use Rattle.granit_lexemes.specs.Here.{Here, text_len, next_char, step, past}
use Rattle.granit_lexemes.specs.LinesExtent.{Empties, no_empty_line, empty_line}
use Rattle.granit_lexemes.specs.Outcome.{Fault, ◌>>=◌}
use Rattle.granit_lexemes.specs.Pieces.{with_front, pieces}
use Rattle.granit_lexemes.proofs.HereLemmas.{past_goes, past_stops}
use Rattle.granit_lexemes.proofs.PieceLemmas.{with_front-nil, loop_more, loop_done}
use Rattle.granit_scalars.proofs.Turning.{Carries, pieces_hold}
use Rattle.granit_blocks.proofs.Leading.{empty_shortens, leading_shortens, EmptyReads, empty_reads, empties_are}
use Rattle.granit_blocks.proofs.Moving.{spaces, spaces_is, space_moves, all_spaces, breaks_of}
use Rattle.granit_cursor.proofs.GivenLemmas.{same_ok}
use Rattle.granit_block.specs.BlockCode.{empty_whole}

-- ---- spaces

pub over_space : (h : Here) → next_char h ≡ 0x20 → past is_space (step h) ≡ past is_space h
over_space h y = past_goes is_space h refl (ap is_space y)

pub no_more_spaces : (h : Here) → (next_char h == 0x20) ≡ false → past is_space h ≡ h
no_more_spaces h n = past_stops is_space h n

pub indent_goes : (column : ℕ) (h : Here) → h.place.column < column → next_char h ≡ 0x20
    → indented column (step h) ≡ indented column h
indent_goes column h p y = sym (spaces_is column (space_left p (ap is_space y) (spaces column (step h))))

pub indent_stops : (column : ℕ) (h : Here) → column ≤ h.place.column → indented column h ≡ h
indent_stops column h p = spaces_is column (at_column p)

pub indent_ends : (column : ℕ) (h : Here) → (next_char h == 0x20) ≡ false → indented column h ≡ h
indent_ends column h n = spaces_is column (no_space_left n)

-- ---- empty lines

empty_turn_on : (column : ℕ) (h : Here) (b : Bool) → is_break (next_char (indented column h)) ≡ b
    → empty_turn column h ≡ (if b then Ok (Some (0x0A ∷ []), past_break (indented column h)) else Ok
    (None, indented column h))
unfolding empty_turn
empty_turn_on column h b e = ap (λ (v : Bool). if v then Ok (Some (0x0A ∷ []), past_break (indented column h)) else Ok
    (None, indented column h)) e

pub empty_more : (column : ℕ) (old new : List ℕ) (h : Here) → is_break (next_char (indented column h)) ≡ true
    → new ≡ old ++ 0x0A ∷ []
    → empty_whole column new (past_break (indented column h)) ≡ empty_whole column old h
empty_more column old new h y grown =
    loop_more text_len (empty_turn column) (empty_shortens column) old new h (past_break (indented column h))
    (0x0A ∷ []) (empty_whole column old h) refl (empty_turn_on column h true y) grown

pub empty_done : (column : ℕ) (old : List ℕ) (h : Here) → is_break (next_char (indented column h)) ≡ false
    → empty_whole column old h ≡ Ok (old, indented column h)
empty_done column old h n = loop_done text_len (empty_turn column) old h (indented column h) (empty_whole column old h)
    refl (empty_turn_on column h false n)

-- ---- leading lines

leading_turn_on : (h : Here) (b : Bool) → is_break (next_char (past is_space h)) ≡ b
    → leading_turn h ≡ (if b then Ok (Some ((past is_space h).place.column ∷ []), past_break (past is_space h)) else Ok
    (None, past is_space h))
unfolding leading_turn
leading_turn_on h b e = ap (λ (v : Bool). if v then Ok
    (Some ((past is_space h).place.column ∷ []), past_break (past is_space h)) else Ok (None, past is_space h)) e

pub leading_line : (h : Here) → is_break (next_char (past is_space h)) ≡ true
    → leading_turn h ≡ Ok (Some ((past is_space h).place.column ∷ []), past_break (past is_space h))
leading_line h y = leading_turn_on h true y

pub no_leading_line : (h : Here) → is_break (next_char (past is_space h)) ≡ false
    → leading_turn h ≡ Ok (None, past is_space h)
no_leading_line h n = leading_turn_on h false n

-- the greatest of some widths and another, by their own greatest
pub greatest_split : (widths : List ℕ) (n : ℕ) → greatest widths n ≡ max (greatest widths 0) n
greatest_split [] n = omega arith
greatest_split (w ∷ ws) n = let e = greatest_split ws n in omega (arith, e)

pub greatest_more : (widths : List ℕ) (w n : ℕ) → greatest (widths ++ w ∷ []) n ≡ greatest widths (max w n)
greatest_more [] w n = refl
greatest_more (v ∷ vs) w n = ap (max v) (greatest_more vs w n)

pub feeds_more : (n : ℕ) → line_feeds n ++ 0x0A ∷ [] ≡ line_feeds (suc n)
feeds_more zero = refl
feeds_more (suc n) = ap (λ (l : List ℕ). 0x0A ∷ l) (feeds_more n)

-- what was read of the leading lines
pub record LeadingSo (old new : List ℕ) (widest : ℕ) (h now : Here) : Type 0 where
  pub widths : List ℕ
  pub whole : with_front widths (pieces text_len leading_turn now) ≡ pieces text_len leading_turn h
  pub widest_is : widest ≡ greatest widths 0
  pub feeds : new ≡ old ++ line_feeds (length widths)

pub leading_begins : (old : List ℕ) (h : Here) → LeadingSo old old 0 h h
leading_begins old h = record {
  widths = [];
  whole = with_front-nil (pieces text_len leading_turn h);
  widest_is = refl;
  feeds = sym (append-nil old);
}

length_more : (widths : List ℕ) (w : ℕ) → length (widths ++ w ∷ []) ≡ suc (length widths)
length_more widths w = omega (arith, length-append widths (w ∷ []))

pub leading_goes : (old new more : List ℕ) (widest width : ℕ) (h now after : Here) → LeadingSo old new widest h now
    → leading_turn now ≡ Ok (Some (width ∷ []), after) → more ≡ new ++ 0x0A ∷ []
    → LeadingSo old more (max widest width) h after
leading_goes old new more widest width h now after s is grown = record {
  widths = s.widths ++ width ∷ [];
  whole = loop_more text_len leading_turn leading_shortens s.widths (s.widths ++ width ∷ []) now after (width ∷ [])
      (pieces text_len leading_turn h) s.whole is refl;
  widest_is = let a = greatest_more s.widths width 0 in let b = greatest_split s.widths (max width 0) in omega
      (arith, a, b, s.widest_is);
  feeds = grown ∙ ap (λ (l : List ℕ). l ++ 0x0A ∷ []) s.feeds
      ∙ append_assoc old (line_feeds (length s.widths)) (0x0A ∷ [])
      ∙ ap (λ (l : List ℕ). old ++ l) (feeds_more (length s.widths) ∙ ap line_feeds (sym (length_more s.widths width)));
}

pub leading_ends : (old new : List ℕ) (widest : ℕ) (h now after : Here) → LeadingSo old new widest h now
    → leading_turn now ≡ Ok (None, after)
    → (widths : List ℕ) × (pieces text_len leading_turn h ≡ Ok (widths, after))
    × (max widest after.place.column ≡ greatest widths after.place.column) × (new ≡ old ++ line_feeds (length widths))
leading_ends old new widest h now after s is = (
  s.widths,
  loop_done text_len leading_turn s.widths now after (pieces text_len leading_turn h) s.whole is,
  let a = greatest_split s.widths after.place.column in omega (arith, a, s.widest_is),
  s.feeds,
)

-- ---- the content's column

-- spaces lead to the right
spaces_widen : {h g : Here} → AllSpaces h g → h.place.column ≤ g.place.column
spaces_widen (no_space n) = omega arith
spaces_widen {h} (space y more) = let a = spaces_widen more in let m = space_moves h y in omega arith

within : {column : ℕ} {h g : Here} → AllSpaces h g → g.place.column ≤ column → Spaces column h g
within (no_space n) le = no_space_left n
within {h = h} (space y more) le = let a = spaces_widen more in let m = space_moves h y in space_left (omega arith) y
    (within more le)

abbrev AreEmpty : Here → Result (List ℕ × Here) Fault → Type 0
AreEmpty h (Ok (widths, g)) = (column : ℕ) → greatest widths g.place.column ≤ column
    → Empties column h g (length widths)
AreEmpty h (Err f) = Unit {0}

more_empty : (h : Here) → is_break (next_char (past is_space h)) ≡ true → (given : Result (List ℕ × Here) Fault)
    → AreEmpty (past_break (past is_space h)) given
    → AreEmpty h (with_front ((past is_space h).place.column ∷ []) given)
more_empty h y (Ok (widths, g)) more = λ column le. empty_line (within (all_spaces h) (omega (arith, le)))
    (breaks_of (past is_space h) y) (more column (omega (arith, le)))
more_empty h y (Err f) more = tt

empty_carries : (h : Here) (b : Bool) → is_break (next_char (past is_space h)) ≡ b
    → Carries AreEmpty h (if b then Ok (Some ((past is_space h).place.column ∷ []), past_break (past is_space h)) else
    Ok (None, past is_space h))
empty_carries h true y = more_empty h y
empty_carries h false n = λ column le. no_empty_line (within (all_spaces h) le) n

-- leading lines of spaces alone are empty lines, whatever column right of them the content has
are_empty : (h : Here) → AreEmpty h (pieces text_len leading_turn h)
are_empty h = pieces_hold AreEmpty text_len leading_turn leading_shortens (λ g.
    subst (Carries AreEmpty g) (sym (leading_turn_on g (is_break (next_char (past is_space g))) refl))
    (empty_carries g (is_break (next_char (past is_space g))) refl)) h

pub column_told : (block : Option ℕ) (d : ℕ) (h : Here) → content_column block (Some d) h ≡ Ok (outer_of block + d)
unfolding content_column
column_told block d h = refl

column_by : (block : Option ℕ) (h now : Here) (widths : List ℕ) → pieces text_len leading_turn h ≡ Ok (widths, now)
    → content_column block None h ≡ Ok (max (margin_of block) (greatest widths now.place.column))
unfolding content_column
column_by block h now widths e = ap (λ (r : Result (List ℕ × Here) Fault). r >>= λ x. Ok
    (max (margin_of block) (greatest x.0 x.1.place.column))) e

pub column_led : (block : Option ℕ) (h now : Here) (widths : List ℕ) (column : ℕ)
    → pieces text_len leading_turn h ≡ Ok (widths, now)
    → column ≡ max (margin_of block) (greatest widths now.place.column)
    → (content_column block None h ≡ Ok column) × (empty_lines column h ≡ Ok (line_feeds (length widths), now))
column_led block h now widths column e is = (
  column_by block h now widths e ∙ ap (λ (c : ℕ). Ok c) (sym is),
  empties_are (subst (AreEmpty h) e (are_empty h) column (omega (arith, is))),
)

-- empty lines that are read behind none are line feeds
feeds_by : (column : ℕ) (h now : Here) (old new : List ℕ) (r : Result (List ℕ × Here) Fault) → EmptyReads column h r
    → with_front old r ≡ Ok (new, now) → (k : ℕ) × (r ≡ Ok (line_feeds k, now)) × (new ≡ old ++ line_feeds k)
feeds_by column h now old new (Ok (empty, after)) read e =
    let same = same_ok (old ++ empty, after) (new, now) e in
    let is : new ≡ old ++ line_feeds read.0 = sym (ap (λ (p : List ℕ × Here). p.0) same)
    ∙ ap (λ (l : List ℕ). old ++ l) read.1 in
    (read.0, ap₂ (λ (l : List ℕ) (g : Here). Ok (l, g)) read.1 (ap (λ (p : List ℕ × Here). p.1) same), is)
feeds_by column h now old new (Err f) read e = absurd read

pub feeds_given : (column : ℕ) (h now : Here) (old new : List ℕ) → empty_whole column old h ≡ Ok (new, now)
    → (k : ℕ) × (empty_lines column h ≡ Ok (line_feeds k, now)) × (new ≡ old ++ line_feeds k)
feeds_given column h now old new e = feeds_by column h now old new (empty_lines column h) (empty_reads column h) e

pub none_left : {A : Type 0} (o : Option A) → ((a : A) → o ≡ Some a → ⊥) → o ≡ None
none_left None n = refl
none_left (Some a) n = absurd (n a refl)
