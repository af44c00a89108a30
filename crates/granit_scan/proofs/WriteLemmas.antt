-- An item's tokens, part by part.
use Rattle.std.proofs.Common.{◌≡◌, ℕ, zero, suc, Bool, true, false, ◌==◌, ◌&&◌, ◌||◌, not, List, [], ◌∷◌, ◌++◌, length}
use Rattle.std.proofs.Common.{map}
use Rattle.std.proofs.Common.{replicate, Option, Some, None, Result, Ok, Err, refl, sym, ap, ap₂, ◌∙◌, append_assoc}
use Rattle.std.proofs.lemmas.List.{append-nil, length-map, map-append}
use Rattle.std.specs.List.{slice_get}
use Rattle.granit_base.specs.Place.{Mark}
use Rattle.granit_cursor.specs.declared.token.Token.{Token}
use Rattle.granit_error.specs.OptionsData.{OptionsData}
use Rattle.granit_lexemes.specs.Lexeme.{LexemeKind, Directive, DocumentStart, DocumentEnd, StreamEnd, Dash, Question}
use Rattle.granit_lexemes.specs.Lexeme.{Colon, KeyStart, Lexeme, OfLexeme, is_entry_dash}
use Rattle.granit_lexemes.specs.Outcome.{Fault, ◌>>=◌}
use Rattle.granit_lexemes.specs.declared.layout.LastLexeme.{LastLexeme}
use Rattle.granit_lexemes.specs.declared.layout.OpenBracket.{OpenBracket}
use Rattle.granit_machine.specs.Columns.{entered, refuse_column, with_entry}
use Rattle.granit_machine.specs.Laid.{Laid, block_column, in_square, is_column, is_nonempty, is_opener}
use Rattle.granit_scan.specs.Following.{Writing, adds, before_tokens, begins_mapping_by, inserted_before}
use Rattle.granit_scan.specs.Following.{header_behind, is_new_at, left_behind, laid_behind, start_tokens}
use Rattle.granit_scan.specs.Following.{with_ends, with_own, with_start, wrote}
use Rattle.granit_scan.specs.TokenViews as views
use Rattle.granit_scan.specs.TokenViews.{PlainToken, inserted_if, insertion_kind, kind_shown, marked, plain_token}
use Rattle.granit_scan.specs.TokenViews.{shown_span, shown_token, shown_tokens}
use Rattle.granit_steps.specs.Tokens.{Insertion, BlockEnd, BlockMappingStart, KeySign, PairStart}
use Rattle.granit_steps.specs.Tokens.{PairEnd, ScanToken, Inserted, Own, begins_single, behind_ends, block_start}
use Rattle.granit_steps.specs.Tokens.{ended_blocks, ends_single, insert_if, inserted, is_bare_colon_of, is_new_column}
use Rattle.granit_steps.specs.Tokens.{left_open, pairs_behind, tail_token, top_pair, with_pair_if}

-- ---- lists

pub no_top : (bs : List Bool) → None ≡ slice_get bs 0 → false ≡ top_pair bs
no_top [] e = refl
no_top (b ∷ bs) e = absurd (cc)

pub some_top : (bs : List Bool) (b : Bool) → Some b ≡ slice_get bs 0 → b ≡ top_pair bs
some_top [] b e = absurd (cc)
some_top (c ∷ bs) b e = cc

pub shown_length : (ts : List Token) → (length ts == 0) ≡ (length (map plain_token ts) == 0)
shown_length ts = ap (λ (n : ℕ). n == 0) (sym (length-map ts plain_token))

pub no_more : (ts : List PlainToken) (t : PlainToken) → ts ≡ ts ++ replicate 0 t
no_more ts t = sym (append-nil ts)

replicate_last : (n : ℕ) (t : PlainToken) → replicate n t ++ t ∷ [] ≡ replicate (suc n) t
replicate_last zero t = refl
replicate_last (suc n) t = ap (λ (ts : List PlainToken). t ∷ ts) (replicate_last n t)

pub one_more : (ts : List PlainToken) (n : ℕ) (t : PlainToken)
    → (ts ++ replicate n t) ++ t ∷ [] ≡ ts ++ replicate (suc n) t
one_more ts n t = append_assoc ts (replicate n t) (t ∷ [])
    ∙ ap (λ (us : List PlainToken). ts ++ us) (replicate_last n t)

pub joined : (ts a b c d : List PlainToken) → (((ts ++ a) ++ b) ++ c) ++ d ≡ ts ++ (a ++ (b ++ (c ++ d)))
joined ts a b c d =
    append_assoc ((ts ++ a) ++ b) c d ∙ append_assoc (ts ++ a) b (c ++ d) ∙ append_assoc ts a (b ++ (c ++ d))

-- ---- an entry's column

abbrev unwrapped : Laid → Result Laid Fault → Laid
unwrapped l (Ok t) = t
unwrapped l (Err f) = l

made_by : (r : Result (Unit {0}) Fault) (l t : Laid) → (r >>= λ u. Ok l) ≡ Ok t → t ≡ l
made_by (Ok u) l t e = sym (ap (unwrapped l) e)
made_by (Err f) l t e = absurd (cc)

pub entry_made : (o : OptionsData) (column : ℕ) (m : Mark) (l t : Laid) → with_entry o column m l ≡ Ok t
    → t ≡ entered column l
entry_made o column m l t e = made_by (refuse_column o column m l.columns) (entered column l) t e

-- ---- the start of a block collection

pub no_start : (b : Bool) (l : Lexeme) (w : Writing) → false ≡ is_new_at l.start.place.column w.following.laid
    → w ≡ with_start b l w
no_start b l w e =
    ap (λ (ts : List PlainToken). record w { waiting = ts }) (sym (append-nil w.waiting))
    ∙ ap (λ (new : Bool). adds (start_tokens new b l) w) e

pub some_start : (b : Bool) (l : Lexeme) (w : Writing) → true ≡ is_new_at l.start.place.column w.following.laid
    → adds (inserted_if (begins_mapping_by l.kind l.key b) views.MappingStart l.start)
    (adds (inserted_if (is_entry_dash l.kind) views.SequenceStart l.start) w) ≡ with_start b l w
some_start b l w e =
    ap (λ (ts : List PlainToken). record w { waiting = ts }) (append_assoc w.waiting
    (inserted_if (is_entry_dash l.kind) views.SequenceStart l.start)
    (inserted_if (begins_mapping_by l.kind l.key b) views.MappingStart l.start))
    ∙ ap (λ (new : Bool). adds (start_tokens new b l) w) e

-- ---- what the ends of columns leave as it was

brackets_kept : (kind : LexemeKind) (column : ℕ) (s : Laid) → (left_open kind column s).brackets ≡ s.brackets
brackets_kept (Directive d) column s = refl
brackets_kept DocumentStart column s = refl
brackets_kept DocumentEnd column s = refl
brackets_kept StreamEnd column s = refl
brackets_kept kind column s = refl

last_kept : (kind : LexemeKind) (column : ℕ) (s : Laid) → (left_open kind column s).last ≡ s.last
last_kept (Directive d) column s = refl
last_kept DocumentStart column s = refl
last_kept DocumentEnd column s = refl
last_kept StreamEnd column s = refl
last_kept kind column s = refl

single_kept : (b : Bool) (l : Lexeme) (s : Laid) → begins_single b l (behind_ends l s) ≡ begins_single b l s
single_kept b l s = ap₂
    (λ (bs : List OpenBracket) (last : LastLexeme). in_square bs
    && (b || (is_bare_colon_of l.kind l.key && is_opener last)))
    (brackets_kept l.kind l.start.place.column s) (last_kept l.kind l.start.place.column s)

new_kept : (l : Lexeme) (s : Laid) → is_new_at l.start.place.column (behind_ends l s) ≡ is_new_column l s
new_kept l s =
    ap (λ (bs : List OpenBracket). not (is_nonempty bs)
    && not (is_column (block_column (behind_ends l s)) l.start.place.column))
    (brackets_kept l.kind l.start.place.column s)

-- ---- what is inserted, as plain tokens

shown_if : (b : Bool) (what : Insertion) (m : Mark)
    → inserted_if b (insertion_kind what) m ≡ shown_tokens (insert_if b what m)
shown_if true what m = refl
shown_if false what m = refl

shown_ends : (n : ℕ) (m : Mark)
    → replicate n (marked views.CollectionEnd m) ≡ shown_tokens (replicate n (Inserted BlockEnd m))
shown_ends zero m = refl
shown_ends (suc n) m = ap (λ (ts : List PlainToken). marked views.CollectionEnd m ∷ ts) (shown_ends n m)

mapping_shown : (b : Bool) (m : Mark)
    → [] ++ inserted_if b views.MappingStart m ≡ shown_tokens (insert_if b BlockMappingStart m)
mapping_shown b m = shown_if b BlockMappingStart m

start_by : (kind : LexemeKind) (key : Option KeyStart) (b : Bool) (m : Mark)
    → inserted_if (is_entry_dash kind) views.SequenceStart m
    ++ inserted_if (begins_mapping_by kind key b) views.MappingStart m
    ≡ shown_tokens (block_start b kind key true m)
start_by Dash key b m = refl
start_by Question key b m = refl
start_by Colon None b m = refl
start_by Colon (Some k) b m = refl
start_by kind key b m = mapping_shown b m

none_by : (kind : LexemeKind) (key : Option KeyStart) (b : Bool) (m : Mark)
    → [] ≡ shown_tokens (block_start b kind key false m)
none_by Dash key b m = refl
none_by Question key b m = refl
none_by Colon key b m = refl
none_by kind key b m = refl

start_shown : (b : Bool) (l : Lexeme) (new : Bool)
    → start_tokens new b l ≡ shown_tokens (block_start b l.kind l.key new l.start)
start_shown b l true = start_by l.kind l.key b l.start
start_shown b l false = none_by l.kind l.key b l.start

shown_both : (xs ys : List ScanToken) (ts us : List PlainToken) → ts ≡ shown_tokens xs → us ≡ shown_tokens ys
    → ts ++ us ≡ shown_tokens (xs ++ ys)
shown_both xs ys ts us e f = ap₂ (λ (vs zs : List PlainToken). vs ++ zs) e f ∙ sym (map-append shown_token xs ys)

before_shown : (b : Bool) (l : Lexeme) (pairs : List Bool) (new single : Bool)
    → inserted_if (ends_single l.kind pairs) views.CloseCurly l.start
    ++ (start_tokens new b l
    ++ (inserted_if single views.OpenCurly l.start ++ inserted_if b views.Key l.start))
    ≡ shown_tokens (insert_if (ends_single l.kind pairs) PairEnd l.start
    ++ (block_start b l.kind l.key new l.start
    ++ (insert_if single PairStart l.start ++ insert_if b KeySign l.start)))
before_shown b l pairs new single =
    shown_both _ _ _ _ (shown_if (ends_single l.kind pairs) PairEnd l.start)
    (shown_both _ _ _ _ (start_shown b l new)
    (shown_both _ _ _ _ (shown_if single PairStart l.start) (shown_if b KeySign l.start)))

-- ---- the whole lexeme

module _ (b : Bool) (l : Lexeme) (w : Writing) where
  abbrev s : Laid
  s = w.following.laid

  abbrev closed : Writing
  closed = with_ends l w

  abbrev own : List PlainToken
  own = record { kind = kind_shown l.kind; span = shown_span l.kind l } ∷ shown_tokens (tail_token l.tail)

  before_same : before_tokens b l closed.following ≡ shown_tokens (insert_if (ends_single l.kind w.following.pairs)
      PairEnd l.start ++ (block_start b l.kind l.key (is_new_column l s) l.start
      ++ (insert_if (begins_single b l s) PairStart l.start ++ insert_if b KeySign l.start)))
  before_same =
      ap₂ (λ (new single : Bool). inserted_if (ends_single l.kind w.following.pairs) views.CloseCurly l.start
      ++ (start_tokens new b l ++ (inserted_if single views.OpenCurly l.start ++ inserted_if b views.Key l.start)))
      (new_kept l s) (single_kept b l s)
      ∙ before_shown b l w.following.pairs (is_new_column l s) (begins_single b l s)

  waits_same : (closed.waiting ++ before_tokens b l closed.following) ++ own
      ≡ w.waiting ++ shown_tokens (inserted s b w.following.pairs l ++ (Own l ∷ tail_token l.tail))
  waits_same =
      let ends = replicate (ended_blocks l s) (marked views.CollectionEnd l.start) in
      let before = before_tokens b l closed.following in
      append_assoc (w.waiting ++ ends) before own ∙ append_assoc w.waiting ends (before ++ own)
      ∙ ap (λ (ts : List PlainToken). w.waiting ++ ts)
      (sym (append_assoc ends before own)
      ∙ shown_both (inserted s b w.following.pairs l) (Own l ∷ tail_token l.tail) (ends ++ before) own
      (shown_both _ _ ends before (shown_ends (ended_blocks l s) l.start) before_same) refl)

  pub written_whole : with_own l (left_behind l (inserted_before b l (with_ends l w))) ≡ wrote b (OfLexeme l) w
  written_whole = ap₂ (λ (ps : List Bool) (ts : List PlainToken). record {
    following = record {
      laid = laid_behind l s;
      pairs = pairs_behind l.kind ps;
      in_header = header_behind l.kind w.following.in_header;
    };
    waiting = ts;
  }) (ap (λ (single : Bool). with_pair_if single w.following.pairs) (single_kept b l s)) waits_same
