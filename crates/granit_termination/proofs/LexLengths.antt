-- The loop of reads ends: each read takes a character, or is the last one.
use Rattle.std.proofs.Common.{◌≡◌, ℕ, suc, ◌-◌, ◌<◌, ◌≤◌, ◌==◌, Bool, true, false, List, [], ◌∷◌, Option, Some, None}
use Rattle.std.proofs.Common.{Result, Ok, Err, refl, sym, ap, subst, ◌∙◌, arith}
use Rattle.std.specs.Prelude.{if◌then◌else◌, is_some}
use Rattle.std.proofs.lemmas.Bool.Decides.{nat_tests}
use Rattle.granit_base.specs.Classes.{is_gap}
use Rattle.granit_error.specs.OptionsData.{OptionsData}
use Rattle.granit_lexemes.specs.Comment.{CommentRead}
use Rattle.granit_lexemes.specs.Here.{Here, text_len, next_char, mark_of}
use Rattle.granit_lexemes.specs.Lexeme.{Item}
use Rattle.granit_lexemes.specs.Outcome.{Fault, ◌>>=◌}
use Rattle.granit_lexemes.specs.Pieces.{Shortens}
use Rattle.granit_base.specs.PlainContent.{is_content}
use Rattle.granit_machine.specs.Columns.{closed_at, closed_all, ends_at, ends_all}
use Rattle.granit_machine.specs.Gaps.{GapRead, gap}
use Rattle.granit_machine.specs.Laid.{Laid, is_nonempty, is_in_flow, is_adjacent}
use Rattle.granit_lexemes.specs.declared.layout.PossibleKey.{PossibleKey}
use Rattle.granit_lexemes.specs.declared.layout.OpenBracket.{OpenBracket}
use Rattle.granit_machine.specs.LexemeSort.{PlacedSort, OpenSign, CloseSign, CommaSign, DashSign, QuestionSign}
use Rattle.granit_machine.specs.LexemeSort.{ColonSign, AliasSign, AnchorSign, TagSign, BlockSign, QuoteSign, StrayMark}
use Rattle.granit_machine.specs.LexemeSort.{NoSign, PlainSign, LexemeSort, TextEnd, StartMark, EndMark, Unprintable}
use Rattle.granit_machine.specs.LexemeSort.{DirectiveSign, Placed, sort_at}
use Rattle.granit_machine.specs.PossibleKeys.{keyed_brackets, node_key, is_allowed, drop_key, without_stale}
use Rattle.granit_machine.specs.Reader.{noded, lexeme_of, lexeme_in_column, lexeme_by, lexeme, read_behind, read_whole}
use Rattle.granit_machine.specs.Reader.{read, LexState, is_end, LexTurn, behind_read, lex_turn, lex_len}
use Rattle.granit_machine.specs.ReaderState.{ReaderState, Read, refuse_open}
use Rattle.granit_machine.specs.StreamLexemes.{text_end, start_mark, end_mark, directive_lexeme}
use Rattle.granit_termination.proofs.LengthLemmas.{Fits, fits_if}
use Rattle.granit_termination.proofs.ReadLengths.{reader_len, GapState, GapFits, gap-fits, opener-fits, closer-fits}
use Rattle.granit_termination.proofs.ReadLengths.{comma-fits, dash-fits, question-fits, colon-fits, alias_lexeme-fits}
use Rattle.granit_termination.proofs.ReadLengths.{anchor_lexeme-fits, tag_lexeme-fits, block_lexeme-fits}
use Rattle.granit_termination.proofs.ReadLengths.{plain_lexeme-fits}
use Rattle.granit_termination.proofs.ReadLengths.{quoted_and_gap-fits, directive_lexeme-fits, three_steps}
use Rattle.granit_termination.proofs.ReadLengths.{end_mark-fits}
use Rattle.granit_machine.proofs.SortLemmas.{plain_sign-content}

-- ---- a lexeme

keyed_brackets-flow : (key : Option PossibleKey) (bs : List OpenBracket)
    → is_nonempty (keyed_brackets key bs) ≡ is_nonempty bs
keyed_brackets-flow key [] = refl
keyed_brackets-flow key (b ∷ bs) = refl

pub noded-flow : (property : Bool) (h : Here) (l : Laid) → is_in_flow (noded property h l) ≡ is_in_flow l
noded-flow property h l = keyed_brackets-flow (node_key property (is_allowed h.begins_line h.tab l) (mark_of h) l)
    l.brackets

lexeme_of-fits : (o : OptionsData) (sort : PlacedSort) (ends : Bool) (n : ℕ) (h : Here) (l : Laid) → text_len h ≤ suc n
    → (sort ≡ PlainSign → is_content (is_in_flow l) h.unread.text ≡ true)
    → Fits reader_len n (lexeme_of o sort ends h l)
unfolding lexeme_of
lexeme_of-fits o (OpenSign bracket) ends n h l p held = opener-fits o bracket ends n h (noded false h l) p
lexeme_of-fits o (CloseSign bracket) ends n h l p held = closer-fits bracket ends n h l p
lexeme_of-fits o CommaSign ends n h l p held = comma-fits ends n h l p
lexeme_of-fits o DashSign ends n h l p held = dash-fits o ends n h l p
lexeme_of-fits o QuestionSign ends n h l p held = question-fits o ends n h l p
lexeme_of-fits o ColonSign ends n h l p held = colon-fits o ends n h l p
lexeme_of-fits o AliasSign ends n h l p held = alias_lexeme-fits ends n h (noded false h l) p
lexeme_of-fits o AnchorSign ends n h l p held = anchor_lexeme-fits o ends n h (noded true h l) p
lexeme_of-fits o TagSign ends n h l p held = tag_lexeme-fits o ends n h (noded true h l) p
lexeme_of-fits o (BlockSign literal) ends n h l p held = block_lexeme-fits literal ends n h (noded false h l) p
lexeme_of-fits o (QuoteSign single) ends n h l p held = quoted_and_gap-fits o single ends n h (noded false h l) p
lexeme_of-fits o StrayMark ends n h l p held = tt
lexeme_of-fits o NoSign ends n h l p held = tt
lexeme_of-fits o PlainSign ends n h l p held =
    plain_lexeme-fits o ends n h (noded false h l) p
    (ap (λ (f : Bool). is_content f h.unread.text) (noded-flow false h l) ∙ held refl)

lexeme_in_column-fits : (o : OptionsData) (sort : PlacedSort) (ends : Bool) (n : ℕ) (h : Here) (l : Laid)
    → text_len h ≤ suc n → (sort ≡ PlainSign → is_content (is_in_flow l) h.unread.text ≡ true)
    → Fits reader_len n (lexeme_in_column o sort ends h l)
unfolding lexeme_in_column
lexeme_in_column-fits o sort ends n h l p held = let e = lexeme_of-fits o sort ends n h l p held in search (fits_if, e)

-- what a read leaves, unless it is the last one
abbrev pub ReadFits : ℕ → Read → Type 0
ReadFits n (Ok x) = is_end x.0 ≡ false → reader_len x.1 < n
ReadFits n (Err f) = Unit {0}

fits_read : (n : ℕ) (r : Read) → Fits reader_len n r → ReadFits (suc n) r
fits_read n (Ok x) p = λ more. omega (arith, p)
fits_read n (Err f) p = tt

behind_guard : (n : ℕ) (g : Result (Unit {0}) Fault) (r : Read) → ReadFits n r → ReadFits n (g >>= λ u. r)
behind_guard n (Ok u) r p = p
behind_guard n (Err f) r p = tt

-- the read of the end is the last one
last_read : (n : ℕ) (f : Laid → List Item × ReaderState) (r : Result Laid Fault) → ((t : Laid) → is_end (f t).0 ≡ true)
    → ReadFits n (r >>= λ t. Ok (f t))
last_read n f (Ok t) ends = λ more. absurd (let m = ends t in cc)
last_read n f (Err e) ends = tt

text_end-fits : (n : ℕ) (h : Here) (l : Laid) → ReadFits n (text_end h l)
text_end-fits n h l = behind_guard n (refuse_open l.brackets) _ (last_read n _ (drop_key l) (λ t. refl))

lexeme_by-fits : (o : OptionsData) (sort : LexemeSort) (n : ℕ) (h : Here) (l : Laid) → text_len h ≤ suc n
    → (sort ≡ Placed PlainSign → is_content (is_in_flow l) h.unread.text ≡ true)
    → ReadFits (suc n) (lexeme_by o sort h l)
unfolding lexeme_by
lexeme_by-fits o TextEnd n h l p held = text_end-fits (suc n) h l
lexeme_by-fits o StartMark n h l p held =
    behind_guard (suc n) (refuse_open l.brackets) (start_mark (ends_all l) h (closed_all l))
    (fits_read n (start_mark (ends_all l) h (closed_all l)) (three_steps n h p))
lexeme_by-fits o EndMark n h l p held =
    behind_guard (suc n) (refuse_open l.brackets) (end_mark (ends_all l) h (closed_all l))
    (fits_read n (end_mark (ends_all l) h (closed_all l)) (end_mark-fits (ends_all l) n h (closed_all l) p))
lexeme_by-fits o DirectiveSign n h l p held = fits_read n (directive_lexeme o (ends_all l) h (closed_all l))
    (directive_lexeme-fits o (ends_all l) n h (closed_all l) p)
lexeme_by-fits o Unprintable n h l p held = tt
lexeme_by-fits o (Placed sort) n h l p held =
    fits_read n (lexeme_in_column o sort (ends_at h.place.column l) h (closed_at h.place.column l))
    (lexeme_in_column-fits o sort (ends_at h.place.column l) n h (closed_at h.place.column l) p
    (λ e. held (ap (λ (sort : PlacedSort). Placed sort) e)))

reads_more : (m n : ℕ) (r : Read) → m ≤ n → ReadFits m r → ReadFits n r
reads_more m n (Ok x) less p = λ more. let q = p more in omega (arith, q, less)
reads_more m n (Err f) less p = tt

sort_of_end : (in_flow adjacent : Bool) (h : Here) → (text_len h == 0) ≡ true → sort_at in_flow adjacent h ≡ TextEnd
unfolding sort_at
sort_of_end in_flow adjacent h e = rw e refl

some_left : (k : ℕ) → (k == 0) ≡ false → k ≡ suc (k - 1)
some_left k e = grind (arith, nat_tests)

lexeme_as : (b : Bool) (o : OptionsData) (h : Here) (l : Laid) → (text_len h == 0) ≡ b → is_gap (next_char h) ≡ false
    → ReadFits (text_len h) (lexeme o h l)
unfolding lexeme_by
lexeme_as true o h l e stops = subst (λ sort. ReadFits (text_len h) (lexeme_by o sort h l))
    (sym (sort_of_end (is_in_flow l) (is_adjacent l.last) h e)) (text_end-fits (text_len h) h l)
lexeme_as false o h l e stops =
    let k = some_left (text_len h) e in
    let sort = sort_at (is_in_flow l) (is_adjacent l.last) h in
    reads_more (suc (text_len h - 1)) (text_len h) (lexeme_by o sort h l) (omega (arith, k))
    (lexeme_by-fits o sort (text_len h - 1) h l (omega (arith, k))
    (λ is. plain_sign-content (is_in_flow l) (is_adjacent l.last) h stops is))

pub lexeme-fits : (n : ℕ) (o : OptionsData) (h : Here) (l : Laid) → text_len h ≤ n → is_gap (next_char h) ≡ false
    → ReadFits n (lexeme o h l)
lexeme-fits n o h l p stops = reads_more (text_len h) n (lexeme o h l) p (lexeme_as (text_len h == 0) o h l refl stops)

-- ---- a read

behind_laid : (n : ℕ) (r : Result Laid Fault) (f : Laid → Read) → ((l : Laid) → ReadFits n (f l)) → ReadFits n (r >>= f)
behind_laid n (Ok l) f q = q l
behind_laid n (Err e) f q = tt

read_behind-fits : (n : ℕ) (o : OptionsData) (c : Option CommentRead) (s : ReaderState) → GapState n c s
    → ReadFits n (read_behind o c s)
read_behind-fits n o (Some c) s p = λ more. p
read_behind-fits n o None s p = behind_laid n (without_stale o (mark_of s.here) s.laid) (lexeme o s.here)
    (λ l. lexeme-fits n o s.here l p.0 p.1)

read_whole-fits : (n : ℕ) (o : OptionsData) (r : Read) → ReadFits n r → ReadFits n (r >>= λ y. read_whole o y.0 y.1)
read_whole-fits n o (Ok y) p = behind_laid n (without_stale o (mark_of y.1.here) y.1.laid) _ (λ l. p)
read_whole-fits n o (Err f) p = tt

behind_gap_read : (n : ℕ) (f : Option CommentRead × ReaderState → Read) (r : GapRead) → GapFits n r
    → ((x : Option CommentRead × ReaderState) → GapState n x.0 x.1 → ReadFits n (f x)) → ReadFits n (r >>= f)
behind_gap_read n f (Ok x) p q = q x p
behind_gap_read n f (Err e) p q = tt

-- each read takes a character, or is the last one
pub read-fits : (o : OptionsData) (s : ReaderState) → ReadFits (reader_len s) (read o s)
unfolding read
read-fits o s =
    behind_gap_read (reader_len s) (λ x. read_behind o x.0 x.1 >>= λ y. read_whole o y.0 y.1) (gap o s.here s.laid)
    (gap-fits (reader_len s) o s.here s.laid (omega arith))
    (λ x p. read_whole-fits (reader_len s) o (read_behind o x.0 x.1) (read_behind-fits (reader_len s) o x.0 x.1 p))

-- ---- the loop

abbrev after_of : LexTurn → LexState → LexState
after_of (Ok x) s = x.1
after_of (Err f) s = s

abbrev is_more : LexTurn → Bool
is_more (Ok x) = is_some x.0
is_more (Err f) = false

read_len : (b : Bool) (s : ReaderState) (n : ℕ) → (b ≡ false → reader_len s < n)
    → lex_len (record { reader = s; ended = b; fault = None }) < suc n
read_len true s n p = omega arith
read_len false s n p = let m = p refl in omega (arith, m)

reads_as : (s : ReaderState) (after : LexState) (piece : List Item) (r : Read) → ReadFits (reader_len s) r
    → behind_read r s ≡ Ok (Some piece, after) → lex_len after < suc (reader_len s)
reads_as s after piece (Ok x) p e =
    let q : lex_len (record { reader = x.1; ended = is_end x.0; fault = None })
    ≡ lex_len after = ap (λ (r : LexTurn). lex_len (after_of r after)) e in
    let m = read_len (is_end x.0) x.1 (reader_len s) p in
    omega (arith, q, m)
reads_as s after piece (Err f) p e = absurd (let m : is_more (behind_read (Err f) s) ≡ true = ap is_more e in cc)

abbrev pub lex_by : Bool → OptionsData → LexState → LexTurn
lex_by b o s = if b then Ok (None, s) else behind_read (read o s.reader) s.reader

abbrev pub at_read : ReaderState → LexState
at_read s = record { reader = s; ended = false; fault = None }

turns_as : (o : OptionsData) (s after : LexState) (piece : List Item) (b : Bool) → s.ended ≡ b
    → lex_by b o s ≡ Ok (Some piece, after) → lex_len after < lex_len s
turns_as o s after piece true is e = absurd (let m : is_more (Ok (None, s)) ≡ true = ap is_more e in cc)
turns_as o s after piece false is e = let m = reads_as s.reader after piece (read o s.reader) (read-fits o s.reader)
    e in let k : lex_len s ≡ suc (reader_len s.reader) = rw is refl in omega (arith, m, k)

pub lex_turn-Shortens : (o : OptionsData) → Shortens lex_len (lex_turn o)
unfolding lex_turn
lex_turn-Shortens o s after piece e = turns_as o s after piece s.ended refl e
