-- The tokens that are written are the text's.
use Rattle.std.proofs.Common.{◌≡◌, ℕ, zero, suc, Bool, true, false, List, [], ◌∷◌, ◌++◌, map, Option, Some, None}
use Rattle.std.proofs.Common.{Result, Ok, Err, refl, sym, ap, ap₂, ◌∙◌, subst}
use Rattle.std.specs.Prelude.{if◌then◌else◌}
use Rattle.std.proofs.lemmas.List.{map-append}
use Rattle.granit_order.proofs.BracketsKept.{closed_same, fresh_kinds, run_flow}
use Rattle.granit_order.proofs.BracketsPassed.{Passed, kinds_flow, kinds_in, passed}
use Rattle.granit_order.specs.Order.{may_follow, open_behind}
use Rattle.granit_error.specs.OptionsData.{OptionsData}
use Rattle.granit_language.specs.Before.{closed_for, freshened}
use Rattle.granit_language.specs.Reached.{ReadRefused, Reads, ends_column_by, of_comment, of_lexeme}
use Rattle.granit_lexemes.specs.Comment.{CommentRead}
use Rattle.granit_lexemes.specs.Here.{mark_of, start_of}
use Rattle.granit_lexemes.specs.Lexeme.{Item, Lexeme, OfComment, OfLexeme}
use Rattle.granit_lexemes.specs.Outcome.{Fault, ◌>>=◌}
use Rattle.granit_lexemes.specs.Pieces.{pieces, then_more, turns, with_front}
use Rattle.granit_lexemes.specs.declared.layout.Bracket.{Bracket}
use Rattle.granit_lexemes.specs.declared.layout.OpenBracket.{OpenBracket}
use Rattle.granit_lexemes.specs.declared.layout.OpenColumn.{OpenColumn}
use Rattle.granit_machine.specs.Laid.{Laid, is_in_flow, is_nonempty}
use Rattle.granit_machine.specs.Lexing.{lex_start}
use Rattle.granit_machine.specs.NodeLexemes.{note_items}
use Rattle.granit_machine.specs.Reader.{LexState, behind_read, is_end, lex_len, lex_turn, read}
use Rattle.granit_machine.specs.ReaderState.{Read, ReaderState}
use Rattle.granit_reading.proofs.Answering.{Answers}
use Rattle.granit_places.proofs.ColumnsKept.{Change}
use Rattle.granit_places.proofs.ColumnsLaw.{closed_brackets, columns_change, cols}
use Rattle.granit_places.proofs.Moving.{lexeme_moved}
use Rattle.granit_reading.proofs.ReadingLaw.{ReadsBy, read-is}
use Rattle.granit_places.proofs.Telling.{Agrees, gap_agrees, telling}
use Rattle.granit_scan.specs.Following.{Following, followed, following_start}
use Rattle.granit_scan.specs.TokenViews.{PlainToken, shown_token, shown_tokens}
use Rattle.granit_scan.specs.TokensTold.{written}
use Rattle.granit_scan_laws.proofs.Following.{Alike, Moved, alike_behind, followed_by, moved_inside, moved_outside}
use Rattle.granit_scan_laws.proofs.Following.{pairs_alike, tokens_alike}
use Rattle.granit_steps.specs.Flags.{flags, is_begun}
use Rattle.granit_steps.specs.Tokens.{Noted, StateItem, item_in, lex_states, pair_up, paired_turn, pairs_of, tokens}
use Rattle.granit_steps.specs.Tokens.{tokens_of}

-- ---- one read

module _ (o : OptionsData) (s : ReaderState) where
  -- the comment of a gap
  note_follows : (at : ReaderState) → Agrees at.laid s.laid → (f : Laid) → Alike s.laid f
      → Alike (freshened o at).laid f
  note_follows at g f a =
      let kinds = fresh_kinds o (mark_of at.here) at.laid.brackets ∙ ap kinds_in g.brackets in
      record {
        columns = ap cols g.columns ∙ a.columns;
        kinds = kinds ∙ a.kinds;
        opener = λ e. g.last.opener ∙ a.opener (ap (λ (ks : List Bracket). is_nonempty ks) (sym kinds) ∙ e);
      }

  -- a lexeme, in front of which stale keys are dropped, as they are behind it
  lexeme_moves : (at behind : ReaderState) (x : Lexeme) (c : Laid) → Agrees at.laid s.laid
      → kinds_in c.brackets ≡ kinds_in (freshened o at).laid.brackets
      → x.in_flow ≡ is_in_flow (freshened o at).laid → Change (freshened o at).laid x behind.laid
      → Passed c x behind.laid → Moved s.laid x (freshened o behind).laid
  lexeme_moves at behind x c g closed flow change p =
      let fr = (freshened o at).laid in
      let front = fresh_kinds o (mark_of at.here) at.laid.brackets ∙ ap kinds_in g.brackets in
      let back = fresh_kinds o (mark_of behind.here) behind.laid.brackets in
      let same : is_in_flow fr ≡ is_in_flow s.laid =
      sym (kinds_flow fr.brackets) ∙ ap (λ (ks : List Bracket). is_nonempty ks) front ∙ kinds_flow s.laid.brackets in
      record {
        inside = λ e. moved_inside fr x behind.laid flow change (same ∙ e) ∙ ap cols g.columns;
        outside = λ e. moved_outside fr x behind.laid flow change (same ∙ e)
            ∙ ap (λ (cs : List OpenColumn). followed_by x.kind x.key x.start.place.column (cols cs)) g.columns;
        kinds = back ∙ p.kinds ∙ ap₂ open_behind (sym p.term_is) (closed ∙ front);
        last = λ e. p.last (ap (λ (ks : List Bracket). is_nonempty ks) (sym back) ∙ e)
            ∙ ap may_follow (sym p.term_is);
      }

-- what a read gives: a comment, or a lexeme and perhaps one
pub data Shape (s after : Laid) : List Item → Type 0 where
  of_note : (c : CommentRead) → ((f : Laid) → Alike s f → Alike after f) → Shape s after (OfComment c ∷ [])
  of_one : (x : Lexeme) (note : Option CommentRead) → Moved s x after → Shape s after (OfLexeme x ∷ note_items note)

pub read_shape : (o : OptionsData) (s after : ReaderState) (items : List Item) → Reads o s items after
    → Shape s.laid after.laid items
read_shape o s after items (of_comment {comment = c} at g k) = of_note c (note_follows o s at (gap_agrees g))
read_shape o s after items (of_lexeme at behind sort comes given keys) =
    let h = at.here in
    let f = (freshened o at).laid in
    let c = closed_for sort h f in
    let t = telling o (ends_column_by sort (freshened o at)) h _ sort items behind given.1 in
    let m = lexeme_moved o sort h c t.lexeme t.cut t.reached behind.laid t.told t.says t.leaves in
    let p = passed o h c t.lexeme t.cut t.reached behind.laid m sort t.says t.leaves in
    let change = columns_change o sort h f t.lexeme t.cut t.reached behind.laid t.told t.says t.leaves in
    let flow = t.told.flow ∙ run_flow sort h c
    ∙ ap (λ (bs : List OpenBracket). is_nonempty bs) (closed_brackets sort h f) in
    subst (Shape s.laid (freshened o behind).laid) (sym t.are)
    (of_one t.lexeme t.note
    (lexeme_moves o s at behind t.lexeme c (gap_agrees comes.gap) (closed_same sort h f).0 flow change p))

-- ---- the items of a read are written

abbrev pub WrittenAs : Laid → List StateItem → Type 0
WrittenAs s xs = (w : Following) → Alike s w.laid
    → written (flags (map item_in xs)) w ≡ shown_tokens (tokens w.pairs xs)

abbrev begins : Item → List StateItem → Bool
begins i xs = is_begun i (map item_in xs)

one_written : (s : Laid) (i : Item) (xs : List StateItem) (w : Following) → Alike s w.laid
    → written (flags (map item_in xs)) (followed (begins i xs) i w)
    ≡ shown_tokens (tokens (pairs_of w.laid (begins i xs) w.pairs i) xs)
    → written (flags (i ∷ map item_in xs)) w ≡ shown_tokens (tokens w.pairs ((s, i) ∷ xs))
one_written s i xs w a more =
    let b = begins i xs in
    ap₂ (λ (vs zs : List PlainToken). vs ++ zs) (ap shown_tokens (sym (tokens_alike s w.laid a b w.pairs i)))
    (more ∙ ap (λ (ps : List Bool). shown_tokens (tokens ps xs)) (sym (pairs_alike s w.laid a b w.pairs i)))
    ∙ sym (map-append shown_token (tokens_of s b w.pairs i) (tokens (pairs_of s b w.pairs i) xs))

note_written : (s : Laid) (c : CommentRead) (xs : List StateItem) (w : Following)
    → written (flags (map item_in xs)) w ≡ shown_tokens (tokens w.pairs xs)
    → written (flags (OfComment c ∷ map item_in xs)) w ≡ shown_tokens (tokens w.pairs ((s, OfComment c) ∷ xs))
note_written s c xs w more = ap (λ (ts : List PlainToken). shown_token (Noted c) ∷ ts) more

abbrev pub with_state : Laid → List Item → List StateItem
with_state s items = map (λ (i : Item). (s, i)) items

shape_written : (s after : Laid) (items : List Item) (xs : List StateItem) → Shape s after items
    → WrittenAs after xs → WrittenAs s (with_state s items ++ xs)
shape_written s after items xs (of_note c on) more w a =
    note_written s c xs w (more w (on w.laid a))
shape_written s after items xs (of_one x None m) more w a =
    one_written s (OfLexeme x) xs w a
    (more (followed (begins (OfLexeme x) xs) (OfLexeme x) w) (alike_behind s after w.laid x m a))
shape_written s after items xs (of_one x (Some c) m) more w a =
    let ys : List StateItem = (s, OfComment c) ∷ xs in
    let v = followed (begins (OfLexeme x) ys) (OfLexeme x) w in
    one_written s (OfLexeme x) ys w a (note_written s c xs v (more v (alike_behind s after w.laid x m a)))

-- ---- all reads

module _ (o : OptionsData) where
  abbrev Holds : LexState → Result (List StateItem × LexState) Fault → Type 0
  Holds s (Ok y) = WrittenAs s.reader.laid y.0
  Holds s (Err f) = Unit {0}

  abbrev GoesOn : ℕ → Type 0
  GoesOn n = (u : LexState) → Holds u (turns (paired_turn o) n u)

  nothing_written : (s : Laid) → WrittenAs s []
  nothing_written s w a = refl

  in_front_of : (s : LexState) (after : ReaderState) (items : List Item) → Reads o s.reader items after
      → (given : Result (List StateItem × LexState) Fault)
      → Holds (record { reader = after; ended = is_end items; fault = None }) given
      → Holds s (with_front (with_state s.reader.laid items) given)
  in_front_of s after items r (Err f) h = tt
  in_front_of s after items r (Ok y) h =
      shape_written s.reader.laid after.laid items y.0 (read_shape o s.reader after items r) h

  holds_by : (n : ℕ) (s : LexState) (b : Bool) (r : Read) → Answers (ReadsBy o s.reader) (ReadRefused o s.reader) r
      → GoesOn n
      → Holds s (pair_up s.reader.laid (if b then Ok (None, s) else behind_read r s.reader)
      >>= λ y. then_more (turns (paired_turn o) n) y.0 y.1)
  holds_by n s true r p more = nothing_written s.reader.laid
  holds_by n s false (Err f) p more = nothing_written s.reader.laid
  holds_by n s false (Ok (items, after)) p more =
      let u : LexState = record { reader = after; ended = is_end items; fault = None } in
      in_front_of s after items p (turns (paired_turn o) n u) (more u)

  all_hold : (n : ℕ) → GoesOn n
  unfolding turns lex_turn
  all_hold zero s = nothing_written s.reader.laid
  all_hold (suc n) s = holds_by n s s.ended (read o s.reader) (read-is o s.reader) (all_hold n)

  start_alike : (text : List ℕ) → Alike (lex_start (start_of text)).reader.laid following_start.laid
  start_alike text = record { columns = refl; kinds = refl; opener = λ e. refl }

  pub states_written : (text : List ℕ) → Holds (lex_start (start_of text)) (lex_states o (start_of text))
  unfolding pieces
  states_written text = all_hold (suc (lex_len (lex_start (start_of text)))) (lex_start (start_of text))

  abbrev first_of : List StateItem → Result (List StateItem × LexState) Fault → List StateItem
  first_of zs (Ok z) = z.0
  first_of zs (Err f) = zs

  written_by : (text : List ℕ) (r : Result (List StateItem × LexState) Fault) → Holds (lex_start (start_of text)) r
      → (xs : List StateItem) (t : LexState) → r ≡ Ok (xs, t)
      → written (flags (map item_in xs)) following_start ≡ shown_tokens (tokens [] xs)
  written_by text (Err f) h xs t e = absurd cc
  written_by text (Ok y) h xs t e =
      subst (λ zs. written (flags (map item_in zs)) following_start ≡ shown_tokens (tokens [] zs))
      (ap (first_of y.0) e) (h following_start (start_alike text))

  -- what is written of a text's items with their flags are the text's tokens
  pub written_tokens : (text : List ℕ) (xs : List StateItem) (t : LexState) → lex_states o (start_of text) ≡ Ok (xs, t)
      → written (flags (map item_in xs)) following_start ≡ shown_tokens (tokens [] xs)
  written_tokens text xs t e = written_by text (lex_states o (start_of text)) (states_written text) xs t e
