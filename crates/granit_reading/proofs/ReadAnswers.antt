-- What stands in a text is what the reader gives, and it is all that stands there.
pub use Rattle.granit_directive_laws.proofs.LineLaw.{whole_is, whole_refused}
pub use Rattle.granit_directive_laws.proofs.FirstLaw.{directive_cause_refused}
use Rattle.std.proofs.Common.{◌≡◌, ◌&&◌, Bool, true, false, List, [], ◌∷◌, ◌++◌, Option, Some, None, Result, Ok, Err}
use Rattle.std.proofs.Common.{◌⊎◌, inl, inr, refl, sym, ap, ap₂, ◌∙◌, subst, append_assoc}
use Rattle.std.specs.Prelude.{if◌then◌else◌}
use Rattle.std.proofs.lemmas.Bool.{cond-true, cond-false}
use Rattle.granit_base.specs.Classes.{is_breakz}
use Rattle.granit_error.specs.OptionsData.{OptionsData}
use Rattle.granit_lexemes.specs.Here.{Here, next_char, mark_of}
use Rattle.granit_lexemes.specs.LayoutData.{is_left}
use Rattle.granit_lexemes.specs.Lexeme.{Lexeme, Item, OfLexeme}
use Rattle.granit_lexemes.specs.Outcome.{Fault, ◌>>=◌}
use Rattle.granit_lexemes.specs.Pieces.{with_front, pieces}
use Rattle.granit_lexemes.proofs.PieceLemmas.{pieces_more}
use Rattle.granit_machine.specs.Columns.{closed_at, closed_all, ends_at, ends_all}
use Rattle.granit_machine.specs.Laid.{Laid, is_in_flow, is_adjacent, innermost_column, block_column}
use Rattle.granit_lexemes.specs.declared.layout.PossibleKey.{PossibleKey}
use Rattle.granit_lexemes.specs.declared.layout.OpenBracket.{OpenBracket}
use Rattle.granit_lexemes.specs.declared.layout.OpenColumn.{OpenColumn}
use Rattle.granit_machine.specs.LexemeSort.{PlacedSort, LexemeSort, TextEnd, StartMark, EndMark, Unprintable}
use Rattle.granit_machine.specs.LexemeSort.{DirectiveSign, Placed}
use Rattle.granit_machine.specs.Lexing.{lex}
use Rattle.granit_machine.specs.PossibleKeys.{is_stale, refuse_required, stale_key, fresh, without_stale}
use Rattle.granit_machine.specs.Reader.{is_strict_outside, lexeme_in_column, lexeme_by, lexeme, read_whole, read}
use Rattle.granit_machine.specs.Reader.{LexState, is_end, behind_read, lex_turn, lex_len}
use Rattle.granit_machine.specs.ReaderState.{ReaderState, Read, reader_start, refuse_open}
use Rattle.granit_machine.specs.StreamLexemes.{text_end, start_mark, end_mark_up_to, end_mark, directive_lexeme}
use Rattle.granit_termination.proofs.LexLengths.{lex_turn-Shortens}
use Rattle.granit_language.specs.Before.{freshened, with_run}
use Rattle.granit_language.specs.Reached.{NoneOverdue, StandsInside, GivenAt, Reads, of_comment, of_lexeme, Reached}
use Rattle.granit_language.specs.Reached.{stops, goes_on, GoesOnTo}
use Rattle.granit_language.specs.Standing.{Given}
use Rattle.granit_reading.proofs.Deciding.{tells, rejects, stale_decided, outside_block_decided}
use Rattle.granit_reading.proofs.GapAnswers.{gap_answers}
use Rattle.granit_reading.proofs.LexemeAnswers.{then_is, read_as, read_at, tail_then, drop_answers, placed_answers}
use Rattle.granit_reading.proofs.ReadingLaw.{run_flow, run_columns, Total, total}
use Rattle.granit_reading.proofs.SortAnswers.{sort_answers}

-- ---- the end, marks and directives

open_answers : {B : Type 0} (bs : List OpenBracket) (f : Unit {0} → Result B Fault) → bs ≡ []
    → (refuse_open bs >>= f) ≡ f tt
open_answers bs f e = ap (λ bs. refuse_open bs >>= f) e

module _ (o : OptionsData) (h : Here) (l : Laid) (x : Lexeme) (after : ReaderState) where
  abbrev Is : Read → Type 0
  Is r = r ≡ Ok (OfLexeme x ∷ [], after)

  end_answers : Given o (ends_all l) TextEnd h l (OfLexeme x ∷ []) after → Is (text_end h l)
  end_answers p =
      open_answers l.brackets _ p.0.1 ∙ then_is _ (drop_answers l p.0.2) ∙ read_at p.0.0.reaches p.0.0.is p.1

  start_mark_answers : (ends : Bool) → Given o ends StartMark h l (OfLexeme x ∷ []) after
      → Is (refuse_open l.brackets >>= λ u. start_mark ends h l)
  start_mark_answers ends p = open_answers l.brackets _ p.0.1 ∙ read_at p.0.0.reaches p.0.0.is p.1

  end_mark_answers : (ends : Bool) → Given o ends EndMark h l (OfLexeme x ∷ []) after
      → Is (refuse_open l.brackets >>= λ u. end_mark ends h l)
  unfolding end_mark_up_to
  end_mark_answers ends p = open_answers l.brackets _ p.0.2 ∙ tail_then _ p.0.0.tailed
      ∙ cond-true (is_breakz (next_char after.here)) _ _ p.0.1 ∙ read_as p.0.0.is p.1

  directive_answers : (ends : Bool) → Given o ends DirectiveSign h l (OfLexeme x ∷ []) after
      → Is (directive_lexeme o ends h l)
  directive_answers ends p = then_is _ (whole_is o h p.0.read p.0.end p.0.answers) ∙ read_at p.0.reaches p.0.is p.1

column_answers : (o : OptionsData) (sort : PlacedSort) (ends : Bool) (h : Here) (l : Laid) (items : List Item)
    (after : ReaderState) → StandsInside o (Placed sort) h (with_run sort h l)
    → Given o ends (Placed sort) h (with_run sort h l) items after
    → lexeme_in_column o sort ends h l ≡ Ok (items, after)
unfolding lexeme_in_column is_strict_outside
column_answers o sort ends h l items after inside p =
    let same : is_strict_outside o h.place.column l
    ≡ ((o.strict_indentation && is_in_flow (with_run sort h l))
    && is_left (block_column (with_run sort h l)) h.place.column) =
    ap₂ (λ (f : Bool) (cs : List OpenColumn). (o.strict_indentation && f)
    && is_left (innermost_column cs) h.place.column) (sym (run_flow sort h l)) (sym (run_columns sort h l)) in
    cond-false (is_strict_outside o h.place.column l) _ _
    (same ∙ rejects (outside_block_decided o h (with_run sort h l)) inside)
    ∙ placed_answers o ends h l sort items after p

pub by_answers : (o : OptionsData) (sort : LexemeSort) (s : ReaderState) (items : List Item) (after : ReaderState)
    → GivenAt o sort s items after → lexeme_by o sort s.here s.laid ≡ Ok (items, after)
unfolding lexeme_by
by_answers o TextEnd s (OfLexeme x ∷ []) after p = end_answers o s.here s.laid x after p.1
by_answers o StartMark s (OfLexeme x ∷ []) after p = start_mark_answers o s.here (closed_all s.laid) x after
    (ends_all s.laid) p.1
by_answers o EndMark s (OfLexeme x ∷ []) after p = end_mark_answers o s.here (closed_all s.laid) x after
    (ends_all s.laid) p.1
by_answers o DirectiveSign s (OfLexeme x ∷ []) after p = directive_answers o s.here (closed_all s.laid) x after
    (ends_all s.laid) p.1
by_answers o Unprintable s (OfLexeme x ∷ []) after p = absurd p.1.0
by_answers o (Placed sort) s items after p = column_answers o sort (ends_at s.here.place.column s.laid) s.here
    (closed_at s.here.place.column s.laid) items after p.0 p.1
by_answers o sort s items after p = absurd p.1

-- ---- one read

pub fresh_answers : (o : OptionsData) (s : ReaderState) → NoneOverdue o s
    → without_stale o (mark_of s.here) s.laid ≡ Ok (fresh o (mark_of s.here) s.laid)
fresh_answers o s none = then_is _ (on s.laid.key refl)
  where
    by : (k : PossibleKey) (v : Bool) → is_stale o (is_in_flow s.laid) (mark_of s.here) k ≡ v
        → (v ≡ true → k.is_required ≡ false) → refuse_required (if v then Some k else None) ≡ Ok tt
    by k true e f = cond-false k.is_required _ _ (f refl)
    by k false e f = refl

    on : (key : Option PossibleKey) → s.laid.key ≡ key
        → refuse_required (stale_key o (is_in_flow s.laid) (mark_of s.here) key) ≡ Ok tt
    on None e = refl
    on (Some k) e = by k (is_stale o (is_in_flow s.laid) (mark_of s.here) k) refl
        (λ v. none k e (tells (stale_decided o s.laid (mark_of s.here) k) v))

-- what stands is read
pub read_answers : (o : OptionsData) {s t : ReaderState} {items : List Item} → Reads o s items t
    → read o s ≡ Ok (items, t)
unfolding read
read_answers o (of_comment at g k) = then_is _ (gap_answers g) ∙ then_is _ (fresh_answers o at k)
read_answers o {s = s} {items = items} (of_lexeme at behind sort comes given keys) =
    let f = freshened o at in
    then_is _ (gap_answers comes.gap)
    ∙ ap (λ r. (r >>= λ l. lexeme o at.here l) >>= λ y. read_whole o y.0 y.1) (fresh_answers o at comes.keys)
    ∙ ap (λ sort. lexeme_by o sort f.here f.laid >>= λ y. read_whole o y.0 y.1)
    (sort_answers (is_in_flow f.laid) (is_adjacent f.laid.last) f.here comes.begins)
    ∙ then_is _ (by_answers o sort f items behind given) ∙ then_is _ (fresh_answers o behind keys)

pub one_read : (o : OptionsData) {s t u : ReaderState} {xs ys : List Item} → Reads o s xs t → Reads o s ys u
    → (xs ≡ ys) × (t ≡ u)
one_read o {t = t} {u = u} {xs = xs} {ys = ys} p q =
    let e : ◌≡◌ {A = Read} (Ok (xs, t)) (Ok (ys, u)) = sym (read_answers o p) ∙ read_answers o q in
    let f : ◌≡◌ {A = List Item × ReaderState} (xs, t) (ys, u) = cc in
    (ap (λ (y : List Item × ReaderState). y.0) f, ap (λ (y : List Item × ReaderState). y.1) f)

-- of two lists of items one goes on with the other
pub one_list : (o : OptionsData) {s t u : ReaderState} {xs ys : List Item} → Reached o s xs t → Reached o s ys u
    → GoesOnTo o t xs ys u ⊎ GoesOnTo o u ys xs t
one_list o {ys = ys} stops q = inl (record { more = ys; are = refl; rest = q })
one_list o {xs = xs} p stops = inr (record { more = xs; are = refl; rest = p })
one_list o {t = t} {u = u} {xs = xs} {ys = ys} (goes_on next items more r last rest e)
    (goes_on after is others q ends further f) =
    let one = one_read o r q in
    elim (one_list o rest (subst (λ (s : ReaderState). Reached o s others u) (sym one.1) further)) [
      | inl g ↦ inl (record {
        more = g.more;
        are = f ∙ ap₂ (λ (a b : List Item). a ++ b) (sym one.0) g.are
            ∙ sym (append_assoc items more g.more) ∙ ap (λ (l : List Item). l ++ g.more) (sym e);
        rest = g.rest;
      })
      | inr g ↦ inr (record {
        more = g.more;
        are = e ∙ ap₂ (λ (a b : List Item). a ++ b) one.0 g.are
            ∙ sym (append_assoc is others g.more) ∙ ap (λ (l : List Item). l ++ g.more) (sym f);
        rest = g.rest;
      })
    ]

-- ---- all reads

record ReadsOn (o : OptionsData) (s : LexState) (xs : List Item) : Type 0 where
  more : List Item
  left : LexState
  given : pieces lex_len (lex_turn o) s ≡ Ok (xs ++ more, left)

-- reading goes on from any state
reads_any : (o : OptionsData) (s : LexState) → ReadsOn o s []
reads_any o s = on (pieces lex_len (lex_turn o) s) refl (total o s)
  where
    on : (r : Result (List Item × LexState) Fault) → pieces lex_len (lex_turn o) s ≡ r → Total r → ReadsOn o s []
    on (Ok x) e p = record { more = x.0; left = x.1; given = e }
    on (Err f) e p = absurd p

pub turn_answers : (o : OptionsData) (s next : ReaderState) (f : Option Fault) (items : List Item)
    → Reads o s items next → lex_turn o (record { reader = s; ended = false; fault = f })
    ≡ Ok (Some items, record { reader = next; ended = is_end items; fault = None })
unfolding lex_turn
turn_answers o s next f items r = ap (λ r. behind_read r s) (read_answers o r)

reads_on : (o : OptionsData) {s t : ReaderState} {xs : List Item} (f : Option Fault) → Reached o s xs t
    → ReadsOn o (record { reader = s; ended = false; fault = f }) xs
reads_on o {s = s} f stops = reads_any o (record { reader = s; ended = false; fault = f })
reads_on o {s = s} {xs = xs} f (goes_on next items more r last rest e) = on (is_end items) refl (reads_on o None rest)
  where
    here : LexState
    here = record { reader = s; ended = false; fault = f }

    joined : (after : LexState) → lex_turn o here ≡ Ok (Some items, after) → ReadsOn o after more → ReadsOn o here xs
    joined after turn p = record {
      more = p.more;
      left = p.left;
      given = pieces_more lex_len (lex_turn o) (lex_turn-Shortens o) here after items turn
          ∙ ap (with_front items) p.given ∙ ap (λ (l : List Item). Ok (l, p.left))
          (sym (append_assoc items more p.more) ∙ ap (λ (l : List Item). l ++ p.more) (sym e));
    }

    on : (v : Bool) → is_end items ≡ v → ReadsOn o (record { reader = next; ended = false; fault = None }) more
        → ReadsOn o here xs
    on true y p = joined _ (turn_answers o s next f items r)
        (subst (ReadsOn o (record { reader = next; ended = is_end items; fault = None })) (sym (last y))
        (reads_any o (record { reader = next; ended = is_end items; fault = None })))
    on false y p = joined _ (turn_answers o s next f items r
        ∙ ap (λ v. Ok (Some items, record { reader = next; ended = v; fault = None })) y) p

-- what stands in a text is the front of what is read
pub all_read : (o : OptionsData) (h : Here) (xs items : List Item) (u : ReaderState) (t : LexState)
    → Reached o (reader_start h) xs u → lex o h ≡ Ok (items, t) → (more : List Item) × (items ≡ xs ++ more)
all_read o h xs items u t r e =
    let p = reads_on o None r in
    let f : ◌≡◌ {A = Result (List Item × LexState) Fault} (Ok (items, t)) (Ok (xs ++ p.more, p.left)) = sym e
    ∙ p.given in
    let g : ◌≡◌ {A = List Item × LexState} (items, t) (xs ++ p.more, p.left) = cc in
    (p.more, ap (λ (y : List Item × LexState). y.0) g)
