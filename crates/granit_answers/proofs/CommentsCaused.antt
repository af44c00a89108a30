-- Why a text is refused, whether comments are asked for or not.
pub use Rattle.granit_read_answers.proofs.ParserSources.{run_none}
use Rattle.std.proofs.Common.{◌≡◌, ℕ, Bool, true, false, List, Option, Some, None, Result, Ok, Err, ◌⊎◌, inl, inr, refl}
use Rattle.std.proofs.Common.{sym, ap, ◌∙◌}
use Rattle.std.specs.Prelude.{is_none}
use Rattle.granit_error.specs.OptionsData.{OptionsData}
use Rattle.granit_comment_places.specs.CommentPlaces.{NoRow, FirstRow}
use Rattle.granit_order.proofs.BracketsKept.{items_given}
use Rattle.granit_comment_places.proofs.CommentsStand.{first_refused, none_given, row_refuses}
use Rattle.granit_language.specs.TextFault.{OfComments, WholeCause}
use Rattle.granit_lexemes.specs.Here.{start_of}
use Rattle.granit_lexemes.specs.Lexeme.{Item}
use Rattle.granit_lexemes.specs.Outcome.{Fault}
use Rattle.granit_lexemes.specs.PlainEvent.{PlainEvent}
use Rattle.granit_machine.proofs.ClosingLemmas.{FeedGiven}
use Rattle.granit_machine.specs.Lexing.{FlaggedItem, flagged, lex}
use Rattle.granit_machine.specs.Machine.{asked_items, feed_all, settled, run}
use Rattle.granit_machine.specs.Reader.{LexState}
use Rattle.granit_machine.specs.ReaderState.{ReaderState}
use Rattle.granit_read_answers.proofs.ParserSources.{lex_answers}
pub use Rattle.granit_read_answers.proofs.Misspelt.{all_read_whole}
use Rattle.granit_answers.proofs.Answered.{Bare, bare_run, Shown, shown_fault}
use Rattle.granit_answers.proofs.Asked.{failed, Asked, asked_run, asked_to_end, asked_stopped, bare_to_end}
use Rattle.granit_answers.proofs.Asked.{bare_failed}
use Rattle.granit_answers.proofs.RowsTold.{Start, told_of, told_is, told_before, many_of, first_of, none_in_front}
use Rattle.granit_answers.proofs.RowsTold.{none_told, unasked_none}
use Rattle.granit_answers.proofs.Caused.{read_whole, bare_caused, none_is, some_is}

-- ---- a fault has its cause

module _ (o : OptionsData) (x : List ℕ) where
  err_same : (f g : Fault) → ◌≡◌ {A = Result (List PlainEvent) Fault} (Err f) (Err g) → f ≡ g
  err_same f g e = cc (e)

  err_as : (f g : Fault) → f ≡ g → ◌≡◌ {A = FeedGiven} (Err f) (Err g)
  err_as f g e = ap (λ (f : Fault). let r : FeedGiven = Err f in r) e

  module _ (items : List Item) (t : LexState) (e : lex o (start_of x) ≡ Ok (items, t))
      (asked : o.emit_comments ≡ true) where
    abbrev Told : Option Fault → List FlaggedItem
    Told fault = told_of (is_none fault) t.reader.laid (flagged items)

    of_row : (fault : Option Fault) (f : Fault) → t.fault ≡ fault → FirstRow o (Start o x) (Told fault) f →
        OfComments o x f
    of_row fault f n r =
        let b = told_before (is_none fault) t.reader.laid (flagged items) in
        record {
          asked = asked;
          items = items;
          state = t.reader;
          ended = is_none fault;
          whole = read_whole o x items t fault e n;
          given = Told fault;
          before = b;
          front = r.row.front;
          many = many_of o x items t e (Told fault) b.more f b.is r.row;
          first = none_in_front o x items t e (Told fault) b.more f b.is r;
        }

    without : (fault : Option Fault) (f : Fault) → t.fault ≡ fault → NoRow o (Start o x) (Told fault) →
        Bare o x ≡ Err f →
        WholeCause o x f
    without fault f n none r =
        bare_caused o x items t f e fault n (none_told o x items t e (is_none fault) none) r

    to_end_by : (f : Fault) → t.fault ≡ None →
        FirstRow o (Start o x) (flagged items) f
        ⊎ (NoRow o (Start o x) (flagged items) × (feed_all o (asked_items false (flagged items)) (Start o x) ≡ Err f)) →
        WholeCause o x f
    to_end_by f n (inl r) = inr (inr (of_row None f n r))
    to_end_by f n (inr r) = without None f n r.0 (bare_to_end o x items t e n ∙ ap (Shown o x) r.1)

    stopped_by : (f g : Fault) → t.fault ≡ Some g →
        FirstRow o (Start o x) (settled t.reader.laid (flagged items)) f
        ⊎ (NoRow o (Start o x) (settled t.reader.laid (flagged items))
        × (feed_all o (asked_items false (settled t.reader.laid (flagged items))) (Start o x) ≡ Err f)) →
        WholeCause o x f
    stopped_by f g n (inl r) = inr (inr (of_row (Some g) f n r))
    stopped_by f g n (inr r) = without (Some g) f n r.0 (bare_failed o x items t e g n ∙ ap (failed g) r.1)

    stop_by : (f g : Fault) → t.fault ≡ Some g → (r : FeedGiven) →
        feed_all o (settled t.reader.laid (flagged items)) (Start o x) ≡ r →
        ◌≡◌ {A = Result (List PlainEvent) Fault} (failed g r) (Err f) → WholeCause o x f
    stop_by f g n (Ok y) h r =
        let told = settled t.reader.laid (flagged items) in
        without (Some g) f n (none_given o (Start o x) y.1 told y.0 refl refl h)
        (bare_failed o x items t e g n ∙ ap (failed g) (items_given o told (Start o x) y.1 y.0 refl h) ∙ r)
    stop_by f g n (Err k) h r =
        stopped_by f g n
        (first_refused o (Start o x) (settled t.reader.laid (flagged items)) f refl refl (h
        ∙ err_as k f (err_same k f r)))

    asked_caused : (f : Fault) (fault : Option Fault) → t.fault ≡ fault → Asked o x ≡ Err f → WholeCause o x f
    asked_caused f None n r =
        to_end_by f n
        (first_refused o (Start o x) (flagged items) f refl refl
        (shown_fault o x (feed_all o (flagged items) (Start o x)) f (sym (asked_to_end o x items t e n) ∙ r)))
    asked_caused f (Some g) n r =
        stop_by f g n (feed_all o (settled t.reader.laid (flagged items)) (Start o x)) refl
        (sym (asked_stopped o x items t e g n) ∙ r)

  by_asking : (items : List Item) (t : LexState) (f : Fault) → lex o (start_of x) ≡ Ok (items, t) → run o x ≡ Err f →
      (v : Bool) → o.emit_comments ≡ v → WholeCause o x f
  by_asking items t f e r true asked = asked_caused items t e asked f t.fault refl (sym (asked_run o x asked) ∙ r)
  by_asking items t f e r false off =
      bare_caused o x items t f e t.fault refl (unasked_none o (is_none t.fault) t.reader.laid items off)
      (sym (bare_run o x off) ∙ r)

  by_read : (f : Fault) → run o x ≡ Err f → (r : Result (List Item × LexState) Fault) → lex o (start_of x) ≡ r →
      WholeCause o x f
  by_read f r (Ok (items, t)) e = by_asking items t f e r o.emit_comments refl
  by_read f r (Err g) e = absurd (lex_answers o (start_of x) g e)

  pub any_fault_caused : (f : Fault) → run o x ≡ Err f → WholeCause o x f
  any_fault_caused f r = by_read f r (lex o (start_of x)) refl

  -- ---- a cause of comments is answered

  pub comments_answered : (f : Fault) → OfComments o x f → run o x ≡ Err f
  comments_answered f c =
      let t = all_read_whole o (start_of x) c.items c.ended c.state c.whole in
      let b = c.before in
      let refused = row_refuses o (Start o x) c.given f refl refl
      (first_of o x c.items t.0 t.1 c.given b.more c.front f b.is c.many c.first) in
      let told : told_of c.ended t.0.reader.laid (flagged c.items) ≡ c.given =
      ap (λ (s : ReaderState). told_of c.ended s.laid (flagged c.items)) t.3
      ∙ told_is c.ended c.state.laid (flagged c.items) c.given b in
      asked_run o x c.asked
      ∙ ends c.items t.0 t.1 c.given c.ended t.2 told refused
    where
      shown : (items : List FlaggedItem) → feed_all o items (Start o x) ≡ Err f →
          Shown o x (feed_all o items (Start o x)) ≡ Err f
      shown items r = ap (Shown o x) r

      ends : (items : List Item) (t : LexState) → lex o (start_of x) ≡ Ok (items, t) → (given : List FlaggedItem) →
          (ended : Bool) → is_none t.fault ≡ ended → told_of ended t.reader.laid (flagged items) ≡ given →
          feed_all o given (Start o x) ≡ Err f → Asked o x ≡ Err f
      ends items t e given true n told r =
          asked_to_end o x items t e (none_is o x t.fault n)
          ∙ shown (flagged items) (ap (λ (is : List FlaggedItem). feed_all o is (Start o x)) told ∙ r)
      ends items t e given false n told r =
          let g = some_is o x t.fault n in
          asked_stopped o x items t e g.0 g.1
          ∙ ap (failed g.0) (ap (λ (is : List FlaggedItem). feed_all o is (Start o x)) told ∙ r)
