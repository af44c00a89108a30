-- Where no comment is one too many, what is answered with comments and without them is alike.
use Rattle.std.proofs.Common.{◌≡◌, ℕ, Bool, true, false, List, ◌∷◌, Option, Some, None, Result, Ok, Err, refl, sym, ap}
use Rattle.std.proofs.Common.{◌∙◌}
use Rattle.std.specs.Prelude.{is_none}
use Rattle.granit_error.specs.OptionsData.{OptionsData}
use Rattle.granit_order.specs.Answers.{but_comments}
use Rattle.granit_comment_places.specs.CommentPlaces.{NoRow}
use Rattle.granit_order.proofs.BracketsKept.{Lexed, answer_to, none_told, run_given, run_same, settled_asked}
use Rattle.granit_comment_places.proofs.CommentsStand.{Alike, fed_alike}
use Rattle.granit_language.specs.TextFault.{NoneTold}
use Rattle.granit_lexemes.specs.Here.{start_of, mark_of}
use Rattle.granit_lexemes.specs.Lexeme.{Item}
use Rattle.granit_lexemes.specs.Outcome.{Fault, ◌>>=◌}
use Rattle.granit_lexemes.specs.PlainEvent.{PlainEvent, StreamStart, event_on}
use Rattle.granit_machine.proofs.ClosingLemmas.{FeedGiven}
use Rattle.granit_machine.specs.Lexing.{FlaggedItem, flagged, lex}
use Rattle.granit_machine.specs.Machine.{asked_items, feed_all, settled, run_answer, run}
use Rattle.granit_machine.specs.Reader.{LexState}
use Rattle.granit_answers.proofs.Answered.{Bare, bare_run, Shown}
use Rattle.granit_answers.proofs.RowsTold.{Start, told_of, told_none}

abbrev pub failed : Fault → FeedGiven → Result (List PlainEvent) Fault
failed g r = r >>= λ y. Err g

module _ (o : OptionsData) (x : List ℕ) where
  -- the answer where comments are asked for
  abbrev pub Asked : Result (List PlainEvent) Fault
  Asked = lex o (start_of x) >>= answer_to o true (mark_of (start_of x))

  pub asked_run : o.emit_comments ≡ true → run o x ≡ Asked
  asked_run on = ap (λ v. lex o (start_of x) >>= answer_to o v (mark_of (start_of x))) on

  -- the same without the comments
  pub bare_of : (es : List PlainEvent) → Asked ≡ Ok es → Bare o x ≡ Ok (but_comments es)
  bare_of es r = sym (run_same false o (start_of x)) ∙ run_given o (start_of x) es (run_same true o (start_of x) ∙ r)

  pub bare_silent : (es : List PlainEvent) → Bare o x ≡ Ok es → but_comments es ≡ es
  bare_silent es r = none_told o (start_of x) es (run_same false o (start_of x) ∙ r)

  shown_alike : (r s : FeedGiven) (f : Fault) → Alike r s → Shown o x r ≡ Err f → Shown o x s ≡ Err f
  shown_alike (Ok y) s f a e = absurd cc
  shown_alike (Err g) s f a e = ap (Shown o x) a ∙ e

  failed_alike : (g : Fault) (r s : FeedGiven) (f : Fault) → Alike r s → failed g r ≡ Err f → failed g s ≡ Err f
  failed_alike g (Ok y) s f a e = ap (failed g) a.1 ∙ e
  failed_alike g (Err h) s f a e = ap (failed g) a ∙ e

  given_alike : (r s : FeedGiven) (es : List PlainEvent) → Alike r s → Shown o x r ≡ Ok es →
      (gs : List PlainEvent) × (Shown o x s ≡ Ok gs)
  given_alike (Ok y) s es a e = (event_on StreamStart (mark_of (start_of x)) ∷ a.0.0, ap (Shown o x) a.1)
  given_alike (Err g) s es a e = absurd cc

  same_events : (r : Result (List PlainEvent) Fault) (es ds : List PlainEvent) → r ≡ Ok es → r ≡ Ok ds → es ≡ ds
  same_events r es ds a b = cc

  module _ (items : List Item) (t : LexState) (e : lex o (start_of x) ≡ Ok (items, t)) where
    pub asked_to_end : t.fault ≡ None → Asked ≡ Shown o x (feed_all o (flagged items) (Start o x))
    asked_to_end f =
        ap (λ (r : Result Lexed Fault). r >>= answer_to o true (mark_of (start_of x))) e
        ∙ ap (λ fault. run_answer o (mark_of (start_of x)) (flagged items) t.reader.laid fault) f

    pub asked_stopped : (g : Fault) → t.fault ≡ Some g →
        Asked ≡ failed g (feed_all o (settled t.reader.laid (flagged items)) (Start o x))
    asked_stopped g f =
        ap (λ (r : Result Lexed Fault). r >>= answer_to o true (mark_of (start_of x))) e
        ∙ ap (λ fault. run_answer o (mark_of (start_of x)) (flagged items) t.reader.laid fault) f

    pub bare_to_end : t.fault ≡ None → Bare o x ≡ Shown o x (feed_all o (asked_items false (flagged items)) (Start o x))
    bare_to_end f =
        ap (λ (r : Result Lexed Fault). r >>= answer_to o false (mark_of (start_of x))) e
        ∙ ap (λ fault. run_answer o (mark_of (start_of x)) (asked_items false (flagged items)) t.reader.laid fault) f

    pub bare_failed : (g : Fault) → t.fault ≡ Some g →
        Bare o x ≡ failed g (feed_all o (asked_items false (settled t.reader.laid (flagged items))) (Start o x))
    bare_failed g f =
        ap (λ (r : Result Lexed Fault). r >>= answer_to o false (mark_of (start_of x))) e
        ∙ ap (λ fault. run_answer o (mark_of (start_of x)) (asked_items false (flagged items)) t.reader.laid fault) f
        ∙ ap (λ (is : List FlaggedItem). failed g (feed_all o is (Start o x)))
        (settled_asked t.reader.laid (flagged items))

    asked_fault : (f : Fault) (fault : Option Fault) → t.fault ≡ fault →
        NoRow o (Start o x) (told_of (is_none fault) t.reader.laid (flagged items)) → Bare o x ≡ Err f → Asked ≡ Err f
    asked_fault f None n none r =
        asked_to_end n
        ∙ shown_alike (feed_all o (asked_items false (flagged items)) (Start o x))
        (feed_all o (flagged items) (Start o x)) f
        (fed_alike o (Start o x) (flagged items) refl refl none) (sym (bare_to_end n) ∙ r)
    asked_fault f (Some g) n none r =
        let told = settled t.reader.laid (flagged items) in
        asked_stopped g n
        ∙ failed_alike g (feed_all o (asked_items false told) (Start o x)) (feed_all o told (Start o x)) f
        (fed_alike o (Start o x) told refl refl none) (sym (bare_failed g n) ∙ r)

    pub same_fault : (f : Fault) → NoneTold o (is_none t.fault) t.reader.laid items → Bare o x ≡ Err f → run o x ≡ Err f
    same_fault f none r = by o.emit_comments refl
      where
        by : (v : Bool) → o.emit_comments ≡ v → run o x ≡ Err f
        by false off = bare_run o x off ∙ r
        by true on =
            asked_run on
            ∙ asked_fault f t.fault refl (told_none o x items t e (is_none t.fault) on none) r

    pub same_answer : (es : List PlainEvent) → t.fault ≡ None → NoneTold o true t.reader.laid items → Bare o x ≡ Ok es →
        (gs : List PlainEvent) × (run o x ≡ Ok gs) × (but_comments gs ≡ es)
    same_answer es f none r = by o.emit_comments refl
      where
        by : (v : Bool) → o.emit_comments ≡ v → (gs : List PlainEvent) × (run o x ≡ Ok gs) × (but_comments gs ≡ es)
        by false off = (es, bare_run o x off ∙ r, bare_silent es r)
        by true on =
            let a = given_alike (feed_all o (asked_items false (flagged items)) (Start o x))
            (feed_all o (flagged items) (Start o x)) es
            (fed_alike o (Start o x) (flagged items) refl refl (told_none o x items t e true on none))
            (sym (bare_to_end f) ∙ r) in
            let asked = asked_to_end f ∙ a.1 in
            (a.0, asked_run on ∙ asked, same_events (Bare o x) (but_comments a.0) es (bare_of a.0 asked) r)
