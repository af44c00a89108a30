-- A text has a reading or a cause, not both, and one cause at most.
use Rattle.std.proofs.Common.{◌≡◌, ℕ, Bool, true, false, List, None, Result, Ok, Err, ◌⊎◌, inl, inr, refl, sym, ap, ◌∙◌}
use Rattle.std.proofs.Common.{subst}
use Rattle.granit_error.specs.OptionsData.{OptionsData}
use Rattle.granit_order.specs.Answers.{comment_events, only_comments}
use Rattle.granit_order.specs.Answers.{but_comments}
use Rattle.granit_order.proofs.BracketsKept.{run_same}
use Rattle.granit_order.proofs.BracketsKept.{run_told}
use Rattle.granit_comment_places.proofs.CommentsStand.{none_given}
use Rattle.granit_language.specs.Reached.{ReadWhole}
use Rattle.granit_language.specs.Seen.{terminals_of}
use Rattle.granit_language.specs.Telling.{events_told}
use Rattle.granit_language.specs.TextFault.{ItemsBefore, NoneTold, OfLexemes, to_end, before_stop, OfReading}
use Rattle.granit_language.specs.TextFault.{OfComments, WholeCause}
use Rattle.granit_language.specs.TreeEvents.{TreeEvent}
use Rattle.granit_language.specs.Whole.{WholeReading}
use Rattle.granit_lexemes.specs.Here.{start_of}
use Rattle.granit_lexemes.specs.Lexeme.{Item}
use Rattle.granit_lexemes.specs.Outcome.{Fault}
use Rattle.granit_lexemes.specs.PlainEvent.{PlainEvent}
use Rattle.granit_machine.proofs.ClosingLemmas.{FeedGiven}
use Rattle.granit_machine.specs.Frames.{ParserState}
use Rattle.granit_machine.specs.Lexing.{flagged, lex}
use Rattle.granit_machine.specs.Machine.{feed_all, run}
use Rattle.granit_machine.specs.Reader.{LexState}
use Rattle.granit_machine.specs.ReaderState.{ReaderState, reader_start}
use Rattle.granit_read_answers.proofs.Misspelt.{one_whole}
use Rattle.granit_order.specs.Answers.{AnswersReading}
use Rattle.granit_answers.proofs.Answered.{bare_run, bare_reads, bare_answered, Shown}
use Rattle.granit_answers.proofs.Asked.{Asked, asked_run, asked_to_end, bare_of, bare_silent, same_answer}
use Rattle.granit_answers.proofs.RowsTold.{Start, none_told, unasked_none}
use Rattle.granit_answers.proofs.Caused.{read_whole, answered_by, reading_by}
use Rattle.granit_answers.proofs.CommentsCaused.{any_fault_caused, comments_answered}

-- ---- what is answered is a reading

module _ (o : OptionsData) (x : List ℕ) where
  shown_given : (r : FeedGiven) (es : List PlainEvent) → Shown o x r ≡ Ok es →
      (gs : List PlainEvent) × (p : ParserState) × (r ≡ Ok (gs, p))
  shown_given (Ok (gs, p)) es e = (gs, p, refl)
  shown_given (Err f) es e = absurd cc

  none_told_in : (items : List Item) (t : LexState) (es : List PlainEvent) → lex o (start_of x) ≡ Ok (items, t) →
      t.fault ≡ None → Asked o x ≡ Ok es → NoneTold o true t.reader.laid items
  none_told_in items t es e f r =
      let (gs, p, fed) = shown_given (feed_all o (flagged items) (Start o x)) es (sym (asked_to_end o x items t e f)
      ∙ r) in
      none_told o x items t e true (none_given o (Start o x) p (flagged items) gs refl refl fed)

  told_in : (items : List Item) (t : LexState) (es : List PlainEvent) → lex o (start_of x) ≡ Ok (items, t) →
      t.fault ≡ None → Asked o x ≡ Ok es → only_comments es ≡ comment_events (flagged items)
  told_in items t es e f r =
      let (others, s, whole, told) = run_told o (start_of x) es (run_same true o (start_of x) ∙ r) in
      let same = (one_whole o (start_of x) others items true true s t.reader whole
      (read_whole o x items t None e f)).0 in
      told ∙ ap (λ (items : List Item). comment_events (flagged items)) same

  answer_by : (es : List PlainEvent) → run o x ≡ Ok es → (v : Bool) → o.emit_comments ≡ v → AnswersReading o x es
  answer_by es r false off =
      let bare = sym (bare_run o x off) ∙ r in
      let y = bare_reads o x es bare in
      record {
        items = y.items;
        state = y.state;
        are_read = y.are_read;
        to_end = y.to_end;
        stand = y.stand;
        tree_events = y.tree_events;
        reading = y.reading;
        told = y.told ∙ sym (bare_silent o x es bare);
        comments = λ on. absurd (never_asked (sym off ∙ on));
        none = unasked_none o true y.state.reader.laid y.items off;
      }
    where
      never_asked : false ≡ true → ⊥
      never_asked e = cc (e)
  answer_by es r true on =
      let asked = sym (asked_run o x on) ∙ r in
      let y = bare_reads o x (but_comments es) (bare_of o x es asked) in
      record {
        items = y.items;
        state = y.state;
        are_read = y.are_read;
        to_end = y.to_end;
        stand = y.stand;
        tree_events = y.tree_events;
        reading = y.reading;
        told = y.told;
        comments = λ on. told_in y.items y.state es y.are_read y.to_end asked;
        none = none_told_in y.items y.state es y.are_read y.to_end asked;
      }

  pub answer_reads : (es : List PlainEvent) → run o x ≡ Ok es → AnswersReading o x es
  answer_reads es r = answer_by es r o.emit_comments refl

  pub reading_answered : (items : List Item) (t : LexState) (es : List TreeEvent) → lex o (start_of x) ≡ Ok (items, t) →
      t.fault ≡ None → WholeReading o (terminals_of items) es → NoneTold o true t.reader.laid items →
      (gs : List PlainEvent) × (run o x ≡ Ok gs) × (but_comments gs ≡ events_told o es)
  reading_answered items t es e f r none =
      same_answer o x items t e (events_told o es) f none (bare_answered o x items t es e f r)

  pub unasked_silent : (es : List PlainEvent) → o.emit_comments ≡ false → run o x ≡ Ok es → but_comments es ≡ es
  unasked_silent es off r = bare_silent o x es (sym (bare_run o x off) ∙ r)

  -- ---- one cause

  err_same : (f g : Fault) → ◌≡◌ {A = Result (List PlainEvent) Fault} (Err f) (Err g) → f ≡ g
  err_same f g e = cc (e)

  never_both : (es : List PlainEvent) (f : Fault) → ◌≡◌ {A = Result (List PlainEvent) Fault} (Ok es) (Err f) → ⊥
  never_both es f e = cc

  -- no comment is one too many where there is another cause
  one_too_many : (items : List Item) (s : ReaderState) (ended : Bool) (f : Fault) →
      ReadWhole o (reader_start (start_of x)) items ended s → NoneTold o ended s.laid items → OfComments o x f → ⊥
  one_too_many items s ended f w none c =
      let same = one_whole o (start_of x) c.items items c.ended ended c.state s c.whole w in
      let before : ItemsBefore ended s.laid (flagged items) c.given =
      subst (λ ended. ItemsBefore ended s.laid (flagged items) c.given) same.1
      (subst (λ (s : ReaderState). ItemsBefore c.ended s.laid (flagged items) c.given) same.2
      (subst (λ (items : List Item). ItemsBefore c.ended c.state.laid (flagged items) c.given) same.0 c.before)) in
      none c.asked c.given before c.front f c.many

  pub lexemes_or_comments : (f g : Fault) → OfLexemes o x f → OfComments o x g → ⊥
  lexemes_or_comments f g (to_end {items = items} {s = s} w c none is) d = one_too_many items s true g w none d
  lexemes_or_comments f g
      (before_stop {items = items} {s = s} front w b c none is) d = one_too_many items s false g w none d

  pub reading_or_comments : (f g : Fault) → OfReading o x f → OfComments o x g → ⊥
  reading_or_comments f g c d = one_too_many c.items c.state false g c.whole c.none d

  answered_same : (f g : Fault) → run o x ≡ Err f → run o x ≡ Err g → f ≡ g
  answered_same f g a b = err_same f g (sym a ∙ b)

  -- each cause is the answer
  pub cause_answered : (f : Fault) → WholeCause o x f → run o x ≡ Err f
  cause_answered f (inl c) = answered_by o x f c
  cause_answered f (inr (inl c)) = reading_by o x f c
  cause_answered f (inr (inr c)) = comments_answered o x f c

  pub one_cause : (f g : Fault) → WholeCause o x f → WholeCause o x g → f ≡ g
  one_cause f g c d = answered_same f g (cause_answered f c) (cause_answered g d)

  pub no_cause : (f : Fault) (es : List PlainEvent) → run o x ≡ Ok es → WholeCause o x f → ⊥
  no_cause f es r c = never_both es f (sym r ∙ cause_answered f c)

  pub reading_or_cause : ((es : List PlainEvent) × AnswersReading o x es) ⊎ ((f : Fault) × WholeCause o x f)
  reading_or_cause = by (run o x) refl
    where
      by : (r : Result (List PlainEvent) Fault) → run o x ≡ r →
          ((es : List PlainEvent) × AnswersReading o x es) ⊎ ((f : Fault) × WholeCause o x f)
      by (Ok es) e = inl (es, answer_reads es e)
      by (Err f) e = inr (f, any_fault_caused o x f e)
