-- From a `---` on the text that is left is read as from its own start.
use Rattle.std.proofs.Common.{◌≡◌, ℕ, suc, Bool, true, false, List, [], ◌∷◌, Option, Some, None, Result, Ok, refl, sym}
use Rattle.std.proofs.Common.{ap, ap₂, ◌∙◌, subst}
use Rattle.granit_base.specs.Place.{Mark}
use Rattle.granit_error.specs.OptionsData.{OptionsData}
use Rattle.granit_lexemes.specs.Here.{Here, mark_of}
use Rattle.granit_lexemes.specs.Comment.{CommentRead}
use Rattle.granit_lexemes.specs.Lexeme.{DocumentStart, KeyStart, Lexeme, LexemeKind, Item, OfLexeme}
use Rattle.granit_lexemes.specs.Source.{Source}
use Rattle.granit_lexemes.specs.Moves.{steps}
use Rattle.granit_lexemes.specs.Outcome.{Fault, ◌>>=◌}
use Rattle.granit_lexemes.specs.Pieces.{then_more, turns, pieces}
use Rattle.granit_lexemes.specs.PlainEvent.{PlainEvent}
use Rattle.granit_machine.specs.Closing.{close_turn}
use Rattle.granit_machine.specs.Frames.{ParserState}
use Rattle.granit_machine.specs.Parser.{feed}
use Rattle.granit_machine.specs.Reader.{lex_turn, behind_read}
use Rattle.granit_machine.specs.ReaderState.{Read}
use Rattle.granit_restart.proofs.AheadLaws.{turn_next}
use Rattle.granit_restart.specs.Boundary.{is_separated}
use Rattle.granit_restart.specs.Restart.{dropped}
use Rattle.granit_steps.specs.Steps.{StepState, Turn, first_pending, next_event, step_size, step_turn, pushed}
use Rattle.granit_steps.specs.Steps.{unflagged, with_read}
use Rattle.granit_steps.specs.Told.{GivesEvents}
use Rattle.granit_behind.proofs.AloneStates.{seen_first, afresh, gives_from, own_state}
use Rattle.granit_behind.proofs.LineGaps.{Seen, here_at, laid_at}
use Rattle.granit_behind.proofs.Outer.{both_fresh, fresh_at}
use Rattle.granit_behind.proofs.OuterSteps.{alike, same_reading, gives_alike, reading_at}
use Rattle.granit_behind.proofs.StartReads.{marked, start_lexeme, start_read, three_alike}
use Rattle.granit_behind.proofs.TextEnds.{asked}

-- a `---` was read that ends there
abbrev pub start_state : ℕ → Here → Lexeme → ParserState → StepState
start_state number k l p = record {
  reading = reading_at k (laid_at (suc number) false) None;
  queue = unflagged (OfLexeme l) ∷ [];
  parser = p;
  pending = [];
}

-- a `---` with that span, whatever else is told of it
abbrev pub as_start : Lexeme → Source → Lexeme
as_start y shown = record y { kind = DocumentStart; shown = shown; key = None; tail = None }

as_it_is : (y : Lexeme) (shown : Source) → y.kind ≡ DocumentStart → y.key ≡ None → y.tail ≡ None → y.shown ≡ shown
    → as_start y shown ≡ y
as_it_is y shown kind key tail e =
    ap₂ (λ (kind : LexemeKind) (shown : Source). record y { kind = kind; shown = shown; key = None; tail = None })
    (sym kind) (sym e)
    ∙ ap₂ (λ (key : Option KeyStart) (tail : Option CommentRead). record y { key = key; tail = tail }) (sym key)
    (sym tail)

module _ (o : OptionsData) where
  -- all else is of no matter
  begins_turn : (number : ℕ) (k : Here) (x y : Lexeme) (shown : Source) (p : ParserState) (m : Mark)
      → step_turn o (start_state number k (as_start x shown) (fresh_at m p))
      ≡ step_turn o (start_state number k (as_start y shown) (fresh_at m p))
  unfolding step_turn feed pieces turns close_turn
  begins_turn number k x y shown p m = refl

  abbrev event_by : ℕ → Turn → Result (Option PlainEvent × StepState) Fault
  event_by n r = r >>= (λ x. then_more (turns (step_turn o) n) x.0 x.1) >>= λ x. Ok (first_pending x.1.pending x.1)

  begins_next : (number : ℕ) (k : Here) (x y : Lexeme) (shown : Source) (p : ParserState) (m : Mark)
      → next_event o (start_state number k (as_start x shown) (fresh_at m p))
      ≡ next_event o (start_state number k (as_start y shown) (fresh_at m p))
  unfolding next_event pieces turns
  begins_next number k x y shown p m =
      ap (event_by (step_size (start_state number k (as_start x shown) (fresh_at m p))))
      (begins_turn number k x y shown p m)

  -- the text alone reads its `---`
  own_turn : (number : ℕ) (behind : List ℕ) (offset : Option ℕ) (lends : Bool) (i n : ℕ) (p : ParserState) (m : Mark)
      → is_separated behind ≡ true
      → step_turn o (record {
        reading = reading_at (here_at (marked behind) offset lends i n seen_first) (laid_at number true) None;
        queue = [];
        parser = fresh_at m p;
        pending = [];
      })
      ≡ Ok (
        Some [],
        start_state number (steps 3 (here_at (marked behind) offset lends i n seen_first))
            (start_lexeme number (here_at (marked behind) offset lends i n seen_first)) (fresh_at m p),
      )
  unfolding step_turn lex_turn
  own_turn number behind offset lends i n p m e =
      let h = here_at (marked behind) offset lends i n seen_first in
      let s : StepState = record {
        reading = reading_at h (laid_at number true) None;
        queue = [];
        parser = fresh_at m p;
        pending = [];
      } in
      ap (λ (r : Read). behind_read r s.reading.reader >>= λ x. Ok (Some [], with_read o s x))
      (start_read o number behind offset lends i n e)
      ∙ ap (λ (is : List Item). let x : Turn = Ok (
        Some [],
        record {
          reading = reading_at (steps 3 h) (laid_at (suc number) false) None;
          queue = pushed [] is;
          parser = fresh_at m p;
          pending = [];
        },
      ) in x) (asked o.emit_comments (start_lexeme number h))

  -- ---- a `---` that waits

  -- it gives what the text does that is left, where nothing of that was read
  pub waits_gives : (s : StepState) (h k : Here) (y : Lexeme) (behind : List ℕ) (es : List PlainEvent)
      (f : Option Fault) → h.place.column ≡ 0 → h.unread.text ≡ marked behind → is_separated behind ≡ true
      → k ≡ steps 3 h → y.kind ≡ DocumentStart → y.key ≡ None → y.tail ≡ None
      → y.shown ≡ record { start = mark_of h; end = mark_of k }
      → GivesEvents o (own_state s.reading.reader.laid.number h s.parser) es f
      → GivesEvents o (start_state s.reading.reader.laid.number k y (dropped s.parser)) es f
  waits_gives s h k y behind es f column text separated is kind key tail shown gives =
      let number = s.reading.reader.laid.number in
      let p = dropped s.parser in
      let m = mark_of (afresh h) in
      let at = λ (text : List ℕ) (seen : Seen).
      here_at text h.unread.offset h.unread.lends h.place.index h.place.line seen in
      let in_column = λ (column : ℕ).
      let seen : Seen = record { column = column; begins_line = h.begins_line; tab = h.tab } in seen in
      let there : h ≡ at (marked behind) (in_column 0) =
      ap₂ (λ (text : List ℕ) (column : ℕ). at text (in_column column)) text column in
      let own = at (marked behind) seen_first in
      let span : Source = record { start = mark_of own; end = mark_of k } in
      let x : Lexeme = record (start_lexeme number own) { shown = span; end = mark_of k } in
      let told = subst (λ (text : List ℕ). GivesEvents o (record {
        reading = reading_at (at text seen_first) (laid_at number true) None;
        queue = [];
        parser = fresh_at m p;
        pending = [];
      }) es f) text gives in
      let same : steps 3 own ≡ k =
      three_alike behind h.unread.offset h.unread.lends h.place.index h.place.line seen_first (in_column 0) refl
      ∙ sym (is ∙ ap (steps 3) there) in
      let read = gives_from o _ (start_state number (steps 3 own) (start_lexeme number own) (fresh_at m p)) es f
      (turn_next o _ _ [] (own_turn number behind h.unread.offset h.unread.lends h.place.index h.place.line p m
      separated)) told in
      let moved = subst (λ (k : Here). GivesEvents o (start_state number k (record (start_lexeme number own) {
        shown = record { start = mark_of own; end = mark_of k };
        end = mark_of k;
      }) (fresh_at m p)) es f) same read in
      let ended = gives_alike o _ (start_state number k x (fresh_at s.parser.last_end p)) es f
      (alike (same_reading _) (both_fresh m s.parser.last_end p) _ []) moved in
      let here = ap (λ (h : Here). let span : Source = record { start = mark_of h; end = mark_of k } in span) there in
      subst (λ (y : Lexeme). GivesEvents o (start_state number k y (fresh_at s.parser.last_end p)) es f)
      (as_it_is y span kind key tail (shown ∙ here))
      (gives_from o _ _ es f (begins_next number k x y span p s.parser.last_end) ended)
