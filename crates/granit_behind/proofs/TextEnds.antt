-- Where nothing is left the end of the stream is told.
pub use Rattle.granit_reading.proofs.ReadingLaw.{ReadsBy, read-is}
pub use Rattle.granit_reading.proofs.Answering.{Answers}
use Rattle.std.proofs.Common.{◌≡◌, ℕ, Bool, true, false, List, [], ◌∷◌, Option, Some, None, Result, Ok, refl, sym, ap}
use Rattle.std.proofs.Common.{◌∙◌, subst}
use Rattle.granit_base.specs.Classes.{is_blank, is_break, is_breakz, is_gap, is_bom, is_z}
use Rattle.granit_base.specs.Place.{Mark}
use Rattle.granit_error.specs.OptionsData.{OptionsData}
use Rattle.granit_language.specs.Begins.{Begins, at_end}
use Rattle.granit_lexemes.specs.Here.{Here, mark_of}
use Rattle.granit_lexemes.specs.Lexeme.{StreamEnd, Lexeme, Item, OfLexeme}
use Rattle.granit_lexemes.specs.Outcome.{Fault, ◌>>=◌}
use Rattle.granit_lexemes.specs.Pieces.{turns, pieces}
use Rattle.granit_lexemes.specs.PlainEvent.{PlainEvent, event_on}
use Rattle.granit_lexemes.specs.PlainEvent as events
use Rattle.granit_machine.specs.Closing.{close_turn}
use Rattle.granit_machine.specs.Frames.{ParserState}
use Rattle.granit_machine.specs.Gaps.{past_gap, gap_ends, ready_gap}
use Rattle.granit_machine.specs.Laid.{Laid}
use Rattle.granit_machine.specs.LexemeSort.{LexemeSort, TextEnd, sort_at}
use Rattle.granit_machine.specs.Parser.{feed}
use Rattle.granit_machine.specs.Reader.{read, lexeme_by, read_whole, lex_turn, behind_read}
use Rattle.granit_machine.specs.ReaderState.{Read, lexeme_to}
use Rattle.granit_machine.specs.StreamLexemes.{behind_end}
use Rattle.granit_reading.proofs.SortAnswers.{sort_answers}
use Rattle.granit_restart.proofs.AheadLaws.{turn_next, waits_next}
use Rattle.granit_restart.specs.Restart.{dropped}
use Rattle.granit_steps.specs.Steps.{StepState, incoming, next_event, pushed, step_turn, with_read}
use Rattle.granit_steps.specs.Told.{gives_end, gives_event}
use Rattle.granit_behind.proofs.LineGaps.{laid_at}
use Rattle.granit_behind.proofs.OuterSteps.{reading_at}
use Rattle.granit_led.specs.Alone.{TellsEnd}

abbrev end_lexeme : ℕ → Bool → Here → Lexeme
end_lexeme number may h = lexeme_to false StreamEnd (mark_of h) h (laid_at number may)

read_by : (o : OptionsData) (number : ℕ) (may : Bool) (h : Here) (r : Read)
    → h.unread.text ≡ [] → lexeme_by o TextEnd h (laid_at number may) >>= (λ y. read_whole o y.0 y.1) ≡ r
    → lexeme_by o (sort_at false false h) h (laid_at number may) >>= (λ y. read_whole o y.0 y.1) ≡ r
read_by o number may h r e same =
    ap (λ (sort : LexemeSort). lexeme_by o sort h (laid_at number may) >>= λ y. read_whole o y.0 y.1)
    (sort_answers false false h (subst (λ (text : List ℕ). Begins false false h.place.column text TextEnd) (sym e)
    at_end))
    ∙ same

-- the end is read
abbrev pub ReadsEnd : OptionsData → ℕ → Bool → Here → Type 0
ReadsEnd o number may h =
    read o (record { here = h; laid = laid_at number may })
    ≡ Ok (OfLexeme (end_lexeme number may h) ∷ [], record { here = h; laid = behind_end (laid_at number may) })

-- a place with nothing left, where a line begins or not
abbrev bare_at : Bool → Here → Here
bare_at begins h = record h { unread = record (h.unread) { text = [] }; begins_line = begins }

end_read : (o : OptionsData) (number : ℕ) (may begins : Bool) (h : Here) → ReadsEnd o number may (bare_at begins h)
unfolding read past_gap gap_ends ready_gap lexeme_by is_gap is_blank is_break is_bom is_breakz is_z
end_read o number true true h = read_by o number true (bare_at true h) _ refl refl
end_read o number true false h = read_by o number true (bare_at false h) _ refl refl
end_read o number false true h = read_by o number false (bare_at true h) _ refl refl
end_read o number false false h = read_by o number false (bare_at false h) _ refl refl

pub end_is_read : (o : OptionsData) (number : ℕ) (may : Bool) (h : Here) → h.unread.text ≡ [] → ReadsEnd o number may h
end_is_read o number may h e =
    subst (λ (text : List ℕ). ReadsEnd o number may (record h { unread = record (h.unread) { text = text } })) (sym e)
    (end_read o number may h.begins_line h)

-- ---- the calls

pub asked : (b : Bool) (l : Lexeme) → incoming b (OfLexeme (record l { tail = None }) ∷ [])
    ≡ OfLexeme (record l { tail = None }) ∷ []
asked true l = refl
asked false l = refl

abbrev state_with : Laid → Bool → List Item → ParserState → List PlainEvent → Here → StepState
state_with l ended items p es h = record {
  reading = record { reader = record { here = h; laid = l }; ended = ended; fault = None };
  queue = pushed [] items;
  parser = p;
  pending = es;
}

module _ (o : OptionsData) (p : ParserState) where
  -- what is left of the parser
  abbrev ended_parser : Mark → ParserState
  ended_parser m = record (dropped p) { last_end = m }

  read_turn : (number : ℕ) (may : Bool) (h : Here) → h.unread.text ≡ []
      → step_turn o (state_with (laid_at number may) false [] (dropped p) [] h)
      ≡ Ok (
        Some [],
        state_with (behind_end (laid_at number may)) true (OfLexeme (end_lexeme number may h) ∷ []) (dropped p) [] h,
      )
  unfolding step_turn lex_turn
  read_turn number may h e =
      let s = state_with (laid_at number may) false [] (dropped p) [] h in
      ap (λ (r : Read). behind_read r s.reading.reader >>= λ x. Ok (Some [], with_read o s x))
      (end_is_read o number may h e)
      ∙ ap (λ (is : List Item). let x : Result (Option (List PlainEvent) × StepState) Fault =
      Ok (Some [], state_with (behind_end (laid_at number may)) true is (dropped p) [] h) in x)
      (asked o.emit_comments (end_lexeme number may h))

  feed_turn : (number : ℕ) (may : Bool) (h : Here)
      → step_turn o (state_with (behind_end (laid_at number may)) true (OfLexeme (end_lexeme number may h) ∷ [])
      (dropped p) [] h)
      ≡ Ok (
        Some [],
        state_with (behind_end (laid_at number may)) true [] (ended_parser (mark_of h))
            (event_on events.StreamEnd (mark_of h) ∷ []) h,
      )
  unfolding step_turn feed pieces turns close_turn
  feed_turn number may h = refl

  done : (l : Laid) (q : ParserState) (h : Here)
      → next_event o (state_with l true [] q [] h) ≡ Ok (None, state_with l true [] q [] h)
  unfolding next_event pieces turns step_turn
  done l q h = refl

  pub end_tells : (number : ℕ) (may : Bool) (h : Here) → h.unread.text ≡ []
      → TellsEnd o h (record {
        reading = reading_at h (laid_at number may) None;
        queue = [];
        parser = dropped p;
        pending = [];
      })
  end_tells number may h e =
      let l = behind_end (laid_at number may) in
      let told = event_on events.StreamEnd (mark_of h) in
      gives_event (turn_next o _ _ [] (read_turn number may h e)
      ∙ turn_next o _ _ [] (feed_turn number may h)
      ∙ waits_next o (state_with l true [] (ended_parser (mark_of h)) [] h) told [])
      (gives_end (done l (ended_parser (mark_of h)) h))
