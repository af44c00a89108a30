-- The spans of a text's events lie in it.
use Rattle.std.proofs.Common.{◌≡◌, ℕ, ◌≤◌, Bool, true, false, List, [], ◌∷◌, ◌++◌, length, map, Option, Some, None}
use Rattle.std.proofs.Common.{Result, Ok, Err, refl, subst, arith}
use Rattle.std.specs.List.{filter}
use Rattle.std.specs.Prelude.{if◌then◌else◌}
use Rattle.granit_base.specs.Place.{Mark}
use Rattle.granit_error.specs.OptionsData.{OptionsData}
use Rattle.granit_language.specs.Counting.{tail_places, lexeme_places, places_of}
use Rattle.granit_language.specs.Reached.{Reached}
use Rattle.granit_lexemes.specs.Comment.{CommentRead}
use Rattle.granit_lexemes.specs.Here.{mark_of, start_of}
use Rattle.granit_lexemes.specs.Lexeme.{Lexeme, Item, OfLexeme, OfComment}
use Rattle.granit_lexemes.specs.Outcome.{Fault, ◌>>=◌}
use Rattle.granit_lexemes.specs.PlainEvent.{PlainEvent, event_on, StreamStart}
use Rattle.granit_machine.specs.Frames.{ParserState, parser_start}
use Rattle.granit_machine.specs.Laid.{Laid}
use Rattle.granit_machine.specs.Lexing.{FlaggedItem, Flagging, is_nearest, flag_lexeme, flagging, flagged, lex}
use Rattle.granit_machine.specs.Machine.{is_lexeme, untailed, asked_items, feed_all, run_answer, run}
use Rattle.granit_machine.specs.Reader.{LexState}
use Rattle.granit_machine.specs.ReaderState.{ReaderState, reader_start}
use Rattle.granit_places.proofs.Counting.{start_at}
use Rattle.granit_places.proofs.PlacesLaw.{CountedTo, AllTo, all_parts, pass_here, pass_then, reached_passes}
use Rattle.granit_places.proofs.Telling.{lexed}
use Rattle.granit_invariants.proofs.ItemSpans.{LexemeRuns, TailRuns, ItemsRun, reached_run}
use Rattle.granit_invariants.proofs.Onward.{reached_whole}
use Rattle.granit_invariants.proofs.SpanSteps.{TailIn, LexemeIn, empty_in}
use Rattle.granit_invariants.proofs.SpanStream.{ItemIn, ItemsIn, FedIn, feed_all_in}
use Rattle.granit_invariants.specs.EventPlaces.{InText, SpansInText, EventsInText}

module _ (x ms : List ℕ) (j : ℕ) (bound : j ≤ length x) where
  place_in : (m : Mark) → CountedTo x ms j m → InText x ms m
  place_in m (i, less, c) = (i, omega (arith, less, bound), c)

  tail_in : (held : Option CommentRead) (rest : List Mark) → AllTo x ms j (tail_places held ++ rest) → TailRuns held
      → TailIn x ms held
  tail_in None rest p r = tt
  tail_in (Some c) rest p r = (place_in c.source.start p.0, place_in c.source.end p.1.0, r)

  lexeme_in : (y : Lexeme) (rest : List Mark) → AllTo x ms j (lexeme_places y ++ rest) → LexemeRuns y → LexemeIn x ms y
  lexeme_in y rest p r = record {
    start = place_in y.start p.0;
    shown = (place_in y.shown.start p.1.0, place_in y.shown.end p.1.1.0, r.1);
    spans = (place_in y.start p.0, place_in y.shown.end p.1.1.0, r.0);
    end = place_in y.end p.1.1.1.0;
    tail = tail_in y.tail rest p.1.1.1.1 r.2;
  }

  -- the items with their flags
  flag_in : (flag : Bool) (y : Lexeme) (f : Flagging) → LexemeIn x ms y → ItemsIn x ms f.0
      → ItemsIn x ms (flag_lexeme flag y f).0
  flag_in true y f l s = (l, s)
  flag_in false y f l s = (l, s)

  flagged_in : (items : List Item) → AllTo x ms j (places_of items) → ItemsRun items → ItemsIn x ms (flagged items)
  flagged_in [] p r = tt
  flagged_in (OfLexeme y ∷ is) p r = flag_in (is_nearest y.number (flagging is).1) y (flagging is)
      (lexeme_in y (places_of is) p r.0) (flagged_in is (all_parts x ms j (lexeme_places y) (places_of is) p).1 r.1)
  flagged_in (OfComment c ∷ is) p r = (
    (place_in c.source.start p.0, place_in c.source.end p.1.0, r.0),
    flagged_in is
        p.1.1 r.1,
  )

-- those that are asked for
asked_in : (x ms : List ℕ) (comments : Bool) (items : List FlaggedItem) → ItemsIn x ms items
    → ItemsIn x ms (asked_items comments items)
asked_in x ms true items p = p
asked_in x ms false items p = without items p
  where
    kept : (i : Item) (flag : Bool) (rest : List FlaggedItem) → ItemIn x ms i → ItemsIn x ms (map untailed rest)
        → ItemsIn x ms (map untailed (if is_lexeme i then record { item = i; begins_key = flag } ∷ rest else rest))
    kept (OfLexeme y) flag rest l s = (
      record {
        start = l.start;
        shown = l.shown;
        spans = l.spans;
        end = l.end;
        tail =
            tt;
      },
      s,
    )
    kept (OfComment c) flag rest l s = s

    without : (items : List FlaggedItem) → ItemsIn x ms items
        → ItemsIn x ms (map untailed (filter (λ i. is_lexeme i.item) items))
    without [] p = tt
    without (i ∷ is) p = kept i.item i.begins_key (filter (λ i. is_lexeme i.item) is) p.0 (without is p.1)

answered_in : (x ms : List ℕ) (o : OptionsData) (m : Mark) (items : List FlaggedItem) (l : Laid) (f : Option Fault)
    (es : List PlainEvent) → InText x ms m → ItemsIn x ms items → run_answer o m items l f ≡ Ok es → SpansInText x ms es
answered_in x ms o m items l None es i p e = on (feed_all o items (parser_start m))
    (feed_all_in x ms o items (parser_start m) p (record { frames = tt; last_end = i; waiting = tt; given = tt })) e
  where
    on : (r : Result (List PlainEvent × ParserState) Fault) → FedIn x ms r
        → (r >>= λ y. Ok (event_on StreamStart m ∷ y.0)) ≡ Ok es → SpansInText x ms es
    on (Ok r) s e = let k : event_on StreamStart m ∷ r.0
        ≡ es = cc in subst (SpansInText x ms) k ((empty_in x ms m i, tt), s.0)
    on (Err f) s e = absurd cc
answered_in x ms o m items l (Some f) es i p e = on (feed_all o _ (parser_start m)) e
  where
    on : (r : Result (List PlainEvent × ParserState) Fault) → (r >>= λ y. Err f) ≡ Ok es → SpansInText x ms es
    on (Ok r) e = absurd cc
    on (Err g) e = absurd cc

reached_events : (o : OptionsData) (x : List ℕ) (items : List Item) (t : ReaderState) (l : Laid) (f : Option Fault)
    (es : List PlainEvent) → Reached o (reader_start (start_of x)) items t
    → run_answer o (mark_of (start_of x)) (asked_items o.emit_comments (flagged items)) l f ≡ Ok es → EventsInText x es
reached_events o x items t l f es r e =
    let p = pass_then x (pass_here x (start_of x)) (reached_passes x o r) (start_at x) in
    let ms = p.further.place.marks in
    let j = p.further.place.index in
    let w = reached_whole o r in
    let c = p.further.place.here.mark.index in
    let bound : j ≤ length x = omega (arith, w, c) in
    let start = place_in x ms j bound (mark_of (start_of x)) p.places.0 in
    let is = asked_in x ms o.emit_comments (flagged items)
    (flagged_in x ms j bound items p.places.1 (reached_run o r)) in
    record {
      marks = ms;
      stand = p.further.place.stand;
      spans = answered_in x ms o (mark_of (start_of x))
          (asked_items o.emit_comments (flagged items)) l f es start is e;
    }

pub events_in_text : (o : OptionsData) (x : List ℕ) (es : List PlainEvent) → run o x ≡ Ok es → EventsInText x es
events_in_text o x es e = on (lex o (start_of x)) refl e
  where
    on : (r : Result (List Item × LexState) Fault) → lex o (start_of x) ≡ r
        → (r >>= λ y. run_answer o (mark_of (start_of x)) (asked_items o.emit_comments (flagged y.0)) y.1.reader.laid
        y.1.fault) ≡ Ok es → EventsInText x es
    on (Ok (items, t)) q e = reached_events o x items t.reader t.reader.laid t.fault es
        (lexed o (start_of x) items t q).reached e
    on (Err f) q e = absurd cc
