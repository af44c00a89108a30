-- Where a `---` waits, reading has not ended.
use Rattle.std.proofs.Common.{◌≡◌, ℕ, Bool, true, false, List, [], ◌∷◌, ◌++◌, Option, Some, None, Result, Ok, Err}
use Rattle.std.proofs.Common.{refl, sym, ap, subst, ◌∙◌}
use Rattle.std.proofs.lemmas.Bool.{or_parts}
use Rattle.std.specs.Prelude.{if◌then◌else◌}
use Rattle.granit_error.specs.OptionsData.{OptionsData}
use Rattle.granit_lexemes.specs.Here.{Here}
use Rattle.granit_lexemes.specs.Lexeme as lexemes
use Rattle.granit_lexemes.specs.Lexeme.{Item, Lexeme, LexemeKind, OfComment, OfLexeme}
use Rattle.granit_lexemes.specs.Outcome.{Fault, ◌>>=◌}
use Rattle.granit_lexemes.specs.PlainEvent.{PlainEvent}
use Rattle.granit_machine.specs.Frames.{ParserState}
use Rattle.granit_machine.specs.Laid.{Laid}
use Rattle.granit_machine.specs.Lexing.{FlaggedItem}
use Rattle.granit_machine.specs.Parser.{feed}
use Rattle.granit_machine.specs.Reader.{behind_read, is_end, is_end_kind, lex_turn, LexState, read}
use Rattle.granit_machine.specs.ReaderState.{Read}
use Rattle.granit_restart.proofs.MarkLaws.{items, pushed_items}
use Rattle.granit_restart.specs.Boundary.{AtStart, AtTextEnd, Boundary, next_boundary, PastEnd}
use Rattle.granit_restart.specs.Restart.{at_boundary, at_found, at_lexeme, behind_fault, behind_fault_at, cursor_at}
use Rattle.granit_restart.specs.Restart.{read_boundary}
use Rattle.granit_alone.proofs.EndMarks.{led_holds}
use Rattle.granit_alone.proofs.EndMarks.{none_waits, one_waits}
use Rattle.granit_alone.proofs.EndMarks.{any_starts, is_start, starts}
use Rattle.granit_alone.proofs.EndMarks.{StartLast}
use Rattle.granit_alone.specs.Behind.{Led, led_anew, led_keeping, led_on, led_start, led_with}
use Rattle.granit_steps.proofs.Futures.{pushed_nil}
use Rattle.granit_steps.proofs.KeyReads.{Items, Lexed, possibles, read_keys}
use Rattle.granit_steps.specs.Steps.{front_turn, incoming, line_behind, may_go, pushed, read_more, read_unless}
use Rattle.granit_steps.specs.Steps.{step_turn, StepState, Turn, turn_by, with_fed, with_read}

-- whether the last of items is a `---`
last_starts : Bool → List Item → Bool
last_starts before [] = before
last_starts before (i ∷ is) = last_starts (starts i) is

last_one : (before : Bool) (xs : List Item) (i : Item) → last_starts before (xs ++ i ∷ []) ≡ starts i
unfolding last_starts
last_one before [] i = refl
last_one before (x ∷ xs) i = last_one (starts x) xs i

last_of : (before : Bool) (xs ys : List Item) → ((b : Bool) → last_starts b ys ≡ false)
    → last_starts before (xs ++ ys) ≡ false
unfolding last_starts
last_of before [] ys none = none before
last_of before (x ∷ xs) ys none = last_of (starts x) xs ys none

not_start : (kind : LexemeKind) → is_end_kind kind ≡ true → is_start kind ≡ false
not_start lexemes.StreamEnd e = refl
not_start kind e = absurd (cc)

end_last : (asked b : Bool) (number : ℕ) (before : List ℕ) (is : List Item) (t : Laid) → Items number before is t
    → is_end is ≡ true → last_starts b (incoming asked is) ≡ false
unfolding last_starts
end_last asked b number before [] t p e = absurd p
end_last asked b number before (OfComment c ∷ is) t p e = absurd (cc)
end_last true b number before (OfLexeme l ∷ []) t p e = not_start l.kind e
end_last true b number before (OfLexeme l ∷ OfComment c ∷ []) t p e = refl
end_last true b number before (OfLexeme l ∷ OfComment c ∷ i ∷ is) t p e = absurd p.3
end_last true b number before (OfLexeme l ∷ OfLexeme x ∷ is) t p e = absurd p.3
end_last false b number before (OfLexeme l ∷ []) t p e = not_start l.kind e
end_last false b number before (OfLexeme l ∷ OfComment c ∷ []) t p e = not_start l.kind e
end_last false b number before (OfLexeme l ∷ OfComment c ∷ i ∷ is) t p e = absurd p.3
end_last false b number before (OfLexeme l ∷ OfLexeme x ∷ is) t p e = absurd p.3

items_one : (xs : List FlaggedItem) (f : FlaggedItem) → items (xs ++ f ∷ []) ≡ items xs ++ f.item ∷ []
items_one [] f = refl
items_one (x ∷ xs) f = ap (λ is. x.item ∷ is) (items_one xs f)

-- ---- a turn

abbrev EndBare : StepState → Type 0
EndBare s = s.reading.ended ≡ true → any_starts (items s.queue) ≡ false

abbrev TurnBare : Turn → Type 0
TurnBare (Ok x) = StartLast x.1.reading x.1.queue → EndBare x.1
TurnBare (Err f) = Unit {0}

fed_bare : (s : StepState) (i : FlaggedItem) (is : List FlaggedItem)
    (r : Result (List PlainEvent × ParserState) Fault) → s.queue ≡ i ∷ is → EndBare s
    → TurnBare (r >>= λ x. Ok (Some [], with_fed s is x))
fed_bare s i is (Ok x) queue bare = λ last ended.
    (or_parts (starts i.item) (any_starts (items is))
    (subst (λ (q : List FlaggedItem). any_starts (items q) ≡ false) queue (bare ended))).1
fed_bare s i is (Err f) queue bare = tt

came_bare : (q front : List FlaggedItem) (is came : List Item) (x : Lexeme) (flag : Bool)
    → q ≡ front ++ record { item = OfLexeme x; begins_key = flag } ∷ [] → items q ≡ is ++ came → is_start x.kind ≡ true
    → ((b : Bool) → last_starts b came ≡ false) → ⊥
came_bare q front is came x flag are come start none =
    let a : last_starts false (items q) ≡ true =
    ap (λ (q : List FlaggedItem). last_starts false (items q)) are
    ∙ ap (last_starts false) (items_one front (record { item = OfLexeme x; begins_key = flag }))
    ∙ last_one false (items front) (OfLexeme x) ∙ start in
    let b : last_starts false (items q) ≡ false = ap (last_starts false) come ∙ last_of false is came none in
    let c : true ≡ false = sym a ∙ b in cc

last_bare : (l : LexState) (q : List FlaggedItem) (is came : List Item) → items q ≡ is ++ came → StartLast l q
    → ((b : Bool) → last_starts b came ≡ false) → any_starts (items q) ≡ false
last_bare l q is came e (none_waits none) ends = none
last_bare l q is came e (one_waits w fault) ends =
    absurd (came_bare q w.front is came w.lexeme w.flag w.are e (ap is_start w.stands.kind) ends)

module _ (o : OptionsData) where
  read_bare : (s : StepState) (r : Read) → Lexed s.reading.reader.laid.number (possibles s.reading.reader.laid) r
      → TurnBare (behind_read r s.reading.reader >>= λ x. Ok (Some [], with_read o s x))
  read_bare s (Ok x) lexed = λ last ended.
      last_bare _ (pushed s.queue (incoming o.emit_comments x.0)) (items s.queue) (incoming o.emit_comments x.0)
      (pushed_items s.queue (incoming o.emit_comments x.0)) last
      (λ b. end_last o.emit_comments b s.reading.reader.laid.number (possibles s.reading.reader.laid) x.0 x.1.laid lexed
      ended)
  read_bare s (Err f) lexed = λ last ended. absurd (cc)

  lexed_bare : (b : Bool) (s : StepState) → s.reading.ended ≡ b → EndBare s
      → TurnBare ((if b then Ok (None, s.reading) else behind_read (read o s.reading.reader) s.reading.reader)
      >>= λ x. Ok (Some [], with_read o s x))
  lexed_bare true s e bare = λ last ended.
      subst (λ (q : List FlaggedItem). any_starts (items q) ≡ false) (sym (pushed_nil o.emit_comments s.queue))
      (bare ended)
  lexed_bare false s e bare = read_bare s (read o s.reading.reader) (read_keys o s.reading.reader)

  unless_bare : (f : Option Fault) (s : StepState) → EndBare s → TurnBare (read_unless o f s)
  unfolding lex_turn
  unless_bare (Some f) s bare = tt
  unless_bare None s bare = lexed_bare s.reading.ended s refl bare

  more_bare : (b : Bool) (s : StepState) → EndBare s → TurnBare (read_more o b s)
  more_bare true s bare = λ last. bare
  more_bare false s bare = unless_bare s.reading.fault s bare

  front_bare : (b : Bool) (i : FlaggedItem) (is : List FlaggedItem) (s : StepState) → s.queue ≡ i ∷ is → EndBare s
      → TurnBare (front_turn b o i is s)
  front_bare true i is s queue bare = fed_bare s i is (feed o i (line_behind s.reading is) s.parser) queue bare
  front_bare false i is s queue bare = more_bare s.reading.ended s bare

  by_bare : (es : List PlainEvent) (q : List FlaggedItem) (s : StepState) → s.queue ≡ q → EndBare s
      → TurnBare (turn_by o es q s)
  by_bare (e ∷ es) q s queue bare = λ last. bare
  by_bare [] [] s queue bare = more_bare s.reading.ended s bare
  by_bare [] (i ∷ is) s queue bare = front_bare (may_go s.reading i is) i is s queue bare

  turn_bare : (s : StepState) → EndBare s → TurnBare (step_turn o s)
  unfolding step_turn
  turn_bare s bare = by_bare s.pending s.queue s refl bare

-- ---- a restart

boundary_bare : (s : StepState) (b : Boundary) → EndBare (at_boundary s b).1
boundary_bare s (AtStart h) = λ e. absurd (cc)
boundary_bare s (PastEnd h) = λ e. absurd (cc)
boundary_bare s (AtTextEnd h) = λ e. absurd (cc)

lexeme_bare : (h : Here) (s : StepState) (kind : LexemeKind) (l : Lexeme) → EndBare (at_lexeme h s kind l).1
lexeme_bare h s lexemes.DocumentStart l = λ e. absurd (cc)
lexeme_bare h s lexemes.DocumentEnd l = λ e. absurd (cc)
lexeme_bare h s kind l = λ e. absurd (cc)

found_bare : (h : Here) (s : StepState) (r : Option Lexeme) → EndBare (at_found h s r).1
found_bare h s (Some l) = lexeme_bare h s l.kind l
found_bare h s None = boundary_bare s (next_boundary h)

restart_bare : (stop : Here) (s : StepState) → EndBare (behind_fault stop s).1
unfolding behind_fault_at
restart_bare stop s = let h = cursor_at stop s.reading in found_bare h s (read_boundary h s.queue)

-- ---- wherever turns and restarts lead

pub led_bare : (o : OptionsData) (s : StepState) → Led o s → s.reading.ended ≡ true
    → any_starts (items s.queue) ≡ false
led_bare o s (led_start h) = λ e. absurd (cc)
led_bare o s (led_on {s = before} {t = t} {given = given} led e) =
    let x : TurnBare (Ok (given, t)) = subst TurnBare e (turn_bare o before (led_bare o before led)) in
    x (led_holds o s (led_on led e)).last
led_bare o s (led_with {s = before} p es led kept) = led_bare o before led
led_bare o s (led_anew {s = before} stop led) = restart_bare stop before
led_bare o s (led_keeping keep led) = led_bare (record o { keep_tags = keep }) s led
