-- A text has one reading at most, as trees and as events.
pub use Rattle.granit_answers.proofs.OneCause.{answer_reads, cause_answered, reading_answered}
pub use Rattle.granit_answers.proofs.CommentsCaused.{any_fault_caused}
use Rattle.std.proofs.Common.{◌≡◌, ℕ, true, List, [], ◌∷◌, ◌++◌, map, None, Ok, Result, refl, sym}
use Rattle.std.proofs.Common.{ap, ◌∙◌, subst}
use Rattle.std.proofs.lemmas.List.{append-nil}
use Rattle.granit_lexemes.proofs.PieceLemmas.{fault_none}
use Rattle.granit_declared.specs.DeclaredReading.{AnswersReading}
use Rattle.granit_declared.proofs.CommentsSaid.{one_telling}
use Rattle.granit_declared.proofs.ReadingSaid.{answer_declared, flags_are}
use Rattle.granit_declared.specs.DeclaredReading.{DeclaredReading}
use Rattle.granit_declared.specs.DeclaredReading.{items_of, FlagsSay}
use Rattle.granit_declared.specs.DeclaredReading.{CommentsTold}
use Rattle.granit_error.specs.OptionsData.{OptionsData}
use Rattle.granit_grammar.proofs.Complete.{one_stream}
use Rattle.granit_grammar.proofs.Numbers.{stream_named}
use Rattle.granit_quiet.specs.CommentEvents.{comment_events, only_comments}
use Rattle.granit_quiet.specs.Quiet.{but_comments}
use Rattle.granit_language.specs.Node.{Stream}
use Rattle.granit_language.specs.Placed.{StreamPlaced}
use Rattle.granit_language.specs.Reached.{Reached, ReadWhole}
use Rattle.granit_language.specs.Reading.{IsReading, KeysFit, LinesFit}
use Rattle.granit_language.specs.Scope.{no_scope}
use Rattle.granit_language.specs.Scoping.{scoped, Means}
use Rattle.granit_language.specs.Seen.{terminal_seen, lexemes_flagged, terminals_of}
use Rattle.granit_language.specs.Telling.{events_told}
use Rattle.granit_language.specs.Terminal.{Terminal}
use Rattle.granit_language.specs.TextFault.{NoneTold, NoneTooMany}
use Rattle.granit_language.specs.TreeEvents.{stream_events}
use Rattle.granit_language.specs.Within.{stream_within}
use Rattle.granit_language.specs.Yield.{spell_stream}
use Rattle.granit_lexemes.specs.Here.{start_of}
use Rattle.granit_lexemes.specs.Lexeme.{Item}
use Rattle.granit_lexemes.specs.Outcome.{Fault}
use Rattle.granit_lexemes.specs.PlainEvent.{PlainEvent}
use Rattle.granit_machine.specs.Laid.{Laid}
use Rattle.granit_machine.specs.Lexing.{FlaggedItem, flagged}
use Rattle.granit_machine.specs.Machine.{run}
use Rattle.granit_machine.specs.Reader.{LexState}
use Rattle.granit_machine.specs.ReaderState.{ReaderState, reader_start}
use Rattle.granit_quiet.proofs.TellStream.{lexed}
use Rattle.granit_quiet.proofs.TellStream.{all_read_whole, one_whole}
use Rattle.granit_readings.proofs.TerminalsFit.{terminals_lines, terminals_keys, scoped_lines, scoped_keys}
use Rattle.granit_readings.specs.ReadAsTrees.{ReadAsTrees}

items_of_answer : (xs ys : List Item) (s t : LexState) →
    ◌≡◌ {A = Result (List Item × LexState) Fault} (Ok (xs, s)) (Ok (ys, t)) → xs ≡ ys
items_of_answer xs ys s t e =
    let f : ◌≡◌ {A = List Item × LexState} (xs, s) (ys, t) = cc in ap (λ (y : List Item × LexState). y.0) f

-- ---- the items of a text

module _ (o : OptionsData) (x : List ℕ) where
  abbrev All : List FlaggedItem → ReaderState → Type 0
  All items state = ReadWhole o (reader_start (start_of x)) (items_of items) true state

  reaches : (items : List FlaggedItem) (state : ReaderState) → All items state →
      (t : ReaderState) × Reached o (reader_start (start_of x)) (items_of items) t
  reaches items state w =
      let r = all_read_whole o (start_of x) (items_of items) true state w in
      (r.0.reader, (lexed o (start_of x) (items_of items) r.0 r.1).reached)

  flags_known : (items : List FlaggedItem) (state : ReaderState) → All items state → FlagsSay o x [] items →
      items ≡ flagged (items_of items)
  flags_known items state w f =
      let r = reaches items state w in flags_are o x (items_of items) r.0 items r.1 refl f

  pub items_once : (xs ys : List FlaggedItem) (s t : ReaderState) → All xs s → All ys t → FlagsSay o x [] xs →
      FlagsSay o x [] ys → xs ≡ ys
  items_once xs ys s t v w f g =
      let same = (one_whole o (start_of x) (items_of xs) (items_of ys) true true s t v w).0 in
      flags_known xs s v f ∙ ap (λ (is : List Item). flagged is) same ∙ sym (flags_known ys t w g)

  -- ---- trees

  abbrev Lexemes : List FlaggedItem → List Terminal
  Lexemes items = scoped no_scope (map terminal_seen (lexemes_flagged items))

  lexemes_fit : (items : List FlaggedItem) (state : ReaderState) → All items state → FlagsSay o x [] items →
      LinesFit (Lexemes items) × KeysFit (None ∷ []) (Lexemes items)
  lexemes_fit items state w f =
      let r = reaches items state w in
      let same = sym (flags_known items state w f) in (
        subst (λ (is : List FlaggedItem). LinesFit (Lexemes is)) same
            (scoped_lines no_scope _ (terminals_lines o (start_of x) (items_of items) r.0 r.1)),
        subst (λ (is : List FlaggedItem). KeysFit (None ∷ []) (Lexemes is)) same
            (scoped_keys no_scope (None ∷ []) _ (terminals_keys o (start_of x) (items_of items) r.0 r.1)),
      )

  pub is_reading : (items : List FlaggedItem) (state : ReaderState) (s : Stream) → All items state →
      FlagsSay o x [] items → spell_stream s [] ≡ Lexemes items → StreamPlaced s → IsReading (Lexemes items) s
  is_reading items state s w f e p =
      let fit = lexemes_fit items state w f in
      record {
        spelled = e;
        placed = p;
        named = stream_named s p (subst (KeysFit (None ∷ [])) (sym e) fit.1);
        lines = fit.0;
      }

  pub trees_items : (s t : Stream) → (a : ReadAsTrees o x s) → (b : ReadAsTrees o x t) → a.items ≡ b.items
  trees_items s t a b = items_once a.items b.items a.state b.state a.stand b.stand a.flags b.flags

  pub trees_once : (s t : Stream) → ReadAsTrees o x s → ReadAsTrees o x t → s ≡ t
  trees_once s t a b =
      one_stream s t a.reading.placed b.reading.placed
      (a.reading.spelled ∙ ap Lexemes (trees_items s t a b) ∙ sym b.reading.spelled)

  pub declared_trees : (es : List PlainEvent) → (d : DeclaredReading o x es) → ReadAsTrees o x d.reading.stream
  declared_trees es d =
      record {
        items = d.items;
        state = d.state;
        stand = d.stand;
        flags = d.flags;
        reading =
            is_reading d.items d.state d.reading.stream d.stand d.flags d.reading.spelled d.reading.placed;
      }

  pub answer_trees : (es : List PlainEvent) → run o x ≡ Ok es →
      (s : Stream) × ReadAsTrees o x s × (but_comments es ≡ events_told o (stream_events s []))
  answer_trees es e =
      let d = answer_declared o x es (answer_reads o x es e) in
      (d.reading.stream, declared_trees es d, sym d.told ∙ ap (events_told o) d.reading.events_are)

  -- ---- trees are answered

  none_told : (l : Laid) (items : List FlaggedItem) → (o.emit_comments ≡ true → NoneTooMany o items) →
      items ≡ flagged (items_of items) → NoneTold o true l (items_of items)
  none_told l items n same e given b =
      subst (NoneTooMany o)
      (same ∙ (b.is ∙ (ap (λ (more : List FlaggedItem). given ++ more) (b.all refl) ∙ append-nil given))) (n e)

  pub trees_answered : (s : Stream) → (r : ReadAsTrees o x s) → stream_within o.block_nesting_limit s ≡ true →
      Means o (spell_stream s []) → (o.emit_comments ≡ true → NoneTooMany o r.items) →
      (es : List PlainEvent) × (run o x ≡ Ok es) × (but_comments es ≡ events_told o (stream_events s []))
  trees_answered s r within means none =
      let lexed = all_read_whole o (start_of x) (items_of r.items) true r.state r.stand in
      let same = flags_known r.items r.state r.stand r.flags in
      let spelled = r.reading.spelled ∙ ap Lexemes same in
      reading_answered o x (items_of r.items) lexed.0 (stream_events s []) lexed.1 (fault_none lexed.0.fault lexed.2)
      (record {
        stream = s;
        spelled = spelled;
        placed = r.reading.placed;
        within = within;
        means = subst (Means o) spelled means;
        events_are = refl;
      }) (none_told lexed.0.reader.laid r.items none same)

  -- ---- events

  pub declared_once : (es gs : List PlainEvent) → (a : DeclaredReading o x es) → (b : DeclaredReading o x gs) →
      (a.items ≡ b.items) × (a.reading.stream ≡ b.reading.stream) × (a.tree_events ≡ b.tree_events)
      × (but_comments es ≡ but_comments gs) × (o.emit_comments ≡ true → only_comments es ≡ only_comments gs)
  declared_once es gs a b =
      let items = items_once a.items b.items a.state b.state a.stand b.stand a.flags b.flags in
      let trees = trees_once a.reading.stream b.reading.stream (declared_trees es a) (declared_trees gs b) in
      let events =
      a.reading.events_are ∙ ap (λ (s : Stream). stream_events s []) trees ∙ sym b.reading.events_are in (
        items,
        trees,
        events,
        sym a.told ∙ ap (events_told o) events ∙ b.told,
        λ e. one_telling b.items (only_comments es) (only_comments gs)
            (subst (λ (is : List FlaggedItem). CommentsTold is (only_comments es)) items (a.comments e)) (b.comments e),
      )

  answers_items : (es gs : List PlainEvent) → (a : AnswersReading o x es) → (b : AnswersReading o x gs) →
      a.items ≡ b.items
  answers_items es gs a b = items_of_answer a.items b.items a.state b.state (sym a.are_read ∙ b.are_read)

  pub answers_once : (es gs : List PlainEvent) → (a : AnswersReading o x es) → (b : AnswersReading o x gs) →
      (a.items ≡ b.items) × (a.reading.stream ≡ b.reading.stream) × (a.tree_events ≡ b.tree_events)
      × (but_comments es ≡ but_comments gs) × (o.emit_comments ≡ true → only_comments es ≡ only_comments gs)
  answers_once es gs a b =
      let items = answers_items es gs a b in
      let spelled =
      a.reading.spelled ∙ ap (λ (is : List Item). scoped no_scope (terminals_of is)) items ∙ sym b.reading.spelled in
      let trees = one_stream a.reading.stream b.reading.stream a.reading.placed b.reading.placed spelled in
      let events =
      a.reading.events_are ∙ ap (λ (s : Stream). stream_events s []) trees ∙ sym b.reading.events_are in (
        items,
        trees,
        events,
        sym a.told ∙ ap (events_told o) events ∙ b.told,
        λ e. a.comments e ∙ ap (λ (is : List Item). comment_events (flagged is)) items ∙ sym (b.comments e),
      )
