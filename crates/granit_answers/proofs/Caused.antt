-- Why a text is refused.
use Rattle.std.proofs.Common.{◌≡◌, ℕ, Bool, true, false, not, List, [], ◌∷◌, ◌++◌, map, Option, Some, None, Result, Ok}
use Rattle.std.proofs.Common.{Err, inl, inr, refl, sym, ap, ap₂, ◌∙◌, subst}
use Rattle.std.specs.Prelude.{is_none}
use Rattle.granit_error.specs.OptionsData.{OptionsData}
use Rattle.granit_order.proofs.BracketsKept.{Lexed, answer_to}
use Rattle.granit_order.specs.Order.{item_of}
use Rattle.granit_agreement.proofs.Parsed.{parsed_faults, parsed_viable, faults_parsed, viable_parsed}
use Rattle.granit_order.specs.Order.{IsFresh}
use Rattle.granit_order.specs.Order.{FairRun}
use Rattle.granit_agreement.proofs.Parsed.{viable_blocked}
use Rattle.granit_language.specs.Reached.{ReadRefused, ReadStopped, ReadWhole, EndsBy}
use Rattle.granit_language.specs.Scope.{no_scope}
use Rattle.granit_language.specs.Seen.{Flagged, terminal_seen, read_lexemes}
use Rattle.granit_language.specs.TextFault.{AreSettled, FirstIsOpen, SettledFront, NoneTold, OfLexemes, to_end}
use Rattle.granit_language.specs.TextFault.{before_stop, OfReading, WholeCause}
use Rattle.granit_language.specs.Whole.{Viable}
use Rattle.granit_lexemes.proofs.PieceLemmas.{same_error}
use Rattle.granit_lexemes.specs.Here.{start_of, mark_of}
use Rattle.granit_lexemes.specs.Lexeme.{Item}
use Rattle.granit_lexemes.specs.Outcome.{Fault, fault_at, ◌>>=◌}
use Rattle.granit_lexemes.specs.PlainEvent.{PlainEvent}
use Rattle.granit_machine.specs.Frames.{ParserState, parser_start}
use Rattle.granit_machine.specs.Laid.{Laid}
use Rattle.granit_machine.specs.Lexing.{FlaggedItem, flagged, lex}
use Rattle.granit_machine.specs.Machine.{asked_items, feed_all, settled, run_answer, run}
use Rattle.granit_machine.specs.PossibleKeys.{is_possible}
use Rattle.granit_machine.specs.Reader.{read, LexState}
use Rattle.granit_machine.specs.ReaderState.{ReaderState, reader_start}
use Rattle.granit_read_answers.proofs.Misspelt.{lexed}
use Rattle.granit_read_answers.proofs.Sources.{Nameless, lex_none}
use Rattle.granit_read_answers.proofs.Misspelt.{cause_refused}
use Rattle.granit_read_answers.proofs.Misspelt.{lexed_whole, all_read_whole, one_whole}
use Rattle.granit_answers.proofs.Answered.{asked_are, Bare, bare_is, in_order, fair, Fed, Shown, shown_fault}
use Rattle.granit_answers.proofs.Answered.{front_flagged, settled_front, settled_are, settled_order}
use Rattle.granit_answers.proofs.Asked.{same_fault}
use Rattle.granit_order.proofs.OrderSteps.{ordered_fair}

-- ---- the front that the parser has

settles : (l : Laid) (front more : List Flagged) → AreSettled l front → FirstIsOpen l more → settled_front l
    (front ++ more) ≡ front
settles l [] [] s w = refl
settles l [] (f ∷ more) s w = ap (λ b. front_flagged (not b) f (settled_front l more)) w
settles l (f ∷ front) more s w =
    ap (λ b. front_flagged (not b) f (settled_front l (front ++ more))) s.0
    ∙ ap (λ (fs : List Flagged). f ∷ fs) (settles l front more s.1 w)

front_is : (l : Laid) (fs front : List Flagged) → SettledFront l fs front → settled_front l fs ≡ front
front_is l fs front s = ap (settled_front l) s.is ∙ settles l front s.more s.settled s.waits

front_on :
    (l : Laid) (f : Flagged) (fs front : List Flagged) (v : Bool) → is_possible f.0.number l ≡ v →
    SettledFront l fs front → SettledFront l (f ∷ fs) (front_flagged (not v) f front)
front_on l f fs front true e s = record { more = f ∷ fs; is = refl; settled = tt; waits = e }
front_on l f fs front false e s = record {
  more = s.more;
  is = ap (λ (fs : List Flagged). f ∷ fs) s.is;
  settled =
      (e, s.settled);
  waits = s.waits;
}

is_front : (l : Laid) (fs : List Flagged) → SettledFront l fs (settled_front l fs)
is_front l [] = record { more = []; is = refl; settled = tt; waits = tt }
is_front l (f ∷ fs) = front_on l f fs (settled_front l fs) (is_possible f.0.number l) refl (is_front l fs)

-- ---- what is answered where reading stops

module _ (o : OptionsData) (x : List ℕ) where
  abbrev Given : List Flagged → Result (List PlainEvent × ParserState) Fault
  Given front = feed_all o (map item_of front) (parser_start (mark_of (start_of x)))

  bare_stopped :
      (items : List Item) (t : LexState) (g : Fault) → lex o (start_of x) ≡ Ok (items, t) →
      t.fault ≡ Some g → Bare o x ≡ (Given (settled_front t.reader.laid (read_lexemes items)) >>= λ y. Err g)
  bare_stopped items t g e f =
      ap (λ (r : Result Lexed Fault). r >>= answer_to o false (mark_of (start_of x))) e
      ∙ ap (λ fault. run_answer o (mark_of (start_of x)) (asked_items false (flagged items)) t.reader.laid fault) f
      ∙ ap (λ (is : List FlaggedItem). feed_all o is (parser_start (mark_of (start_of x))) >>= λ y. Err g)
      (ap (settled t.reader.laid) (asked_are (flagged items)) ∙ settled_are t.reader.laid (read_lexemes items))

  front_fair :
      (items : List Item) (t : LexState) (l : Laid) → lex o (start_of x) ≡ Ok (items, t) →
      FairRun (settled_front l (read_lexemes items)) no_scope IsFresh
  front_fair items t l e =
      ordered_fair (settled_front l (read_lexemes items))
      (settled_order l (read_lexemes items) no_scope [] None false (in_order o x items t e))

  err_same : (f g : Fault) → ◌≡◌ {A = Result (List PlainEvent) Fault} (Err f) (Err g) → f ≡ g
  err_same f g e = cc (e)

  -- ---- a fault has its cause

  pub read_whole :
      (items : List Item) (t : LexState) (fault : Option Fault) → lex o (start_of x) ≡ Ok (items, t) → t.fault ≡ fault →
      ReadWhole o (reader_start (start_of x)) items (is_none fault) t.reader
  read_whole items t fault e f =
      subst (λ fault. ReadWhole o (reader_start (start_of x)) items (is_none fault) t.reader) f
      (lexed_whole o (start_of x) items t e).whole

  stop_refused :
      (items : List Item) (t : LexState) (g : Fault) → lex o (start_of x) ≡ Ok (items, t) → t.fault ≡ Some g →
      ReadRefused o t.reader g.kind g.mark
  stop_refused items t g e f = subst (EndsBy o items t.reader) f (lexed o (start_of x) items t e).ends

  of_reading :
      (items : List Item) (t : LexState) (g : Fault) (y : List PlainEvent × ParserState) →
      lex o (start_of x) ≡ Ok (items, t) → t.fault ≡ Some g → NoneTold o false t.reader.laid items →
      Given (settled_front t.reader.laid (read_lexemes items)) ≡ Ok y → OfReading o x g
  of_reading items t g y e f none given =
      let front = settled_front t.reader.laid (read_lexemes items) in
      record {
        items = items;
        state = t.reader;
        whole = read_whole items t (Some g) e f;
        front = front;
        settled = is_front t.reader.laid (read_lexemes items);
        viable = parsed_viable o (mark_of (start_of x)) front y (front_fair items t t.reader.laid e) given;
        refused = stop_refused items t g e f;
        unnamed = subst Nameless f (lex_none o (start_of x) items t e);
        none = none;
      }

  cause_of_stop :
      (items : List Item) (t : LexState) (f g : Fault) → lex o (start_of x) ≡ Ok (items, t) → t.fault ≡ Some g →
      NoneTold o false t.reader.laid items → (r : Result (List PlainEvent × ParserState) Fault) →
      Given (settled_front t.reader.laid (read_lexemes items)) ≡ r →
      ◌≡◌ {A = Result (List PlainEvent) Fault} (r >>= λ y. Err g) (Err f) → WholeCause o x f
  cause_of_stop items t f g e fault none (Ok y) given r =
      subst (WholeCause o x) (err_same g f r) (inr (inl (of_reading items t g y e fault none given)))
  cause_of_stop items t f g e fault none (Err h) given r =
      let front = settled_front t.reader.laid (read_lexemes items) in
      let c = parsed_faults o (mark_of (start_of x)) front h (front_fair items t t.reader.laid e) given in
      inl
      (before_stop front (read_whole items t (Some g) e fault) (is_front t.reader.laid (read_lexemes items)) c.2 none
      (sym (err_same h f r) ∙ c.3))

  -- a fault without comments, where none is one too many
  pub bare_caused :
      (items : List Item) (t : LexState) (f : Fault) → lex o (start_of x) ≡ Ok (items, t) →
      (fault : Option Fault) → t.fault ≡ fault → NoneTold o (is_none fault) t.reader.laid items → Bare o x ≡ Err f →
      WholeCause o x f
  bare_caused items t f e None fault none r =
      let c = parsed_faults o (mark_of (start_of x)) (read_lexemes items) f (fair o x items t e)
      (shown_fault o x (Fed o x items) f (sym (bare_is o x items t e fault) ∙ r)) in
      inl (to_end (read_whole items t None e fault) c.2 none c.3)
  bare_caused items t f e (Some g) fault none r =
      cause_of_stop items t f g e fault none (Given (settled_front t.reader.laid (read_lexemes items))) refl
      (sym (bare_stopped items t g e fault) ∙ r)

  -- ---- a cause is answered

  pub none_is : (fault : Option Fault) → is_none fault ≡ true → fault ≡ None
  none_is None e = refl
  none_is (Some f) e = absurd cc

  pub some_is : (fault : Option Fault) → is_none fault ≡ false → (f : Fault) × (fault ≡ Some f)
  some_is None e = absurd cc
  some_is (Some f) e = (f, refl)

  -- what is said of the state where reading ends
  none_left :
      (items : List Item) (s : ReaderState) (ended : Bool) (t : LexState) → is_none t.fault ≡ ended → t.reader ≡ s →
      NoneTold o ended s.laid items → NoneTold o (is_none t.fault) t.reader.laid items
  none_left items s ended t e f none =
      subst (λ ended. NoneTold o ended t.reader.laid items) (sym e)
      (subst (λ (s : ReaderState). NoneTold o ended s.laid items) (sym f) none)

  pub answered_by : (f : Fault) → OfLexemes o x f → run o x ≡ Err f
  answered_by f (to_end {items = items} {s = s} {k = k} {x = y} w c none is) =
      let t = all_read_whole o (start_of x) items true s w in
      same_fault o x items t.0 t.1 f (none_left items s true t.0 t.2 t.3 none)
      (bare_is o x items t.0 t.1 (none_is t.0.fault t.2)
      ∙ ap (Shown o x) (faults_parsed o (mark_of (start_of x)) (read_lexemes items) k y (fair o x items t.0 t.1) c)
      ∙ ap (λ f. Err f) (sym is))
  answered_by f (before_stop {items = items} {s = s} {k = k} {x = y} front w b c none is) =
      let t = all_read_whole o (start_of x) items false s w in
      let g = some_is t.0.fault t.2 in
      let same : settled_front t.0.reader.laid (read_lexemes items) ≡ front =
      ap (λ (s : ReaderState). settled_front s.laid (read_lexemes items)) t.3 ∙ front_is s.laid
      (read_lexemes items) front b in
      same_fault o x items t.0 t.1 f (none_left items s false t.0 t.2 t.3 none)
      (bare_stopped items t.0 g.0 t.1 g.1
      ∙ ap (λ r. r >>= λ y. Err g.0)
      (ap Given same
      ∙ faults_parsed o (mark_of (start_of x)) front k y
      (subst (λ fs. FairRun fs no_scope IsFresh) same (front_fair items t.0 t.0.reader.laid t.1)) c)
      ∙ ap (λ f. Err f) (sym is))

  pub refused_by : (f : Fault) → OfReading o x f → (g : Fault) × (run o x ≡ Err g) × OfReading o x g
  refused_by f c =
      let t = all_read_whole o (start_of x) c.items false c.state c.whole in
      let g = some_is t.0.fault t.2 in
      let same : settled_front t.0.reader.laid (read_lexemes c.items) ≡ c.front =
      ap (λ (s : ReaderState). settled_front s.laid (read_lexemes c.items)) t.3
      ∙ front_is c.state.laid (read_lexemes c.items) c.front c.settled in
      let y = viable_parsed o (mark_of (start_of x)) c.front
      (subst (λ fs. FairRun fs no_scope IsFresh) same (front_fair c.items t.0 t.0.reader.laid t.1)) c.viable in
      let given = ap Given same ∙ y.1 in
      let none = subst (λ (s : ReaderState). NoneTold o false s.laid c.items) (sym t.3) c.none in (
        g.0,
        same_fault o x c.items t.0 t.1 g.0 (none_left c.items c.state false t.0 t.2 t.3 c.none)
            (bare_stopped c.items t.0 g.0 t.1 g.1 ∙ ap (λ r. r >>= λ y. Err g.0) given),
        of_reading c.items t.0 g.0 y.0 t.1 g.1 none given,
      )

  -- what the place is refused for is the answer
  pub reading_by : (f : Fault) → OfReading o x f → run o x ≡ Err f
  unfolding refused_by some_is
  reading_by f c =
      let t = all_read_whole o (start_of x) c.items false c.state c.whole in
      let g = some_is t.0.fault t.2 in
      let there : read o c.state ≡ Err g.0 =
      subst (λ (s : ReaderState). read o s ≡ Err g.0) t.3
      ((lexed_whole o (start_of x) c.items t.0 t.1).refused g.0 g.1) in
      let same : g.0 ≡ fault_at f.kind f.mark =
      same_error g.0 (fault_at f.kind f.mark) (sym there ∙ cause_refused o c.state c.refused) in
      (refused_by f c).1
      ∙ ap (λ (f : Fault). Err f) (same ∙ ap (λ (sources : List _). record f { sources = sources }) (sym c.unnamed))

  pub exact_by :
      (f : Fault) → (c : OfReading o x f) → ReadStopped o c.state f.kind f.mark → f.sources ≡ [] → run o x ≡ Err f
  exact_by f c p none = reading_by f c

pub causes_apart :
    (o : OptionsData) (x : List ℕ) (f g : Fault) → OfLexemes o x f → OfReading o x g → ⊥
causes_apart o x f g (to_end {items = items} {s = s} w c none is) r =
    let same = (one_whole o (start_of x) items r.items true false s r.state w r.whole).1 in cc (same)
causes_apart o x f g (before_stop {items = items} {s = s} {k = k} {x = y} front w b c none is) r =
    let same = one_whole o (start_of x) items r.items false false s r.state w r.whole in
    let fronts : front ≡ r.front =
    sym (front_is s.laid (read_lexemes items) front b)
    ∙ (ap₂ (λ (s : ReaderState) (items : List Item). settled_front s.laid (read_lexemes items)) same.2 same.0
    ∙ front_is r.state.laid (read_lexemes r.items) r.front r.settled) in
    viable_blocked o (map terminal_seen front) k y c
    (subst (λ front. Viable o (map terminal_seen front)) (sym fronts) r.viable)

-- two causes of reading are at one place
pub one_stop :
    (o : OptionsData) (x : List ℕ) (f g : Fault) (c : OfReading o x f) (d : OfReading o x g) →
    (c.items ≡ d.items) × (c.state ≡ d.state)
one_stop o x f g c d =
    let same = one_whole o (start_of x) c.items d.items false false c.state d.state c.whole d.whole in (same.0, same.2)
