-- The machine's answer to a text is what the parser gives for its flagged lexemes.
use Rattle.std.proofs.Common.{◌≡◌, ℕ, Bool, true, false, List, [], ◌∷◌, ◌++◌, map, Option, Some, None, Result, Ok, Err}
use Rattle.std.proofs.Common.{refl, sym, ap, ap₂, ◌∙◌, subst}
use Rattle.granit_error.specs.OptionsData.{OptionsData}
use Rattle.granit_order.specs.Order.{FairRun, GivesTold}
use Rattle.granit_order.specs.Order.{item_of}
use Rattle.granit_language.specs.Seen.{Flagged, terminal_seen, terminal_of, lexemes_flagged, read_lexemes, terminals_of}
use Rattle.granit_agreement.proofs.Parsed.{parsed_events, readings_parsed}
use Rattle.granit_order.specs.Order.{IsFresh}
use Rattle.granit_language.specs.Reached.{EndsBy, Reached}
use Rattle.granit_language.specs.Scope.{Scope, no_scope}
use Rattle.granit_language.specs.Scoping.{next_scope}
use Rattle.granit_language.specs.Telling.{events_told}
use Rattle.granit_language.specs.Terminal.{At, TerminalKind, TheEnd, Terminal, terminal}
use Rattle.granit_language.specs.TreeEvents.{TreeEvent}
use Rattle.granit_language.specs.Whole.{WholeReading}
use Rattle.granit_lexemes.specs.Here.{start_of, mark_of}
use Rattle.granit_lexemes.specs.Lexeme.{StreamEnd, Lexeme, Item, OfLexeme, OfComment}
use Rattle.granit_lexemes.specs.Outcome.{Fault, ◌>>=◌}
use Rattle.granit_lexemes.specs.PlainEvent.{PlainEvent, StreamStart, event_on}
use Rattle.granit_lexemes.specs.declared.layout.Bracket.{Bracket}
use Rattle.granit_machine.proofs.SortLemmas.{end_kind_is}
use Rattle.granit_machine.specs.Frames.{ParserState, parser_start}
use Rattle.granit_machine.specs.Laid.{Laid}
use Rattle.granit_machine.specs.Lexing.{FlaggedItem, Flagging, is_nearest, flag_lexeme, flag_item, flagging, flagged}
use Rattle.granit_machine.specs.Lexing.{lex}
use Rattle.granit_machine.specs.Machine.{asked_items, feed_all, is_settled, front_if, settled, run_answer, run}
use Rattle.granit_machine.specs.Reader.{LexState, is_end}
use Rattle.granit_machine.specs.ReaderState.{reader_start}
use Rattle.granit_read_answers.proofs.Misspelt.{lexed}
use Rattle.granit_read_answers.proofs.ParserSources.{lex_answers}
use Rattle.granit_order.proofs.BracketsKept.{Lexed, answer_to}
use Rattle.granit_order.specs.Order.{EndsThere, OrderedFrom, open_behind, due_behind, may_follow}
use Rattle.granit_order.proofs.OrderSteps.{ordered_fair, make_order}
use Rattle.granit_order.proofs.BracketsKept.{brackets_kept}
use Rattle.granit_order.proofs.KeysKept.{keys_kept}

-- ---- the items that the parser is fed with

asked_one : (item : Item) (flag : Bool) (is : List FlaggedItem) →
    asked_items false is ≡ map item_of (lexemes_flagged is) →
    asked_items false (record { item = item; begins_key = flag } ∷ is) ≡ map item_of
    (lexemes_flagged (record { item = item; begins_key = flag } ∷ is))
asked_one (OfLexeme l) flag is e = ap (λ (more : List FlaggedItem). item_of (l, flag) ∷ more) e
asked_one (OfComment c) flag is e = e

pub asked_are : (is : List FlaggedItem) → asked_items false is ≡ map item_of (lexemes_flagged is)
asked_are [] = refl
asked_are (i ∷ is) = asked_one i.item i.begins_key is (asked_are is)

-- ---- the end is the last lexeme

record HasEnd (fs : List Flagged) : Type 0 where
  front : List Flagged
  end : Flagged
  rest : List Flagged
  is : fs ≡ front ++ (end ∷ rest)
  ends : end.0.kind ≡ StreamEnd

flagged_front : (x : Lexeme) (y : Flagging) → (flag : Bool)
    × (lexemes_flagged (flag_item (OfLexeme x) y).0 ≡ (x, flag) ∷ lexemes_flagged y.0)
flagged_front x y = on (is_nearest x.number y.1)
  where
    on : (v : Bool) → (flag : Bool) × (lexemes_flagged (flag_lexeme v x y).0 ≡ (x, flag) ∷ lexemes_flagged y.0)
    on true = (true, refl)
    on false = (false, refl)

has_end : (front last : List Item) → is_end last ≡ true → HasEnd (read_lexemes (front ++ last))
has_end [] [] e = absurd cc
has_end [] (OfComment c ∷ last) e = absurd cc
has_end [] (OfLexeme x ∷ last) e =
    let p = flagged_front x (flagging last) in
    record { front = []; end = (x, p.0); rest = read_lexemes last; is = p.1; ends = end_kind_is x.kind e }
has_end (OfComment c ∷ front) last e =
    let h = has_end front last e in record { front = h.front; end = h.end; rest = h.rest; is = h.is; ends = h.ends }
has_end (OfLexeme x ∷ front) last e =
    let h = has_end front last e in
    let p = flagged_front x (flagging (front ++ last)) in
    record {
      front = (x, p.0) ∷ h.front;
      end = h.end;
      rest = h.rest;
      is = p.1
          ∙ ap (λ (fs : List Flagged). (x, p.0) ∷ fs) h.is;
      ends = h.ends;
    }

ends_there : (f : Flagged) (rest : List Flagged) (s : Scope) → f.0.kind ≡ StreamEnd →
    EndsThere (terminal_of f.1 s f.0).kind rest → rest ≡ []
ends_there f rest s e p =
    subst (λ kind. EndsThere (Rattle.granit_language.specs.Seen.terminal_kind kind f.0.key) rest) e p

none_behind :
    (front : List Flagged) (f : Flagged) (rest : List Flagged) (s : Scope) (bs : List Bracket) (due : Option ℕ)
    (may : Bool) → f.0.kind ≡ StreamEnd → OrderedFrom (front ++ (f ∷ rest)) s bs due may → rest ≡ []
none_behind [] f rest s bs due may e p = ends_there f rest s e p.1
none_behind (g ∷ front) f rest s bs due may e p =
    let x = terminal_of g.1 s g.0 in
    none_behind front f rest (next_scope x.kind s) (open_behind x.kind bs) (due_behind bs x.kind x.at due)
    (may_follow x.kind) e p.2

map_joined : (xs ys : List Flagged) → map terminal_seen (xs ++ ys) ≡ map terminal_seen xs ++ map terminal_seen ys
map_joined [] ys = refl
map_joined (x ∷ xs) ys = ap (λ (l : List Terminal). terminal_seen x ∷ l) (map_joined xs ys)

seen_end : (f : Flagged) → f.0.kind ≡ StreamEnd → terminal_seen f ≡ terminal TheEnd (terminal_seen f).at
seen_end f e =
    ap (λ kind. terminal (Rattle.granit_language.specs.Seen.terminal_kind kind f.0.key) (terminal_seen f).at) e

record ToEnd (fs : List Flagged) : Type 0 where
  before : List Terminal
  at : At
  are : map terminal_seen fs ≡ before ++ (terminal TheEnd at ∷ [])

to_end : (fs : List Flagged) → HasEnd fs → OrderedFrom fs no_scope [] None false → ToEnd fs
to_end fs h p =
    let none = none_behind h.front h.end h.rest no_scope [] None false h.ends
    (subst (λ (fs : List Flagged). OrderedFrom fs no_scope [] None false) h.is p) in
    record {
      before = map terminal_seen h.front;
      at = (terminal_seen h.end).at;
      are = ap (λ (fs : List Flagged). map terminal_seen fs) h.is ∙ map_joined h.front (h.end ∷ h.rest)
          ∙ ap₂ (λ (y : Terminal) (ys : List Flagged). map terminal_seen h.front ++ (y ∷ map terminal_seen ys))
          (seen_end h.end h.ends) none;
    }

-- ---- the answer

module _ (o : OptionsData) (x : List ℕ) where
  abbrev pub Fed : List Item → Result (List PlainEvent × ParserState) Fault
  Fed items = feed_all o (map item_of (read_lexemes items)) (parser_start (mark_of (start_of x)))

  abbrev pub Shown : Result (List PlainEvent × ParserState) Fault → Result (List PlainEvent) Fault
  Shown r = r >>= λ y. Ok (event_on StreamStart (mark_of (start_of x)) ∷ y.0)

  -- the answer where comments aren't asked for
  abbrev pub Bare : Result (List PlainEvent) Fault
  Bare = lex o (start_of x) >>= answer_to o false (mark_of (start_of x))

  pub bare_run : o.emit_comments ≡ false → run o x ≡ Bare
  bare_run off = ap (λ v. lex o (start_of x) >>= answer_to o v (mark_of (start_of x))) off

  pub bare_is : (items : List Item) (t : LexState) → lex o (start_of x) ≡ Ok (items, t) → t.fault ≡ None →
      Bare ≡ Shown (Fed items)
  bare_is items t e f =
      ap (λ (r : Result Lexed Fault). r >>= answer_to o false (mark_of (start_of x))) e
      ∙ ap (λ fault. run_answer o (mark_of (start_of x)) (asked_items false (flagged items)) t.reader.laid fault) f
      ∙ ap (λ (is : List FlaggedItem). Shown (feed_all o is (parser_start (mark_of (start_of x)))))
      (asked_are (flagged items))

  pub in_order : (items : List Item) (t : LexState) → lex o (start_of x) ≡ Ok (items, t) →
      OrderedFrom (read_lexemes items) no_scope [] None false
  in_order items t e =
      make_order (read_lexemes items) no_scope [] None false
      (brackets_kept o x items t.reader (lexed o (start_of x) items t e).reached)
      (keys_kept o x items t.reader (lexed o (start_of x) items t e).reached)

  pub fair : (items : List Item) (t : LexState) → lex o (start_of x) ≡ Ok (items, t) →
      FairRun (read_lexemes items) no_scope IsFresh
  fair items t e = ordered_fair (read_lexemes items) (in_order items t e)

  shape : (items : List Item) (t : LexState) → lex o (start_of x) ≡ Ok (items, t) → t.fault ≡ None →
      ToEnd (read_lexemes items)
  shape items t e f =
      let (front, last, is, ends) = subst (EndsBy o items t.reader) f (lexed o (start_of x) items t e).ends in
      to_end (read_lexemes items)
      (subst (λ (is : List Item). HasEnd (read_lexemes is)) (sym is) (has_end front last ends)) (in_order items t e)

  never_ok : (r : Result (List PlainEvent × ParserState) Fault) (f : Fault) (es : List PlainEvent) →
      ◌≡◌ {A = Result (List PlainEvent) Fault} (r >>= λ y. Err f) (Ok es) → ⊥
  never_ok (Ok y) f es e = cc
  never_ok (Err g) f es e = cc

  faulty : (items : List Item) (t : LexState) (f : Fault) (es : List PlainEvent) → lex o (start_of x) ≡ Ok (items, t) →
      t.fault ≡ Some f → Bare ≡ Ok es → ⊥
  faulty items t f es e g r =
      never_ok (feed_all o (settled t.reader.laid (asked_items false (flagged items)))
      (parser_start (mark_of (start_of x)))) f es
      (sym (ap (λ (r : Result Lexed Fault). r >>= answer_to o false (mark_of (start_of x))) e
      ∙ ap (λ fault. run_answer o (mark_of (start_of x)) (asked_items false (flagged items))
      t.reader.laid fault) g) ∙ r)

  -- the answer where comments aren't asked for, and what it is read as
  pub record BareReading (es : List PlainEvent) : Type 0 where
    pub items : List Item
    pub state : LexState
    pub are_read : lex o (start_of x) ≡ Ok (items, state)
    pub to_end : state.fault ≡ None
    pub stand : Reached o (reader_start (start_of x)) items state.reader
    pub tree_events : List TreeEvent
    pub reading : WholeReading o (terminals_of items) tree_events
    pub told : events_told o tree_events ≡ es

  fed_reads : (items : List Item) (t : LexState) (es : List PlainEvent) → lex o (start_of x) ≡ Ok (items, t) →
      t.fault ≡ None → (r : Result (List PlainEvent × ParserState) Fault) → Fed items ≡ r → Shown r ≡ Ok es →
      BareReading es
  fed_reads items t es e f (Ok (gs, p)) g r =
      let y = shape items t e f in
      let (tree, reading, told) = parsed_events o (mark_of (start_of x)) (read_lexemes items) y.before y.at gs p
      (fair items t e) y.are g in
      let same : event_on StreamStart (mark_of (start_of x)) ∷ gs ≡ es = cc in
      record {
        items = items;
        state = t;
        are_read = e;
        to_end = f;
        stand = (lexed o (start_of x) items t e).reached;
        tree_events = tree;
        reading = reading;
        told = told ∙ same;
      }
  fed_reads items t es e f (Err g) h r = absurd cc

  fault_or : (items : List Item) (t : LexState) (es : List PlainEvent) → Bare ≡ Ok es →
      lex o (start_of x) ≡ Ok (items, t) →
      (fault : Option Fault) → t.fault ≡ fault → BareReading es
  fault_or items t es r e None f = fed_reads items t es e f (Fed items) refl (sym (bare_is items t e f) ∙ r)
  fault_or items t es r e (Some g) f = absurd (faulty items t g es e f r)

  read_or : (es : List PlainEvent) → Bare ≡ Ok es → (r : Result (List Item × LexState) Fault) → lex o (start_of x) ≡ r →
      BareReading es
  read_or es r (Ok (items, t)) e = fault_or items t es r e t.fault refl
  read_or es r (Err f) e = absurd (lex_answers o (start_of x) f e)

  pub bare_reads : (es : List PlainEvent) → Bare ≡ Ok es → BareReading es
  bare_reads es r = read_or es r (lex o (start_of x)) refl

  given_all : (es : List TreeEvent) (r : Result (List PlainEvent × ParserState) Fault) → GivesTold o es r →
      Shown r ≡ Ok (events_told o es)
  given_all es (Ok y) p = ap (λ gs. Ok gs) (sym p)
  given_all es (Err f) p = absurd p

  pub bare_answered : (items : List Item) (t : LexState) (es : List TreeEvent) → lex o (start_of x) ≡ Ok (items, t) →
      t.fault ≡ None → WholeReading o (terminals_of items) es → Bare ≡ Ok (events_told o es)
  bare_answered items t es e f r =
      bare_is items t e f
      ∙ given_all es (feed_all o (map item_of (read_lexemes items)) (parser_start (mark_of (start_of x))))
      (readings_parsed o (mark_of (start_of x)) (read_lexemes items) es (fair items t e) r)

  pub shown_fault : (r : Result (List PlainEvent × ParserState) Fault) (f : Fault) → Shown r ≡ Err f → r ≡ Err f
  shown_fault (Ok y) f e = absurd cc
  shown_fault (Err g) f e = let same : g ≡ f = cc in ap (λ f. Err f) same

-- ---- where reading fails, the parser has what stands before the oldest possible key

abbrev pub front_flagged : Bool → Flagged → List Flagged → List Flagged
front_flagged true f fs = f ∷ fs
front_flagged false f fs = []

abbrev pub settled_front : Laid → List Flagged → List Flagged
settled_front l [] = []
settled_front l (f ∷ fs) = front_flagged (is_settled l (item_of f).item) f (settled_front l fs)

front_item : (v : Bool) (f : Flagged) (is : List FlaggedItem) (fs : List Flagged) → is ≡ map item_of fs →
    front_if v (item_of f) is ≡ map item_of (front_flagged v f fs)
front_item true f is fs e = ap (λ (more : List FlaggedItem). item_of f ∷ more) e
front_item false f is fs e = refl

pub settled_are : (l : Laid) (fs : List Flagged) → settled l (map item_of fs) ≡ map item_of (settled_front l fs)
settled_are l [] = refl
settled_are l (f ∷ fs) =
    front_item (is_settled l (item_of f).item) f (settled l (map item_of fs)) (settled_front l fs) (settled_are l fs)

front_more : (v : Bool) (f : Flagged) (fs front : List Flagged) → (more : List Flagged) × (fs ≡ front ++ more) →
    (more : List Flagged) × (f ∷ fs ≡ front_flagged v f front ++ more)
front_more true f fs front p = (p.0, ap (λ (l : List Flagged). f ∷ l) p.1)
front_more false f fs front p = (f ∷ fs, refl)

pub settled_more : (l : Laid) (fs : List Flagged) → (more : List Flagged) × (fs ≡ settled_front l fs ++ more)
settled_more l [] = ([], refl)
settled_more l (f ∷ fs) = front_more (is_settled l (item_of f).item) f fs (settled_front l fs) (settled_more l fs)

ends_front : (l : Laid) (kind : TerminalKind) (fs : List Flagged) → EndsThere kind fs →
    EndsThere kind (settled_front l fs)
ends_front l TheEnd fs e = ap (settled_front l) e
ends_front l kind fs e = tt

front_order :
    (v : Bool) (f : Flagged) (fs : List Flagged) (s : Scope) (bs : List Bracket) (due : Option ℕ) (may : Bool) →
    OrderedFrom (f ∷ fs) s bs due may → OrderedFrom (front_flagged v f fs) s bs due may
front_order true f fs s bs due may p = p
front_order false f fs s bs due may p = tt

pub settled_order : (l : Laid) (fs : List Flagged) (s : Scope) (bs : List Bracket) (due : Option ℕ) (may : Bool) →
    OrderedFrom fs s bs due may → OrderedFrom (settled_front l fs) s bs due may
settled_order l [] s bs due may p = tt
settled_order l (f ∷ fs) s bs due may p =
    let x = terminal_of f.1 s f.0 in
    front_order (is_settled l (item_of f).item) f (settled_front l fs) s bs due may (
      p.0,
      ends_front l x.kind fs p.1,
      settled_order l fs (next_scope x.kind s) (open_behind x.kind bs)
          (due_behind bs x.kind x.at due) (may_follow x.kind) p.2,
    )

pub one_answer : (r : Result (List PlainEvent) Fault) (es ds : List PlainEvent) → r ≡ Ok es → r ≡ Ok ds → es ≡ ds
one_answer r es ds a b = cc
