-- What is told of a text, and whether one of its comments is one too many.
use Rattle.std.proofs.Common.{◌≡◌, ℕ, Bool, true, false, not, List, [], ◌∷◌, ◌++◌, map, None, Ok, refl, sym, ap}
use Rattle.std.proofs.Common.{◌∙◌, subst, append_assoc}
use Rattle.std.proofs.lemmas.List.{append-nil}
use Rattle.granit_error.specs.OptionsData.{OptionsData}
use Rattle.granit_order.specs.Order.{FairRun}
use Rattle.granit_order.specs.Order.{item_of}
use Rattle.granit_agreement.proofs.Parsed.{parsed_viable, viable_parsed}
use Rattle.granit_agreement.proofs.Waitings.{waits_awaits, awaits_waits}
use Rattle.granit_order.specs.Order.{IsFresh}
use Rattle.granit_comment_places.specs.CommentPlaces.{RefusesRow, NoRow, FirstRow}
use Rattle.granit_language.specs.CommentRows.{RowTooLong, up_to}
use Rattle.granit_language.specs.Scope.{no_scope}
use Rattle.granit_language.specs.Seen.{Flagged, lexemes_flagged}
use Rattle.granit_language.specs.TextFault.{IsSettled, IsUnsettled, ItemsSettled, FirstUnsettled, ItemsBefore}
use Rattle.granit_language.specs.TextFault.{CommentTooMany, NoneTooMany, NoneTold}
use Rattle.granit_lexemes.specs.Here.{start_of, mark_of}
use Rattle.granit_lexemes.specs.Lexeme.{Lexeme, Item, OfLexeme, OfComment}
use Rattle.granit_lexemes.specs.Outcome.{Fault}
use Rattle.granit_machine.specs.Frames.{ParserState, parser_start}
use Rattle.granit_machine.specs.Laid.{Laid}
use Rattle.granit_machine.specs.Lexing.{FlaggedItem, flagged, lex}
use Rattle.granit_machine.specs.Machine.{feed_all, settled, front_if}
use Rattle.granit_machine.specs.PossibleKeys.{is_possible}
use Rattle.granit_machine.specs.Reader.{LexState}
use Rattle.granit_order.specs.Order.{OrderedFrom}
use Rattle.granit_answers.proofs.Answered.{asked_are, in_order}
use Rattle.granit_order.proofs.OrderSteps.{ordered_fair}
use Rattle.std.proofs.Common.{Option}
use Rattle.granit_language.specs.Scope.{Scope}
use Rattle.granit_language.specs.Scoping.{next_scope}
use Rattle.granit_language.specs.Seen.{terminal_of}
use Rattle.granit_language.specs.Terminal.{TerminalKind, TheEnd}
use Rattle.granit_lexemes.specs.declared.layout.Bracket.{Bracket}
use Rattle.granit_order.specs.Order.{open_behind, due_behind, may_follow, EndsThere}

pub lexemes_joined : (a b : List FlaggedItem) → lexemes_flagged (a ++ b) ≡ lexemes_flagged a ++ lexemes_flagged b
lexemes_joined [] b = refl
lexemes_joined (i ∷ a) b = on i.item (lexemes_joined a b)
  where
    on : (item : Item) → lexemes_flagged (a ++ b) ≡ lexemes_flagged a ++ lexemes_flagged b
        → Rattle.granit_language.specs.Seen.with_lexeme item i.begins_key (lexemes_flagged (a ++ b))
        ≡ Rattle.granit_language.specs.Seen.with_lexeme item i.begins_key (lexemes_flagged a) ++ lexemes_flagged b
    on (OfLexeme l) e = ap (λ (fs : List Flagged). (l, i.begins_key) ∷ fs) e
    on (OfComment c) e = e

pub ends_first : (kind : TerminalKind) (fs bs : List Flagged) → EndsThere kind (fs ++ bs) → EndsThere kind fs
ends_first TheEnd [] bs e = refl
ends_first TheEnd (f ∷ fs) bs e = absurd cc
ends_first kind fs bs e = tt

pub ordered_front : (fs more : List Flagged) (s : Scope) (bs : List Bracket) (due : Option ℕ) (may : Bool)
    → OrderedFrom (fs ++ more) s bs due may → OrderedFrom fs s bs due may
ordered_front [] more s bs due may p = tt
ordered_front (f ∷ fs) more s bs due may p =
    let x = terminal_of f.1 s f.0 in (
      p.0,
      ends_first x.kind fs more p.1,
      ordered_front fs more (next_scope x.kind s) (open_behind x.kind bs)
          (due_behind bs x.kind x.at due) (may_follow x.kind) p.2,
    )

-- ---- items that others begin with

-- ---- the items before a fault

pub all_before : (l : Laid) (items : List FlaggedItem) → ItemsBefore true l items items
all_before l items = record { more = []; is = sym (append-nil items); all = λ e. refl; settled = λ e. absurd cc }

lexeme_before :
    (l : Laid) (i : FlaggedItem) (x : Lexeme) (is front : List FlaggedItem) (v : Bool) →
    i.item ≡ OfLexeme x → is_possible x.number l ≡ v → ItemsBefore false l is front →
    ItemsBefore false l (i ∷ is) (front_if (not v) i front)
lexeme_before l i x is front true n e s =
    record {
      more = i ∷ is;
      is = refl;
      all = λ e. absurd cc;
      settled = λ f. (tt, subst (IsUnsettled l) (sym n) e);
    }
lexeme_before l i x is front false n e s =
    record {
      more = s.more;
      is = ap (λ (is : List FlaggedItem). i ∷ is) s.is;
      all = λ e. absurd cc;
      settled = λ f. ((subst (IsSettled l) (sym n) e, (s.settled refl).0), (s.settled refl).1);
    }

pub settled_before : (l : Laid) (items : List FlaggedItem) → ItemsBefore false l items (settled l items)
settled_before l [] = record { more = []; is = refl; all = λ e. absurd cc; settled = λ e. (tt, tt) }
settled_before l (i ∷ is) = one i.item i.begins_key (settled_before l is)
  where
    one : (x : Item) (b : Bool) → ItemsBefore false l is (settled l is) →
        ItemsBefore false l (record { item = x; begins_key = b } ∷ is)
        (settled l (record { item = x; begins_key = b } ∷ is))
    one (OfComment c) b s =
        record {
          more = s.more;
          is = ap (λ (is : List FlaggedItem). record { item = OfComment c; begins_key = b } ∷ is) s.is;
          all = λ e. absurd cc;
          settled = λ f. ((tt, (s.settled refl).0), (s.settled refl).1);
        }
    one (OfLexeme x) b s =
        lexeme_before l (record { item = OfLexeme x; begins_key = b }) x is (settled l is)
        (is_possible x.number l) refl refl s

-- they are those that are settled

stops : (l : Laid) (x : Item) (b : Bool) (more : List FlaggedItem) → IsUnsettled l x →
    settled l (record { item = x; begins_key = b } ∷ more) ≡ []
stops l (OfComment c) b more w = absurd w
stops l (OfLexeme x) b more w =
    ap (λ v. front_if (not v) (record { item = OfLexeme x; begins_key = b }) (settled l more)) w

goes_on : (l : Laid) (x : Item) (b : Bool) (more front : List FlaggedItem) → IsSettled l x → settled l more ≡ front →
    settled l (record { item = x; begins_key = b } ∷ more) ≡ record { item = x; begins_key = b } ∷ front
goes_on l (OfComment c) b more front s e =
    ap (λ (is : List FlaggedItem). record { item = OfComment c; begins_key = b } ∷ is) e
goes_on l (OfLexeme x) b more front s e =
    ap (λ v. front_if (not v) (record { item = OfLexeme x; begins_key = b }) (settled l more)) s
    ∙ ap (λ (is : List FlaggedItem). record { item = OfLexeme x; begins_key = b } ∷ is) e

settles : (l : Laid) (front more : List FlaggedItem) → ItemsSettled l front → FirstUnsettled l more →
    settled l (front ++ more) ≡ front
settles l [] [] s w = refl
settles l [] (i ∷ more) s w = stops l i.item i.begins_key more w
settles l (i ∷ front) more s w = goes_on l i.item i.begins_key (front ++ more) front s.0 (settles l front more s.1 w)

told_all : (l : Laid) (items front : List FlaggedItem) → ItemsBefore true l items front → items ≡ front
told_all l items front b = b.is ∙ ap (λ more. front ++ more) (b.all refl) ∙ append-nil front

told_settled : (l : Laid) (items front : List FlaggedItem) → ItemsBefore false l items front → settled l items ≡ front
told_settled l items front b =
    ap (settled l) b.is ∙ settles l front b.more (b.settled refl).0 (b.settled refl).1

-- the items that are told
abbrev pub told_of : (ended : Bool) → Laid → List FlaggedItem → List FlaggedItem
told_of true l items = items
told_of false l items = settled l items

pub told_is : (ended : Bool) (l : Laid) (items front : List FlaggedItem) → ItemsBefore ended l items front →
    told_of ended l items ≡ front
told_is true l items front b = told_all l items front b
told_is false l items front b = told_settled l items front b

pub told_before : (ended : Bool) (l : Laid) (items : List FlaggedItem) →
    ItemsBefore ended l items (told_of ended l items)
told_before true l items = all_before l items
told_before false l items = settled_before l items

-- ---- a comment too many, and what is refused for it

module _ (o : OptionsData) (x : List ℕ) where
  abbrev pub Start : ParserState
  Start = parser_start (mark_of (start_of x))

  module _ (items : List Item) (t : LexState) (e : lex o (start_of x) ≡ Ok (items, t)) where
    pub prefix_fair : (xs ys : List FlaggedItem) → flagged items ≡ xs ++ ys →
        FairRun (lexemes_flagged xs) no_scope IsFresh
    prefix_fair xs ys same =
        ordered_fair (lexemes_flagged xs)
        (ordered_front (lexemes_flagged xs) (lexemes_flagged ys) no_scope [] None false
        (subst (λ (fs : List Flagged). OrderedFrom fs no_scope [] None false)
        (ap lexemes_flagged same ∙ lexemes_joined xs ys) (in_order o x items t e)))

    row_fair :
        (given more : List FlaggedItem) (front : List FlaggedItem) (f : Fault) →
        flagged items ≡ given ++ more → (r : RowTooLong o given front f) →
        FairRun (lexemes_flagged (up_to r)) no_scope IsFresh
    row_fair given more front f g r =
        let xs = up_to r in
        let same : flagged items ≡ xs ++ ((r.row ++ r.rest) ++ more) =
        g ∙ ap (λ (given : List FlaggedItem). given ++ more)
        (r.is ∙ sym (append_assoc front (record { item = OfLexeme r.lexeme; begins_key = r.flag } ∷ [])
        (r.row ++ r.rest)))
        ∙ append_assoc xs (r.row ++ r.rest) more in
        prefix_fair xs ((r.row ++ r.rest) ++ more) same

    pub many_of : (given more : List FlaggedItem) (f : Fault) → flagged items ≡ given ++ more →
        (r : RefusesRow o Start given f) → CommentTooMany o given r.front f
    many_of given more f g r =
        let fs = lexemes_flagged (up_to r.row) in
        let fair = row_fair given more r.front f g r.row in
        let fed : feed_all o (map item_of fs) Start ≡ Ok (r.events, r.state) =
        ap (λ (is : List FlaggedItem). feed_all o is Start) (sym (asked_are (up_to r.row))) ∙ r.fed in
        record {
          row = r.row;
          viable = parsed_viable o (mark_of (start_of x)) fs (r.events, r.state) fair fed;
          awaits = waits_awaits o (mark_of (start_of x)) fs r.events r.state r.waiting fair fed r.waits;
        }

    pub refuses_of : (given more front : List FlaggedItem) (f : Fault) → flagged items ≡ given ++ more →
        CommentTooMany o given front f → RefusesRow o Start given f
    refuses_of given more front f g c =
        let fs = lexemes_flagged (up_to c.row) in
        let fair = row_fair given more front f g c.row in
        let y = viable_parsed o (mark_of (start_of x)) fs fair c.viable in
        let w = awaits_waits o (mark_of (start_of x)) fs y.0.0 y.0.1 fair y.1 c.awaits in
        record {
          front = front;
          row = c.row;
          events = y.0.0;
          state = y.0.1;
          waiting = w.0;
          fed = ap (λ (is : List FlaggedItem). feed_all o is Start) (asked_are (up_to c.row)) ∙ y.1;
          waits = w.1;
        }

    pub none_many : (given more : List FlaggedItem) → flagged items ≡ given ++ more → NoRow o Start given →
        NoneTooMany o given
    none_many given more g none front f c = none f (refuses_of given more front f g c)

    pub many_none : (given more : List FlaggedItem) → flagged items ≡ given ++ more → NoneTooMany o given →
        NoRow o Start given
    many_none given more g none f r = none r.front f (many_of given more f g r)

    -- what is in front of a row
    front_is : (given more front : List FlaggedItem) (f : Fault) → flagged items ≡ given ++ more →
        (r : RowTooLong o given front f) →
        flagged items ≡ front ++
        ((record { item = OfLexeme r.lexeme; begins_key = r.flag } ∷ (r.row ++ r.rest)) ++ more)
    front_is given more front f g r =
        g ∙ ap (λ (given : List FlaggedItem). given ++ more) r.is
        ∙ append_assoc front (record { item = OfLexeme r.lexeme; begins_key = r.flag } ∷ (r.row ++ r.rest)) more

    pub first_of : (given more front : List FlaggedItem) (f : Fault) → flagged items ≡ given ++ more →
        CommentTooMany o given front f → NoneTooMany o front → FirstRow o Start given f
    unfolding refuses_of
    first_of given more front f g c none =
        record {
          row = refuses_of given more front f g c;
          first =
              many_none front ((record { item = OfLexeme c.row.lexeme; begins_key = c.row.flag } ∷
              (c.row.row ++ c.row.rest)) ++ more)
              (front_is given more front f g c.row) none;
        }

    pub none_in_front : (given more : List FlaggedItem) (f : Fault) → flagged items ≡ given ++ more →
        (r : FirstRow o Start given f) → NoneTooMany o r.row.front
    none_in_front given more f g r =
        none_many r.row.front
        ((record { item = OfLexeme r.row.row.lexeme; begins_key = r.row.row.flag } ∷ (r.row.row.row ++ r.row.row.rest))
        ++ more)
        (front_is given more r.row.front f g r.row.row) r.first

    -- of what is told
    pub none_told : (ended : Bool) → NoRow o Start (told_of ended t.reader.laid (flagged items)) →
        NoneTold o ended t.reader.laid items
    none_told ended none asked given b =
        none_many given b.more b.is
        (subst (λ given. NoRow o Start given) (told_is ended t.reader.laid (flagged items) given b) none)

    pub told_none : (ended : Bool) → o.emit_comments ≡ true → NoneTold o ended t.reader.laid items →
        NoRow o Start (told_of ended t.reader.laid (flagged items))
    told_none ended asked none =
        let given = told_of ended t.reader.laid (flagged items) in
        let b = told_before ended t.reader.laid (flagged items) in
        many_none given b.more b.is (none asked given b)

pub unasked_none : (o : OptionsData) (ended : Bool) (l : Laid) (items : List Item) → o.emit_comments ≡ false →
    NoneTold o ended l items
unasked_none o ended l items off asked = absurd (never_asked (sym off ∙ asked))
  where
    never_asked : false ≡ true → ⊥
    never_asked e = cc (e)
