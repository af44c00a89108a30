-- Feeding items without their comments, and a run with comments not asked for, give the same events but for the
-- comments.
use Rattle.std.proofs.Common.{◌≡◌, ℕ, Bool, true, false, List, [], ◌∷◌, ◌++◌, ◌⊎◌, inl, inr, Option, Some, None, Result}
use Rattle.std.proofs.Common.{Ok, Err, refl, sym, ap, subst, ◌∙◌}
use Rattle.std.specs.Prelude.{not}
use Rattle.granit_base.specs.Place.{Mark}
use Rattle.granit_error.specs.FaultKind.{TooManyComments}
use Rattle.granit_error.specs.OptionsData.{OptionsData}
use Rattle.granit_lexemes.specs.Comment.{CommentRead}
use Rattle.granit_lexemes.specs.Here.{Here, mark_of}
use Rattle.granit_lexemes.specs.Lexeme.{Lexeme, Item, OfLexeme, OfComment}
use Rattle.granit_lexemes.specs.Outcome.{Fault, ◌>>=◌}
use Rattle.granit_lexemes.specs.Pieces.{with_front}
use Rattle.granit_lexemes.specs.PlainEvent.{PlainEvent, event_on, StreamStart}
use Rattle.granit_machine.proofs.ClosingLemmas.{FeedGiven}
use Rattle.granit_machine.specs.Frames.{ParserState, parser_start}
use Rattle.granit_machine.specs.Laid.{Laid}
use Rattle.granit_machine.specs.Lexing.{FlaggedItem, flagged, lex}
use Rattle.granit_machine.specs.Machine.{untailed, asked_items, feed_all, front_if, settled, run_answer, run_from}
use Rattle.granit_machine.specs.NodeSteps.{Stepped}
use Rattle.granit_machine.specs.Parser.{next_line, take_comment, take_item, feed}
use Rattle.granit_machine.specs.PossibleKeys.{is_possible}
use Rattle.granit_machine.specs.Reader.{LexState}
use Rattle.granit_machine.specs.TokenSort.{token_of}
use Rattle.granit_quiet.specs.Quiet.{but_comments, quiet, asking}
use Rattle.granit_quiet.proofs.Quieting.{but_append}
use Rattle.granit_quiet.proofs.QuietStream.{LexemeFitsBy, Stays, comment_stays, lexeme_fits}
use Rattle.granit_quiet.proofs.SameOptions.{feed_all_same, lex_same}

-- ---- one item

abbrev pub FedBy : OptionsData → FeedGiven → FeedGiven → Type 0
FedBy o (Ok x) r = r ≡ Ok (but_comments x.0, quiet o x.1)
FedBy o (Err f) r = (f.kind ≡ TooManyComments) ⊎ (r ≡ Err f)

abbrev pub handed : Stepped → FeedGiven
handed r = r >>= λ q. Ok (q.given, record q { given = [] })

handed_by : (o : OptionsData) (r s : Stepped) → LexemeFitsBy o r s → FedBy o (handed r) (handed s)
handed_by o (Ok p) s e = ap handed e
handed_by o (Err f) s (inl e) = inl e
handed_by o (Err f) s (inr e) = inr (ap handed e)

pub lexeme_fed : (o : OptionsData) (l : Lexeme) (b : Bool) (next line : Option ℕ) (p : ParserState) →
    FedBy o (feed o (record { item = OfLexeme l; begins_key = b }) next p)
    (feed o (untailed (record { item = OfLexeme l; begins_key = b })) line (quiet o p))
unfolding feed
lexeme_fed o l b next line p = let x = lexeme_fits o (token_of b l) next line p in handed_by o _ _ x.says

-- an item leaves no event behind that isn't given
abbrev pub CleanFed : FeedGiven → Type 0
CleanFed (Ok x) = x.1.given ≡ []
CleanFed (Err f) = Unit {0}

clean_handed : (r : Stepped) → CleanFed (handed r)
clean_handed (Ok q) = refl
clean_handed (Err f) = tt

pub clean_fed : (o : OptionsData) (i : FlaggedItem) (next : Option ℕ) (p : ParserState) → CleanFed (feed o i next p)
unfolding feed
clean_fed o i next p = clean_handed (take_item o i.item i.begins_key next p)

-- a comment gives nothing else and changes nothing else
abbrev pub CommentFed : OptionsData → ParserState → FeedGiven → Type 0
CommentFed o p (Ok x) = (but_comments x.0 ≡ []) × (quiet o x.1 ≡ quiet o p)
CommentFed o p (Err f) = f.kind ≡ TooManyComments

comment_handed : (o : OptionsData) (p : ParserState) (r : Stepped) → p.given ≡ [] → Stays o p r →
    CommentFed o p (handed r)
comment_handed o p (Ok q) e s = (
  ap (λ (x : ParserState). x.given) s ∙ ap but_comments e,
  ap (λ (x : ParserState). record x { given = [] }) s
      ∙ ap (λ es. record (quiet o p) { given = but_comments es }) (sym e),
)
comment_handed o p (Err f) e s = s

pub comment_fed : (o : OptionsData) (c : CommentRead) (b : Bool) (next : Option ℕ) (p : ParserState) → p.given ≡ [] →
    CommentFed o p (feed o (record { item = OfComment c; begins_key = b }) next p)
unfolding feed
comment_fed o c b next p e = comment_handed o p (take_comment c next p) e (comment_stays o c next p)

pub comment_given :
    (o : OptionsData) (c : CommentRead) (b : Bool) (next : Option ℕ) (p q : ParserState) (es : List PlainEvent) →
    p.given ≡ [] → feed o (record { item = OfComment c; begins_key = b }) next p ≡ Ok (es, q) →
    (but_comments es ≡ []) × (quiet o q ≡ quiet o p)
comment_given o c b next p q es e f = subst (CommentFed o p) f (comment_fed o c b next p e)

pub comment_refused : (o : OptionsData) (c : CommentRead) (b : Bool) (next : Option ℕ) (p : ParserState) (f : Fault) →
    p.given ≡ [] → feed o (record { item = OfComment c; begins_key = b }) next p ≡ Err f → f.kind ≡ TooManyComments
comment_refused o c b next p f e g = subst (CommentFed o p) g (comment_fed o c b next p e)

-- ---- all items

front_fed : (o : OptionsData) (front : List PlainEvent) (r s : FeedGiven) → FedBy o r s →
    FedBy o (with_front front r) (with_front (but_comments front) s)
front_fed o front (Ok x) s e =
    ap (λ (s : FeedGiven). with_front (but_comments front) s) e
    ∙ ap (λ es. let r : FeedGiven = Ok (es, quiet o x.1) in r) (sym (but_append front x.0))
front_fed o front (Err f) s (inl e) = inl e
front_fed o front (Err f) s (inr e) = inr (ap (λ (s : FeedGiven). with_front (but_comments front) s) e)

silent_front : (o : OptionsData) (front : List PlainEvent) (r s : FeedGiven) → but_comments front ≡ [] → FedBy o r s →
    FedBy o (with_front front r) s
silent_front o front (Ok x) s c e =
    e ∙ ap (λ es. let r : FeedGiven = Ok (es, quiet o x.1) in r) (sym (but_append front x.0
    ∙ ap (λ es. es ++ but_comments x.0) c))
silent_front o front (Err f) s c (inl e) = inl e
silent_front o front (Err f) s c (inr e) = inr e

abbrev AllFed : OptionsData → List FlaggedItem → Type 0
AllFed o is =
    (p : ParserState) → p.given ≡ [] → FedBy o (feed_all o is p) (feed_all o (asked_items false is) (quiet o p))

abbrev pub then_feed : OptionsData → List FlaggedItem → FeedGiven → FeedGiven
then_feed o is r = r >>= λ x. with_front x.0 (feed_all o is x.1)

lexeme_then : (o : OptionsData) (is : List FlaggedItem) (r s : FeedGiven) → FedBy o r s → CleanFed r → AllFed o is →
    FedBy o (then_feed o is r) (then_feed o (asked_items false is) s)
lexeme_then o is (Ok x) s e c more =
    subst (λ (s : FeedGiven). FedBy o (with_front x.0 (feed_all o is x.1)) (then_feed o (asked_items false is) s))
    (sym e) (front_fed o x.0 (feed_all o is x.1) (feed_all o (asked_items false is) (quiet o x.1)) (more x.1 c))
lexeme_then o is (Err f) s (inl e) c more = inl e
lexeme_then o is (Err f) s (inr e) c more = inr (ap (then_feed o (asked_items false is)) e)

comment_then : (o : OptionsData) (is : List FlaggedItem) (p : ParserState) (r : FeedGiven) → CommentFed o p r →
    CleanFed r → AllFed o is → FedBy o (then_feed o is r) (feed_all o (asked_items false is) (quiet o p))
comment_then o is p (Ok x) c clean more =
    silent_front o x.0 (feed_all o is x.1) (feed_all o (asked_items false is) (quiet o p)) c.0
    (subst (λ (q : ParserState). FedBy o (feed_all o is x.1) (feed_all o (asked_items false is) q)) c.1
    (more x.1 clean))
comment_then o is p (Err f) c clean more = inl c

item_then : (o : OptionsData) (x : Item) (b : Bool) (is : List FlaggedItem) → AllFed o is →
    AllFed o (record { item = x; begins_key = b } ∷ is)
item_then o (OfLexeme l) b is more p e =
    let i : FlaggedItem = record { item = OfLexeme l; begins_key = b } in
    lexeme_then o is (feed o i (next_line is) p) (feed o (untailed i) (next_line (asked_items false is)) (quiet o p))
    (lexeme_fed o l b (next_line is) (next_line (asked_items false is)) p) (clean_fed o i (next_line is) p) more
item_then o (OfComment c) b is more p e =
    let i : FlaggedItem = record { item = OfComment c; begins_key = b } in
    comment_then o is p (feed o i (next_line is) p) (comment_fed o c b (next_line is) p e)
    (clean_fed o i (next_line is) p) more

all_fed : (o : OptionsData) (is : List FlaggedItem) → AllFed o is
all_fed o [] = λ p e. refl
all_fed o (i ∷ is) = item_then o i.item i.begins_key is (all_fed o is)

pub items_given : (o : OptionsData) (is : List FlaggedItem) (p q : ParserState) (es : List PlainEvent) → p.given ≡ [] →
    feed_all o is p ≡ Ok (es, q) → feed_all o (asked_items false is) (quiet o p) ≡ Ok (but_comments es, quiet o q)
items_given o is p q es e f =
    subst (λ (r : FeedGiven). FedBy o r (feed_all o (asked_items false is) (quiet o p))) f (all_fed o is p e)

pub items_refused : (o : OptionsData) (is : List FlaggedItem) (p : ParserState) (f : Fault) → p.given ≡ [] →
    feed_all o is p ≡ Err f → (f.kind ≡ TooManyComments) ⊎ (feed_all o (asked_items false is) (quiet o p) ≡ Err f)
items_refused o is p f e g =
    subst (λ (r : FeedGiven). FedBy o r (feed_all o (asked_items false is) (quiet o p))) g (all_fed o is p e)

-- ---- a run

settled_by : (l : Laid) (x : Item) (b : Bool) (is : List FlaggedItem) →
    settled l (asked_items false is) ≡ asked_items false (settled l is) →
    settled l (asked_items false (record { item = x; begins_key = b } ∷ is)) ≡ asked_items false
    (settled l (record { item = x; begins_key = b } ∷ is))
settled_by l (OfComment c) b is e = e
settled_by l (OfLexeme x) b is e = on (not (is_possible x.number l))
  where
    on :
        (v : Bool) → front_if v (untailed (record { item = OfLexeme x; begins_key = b }))
        (settled l (asked_items false is)) ≡ asked_items false
        (front_if v (record { item = OfLexeme x; begins_key = b }) (settled l is))
    on true = ap (λ js. untailed (record { item = OfLexeme x; begins_key = b }) ∷ js) e
    on false = refl

pub settled_asked : (l : Laid) (is : List FlaggedItem) →
    settled l (asked_items false is) ≡ asked_items false (settled l is)
settled_asked l [] = refl
settled_asked l (i ∷ is) = settled_by l i.item i.begins_key is (settled_asked l is)

abbrev pub Answered : Type 0
Answered = Result (List PlainEvent) Fault

abbrev AnsweredBy : Answered → Answered → Type 0
AnsweredBy (Ok es) r = r ≡ Ok (but_comments es)
AnsweredBy (Err f) r = (f.kind ≡ TooManyComments) ⊎ (r ≡ Err f)

abbrev begun : Mark → FeedGiven → Answered
begun m r = r >>= λ x. Ok (event_on StreamStart m ∷ x.0)

abbrev failed : Fault → FeedGiven → Answered
failed f r = r >>= λ x. Err f

begun_by : (o : OptionsData) (m : Mark) (r s : FeedGiven) → FedBy o r s → AnsweredBy (begun m r) (begun m s)
begun_by o m (Ok x) s e = ap (begun m) e
begun_by o m (Err f) s (inl e) = inl e
begun_by o m (Err f) s (inr e) = inr (ap (begun m) e)

failed_by : (o : OptionsData) (g : Fault) (r s : FeedGiven) → FedBy o r s → AnsweredBy (failed g r) (failed g s)
failed_by o g (Ok x) s e = inr (ap (failed g) e)
failed_by o g (Err f) s (inl e) = inl e
failed_by o g (Err f) s (inr e) = inr (ap (failed g) e)

answered_by : (o : OptionsData) (m : Mark) (is : List FlaggedItem) (l : Laid) (f : Option Fault) →
    AnsweredBy (run_answer o m is l f) (run_answer o m (asked_items false is) l f)
answered_by o m is l None =
    begun_by o m (feed_all o is (parser_start m)) (feed_all o (asked_items false is) (parser_start m))
    (all_fed o is (parser_start m) refl)
answered_by o m is l (Some f) =
    failed_by o f (feed_all o (settled l is) (parser_start m))
    (feed_all o (settled l (asked_items false is)) (parser_start m))
    (subst (λ js. FedBy o (feed_all o (settled l is) (parser_start m)) (feed_all o js (parser_start m)))
    (sym (settled_asked l is)) (all_fed o (settled l is) (parser_start m) refl))

answered_same : (b : Bool) (o : OptionsData) (m : Mark) (is : List FlaggedItem) (l : Laid) (f : Option Fault) →
    run_answer (asking b o) m is l f ≡ run_answer o m is l f
answered_same b o m is l None = ap (begun m) (feed_all_same b o is (parser_start m))
answered_same b o m is l (Some f) = ap (failed f) (feed_all_same b o (settled l is) (parser_start m))

abbrev pub Lexed : Type 0
Lexed = List Item × LexState

-- the answer to what was read
abbrev pub answer_to : OptionsData → Bool → Mark → Lexed → Answered
answer_to o b m x = run_answer o m (asked_items b (flagged x.0)) x.1.reader.laid x.1.fault

pub run_same : (b : Bool) (o : OptionsData) (h : Here) →
    run_from (asking b o) h ≡ (lex o h >>= answer_to o b (mark_of h))
run_same b o h =
    ap (λ (r : Result Lexed Fault). r >>= answer_to (asking b o) b (mark_of h)) (lex_same b o h)
    ∙ ap (λ (f : Lexed → Answered). lex o h >>= f)
    (λ k x. answered_same b o (mark_of h) (asked_items b (flagged x.0)) x.1.reader.laid x.1.fault k)

lexed_by : (o : OptionsData) (m : Mark) (r : Result Lexed Fault) →
    AnsweredBy (r >>= answer_to o true m) (r >>= answer_to o false m)
lexed_by o m (Ok x) = answered_by o m (flagged x.0) x.1.reader.laid x.1.fault
lexed_by o m (Err f) = inr refl

run_by : (o : OptionsData) (h : Here) → AnsweredBy (run_from (asking true o) h) (run_from (asking false o) h)
run_by o h =
    subst (λ (r : Answered). AnsweredBy r (run_from (asking false o) h)) (sym (run_same true o h))
    (subst (λ (s : Answered). AnsweredBy (lex o h >>= answer_to o true (mark_of h)) s) (sym (run_same false o h))
    (lexed_by o (mark_of h) (lex o h)))

pub run_given : (o : OptionsData) (h : Here) (es : List PlainEvent) → run_from (asking true o) h ≡ Ok es →
    run_from (asking false o) h ≡ Ok (but_comments es)
run_given o h es e = subst (λ (r : Answered). AnsweredBy r (run_from (asking false o) h)) e (run_by o h)

pub run_refused : (o : OptionsData) (h : Here) (f : Fault) → run_from (asking true o) h ≡ Err f →
    (f.kind ≡ TooManyComments) ⊎ (run_from (asking false o) h ≡ Err f)
run_refused o h f e = subst (λ (r : Answered). AnsweredBy r (run_from (asking false o) h)) e (run_by o h)

-- ---- where comments aren't asked for

asked_by : (x : Item) (b : Bool) (is : List FlaggedItem) →
    asked_items false (asked_items false is) ≡ asked_items false is →
    asked_items false (asked_items false (record { item = x; begins_key = b } ∷ is)) ≡ asked_items false
    (record { item = x; begins_key = b } ∷ is)
asked_by (OfComment c) b is e = e
asked_by (OfLexeme x) b is e = ap (λ js. untailed (record { item = OfLexeme x; begins_key = b }) ∷ js) e

asked_twice : (is : List FlaggedItem) → asked_items false (asked_items false is) ≡ asked_items false is
asked_twice [] = refl
asked_twice (i ∷ is) = asked_by i.item i.begins_key is (asked_twice is)

unasked_answered : (o : OptionsData) (m : Mark) (is : List FlaggedItem) (l : Laid) (f : Option Fault) →
    AnsweredBy (run_answer o m (asked_items false is) l f) (run_answer o m (asked_items false is) l f)
unasked_answered o m is l f =
    subst (λ js. AnsweredBy (run_answer o m (asked_items false is) l f) (run_answer o m js l f)) (asked_twice is)
    (answered_by o m (asked_items false is) l f)

unasked_lexed : (o : OptionsData) (m : Mark) (r : Result Lexed Fault) →
    AnsweredBy (r >>= answer_to o false m) (r >>= answer_to o false m)
unasked_lexed o m (Ok x) = unasked_answered o m (flagged x.0) x.1.reader.laid x.1.fault
unasked_lexed o m (Err f) = inr refl

unasked_run : (o : OptionsData) (h : Here) → AnsweredBy (run_from (asking false o) h) (run_from (asking false o) h)
unasked_run o h =
    subst (λ (r : Answered). AnsweredBy r r) (sym (run_same false o h)) (unasked_lexed o (mark_of h) (lex o h))

same_events : (s : Answered) (ds es : List PlainEvent) → s ≡ Ok ds → s ≡ Ok es → ds ≡ es
same_events s ds es a e = cc

pub none_told : (o : OptionsData) (h : Here) (es : List PlainEvent) → run_from (asking false o) h ≡ Ok es →
    but_comments es ≡ es
none_told o h es e =
    same_events (run_from (asking false o) h) (but_comments es) es
    (subst (λ (r : Answered). AnsweredBy r (run_from (asking false o) h)) e (unasked_run o h)) e

abbrev AskedToo : Answered → List PlainEvent → Type 0
AskedToo r es =
    ((ds : List PlainEvent) × (r ≡ Ok ds) × (but_comments ds ≡ es))
    ⊎ ((f : Fault) × (r ≡ Err f) × (f.kind ≡ TooManyComments))

asked_too : (r s : Answered) (es : List PlainEvent) → AnsweredBy r s → s ≡ Ok es → AskedToo r es
asked_too (Ok ds) s es a e = inl (ds, refl, same_events s (but_comments ds) es a e)
asked_too (Err f) s es (inl k) e = inr (f, refl, k)
asked_too (Err f) s es (inr a) e = absurd (cc)

pub run_asked_too : (o : OptionsData) (h : Here) (es : List PlainEvent) → run_from (asking false o) h ≡ Ok es →
    ((ds : List PlainEvent) × (run_from (asking true o) h ≡ Ok ds) × (but_comments ds ≡ es))
    ⊎ ((f : Fault) × (run_from (asking true o) h ≡ Err f) × (f.kind ≡ TooManyComments))
run_asked_too o h es e = asked_too (run_from (asking true o) h) (run_from (asking false o) h) es (run_by o h) e
