-- True and false are exact: false exactly where comments, `...` and the end are all that comes.
use Rattle.std.proofs.Common.{◌≡◌, ℕ, zero, suc, ◌<◌, Bool, true, false, not, ◌⊎◌, inl, inr, List, [], ◌∷◌, map, Option}
use Rattle.std.proofs.Common.{Some, None, Result, Ok, Err, refl, sym, ap, subst, ◌∙◌, arith}
use Rattle.std.specs.Prelude.{if◌then◌else◌}
use Rattle.granit_base.specs.Place.{Mark}
use Rattle.granit_error.specs.OptionsData.{OptionsData}
use Rattle.granit_quiet.specs.Quiet.{Reads, ReadRefused}
use Rattle.granit_lexemes.specs.Comment.{CommentRead}
use Rattle.granit_lexemes.specs.Here.{text_len}
use Rattle.granit_lexemes.specs.Lexeme as lexemes
use Rattle.granit_lexemes.specs.Lexeme.{LexemeKind, Item, OfLexeme, OfComment}
use Rattle.granit_lexemes.specs.Outcome.{Fault}
use Rattle.granit_lexemes.specs.PlainEvent.{PlainEvent, EventKind, StreamEnd, Comment}
use Rattle.granit_steps.proofs.Futures.{lex_turn-Shortens}
use Rattle.granit_machine.specs.Reader.{LexState, behind_read, is_end, is_end_kind, lex_turn, lex_len, read}
use Rattle.granit_machine.specs.ReaderState.{ReaderState, Read}
use Rattle.granit_places.proofs.Telling.{Answers}
use Rattle.granit_places.proofs.Counting.{read_answers}
use Rattle.granit_places.proofs.Telling.{ReadsBy, read-is}
use Rattle.granit_restart.specs.Calls.{Calls, next_call}
use Rattle.granit_calls.specs.Ending.{first_by, first_event, lexeme_or_later, first_lexeme, OnlyGap, ends_here}
use Rattle.granit_calls.specs.Ending.{ends_later, FirstEventEnds, FirstLexemeEnds, EndsReading, NoneFollows}
use Rattle.granit_restart.specs.Following.{one_kept, past_event, past_events, past_tail, past_lexeme, past_items}
use Rattle.granit_restart.specs.Following.{past_read, past_reads, past_reading, item_without_flag, document_follows}
use Rattle.granit_restart.specs.Header.{is_directives}
use Rattle.granit_restart.specs.Recovery.{resumed, skipped_by, skipped, looked_by, recovery_answer, recovered, extra_of}
use Rattle.granit_restart.specs.Recovery.{recover_with, recover}
use Rattle.granit_restart.specs.Skipping.{Stops}
use Rattle.granit_steps.specs.Steps.{StepState, incoming}

-- ---- events

-- what goes on is asked with this room, and gives the answer
record Left (more : ℕ → Result Bool Fault) (b : Bool) : Type 0 where
  room : ℕ
  is : more room ≡ Ok b

abbrev EventSays : Bool → Option EventKind → Type 0 → Type 0
EventSays b None Else = Else
EventSays b (Some StreamEnd) Else = b ≡ false
EventSays b (Some kind) Else = b ≡ true

kept_left : (room : ℕ) (m : Mark) (more : ℕ → Result Bool Fault) (b : Bool) → one_kept room m more ≡ Ok b
    → Left more b
kept_left zero m more b e = absurd (cc)
kept_left (suc room) m more b e = record { room = room; is = e }

event_says : (kind : EventKind) (room : ℕ) (m : Mark) (es : List PlainEvent) (more : ℕ → Result Bool Fault) (b : Bool)
    → ((left : ℕ) → past_events left es more ≡ Ok b → EventSays b (first_event es) (Left more b))
    → past_event room kind m (λ left. past_events left es more) ≡ Ok b
    → EventSays b (first_by kind (first_event es)) (Left more b)
event_says (Comment text placement) room m es more b later e =
    let l = kept_left room m (λ left. past_events left es more) b e in later l.room l.is
event_says StreamEnd room m es more b later e = cc
event_says kind room m es more b later e = cc

events_say : (room : ℕ) (es : List PlainEvent) (more : ℕ → Result Bool Fault) (b : Bool)
    → past_events room es more ≡ Ok b → EventSays b (first_event es) (Left more b)
events_say room [] more b e = record { room = room; is = e }
events_say room (x ∷ es) more b e =
    event_says x.kind room x.span.start es more b (λ left f. events_say left es more b f) e

event_ends : (r : Option EventKind) (Seen Else : Type 0) → EventSays false r Seen
    → (Seen → Else) → FirstEventEnds r Else
event_ends None Seen Else e more = more e
event_ends (Some StreamEnd) Seen Else e more = tt
event_ends (Some kind) Seen Else e more = absurd (cc)

event_false : (b : Bool) (r : Option EventKind) (Seen Else : Type 0) → EventSays b r Seen → FirstEventEnds r Else
    → (Seen → Else → b ≡ false) → b ≡ false
event_false b None Seen Else e f more = more e f
event_false b (Some StreamEnd) Seen Else e f more = e
event_false b (Some kind) Seen Else e f more = absurd f

-- ---- items

abbrev LexemeSays : Bool → Option LexemeKind → Type 0 → Type 0
LexemeSays b None Else = Else
LexemeSays b (Some lexemes.StreamEnd) Else = b ≡ false
LexemeSays b (Some kind) Else = b ≡ true

tail_left : (room : ℕ) (tail : Option CommentRead) (more : ℕ → Result Bool Fault) (b : Bool)
    → past_tail room tail more ≡ Ok b → Left more b
tail_left room None more b e = record { room = room; is = e }
tail_left room (Some c) more b e = kept_left room c.source.start more b e

lexeme_says : (kind : LexemeKind) (tail : Option CommentRead) (room : ℕ) (is : List Item)
    (more : ℕ → Result Bool Fault) (b : Bool)
    → ((left : ℕ) → past_items left is more ≡ Ok b → LexemeSays b (first_lexeme is) (Left more b))
    → past_lexeme room kind tail (λ left. past_items left is more) ≡ Ok b
    → LexemeSays b (lexeme_or_later kind (first_lexeme is)) (Left more b)
lexeme_says lexemes.DocumentEnd tail room is more b later e =
    let l = tail_left room tail (λ left. past_items left is more) b e in later l.room l.is
lexeme_says lexemes.StreamEnd tail room is more b later e = cc
lexeme_says kind tail room is more b later e = cc

items_say : (room : ℕ) (is : List Item) (more : ℕ → Result Bool Fault) (b : Bool) → past_items room is more ≡ Ok b
    → LexemeSays b (first_lexeme is) (Left more b)
items_say room [] more b e = record { room = room; is = e }
items_say room (OfComment c ∷ is) more b e =
    let l = kept_left room c.source.start (λ left. past_items left is more) b e in items_say l.room is more b l.is
items_say room (OfLexeme l ∷ is) more b e =
    lexeme_says l.kind l.tail room is more b (λ left f. items_say left is more b f) e

lexeme_ends : (r : Option LexemeKind) (Seen Else : Type 0) → LexemeSays false r Seen → (Seen → Else)
    → FirstLexemeEnds r Else
lexeme_ends None Seen Else e more = more e
lexeme_ends (Some lexemes.StreamEnd) Seen Else e more = tt
lexeme_ends (Some kind) Seen Else e more = absurd (cc)

lexeme_false : (b : Bool) (r : Option LexemeKind) (Seen Else : Type 0) → LexemeSays b r Seen → FirstLexemeEnds r Else
    → (Seen → Else → b ≡ false) → b ≡ false
lexeme_false b None Seen Else e f more = more e f
lexeme_false b (Some lexemes.StreamEnd) Seen Else e f more = e
lexeme_false b (Some kind) Seen Else e f more = absurd f

-- comments that aren't asked for change no lexeme
asked_first : (b : Bool) (is : List Item) → first_lexeme (incoming b is) ≡ first_lexeme is
asked_first true is = refl
asked_first false [] = refl
asked_first false (OfComment c ∷ is) = asked_first false is
asked_first false (OfLexeme l ∷ is) = ap (lexeme_or_later l.kind) (asked_first false is)

end_kind_first : (kind : LexemeKind) (later : Option LexemeKind) → is_end_kind kind ≡ true
    → lexeme_or_later kind later ≡ None → ⊥
end_kind_first lexemes.StreamEnd later e f = absurd (cc)
end_kind_first kind later e f = absurd (cc)

no_end : (b : Bool) (is : List Item) → is_end is ≡ b → first_lexeme is ≡ None → is_end is ≡ false
no_end false is e f = e
no_end true [] e f = absurd (cc)
no_end true (OfComment c ∷ is) e f = absurd (cc)
no_end true (OfLexeme l ∷ is) e f = absurd (end_kind_first l.kind (first_lexeme is) e f)

-- ---- what is left of the text

abbrev Behind : ReaderState → List Item → LexState
Behind next is = record { reader = next; ended = is_end is; fault = None }

items_read : (o : OptionsData) (n : ℕ) (room : ℕ) (is : List Item) (next : ReaderState) (b : Bool)
    → past_items room (incoming o.emit_comments is) (λ left. past_reads o n (Behind next is) left) ≡ Ok b
    → LexemeSays b (first_lexeme is) (Left (past_reads o n (Behind next is)) b)
items_read o n room is next b e =
    subst (λ r. LexemeSays b r (Left (past_reads o n (Behind next is)) b)) (asked_first o.emit_comments is)
    (items_say room (incoming o.emit_comments is) (past_reads o n (Behind next is)) b e)

abbrev FalseFor : OptionsData → ℕ → Type 0
FalseFor o n = (s : LexState) (room : ℕ) → past_reads o n s room ≡ Ok false → (s.ended ≡ true) ⊎ OnlyGap o s.reader

gap_later : (o : OptionsData) (s next : ReaderState) (is : List Item) → Reads o s is next → first_lexeme is ≡ None
    → (is_end is ≡ true) ⊎ OnlyGap o next → OnlyGap o s
gap_later o s next is reads none (inl e) = absurd (let f = no_end (is_end is) is refl none in cc)
gap_later o s next is reads none (inr g) = ends_later is next reads none g

gap_by : (o : OptionsData) (n : ℕ) (s next : ReaderState) (is : List Item) (r : Option LexemeKind) → FalseFor o n
    → Reads o s is next → first_lexeme is ≡ r → LexemeSays false r (Left (past_reads o n (Behind next is)) false)
    → OnlyGap o s
gap_by o n s next is None more reads e says =
    gap_later o s next is reads e (more (Behind next is) says.room says.is)
gap_by o n s next is (Some lexemes.StreamEnd) more reads e says = ends_here is reads e
gap_by o n s next is (Some kind) more reads e says = absurd (cc)

false_read : (o : OptionsData) (n : ℕ) (s : ReaderState) (room : ℕ) (r : Read) → FalseFor o n
    → Answers (ReadsBy o s) (ReadRefused o s) r
    → past_read o (past_reads o n) room (behind_read r s) ≡ Ok false → OnlyGap o s
false_read o n s room (Err f) more a e = absurd (cc)
false_read o n s room (Ok x) more a e =
    gap_by o n s x.1 x.0 (first_lexeme x.0) more a refl (items_read o n room x.0 x.1 false e)

false_by : (b : Bool) (o : OptionsData) (n : ℕ) (s : LexState) (room : ℕ) → FalseFor o n
    → past_read o (past_reads o n) room (if b then Ok (None, s) else behind_read (read o s.reader) s.reader)
    ≡ Ok false → (b ≡ true) ⊎ OnlyGap o s.reader
false_by true o n s room more e = inl refl
false_by false o n s room more e = inr (false_read o n s.reader room (read o s.reader) more (read-is o s.reader) e)

reads_false : (o : OptionsData) (n : ℕ) → FalseFor o n
unfolding lex_turn
reads_false o zero s room e = absurd (cc)
reads_false o (suc n) s room e = false_by s.ended o n s room (reads_false o n) e

-- and the other way round

turn_is : (o : OptionsData) (s : LexState) (is : List Item) (next : ReaderState) → s.ended ≡ false
    → Reads o s.reader is next → lex_turn o s ≡ Ok (Some is, Behind next is)
unfolding lex_turn
turn_is o s is next e reads =
    ap (λ b. if b then Ok (None, s) else behind_read (read o s.reader) s.reader) e
    ∙ ap (λ r. behind_read r s.reader) (read_answers o reads)

abbrev NoneFor : OptionsData → ℕ → Type 0
NoneFor o n = (s : LexState) (room : ℕ) (b : Bool) → s.ended ≡ false → lex_len s < n → OnlyGap o s.reader
    → past_reads o n s room ≡ Ok b → b ≡ false

read_says : (o : OptionsData) (n : ℕ) (s : LexState) (room : ℕ) (b : Bool) (is : List Item) (next : ReaderState)
    → s.ended ≡ false → Reads o s.reader is next → past_read o (past_reads o n) room (lex_turn o s) ≡ Ok b
    → LexemeSays b (first_lexeme is) (Left (past_reads o n (Behind next is)) b)
read_says o n s room b is next ended reads e =
    items_read o n room is next b
    (ap (past_read o (past_reads o n) room) (sym (turn_is o s is next ended reads)) ∙ e)

gap_false : (o : OptionsData) (n : ℕ) (s : LexState) (room : ℕ) (b : Bool) → NoneFor o n → s.ended ≡ false
    → lex_len s < suc n → OnlyGap o s.reader → past_read o (past_reads o n) room (lex_turn o s) ≡ Ok b → b ≡ false
gap_false o n s room b more ended h (ends_here {next = next} is reads end) e =
    subst (λ r. LexemeSays b r (Left (past_reads o n (Behind next is)) b)) end
    (read_says o n s room b is next ended reads e)
gap_false o n s room b more ended h (ends_later is next reads none g) e =
    let l : Left (past_reads o n (Behind next is)) b =
    subst (λ r. LexemeSays b r (Left (past_reads o n (Behind next is)) b)) none
    (read_says o n s room b is next ended reads e) in
    let less = lex_turn-Shortens o s (Behind next is) is (turn_is o s is next ended reads) in
    more (Behind next is) l.room b (no_end (is_end is) is refl none) (omega (arith, less, h)) g l.is

reads_none : (o : OptionsData) (n : ℕ) → NoneFor o n
reads_none o zero s room b ended h g e = absurd (omega arith)
reads_none o (suc n) s room b ended h g e = gap_false o n s room b (reads_none o n) ended h g e

-- ---- all of it

reading_false : (o : OptionsData) (s : LexState) (fault : Option Fault) (room : ℕ) → s.fault ≡ fault
    → past_reading o s fault room ≡ Ok false → EndsReading o s
reading_false o s None room is e = (is, reads_false o (suc (suc (text_len s.reader.here))) s room e)
reading_false o s (Some f) room is e = absurd (cc)

ended_false : (o : OptionsData) (n : ℕ) (s : LexState) (room : ℕ) (b : Bool) → s.ended ≡ true
    → past_reads o (suc n) s room ≡ Ok b → b ≡ false
unfolding lex_turn
ended_false o n s room b is e =
    let f : Ok (not s.ended) ≡ Ok b =
    ap (λ c. past_read o (past_reads o n) room (if c then Ok (None, s) else behind_read (read o s.reader) s.reader))
    (sym is) ∙ e in
    let g : not s.ended ≡ b = cc in sym g ∙ ap not is

gap_reading : (o : OptionsData) (s : LexState) (room : ℕ) (b ended : Bool) → s.ended ≡ ended → OnlyGap o s.reader
    → past_reads o (suc (suc (text_len s.reader.here))) s room ≡ Ok b → b ≡ false
gap_reading o s room b true is g e = ended_false o (suc (text_len s.reader.here)) s room b is e
gap_reading o s room b false is g e =
    let size : lex_len s ≡ suc (text_len s.reader.here) =
    ap (λ c. if c then 0 else suc (text_len s.reader.here)) is in
    reads_none o (suc (suc (text_len s.reader.here))) s room b is (omega (arith, size)) g e

reading_none : (o : OptionsData) (s : LexState) (room : ℕ) (b : Bool) → EndsReading o s
    → past_reading o s s.fault room ≡ Ok b → b ≡ false
reading_none o s room b (none, inl ended) e =
    ended_false o (suc (text_len s.reader.here)) s room b ended (ap (λ f. past_reading o s f room) (sym none) ∙ e)
reading_none o s room b (none, inr g) e =
    gap_reading o s room b s.ended refl g (ap (λ f. past_reading o s f room) (sym none) ∙ e)

abbrev AskedBehind : OptionsData → StepState → ℕ → Result Bool Fault
AskedBehind o s left =
    if is_directives s.parser.stage then Ok true
    else past_items left (map item_without_flag s.queue) (λ rest. past_reading o s.reading s.reading.fault rest)

abbrev ItemsEnd : OptionsData → StepState → Type 0
ItemsEnd o s = FirstLexemeEnds (first_lexeme (map item_without_flag s.queue)) (EndsReading o s.reading)

items_false : (o : OptionsData) (s : StepState) (room : ℕ)
    → past_items room (map item_without_flag s.queue) (λ rest. past_reading o s.reading s.reading.fault rest) ≡ Ok false
    → ItemsEnd o s
items_false o s room e =
    lexeme_ends (first_lexeme (map item_without_flag s.queue)) (Left (past_reading o s.reading s.reading.fault) false)
    (EndsReading o s.reading)
    (items_say room (map item_without_flag s.queue) (past_reading o s.reading s.reading.fault) false e)
    (λ l. reading_false o s.reading s.reading.fault l.room refl l.is)

asked_false : (b : Bool) (o : OptionsData) (s : StepState) (room : ℕ)
    → (if b then Ok true
    else past_items room (map item_without_flag s.queue)
    (λ rest. past_reading o s.reading s.reading.fault rest)) ≡ Ok false
    → (b ≡ false) × ItemsEnd o s
asked_false true o s room e = absurd (cc)
asked_false false o s room e = (refl, items_false o s room e)

-- false is answered only where no document is there
pub only_none : (o : OptionsData) (room : ℕ) (s : StepState) → document_follows o room s ≡ Ok false → NoneFollows o s
unfolding document_follows
only_none o room s e =
    event_ends (first_event s.pending) (Left (AskedBehind o s) false)
    ((is_directives s.parser.stage ≡ false) × ItemsEnd o s)
    (events_say room s.pending (AskedBehind o s) false e)
    (λ l. asked_false (is_directives s.parser.stage) o s l.room l.is)

asked_none : (o : OptionsData) (s : StepState) (room : ℕ) (b : Bool)
    → (is_directives s.parser.stage ≡ false) × ItemsEnd o s → AskedBehind o s room ≡ Ok b → b ≡ false
asked_none o s room b (outside, ends) e =
    let f = ap (λ c. if c then Ok true else past_items room (map item_without_flag s.queue)
    (λ rest. past_reading o s.reading s.reading.fault rest)) (sym outside) ∙ e in
    lexeme_false b (first_lexeme (map item_without_flag s.queue)) (Left (past_reading o s.reading s.reading.fault) b)
    (EndsReading o s.reading) (items_say room (map item_without_flag s.queue)
    (past_reading o s.reading s.reading.fault) b f)
    ends (λ l g. reading_none o s.reading l.room b g l.is)

-- and where none is there, nothing else is
pub all_none : (o : OptionsData) (room : ℕ) (s : StepState) (b : Bool) → NoneFollows o s
    → document_follows o room s ≡ Ok b → b ≡ false
unfolding document_follows
all_none o room s b none e =
    event_false b (first_event s.pending) (Left (AskedBehind o s) b)
    ((is_directives s.parser.stage ≡ false) × ItemsEnd o s) (events_say room s.pending (AskedBehind o s) b e) none
    (λ l f. asked_none o s l.room b f l.is)

-- ---- by recovery

-- what an answer says of the state that it leaves
abbrev Exact : OptionsData → Result Bool Fault × Calls → Type 0
Exact o (Ok true, d) = (d.over ≡ false) × (NoneFollows o d.steps → ⊥)
Exact o (Ok false, d) = (d.over ≡ true) ⊎ NoneFollows o d.steps
Exact o (Err f, d) = Unit {0}

answered_exact : (o : OptionsData) (room : ℕ) (r : Result Bool Fault) (s : StepState) → document_follows o room s ≡ r
    → Exact o (recovery_answer r (resumed s))
answered_exact o room (Ok true) s e =
    (refl, λ none. absurd (let f = all_none o room s true none e in cc))
answered_exact o room (Ok false) s e = inr (only_none o room s e)
answered_exact o room (Err f) s e = tt

exact_if : (b : Bool) (o : OptionsData) (stops : Stops) (extra : ℕ) (c : Calls) → c.over ≡ b
    → Exact o (if b then (Ok false, c) else recovered o extra (skipped o stops c))
exact_if true o stops extra c e = inl e
exact_if false o stops extra c e = answered_exact o _ _ (skipped_by o stops c.fault c.between c.steps) refl

exact_with : (o : OptionsData) (stops : Stops) (looked : Bool) (refusal : Option Fault) (c : Calls)
    → Exact o (recover_with o stops looked refusal c)
exact_with o stops looked (Some f) c = tt
exact_with o stops true None c =
    let d = looked_by c (next_call o c) in exact_if d.over o stops (extra_of d (next_call o c).0) d refl
exact_with o stops false None c = exact_if c.over o stops 0 c refl

exact : (o : OptionsData) (stops : Stops) (looked : Bool) (c : Calls) → Exact o (recover o stops looked c)
unfolding recover
exact o stops looked c = exact_with o stops looked c.refusal c

pub true_is_exact : (o : OptionsData) (stops : Stops) (looked : Bool) (c d : Calls)
    → recover o stops looked c ≡ (Ok true, d) → (d.over ≡ false) × (NoneFollows o d.steps → ⊥)
true_is_exact o stops looked c d e = subst (Exact o) e (exact o stops looked c)

pub false_is_exact : (o : OptionsData) (stops : Stops) (looked : Bool) (c d : Calls)
    → recover o stops looked c ≡ (Ok false, d) → (d.over ≡ true) ⊎ NoneFollows o d.steps
false_is_exact o stops looked c d e = subst (Exact o) e (exact o stops looked c)
