-- A quoted scalar, a character of content a turn.
use Rattle.std.proofs.Common.{◌≡◌, ℕ, ◌==◌, Bool, true, false, not, ◌&&◌, ◌||◌, if◌then◌else◌, List, []}
use Rattle.std.proofs.Common.{◌++◌, slice_index, Option, Some, None, Result, Ok, Err, refl, sym, ap, ◌∙◌}
use Rattle.std.proofs.Common.{append_assoc}
use Rattle.std.proofs.lemmas.List.{append-nil}
use Rattle.granit_base.specs.Classes.{is_blank, is_break, is_printable}
use Rattle.granit_base.specs.Place.{Mark}
use Rattle.granit_error.specs.Refused.{Refused}
use Rattle.granit_lexemes.specs.Here.{Here, text_len, next_char, step}
use Rattle.granit_lexemes.specs.LayoutData.{LayoutData}
use Rattle.granit_lexemes.specs.Outcome.{Fault, Fails, ◌>>=◌}
use Rattle.granit_lexemes.specs.QuotedScalar.{QuotedState, is_closing, escape_or, between_quoted, quoted_at}
use Rattle.granit_lexemes.specs.QuotedScalar.{quoted_piece, quoted_content, quoted_turn, quoted_len}
use Rattle.granit_lexemes.specs.QuotedScalar.{quoted_rest}
use Rattle.granit_lexemes.proofs.PieceLemmas.{with_front-nil, loop_more, loop_done, loop_fails}
use Rattle.granit_scalars.proofs.QuotedTurns.{quoted_shortens, tab_meets, strict_meets, loose_meets, mark_meets}
use Rattle.granit_quoted.specs.QuotedCode.{quoted_state, quoted_whole, quoted_ahead, quoted_turn_of, content_read}
use Rattle.granit_quoted.specs.QuotedCode.{added}
use Rattle.granit_quoted.specs.QuotedCode.{escapes}
use Rattle.granit_quoted.specs.QuotedTaken.{QuotedTaken}
use Rattle.granit_quoted.specs.declared.quoted.Ahead.{Ahead}
use Rattle.granit_quoted.specs.declared.quoted.Ahead.TheVariants.{Content, End}

-- ---- one turn, by what is next

-- what goes on from either of two goes on from the one that a test chooses
either_goes_on : {A B : Type 0} (f : A → Result B Fault) (test : Bool) (x y : Result A Fault) {p q : Result B Fault}
    → p ≡ (x >>= f) → q ≡ (y >>= f) → (if test then p else q) ≡ ((if test then x else y) >>= f)
either_goes_on f true x y e g = e
either_goes_on f false x y e g = g

turn_ahead : (single : Bool) (at : LayoutData) (start : Mark) (s : QuotedState)
    → quoted_turn single at start s ≡ (quoted_ahead single at start s >>= quoted_turn_of single start s)
unfolding quoted_turn quoted_ahead
turn_ahead single at start s =
    let on = quoted_turn_of single start s in
    either_goes_on on (is_blank (next_char s.here)) _ _ (either_goes_on on (tab_meets at s) _ _ refl refl)
    (either_goes_on on (is_break (next_char s.here)) _ _ refl
    (either_goes_on on (strict_meets at s) _ _ refl
    (either_goes_on on (loose_meets single at s) _ _ refl
    (either_goes_on on (mark_meets s) _ _ refl
    (either_goes_on on (text_len s.here == 0) _ _ refl
    (either_goes_on on (not (is_printable (next_char s.here))) _ _ refl
    (either_goes_on on (is_closing single s.here.unread.text) _ _ refl refl)))))))

pub turn_next : (single : Bool) (at : LayoutData) (start : Mark) (s : QuotedState) (k : Ahead)
    → quoted_ahead single at start s ≡ Ok k → quoted_turn single at start s ≡ quoted_turn_of single start s k
turn_next single at start s k is = turn_ahead single at start s
    ∙ ap (λ (r : Result Ahead Fault). r >>= quoted_turn_of single start s) is

turn_fails : (single : Bool) (at : LayoutData) (start : Mark) (s : QuotedState) (e : Refused)
    → Fails e (quoted_ahead single at start s) → Fails e (quoted_turn single at start s)
turn_fails single at start s e fails = λ other. turn_ahead single at start s
    ∙ ap (λ (r : Result Ahead Fault). r >>= quoted_turn_of single start s) (fails other)

-- ---- content

abbrev with_added : QuotedState → Option ℕ × Here → Result (Option (List ℕ) × QuotedState) Fault
with_added s x = Ok (Some (between_quoted s ++ added x.0), quoted_at (escapes x.0) x.1)

escape_by : (s : QuotedState) (r : Result (ℕ × Here) Fault)
    → (r >>= quoted_piece s) ≡ ((r >>= λ x. Ok (Some x.0, x.1)) >>= with_added s)
escape_by s (Ok x) = refl
escape_by s (Err f) = refl

content_by : (single : Bool) (start : Mark) (s : QuotedState) (a b c : Bool)
    → (if a then quoted_piece s (0x27, step (step s.here)) else if b then quoted_piece s (next_char s.here, step s.here)
    else if c then Ok (Some (between_quoted s), quoted_at true (step s.here)) else
    (escape_or start (step s.here) >>= quoted_piece s))
    ≡ ((if a then Ok (Some 0x27, step (step s.here)) else if b then Ok (Some (next_char s.here), step s.here) else if c
    then Ok (None, step s.here) else (escape_or start (step s.here) >>= λ x. Ok (Some x.0, x.1))) >>= with_added s)
content_by single start s true b c = refl
content_by single start s false true c = refl
content_by single start s false false true = ap (λ (cs : List ℕ). Ok (Some cs, quoted_at true (step s.here)))
    (sym (append-nil (between_quoted s)))
content_by single start s false false false = escape_by s (escape_or start (step s.here))

content_is : (single : Bool) (start : Mark) (s : QuotedState)
    → quoted_content single start s ≡ (content_read single start s.here >>= with_added s)
unfolding quoted_content content_read
content_is single start s = content_by single start s (single && next_char s.here == 0x27)
    (single || not (next_char s.here == 0x5C)) (is_break (slice_index s.here.unread.text 1))

content_turn : (single : Bool) (at : LayoutData) (start : Mark) (s : QuotedState)
    → quoted_ahead single at start s ≡ Ok Content
    → quoted_turn single at start s ≡ (content_read single start s.here >>= with_added s)
content_turn single at start s is = turn_next single at start s Content is ∙ content_is single start s

-- ---- what a turn of the code leaves of the whole

pub goes_on : (single : Bool) (at : LayoutData) (start : Mark) (p q : QuotedTaken) (h now : Here) (piece : List ℕ)
    → quoted_turn single at start (quoted_state p h) ≡ Ok (Some piece, quoted_state q now)
    → q.value ≡ p.value ++ piece → quoted_whole single at start q now ≡ quoted_whole single at start p h
goes_on single at start p q h now piece is grown =
    loop_more quoted_len (quoted_turn single at start) (quoted_shortens single at start) p.value q.value
    (quoted_state p h) (quoted_state q now) piece (quoted_whole single at start p h) refl is grown

pub over_gap : (single : Bool) (at : LayoutData) (start : Mark) (p q : QuotedTaken) (h now : Here) (k : Ahead)
    → quoted_ahead single at start (quoted_state p h) ≡ Ok k
    → quoted_turn_of single start (quoted_state p h) k ≡ Ok (Some [], quoted_state q now)
    → q.value ≡ p.value → quoted_whole single at start q now ≡ quoted_whole single at start p h
over_gap single at start p q h now k is given value =
    goes_on single at start p q h now [] (turn_next single at start (quoted_state p h) k is ∙ given)
    (value ∙ sym (append-nil p.value))

pub over_content : (single : Bool) (at : LayoutData) (start : Mark) (p q : QuotedTaken) (h now : Here) (x : Option ℕ)
    → quoted_ahead single at start (quoted_state p h) ≡ Ok Content → content_read single start h ≡ Ok (x, now)
    → q.value ≡ (p.value ++ between_quoted (quoted_state p h)) ++ added x
    → quoted_state q now ≡ quoted_at (escapes x) now
    → quoted_whole single at start q now ≡ quoted_whole single at start p h
over_content single at start p q h now x is read value state =
    let s = quoted_state p h in
    let turn : quoted_turn single at start s ≡ Ok (Some (between_quoted s ++ added x), quoted_at (escapes x) now) =
    content_turn single at start s is ∙ ap (λ (r : Result (Option ℕ × Here) Fault). r >>= with_added s) read in
    goes_on single at start p q h now (between_quoted s ++ added x)
    (turn ∙ ap (λ (t : QuotedState). Ok (Some (between_quoted s ++ added x), t)) (sym state))
    (value ∙ append_assoc p.value (between_quoted s) (added x))

pub content_fails : (single : Bool) (at : LayoutData) (start : Mark) (p : QuotedTaken) (h : Here) (e : Refused)
    → quoted_ahead single at start (quoted_state p h) ≡ Ok Content → Fails e (content_read single start h)
    → Fails e (quoted_whole single at start p h)
content_fails single at start p h e is fails =
    let s = quoted_state p h in
    loop_fails quoted_len (quoted_turn single at start) p.value s e (quoted_whole single at start p h) refl
    (λ other. content_turn single at start s is
    ∙ ap (λ (r : Result (Option ℕ × Here) Fault). r >>= with_added s) (fails other))

pub ahead_fails : (single : Bool) (at : LayoutData) (start : Mark) (p : QuotedTaken) (h : Here) (e : Refused)
    → Fails e (quoted_ahead single at start (quoted_state p h)) → Fails e (quoted_whole single at start p h)
ahead_fails single at start p h e fails =
    loop_fails quoted_len (quoted_turn single at start) p.value (quoted_state p h) e (quoted_whole single at start p h)
    refl (turn_fails single at start (quoted_state p h) e fails)

pub at_end : (single : Bool) (at : LayoutData) (start : Mark) (p : QuotedTaken) (h : Here)
    → quoted_ahead single at start (quoted_state p h) ≡ Ok End
    → quoted_whole single at start p h ≡ Ok (p.value, quoted_state p h)
at_end single at start p h is =
    loop_done quoted_len (quoted_turn single at start) p.value (quoted_state p h) (quoted_state p h)
    (quoted_whole single at start p h) refl (turn_next single at start (quoted_state p h) End is)

-- nothing was read yet
pub quoted_begins : (single : Bool) (at : LayoutData) (start : Mark) (p : QuotedTaken) (h : Here) → p.value ≡ []
    → quoted_state p h ≡ quoted_at false h → quoted_whole single at start p h
    ≡ quoted_rest single at start (quoted_at false h)
quoted_begins single at start p h none state = rw (none, state)
    (with_front-nil (quoted_rest single at start (quoted_at false h)))
