-- The calls give all tokens of a text.
use Rattle.std.proofs.Common.{◌≡◌, ℕ, zero, suc, ◌<◌, List, [], ◌∷◌, Option, Some, None, Result, Ok, Err, refl, sym, ap}
use Rattle.std.proofs.Common.{ap₂, subst, ◌∙◌, arith}
use Rattle.granit_error.specs.OptionsData.{OptionsData}
use Rattle.granit_lexemes.specs.Here.{Here, mark_of, start_of}
use Rattle.granit_lexemes.specs.Lexeme.{Item}
use Rattle.granit_lexemes.specs.Outcome.{Fault, ◌>>=◌}
use Rattle.granit_lexemes.specs.Pieces.{pieces, then_more, turns, with_front}
use Rattle.granit_machine.specs.Lexing.{FlaggedItem, lex, lex_start}
use Rattle.granit_machine.specs.Machine.{asked_items}
use Rattle.granit_machine.specs.Reader.{LexState}
use Rattle.granit_scan.specs.Following.{Following, following_start}
use Rattle.granit_scan.specs.TokenSteps.{TokenState, TokenTurn, first_pending_token, next_token, settle_tokens}
use Rattle.granit_scan.specs.TokenSteps.{token_size, token_turn, tokens_start, tokens_start_from}
use Rattle.granit_scan.specs.TokensTold.{GivesTokens, TokensTold, before_tokens_told, gives_end, gives_fault}
use Rattle.granit_scan.specs.TokensTold.{gives_token, tokens_told_read, tokens_told, written}
use Rattle.granit_scan.specs.TokenViews.{PlainToken, StartOfStream, marked}
use Rattle.granit_scan.proofs.TokenFutures.{IsReady, IsStill, TurnKeeps, ahead, future, told_of, turn_keeps}
use Rattle.granit_steps.specs.Told.{parsers_items}
use Rattle.granit_steps.proofs.Chains.{LexChain, pieces_chain}
use Rattle.granit_steps.proofs.Futures.{Ready, read_out}
use Rattle.granit_steps.proofs.Queues.{pushed_asked}

-- ---- the loop

abbrev Settles : OptionsData → TokenState → Result (List PlainToken × TokenState) Fault → Type 0
Settles o s (Ok x) = IsReady x.1 × (future o s ≡ future o x.1) × IsStill x.1.pending (future o x.1)
Settles o s (Err f) = future o s ≡ ([], Some f)

settles_front : (o : OptionsData) (s t : TokenState) (front : List PlainToken)
    (r : Result (List PlainToken × TokenState) Fault) → future o s ≡ future o t → Settles o t r
    → Settles o s (with_front front r)
settles_front o s t front (Ok x) e p = (p.0, e ∙ p.1, p.2)
settles_front o s t front (Err f) e p = e ∙ p

abbrev SettlesAll : OptionsData → ℕ → Type 0
SettlesAll o n = (s : TokenState) → IsReady s → token_size s < n → Settles o s (turns (token_turn o) n s)

settles_turn : (o : OptionsData) (n : ℕ) (s : TokenState) (r : TokenTurn) → SettlesAll o n → IsReady s
    → token_size s < suc n
    → TurnKeeps o s r → Settles o s (r >>= λ x. then_more (turns (token_turn o) n) x.0 x.1)
settles_turn o n s (Err f) more ready h p = p
settles_turn o n s (Ok (Some y, t)) more ready h p = settles_front o s t y (turns (token_turn o) n t) p.1
    (more t p.0 (let less = p.2 in omega (arith, less, h)))
settles_turn o n s (Ok (None, t)) more ready h p =
    let e = sym p.0 in
    (subst IsReady e ready, ap (future o) e, subst (λ t. IsStill t.pending (future o t)) e p.1)

settles_turns : (o : OptionsData) (n : ℕ) → SettlesAll o n
unfolding turns
settles_turns o zero s ready h = absurd (omega arith)
settles_turns o (suc n) s ready h = settles_turn o n s (token_turn o s) (settles_turns o n) ready h
    (turn_keeps o s ready)

settle_keeps : (o : OptionsData) (s : TokenState) → IsReady s → Settles o s (settle_tokens o s)
unfolding pieces
settle_keeps o s ready = settles_turns o (suc (token_size s)) s ready (omega arith)

-- ---- one token

abbrev NextKeeps : OptionsData → TokenState → Result (Option PlainToken × TokenState) Fault → Type 0
NextKeeps o s (Ok (Some e, t)) = IsReady t × (future o s ≡ before_tokens_told (e ∷ []) (future o t))
NextKeeps o s (Ok (None, t)) = IsReady t × (future o s ≡ ([], None))
NextKeeps o s (Err f) = future o s ≡ ([], Some f)

first_keeps : (o : OptionsData) (s : TokenState) (es : List PlainToken) (l : LexState) (q : List FlaggedItem)
    (p : Following) → Ready l q → future o s ≡ future o (record { reading = l; queue = q; following = p; pending = es })
    → IsStill es (future o (record { reading = l; queue = q; following = p; pending = es }))
    → NextKeeps o s (Ok (first_pending_token es (record { reading = l; queue = q; following = p; pending = es })))
first_keeps o s [] l q p ready e still = (ready, e ∙ still)
first_keeps o s (x ∷ es) l q p ready e still = (ready, e)

next_by : (o : OptionsData) (s : TokenState) (r : Result (List PlainToken × TokenState) Fault) → Settles o s r
    → NextKeeps o s (r >>= λ x. Ok (first_pending_token x.1.pending x.1))
next_by o s (Ok x) p = first_keeps o s x.1.pending x.1.reading x.1.queue x.1.following p.0 p.1 p.2
next_by o s (Err f) p = p

next_keeps : (o : OptionsData) (s : TokenState) → IsReady s → NextKeeps o s (next_token o s)
unfolding next_token
next_keeps o s ready = next_by o s (settle_tokens o s) (settle_keeps o s ready)

-- ---- all tokens

gives_future : (o : OptionsData) (s : TokenState) (es : List PlainToken) (f : Option Fault) → GivesTokens o s es f
    → IsReady s → future o s ≡ (es, f)
gives_future o s [] None (gives_end e) ready = (subst (NextKeeps o s) e (next_keeps o s ready)).1
gives_future o s [] (Some f) (gives_fault e) ready = subst (NextKeeps o s) e (next_keeps o s ready)
gives_future o s (x ∷ es) f (gives_token {after = t} e more) ready =
    let p = subst (NextKeeps o s) e (next_keeps o s ready) in
    p.1 ∙ ap (before_tokens_told (x ∷ [])) (gives_future o t es f more p.0)

gives_nothing : (o : OptionsData) (s : TokenState) (f : Option Fault)
    (r : Result (Option PlainToken × TokenState) Fault)
    → next_token o s ≡ r → NextKeeps o s r → future o s ≡ ([], f) → GivesTokens o s [] f
gives_nothing o s f (Ok (Some e, t)) is p eq = absurd
    (let h : e ∷ (future o t).0 ≡ [] = ap (λ (x : TokensTold). x.0) (sym p.1 ∙ eq) in cc)
gives_nothing o s f (Ok (None, t)) is p eq = subst (λ f. GivesTokens o s [] f)
    (ap (λ (x : TokensTold). x.1) (sym p.1 ∙ eq))
    (gives_end is)
gives_nothing o s f (Err g) is p eq = subst (λ f. GivesTokens o s [] f) (ap (λ (x : TokensTold). x.1) (sym p ∙ eq))
    (gives_fault is)

abbrev GivesAll : OptionsData → List PlainToken → Option Fault → Type 0
GivesAll o es f = (s : TokenState) → IsReady s → future o s ≡ (es, f) → GivesTokens o s es f

same_token : (e x : PlainToken) (es xs : List PlainToken) → e ∷ es ≡ x ∷ xs → e ≡ x
same_token e x es xs h = cc

same_tokens : (e x : PlainToken) (es xs : List PlainToken) → e ∷ es ≡ x ∷ xs → es ≡ xs
same_tokens e x es xs h = cc

gives_some : (o : OptionsData) (s : TokenState) (x : PlainToken) (es : List PlainToken) (f : Option Fault)
    (r : Result (Option PlainToken × TokenState) Fault) → GivesAll o es f → next_token o s ≡ r → NextKeeps o s r
    → future o s ≡ (x ∷ es, f) → GivesTokens o s (x ∷ es) f
gives_some o s x es f (Ok (Some e, t)) more is p eq =
    let both : e ∷ (future o t).0 ≡ x ∷ es = ap (λ (y : TokensTold). y.0) (sym p.1 ∙ eq) in
    let end : (future o t).1 ≡ f = ap (λ (y : TokensTold). y.1) (sym p.1 ∙ eq) in
    let rest : future o t ≡ (es, f) = ap₂ (λ xs g. (xs, g)) (same_tokens e x (future o t).0 es both) end in
    subst (λ e. GivesTokens o s (e ∷ es) f) (same_token e x (future o t).0 es both) (gives_token is (more t p.0 rest))
gives_some o s x es f (Ok (None, t)) more is p eq = absurd
    (let h : [] ≡ x ∷ es = ap (λ (y : TokensTold). y.0) (sym p.1 ∙ eq) in cc)
gives_some o s x es f (Err g) more is p eq = absurd
    (let h : [] ≡ x ∷ es = ap (λ (y : TokensTold). y.0) (sym p ∙ eq) in cc)

gives_all : (o : OptionsData) (es : List PlainToken) (f : Option Fault) → GivesAll o es f
gives_all o [] f s ready eq = gives_nothing o s f (next_token o s) refl (next_keeps o s ready) eq
gives_all o (x ∷ es) f s ready eq = gives_some o s x es f (next_token o s) (gives_all o es f) refl
    (next_keeps o s ready) eq

-- ---- from the start

start_ready : (h : Here) → IsReady (tokens_start_from h)
start_ready h = record { below = tt; old = tt; one_end = λ e. refl }

start_by : (o : OptionsData) (h : Here) (r : Result (List Item × LexState) Fault)
    → LexChain (lex_start h).reader.laid r
    → told_of (ahead o [] (read_out r (lex_start h))) following_start ≡ tokens_told_read o r
start_by o h (Err f) ch = absurd ch
start_by o h (Ok x) ch =
    ap (λ items. (written (parsers_items x.1.reader.laid x.1.fault items) following_start, x.1.fault))
    (pushed_asked o.emit_comments x.0 ∙ ap (asked_items o.emit_comments) (sym ch.same_flags))

start_told : (o : OptionsData) (h : Here) → future o (tokens_start_from h) ≡ tokens_told o h
start_told o h = ap (before_tokens_told (marked StartOfStream (mark_of h) ∷ []))
    (start_by o h (lex o h) (pieces_chain o (lex_start h) tt))

-- the calls give all tokens
pub tokens_tell : (o : OptionsData) (text : List ℕ)
    → GivesTokens o (tokens_start text) (tokens_told o (start_of text)).0 (tokens_told o (start_of text)).1
tokens_tell o text =
    gives_all o (tokens_told o (start_of text)).0 (tokens_told o (start_of text)).1 (tokens_start text)
    (start_ready (start_of text)) (start_told o (start_of text))

-- and nothing else
pub only_tokens : (o : OptionsData) (text : List ℕ) (ts : List PlainToken) (f : Option Fault)
    → GivesTokens o (tokens_start text) ts f → tokens_told o (start_of text) ≡ (ts, f)
only_tokens o text ts f given = sym (start_told o (start_of text))
    ∙ gives_future o (tokens_start text) ts f given (start_ready (start_of text))
