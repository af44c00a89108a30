-- What a state will still give of tokens: no turn changes it.
use Rattle.std.proofs.Common.{◌≡◌, ◌<◌, ◌&&◌, ◌||◌, not, Bool, true, false, List, [], ◌∷◌}
use Rattle.std.proofs.Common.{Option, Some, None, Result, Ok, Err, refl, sym, ap, subst, ◌∙◌, arith}
use Rattle.std.proofs.lemmas.Bool.{and_parts}
use Rattle.granit_error.specs.OptionsData.{OptionsData}
use Rattle.granit_lexemes.specs.Lexeme.{Item}
use Rattle.granit_lexemes.specs.Outcome.{Fault, ◌>>=◌}
use Rattle.granit_lexemes.specs.Pieces.{pieces, with_front}
use Rattle.granit_lexemes.proofs.PieceLemmas.{pieces_done, pieces_more}
use Rattle.granit_machine.specs.Laid.{Laid}
use Rattle.granit_machine.specs.Lexing.{FlaggedItem}
use Rattle.granit_machine.specs.Machine.{front_if, is_settled, settled}
use Rattle.granit_machine.specs.Reader.{LexState, behind_read, is_end, lex_len, lex_turn, read}
use Rattle.granit_machine.specs.ReaderState.{Read, ReaderState}
use Rattle.granit_termination.proofs.LexLengths.{ReadFits, lex_turn-Shortens, read-fits, at_read}
use Rattle.granit_termination.proofs.ReadLengths.{reader_len}
use Rattle.granit_scan.specs.Following.{Following}
use Rattle.granit_scan.specs.TokenSteps.{TokenState, TokenTurn, front_token_turn, read_more_tokens, read_tokens_unless}
use Rattle.granit_scan.specs.TokenSteps.{token_size, token_turn, token_turn_by, with_tokens_read}
use Rattle.granit_scan.specs.TokensTold.{TokensTold, before_tokens_told, written}
use Rattle.granit_scan.specs.TokenViews.{PlainToken}
use Rattle.granit_scan.proofs.Shortening.{read_shorter}
use Rattle.granit_steps.specs.Steps.{asks_next, incoming, is_next_settled, may_go, pushed}
use Rattle.granit_steps.specs.Told.{parsers_items}
use Rattle.granit_steps.proofs.Chains.{LexChain, items_below, pieces_chain}
use Rattle.granit_steps.proofs.Futures.{AllOld, Ready, coming, pushed_nil, read_out, rest_of, old_asked, rest_unread}
use Rattle.granit_steps.proofs.Futures.{all_old_more, old_pushed, old_items, parsers_front}
use Rattle.granit_steps.proofs.KeyReads.{Lexed, possibles, read_keys}
use Rattle.granit_steps.proofs.Queues.{IsOld, asked_append, goes_for_ever, not_begun, pushed_append, pushed_front}

-- ---- what is to come

-- the items to write, and the fault behind them
abbrev pub Ahead : Type 0
Ahead = List FlaggedItem × Option Fault

abbrev pub ahead : OptionsData → List FlaggedItem → List Item × LexState → Ahead
ahead o q x = (coming o q x, x.1.fault)

abbrev pub told_of : Ahead → Following → TokensTold
told_of a f = (written a.0 f, a.1)

abbrev pub future : OptionsData → TokenState → TokensTold
future o s = before_tokens_told s.pending (told_of (ahead o s.queue (rest_of o s.reading)) s.following)

abbrev pub IsReady : TokenState → Type 0
IsReady s = Ready s.reading s.queue

-- ---- the front may go

unread_first : (o : OptionsData) (s : ReaderState) (i : FlaggedItem) (is : List FlaggedItem)
    (r : Result (List Item × LexState) Fault) (l : LexState) → LexChain s.laid r → IsOld s.laid.number i.item
    → is_settled s.laid i.item ≡ true → coming o (i ∷ is) (read_out r l) ≡ i ∷ coming o is (read_out r l)
unread_first o s i is (Err f) l ch old now = absurd ch
unread_first o s i is (Ok x) l ch old now =
    let items = incoming o.emit_comments x.0 in
    ap (parsers_items x.1.reader.laid x.1.fault)
    (pushed_front i is items (not_begun s.laid x.1.reader.laid o.emit_comments i.item x.0 ch old now))
    ∙ parsers_front x.1.reader.laid x.1.fault i (pushed is items)
    (goes_for_ever s.laid x.1.reader.laid i.item x.0 ch old now)

over_first : (o : OptionsData) (s : ReaderState) (ended : Bool) (end : Option Fault) (i : FlaggedItem)
    (is : List FlaggedItem) → parsers_items s.laid end (i ∷ is) ≡ i ∷ parsers_items s.laid end is
    → coming o (i ∷ is) ([], record { reader = s; ended = ended; fault = end })
    ≡ i ∷ coming o is ([], record { reader = s; ended = ended; fault = end })
over_first o s ended end i is first =
    ap (parsers_items s.laid end) (pushed_nil o.emit_comments (i ∷ is)) ∙ first
    ∙ ap (λ q. i ∷ parsers_items s.laid end q) (sym (pushed_nil o.emit_comments is))

front_first : (o : OptionsData) (s : ReaderState) (ended : Bool) (end : Option Fault) (i : FlaggedItem)
    (is : List FlaggedItem) → Ready (record { reader = s; ended = ended; fault = end }) (i ∷ is)
    → may_go (record { reader = s; ended = ended; fault = end }) i is ≡ true
    → coming o (i ∷ is) (rest_of o (record { reader = s; ended = ended; fault = end }))
    ≡ i ∷ coming o is (rest_of o (record { reader = s; ended = ended; fault = end }))
front_first o s true None i is ready e = over_first o s true None i is refl
front_first o s true (Some f) i is ready e = absurd (let h = ready.one_end refl in cc)
front_first o s false (Some f) i is ready e = over_first o s false (Some f) i is
    (parsers_front s.laid (Some f) i is (and_parts (is_settled s.laid i.item) true e).0)
front_first o s false None i is ready e =
    unread_first o s i is (pieces lex_len (lex_turn o) (at_read s)) (at_read s) (pieces_chain o (at_read s) ready.below)
    ready.old.0 (and_parts (is_settled s.laid i.item) (not (asks_next i.item) || is_next_settled s.laid is) e).0

-- ---- a read

ahead_out : (o : OptionsData) (s : Laid) (q : List FlaggedItem) (front : List Item)
    (r : Result (List Item × LexState) Fault) (l m : LexState) → LexChain s r
    → ahead o q (read_out (with_front front r) l) ≡ ahead o (pushed q (incoming o.emit_comments front)) (read_out r m)
ahead_out o s q front (Err f) l m ch = absurd ch
ahead_out o s q front (Ok x) l m ch =
    ap (λ items. (parsers_items x.1.reader.laid x.1.fault items, x.1.fault))
    (ap (pushed q) (asked_append o.emit_comments front x.0)
    ∙ pushed_append q (incoming o.emit_comments front) (incoming o.emit_comments x.0))

-- ---- what a turn keeps

-- with no token pending, nothing is left to give where the loop ends
abbrev pub IsStill : List PlainToken → TokensTold → Type 0
IsStill [] x = x ≡ ([], None)
IsStill (t ∷ ts) x = Unit {0}

abbrev pub TurnKeeps : OptionsData → TokenState → TokenTurn → Type 0
TurnKeeps o s (Ok (Some y, t)) = IsReady t × (future o s ≡ future o t) × (token_size t < token_size s)
TurnKeeps o s (Ok (None, t)) = (t ≡ s) × IsStill s.pending (future o s)
TurnKeeps o s (Err f) = future o s ≡ ([], Some f)

module _ (o : OptionsData) (w : Following) where
  write_keeps : (l : LexState) (i : FlaggedItem) (is : List FlaggedItem) → Ready l (i ∷ is) → may_go l i is ≡ true
      → TurnKeeps o (record { reading = l; queue = i ∷ is; following = w; pending = [] })
      (front_token_turn true o i is (record { reading = l; queue = i ∷ is; following = w; pending = [] }))
  write_keeps l i is ready e = (
    record { below = ready.below; old = ready.old.1; one_end = ready.one_end },
    ap (λ (q : List FlaggedItem). (written q w, (rest_of o l).1.fault))
        (front_first o l.reader l.ended l.fault i is ready e),
    omega arith,
  )

  read_keeps : (s : ReaderState) (q : List FlaggedItem) (r : Read) → read o s ≡ r
      → Lexed s.laid.number (possibles s.laid) r → ReadFits (reader_len s) r → Ready (at_read s) q
      → TurnKeeps o (record { reading = at_read s; queue = q; following = w; pending = [] })
      (behind_read r s >>= λ x. Ok (
        Some [],
        with_tokens_read o (record { reading = at_read s; queue = q; following = w; pending = [] }) x,
      ))
  unfolding lex_turn
  read_keeps s q (Err f) is ch fits ready =
      let l : LexState = at_read s in
      let m : LexState = record { reader = s; ended = false; fault = Some f } in
      let none = pushed_nil o.emit_comments q in (
        record {
          below = ready.below;
          old = subst (λ q. AllOld s.laid.number q) (sym none) ready.old;
          one_end = λ e. absurd (cc);
        },
        ap (λ r. told_of (ahead o q (read_out r l)) w)
            (pieces_done lex_len (lex_turn o) l m (ap (λ r. behind_read r s) is))
            ∙ ap (λ q. told_of (ahead o q ([], m)) w) (sym none),
        read_shorter o w s q (Err f) ch fits,
      )
  read_keeps s q (Ok x) is ch fits ready =
      let l : LexState = at_read s in
      let m : LexState = record { reader = x.1; ended = is_end x.0; fault = None } in
      let below = items_below s.laid x.1.laid x.0 ch ready.below in
      let olds = old_items s.laid.number (possibles s.laid) x.0 x.1.laid ch in (
        record {
          below = below;
          old = old_pushed x.1.laid.number q (incoming o.emit_comments x.0)
              (all_old_more s.laid.number x.1.laid.number q olds.0 ready.old)
              (old_asked x.1.laid.number o.emit_comments x.0 olds.1);
          one_end = λ e. refl;
        },
        ap (λ r. told_of (ahead o q (read_out r l)) w)
            (pieces_more lex_len (lex_turn o) (lex_turn-Shortens o) l m x.0 (ap (λ r. behind_read r s) is))
            ∙ ap (λ a. told_of a w) (ahead_out o x.1.laid q x.0 (pieces lex_len (lex_turn o) m) l m
            (pieces_chain o m below))
            ∙ ap (λ r. told_of (ahead o (pushed q (incoming o.emit_comments x.0)) r) w)
            (sym (rest_unread o x.1 (is_end x.0))),
        read_shorter o w s q (Ok x) ch fits,
      )

  more_keeps : (s : ReaderState) (q : List FlaggedItem) → Ready (at_read s) q
      → TurnKeeps o (record { reading = at_read s; queue = q; following = w; pending = [] })
      (read_tokens_unless o None (record { reading = at_read s; queue = q; following = w; pending = [] }))
  unfolding lex_turn
  more_keeps s q ready = read_keeps s q (read o s) refl (read_keys o s) (read-fits o s) ready

  -- ---- nothing may go

  stuck_told : (s : ReaderState) (f : Fault) (q : List FlaggedItem) → settled s.laid q ≡ []
      → told_of (ahead o q ([], record { reader = s; ended = false; fault = Some f })) w ≡ ([], Some f)
  stuck_told s f q e = ap (λ q. (written (settled s.laid q) w, Some f)) (pushed_nil o.emit_comments q)
      ∙ ap (λ q. (written q w, Some f)) e

  wait_keeps : (s : ReaderState) (ended : Bool) (end : Option Fault) (q : List FlaggedItem)
      → Ready (record { reader = s; ended = ended; fault = end }) q → (ended ≡ true → q ≡ [])
      → ((f : Fault) → end ≡ Some f → settled s.laid q ≡ [])
      → TurnKeeps o (record {
        reading = record { reader = s; ended = ended; fault = end };
        queue = q;
        following = w;
        pending = [];
      }) (read_more_tokens o ended (record {
        reading = record { reader = s; ended = ended; fault = end };
        queue = q;
        following = w;
        pending = [];
      }))
  wait_keeps s true (Some f) q ready none stuck = absurd (let h = ready.one_end refl in cc)
  wait_keeps s true None q ready none stuck =
      (refl, ap (λ q. (written q w, None)) (pushed_nil o.emit_comments q ∙ none refl))
  wait_keeps s false (Some f) q ready none stuck = stuck_told s f q (stuck f refl)
  wait_keeps s false None q ready none stuck = more_keeps s q ready

  not_settled : (b : Bool) (i : FlaggedItem) (q : List FlaggedItem) → b ≡ false → front_if b i q ≡ []
  not_settled b i q e = ap (λ b. front_if b i q) e

  and_true_false : (a : Bool) → (a && true) ≡ false → a ≡ false
  and_true_false true e = e
  and_true_false false e = refl

  held_by : (s : ReaderState) (ended : Bool) (end : Option Fault) (i : FlaggedItem) (is : List FlaggedItem)
      → may_go (record { reader = s; ended = ended; fault = end }) i is ≡ false → (f : Fault) → end ≡ Some f
      → settled s.laid (i ∷ is) ≡ []
  held_by s true end i is e f h = absurd (cc)
  held_by s false None i is e f h = absurd (cc)
  held_by s false (Some g) i is e f h = not_settled (is_settled s.laid i.item) i (settled s.laid is)
      (and_true_false (is_settled s.laid i.item) e)

  not_ended : (s : ReaderState) (ended : Bool) (end : Option Fault) (i : FlaggedItem) (is : List FlaggedItem)
      → may_go (record { reader = s; ended = ended; fault = end }) i is ≡ false → ended ≡ true → i ∷ is ≡ []
  not_ended s true end i is e h = absurd (cc)
  not_ended s false end i is e h = absurd (cc)

  front_keeps : (b : Bool) (l : LexState) (i : FlaggedItem) (is : List FlaggedItem) → may_go l i is ≡ b
      → Ready l (i ∷ is) → TurnKeeps o (record { reading = l; queue = i ∷ is; following = w; pending = [] })
      (front_token_turn b o i is (record { reading = l; queue = i ∷ is; following = w; pending = [] }))
  front_keeps true l i is e ready = write_keeps l i is ready e
  front_keeps false l i is e ready = wait_keeps l.reader l.ended l.fault (i ∷ is) ready
      (not_ended l.reader l.ended l.fault i is e) (held_by l.reader l.ended l.fault i is e)

  turn_keeps_by : (ts : List PlainToken) (q : List FlaggedItem) (l : LexState) → Ready l q
      → TurnKeeps o (record { reading = l; queue = q; following = w; pending = ts })
      (token_turn_by o ts q (record { reading = l; queue = q; following = w; pending = ts }))
  turn_keeps_by (t ∷ ts) q l ready = (refl, tt)
  turn_keeps_by [] [] l ready = wait_keeps l.reader l.ended l.fault [] ready (λ e. refl) (λ f e. refl)
  turn_keeps_by [] (i ∷ is) l ready = front_keeps (may_go l i is) l i is refl ready

-- no turn changes what will be given
pub turn_keeps : (o : OptionsData) (s : TokenState) → IsReady s → TurnKeeps o s (token_turn o s)
unfolding token_turn
turn_keeps o s ready = turn_keeps_by o s.following s.pending s.queue s.reading ready
