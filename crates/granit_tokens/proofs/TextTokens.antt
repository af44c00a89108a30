-- The tokens of a text balance, as far as reading goes.
use Rattle.std.proofs.Common.{◌≡◌, ℕ, zero, suc, Bool, true, false, List, [], ◌++◌, map, Some, None, Result}
use Rattle.std.proofs.Common.{Ok, Err, refl, sym, ap, ◌∙◌, subst}
use Rattle.std.specs.Prelude.{if◌then◌else◌}
use Rattle.std.proofs.lemmas.List.{append-nil}
use Rattle.granit_order.proofs.BracketsPassed.{kinds_in}
use Rattle.granit_order.proofs.ColumnLists.{edges}
use Rattle.granit_order.proofs.KeysKept.{all_fit, Keeps, all_keep, none_due}
use Rattle.granit_order.proofs.KeysMoved.{outer_in}
use Rattle.granit_error.specs.OptionsData.{OptionsData}
use Rattle.granit_language.specs.Reached.{ReadRefused, Reads, Reached, stops, goes_on}
use Rattle.granit_lexemes.specs.Here.{start_of}
use Rattle.granit_lexemes.specs.Lexeme.{Item}
use Rattle.granit_lexemes.specs.Outcome.{Fault, ◌>>=◌}
use Rattle.granit_lexemes.specs.Pieces.{with_front, then_more, turns, pieces}
use Rattle.granit_machine.specs.Laid.{Laid}
use Rattle.granit_machine.specs.Lexing.{lex_start}
use Rattle.granit_machine.specs.Reader.{LexState, is_end, behind_read, read, lex_turn, lex_len}
use Rattle.granit_machine.specs.ReaderState.{ReaderState, Read, reader_start}
use Rattle.granit_reading.proofs.Answering.{Answers}
use Rattle.granit_places.proofs.Counting.{start_at}
use Rattle.granit_reading.proofs.ReadingLaw.{ReadsBy, read-is, lex_answers}
use Rattle.granit_steps.proofs.StepLaws.{flags_by_number}
use Rattle.granit_steps.proofs.TokenLemmas.{paired_items}
use Rattle.granit_steps.specs.Told.{FlagsOf}
use Rattle.granit_steps.specs.Tokens.{ScanToken, StateItem, item_in, tokens, pair_up, paired_turn, items_of_states}
use Rattle.granit_steps.specs.Tokens.{lex_states, text_tokens}
use Rattle.granit_tokens.proofs.Openings.{passed}
use Rattle.granit_tokens.proofs.ReadTokens.{Goes, goes_nothing, Leads, SameFlags, with_state, same_items, behind_all}
use Rattle.granit_tokens.proofs.ReadTokens.{read_says, read_goes, tail_flags}
use Rattle.granit_tokens.proofs.Stacks.{open_at, DueFits}

-- ---- one read, and what is read behind it

reached_one : (o : OptionsData) (s after : ReaderState) (items : List Item) → Reads o s items after
    → Reached o s items after
reached_one o s after items r = goes_on after items [] r (λ e. refl) stops (sym (append-nil items))

module _ (o : OptionsData) (x : List ℕ) where
  keeps_on : (s after : ReaderState) (items : List Item) → Reads o s items after → Keeps x s → Keeps x after
  keeps_on s after items r k = all_keep o x (reached_one o s after items r) k.place k.below k.ahead

  goes_behind : (s after : ReaderState) (items : List Item) (xs : List StateItem) (t : Laid) → Reads o s items after
      → Keeps x s → Goes after.laid xs t → SameFlags (items ++ map item_in xs)
      → Goes s.laid (with_state s.laid items ++ xs) t
  goes_behind s after items xs t r k g same =
      read_goes s.laid after.laid t xs g items (read_says o s after items r k.below)
      (all_fit (Leads after.laid s.laid g.ks) o x (behind_all xs) (reached_one o s after items r) k.place k.below
      k.ahead (record { ks = g.ks; chosen = g.chosen; ordered = λ sc. (refl, refl, refl) })) same

  -- ---- all reads

  abbrev pub Holds : LexState → Result (List StateItem × LexState) Fault → Type 0
  Holds s (Ok y) = SameFlags (map item_in y.0) → Goes s.reader.laid y.0 y.1.reader.laid
  Holds s (Err f) = Unit {0}

  abbrev GoesOn : ℕ → Type 0
  GoesOn n = (u : LexState) → Keeps x u.reader → Holds u (turns (paired_turn o) n u)

  in_front_of : (s : LexState) (after : ReaderState) (items : List Item) → Reads o s.reader items after
      → Keeps x s.reader → (given : Result (List StateItem × LexState) Fault)
      → Holds (record { reader = after; ended = is_end items; fault = None }) given
      → Holds s (with_front (with_state s.reader.laid items) given)
  in_front_of s after items r k (Err f) h = tt
  in_front_of s after items r k (Ok y) h = λ same.
      let e = same_items s.reader.laid items y.0 in
      let f : SameFlags (items ++ map item_in y.0) = subst SameFlags e same in
      goes_behind s.reader after items y.0 y.1.reader.laid r k (h (tail_flags items (map item_in y.0) f)) f

  holds_by : (n : ℕ) (s : LexState) (b : Bool) (r : Read) → Answers (ReadsBy o s.reader) (ReadRefused o s.reader) r
      → Keeps x s.reader → GoesOn n
      → Holds s (pair_up s.reader.laid (if b then Ok (None, s) else behind_read r s.reader)
      >>= λ y. then_more (turns (paired_turn o) n) y.0 y.1)
  holds_by n s true r p k more = λ same. goes_nothing s.reader.laid
  holds_by n s false (Err f) p k more = λ same. goes_nothing s.reader.laid
  holds_by n s false (Ok (items, after)) p k more =
      let u : LexState = record { reader = after; ended = is_end items; fault = None } in
      in_front_of s after items p k (turns (paired_turn o) n u) (more u (keeps_on s.reader after items p k))

  all_hold : (n : ℕ) → GoesOn n
  unfolding turns lex_turn
  all_hold zero s k = λ same. goes_nothing s.reader.laid
  all_hold (suc n) s k = holds_by n s s.ended (read o s.reader) (read-is o s.reader) k (all_hold n)

  -- ---- a text

  start_keeps : Keeps x (reader_start (start_of x))
  start_keeps = record { place = start_at x; below = tt; ahead = tt }

  pub states_hold : Holds (lex_start (start_of x)) (lex_states o (start_of x))
  unfolding pieces
  states_hold = all_hold (suc (lex_len (lex_start (start_of x)))) (lex_start (start_of x)) start_keeps

  pub text_flags : (xs : List StateItem) (t : LexState) → lex_states o (start_of x) ≡ Ok (xs, t)
      → SameFlags (map item_in xs)
  text_flags xs t e = subst FlagsOf (sym (paired_items o (start_of x)) ∙ ap items_of_states e)
      (flags_by_number o (start_of x))

  -- what is open behind tokens where a state of the reader stands
  pub record OpenBehind (ts : List ScanToken) (t : Laid) : Type 0 where
    pub pairs : List Bool
    pub are_passed : passed ts [] ≡ Some (open_at (kinds_in t.brackets) pairs None (edges t))

  states_pass : (xs : List StateItem) (t : LexState) → lex_states o (start_of x) ≡ Ok (xs, t)
      → OpenBehind (tokens [] xs) t.reader.laid
  states_pass xs t e =
      let g = subst (Holds (lex_start (start_of x))) e states_hold (text_flags xs t e) in
      let none = none_due (outer_in [] g.ks) in
      let p = g.passes [] tt (λ a b. refl) (subst (λ due. DueFits due []) (sym none) tt) in
      record {
        pairs = p.0;
        are_passed = ap (λ due. passed (tokens [] xs) (open_at [] [] due [])) (sym none) ∙ p.1;
      }

  -- ---- tokens and the states that they are made of

  abbrev tokens_given : Result (List ScanToken × LexState) Fault → List ScanToken
  tokens_given (Ok y) = y.0
  tokens_given (Err f) = []

  abbrev state_given : LexState → Result (List ScanToken × LexState) Fault → LexState
  state_given u (Ok y) = y.1
  state_given u (Err f) = u

  pub record Given (ts : List ScanToken) (t : LexState) : Type 0 where
    pub items : List StateItem
    pub states : lex_states o (start_of x) ≡ Ok (items, t)
    pub are : tokens [] items ≡ ts

  given_by : (r : Result (List StateItem × LexState) Fault) (ts : List ScanToken) (t : LexState)
      → lex_states o (start_of x) ≡ r
      → ◌≡◌ {A = Result (List ScanToken × LexState) Fault} (r >>= λ y. Ok (tokens [] y.0, y.1)) (Ok (ts, t))
      → Given ts t
  given_by (Err f) ts t e p = absurd cc
  given_by (Ok (xs, u)) ts t e p = record {
    items = xs;
    states = e ∙ ap (λ u. Ok (xs, u)) (ap (state_given u) p);
    are = ap tokens_given p;
  }

  pub given : (ts : List ScanToken) (t : LexState) → text_tokens o (start_of x) ≡ Ok (ts, t) → Given ts t
  given ts t e = given_by (lex_states o (start_of x)) ts t refl e

  pub tokens_pass : (ts : List ScanToken) (t : LexState) → text_tokens o (start_of x) ≡ Ok (ts, t)
      → OpenBehind ts t.reader.laid
  tokens_pass ts t e =
      let g = given ts t e in subst (λ ts. OpenBehind ts t.reader.laid) g.are (states_pass g.items t g.states)

  -- ---- all texts have tokens

  abbrev Tokens : Type 0
  Tokens = (ts : List ScanToken) × (t : LexState) × (text_tokens o (start_of x) ≡ Ok (ts, t))

  tokens_by : (r : Result (List StateItem × LexState) Fault) → lex_states o (start_of x) ≡ r → Tokens
  tokens_by (Ok (xs, t)) e = (tokens [] xs, t, ap (λ r. r >>= λ y. Ok (tokens [] y.0, y.1)) e)
  tokens_by (Err f) e =
      absurd (lex_answers o (start_of x) f (sym (paired_items o (start_of x)) ∙ ap items_of_states e))

  pub have_tokens : Tokens
  have_tokens = tokens_by (lex_states o (start_of x)) refl
