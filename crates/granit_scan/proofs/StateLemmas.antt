-- A scanner that is known to be in a state of the machine.
use Rattle.std.proofs.Common.{◌≡◌, ℕ, Bool, true, false, ◌||◌, List, [], ◌∷◌, ◌++◌, drop, Option, Some, None, is_some}
use Rattle.std.proofs.Common.{Ok, Err, refl, sym, ap, subst, ◌∙◌}
use Rattle.std.proofs.lemmas.Bool.{or_parts}
use Rattle.std.specs.List.{slice_get}
use Rattle.std.specs.Option.{option_map}
use Rattle.granit_base.specs.Place.{Mark, Unread}
use Rattle.granit_cursor.specs.Reading.{GivesTo}
use Rattle.granit_cursor.specs.declared.token.Token.{Token}
use Rattle.granit_error.specs.OptionsData.{OptionsData}
use Rattle.granit_error.specs.Refused.{Refused}
use Rattle.granit_lexemes.specs.Here.{Here, mark_of}
use Rattle.granit_lexemes.specs.Lexeme.{Item}
use Rattle.granit_lexemes.specs.Outcome.{Fails}
use Rattle.granit_lexemes.proofs.PieceLemmas.{pieces_done}
use Rattle.granit_machine.specs.Lexing.{FlaggedItem, lex_start}
use Rattle.granit_scan.specs.Following.{Following, Writing, writing_start, followed, item_tokens, wrote}
use Rattle.granit_scan.specs.Scanning.{ScannerIn, ScannerTakesFree, TakesToken, TokenScanning, first_tokens, no_tokens}
use Rattle.granit_scan.specs.Scanning.{token_turn_view}
use Rattle.granit_scan.specs.TokenSteps.{TokenState, first_pending_token, next_token, read_more_tokens}
use Rattle.granit_scan.specs.TokenSteps.{read_tokens_unless, settle_tokens, token_size, token_turn, tokens_start_from}
use Rattle.granit_scan.specs.TokenSteps.{with_tokens_read, with_written}
use Rattle.granit_scan.specs.TokenViews.{PlainToken, StartOfStream, marked, plain_token, shown_tokens}
use Rattle.granit_scan.proofs.TurnLemmas.{turn_waits_on}
use Rattle.granit_scanner.specs.Scans as scans
use Rattle.granit_scanner.specs.Scans.{Known, KnownBy, ReadsOn, TakesOldest, may_front_go}
use Rattle.granit_steps.specs.Steps.{is_over}

-- ---- facts of the machine

over_ended : (b : Bool) (f : Option Refused) → f ≡ None → (b || is_some f) ≡ true → b ≡ true
over_ended true f none over = refl
over_ended false None none over = over
over_ended false (Some g) none over = absurd (cc)

going_fault : (b : Bool) (f : Option Refused) → (b || is_some f) ≡ false → f ≡ None
going_fault b None going = refl
going_fault true (Some f) going = absurd (cc)
going_fault false (Some f) going = absurd (cc)

first_is : (ts : List PlainToken) (m : TokenState) → m.pending ≡ ts
    → first_pending_token ts m ≡ (slice_get ts 0, record m { pending = drop 1 ts })
first_is [] m none = ap (λ (ts : List PlainToken). (None, record m { pending = ts })) none
first_is (t ∷ ts) m is = refl

next_is : (o : OptionsData) (m after : TokenState) → settle_tokens o m ≡ Ok ([], after)
    → next_token o m ≡ Ok (slice_get after.pending 0, record after { pending = drop 1 after.pending })
unfolding next_token
next_is o m after is = rw is (ap Ok (first_is after.pending after refl))

abbrev front_of : Option (FlaggedItem × Option ℕ) → FlaggedItem → FlaggedItem
front_of None i = i
front_of (Some x) i = x.0

module _ {I : Type 0} (unread : I → Unread → Type 0) where
  pub starts : (s : TokenScanning I) (h : Here) → Known unread s.items (lex_start h) [] → s.writer ≡ writing_start
      → s.first ≡ Some (mark_of h) → s.failed ≡ false → ScannerIn unread s (tokens_start_from h)
  starts s h known writer first going = record {
    going = going;
    reading = known;
    following = sym (ap (λ (w : Writing). w.following) writer);
    pending = sym (ap (λ (x : Option Mark). first_tokens x ++ s.writer.waiting) first
        ∙ ap (λ (w : Writing). marked StartOfStream (mark_of h) ∷ w.waiting) writer);
  }

  module _ (s : TokenScanning I) (m : TokenState) (at : ScannerIn unread s m) where
    -- what waits, where the start was told
    pub waiting : s.first ≡ None → m.pending ≡ s.writer.waiting
    waiting told = at.pending ∙ ap (λ (x : Option Mark). first_tokens x ++ s.writer.waiting) told

    -- ---- an item

    free_by : (sc : scans.Scanning I) (q : List FlaggedItem) (i : FlaggedItem) (n : Option ℕ) → m.queue ≡ q
        → may_front_go m.reading q ≡ true → TakesOldest unread (Some (i, n)) sc m.reading q
        → ScannerTakesFree unread (Some i) (record s { items = sc }) m
    free_by sc [] i n front goes given = absurd given
    free_by sc (j ∷ is) i n front goes given =
        let same : i ≡ j = ap (λ (r : Option (FlaggedItem × Option ℕ)). front_of r i) given.0 in
        subst (λ (x : FlaggedItem). ScannerTakesFree unread (Some x) (record s { items = sc }) m) (sym same) (
          is,
          front,
          goes,
          record { going = at.going; reading = given.1; following = at.following; pending = at.pending },
        )

    pub takes_free : (sc : scans.Scanning I) (i : FlaggedItem) (n : Option ℕ) → may_front_go m.reading m.queue ≡ true
        → TakesOldest unread (Some (i, n)) sc m.reading m.queue
        → ScannerTakesFree unread (Some i) (record s { items = sc }) m
    takes_free sc i n goes given = free_by sc m.queue i n refl goes given

    -- an item is written
    pub writes : (b : Bool) (i : Item) (w : Writing) → s.first ≡ None → m.pending ≡ [] → w ≡ wrote b i s.writer
        → GivesTo token_turn_view (Ok true) (ScannerIn unread (record s { writer = w }))
        (Ok (token_turn_view true, with_written (record { item = i; begins_key = b }) m.queue m))
    writes b i w told none is =
        let before : s.writer.waiting ≡ [] = sym (waiting told) ∙ none in
        let after : TokenState = with_written (record { item = i; begins_key = b }) m.queue m in (
          after,
          record {
            going = at.going;
            reading = at.reading;
            following = ap (followed b i) at.following ∙ sym (ap (λ (v : Writing). v.following) is);
            pending = ap (λ (f : Following). shown_tokens (item_tokens b i f)) at.following
                ∙ sym (ap (λ (x : Option Mark). first_tokens x ++ w.waiting) told
                ∙ ap (λ (v : Writing). v.waiting) is
                ∙ ap (λ (ts : List PlainToken). ts ++ shown_tokens (item_tokens b i s.writer.following)) before);
          },
          refl,
        )

    -- ---- a read

    ended_by : (f : Option Refused) → f ≡ None → KnownBy unread f s.items m.reading m.queue → is_over m.reading ≡ true
        → (m.reading.ended ≡ true)
        × KnownBy unread None (record (s.items) { fault = None; ended = true }) m.reading m.queue
    ended_by None none known over =
        let ended = over_ended m.reading.ended m.reading.fault known.2 over in
        (ended, (known.0, ended, known.2, known.3))
    ended_by (Some f) none known over = absurd (cc)

    -- the end was read
    pub ends : (o : OptionsData) → s.items.fault ≡ None → is_over m.reading ≡ true
        → GivesTo token_turn_view (Ok false) (ScannerIn unread
        (record s { items = record (s.items) { fault = None; ended = true } })) (read_more_tokens o m.reading.ended m)
    ends o none over =
        let known = ended_by s.items.fault none at.reading over in (
          m,
          record { going = at.going; reading = known.1; following = at.following; pending = at.pending },
          ap (λ (b : Bool). read_more_tokens o b m) known.0,
        )

    fault_by : (o : OptionsData) (g : Option Refused) (f : Refused) → g ≡ Some f
        → KnownBy unread g s.items m.reading m.queue → read_more_tokens o m.reading.ended m ≡ Err f
    fault_by o None f is known = absurd (cc)
    fault_by o (Some g) f is known =
        ap (λ (b : Bool). read_more_tokens o b m) known.0
        ∙ ap (λ (x : Option Refused). read_tokens_unless o x m) (known.1 ∙ is)

    -- a read failed
    pub ends_at_fault : (o : OptionsData) (f : Refused) → s.items.fault ≡ Some f
        → Fails f (read_more_tokens o m.reading.ended m)
    ends_at_fault o f is = λ other. fault_by o s.items.fault f is at.reading

    pub no_fault_yet : is_over m.reading ≡ false → m.reading.fault ≡ None
    no_fault_yet going = going_fault m.reading.ended m.reading.fault going

    -- one more read
    pub reads : (o : OptionsData) (sc : scans.Scanning I) → is_over m.reading ≡ false
        → ReadsOn unread o sc m.reading m.queue
        → GivesTo token_turn_view (Ok true) (ScannerIn unread (record s { items = sc }))
        (read_more_tokens o m.reading.ended m)
    reads o sc going given =
        let ended = (or_parts m.reading.ended (is_some m.reading.fault) going).0 in (
          with_tokens_read o m given.0,
          record { going = at.going; reading = given.2; following = at.following; pending = at.pending },
          ap (λ (b : Bool). read_more_tokens o b m) ended
              ∙ ap (λ (x : Option Refused). read_tokens_unless o x m) (no_fault_yet going)
              ∙ rw (given.1) refl,
        )

    -- ---- a token

    -- the start of the stream
    waits_first : (start : Mark) → s.first ≡ Some start → m.pending ≡ marked StartOfStream start ∷ s.writer.waiting
    waits_first start first = at.pending ∙ ap (λ (x : Option Mark). first_tokens x ++ s.writer.waiting) first

    -- it waits
    pub start_waits : {U : Type 0} (u : U) (o : OptionsData) (start : Mark) → s.first ≡ Some start
        → GivesTo no_tokens (Ok u) (ScannerIn unread s) (settle_tokens o m)
    start_waits u o start first =
        let still = turn_waits_on o m (marked StartOfStream start) s.writer.waiting (waits_first start first) in
        (m, at, pieces_done token_size (token_turn o) m m still)

    -- it is given
    pub takes_start : (start : Mark) (t : Token) → s.first ≡ Some start → plain_token t ≡ marked StartOfStream start
        → TakesToken unread (Some (plain_token t)) (record s { first = None }) m
    takes_start start t first told =
        let pending = waits_first start first in (
          ap Some told ∙ sym (ap (λ (ts : List PlainToken). slice_get ts 0) pending),
          record {
            going = at.going;
            reading = at.reading;
            following = at.following;
            pending = ap (drop 1) pending;
          },
        )

  -- turns were made, and the first token that waits is given
  pub gives_token : {U : Type 0} (u : U) (o : OptionsData) (m : TokenState) (s t : TokenScanning I) (r : Option Token)
      → ((n : TokenState) → ScannerIn unread s n → TakesToken unread (option_map plain_token r) t n)
      → GivesTo no_tokens (Ok u) (ScannerIn unread s) (settle_tokens o m)
      → GivesTo (option_map plain_token) (Ok r) (ScannerIn unread t) (next_token o m)
  gives_token u o m s t r takes settled =
      let after : TokenState = settled.0 in
      let took = takes after settled.1 in (
        record after { pending = drop 1 after.pending },
        took.1,
        next_is o m after settled.2
            ∙ ap (λ (x : Option PlainToken). Ok (x, record after { pending = drop 1 after.pending })) (sym took.0),
      )

  -- or nothing is, where turns fail
  pub next_fails : (o : OptionsData) (m : TokenState) (e : Refused) → Fails e (settle_tokens o m)
      → Fails e (next_token o m)
  unfolding next_token
  next_fails o m e fails = λ other. rw (fails other) refl
