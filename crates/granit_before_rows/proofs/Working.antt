-- What decides the worked examples.
use Rattle.std.proofs.Common.{◌≡◌, ℕ, zero, suc, ◌==◌, ◌&&◌, ◌||◌, Bool, true, false, List, [], ◌∷◌, ◌++◌, Option, Some}
use Rattle.std.proofs.Common.{None}
use Rattle.std.proofs.Common.{Result, Ok, Err, refl, sym, ap, ◌∙◌, subst}
use Rattle.std.proofs.lemmas.Bool.{eqb-true, eq-eqb}
use Rattle.std.specs.Bool.{Decides}
use Rattle.std.specs.Prelude.{nat_lt}
use Rattle.std.proofs.lemmas.Bool.Decides.{Decides-like}
use Rattle.std.proofs.lemmas.List.{append-nil}
use Rattle.granit_base.specs.Place.{Mark}
use Rattle.granit_error.specs.OptionsData.{default_options}
use Rattle.granit_language.specs.HeldSaid.{has_ended}
use Rattle.granit_language.specs.OpenColumns.{latest}
use Rattle.granit_language.specs.Reached.{Reads, Reached, stops, goes_on}
use Rattle.granit_lexemes.specs.Here.{start_of}
use Rattle.granit_lexemes.specs.LayoutData.{is_left}
use Rattle.granit_lexemes.specs.Lexeme.{Lexeme, Item, OfLexeme, OfComment}
use Rattle.granit_lexemes.specs.Outcome.{Fault}
use Rattle.granit_machine.specs.Laid.{is_question, is_in_flow, block_column}
use Rattle.granit_machine.specs.Lexing.{FlaggedItem, flagged, lex}
use Rattle.granit_machine.specs.PossibleKeys.{tab_column_of, is_possible}
use Rattle.granit_machine.specs.Reader.{LexState, read, is_end}
use Rattle.granit_machine.specs.ReaderState.{ReaderState, Read, reader_start}
use Rattle.granit_reading.proofs.Answering.{Answers}
use Rattle.granit_reading.proofs.Deciding.{block_tab_decided, key_tab_decided}
use Rattle.granit_reading.proofs.ReadingLaw.{ReadsBy, read-is, lexed}
use Rattle.granit_language.specs.Reached.{ReadRefused}
use Rattle.granit_layouts.proofs.CutSaid.{cut_said, cut_held}
use Rattle.granit_declared.proofs.KeyFlags.{flags_said}
use Rattle.granit_declared.proofs.StillSaid.{still_said}
use Rattle.granit_layouts.proofs.TabRows.{block_row, key_row}
use Rattle.granit_before.specs.KeyBegins.{items_of, FlagSays, FlagsSay}
use Rattle.granit_before_rows.specs.Worked.{BehindRead, further, worked_behind, reads_from, first_reads, first_lexemes}
use Rattle.granit_before_rows.specs.Worked.{Indents, BeforeKey, item_begins, BeginsIn, items_in, flagged_of, KeyAt}
use Rattle.granit_before_rows.specs.Worked.{StillKey}
use Rattle.granit_before_rows.specs.Worked.{CutAt}

-- ---- so many reads reach a place

ReachesFrom : ReaderState → BehindRead → Type 0
ReachesFrom s b = Reached default_options s b.0 b.1

further_reaches : (s : ReaderState) (items : List Item) (after : ReaderState) (on : BehindRead) →
    Reads default_options s items after → Reached default_options after on.0 on.1 → (v : Bool) → is_end items ≡ v →
    Reached default_options s (further v items after on).0 (further v items after on).1
further_reaches s items after on r p true e = goes_on after items [] r (λ t. refl) stops (nothing items)
  where
    nothing : (is : List Item) → is ≡ is ++ []
    nothing is = sym (append-nil is)
further_reaches s items after on r p false e =
    goes_on after items on.0 r (λ t. absurd (let z = sym e ∙ t in cc)) p refl

read_reaches : (s : ReaderState) (r : Read) (on : ReaderState → BehindRead) →
    Answers (ReadsBy default_options s) (ReadRefused default_options s) r →
    ((after : ReaderState) → Reached default_options after (on after).0 (on after).1) →
    Reached default_options s (worked_behind s r on).0 (worked_behind s r on).1
read_reaches s (Ok (items, after)) on p more =
    further_reaches s items after (on after) p (more after) (is_end items) refl
read_reaches s (Err f) on p more = stops

reaches : (n : ℕ) (s : ReaderState) → Reached default_options s (reads_from n s).0 (reads_from n s).1
reaches zero s = stops
reaches (suc n) s =
    read_reaches s (read default_options s) (reads_from n) (read-is default_options s) (λ after. reaches n after)

first_reach : (n : ℕ) (text : List ℕ) →
    Reached default_options (reader_start (start_of text)) (first_reads n text).0 (first_reads n text).1
first_reach n text = reaches n (reader_start (start_of text))

-- ---- tabs

abbrev mark_in : ℕ → Mark
mark_in column = record { place = record { index = 0; line = 1; column = column }; byte_offset = None }

abbrev pub indents : List ℕ → (reads column : ℕ) → Bool
indents text n column =
    let l = (first_reads n text).1.laid in
    nat_lt column (tab_column_of (l.rolled || (is_in_flow l && default_options.strict_indentation)) (block_column l))

pub indents_decided : (text : List ℕ) (n column : ℕ) → Decides (indents text n column) (Indents text n column)
indents_decided text n column =
    let s = (first_reads n text).1 in
    let d = block_row default_options text (first_reads n text).0 s (mark_in column) (first_reach n text) in
    Decides-like (indents text n column) d.0 d.1 (block_tab_decided default_options s.laid (mark_in column))

abbrev pub before_key : List ℕ → (reads column : ℕ) → Bool
before_key text n column =
    let l = (first_reads n text).1.laid in is_question l.last && is_left (block_column l) column

pub before_decided : (text : List ℕ) (n column : ℕ) → Decides (before_key text n column) (BeforeKey text n column)
before_decided text n column =
    let s = (first_reads n text).1 in
    let d = key_row default_options (start_of text) (first_reads n text).0 s (mark_in column) (first_reach n text) in
    Decides-like (before_key text n column) d.0 d.1 (key_tab_decided s.laid (mark_in column))

-- ---- keys

abbrev flag_in : ℕ → List FlaggedItem → Bool
flag_in n [] = false
flag_in zero (i ∷ is) = i.begins_key
flag_in (suc n) (i ∷ is) = flag_in n is

item_decided : (text : List ℕ) (before : List Lexeme) (i : Item) (flag : Bool) (more : List Item) →
    FlagSays default_options text before i flag more → Decides flag (item_begins text before i more)
item_decided text before (OfLexeme x) flag more d = d
item_decided text before (OfComment c) flag more e = (λ f. absurd (let z = sym e ∙ f in cc), λ p. absurd p)

flag_decided : (text : List ℕ) (n : ℕ) (before : List Lexeme) (fs : List FlaggedItem) →
    FlagsSay default_options text before fs → Decides (flag_in n fs) (BeginsIn text n before fs)
flag_decided text zero before [] s = (λ e. absurd cc, λ p. absurd p)
flag_decided text (suc n) before [] s = (λ e. absurd cc, λ p. absurd p)
flag_decided text zero before (i ∷ is) s = item_decided text before i.item i.begins_key (items_of is) s.0
flag_decided text (suc n) before (i ∷ is) s = flag_decided text n (latest (i.item ∷ []) before) is s.1

flags_in : (text : List ℕ) (r : Result (List Item × LexState) Fault) → lex default_options (start_of text) ≡ r →
    FlagsSay default_options text [] (flagged (items_in r))
flags_in text (Ok x) e =
    flags_said default_options text x.0 x.1.reader (lexed default_options (start_of text) x.0 x.1 e).reached
flags_in text (Err f) e = tt

abbrev pub is_key : List ℕ → ℕ → Bool
is_key text n = flag_in n (flagged_of text)

pub key_decided : (text : List ℕ) (n : ℕ) → Decides (is_key text n) (KeyAt text n)
key_decided text n =
    flag_decided text n [] (flagged_of text) (flags_in text (lex default_options (start_of text)) refl)

-- ---- keys that may still begin

abbrev pub may_be_key : List ℕ → (reads number : ℕ) → Bool
may_be_key text n number = is_possible number (first_reads n text).1.laid

pub still_decided : (text : List ℕ) (n number : ℕ) → has_ended (first_lexemes n text) ≡ false →
    Decides (may_be_key text n number) (StillKey text n number)
still_decided text n number e =
    still_said default_options text (first_reads n text).0 (first_reads n text).1 number (first_reach n text) e

-- ---- comments

abbrev pub stands_at : Option Mark → ℕ → Bool
stands_at None index = false
stands_at (Some m) index = m.place.index == index

abbrev pub is_cut_at : List ℕ → (reads index : ℕ) → Bool
is_cut_at text n index = stands_at (first_reads n text).1.laid.cut index

pub cut_decided : (text : List ℕ) (n index : ℕ) → has_ended (first_lexemes n text) ≡ false →
    Decides (is_cut_at text n index) (CutAt text n index)
cut_decided text n index e = (there (first_reads n text).1.laid.cut refl, back)
  where
    there : (cut : Option Mark) → (first_reads n text).1.laid.cut ≡ cut → stands_at cut index ≡ true →
        CutAt text n index
    there None f y = absurd cc
    there (Some m) f y =
        subst (CutAt text n) (eqb-true m.place.index index y)
        (cut_said default_options text (first_reads n text).0 (first_reads n text).1 m (first_reach n text) e f)

    back : CutAt text n index → is_cut_at text n index ≡ true
    back c =
        let r = first_reach n text in
        let q = cut_held default_options text (first_reads n text).0 (first_reads n text).1 index r e c in
        ap (λ (cut : Option Mark). stands_at cut index) q.1 ∙ eq-eqb q.0.place.index index q.2
