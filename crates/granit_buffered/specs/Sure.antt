-- Characters that are taken whatever follows them.
use Rattle.std.specs.Prelude.{◌≡◌, ℕ, ◌==◌, ◌&&◌, ◌||◌, not, Bool, true, false, List, Option, Some, None}
use Rattle.granit_base.specs.Classes.{is_blank_or_breakz, is_flow, is_within}
use Rattle.granit_base.specs.Place.{Unread, first}
use Rattle.granit_runs.specs.Runs.{run_test, starts}
use Rattle.granit_runs.specs.Unread.{past_count}
use Rattle.granit_runs.specs.White.{is_skipped}
use Rattle.granit_runs.specs.declared.class.Run.{Run}
use Rattle.granit_runs.specs.declared.class.Run.TheVariants.{Of, Plain, Quoted, QuotedAscii}
use Rattle.granit_runs.specs.declared.class.Run.TheVariants.{PlainWords, QuotedWords}
use Rattle.granit_buffered.specs.declared.sure.Taker.{Taker}
use Rattle.granit_buffered.specs.declared.sure.Taker.TheVariants.{Sure, Blanks}

-- content of a plain scalar whatever follows it
abbrev pub is_plain_alone : Bool → ℕ → Bool
is_plain_alone in_flow c = not (is_blank_or_breakz c) && (not (c == 0x3A) && not (in_flow && is_flow c))

-- a character from `-` to `Z` but `:`, or one from `^` to `z`: most are one
abbrev pub is_common : ℕ → Bool
is_common c = is_within 0x5E 0x7A c || (is_within 0x2D 0x5A c && not (c == 0x3A))

-- what surely takes each of these
abbrev pub takes_common : Run → Bool
takes_common (Of class) = false
takes_common (Plain in_flow) = true
takes_common (Quoted single) = true
takes_common (QuotedAscii single) = true
takes_common (PlainWords in_flow) = true
takes_common (QuotedWords single) = true

-- whether the first character is taken
abbrev pub taker_test : Taker → List ℕ → Bool
taker_test (Sure run) text = run_test run text
taker_test (Blanks tabs) text = starts (is_skipped tabs) text

-- a character that says by itself whether it is taken: of a run one that is no ` ` or `:`
abbrev pub TellsAlone : Taker → ℕ → Type 0
TellsAlone (Sure run) c = ((c == 0x20) ≡ false) × ((c == 0x3A) ≡ false)
TellsAlone (Blanks tabs) c = Unit {0}

-- the next character, which is taken, was consumed; or nothing was, and it isn't taken if it says so by itself
abbrev pub TakesSure : Taker → Unread → Option ℕ → (Unread → Type 0) → Type 0
TakesSure taker u None Lands = (TellsAlone taker (first u.text) → taker_test taker u.text ≡ false) × Lands u
TakesSure taker u (Some c) Lands = (c ≡ first u.text) × (taker_test taker u.text ≡ true) × Lands (past_count 1 u)

-- the next character, which a run takes, was consumed; or nothing was, and the run doesn't take it
abbrev pub TakesOne : Run → Unread → Option ℕ → (Unread → Type 0) → Type 0
TakesOne run u None Lands = (run_test run u.text ≡ false) × Lands u
TakesOne run u (Some c) Lands = (c ≡ first u.text) × (run_test run u.text ≡ true) × Lands (past_count 1 u)
