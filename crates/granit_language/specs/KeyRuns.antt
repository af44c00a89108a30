-- The key of a `:`, said of the lexemes before it (YAML 1.2.2, 7.4.2 and 8.2.2).
use Rattle.std.specs.Prelude.{◌≡◌, ℕ, ◌+◌, ◌==◌, Bool, true, false, ◌&&◌, ◌||◌, not, nat_lt, List, [], ◌∷◌, ◌++◌, drop}
use Rattle.std.specs.Prelude.{◌⊎◌, Option, Some, None}
use Rattle.granit_base.specs.Place.{Mark}
use Rattle.granit_error.specs.OptionsData.{OptionsData}
use Rattle.granit_lexemes.specs.Lexeme.{LexemeKind, Open, Comma, Question, Colon, KeyStart, Lexeme, Item}
use Rattle.granit_lexemes.specs.Lexeme.{OfLexeme, OfComment, is_entry_dash}
use Rattle.granit_language.specs.Fitting.{Role, OfNode, Opens, Closes, role_of}

abbrev pub role : Lexeme → Role
role x = role_of x.kind x.key

-- lexemes whose brackets are whole, the latest first, in front of others
pub data WholeBrackets : (xs rest : List Lexeme) → Type 0 where
  whole_none : {rest : List Lexeme} → WholeBrackets rest rest
  whole_other : {x : Lexeme} {xs rest : List Lexeme} → (role x ≡ Opens → ⊥) → (role x ≡ Closes → ⊥)
      → WholeBrackets xs rest → WholeBrackets (x ∷ xs) rest
  whole_pair : {closer opener : Lexeme} {xs ys rest : List Lexeme} → role closer ≡ Closes
      → WholeBrackets xs (opener ∷ ys) → role opener ≡ Opens → WholeBrackets ys rest
      → WholeBrackets (closer ∷ xs) rest

-- no run ends here: neither an alias, a property or a scalar stands last, nor a closer
abbrev pub NoRun : List Lexeme → Type 0
NoRun [] = Unit {0}
NoRun (x ∷ xs) = (role x ≡ OfNode → ⊥) × (role x ≡ Closes → ⊥)

-- outside flow what begins its line joins no run before it
abbrev pub joins_run : Lexeme → Bool
joins_run x = x.in_flow || not x.begins_line

abbrev pub BeginsRun : Lexeme → List Lexeme → Type 0
BeginsRun x ys = (joins_run x ≡ false) ⊎ NoRun ys

-- The longest stretch of aliases, properties, scalars and whole bracketed collections that ends with these lexemes, the
-- latest first: the lexeme that begins it, and those before that.
pub data Run : (xs : List Lexeme) (first : Lexeme) (rest : List Lexeme) → Type 0 where
  part_begins : {x : Lexeme} {ys : List Lexeme} → role x ≡ OfNode → BeginsRun x ys → Run (x ∷ ys) x ys
  part_joins : {x first : Lexeme} {ys rest : List Lexeme} → role x ≡ OfNode → joins_run x ≡ true → Run ys first rest
      → Run (x ∷ ys) first rest
  whole_begins : {closer opener : Lexeme} {xs ys : List Lexeme} → role closer ≡ Closes → WholeBrackets xs (opener ∷ ys)
      → role opener ≡ Opens → BeginsRun opener ys → Run (closer ∷ xs) opener ys
  whole_joins : {closer opener first : Lexeme} {xs ys rest : List Lexeme} → role closer ≡ Closes
      → WholeBrackets xs (opener ∷ ys) → role opener ≡ Opens → joins_run opener ≡ true → Run ys first rest
      → Run (closer ∷ xs) first rest

-- ---- where a key may begin

-- directly behind an opener, or a `,` in flow
abbrev pub opens_entry : LexemeKind → (in_flow : Bool) → Bool
opens_entry (Open bracket) in_flow = true
opens_entry Comma in_flow = in_flow
opens_entry kind in_flow = false

abbrev pub follows_opener : List Lexeme → Bool
follows_opener [] = false
follows_opener (x ∷ xs) = opens_entry x.kind x.in_flow

abbrev pub follows_dash : List Lexeme → Bool
follows_dash [] = false
follows_dash (x ∷ xs) = is_entry_dash x.kind

-- a `?`, or a `:` without key
abbrev pub is_key_sign : LexemeKind → Option KeyStart → Bool
is_key_sign Question key = true
is_key_sign Colon None = true
is_key_sign kind key = false

abbrev pub follows_sign : List Lexeme → Bool
follows_sign [] = false
follows_sign (x ∷ xs) = not x.in_flow && is_key_sign x.kind x.key

abbrev pub no_tab : List ℕ → Bool
no_tab [] = true
no_tab (c ∷ cs) = not (c == 0x09) && no_tab cs

-- no tab of the text stands between the last lexeme and a place
abbrev pub NoTabBehind : (text : List ℕ) → List Lexeme → Mark → Type 0
NoTabBehind text [] m = ⊥
NoTabBehind text (y ∷ ys) m =
    (cs : List ℕ) × (drop y.shown.end.place.index text ≡ cs ++ drop m.place.index text) × (no_tab cs ≡ true)

-- Where a run may be a key: in flow directly behind an opener or a `,`; outside flow where it begins its line, or
-- stands directly behind a `-`, or behind a `?` or a `:` without key with no tab between.
abbrev pub MayBeKey : (text : List ℕ) → (in_flow : Bool) → Lexeme → List Lexeme → Type 0
MayBeKey text true first rest = follows_opener rest ≡ true
MayBeKey text false first rest =
    (first.begins_line ≡ true)
    ⊎ ((follows_dash rest ≡ true) ⊎ ((follows_sign rest ≡ true) × NoTabBehind text rest first.start))

-- a place too far behind a key's start for its `:`, or outside flow on a later line
abbrev pub too_far : OptionsData → (in_flow : Bool) → (from to : Mark) → Bool
too_far o in_flow from to =
    nat_lt (from.place.index + o.simple_key_max_lookahead) to.place.index
    || (not in_flow && nat_lt from.place.line to.place.line)

-- ---- each `:`

-- the run before it is its key
pub record HasKey (o : OptionsData) (text : List ℕ) (xs : List Lexeme) (x : Lexeme) (k : KeyStart) : Type 0 where
  pub first : Lexeme
  pub rest : List Lexeme
  pub run : Run xs first rest
  pub number : k.number ≡ first.number
  pub start : k.start ≡ first.start
  pub begins : MayBeKey text x.in_flow first rest
  pub near : too_far o x.in_flow first.start x.start ≡ false

-- there is none, or it is none
pub data NoKey (o : OptionsData) (text : List ℕ) (xs : List Lexeme) (x : Lexeme) : Type 0 where
  no_run : NoRun xs → NoKey o text xs x
  no_key : {first : Lexeme} {rest : List Lexeme} → Run xs first rest
      → (MayBeKey text x.in_flow first rest → too_far o x.in_flow first.start x.start ≡ true) → NoKey o text xs x

abbrev pub ColonSays : OptionsData → (text : List ℕ) → List Lexeme → Lexeme → LexemeKind → Option KeyStart → Type 0
ColonSays o text xs x Colon (Some k) = HasKey o text xs x k
ColonSays o text xs x Colon None = NoKey o text xs x
ColonSays o text xs x kind key = Unit {0}

-- each `:` of some items of a text, behind these lexemes
abbrev pub ColonsSay : OptionsData → (text : List ℕ) → List Lexeme → List Item → Type 0
ColonsSay o text xs [] = Unit {0}
ColonsSay o text xs (OfLexeme x ∷ is) = ColonSays o text xs x x.kind x.key × ColonsSay o text (x ∷ xs) is
ColonsSay o text xs (OfComment c ∷ is) = ColonsSay o text xs is
