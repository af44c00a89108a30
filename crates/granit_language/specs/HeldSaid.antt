-- What is held of keys, open brackets and the last lexeme behind lexemes, said of these (YAML 1.2.2, 7.4.2 and 8.2.2).
use Rattle.std.specs.Prelude.{◌≡◌, ℕ, Bool, true, false, List, [], ◌∷◌, Option, Some, None}
use Rattle.granit_base.specs.Place.{Mark}
use Rattle.granit_error.specs.OptionsData.{OptionsData}
use Rattle.granit_language.specs.Fitting.{Opens}
use Rattle.granit_language.specs.KeyRuns.{role, WholeBrackets, NoRun, joins_run, BeginsRun, Run, follows_opener}
use Rattle.granit_language.specs.KeyRuns.{follows_dash, follows_sign, MayBeKey, too_far}
use Rattle.granit_lexemes.specs.Lexeme.{Lexeme}
use Rattle.granit_lexemes.specs.declared.layout.OpenBracket.{OpenBracket}
use Rattle.granit_lexemes.specs.declared.layout.PossibleKey.{PossibleKey}
use Rattle.granit_machine.specs.Laid.{Laid, is_opener, is_dash, is_indicator}
use Rattle.granit_machine.specs.Reader.{is_end_kind}

-- ---- keys

-- what a key that is held says of the run that may be it, and what it says that none is held
abbrev pub HeldKeySays : OptionsData → List ℕ → Bool → Mark → Option PossibleKey → Lexeme → List Lexeme → Type 0
HeldKeySays o text f m (Some k) first rest = (k.number ≡ first.number) × (k.start ≡ first.start)
    × MayBeKey text f first rest
HeldKeySays o text f m None first rest = MayBeKey text f first rest → too_far o f first.start m ≡ true

-- where no run ends with the lexemes there is no key, and else it is held of that run
pub data Now (o : OptionsData) (text : List ℕ) (f : Bool) (m : Mark) (ls : List Lexeme) (key : Option PossibleKey) :
    Type 0 where
  no_run_now : NoRun ls → key ≡ None → Now o text f m ls key
  run_now :
      {first : Lexeme} {rest : List Lexeme} → Run ls first rest → HeldKeySays o text f m key first rest →
      Now o text f m ls key

-- the run that a lexeme begins or joins
pub data Lead (x : Lexeme) (ys : List Lexeme) : Lexeme → List Lexeme → Type 0 where
  lead_begins : BeginsRun x ys → Lead x ys x ys
  lead_joins :
      {first : Lexeme} {rest : List Lexeme} → joins_run x ≡ true → Run ys first rest → Lead x ys first rest

-- the key that is held of the run that an opener begins or joins
pub record Leads (o : OptionsData) (text : List ℕ) (f : Bool) (m : Mark) (x : Lexeme) (ys : List Lexeme)
    (key : Option PossibleKey) : Type 0 where
  pub first : Lexeme
  pub rest : List Lexeme
  pub lead : Lead x ys first rest
  pub holds : HeldKeySays o text f m key first rest

-- a bracket that is open, in front of what stands in it
pub record Pending (o : OptionsData) (text : List ℕ) (f : Bool) (m : Mark) (ls : List Lexeme)
    (key : Option PossibleKey) : Type 0 where
  pub opener : Lexeme
  pub before : List Lexeme
  pub whole : WholeBrackets ls (opener ∷ before)
  pub opens : role opener ≡ Opens
  pub leads : Leads o text f m opener before key

-- the keys around the innermost bracket, one for each that is open, and one outside all
abbrev pub KeysAround :
    OptionsData → List ℕ → Mark → List Lexeme → List OpenBracket → Option PossibleKey → Type 0
KeysAround o text m ls [] key = Pending o text false m ls key
KeysAround o text m ls (b ∷ bs) key = (p : Pending o text true m ls b.key) × KeysAround o text m p.before bs key

abbrev pub Depths : OptionsData → List ℕ → Mark → List Lexeme → List OpenBracket → Option PossibleKey → Type 0
Depths o text m ls [] key = Now o text false m ls key
Depths o text m ls (b ∷ bs) key = Now o text true m ls b.key × KeysAround o text m ls bs key

-- ---- the last lexeme

-- what it lets the next be
pub record LastSays (ls : List Lexeme) (l : Laid) : Type 0 where
  pub opener : is_opener l.last ≡ follows_opener ls
  pub dash : is_dash l.last ≡ follows_dash ls
  pub indicator : is_indicator l.last ≡ true → NoRun ls
  pub sign : is_indicator l.last ≡ follows_sign ls

-- ---- both

-- what the lexemes before a place say of its keys
pub record RunsSay (o : OptionsData) (text : List ℕ) (m : Mark) (ls : List Lexeme) (l : Laid) : Type 0 where
  pub depths : Depths o text m ls l.brackets l.key
  pub last : LastSays ls l

-- the text's end was read
abbrev pub has_ended : List Lexeme → Bool
has_ended [] = false
has_ended (x ∷ xs) = is_end_kind x.kind
