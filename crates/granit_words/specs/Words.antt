-- The words of the program, and the options that they say.
use Rattle.std.specs.Prelude.{◌≡◌, ◌⊎◌, ℕ, suc, ◌<◌, ◌^◌, Bool, true, false, ◌==◌, List, [], ◌∷◌, ◌++◌, length, map}
use Rattle.std.specs.Prelude.{codes}
use Rattle.std.specs.Fmt.{decimal}
use Rattle.std.specs.List.{list_any}
use Rattle.std.specs.Str.{encode_utf8_all}
use Rattle.granit_base.specs.Written.{Written}
use Rattle.granit_error.specs.OptionsData.{OptionsData, default_options}
use Rattle.granit_words.specs.declared.words.Setting.{Setting}
use Rattle.granit_words.specs.declared.words.Setting.TheVariants as setting

-- the words in UTF-8
abbrev pub spelled : List Written → List (List ℕ)
spelled words = map (λ w. encode_utf8_all w.characters) words

-- ---- an option word

abbrev pub switch_text : Bool → List ℕ
switch_text true = codes "on"
switch_text false = codes "off"

-- the word that says a setting: a number is written in decimal, with no zero in front of another digit
abbrev pub word_of : Setting → List ℕ
word_of (setting.StrictIndentation on) = codes "strict=" ++ switch_text on
word_of (setting.DisallowDirectives on) = codes "no-directives=" ++ switch_text on
word_of (setting.EmitUnresolvedAliases on) = codes "unresolved=" ++ switch_text on
word_of (setting.EmitAnchorEvents on) = codes "anchors=" ++ switch_text on
word_of (setting.EmitComments on) = codes "comments=" ++ switch_text on
word_of (setting.MaxBufferedCommentEvents n) = codes "max-comments=" ++ decimal n
word_of (setting.SimpleKeyMaxLookahead n) = codes "key-lookahead=" ++ decimal n
word_of (setting.FlowNestingLimit n) = codes "flow-limit=" ++ decimal n
word_of (setting.BlockNestingLimit n) = codes "block-limit=" ++ decimal n
word_of (setting.MaxDirectiveBytes n) = codes "directive-bytes=" ++ decimal n
word_of (setting.MaxReservedDirectiveParams n) = codes "directive-params=" ++ decimal n

-- a number that may be said: nine digits at most
abbrev pub IsNumber : ℕ → Type 0
IsNumber n = n < 10 ^ 9

-- the number that is said may be
abbrev pub Fits : Setting → Type 0
Fits (setting.MaxBufferedCommentEvents n) = IsNumber n
Fits (setting.SimpleKeyMaxLookahead n) = IsNumber n
Fits (setting.FlowNestingLimit n) = IsNumber n
Fits (setting.BlockNestingLimit n) = IsNumber n
Fits (setting.MaxDirectiveBytes n) = IsNumber n
Fits (setting.MaxReservedDirectiveParams n) = IsNumber n
Fits _ = Unit {0}

-- that is the word of the setting
abbrev pub IsSaidBy : Setting → List ℕ → Type 0
IsSaidBy s word = Fits s × (word ≡ word_of s)

-- the options with the setting
abbrev pub set_in : Setting → OptionsData → OptionsData
set_in (setting.StrictIndentation on) o = record o { strict_indentation = on }
set_in (setting.DisallowDirectives on) o = record o { disallow_directives = on }
set_in (setting.EmitUnresolvedAliases on) o = record o { emit_unresolved_aliases = on }
set_in (setting.EmitAnchorEvents on) o = record o { emit_anchor_events = on }
set_in (setting.EmitComments on) o = record o { emit_comments = on }
set_in (setting.MaxBufferedCommentEvents n) o = record o { max_buffered_comment_events = n }
set_in (setting.SimpleKeyMaxLookahead n) o = record o { simple_key_max_lookahead = n }
set_in (setting.FlowNestingLimit n) o = record o { flow_nesting_limit = n }
set_in (setting.BlockNestingLimit n) o = record o { block_nesting_limit = n }
set_in (setting.MaxDirectiveBytes n) o = record o { max_directive_bytes = n }
set_in (setting.MaxReservedDirectiveParams n) o = record o { max_reserved_directive_params = n }

-- ---- option words

-- the number of the option that a setting sets
abbrev pub option_of : Setting → ℕ
option_of (setting.StrictIndentation on) = 0
option_of (setting.DisallowDirectives on) = 1
option_of (setting.EmitUnresolvedAliases on) = 2
option_of (setting.EmitAnchorEvents on) = 3
option_of (setting.EmitComments on) = 4
option_of (setting.MaxBufferedCommentEvents n) = 5
option_of (setting.SimpleKeyMaxLookahead n) = 6
option_of (setting.FlowNestingLimit n) = 7
option_of (setting.BlockNestingLimit n) = 8
option_of (setting.MaxDirectiveBytes n) = 9
option_of (setting.MaxReservedDirectiveParams n) = 10

abbrev pub option_count : ℕ
option_count = 11

-- one of the settings sets that option
abbrev pub sets : List Setting → ℕ → Bool
sets ss option = list_any (λ s. option_of s == option) ss

-- the words say the settings, one by one
abbrev pub AreSaidBy : List Setting → List (List ℕ) → Type 0
AreSaidBy [] [] = Unit {0}
AreSaidBy (s ∷ ss) (w ∷ ws) = IsSaidBy s w × AreSaidBy ss ws
AreSaidBy _ _ = ⊥

-- no option is set twice
abbrev pub SetOnce : List Setting → Type 0
SetOnce [] = Unit {0}
SetOnce (s ∷ ss) = (sets ss (option_of s) ≡ false) × SetOnce ss

abbrev pub set_all : List Setting → OptionsData → OptionsData
set_all [] o = o
set_all (s ∷ ss) o = set_all ss (set_in s o)

-- ---- the words

-- The words are `events` and then option words, each option at most once and in any order, and these are the options
-- that they say: the default ones but for the settings.
pub record Say (words : List (List ℕ)) (o : OptionsData) : Type 0 where
  pub settings : List Setting
  pub options : List (List ℕ)
  pub begin : words ≡ codes "events" ∷ options
  pub said : AreSaidBy settings options
  pub once : SetOnce settings
  pub are : o ≡ set_all settings default_options

-- the words are in the grammar
abbrev pub AreInGrammar : List (List ℕ) → Type 0
AreInGrammar words = (o : OptionsData) × Say words o

-- the first word is wrong, or missing
abbrev pub LackEvents : List (List ℕ) → Type 0
LackEvents words = (options : List (List ℕ)) → words ≡ codes "events" ∷ options → ⊥

-- right words stand before the k-th, and are wrong with it
pub record AreWrongWith (words : List (List ℕ)) (k : ℕ) : Type 0 where
  pub front : List (List ℕ)
  pub word : List ℕ
  pub rest : List (List ℕ)
  pub are : words ≡ front ++ word ∷ rest
  pub number : k ≡ suc (length front)
  pub right : AreInGrammar front
  pub wrong : AreInGrammar (front ++ word ∷ []) → ⊥

-- the number of the first wrong word, from 1, or one past the last where a word is missing
abbrev pub GoWrongAt : List (List ℕ) → ℕ → Type 0
GoWrongAt words k = (LackEvents words × (k ≡ 1)) ⊎ AreWrongWith words k

abbrev pub usage_line : ℕ → List ℕ
usage_line k = (codes "usage: word " ++ decimal k) ++ codes "\n"
