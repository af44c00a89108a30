-- The lexemes of flagged items that fit are terminals that fit.
use Rattle.std.proofs.Common.{◌≡◌, ℕ, Bool, true, List, [], ◌∷◌, map, Option, Some, None, refl, sym, ◌∙◌}
use Rattle.std.proofs.Common.{subst, ◌||◌, not}
use Rattle.granit_error.specs.OptionsData.{OptionsData}
use Rattle.granit_language.specs.Fitting.{role_of, role_fits, keys_behind}
use Rattle.granit_language.specs.Fitting.{item_fits, behind_item, ItemKeysFit}
use Rattle.granit_language.specs.Fitting.{begins_block_entry, item_stands, ItemLinesFit}
use Rattle.granit_language.specs.Reached.{Reached}
use Rattle.granit_language.specs.Reading.{begins_kind, LinesFit, keys_next}
use Rattle.granit_language.specs.Reading.{key_fits, KeysFit}
use Rattle.granit_language.specs.Scope.{Scope, no_scope}
use Rattle.granit_language.specs.Scoping.{next_scope, scoped}
use Rattle.granit_language.specs.Seen.{terminal_kind, at_of, terminal_of, terminal_seen, with_lexeme}
use Rattle.granit_language.specs.Seen.{lexemes_flagged, terminals_of}
use Rattle.granit_language.specs.Terminal as grammar
use Rattle.granit_language.specs.Terminal.{TerminalKind, At, Terminal}
use Rattle.granit_lexemes.specs.Here.{Here}
use Rattle.granit_lexemes.specs.Lexeme as lexemes
use Rattle.granit_lexemes.specs.Lexeme.{KeyStart, Lexeme, Item, OfLexeme, OfComment}
use Rattle.granit_machine.specs.Lexing.{FlaggedItem, flagged}
use Rattle.granit_machine.specs.ReaderState.{ReaderState, reader_start}
use Rattle.granit_declared.proofs.KeyFlags.{keys_fit}
use Rattle.granit_declared.proofs.CommentsSaid.{lines_fit}

abbrev seen : List FlaggedItem → List Terminal
seen is = map terminal_seen (lexemes_flagged is)

-- terminals in front of which an item stands
abbrev map_seen : Item → Bool → List Terminal → List Terminal
map_seen (OfLexeme x) flag more = terminal_of flag no_scope x ∷ more
map_seen (OfComment c) flag more = more

seen_first : (i : FlaggedItem) (is : List FlaggedItem) → seen (i ∷ is) ≡ map_seen i.item i.begins_key (seen is)
seen_first i is = first i.item i.begins_key
  where
    first : (item : Item) (flag : Bool) →
        map terminal_seen (with_lexeme item flag (lexemes_flagged is)) ≡ map_seen item flag (seen is)
    first (OfLexeme x) flag = refl
    first (OfComment c) flag = refl

-- ---- lines

same_entry : (kind : lexemes.LexemeKind) (key : Option KeyStart) (flag : Bool) →
    begins_block_entry (role_of kind key) kind flag ≡ begins_kind (terminal_kind kind key) flag
same_entry (lexemes.Directive directive) key flag = refl
same_entry lexemes.DocumentStart key flag = refl
same_entry lexemes.DocumentEnd key flag = refl
same_entry lexemes.StreamEnd key flag = refl
same_entry (lexemes.Open bracket) key flag = refl
same_entry (lexemes.Close bracket) key flag = refl
same_entry lexemes.Comma key flag = refl
same_entry lexemes.Dash key flag = refl
same_entry lexemes.Question key flag = refl
same_entry lexemes.Colon None flag = refl
same_entry lexemes.Colon (Some k) flag = refl
same_entry (lexemes.Alias name) key flag = refl
same_entry (lexemes.Anchor name) key flag = refl
same_entry (lexemes.Tag handle suffix) key flag = refl
same_entry (lexemes.Scalar style text) key flag = refl

seen_line : (i : Item) (flag : Bool) (more : List Terminal) → item_stands i flag ≡ true → LinesFit more →
    LinesFit (map_seen i flag more)
seen_line (OfLexeme x) flag more p q = (
  subst (λ (b : Bool). (x.in_flow || (not b || (x.begins_line || x.follows_indicator))) ≡ true)
      (same_entry x.kind x.key flag) p,
  q,
)
seen_line (OfComment c) flag more p q = q

seen_lines : (is : List FlaggedItem) → ItemLinesFit is → LinesFit (seen is)
seen_lines [] p = tt
seen_lines (i ∷ is) p =
    subst LinesFit (sym (seen_first i is)) (seen_line i.item i.begins_key (seen is) p.0 (seen_lines is p.1))

-- ---- keys

same_fit : (kind : lexemes.LexemeKind) (key : Option KeyStart) (ks : List (Option ℕ)) →
    role_fits (role_of kind key) ks ≡ key_fits (terminal_kind kind key) ks
same_fit (lexemes.Directive directive) key ks = refl
same_fit lexemes.DocumentStart key ks = refl
same_fit lexemes.DocumentEnd key ks = refl
same_fit lexemes.StreamEnd key ks = refl
same_fit (lexemes.Open bracket) key ks = refl
same_fit (lexemes.Close bracket) key ks = refl
same_fit lexemes.Comma key ks = refl
same_fit lexemes.Dash key ks = refl
same_fit lexemes.Question key ks = refl
same_fit lexemes.Colon None ks = refl
same_fit lexemes.Colon (Some k) ks = refl
same_fit (lexemes.Alias name) key ks = refl
same_fit (lexemes.Anchor name) key ks = refl
same_fit (lexemes.Tag handle suffix) key ks = refl
same_fit (lexemes.Scalar style text) key ks = refl

same_next : (kind : lexemes.LexemeKind) (key : Option KeyStart) (i : At) (ks : List (Option ℕ)) →
    keys_behind (role_of kind key) i.begins_key i.number ks ≡ keys_next (terminal_kind kind key) i ks
same_next (lexemes.Directive directive) key i ks = refl
same_next lexemes.DocumentStart key i ks = refl
same_next lexemes.DocumentEnd key i ks = refl
same_next lexemes.StreamEnd key i ks = refl
same_next (lexemes.Open bracket) key i ks = refl
same_next (lexemes.Close bracket) key i ks = refl
same_next lexemes.Comma key i ks = refl
same_next lexemes.Dash key i ks = refl
same_next lexemes.Question key i ks = refl
same_next lexemes.Colon None i ks = refl
same_next lexemes.Colon (Some k) i ks = refl
same_next (lexemes.Alias name) key i ks = refl
same_next (lexemes.Anchor name) key i ks = refl
same_next (lexemes.Tag handle suffix) key i ks = refl
same_next (lexemes.Scalar style text) key i ks = refl

seen_key : (i : Item) (flag : Bool) (ks : List (Option ℕ)) (more : List Terminal) → item_fits i ks ≡ true →
    KeysFit (behind_item i flag ks) more → KeysFit ks (map_seen i flag more)
seen_key (OfLexeme x) flag ks more p q = (
  sym (same_fit x.kind x.key ks) ∙ p,
  subst (λ (ks : List (Option ℕ)). KeysFit ks more) (same_next x.kind x.key (at_of flag no_scope x) ks) q,
)
seen_key (OfComment c) flag ks more p q = q

seen_keys : (ks : List (Option ℕ)) (is : List FlaggedItem) → ItemKeysFit ks is → KeysFit ks (seen is)
seen_keys ks [] p = tt
seen_keys ks (i ∷ is) p =
    subst (KeysFit ks) (sym (seen_first i is))
    (seen_key i.item i.begins_key ks (seen is) p.0 (seen_keys (behind_item i.item i.begins_key ks) is p.1))

-- ---- of a text

pub terminals_lines : (o : OptionsData) (h : Here) (items : List Item) (t : ReaderState) →
    Reached o (reader_start h) items t → LinesFit (terminals_of items)
terminals_lines o h items t r = seen_lines (flagged items) (lines_fit o h items t r)

pub terminals_keys : (o : OptionsData) (h : Here) (items : List Item) (t : ReaderState) →
    Reached o (reader_start h) items t → KeysFit (None ∷ []) (terminals_of items)
terminals_keys o h items t r = seen_keys (None ∷ []) (flagged items) (keys_fit o h items t r)

-- ---- with what is declared before each

pub scoped_lines : (s : Scope) (xs : List Terminal) → LinesFit xs → LinesFit (scoped s xs)
scoped_lines s [] p = tt
scoped_lines s (x ∷ xs) p = (p.0, scoped_lines (next_scope x.kind s) xs p.1)

unscoped_next : (kind : TerminalKind) (i : At) (s : Scope) (ks : List (Option ℕ)) →
    keys_next kind i ks ≡ keys_next kind (record i { scope = s }) ks
unscoped_next (grammar.Directive d) i s ks = refl
unscoped_next grammar.DocumentStart i s ks = refl
unscoped_next grammar.DocumentEnd i s ks = refl
unscoped_next grammar.TheEnd i s ks = refl
unscoped_next grammar.Dash i s ks = refl
unscoped_next grammar.Question i s ks = refl
unscoped_next grammar.Comma i s ks = refl
unscoped_next (grammar.Colon None) i s ks = refl
unscoped_next (grammar.Colon (Some n)) i s ks = refl
unscoped_next (grammar.Close bracket) i s ks = refl
unscoped_next (grammar.Part (grammar.Alias name)) i s ks = refl
unscoped_next (grammar.Part (grammar.Property p)) i s ks = refl
unscoped_next (grammar.Part (grammar.Scalar style text)) i s ks = refl
unscoped_next (grammar.Part (grammar.Open bracket)) i s ks = refl

pub scoped_keys : (s : Scope) (ks : List (Option ℕ)) (xs : List Terminal) → KeysFit ks xs → KeysFit ks (scoped s xs)
scoped_keys s ks [] p = tt
scoped_keys s ks (x ∷ xs) p = (
  p.0,
  scoped_keys (next_scope x.kind s) _ xs
      (subst (λ (ks : List (Option ℕ)). KeysFit ks xs) (unscoped_next x.kind x.at s ks) p.1),
)
