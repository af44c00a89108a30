-- Lexemes of JSON text in order, with those that begin keys, and how the grammar sees them.
use Rattle.granit_lexemes.specs.Lexeme as lexemes
use Rattle.std.proofs.Common.{List, Option, [], ap, append_assoc, ap₂, false, map, refl, subst, sym, true}
use Rattle.std.proofs.Common.{◌++◌, ◌∙◌, ◌∷◌, ◌≡◌}
use Rattle.std.proofs.lemmas.Bool.{eq-eqb}
use Rattle.std.specs.Prelude.{None, Some}
use Rattle.granit_base.specs.Written.{Written}
use Rattle.granit_base.specs.declared.style.ScalarStyle.TheVariants.{DoubleQuoted}
use Rattle.granit_canonical_steps.proofs.Passing.{means_append}
use Rattle.granit_canonical_steps.proofs.Taking.{LexemeRead}
use Rattle.granit_canonical_steps.proofs.Passing.{flag_bare}
use Rattle.granit_error.specs.OptionsData.{OptionsData}
use Rattle.granit_language.proofs.Scopes.{scoped_append, behind_append}
use Rattle.granit_language.specs.Reached.{ReadWhole, Reads, whole_ends, whole_goes_on}
use Rattle.granit_language.specs.Scope.{Scope, no_scope}
use Rattle.granit_language.specs.Scoping.{Means, next_scope, scope_behind, scope_fault, scoped}
use Rattle.granit_language.specs.Seen.{Flagged, at_of, lexemes_flagged, terminal_kind, terminal_seen, terminals_of}
use Rattle.granit_language.specs.Terminal.{Colon, Part, Scalar, Terminal, TerminalKind, terminal}
use Rattle.granit_lexemes.specs.Lexeme.{Item, KeyStart, Lexeme, LexemeKind, OfLexeme}
use Rattle.granit_machine.specs.Lexing.{FlaggedItem, Flagging, and_key, flag_item, flag_lexeme, flagged, flagging}
use Rattle.granit_machine.specs.Reader.{is_end_kind}
use Rattle.granit_machine.specs.ReaderState.{ReaderState}

-- lexemes that are read one behind the other: a name together with its colon, which begins a key; none is the end
pub data Lexed (o : OptionsData) : ReaderState → List Flagged → ReaderState → Type 0 where
  no_lexeme : {s : ReaderState} → Lexed o s [] s
  and_lexeme : {s t : ReaderState} {fs : List Flagged} (l : Lexeme) (next : ReaderState)
      → Reads o s (OfLexeme l ∷ []) next → is_end_kind l.kind ≡ false → l.key ≡ None → l.tail ≡ None
      → Lexed o next fs t → Lexed o s ((l, false) ∷ fs) t
  and_name : {s t : ReaderState} {fs : List Flagged} (l m : Lexeme) (middle next : ReaderState) (k : KeyStart)
      → Reads o s (OfLexeme l ∷ []) middle → Reads o middle (OfLexeme m ∷ []) next → is_end_kind l.kind ≡ false
      → is_end_kind m.kind ≡ false → l.key ≡ None → m.key ≡ Some k → k.number ≡ l.number → l.tail ≡ None
      → m.tail ≡ None → Lexed o next fs t → Lexed o s ((l, true) ∷ (m, false) ∷ fs) t

abbrev pub seen : List Flagged → List Terminal
seen fs = map terminal_seen fs

lexed_then : (o : OptionsData) (s t u : ReaderState) (fs gs : List Flagged) → Lexed o s fs t → Lexed o t gs u
    → Lexed o s (fs ++ gs) u
lexed_then o _ _ u _ gs no_lexeme q = q
lexed_then o _ t u _ gs (and_lexeme {fs = fs} l next r e k n p) q =
    and_lexeme l next r e k n (lexed_then o next t u fs gs p q)
lexed_then o _ t u _ gs (and_name {fs = fs} l m middle next k r w a b c d e f g p) q =
    and_name l m middle next k r w a b c d e f g (lexed_then o next t u fs gs p q)

pub seen_append : (fs gs : List Flagged) → seen (fs ++ gs) ≡ seen fs ++ seen gs
seen_append [] gs = refl
seen_append (f ∷ fs) gs = ap (λ (xs : List Terminal). terminal_seen f ∷ xs) (seen_append fs gs)

-- Lexemes from one place to another, which a part of a tree spells; nothing is declared.
pub record Passage (o : OptionsData) (s : ReaderState) (write : List Terminal → List Terminal) (t : ReaderState) : Type
    0 where
  pub lexemes : List Flagged
  pub lexed : Lexed o s lexemes t
  pub scope : scope_behind (seen lexemes) no_scope ≡ no_scope
  pub means : Means o (scoped no_scope (seen lexemes))
  pub spelled : (more : List Terminal) → write more ≡ scoped no_scope (seen lexemes) ++ more

pub passage_none : (o : OptionsData) (s : ReaderState) → Passage o s (λ more. more) s
passage_none o s = record { lexemes = []; lexed = no_lexeme; scope = refl; means = tt; spelled = λ more. refl }

pub passage_then : (o : OptionsData) (s t u : ReaderState) (f g : List Terminal → List Terminal) → Passage o s f t
    → Passage o t g u → Passage o s (λ more. f (g more)) u
passage_then o s t u f g p q =
    let whole : scoped no_scope (seen (p.lexemes ++ q.lexemes))
    ≡ scoped no_scope (seen p.lexemes) ++ scoped no_scope (seen q.lexemes) =
    ap (scoped no_scope) (seen_append p.lexemes q.lexemes)
    ∙ scoped_append no_scope (seen p.lexemes) (seen q.lexemes)
    ∙ ap (λ (s : Scope). scoped no_scope (seen p.lexemes) ++ scoped s (seen q.lexemes)) p.scope in
    record {
      lexemes = p.lexemes ++ q.lexemes;
      lexed = lexed_then o s t u p.lexemes q.lexemes p.lexed q.lexed;
      scope = ap (λ (xs : List Terminal). scope_behind xs no_scope) (seen_append p.lexemes q.lexemes)
          ∙ behind_append no_scope (seen p.lexemes) (seen q.lexemes)
          ∙ ap (scope_behind (seen q.lexemes)) p.scope ∙ q.scope;
      means = subst (Means o) (sym whole)
          (means_append o (scoped no_scope (seen p.lexemes))
          (scoped no_scope (seen q.lexemes)) p.means q.means);
      spelled = λ more. p.spelled (g more)
          ∙ ap (λ (xs : List Terminal). scoped no_scope (seen p.lexemes) ++ xs) (q.spelled more)
          ∙ sym (append_assoc (scoped no_scope (seen p.lexemes)) (scoped no_scope (seen q.lexemes)) more)
          ∙ ap (λ (xs : List Terminal). xs ++ more) (sym whole);
    }

-- one lexeme that declares nothing
pub passage_one : (o : OptionsData) (kind : LexemeKind) (s : ReaderState) → (r : LexemeRead o kind None s)
    → is_end_kind kind ≡ false → next_scope (terminal_kind kind None) no_scope ≡ no_scope
    → scope_fault o (terminal_kind kind None) no_scope ≡ None
    → Passage o s (λ more. terminal (terminal_kind kind None) (at_of false no_scope r.lexeme) ∷ more) r.after
passage_one o kind s r n p q =
    let l = r.lexeme in
    let same : terminal_kind l.kind l.key ≡ terminal_kind kind None = ap₂ terminal_kind r.kind_is r.key_is in
    record {
      lexemes = (l, false) ∷ [];
      lexed = and_lexeme l r.after r.reads (ap is_end_kind r.kind_is ∙ n) r.key_is r.tail_is no_lexeme;
      scope = ap (λ (k : TerminalKind). next_scope k no_scope) same ∙ p;
      means = (ap (λ (k : TerminalKind). scope_fault o k no_scope) same ∙ q, tt);
      spelled = λ more. ap (λ (k : TerminalKind). terminal k (at_of false no_scope l) ∷ more) (sym same);
    }

-- a name and its colon, whose key begins there
pub passage_name : (o : OptionsData) (text : Written) (key : KeyStart) (s : ReaderState)
    → (r : LexemeRead o (lexemes.Scalar DoubleQuoted text) None s)
    → (q : LexemeRead o lexemes.Colon (Some key) r.after) → key.number ≡ r.lexeme.number
    → Passage o s (λ more. terminal (Part (Scalar DoubleQuoted text)) (at_of true no_scope r.lexeme)
    ∷ terminal (Colon (Some key.number)) (at_of false no_scope q.lexeme) ∷ more) q.after
passage_name o text key s r q number =
    let l = r.lexeme in
    let m = q.lexeme in
    let name_kind = Part (Scalar DoubleQuoted text) in
    let colon_kind = Colon (Some key.number) in
    let a : terminal_kind l.kind l.key ≡ name_kind = ap₂ terminal_kind r.kind_is r.key_is in
    let b : terminal_kind m.kind m.key ≡ colon_kind = ap₂ terminal_kind q.kind_is q.key_is in
    record {
      lexemes = (l, true) ∷ (m, false) ∷ [];
      lexed = and_name l m r.after q.after key r.reads q.reads (ap is_end_kind r.kind_is) (ap is_end_kind q.kind_is)
          r.key_is q.key_is number r.tail_is q.tail_is no_lexeme;
      scope = ap₂ (λ (k n : TerminalKind). next_scope n (next_scope k no_scope)) a b;
      means = (
        ap (λ (k : TerminalKind). scope_fault o k no_scope) a,
        (ap₂ (λ (k n : TerminalKind). scope_fault o n (next_scope k no_scope)) a b, tt),
      );
      spelled = λ more.
          ap₂ (λ (k n : TerminalKind). terminal k (at_of true no_scope l)
          ∷ terminal n (record (at_of false no_scope m) { scope = next_scope k no_scope }) ∷ more) (sym a) (sym b);
    }

-- ---- all of them, and the end

-- how such lexemes are flagged
pub data Flags : List Flagged → Type 0 where
  no_flag : Flags []
  unflagged : {fs : List Flagged} (l : Lexeme) → l.key ≡ None → l.tail ≡ None → Flags fs → Flags ((l, false) ∷ fs)
  flags_name : {fs : List Flagged} (l m : Lexeme) (k : KeyStart) → l.key ≡ None → m.key ≡ Some k → k.number ≡ l.number
      → l.tail ≡ None → m.tail ≡ None → Flags fs → Flags ((l, true) ∷ (m, false) ∷ fs)

pub lexed_flags : (o : OptionsData) (s t : ReaderState) (fs : List Flagged) (e : Lexeme) → Lexed o s fs t
    → e.key ≡ None → e.tail ≡ None → Flags (fs ++ (e, false) ∷ [])
lexed_flags o _ _ _ e no_lexeme k n = unflagged e k n no_flag
lexed_flags o _ t _ e (and_lexeme {fs = fs} l next r a b c p) k n =
    unflagged l b c (lexed_flags o next t fs e p k n)
lexed_flags o _ t _ e (and_name {fs = fs} l m middle next i r w a b c d f g h p) k n =
    flags_name l m i c d f g h (lexed_flags o next t fs e p k n)

abbrev pub items_of : List Flagged → List Item
items_of [] = []
items_of (f ∷ fs) = OfLexeme f.0 ∷ items_of fs

pub lexed_whole : (o : OptionsData) (s t next : ReaderState) (fs : List Flagged) (e : Lexeme) → Lexed o s fs t
    → Reads o t (OfLexeme e ∷ []) next → is_end_kind e.kind ≡ true
    → ReadWhole o s (items_of (fs ++ (e, false) ∷ [])) true next
lexed_whole o _ _ next _ e no_lexeme r end = whole_ends r end
lexed_whole o _ t next _ e (and_lexeme {fs = fs} l middle q a b c p) r end =
    whole_goes_on middle (OfLexeme l ∷ []) (items_of (fs ++ (e, false) ∷ [])) q a
    (lexed_whole o middle t next fs e p r end) refl
lexed_whole o _ t next _ e (and_name {fs = fs} l m middle after k q w a b c d f g h p) r end =
    let rest = items_of (fs ++ (e, false) ∷ []) in
    whole_goes_on middle (OfLexeme l ∷ []) (OfLexeme m ∷ rest) q a
    (whole_goes_on after (OfLexeme m ∷ []) rest w b (lexed_whole o after t next fs e p r end) refl) refl

abbrev pub flagged_of : List Flagged → List FlaggedItem
flagged_of [] = []
flagged_of (f ∷ fs) = record { item = OfLexeme f.0; begins_key = f.1 } ∷ flagged_of fs

flag_name : (l m : Lexeme) (k : KeyStart) (x : Flagging) (items : List FlaggedItem) → x ≡ (items, []) → l.key ≡ None
    → m.key ≡ Some k → k.number ≡ l.number
    → flag_item (OfLexeme l) (flag_item (OfLexeme m) x)
    ≡ (record { item = OfLexeme l; begins_key = true } ∷ record { item = OfLexeme m; begins_key = false } ∷ items, [])
flag_name l m k x items e a b n =
    let last : FlaggedItem = record { item = OfLexeme m; begins_key = false } in
    ap (λ (x : Flagging). flag_item (OfLexeme l) (flag_item (OfLexeme m) x)) e
    ∙ ap (λ (key : Option KeyStart). flag_item (OfLexeme l) (last ∷ items, and_key key [])) b
    ∙ ap (λ v. flag_lexeme v l (last ∷ items, k.number ∷ [])) (eq-eqb k.number l.number n)
    ∙ ap (λ (key : Option KeyStart). (record { item = OfLexeme l; begins_key = true } ∷ last ∷ items, and_key key []))
    a

flagging_is : (fs : List Flagged) → Flags fs → flagging (items_of fs) ≡ (flagged_of fs, [])
flagging_is _ no_flag = refl
flagging_is _ (unflagged {fs = fs} l k t p) =
    flag_bare l (flagging (items_of fs)) (flagged_of fs, []) (flagging_is fs p) refl k
flagging_is _ (flags_name {fs = fs} l m k a b n t u p) =
    flag_name l m k (flagging (items_of fs)) (flagged_of fs) (flagging_is fs p) a b n

pub flagged_is : (fs : List Flagged) → Flags fs → flagged (items_of fs) ≡ flagged_of fs
flagged_is fs p = ap (λ (x : Flagging). x.0) (flagging_is fs p)

flagged_back : (fs : List Flagged) → lexemes_flagged (flagged_of fs) ≡ fs
flagged_back [] = refl
flagged_back (f ∷ fs) = ap (λ (gs : List Flagged). f ∷ gs) (flagged_back fs)

pub terminals_are : (fs : List Flagged) → Flags fs → terminals_of (items_of fs) ≡ seen fs
terminals_are fs p =
    ap (λ (is : List FlaggedItem). map terminal_seen (lexemes_flagged is)) (flagged_is fs p)
    ∙ ap (map terminal_seen) (flagged_back fs)
