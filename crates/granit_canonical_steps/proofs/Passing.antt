-- Lexemes of canonical text in order, and how the grammar sees them.
use Rattle.std.proofs.Common.{Bool, List, Option, [], ap, append_assoc, ap₂, arith, false, refl, subst, suc, sym, true}
use Rattle.std.proofs.Common.{ℕ, ◌++◌, ◌∙◌, ◌∷◌, ◌≡◌}
use Rattle.std.proofs.lemmas.Bool.Decides.{nat_tests}
use Rattle.std.specs.Prelude.{None, Some, if◌then◌else◌, nat_lt}
use Rattle.granit_base.specs.Place.{Mark}
use Rattle.granit_canonical_steps.proofs.Taking.{LexemeRead}
use Rattle.granit_canonical_steps.specs.Canonical.{Anchors, anchor_before, node_before, spot, tag_before}
use Rattle.granit_error.specs.OptionsData.{OptionsData}
use Rattle.granit_language.proofs.Scopes.{scoped_append, behind_append}
use Rattle.granit_language.specs.Node.{TreeProperties}
use Rattle.granit_language.specs.Reached.{Reads}
use Rattle.granit_language.specs.Room.{Inside, ItemIn, PartFits, RightOf, Room, behind_property}
use Rattle.granit_language.specs.Scope.{Scope, no_scope}
use Rattle.granit_language.specs.Scoping.{Means, next_scope, scope_behind, scope_fault, scoped}
use Rattle.granit_language.specs.Seen.{at_of, terminal_kind, terminal_of}
use Rattle.granit_language.specs.Telling.{AnchorTold, TagTold, anchor_told, indent_told, node_told, number_told}
use Rattle.granit_language.specs.Telling.{properties_anchor, properties_tag, span_told, tag_told}
use Rattle.granit_language.specs.Terminal.{At, PartKind, Terminal, TerminalKind, terminal}
use Rattle.granit_lexemes.specs.Lexeme.{Lexeme, LexemeKind, OfLexeme}
use Rattle.granit_lexemes.specs.PlainEvent.{Anchor, EventKind, PlainEvent, PlainTag, event_at}
use Rattle.granit_lexemes.specs.Source.{Source}
use Rattle.granit_machine.specs.Reader.{is_end_kind}
use Rattle.granit_machine.specs.ReaderState.{ReaderState}
use Rattle.granit_model.specs.FlowText.{anchor_text}
use Rattle.granit_model.specs.Tree.{Properties}
use Rattle.granit_lexemes.specs.Lexeme.{KeyStart}
use Rattle.granit_machine.specs.Lexing.{Flagging, and_key, flag_item, flag_lexeme, is_nearest}

pub flag_bare : (l : Lexeme) (x y : Flagging) → x ≡ y → y.1 ≡ [] → l.key ≡ None
    → flag_item (OfLexeme l) x ≡ (record { item = OfLexeme l; begins_key = false } ∷ y.0, [])
flag_bare l x y e n k =
    ap (flag_item (OfLexeme l)) e
    ∙ ap (λ (ns : List ℕ). flag_lexeme (is_nearest l.number ns) l (y.0, ns)) n
    ∙ ap (λ (key : Option KeyStart). (record { item = OfLexeme l; begins_key = false } ∷ y.0, and_key key [])) k

-- lexemes that are read one behind the other, none of them the end or a `:` with a key
pub data Lexed (o : OptionsData) : ReaderState → List Lexeme → ReaderState → Type 0 where
  no_lexeme : {s : ReaderState} → Lexed o s [] s
  and_lexeme : {s t : ReaderState} {ls : List Lexeme} (l : Lexeme) (next : ReaderState)
      → Reads o s (OfLexeme l ∷ []) next → is_end_kind l.kind ≡ false → l.key ≡ None → l.tail ≡ None
      → Lexed o next ls t → Lexed o s (l ∷ ls) t

abbrev pub seen : List Lexeme → List Terminal
seen [] = []
seen (l ∷ ls) = terminal_of false no_scope l ∷ seen ls

lexed_then : (o : OptionsData) (s t u : ReaderState) (ks bs : List Lexeme) → Lexed o s ks t → Lexed o t bs u
    → Lexed o s (ks ++ bs) u
lexed_then o _ _ u _ bs no_lexeme q = q
lexed_then o _ t u _ bs (and_lexeme {ls = ls} l next r e k n p) q =
    and_lexeme l next r e k n (lexed_then o next t u ls bs p q)

pub seen_append : (ks bs : List Lexeme) → seen (ks ++ bs) ≡ seen ks ++ seen bs
seen_append [] bs = refl
seen_append (l ∷ ks) bs = ap (λ (xs : List Terminal). terminal_of false no_scope l ∷ xs) (seen_append ks bs)

pub means_append : (o : OptionsData) (xs ys : List Terminal) → Means o xs → Means o ys → Means o (xs ++ ys)
means_append o [] ys p q = q
means_append o (x ∷ xs) ys p q = (p.0, means_append o xs ys p.1 q)

-- what stands declared
abbrev pub scope_of : Anchors → Scope
scope_of a = record {
  count = a.count;
  names = a.names;
  handles = [];
  pending = [];
  version = None;
  all_handles = [];
}

-- a lexeme as the grammar sees it behind these anchors
abbrev pub place_in : Anchors → Lexeme → At
place_in a l = record (at_of false no_scope l) { scope = scope_of a }

-- Lexemes from one place to another, which a part of a tree spells.
pub record Passage (o : OptionsData) (s : ReaderState) (a b : Anchors) (write : List Terminal → List Terminal)
    (t : ReaderState) : Type 0 where
  pub lexemes : List Lexeme
  pub lexed : Lexed o s lexemes t
  pub scope : scope_behind (seen lexemes) (scope_of a) ≡ scope_of b
  pub means : Means o (scoped (scope_of a) (seen lexemes))
  pub spelled : (more : List Terminal) → write more ≡ scoped (scope_of a) (seen lexemes) ++ more

pub passage_none : (o : OptionsData) (s : ReaderState) (a : Anchors) → Passage o s a a (λ more. more) s
passage_none o s a =
    record { lexemes = []; lexed = no_lexeme; scope = refl; means = tt; spelled = λ more. refl }

pub passage_then : (o : OptionsData) (s t u : ReaderState) (a b c : Anchors) (f g : List Terminal → List Terminal)
    → Passage o s a b f t → Passage o t b c g u → Passage o s a c (λ more. f (g more)) u
passage_then o s t u a b c f g p q =
    let whole : scoped (scope_of a) (seen (p.lexemes ++ q.lexemes))
    ≡ scoped (scope_of a) (seen p.lexemes) ++ scoped (scope_of b) (seen q.lexemes) =
    ap (scoped (scope_of a)) (seen_append p.lexemes q.lexemes)
    ∙ scoped_append (scope_of a) (seen p.lexemes) (seen q.lexemes)
    ∙ ap (λ (s : Scope). scoped (scope_of a) (seen p.lexemes) ++ scoped s (seen q.lexemes)) p.scope in
    record {
      lexemes = p.lexemes ++ q.lexemes;
      lexed = lexed_then o s t u p.lexemes q.lexemes p.lexed q.lexed;
      scope = ap (λ (xs : List Terminal). scope_behind xs (scope_of a)) (seen_append p.lexemes q.lexemes)
          ∙ behind_append (scope_of a) (seen p.lexemes) (seen q.lexemes)
          ∙ ap (scope_behind (seen q.lexemes)) p.scope ∙ q.scope;
      means = subst (Means o) (sym whole)
          (means_append o (scoped (scope_of a) (seen p.lexemes))
          (scoped (scope_of b) (seen q.lexemes)) p.means q.means);
      spelled = λ more. p.spelled (g more)
          ∙ ap (λ (xs : List Terminal). scoped (scope_of a) (seen p.lexemes) ++ xs) (q.spelled more)
          ∙ sym (append_assoc (scoped (scope_of a) (seen p.lexemes)) (scoped (scope_of b) (seen q.lexemes)) more)
          ∙ ap (λ (xs : List Terminal). xs ++ more) (sym whole);
    }

-- one lexeme
pub passage_one : (o : OptionsData) (kind : LexemeKind) (s : ReaderState) (a b : Anchors)
    → (r : LexemeRead o kind None s) → is_end_kind kind ≡ false
    → next_scope (terminal_kind kind None) (scope_of a) ≡ scope_of b
    → scope_fault o (terminal_kind kind None) (scope_of a) ≡ None
    → Passage o s a b (λ more. terminal (terminal_kind kind None) (place_in a r.lexeme) ∷ more) r.after
passage_one o kind s a b r n p q =
    let l = r.lexeme in
    let same : terminal_kind l.kind l.key ≡ terminal_kind kind None = ap₂ terminal_kind r.kind_is r.key_is in
    record {
      lexemes = l ∷ [];
      lexed = and_lexeme l r.after r.reads (ap is_end_kind r.kind_is ∙ n) r.key_is r.tail_is no_lexeme;
      scope = ap (λ (k : TerminalKind). next_scope k (scope_of a)) same ∙ p;
      means = (
        ap (λ (k : TerminalKind). scope_fault o k (scope_of a)) same ∙ q,
        tt,
      );
      spelled = λ more. ap (λ (k : TerminalKind). terminal k (place_in a l) ∷ more) (sym same);
    }

-- ---- rooms of canonical text

pub data IsPlain : Room → Type 0 where
  plain_root : IsPlain (RightOf 0)
  plain_item : IsPlain ItemIn
  plain_inside : IsPlain Inside

pub plain_behind : (room : Room) → IsPlain room → IsPlain (behind_property room)
plain_behind _ plain_root = plain_root
plain_behind _ plain_item = plain_inside
plain_behind _ plain_inside = plain_inside

pub plain_fits : (room : Room) → IsPlain room → (k : PartKind) (a : Anchors) (l : Lexeme)
    → PartFits room k (place_in a l)
plain_fits _ plain_root k a l = right_of l.start.place.column
  where
    right_of : (n : ℕ) → nat_lt 0 (suc n) ≡ true
    right_of n = grind (arith, nat_tests)
plain_fits _ plain_item k a l = refl
plain_fits _ plain_inside k a l = refl

-- ---- what is told of a node

anchor_rest : (o : OptionsData) (anchor : AnchorTold) (more : List PlainEvent)
    → anchor_told o anchor [] ++ more ≡ anchor_told o anchor more
anchor_rest o None more = refl
anchor_rest o (Some a) more = by o.emit_anchor_events
  where
    by : (v : Bool) → (if v then event_at (Anchor a.0 a.1) a.2 ∷ [] else []) ++ more
        ≡ (if v then event_at (Anchor a.0 a.1) a.2 ∷ more else more)
    by true = refl
    by false = refl

abbrev told_of : OptionsData → (ℕ → Option PlainTag → EventKind) → AnchorTold → TagTold → Mark → Mark → Option ℕ
    → List PlainEvent
    → List PlainEvent
told_of o kind anchor tag from to indent more =
    record { kind = kind (number_told anchor) (tag_told tag); span = span_told tag from to (indent_told indent) }
    ∷ (anchor_told o anchor [] ++ more)

-- by the stretch that it shows, without an indent
pub shown_told : (o : OptionsData) (q : TreeProperties) (kind : ℕ → Option PlainTag → EventKind) (s source : Source)
    (indent : Option ℕ) → s ≡ source → indent ≡ None → (more : List PlainEvent)
    → node_told o q kind s.start s.end indent ++ more ≡ node_told o q kind source.start source.end None ++ more
shown_told o q kind s source indent e i more =
    ap₂ (λ (s : Source) (n : Option ℕ). node_told o q kind s.start s.end n ++ more) e i

pub node_is_told : (o : OptionsData) (x : List ℕ) (a : Anchors) (p : Properties) (q : TreeProperties)
    (kind : ℕ → Option PlainTag → EventKind) (own behind : List ℕ)
    → properties_anchor q ≡ anchor_before x a p.anchor own
    → properties_tag o q ≡ tag_before x p.tag (anchor_text p.anchor own) → (more : List PlainEvent)
    → node_told o q kind (spot x own) (spot x behind) None ++ more ≡ node_before o x a p kind own behind more
node_is_told o x a p q kind own behind e f more =
    let anchor = anchor_before x a p.anchor own in
    let tag = tag_before x p.tag (anchor_text p.anchor own) in
    ap (λ (r : AnchorTold). told_of o kind r (properties_tag o q) (spot x own) (spot x behind) None more) e
    ∙ ap (λ (r : TagTold). told_of o kind anchor r (spot x own) (spot x behind) None more) f
    ∙ ap (λ (es : List PlainEvent). record {
      kind = kind (number_told anchor) (tag_told tag);
      span = span_told tag (spot x own) (spot x behind) None;
    } ∷ es) (anchor_rest o anchor more)
