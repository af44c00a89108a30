-- Properties, scalars and aliases of canonical text are read as nodes.
use Rattle.granit_lexemes.specs.Lexeme as lexemes
use Rattle.granit_lexemes.specs.PlainEvent as plain
use Rattle.granit_machine.specs.LexemeSort as sorts
use Rattle.std.proofs.Common.{Bool, List, Option, [], ap, append_assoc, drop, false, refl, subst, suc, sym, true, ℕ}
use Rattle.std.proofs.Common.{◌++◌, ◌==◌, ◌∙◌, ◌∷◌, ◌≡◌, ◌≢◌}
use Rattle.std.specs.Prelude.{IfSome, None, Some}
use Rattle.std.specs.Str.{encode_utf8_all}
use lib.Utf8.{scalars}
use Rattle.granit_base.specs.Classes.{is_blank, is_break, is_gap}
use Rattle.granit_base.specs.declared.style.ScalarStyle.TheVariants.{DoubleQuoted}
use Rattle.granit_canonical_steps.proofs.Calm.{Calm, Fine, fine_as, fine_if}
use Rattle.granit_canonical_steps.proofs.Fronts.{tag_bytes_front}
use Rattle.granit_canonical_steps.proofs.Names.{EndsName, tag_source, takes_alias, takes_anchor, takes_tag}
use Rattle.granit_canonical_steps.proofs.Passing.{IsPlain, Passage, node_is_told, passage_none, passage_one}
use Rattle.granit_canonical_steps.proofs.Passing.{passage_then}
use Rattle.granit_canonical_steps.proofs.Passing.{place_in, plain_behind, plain_fits, shown_told}
use Rattle.granit_canonical_steps.proofs.Places.{Before, Starts}
use Rattle.granit_canonical_steps.proofs.Quotes.{takes_quoted}
use Rattle.granit_canonical_steps.proofs.Spelling.{CanStand}
use Rattle.granit_canonical_steps.proofs.Taking.{Follows, OneRead, follows_parts, reads_one}
use Rattle.granit_canonical_steps.specs.Canonical.{Anchors, anchor_before, past_anchor, past_tree, spot, stretch}
use Rattle.granit_canonical_steps.specs.Canonical.{between_quotes, lent_name, tag_before, tree_before}
use Rattle.granit_error.specs.OptionsData.{OptionsData}
use Rattle.granit_language.specs.Node.{AliasNode, NoProperties, Node, One, ScalarNode, TreeProperties, Two}
use Rattle.granit_language.specs.Placed.{Placed, PropertiesPlaced}
use Rattle.granit_language.specs.Room.{Room, behind_property, room_behind}
use Rattle.granit_language.specs.Scope.{entry_of}
use Rattle.granit_language.specs.Scoping.{alias_fault}
use Rattle.granit_language.specs.Seen.{indent_of}
use Rattle.granit_language.specs.Telling.{AnchorTold, TagTold, alias_told, events_told, properties_anchor}
use Rattle.granit_language.specs.Telling.{properties_tag}
use Rattle.granit_language.specs.Terminal.{Alias, Anchor, Part, Property, Scalar, Tag, Terminal, terminal}
use Rattle.granit_language.specs.TreeEvents.{TreeEvent, imposed, node_end, node_events}
use Rattle.granit_language.specs.Within.{node_within}
use Rattle.granit_language.specs.Yield.{spell, spell_properties}
use Rattle.granit_lexemes.specs.Lexeme.{closer_char, opener_char}
use Rattle.granit_lexemes.specs.PlainEvent.{event_at}
use Rattle.granit_lexemes.specs.Source.{Source}
use Rattle.granit_lexemes.specs.declared.layout.Bracket.{Bracket}
use Rattle.granit_lexemes.specs.declared.layout.Bracket.TheVariants.{Curly, Square}
use Rattle.granit_machine.specs.Laid.{is_opener}
use Rattle.granit_machine.specs.LexemeSort.{AliasSign, AnchorSign, QuoteSign, TagSign}
use Rattle.granit_machine.specs.ReaderState.{ReaderState}
use Rattle.granit_model.specs.Characters.{AreCharacters}
use Rattle.granit_model.specs.FlowText.{anchor_text, properties_text, quoted_characters, tag_bytes, tag_text, tree_text}
use Rattle.granit_model.specs.Tree.{AliasOf, IsAnchorName, PlainTree, Properties, ScalarOf}

pub starts_with : (c : ℕ) (rest : List ℕ) → is_gap c ≡ false → (c == 0x23) ≡ false → (c == 0xFEFF) ≡ false
    → Starts (c ∷ rest)
starts_with c rest g n m = record {
  no_gap = g;
  no_comment = n;
  no_mark = λ e. let y : false ≡ true = sym m ∙ ap (λ n. n == 0xFEFF) e in cc;
}

pub star_starts : (rest : List ℕ) → Starts (0x2A ∷ rest)
unfolding is_gap is_blank is_break
star_starts rest = starts_with 0x2A rest refl refl refl

pub anchor_starts : (rest : List ℕ) → Starts (0x26 ∷ rest)
unfolding is_gap is_blank is_break
anchor_starts rest = starts_with 0x26 rest refl refl refl

pub tag_starts : (rest : List ℕ) → Starts (0x21 ∷ rest)
unfolding is_gap is_blank is_break
tag_starts rest = starts_with 0x21 rest refl refl refl

pub quote_starts : (rest : List ℕ) → Starts (0x22 ∷ rest)
unfolding is_gap is_blank is_break
quote_starts rest = starts_with 0x22 rest refl refl refl

pub comma_starts : (rest : List ℕ) → Starts (0x2C ∷ rest)
unfolding is_gap is_blank is_break
comma_starts rest = starts_with 0x2C rest refl refl refl

pub question_starts : (rest : List ℕ) → Starts (0x3F ∷ rest)
unfolding is_gap is_blank is_break
question_starts rest = starts_with 0x3F rest refl refl refl

pub colon_starts : (rest : List ℕ) → Starts (0x3A ∷ rest)
unfolding is_gap is_blank is_break
colon_starts rest = starts_with 0x3A rest refl refl refl

pub dash_starts : (rest : List ℕ) → Starts (0x2D ∷ rest)
unfolding is_gap is_blank is_break
dash_starts rest = starts_with 0x2D rest refl refl refl

pub opener_starts : (b : Bracket) (rest : List ℕ) → Starts (opener_char b ∷ rest)
unfolding is_gap is_blank is_break
opener_starts Square rest = starts_with 0x5B rest refl refl refl
opener_starts Curly rest = starts_with 0x7B rest refl refl refl

pub closer_starts : (b : Bracket) (rest : List ℕ) → Starts (closer_char b ∷ rest)
unfolding is_gap is_blank is_break
closer_starts Square rest = starts_with 0x5D rest refl refl refl
closer_starts Curly rest = starts_with 0x7D rest refl refl refl

anchor_text_starts : (anchor : Option (List ℕ)) (own : List ℕ) → Starts own → Starts (anchor_text anchor own)
anchor_text_starts None own s = s
anchor_text_starts (Some name) own s = anchor_starts ((name ++ 0x20 ∷ []) ++ own)

tag_text_starts : (name : Option (List ℕ)) (own : List ℕ) → Starts own → Starts (tag_text name own)
tag_text_starts None own s = s
tag_text_starts (Some name) own s = tag_starts (0x3C ∷ tag_bytes (encode_utf8_all name) (0x3E ∷ 0x20 ∷ own))

pub properties_start : (p : Properties) (own : List ℕ) → Starts own → Starts (properties_text p own)
properties_start p own s = tag_text_starts p.tag (anchor_text p.anchor own) (anchor_text_starts p.anchor own s)

pub anchor_text_is : (name rest : List ℕ) → anchor_text (Some name) rest ≡ 0x26 ∷ (name ++ 0x20 ∷ rest)
anchor_text_is name rest = ap (λ (l : List ℕ). 0x26 ∷ l) (append_assoc name (0x20 ∷ []) rest)

-- a verbatim tag in front of a rest
pub tag_is : (name rest : List ℕ)
    → 0x21 ∷ 0x3C ∷ tag_bytes (encode_utf8_all name) (0x3E ∷ rest) ≡ tag_source name ++ rest
tag_is name rest =
    ap (λ (l : List ℕ). 0x21 ∷ 0x3C ∷ l)
    (tag_bytes_front (encode_utf8_all name) (0x3E ∷ rest)
    ∙ sym (append_assoc (tag_bytes (encode_utf8_all name) []) (0x3E ∷ []) rest))

tag_text_is : (name rest : List ℕ) → tag_text (Some name) rest ≡ tag_source name ++ 0x20 ∷ rest
tag_text_is name rest = tag_is name (0x20 ∷ rest)

-- properties that are read in front of a node's own text
pub record PropertiesRead (o : OptionsData) (x : List ℕ) (bs : List Bracket) (own : List ℕ) (s : ReaderState)
    (name anchor : Option (List ℕ)) (a : Anchors) : Type 0 where
  pub after : ReaderState
  pub properties : TreeProperties
  pub passage : Passage o s a (past_anchor anchor a) (spell_properties properties) after
  pub before : Before x own after.here
  pub calm : Calm bs after.laid
  pub fine : Fine bs after.laid.last
  pub placed : (room : Room) → IsPlain room → PropertiesPlaced properties room
  pub behind : (room : Room) → IsPlain room → IsPlain (room_behind properties room)
  pub anchor_is : properties_anchor properties ≡ anchor_before x a anchor own
  pub tag_is : properties_tag o properties ≡ tag_before x name (anchor_text anchor own)

-- a node that is read, with what is told of it
pub record NodeRead (o : OptionsData) (x : List ℕ) (bs : List Bracket) (to rest : List ℕ) (s : ReaderState)
    (t : PlainTree) (a : Anchors) : Type 0 where
  pub after : ReaderState
  pub node : Node
  pub passage : Passage o s a (past_tree t a) (spell node) after
  pub before : Before x rest after.here
  pub passed : (i : ℕ) × (drop i x ≡ to)
  pub calm : Calm bs after.laid
  pub opener : is_opener after.laid.last ≡ false
  pub placed : (room : Room) → IsPlain room → (y : Terminal) → Placed node room y
  pub within : (n d : ℕ) (b : Bool) → node_within n node d b ≡ b
  pub told : (more : List TreeEvent)
      → events_told o (node_events node None more) ≡ tree_before o x t a to (events_told o more)
  pub ends : node_end node ≡ spot x to

pub start_of_source : (x from to : List ℕ) (s : Source) → s ≡ stretch x from to → s.start ≡ spot x from
start_of_source x from to s e = ap (λ (s : Source). s.start) e

pub end_of_source : (x from to : List ℕ) (s : Source) → s ≡ stretch x from to → s.end ≡ spot x to
end_of_source x from to s e = ap (λ (s : Source). s.end) e

module _ (o : OptionsData) (x : List ℕ) where
  anchor_one : (bs : List Bracket) (own name : List ℕ) (s : ReaderState) → Before x (anchor_text (Some name) own) s.here
      → Calm bs s.laid → Fine bs s.laid.last → IsAnchorName name
      → OneRead o x bs (lexemes.Anchor (lent_name name)) (0x26 ∷ (name ++ 0x20 ∷ own)) (0x20 ∷ own) own false s
  anchor_one bs own name s b c f n =
      reads_one o x bs bs (sorts.Placed AnchorSign) (lexemes.Anchor (lent_name name)) (0x26 ∷ (name ++ 0x20 ∷ own))
      (0x20 ∷ own)
      own false s (subst (λ (l : List ℕ). Before x l s.here) (anchor_text_is name own) b) c
      (anchor_starts (name ++ 0x20 ∷ own))
      (λ t h e c q. takes_anchor o x bs name own t n h e c (fine_as bs s.laid.last t.laid.last q f))

  tag_one : (bs : List Bracket) (own name : List ℕ) (s : ReaderState) → Before x (tag_text (Some name) own) s.here
      → Calm bs s.laid → Fine bs s.laid.last → name ≢ [] → scalars name ≡ true
      → OneRead o x bs (lexemes.Tag [] name) (tag_source name ++ 0x20 ∷ own) (0x20 ∷ own) own false s
  tag_one bs own name s b c f n w =
      reads_one o x bs bs (sorts.Placed TagSign) (lexemes.Tag [] name) (tag_source name ++ 0x20 ∷ own) (0x20 ∷ own)
      own false s (subst (λ (l : List ℕ). Before x l s.here) (tag_text_is name own) b) c
      (tag_starts (0x3C ∷ ((tag_bytes (encode_utf8_all name) [] ++ 0x3E ∷ []) ++ 0x20 ∷ own)))
      (λ t h e c q. takes_tag o x bs name own t n w h e c (fine_as bs s.laid.last t.laid.last q f))

  anchor_told_so : (a : Anchors) (name own : List ℕ) (l : Source)
      → l ≡ stretch x (0x26 ∷ (name ++ 0x20 ∷ own)) (0x20 ∷ own)
      → ◌≡◌ {A = AnchorTold} (Some (suc a.count, lent_name name, l)) (anchor_before x a (Some name) own)
  anchor_told_so a name own l e =
      ap (λ (s : Source). Some (suc a.count, lent_name name, s))
      (e ∙ ap (λ (l : List ℕ). stretch x l (0x20 ∷ own)) (sym (anchor_text_is name own)))

  tag_told_so : (name own : List ℕ) (l : Source) → l ≡ stretch x (tag_source name ++ 0x20 ∷ own) (0x20 ∷ own)
      → ◌≡◌ {A = TagTold} (Some (record { handle = []; suffix = name; original_handle = [] }, l))
      (tag_before x (Some name) own)
  tag_told_so name own l e =
      ap (λ (s : Source). Some (record { handle = []; suffix = name; original_handle = [] }, s))
      (e ∙ ap (λ (l : List ℕ). stretch x l (0x20 ∷ own)) (sym (tag_text_is name own)))

  pub properties_read : (bs : List Bracket) (own : List ℕ) (s : ReaderState) (name anchor : Option (List ℕ))
      (a : Anchors)
      → IfSome name (λ t. t ≢ []) → IfSome name AreCharacters → IfSome anchor IsAnchorName
      → Before x (tag_text name (anchor_text anchor own)) s.here → Calm bs s.laid → Fine bs s.laid.last
      → PropertiesRead o x bs own s name anchor a
  properties_read bs own s None None a n w m b c f = record {
    after = s;
    properties = NoProperties;
    passage = passage_none o s a;
    before = b;
    calm = c;
    fine = f;
    placed = λ room p. tt;
    behind = λ room p. p;
    anchor_is = refl;
    tag_is = refl;
  }
  properties_read bs own s None (Some name) a n w m b c f =
      let r = anchor_one bs own name s b c f m in record {
        after = r.after;
        properties = One (Anchor (lent_name name)) (place_in a r.lexeme);
        passage = passage_one o (lexemes.Anchor (lent_name name)) s a (past_anchor (Some name) a) r.read refl refl refl;
        before = r.before;
        calm = r.calm;
        fine = fine_if bs r.after.laid.last r.opener;
        placed = λ room p. plain_fits room p (Property (Anchor (lent_name name))) a r.lexeme;
        behind = λ room p. plain_behind room p;
        anchor_is = anchor_told_so a name own r.lexeme.shown r.shown_is;
        tag_is = refl;
      }
  properties_read bs own s (Some name) None a n w m b c f =
      let r = tag_one bs own name s b c f n w in record {
        after = r.after;
        properties = One (Tag [] name) (place_in a r.lexeme);
        passage = passage_one o (lexemes.Tag [] name) s a a r.read refl refl refl;
        before = r.before;
        calm = r.calm;
        fine = fine_if bs r.after.laid.last r.opener;
        placed = λ room p. plain_fits room p (Property (Tag [] name)) a r.lexeme;
        behind = λ room p. plain_behind room p;
        anchor_is = refl;
        tag_is = tag_told_so name own r.lexeme.shown r.shown_is;
      }
  properties_read bs own s (Some name) (Some anchor) a n w m b c f =
      let middle = anchor_text (Some anchor) own in
      let r = tag_one bs middle name s b c f n w in
      let q = anchor_one bs own anchor r.after r.before r.calm (fine_if bs r.after.laid.last r.opener) m in
      let first = passage_one o (lexemes.Tag [] name) s a a r.read refl refl refl in
      let second = passage_one o (lexemes.Anchor (lent_name anchor)) r.after a (past_anchor (Some anchor) a) q.read refl
      refl refl in
      let i = place_in a r.lexeme in
      let j = place_in a q.lexeme in record {
        after = q.after;
        properties = Two (Tag [] name) i (Anchor (lent_name anchor)) j;
        passage = passage_then o s r.after q.after a a (past_anchor (Some anchor) a)
            (λ more. terminal (Part (Property (Tag [] name))) i ∷ more)
            (λ more. terminal (Part (Property (Anchor (lent_name anchor)))) j ∷ more) first second;
        before = q.before;
        calm = q.calm;
        fine = fine_if bs q.after.laid.last q.opener;
        placed = λ room p. (
          plain_fits room p (Property (Tag [] name)) a r.lexeme,
          plain_fits (behind_property room) (plain_behind room p) (Property (Anchor (lent_name anchor))) a q.lexeme,
          refl,
        );
        behind = λ room p. plain_behind room p;
        anchor_is = anchor_told_so a anchor own q.lexeme.shown q.shown_is;
        tag_is = tag_told_so name middle r.lexeme.shown r.shown_is;
      }

  pub alias_read : (bs : List Bracket) (g rest : List ℕ) (s : ReaderState) (name : List ℕ) (a : Anchors) (n : ℕ)
      → Follows bs g rest → EndsName g rest → IsAnchorName name → entry_of name a.names ≡ Some n
      → Before x (tree_text (AliasOf name) (g ++ rest)) s.here → Calm bs s.laid → Fine bs s.laid.last
      → NodeRead o x bs (g ++ rest) rest s (AliasOf name) a
  alias_read bs g rest s name a n ff ended is known b c f =
      let from = 0x2A ∷ (name ++ (g ++ rest)) in
      let r = reads_one o x bs bs (sorts.Placed AliasSign) (lexemes.Alias (lent_name name)) from (g ++ rest) rest false
      s b
      c
      (star_starts (name ++ (g ++ rest)))
      (λ t h e c q. takes_alias o x bs name g rest t (follows_parts ff) ended is h e c
      (fine_as bs s.laid.last t.laid.last q f)) in
      record {
        after = r.after;
        node = AliasNode (lent_name name) (place_in a r.lexeme);
        passage = passage_one o (lexemes.Alias (lent_name name)) s a a r.read refl refl
            (ap (alias_fault o.emit_unresolved_aliases) known ∙ always o.emit_unresolved_aliases);
        before = r.before;
        passed = r.passed;
        calm = r.calm;
        opener = r.opener;
        placed = λ room p y. plain_fits room p (Alias (lent_name name)) a r.lexeme;
        within = λ n d b. refl;
        told = λ more. ap (λ (s : Source). event_at (alias_told (lent_name name) (entry_of name a.names)) s
            ∷ events_told o more)
            r.shown_is;
        ends = end_of_source x from (g ++ rest) r.lexeme.shown r.shown_is;
      }
    where
      always : (v : Bool) → alias_fault v (Some n) ≡ None
      always true = refl
      always false = refl

  pub scalar_read : (bs : List Bracket) (g rest : List ℕ) (s : ReaderState) (p : Properties) (chars : List ℕ)
      (a : Anchors)
      → Follows bs g rest → CanStand p → scalars chars ≡ true
      → Before x (tree_text (ScalarOf p chars) (g ++ rest)) s.here → Calm bs s.laid → Fine bs s.laid.last
      → NodeRead o x bs (g ++ rest) rest s (ScalarOf p chars) a
  scalar_read bs g rest s p chars a ff can w b c f =
      let to = g ++ rest in
      let own = 0x22 ∷ quoted_characters chars (0x22 ∷ to) in
      let r = properties_read bs own s p.tag p.anchor a can.0.0 can.1.0 can.0.1 b c f in
      let q = reads_one o x bs bs (sorts.Placed (QuoteSign false)) (lexemes.Scalar DoubleQuoted (between_quotes chars))
      own to
      rest
      false r.after r.before r.calm (quote_starts (quoted_characters chars (0x22 ∷ to)))
      (λ t h e c k. takes_quoted o x bs chars g rest t ff w h e c
      (fine_as bs r.after.laid.last t.laid.last k r.fine)) in
      let b = past_anchor p.anchor a in
      let i = place_in b q.lexeme in
      let second = passage_one o (lexemes.Scalar DoubleQuoted (between_quotes chars)) r.after b b q.read refl refl refl
      in
      record {
        after = q.after;
        node = ScalarNode r.properties DoubleQuoted (between_quotes chars) i;
        passage = passage_then o s r.after q.after a b b (spell_properties r.properties)
            (λ more. terminal (Part (Scalar DoubleQuoted (between_quotes chars))) i ∷ more) r.passage second;
        before = q.before;
        passed = q.passed;
        calm = q.calm;
        opener = q.opener;
        placed = λ room h y. (
          r.placed room h,
          plain_fits (room_behind r.properties room) (r.behind room h) (Scalar DoubleQuoted (between_quotes chars)) b
              q.lexeme,
        );
        within = λ n d b. refl;
        told = λ more.
            shown_told o r.properties (plain.Scalar (between_quotes chars) DoubleQuoted) q.lexeme.shown
            (stretch x own to) (imposed None (indent_of q.lexeme.indent)) q.shown_is (ap indent_of q.indent_is)
            (events_told o more)
            ∙ node_is_told o x a p r.properties (plain.Scalar (between_quotes chars) DoubleQuoted) own to r.anchor_is
            r.tag_is (events_told o more);
        ends = end_of_source x own to q.lexeme.shown q.shown_is;
      }
