-- Properties, and nodes that stand in their lines, are read.
use Rattle.granit_language.specs.Node as nodes
use Rattle.granit_lexemes.specs.Lexeme as lexemes
use Rattle.granit_lexemes.specs.PlainEvent as plain
use Rattle.granit_machine.specs.LexemeSort as sorts
use Rattle.std.proofs.Common.{Bool, List, Option, [], ap, false, length, refl, subst, suc, true, zero, ℕ, ◌++◌, ◌<◌}
use Rattle.std.proofs.Common.{◌∙◌, ◌∷◌, ◌≡◌, ◌≢◌}
use Rattle.std.specs.Prelude.{IfSome, None, Some, if◌then◌else◌}
use Rattle.std.specs.Str.{encode_utf8_all}
use lib.Utf8.{scalars}
use Rattle.granit_base.specs.Place.{Mark}
use Rattle.granit_base.specs.declared.style.ScalarStyle.TheVariants.{DoubleQuoted}
use Rattle.granit_block_layout.proofs.Empties.{takes_closer, takes_opener}
use Rattle.granit_block_layout.proofs.Fronts.{front_behind, front_text, inline_front}
use Rattle.granit_block_layout.proofs.Names.{takes_alias, takes_anchor, takes_tag}
use Rattle.granit_block_lines.proofs.Passing.{BlockRoom, Follows, part_in, room_on}
use Rattle.granit_block_layout.proofs.Quotes.{takes_quoted}
use Rattle.granit_block_lines.proofs.Ready.{Begun, Behind, OnLine, Ready, Where, bound, fed_to, leads, spaced, up_to}
use Rattle.granit_block_lines.proofs.Taking.{OneRead, reads_one}
use Rattle.granit_block_layout.proofs.Telling.{alias_kind, kinds_append, node_tells, start_tells}
use Rattle.granit_block_layout.specs.Alike.{kinds_of, unstyled}
use Rattle.granit_canonical_steps.proofs.Flows.{ending, opening}
use Rattle.granit_canonical_steps.proofs.Names.{tag_source}
use Rattle.granit_canonical_steps.proofs.Nodes.{anchor_starts, closer_starts, opener_starts, quote_starts, star_starts}
use Rattle.granit_canonical_steps.proofs.Nodes.{tag_starts}
use Rattle.granit_canonical_steps.proofs.Passing.{Passage, passage_none, passage_one, passage_then, place_in}
use Rattle.granit_canonical_steps.proofs.Places.{Starts}
use Rattle.granit_canonical_steps.proofs.Spelling.{CanStand}
use Rattle.granit_canonical_steps.specs.Canonical.{Anchors, between_quotes, lent_name, past_anchor}
use Rattle.granit_error.specs.OptionsData.{OptionsData}
use Rattle.granit_generator.specs.BlockText.{indent}
use Rattle.granit_language.specs.Node.{AliasNode, NoItem, NoLast, NoProperties, Node, One, ScalarNode, TreeProperties}
use Rattle.granit_language.specs.Node.{Two}
use Rattle.granit_language.specs.Placed.{Placed, PropertiesPlaced}
use Rattle.granit_language.specs.Room.{Room, room_behind}
use Rattle.granit_language.specs.Scope.{entry_of}
use Rattle.granit_language.specs.Scoping.{alias_fault}
use Rattle.granit_language.specs.Seen.{indent_of}
use Rattle.granit_language.specs.Telling.{alias_told, anchor_told, events_told, node_told, number_told, one_less}
use Rattle.granit_language.specs.Telling.{properties_anchor, properties_tag, tag_told}
use Rattle.granit_language.specs.Terminal.{Alias, Anchor, At, Close, Open, Part, Property, Scalar, Tag, Terminal}
use Rattle.granit_language.specs.Terminal.{terminal}
use Rattle.granit_language.specs.TreeEvents.{TreeEvent, flow_end, flow_start, imposed, node_events}
use Rattle.granit_language.specs.Within.{node_within}
use Rattle.granit_language.specs.Yield.{spell, spell_properties}
use Rattle.granit_lexemes.specs.Lexeme.{closer_char, opener_char}
use Rattle.granit_lexemes.specs.PlainEvent.{EventKind, PlainEvent, PlainTag, event_at}
use Rattle.granit_lexemes.specs.declared.layout.Bracket.{Bracket}
use Rattle.granit_lexemes.specs.declared.layout.Bracket.TheVariants.{Curly, Square}
use Rattle.granit_machine.specs.ReaderState.{ReaderState}
use Rattle.granit_model.specs.Characters.{AreCharacters}
use Rattle.granit_model.specs.FlowText.{anchor_text, properties_text, quoted_characters, tag_bytes, tag_text}
use Rattle.granit_model.specs.Tree.{IsAnchorName, Properties}

-- which columns are open behind a node, as far as what reaches there leaves them: 0 ends all
abbrev pub Closes : (reach : ℕ) → (left cs : List ℕ) → Type 0
Closes zero left cs = Unit {0}
Closes (suc n) left cs = up_to n left ≡ up_to n cs

pub closes_none : (reach : ℕ) (cs : List ℕ) → Closes reach cs cs
closes_none zero cs = tt
closes_none (suc n) cs = refl

-- properties that are read in front of what follows
pub record PropertiesRead (o : OptionsData) (x : List ℕ) (cs : List ℕ) (own : List ℕ) (w : Where) (s : ReaderState)
    (name anchor : Option (List ℕ)) (a : Anchors) : Type 0 where
  pub after : ReaderState
  pub properties : TreeProperties
  pub passage : Passage o s a (past_anchor anchor a) (spell_properties properties) after
  pub ready : Ready x own [] cs w after
  pub placed : (room : Room) → BlockRoom (bound cs) room → PropertiesPlaced properties room
  pub behind : (room : Room) → BlockRoom (bound cs) room → BlockRoom (bound cs) (room_behind properties room)
  pub starts : (kind : ℕ → Option PlainTag → EventKind) (more : List EventKind)
      → start_tells o properties kind more ≡ node_tells o a name anchor kind more

-- a node that is read, with what is told of it
pub record NodeRead (o : OptionsData) (x : List ℕ) (cs : List ℕ) (reach : ℕ) (next : List ℕ) (s : ReaderState)
    (a c : Anchors) (tell : List EventKind → List EventKind) : Type 0 where
  pub after : ReaderState
  pub left : List ℕ
  pub node : Node
  pub passage : Passage o s a c (spell node) after
  pub ready : Ready x next [] left (Begun (one_less reach)) after
  pub closes : Closes reach left cs
  pub placed : (room : Room) → BlockRoom (bound cs) room → (y : Terminal) → Follows x reach next y
      → Placed node room y
  pub within : (v : Bool) → node_within o.block_nesting_limit node (length cs) v ≡ v
  pub told : (indent : Option ℕ) (more : List TreeEvent)
      → kinds_of (events_told o (node_events node indent more)) ≡ tell (kinds_of (events_told o more))

-- the event of a node's start
pub node_starts : (o : OptionsData) (q : TreeProperties) (kind : ℕ → Option PlainTag → EventKind) (from to : Mark)
    (indent : Option ℕ) (es : List PlainEvent)
    → kinds_of (node_told o q kind from to indent ++ es) ≡ start_tells o q kind (kinds_of es)
node_starts o q kind from to indent es =
    ap (λ (ks : List EventKind). unstyled (kind (number_told (properties_anchor q)) (tag_told (properties_tag o q)))
    ∷ ks)
    (kinds_append (anchor_told o (properties_anchor q) []) es)

if_before : (v : Bool) (e : PlainEvent) (more : List EventKind)
    → kinds_of (if v then e ∷ [] else []) ++ more ≡ (if v then unstyled e.kind ∷ more else more)
if_before true e more = refl
if_before false e more = refl

abbrev pub plain_alias : List ℕ → Anchors → EventKind
plain_alias name a = alias_told (lent_name name) (entry_of name a.names)

module _ (o : OptionsData) (x : List ℕ) where
  -- properties that stand in front of a node in its line
  in_front : (name anchor : Option (List ℕ)) (cs own : List ℕ) (s : ReaderState)
      → Ready x (tag_text name (anchor_text anchor own)) [] cs (OnLine (bound cs)) s
      → Ready x (front_text name anchor (0x20 ∷ []) own) [] cs (leads (front_behind name anchor spaced) (bound cs)) s
  in_front None None cs own s r = r
  in_front None (Some anchor) cs own s r =
      subst (λ (l : List ℕ). Ready x l [] cs (OnLine (bound cs)) s) (inline_front None (Some anchor) own) r
  in_front (Some name) anchor cs own s r =
      subst (λ (l : List ℕ). Ready x l [] cs (OnLine (bound cs)) s) (inline_front (Some name) anchor own) r

  anchor_one : {g : List ℕ} (b : Behind g) (cs own name : List ℕ) (s : ReaderState) → IsAnchorName name
      → Ready x (0x26 ∷ (name ++ (g ++ own))) [] cs (OnLine (bound cs)) s
      → OneRead o x [] cs (OnLine (bound cs)) (leads b (bound cs)) (lexemes.Anchor (lent_name name))
      (0x26 ∷ (name ++ (g ++ own))) own s
  anchor_one {g} b cs own name s n r =
      reads_one o x [] [] cs cs (OnLine (bound cs)) (leads b (bound cs)) (sorts.Placed sorts.AnchorSign)
      (lexemes.Anchor (lent_name name)) (0x26 ∷ (name ++ (g ++ own))) own s r (anchor_starts (name ++ (g ++ own)))
      (λ t a. takes_anchor o x b cs name own t n a)

  tag_one : {g : List ℕ} (b : Behind g) (cs own name : List ℕ) (s : ReaderState) → name ≢ [] → scalars name ≡ true
      → Ready x (tag_source name ++ (g ++ own)) [] cs (OnLine (bound cs)) s
      → OneRead o x [] cs (OnLine (bound cs)) (leads b (bound cs)) (lexemes.Tag [] name)
      (tag_source name ++ (g ++ own)) own s
  tag_one {g} b cs own name s n w r =
      reads_one o x [] [] cs cs (OnLine (bound cs)) (leads b (bound cs)) (sorts.Placed sorts.TagSign)
      (lexemes.Tag [] name) (tag_source name ++ (g ++ own)) own s r
      (tag_starts (0x3C ∷ ((tag_bytes (encode_utf8_all name) [] ++ 0x3E ∷ []) ++ (g ++ own))))
      (λ t a. takes_tag o x b cs name own t n w a)

  pub properties_read : {g : List ℕ} (b : Behind g) (cs own : List ℕ) (s : ReaderState)
      (name anchor : Option (List ℕ)) (a : Anchors)
      → IfSome name (λ t. t ≢ []) → IfSome name AreCharacters → IfSome anchor IsAnchorName
      → Ready x (front_text name anchor g own) [] cs (leads (front_behind name anchor b) (bound cs)) s
      → PropertiesRead o x cs own (leads b (bound cs)) s name anchor a
  properties_read b cs own s None None a n w m r = record {
    after = s;
    properties = NoProperties;
    passage = passage_none o s a;
    ready = r;
    placed = λ room p. tt;
    behind = λ room p. p;
    starts = λ kind more. refl;
  }
  properties_read {g} b cs own s None (Some name) a n w m r =
      let q = anchor_one b cs own name s m r in record {
        after = q.after;
        properties = One (Anchor (lent_name name)) (place_in a q.lexeme);
        passage = passage_one o (lexemes.Anchor (lent_name name)) s a (past_anchor (Some name) a) q.read refl refl refl;
        ready = q.ready;
        placed = λ room p. part_in p (Property (Anchor (lent_name name))) a q.lexeme q.column;
        behind = λ room p. room_on p;
        starts = λ kind more. ap (λ (ks : List EventKind). unstyled (kind (suc a.count) None) ∷ ks)
            (if_before o.emit_anchor_events (event_at (plain.Anchor (suc a.count) (lent_name name)) (q.lexeme).shown)
            more);
      }
  properties_read {g} b cs own s (Some name) None a n w m r =
      let q = tag_one b cs own name s n w r in record {
        after = q.after;
        properties = One (Tag [] name) (place_in a q.lexeme);
        passage = passage_one o (lexemes.Tag [] name) s a a q.read refl refl refl;
        ready = q.ready;
        placed = λ room p. part_in p (Property (Tag [] name)) a q.lexeme q.column;
        behind = λ room p. room_on p;
        starts = λ kind more. refl;
      }
  properties_read {g} b cs own s (Some name) (Some anchor) a n w m r =
      let middle = 0x26 ∷ (anchor ++ (g ++ own)) in
      let tagged = tag_one spaced cs middle name s n w r in
      let q = anchor_one b cs own anchor tagged.after m tagged.ready in
      let first = passage_one o (lexemes.Tag [] name) s a a tagged.read refl refl refl in
      let second = passage_one o (lexemes.Anchor (lent_name anchor)) tagged.after a (past_anchor (Some anchor) a) q.read
      refl refl refl in
      let i = place_in a tagged.lexeme in
      let j = place_in a q.lexeme in record {
        after = q.after;
        properties = Two (Tag [] name) i (Anchor (lent_name anchor)) j;
        passage = passage_then o s tagged.after q.after a a (past_anchor (Some anchor) a)
            (λ more. terminal (Part (Property (Tag [] name))) i ∷ more)
            (λ more. terminal (Part (Property (Anchor (lent_name anchor)))) j ∷ more) first second;
        ready = q.ready;
        placed = λ room p. (
          part_in p (Property (Tag [] name)) a tagged.lexeme tagged.column,
          part_in (room_on p) (Property (Anchor (lent_name anchor))) a q.lexeme q.column,
          refl,
        );
        behind = λ room p. room_on p;
        starts = λ kind more. ap (λ (ks : List EventKind). unstyled (kind (suc a.count)
            (Some (record { handle = []; suffix = name; original_handle = [] }))) ∷ ks)
            (if_before o.emit_anchor_events (event_at (plain.Anchor (suc a.count) (lent_name anchor))
            (q.lexeme).shown) more);
      }

  pub alias_read : (cs : List ℕ) (reach : ℕ) (name next : List ℕ) (s : ReaderState) (a : Anchors) (n : ℕ)
      → IsAnchorName name → entry_of name a.names ≡ Some n
      → Ready x (0x2A ∷ (name ++ ((0x0A ∷ indent (one_less reach) []) ++ next))) [] cs (OnLine (bound cs)) s
      → NodeRead o x cs reach next s a a (λ more. plain_alias name a ∷ more)
  alias_read cs reach name next s a n is known r =
      let g = 0x0A ∷ indent (one_less reach) [] in
      let from = 0x2A ∷ (name ++ (g ++ next)) in
      let q = reads_one o x [] [] cs cs (OnLine (bound cs)) (Begun (one_less reach)) (sorts.Placed sorts.AliasSign)
      (lexemes.Alias (lent_name name)) from next s r (star_starts (name ++ (g ++ next)))
      (λ t b. takes_alias o x (fed_to (one_less reach)) cs name next t is b) in
      record {
        after = q.after;
        left = cs;
        node = AliasNode (lent_name name) (place_in a q.lexeme);
        passage = passage_one o (lexemes.Alias (lent_name name)) s a a q.read refl refl
            (ap (alias_fault o.emit_unresolved_aliases) known ∙ always o.emit_unresolved_aliases);
        ready = q.ready;
        closes = closes_none reach cs;
        placed = λ room p y f. part_in p (Alias (lent_name name)) a q.lexeme q.column;
        within = λ v. refl;
        told = λ indent more. ap (λ (k : EventKind). k ∷ kinds_of (events_told o more))
            (alias_kind name (entry_of name a.names));
      }
    where
      always : (v : Bool) → alias_fault v (Some n) ≡ None
      always true = refl
      always false = refl

  pub scalar_read : (cs : List ℕ) (reach : ℕ) (p : Properties) (chars next : List ℕ) (s : ReaderState) (a : Anchors)
      → Starts next → CanStand p → scalars chars ≡ true
      → Ready x (properties_text p (0x22 ∷ quoted_characters chars
      (0x22 ∷ ((0x0A ∷ indent (one_less reach) []) ++ next)))) [] cs (OnLine (bound cs)) s
      → NodeRead o x cs reach next s a (past_anchor p.anchor a)
      (node_tells o a p.tag p.anchor (plain.Scalar (between_quotes chars) DoubleQuoted))
  scalar_read cs reach p chars next s a st can w ready =
      let own = 0x22 ∷ quoted_characters chars (0x22 ∷ ((0x0A ∷ indent (one_less reach) []) ++ next)) in
      let r = properties_read spaced cs own s p.tag p.anchor a can.0.0 can.1.0 can.0.1
      (in_front p.tag p.anchor cs own s ready) in
      let q = reads_one o x [] [] cs cs (OnLine (bound cs)) (Begun (one_less reach))
      (sorts.Placed (sorts.QuoteSign false)) (lexemes.Scalar DoubleQuoted (between_quotes chars)) own next r.after
      r.ready (quote_starts (quoted_characters chars (0x22 ∷ ((0x0A ∷ indent (one_less reach) []) ++ next))))
      (λ t b. takes_quoted o x (one_less reach) cs chars next t st w b) in
      let b = past_anchor p.anchor a in
      let i = place_in b q.lexeme in
      let second = passage_one o (lexemes.Scalar DoubleQuoted (between_quotes chars)) r.after b b q.read refl refl refl
      in
      let kind = plain.Scalar (between_quotes chars) DoubleQuoted in
      record {
        after = q.after;
        left = cs;
        node = ScalarNode r.properties DoubleQuoted (between_quotes chars) i;
        passage = passage_then o s r.after q.after a b b (spell_properties r.properties)
            (λ more. terminal (Part (Scalar DoubleQuoted (between_quotes chars))) i ∷ more) r.passage second;
        ready = q.ready;
        closes = closes_none reach cs;
        placed = λ room h y f. (
          r.placed room h,
          part_in (r.behind room h) (Scalar DoubleQuoted (between_quotes chars)) b q.lexeme q.column,
        );
        within = λ v. refl;
        told = λ indent more. node_starts o r.properties kind (q.lexeme).shown.start (q.lexeme).shown.end
            (imposed indent (indent_of (q.lexeme).indent)) (events_told o more)
            ∙ r.starts kind (kinds_of (events_told o more));
      }

  -- a collection without entries
  pub empty_read : (d : Bracket) (cs : List ℕ) (reach : ℕ) (p : Properties) (next : List ℕ) (s : ReaderState)
      (a : Anchors) → Starts next → CanStand p → 0 < o.flow_nesting_limit
      → Ready x (properties_text p (opener_char d ∷ closer_char d ∷ ((0x0A ∷ indent (one_less reach) []) ++ next)))
      [] cs
      (OnLine (bound cs)) s
      → NodeRead o x cs reach next s a (past_anchor p.anchor a)
      (λ more. node_tells o a p.tag p.anchor (opening d) (ending d ∷ more))
  empty_read d cs reach p next s a st can room ready =
      let closing = closer_char d ∷ ((0x0A ∷ indent (one_less reach) []) ++ next) in
      let own = opener_char d ∷ closing in
      let r = properties_read spaced cs own s p.tag p.anchor a can.0.0 can.1.0 can.0.1
      (in_front p.tag p.anchor cs own s ready) in
      let q = reads_one o x [] (d ∷ []) cs cs (OnLine (bound cs)) (OnLine (bound cs)) (sorts.Placed (sorts.OpenSign d))
      (lexemes.Open d) own closing r.after r.ready (opener_starts d closing)
      (λ t b. takes_opener o x d cs ((0x0A ∷ indent (one_less reach) []) ++ next) t room b) in
      let z = reads_one o x (d ∷ []) [] cs cs (OnLine (bound cs)) (Begun (one_less reach))
      (sorts.Placed (sorts.CloseSign d)) (lexemes.Close d) closing next q.after q.ready
      (closer_starts d ((0x0A ∷ indent (one_less reach) []) ++ next))
      (λ t b. takes_closer o x (fed_to (one_less reach)) d cs next t st b) in
      let b = past_anchor p.anchor a in
      let i = place_in b q.lexeme in
      let e = place_in b z.lexeme in
      let second = passage_one o (lexemes.Open d) r.after b b q.read refl refl refl in
      let third = passage_one o (lexemes.Close d) q.after b b z.read refl refl refl in
      let opened_by = λ (more : List Terminal). terminal (Part (Open d)) i ∷ more in
      let closed_by = λ (more : List Terminal). terminal (Close d) e ∷ more in
      let rear = passage_then o r.after q.after z.after b b b opened_by closed_by second third in
      record {
        after = z.after;
        left = cs;
        node = nodes.Flow r.properties d i NoItem NoLast e;
        passage = passage_then o s r.after z.after a b b (spell_properties r.properties)
            (λ more. opened_by (closed_by more)) r.passage rear;
        ready = z.ready;
        closes = closes_none reach cs;
        placed = λ room h y f. (
          r.placed room h,
          part_in (r.behind room h) (Open d) b q.lexeme q.column,
          tt,
          tt,
        );
        within = λ v. refl;
        told = λ indent more. flow_told d r.properties i e indent more
            ∙ r.starts (opening d) (ending d ∷ kinds_of (events_told o more));
      }
    where
      flow_told : (d : Bracket) (q : TreeProperties) (i e : At) (indent : Option ℕ) (more : List TreeEvent)
          → kinds_of (events_told o (flow_start q d i indent ∷ flow_end d e ∷ more))
          ≡ start_tells o q (opening d) (ending d ∷ kinds_of (events_told o more))
      flow_told Square q i e indent more =
          node_starts o q (opening Square) i.shown.start i.shown.end indent (events_told o (flow_end Square e ∷ more))
      flow_told Curly q i e indent more =
          node_starts o q (opening Curly) i.shown.start i.shown.end indent (events_told o (flow_end Curly e ∷ more))
