-- Scalars and flow collections of JSON text are read as nodes with their events.
use Rattle.granit_language.specs.Node as nodes
use Rattle.granit_lexemes.specs.Lexeme as lexemes
use Rattle.granit_lexemes.specs.PlainEvent as plain
use Rattle.granit_machine.specs.LexemeSort as sorts
use Rattle.std.proofs.Common.{Bool, List, Option, [], ap, ap₂, false, length, refl, subst, sym, true, ℕ, ◌++◌, ◌<◌, ◌∙◌}
use Rattle.std.proofs.Common.{◌∷◌, ◌≡◌}
use Rattle.std.specs.Prelude.{None}
use Rattle.granit_base.specs.Place.{Mark}
use Rattle.granit_base.specs.Written.{Written}
use Rattle.granit_base.specs.declared.style.ScalarStyle.{ScalarStyle}
use Rattle.granit_canonical_steps.proofs.Calm.{Calm, Fine, fine_as}
use Rattle.granit_canonical_steps.proofs.Nodes.{closer_starts, opener_starts}
use Rattle.granit_canonical_steps.proofs.Passing.{IsPlain, plain_fits}
use Rattle.granit_canonical_steps.proofs.Places.{Before, Starts}
use Rattle.granit_canonical_steps.proofs.Taking.{OneRead, reads_one}
use Rattle.granit_canonical_steps.specs.Canonical.{spot, stretch}
use Rattle.granit_error.specs.OptionsData.{OptionsData}
use Rattle.granit_json_scalars.proofs.Marks.{takes_closer, takes_opener}
use Rattle.granit_json_scalars.proofs.Passing.{Passage, passage_none, passage_one, passage_then}
use Rattle.granit_json_scalars.specs.JsonEvents.{array_start, object_start, scalar_of}
use Rattle.granit_language.specs.Node.{FlowLast, FlowLead, NoItem, NoLast, NoProperties, Node, ScalarNode}
use Rattle.granit_language.specs.Placed.{FlowPlaced, LastPlaced, Placed}
use Rattle.granit_language.specs.Room.{Room}
use Rattle.granit_language.specs.Scope.{no_scope}
use Rattle.granit_language.specs.Seen.{at_of, indent_of}
use Rattle.granit_language.specs.Telling.{event_told, events_told, indent_told}
use Rattle.granit_language.specs.Terminal.{At, Close, Open, Part, PartKind, Scalar, Terminal, terminal}
use Rattle.granit_language.specs.TreeEvents.{TreeEvent, bare_document_start, first_terminal, flow_end, flow_events}
use Rattle.granit_language.specs.TreeEvents.{flow_start, last_events, node_end, node_events, scalar_event}
use Rattle.granit_language.specs.Within.{flow_within, last_within, node_within}
use Rattle.granit_language.specs.Yield.{spell, spell_flow, spell_last}
use Rattle.granit_lexemes.specs.Gap.{IsGap}
use Rattle.granit_lexemes.specs.Lexeme.{Lexeme, closer_char, opener_char}
use Rattle.granit_lexemes.specs.PlainEvent.{EventKind, PlainEvent, event_at}
use Rattle.granit_lexemes.specs.Source.{Source}
use Rattle.granit_lexemes.specs.declared.layout.Bracket.{Bracket}
use Rattle.granit_lexemes.specs.declared.layout.Bracket.TheVariants.{Curly, Square}
use Rattle.granit_machine.specs.Laid.{is_opener}
use Rattle.granit_machine.specs.ReaderState.{ReaderState}

-- ---- what is told

-- an event of a kind that bears what a lexeme shows
abbrev shown_as : EventKind → Source → Option ℕ → PlainEvent
shown_as kind s indent = record {
  kind = kind;
  span = record {
    start = s.start;
    end = s.end;
    indent = indent_told (indent_of indent);
    tag_start = None;
    tag_length = 0;
  };
}

shown_so : (kind : EventKind) (s source : Source) (indent : Option ℕ) → s ≡ source → indent ≡ None
    → shown_as kind s indent ≡ event_at kind source
shown_so kind s source indent p q = ap₂ (shown_as kind) p q

pub scalar_told : (o : OptionsData) (style : ScalarStyle) (text : Written) (v : Bool) (l : Lexeme) (source : Source)
    → l.shown ≡ source → l.indent ≡ None → (es : List PlainEvent)
    → event_told o (scalar_event NoProperties style text (at_of v no_scope l) None) ++ es
    ≡ event_at (scalar_of style text) source ∷ es
scalar_told o style text v l source p q es =
    ap (λ (e : PlainEvent). e ∷ es) (shown_so (scalar_of style text) l.shown source l.indent p q)

starts_told : (o : OptionsData) (k : PartKind) (l : Lexeme) (source : Source) → l.shown ≡ source → l.indent ≡ None
    → (es : List PlainEvent)
    → event_told o (bare_document_start (Part k) (at_of false no_scope l)) ++ es
    ≡ event_at (plain.DocumentStart false None) source ∷ es
starts_told o k l source p q es =
    ap (λ (e : PlainEvent). e ∷ es) (shown_so (plain.DocumentStart false None) l.shown source l.indent p q)

abbrev pub starting : Bracket → EventKind
starting Square = array_start
starting Curly = object_start

abbrev pub ending : Bracket → EventKind
ending Square = plain.SequenceEnd
ending Curly = plain.MappingEnd

start_told : (o : OptionsData) (b : Bracket) (l : Lexeme) (source : Source) → l.shown ≡ source → (es : List PlainEvent)
    → event_told o (flow_start NoProperties b (at_of false no_scope l) None) ++ es ≡ event_at (starting b) source ∷ es
start_told o Square l source p es =
    ap (λ (s : Source). event_at array_start s ∷ es) p
start_told o Curly l source p es =
    ap (λ (s : Source). event_at object_start s ∷ es) p

end_told : (o : OptionsData) (b : Bracket) (l : Lexeme) (from to : Mark) → l.start ≡ from → l.shown.end ≡ to
    → (es : List PlainEvent) → event_told o (flow_end b (at_of false no_scope l)) ++ es
    ≡ event_at (ending b) (record { start = from; end = to }) ∷ es
end_told o Square l from to p q es =
    ap₂ (λ (m n : Mark). event_at plain.SequenceEnd (record { start = m; end = n }) ∷ es) p q
end_told o Curly l from to p q es =
    ap₂ (λ (m n : Mark). event_at plain.MappingEnd (record { start = m; end = n }) ∷ es) p q

end_of : (s source : Source) → s ≡ source → s.end ≡ source.end
end_of s source e = ap (λ (s : Source). s.end) e

-- ---- nodes

-- a node that is read, with what is told of it, where its first lexeme stands and where it ends
pub record NodeRead (o : OptionsData) (x : List ℕ) (bs : List Bracket) (rest : List ℕ) (s : ReaderState)
    (tell : List PlainEvent → List PlainEvent) (source : Source) (end : Mark) : Type 0 where
  pub after : ReaderState
  pub node : Node
  pub passage : Passage o s (spell node) after
  pub before : Before x rest after.here
  pub calm : Calm bs after.laid
  pub opener : is_opener after.laid.last ≡ false
  pub placed : (room : Room) → IsPlain room → (y : Terminal) → Placed node room y
  pub within : (n d : ℕ) (b : Bool) → node_within n node d b ≡ b
  pub told : (more : List TreeEvent) → events_told o (node_events node None more) ≡ tell (events_told o more)
  pub ends : node_end node ≡ end
  pub starts : (es : List PlainEvent)
      → event_told o (bare_document_start (first_terminal node).kind (first_terminal node).at) ++ es
      ≡ event_at (plain.DocumentStart false None) source ∷ es

module _ (o : OptionsData) (x : List ℕ) where
  -- a scalar that shows this stretch of the text
  pub scalar_read : (style : ScalarStyle) (text : Written) (bs : List Bracket) (from to rest : List ℕ)
      (s : ReaderState) (source : Source) → OneRead o x bs (lexemes.Scalar style text) from to rest false s
      → stretch x from to ≡ source
      → NodeRead o x bs rest s (λ es. event_at (scalar_of style text) source ∷ es) source source.end
  scalar_read style text bs from to rest s source r e =
      let shown = r.shown_is ∙ e in
      record {
        after = r.after;
        node = ScalarNode NoProperties style text (at_of false no_scope r.lexeme);
        passage = passage_one o (lexemes.Scalar style text) s r.read refl refl refl;
        before = r.before;
        calm = r.calm;
        opener = r.opener;
        placed = λ room h y. (
          tt,
          plain_fits room h (Scalar style text) (record { count = 0; names = [] }) r.lexeme,
        );
        within = λ n d b. refl;
        told = λ more. scalar_told o style text false r.lexeme source shown r.indent_is (events_told o more);
        ends = end_of r.lexeme.shown source shown;
        starts = starts_told o (Scalar style text) r.lexeme source shown r.indent_is;
      }

-- what is read between brackets
pub record Contents (o : OptionsData) (x : List ℕ) (b : Bracket) (bs : List Bracket) (closing : List ℕ)
    (s : ReaderState) (tell : List PlainEvent → List PlainEvent) : Type 0 where
  pub after : ReaderState
  pub lead : FlowLead
  pub last : FlowLast
  pub passage : Passage o s (λ more. spell_flow lead (spell_last last more)) after
  pub before : Before x closing after.here
  pub calm : Calm (b ∷ bs) after.laid
  pub placed : FlowPlaced lead b
  pub placed_last : (y : Terminal) → LastPlaced last b y
  pub within : (n d : ℕ) (v : Bool) → last_within n last d (flow_within n lead d v) ≡ v
  pub told : (e : At) (more : List TreeEvent)
      → events_told o (flow_events lead b (last_events last b e more)) ≡ tell (events_told o more)

-- nothing between brackets
pub no_contents : (o : OptionsData) (x : List ℕ) (b : Bracket) (bs : List Bracket) (closing : List ℕ)
    (s : ReaderState) → Before x closing s.here → Calm (b ∷ bs) s.laid → Contents o x b bs closing s (λ es. es)
no_contents o x b bs closing s before calm = record {
  after = s;
  lead = NoItem;
  last = NoLast;
  passage = passage_none o s;
  before = before;
  calm = calm;
  placed = tt;
  placed_last = λ y. tt;
  within = λ n d v. refl;
  told = λ e more. refl;
}

-- a gap in front of a text where a lexeme begins
pub record Front (from : List ℕ) : Type 0 where
  pub white : List ℕ
  pub start : List ℕ
  pub is : from ≡ white ++ start
  pub gap : IsGap white
  pub starts : Starts start

module _ (o : OptionsData) (x : List ℕ) where
  pub flow_read : (b : Bracket) (bs : List Bracket) (from inside to : List ℕ) (f : Front inside) (r : Front to)
      (s : ReaderState) (tell : List PlainEvent → List PlainEvent) → from ≡ opener_char b ∷ inside
      → length bs < o.flow_nesting_limit → Before x from s.here → Calm bs s.laid → Fine bs s.laid.last
      → ((u : ReaderState) → Before x f.start u.here → Calm (b ∷ bs) u.laid → is_opener u.laid.last ≡ true
      → Contents o x b bs (closer_char b ∷ to) u tell)
      → NodeRead o x bs r.start s
      (λ es. event_at (starting b) (stretch x from inside)
      ∷ tell (event_at (ending b) (stretch x (closer_char b ∷ to) to) ∷ es)) (stretch x from inside) (spot x to)
  flow_read b bs from inside to f r s tell e room before calm fine contents =
      let g = r.white in
      let rest = r.start in
      let own = opener_char b ∷ (f.white ++ f.start) in
      let behind = closer_char b ∷ (g ++ rest) in
      let open_is : own ≡ from = ap (λ (l : List ℕ). opener_char b ∷ l) (sym f.is) ∙ sym e in
      let close_is : behind ≡ closer_char b ∷ to = ap (λ (l : List ℕ). closer_char b ∷ l) (sym r.is) in
      let q = reads_one o x bs (b ∷ bs) (sorts.Placed (sorts.OpenSign b)) (lexemes.Open b) own (f.white ++ f.start)
      f.start true s (subst (λ (l : List ℕ). Before x l s.here) (sym open_is) before) calm
      (opener_starts b (f.white ++ f.start))
      (λ t h e c k. takes_opener o x bs b f.white f.start t f.gap f.starts room h e c
      (fine_as bs s.laid.last t.laid.last k fine)) in
      let k = contents q.after q.before q.calm q.opener in
      let z = reads_one o x (b ∷ bs) bs (sorts.Placed (sorts.CloseSign b)) (lexemes.Close b) behind (g ++ rest) rest
      false k.after (subst (λ (l : List ℕ). Before x l k.after.here) (sym close_is) k.before) k.calm
      (closer_starts b (g ++ rest)) (λ t h e c f. takes_closer o x bs b g rest t r.gap r.starts h e c) in
      let shown : q.lexeme.shown ≡ stretch x from inside = q.shown_is ∙ ap₂ (stretch x) open_is (sym f.is) in
      let shut : z.lexeme.shown ≡ stretch x (closer_char b ∷ to) to =
      z.shown_is ∙ ap₂ (stretch x) close_is (sym r.is) in
      let shut_at : z.lexeme.start ≡ spot x (closer_char b ∷ to) = z.start_is ∙ ap (spot x) close_is in
      let m = at_of false no_scope q.lexeme in
      let n = at_of false no_scope z.lexeme in
      let first = passage_one o (lexemes.Open b) s q.read refl refl refl in
      let second = passage_one o (lexemes.Close b) k.after z.read refl refl refl in
      let opened_by = λ (more : List Terminal). terminal (Part (Open b)) m ∷ more in
      let closed_by = λ (more : List Terminal). terminal (Close b) n ∷ more in
      let between = λ (more : List Terminal). spell_flow k.lead (spell_last k.last more) in
      let rear = passage_then o q.after k.after z.after between closed_by k.passage second in
      record {
        after = z.after;
        node = nodes.Flow NoProperties b m k.lead k.last n;
        passage = passage_then o s q.after z.after opened_by (λ more. between (closed_by more)) first rear;
        before = z.before;
        calm = z.calm;
        opener = z.opener;
        placed = λ room h y. (
          tt,
          plain_fits room h (Open b) (record { count = 0; names = [] }) q.lexeme,
          k.placed,
          k.placed_last (terminal (Close b) n),
        );
        within = λ n d v. k.within n d v;
        told = λ more.
            ap (λ (es : List PlainEvent). event_told o (flow_start NoProperties b m None) ++ es)
            (k.told n (flow_end b n ∷ more)
            ∙ ap tell (end_told o b z.lexeme (spot x (closer_char b ∷ to)) (spot x to) shut_at
            (end_of z.lexeme.shown (stretch x (closer_char b ∷ to) to) shut) (events_told o more)))
            ∙ start_told o b q.lexeme (stretch x from inside) shown
            (tell (event_at (ending b) (stretch x (closer_char b ∷ to) to) ∷ events_told o more));
        ends = end_of z.lexeme.shown (stretch x (closer_char b ∷ to) to) shut;
        starts = starts_told o (Open b) q.lexeme (stretch x from inside) shown q.indent_is;
      }
