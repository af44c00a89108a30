-- Flow collections of canonical text are read: properties, the opener, what stands inside, the closer.
use Rattle.granit_language.specs.Node as nodes
use Rattle.granit_lexemes.specs.Lexeme as lexemes
use Rattle.granit_lexemes.specs.PlainEvent as plain
use Rattle.granit_machine.specs.LexemeSort as sorts
use Rattle.std.proofs.Common.{Bool, List, Option, ap, ap₂, drop, false, length, refl, true, ℕ, ◌++◌, ◌<◌, ◌∙◌, ◌∷◌, ◌≡◌}
use Rattle.std.specs.Prelude.{None}
use Rattle.granit_base.specs.Place.{Mark}
use Rattle.granit_base.specs.declared.style.StructureStyle.TheVariants.{Flow}
use Rattle.granit_canonical_steps.proofs.Calm.{Calm, Fine, fine_as}
use Rattle.granit_canonical_steps.proofs.Nodes.{closer_starts, end_of_source, opener_starts, properties_read}
use Rattle.granit_canonical_steps.proofs.Passing.{IsPlain, Passage, node_is_told, passage_none, passage_one}
use Rattle.granit_canonical_steps.proofs.Passing.{passage_then}
use Rattle.granit_canonical_steps.proofs.Passing.{place_in, plain_fits, shown_told}
use Rattle.granit_canonical_steps.proofs.Places.{Before, Parts, Starts}
use Rattle.granit_canonical_steps.proofs.Signs.{closes_bracket, opens_bracket}
use Rattle.granit_canonical_steps.proofs.Spelling.{CanStand}
use Rattle.granit_canonical_steps.proofs.Taking.{reads_one}
use Rattle.granit_canonical_steps.specs.Canonical.{Anchors, node_before, past_anchor, spot, stretch}
use Rattle.granit_error.specs.OptionsData.{OptionsData}
use Rattle.granit_language.specs.Node.{FlowLast, FlowLead, NoItem, NoLast, Node, TreeProperties}
use Rattle.granit_language.specs.Placed.{FlowPlaced, LastPlaced, Placed}
use Rattle.granit_language.specs.Room.{Room, room_behind}
use Rattle.granit_language.specs.Telling.{event_told, events_told, node_told}
use Rattle.granit_language.specs.Terminal.{At, Close, Open, Part, Terminal, terminal}
use Rattle.granit_language.specs.TreeEvents.{TreeEvent, flow_end, flow_events, flow_start, last_events, node_end}
use Rattle.granit_language.specs.TreeEvents.{node_events}
use Rattle.granit_language.specs.Within.{flow_within, last_within, node_within}
use Rattle.granit_language.specs.Yield.{spell, spell_flow, spell_last, spell_properties}
use Rattle.granit_lexemes.specs.Lexeme.{closer_char, opener_char}
use Rattle.granit_lexemes.specs.PlainEvent.{PlainEvent, PlainTag, event_at}
use Rattle.granit_lexemes.specs.declared.layout.Bracket.{Bracket}
use Rattle.granit_lexemes.specs.declared.layout.Bracket.TheVariants.{Curly, Square}
use Rattle.granit_machine.specs.Laid.{is_opener}
use Rattle.granit_machine.specs.LexemeSort.{CloseSign, OpenSign}
use Rattle.granit_machine.specs.ReaderState.{ReaderState}
use Rattle.granit_model.specs.FlowText.{properties_text}
use Rattle.granit_model.specs.Tree.{Properties}

abbrev pub opening : Bracket → ℕ → Option PlainTag → plain.EventKind
opening Square = plain.SequenceStart Flow
opening Curly = plain.MappingStart Flow

abbrev pub ending : Bracket → plain.EventKind
ending Square = plain.SequenceEnd
ending Curly = plain.MappingEnd

start_told : (o : OptionsData) (b : Bracket) (q : TreeProperties) (i : At) (es : List PlainEvent)
    → event_told o (flow_start q b i None) ++ es ≡ node_told o q (opening b) i.shown.start i.shown.end None ++ es
start_told o Square q i es = refl
start_told o Curly q i es = refl

end_told : (o : OptionsData) (b : Bracket) (e : At) (from to : Mark) (es : List PlainEvent) → e.start ≡ from
    → e.shown.end ≡ to → event_told o (flow_end b e) ++ es
    ≡ event_at (ending b) (record { start = from; end = to }) ∷ es
end_told o Square e from to es p q =
    ap₂ (λ (m n : Mark). event_at plain.SequenceEnd (record { start = m; end = n }) ∷ es) p q
end_told o Curly e from to es p q =
    ap₂ (λ (m n : Mark). event_at plain.MappingEnd (record { start = m; end = n }) ∷ es) p q

-- what is read between brackets
pub record Contents (o : OptionsData) (x : List ℕ) (b : Bracket) (bs : List Bracket) (closing : List ℕ)
    (s : ReaderState)
    (a c : Anchors) (tell : List PlainEvent → List PlainEvent) : Type 0 where
  pub after : ReaderState
  pub lead : FlowLead
  pub last : FlowLast
  pub passage : Passage o s a c (λ more. spell_flow lead (spell_last last more)) after
  pub before : Before x closing after.here
  pub calm : Calm (b ∷ bs) after.laid
  pub placed : FlowPlaced lead b
  pub placed_last : (y : Terminal) → LastPlaced last b y
  pub within : (n d : ℕ) (v : Bool) → last_within n last d (flow_within n lead d v) ≡ v
  pub told : (e : At) (more : List TreeEvent)
      → events_told o (flow_events lead b (last_events last b e more)) ≡ tell (events_told o more)

-- a flow collection that is read
pub record FlowRead (o : OptionsData) (x : List ℕ) (b : Bracket) (bs : List Bracket) (inside to rest : List ℕ)
    (s : ReaderState) (p : Properties) (a c : Anchors) (tell : List PlainEvent → List PlainEvent) : Type 0 where
  pub after : ReaderState
  pub node : Node
  pub passage : Passage o s a c (spell node) after
  pub before : Before x rest after.here
  pub passed : (i : ℕ) × (drop i x ≡ to)
  pub calm : Calm bs after.laid
  pub opener : is_opener after.laid.last ≡ false
  pub placed : (room : Room) → IsPlain room → (y : Terminal) → Placed node room y
  pub within : (n d : ℕ) (v : Bool) → node_within n node d v ≡ v
  pub told : (more : List TreeEvent)
      → events_told o (node_events node None more)
      ≡ node_before o x a p (opening b) (opener_char b ∷ inside) inside
      (tell (event_at (ending b) (stretch x (closer_char b ∷ to) to) ∷ events_told o more))
  pub ends : node_end node ≡ spot x to

module _ (o : OptionsData) (x : List ℕ) where
  pub flow_read : (b : Bracket) (bs : List Bracket) (inside g rest : List ℕ) (s : ReaderState) (p : Properties)
      (a c : Anchors) (tell : List PlainEvent → List PlainEvent) → Parts g → Starts rest → Starts inside
      → length bs < o.flow_nesting_limit → CanStand p → Before x (properties_text p (opener_char b ∷ inside)) s.here
      → Calm bs s.laid → Fine bs s.laid.last
      → ((u : ReaderState) → Before x inside u.here → Calm (b ∷ bs) u.laid
      → Contents o x b bs (closer_char b ∷ (g ++ rest)) u (past_anchor p.anchor a) c tell)
      → FlowRead o x b bs inside (g ++ rest) rest s p a c tell
  flow_read b bs inside g rest s p a c tell parts st within_starts room can before calm fine contents =
      let to = g ++ rest in
      let own = opener_char b ∷ inside in
      let closing = closer_char b ∷ to in
      let m = past_anchor p.anchor a in
      let r = properties_read o x bs own s p.tag p.anchor a can.0.0 can.1.0 can.0.1 before calm fine in
      let q = reads_one o x bs (b ∷ bs) (sorts.Placed (OpenSign b)) (lexemes.Open b) own inside inside true r.after
      r.before
      r.calm (opener_starts b inside)
      (λ t h e c k. opens_bracket o x bs b inside t within_starts room h e c
      (fine_as bs r.after.laid.last t.laid.last k r.fine)) in
      let k = contents q.after q.before q.calm in
      let z = reads_one o x (b ∷ bs) bs (sorts.Placed (CloseSign b)) (lexemes.Close b) closing to rest false k.after
      k.before
      k.calm (closer_starts b to) (λ t h e c f. closes_bracket o x bs b g rest t parts st h e c) in
      let i = place_in m q.lexeme in
      let e = place_in c z.lexeme in
      let first = passage_one o (lexemes.Open b) r.after m m q.read refl refl refl in
      let second = passage_one o (lexemes.Close b) k.after c c z.read refl refl refl in
      let opened_by = λ (more : List Terminal). terminal (Part (Open b)) i ∷ more in
      let closed_by = λ (more : List Terminal). terminal (Close b) e ∷ more in
      let between = λ (more : List Terminal). spell_flow k.lead (spell_last k.last more) in
      let rear = passage_then o q.after k.after z.after m c c between closed_by k.passage second in
      let body = passage_then o r.after q.after z.after m m c opened_by (λ more. between (closed_by more)) first rear in
      record {
        after = z.after;
        node = nodes.Flow r.properties b i k.lead k.last e;
        passage = passage_then o s r.after z.after a m c (spell_properties r.properties)
            (λ more. opened_by (between (closed_by more))) r.passage body;
        before = z.before;
        passed = z.passed;
        calm = z.calm;
        opener = z.opener;
        placed = λ room h y. (
          r.placed room h,
          plain_fits (room_behind r.properties room) (r.behind room h) (Open b) m q.lexeme,
          k.placed,
          k.placed_last (terminal (Close b) e),
        );
        within = λ n d v. k.within n d v;
        told = λ more.
            ap (λ (es : List PlainEvent). event_told o (flow_start r.properties b i None) ++ es)
            (k.told e (flow_end b e ∷ more)
            ∙ ap tell (end_told o b e (spot x closing) (spot x to) (events_told o more) z.start_is
            (end_of_source x closing to z.lexeme.shown z.shown_is)))
            ∙ start_told o b r.properties i (tell (event_at (ending b) (stretch x closing to) ∷ events_told o more))
            ∙ shown_told o r.properties (opening b) q.lexeme.shown (stretch x own inside) None q.shown_is refl
            (tell (event_at (ending b) (stretch x closing to) ∷ events_told o more))
            ∙ node_is_told o x a p r.properties (opening b) own inside r.anchor_is r.tag_is
            (tell (event_at (ending b) (stretch x closing to) ∷ events_told o more));
        ends = end_of_source x closing to z.lexeme.shown z.shown_is;
      }

  -- nothing between brackets
  pub no_contents : (b : Bracket) (bs : List Bracket) (closing : List ℕ) (s : ReaderState) (a : Anchors)
      → Before x closing s.here → Calm (b ∷ bs) s.laid → Contents o x b bs closing s a a (λ es. es)
  no_contents b bs closing s a before calm = record {
    after = s;
    lead = NoItem;
    last = NoLast;
    passage = passage_none o s a;
    before = before;
    calm = calm;
    placed = tt;
    placed_last = λ y. tt;
    within = λ n d v. refl;
    told = λ e more. refl;
  }
