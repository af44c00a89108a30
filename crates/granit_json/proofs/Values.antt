-- JSON values are read as nodes with their events, each where its text stands.
use Rattle.granit_lexemes.specs.Lexeme as lexemes
use Rattle.granit_machine.specs.LexemeSort as sorts
use Rattle.std.proofs.Common.{Bool, List, [], ap, arith, drop, false, length, refl, subst, suc, sym, true, zero, ℕ}
use Rattle.std.proofs.Common.{◌+◌, ◌++◌, ◌∙◌, ◌∷◌, ◌≡◌, ◌≤◌, ap₂}
use Rattle.std.specs.Prelude.{None, Some}
use Rattle.granit_base.specs.Classes.{is_printable}
use Rattle.granit_base.specs.Place.{Mark}
use Rattle.granit_base.specs.Written.{lent}
use Rattle.granit_base.specs.declared.style.ScalarStyle.TheVariants.{DoubleQuoted, Plain}
use Rattle.granit_canonical_steps.proofs.Calm.{Calm, Fine, fine_as}
use Rattle.granit_canonical_steps.proofs.Nodes.{closer_starts, comma_starts, quote_starts}
use Rattle.granit_canonical_steps.proofs.Passing.{plain_inside, plain_item}
use Rattle.granit_canonical_steps.proofs.Places.{Before}
use Rattle.granit_canonical_steps.proofs.Taking.{reads_one}
use Rattle.granit_canonical.proofs.Trees.{most_both}
use Rattle.granit_canonical_steps.specs.Canonical.{spot, stretch}
use Rattle.granit_error.specs.OptionsData.{OptionsData}
use Rattle.granit_json_scalars.proofs.Bares.{sound}
use Rattle.granit_json.proofs.Fronts.{element_front, member_front, members_front, part_front, sound_starts}
use Rattle.granit_json_scalars.proofs.Gaps.{Ends, at_sign, ends_start, whites_gap}
use Rattle.granit_json_scalars.proofs.Keys.{reads_colon, reads_name}
use Rattle.granit_json_scalars.proofs.Marks.{takes_comma}
use Rattle.granit_json.proofs.Nodes.{Front, NodeRead, flow_read, no_contents, scalar_read, scalar_told}
use Rattle.granit_json_scalars.proofs.Passing.{Passage, passage_name, passage_one, passage_then}
use Rattle.granit_json_scalars.proofs.Plains.{takes_bare}
use Rattle.granit_json_scalars.proofs.Quoted.{takes_string}
use Rattle.granit_json_scalars.specs.Json.{Elements, Json, Members, elements_depth, json_depth, members_depth}
use Rattle.granit_json_scalars.specs.JsonEvents.{element_events, first_source, member_events, members_events}
use Rattle.granit_json_scalars.specs.JsonEvents.{part_events}
use Rattle.granit_json_scalars.specs.JsonEvents.{scalar_of, string_text, value_events}
use Rattle.granit_json_scalars.specs.JsonText.{ElementNamesFit, ElementsText, MemberNamesFit, MemberText, MembersText}
use Rattle.granit_json_scalars.specs.JsonText.{NameFits}
use Rattle.granit_json_scalars.specs.JsonText.{NamesFit, PartText, ValueNamesFit, ValueText, bare, elements, member}
use Rattle.granit_json_scalars.specs.JsonText.{members}
use Rattle.granit_json_scalars.specs.JsonText.{next_element, next_member, no_elements, no_members, one_element}
use Rattle.granit_json_scalars.specs.JsonText.{one_member}
use Rattle.granit_json_scalars.specs.JsonText.{part, text}
use Rattle.granit_language.specs.Node.{AfterItem, FlowLead, Just, LastItem, NoItem, NoProperties, Node, Pair, Paired}
use Rattle.granit_language.specs.Node.{ScalarNode, SimpleKey, Single, WithColon}
use Rattle.granit_language.specs.Placed.{FlowPlaced, PairPlaced, Placed}
use Rattle.granit_language.specs.Room.{FlowIn, Inside, ItemIn}
use Rattle.granit_language.specs.Scope.{no_scope}
use Rattle.granit_language.specs.Seen.{at_of}
use Rattle.granit_language.specs.Telling.{events_told}
use Rattle.granit_language.specs.Terminal.{Colon, Comma, Part, Scalar, Terminal, terminal}
use Rattle.granit_language.specs.TreeEvents.{TreeEvent, flow_events, node_events, pair_events}
use Rattle.granit_language.specs.Within.{flow_within, node_within, pair_within}
use Rattle.granit_language.specs.Yield.{spell, spell_flow, spell_pair}
use Rattle.granit_lexemes.specs.Gap.{Each, IsGap}
use Rattle.granit_lexemes.specs.Here.{Here}
use Rattle.granit_lexemes.specs.Lexeme.{closer_char}
use Rattle.granit_lexemes.specs.PlainEvent.{PlainEvent, event_at}
use Rattle.granit_lexemes.specs.Source.{Source}
use Rattle.granit_lexemes.specs.declared.layout.Bracket.{Bracket}
use Rattle.granit_lexemes.specs.declared.layout.Bracket.TheVariants.{Curly, Square}
use Rattle.granit_machine.specs.Laid.{is_opener}
use Rattle.granit_machine.specs.ReaderState.{ReaderState}
use Rattle.granit_machine.specs.PossibleKeys.{start_of_key}
use Rattle.granit_quoted_laws.proofs.QuotedFolding.{each_behind, each_front}

each_left : (test : ℕ → Bool) (i : ℕ) (x : List ℕ) → Each test x → Each test (drop i x)
each_left test zero x e = e
each_left test (suc i) [] e = tt
each_left test (suc i) (c ∷ cs) e = each_left test i cs e.1

-- what stands between quotes is printable where the whole text is
between_prints : (x source more : List ℕ) (h : Here) → Each is_printable x → Before x (0x22 ∷ (source ++ more)) h
    → Each is_printable source
between_prints x source more h p b =
    let left : Each is_printable (b.gap ++ 0x22 ∷ (source ++ more)) =
    subst (Each is_printable) (sym b.held.counted.text ∙ b.text) (each_left is_printable b.held.index x p) in
    each_front is_printable source more (each_behind is_printable b.gap (0x22 ∷ (source ++ more)) left).1

-- where a value in white space begins and ends
abbrev pub part_source : (x : List ℕ) {t : Json} {from to : List ℕ} → PartText t from to → Source
part_source x (part before value after w e v d) = first_source x d

abbrev pub part_end : (x : List ℕ) {t : Json} {from to : List ℕ} → PartText t from to → Mark
part_end x (part {to = to} before value after w e v d) = spot x (after ++ to)

-- elements that are read, the last one apart
pub record SomeElements (o : OptionsData) (x : List ℕ) (bs : List Bracket) (closing : List ℕ) (s : ReaderState)
    (tell : List PlainEvent → List PlainEvent) : Type 0 where
  pub after : ReaderState
  pub lead : FlowLead
  pub node : Node
  pub passage : Passage o s (λ more. spell_flow lead (spell node more)) after
  pub before : Before x closing after.here
  pub calm : Calm (Square ∷ bs) after.laid
  pub placed : FlowPlaced lead Square
  pub placed_node : (y : Terminal) → Placed node ItemIn y
  pub within : (n d : ℕ) (v : Bool) → node_within n node d (flow_within n lead d v) ≡ v
  pub told : (more : List TreeEvent)
      → events_told o (flow_events lead Square (node_events node None more)) ≡ tell (events_told o more)

-- a member that is read
pub record MemberRead (o : OptionsData) (x : List ℕ) (bs : List Bracket) (closing : List ℕ) (s : ReaderState)
    (tell : List PlainEvent → List PlainEvent) : Type 0 where
  pub after : ReaderState
  pub pair : Pair
  pub passage : Passage o s (spell_pair pair) after
  pub before : Before x closing after.here
  pub calm : Calm (Curly ∷ bs) after.laid
  pub placed : (y : Terminal) → PairPlaced pair (FlowIn Curly) y
  pub within : (n d : ℕ) (b : Bool) → pair_within n pair d b ≡ b
  pub told : (e : Mark) (more : List TreeEvent)
      → events_told o (pair_events pair (FlowIn Curly) e more) ≡ tell (events_told o more)

-- members that are read, the last one apart
pub record SomeMembers (o : OptionsData) (x : List ℕ) (bs : List Bracket) (closing : List ℕ) (s : ReaderState)
    (tell : List PlainEvent → List PlainEvent) : Type 0 where
  pub after : ReaderState
  pub lead : FlowLead
  pub pair : Pair
  pub passage : Passage o s (λ more. spell_flow lead (spell_pair pair more)) after
  pub before : Before x closing after.here
  pub calm : Calm (Curly ∷ bs) after.laid
  pub placed : FlowPlaced lead Curly
  pub placed_pair : (y : Terminal) → PairPlaced pair (FlowIn Curly) y
  pub within : (n d : ℕ) (v : Bool) → pair_within n pair d (flow_within n lead d v) ≡ v
  pub told : (e : Mark) (more : List TreeEvent)
      → events_told o (flow_events lead Curly (pair_events pair (FlowIn Curly) e more)) ≡ tell (events_told o more)

comma_ends : (b : Bracket) (bs : List Bracket) (rest : List ℕ) → Ends (b ∷ bs) (0x2C ∷ rest)
comma_ends b bs rest = at_sign refl refl

square_ends : (b : Bracket) (bs : List Bracket) (rest : List ℕ) → Ends (b ∷ bs) (0x5D ∷ rest)
square_ends b bs rest = at_sign refl refl

curly_ends : (b : Bracket) (bs : List Bracket) (rest : List ℕ) → Ends (b ∷ bs) (0x7D ∷ rest)
curly_ends b bs rest = at_sign refl refl

-- the gap in front of a closer alone
abbrev lone_front : (b : Bracket) (white to : List ℕ) → IsGap white → Front (white ++ closer_char b ∷ to)
lone_front b white to i =
    record { white = white; start = closer_char b ∷ to; is = refl; gap = i; starts = closer_starts b to }

-- the gap behind a value
abbrev rear_front : {bs : List Bracket} {to : List ℕ} (g rest : List ℕ) → to ≡ g ++ rest → IsGap g → Ends bs rest
    → Front to
rear_front g rest is i ends =
    record { white = g; start = rest; is = is; gap = i; starts = ends_start ends }

module _ (o : OptionsData) (x : List ℕ) (prints : Each is_printable x) where
  mutual
    pub value_read : {t : Json} {from to : List ℕ} (d : ValueText t from to) (bs : List Bracket) (g rest : List ℕ)
        (s : ReaderState) → IsGap g → to ≡ g ++ rest → Ends bs rest → json_depth t + length bs ≤ o.flow_nesting_limit
        → ValueNamesFit o.simple_key_max_lookahead d → Before x from s.here → Calm bs s.laid → Fine bs s.laid.last
        → NodeRead o x bs rest s (value_events x d) (first_source x d) (spot x to)
    value_read (text {characters = chars} {from = from} {to = to} source is e) bs g rest s i w ends deep fit before calm
        fine =
        let own = 0x22 ∷ (source ++ 0x22 ∷ (g ++ rest)) in
        let same : from ≡ own = e ∙ ap (λ (l : List ℕ). 0x22 ∷ (source ++ 0x22 ∷ l)) w in
        let here = subst (λ (l : List ℕ). Before x l s.here) same before in
        let inside = between_prints x source (0x22 ∷ (g ++ rest)) s.here prints here in
        let r = reads_one o x bs bs (sorts.Placed (sorts.QuoteSign false))
        (lexemes.Scalar DoubleQuoted (string_text source chars)) own (g ++ rest) rest false s here calm
        (quote_starts (source ++ 0x22 ∷ (g ++ rest)))
        (λ t h e c q. takes_string o x bs source chars g rest t is inside i ends h e c
        (fine_as bs s.laid.last t.laid.last q fine)) in
        scalar_read o x DoubleQuoted (string_text source chars) bs own (g ++ rest) rest s (stretch x from to) r
        (ap₂ (stretch x) (sym same) (sym w))
    value_read (bare {characters = chars} {from = from} {to = to} b e) bs g rest s i w ends deep fit before calm fine =
        let own = chars ++ (g ++ rest) in
        let same : from ≡ own = e ∙ ap (λ (l : List ℕ). chars ++ l) w in
        let here = subst (λ (l : List ℕ). Before x l s.here) same before in
        let r = reads_one o x bs bs (sorts.Placed sorts.PlainSign) (lexemes.Scalar Plain (lent chars)) own
        (g ++ rest) rest false s here calm (sound_starts chars (g ++ rest) (sound chars b))
        (λ t h e c q. takes_bare o x bs chars g rest t (sound chars b) i ends h e c
        (fine_as bs s.laid.last t.laid.last q fine)) in
        scalar_read o x Plain (lent chars) bs own (g ++ rest) rest s (stretch x from to) r
        (ap₂ (stretch x) (sym same) (sym w))
    value_read (no_elements {from = from} {to = to} white is e) bs g rest s i w ends deep fit before calm fine =
        flow_read o x Square bs from (white ++ 0x5D ∷ to) to (lone_front Square white to (whites_gap white is))
        (rear_front g rest w i ends) s (λ es. es) e (omega (arith, deep)) before calm fine
        (λ u b c v. no_contents o x Square bs (0x5D ∷ to) u b c)
    value_read (elements {es = es} {from = from} {to = to} inside e d) bs g rest s i w ends deep fit before calm fine =
        flow_read o x Square bs from inside to (element_front d) (rear_front g rest w i ends) s (element_events x d) e
        (omega (arith, deep)) before calm fine
        (λ u b c v.
        let k = elements_read d bs u (square_ends Square bs to) (omega (arith, deep)) fit b c in
        record {
          after = k.after;
          lead = k.lead;
          last = LastItem (Single k.node);
          passage = k.passage;
          before = k.before;
          calm = k.calm;
          placed = k.placed;
          placed_last = k.placed_node;
          within = k.within;
          told = λ i more. k.told more;
        })
    value_read (no_members {from = from} {to = to} white is e) bs g rest s i w ends deep fit before calm fine =
        flow_read o x Curly bs from (white ++ 0x7D ∷ to) to (lone_front Curly white to (whites_gap white is))
        (rear_front g rest w i ends) s (λ es. es) e (omega (arith, deep)) before calm fine
        (λ u b c v. no_contents o x Curly bs (0x7D ∷ to) u b c)
    value_read (members {ms = ms} {from = from} {to = to} inside e d) bs g rest s i w ends deep fit before calm fine =
        flow_read o x Curly bs from inside to (members_front d) (rear_front g rest w i ends) s (members_events x d) e
        (omega (arith, deep)) before calm fine
        (λ u b c v.
        let k = members_read d bs u (curly_ends Curly bs to) (omega (arith, deep)) fit b c v in
        record {
          after = k.after;
          lead = k.lead;
          last = LastItem (Paired k.pair);
          passage = k.passage;
          before = k.before;
          calm = k.calm;
          placed = k.placed;
          placed_last = k.placed_pair;
          within = k.within;
          told = λ i more. k.told i.start more;
        })

    pub part_read : {t : Json} {from to : List ℕ} (d : PartText t from to) (bs : List Bracket) (s : ReaderState)
        → Ends bs to → json_depth t + length bs ≤ o.flow_nesting_limit → NamesFit o.simple_key_max_lookahead d
        → Before x (part_front d).start s.here → Calm bs s.laid → Fine bs s.laid.last
        → NodeRead o x bs to s (part_events x d) (part_source x d) (part_end x d)
    part_read (part {to = to} before value after w e v d) bs s ends deep fit b calm fine =
        value_read d bs after to s (whites_gap after v) refl ends deep fit b calm fine

    pub elements_read : {es : Elements} {from to : List ℕ} (d : ElementsText es from to) (bs : List Bracket)
        (s : ReaderState) → Ends (Square ∷ bs) to → elements_depth es + suc (length bs) ≤ o.flow_nesting_limit
        → ElementNamesFit o.simple_key_max_lookahead d → Before x (element_front d).start s.here
        → Calm (Square ∷ bs) s.laid → SomeElements o x bs to s (element_events x d)
    elements_read (one_element {t = t} p) bs s ends deep fit before calm =
        let n = part_read p (Square ∷ bs) s ends
        (most_both 0 (json_depth t) (suc (length bs)) o.flow_nesting_limit deep).1
        fit before calm tt in
        record {
          after = n.after;
          lead = NoItem;
          node = n.node;
          passage = n.passage;
          before = n.before;
          calm = n.calm;
          placed = tt;
          placed_node = λ y. n.placed ItemIn plain_item y;
          within = n.within;
          told = n.told;
        }
    elements_read (next_element {es = es} {t = t} middle d p) bs s ends deep fit before calm =
        let both = most_both (elements_depth es) (json_depth t) (suc (length bs)) o.flow_nesting_limit deep in
        let r = elements_read d bs s (comma_ends Square bs middle) both.0 fit.0 before calm in
        let f = part_front p in
        let here = subst (λ (l : List ℕ). Before x (0x2C ∷ l) r.after.here) f.is r.before in
        let q = reads_one o x (Square ∷ bs) (Square ∷ bs) (sorts.Placed sorts.CommaSign) lexemes.Comma
        (0x2C ∷ (f.white ++ f.start)) (f.white ++ f.start) f.start true r.after here r.calm
        (comma_starts (f.white ++ f.start))
        (λ t h e c k. takes_comma o x bs Square f.white f.start t f.gap f.starts h e c) in
        let n = part_read p (Square ∷ bs) q.after ends both.1 fit.1 q.before q.calm tt in
        let i = at_of false no_scope q.lexeme in
        let second = passage_one o lexemes.Comma r.after q.read refl refl refl in
        let parted = λ (more : List Terminal). terminal Comma i ∷ more in
        let rear = passage_then o r.after q.after n.after parted (spell n.node) second n.passage in
        record {
          after = n.after;
          lead = AfterItem r.lead (Single r.node) i;
          node = n.node;
          passage = passage_then o s r.after n.after (λ more. spell_flow r.lead (spell r.node more))
              (λ more. parted (spell n.node more)) r.passage rear;
          before = n.before;
          calm = n.calm;
          placed = (r.placed, r.placed_node (terminal Comma i));
          placed_node = λ y. n.placed ItemIn plain_item y;
          within = λ m k v. n.within m k (node_within m r.node k (flow_within m r.lead k v)) ∙ r.within m k v;
          told = λ more. r.told (node_events n.node None more) ∙ ap (element_events x d) (n.told more);
        }

    pub member_read : {name : List ℕ} {t : Json} {from to : List ℕ} (d : MemberText name t from to) (bs : List Bracket)
        (s : ReaderState) → Ends (Curly ∷ bs) to → json_depth t + suc (length bs) ≤ o.flow_nesting_limit
        → NameFits o.simple_key_max_lookahead d → Before x (member_front d).start s.here → Calm (Curly ∷ bs) s.laid
        → is_opener s.laid.last ≡ true → MemberRead o x bs to s (member_events x d)
    member_read (member {name = name} before source between value w is b e p) bs s ends deep fit here calm opener =
        let behind = between ++ 0x3A ∷ value in
        let written = string_text source name in
        let own = 0x22 ∷ (source ++ 0x22 ∷ behind) in
        let inside = between_prints x source (0x22 ∷ behind) s.here prints here in
        let r = reads_name o x bs source name between value s is inside (whites_gap between b) fit.0 here calm opener in
        let f = part_front p in
        let q = reads_colon o x bs r.key f.white f.start r.after f.gap f.starts r.held
        (r.left ∙ ap (λ (l : List ℕ). 0x3A ∷ l) f.is) r.named r.low r.fresh r.last in
        let n = part_read p (Curly ∷ bs) q.after ends deep fit.1 q.before q.calm q.opener in
        let i = at_of true no_scope r.lexeme in
        let j = at_of false no_scope q.lexeme in
        let first = passage_name o written (start_of_key r.key) s r.read q.read (sym r.number_is) in
        let head = λ (more : List Terminal). terminal (Part (Scalar DoubleQuoted written)) i
        ∷ terminal (Colon (Some r.key.number)) j ∷ more in
        record {
          after = n.after;
          pair = WithColon (SimpleKey (terminal (Part (Scalar DoubleQuoted written)) i)
              (ScalarNode NoProperties DoubleQuoted written i) r.key.number) j (Just n.node);
          passage = passage_then o s q.after n.after head (spell n.node) first n.passage;
          before = n.before;
          calm = n.calm;
          placed = λ y. ((refl, (tt, refl)), n.placed Inside plain_inside y);
          within = λ m k v. n.within m k v;
          told = λ i more.
              scalar_told o DoubleQuoted written true r.lexeme (stretch x own behind) r.shown_is r.indent_is
              (events_told o (node_events n.node None more))
              ∙ ap (λ (es : List PlainEvent). event_at (scalar_of DoubleQuoted written) (stretch x own behind) ∷ es)
              (n.told more);
        }

    pub members_read : {ms : Members} {from to : List ℕ} (d : MembersText ms from to) (bs : List Bracket)
        (s : ReaderState) → Ends (Curly ∷ bs) to → members_depth ms + suc (length bs) ≤ o.flow_nesting_limit
        → MemberNamesFit o.simple_key_max_lookahead d → Before x (members_front d).start s.here
        → Calm (Curly ∷ bs) s.laid → is_opener s.laid.last ≡ true → SomeMembers o x bs to s (members_events x d)
    members_read (one_member {t = t} m) bs s ends deep fit before calm opener =
        let n = member_read m bs s ends (most_both 0 (json_depth t) (suc (length bs))
        o.flow_nesting_limit deep).1 fit before
        calm opener in
        record {
          after = n.after;
          lead = NoItem;
          pair = n.pair;
          passage = n.passage;
          before = n.before;
          calm = n.calm;
          placed = tt;
          placed_pair = n.placed;
          within = n.within;
          told = n.told;
        }
    members_read (next_member {ms = ms} {t = t} middle d m) bs s ends deep fit before calm opener =
        let both = most_both (members_depth ms) (json_depth t) (suc (length bs)) o.flow_nesting_limit deep in
        let r = members_read d bs s (comma_ends Curly bs middle) both.0 fit.0 before calm opener in
        let f = member_front m in
        let here = subst (λ (l : List ℕ). Before x (0x2C ∷ l) r.after.here) f.is r.before in
        let q = reads_one o x (Curly ∷ bs) (Curly ∷ bs) (sorts.Placed sorts.CommaSign) lexemes.Comma
        (0x2C ∷ (f.white ++ f.start)) (f.white ++ f.start) f.start true r.after here r.calm
        (comma_starts (f.white ++ f.start))
        (λ t h e c k. takes_comma o x bs Curly f.white f.start t f.gap f.starts h e c) in
        let n = member_read m bs q.after ends both.1 fit.1 q.before q.calm q.opener in
        let i = at_of false no_scope q.lexeme in
        let second = passage_one o lexemes.Comma r.after q.read refl refl refl in
        let parted = λ (more : List Terminal). terminal Comma i ∷ more in
        let rear = passage_then o r.after q.after n.after parted (spell_pair n.pair) second n.passage in
        record {
          after = n.after;
          lead = AfterItem r.lead (Paired r.pair) i;
          pair = n.pair;
          passage = passage_then o s r.after n.after (λ more. spell_flow r.lead (spell_pair r.pair more))
              (λ more. parted (spell_pair n.pair more)) r.passage rear;
          before = n.before;
          calm = n.calm;
          placed = (r.placed, r.placed_pair (terminal Comma i));
          placed_pair = n.placed;
          within = λ m k v. n.within m k (pair_within m r.pair k (flow_within m r.lead k v)) ∙ r.within m k v;
          told = λ e more. r.told i.start (pair_events n.pair (FlowIn Curly) e more)
              ∙ ap (members_events x d) (n.told e more);
        }
