-- What the laws of the plain machine say of an answer of the code.
use Rattle.std.proofs.Common.{◌≡◌, ◌≢◌, ℕ, List, [], Option, Some, None, Result, Ok, Err, ◌⊎◌, inl, inr}
use Rattle.std.proofs.Common.{false, refl, sym, ap, subst, ◌∙◌, ◌≤◌}
use Rattle.std.specs.Prelude.{IfOk, IfErr}
use Rattle.granit_readings.proofs.ReadOnce.{any_fault_caused}
use Rattle.granit_readings.proofs.ReadOnce.{answer_reads, cause_answered, reading_answered}
use Rattle.granit_base.specs.Classes.{is_printable}
use Rattle.granit_parser.specs.Parsing.{DeclaredCause}
use Rattle.granit_parser.specs.Parsing.{DeclaredReading}
use Rattle.granit_parser.proofs.TextLemmas.{cause_declared, declared_cause}
use Rattle.granit_parser.proofs.TextLemmas.{answer_declared, declared_answer}
use Rattle.granit_block_layout.specs.Alike.{kinds_of}
use Rattle.granit_block_layout.proofs.Laws.{block_is_read}
use Rattle.granit_canonical.specs.Examples.{canonical_events}
use Rattle.granit_canonical.proofs.Laws.{canonical_is_read}
use Rattle.granit_comments.specs.TextComments.{TellsComments, ToldUnasked}
use Rattle.granit_comments.proofs.Told.{comments_told}
use Rattle.granit_comments.proofs.Unasked.{told_unasked}
use Rattle.granit_error.specs.FaultKind.{NoMemory}
use Rattle.granit_error.specs.OptionsData.{OptionsData}
use Rattle.granit_error.specs.Refused.{Refused}
use Rattle.granit_generator.specs.BlockText.{block_characters}
use Rattle.granit_input.specs.Origin.{Origin}
use Rattle.granit_invariants.specs.EventPlaces.{EventsInText}
use Rattle.granit_readings.specs.ReadAsTrees.{but_comments}
use Rattle.granit_invariants.proofs.SpanLaw.{events_in_text}
use Rattle.granit_json.specs.JsonKinds.{Json, json_depth}
use Rattle.granit_json.specs.Examples.{json_events}
use Rattle.granit_json.specs.Examples.{JsonText}
use Rattle.granit_json.specs.JsonKinds.{NamesFit}
pub use Rattle.granit_json.proofs.Laws.{json_answered}
use Rattle.granit_lexemes.specs.Gap.{Each}
use Rattle.granit_lexemes.specs.Outcome.{Fault, Fails, GivesValue}
use Rattle.granit_lexemes.specs.PlainEvent.{PlainEvent}
use Rattle.granit_machine.specs.Machine.{run}
use Rattle.granit_model.specs.Characters.{HasCharacters}
use Rattle.granit_model.specs.FlowText.{flow_characters}
use Rattle.granit_model.specs.Tree.{DocumentsFit, PlainTrees, trees_depth}
use Rattle.granit_load.specs.Answering.{GivesAllOr, IsRefusedAs}
use Rattle.granit_load.proofs.GatherLemmas.{never_failed, never_numbered}
use Rattle.granit_parser.proofs.TextLemmas.{memory_or_not}
use Rattle.granit_parser.proofs.TextLemmas.{run_none}
use Rattle.granit_readings.specs.ReadAsTrees.{TellsTrees}
use Rattle.granit_readings.proofs.ReadOnce.{answer_trees}
use Rattle.granit_parser.specs.Parsing.{Stepping}
use Rattle.granit_steps.specs.Levels.{IsStream}
use Rattle.granit_steps.specs.Steps.{steps_start}
use Rattle.granit_steps.specs.Told.{GivesEvents}
use Rattle.granit_steps.proofs.StepLaws.{steps_give}
use Rattle.granit_streams.proofs.StreamLaws.{run_is_stream}

same_fault : (f g : Fault) → ◌≡◌ {A = Result (List PlainEvent) Fault} (Err f) (Err g) → f ≡ g
same_fault f g e = cc

never_both : (es : List PlainEvent) (f : Fault) → ◌≡◌ {A = Result (List PlainEvent) Fault} (Ok es) (Err f) → ⊥
never_both es f e = cc

same_events : (es gs : List PlainEvent) → ◌≡◌ {A = Result (List PlainEvent) Fault} (Ok es) (Ok gs) → es ≡ gs
same_events es gs e = cc

module _ (o : OptionsData) (x : List ℕ) where
  -- all that is given of a text is the machine's answer
  pub answer_of : (p : OptionsData) (es : List PlainEvent) → p ≡ o → GivesEvents p (steps_start x) es None
      → run o x ≡ Ok es
  answer_of p es same g =
      steps_give o x es None (subst (λ (q : OptionsData). GivesEvents q (steps_start x) es None) same g)

  pub fault_of : (p : OptionsData) (e : Refused) → p ≡ o
      → ((e.kind ≡ NoMemory → ⊥) → (es : List PlainEvent) × GivesEvents p (steps_start x) es (Some e))
      → Fails e (run o x)
  fault_of p e same g = λ other.
      let h = g other in
      steps_give o x h.0 (Some e) (subst (λ (q : OptionsData). GivesEvents q (steps_start x) h.0 (Some e)) same h.1)

  -- where no source fails
  pub given_of : {I V : Type 0} (origin : I → Origin) (view : V → List PlainEvent) (p : OptionsData) → p ≡ o
      → (r : Result V Refused) (s : Stepping I) → s.renumbered ≡ false → GivesAllOr origin view p (steps_start x) r s
      → ((i : I) → (origin i).error ≡ None) → GivesValue view r (run o x)
  given_of origin view p same (Ok v) s never g none = answer_of p (view v) same g
  given_of origin view p same (Err e) s never g none =
      fault_of p e same (never_failed (origin s.scanner.cursor.input) s.scanner.cursor.place e
      (none s.scanner.cursor.input) (never_numbered s.renumbered never g))

module _ {V : Type 0} (view : V → List PlainEvent) (o : OptionsData) (x : List ℕ) where
  -- ---- an answer

  pub reading_of : (r : Result V Refused) → GivesValue view r (run o x) → IfOk r (λ v. DeclaredReading o x (view v))
  reading_of (Ok v) g = answer_declared o x (view v) (answer_reads o x (view v) g)
  reading_of (Err e) g = tt

  pub trees_of : (r : Result V Refused) → GivesValue view r (run o x) → IfOk r (λ v. TellsTrees o x (view v))
  trees_of (Ok v) g = answer_trees o x (view v) g
  trees_of (Err e) g = tt

  pub spans_of : (r : Result V Refused) → GivesValue view r (run o x) → IfOk r (λ v. EventsInText x (view v))
  spans_of (Ok v) g = events_in_text o x (view v) g
  spans_of (Err e) g = tt

  pub stream_of : (r : Result V Refused) → GivesValue view r (run o x) → IfOk r (λ v. IsStream (view v))
  stream_of (Ok v) g = run_is_stream o x (view v) g
  stream_of (Err e) g = tt

  pub comments_of : (r : Result V Refused) → GivesValue view r (run o x) → IfOk r (λ v. TellsComments o x (view v))
  comments_of (Ok v) g = comments_told o x (view v) g
  comments_of (Err e) g = tt

  pub uncommented_of : (r : Result V Refused) → GivesValue view r (run o x) → IfOk r (λ v. ToldUnasked o x (view v))
  uncommented_of (Ok v) g = told_unasked o x (view v) g
  uncommented_of (Err e) g = tt

  -- where there must be an answer, only want of memory stands in its place
  memory_alone : (e : Refused) (es : List PlainEvent) → (e.kind ≡ NoMemory) ⊎ (e.kind ≢ NoMemory) → Fails e (run o x)
      → run o x ≡ Ok es → e.kind ≡ NoMemory
  memory_alone e es (inl m) g a = m
  memory_alone e es (inr n) g a = absurd (never_both es e (sym a ∙ g n))

  pub answered_of : (r : Result V Refused) → GivesValue view r (run o x) → (es : List PlainEvent)
      → DeclaredReading o x es
      → IfErr r (λ e. e.kind ≡ NoMemory) × IfOk r (λ v. but_comments (view v) ≡ but_comments es)
  answered_of (Ok v) g es declared =
      let a = declared_answer o x es declared in
      let h = reading_answered o x a.items a.state a.tree_events a.are_read a.to_end a.reading a.none in
      let same : view v ≡ h.0 = same_events (view v) h.0 (sym g ∙ h.1) in
      (tt, subst (λ (gs : List PlainEvent). but_comments gs ≡ but_comments es) (sym same) (h.2 ∙ a.told))
  answered_of (Err e) g es declared =
      let a = declared_answer o x es declared in
      let h = reading_answered o x a.items a.state a.tree_events a.are_read a.to_end a.reading a.none in
      (memory_alone e h.0 (memory_or_not e.kind) g h.1, tt)

  -- a text that is answered with these events is refused for want of memory alone
  has_events : (r : Result V Refused) → GivesValue view r (run o x) → (es : List PlainEvent) → run o x ≡ Ok es
      → IfErr r (λ e. e.kind ≡ NoMemory) × IfOk r (λ v. view v ≡ es)
  has_events (Ok v) g es read = (tt, same_events (view v) es (sym g ∙ read))
  has_events (Err e) g es read = (memory_alone e es (memory_or_not e.kind) g read, tt)

  -- canonical text has the events of its trees
  pub canonical_of : (r : Result V Refused) → GivesValue view r (run o x) → (ts : PlainTrees) → DocumentsFit ts
      → HasCharacters ts → trees_depth ts ≤ o.flow_nesting_limit → x ≡ flow_characters ts
      → IfErr r (λ e. e.kind ≡ NoMemory) × IfOk r (λ v. view v ≡ canonical_events o ts)
  canonical_of r g ts fits written deep is =
      has_events r g (canonical_events o ts) (ap (run o) is ∙ canonical_is_read o ts fits written deep)

  alike : (r : Result V Refused) (es gs : List PlainEvent) → kinds_of es ≡ kinds_of gs → IfOk r (λ v. view v ≡ es)
      → IfOk r (λ v. kinds_of (view v) ≡ kinds_of gs)
  alike (Ok v) es gs e h = ap kinds_of h ∙ e
  alike (Err f) es gs e h = tt

  -- and block text the same but for styles of collections and spans
  pub block_of : (r : Result V Refused) → GivesValue view r (run o x) → (ts : PlainTrees) → DocumentsFit ts
      → HasCharacters ts → trees_depth ts ≤ o.flow_nesting_limit → trees_depth ts ≤ o.block_nesting_limit
      → x ≡ block_characters ts
      → IfErr r (λ e. e.kind ≡ NoMemory) × IfOk r (λ v. kinds_of (view v) ≡ kinds_of (canonical_events o ts))
  block_of r g ts fits written flat deep is =
      let b = block_is_read o ts fits written flat deep in
      let h = has_events r g b.events (ap (run o) is ∙ b.answered) in
      (h.0, alike r b.events (canonical_events o ts) b.alike h.1)

  -- JSON text has those of its value
  pub json_of : (r : Result V Refused) → GivesValue view r (run o x) → (t : Json) → (d : JsonText x t)
      → Each is_printable x → json_depth t ≤ o.flow_nesting_limit → NamesFit o.simple_key_max_lookahead d
      → IfErr r (λ e. e.kind ≡ NoMemory) × IfOk r (λ v. view v ≡ json_events x d)
  json_of r g t d printable deep near = has_events r g (json_events x d) (json_answered o x t d printable deep near)

  -- ---- a refusal

  caused : (e : Refused) → (e.kind ≡ NoMemory) ⊎ (e.kind ≢ NoMemory) → Fails e (run o x)
      → (e.kind ≡ NoMemory) ⊎ (DeclaredCause o x e × (e.sources ≡ []))
  caused e (inl m) g = inl m
  caused e (inr n) g = inr (cause_declared o x e (any_fault_caused o x e (g n)), run_none o x e (g n))

  pub cause_of : (r : Result V Refused) → GivesValue view r (run o x)
      → IfErr r (λ e. (e.kind ≡ NoMemory) ⊎ (DeclaredCause o x e × (e.sources ≡ [])))
  cause_of (Ok v) g = tt
  cause_of (Err e) g = caused e (memory_or_not e.kind) g

  refused_so : (e : Refused) → (e.kind ≡ NoMemory) ⊎ (e.kind ≢ NoMemory) → Fails e (run o x) → (f : Fault)
      → run o x ≡ Err f → (e.kind ≡ NoMemory) ⊎ (e ≡ f)
  refused_so e (inl m) g f is = inl m
  refused_so e (inr n) g f is = inr (same_fault e f (sym (g n) ∙ is))

  -- with the cause that the text has
  pub refused_of : (r : Result V Refused) → GivesValue view r (run o x) → (f : Fault) → DeclaredCause o x f
      → IsRefusedAs r (λ e. e ≡ f)
  refused_of (Ok v) g f c = absurd (never_both (view v) f (sym g ∙ cause_answered o x f (declared_cause o x f c)))
  refused_of (Err e) g f c =
      (tt, refused_so e (memory_or_not e.kind) g f (cause_answered o x f (declared_cause o x f c)))
