-- Parsers on a stack.
use Rattle.std.proofs.Common.{◌≡◌, ◌∙◌, ℕ, ◌+◌, ◌<◌, List, [], ◌∷◌, ◌++◌, length, drop, get_or, Option, Some, None}
use Rattle.std.proofs.Common.{refl, sym}
use Rattle.std.proofs.Common.{ap, subst, Bool, true, false, ◌==◌, inl, inr, Result, rules, tests}
use Rattle.std.proofs.Common.{Err, if◌then◌else◌}
use Rattle.std.proofs.lemmas.List.{at_drop_more}
use Rattle.std.specs.Prelude.{is_some}
use Rattle.granit_base.specs.Counts.{last_count}
use Rattle.granit_base.specs.Written.{Written}
use Rattle.granit_base.specs.declared.place.Span.{Span}
use Rattle.granit_error.specs.FaultKind.{NoMemory}
use Rattle.granit_error.specs.Refused.{Refused}
use Rattle.granit_event.specs.declared.event.Event.{Event}
use Rattle.granit_event.specs.Events.{event_kind}
use Rattle.granit_layers.specs.Stacking.{Answer, ComesNext, ComesOf, IsNamed, IsPlaced, LiesBelow, PeeksAs, Pushes}
use Rattle.granit_layers.specs.Stacking.{Stack, StackReads, TurnsLayer, TurnsOnce, Withheld, first_given, gives_first}
use Rattle.granit_layers.specs.Stacking.{is_ending, is_none_left, layer_of, layers_of, names_of, one_more, turns_in}
use Rattle.granit_layers.specs.Turning.{Next, part_of}
use Rattle.granit_layers.specs.declared.layer.Layer.{Layer}
use Rattle.granit_layers.specs.declared.turn.Turn.{Turn}

-- ---- no parsers

-- there is none where there is no top one
pub none_lie : {S : Type 0} (top : Option (Layer S)) (below : List (Layer S)) → top ≡ None → LiesBelow top below
    → (layers_of top below ≡ []) × (below ≡ [])
none_lie None below none lies = (lies, lies)
none_lie (Some l) below none lies = absurd cc

-- the first parser is pushed as it is
pub pushes_first : {S : Type 0} (offset : S → ℕ) (sets : ℕ → S → S → Type 0) (above : S → ℕ → ℕ)
    (top : Option (Layer S)) (below : List (Layer S)) (p : S) (name : Written) (l : Layer S) → top ≡ None
    → LiesBelow top below → l ≡ layer_of p name
    → Pushes offset sets above (layers_of top below) p name (l ∷ below)
pushes_first offset sets above top below p name l none lies is =
    let e = none_lie top below none lies in (
      p,
      subst (λ (ls : List (Layer _)). IsPlaced offset sets above ls p p) (sym e.0) refl,
      ap (λ k. k ∷ below) is ∙ ap (λ ls. layer_of p name ∷ ls) (e.1 ∙ sym e.0),
    )

-- ---- names

-- the names from a parser on are those behind it, and its own
pub names_from : {S : Type 0} (ls : List (Layer S)) (i : ℕ) (l : Layer S) → i < length ls → l ≡ get_or ls i l
    → names_of (drop i ls) ≡ names_of (drop (i + 1) ls) ++ l.name ∷ []
names_from ls i l lt is =
    at_drop_more names_of ls i l lt
    ∙ ap (λ k. names_of (drop (i + 1) ls) ++ k.name ∷ []) (sym is)

-- ---- turns

none_counted : {A : Type 0} (xs : List A) → (length xs == 0) ≡ is_none_left xs
none_counted [] = refl
none_counted (x ∷ xs) = search (rules, tests)

-- a turn of the top parser: what it was, what it became, and whether no other lay below it
pub record TopTurn (S : Type 0) : Type 0 where
  pub old : Layer S
  pub turn : Turn
  pub new : Layer S
  pub is_bottom : Bool

-- how parsers go: their steps, their offsets, and how these are set
pub record ParserWays (S : Type 0) : Type 1 where
  pub steps : S → Next → S → Type 0
  pub offset : S → ℕ
  pub sets : ℕ → S → S → Type 0

-- a step of the top parser is a turn of the stack
pub turned : {S : Type 0} (w : ParserWays S) (emits_comments : Bool) (top : Option (Layer S)) (below : List (Layer S))
    (t : TopTurn S) (n : ℕ) (r : Option Answer) (new : List (Layer S)) → top ≡ Some t.old → t.is_bottom ≡ (n == 0)
    → n ≡ length below → TurnsLayer w.steps t.is_bottom emits_comments t.old t.turn t.new
    → ComesOf w.offset w.sets t.turn (t.new ∷ below) r new
    → TurnsOnce w.steps w.offset w.sets emits_comments (layers_of top below) r new
turned w emits_comments None below t n r new is bottom counted turns comes = absurd cc
turned w emits_comments (Some l) below t n r new is bottom counted turns comes =
    let same : t.old ≡ l = cc in
    let is_none : t.is_bottom ≡ is_none_left below =
    bottom ∙ (ap (λ m. m == 0) counted ∙ none_counted below) in (
      t.turn,
      t.new,
      subst (λ b. TurnsLayer w.steps b emits_comments l t.turn t.new) is_none
          (subst (λ x. TurnsLayer w.steps t.is_bottom emits_comments x t.turn t.new) same turns),
      comes,
    )

-- so many turns that give nothing
pub record WithheldTimes {S : Type 0} (steps : S → Next → S → Type 0) (offset : S → ℕ) (sets : ℕ → S → S → Type 0)
    (emits : Bool) (n : ℕ) (old new : List (Layer S)) : Type 0 where
  pub turns : Withheld steps offset sets emits old new
  pub counted : turns_in turns ≡ n

-- one more turn gives nothing
pub withheld_more : {S : Type 0} (steps : S → Next → S → Type 0) (offset : S → ℕ) (sets : ℕ → S → S → Type 0)
    (emits now : Bool) (n : ℕ) (old mid new : List (Layer S)) → now ≡ emits
    → WithheldTimes steps offset sets emits n old mid → TurnsOnce steps offset sets now mid None new
    → WithheldTimes steps offset sets emits (n + 1) old new
withheld_more steps offset sets emits now n old mid new same before turns = record {
  turns = one_more before.turns (subst (λ b. TurnsOnce steps offset sets b mid None new) same turns);
  counted = ap (λ m. m + 1) before.counted;
}

-- too many do
pub withheld_long : {S : Type 0} (steps : S → Next → S → Type 0) (offset : S → ℕ) (sets : ℕ → S → S → Type 0)
    (emits : Bool) (n : ℕ) (old new : List (Layer S)) (e : Refused) → WithheldTimes steps offset sets emits n old new
    → n ≡ last_count → e.kind ≡ NoMemory → StackReads steps offset sets emits old (Err e) new
withheld_long steps offset sets emits n old new e before all kind = inr (record {
  error = e;
  refused = refl;
  kind = kind;
  turns = before.turns;
  counted = before.counted ∙ all;
})

-- a stack with these parsers
abbrev with_layers : {S : Type 0} → Stack S → List (Layer S) → Stack S
with_layers p ls = record p { layers = ls }

-- nothing but the parsers changed
pub same_on : {S : Type 0} (p q r : Stack S) → q ≡ record p { layers = q.layers } → r ≡ record q { layers = r.layers }
    → r ≡ record p { layers = r.layers }
same_on p q r first last = last ∙ ap (λ (x : Stack _). with_layers x r.layers) first

-- ---- what comes next

pub none_there : {A : Type 0} (o : Option A) → is_some o ≡ false → o ≡ None
none_there None not = refl
none_there (Some x) not = absurd cc

module _ {S : Type 0} (steps : S → Next → S → Type 0) (offset : S → ℕ) (sets : ℕ → S → S → Type 0) (emits : Bool) where
  -- what was looked at
  pub comes_seen : (peeked : Option Answer) (end : Option (Result (Unit {0}) Refused)) (ls : List (Layer S))
      (x : Answer) → peeked ≡ Some x → ComesNext steps offset sets emits peeked end ls (Some x) ls
  comes_seen None end ls x is = absurd cc
  comes_seen (Some y) end ls x is = (sym is, refl)

  -- nothing behind the end
  pub comes_none : (peeked : Option Answer) (end : Option (Result (Unit {0}) Refused)) (ls : List (Layer S))
      → peeked ≡ None → is_some end ≡ true → ComesNext steps offset sets emits peeked end ls None ls
  comes_none None None ls unseen over = absurd cc
  comes_none None (Some e) ls unseen over = (refl, refl)
  comes_none (Some y) end ls unseen over = absurd cc

  -- else what is read
  pub comes_read : (peeked : Option Answer) (end : Option (Result (Unit {0}) Refused)) (old new : List (Layer S))
      (x : Answer) → peeked ≡ None → is_some end ≡ false → StackReads steps offset sets emits old x new
      → ComesNext steps offset sets emits peeked end old (Some x) new
  comes_read None None old new x unseen on reads = (x, refl, reads)
  comes_read None (Some e) old new x unseen on reads = absurd cc
  comes_read (Some y) end old new x unseen on reads = absurd cc

  -- a look shows what is read
  pub peeks_read : (old mid new : Stack S) (x : Answer) → old.emits_comments ≡ emits → old.peeked ≡ None
      → is_some old.end ≡ false → StackReads steps offset sets emits old.layers x mid.layers
      → mid ≡ record old { layers = mid.layers } → new ≡ record mid { peeked = Some x }
      → PeeksAs steps offset sets old new.peeked new
  peeks_read old mid new x same unseen on reads read put =
      let peeked : new.peeked ≡ Some x = ap (λ p. p.peeked) put in
      let layers : new.layers ≡ mid.layers = ap (λ p. p.layers) put in
      record {
        gives =
            subst (λ b. ComesNext steps offset sets b old.peeked old.end old.layers new.peeked new.layers) (sym same)
            (subst (λ r. ComesNext steps offset sets emits old.peeked old.end old.layers r new.layers) (sym peeked)
            (subst (λ ls. ComesNext steps offset sets emits old.peeked old.end old.layers (Some x) ls) (sym layers)
            (comes_read old.peeked old.end old.layers mid.layers x unseen on reads)));
        peeked = refl;
        end = ap (λ p. p.end) put ∙ ap (λ p. p.end) read;
        emits_comments = ap (λ p. p.emits_comments) put ∙ ap (λ p. p.emits_comments) read;
      }

-- ---- an event that comes first

kept_if : {S : Type 0} (b : Bool) (p q : Stack S) → q.layers ≡ p.layers → (if b then p else q).layers ≡ p.layers
kept_if true p q same = refl
kept_if false p q same = same

-- the parsers are as before
pub layers_kept : {S : Type 0} (p : Stack S) (e : Event × Span) → (gives_first p e).layers ≡ p.layers
layers_kept p e =
    kept_if (is_ending p.peeked p.end) p
    (record p { peeked = first_given p.emits_comments e (part_of (event_kind e.0)) }) refl

-- ---- errors

pub counted : {A : Type 0} (xs : List A) (none : Bool) (n : ℕ) → none ≡ (n == 0) → n ≡ length xs
    → none ≡ is_none_left xs
counted xs none n is same = is ∙ (ap (λ m. m == 0) same ∙ none_counted xs)

-- a single parser's error stays as it is
pub named_alone : {S : Type 0} (top : Option (Layer S)) (below : List (Layer S)) (e : Refused) (none : Bool)
    → none ≡ is_none_left below → none ≡ true → IsNamed (layers_of top below) e e
named_alone None [] e none is alone = refl
named_alone (Some l) [] e none is alone = refl
named_alone top (k ∷ ks) e none is alone = absurd cc

module _ {S : Type 0} (e f : Refused) where
  -- an error of one of more gets their names
  pub named_among : (top : Option (Layer S)) (below : List (Layer S)) (none : Bool) (names : List Written)
      → none ≡ is_none_left below → none ≡ false → LiesBelow top below → names ≡ names_of (layers_of top below)
      → f ≡ record e { sources = names } → IsNamed (layers_of top below) e f
  named_among top [] none names is more lies all given = absurd cc
  named_among None (k ∷ ks) none names is more lies all given = absurd cc
  named_among (Some l) (k ∷ ks) none names is more lies all given =
      inl (given ∙ ap (λ ns. record e { sources = ns }) all)

  -- memory may run out for them
  pub unnamed : (top : Option (Layer S)) (below : List (Layer S)) (none : Bool)
      → none ≡ is_none_left below → none ≡ false → LiesBelow top below → f.kind ≡ NoMemory
      → IsNamed (layers_of top below) e f
  unnamed top [] none is more lies out = absurd cc
  unnamed None (k ∷ ks) none is more lies out = absurd cc
  unnamed (Some l) (k ∷ ks) none is more lies out = inr out
