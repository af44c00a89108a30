-- The event of an anchor stands directly behind its node's first event.
use Rattle.std.proofs.Common.{◌≡◌, ℕ, suc, Bool, true, false, List, [], ◌∷◌, ◌++◌, refl}
use Rattle.granit_lexemes.specs.PlainEvent.{PlainEvent, EventKind, Alias, UnresolvedAlias, Anchor, Scalar}
use Rattle.granit_lexemes.specs.PlainEvent.{SequenceStart, MappingStart}
use Rattle.granit_ids.specs.Ids.{id_of}

abbrev pub is_anchor : EventKind → Bool
is_anchor (Anchor n name) = true
is_anchor kind = false

-- whether it is a node's first event
abbrev pub is_node : EventKind → Bool
is_node (Alias n) = true
is_node (UnresolvedAlias name) = true
is_node (Scalar text style anchor tag) = true
is_node (SequenceStart style anchor tag) = true
is_node (MappingStart style anchor tag) = true
is_node kind = false

-- behind a node's first event, or another
abbrev pub Follow : Bool → List PlainEvent → Type 0
Follow behind [] = Unit {0}
Follow behind (e ∷ es) = (is_anchor e.kind ≡ true → behind ≡ true) × Follow (is_node e.kind) es

pub node_no_anchor : (kind : EventKind) → is_node kind ≡ true → is_anchor kind ≡ false
node_no_anchor (Anchor n name) e = absurd (cc)
node_no_anchor kind e = refl

pub follow_anywhere : (behind : Bool) (es : List PlainEvent) → Follow false es → Follow behind es
follow_anywhere behind [] f = tt
follow_anywhere behind (e ∷ es) f = (λ a. absurd (let b = f.0 a in cc), f.1)

pub follow_append : (behind : Bool) (xs ys : List PlainEvent) → Follow behind xs → Follow false ys
    → Follow behind (xs ++ ys)
follow_append behind [] ys f g = follow_anywhere behind ys g
follow_append behind (x ∷ xs) ys f g = (f.0, follow_append (is_node x.kind) xs ys f.1 g)

pub follow_one : (e : PlainEvent) → is_anchor e.kind ≡ false → Follow false (e ∷ [])
follow_one e none = (λ a. absurd (cc), tt)

-- a node's first event, and its anchor's behind it
pub follow_node : (behind : Bool) (xs : List PlainEvent) (e a : PlainEvent) → is_node e.kind ≡ true → Follow behind xs
    → Follow behind ((xs ++ e ∷ []) ++ a ∷ [])
follow_node behind [] e a node f =
    (λ b. absurd (let n = node_no_anchor e.kind node in cc), (λ b. node, tt))
follow_node behind (x ∷ xs) e a node f = (f.0, follow_node (is_node x.kind) xs e a node f.1)

-- the number that an event gives an anchor, or one more where it is the anchor's own; 0 means neither
abbrev pub number_told : EventKind → ℕ
number_told (Anchor n name) = suc n
number_told kind = id_of kind

pub none_told : (kind : EventKind) → number_told kind ≡ 0 → (id_of kind ≡ 0) × (is_anchor kind ≡ false)
none_told (Anchor n name) e = absurd (cc)
none_told kind e = (e, refl)
