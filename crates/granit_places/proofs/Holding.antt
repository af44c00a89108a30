-- The keys that are held possible, and what a lexeme makes of them.
use Rattle.std.proofs.Common.{◌≡◌, ℕ, ◌||◌, Bool, true, false, List, [], ◌∷◌, drop, map, Option, Some, None, refl, sym}
use Rattle.std.proofs.Common.{ap, ◌∙◌, subst}
use Rattle.std.specs.Prelude.{if◌then◌else◌}
use Rattle.granit_base.specs.Place.{Mark}
use Rattle.granit_error.specs.OptionsData.{OptionsData}
use Rattle.granit_lexemes.specs.Here.{Here, mark_of}
use Rattle.granit_lexemes.specs.LayoutData.{is_left}
use Rattle.granit_machine.specs.Laid.{Laid, is_in_flow, block_column}
use Rattle.granit_lexemes.specs.declared.layout.PossibleKey.{PossibleKey}
use Rattle.granit_lexemes.specs.declared.layout.OpenBracket.{OpenBracket}
use Rattle.granit_machine.specs.PossibleKeys.{key_in, top_key, outer_key, keyed_brackets, with_top_key, forgets_key}
use Rattle.granit_machine.specs.PossibleKeys.{is_stale, fresh_key, fresh_bracket, fresh, is_allowed, new_key}
use Rattle.granit_machine.specs.PossibleKeys.{key_goes_on, node_key}
use Rattle.granit_machine.specs.Reader.{noded}
use Rattle.granit_language.specs.Fitting.{outer_keys}
use Rattle.granit_places.proofs.Choosing.{Held, top_of, Within, within_self}

abbrev pub key_number : Option PossibleKey → Option ℕ
key_number None = None
key_number (Some k) = Some k.number

abbrev pub held_in : List OpenBracket → Option PossibleKey → Held
held_in [] key = key_number key ∷ []
held_in (b ∷ bs) key = key_number b.key ∷ held_in bs key

abbrev pub held : Laid → Held
held l = held_in l.brackets l.key

full_in : (bs : List OpenBracket) (key : Option PossibleKey)
    → held_in bs key ≡ top_of (held_in bs key) ∷ outer_keys (held_in bs key)
full_in [] key = refl
full_in (b ∷ bs) key = refl

pub full : (l : Laid) → held l ≡ top_of (held l) ∷ outer_keys (held l)
full l = full_in l.brackets l.key

top_in : (bs : List OpenBracket) (key : Option PossibleKey) → key_number (key_in bs key) ≡ top_of (held_in bs key)
top_in [] key = refl
top_in (b ∷ bs) key = refl

pub top_held : (l : Laid) → key_number (top_key l) ≡ top_of (held l)
top_held l = top_in l.brackets l.key

with_key : (bs : List OpenBracket) (key old : Option PossibleKey)
    → held_in (keyed_brackets key bs) (outer_key bs key old) ≡ key_number key ∷ outer_keys (held_in bs old)
with_key [] key old = refl
with_key (b ∷ bs) key old = refl

pub with_top : (key : Option PossibleKey) (l : Laid) → held (with_top_key key l) ≡ key_number key ∷ outer_keys (held l)
with_top key l = with_key l.brackets key l.key

-- ---- the run that a lexeme of a node begins or goes on with

goes_number : (property low : Bool) (key : Option PossibleKey)
    → key_number (key_goes_on property low key) ≡ key_number key
goes_number property low None = refl
goes_number property low (Some k) = on k.is_head
  where
    on : (b : Bool) → key_number (if b then Some (record k { is_low = k.is_low || low; is_head = property }) else Some
        k) ≡ Some k.number
    on true = refl
    on false = refl

abbrev pub Noted : Bool → ℕ → Held → Held → Type 0
Noted true n hs gs = gs ≡ Some n ∷ outer_keys hs
Noted false n hs gs = gs ≡ hs

noted_on : (property : Bool) (m : Mark) (l : Laid) (v : Bool)
    → Noted v l.number (held l) (held (with_top_key
    (if v then Some (new_key property m l) else key_goes_on property (is_left (block_column l) m.place.column)
    (top_key l)) l))
noted_on property m l true = with_top (Some (new_key property m l)) l
noted_on property m l false =
    with_top (key_goes_on property (is_left (block_column l) m.place.column) (top_key l)) l
    ∙ ap (λ (k : Option ℕ). k ∷ outer_keys (held l))
    (goes_number property (is_left (block_column l) m.place.column) (top_key l) ∙ top_held l) ∙ sym (full l)

pub node_noted : (property : Bool) (h : Here) (l : Laid)
    → Noted (is_allowed h.begins_line h.tab l) l.number (held l) (held (noded property h l))
unfolding node_key
node_noted property h l = noted_on property (mark_of h) l (is_allowed h.begins_line h.tab l)

-- ---- freshening

fresher : (b : Bool) (k : PossibleKey) (hs gs : Held) → Within hs gs
    → Within (key_number (if b then None else Some k) ∷ hs) (Some k.number ∷ gs)
fresher true k hs gs p = p
fresher false k hs gs p = (refl, p)

fresh_one : (o : OptionsData) (in_flow : Bool) (m : Mark) (key : Option PossibleKey) (hs gs : Held) → Within hs gs
    → Within (key_number (fresh_key o in_flow m key) ∷ hs) (key_number key ∷ gs)
fresh_one o in_flow m None hs gs p = p
fresh_one o in_flow m (Some k) hs gs p = fresher (is_stale o in_flow m k) k hs gs p

fresh_in : (o : OptionsData) (m : Mark) (in_flow : Bool) (bs : List OpenBracket) (key : Option PossibleKey)
    → Within (held_in (map (fresh_bracket o m) bs) (fresh_key o in_flow m key)) (held_in bs key)
fresh_in o m in_flow [] key = fresh_one o in_flow m key [] [] tt
fresh_in o m in_flow (b ∷ bs) key = fresh_one o true m b.key _ _ (fresh_in o m in_flow bs key)

pub fresh-within : (o : OptionsData) (m : Mark) (l : Laid) → Within (held (fresh o m l)) (held l)
fresh-within o m l = fresh_in o m (is_in_flow l) l.brackets l.key

-- ---- what lexemes leave

within_none : (h : Option ℕ) (hs gs : Held) → gs ≡ h ∷ hs → Within (None ∷ hs) gs
within_none h hs gs e = subst (Within (None ∷ hs)) (sym e) (within_self hs)

pub forgets-held : (l : Laid) → held (forgets_key l) ≡ None ∷ outer_keys (held l)
forgets-held l = with_top None l

pub forgets-within : (l : Laid) → Within (held (forgets_key l)) (held l)
forgets-within l = subst (λ hs. Within hs (held l)) (sym (forgets-held l))
    (within_none (top_of (held l)) (outer_keys (held l)) (held l) (full l))

pub shut_in : (bs : List OpenBracket) (key : Option PossibleKey) (b : OpenBracket) (cs : List OpenBracket) → bs ≡ b ∷ cs
    → held_in (drop 1 bs) key ≡ outer_keys (held_in bs key)
shut_in bs key b cs e = ap (λ (bs : List OpenBracket). held_in (drop 1 bs) key) e
    ∙ sym (ap (λ (bs : List OpenBracket). outer_keys (held_in bs key)) e)
