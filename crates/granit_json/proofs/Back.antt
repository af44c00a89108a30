-- What is told of a JSON value leads back to it, so a text is one value at most.
use Rattle.std.proofs.Common.{List, [], ap, arith, max, refl, sym, ℕ, ◌++◌, ◌∙◌, ◌∷◌, ◌≡◌, ◌≤◌, length}
use Rattle.std.proofs.Math.Nat.{le-max_left, le-max_right}
use Rattle.std.specs.Prelude.{None}
use Rattle.granit_base.specs.Classes.{is_printable}
use Rattle.granit_base.specs.declared.style.ScalarStyle.{ScalarStyle}
use Rattle.granit_base.specs.declared.style.ScalarStyle.TheVariants.{DoubleQuoted, Plain}
use Rattle.granit_error.specs.OptionsData.{OptionsData, default_options}
use Rattle.granit_json.proofs.Laws.{json_answered}
use Rattle.granit_json.proofs.Telling.{text_told}
use Rattle.granit_json_scalars.specs.Json.{AfterElements, AfterMembers, Array, Bare, Elements, Json, Members, NoElement}
use Rattle.granit_json_scalars.specs.Json.{NoMember, Object, Text, json_depth}
use Rattle.granit_json_scalars.specs.JsonEvents.{json_events}
use Rattle.granit_json.specs.JsonKinds.{element_kinds, json_kinds, member_kinds, unlent_kinds, value_kinds}
use Rattle.granit_json_scalars.specs.JsonText.{ElementNamesFit, ElementsText, JsonText, MemberNamesFit, MemberText}
use Rattle.granit_json_scalars.specs.JsonText.{MembersText}
use Rattle.granit_json_scalars.specs.JsonText.{NameFits, NamesFit, PartText, ValueNamesFit, ValueText, bare, elements}
use Rattle.granit_json_scalars.specs.JsonText.{member}
use Rattle.granit_json_scalars.specs.JsonText.{members, next_element, next_member, no_elements, no_members, one_element}
use Rattle.granit_json_scalars.specs.JsonText.{one_member, part, text}
use Rattle.granit_lexemes.specs.Basics.{owned}
use Rattle.granit_lexemes.specs.Gap.{Each}
use Rattle.granit_lexemes.specs.PlainEvent.{DocumentEnd, EventKind, MappingEnd, MappingStart, Scalar}
use Rattle.granit_lexemes.specs.PlainEvent.{SequenceEnd, SequenceStart, StreamEnd}
use Rattle.granit_machine.specs.Machine.{run}
use Rattle.granit_canonical.proofs.Laws.{one_answer}

-- ---- back from kinds

-- what the kinds so far leave open around the next value
data Path : Type 0 where
  Outside : Path
  Done : Json → Path
  InArray : Elements → Path → Path
  InObject : Members → Path → Path
  AtName : Members → (name : List ℕ) → Path → Path

-- a value is told
abbrev push : Json → Path → Path
push t Outside = Done t
push t (Done u) = Done u
push t (InArray es p) = InArray (AfterElements es t) p
push (Text name) (InObject ms p) = AtName ms name p
push t (InObject ms p) = InObject ms p
push t (AtName ms name p) = InObject (AfterMembers ms name t) p

abbrev scalar_value : ScalarStyle → List ℕ → Json
scalar_value Plain characters = Bare characters
scalar_value style characters = Text characters

abbrev close_array : Path → Path
close_array (InArray es p) = push (Array es) p
close_array p = p

abbrev close_object : Path → Path
close_object (InObject ms p) = push (Object ms) p
close_object p = p

abbrev behind_kind : EventKind → Path → Path
behind_kind (Scalar written style anchor tag) p = push (scalar_value style written.characters) p
behind_kind (SequenceStart style anchor tag) p = InArray NoElement p
behind_kind (MappingStart style anchor tag) p = InObject NoMember p
behind_kind SequenceEnd p = close_array p
behind_kind MappingEnd p = close_object p
behind_kind kind p = p

abbrev behind_kinds : List EventKind → Path → Path
behind_kinds [] p = p
behind_kinds (k ∷ ks) p = behind_kinds ks (behind_kind k p)

mutual
  value_back : (t : Json) (more : List EventKind) (p : Path)
      → behind_kinds (value_kinds t more) p ≡ behind_kinds more (push t p)
  value_back (Text characters) more p = refl
  value_back (Bare characters) more p = refl
  value_back (Array es) more p = elements_back es (SequenceEnd ∷ more) p
  value_back (Object ms) more p = members_back ms (MappingEnd ∷ more) p

  elements_back : (es : Elements) (more : List EventKind) (p : Path)
      → behind_kinds (element_kinds es more) (InArray NoElement p) ≡ behind_kinds more (InArray es p)
  elements_back NoElement more p = refl
  elements_back (AfterElements es t) more p =
      elements_back es (value_kinds t more) p ∙ value_back t more (InArray es p)

  members_back : (ms : Members) (more : List EventKind) (p : Path)
      → behind_kinds (member_kinds ms more) (InObject NoMember p) ≡ behind_kinds more (InObject ms p)
  members_back NoMember more p = refl
  members_back (AfterMembers ms name t) more p =
      members_back ms (Scalar (owned name) DoubleQuoted 0 None ∷ value_kinds t more) p
      ∙ value_back t more (AtName ms name p)

text_back : (t : Json) → behind_kinds (json_kinds t) Outside ≡ Done t
text_back t = value_back t (DocumentEnd ∷ StreamEnd ∷ []) Outside

done_same : (t u : Json) → Done t ≡ Done u → t ≡ u
done_same t u e = cc

kinds_same : (t u : Json) → json_kinds t ≡ json_kinds u → t ≡ u
kinds_same t u e =
    done_same t u (sym (text_back t) ∙ ap (λ (ks : List EventKind). behind_kinds ks Outside) e ∙ text_back u)

-- ---- some limit fits

mutual
  value_more : (n m : ℕ) → n ≤ m → {t : Json} {from to : List ℕ} (d : ValueText t from to) → ValueNamesFit n d
      → ValueNamesFit m d
  value_more n m h (text source s e) f = tt
  value_more n m h (bare b e) f = tt
  value_more n m h (no_elements white w e) f = tt
  value_more n m h (elements inside e d) f = elements_more n m h d f
  value_more n m h (no_members white w e) f = tt
  value_more n m h (members inside e d) f = members_more n m h d f

  part_more : (n m : ℕ) → n ≤ m → {t : Json} {from to : List ℕ} (d : PartText t from to) → NamesFit n d → NamesFit m d
  part_more n m h (part before value after w e v d) f = value_more n m h d f

  elements_more : (n m : ℕ) → n ≤ m → {es : Elements} {from to : List ℕ} (d : ElementsText es from to)
      → ElementNamesFit n d → ElementNamesFit m d
  elements_more n m h (one_element p) f = part_more n m h p f
  elements_more n m h (next_element middle d p) f = (elements_more n m h d f.0, part_more n m h p f.1)

  member_more : (n m : ℕ) → n ≤ m → {name : List ℕ} {t : Json} {from to : List ℕ} (d : MemberText name t from to)
      → NameFits n d → NameFits m d
  member_more n m h (member before source between value w s b e p) f =
      (omega (arith, h, f.0), part_more n m h p f.1)

  members_more : (n m : ℕ) → n ≤ m → {ms : Members} {from to : List ℕ} (d : MembersText ms from to)
      → MemberNamesFit n d → MemberNamesFit m d
  members_more n m h (one_member d) f = member_more n m h d f
  members_more n m h (next_member middle d e) f = (members_more n m h d f.0, member_more n m h e f.1)

mutual
  value_fits : {t : Json} {from to : List ℕ} (d : ValueText t from to) → (n : ℕ) × ValueNamesFit n d
  value_fits (text source s e) = (0, tt)
  value_fits (bare b e) = (0, tt)
  value_fits (no_elements white w e) = (0, tt)
  value_fits (elements inside e d) = elements_fit d
  value_fits (no_members white w e) = (0, tt)
  value_fits (members inside e d) = members_fit d

  part_fits : {t : Json} {from to : List ℕ} (d : PartText t from to) → (n : ℕ) × NamesFit n d
  part_fits (part before value after w e v d) = value_fits d

  elements_fit : {es : Elements} {from to : List ℕ} (d : ElementsText es from to) → (n : ℕ) × ElementNamesFit n d
  elements_fit (one_element p) = part_fits p
  elements_fit (next_element middle d p) =
      let a = elements_fit d in
      let b = part_fits p in
      let m = max a.0 b.0 in
      (m, (elements_more a.0 m (le-max_left a.0 b.0) d a.1, part_more b.0 m (le-max_right a.0 b.0) p b.1))

  member_fits : {name : List ℕ} {t : Json} {from to : List ℕ} (d : MemberText name t from to)
      → (n : ℕ) × NameFits n d
  member_fits (member before source between value w s b e p) =
      let a = length (0x22 ∷ (source ++ 0x22 ∷ between)) in
      let q = part_fits p in
      let m = max a q.0 in
      (m, (le-max_left a q.0, part_more q.0 m (le-max_right a q.0) p q.1))

  members_fit : {ms : Members} {from to : List ℕ} (d : MembersText ms from to) → (n : ℕ) × MemberNamesFit n d
  members_fit (one_member d) = member_fits d
  members_fit (next_member middle d e) =
      let a = members_fit d in
      let b = member_fits e in
      let m = max a.0 b.0 in
      (m, (members_more a.0 m (le-max_left a.0 b.0) d a.1, member_more b.0 m (le-max_right a.0 b.0) e b.1))

-- ---- one value

pub one_telling : (x : List ℕ) (t u : Json) (d : JsonText x t) (e : JsonText x u) → Each is_printable x
    → json_events x d ≡ json_events x e
one_telling x t u d e prints =
    let a = part_fits d in
    let b = part_fits e in
    let n = max a.0 b.0 in
    let m = max (json_depth t) (json_depth u) in
    let o : OptionsData = record default_options { flow_nesting_limit = m; simple_key_max_lookahead = n } in
    one_answer (run o x) (json_events x d) (json_events x e)
    (json_answered o x t d prints (le-max_left (json_depth t) (json_depth u))
    (part_more a.0 n (le-max_left a.0 b.0) d a.1))
    (json_answered o x u e prints (le-max_right (json_depth t) (json_depth u))
    (part_more b.0 n (le-max_right a.0 b.0) e b.1))

pub one_value : (x : List ℕ) (t u : Json) → JsonText x t → JsonText x u → Each is_printable x → t ≡ u
one_value x t u d e prints =
    kinds_same t u (sym (text_told x t d) ∙ ap unlent_kinds (one_telling x t u d e prints) ∙ text_told x u e)
