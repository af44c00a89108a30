-- What JSON values begin with, behind the white space in front of them.
use Rattle.std.proofs.Common.{List, ap, arith, subst, sym, true, ℕ, ◌++◌, ◌∙◌, ◌∷◌, ◌≡◌}
use Rattle.std.proofs.lemmas.Bool.Decides.{nat_tests}
use Rattle.granit_base.specs.Classes.{is_blank, is_break, is_digit, is_gap}
use Rattle.granit_canonical_steps.proofs.Nodes.{opener_starts, quote_starts}
use Rattle.granit_canonical_steps.proofs.Places.{Starts}
use Rattle.granit_json_scalars.proofs.Bares.{Sound, is_bare_start, sound}
use Rattle.granit_json_scalars.proofs.Gaps.{whites_gap}
use Rattle.granit_json.proofs.Nodes.{Front}
use Rattle.granit_json_scalars.specs.Json.{Elements, Json, Members}
use Rattle.granit_json_scalars.specs.JsonText.{ElementsText, MemberText, MembersText, PartText, ValueText, bare}
use Rattle.granit_json_scalars.specs.JsonText.{elements}
use Rattle.granit_json_scalars.specs.JsonText.{member, members, next_element, next_member, no_elements, no_members}
use Rattle.granit_json_scalars.specs.JsonText.{one_element}
use Rattle.granit_json_scalars.specs.JsonText.{one_member, part, text}
use Rattle.granit_lexemes.specs.declared.layout.Bracket.TheVariants.{Curly, Square}

start_starts : (c : ℕ) (rest : List ℕ) → is_bare_start c ≡ true → Starts (c ∷ rest)
unfolding is_bare_start is_digit is_gap is_blank is_break
start_starts c rest e = record {
  no_gap = grind (arith, nat_tests);
  no_comment = grind (arith, nat_tests);
  no_mark = λ f. let g : is_bare_start 0xFEFF ≡ true = ap is_bare_start (sym f) ∙ e in cc;
}

pub sound_starts : (chars rest : List ℕ) → Sound chars → Starts (chars ++ rest)
sound_starts chars rest s =
    subst (λ (l : List ℕ). Starts (l ++ rest)) (sym s.is) (start_starts s.start (s.more ++ rest) s.starts)

pub value_starts : {t : Json} {from to : List ℕ} → ValueText t from to → Starts from
value_starts (text {to = to} source s e) = subst Starts (sym e) (quote_starts (source ++ 0x22 ∷ to))
value_starts (bare {characters = chars} {to = to} b e) = subst Starts (sym e) (sound_starts chars to (sound chars b))
value_starts (no_elements {to = to} white w e) = subst Starts (sym e) (opener_starts Square (white ++ 0x5D ∷ to))
value_starts (elements inside e es) = subst Starts (sym e) (opener_starts Square inside)
value_starts (no_members {to = to} white w e) = subst Starts (sym e) (opener_starts Curly (white ++ 0x7D ∷ to))
value_starts (members inside e ms) = subst Starts (sym e) (opener_starts Curly inside)

abbrev pub part_front : {t : Json} {from to : List ℕ} → PartText t from to → Front from
part_front (part before value after w e v d) =
    record { white = before; start = value; is = e; gap = whites_gap before w; starts = value_starts d }

abbrev pub element_front : {es : Elements} {from to : List ℕ} → ElementsText es from to → Front from
element_front (one_element p) = part_front p
element_front (next_element middle es p) = element_front es

abbrev pub member_front : {name : List ℕ} {t : Json} {from to : List ℕ} → MemberText name t from to → Front from
member_front (member before source between value w s b e p) = record {
  white = before;
  start = 0x22 ∷ (source ++ 0x22 ∷ (between ++ 0x3A ∷ value));
  is = e;
  gap = whites_gap before w;
  starts = quote_starts (source ++ 0x22 ∷ (between ++ 0x3A ∷ value));
}

abbrev pub members_front : {ms : Members} {from to : List ℕ} → MembersText ms from to → Front from
members_front (one_member m) = member_front m
members_front (next_member middle ms m) = members_front ms
