-- Worked examples: texts with how they are values.
use Rattle.std.proofs.Common.{inl, inr, refl}
use Rattle.std.specs.Prelude.{◌≡◌, ℕ, true, List, [], codes}
use Rattle.granit_base.specs.Classes.{is_digit}
use Rattle.granit_json_scalars.specs.Json.{Json, Bare, Array, Object, NoElement, AfterElements, NoMember, AfterMembers}
pub use Rattle.granit_json_scalars.specs.JsonEvents.{json_events}
use Rattle.granit_json_scalars.specs.JsonScalars.{is_json_white, is_unescaped, itself, short, slash, IsString, no_more}
use Rattle.granit_json_scalars.specs.JsonScalars.{one_more, positive, negative, fraction, no_fraction, unsigned}
use Rattle.granit_json_scalars.specs.JsonScalars.{exponent}
use Rattle.granit_json_scalars.specs.JsonScalars.{no_exponent, IsJsonNumber}
use Rattle.granit_json_scalars.specs.JsonText.{bare, no_elements, elements, no_members, members, part}
pub use Rattle.granit_json_scalars.specs.JsonText.{JsonText}
use Rattle.granit_json_scalars.specs.JsonText.{one_element, next_element, member, one_member, next_member}
use Rattle.granit_lexemes.specs.Line.{event_lines}

-- what is printed for a text
abbrev pub json_lines : (x : List ℕ) {t : Json} → JsonText x t → List ℕ
json_lines x d = event_lines (json_events x d)

-- an array with nothing but white space in it
abbrev pub empty_text : List ℕ
empty_text = codes "[ ]"

pub space_is : is_json_white 0x20 ≡ true
unfolding is_json_white
space_is = refl

pub feed_is : is_json_white 0x0A ≡ true
unfolding is_json_white
feed_is = refl

pub tab_is : is_json_white 0x09 ≡ true
unfolding is_json_white
tab_is = refl

pub k_is : is_unescaped 0x6B ≡ true
unfolding is_unescaped
k_is = refl

pub one_is : is_digit 0x31 ≡ true
unfolding is_digit
one_is = refl

pub two_is : is_digit 0x32 ≡ true
unfolding is_digit
two_is = refl

pub three_is : is_digit 0x33 ≡ true
unfolding is_digit
three_is = refl

pub five_is : is_digit 0x35 ≡ true
unfolding is_digit
five_is = refl

abbrev pub empty_is : JsonText empty_text (Array NoElement)
empty_is = part [] (codes "[ ]") [] tt refl tt (no_elements (codes " ") (space_is, tt) refl)

-- an object of two members, with an escaped name, an empty name, numbers, a name, white space and breaks
abbrev pub object_text : List ℕ
object_text = codes " {\"k\\/\" : [1, -2.5e3,\n\ttrue], \"\":{}}\n"

abbrev pub object_value : Json
object_value =
    Object (AfterMembers
    (AfterMembers NoMember (codes "k/")
    (Array (AfterElements (AfterElements (AfterElements NoElement (Bare (codes "1"))) (Bare (codes "-2.5e3")))
    (Bare (codes "true")))))
    [] (Object NoMember))

abbrev one_number : IsJsonNumber (codes "1")
one_number = record {
  sign = [];
  whole = codes "1";
  rest = [];
  power = [];
  is = refl;
  minus = positive;
  digits = (one_is, tt, λ z. refl);
  fraction = no_fraction;
  exponent = no_exponent;
}

abbrev other_number : IsJsonNumber (codes "-2.5e3")
other_number = record {
  sign = codes "-";
  whole = codes "2";
  rest = codes ".5";
  power = codes "e3";
  is = refl;
  minus = negative;
  digits = (two_is, tt, λ z. refl);
  fraction = fraction (five_is, tt);
  exponent = exponent 0x65 [] (codes "3") (inl refl) unsigned (three_is, tt);
}

abbrev slashed : IsString (codes "k\\/") (codes "k/")
slashed =
    one_more (codes "k") (itself k_is) refl (one_more (codes "\\/") (short slash) refl no_more)

abbrev pub object_is : JsonText object_text object_value
object_is =
    part (codes " ") (codes "{\"k\\/\" : [1, -2.5e3,\n\ttrue], \"\":{}}\n") (codes "\n") (space_is, tt) refl
    (feed_is, tt)
    (members (codes "\"k\\/\" : [1, -2.5e3,\n\ttrue], \"\":{}}\n") refl
    (next_member (codes " \"\":{}}\n")
    (one_member (member [] (codes "k\\/") (codes " ") (codes " [1, -2.5e3,\n\ttrue], \"\":{}}\n") tt slashed
    (space_is, tt) refl
    (part (codes " ") (codes "[1, -2.5e3,\n\ttrue], \"\":{}}\n") [] (space_is, tt) refl tt
    (elements (codes "1, -2.5e3,\n\ttrue], \"\":{}}\n") refl
    (next_element (codes "\n\ttrue], \"\":{}}\n")
    (next_element (codes " -2.5e3,\n\ttrue], \"\":{}}\n")
    (one_element (part [] (codes "1, -2.5e3,\n\ttrue], \"\":{}}\n") [] tt refl tt (bare (inl one_number) refl)))
    (part (codes " ") (codes "-2.5e3,\n\ttrue], \"\":{}}\n") [] (space_is, tt) refl tt (bare (inl other_number) refl)))
    (part (codes "\n\t") (codes "true], \"\":{}}\n") [] (feed_is, (tab_is, tt)) refl tt
    (bare (inr (inl refl)) refl)))))))
    (member (codes " ") [] [] (codes "{}}\n") (space_is, tt) no_more tt refl
    (part [] (codes "{}}\n") [] tt refl tt (no_members [] tt refl)))))
