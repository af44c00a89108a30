-- What contracts see of an error: what is wrong, where, and the names of the sources that were being read; and what is
-- printed of it.
use Rattle.std.specs.Prelude.{◌≡◌, ℕ, Bool, ◌&&◌, ◌==◌, not, if◌then◌else◌, nat_lt, ◌+◌, ◌-◌, ◌^◌, min, List, [], ◌∷◌}
use Rattle.std.specs.Prelude.{◌++◌, length, codes, Result, Ok, Err, Option, None, Some}
use Rattle.std.specs.Fmt.{decimal}
use Rattle.std.specs.List.{flat_map}
use Rattle.std.specs.Str.{encode_utf8_all}
use Rattle.std.specs.Cmp.{IsEquivalence, and_equiv, on_equiv, nat_eq_equiv}
use Rattle.std.proofs.lemmas.Cmp.{lists_equiv, nat_list_eq_equiv}
use Rattle.granit_base.specs.Place.{Place, Mark, same_place}
use Rattle.granit_base.specs.Written.{Written, same_texts}
use Rattle.granit_error.specs.FaultKind.{FaultKind, InputIo, NoMemory, fault_words}
use Rattle.granit_error.specs.SameFault.{same_fault, same_fault_equiv}

pub record Refused : Type 0 where
  pub kind : FaultKind
  pub mark : Mark
  pub sources : List Written

-- no list of sources is the empty one
abbrev pub listed : Option (List Written) → List Written
listed None = []
listed (Some names) = names

-- a printed column begins at 1, and is held at the greatest number of 64 bits
abbrev pub printed_column : ℕ → ℕ
printed_column column = min (column + 1) (2 ^ 64 - 1)

-- ` at char I line L column C`
abbrev pub place_words : Place → List ℕ
place_words p = codes " at char " ++ decimal p.index ++ codes " line " ++ decimal p.line ++ codes " column "
    ++ decimal (printed_column p.column)

-- a name behind another
abbrev pub name_behind : Written → List ℕ
name_behind name = codes " -> " ++ encode_utf8_all name.characters

-- names joined by ` -> `
abbrev pub joined_names : List Written → List ℕ
joined_names [] = []
joined_names (name ∷ names) = encode_utf8_all name.characters ++ flat_map name_behind names

-- the sources are named where there is more than one and there are words to stand before them
abbrev pub names_sources : Refused → Bool
names_sources r = nat_lt 1 (length r.sources) && not (length (fault_words r.kind) == 0)

-- the kind's words and, behind a line feed, the sources, in UTF-8
abbrev pub info_words : Refused → List ℕ
info_words r =
    if names_sources r then fault_words r.kind ++ (codes "\nwhile parsing " ++ joined_names r.sources)
    else fault_words r.kind

-- what is said of a failed input, or the error as it was
abbrev pub input_io_of : Refused → FaultKind → Result (List ℕ) Refused
input_io_of r (InputIo error) = Ok error
input_io_of r _ = Err r

-- errors are equal where their kinds, their places and their sources are
abbrev pub same_refused : Refused → Refused → Bool
same_refused a b = (same_fault a.kind b.kind && same_place a.mark b.mark) && same_texts a.sources b.sources

pub same_refused_equiv : IsEquivalence same_refused
same_refused_equiv =
    and_equiv (and_equiv (on_equiv (λ r. r.kind) same_fault_equiv)
    (and_equiv (and_equiv (on_equiv (λ r. r.mark.place.index) nat_eq_equiv)
    (on_equiv (λ r. r.mark.place.line) nat_eq_equiv)) (on_equiv (λ r. r.mark.place.column) nat_eq_equiv)))
    (on_equiv (λ r. r.sources) (lists_equiv (on_equiv (λ t. t.characters) nat_list_eq_equiv)))

abbrev pub refused_kind : Refused → FaultKind
refused_kind e = e.kind

-- unless memory ran out
abbrev pub UnlessMemory : {X : Type 0} → Result X Refused → Type 0 → Type 0
UnlessMemory (Ok x) Holds = Holds
UnlessMemory (Err e) Holds = (e.kind ≡ NoMemory → ⊥) → Holds
