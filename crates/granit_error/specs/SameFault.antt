-- What a kind holds beside its name, and when two kinds are equal.
use Rattle.std.specs.Prelude.{ℕ, Bool, ◌&&◌, ◌==◌, nat_eq, List, [], ◌++◌}
use Rattle.std.specs.Str.{encode_utf8_all}
use Rattle.std.specs.Cmp.{IsEquivalence, and_equiv, on_equiv, unsigned_Decides, nat_eq_equiv}
use Rattle.std.specs.Cmp.Lexicographic.{pointwise, pointwise_decides}
use Rattle.std.proofs.lemmas.Cmp.{nat_list_eq_equiv}
use Rattle.std.specs.Hash as fed
use Rattle.std.specs.Hash.{HashWrites, Alike, same_Alike, on_Alike, and-Alike}
use Rattle.granit_error.specs.FaultKind.{FaultKind, DirectiveByteLimitExceeded, TooManyReservedDirectiveParams}
use Rattle.granit_error.specs.FaultKind.{InputByteLimitExceeded, UnclosedFlowCollection, MismatchedFlowCollectionEnd}
use Rattle.granit_error.specs.FaultKind.{UnexpectedCharacter, InputIo, InputDecoding, Custom, fault_number}

-- its limit, and 0 where it has none
abbrev pub fault_limit : FaultKind → ℕ
fault_limit (DirectiveByteLimitExceeded limit) = limit
fault_limit (TooManyReservedDirectiveParams limit) = limit
fault_limit (InputByteLimitExceeded limit) = limit
fault_limit _ = 0

-- its opener or its character, and 0 where it has none
abbrev pub fault_first : FaultKind → ℕ
fault_first (UnclosedFlowCollection opener) = opener
fault_first (MismatchedFlowCollectionEnd opener closer) = opener
fault_first (UnexpectedCharacter character) = character
fault_first _ = 0

-- its closer, and 0 where it has none
abbrev pub fault_second : FaultKind → ℕ
fault_second (MismatchedFlowCollectionEnd opener closer) = closer
fault_second _ = 0

-- its message, and no character where it has none
abbrev pub fault_message : FaultKind → List ℕ
fault_message (InputIo error) = error
fault_message (InputDecoding message) = message
fault_message (Custom message) = message
fault_message _ = []

abbrev pub same_parts : FaultKind → FaultKind → Bool
same_parts a b = ((fault_number a == fault_number b && fault_limit a == fault_limit b)
    && fault_first a == fault_first b) && fault_second a == fault_second b

-- two kinds are equal where their numbers are and each part that they hold
abbrev pub same_fault : FaultKind → FaultKind → Bool
same_fault a b = same_parts a b && pointwise nat_eq (fault_message a) (fault_message b)

pub same_fault_equiv : IsEquivalence same_fault
same_fault_equiv =
    and_equiv (and_equiv (and_equiv (and_equiv (on_equiv fault_number nat_eq_equiv) (on_equiv fault_limit nat_eq_equiv))
    (on_equiv fault_first nat_eq_equiv)) (on_equiv fault_second nat_eq_equiv))
    (on_equiv fault_message nat_list_eq_equiv)

-- what a kind's hash is made of
abbrev pub fault_writes : FaultKind → HashWrites
fault_writes k =
    (((fed.u8 (fault_number k) ++ fed.usize (fault_limit k)) ++ fed.char (fault_first k)) ++ fed.char (fault_second k))
    ++ fed.str (encode_utf8_all (fault_message k))

pub fault_writes_alike : Alike same_fault fault_writes
fault_writes_alike =
    and-Alike (and-Alike (and-Alike (and-Alike
    (on_Alike fault_number (same_Alike fed.u8 unsigned_Decides))
    (on_Alike fault_limit (same_Alike fed.usize unsigned_Decides)))
    (on_Alike fault_first (same_Alike fed.char unsigned_Decides)))
    (on_Alike fault_second (same_Alike fed.char unsigned_Decides)))
    (on_Alike fault_message (same_Alike (λ cs. fed.str (encode_utf8_all cs)) (pointwise_decides unsigned_Decides)))
