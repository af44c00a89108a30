-- How tags are compared: by handle, suffix and original handle.
use Rattle.std.specs.Prelude.{Bool, nat_eq, ◌++◌}
use Rattle.std.specs.Cmp.Lexicographic.{slice_cmp, pointwise}
use Rattle.std.specs.Hash as fed
use Rattle.std.specs.Hash.{HashWrites}
use Rattle.std.specs.Ordering.{nat_cmp, on, then_cmp, eq_of_both}
use Rattle.std.specs.Str.{encode_utf8_all}
use Rattle.std.specs.declared.cmp.Ordering.{Ordering}
use Rattle.granit_lexemes.specs.PlainEvent.{PlainTag}

abbrev pub same_tag : PlainTag → PlainTag → Bool
same_tag = eq_of_both (on (λ t. t.handle) (pointwise nat_eq))
    (eq_of_both (on (λ t. t.suffix) (pointwise nat_eq)) (on (λ t. t.original_handle) (pointwise nat_eq)))

abbrev pub order_of_tags : PlainTag → PlainTag → Ordering
order_of_tags = then_cmp (on (λ t. t.handle) (slice_cmp nat_cmp))
    (then_cmp (on (λ t. t.suffix) (slice_cmp nat_cmp)) (on (λ t. t.original_handle) (slice_cmp nat_cmp)))

-- the parts, one after another
abbrev pub writes_of_tag : PlainTag → HashWrites
writes_of_tag t = (fed.str (encode_utf8_all t.handle) ++ fed.str (encode_utf8_all t.suffix))
    ++ fed.str (encode_utf8_all t.original_handle)
