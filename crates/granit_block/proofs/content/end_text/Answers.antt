use Rattle.std.proofs.Common.{◌≡◌, ◌==◌, ℕ, Bool, true, false, List, Option, Some, None, Ok, Err, refl, sym, ap, ap₂}
use Rattle.std.proofs.Common.{◌∙◌}
use Rattle.std.specs.Prelude.{if◌then◌else◌}
use Rattle.std.specs.List.{list_all}
use Rattle.std.specs.Str.{chars}
use Rattle.std.proofs.lemmas.Result.{err_from_is_err_and}
use Rattle.granit_base.specs.Written.{string_chars}
use Rattle.granit_error.specs.Refused.{Refused}
use Rattle.granit_lexemes.specs.Basics.{owned, unprintable}
use Rattle.granit_lexemes.specs.BlockScalar.{is_white}
use Rattle.granit_lexemes.specs.Here.{text_len}
use Rattle.granit_block.specs.BlockCode.{chomping_data, block_state, ending_of}
use Rattle.granit_block.proofs.ContentLemmas.{text_ends}
use Rattle.granit_block.proofs.SpaceLemmas.{none_left}
use Rattle.granit_block.proofs.content.end_text.Goals as goal

pub returns-in_err-refuse_unprintable-clause-here : goal.returns-in_err-refuse_unprintable-clause-here
returns-in_err-refuse_unprintable-clause-here g c = λ h k.
    let p = err_from_is_err_and c.from_residual-in_err-refuse_unprintable.result
    c.from_residual-in_err-refuse_unprintable.ensures.1 in
    let chomping = chomping_data c.args.chomping in
    let looked = c.look.ensures.here h k in
    let z : c.next_is_z.result ≡ (text_len h == 0) = c.next_is_z.ensures.value h.unread (rw c.input.ensures looked.0) in
    let whole = c.in_ok-push_ending.ensures.value ∙ ap (λ (b : Bool). ending_of chomping b c.args.lines) z in
    let bad = c.in_err-refuse_unprintable.ensures.here h looked in
    rw (p.1, p.2) (λ other.
    text_ends chomping c.args.shown.place.column c.args.shown (string_chars c.args.lines.value)
    (string_chars c.push_ending.new.lines.value) (block_state c.args.lines h) false _ whole bad.0 refl
    ∙ ap (λ (f : Refused). Err f) (sym bad.1))

pub returns-in-Some-clause-here : goal.returns-in-Some-clause-here
returns-in-Some-clause-here g c = λ h k.
    let chomping = chomping_data c.args.chomping in
    let looked = c.look.ensures.here h k in
    let z : c.next_is_z.result ≡ (text_len h == 0) = c.next_is_z.ensures.value h.unread (rw c.input.ensures looked.0) in
    let whole = c.in_ok-push_ending.ensures.value ∙ ap (λ (b : Bool). ending_of chomping b c.args.lines) z in
    let clear = c.in_ok-refuse_unprintable.ensures.here h looked in
    let found : unprintable (string_chars c.push_ending.new.lines.value)
    ≡ Some c.in-Some.character = ap (λ (b : List ℕ). unprintable (chars b)) (sym c.as_str.ensures.value)
    ∙ sym c.find_non_printable.ensures ∙ c.in-Some.is in
    λ other. rw c.from_kind.ensures
    (text_ends chomping c.args.shown.place.column c.args.shown (string_chars c.args.lines.value)
    (string_chars c.push_ending.new.lines.value) (block_state c.args.lines h) true (Some c.in-Some.character) whole
    clear.1 found)

pub returns-clause-here : goal.returns-clause-here
returns-clause-here g c = λ h k.
    let chomping = chomping_data c.args.chomping in
    let looked = c.look.ensures.here h k in
    let z : c.next_is_z.result ≡ (text_len h == 0) = c.next_is_z.ensures.value h.unread (rw c.input.ensures looked.0) in
    let whole = c.in_ok-push_ending.ensures.value ∙ ap (λ (b : Bool). ending_of chomping b c.args.lines) z in
    let clear = c.in_ok-refuse_unprintable.ensures.here h looked in
    let value = string_chars c.push_ending.new.lines.value in
    let none : unprintable value ≡ None = ap (λ (b : List ℕ). unprintable (chars b)) (sym c.as_str.ensures.value)
    ∙ sym c.find_non_printable.ensures ∙ none_left c.find_non_printable.result c.in_default.not-Some in
    let indent : c.content_indent-indent.result
    ≡ (if list_all is_white value then None else Some c.args.shown.place.column) =
    c.content_indent-indent.ensures ∙ ap₂ (λ (b : List ℕ) (n : ℕ). if list_all is_white (chars b) then None else Some n)
    c.as_str-2.ensures.value c.col.ensures in (
      h,
      clear.0,
      text_ends chomping c.args.shown.place.column c.args.shown (string_chars c.args.lines.value) value
          (block_state c.args.lines h) true None whole clear.1 none
          ∙ ap (λ (o : Option ℕ). Ok (record { text = owned value; shown = c.args.shown; indent = o }, h)) (sym indent),
    )
