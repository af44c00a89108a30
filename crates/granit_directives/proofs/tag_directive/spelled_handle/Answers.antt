use Rattle.std.proofs.Common.{◌≡◌, ◌==◌, ◌||◌, ℕ, List, length, refl, ap, ◌∙◌}
use Rattle.std.specs.Str.{chars, encode_utf8_all}
use Rattle.granit_base.specs.Written.{string_chars}
use Rattle.granit_cursor.specs.Reading.{Stands}
use Rattle.granit_directives.proofs.PrefixLemmas.{word_is, handle_spelled}
use Rattle.granit_directives.proofs.tag_directive.spelled_handle.Goals as goal
use Rattle.granit_lexemes.specs.DirectiveExtent.{bytes_of}
use Rattle.granit_lexemes.specs.Here.{step}
use Rattle.granit_properties.proofs.TagLemmas.{past_word}

pub returns-clause-here : goal.returns-clause-here
returns-clause-here g c = λ h k sign.
    let taken = c.in_ok-take_word.ensures.here (step h) (c.step.ensures.here h k) in
    let word = word_is h (string_chars c.in_ok-text.text) (string_chars c.take_word.new.out) sign c.in_ok-text.ensures
    taken.1 in
    let closes = c.in_ok-closed.ensures.here (past_word h) taken.0 in
    let alone : c.byte_count-word_bytes.result ≡ bytes_of (string_chars c.take_word.new.out) =
    c.byte_count-word_bytes.ensures ∙ ap (λ (b : List ℕ). length (encode_utf8_all (chars b))) c.as_str.ensures.value in
    let bytes : c.byte_count-bytes.result ≡ bytes_of (string_chars c.closes_handle.new.text) =
    c.byte_count-bytes.ensures ∙ ap (λ (b : List ℕ). length (encode_utf8_all (chars b))) c.as_str-2.ensures.value in
    handle_spelled h (Stands g.T.Input.unread c.closes_handle.new.cursor) c.in_ok-closed.closed
    (record { text = c.closes_handle.new.text; bytes = c.byte_count-bytes.result; ends = c.is_ended.result })
    (string_chars c.take_word.new.out) (string_chars c.closes_handle.new.text)
    sign word closes refl bytes (c.is_ended.ensures ∙ ap (λ (n : ℕ). c.in_ok-closed.closed || (n == 1)) alone)
