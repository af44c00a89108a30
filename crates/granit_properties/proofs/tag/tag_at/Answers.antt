use Rattle.std.proofs.Common.{◌≡◌, ◌==◌, true, false, refl, sym, ap, ◌∙◌, arith}
use Rattle.std.specs.Prelude.{slice_index}
use Rattle.std.proofs.lemmas.Bool.Decides.{nat_tests}
use Rattle.granit_base.specs.Written.{string_chars}
use Rattle.granit_lexemes.specs.Basics.{text_up_to}
use Rattle.granit_lexemes.specs.Here.{next_char, step}
use Rattle.granit_properties.proofs.NameLemmas.{appended}
use Rattle.granit_properties.proofs.TagLemmas.{past_word, tag_verbatim, tag_named, tag_short, handle_is}
use Rattle.granit_properties.proofs.tag.tag_at.Goals as goal

pub returns-then-verbatim_next-clause-here : goal.returns-then-verbatim_next-clause-here
returns-then-verbatim_next-clause-here g c = λ h k.
    let looked = c.look.ensures.here h k in
    let value = c.peek_nth-verbatim_next.ensures.value h.unread (rw c.input.ensures looked.0) in
    let e : (slice_index h.unread.text 1 == 0x3C) ≡ true = rw (← value, c.if-verbatim_next.true) refl in
    let start = (c.requires h k).1 in
    rw (tag_verbatim c.args.in_flow h e, ← start)
    (c.verbatim.ensures.here (step (step h))
    (c.step-then-verbatim_next.ensures.here (step h) (c.step.ensures.here h looked)))

pub returns-then-peek-eq33-clause-here : goal.returns-then-peek-eq33-clause-here
returns-then-peek-eq33-clause-here g c = λ h k.
    let looked = c.look.ensures.here h k in
    let value = c.peek_nth-verbatim_next.ensures.value h.unread (rw c.input.ensures looked.0) in
    let apart = c.if-verbatim_next.false in
    let e : (slice_index h.unread.text 1 == 0x3C) ≡ false = rw (← value) (grind (arith, nat_tests, apart)) in
    let start = (c.requires h k).1 in
    let taken = c.in_ok-take_word.ensures.here (step h) (c.step.ensures.here h looked) in
    let behind = c.look-2.ensures.here (past_word h) taken.0 in
    let sign : next_char (past_word h) ≡ 0x21 = sym
    (c.peek.ensures.value (past_word h).unread (rw c.input-2.ensures behind.0)) ∙ c.if-peek-eq33.true in
    let word = appended (step h) (past_word h) (string_chars c.empty_text-word.result)
    (string_chars c.take_word.new.out) c.empty_text-word.ensures taken.1 in
    let handle : string_chars c.in_ok-handle.handle ≡ text_up_to h (step (past_word h)) = c.in_ok-handle.ensures
    ∙ rw word refl ∙ sym (handle_is h (c.requires h k).0 sign) in
    rw (tag_named c.args.in_flow h e (ap (λ n. n == 0x21) sign), ← start, ← handle)
    (c.named.ensures.here (step (past_word h)) (c.step-then-peek-eq33.ensures.here (past_word h) behind))

pub returns-clause-here : goal.returns-clause-here
returns-clause-here g c = λ h k.
    let looked = c.look.ensures.here h k in
    let value = c.peek_nth-verbatim_next.ensures.value h.unread (rw c.input.ensures looked.0) in
    let apart = c.if-verbatim_next.false in
    let e : (slice_index h.unread.text 1 == 0x3C) ≡ false = rw (← value) (grind (arith, nat_tests, apart)) in
    let start = (c.requires h k).1 in
    let taken = c.in_ok-take_word.ensures.here (step h) (c.step.ensures.here h looked) in
    let behind = c.look-2.ensures.here (past_word h) taken.0 in
    let seen = c.peek.ensures.value (past_word h).unread (rw c.input-2.ensures behind.0) in
    let none = c.if-peek-eq33.false in
    let other : (next_char (past_word h) == 0x21) ≡ false = rw (← seen) (grind (arith, nat_tests, none)) in
    let word = appended (step h) (past_word h) (string_chars c.empty_text-word.result)
    (string_chars c.take_word.new.out) c.empty_text-word.ensures taken.1 in
    rw (tag_short c.args.in_flow h e other, ← start, ← word) (c.short.ensures.here (past_word h) behind)
