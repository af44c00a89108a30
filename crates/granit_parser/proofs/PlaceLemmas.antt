-- Where a parser that nothing was read of stands.
use Rattle.std.proofs.Common.{◌≡◌, None, inl, subst}
use Rattle.granit_base.specs.Place.{Unread}
use Rattle.granit_cursor.specs.Reading.{CameOn}
use Rattle.granit_lexemes.specs.Here.{Here}
use Rattle.granit_lexemes.specs.Onward.{there}
use Rattle.granit_parser.specs.Parsing.{Next, Parsing, StandsAt, StandsBefore}
use Rattle.granit_stepper.proofs.StateLemmas.{stands_first}
use Rattle.granit_stepper.specs.Stepping.{StandsIn}
use Rattle.granit_steps.specs.Steps.{start_from}

pub begins : {I : Type 0} (unread : I → Unread → Type 0) (p : Parsing I) (h : Here) → p.peeked ≡ None
    → StandsAt unread p (start_from h) → CameOn unread h p.stepper.scanner.cursor
unfolding CameOn
begins unread p h unseen at =
    let stands : StandsIn unread p.stepper (start_from h) =
    subst (λ (r : Next). StandsBefore unread r p.stepper (start_from h)) unseen at in
    inl (h, there, stands_first unread p.stepper h stands)
