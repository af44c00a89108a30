-- Whether handles stay over documents changes nothing of where a parser is known to stand.
use Rattle.std.proofs.Common.{◌≡◌, Bool, List, Option, Some, None, refl, sym, ap, ◌∙◌}
use Rattle.granit_base.specs.Place.{Unread}
use Rattle.granit_error.specs.OptionsData.{OptionsData}
use Rattle.granit_error.specs.Refused.{Refused}
use Rattle.granit_lexemes.specs.Here.{Here}
use Rattle.granit_machine.specs.Gaps.{GapRead, gap, gap_ends, ready_gap, refuse_tab_at}
use Rattle.granit_machine.specs.Laid.{Laid}
use Rattle.granit_machine.specs.Lexing.{FlaggedItem}
use Rattle.granit_machine.specs.PossibleKeys.{is_stale}
use Rattle.granit_machine.specs.Reader.{LexState}
use Rattle.granit_restart.specs.Header.{gap_in_directive}
use Rattle.granit_scanner.specs.Scans.{BehindFault, KnownBy, Scanning}
use Rattle.granit_scanner.specs.Scans as scans
use Rattle.granit_stepper.proofs.RefusalLemmas.{stands_moved}
use Rattle.granit_stepper.specs.Refusals.{StandsRefused}
use Rattle.granit_stepper.specs.Stepping.{StandsIn, Stepping, keeping}
use Rattle.granit_steps.specs.Steps.{StepState}

pub same_options : {I : Type 0} (s t : Scanning I) → s ≡ t → s.options ≡ t.options
same_options s t is = ap (λ (x : Scanning _). x.options) is

-- neither a gap nor what is met behind it goes by that
read_alike : (keep : Bool) (o : OptionsData) (before : Bool) (h : Here) (l : Laid)
    → gap_in_directive o before (gap o h l)
    ≡ gap_in_directive (record o { keep_tags = keep }) before (gap (record o { keep_tags = keep }) h l)
unfolding gap_ends ready_gap refuse_tab_at is_stale
read_alike keep o before h l = refl

module _ {I : Type 0} (unread : I → Unread → Type 0) (keep : Bool) where
  behind_alike : (s : Scanning I) (l : LexState) (q : List FlaggedItem) → BehindFault unread s l q
      → BehindFault unread (scans.scanner_keeping keep s) l q
  behind_alike s l q behind = record {
    number = behind.number;
    onward = behind.onward;
    held = behind.held;
    met = λ before. behind.met before ∙ read_alike keep s.options before l.reader.here l.reader.laid;
  }

  known_alike : (f : Option Refused) (s : Scanning I) (l : LexState) (q : List FlaggedItem) → KnownBy unread f s l q
      → KnownBy unread f (scans.scanner_keeping keep s) l q
  known_alike None s l q known = known
  known_alike (Some f) s l q known = (known.0, known.1, known.2, behind_alike s l q known.3)

  pub stands_alike : (s : Stepping I) (m : StepState) → StandsIn unread s m → StandsIn unread (keeping keep s) m
  stands_alike s m at = record {
    going = at.going;
    reading = known_alike s.scanner.fault s.scanner m.reading m.queue at.reading;
    parser = at.parser;
    pending = at.pending;
    numbers = at.numbers;
    none_ahead = at.none_ahead;
  }

  -- and where a turn was refused
  pub refused_alike : (s : Stepping I) (m : StepState) (e : Refused) → StandsRefused unread s m e
      → StandsRefused unread (keeping keep s) m e
  refused_alike s m e at =
      stands_moved unread s (scans.scanner_keeping keep s.scanner) (λ f. known_alike f s.scanner) refl m e at
