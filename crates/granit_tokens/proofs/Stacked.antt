-- What balances passes the stack, so what doesn't pass doesn't balance.
use Rattle.std.proofs.Common.{◌≡◌, true, List, [], ◌∷◌, Some, refl, ap, ◌∙◌}
use Rattle.granit_lexemes.specs.Lexeme.{LexemeKind, Open, Close, is_opener_kind}
use Rattle.granit_lexemes.specs.declared.layout.Bracket.{Bracket}
use Rattle.granit_lexemes.specs.declared.layout.Bracket.TheVariants.{Square, Curly}
use Rattle.granit_steps.specs.Tokens.{BlockMappingStart, BlockSequenceStart, KeySign, PairStart}
use Rattle.granit_steps.specs.Tokens.{ScanToken, Inserted, Own, Noted}
use Rattle.granit_tokens.proofs.Openings.{OfBlock, OfPair, OfBracket, Openings, closes_of, kind_passed}
use Rattle.granit_tokens.proofs.Openings.{token_passed, and_then, passed}
use Rattle.granit_tokens.specs.Balanced.{Encloses, block_mapping, block_sequence, single_pair, in_brackets, is_beside}
use Rattle.granit_tokens.specs.Balanced.{is_beside_kind, BalancedTo, nothing_more, one_beside, enclosed, Balanced}
use Rattle.granit_tokens.specs.Balanced.{is_start, BeginsBalanced, all_ended, one_open}

quiet_passed : (kind : LexemeKind) (st : Openings) → is_beside_kind kind ≡ true → kind_passed kind st ≡ Some st
quiet_passed (Open bracket) st e = absurd cc
quiet_passed (Close bracket) st e = absurd cc
quiet_passed kind st e = refl

beside_passed : (t : ScanToken) (st : Openings) → is_beside t ≡ true → token_passed t st ≡ Some st
beside_passed (Inserted KeySign m) st e = refl
beside_passed (Inserted what m) st e = absurd cc
beside_passed (Own x) st e = quiet_passed x.kind st e
beside_passed (Noted c) st e = refl

closed_again : (bracket : Bracket) (st : Openings) → closes_of bracket (OfBracket bracket ∷ st) ≡ Some st
closed_again Square st = refl
closed_again Curly st = refl

-- a start, what stands between, and its end
around : (start end : ScanToken) (ts us : List ScanToken) (st : Openings) → Encloses start end
    → ((st : Openings) → passed ts st ≡ passed (end ∷ us) st) → passed (start ∷ ts) st ≡ passed us st
around start end ts us st block_mapping p = p (OfBlock ∷ st)
around start end ts us st block_sequence p = p (OfBlock ∷ st)
around start end ts us st single_pair p = p (OfPair ∷ st)
around start end ts us st (in_brackets {bracket = bracket} k j) p =
    ap (λ kind. and_then (kind_passed kind st) (passed ts)) k
    ∙ p (OfBracket bracket ∷ st)
    ∙ ap (λ kind. and_then (kind_passed kind (OfBracket bracket ∷ st)) (passed us)) j
    ∙ ap (λ r. and_then r (passed us)) (closed_again bracket st)

through : (ts rest : List ScanToken) → BalancedTo ts rest → (st : Openings) → passed ts st ≡ passed rest st
through ts rest nothing_more st = refl
through ts rest (one_beside {t = t} {ts = us} b p) st =
    ap (λ r. and_then r (passed us)) (beside_passed t st b) ∙ through us rest p st
through ts rest (enclosed {start = start} {end = end} {ts = us} {us = vs} e p q) st =
    around start end us vs st e (through us (end ∷ vs) p) ∙ through vs rest q st

pub balanced_passes : (ts : List ScanToken) → Balanced ts → passed ts [] ≡ Some []
balanced_passes ts p = through ts [] p []

abbrev Passes : List ScanToken → Openings → Type 0
Passes ts st = (last : Openings) × (passed ts st ≡ Some last)

start_kind : (kind : LexemeKind) (st : Openings) → is_opener_kind kind ≡ true
    → (after : Openings) × (kind_passed kind st ≡ Some after)
start_kind (Open bracket) st e = (OfBracket bracket ∷ st, refl)
start_kind kind st e = absurd cc

start_passed : (t : ScanToken) (st : Openings) → is_start t ≡ true
    → (after : Openings) × (token_passed t st ≡ Some after)
start_passed (Inserted BlockMappingStart m) st e = (OfBlock ∷ st, refl)
start_passed (Inserted BlockSequenceStart m) st e = (OfBlock ∷ st, refl)
start_passed (Inserted PairStart m) st e = (OfPair ∷ st, refl)
start_passed (Inserted what m) st e = absurd cc
start_passed (Own x) st e = start_kind x.kind st e
start_passed (Noted c) st e = absurd cc

begins : (ts : List ScanToken) → BeginsBalanced ts → (st : Openings) → Passes ts st
begins ts (all_ended b) st = (st, through ts [] b st)
begins ts (one_open {start = start} {us = us} s b p) st =
    let a = start_passed start st s in
    let r = begins us p a.0 in
    (r.0, through ts (start ∷ us) b st ∙ ap (λ r. and_then r (passed us)) a.1 ∙ r.1)

pub front_passes : (ts : List ScanToken) → BeginsBalanced ts → Passes ts []
front_passes ts p = begins ts p []
