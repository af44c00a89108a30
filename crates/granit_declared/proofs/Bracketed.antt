-- Brackets that are open behind runs and whole brackets, and whether what begins there stands in flow.
use Rattle.std.proofs.Common.{◌≡◌, Bool, true, false, List, [], ◌∷◌, map, Option, Some, None, refl, sym, ap, ◌∙◌}
use Rattle.std.specs.Bool.{Decides}
use Rattle.granit_base.specs.Place.{Mark}
use Rattle.granit_language.specs.Fitting.{OfNode, Opens, Closes, role_of}
use Rattle.granit_language.specs.HeldSaid.{Lead, lead_begins, lead_joins}
use Rattle.granit_language.specs.KeyRuns.{role, WholeBrackets, whole_none, whole_other, whole_pair, Run, part_begins}
use Rattle.granit_language.specs.KeyRuns.{part_joins, whole_begins, whole_joins}
use Rattle.granit_language.specs.OpenColumns.{latest}
use Rattle.granit_lexemes.specs.Lexeme.{LexemeKind, Open, Close, Colon, KeyStart, Lexeme, Item, OfLexeme, OfComment}
use Rattle.granit_lexemes.specs.declared.layout.OpenBracket.{OpenBracket}
use Rattle.granit_machine.specs.Laid.{is_nonempty}
use Rattle.granit_before.proofs.HeldWhole.{opener_of}
use Rattle.granit_before.proofs.Numbered.{run_ends_in}
use Rattle.granit_before.specs.Fields.{AllFieldsSay}
use Rattle.granit_before.specs.HeldKeys.{EndsIn, all_of_it, behind_one}
use Rattle.granit_before.specs.Openers.{Opener, inside_of, openers_behind, openers, IsInside}

-- ---- one lexeme

kind_same : (kind : LexemeKind) (key : Option KeyStart) (m : Mark) (bs : List Opener) →
    (role_of kind key ≡ Opens → ⊥) → (role_of kind key ≡ Closes → ⊥) → openers_behind kind m bs ≡ bs
kind_same (Open bracket) key m bs n c = absurd (n refl)
kind_same (Close bracket) key m bs n c = absurd (c refl)
kind_same kind key m bs n c = refl

kind_closes : (kind : LexemeKind) (key : Option KeyStart) (m : Mark) (bs : List Opener) → role_of kind key ≡ Closes →
    openers_behind kind m bs ≡ inside_of bs
kind_closes (Close bracket) key m bs e = refl
kind_closes Colon None m bs e = absurd cc
kind_closes Colon (Some k) m bs e = absurd cc
kind_closes kind key m bs e = absurd cc

kind_opens : (kind : LexemeKind) (key : Option KeyStart) (m : Mark) (bs : List Opener) → role_of kind key ≡ Opens →
    (b : Opener) × (openers_behind kind m bs ≡ b ∷ bs)
kind_opens (Open bracket) key m bs e = ((bracket, m), refl)
kind_opens Colon None m bs e = absurd cc
kind_opens Colon (Some k) m bs e = absurd cc
kind_opens kind key m bs e = absurd cc

-- what leaves one open where none was is an opener
kind_opened : (kind : LexemeKind) (key : Option KeyStart) (m : Mark) (b : Opener) (bs : List Opener) →
    openers_behind kind m [] ≡ b ∷ bs → (role_of kind key ≡ Opens) × (bs ≡ [])
kind_opened (Open bracket) key m b bs e = (refl, cc (e))
kind_opened (Close bracket) key m b bs e = absurd cc
kind_opened kind key m b bs e = absurd cc

pub opened : (x : Lexeme) (b : Opener) (bs : List Opener) → openers_behind x.kind x.start [] ≡ b ∷ bs →
    (role x ≡ Opens) × (bs ≡ [])
opened x b bs e = kind_opened x.kind x.key x.start b bs e

part_same : (x : Lexeme) (bs : List Opener) → role x ≡ OfNode → openers_behind x.kind x.start bs ≡ bs
part_same x bs r =
    kind_same x.kind x.key x.start bs (λ e. let z = sym r ∙ e in cc) (λ e. let z = sym r ∙ e in cc)

pub opens_one : (x : Lexeme) (xs : List Lexeme) → role x ≡ Opens → (b : Opener) × (openers (x ∷ xs) ≡ b ∷ openers xs)
opens_one x xs r = kind_opens x.kind x.key x.start (openers xs) r

-- ---- whole brackets and runs

closed_openers : (x : Lexeme) (xs : List Lexeme) (opener : Lexeme) (ys : List Lexeme) → role x ≡ Closes →
    role opener ≡ Opens → openers xs ≡ openers (opener ∷ ys) → openers (x ∷ xs) ≡ openers ys
closed_openers x xs opener ys r q e =
    kind_closes x.kind x.key x.start (openers xs) r ∙ ap inside_of (e ∙ (opens_one opener ys q).1)

pub whole_openers : {xs rest : List Lexeme} → WholeBrackets xs rest → openers xs ≡ openers rest
whole_openers whole_none = refl
whole_openers (whole_other {x = x} {xs = xs} n c w) = kind_same x.kind x.key x.start (openers xs) n c ∙ whole_openers w
whole_openers (whole_pair {closer = x} {opener = y} {xs = xs} {ys = ys} r w q v) =
    closed_openers x xs y ys r q (whole_openers w) ∙ whole_openers v

pub run_openers : {xs rest : List Lexeme} {first : Lexeme} → Run xs first rest → openers xs ≡ openers rest
run_openers (part_begins {x = x} {ys = ys} r p) = part_same x (openers ys) r
run_openers (part_joins {x = x} {ys = ys} r j p) = part_same x (openers ys) r ∙ run_openers p
run_openers (whole_begins {closer = x} {opener = y} {xs = xs} {ys = ys} r w q b) =
    closed_openers x xs y ys r q (whole_openers w)
run_openers (whole_joins {closer = x} {opener = y} {xs = xs} {ys = ys} r w q j p) =
    closed_openers x xs y ys r q (whole_openers w) ∙ run_openers p

pub lead_openers : {x first : Lexeme} {ys rest : List Lexeme} → Lead x ys first rest → openers ys ≡ openers rest
lead_openers (lead_begins b) = refl
lead_openers (lead_joins j r) = run_openers r

-- ---- whether a lexeme stands in flow

abbrev pub AllFlow : List Lexeme → Type 0
AllFlow [] = Unit {0}
AllFlow (x ∷ xs) = Decides x.in_flow (IsInside xs) × AllFlow xs

pub fields_flow : (before : List Lexeme) (items : List Item) → AllFieldsSay before items → AllFlow before →
    AllFlow (latest items before)
fields_flow before [] f a = a
fields_flow before (OfLexeme x ∷ is) f a = fields_flow (x ∷ before) is f.1 (f.0.flow, a)
fields_flow before (OfComment c ∷ is) f a = fields_flow before is f a

pub ends_flow : {xs ys : List Lexeme} → EndsIn xs ys → AllFlow xs → AllFlow ys
ends_flow all_of_it a = a
ends_flow (behind_one e) a = ends_flow e a.1

pub whole_flow : {xs rest : List Lexeme} → WholeBrackets xs rest → AllFlow xs → AllFlow rest
whole_flow whole_none a = a
whole_flow (whole_other n c w) a = whole_flow w a.1
whole_flow (whole_pair r w q v) a = whole_flow v (whole_flow w a.1).1

pub run_flow : {xs rest : List Lexeme} {first : Lexeme} → Run xs first rest → AllFlow xs → AllFlow (first ∷ rest)
run_flow r a = ends_flow (run_ends_in r) a

pub lead_flow : {x first : Lexeme} {ys rest : List Lexeme} → Lead x ys first rest → AllFlow (x ∷ ys) →
    AllFlow (first ∷ rest)
lead_flow (lead_begins b) a = a
lead_flow (lead_joins j r) a = run_flow r a.1

pub flow_is : (x : Lexeme) (xs : List Lexeme) (bs : List OpenBracket) → AllFlow (x ∷ xs) →
    map opener_of bs ≡ openers xs → x.in_flow ≡ is_nonempty bs
flow_is x xs [] a e = on x.in_flow refl
  where
    on : (v : Bool) → x.in_flow ≡ v → x.in_flow ≡ false
    on true f = absurd (let p = a.0.0 f in let z = e ∙ p.2 in cc)
    on false f = f
flow_is x xs (b ∷ bs) a e = a.0.1 (opener_of b, map opener_of bs, sym e)
