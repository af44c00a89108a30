-- Brackets and `,` (YAML 1.2.2, 7.4).
use Rattle.std.specs.Prelude.{Bool, ◌&&◌, ◌||◌, not, nat_le, if◌then◌else◌, List, [], ◌∷◌, length, None}
use Rattle.granit_base.specs.Place.{Mark}
use Rattle.granit_error.specs.FaultKind.{MismatchedFlowCollectionEnd, MisplacedFlowCollectionEnd}
use Rattle.granit_error.specs.FaultKind.{RecursionLimitExceeded}
use Rattle.granit_error.specs.OptionsData.{OptionsData}
use Rattle.granit_lexemes.specs.Basics.{fails_at}
use Rattle.granit_lexemes.specs.Here.{Here, mark_of, step}
use Rattle.granit_lexemes.specs.Lexeme.{opener_char, closer_char, Open, Close, Comma}
use Rattle.granit_lexemes.specs.declared.layout.Bracket.{Bracket}
use Rattle.granit_lexemes.specs.Outcome.{◌>>=◌}
use Rattle.granit_machine.specs.Columns.{all_wide}
use Rattle.granit_machine.specs.Laid.{Laid, is_nonempty, is_in_flow, same_bracket}
use Rattle.granit_lexemes.specs.declared.layout.LastLexeme.{LastLexeme}
use Rattle.granit_lexemes.specs.declared.layout.LastLexeme.TheVariants.{Opener, Adjacent, Another}
use Rattle.granit_lexemes.specs.declared.layout.OpenBracket.{OpenBracket}
use Rattle.granit_machine.specs.PossibleKeys.{drop_key}
use Rattle.granit_machine.specs.ReaderState.{Read, sign_lexeme, tailed}

-- behind an opener at a mark; inside a block collection it lets no tab stand in the innermost column
abbrev pub opened : Bracket → Mark → Laid → Laid
opened bracket m l = all_wide (record l {
  rolled = l.rolled || (not (is_in_flow l) && is_nonempty l.columns);
  brackets = record { bracket = bracket; mark = m; key = None } ∷ l.brackets;
})

unfoldable pub opener : OptionsData → Bracket → Bool → Here → Laid → Read
opener o bracket ends h l =
    if nat_le o.flow_nesting_limit (length l.brackets) then fails_at RecursionLimitExceeded (mark_of h)
    else tailed (sign_lexeme ends (Open bracket) h l) Opener (step h) (opened bracket (mark_of h) l)

abbrev pub closed_bracket : List OpenBracket → Laid → Laid
closed_bracket bs l = record l { brackets = bs }

unfoldable pub closes : Bracket → OpenBracket → List OpenBracket → Bool → Here → Laid → Read
closes bracket b bs ends h l =
    if not (same_bracket b.bracket bracket) then
    fails_at (MismatchedFlowCollectionEnd (opener_char b.bracket) (closer_char bracket)) b.mark
    else tailed (sign_lexeme ends (Close bracket) h l) Adjacent (step h) (closed_bracket bs l)

abbrev pub closer_by : Bracket → List OpenBracket → Bool → Here → Laid → Read
closer_by bracket [] ends h l = fails_at MisplacedFlowCollectionEnd (mark_of h)
closer_by bracket (b ∷ bs) ends h l = closes bracket b bs ends h l

abbrev pub closer : Bracket → Bool → Here → Laid → Read
closer bracket ends h l = closer_by bracket l.brackets ends h l

abbrev pub last_of_comma : Laid → LastLexeme
last_of_comma l = if is_in_flow l then Opener else Another

abbrev pub comma : Bool → Here → Laid → Read
comma ends h l = drop_key l >>= tailed (sign_lexeme ends Comma h l) (last_of_comma l) (step h)
