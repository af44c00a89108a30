-- The texts of the worked examples.
use Rattle.std.specs.Prelude.{ℕ, List, codes}
use Rattle.granit_error.specs.OptionsData.{OptionsData, default_options}

-- comments above, behind a `-`, behind a header, alone, behind a scalar and last
abbrev pub commented_text : List ℕ
commented_text = codes "# a\n- # b\n  k: | # c\n   x\n# d\n\n- e # f\n# g\n"

abbrev pub last_text : List ℕ
last_text = codes "a #b\n#c"

-- one behind a `-` whose node waits
abbrev pub dash_text : List ℕ
dash_text = codes "- # b\n  a\n"

-- where none may be held
abbrev pub holding_none : OptionsData
holding_none = record default_options { max_buffered_comment_events = 0 }
