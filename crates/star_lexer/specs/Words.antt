-- Keywords, reserved words and marks, and how they are written.
use Rattle.std.specs.Prelude.{List, [], ◌∷◌, Option, Some, None, if◌then◌else◌}
use Rattle.std.specs.Str.{bytes_eq}
use Rattle.star_syntax.specs.declared.token.Keyword.{Keyword}
use Rattle.star_syntax.specs.declared.token.Keyword.TheVariants as k
use Rattle.star_syntax.specs.declared.token.Mark.{Mark}
use Rattle.star_syntax.specs.declared.token.Mark.TheVariants as m
use Rattle.star_lexer.specs.declared.reserved.Reserved.{Reserved}
use Rattle.star_lexer.specs.declared.reserved.Reserved.TheVariants as r
use Rattle.star_lexer.specs.declared.reserved.TheConstants.{RESERVED}
use Rattle.star_lexer.specs.declared.keywords.TheConstants.{KEYWORDS}
use Rattle.star_lexer.specs.declared.marks.TheConstants.{MARKS}
use Rattle.star_lexer.specs.Chars.{Chars}

-- how a keyword is written
abbrev pub keyword_text : Keyword → Chars
keyword_text k.And = 97 ∷ 110 ∷ 100 ∷ []
keyword_text k.Or = 111 ∷ 114 ∷ []
keyword_text k.Not = 110 ∷ 111 ∷ 116 ∷ []
keyword_text k.In = 105 ∷ 110 ∷ []
keyword_text k.If = 105 ∷ 102 ∷ []
keyword_text k.Elif = 101 ∷ 108 ∷ 105 ∷ 102 ∷ []
keyword_text k.Else = 101 ∷ 108 ∷ 115 ∷ 101 ∷ []
keyword_text k.For = 102 ∷ 111 ∷ 114 ∷ []
keyword_text k.Def = 100 ∷ 101 ∷ 102 ∷ []
keyword_text k.Return = 114 ∷ 101 ∷ 116 ∷ 117 ∷ 114 ∷ 110 ∷ []
keyword_text k.Break = 98 ∷ 114 ∷ 101 ∷ 97 ∷ 107 ∷ []
keyword_text k.Continue = 99 ∷ 111 ∷ 110 ∷ 116 ∷ 105 ∷ 110 ∷ 117 ∷ 101 ∷ []
keyword_text k.Pass = 112 ∷ 97 ∷ 115 ∷ 115 ∷ []
keyword_text k.None = 78 ∷ 111 ∷ 110 ∷ 101 ∷ []
keyword_text k.True = 84 ∷ 114 ∷ 117 ∷ 101 ∷ []
keyword_text k.False = 70 ∷ 97 ∷ 108 ∷ 115 ∷ 101 ∷ []

-- how a reserved word is written
abbrev pub reserved_text : Reserved → Chars
reserved_text r.As = 97 ∷ 115 ∷ []
reserved_text r.Assert = 97 ∷ 115 ∷ 115 ∷ 101 ∷ 114 ∷ 116 ∷ []
reserved_text r.Class = 99 ∷ 108 ∷ 97 ∷ 115 ∷ 115 ∷ []
reserved_text r.Del = 100 ∷ 101 ∷ 108 ∷ []
reserved_text r.Except = 101 ∷ 120 ∷ 99 ∷ 101 ∷ 112 ∷ 116 ∷ []
reserved_text r.Finally = 102 ∷ 105 ∷ 110 ∷ 97 ∷ 108 ∷ 108 ∷ 121 ∷ []
reserved_text r.From = 102 ∷ 114 ∷ 111 ∷ 109 ∷ []
reserved_text r.Global = 103 ∷ 108 ∷ 111 ∷ 98 ∷ 97 ∷ 108 ∷ []
reserved_text r.Import = 105 ∷ 109 ∷ 112 ∷ 111 ∷ 114 ∷ 116 ∷ []
reserved_text r.Is = 105 ∷ 115 ∷ []
reserved_text r.Lambda = 108 ∷ 97 ∷ 109 ∷ 98 ∷ 100 ∷ 97 ∷ []
reserved_text r.Load = 108 ∷ 111 ∷ 97 ∷ 100 ∷ []
reserved_text r.Nonlocal = 110 ∷ 111 ∷ 110 ∷ 108 ∷ 111 ∷ 99 ∷ 97 ∷ 108 ∷ []
reserved_text r.Raise = 114 ∷ 97 ∷ 105 ∷ 115 ∷ 101 ∷ []
reserved_text r.Try = 116 ∷ 114 ∷ 121 ∷ []
reserved_text r.While = 119 ∷ 104 ∷ 105 ∷ 108 ∷ 101 ∷ []
reserved_text r.With = 119 ∷ 105 ∷ 116 ∷ 104 ∷ []
reserved_text r.Yield = 121 ∷ 105 ∷ 101 ∷ 108 ∷ 100 ∷ []

-- how a mark is written
abbrev pub mark_text : Mark → Chars
mark_text m.Plus = 43 ∷ []
mark_text m.Minus = 45 ∷ []
mark_text m.Star = 42 ∷ []
mark_text m.FloorDivide = 47 ∷ 47 ∷ []
mark_text m.Percent = 37 ∷ []
mark_text m.Ampersand = 38 ∷ []
mark_text m.Bar = 124 ∷ []
mark_text m.Caret = 94 ∷ []
mark_text m.Tilde = 126 ∷ []
mark_text m.Equal = 61 ∷ 61 ∷ []
mark_text m.NotEqual = 33 ∷ 61 ∷ []
mark_text m.Less = 60 ∷ []
mark_text m.Greater = 62 ∷ []
mark_text m.AtMost = 60 ∷ 61 ∷ []
mark_text m.AtLeast = 62 ∷ 61 ∷ []
mark_text m.Assign = 61 ∷ []
mark_text m.PlusAssign = 43 ∷ 61 ∷ []
mark_text m.MinusAssign = 45 ∷ 61 ∷ []
mark_text m.StarAssign = 42 ∷ 61 ∷ []
mark_text m.FloorAssign = 47 ∷ 47 ∷ 61 ∷ []
mark_text m.PercentAssign = 37 ∷ 61 ∷ []
mark_text m.AmpersandAssign = 38 ∷ 61 ∷ []
mark_text m.BarAssign = 124 ∷ 61 ∷ []
mark_text m.CaretAssign = 94 ∷ 61 ∷ []
mark_text m.OpenRound = 40 ∷ []
mark_text m.CloseRound = 41 ∷ []
mark_text m.OpenSquare = 91 ∷ []
mark_text m.CloseSquare = 93 ∷ []
mark_text m.OpenCurly = 123 ∷ []
mark_text m.CloseCurly = 125 ∷ []
mark_text m.Comma = 44 ∷ []
mark_text m.Colon = 58 ∷ []
mark_text m.Semicolon = 59 ∷ []
mark_text m.Dot = 46 ∷ []

-- the first of these that is written so
abbrev pub lookup : {X : Type 0} → (X → Chars) → List X → Chars → Option X
lookup text [] word = None
lookup text (x ∷ xs) word = if bytes_eq (text x) word then Some x else lookup text xs word

-- the keyword, reserved word or mark that is written so, if there is one
unfoldable pub keyword_of : Chars → Option Keyword
keyword_of = lookup keyword_text KEYWORDS

unfoldable pub reserved_of : Chars → Option Reserved
reserved_of = lookup reserved_text RESERVED

unfoldable pub mark_of : Chars → Option Mark
mark_of = lookup mark_text MARKS
