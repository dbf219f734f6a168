-- What a piece of a text is: white space, a comment, a newline or a token, with how it is written.
use Rattle.std.specs.Prelude.{Bool, ◌||◌, ◌+◌, ◌≡◌, ◌≢◌, ℕ, ◌<◌, ◌≤◌, true, false, ◌⊎◌, List, [], ◌∷◌, ◌++◌, length, Some, None, pos}
use Rattle.std.specs.List.{list_all, flat_map}
use Rattle.std.specs.Char.{is_ascii_digit}
use Rattle.star_lexer.specs.declared.chars.Class.TheVariants as class
use Rattle.star_lexer.specs.declared.error.LexKind.TheVariants.{BadCharacter, OpenString, BadEscape, BadNumber, WideNumber, ReservedWord}
use Rattle.star_lexer.specs.declared.reserved.Reserved.{Reserved}
use Rattle.star_syntax.specs.declared.token.Keyword.{Keyword}
use Rattle.star_syntax.specs.declared.token.Token.{Token}
use Rattle.star_syntax.specs.declared.token.Token.TheVariants as t
use Rattle.star_lexer.specs.Lexeme.{Lexeme}
use Rattle.star_lexer.specs.Lexeme as lexeme
use Rattle.star_lexer.specs.Flaws.{Flaw}
use Rattle.star_lexer.specs.declared.literal.Style.{Style}
use Rattle.star_lexer.specs.Chars.{Chars, newline, backslash, letter_r, is_quote, is_name_start, is_in, first}
use Rattle.star_lexer.specs.Numbers.{numeral, widest}
use Rattle.star_lexer.specs.Texts.{delimiter, opening, closes, escape}
use Rattle.star_lexer.specs.Words.{keyword_text, reserved_text, mark_text}

-- what a piece is, and how it is written
pub record Piece : Type 0 where
  pub lexeme : Lexeme
  pub spelling : Chars

abbrev pub piece : Lexeme → Chars → Piece
piece l s = record { lexeme = l; spelling = s }

-- the pieces one after the other
abbrev pub spelled : List Piece → Chars
spelled = flat_map (λ p. p.spelling)

-- ---- white space and comments

-- `#`, and anything up to the line's end
abbrev pub IsComment : Chars → Type 0
IsComment s = (first s ≡ 35) × (list_all (is_in class.Line) s ≡ true)

-- a space, a tab, a backslash just before a newline, or a comment
abbrev pub IsBlank : Chars → Type 0
IsBlank s = (s ≡ 32 ∷ []) ⊎ ((s ≡ 9 ∷ []) ⊎ ((s ≡ backslash ∷ newline ∷ []) ⊎ IsComment s))

-- ---- texts

-- a character of a text, as it stands or by an escape
pub record Part : Type 0 where
  pub spelling : Chars
  pub value : Chars

-- it stands for itself: no backslash, and a newline only in a text with three quotes
abbrev pub IsPlain : Style → Part → Type 0
IsPlain q p = (c : ℕ) × (c ≢ backslash) × (q.is_wide ≡ false → c ≢ newline) × (p.spelling ≡ c ∷ []) × (p.value ≡ c ∷ [])

-- a backslash and what an escape is without it; not in a raw text
abbrev pub IsEscape : Style → Part → Type 0
IsEscape q p = (w v : Chars) × (q.is_raw ≡ false) × (escape w ≡ Some v) × (p.spelling ≡ backslash ∷ w) × (p.value ≡ v)

-- in a raw text a backslash and the character after it stand for themselves
abbrev pub IsKept : Style → Part → Type 0
IsKept q p = (c : ℕ) × (q.is_raw ≡ true) × (p.spelling ≡ backslash ∷ c ∷ []) × (p.value ≡ backslash ∷ c ∷ [])

-- a part of a text of this style
abbrev pub IsPart : Style → Part → Type 0
IsPart q p = IsPlain q p ⊎ (IsEscape q p ⊎ IsKept q p)

abbrev pub parts_spelling : List Part → Chars
parts_spelling = flat_map (λ p. p.spelling)

abbrev pub parts_value : List Part → Chars
parts_value = flat_map (λ p. p.value)

-- parts of a text before its rest: the closing quotes are at none of them
abbrev pub AreParts : Style → List Part → Chars → Type 0
AreParts q [] rest = Unit {0}
AreParts q (p ∷ ps) rest = IsPart q p × (closes q (p.spelling ++ (parts_spelling ps ++ rest)) ≡ false) × AreParts q ps rest

-- opening quotes, parts, and the first closing quotes
pub record IsText (s v : Chars) : Type 0 where
  pub style : Style
  pub quoted : is_quote style.quote ≡ true
  pub parts : List Part
  pub each : AreParts style parts (delimiter style)
  pub whole : s ≡ opening style ++ (parts_spelling parts ++ delimiter style)
  pub value : v ≡ parts_value parts

-- ---- words

-- a letter or `_`, then letters, digits and `_`
pub record IsWord (s : Chars) : Type 0 where
  pub starts : is_name_start (first s) ≡ true
  pub all : list_all (is_in class.Name) s ≡ true

-- a word that is neither a keyword nor reserved
pub record IsName (n s : Chars) : Type 0 where
  pub same : n ≡ s
  pub word : IsWord s
  pub free : (k : Keyword) → keyword_text k ≢ s
  pub allowed : (r : Reserved) → reserved_text r ≢ s

-- a word that begins with a digit and writes a number of at most 2 ^ 127 - 1
pub record IsNumber (n : ℕ) (s : Chars) : Type 0 where
  pub starts : is_ascii_digit (first s) ≡ true
  pub numeral : numeral s ≡ Some n
  pub fits : n ≤ widest

-- how a token is written; Newline, Indent, Dedent and End are not
abbrev pub Spells : Token → Chars → Type 0
Spells (t.Name n) s = IsName n s
Spells (t.Word k) s = s ≡ keyword_text k
Spells (t.Int v) s = (n : ℕ) × (v ≡ pos n) × IsNumber n s
Spells (t.Text v) s = IsText s v
Spells (t.Mark m) s = s ≡ mark_text m
Spells t.Newline s = ⊥
Spells t.Indent s = ⊥
Spells t.Dedent s = ⊥
Spells t.End s = ⊥

-- how a piece is written
abbrev pub IsWritten : Lexeme → Chars → Type 0
IsWritten lexeme.Blank s = IsBlank s
IsWritten lexeme.Line s = s ≡ newline ∷ []
IsWritten (lexeme.Token token) s = Spells token s

abbrev pub IsPiece : Piece → Type 0
IsPiece p = IsWritten p.lexeme p.spelling

-- ---- what may follow

-- a name, a keyword or a number
abbrev pub is_word : Lexeme → Bool
is_word (lexeme.Token (t.Name n)) = true
is_word (lexeme.Token (t.Word k)) = true
is_word (lexeme.Token (t.Int v)) = true
is_word _ = false

-- two quotes, and an `r` before them or none
abbrev pub IsEmptyText : ℕ → Chars → Type 0
IsEmptyText c s = (s ≡ c ∷ c ∷ []) ⊎ (s ≡ letter_r ∷ c ∷ c ∷ [])

-- the piece may stand before the rest
pub record Apart (p : Piece) (rest : Chars) : Type 0 where
  -- a word is not directly before a letter, a digit or `_`
  pub word : is_word p.lexeme ≡ true → is_in class.Name (first rest) ≡ false
  -- an `r` directly before a quote begins a text
  pub raw : p.spelling ≡ letter_r ∷ [] → is_quote (first rest) ≡ false
  -- two quotes directly before a third open a text with three
  pub doubled : (c : ℕ) → is_quote c ≡ true → IsEmptyText c p.spelling → first rest ≢ c

-- the piece is the longest that begins at its place
pub record Stands (p : Piece) (rest : Chars) : Type 0 where
  pub written : IsPiece p
  pub longest : (q : Piece) (more : Chars) → IsPiece q → p.spelling ++ rest ≡ q.spelling ++ more → length q.spelling ≤ length p.spelling
  pub apart : Apart p rest

-- ---- what is wrong at a place

-- a digit, then letters, digits and `_`, as far as they go
pub record IsDigits (w more : Chars) : Type 0 where
  pub starts : is_ascii_digit (first w) ≡ true
  pub all : list_all (is_in class.Name) w ≡ true
  pub stops : is_in class.Name (first more) ≡ false

-- a letter or `_`, then letters, digits and `_`, as far as they go
pub record IsLongWord (w more : Chars) : Type 0 where
  pub word : IsWord w
  pub stops : is_in class.Name (first more) ≡ false

-- with such a character begins a word, a number or a text
abbrev pub is_opening : ℕ → Bool
is_opening c = is_name_start c || (is_ascii_digit c || is_quote c)

-- no piece begins here, and no word, number or text that is faulty as a whole
pub record IsStray (text : Chars) : Type 0 where
  pub some : text ≢ []
  pub opening : is_opening (first text) ≡ false
  pub none : (q : Piece) (more : Chars) → IsPiece q → text ≢ q.spelling ++ more

-- a text cannot go on here
abbrev pub Stops : Style → Chars → Type 0
Stops q rest = (rest ≡ []) ⊎ (((q.is_wide ≡ false) × (first rest ≡ newline)) ⊎ ((q.is_raw ≡ true) × (rest ≡ backslash ∷ [])))

-- no escape begins here
abbrev pub NoEscape : Chars → Type 0
NoEscape text = (w more : Chars) → text ≡ w ++ more → escape w ≡ None

-- opening quotes, parts, and what follows them; no closing quotes
pub record IsBegun (q : Style) (parts : List Part) (more text : Chars) : Type 0 where
  pub quoted : is_quote q.quote ≡ true
  pub each : AreParts q parts more
  pub whole : text ≡ opening q ++ (parts_spelling parts ++ more)

-- what is wrong with the token that begins here, and how many characters stand before it
abbrev pub IsFaulty : Flaw → Chars → Type 0
IsFaulty (BadCharacter, n) text = IsStray text × (n ≡ 0)
IsFaulty (ReservedWord, n) text = (w more : Chars) × (r : Reserved) × (text ≡ w ++ more) × IsLongWord w more × (reserved_text r ≡ w) × (n ≡ 0)
IsFaulty (BadNumber, n) text = (w more : Chars) × (text ≡ w ++ more) × IsDigits w more × (numeral w ≡ None) × (n ≡ 0)
IsFaulty (WideNumber, n) text = (w more : Chars) × (v : ℕ) × (text ≡ w ++ more) × IsDigits w more × (numeral w ≡ Some v) × (widest < v) × (n ≡ 0)
IsFaulty (BadEscape, n) text = (q : Style) × (parts : List Part) × (more : Chars) × IsBegun q parts (backslash ∷ more) text × (q.is_raw ≡ false) × NoEscape more × (n ≡ length (opening q) + length (parts_spelling parts))
IsFaulty (OpenString, n) text = (q : Style) × (parts : List Part) × (more : Chars) × IsBegun q parts more text × Stops q more × (n ≡ 0)
IsFaulty (_, n) text = ⊥
