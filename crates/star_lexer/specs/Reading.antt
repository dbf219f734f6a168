-- Readers of the piece at the front of a text: what it is, and how many characters it takes.
use Rattle.std.specs.Prelude.{ℕ, ◌&&◌, ◌||◌, ◌==◌, nat_lt, if◌then◌else◌, length, take, Option, Some, None, Result, Ok, Err}
use Rattle.std.specs.List.{prefix_len}
use Rattle.std.specs.Char.{is_ascii_digit}
use Rattle.star_lexer.specs.declared.chars.Class.TheVariants as class
use Rattle.star_lexer.specs.declared.error.LexKind.{LexKind}
use Rattle.star_lexer.specs.declared.error.LexKind.TheVariants.{BadCharacter, ReservedWord}
use Rattle.star_lexer.specs.declared.reserved.Reserved.{Reserved}
use Rattle.star_syntax.specs.declared.token.Mark.{Mark}
use Rattle.star_syntax.specs.declared.token.Keyword.{Keyword}
use Rattle.star_syntax.specs.declared.token.Token.{Token}
use Rattle.star_syntax.specs.declared.token.Token.TheVariants as t
use Rattle.star_lexer.specs.Lexeme.{Lexeme}
use Rattle.star_lexer.specs.Lexeme.{Blank, Line}
use Rattle.star_lexer.specs.Lexeme as lexeme
use Rattle.star_lexer.specs.Chars.{Chars, newline, backslash, is_name_start, is_in, first, rest}
use Rattle.star_lexer.specs.Flaws.{Read, here, ◌>>=◌}
use Rattle.star_lexer.specs.Numbers.{number}
use Rattle.star_lexer.specs.Texts.{is_text_start, literal}
use Rattle.star_lexer.specs.Words.{keyword_of, reserved_of, mark_of, mark_text}

-- ---- names and keywords

-- a keyword, a reserved word or a name
abbrev pub named : Option Keyword → Option Reserved → Chars → Result Token LexKind
named (Some k) r word = Ok (t.Word k)
named None (Some r) word = Err ReservedWord
named None None word = Ok (t.Name word)

-- the token that a whole word is
abbrev pub word_token : Chars → Result Token LexKind
word_token word = named (keyword_of word) (reserved_of word) word

-- ---- marks

abbrev pub mark_len : Option Mark → Result (Mark × ℕ) LexKind
mark_len None = Err BadCharacter
mark_len (Some m) = Ok (m, length (mark_text m))

abbrev pub or_else : {A : Type 0} → Option A → Option A → Option A
or_else None y = y
or_else (Some x) y = Some x

-- the longest mark at the front
unfoldable pub mark_at : Chars → Result (Mark × ℕ) LexKind
mark_at text = mark_len (or_else (mark_of (take 3 text)) (or_else (mark_of (take 2 text)) (mark_of (take 1 text))))

-- ---- pieces

-- how many characters of no token stand at the front, as one piece; 0 where none do
unfoldable pub blank_at : Chars → ℕ
blank_at text =
    if first text == 32 || first text == 9 then 1
    else (if first text == 35 then prefix_len (is_in class.Line) text
    else (if first text == backslash && first (rest text) == newline then 2 else 0))

-- the token at the front
unfoldable pub token_at : Chars → Read Token
token_at text =
    let n = prefix_len (is_in class.Name) text in
    if is_text_start text then (literal text >>= (λ p. Ok (t.Text p.0, p.1)))
    else (if is_name_start (first text) then (here (word_token (take n text)) >>= (λ v. Ok (v, n)))
    else (if is_ascii_digit (first text) then (here (number (take n text)) >>= (λ v. Ok (t.Int v, n)))
    else (here (mark_at text) >>= (λ p. Ok (t.Mark p.0, p.1)))))

-- the piece at the front
abbrev pub piece_at : Chars → Read Lexeme
piece_at text =
    if first text == newline then Ok (Line, 1)
    else (if nat_lt 0 (blank_at text) then Ok (Blank, blank_at text)
    else (token_at text >>= (λ p. Ok (lexeme.Token p.0, p.1))))
