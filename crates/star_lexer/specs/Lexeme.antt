-- What a piece of a source is.
use Rattle.star_syntax.specs.declared.token.Token as tokens

pub data Lexeme : Type 0 where
  -- white space within a line, or a comment
  Blank : Lexeme
  -- a newline
  Line : Lexeme
  -- a token that is written
  Token : tokens.Token → Lexeme
