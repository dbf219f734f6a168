-- What lex promises.
use Rattle.std.specs.Prelude.{◌≡◌, ℕ, List, Result, Ok, Err}
use Rattle.star_lexer.specs.declared.error.LexKind.{LexKind}
use Rattle.star_lexer.specs.declared.error.LexFault.{LexFault}
use Rattle.star_lexer.specs.declared.error.LexFault.TheVariants.{NoMemory, Bad}
use Rattle.star_syntax.specs.declared.token.Spanned.{Spanned}
use Rattle.star_lexer.specs.Chars.{Chars}
use Rattle.star_lexer.specs.Tokens.{Tokens, FirstFault}

-- the answer is so, unless memory fails
abbrev pub IsSo : Chars → Result (List Spanned) LexFault → Type 0
IsSo text (Ok list) = Tokens text list
IsSo text (Err (Bad kind line)) = FirstFault text kind line
IsSo text (Err NoMemory) = Unit {0}

-- the answer is these tokens, unless memory fails
abbrev pub Answers : List Spanned → Result (List Spanned) LexFault → Type 0
Answers list (Ok found) = found ≡ list
Answers list (Err (Bad kind line)) = ⊥
Answers list (Err NoMemory) = Unit {0}

-- the answer is this fault, unless memory fails
abbrev pub Refuses : ℕ → LexKind → Result (List Spanned) LexFault → Type 0
Refuses line kind (Ok found) = ⊥
Refuses line kind (Err (Bad bad place)) = (bad ≡ kind) × (place ≡ line)
Refuses line kind (Err NoMemory) = Unit {0}

abbrev pub HasTokens : Chars → Type 0
HasTokens text = (list : List Spanned) × Tokens text list

abbrev pub HasFault : Chars → Type 0
HasFault text = (kind : LexKind) × (line : ℕ) × FirstFault text kind line
