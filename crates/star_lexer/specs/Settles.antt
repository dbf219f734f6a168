-- What the steps of a layout ensure.
use Rattle.std.specs.Prelude.{◌≡◌, List, ◌++◌, Result, Ok, Err}
use Rattle.star_lexer.specs.declared.error.LexFault.{LexFault}
use Rattle.star_lexer.specs.declared.error.LexFault.TheVariants.{NoMemory, Bad}
use Rattle.star_lexer.specs.declared.error.LexKind.{LexKind}
use Rattle.star_lexer.specs.declared.layout.Layout.{Layout}
use Rattle.star_syntax.specs.declared.token.Spanned.{Spanned}
use Rattle.star_lexer.specs.Scan.{Lexed}

-- the layout that is left and the tokens that were written, or the fault, unless memory fails
abbrev pub Settles : Lexed (Layout × List Spanned) → Result (Unit {0}) LexFault → Layout → List Spanned → List Spanned → Type 0
Settles read (Ok _) layout old new = (given : List Spanned) × (read ≡ Ok (layout, given)) × (new ≡ old ++ given)
Settles read (Err NoMemory) layout old new = Unit {0}
Settles read (Err (Bad kind line)) layout old new = read ≡ Err (kind, line)

-- the layout that is left, or the fault
abbrev pub Brackets : Result Layout LexKind → Result (Unit {0}) LexKind → Layout → Type 0
Brackets read (Ok _) layout = read ≡ Ok layout
Brackets read (Err kind) layout = read ≡ Err kind
