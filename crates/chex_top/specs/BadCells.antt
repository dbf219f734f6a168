-- The line that is written for a cell that is refused.
use Rattle.std.specs.Prelude.{ℕ, List, ◌++◌, codes}
use Rattle.std.specs.Fmt.{decimal}
use Rattle.std.specs.Str.{encode_utf8_all}
use Rattle.star_lexer.specs.declared.error.LexKind.{LexKind}
use Rattle.star_lexer.specs.declared.error.LexKind.TheVariants as token
use Rattle.star_resolver.specs.declared.error.ResolveKind.{ResolveKind}
use Rattle.star_resolver.specs.declared.error.ResolveKind.TheVariants as placement
use Rattle.cell_reader.specs.declared.cell.Reason.{Reason}
use Rattle.cell_reader.specs.declared.cell.Reason.TheVariants as reason
use Rattle.chex_top.specs.declared.bad_cell.BadCell.{BadCell}

-- how what is wrong with the tokens is named
unfoldable pub token_name : LexKind → List ℕ
token_name token.BadCharacter = codes "BadCharacter"
token_name token.BadIndent = codes "BadIndent"
token_name token.OpenString = codes "OpenString"
token_name token.BadEscape = codes "BadEscape"
token_name token.BadNumber = codes "BadNumber"
token_name token.WideNumber = codes "WideNumber"
token_name token.ReservedWord = codes "ReservedWord"
token_name token.TooNested = codes "TooNested"

-- how a breach of a rule of placement is named
unfoldable pub placement_name : ResolveKind → List ℕ
placement_name placement.NestedDef = codes "NestedDef"
placement_name placement.MisplacedReturn = codes "MisplacedReturn"
placement_name placement.MisplacedBreak = codes "MisplacedBreak"
placement_name placement.InputNotLiteral = codes "InputNotLiteral"
placement_name placement.RepeatedParameter = codes "RepeatedParameter"

abbrev pub reason_name : Reason → List ℕ
reason_name (reason.Token kind) = token_name kind
reason_name reason.Unexpected = codes "Unexpected"
reason_name (reason.Placement kind) = placement_name kind

abbrev pub cell_line : List ℕ → ℕ → ℕ → List ℕ → List ℕ
cell_line name cell line kind = codes "error: " ++ name ++ codes " cell " ++ decimal cell ++ codes " line " ++ decimal line ++ codes ": " ++ kind ++ codes "\n"

-- the line for a cell that is refused, in bytes
abbrev pub line_of : BadCell → List ℕ
line_of bad = cell_line (encode_utf8_all bad.name) bad.cell bad.line (reason_name bad.reason)
