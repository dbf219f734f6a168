-- Whether trees read no other inputs than some.
use Rattle.std.specs.Prelude.{ℕ, Bool, true, List, IsTrue}
use Rattle.std.specs.List.{flat_map, list_all}
use Rattle.star_syntax.specs.declared.statement.Block.{Block}
use Rattle.star_syntax.specs.declared.statement.Block.TheVariants.{Inline, Indented}
use Rattle.star_syntax.specs.declared.statement.Statement.{Statement}
use Rattle.star_syntax.specs.Placement.{Use, Literal, Other, Finding, Reads, Breaks, in_body, line_findings, statement_findings}

abbrev pub use_in : (List ℕ → Bool) → Use → Bool
use_in reads (Literal name) = reads name
use_in reads Other = true

abbrev pub finding_in : (List ℕ → Bool) → Finding → Bool
finding_in reads (Reads name) = reads name
finding_in reads (Breaks breach line) = true

-- uses of the name `input`, and what statements show
abbrev pub UsesIn : (List ℕ → Bool) → List Use → Type 0
UsesIn reads uses = IsTrue (list_all (use_in reads) uses)

abbrev pub FindingsIn : (List ℕ → Bool) → List Finding → Type 0
FindingsIn reads findings = IsTrue (list_all (finding_in reads) findings)

-- what the body of a function shows
abbrev pub body_findings : Block Statement → List Finding
body_findings (Inline line) = line_findings in_body line
body_findings (Indented all) = flat_map (λ s. statement_findings s in_body) all
