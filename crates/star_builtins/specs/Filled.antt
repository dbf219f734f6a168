-- The parts of a format with their values, one by one.
use Rattle.std.specs.Prelude.{ℕ, Bool, true, List, Option, Some, None, is_some}
use Rattle.star_value.specs.declared.format.Part.{Part}
use Rattle.star_value.specs.declared.format.Part.TheVariants as part
use Rattle.star_value.specs.declared.value.Value.{Value}
use Rattle.star_meaning.specs.Steps.{Action, pure}
use Rattle.star_meaning.specs.Operators.{decimal_text}
use Rattle.star_meaning.specs.Showing.{Naming, quoted, shown}
use Rattle.star_meaning.specs.Values.{int_in}

-- the text of a part that takes no value
abbrev pub plain_of : Part → Option (List ℕ)
plain_of (part.Plain text) = Some text
plain_of part.Shown = None
plain_of part.Quoted = None
plain_of part.Decimal = None

-- whether a value may stand for a part
abbrev pub part_fits : Part → Value → Bool
part_fits (part.Plain text) v = true
part_fits part.Shown v = true
part_fits part.Quoted v = true
part_fits part.Decimal v = is_some (int_in v)

-- what a value makes of a part
unfoldable pub piece : {C : Type 0} → Naming C → Part → Value → Action C (List ℕ)
piece naming (part.Plain text) v = pure text
piece naming part.Shown v = shown naming v
piece naming part.Quoted v = quoted naming v
piece naming part.Decimal v = pure (decimal_text (int_in v))
