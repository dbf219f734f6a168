-- What is still to be read of a numeral.
use Rattle.std.specs.Prelude.{ℕ, Bool, true, false, List, Option, Some, None, option_map, ℤ, pos, neg_ℤ}
use Rattle.star_meaning.specs.Builtins.{digits, digits_from, read_int}
use Rattle.star_meaning.specs.Values.{in_range}
use Rattle.star_builtins.specs.declared.functions.numerals.Reading.{Reading}
use Rattle.star_builtins.specs.declared.functions.numerals.Reading.TheVariants.{Nothing, Sign, Size, Bad}

-- a size with its sign, where it fits 128 bits
abbrev pub whole : Bool → ℕ → Option ℤ
whole true n = in_range (neg_ℤ (pos n))
whole false n = in_range (pos n)

-- the integer of what was read and of further code points
unfoldable pub continued : Reading → List ℕ → Option (Option ℤ)
continued Nothing more = option_map in_range (read_int more)
continued (Sign negative) more = option_map (whole negative) (digits more)
continued (Size negative size) more = option_map (whole negative) (digits_from (Some size) more)
continued Bad more = None
