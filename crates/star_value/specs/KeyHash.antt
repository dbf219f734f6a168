-- What a key feeds a hasher.
use Rattle.std.specs.Prelude.{List, [], ◌∷◌, ◌++◌, length}
use Rattle.std.specs.Hash as fed
use Rattle.std.specs.Hash.{HashWrites, Alike, same_Alike}
use Rattle.std.specs.Str.{encode_utf8_all}
use Rattle.star_value.specs.declared.key.Key.{Key, fold-Key}
use Rattle.star_value.specs.declared.key.Key.TheOpen.{Key-F}
use Rattle.star_value.specs.KeyLaws.{same_key-Decides}
use Rattle.star_value.specs.KeyOrder.{same_key}

-- the writes of each list in turn
abbrev pub concat : List HashWrites → HashWrites
concat [] = []
concat (w ∷ ws) = w ++ concat ws

-- a byte for the kind, and then what the key holds: of a tuple the number of its parts, and the parts
abbrev pub writes_layer : Key-F HashWrites → HashWrites
writes_layer Key-F.None = fed.u8 0
writes_layer (Key-F.Bool truth) = fed.u8 1 ++ fed.bool truth
writes_layer (Key-F.Int number) = fed.u8 2 ++ fed.i128 number
writes_layer (Key-F.Text text) = fed.u8 3 ++ fed.str (encode_utf8_all text)
writes_layer (Key-F.Tuple parts) = fed.u8 4 ++ fed.usize (length parts) ++ concat parts

unfoldable pub writes : Key → HashWrites
writes = fold-Key HashWrites writes_layer

-- equal keys are one value, and so make the same writes
pub writes_Alike : Alike same_key writes
writes_Alike = same_Alike writes same_key-Decides
