-- A digest that tells a list of operations.
use Rattle.std.specs.Prelude.{ℕ, List, [], ◌∷◌, ◌++◌}
use Rattle.std.specs.List.{fold}
use Rattle.plan_type.specs.declared.operations.Operation.{Operation}
use Rattle.sha2.specs.Sha256.{sha256}
use Rattle.hex.specs.Hex.{encode_lower}
use Rattle.tap_list.specs.Lines.{line_of}

-- after each operation the digest is that of its own bytes with the operation's line
abbrev pub linked : List ℕ → Operation → List ℕ
linked digest o = sha256 (digest ++ line_of o)

-- it starts as the digest of no bytes
abbrev pub digest_of : List Operation → List ℕ
digest_of os = fold linked (sha256 []) os

-- its digits, two for each byte, and a newline (10)
unfoldable pub chain_text : List ℕ → List ℕ
chain_text digest = encode_lower digest ++ 10 ∷ []
