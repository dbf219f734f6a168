-- A name is that of a built-in function where its bytes are.
use Rattle.std.proofs.Common.{◌≡◌, ℕ, Bool, List, Option, Some, None, refl, sym, ap, ◌∙◌}
use Rattle.std.specs.Prelude.{if◌then◌else◌, codes, bytes_eq}
use Rattle.std.specs.Str.{encode_utf8_all}
use Rattle.chex_base.proofs.TextOrderLemmas.{bytes_eq-encoded}
use Rattle.star_value.specs.declared.builtin.Builtin.{Builtin}
use Rattle.star_value.specs.declared.builtin.Builtin.TheVariants as builtin
use Rattle.star_meaning.specs.Values.{builtins, builtin_of, named_in}
use Rattle.star_run.specs.Names.{builtin_named}

same : (name word bytes : List ℕ) → encode_utf8_all word ≡ bytes → bytes_eq (encode_utf8_all name) bytes ≡ bytes_eq name word
same name word bytes is = ap (bytes_eq (encode_utf8_all name)) (sym is) ∙ bytes_eq-encoded name word

-- one test after another
pick : {X : Type 0} (b c : Bool) (x : X) (o p : Option X) → b ≡ c → o ≡ p → (if b then Some x else o) ≡ (if c then Some x else p)
pick b c x o p is rest = ap (λ d. if d then Some x else o) is ∙ ap (λ q. if c then Some x else q) rest

builtin_at : (name : List ℕ) → builtin_named (encode_utf8_all name) ≡ named_in builtins name
unfolding lib.Utf8.encode
builtin_at name =
    (pick _ _ builtin.Abs _ _ (same name (codes "abs") _ refl)
    (pick _ _ builtin.All _ _ (same name (codes "all") _ refl)
    (pick _ _ builtin.Any _ _ (same name (codes "any") _ refl)
    (pick _ _ builtin.Bool _ _ (same name (codes "bool") _ refl)
    (pick _ _ builtin.Dict _ _ (same name (codes "dict") _ refl)
    (pick _ _ builtin.Enumerate _ _ (same name (codes "enumerate") _ refl)
    (pick _ _ builtin.Int _ _ (same name (codes "int") _ refl)
    (pick _ _ builtin.Len _ _ (same name (codes "len") _ refl)
    (pick _ _ builtin.List _ _ (same name (codes "list") _ refl)
    (pick _ _ builtin.Max _ _ (same name (codes "max") _ refl)
    (pick _ _ builtin.Min _ _ (same name (codes "min") _ refl)
    (pick _ _ builtin.Print _ _ (same name (codes "print") _ refl)
    (pick _ _ builtin.Range _ _ (same name (codes "range") _ refl)
    (pick _ _ builtin.Repr _ _ (same name (codes "repr") _ refl)
    (pick _ _ builtin.Reversed _ _ (same name (codes "reversed") _ refl)
    (pick _ _ builtin.Sorted _ _ (same name (codes "sorted") _ refl)
    (pick _ _ builtin.Str _ _ (same name (codes "str") _ refl)
    (pick _ _ builtin.Tuple _ _ (same name (codes "tuple") _ refl)
    (pick _ _ builtin.Type _ _ (same name (codes "type") _ refl)
    (pick _ _ builtin.Zip _ _ (same name (codes "zip") _ refl)
    refl))))))))))))))))))))

-- the look-up by the bytes of a name
pub builtin_by : (name bytes : List ℕ) → bytes ≡ encode_utf8_all name → builtin_named bytes ≡ builtin_of name
unfolding builtin_of
builtin_by name bytes is = ap builtin_named is ∙ builtin_at name
