-- One more name of an inputs file, the names' order, and their count.
use Rattle.std.proofs.Common.{◌≡◌, ℕ, ◌<◌, ◌≤◌, List, [], ◌∷◌, ◌++◌, length, map, Some, Result, Ok, Err, String, Global, Less, string_bytes, string_cmp, refl, sym, ◌∙◌, ap, arith, append_assoc}
use Rattle.std.specs.Cmp.Lexicographic.{slice_cmp}
use Rattle.std.specs.List.{AllByRecursion}
use Rattle.std.specs.List.Sorted.{IsStrictlySortedBy}
use Rattle.std.specs.Map.{keys_of}
use Rattle.std.specs.Ordering.{nat_cmp}
use Rattle.std.specs.Str.{chars, encode_utf8_all}
use Rattle.std.proofs.lemmas.Grind.{common_steps}
use Rattle.std.proofs.lemmas.Str.{IsUtf8-string_bytes}
use Rattle.serde_json.specs.View.{view, members_view}
use Rattle.serde_json.specs.Events.{members_len}
use Rattle.serde_json.proofs.Views.{Entry, members_len-members_view}
use Rattle.serde_json.specs.declared.value.Value.{Value}
use Rattle.chex_base.specs.TextOrder.{text_cmp}
use Rattle.chex_base.specs.declared.input.Input.{Input}
use Rattle.chex_base.proofs.TextLemmas.{encodes_of_chars}
use Rattle.chex_base.proofs.TextOrderLemmas.{bytes_cmp-encoded}
use Rattle.chex_base.proofs.InputsLemmas.{keys_of-append}
use Rattle.nb_reader.specs.Inputs.{inputs_before, values_of, input_of, inputs_of}
use Rattle.nb_reader.specs.declared.fault.NbFault.{NbFault}
use Rattle.nb_reader.specs.declared.fault.NbFault.TheVariants.{TooMany}
use Rattle.nb_reader.specs.declared.fault.Counted.TheVariants.{Inputs}

-- a key as a text
abbrev pub name_of : String Global → List ℕ
name_of key = chars (string_bytes key)

-- the names of members
abbrev pub names_of : List Entry → List (List ℕ)
names_of es = map (λ e. name_of e.0) es

name_of-Less : (a b : String Global) → string_cmp a b ≡ Less → text_cmp (name_of a) (name_of b) ≡ Less
name_of-Less a b less =
    sym (bytes_cmp-encoded (name_of a) (name_of b))
    ∙ ap (λ bytes. slice_cmp nat_cmp bytes (encode_utf8_all (name_of b))) (encodes_of_chars (string_bytes a) (IsUtf8-string_bytes a))
    ∙ ap (slice_cmp nat_cmp (string_bytes a)) (encodes_of_chars (string_bytes b) (IsUtf8-string_bytes b))
    ∙ less

all_above : (first : String Global) (es : List Entry) → AllByRecursion (λ y. string_cmp first y ≡ Less) (keys_of es)
    → AllByRecursion (λ y. text_cmp (name_of first) y ≡ Less) (names_of es)
all_above first [] h = tt
all_above first (e ∷ es) h = (name_of-Less first e.0 h.0, all_above first es h.1)

-- keys in byte order are names in order
pub names_of-sorted : (es : List Entry) → IsStrictlySortedBy string_cmp (keys_of es) → IsStrictlySortedBy text_cmp (names_of es)
unfolding IsStrictlySortedBy
names_of-sorted [] h = tt
names_of-sorted (e ∷ es) h = (all_above e.0 es h.0, names_of-sorted es h.1)

pub nothing_before : (rest : Result (List (List ℕ × Input)) NbFault) → inputs_before [] rest ≡ rest
nothing_before (Ok rest) = refl
nothing_before (Err e) = refl

two_fronts : (xs ys : List (List ℕ × Input)) (rest : Result (List (List ℕ × Input)) NbFault) → inputs_before (xs ++ ys) rest ≡ inputs_before xs (inputs_before ys rest)
two_fronts xs ys (Ok rest) = ap Ok (append_assoc xs ys rest)
two_fronts xs ys (Err e) = refl

pub one_more : (inputs : List (List ℕ × Input)) (key : String Global) (v : Value) (rest : List Entry) (value : Input) (all : Result (List (List ℕ × Input)) NbFault)
    → input_of (view v) ≡ Some value → inputs_before inputs (values_of (members_view ((key, v) ∷ rest))) ≡ all
    → inputs_before (inputs ++ (name_of key, value) ∷ []) (values_of (members_view rest)) ≡ all
one_more inputs key v rest value all good before =
    two_fronts inputs ((name_of key, value) ∷ []) (values_of (members_view rest)) ∙ rw good at before

-- the names after one more
pub names-one_more : (inputs : List (List ℕ × Input)) (name : List ℕ) (value : Input) (rest : List (List ℕ))
    → keys_of (inputs ++ (name, value) ∷ []) ++ rest ≡ keys_of inputs ++ name ∷ rest
names-one_more inputs name value rest =
    ap (λ names. names ++ rest) (keys_of-append inputs ((name, value) ∷ [])) ∙ append_assoc (keys_of inputs) (name ∷ []) rest

pub too_many : (es : List Entry) (n : ℕ) → n ≡ length es → 256 < n → inputs_of (members_view es) ≡ Err (TooMany Inputs n)
too_many es n is more =
    let len : members_len (members_view es) ≡ n = members_len-members_view es ∙ sym is in
    rw len (grind (arith, common_steps))

pub not_too_many : (es : List Entry) (n : ℕ) → n ≡ length es → n ≤ 256 → inputs_of (members_view es) ≡ values_of (members_view es)
not_too_many es n is few =
    let len : members_len (members_view es) ≡ n = members_len-members_view es ∙ sym is in
    rw len (grind (arith, common_steps))
