-- A name is that of a method where its bytes are.
use Rattle.std.proofs.Common.{◌≡◌, ℕ, Bool, true, false, List, Option, Some, None, refl, sym, ap, ◌∙◌}
use Rattle.std.specs.Prelude.{if◌then◌else◌, option_map, codes, bytes_eq}
use Rattle.std.specs.Str.{encode_utf8_all}
use Rattle.chex_base.proofs.TextOrderLemmas.{bytes_eq-encoded}
use Rattle.star_meaning.specs.Methods as spec
use Rattle.star_meaning.specs.Values.{named_in}
use Rattle.star_builtins.specs.declared.method_names.DictMethod.TheVariants as dict
use Rattle.star_builtins.specs.declared.method_names.ListMethod.TheVariants as list
use Rattle.star_builtins.specs.declared.method_names.TextMethod.TheVariants as text
use Rattle.star_builtins.specs.MethodNames.{list_method, list_named, dict_method, dict_named, text_method, text_named}

same : (name word bytes : List ℕ) → encode_utf8_all word ≡ bytes → bytes_eq (encode_utf8_all name) bytes ≡ bytes_eq name word
same name word bytes is = ap (bytes_eq (encode_utf8_all name)) (sym is) ∙ bytes_eq-encoded name word

picked : {M X : Type 0} (f : M → X) (b : Bool) (m : M) (o : Option M) → option_map f (if b then Some m else o) ≡ (if b then Some (f m) else option_map f o)
picked f true m o = refl
picked f false m o = refl

-- one test after another
pick : {M X : Type 0} (f : M → X) (b c : Bool) (m : M) (o : Option M) (p : Option X) → b ≡ c → option_map f o ≡ p → option_map f (if b then Some m else o) ≡ (if c then Some (f m) else p)
pick f b c m o p is rest = picked f b m o ∙ ap (λ d. if d then Some (f m) else option_map f o) is ∙ ap (λ q. if c then Some (f m) else q) rest

list_at : (name : List ℕ) → option_map list_method (list_named (encode_utf8_all name)) ≡ named_in spec.list_methods name
unfolding lib.Utf8.encode
list_at name =
    pick list_method _ _ list.Append _ _ (same name (codes "append") _ refl)
    (pick list_method _ _ list.Clear _ _ (same name (codes "clear") _ refl)
    (pick list_method _ _ list.Extend _ _ (same name (codes "extend") _ refl)
    (pick list_method _ _ list.Insert _ _ (same name (codes "insert") _ refl)
    (pick list_method _ _ list.Pop _ _ (same name (codes "pop") _ refl)
    (pick list_method _ _ list.Remove _ _ (same name (codes "remove") _ refl)
    (pick list_method _ _ list.Index _ _ (same name (codes "index") _ refl) refl))))))

dict_at : (name : List ℕ) → option_map dict_method (dict_named (encode_utf8_all name)) ≡ named_in spec.dict_methods name
unfolding lib.Utf8.encode
dict_at name =
    pick dict_method _ _ dict.Get _ _ (same name (codes "get") _ refl)
    (pick dict_method _ _ dict.Pop _ _ (same name (codes "pop") _ refl)
    (pick dict_method _ _ dict.SetDefault _ _ (same name (codes "setdefault") _ refl)
    (pick dict_method _ _ dict.Keys _ _ (same name (codes "keys") _ refl)
    (pick dict_method _ _ dict.Values _ _ (same name (codes "values") _ refl)
    (pick dict_method _ _ dict.Items _ _ (same name (codes "items") _ refl)
    (pick dict_method _ _ dict.Update _ _ (same name (codes "update") _ refl)
    (pick dict_method _ _ dict.Clear _ _ (same name (codes "clear") _ refl) refl)))))))

text_at : (name : List ℕ) → option_map text_method (text_named (encode_utf8_all name)) ≡ named_in spec.text_methods name
unfolding lib.Utf8.encode
text_at name =
    pick text_method _ _ text.Find _ _ (same name (codes "find") _ refl)
    (pick text_method _ _ text.Split _ _ (same name (codes "split") _ refl)
    (pick text_method _ _ text.Join _ _ (same name (codes "join") _ refl)
    (pick text_method _ _ text.Replace _ _ (same name (codes "replace") _ refl)
    (pick text_method _ _ text.Strip _ _ (same name (codes "strip") _ refl)
    (pick text_method _ _ text.LeftStrip _ _ (same name (codes "lstrip") _ refl)
    (pick text_method _ _ text.RightStrip _ _ (same name (codes "rstrip") _ refl)
    (pick text_method _ _ text.StartsWith _ _ (same name (codes "startswith") _ refl)
    (pick text_method _ _ text.EndsWith _ _ (same name (codes "endswith") _ refl) refl))))))))

-- the look-up by the bytes of a name
pub list_by : (name bytes : List ℕ) → bytes ≡ encode_utf8_all name → option_map list_method (list_named bytes) ≡ named_in spec.list_methods name
list_by name bytes is = ap (λ b. option_map list_method (list_named b)) is ∙ list_at name

pub dict_by : (name bytes : List ℕ) → bytes ≡ encode_utf8_all name → option_map dict_method (dict_named bytes) ≡ named_in spec.dict_methods name
dict_by name bytes is = ap (λ b. option_map dict_method (dict_named b)) is ∙ dict_at name

pub text_by : (name bytes : List ℕ) → bytes ≡ encode_utf8_all name → option_map text_method (text_named bytes) ≡ named_in spec.text_methods name
text_by name bytes is = ap (λ b. option_map text_method (text_named b)) is ∙ text_at name

pub ruleset named = (list_by, dict_by, text_by)
