-- The names of the methods, and the methods that they name.
use Rattle.std.specs.Prelude.{ℕ, Bool, true, false, if◌then◌else◌, List, Option, Some, None, codes, bytes_eq}
use Rattle.star_builtins.specs.declared.method_names.DictMethod.{DictMethod}
use Rattle.star_builtins.specs.declared.method_names.DictMethod.TheVariants as dict
use Rattle.star_builtins.specs.declared.method_names.ListMethod.{ListMethod}
use Rattle.star_builtins.specs.declared.method_names.ListMethod.TheVariants as list
use Rattle.star_builtins.specs.declared.method_names.TextMethod.{TextMethod}
use Rattle.star_builtins.specs.declared.method_names.TextMethod.TheVariants as text
use Rattle.star_value.specs.Texts as texts
use Rattle.star_meaning.specs.Methods as spec

-- ---- lists

abbrev pub list_method : ListMethod → spec.ObjectMethod ℕ
list_method list.Append = spec.append
list_method list.Clear = spec.clear_list
list_method list.Extend = spec.extend_by
list_method list.Insert = spec.insert_in
list_method list.Pop = spec.pop_item
list_method list.Remove = spec.remove_item
list_method list.Index = spec.index_of

-- the method of lists that these bytes name
abbrev pub list_named : List ℕ → Option ListMethod
list_named name =
    if bytes_eq name (codes "append") then Some list.Append
    else if bytes_eq name (codes "clear") then Some list.Clear
    else if bytes_eq name (codes "extend") then Some list.Extend
    else if bytes_eq name (codes "insert") then Some list.Insert
    else if bytes_eq name (codes "pop") then Some list.Pop
    else if bytes_eq name (codes "remove") then Some list.Remove
    else if bytes_eq name (codes "index") then Some list.Index
    else None

-- ---- dicts

abbrev pub dict_method : DictMethod → spec.ObjectMethod ℕ
dict_method dict.Get = spec.get
dict_method dict.Pop = spec.pop_key
dict_method dict.SetDefault = spec.set_default
dict_method dict.Keys = spec.keys_of
dict_method dict.Values = spec.values_of
dict_method dict.Items = spec.items_of_dict
dict_method dict.Update = spec.update
dict_method dict.Clear = spec.clear_dict

abbrev pub dict_named : List ℕ → Option DictMethod
dict_named name =
    if bytes_eq name (codes "get") then Some dict.Get
    else if bytes_eq name (codes "pop") then Some dict.Pop
    else if bytes_eq name (codes "setdefault") then Some dict.SetDefault
    else if bytes_eq name (codes "keys") then Some dict.Keys
    else if bytes_eq name (codes "values") then Some dict.Values
    else if bytes_eq name (codes "items") then Some dict.Items
    else if bytes_eq name (codes "update") then Some dict.Update
    else if bytes_eq name (codes "clear") then Some dict.Clear
    else None

-- ---- texts

abbrev pub text_method : TextMethod → spec.TextMethod ℕ
text_method text.Find = spec.find
text_method text.Split = spec.split
text_method text.Join = spec.join
text_method text.Replace = spec.replace
text_method text.Strip = spec.strip_ends true true
text_method text.LeftStrip = spec.strip_ends true false
text_method text.RightStrip = spec.strip_ends false true
text_method text.StartsWith = spec.tested_with texts.starts_with
text_method text.EndsWith = spec.tested_with texts.ends_with

abbrev pub text_named : List ℕ → Option TextMethod
text_named name =
    if bytes_eq name (codes "find") then Some text.Find
    else if bytes_eq name (codes "split") then Some text.Split
    else if bytes_eq name (codes "join") then Some text.Join
    else if bytes_eq name (codes "replace") then Some text.Replace
    else if bytes_eq name (codes "strip") then Some text.Strip
    else if bytes_eq name (codes "lstrip") then Some text.LeftStrip
    else if bytes_eq name (codes "rstrip") then Some text.RightStrip
    else if bytes_eq name (codes "startswith") then Some text.StartsWith
    else if bytes_eq name (codes "endswith") then Some text.EndsWith
    else None
