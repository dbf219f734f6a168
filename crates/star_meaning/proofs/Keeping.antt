-- What holds of each operation by itself while lists and dicts are iterated over: steps are only spent, and what is iterated over stays
-- what it was.
use Rattle.std.proofs.Common.{◌≡◌, ℕ, List, [], ◌∷◌, ◌++◌, Bool, true, false, IsTrue, refl, sym, ap, arith, ◌∙◌}
use Rattle.std.specs.Prelude.{◌==◌, ◌||◌, Option, Some, None, is_some}
use Rattle.star_syntax.specs.declared.operator.BinaryOp.{BinaryOp}
use Rattle.star_syntax.specs.declared.operator.CompareOp.{CompareOp}
use Rattle.star_syntax.specs.declared.operator.UnaryOp.{UnaryOp}
use Rattle.star_value.specs.declared.builtin.Builtin.{Builtin}
use Rattle.star_value.specs.declared.key.Key.{Key}
use Rattle.star_value.specs.declared.value.Value.{Value, out-Value}
use Rattle.star_value.specs.declared.value.Value.TheOpen.{Value-F}
use Rattle.star_meaning.specs.State.{Object, State, dict, items_held, list, object, pairs_held}
use Rattle.star_meaning.specs.Steps.{Store, charge}
use Rattle.star_meaning.specs.Values.{has, items_at, items_in, items_of, key_values, new_dict, new_list, new_tuple}
use Rattle.star_meaning.specs.Comparing.{compare, key_in}
use Rattle.star_meaning.specs.Showing.{Naming, quoted, shown}
use Rattle.star_meaning.specs.Operators.{Bounds, augmented, binary, extend, index, slice, store, unary, unpacked}
use Rattle.star_meaning.specs.Builtins.{ByName, call_builtin}
use Rattle.star_meaning.specs.Methods.{call_method}
use Rattle.star_meaning.specs.World.{lock_at, lock_of}
use Rattle.star_meaning.specs.Renaming.{Names}
use Rattle.star_meaning.specs.Growing.{Later}
use Rattle.star_meaning.proofs.Renamed.{same_charge}
use Rattle.star_meaning.proofs.RenamedComparing.{same_compare, same_key_in}
use Rattle.star_meaning.proofs.RenamedShowing.{same_items_of, same_new_dict, same_new_list, same_new_tuple, same_quoted, same_shown}
use Rattle.star_meaning.proofs.RenamedOperators.{same_augmented, same_binary, same_extend, same_index, same_slice, same_store, same_unary, same_unpacked}
use Rattle.star_meaning.proofs.RenamedBuiltins.{same_call_builtin}
use Rattle.star_meaning.proofs.RenamedMethods.{same_call_method}
use Rattle.star_meaning.proofs.Alone.{Keeps}

module _ {C : Type 0} (here : C) (locked : List ℕ) where
  abbrev ours : Names C C
  ours = record { to = λ c. c; here = here; locked = locked; reads = λ n. true; good = λ c. true; here_good = refl }

  pub charge_keeps : (n : ℕ) → Keeps here locked (charge n)
  charge_keeps n = (same_charge ours n).keeps

  pub items_keep : (v : Value) → Keeps here locked (items_of v)
  items_keep v = (same_items_of ours v).keeps

  pub key_keeps : (v : Value) → Keeps here locked (key_in v)
  key_keeps v = (same_key_in ours v).keeps

  pub new_tuple_keeps : (items : List Value) → Keeps here locked (new_tuple items)
  new_tuple_keeps items = (same_new_tuple ours items).keeps

  pub new_list_keeps : (items : List Value) → Keeps here locked (new_list items)
  new_list_keeps items = (same_new_list ours items).keeps

  pub new_dict_keeps : (pairs : List (Key × Value)) → Keeps here locked (new_dict pairs)
  new_dict_keeps pairs = (same_new_dict ours pairs).keeps

  pub unary_keeps : (op : UnaryOp) (x : Value) → Keeps here locked (unary op x)
  unary_keeps op x = (same_unary ours op x).keeps

  pub compare_keeps : (op : CompareOp) (x y : Value) → Keeps here locked (compare op x y)
  compare_keeps op x y = (same_compare ours op x y).keeps

  pub index_keeps : (x at : Value) → Keeps here locked (index x at)
  index_keeps x at = (same_index ours x at).keeps

  pub slice_keeps : (x : Value) (bounds : Bounds) → Keeps here locked (slice x bounds)
  slice_keeps x bounds = (same_slice ours x bounds).keeps

  pub store_keeps : (x at v : Value) → Keeps here locked (store locked x at v)
  store_keeps x at v = (same_store ours x at v).keeps

  pub extend_keeps : (id : ℕ) (v : Value) → Keeps here locked (extend locked id v)
  extend_keeps id v = (same_extend ours id v).keeps

  pub unpacked_keeps : (count : ℕ) (v : Value) → Keeps here locked (unpacked count v)
  unpacked_keeps count v = (same_unpacked ours count v).keeps

  pub method_keeps : (name : List ℕ) (of : Value) (vs : List Value) (named : ByName) → Keeps here locked (call_method locked name of vs named)
  method_keeps name of vs named = (same_call_method ours name of vs named).keeps

  module _ (naming : Naming C) where
    pub quoted_keeps : (v : Value) → Keeps here locked (quoted naming v)
    quoted_keeps v = (same_quoted ours naming naming (λ c n. refl) v).keeps

    pub shown_keeps : (v : Value) → Keeps here locked (shown naming v)
    shown_keeps v = (same_shown ours naming naming (λ c n. refl) v).keeps

    pub binary_keeps : (op : BinaryOp) (x y : Value) → Keeps here locked (binary naming op x y)
    binary_keeps op x y = (same_binary ours naming naming (λ c n. refl) op x y).keeps

    pub augmented_keeps : (op : BinaryOp) (x y : Value) → Keeps here locked (augmented naming locked op x y)
    augmented_keeps op x y = (same_augmented ours naming naming (λ c n. refl) op x y).keeps

    pub builtin_keeps : (which : Builtin) (vs : List Value) (named : ByName) → Keeps here locked (call_builtin naming which vs named)
    builtin_keeps which vs named = (same_call_builtin ours naming naming (λ c n. refl) which vs named).keeps

  -- ---- what is iterated over

  there : (s : State C) (id : ℕ) (o : Option (Object C)) → object s id ≡ o → IsTrue (is_some o) → (p : Object C) × (object s id ≡ Some p)
  there s id None h k = absurd (grind (arith, k))
  there s id (Some p) h k = (p, h)

  object_stays : (s t : Store C) → Later here locked s t → (id : ℕ) → IsTrue (has locked id) → IsTrue (is_some (object s.state id)) → object t.state id ≡ object s.state id
  object_stays s t h id k l = let found = there s.state id (object s.state id) refl l in h.held id found.0 k found.1 ∙ sym found.1

  -- whether the list or dict that a value is is locked, and is there
  abbrev pub IsHeld : State C → List ℕ → Type 0
  IsHeld s ids = (id : ℕ) → IsTrue (has ids id) → IsTrue (has locked id) × IsTrue (is_some (object s id))

  has_itself : (id : ℕ) → IsTrue (has (id ∷ []) id)
  has_itself id = grind arith

  items_stay_at : (s t : Store C) → Later here locked s t → (x : Value-F Value) → IsHeld s.state (lock_at x) → items_at t.state x ≡ items_at s.state x
  unfolding list dict
  items_stay_at s t h (Value-F.List id) k = let held = k id (has_itself id) in ap (λ o. Some (items_held o)) (object_stays s t h id held.0 held.1)
  items_stay_at s t h (Value-F.Dict id) k = let held = k id (has_itself id) in ap (λ o. Some (key_values (pairs_held o))) (object_stays s t h id held.0 held.1)
  items_stay_at s t h _ k = refl

  -- what a value gives when it is iterated stays the same while it is locked
  pub items_stay : (s t : Store C) → Later here locked s t → (v : Value) → IsHeld s.state (lock_of v) → items_in t.state v ≡ items_in s.state v
  unfolding items_in
  items_stay s t h v k = items_stay_at s t h (out-Value v) k

has_after_at : (b c d : Bool) → (IsTrue c → IsTrue d) → IsTrue c → IsTrue (b || d)
has_after_at true c d h k = refl
has_after_at false c d h k = h k

-- what is locked last is locked
pub has_after : (locked more : List ℕ) (id : ℕ) → IsTrue (has more id) → IsTrue (has (locked ++ more) id)
has_after [] more id h = h
has_after (x ∷ locked) more id h = has_after_at (x == id) (has more id) (has (locked ++ more) id) (has_after locked more id) h
