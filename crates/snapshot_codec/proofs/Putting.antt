-- A key that stands in no pair is put behind them.
use Rattle.std.proofs.Common.{◌≡◌, Bool, true, false, cond, List, [], ◌∷◌, ◌++◌, Some, None, refl, ap}
use Rattle.star_value.specs.declared.key.Key.{Key}
use Rattle.star_value.specs.declared.value.Value.{Value}
use Rattle.star_value.specs.KeyOrder.{same_key}
use Rattle.star_meaning.specs.State.{dict_get, dict_put}

put_here : (key : Key) (v : Value) (pair : Key × Value) (pairs : List (Key × Value)) (b : Bool) → cond b (Some pair.1) (dict_get pairs key) ≡ None → (dict_get pairs key ≡ None → dict_put pairs key v ≡ pairs ++ (key, v) ∷ [])
    → cond b ((pair.0, v) ∷ pairs) (pair ∷ dict_put pairs key v) ≡ pair ∷ (pairs ++ (key, v) ∷ [])
put_here key v pair pairs true h more = absurd cc
put_here key v pair pairs false h more = ap (λ (rest : List (Key × Value)). pair ∷ rest) (more h)

pub put_new : (pairs : List (Key × Value)) (key : Key) (v : Value) → dict_get pairs key ≡ None → dict_put pairs key v ≡ pairs ++ (key, v) ∷ []
unfolding dict_get dict_put
put_new [] key v h = refl
put_new (pair ∷ pairs) key v h = put_here key v pair pairs (same_key key pair.0) h (put_new pairs key v)
