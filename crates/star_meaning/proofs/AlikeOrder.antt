-- To be alike goes both ways, and from one state over a second to a third.
use Rattle.std.proofs.Common.{◌≡◌, ℕ, ℤ, List, [], ◌∷◌, map, Bool, true, false, IsTrue, refl, sym, ap, subst, ◌∙◌}
use Rattle.std.proofs.lemmas.Bool.Decides.{Decides-eqb, Decides-int_eq}
use Rattle.std.proofs.lemmas.Slice.Eq.{bytes_eq-Decides}
use Rattle.std.specs.Cmp.{booleans_Decides}
use Rattle.std.specs.Prelude.{◌==◌, ◌&&◌, not, if◌then◌else◌, Option, Some, None, bytes_eq}
use Rattle.star_value.specs.declared.builtin.Builtin.{Builtin}
use Rattle.star_value.specs.declared.key.Key.{Key}
use Rattle.star_value.specs.declared.range.Range.{Range}
use Rattle.star_value.specs.declared.value.Value.{Value, ind-Value, map-Value, out-Value, roll-Value, roll-out-Value}
use Rattle.star_value.specs.declared.value.Value.TheOpen.{Value-F}
use Rattle.star_value.specs.KeyLaws.{same_key-Decides}
use Rattle.star_value.specs.KeyOrder.{all_hold, same_key}
use Rattle.star_meaning.specs.State.{Object, AList, ADict, AFunction, State, object}
use Rattle.star_meaning.specs.Values.{has}
use Rattle.star_meaning.specs.Alike.{IsAlike, LikeFound, LikeObjects, Pairs, are_apart, is_pair, like, like_global, like_items, like_layer, like_pair, like_pairs}
use Rattle.star_meaning.proofs.AlikeNumbers.{and_both, both_and, firsts, has_first, has_second, in_or_first, in_or_second, itself, not_both, not_so, not_true, or_either, pair_first, same_number, seconds}
use Rattle.star_meaning.proofs.AlikeValues.{builtins_same, like_rolled, ranges_same}

-- ---- a relation between layers, by its kinds

-- what corresponds under a list does so under another one where the numbers are pairs there and the items correspond
module _ (p q r : Pairs) where
  -- values over three states
  abbrev Over : Value → Type 0
  Over x = (y z : Value) → IsTrue (like p x y) → IsTrue (like q y z) → IsTrue (like r x z)

  abbrev Known : Type 0
  Known = (v : Value) × Over v

  abbrev bare : Value-F Known → Value-F Value
  bare = map-Value Known Value (λ e. e.0)

  abbrev tests : Pairs → Value-F Value → Value-F (Value → Bool)
  tests pairs x = map-Value Value (Value → Bool) (like pairs) x

  items_over : (all : List Known) (ys zs : List Value) → IsTrue (all_hold (map (like p) (map (λ e. e.0) all)) ys) → IsTrue (all_hold (map (like q) ys) zs) → IsTrue (all_hold (map (like r) (map (λ e. e.0) all)) zs)
  items_over [] [] zs h k = k
  items_over [] (y ∷ ys) zs h k = absurd (not_true h)
  items_over (e ∷ all) [] zs h k = absurd (not_true h)
  items_over (e ∷ all) (y ∷ ys) [] h k = absurd (not_true k)
  items_over (e ∷ all) (y ∷ ys) (z ∷ zs) h k =
      let first = and_both (like p e.0 y) _ h in let second = and_both (like q y z) _ k in both_and (like r e.0 z) _ (e.1 y z first.0 second.0) (items_over all ys zs first.1 second.1)

  module _ (over : (a b c : ℕ) → IsTrue (is_pair p a b) → IsTrue (is_pair q b c) → IsTrue (is_pair r a c)) where
    none_over : (w : Value-F Value) → IsTrue (like_layer q Value-F.None w) → IsTrue (like_layer r Value-F.None w)
    none_over Value-F.None k = refl
    none_over _ k = absurd (not_true k)

    bool_over : (a b : Bool) → a ≡ b → (w : Value-F Value) → IsTrue (like_layer q (Value-F.Bool b) w) → IsTrue (like_layer r (Value-F.Bool a) w)
    bool_over a b e (Value-F.Bool c) k = (booleans_Decides a c).1 (e ∙ (booleans_Decides b c).0 k)
    bool_over a b e _ k = absurd (not_true k)

    int_over : (a b : ℤ) → a ≡ b → (w : Value-F Value) → IsTrue (like_layer q (Value-F.Int b) w) → IsTrue (like_layer r (Value-F.Int a) w)
    int_over a b e (Value-F.Int c) k = (Decides-int_eq a c).1 (e ∙ (Decides-int_eq b c).0 k)
    int_over a b e _ k = absurd (not_true k)

    text_over : (a b : List ℕ) → a ≡ b → (w : Value-F Value) → IsTrue (like_layer q (Value-F.Text b) w) → IsTrue (like_layer r (Value-F.Text a) w)
    text_over a b e (Value-F.Text c) k = (bytes_eq-Decides a c).1 (e ∙ (bytes_eq-Decides b c).0 k)
    text_over a b e _ k = absurd (not_true k)

    range_over : (a b : Range) → a ≡ b → (w : Value-F Value) → IsTrue (like_layer q (Value-F.Range b) w) → IsTrue (like_layer r (Value-F.Range a) w)
    range_over a b e (Value-F.Range c) k = subst (λ x. IsTrue (like_layer r (Value-F.Range x) (Value-F.Range c))) (sym e) k
    range_over a b e _ k = absurd (not_true k)

    builtin_over : (a b : Builtin) → a ≡ b → (w : Value-F Value) → IsTrue (like_layer q (Value-F.Builtin b) w) → IsTrue (like_layer r (Value-F.Builtin a) w)
    builtin_over a b e (Value-F.Builtin c) k = subst (λ x. IsTrue (like_layer r (Value-F.Builtin x) (Value-F.Builtin c))) (sym e) k
    builtin_over a b e _ k = absurd (not_true k)

    tuple_over : (all : List Known) (ys : List Value) → IsTrue (all_hold (map (like p) (map (λ e. e.0) all)) ys) → (w : Value-F Value) → IsTrue (like_layer q (tests q (Value-F.Tuple ys)) w) → IsTrue (like_layer r (tests r (bare (Value-F.Tuple all))) w)
    tuple_over all ys h (Value-F.Tuple zs) k = items_over all ys zs h k
    tuple_over all ys h _ k = absurd (not_true k)

    list_over : (a b : ℕ) → IsTrue (is_pair p a b) → (w : Value-F Value) → IsTrue (like_layer q (Value-F.List b) w) → IsTrue (like_layer r (Value-F.List a) w)
    list_over a b h (Value-F.List c) k = over a b c h k
    list_over a b h _ k = absurd (not_true k)

    dict_over : (a b : ℕ) → IsTrue (is_pair p a b) → (w : Value-F Value) → IsTrue (like_layer q (Value-F.Dict b) w) → IsTrue (like_layer r (Value-F.Dict a) w)
    dict_over a b h (Value-F.Dict c) k = over a b c h k
    dict_over a b h _ k = absurd (not_true k)

    function_over : (a b : ℕ) → IsTrue (is_pair p a b) → (w : Value-F Value) → IsTrue (like_layer q (Value-F.Function b) w) → IsTrue (like_layer r (Value-F.Function a) w)
    function_over a b h (Value-F.Function c) k = over a b c h k
    function_over a b h _ k = absurd (not_true k)

    layers_over : (y : Value-F Known) (v w : Value-F Value) → IsTrue (like_layer p (tests p (bare y)) v) → IsTrue (like_layer q (tests q v) w) → IsTrue (like_layer r (tests r (bare y)) w)
    layers_over Value-F.None Value-F.None w h k = none_over w k
    layers_over (Value-F.Bool a) (Value-F.Bool b) w h k = bool_over a b ((booleans_Decides a b).0 h) w k
    layers_over (Value-F.Int a) (Value-F.Int b) w h k = int_over a b ((Decides-int_eq a b).0 h) w k
    layers_over (Value-F.Text a) (Value-F.Text b) w h k = text_over a b ((bytes_eq-Decides a b).0 h) w k
    layers_over (Value-F.Tuple all) (Value-F.Tuple ys) w h k = tuple_over all ys h w k
    layers_over (Value-F.Range a) (Value-F.Range b) w h k = range_over a b (ranges_same a b h) w k
    layers_over (Value-F.List a) (Value-F.List b) w h k = list_over a b h w k
    layers_over (Value-F.Dict a) (Value-F.Dict b) w h k = dict_over a b h w k
    layers_over (Value-F.Function a) (Value-F.Function b) w h k = function_over a b h w k
    layers_over (Value-F.Builtin a) (Value-F.Builtin b) w h k = builtin_over a b (builtins_same a b h) w k
    layers_over _ _ w h k = absurd (not_true h)

    opened : (pairs : Pairs) (x y : Value) → like pairs x y ≡ like_layer pairs (tests pairs (out-Value x)) (out-Value y)
    opened pairs x y = ap (λ v. like pairs v y) (sym (roll-out-Value x)) ∙ like_rolled pairs (out-Value x) y

    rolled_over : (y : Value-F Known) → Over (roll-Value (bare y))
    rolled_over y v w h k =
        subst IsTrue (sym (like_rolled r (bare y) w))
        (layers_over y (out-Value v) (out-Value w) (subst IsTrue (like_rolled p (bare y) v) h) (subst IsTrue (opened q v w) k))

    values_over : (x : Value) → Over x
    values_over = ind-Value Over (λ x y is. subst (λ z. Over (roll-Value z)) is (rolled_over y))

    lists_over : (xs ys zs : List Value) → IsTrue (like_items p xs ys) → IsTrue (like_items q ys zs) → IsTrue (like_items r xs zs)
    lists_over [] [] zs h k = k
    lists_over [] (y ∷ ys) zs h k = absurd (not_true h)
    lists_over (x ∷ xs) [] zs h k = absurd (not_true h)
    lists_over (x ∷ xs) (y ∷ ys) [] h k = absurd (not_true k)
    lists_over (x ∷ xs) (y ∷ ys) (z ∷ zs) h k =
        let first = and_both (like p x y) _ h in let second = and_both (like q y z) _ k in both_and (like r x z) _ (values_over x y z first.0 second.0) (lists_over xs ys zs first.1 second.1)

    dicts_over : (xs ys zs : List (Key × Value)) → IsTrue (like_pairs p xs ys) → IsTrue (like_pairs q ys zs) → IsTrue (like_pairs r xs zs)
    dicts_over [] [] zs h k = k
    dicts_over [] (y ∷ ys) zs h k = absurd (not_true h)
    dicts_over (x ∷ xs) [] zs h k = absurd (not_true h)
    dicts_over (x ∷ xs) (y ∷ ys) [] h k = absurd (not_true k)
    dicts_over (x ∷ xs) (y ∷ ys) (z ∷ zs) h k =
        let first = and_both (like_pair p x y) _ h in
        let second = and_both (like_pair q y z) _ k in
        let one = and_both (same_key x.0 y.0) (like p x.1 y.1) first.0 in
        let two = and_both (same_key y.0 z.0) (like q y.1 z.1) second.0 in
        let keys = (same_key-Decides x.0 z.0).1 ((same_key-Decides x.0 y.0).0 one.0 ∙ (same_key-Decides y.0 z.0).0 two.0) in
        both_and (like_pair r x z) _ (both_and (same_key x.0 z.0) (like r x.1 z.1) keys (values_over x.1 y.1 z.1 one.1 two.1)) (dicts_over xs ys zs first.1 second.1)

    globals_over : (xs ys zs : List (List ℕ × Value)) → IsTrue (all_hold (map (like_global p) xs) ys) → IsTrue (all_hold (map (like_global q) ys) zs) → IsTrue (all_hold (map (like_global r) xs) zs)
    globals_over [] [] zs h k = k
    globals_over [] (y ∷ ys) zs h k = absurd (not_true h)
    globals_over (x ∷ xs) [] zs h k = absurd (not_true h)
    globals_over (x ∷ xs) (y ∷ ys) [] h k = absurd (not_true k)
    globals_over (x ∷ xs) (y ∷ ys) (z ∷ zs) h k =
        let first = and_both (like_global p x y) _ h in
        let second = and_both (like_global q y z) _ k in
        let one = and_both (bytes_eq x.0 y.0) (like p x.1 y.1) first.0 in
        let two = and_both (bytes_eq y.0 z.0) (like q y.1 z.1) second.0 in
        let names = (bytes_eq-Decides x.0 z.0).1 ((bytes_eq-Decides x.0 y.0).0 one.0 ∙ (bytes_eq-Decides y.0 z.0).0 two.0) in
        both_and (like_global r x z) _ (both_and (bytes_eq x.0 z.0) (like r x.1 z.1) names (values_over x.1 y.1 z.1 one.1 two.1)) (globals_over xs ys zs first.1 second.1)

    list_object : {C : Type 0} (xs ys : List Value) → IsTrue (like_items p xs ys) → (o : Object C) → LikeObjects q (AList ys) o → LikeObjects r (AList xs) o
    list_object xs ys h (AList zs) k = lists_over xs ys zs h k
    list_object xs ys h (ADict zs) k = absurd k
    list_object xs ys h (AFunction c n zs) k = absurd k

    dict_object : {C : Type 0} (xs ys : List (Key × Value)) → IsTrue (like_pairs p xs ys) → (o : Object C) → LikeObjects q (ADict ys) o → LikeObjects r (ADict xs) o
    dict_object xs ys h (ADict zs) k = dicts_over xs ys zs h k
    dict_object xs ys h (AList zs) k = absurd k
    dict_object xs ys h (AFunction c n zs) k = absurd k

    function_object : {C : Type 0} (c d : C) (m n : ℕ) (xs ys : List Value) → c ≡ d → m ≡ n → IsTrue (like_items p xs ys) → (o : Object C) → LikeObjects q (AFunction d n ys) o → LikeObjects r (AFunction c m xs) o
    function_object c d m n xs ys e f h (AFunction b l zs) k = (e ∙ k.0, f ∙ k.1, lists_over xs ys zs h k.2)
    function_object c d m n xs ys e f h (AList zs) k = absurd k
    function_object c d m n xs ys e f h (ADict zs) k = absurd k

    objects_over : {C : Type 0} (x y z : Object C) → LikeObjects p x y → LikeObjects q y z → LikeObjects r x z
    objects_over (AList xs) (AList ys) z h k = list_object xs ys h z k
    objects_over (ADict xs) (ADict ys) z h k = dict_object xs ys h z k
    objects_over (AFunction c m xs) (AFunction d n ys) z h k = function_object c d m n xs ys h.0 h.1 h.2 z k
    objects_over _ _ z h k = absurd h

    found_over : {C : Type 0} (x y z : Option (Object C)) → LikeFound p x y → LikeFound q y z → LikeFound r x z
    found_over (Some x) (Some y) (Some z) h k = objects_over x y z h k
    found_over (Some x) (Some y) None h k = absurd k
    found_over (Some x) None z h k = absurd h
    found_over None (Some y) z h k = absurd h
    found_over None None z h k = absurd h

-- ---- the pairs over a second state

-- the second number of a first one
abbrev partner : Pairs → ℕ → Option ℕ
partner [] b = None
partner (pair ∷ pairs) b = if pair.0 == b then Some pair.1 else partner pairs b

abbrev with_partner : Option ℕ → ℕ → Pairs → Pairs
with_partner None a more = more
with_partner (Some c) a more = (a, c) ∷ more

abbrev pub joined : Pairs → Pairs → Pairs
joined [] q = []
joined (pair ∷ p) q = with_partner (partner q pair.1) pair.0 (joined p q)

partner_is : (q : Pairs) (b c : ℕ) → partner q b ≡ Some c → IsTrue (is_pair q b c)
partner_is [] b c h = absurd (cc)
partner_is (pair ∷ q) b c h = by (pair.0 == b) refl h (λ k. partner_is q b c k)
  where
    by : (t : Bool) → (pair.0 == b) ≡ t → (if t then Some pair.1 else partner q b) ≡ Some c → (partner q b ≡ Some c → IsTrue (is_pair q b c)) → IsTrue (is_pair (pair ∷ q) b c)
    by true e k rest = let same : pair.1 ≡ c = cc in in_or_first ((pair.0 == b) && (pair.1 == c)) (is_pair q b c) (both_and (pair.0 == b) (pair.1 == c) e ((Decides-eqb pair.1 c).1 same))
    by false e k rest = in_or_second ((pair.0 == b) && (pair.1 == c)) (is_pair q b c) (rest k)

pair_partner : (q : Pairs) → IsTrue (are_apart (firsts q)) → (b c : ℕ) → IsTrue (is_pair q b c) → partner q b ≡ Some c
pair_partner [] o b c h = absurd (not_true h)
pair_partner (pair ∷ q) o b c h = by (pair.0 == b) refl (λ k. pair_partner q (and_both (not (has (firsts q) pair.0)) (are_apart (firsts q)) o).1 b c k)
  where
    by : (t : Bool) → (pair.0 == b) ≡ t → (IsTrue (is_pair q b c) → partner q b ≡ Some c) → (if t then Some pair.1 else partner q b) ≡ Some c
    by true e rest =
        or_either ((pair.0 == b) && (pair.1 == c)) (is_pair q b c) (Some pair.1 ≡ Some c) (λ k. ap Some (same_number pair.1 c (and_both (pair.0 == b) (pair.1 == c) k).1))
        (λ k. absurd (not_both (has (firsts q) pair.0) (and_both (not (has (firsts q) pair.0)) (are_apart (firsts q)) o).0 (subst (λ x. IsTrue (has (firsts q) x)) (sym ((Decides-eqb pair.0 b).0 e)) (pair_first q b c k)))) h
    by false e rest = or_either ((pair.0 == b) && (pair.1 == c)) (is_pair q b c) (partner q b ≡ Some c) (λ k. absurd (not_true (subst IsTrue e (and_both (pair.0 == b) (pair.1 == c) k).0))) rest h

-- a pair of the joined list goes over a number of the second state
over_number : (p q : Pairs) (a c : ℕ) → IsTrue (is_pair (joined p q) a c) → (b : ℕ) × IsTrue (is_pair p a b) × IsTrue (is_pair q b c)
over_number [] q a c h = absurd (not_true h)
over_number (pair ∷ p) q a c h = by (partner q pair.1) refl h (λ k. over_number p q a c k)
  where
    later : (b : ℕ) × IsTrue (is_pair p a b) × IsTrue (is_pair q b c) → (b : ℕ) × IsTrue (is_pair (pair ∷ p) a b) × IsTrue (is_pair q b c)
    later found = (found.0, in_or_second ((pair.0 == a) && (pair.1 == found.0)) (is_pair p a found.0) found.1, found.2)

    by : (o : Option ℕ) → partner q pair.1 ≡ o → IsTrue (is_pair (with_partner o pair.0 (joined p q)) a c) → (IsTrue (is_pair (joined p q) a c) → (b : ℕ) × IsTrue (is_pair p a b) × IsTrue (is_pair q b c))
        → (b : ℕ) × IsTrue (is_pair (pair ∷ p) a b) × IsTrue (is_pair q b c)
    by None e k rest = later (rest k)
    by (Some d) e k rest =
        or_either ((pair.0 == a) && (d == c)) (is_pair (joined p q) a c) ((b : ℕ) × IsTrue (is_pair (pair ∷ p) a b) × IsTrue (is_pair q b c))
        (λ l. let both = and_both (pair.0 == a) (d == c) l in (
          pair.1,
          in_or_first ((pair.0 == a) && (pair.1 == pair.1)) (is_pair p a pair.1) (both_and (pair.0 == a) (pair.1 == pair.1) both.0 (itself pair.1)),
          partner_is q pair.1 c (e ∙ ap Some (same_number d c both.1)),
        ))
        (λ l. later (rest l)) k

over_pair : (p q : Pairs) → IsTrue (are_apart (firsts q)) → (a b c : ℕ) → IsTrue (is_pair p a b) → IsTrue (is_pair q b c) → IsTrue (is_pair (joined p q) a c)
over_pair [] q o a b c h k = absurd (not_true h)
over_pair (pair ∷ p) q o a b c h k = by (partner q pair.1) refl (λ l. over_pair p q o a b c l k)
  where
    by : (x : Option ℕ) → partner q pair.1 ≡ x → (IsTrue (is_pair p a b) → IsTrue (is_pair (joined p q) a c)) → IsTrue (is_pair (with_partner x pair.0 (joined p q)) a c)
    by None e rest =
        or_either ((pair.0 == a) && (pair.1 == b)) (is_pair p a b) (IsTrue (is_pair (joined p q) a c))
        (λ l. let none : None ≡ Some c = sym e ∙ ap (partner q) (same_number pair.1 b (and_both (pair.0 == a) (pair.1 == b) l).1) ∙ pair_partner q o b c k in absurd (cc)) rest h
    by (Some d) e rest =
        or_either ((pair.0 == a) && (pair.1 == b)) (is_pair p a b) (IsTrue (is_pair ((pair.0, d) ∷ joined p q) a c))
        (λ l. let both = and_both (pair.0 == a) (pair.1 == b) l in
        let found : Some d ≡ Some c = sym e ∙ ap (partner q) (same_number pair.1 b both.1) ∙ pair_partner q o b c k in
        let same : d ≡ c = cc in in_or_first ((pair.0 == a) && (d == c)) (is_pair (joined p q) a c) (both_and (pair.0 == a) (d == c) both.0 ((Decides-eqb d c).1 same)))
        (λ l. in_or_second ((pair.0 == a) && (d == c)) (is_pair (joined p q) a c) (rest l)) h

pair_second : (pairs : Pairs) (a b : ℕ) → IsTrue (is_pair pairs a b) → IsTrue (has (seconds pairs) b)
pair_second [] a b h = h
pair_second (pair ∷ pairs) a b h =
    or_either ((pair.0 == a) && (pair.1 == b)) (is_pair pairs a b) (IsTrue (has (seconds (pair ∷ pairs)) b)) (λ k. in_or_first (pair.1 == b) (has (seconds pairs) b) (and_both (pair.0 == a) (pair.1 == b) k).1)
    (λ k. in_or_second (pair.1 == b) (has (seconds pairs) b) (pair_second pairs a b k)) h

-- no two first numbers have one second number
pub one_first : (q : Pairs) → IsTrue (are_apart (seconds q)) → (a b c : ℕ) → IsTrue (is_pair q a c) → IsTrue (is_pair q b c) → a ≡ b
one_first [] o a b c h k = absurd (not_true h)
one_first (pair ∷ q) o a b c h k =
    let apart = and_both (not (has (seconds q) pair.1)) (are_apart (seconds q)) o in
    let clash = λ (x : ℕ) (same : IsTrue (pair.1 == c)) (l : IsTrue (is_pair q x c)). not_both (has (seconds q) pair.1) apart.0 (subst (λ n. IsTrue (has (seconds q) n)) (sym (same_number pair.1 c same)) (pair_second q x c l)) in
    or_either ((pair.0 == a) && (pair.1 == c)) (is_pair q a c) (a ≡ b)
    (λ l. let one = and_both (pair.0 == a) (pair.1 == c) l in
    or_either ((pair.0 == b) && (pair.1 == c)) (is_pair q b c) (a ≡ b) (λ m. let two = and_both (pair.0 == b) (pair.1 == c) m in sym (same_number pair.0 a one.0) ∙ same_number pair.0 b two.0) (λ m. absurd (clash b one.1 m)) k)
    (λ l. or_either ((pair.0 == b) && (pair.1 == c)) (is_pair q b c) (a ≡ b) (λ m. absurd (clash a (and_both (pair.0 == b) (pair.1 == c) m).1 l)) (λ m. one_first q apart.1 a b c l m) k) h

joined_firsts : (p q : Pairs) → IsTrue (are_apart (firsts p)) → IsTrue (are_apart (firsts (joined p q)))
joined_firsts [] q o = refl
joined_firsts (pair ∷ p) q o = by (partner q pair.1) (joined_firsts p q apart.1)
  where
    apart : IsTrue (not (has (firsts p) pair.0)) × IsTrue (are_apart (firsts p))
    apart = and_both (not (has (firsts p) pair.0)) (are_apart (firsts p)) o

    absent : IsTrue (has (firsts (joined p q)) pair.0) → ⊥
    absent k =
        let found = has_first (joined p q) pair.0 k in
        let over = over_number p q pair.0 found.0 found.1 in not_both (has (firsts p) pair.0) apart.0 (pair_first p pair.0 over.0 over.1)

    by : (x : Option ℕ) → IsTrue (are_apart (firsts (joined p q))) → IsTrue (are_apart (firsts (with_partner x pair.0 (joined p q))))
    by None rest = rest
    by (Some d) rest = both_and (not (has (firsts (joined p q)) pair.0)) (are_apart (firsts (joined p q))) (not_so (has (firsts (joined p q)) pair.0) absent) rest

joined_seconds : (p q : Pairs) → IsTrue (are_apart (seconds p)) → IsTrue (are_apart (seconds q)) → IsTrue (are_apart (seconds (joined p q)))
joined_seconds [] q o l = refl
joined_seconds (pair ∷ p) q o l = by (partner q pair.1) refl (joined_seconds p q apart.1 l)
  where
    apart : IsTrue (not (has (seconds p) pair.1)) × IsTrue (are_apart (seconds p))
    apart = and_both (not (has (seconds p) pair.1)) (are_apart (seconds p)) o

    absent : (d : ℕ) → partner q pair.1 ≡ Some d → IsTrue (has (seconds (joined p q)) d) → ⊥
    absent d e k =
        let found = has_second (joined p q) d k in
        let over = over_number p q found.0 d found.1 in
        let same = one_first q l over.0 pair.1 d over.2 (partner_is q pair.1 d e) in
        not_both (has (seconds p) pair.1) apart.0 (subst (λ n. IsTrue (has (seconds p) n)) same (pair_second p found.0 over.0 over.1))

    by : (x : Option ℕ) → partner q pair.1 ≡ x → IsTrue (are_apart (seconds (joined p q))) → IsTrue (are_apart (seconds (with_partner x pair.0 (joined p q))))
    by None e rest = rest
    by (Some d) e rest = both_and (not (has (seconds (joined p q)) d)) (are_apart (seconds (joined p q))) (not_so (has (seconds (joined p q)) d) (absent d e)) rest

-- from one state over a second to a third
pub alike_over : {C : Type 0} (p q : Pairs) (s t u : State C) → IsAlike p s t → IsAlike q t u → IsAlike (joined p q) s u
alike_over p q s t u h k = record {
  first_once = joined_firsts p q h.first_once;
  second_once = joined_seconds p q h.second_once k.second_once;
  globals = globals_over p q (joined p q) (over_pair p q k.first_once) s.globals t.globals u.globals h.globals k.globals;
  objects = λ a c l.
      let over = over_number p q a c l in
      found_over p q (joined p q) (over_pair p q k.first_once) (object s a) (object t over.0) (object u c) (h.objects a over.0 over.1) (k.objects over.0 c over.2);
}
