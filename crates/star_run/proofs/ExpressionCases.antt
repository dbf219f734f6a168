-- The meaning of each form of an expression, one equation a form: as a value, as a target, and as a place whose value is changed.
use Rattle.std.proofs.Common.{◌≡◌, ℕ, ℤ, List, [], map, Bool, true, false, ap}
use Rattle.star_syntax.specs.declared.expression.Arm.{Arm}
use Rattle.star_syntax.specs.declared.expression.ChainLevel.{ChainLevel}
use Rattle.star_syntax.specs.declared.expression.Clause.{Clause}
use Rattle.star_syntax.specs.declared.expression.Expr.{Expr}
use Rattle.star_syntax.specs.declared.expression.Expr.TheVariants as e
use Rattle.star_syntax.specs.declared.expression.Link.{Link}
use Rattle.star_syntax.specs.declared.expression.Pair.{Pair}
use Rattle.star_syntax.specs.declared.expression.Suffix.{Suffix}
use Rattle.star_syntax.specs.declared.operator.CompareOp.{CompareOp}
use Rattle.star_syntax.specs.declared.operator.UnaryOp.{UnaryOp}
use Rattle.star_value.specs.declared.failure.Failure.TheVariants as failure
use Rattle.star_value.specs.declared.value.Value.{Value}
use Rattle.star_value.specs.declared.value.Value.TheVariants as value
use Rattle.star_meaning.specs.Steps.{Failed, Went, and_then, charge, pure}
use Rattle.star_meaning.specs.Values.{is_true, new_dict, new_list, new_tuple}
use Rattle.star_meaning.specs.Operators.{index}
use Rattle.star_meaning.specs.World.{Work, World, acting, bind, look_up, operate, operation}
use Rattle.star_meaning.specs.Expressions.{Callee, Meant, Setting, chained, chosen, compared, comprehension, dict_turn, display_pairs, list_turn, meant, place, primary, signed, store_at, store_items, suffixed, turned, values}
use Rattle.star_meaning.proofs.Equations.{clause_meant, meant_compare, meant_dictover, meant_false, meant_int, meant_list, meant_listover, meant_name, meant_none, meant_not, meant_paren, meant_signed, meant_text, meant_true, meant_tuple}
use Rattle.star_meaning.proofs.Forms.{arm_meant, chain_is, conditional_is, dict_is, link_meant, pair_meant, primary_is, suffix_meant}

module _ {C : Type 0} (setting : Setting C) (call : Callee C) where
  abbrev to : Expr → Meant C
  to = meant setting call

  -- ---- as a value

  pub value_name : (name : List ℕ) (w : World C) → (meant setting call (e.Name name)).value w ≡ operation (look_up name) w
  value_name name w = ap (λ m. m.value w) (meant_name setting call name)

  pub value_int : (z : ℤ) (w : World C) → (meant setting call (e.Int z)).value w ≡ operation (pure (value.Int z)) w
  value_int z w = ap (λ m. m.value w) (meant_int setting call z)

  pub value_text : (points : List ℕ) (w : World C) → (meant setting call (e.Text points)).value w ≡ operation (pure (value.Text points)) w
  value_text points w = ap (λ m. m.value w) (meant_text setting call points)

  pub value_none : (w : World C) → (meant setting call e.None).value w ≡ operation (pure value.None) w
  value_none w = ap (λ m. m.value w) (meant_none setting call)

  pub value_true : (w : World C) → (meant setting call e.True).value w ≡ operation (pure (value.Bool true)) w
  value_true w = ap (λ m. m.value w) (meant_true setting call)

  pub value_false : (w : World C) → (meant setting call e.False).value w ≡ operation (pure (value.Bool false)) w
  value_false w = ap (λ m. m.value w) (meant_false setting call)

  pub value_paren : (x : Expr) (w : World C) → (meant setting call (e.Paren x)).value w ≡ (meant setting call x).value w
  value_paren x w = ap (λ m. m.value w) (meant_paren setting call x)

  pub value_tuple : (xs : List Expr) (comma : Bool) (w : World C)
      → (meant setting call (e.Tuple xs comma)).value w ≡ and_then (values (map (meant setting call) xs) w) (λ vs. operate (new_tuple vs))
  value_tuple xs comma w = ap (λ m. m.value w) (meant_tuple setting call xs comma)

  pub value_list : (xs : List Expr) (comma : Bool) (w : World C)
      → (meant setting call (e.List xs comma)).value w ≡ and_then (values (map (meant setting call) xs) w) (λ vs. operate (new_list vs))
  value_list xs comma w = ap (λ m. m.value w) (meant_list setting call xs comma)

  pub value_listover : (x : Expr) (clauses : List (Clause Expr)) (w : World C)
      → (meant setting call (e.ListOver x clauses)).value w
      ≡ and_then (comprehension (map (clause_meant setting call) clauses) (list_turn (meant setting call x)) [] w) (λ vs. acting (new_list vs))
  value_listover x clauses w = ap (λ m. m.value w) (meant_listover setting call x clauses)

  pub value_dict : (pairs : List (Pair Expr)) (comma : Bool) (w : World C)
      → (meant setting call (e.Dict pairs comma)).value w ≡ and_then (display_pairs [] (map (pair_meant setting call) pairs) w) (λ done. operate (new_dict done))
  value_dict pairs comma w = ap (λ m. m.value w) (dict_is setting call pairs comma)

  pub value_dictover : (k v : Expr) (clauses : List (Clause Expr)) (w : World C)
      → (meant setting call (e.DictOver k v clauses)).value w
      ≡ and_then (comprehension (map (clause_meant setting call) clauses) (dict_turn (meant setting call k) (meant setting call v)) [] w) (λ done. acting (new_dict done))
  value_dictover k v clauses w = ap (λ m. m.value w) (meant_dictover setting call k v clauses)

  pub value_primary : (head : Expr) (suffixes : List (Suffix Expr)) (w : World C)
      → (meant setting call (e.Primary head suffixes)).value w
      ≡ and_then ((primary setting call (meant setting call head) (map (suffix_meant setting call) suffixes)).0 w)
      (suffixed setting call (primary setting call (meant setting call head) (map (suffix_meant setting call) suffixes)).1)
  value_primary head suffixes w = ap (λ m. m.value w) (primary_is setting call head suffixes)

  pub value_signed : (signs : List UnaryOp) (x : Expr) (w : World C) → (meant setting call (e.Signed signs x)).value w ≡ and_then ((meant setting call x).value w) (signed signs)
  value_signed signs x w = ap (λ m. m.value w) (meant_signed setting call signs x)

  pub value_chain : (level : ChainLevel) (first : Expr) (links : List (Link Expr)) (w : World C)
      → (meant setting call (e.Chain level first links)).value w ≡ and_then ((meant setting call first).value w) (chained setting call (map (link_meant setting call) links))
  value_chain level first links w = ap (λ m. m.value w) (chain_is setting call level first links)

  pub value_compare : (a : Expr) (op : CompareOp) (b : Expr) (w : World C)
      → (meant setting call (e.Compare a op b)).value w ≡ and_then ((meant setting call a).value w) (λ x v. and_then ((meant setting call b).value v) (λ y. operate (compared op x y)))
  value_compare a op b w = ap (λ m. m.value w) (meant_compare setting call a op b)

  pub value_not : (count : ℕ) (x : Expr) (w : World C)
      → (meant setting call (e.Not count x)).value w
      ≡ and_then ((meant setting call x).value w) (λ v u. and_then (acting (charge count) u) (λ paid t. Went (value.Bool (turned count (is_true t.store.state v))) t))
  value_not count x w = ap (λ m. m.value w) (meant_not setting call count x)

  pub value_conditional : (arms : List (Arm Expr)) (last : Expr) (w : World C)
      → (meant setting call (e.Conditional arms last)).value w ≡ chosen setting call (map (arm_meant setting call) arms) (meant setting call last) w
  value_conditional arms last w = ap (λ m. m.value w) (conditional_is setting call arms last)

  -- ---- as a target

  pub store_name : (name : List ℕ) (v : Value) (w : World C) → (meant setting call (e.Name name)).store v w ≡ bind name v w
  store_name name v w = ap (λ m. m.store v w) (meant_name setting call name)

  pub store_paren : (x : Expr) (v : Value) (w : World C) → (meant setting call (e.Paren x)).store v w ≡ (meant setting call x).store v w
  store_paren x v w = ap (λ m. m.store v w) (meant_paren setting call x)

  pub store_tuple : (xs : List Expr) (comma : Bool) (v : Value) (w : World C) → (meant setting call (e.Tuple xs comma)).store v w ≡ store_items (map (meant setting call) xs) v w
  store_tuple xs comma v w = ap (λ m. m.store v w) (meant_tuple setting call xs comma)

  pub store_list : (xs : List Expr) (comma : Bool) (v : Value) (w : World C) → (meant setting call (e.List xs comma)).store v w ≡ store_items (map (meant setting call) xs) v w
  store_list xs comma v w = ap (λ m. m.store v w) (meant_list setting call xs comma)

  pub store_primary : (head : Expr) (suffixes : List (Suffix Expr)) (v : Value) (w : World C)
      → (meant setting call (e.Primary head suffixes)).store v w ≡ and_then (place setting call (meant setting call head) (map (suffix_meant setting call) suffixes) w) (λ at. store_at at.0 at.1 v)
  store_primary head suffixes v w = ap (λ m. m.store v w) (primary_is setting call head suffixes)

  pub store_int : (z : ℤ) (v : Value) (w : World C) → (meant setting call (e.Int z)).store v w ≡ Failed failure.WrongType w
  store_int z v w = ap (λ m. m.store v w) (meant_int setting call z)

  pub store_text : (points : List ℕ) (v : Value) (w : World C) → (meant setting call (e.Text points)).store v w ≡ Failed failure.WrongType w
  store_text points v w = ap (λ m. m.store v w) (meant_text setting call points)

  pub store_none : (v : Value) (w : World C) → (meant setting call e.None).store v w ≡ Failed failure.WrongType w
  store_none v w = ap (λ m. m.store v w) (meant_none setting call)

  pub store_true : (v : Value) (w : World C) → (meant setting call e.True).store v w ≡ Failed failure.WrongType w
  store_true v w = ap (λ m. m.store v w) (meant_true setting call)

  pub store_false : (v : Value) (w : World C) → (meant setting call e.False).store v w ≡ Failed failure.WrongType w
  store_false v w = ap (λ m. m.store v w) (meant_false setting call)

  pub store_listover : (x : Expr) (clauses : List (Clause Expr)) (v : Value) (w : World C) → (meant setting call (e.ListOver x clauses)).store v w ≡ Failed failure.WrongType w
  store_listover x clauses v w = ap (λ m. m.store v w) (meant_listover setting call x clauses)

  pub store_dict : (pairs : List (Pair Expr)) (comma : Bool) (v : Value) (w : World C) → (meant setting call (e.Dict pairs comma)).store v w ≡ Failed failure.WrongType w
  store_dict pairs comma v w = ap (λ m. m.store v w) (dict_is setting call pairs comma)

  pub store_dictover : (k x : Expr) (clauses : List (Clause Expr)) (v : Value) (w : World C) → (meant setting call (e.DictOver k x clauses)).store v w ≡ Failed failure.WrongType w
  store_dictover k x clauses v w = ap (λ m. m.store v w) (meant_dictover setting call k x clauses)

  pub store_signed : (signs : List UnaryOp) (x : Expr) (v : Value) (w : World C) → (meant setting call (e.Signed signs x)).store v w ≡ Failed failure.WrongType w
  store_signed signs x v w = ap (λ m. m.store v w) (meant_signed setting call signs x)

  pub store_chain : (level : ChainLevel) (first : Expr) (links : List (Link Expr)) (v : Value) (w : World C) → (meant setting call (e.Chain level first links)).store v w ≡ Failed failure.WrongType w
  store_chain level first links v w = ap (λ m. m.store v w) (chain_is setting call level first links)

  pub store_compare : (a : Expr) (op : CompareOp) (b : Expr) (v : Value) (w : World C) → (meant setting call (e.Compare a op b)).store v w ≡ Failed failure.WrongType w
  store_compare a op b v w = ap (λ m. m.store v w) (meant_compare setting call a op b)

  pub store_not : (count : ℕ) (x : Expr) (v : Value) (w : World C) → (meant setting call (e.Not count x)).store v w ≡ Failed failure.WrongType w
  store_not count x v w = ap (λ m. m.store v w) (meant_not setting call count x)

  pub store_conditional : (arms : List (Arm Expr)) (last : Expr) (v : Value) (w : World C) → (meant setting call (e.Conditional arms last)).store v w ≡ Failed failure.WrongType w
  store_conditional arms last v w = ap (λ m. m.store v w) (conditional_is setting call arms last)

  -- ---- as a place whose value is changed

  pub update_name : (name : List ℕ) (f : Value → Work C Value) (w : World C)
      → (meant setting call (e.Name name)).update f w ≡ and_then (and_then (operation (look_up name) w) f) (bind name)
  update_name name f w = ap (λ m. m.update f w) (meant_name setting call name)

  pub update_primary : (head : Expr) (suffixes : List (Suffix Expr)) (f : Value → Work C Value) (w : World C)
      → (meant setting call (e.Primary head suffixes)).update f w
      ≡ and_then (place setting call (meant setting call head) (map (suffix_meant setting call) suffixes) w)
      (λ at v. and_then (operate (index at.0 at.1) v) (λ old u. and_then (f old u) (λ new. store_at at.0 at.1 new)))
  update_primary head suffixes f w = ap (λ m. m.update f w) (primary_is setting call head suffixes)

  pub update_int : (z : ℤ) (f : Value → Work C Value) (w : World C) → (meant setting call (e.Int z)).update f w ≡ Failed failure.WrongType w
  update_int z f w = ap (λ m. m.update f w) (meant_int setting call z)

  pub update_text : (points : List ℕ) (f : Value → Work C Value) (w : World C) → (meant setting call (e.Text points)).update f w ≡ Failed failure.WrongType w
  update_text points f w = ap (λ m. m.update f w) (meant_text setting call points)

  pub update_none : (f : Value → Work C Value) (w : World C) → (meant setting call e.None).update f w ≡ Failed failure.WrongType w
  update_none f w = ap (λ m. m.update f w) (meant_none setting call)

  pub update_true : (f : Value → Work C Value) (w : World C) → (meant setting call e.True).update f w ≡ Failed failure.WrongType w
  update_true f w = ap (λ m. m.update f w) (meant_true setting call)

  pub update_false : (f : Value → Work C Value) (w : World C) → (meant setting call e.False).update f w ≡ Failed failure.WrongType w
  update_false f w = ap (λ m. m.update f w) (meant_false setting call)

  pub update_paren : (x : Expr) (f : Value → Work C Value) (w : World C) → (meant setting call (e.Paren x)).update f w ≡ Failed failure.WrongType w
  update_paren x f w = ap (λ m. m.update f w) (meant_paren setting call x)

  pub update_tuple : (xs : List Expr) (comma : Bool) (f : Value → Work C Value) (w : World C) → (meant setting call (e.Tuple xs comma)).update f w ≡ Failed failure.WrongType w
  update_tuple xs comma f w = ap (λ m. m.update f w) (meant_tuple setting call xs comma)

  pub update_list : (xs : List Expr) (comma : Bool) (f : Value → Work C Value) (w : World C) → (meant setting call (e.List xs comma)).update f w ≡ Failed failure.WrongType w
  update_list xs comma f w = ap (λ m. m.update f w) (meant_list setting call xs comma)

  pub update_listover : (x : Expr) (clauses : List (Clause Expr)) (f : Value → Work C Value) (w : World C) → (meant setting call (e.ListOver x clauses)).update f w ≡ Failed failure.WrongType w
  update_listover x clauses f w = ap (λ m. m.update f w) (meant_listover setting call x clauses)

  pub update_dict : (pairs : List (Pair Expr)) (comma : Bool) (f : Value → Work C Value) (w : World C) → (meant setting call (e.Dict pairs comma)).update f w ≡ Failed failure.WrongType w
  update_dict pairs comma f w = ap (λ m. m.update f w) (dict_is setting call pairs comma)

  pub update_dictover : (k x : Expr) (clauses : List (Clause Expr)) (f : Value → Work C Value) (w : World C) → (meant setting call (e.DictOver k x clauses)).update f w ≡ Failed failure.WrongType w
  update_dictover k x clauses f w = ap (λ m. m.update f w) (meant_dictover setting call k x clauses)

  pub update_signed : (signs : List UnaryOp) (x : Expr) (f : Value → Work C Value) (w : World C) → (meant setting call (e.Signed signs x)).update f w ≡ Failed failure.WrongType w
  update_signed signs x f w = ap (λ m. m.update f w) (meant_signed setting call signs x)

  pub update_chain : (level : ChainLevel) (first : Expr) (links : List (Link Expr)) (f : Value → Work C Value) (w : World C) → (meant setting call (e.Chain level first links)).update f w ≡ Failed failure.WrongType w
  update_chain level first links f w = ap (λ m. m.update f w) (chain_is setting call level first links)

  pub update_compare : (a : Expr) (op : CompareOp) (b : Expr) (f : Value → Work C Value) (w : World C) → (meant setting call (e.Compare a op b)).update f w ≡ Failed failure.WrongType w
  update_compare a op b f w = ap (λ m. m.update f w) (meant_compare setting call a op b)

  pub update_not : (count : ℕ) (x : Expr) (f : Value → Work C Value) (w : World C) → (meant setting call (e.Not count x)).update f w ≡ Failed failure.WrongType w
  update_not count x f w = ap (λ m. m.update f w) (meant_not setting call count x)

  pub update_conditional : (arms : List (Arm Expr)) (last : Expr) (f : Value → Work C Value) (w : World C) → (meant setting call (e.Conditional arms last)).update f w ≡ Failed failure.WrongType w
  update_conditional arms last f w = ap (λ m. m.update f w) (conditional_is setting call arms last)

pub ruleset values_of_forms = (value_name, value_int, value_text, value_none, value_true, value_false, value_paren, value_tuple, value_list, value_listover, value_dict, value_dictover, value_primary, value_signed, value_chain, value_compare, value_not, value_conditional)

pub ruleset targets_of_forms = (store_name, store_paren, store_tuple, store_list, store_primary, store_int, store_text, store_none, store_true, store_false, store_listover, store_dict, store_dictover, store_signed, store_chain, store_compare, store_not, store_conditional)

pub ruleset places_of_forms = (update_name, update_primary, update_int, update_text, update_none, update_true, update_false, update_paren, update_tuple, update_list, update_listover, update_dict, update_dictover, update_signed, update_chain, update_compare, update_not, update_conditional)
