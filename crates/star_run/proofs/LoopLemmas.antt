-- One more turn of the loops over parts of expressions.
use Rattle.std.proofs.Common.{◌≡◌, ℕ, ◌+◌, ◌<◌, Bool, true, false, List, [], ◌∷◌, ◌++◌, map, length, get_or, drop, refl, sym, ap, ◌∙◌}
use Rattle.std.specs.Prelude.{not}
use Rattle.std.proofs.lemmas.List.{drop_more}
use Rattle.star_syntax.specs.declared.expression.Arm.{Arm}
use Rattle.star_syntax.specs.declared.expression.ChainOp.TheVariants as chain
use Rattle.star_syntax.specs.declared.expression.Expr.{Expr}
use Rattle.star_syntax.specs.declared.expression.Link.{Link}
use Rattle.star_syntax.specs.declared.expression.Named.{Named}
use Rattle.star_syntax.specs.declared.expression.Pair.{Pair}
use Rattle.star_syntax.specs.declared.expression.Suffix.{Suffix}
use Rattle.star_syntax.specs.declared.operator.BinaryOp.{BinaryOp}
use Rattle.star_value.specs.declared.failure.Failure.{Failure}
use Rattle.star_value.specs.declared.key.Key.{Key}
use Rattle.star_value.specs.declared.value.Value.{Value}
use Rattle.star_meaning.specs.State.{dict_put}
use Rattle.star_meaning.specs.Steps.{Outcome, Went, Failed, and_then, charge, pure}
use Rattle.star_meaning.specs.Values.{charge_weight, is_true}
use Rattle.star_meaning.specs.Builtins.{ByName}
use Rattle.star_meaning.specs.Operators.{binary}
use Rattle.star_meaning.specs.World.{Work, World, acting, operate}
use Rattle.star_meaning.specs.Expressions.{display_pairs, named_from, naming, new_key, values_from}
use Rattle.star_run.specs.Entries.{new_entry}
use Rattle.star_run.specs.Fixed.{Fixed, meaning, setting}
use Rattle.star_run.specs.Parts.{arms, each_target, linked, meanings, named_meaning, one_suffix, pair_meaning, suffixes, target}

-- what is left of a list at a place
pub left_here : {X : Type 0} (xs : List X) (i : ℕ) (x : X) → i < length xs → x ≡ get_or xs i x → drop i xs ≡ x ∷ drop (i + 1) xs
left_here xs i x within here = drop_more xs i x within ∙ ap (λ y. y ∷ drop (i + 1) xs) (sym here)

pub turned_true : (b : Bool) → not b ≡ false → b ≡ true
turned_true true h = refl
turned_true false h = sym h

module _ (g : Fixed) (depth : ℕ) where
  pub values_step : (es : List Expr) (i : ℕ) (e : Expr) (done after : List Value) (v : Value) (w next : World ℕ) → i < length es → e ≡ get_or es i e → (meaning g depth e).value w ≡ Went v next → after ≡ done ++ v ∷ []
      → values_from done (meanings g depth (drop i es)) w ≡ values_from after (meanings g depth (drop (i + 1) es)) next
  values_step es i e done after v w next within here gave pushed =
      let more : drop i es ≡ e ∷ drop (i + 1) es = left_here es i e within here in
      rw (more, gave, pushed) refl

  pub named_step : (ns : List (Named Expr)) (i : ℕ) (n : Named Expr) (done after : ByName) (name : List ℕ) (v : Value) (w next : World ℕ) → i < length ns → n ≡ get_or ns i n → (meaning g depth n.value).value w ≡ Went v next
      → name ≡ n.name → after ≡ done ++ (name, v) ∷ [] → named_from done (map (named_meaning g depth) (drop i ns)) w ≡ named_from after (map (named_meaning g depth) (drop (i + 1) ns)) next
  named_step ns i n done after name v w next within here gave called pushed =
      let more : drop i ns ≡ n ∷ drop (i + 1) ns = left_here ns i n within here in
      rw (more, gave, pushed, called) refl

  -- ---- pairs

  entry_then : (k v : Value) (done : List (Key × Value)) (rest : List (Key × Value) → Work ℕ (List (Key × Value))) (w : World ℕ)
      → and_then (acting (new_key done k) w) (λ key u. and_then (acting (charge_weight k) u) (λ paid. rest (dict_put done key v))) ≡ and_then (new_entry k v done w) rest
  entry_then k v done rest w = key_then (acting (new_key done k) w)
    where
      paid_then : (key : Key) (o : Outcome (World ℕ) Failure (Unit {0})) → and_then o (λ paid. rest (dict_put done key v)) ≡ and_then (and_then o (λ paid. pure (dict_put done key v))) rest
      paid_then key (Went done u) = refl
      paid_then key (Failed e u) = refl

      key_then : (o : Outcome (World ℕ) Failure Key)
          → and_then o (λ key u. and_then (acting (charge_weight k) u) (λ paid. rest (dict_put done key v))) ≡ and_then (and_then o (λ key u. and_then (acting (charge_weight k) u) (λ paid. pure (dict_put done key v)))) rest
      key_then (Went key u) = paid_then key (acting (charge_weight k) u)
      key_then (Failed e u) = refl

  pair_then : (o : Outcome (World ℕ) Failure Value) (k : Value) (done : List (Key × Value)) (rest : List (Key × Value) → Work ℕ (List (Key × Value)))
      → and_then o (λ v u. and_then (acting (new_key done k) u) (λ key t. and_then (acting (charge_weight k) t) (λ paid. rest (dict_put done key v)))) ≡ and_then o (λ v u. and_then (new_entry k v done u) rest)
  pair_then (Went v u) k done rest = entry_then k v done rest u
  pair_then (Failed e u) k done rest = refl

  both_then : (o : Outcome (World ℕ) Failure Value) (p : Work ℕ Value) (done : List (Key × Value)) (rest : List (Key × Value) → Work ℕ (List (Key × Value)))
      → and_then o (λ k u. and_then (p u) (λ v t. and_then (acting (new_key done k) t) (λ key s. and_then (acting (charge_weight k) s) (λ paid. rest (dict_put done key v)))))
      ≡ and_then o (λ k u. and_then (p u) (λ v t. and_then (new_entry k v done t) rest))
  both_then (Went k u) p done rest = pair_then (p u) k done rest
  both_then (Failed e u) p done rest = refl

  pub pairs_left : (ps : List (Pair Expr)) (i : ℕ) (p : Pair Expr) (done : List (Key × Value)) (w : World ℕ) → i < length ps → p ≡ get_or ps i p
      → display_pairs done (map (pair_meaning g depth) (drop i ps)) w
      ≡ and_then ((meaning g depth p.key).value w) (λ k u. and_then ((meaning g depth p.value).value u) (λ v t. and_then (new_entry k v done t) (λ after. display_pairs after (map (pair_meaning g depth) (drop (i + 1) ps)))))
  pairs_left ps i p done w within here =
      ap (λ qs. display_pairs done (map (pair_meaning g depth) qs) w) (left_here ps i p within here)
      ∙ both_then ((meaning g depth p.key).value w) (meaning g depth p.value).value done (λ after. display_pairs after (map (pair_meaning g depth) (drop (i + 1) ps)))

  pub pairs_step : (ps : List (Pair Expr)) (i : ℕ) (p : Pair Expr) (done after : List (Key × Value)) (k v : Value) (w u t next : World ℕ) → i < length ps → p ≡ get_or ps i p → (meaning g depth p.key).value w ≡ Went k u
      → (meaning g depth p.value).value u ≡ Went v t → new_entry k v done t ≡ Went after next → display_pairs done (map (pair_meaning g depth) (drop i ps)) w ≡ display_pairs after (map (pair_meaning g depth) (drop (i + 1) ps)) next
  pairs_step ps i p done after k v w u t next within here key value put =
      pairs_left ps i p done w within here
      ∙ ap (λ o. and_then o (λ x r. and_then ((meaning g depth p.value).value r) (λ y s. and_then (new_entry x y done s) (λ a. display_pairs a (map (pair_meaning g depth) (drop (i + 1) ps)))))) key
      ∙ ap (λ o. and_then o (λ y s. and_then (new_entry k y done s) (λ a. display_pairs a (map (pair_meaning g depth) (drop (i + 1) ps))))) value
      ∙ ap (λ o. and_then o (λ a. display_pairs a (map (pair_meaning g depth) (drop (i + 1) ps)))) put

  -- ---- chains

  pub or_step : (links : List (Link Expr)) (i : ℕ) (link : Link Expr) (x y : Value) (w v u : World ℕ) → i < length links → link ≡ get_or links i link → link.op ≡ chain.Or → is_true w.store.state x ≡ false
      → acting (charge 1) w ≡ Went tt v → (meaning g depth link.operand).value v ≡ Went y u → linked g depth (drop i links) x w ≡ linked g depth (drop (i + 1) links) y u
  or_step links i link x y w v u within here is test paid gave =
      let more : drop i links ≡ link ∷ drop (i + 1) links = left_here links i link within here in
      rw (more, is, test, paid, gave) refl

  pub and_step : (links : List (Link Expr)) (i : ℕ) (link : Link Expr) (x y : Value) (w v u : World ℕ) → i < length links → link ≡ get_or links i link → link.op ≡ chain.And → is_true w.store.state x ≡ true
      → acting (charge 1) w ≡ Went tt v → (meaning g depth link.operand).value v ≡ Went y u → linked g depth (drop i links) x w ≡ linked g depth (drop (i + 1) links) y u
  and_step links i link x y w v u within here is test paid gave =
      let more : drop i links ≡ link ∷ drop (i + 1) links = left_here links i link within here in
      rw (more, is, test, paid, gave) refl

  pub binary_step : (links : List (Link Expr)) (i : ℕ) (link : Link Expr) (op : BinaryOp) (x r y : Value) (w v u : World ℕ) → i < length links → link ≡ get_or links i link → link.op ≡ chain.Binary op
      → (meaning g depth link.operand).value w ≡ Went r v → operate (binary (naming (setting g)) op x r) v ≡ Went y u → linked g depth (drop i links) x w ≡ linked g depth (drop (i + 1) links) y u
  binary_step links i link op x r y w v u within here is gave made =
      let more : drop i links ≡ link ∷ drop (i + 1) links = left_here links i link within here in
      rw (more, is, gave, made) refl

  -- ---- conditionals

  pub arms_step : (all : List (Arm Expr)) (last : Expr) (i : ℕ) (arm : Arm Expr) (t : Value) (w v u : World ℕ) → i < length all → arm ≡ get_or all i arm → (meaning g depth arm.condition).value w ≡ Went t v
      → acting (charge 1) v ≡ Went tt u → is_true u.store.state t ≡ false → arms g depth (drop i all) last w ≡ arms g depth (drop (i + 1) all) last u
  arms_step all last i arm t w v u within here gave paid test =
      let more : drop i all ≡ arm ∷ drop (i + 1) all = left_here all i arm within here in
      rw (more, gave, paid, test) refl

  -- ---- suffixes

  pub suffixes_step : (all : List (Suffix Expr)) (i : ℕ) (s : Suffix Expr) (x y : Value) (w v : World ℕ) → i < length all → s ≡ get_or all i s → one_suffix g depth s x w ≡ Went y v
      → suffixes g depth (drop i all) x w ≡ suffixes g depth (drop (i + 1) all) y v
  suffixes_step all i s x y w v within here gave =
      ap (λ ss. suffixes g depth ss x w) (left_here all i s within here) ∙ ap (λ o. and_then o (suffixes g depth (drop (i + 1) all))) gave

  -- ---- targets

  pub each_step : (es : List Expr) (vs : List Value) (i : ℕ) (e : Expr) (v : Value) (w u : World ℕ) → i < length es → i < length vs → e ≡ get_or es i e → v ≡ get_or vs i v → target g depth e v w ≡ Went tt u
      → each_target g depth (drop i es) (drop i vs) w ≡ each_target g depth (drop (i + 1) es) (drop (i + 1) vs) u
  each_step es vs i e v w u within inside here there gave =
      let more : drop i es ≡ e ∷ drop (i + 1) es = left_here es i e within here in
      let others : drop i vs ≡ v ∷ drop (i + 1) vs = left_here vs i v inside there in
      rw (more, others, gave) refl

pub ruleset pairs_form = (pairs_left)
