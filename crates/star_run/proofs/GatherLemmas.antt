-- What comprehensions gather is what they give, and still fits.
use Rattle.std.proofs.Common.{◌≡◌, ℕ, List, [], ◌∷◌, ◌++◌, map, length, refl, sym, ap, ◌∙◌, subst, arith}
use Rattle.std.specs.Borrow.{Bor}
use Rattle.star_syntax.specs.declared.expression.Clause.{Clause}
use Rattle.star_syntax.specs.declared.expression.Expr.{Expr}
use Rattle.star_value.specs.declared.failure.Failure.{Failure}
use Rattle.star_value.specs.declared.key.Key.{Key}
use Rattle.star_value.specs.declared.value.Value.{Value}
use Rattle.star_meaning.specs.Steps.{Went, Failed}
use Rattle.star_meaning.specs.Validity.{MachineState}
use Rattle.star_meaning.specs.World.{World}
use Rattle.star_meaning.specs.Expressions.{dict_turn, list_turn}
use Rattle.star_meaning.proofs.Alone.{LeadsOn, acting_leads, next_leads}
use Rattle.star_meaning.proofs.Keeping.{charge_keeps, key_keeps}
use Rattle.star_meaning.proofs.LaterLemmas.{leads_same}
use Rattle.star_meaning.specs.State.{dict_put}
use Rattle.star_meaning.specs.Values.{charge_weight}
use Rattle.star_meaning.specs.Comparing.{key_in}
use Rattle.star_meaning.proofs.Leading.{clauses_leads, next_item_leads, value_leads}
use Rattle.star_value.specs.Weight.{weight}
use Rattle.star_builtins.specs.Changes.{PairsFit}
use Rattle.star_builtins.specs.Reached.{AllFit}
use Rattle.star_run.specs.declared.gathered.Element.{Element}
use Rattle.star_run.specs.declared.gathered.Element.TheVariants as element
use Rattle.star_run.specs.declared.gathered.Gathered.{Gathered}
use Rattle.star_run.specs.Fixed.{Fixed, meaning, setting}
use Rattle.star_run.specs.Gathers.{GatheredFit, gather, gathering, turn}
use Rattle.star_run.specs.Parts.{clause_meaning, listed, paired}
use Rattle.star_run.specs.Running.{Goes, HasCredit, IsPaid, Makes, Running}
use Rattle.star_run.proofs.Gathering.{comprehension_lifted, lowered, lowered_failure}
use Rattle.star_run.proofs.WaitLemmas.{all_fit_later, no_pairs_fit, none_fit, pairs_fit_later}

abbrev made : List Value → List (Key × Value) → Gathered
made items pairs = record { items = items; pairs = pairs }

abbrev with_items : List Value → Gathered
with_items items = record { items = items; pairs = [] }

abbrev with_pairs : List (Key × Value) → Gathered
with_pairs pairs = record { items = []; pairs = pairs }

module _ (g : Fixed) (depth : ℕ) where
  list_is : (all : List (Clause Expr)) (e : Bor Expr) (from : Gathered) (w : World ℕ) → from.items ≡ [] → from.pairs ≡ []
      → gathering g depth all (element.Item e) from w ≡ gathering g depth all (element.Item e) (with_items []) w
  list_is all e from w h k = let same : from ≡ with_items [] = ap (λ xs. made xs from.pairs) h ∙ ap (made []) k in ap (λ x. gathering g depth all (element.Item e) x w) same

  dict_is : (all : List (Clause Expr)) (k v : Bor Expr) (from : Gathered) (w : World ℕ) → from.items ≡ [] → from.pairs ≡ []
      → gathering g depth all (element.Pair k v) from w ≡ gathering g depth all (element.Pair k v) (with_pairs []) w
  dict_is all k v from w h l = let same : from ≡ with_pairs [] = ap (λ xs. made xs from.pairs) h ∙ ap (made []) l in ap (λ x. gathering g depth all (element.Pair k v) x w) same

  pub list_gathered : (all : List (Clause Expr)) (e : Bor Expr) (from made : Gathered) (w v : World ℕ) → from.items ≡ [] → from.pairs ≡ []
      → gathering g depth all (element.Item e) from w ≡ Went made v → listed g depth all e.now w ≡ Went made.items v
  list_gathered all e from made w v h k is =
      lowered with_items (λ x. x.items) (λ a. refl) (listed g depth all e.now w) made v
      (sym (comprehension_lifted with_items (list_turn (meaning g depth e.now)) (gather g depth (element.Item e)) (λ a u. refl) (map (clause_meaning g depth) all) [] w) ∙ sym (list_is all e from w h k) ∙ is)

  pub list_failed : (all : List (Clause Expr)) (e : Bor Expr) (from : Gathered) (f : Failure) (w v : World ℕ) → from.items ≡ [] → from.pairs ≡ []
      → gathering g depth all (element.Item e) from w ≡ Failed f v → listed g depth all e.now w ≡ Failed f v
  list_failed all e from f w v h k is =
      lowered_failure with_items (listed g depth all e.now w) f v
      (sym (comprehension_lifted with_items (list_turn (meaning g depth e.now)) (gather g depth (element.Item e)) (λ a u. refl) (map (clause_meaning g depth) all) [] w) ∙ sym (list_is all e from w h k) ∙ is)

  pub dict_gathered : (all : List (Clause Expr)) (k x : Bor Expr) (from made : Gathered) (w v : World ℕ) → from.items ≡ [] → from.pairs ≡ []
      → gathering g depth all (element.Pair k x) from w ≡ Went made v → paired g depth all k.now x.now w ≡ Went made.pairs v
  dict_gathered all k x from made w v h l is =
      lowered with_pairs (λ y. y.pairs) (λ a. refl) (paired g depth all k.now x.now w) made v
      (sym (comprehension_lifted with_pairs (dict_turn (meaning g depth k.now) (meaning g depth x.now)) (gather g depth (element.Pair k x)) (λ a u. refl) (map (clause_meaning g depth) all) [] w) ∙ sym (dict_is all k x from w h l) ∙ is)

  pub dict_failed : (all : List (Clause Expr)) (k x : Bor Expr) (from : Gathered) (f : Failure) (w v : World ℕ) → from.items ≡ [] → from.pairs ≡ []
      → gathering g depth all (element.Pair k x) from w ≡ Failed f v → paired g depth all k.now x.now w ≡ Failed f v
  dict_failed all k x from f w v h l is =
      lowered_failure with_pairs (paired g depth all k.now x.now w) f v
      (sym (comprehension_lifted with_pairs (dict_turn (meaning g depth k.now) (meaning g depth x.now)) (gather g depth (element.Pair k x)) (λ a u. refl) (map (clause_meaning g depth) all) [] w) ∙ sym (dict_is all k x from w h l) ∙ is)

  -- ---- the turns leave what is iterated over

  pub gather_leads : (of : Element) (a : Gathered) → LeadsOn g.node (gather g depth of a)
  unfolding list_turn dict_turn
  gather_leads (element.Item e) a =
      next_leads g.node _ _ (next_leads g.node _ _ (value_leads (setting g) depth e.now) (λ v w. leads_same g.node (a.items ++ v ∷ []) w)) (λ items w. leads_same g.node (record a { items = items }) w)
  gather_leads (element.Pair k x) a =
      next_leads g.node _ _
      (next_leads g.node _ _ (value_leads (setting g) depth k.now)
      (λ y. next_leads g.node _ _ (value_leads (setting g) depth x.now)
      (λ v. next_leads g.node _ _ (acting_leads g.node (key_in y) (λ locked. key_keeps g.node locked y))
      (λ key. next_leads g.node _ _ (acting_leads g.node (charge_weight y) (λ locked. charge_keeps g.node locked (weight y)))
      (λ done w. leads_same g.node (dict_put a.pairs key v) w)))))
      (λ pairs w. leads_same g.node (record a { pairs = pairs }) w)

  pub turn_leads : (targets : List Expr) (more : List (Clause Expr)) (of : Element) (x : Value) (a : Gathered) → LeadsOn g.node (turn g depth targets more of x a)
  turn_leads targets more of x a =
      next_leads g.node _ _ (next_item_leads (setting g) depth targets x) (λ done. clauses_leads (setting g) depth (gather g depth of) (gather_leads of) more a)

-- ---- what is gathered still fits

pub gathered_later : {a b : Running} (gathered : Gathered) → Goes a b → GatheredFit a.machine gathered → GatheredFit b.machine gathered
gathered_later {a} {b} gathered goes h = record { items = all_fit_later gathered.items goes h.items; pairs = pairs_fit_later gathered.pairs goes h.pairs }

pub nothing_fits : (m : MachineState) (gathered : Gathered) → gathered.items ≡ [] → gathered.pairs ≡ [] → GatheredFit m gathered
nothing_fits m gathered items pairs = record {
  items = subst (λ vs. AllFit m vs) (sym items) (none_fit m);
  pairs = subst (λ ps. PairsFit m ps) (sym pairs) (no_pairs_fit m);
}

pub credit_later : {a b : Running} → Goes a b → HasCredit a → HasCredit b
credit_later {a} {b} goes h = omega (arith, h, goes.few, ap length goes.ran)

pub paid_later : (a b c : Running) → IsPaid a b → Goes b c → IsPaid a c
paid_later a b c h goes = omega (arith, h, goes.few)

pub paid_before : (a b c : Running) → Goes a b → IsPaid b c → IsPaid a c
paid_before a b c goes h = omega (arith, h, goes.few)

pub paid_made : (a b c : Running) → Goes a b → IsPaid a b → Makes b c → Goes a c
paid_made a b c goes paid made = record {
  ran = made.ran ∙ goes.ran;
  fit = λ v f. made.fit v (goes.fit v f);
  valid = λ program v. made.valid program (goes.valid program v);
  few = omega (arith, paid, made.few);
}
