-- Cost without prices: by entries, and as the cost at no prices.
use Rattle.std.proofs.Common.{◌≡◌, ◌∙◌, ℕ, ◌+◌, ◌*◌, List, [], ◌∷◌, Bool, true, false, not, ◌&&◌, refl, sym, ap, arith}
use Rattle.std.specs.Prelude.{if◌then◌else◌}
use Rattle.std.specs.List.{AllByRecursion}
use Rattle.plan_type.specs.declared.plan.Plan.{Plan, fold_out-Plan}
use Rattle.plan_type.specs.declared.plan.Entry.{Entry}
use Rattle.plan_type.specs.Costs.{Tree}
use Rattle.plan_type.specs.Plan.{entries_of, is_none, listed_work, entry_work, layer_work, work_at}
use Rattle.plan_type.specs.Prices.{no_prices, listed_cost, cost_at}
use Rattle.plan_type.proofs.PlanParts.{rest_cost, cost_parts, induct, later, with_rest}

-- the work of one entry, over whole plans
abbrev pub rest_work : (ℕ → ℕ) → ℕ → Entry Plan → ℕ
rest_work steps back e = steps e.child + work_at steps e.rest (if e.hold then steps e.child else back + steps e.child)

listed_again : {X : Type 0} (g : Plan → X) (each : Entry X → ℕ) (back : ℕ) (es : List (Entry Plan)) →
    listed_work each back (later g es) ≡ listed_work (λ e. each (with_rest g e)) back es
unfolding with_rest
listed_again g each back [] = refl
listed_again g each back (e ∷ []) = refl
listed_again g each back (e ∷ f ∷ es) =
    ap (λ r. each (with_rest g e) + (if e.hold then 0 else back) + r) (listed_again g each back (f ∷ es))

pub work_parts : (steps : ℕ → ℕ) (p : Plan) (back : ℕ) → work_at steps p back ≡ listed_work (rest_work steps back) back (entries_of p)
unfolding work_at with_rest
work_parts steps p back =
    ap (λ f. f back) (fold_out-Plan (ℕ → ℕ) (layer_work steps) p) ∙ listed_again (work_at steps) (entry_work steps back) back (entries_of p)

module _ (tree : Tree) where
  Plain : Plan → Type 0
  Plain p = (u back again : ℕ) → again ≡ 0 → cost_at tree no_prices p u back again ≡ work_at tree.steps p back

  one : (u back again : ℕ) (v : ℕ) (rest : Plan) → Plain rest → again ≡ 0 → (hold held none : Bool) (a b : ℕ) → a ≡ b →
      tree.steps v + (if hold then cost_at tree no_prices rest v (tree.steps v) (0 * tree.blocks u) else cost_at tree no_prices rest v (back + tree.steps v) again)
      + (if hold && not held then 0 * tree.blocks u else 0) + (if none then 0 else if hold then 0 * tree.blocks u else back + again) + a
      ≡ tree.steps v + work_at tree.steps rest (if hold then tree.steps v else back + tree.steps v) + (if hold then 0 else if none then 0 else back) + b
  unfolding Plain
  one u back again v rest plain zero true true true a b i = let h = plain v (tree.steps v) (0 * tree.blocks u) (omega arith) in omega (arith, h)
  one u back again v rest plain zero true true false a b i = let h = plain v (tree.steps v) (0 * tree.blocks u) (omega arith) in omega (arith, h)
  one u back again v rest plain zero true false true a b i = let h = plain v (tree.steps v) (0 * tree.blocks u) (omega arith) in omega (arith, h)
  one u back again v rest plain zero true false false a b i = let h = plain v (tree.steps v) (0 * tree.blocks u) (omega arith) in omega (arith, h)
  one u back again v rest plain zero false held true a b i = let h = plain v (back + tree.steps v) again zero in omega (arith, h)
  one u back again v rest plain zero false held false a b i = let h = plain v (back + tree.steps v) again zero in omega (arith, h)

  plain_list : (u back again : ℕ) → again ≡ 0 → (held : Bool) (es : List (Entry Plan)) → AllByRecursion (λ e. Plain e.rest) es
      → listed_cost (rest_cost tree no_prices u back again) (0 * tree.blocks u) (λ hold. if hold then 0 * tree.blocks u else back + again) held es ≡ listed_work (rest_work tree.steps back) back es
  unfolding rest_cost
  plain_list u back again zero held [] plain = refl
  plain_list u back again zero held (e ∷ es) plain =
      one u back again e.child e.rest plain.0 zero e.hold held (is_none es) _ _ (plain_list u back again zero e.hold es plain.1)

  plain_by : (p : Plan) → AllByRecursion (λ e. Plain e.rest) (entries_of p) → Plain p
  unfolding Plain
  plain_by p plain u back again zero = cost_parts tree no_prices p u back again ∙ plain_list u back again zero false (entries_of p) plain ∙ sym (work_parts tree.steps p back)

  -- at no prices the cost is the work
  pub plain : (p : Plan) (u back : ℕ) → cost_at tree no_prices p u back 0 ≡ work_at tree.steps p back
  unfolding Plain
  plain p u back = induct Plain plain_by p u back 0 refl
