-- Lines that are not refused: each stands under its parent, and no node stands twice.
use Rattle.std.proofs.Common.{◌≡◌, ◌∙◌, ℕ, ◌+◌, ◌-◌, ◌<◌, ◌≤◌, ◌⊎◌, List, [], ◌∷◌, ◌++◌, Bool, true, false, not, ◌||◌, Some, None, refl, sym, ap, subst, arith, inl, inr}
use Rattle.std.specs.Prelude.{◌==◌, if◌then◌else◌}
use Rattle.std.specs.List.{AllByRecursion, flat_map}
use Rattle.std.proofs.lemmas.Bool.Decides.{nat_tests}
use Rattle.plan_type.specs.declared.plan.Plan.{Plan}
use Rattle.plan_type.specs.declared.plan.Entry.{Entry}
use Rattle.plan_type.specs.declared.costs.Costs.{Costs}
use Rattle.plan_type.specs.Costs.{row_of, is_child_in}
use Rattle.plan_type.specs.Plan.{entries_of}
use Rattle.plan_type.proofs.PlanParts.{induct}
use Rattle.plan_checker.specs.declared.line.Line.{Line}
use Rattle.plan_checker.specs.PlanLines.{lines_of}
use Rattle.plan_checker.specs.Refusals.{last_at, parent_at, stands, first_wrong}
use Rattle.plan_checker.proofs.Tables.{onto}
use Rattle.plan_checker.proofs.Built.{rest_listed, listed_parts}

abbrev pub Rooted : Costs → List Line → List Line → Type 0
Rooted costs before [] = Unit {0}
Rooted costs before (line ∷ lines) = (is_child_in (parent_at line before) (row_of costs line.node) ≡ true) × Rooted costs (line ∷ before) lines

abbrev pub Fresh : List Line → List Line → Type 0
Fresh before [] = Unit {0}
Fresh before (line ∷ lines) = (stands line.node before ≡ false) × Fresh (line ∷ before) lines

abbrev pub Distinct : List Line → Type 0
Distinct [] = Unit {0}
Distinct (line ∷ lines) = (stands line.node lines ≡ false) × Distinct lines

pub unrefused : (costs : Costs) (before lines : List Line) → first_wrong costs before lines ≡ None → Rooted costs before lines × Fresh before lines
unrefused costs before [] h = (tt, tt)
unrefused costs before (l ∷ ls) h = by (is_child_in (parent_at l before) (row_of costs l.node)) refl (stands l.node before) refl h (unrefused costs (l ∷ before) ls)
  where
    by : (c : Bool) → is_child_in (parent_at l before) (row_of costs l.node) ≡ c → (s : Bool) → stands l.node before ≡ s → (if not c || s then Some l.node else first_wrong costs (l ∷ before) ls) ≡ None
        → (first_wrong costs (l ∷ before) ls ≡ None → Rooted costs (l ∷ before) ls × Fresh (l ∷ before) ls) → Rooted costs before (l ∷ ls) × Fresh before (l ∷ ls)
    by true child false new h more = let (r, f) = more h in ((child, r), (new, f))
    by true child true old h more = absurd (cc)
    by false child s old h more = absurd (cc)

pub same_node : (v : ℕ) → (v == v) ≡ true
same_node v = grind (arith, nat_tests)

pub or_true : (a b : Bool) → b ≡ true → (a || b) ≡ true
or_true true b h = refl
or_true false b h = h

pub or_cases : (a b : Bool) → (a || b) ≡ true → (a ≡ true) ⊎ (b ≡ true)
or_cases true b h = inl refl
or_cases false b h = inr h

pub or_neither : (a b : Bool) → (a || b) ≡ false → (a ≡ false) × (b ≡ false)
or_neither true b h = absurd (cc)
or_neither false b h = (refl, h)

pub both : (b : Bool) → b ≡ true → b ≡ false → ⊥
both true h g = absurd (cc)
both false h g = absurd (cc)

pub equal_node : (u v : ℕ) → (u == v) ≡ true → u ≡ v
equal_node u v h = grind (arith, nat_tests)

apart : (v : ℕ) (before lines : List Line) → Fresh before lines → stands v before ≡ true → stands v lines ≡ false
apart v before [] fresh there = refl
apart v before (l ∷ ls) (new, fresh) there = by (l.node == v) refl (apart v (l ∷ before) ls fresh (or_true (l.node == v) (stands v before) there))
  where
    by : (b : Bool) → (l.node == v) ≡ b → stands v ls ≡ false → (b || stands v ls) ≡ false
    by true is more = absurd (both (stands v before) there (subst (λ n. stands n before ≡ false) (equal_node l.node v is) new))
    by false is more = more

pub distinct : (before lines : List Line) → Fresh before lines → Distinct lines
distinct before [] fresh = tt
distinct before (l ∷ ls) (new, fresh) = (apart l.node (l ∷ before) ls fresh (ap (λ b. b || stands l.node before) (same_node l.node)), distinct (l ∷ before) ls fresh)

-- ---- joined lists

pub stands_append : (v : ℕ) (xs ys : List Line) → stands v (xs ++ ys) ≡ (stands v xs || stands v ys)
stands_append v [] ys = refl
stands_append v (x ∷ xs) ys = ap (λ b. (x.node == v) || b) (stands_append v xs ys) ∙ assoc (x.node == v) (stands v xs) (stands v ys)
  where
    assoc : (a b c : Bool) → (a || (b || c)) ≡ ((a || b) || c)
    assoc true b c = refl
    assoc false b c = refl

pub distinct_left : (xs ys : List Line) → Distinct (xs ++ ys) → Distinct xs
distinct_left [] ys d = tt
distinct_left (x ∷ xs) ys (new, d) = ((or_neither (stands x.node xs) (stands x.node ys) (sym (stands_append x.node xs ys) ∙ new)).0, distinct_left xs ys d)

pub distinct_right : (xs ys : List Line) → Distinct (xs ++ ys) → Distinct ys
distinct_right [] ys d = d
distinct_right (x ∷ xs) ys d = distinct_right xs ys d.1

pub distinct_across : (v : ℕ) (xs ys : List Line) → Distinct (xs ++ ys) → stands v xs ≡ true → stands v ys ≡ true → ⊥
distinct_across v [] ys d left right = absurd (cc)
distinct_across v (x ∷ xs) ys (new, d) left right = by (or_cases (x.node == v) (stands v xs) left) (distinct_across v xs ys d)
  where
    by : ((x.node == v) ≡ true) ⊎ (stands v xs ≡ true) → (stands v xs ≡ true → stands v ys ≡ true → ⊥) → ⊥
    by (inl is) more =
        both (stands v ys) right (subst (λ n. stands n ys ≡ false) (equal_node x.node v is) (or_neither (stands x.node xs) (stands x.node ys) (sym (stands_append x.node xs ys) ∙ new)).1)
    by (inr there) more = more there right

pub rooted_front : (costs : Costs) (before xs ys : List Line) → Rooted costs before (xs ++ ys) → Rooted costs before xs
rooted_front costs before [] ys r = tt
rooted_front costs before (x ∷ xs) ys r = (r.0, rooted_front costs (x ∷ before) xs ys r.1)

pub rooted_after : (costs : Costs) (before xs ys : List Line) → Rooted costs before (xs ++ ys) → Rooted costs (onto xs before) ys
rooted_after costs before [] ys r = r
rooted_after costs before (x ∷ xs) ys r = rooted_after costs (x ∷ before) xs ys r.1

-- ---- depths

abbrev pub Deep : ℕ → List Line → Type 0
Deep depth = AllByRecursion (λ line. depth ≤ line.depth)

deep_append : (depth : ℕ) (xs ys : List Line) → Deep depth xs → Deep depth ys → Deep depth (xs ++ ys)
deep_append depth [] ys a b = b
deep_append depth (x ∷ xs) ys a b = (a.0, deep_append depth xs ys a.1 b)

deep_less : (depth : ℕ) (xs : List Line) → Deep (depth + 1) xs → Deep depth xs
deep_less depth [] a = tt
deep_less depth (x ∷ xs) a = (let h = a.0 in omega (arith, h), deep_less depth xs a.1)

IsDeep : Plan → Type 0
IsDeep p = (depth : ℕ) → Deep depth (lines_of p depth)

deep_entry : (depth : ℕ) (e : Entry Plan) → IsDeep e.rest → Deep depth (rest_listed depth e)
unfolding rest_listed IsDeep
deep_entry depth e deep = (omega arith, deep_less depth (lines_of e.rest (depth + 1)) (deep (depth + 1)))

deep_by : (p : Plan) → AllByRecursion (λ e. IsDeep e.rest) (entries_of p) → IsDeep p
unfolding IsDeep
deep_by p deep depth = subst (Deep depth) (sym (listed_parts p depth)) (each (entries_of p) deep)
  where
    each : (es : List (Entry Plan)) → AllByRecursion (λ e. IsDeep e.rest) es → Deep depth (flat_map (rest_listed depth) es)
    each [] h = tt
    each (e ∷ es) h = deep_append depth (rest_listed depth e) (flat_map (rest_listed depth) es) (deep_entry depth e h.0) (each es h.1)

pub deep_listed : (depth : ℕ) (e : Entry Plan) → Deep depth (rest_listed depth e)
deep_listed depth e = deep_entry depth e (induct IsDeep deep_by e.rest)

pub last_past : (at depth : ℕ) (xs before : List Line) → Deep depth xs → at < depth → last_at at (onto xs before) ≡ last_at at before
last_past at depth [] before deep lt = refl
last_past at depth (x ∷ xs) before deep lt =
    last_past at depth xs (x ∷ before) deep.1 lt ∙ ap (λ b. if b then x.node else last_at at before) (let h = deep.0 in other x.depth at (omega (arith, h)))
  where
    other : (d k : ℕ) → k < d → (d == k) ≡ false
    other d k lt = grind (arith, nat_tests)

-- ---- owners

-- a child of some node, which is u or stands among the lines
pub record Owner (costs : Costs) (u : ℕ) (lines : List Line) (v : ℕ) : Type 0 where
  pub node : ℕ
  pub child : is_child_in node (row_of costs v) ≡ true
  pub place : (node ≡ u) ⊎ (stands node lines ≡ true)

abbrev pub Owned : Costs → ℕ → List Line → Type 0
Owned costs u lines = (v : ℕ) → stands v lines ≡ true → Owner costs u lines v

module _ (costs : Costs) where
  Owns : Plan → Type 0
  Owns p = (u depth : ℕ) (before : List Line) → 1 ≤ depth → last_at (depth - 1) before ≡ u → Rooted costs before (lines_of p depth) → Owned costs u (lines_of p depth)

  -- what holds at one entry, after the lines before it
  pub entry_child : (u depth : ℕ) (before more : List Line) (e : Entry Plan) → last_at (depth - 1) before ≡ u → Rooted costs before (rest_listed depth e ++ more) → is_child_in u (row_of costs e.child) ≡ true
  unfolding rest_listed
  entry_child u depth before more e last rooted = subst (λ n. is_child_in n (row_of costs e.child) ≡ true) last rooted.0

  pub inner_rooted : (depth : ℕ) (before more : List Line) (e : Entry Plan) → Rooted costs before (rest_listed depth e ++ more) → Rooted costs (record { depth = depth; node = e.child; hold = e.hold } ∷ before) (lines_of e.rest (depth + 1))
  unfolding rest_listed
  inner_rooted depth before more e rooted = rooted_front costs _ (lines_of e.rest (depth + 1)) more rooted.1

  pub inner_last : (depth : ℕ) (before : List Line) (e : Entry Plan) → last_at (depth + 1 - 1) (record { depth = depth; node = e.child; hold = e.hold } ∷ before) ≡ e.child
  inner_last depth before e =
      ap (λ n. last_at n (record { depth = depth; node = e.child; hold = e.hold } ∷ before)) (let s : depth + 1 - 1 ≡ depth = omega arith in s)
      ∙ ap (λ b. if b then e.child else last_at depth before) (same_node depth)

  pub more_last : (u depth : ℕ) (before : List Line) (e : Entry Plan) → 1 ≤ depth → last_at (depth - 1) before ≡ u → last_at (depth - 1) (onto (rest_listed depth e) before) ≡ u
  more_last u depth before e some last = last_past (depth - 1) depth (rest_listed depth e) before (deep_listed depth e) (omega arith) ∙ last

  each_owned : (u depth : ℕ) (es : List (Entry Plan)) → AllByRecursion (λ e. Owns e.rest) es → (before : List Line) → 1 ≤ depth → last_at (depth - 1) before ≡ u → Rooted costs before (flat_map (rest_listed depth) es)
      → Owned costs u (flat_map (rest_listed depth) es)
  unfolding Owns rest_listed
  each_owned u depth [] owns before some last rooted v there = absurd (cc)
  each_owned u depth (e ∷ es) (own, owns) before some last rooted v there =
      let more = flat_map (rest_listed depth) es in
      let inner = own e.child (depth + 1) (record { depth = depth; node = e.child; hold = e.hold } ∷ before) (omega arith) (inner_last depth before e) (inner_rooted depth before more e rooted) in
      let others = each_owned u depth es owns (onto (rest_listed depth e) before) some (more_last u depth before e some last) (rooted_after costs before (rest_listed depth e) more rooted) in
      by more (entry_child u depth before more e last rooted) inner others (or_cases (e.child == v) (stands v (lines_of e.rest (depth + 1) ++ more)) there)
    where
      by : (more : List Line) → is_child_in u (row_of costs e.child) ≡ true → Owned costs e.child (lines_of e.rest (depth + 1)) → Owned costs u more
          → ((e.child == v) ≡ true) ⊎ (stands v (lines_of e.rest (depth + 1) ++ more) ≡ true) → Owner costs u (record { depth = depth; node = e.child; hold = e.hold } ∷ (lines_of e.rest (depth + 1) ++ more)) v
      by more child inner others (inl is) = record { node = u; child = subst (λ n. is_child_in u (row_of costs n) ≡ true) (equal_node e.child v is) child; place = inl refl }
      by more child inner others (inr there) = within (or_cases (stands v (lines_of e.rest (depth + 1))) (stands v more) (sym (stands_append v (lines_of e.rest (depth + 1)) more) ∙ there))
        where
          seen : (n : ℕ) → (stands n (lines_of e.rest (depth + 1)) || stands n more) ≡ true → ((e.child == n) || stands n (lines_of e.rest (depth + 1) ++ more)) ≡ true
          seen n h = or_true (e.child == n) _ (stands_append n (lines_of e.rest (depth + 1)) more ∙ h)

          up : (n : ℕ) → (n ≡ e.child) ⊎ (stands n (lines_of e.rest (depth + 1)) ≡ true) → ((e.child == n) || stands n (lines_of e.rest (depth + 1) ++ more)) ≡ true
          up n (inl is) = ap (λ b. b || stands n (lines_of e.rest (depth + 1) ++ more)) (subst (λ k. (k == n) ≡ true) is (same_node n))
          up n (inr h) = seen n (ap (λ b. b || stands n more) h)

          along : (n : ℕ) → (n ≡ u) ⊎ (stands n more ≡ true) → (n ≡ u) ⊎ (((e.child == n) || stands n (lines_of e.rest (depth + 1) ++ more)) ≡ true)
          along n (inl is) = inl is
          along n (inr h) = inr (seen n (or_true (stands n (lines_of e.rest (depth + 1))) (stands n more) h))

          within : (stands v (lines_of e.rest (depth + 1)) ≡ true) ⊎ (stands v more ≡ true) → Owner costs u (record { depth = depth; node = e.child; hold = e.hold } ∷ (lines_of e.rest (depth + 1) ++ more)) v
          within (inl h) = let o = inner v h in record { node = o.node; child = o.child; place = inr (up o.node o.place) }
          within (inr h) = let o = others v h in record { node = o.node; child = o.child; place = along o.node o.place }

  owned_by : (p : Plan) → AllByRecursion (λ e. Owns e.rest) (entries_of p) → Owns p
  unfolding Owns
  owned_by p owns u depth before some last rooted =
      subst (Owned costs u) (sym (listed_parts p depth)) (each_owned u depth (entries_of p) owns before some last (subst (Rooted costs before) (listed_parts p depth) rooted))

  pub owned : (p : Plan) (u depth : ℕ) (before : List Line) → 1 ≤ depth → last_at (depth - 1) before ≡ u → Rooted costs before (lines_of p depth) → Owned costs u (lines_of p depth)
  unfolding Owns
  owned = induct Owns owned_by

  every_owns : (es : List (Entry Plan)) → AllByRecursion (λ e. Owns e.rest) es
  every_owns [] = tt
  every_owns (e ∷ es) = (induct Owns owned_by e.rest, every_owns es)

  pub owned_list : (u depth : ℕ) (es : List (Entry Plan)) (before : List Line) → 1 ≤ depth → last_at (depth - 1) before ≡ u → Rooted costs before (flat_map (rest_listed depth) es) → Owned costs u (flat_map (rest_listed depth) es)
  owned_list u depth es = each_owned u depth es (every_owns es)
