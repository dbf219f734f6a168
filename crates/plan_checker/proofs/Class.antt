-- A plan whose lines are not refused is of the class.
use Rattle.std.proofs.Common.{◌≡◌, ◌∙◌, ℕ, zero, suc, ◌+◌, ◌-◌, ◌<◌, ◌≤◌, ◌⊎◌, List, [], ◌∷◌, ◌++◌, length, Bool, true, false, not, ◌&&◌, ◌||◌, Option, Some, None, refl, sym, ap, subst, arith, inl, inr}
use Rattle.std.specs.Prelude.{◌==◌, if◌then◌else◌}
use Rattle.std.specs.List.{AllByRecursion, flat_map, find, range_with_len}
use Rattle.plan_type.specs.declared.plan.Plan.{Plan}
use Rattle.plan_type.specs.declared.plan.Entry.{Entry}
use Rattle.plan_type.specs.declared.costs.Costs.{Costs}
use Rattle.plan_type.specs.declared.row.Row.{Row}
use Rattle.plan_type.specs.Costs.{row_of, is_child_in, is_reached, is_reached_in, children_of}
use Rattle.plan_type.specs.Plan.{named, entries_of, IsPlanOf, IsPlan, HoldsNone}
use Rattle.plan_type.proofs.PlanParts.{induct}
use Rattle.plan_type.proofs.Tested.{plan_seen}
use Rattle.plan_type.proofs.Sound.{child_parent}
use Rattle.plan_type.proofs.Led.{row_within}
use Rattle.plan_checker.specs.declared.line.Line.{Line}
use Rattle.plan_checker.specs.PlanLines.{lines_of}
use Rattle.plan_checker.specs.Refusals.{last_at, stands, first_wrong, least_missing, or_else, wrong_child}
use Rattle.plan_checker.specs.Lines.{AllFollow, last_depth}
use Rattle.plan_checker.proofs.Tables.{onto}
use Rattle.plan_checker.proofs.Built.{rest_listed, listed_parts}
use Rattle.plan_checker.proofs.Numbered.{has, Once, orders, has_kept, kept_has, once_kept}
use Rattle.plan_checker.proofs.Owners.{Rooted, Distinct, Owned, same_node, equal_node, or_true, or_cases, or_neither, both, stands_append, distinct_left, distinct_right, distinct_across, rooted_after, entry_child, inner_rooted, inner_last, more_last, owned, owned_list, unrefused, distinct}

one_parent : (row : Option Row) (u w : ℕ) → is_child_in u row ≡ true → is_child_in w row ≡ true → u ≡ w
one_parent row u w a b = let p = child_parent u row a in let q = child_parent w row b in let e : Some u ≡ Some w = sym p ∙ q in cc

child_within : (costs : Costs) (u v : ℕ) → is_child_in u (row_of costs v) ≡ true → (1 ≤ v) × (v ≤ length costs.rows)
child_within costs u zero h = absurd (cc)
child_within costs u (suc i) h = (omega arith, by (row_of costs (suc i)) refl h)
  where
    by : (o : Option Row) → row_of costs (suc i) ≡ o → is_child_in u o ≡ true → suc i ≤ length costs.rows
    by None at h = absurd (cc)
    by (Some row) at h = row_within costs (suc i) row at

-- what is a child of a node among these stands among these
abbrev Closed : Costs → List Line → Type 0
Closed costs lines = (w v : ℕ) → stands w lines ≡ true → is_child_in w (row_of costs v) ≡ true → stands v lines ≡ true

-- and what is a child of u
abbrev ClosedFrom : Costs → ℕ → List Line → Type 0
ClosedFrom costs u lines = (w v : ℕ) → (w ≡ u) ⊎ (stands w lines ≡ true) → is_child_in w (row_of costs v) ≡ true → stands v lines ≡ true

module _ (costs : Costs) where
  InClass : Plan → Type 0
  InClass p = (u depth : ℕ) (before : List Line) → 1 ≤ depth → last_at (depth - 1) before ≡ u → Rooted costs before (lines_of p depth) → Distinct (lines_of p depth) → stands u (lines_of p depth) ≡ false → ClosedFrom costs u (lines_of p depth)
      → IsPlanOf (children_of costs) u p

  -- one entry and the entries after it, as lists of lines
  module _ (u depth : ℕ) (e : Entry Plan) (more : List Line) where
    abbrev inner : List Line
    inner = lines_of e.rest (depth + 1)

    abbrev line : Line
    line = record { depth = depth; node = e.child; hold = e.hold }

    seen_inner : (v : ℕ) → (v ≡ e.child) ⊎ (stands v inner ≡ true) → stands v (line ∷ inner) ≡ true
    seen_inner v (inl is) = ap (λ b. b || stands v inner) (subst (λ k. (k == v) ≡ true) is (same_node v))
    seen_inner v (inr h) = or_true (e.child == v) (stands v inner) h

    inner_closed : is_child_in u (row_of costs e.child) ≡ true → Owned costs u more → Distinct ((line ∷ inner) ++ more) → stands u ((line ∷ inner) ++ more) ≡ false → Closed costs ((line ∷ inner) ++ more) → ClosedFrom costs e.child inner
    inner_closed child others once absent closed w v place is =
        let at : stands w (line ∷ inner) ≡ true = seen_inner w place in
        by at (or_cases (stands v (line ∷ inner)) (stands v more) (sym (stands_append v (line ∷ inner) more) ∙ closed w v (stands_append w (line ∷ inner) more ∙ ap (λ b. b || stands w more) at) is))
      where
        not_root : stands w (line ∷ inner) ≡ true → w ≡ u → ⊥
        not_root at e = both (stands u (line ∷ inner)) (subst (λ k. stands k (line ∷ inner) ≡ true) e at) (or_neither (stands u (line ∷ inner)) (stands u more) (sym (stands_append u (line ∷ inner) more) ∙ absent)).0

        own : stands w (line ∷ inner) ≡ true → ((e.child == v) ≡ true) ⊎ (stands v inner ≡ true) → stands v inner ≡ true
        own at (inl same) = absurd (not_root at (one_parent (row_of costs v) w u is (subst (λ k. is_child_in u (row_of costs k) ≡ true) (equal_node e.child v same) child)))
        own at (inr h) = h

        outside : stands w (line ∷ inner) ≡ true → (n : ℕ) → is_child_in n (row_of costs v) ≡ true → (n ≡ u) ⊎ (stands n more ≡ true) → ⊥
        outside at n c (inl e) = not_root at (one_parent (row_of costs v) w n is c ∙ e)
        outside at n c (inr h) = distinct_across w (line ∷ inner) more once at (subst (λ k. stands k more ≡ true) (one_parent (row_of costs v) n w c is) h)

        by : stands w (line ∷ inner) ≡ true → (stands v (line ∷ inner) ≡ true) ⊎ (stands v more ≡ true) → stands v inner ≡ true
        by at (inl h) = own at (or_cases (e.child == v) (stands v inner) h)
        by at (inr h) = let o = others v h in absurd (outside at o.node o.child o.place)

    more_closed : is_child_in u (row_of costs e.child) ≡ true → Owned costs e.child inner → Distinct ((line ∷ inner) ++ more) → stands u ((line ∷ inner) ++ more) ≡ false → Closed costs ((line ∷ inner) ++ more) → Closed costs more
    more_closed child inside once absent closed w v at is =
        by (or_cases (stands v (line ∷ inner)) (stands v more) (sym (stands_append v (line ∷ inner) more) ∙ closed w v (stands_append w (line ∷ inner) more ∙ or_true (stands w (line ∷ inner)) (stands w more) at) is))
      where
        not_root : w ≡ u → ⊥
        not_root e = both (stands u more) (subst (λ k. stands k more ≡ true) e at) (or_neither (stands u (line ∷ inner)) (stands u more) (sym (stands_append u (line ∷ inner) more) ∙ absent)).1

        own : ((e.child == v) ≡ true) ⊎ (stands v inner ≡ true) → ⊥
        own (inl same) = not_root (one_parent (row_of costs v) w u is (subst (λ k. is_child_in u (row_of costs k) ≡ true) (equal_node e.child v same) child))
        own (inr h) =
            let o = inside v h in
            distinct_across w (line ∷ inner) more once (subst (λ k. stands k (line ∷ inner) ≡ true) (one_parent (row_of costs v) o.node w o.child is) (seen_inner o.node o.place)) at

        by : (stands v (line ∷ inner) ≡ true) ⊎ (stands v more ≡ true) → stands v more ≡ true
        by (inl h) = absurd (own (or_cases (e.child == v) (stands v inner) h))
        by (inr h) = h

  -- of all entries: each rest is a plan of its child, the children are u's and differ, and the children of u among the lines are named
  record Entries (u : ℕ) (lines : List Line) (es : List (Entry Plan)) : Type 0 where
    rests : AllByRecursion (λ e. IsPlanOf (children_of costs) e.child e.rest) es
    all : AllByRecursion (λ e. is_child_in u (row_of costs e.child) ≡ true) es
    once : Once (named es)
    to : (v : ℕ) → stands v lines ≡ true → is_child_in u (row_of costs v) ≡ true → has v (named es) ≡ true
    from : (v : ℕ) → has v (named es) ≡ true → stands v lines ≡ true

  each_class : (u depth : ℕ) (es : List (Entry Plan)) → AllByRecursion (λ e. InClass e.rest) es → (before : List Line) → 1 ≤ depth → last_at (depth - 1) before ≡ u → Rooted costs before (flat_map (rest_listed depth) es)
      → Distinct (flat_map (rest_listed depth) es) → stands u (flat_map (rest_listed depth) es) ≡ false → Closed costs (flat_map (rest_listed depth) es) → Entries u (flat_map (rest_listed depth) es) es
  unfolding InClass rest_listed
  each_class u depth [] h before some last rooted once absent closed = record { rests = tt; all = tt; once = tt; to = (λ v there child. absurd (cc)); from = (λ v there. absurd (cc)) }
  each_class u depth (e ∷ es) h before some last rooted once absent closed =
      let more = flat_map (rest_listed depth) es in
      let child = entry_child costs u depth before more e last rooted in
      let down = inner_rooted costs depth before more e rooted in
      let on = rooted_after costs before (rest_listed depth e) more rooted in
      let on_last = more_last costs u depth before e some last in
      let inside = owned costs e.rest e.child (depth + 1) (line u depth e more ∷ before) (omega arith) (inner_last costs depth before e) down in
      let others = owned_list costs u depth es (onto (rest_listed depth e) before) some on_last on in
      let first = h.0 e.child (depth + 1) (line u depth e more ∷ before) (omega arith) (inner_last costs depth before e) down (distinct_left (inner u depth e more) more once.1)
      (or_neither (stands e.child (inner u depth e more)) (stands e.child more) (sym (stands_append e.child (inner u depth e more) more) ∙ once.0)).0 (inner_closed u depth e more child others once absent closed) in
      let later = each_class u depth es h.1 (onto (rest_listed depth e) before) some on_last on (distinct_right (rest_listed depth e) more once)
      (or_neither (stands u (rest_listed depth e)) (stands u more) (sym (stands_append u (rest_listed depth e) more) ∙ absent)).1 (more_closed u depth e more child inside once absent closed) in
      joined child first inside later
    where
      joined : is_child_in u (row_of costs e.child) ≡ true → IsPlanOf (children_of costs) e.child e.rest → Owned costs e.child (lines_of e.rest (depth + 1)) → Entries u (flat_map (rest_listed depth) es) es → Entries u (rest_listed depth e ++ (flat_map (rest_listed depth) es)) (e ∷ es)
      joined child first inside later = record {
        rests = (first, later.rests);
        all = (child, later.all);
        once = (new (has e.child (named es)) refl, later.once);
        to = λ v there c. (by_line v c (or_cases (stands v (rest_listed depth e)) (stands v (flat_map (rest_listed depth) es)) (sym (stands_append v (rest_listed depth e) (flat_map (rest_listed depth) es)) ∙ there)));
        from = λ v there. (stands_append v (rest_listed depth e) (flat_map (rest_listed depth) es) ∙ by_name v (or_cases (e.child == v) (has v (named es)) there));
      }
        where
          new : (b : Bool) → has e.child (named es) ≡ b → b ≡ false
          new true is = absurd (both (stands e.child (flat_map (rest_listed depth) es)) (later.from e.child is) (or_neither (stands e.child (lines_of e.rest (depth + 1))) (stands e.child (flat_map (rest_listed depth) es)) (sym (stands_append e.child (lines_of e.rest (depth + 1)) (flat_map (rest_listed depth) es)) ∙ once.0)).1)
          new false is = refl

          own : (v : ℕ) → is_child_in u (row_of costs v) ≡ true → ((e.child == v) ≡ true) ⊎ (stands v (lines_of e.rest (depth + 1)) ≡ true) → has v (named (e ∷ es)) ≡ true
          own v c (inl is) = ap (λ b. b || has v (named es)) is
          own v c (inr there) =
              let o = inside v there in
              absurd (both (stands u (rest_listed depth e)) (subst (λ k. stands k (rest_listed depth e) ≡ true) (one_parent (row_of costs v) o.node u o.child c) (seen_inner u depth e (flat_map (rest_listed depth) es) o.node o.place))
              (or_neither (stands u (rest_listed depth e)) (stands u (flat_map (rest_listed depth) es)) (sym (stands_append u (rest_listed depth e) (flat_map (rest_listed depth) es)) ∙ absent)).0)

          by_line : (v : ℕ) → is_child_in u (row_of costs v) ≡ true → (stands v (rest_listed depth e) ≡ true) ⊎ (stands v (flat_map (rest_listed depth) es) ≡ true) → has v (named (e ∷ es)) ≡ true
          by_line v c (inl there) = own v c (or_cases (e.child == v) (stands v (lines_of e.rest (depth + 1))) there)
          by_line v c (inr there) = or_true (e.child == v) (has v (named es)) (later.to v there c)

          by_name : (v : ℕ) → ((e.child == v) ≡ true) ⊎ (has v (named es) ≡ true) → (stands v (rest_listed depth e) || stands v (flat_map (rest_listed depth) es)) ≡ true
          by_name v (inl is) = ap (λ b. b || stands v (flat_map (rest_listed depth) es)) (seen_inner u depth e (flat_map (rest_listed depth) es) v (inl (sym (equal_node e.child v is))))
          by_name v (inr there) = or_true (stands v (rest_listed depth e)) (stands v (flat_map (rest_listed depth) es)) (later.from v there)

  named_child : (u : ℕ) (es : List (Entry Plan)) → AllByRecursion (λ e. is_child_in u (row_of costs e.child) ≡ true) es → (v : ℕ) → has v (named es) ≡ true → is_child_in u (row_of costs v) ≡ true
  named_child u [] all v h = absurd (cc)
  named_child u (e ∷ es) all v h = by (or_cases (e.child == v) (has v (named es)) h) (named_child u es all.1 v)
    where
      by : ((e.child == v) ≡ true) ⊎ (has v (named es) ≡ true) → (has v (named es) ≡ true → is_child_in u (row_of costs v) ≡ true) → is_child_in u (row_of costs v) ≡ true
      by (inl is) more = subst (λ k. is_child_in u (row_of costs k) ≡ true) (equal_node e.child v is) all.0
      by (inr there) more = more there

  class_by : (p : Plan) → AllByRecursion (λ e. InClass e.rest) (entries_of p) → InClass p
  unfolding InClass
  class_by p h u depth before some last rooted once absent closed =
      let parts = listed_parts p depth in
      let closed' = subst (ClosedFrom costs u) parts closed in
      let got = each_class u depth (entries_of p) h before some last (subst (Rooted costs before) parts rooted) (subst Distinct parts once) (subst (λ l. stands u l ≡ false) parts absent) (λ w v at is. closed' w v (inr at) is) in
      plan_seen (children_of costs) u p (children_of costs u) got.rests
      (orders (named (entries_of p)) (children_of costs u) got.once (once_kept (λ v. is_child_in u (row_of costs v)) 1 (length costs.rows))
      (λ v there. let c = named_child u (entries_of p) got.all v there in let (low, high) = child_within costs u v c in has_kept (λ k. is_child_in u (row_of costs k)) 1 (length costs.rows) v low (omega (arith, high)) c)
      (λ v there. let c = (kept_has (λ k. is_child_in u (row_of costs k)) 1 (length costs.rows) v there).0 in got.to v (closed' u v (inl refl) c) c)) refl

  rooted_zero : (before lines : List Line) → Rooted costs before lines → stands 0 lines ≡ false
  rooted_zero before [] rooted = refl
  rooted_zero before (l ∷ ls) rooted = by (l.node == 0) refl (rooted_zero (l ∷ before) ls rooted.1)
    where
      by : (b : Bool) → (l.node == 0) ≡ b → stands 0 ls ≡ false → (b || stands 0 ls) ≡ false
      by true is more = absurd (let z : is_child_in (last_at (l.depth - 1) before) (row_of costs 0) ≡ true = subst (λ k. is_child_in (last_at (l.depth - 1) before) (row_of costs k) ≡ true) (equal_node l.node 0 is) rooted.0 in cc)
      by false is more = more

  find_none : (p : ℕ → Bool) (a n v : ℕ) → find p (range_with_len a n) ≡ None → a ≤ v → v < a + n → p v ≡ false
  find_none p a zero v none low high = absurd (omega arith)
  find_none p a (suc n) v none low high = by (p a) refl none (find_none p (a + 1) n v)
    where
      cases : (a v : ℕ) → a ≤ v → (a ≡ v) ⊎ (a + 1 ≤ v)
      cases a v le = grind arith

      here : p a ≡ false → (a + 1 ≤ v → p v ≡ false) → (a ≡ v) ⊎ (a + 1 ≤ v) → p v ≡ false
      here is more (inl e) = subst (λ k. p k ≡ false) e is
      here is more (inr le) = more le

      by : (b : Bool) → p a ≡ b → (if b then Some a else find p (range_with_len (a + 1) n)) ≡ None → (find p (range_with_len (a + 1) n) ≡ None → a + 1 ≤ v → v < a + 1 + n → p v ≡ false) → p v ≡ false
      by true is h more = absurd (cc)
      by false is h more = here is (λ le. more h le (omega arith)) (cases a v low)

  child_reached : (row : Option Row) (u : ℕ) → is_child_in u row ≡ true → is_reached_in row ≡ true
  child_reached None u h = absurd (cc)
  child_reached (Some row) u h = by (row.parent == u) h
    where
      by : (b : Bool) → (b && is_reached row.end) ≡ true → is_reached row.end ≡ true
      by true h = h
      by false h = absurd (cc)

  all_stand : (lines : List Line) → least_missing costs lines ≡ None → (w v : ℕ) → is_child_in w (row_of costs v) ≡ true → stands v lines ≡ true
  all_stand lines none w v child =
      let (low, high) = child_within costs w v child in
      by (is_reached_in (row_of costs v)) (child_reached (row_of costs v) w child) (stands v lines) (find_none (λ k. is_reached_in (row_of costs k) && not (stands k lines)) 1 (length costs.rows) v none low (omega (arith, high)))
    where
      by : (r : Bool) → r ≡ true → (s : Bool) → (r && not s) ≡ false → s ≡ true
      by true h true g = refl
      by true h false g = absurd (cc)
      by false h s g = absurd (cc)

  follow_after : (before : ℕ) (xs ys : List Line) → AllFollow before (xs ++ ys) → AllFollow (last_depth before xs) ys
  follow_after before [] ys all = all
  follow_after before (x ∷ xs) ys all = follow_after x.depth xs ys all.1

  none_held : (es : List (Entry Plan)) (before : ℕ) → AllFollow before (flat_map (rest_listed 1) es) → HoldsNone es
  unfolding rest_listed
  none_held [] before all = tt
  none_held (e ∷ es) before all = (all.0.root refl, none_held es _ (follow_after before (rest_listed 1 e) (flat_map (rest_listed 1) es) all))

  pub class_top : (p : Plan) → AllFollow 0 (lines_of p 1) → wrong_child costs (lines_of p 1) ≡ None → IsPlan costs p
  unfolding InClass wrong_child
  class_top p follow none =
      let (first, missing) = neither (first_wrong costs [] (lines_of p 1)) (least_missing costs (lines_of p 1)) none in
      let (rooted, fresh) = unrefused costs [] (lines_of p 1) first in
      record {
        orders = induct InClass class_by p 0 1 [] (omega arith) refl rooted (distinct [] (lines_of p 1) fresh) (rooted_zero [] (lines_of p 1) rooted) (λ w v at is. all_stand (lines_of p 1) missing w v is);
        holds_none = none_held (entries_of p) 0 (subst (AllFollow 0) (listed_parts p 1) follow);
      }
    where
      neither : (a b : Option ℕ) → or_else a b ≡ None → (a ≡ None) × (b ≡ None)
      neither None b h = (refl, h)
      neither (Some v) b h = absurd (cc)
