-- The operations of the entries, one entry after another; and that what is held fits.
use Rattle.std.proofs.Common.{◌≡◌, ◌∙◌, ℕ, zero, suc, ◌+◌, ◌-◌, ◌<◌, ◌≤◌, List, [], ◌∷◌, ◌++◌, drop, get_or, length, Bool, true, false, Option, None, Some, sym, ap, arith, append_assoc, length-append}
use Rattle.std.specs.Prelude.{if◌then◌else◌, nat_eq, MatchOption}
use Rattle.std.specs.List.{AllByRecursion}
use Rattle.std.proofs.lemmas.List.{drop_more, length-drop, drop_at, drop-append-le, same_from_push}
use Rattle.std.proofs.lemmas.Bool.Decides.{nat_tests}
use Rattle.plan_type.specs.declared.plan.Plan.{Plan}
use Rattle.plan_type.specs.declared.plan.Entry.{Entry}
use Rattle.plan_type.specs.declared.operations.Operation.TheVariants.{Compute}
use Rattle.plan_type.specs.declared.costs.Costs.{Costs}
use Rattle.plan_type.specs.Costs.{Tree, tree_of, steps_of, blocks_of}
use Rattle.plan_type.specs.Plan.{entries_of, is_none, greatest, peak_at}
use Rattle.plan_type.specs.Operations.{Ops, before, listed_ops, ops_at, way_back}
use Rattle.plan_type.proofs.PlanParts.{rest_peak, peak_parts, rest_ops, ops_parts, induct, peak_above}

-- ---- peak

greatest_rises : (f g : Entry Plan → ℕ) (a b : ℕ) (es : List (Entry Plan)) → a ≤ b → AllByRecursion (λ e. f e ≤ g e) es → greatest f a es ≤ greatest g b es
greatest_rises f g a b [] le h = le
greatest_rises f g a b (e ∷ es) le (here, more) = let i = greatest_rises f g a b es le more in omega (arith, here, i)

module _ (blocks : ℕ → ℕ) where
  Rises : Plan → Type 0
  Rises p = (u a b : ℕ) → a ≤ b → peak_at blocks p u a ≤ peak_at blocks p u b

  each_rises : (u a b : ℕ) (es : List (Entry Plan)) → a ≤ b → AllByRecursion (λ e. Rises e.rest) es → AllByRecursion (λ e. rest_peak blocks u a e ≤ rest_peak blocks u b e) es
  unfolding Rises rest_peak
  each_rises u a b [] le h = tt
  each_rises u a b (e ∷ es) le (rises, more) = (rises e.child (if e.hold then a + blocks u else a) (if e.hold then b + blocks u else b) (by e.hold), each_rises u a b es le more)
    where
      by : (hold : Bool) → (if hold then a + blocks u else a) ≤ (if hold then b + blocks u else b)
      by true = omega arith
      by false = le

  rises_by : (p : Plan) → AllByRecursion (λ e. Rises e.rest) (entries_of p) → Rises p
  unfolding Rises
  rises_by p rises u a b le = rw (peak_parts blocks p u a, peak_parts blocks p u b) (greatest_rises (rest_peak blocks u a) (rest_peak blocks u b) a b (entries_of p) le (each_rises u a b (entries_of p) le rises))

  pub peak_rises : (p : Plan) (u a b : ℕ) → a ≤ b → peak_at blocks p u a ≤ peak_at blocks p u b
  unfolding Rises
  peak_rises p = induct Rises rises_by p

  greatest_part : (each : Entry Plan → ℕ) (used : ℕ) (es : List (Entry Plan)) (i : ℕ) (d : Entry Plan) → i < length es → each (get_or es i d) ≤ greatest each used es
  greatest_part each used [] i d lt = absurd (omega arith)
  greatest_part each used (e ∷ es) zero d lt = omega arith
  greatest_part each used (e ∷ es) (suc i) d lt = let h = greatest_part each used es i d (omega arith) in omega (arith, h)

  -- an entry holds no more than the whole plan
  pub record Room (u : ℕ) (e : Entry Plan) (most : ℕ) : Type 0 where
    pub own : e.hold ≡ true → blocks u < most
    pub rest : peak_at blocks e.rest e.child 0 < most

  pub room_at : (p : Plan) (u most : ℕ) → peak_at blocks p u 0 < most → (es : List (Entry Plan)) → es ≡ entries_of p → (i : ℕ) (e : Entry Plan) → i < length es → e ≡ get_or es i e → Room u e most
  unfolding rest_peak
  room_at p u most fits es are i e lt at =
      let parts = peak_parts blocks p u 0 in
      let g = greatest_part (rest_peak blocks u 0) 0 es i e lt in
      let a = ap (greatest (rest_peak blocks u 0) 0) are in
      let s = ap (rest_peak blocks u 0) at in
      let top = peak_above blocks e.rest e.child (if e.hold then 0 + blocks u else 0) in
      let more = peak_rises e.rest e.child 0 (if e.hold then 0 + blocks u else 0) (omega arith) in
      record {
        own = λ hold. let h = ap (λ b. if b then 0 + blocks u else 0) hold in omega (arith, parts, g, a, s, top, h, fits);
        rest = omega (arith, parts, g, a, s, more, fits);
      }

  -- the same of each entry
  abbrev pub Roomy : ℕ → ℕ → Entry Plan → Type 0
  Roomy u most e = (e.hold ≡ true → blocks u ≤ most) × (peak_at blocks e.rest e.child 0 ≤ most)

  pub rooms : (u most : ℕ) (es : List (Entry Plan)) → greatest (rest_peak blocks u 0) 0 es ≤ most → AllByRecursion (Roomy u most) es
  unfolding rest_peak
  rooms u most [] fits = tt
  rooms u most (e ∷ es) fits =
      let top = peak_above blocks e.rest e.child (if e.hold then 0 + blocks u else 0) in
      let more = peak_rises e.rest e.child 0 (if e.hold then 0 + blocks u else 0) (omega arith) in
      (((λ hold. let h = ap (λ b. if b then 0 + blocks u else 0) hold in omega (arith, top, h, fits)), omega (arith, more, fits)), rooms u most es (omega (arith, fits)))

-- ---- operations

pub empty_by_length : {X : Type 0} (xs : List X) (n : ℕ) → length xs ≡ n → nat_eq n 0 ≡ is_none xs
empty_by_length [] n is = ap (λ m. nat_eq m 0) (sym is)
empty_by_length (x ∷ xs) n is = by n is
  where
    by : (n : ℕ) → suc (length xs) ≡ n → nat_eq n 0 ≡ false
    by n is = grind (arith, nat_tests)

joined : (o c x r t m w : Ops) → o ++ (c ++ (x ++ (t ++ m))) ≡ w → r ≡ ((o ++ c) ++ x) ++ t → r ++ m ≡ w
joined o c x r t m w whole is = ap (λ l. l ++ m) is ∙ simp append_assoc whole

-- one entry: what was done before it, then the change, the entry and the way back
pub entry_done : (tree : Tree) (u anchor : ℕ) (way : List ℕ) (change : Bool → Bool → Ops) (back : Bool → Ops) (stored : Bool) (es : List (Entry Plan)) (i left : ℕ) (e : Entry Plan)
    → i < length es → e ≡ get_or es i e → left + (i + 1) ≡ length es → (before whole now : Ops)
    → before ++ listed_ops (rest_ops tree u anchor way) change back stored (drop i es) ≡ whole
    → now ≡ ((before ++ change stored e.hold) ++ rest_ops tree u anchor way e) ++ (if nat_eq left 0 then [] else back e.hold)
    → now ++ listed_ops (rest_ops tree u anchor way) change back e.hold (drop (i + 1) es) ≡ whole
entry_done tree u anchor way change back stored es i left e lt at counts before whole now so is =
    let list = listed_ops (rest_ops tree u anchor way) change back in
    let cut : drop i es ≡ e ∷ drop (i + 1) es = drop_more es i e lt ∙ ap (λ x. x ∷ drop (i + 1) es) (sym at) in
    let last : nat_eq left 0 ≡ is_none (drop (i + 1) es) = empty_by_length (drop (i + 1) es) left (length-drop (i + 1) es ∙ omega arith) in
    joined before (change stored e.hold) (rest_ops tree u anchor way e) now (if nat_eq left 0 then [] else back e.hold) (list e.hold (drop (i + 1) es)) whole
    (rw last (ap (λ l. before ++ list stored l) (sym cut) ∙ so)) is

-- the operations of an entry, from where its child stands
pub entry_is : (tree : Tree) (u anchor : ℕ) (path : List ℕ) (from : ℕ) (e : Entry Plan) (nearest begin : ℕ) → from ≤ length path
    → nearest ≡ (if e.hold then u else anchor) → begin ≡ (if e.hold then length (path ++ e.child ∷ []) - 1 else from)
    → Compute e.child (tree.steps e.child) ∷ ops_at tree e.rest e.child nearest (drop begin (path ++ e.child ∷ [])) ≡ rest_ops tree u anchor (drop from path) e
unfolding rest_ops
entry_is tree u anchor path from e nearest begin within n b = by e.hold n b
  where
    by : (hold : Bool) → nearest ≡ (if hold then u else anchor) → begin ≡ (if hold then length (path ++ e.child ∷ []) - 1 else from)
        → Compute e.child (tree.steps e.child) ∷ ops_at tree e.rest e.child nearest (drop begin (path ++ e.child ∷ []))
        ≡ Compute e.child (tree.steps e.child) ∷ (if hold then ops_at tree e.rest e.child u (e.child ∷ []) else ops_at tree e.rest e.child anchor (drop from path ++ e.child ∷ []))
    by true n b =
        let begins : begin ≡ length path = (let a = length-append path (e.child ∷ []) in omega (arith, b, a)) in
        ap (λ m. Compute e.child (tree.steps e.child) ∷ ops_at tree e.rest e.child m (drop begin (path ++ e.child ∷ []))) n
        ∙ ap (λ l. Compute e.child (tree.steps e.child) ∷ ops_at tree e.rest e.child u l) (drop_at path (e.child ∷ []) begin (sym begins))
    by false n b =
        ap (λ m. Compute e.child (tree.steps e.child) ∷ ops_at tree e.rest e.child m (drop begin (path ++ e.child ∷ []))) n
        ∙ ap (λ l. Compute e.child (tree.steps e.child) ∷ ops_at tree e.rest e.child anchor l) (ap (λ m. drop m (path ++ e.child ∷ [])) b ∙ drop-append-le from path (e.child ∷ []) within)

-- the whole list of a plan's entries
pub ops_from : (costs : Costs) (block : ℕ) (p : Plan) (u anchor : ℕ) (way : List ℕ) (b : ℕ) → b ≡ blocks_of costs block u → (es : List (Entry Plan)) → es ≡ entries_of p
    → listed_ops (rest_ops (tree_of costs block) u anchor way) (before u b) (way_back (steps_of costs) u anchor way) false es ≡ ops_at (tree_of costs block) p u anchor way
unfolding tree_of
ops_from costs block p u anchor way b is es are =
    ap (λ n. listed_ops (rest_ops (tree_of costs block) u anchor way) (before u n) (way_back (steps_of costs) u anchor way) false es) is
    ∙ ap (listed_ops (rest_ops (tree_of costs block) u anchor way) (before u (blocks_of costs block u)) (way_back (steps_of costs) u anchor way) false) are
    ∙ sym (ops_parts (tree_of costs block) p u anchor way)

pub popped : (result : Option ℕ) (old new path : List ℕ) (x : ℕ) → MatchOption result ((old ≡ []) × (new ≡ [])) (λ last. old ≡ new ++ last ∷ []) → old ≡ path ++ x ∷ [] → new ≡ path
popped None old new path x is at = absurd (let e = ap length (sym is.0 ∙ at) in let a = length-append path (x ∷ []) in omega (arith, e, a))
popped (Some last) old new path x is at = (same_from_push new path last x (sym is ∙ at)).0

-- what one turn of the loop leaves: the path, and the operations with those of the entry
pub record Turned (tree : Tree) (u anchor from : ℕ) (path : List ℕ) (e : Entry Plan) (change : Ops) (last : Bool) (back : List ℕ → Ops) (before after : Ops) (now : List ℕ) : Type 0 where
  pub path_is : now ≡ path
  pub operations_are : after ≡ ((before ++ change) ++ rest_ops tree u anchor (drop from path) e) ++ (if last then [] else back (drop from path))

pub turned : (tree : Tree) (u anchor from : ℕ) (path : List ℕ) (e : Entry Plan) (change : Ops) (last : Bool) (back : List ℕ → Ops) (steps nearest begin : ℕ) (o0 o1 o2 o3 o5 : Ops) (q0 q1 q2 q3 q4 q5 : List ℕ)
    → from ≤ length path → steps ≡ tree.steps e.child → nearest ≡ (if e.hold then u else anchor) → begin ≡ (if e.hold then length q2 - 1 else from)
    → q0 ≡ path → o1 ≡ o0 ++ change → q1 ≡ q0 → o2 ≡ o1 ++ Compute e.child steps ∷ [] → q2 ≡ q1 ++ e.child ∷ []
    → o3 ≡ o2 ++ ops_at tree e.rest e.child nearest (drop begin q2) → q3 ≡ q2 → q4 ≡ q1 → o5 ≡ o3 ++ (if last then [] else back (drop from q4)) → q5 ≡ q4
    → Turned tree u anchor from path e change last back o0 o5 q5
turned tree u anchor from path e change last back steps nearest begin o0 o1 o2 o3 o5 q0 q1 q2 q3 q4 q5 within s n b at0 done1 at1 done2 at2 done3 at3 at4 done5 at5 =
    let on : q4 ≡ path = at4 ∙ at1 ∙ at0 in
    let down : q2 ≡ path ++ e.child ∷ [] = at2 ∙ ap (λ l. l ++ e.child ∷ []) (at1 ∙ at0) in
    let own = entry_is tree u anchor path from e nearest begin within n (b ∙ ap (λ l. if e.hold then length l - 1 else from) down) in
    let deep : o3 ≡ o1 ++ rest_ops tree u anchor (drop from path) e =
    done3 ∙ ap (λ l. l ++ ops_at tree e.rest e.child nearest (drop begin q2)) done2 ∙ append_assoc o1 (Compute e.child steps ∷ []) (ops_at tree e.rest e.child nearest (drop begin q2))
    ∙ ap (λ k. o1 ++ (Compute e.child k ∷ ops_at tree e.rest e.child nearest (drop begin q2))) s
    ∙ ap (λ l. o1 ++ (Compute e.child (tree.steps e.child) ∷ ops_at tree e.rest e.child nearest (drop begin l))) down ∙ ap (λ l. o1 ++ l) own in
    record {
      path_is = at5 ∙ on;
      operations_are = done5 ∙ ap (λ l. o3 ++ (if last then [] else back (drop from l))) on
          ∙ ap (λ l. l ++ (if last then [] else back (drop from path))) (deep ∙ ap (λ l. l ++ rest_ops tree u anchor (drop from path) e) done1);
    }

-- the path begins within what is there
pub begins_within : (path : List ℕ) (x : ℕ) (q : List ℕ) (from begin : ℕ) (hold : Bool) → from ≤ length path → q ≡ path ++ x ∷ [] → begin ≡ (if hold then length q - 1 else from) → begin ≤ length q
begins_within path x q from begin hold within is b = by hold b
  where
    by : (hold : Bool) → begin ≡ (if hold then length q - 1 else from) → begin ≤ length q
    by true b = omega (arith, b)
    by false b = let e = ap length is in let a = length-append path (x ∷ []) in omega (arith, b, e, a)
