-- A text is read in one way, and has one first faulty line.
use Rattle.std.proofs.Common.{◌≡◌, ◌≢◌, ◌∙◌, ℕ, suc, ◌⊎◌, List, [], ◌∷◌, ◌++◌, length, Option, Some, None, refl, sym, ap, subst, arith, inl, inr, append_assoc}
use Rattle.std.specs.Prelude.{Result, Ok, Err, OnOk, IfErr}
use Rattle.std.specs.List.{flat_map}
use Rattle.std.proofs.lemmas.List.{append_cancel_left}
use Rattle.plan_type.specs.declared.budget.Budget.{Budget}
use Rattle.plan_type.specs.declared.costs.Costs.{Costs}
use Rattle.plan_checker.specs.declared.line.Line.{Line}
use Rattle.plan_checker.specs.declared.verdict.Verdict.{Verdict}
use Rattle.plan_checker.specs.declared.fault.CheckFault.{CheckFault}
use Rattle.plan_checker.specs.declared.fault.CheckFault.TheVariants.{NotPlan, WrongChild, OverBudget, NoMemory}
use Rattle.plan_checker.specs.Lines.{Follows, AllFollow, last_depth, spelled, head, IsRead, IsFaultyLine}
use Rattle.plan_checker.specs.Refusals.{wrong_child}
use Rattle.plan_checker.specs.Verdicts.{over_budget, IsDue, Clean}
use Rattle.plan_checker.proofs.Numbers.{spelled_one}
use Rattle.plan_checker.proofs.Readings.{shorter}

no_line : (line : Line) (more : List ℕ) → [] ≡ spelled line ++ more → ⊥
no_line line more is = let s = shorter line more [] is in omega (arith, s)

same_lines : (before : ℕ) (xs ys : List Line) → AllFollow before xs → AllFollow before ys → flat_map spelled xs ≡ flat_map spelled ys → xs ≡ ys
same_lines before [] [] a b is = refl
same_lines before [] (y ∷ ys) a b is = absurd (no_line y (flat_map spelled ys) is)
same_lines before (x ∷ xs) [] a b is = absurd (no_line x (flat_map spelled xs) (sym is))
same_lines before (x ∷ xs) (y ∷ ys) a b is =
    let (one, rest) = spelled_one x y (flat_map spelled xs) (flat_map spelled ys) a.0.small b.0.small is in
    let more = same_lines x.depth xs ys a.1 (subst (λ l. AllFollow l.depth ys) (sym one) b.1) rest in cc

Stops : ℕ → List Line → List ℕ → Type 0
Stops before lines rest = (line : Line) (more : List ℕ) → Follows (last_depth before lines) line → rest ≢ spelled line ++ more

no_stop : (before : ℕ) (xs ys : List Line) (rest : List ℕ) → AllFollow before xs → AllFollow before ys → rest ≢ [] → Stops before ys rest → flat_map spelled xs ≡ flat_map spelled ys ++ rest → ⊥
unfolding Stops
no_stop before [] [] rest a b some stops is = some (sym is)
no_stop before (x ∷ xs) [] rest a b some stops is = stops x (flat_map spelled xs) a.0 (sym is)
no_stop before [] (y ∷ ys) rest a b some stops is = no_line y (flat_map spelled ys ++ rest) (is ∙ append_assoc (spelled y) (flat_map spelled ys) rest)
no_stop before (x ∷ xs) (y ∷ ys) rest a b some stops is =
    let (one, more) = spelled_one x y (flat_map spelled xs) (flat_map spelled ys ++ rest) a.0.small b.0.small (is ∙ append_assoc (spelled y) (flat_map spelled ys) rest) in
    no_stop y.depth xs ys rest (subst (λ l. AllFollow l.depth xs) one a.1) b.1 some stops more

same_stop : (before : ℕ) (xs ys : List Line) (r s : List ℕ) → AllFollow before xs → AllFollow before ys → Stops before xs r → Stops before ys s → flat_map spelled xs ++ r ≡ flat_map spelled ys ++ s → length xs ≡ length ys
unfolding Stops
same_stop before [] [] r s a b left right is = refl
same_stop before (x ∷ xs) [] r s a b left right is = absurd (right x (flat_map spelled xs ++ r) a.0 (sym is ∙ append_assoc (spelled x) (flat_map spelled xs) r))
same_stop before [] (y ∷ ys) r s a b left right is = absurd (left y (flat_map spelled ys ++ s) b.0 (is ∙ append_assoc (spelled y) (flat_map spelled ys) s))
same_stop before (x ∷ xs) (y ∷ ys) r s a b left right is =
    let (one, more) = spelled_one x y (flat_map spelled xs ++ r) (flat_map spelled ys ++ s) a.0.small b.0.small (sym (append_assoc (spelled x) (flat_map spelled xs) r) ∙ is ∙ append_assoc (spelled y) (flat_map spelled ys) s) in
    ap suc (same_stop y.depth xs ys r s (subst (λ l. AllFollow l.depth xs) one a.1) b.1 (subst (λ l. (line : Line) (rest : List ℕ) → Follows (last_depth l.depth xs) line → r ≢ spelled line ++ rest) one left) right more)

-- ---- texts

pub one_read : (text : List ℕ) (xs ys : List Line) → IsRead text xs → IsRead text ys → xs ≡ ys
one_read text xs ys a b = same_lines 0 xs ys a.follow b.follow (append_cancel_left head (flat_map spelled xs) (flat_map spelled ys) (sym a.is ∙ b.is))

pub read_or_faulty : (text : List ℕ) (xs : List Line) (n : ℕ) → IsRead text xs → IsFaultyLine text n → ⊥
unfolding Stops
read_or_faulty text xs n a (inl (one, headless)) = headless (flat_map spelled xs) a.is
read_or_faulty text xs n a (inr (ys, stop, is)) =
    no_stop 0 xs ys stop.rest a.follow stop.follow stop.some stop.stops (append_cancel_left head (flat_map spelled xs) (flat_map spelled ys ++ stop.rest) (sym a.is ∙ stop.is ∙ append_assoc head (flat_map spelled ys) stop.rest))

pub one_fault : (text : List ℕ) (m n : ℕ) → IsFaultyLine text m → IsFaultyLine text n → m ≡ n
unfolding Stops
one_fault text m n (inl (a, h)) (inl (b, g)) = a ∙ sym b
one_fault text m n (inl (a, h)) (inr (ys, stop, is)) = absurd (h (flat_map spelled ys ++ stop.rest) (stop.is ∙ append_assoc head (flat_map spelled ys) stop.rest))
one_fault text m n (inr (xs, stop, is)) (inl (b, g)) = absurd (g (flat_map spelled xs ++ stop.rest) (stop.is ∙ append_assoc head (flat_map spelled xs) stop.rest))
one_fault text m n (inr (xs, a, is)) (inr (ys, b, so)) =
    let l = same_stop 0 xs ys a.rest b.rest a.follow b.follow a.stops b.stops (append_cancel_left head (flat_map spelled xs ++ a.rest) (flat_map spelled ys ++ b.rest)
    (sym (append_assoc head (flat_map spelled xs) a.rest) ∙ sym a.is ∙ b.is ∙ append_assoc head (flat_map spelled ys) b.rest)) in
    omega (arith, is, so, l)

-- ---- faults

none_some : {X : Type 0} {x : X} → None ≡ Some x → ⊥
none_some is = cc

pub clean_fault : (costs : Costs) (budget : Budget) (text : List ℕ) → Clean costs budget text → (f : CheckFault) → IsDue costs budget text f → f ≢ NoMemory → ⊥
clean_fault costs budget text c (NotPlan line) due other = read_or_faulty text c.lines line c.read due
clean_fault costs budget text c (WrongChild node) (xs, read, is) other = none_some (sym c.right ∙ ap (wrong_child costs) (one_read text c.lines xs c.read read) ∙ is)
clean_fault costs budget text c (OverBudget node blocks) (xs, read, right, is) other = none_some (sym c.fits ∙ ap (over_budget costs budget) (one_read text c.lines xs c.read read) ∙ is)
clean_fault costs budget text c NoMemory due other = other refl

pub one_due : (costs : Costs) (budget : Budget) (text : List ℕ) (e f : CheckFault) → IsDue costs budget text e → IsDue costs budget text f → f ≢ NoMemory → (e ≡ f) ⊎ (e ≡ NoMemory)
one_due costs budget text NoMemory f a b other = inr refl
one_due costs budget text e NoMemory a b other = absurd (other refl)
one_due costs budget text (NotPlan m) (NotPlan n) a b other = inl (ap (λ k. NotPlan k) (one_fault text m n a b))
one_due costs budget text (NotPlan m) (WrongChild v) a (xs, read, is) other = absurd (read_or_faulty text xs m read a)
one_due costs budget text (NotPlan m) (OverBudget v k) a (xs, read, right, is) other = absurd (read_or_faulty text xs m read a)
one_due costs budget text (WrongChild u) (NotPlan n) (xs, read, is) b other = absurd (read_or_faulty text xs n read b)
one_due costs budget text (WrongChild u) (WrongChild v) (xs, read, is) (ys, again, so) other =
    let e : Some u ≡ Some v = sym is ∙ ap (wrong_child costs) (one_read text xs ys read again) ∙ so in let s : u ≡ v = cc in inl (ap (λ k. WrongChild k) s)
one_due costs budget text (WrongChild u) (OverBudget v k) (xs, read, is) (ys, again, right, so) other = absurd (none_some (sym right ∙ ap (wrong_child costs) (one_read text ys xs again read) ∙ is))
one_due costs budget text (OverBudget u j) (NotPlan n) (xs, read, right, is) b other = absurd (read_or_faulty text xs n read b)
one_due costs budget text (OverBudget u j) (WrongChild v) (xs, read, right, is) (ys, again, so) other = absurd (none_some (sym right ∙ ap (wrong_child costs) (one_read text xs ys read again) ∙ so))
one_due costs budget text (OverBudget u j) (OverBudget v k) (xs, read, right, is) (ys, again, good, so) other =
    let (s, t) = parts u v j k (sym is ∙ ap (over_budget costs budget) (one_read text xs ys read again) ∙ so) in
    inl (ap (λ x. OverBudget x j) s ∙ ap (λ x. OverBudget v x) t)
  where
    first : Option (ℕ × ℕ) → ℕ
    first None = 0
    first (Some x) = x.0

    second : Option (ℕ × ℕ) → ℕ
    second None = 0
    second (Some x) = x.1

    parts : (u v j k : ℕ) → ◌≡◌ {A = Option (ℕ × ℕ)} (Some (u, j)) (Some (v, k)) → (u ≡ v) × (j ≡ k)
    parts u v j k e = (ap first e, ap second e)

-- a fault that is due is answered
pub due_err : (costs : Costs) (budget : Budget) (text : List ℕ) (e f : CheckFault) → IsDue costs budget text e → IsDue costs budget text f → f ≢ NoMemory → (◌≡◌ {A = Result Verdict CheckFault} (Err e) (Err f)) ⊎ (◌≡◌ {A = Result Verdict CheckFault} (Err e) (Err NoMemory))
due_err costs budget text e f a b other = by (one_due costs budget text e f a b other)
  where
    by : (e ≡ f) ⊎ (e ≡ NoMemory) → (◌≡◌ {A = Result Verdict CheckFault} (Err e) (Err f)) ⊎ (◌≡◌ {A = Result Verdict CheckFault} (Err e) (Err NoMemory))
    by (inl is) = inl (ap (λ x. Err x) is)
    by (inr is) = inr (ap (λ x. Err x) is)

pub all_due : (costs : Costs) (budget : Budget) (text : List ℕ) (result : Result Verdict CheckFault) → OnOk result (Clean costs budget text) → IfErr result (IsDue costs budget text)
    → (f : CheckFault) → IsDue costs budget text f → f ≢ NoMemory → (result ≡ Err f) ⊎ (result ≡ Err NoMemory)
all_due costs budget text (Ok v) clean err f due other = absurd (clean_fault costs budget text clean f due other)
all_due costs budget text (Err e) clean err f due other = due_err costs budget text e f err due other
