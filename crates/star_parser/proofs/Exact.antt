-- What it means that a reader is exact, and that the steps that readers are made of keep it.
use Rattle.std.proofs.Common.{◌≡◌, ◌≢◌, ◌∙◌, ◌⊎◌, inl, inr, List, [], ◌∷◌, ◌++◌, Ok, Err, refl, sym, ap, subst, append_assoc}
use Rattle.star_parser.specs.Reading.{Input, Outcome, Reader, and_then, next, rest}

-- A rule says which trees a list of tokens spells. Ends says what may follow.
module _ {T : Type 0} (R : T → Input → Type 0) (Ends : Input → Type 0) where
  -- t is read and left is not: what is spelled so as far as the token after t begins with t
  pub record Reads (ts : Input) (t : T) (left : Input) : Type 0 where
    pub taken : Input
    pub whole : ts ≡ taken ++ left
    pub spelt : R t taken
    pub only : (t' : T) (c more w : Input) → R t' c → Ends more → c ++ more ≡ taken ++ w → next w ≡ next left → (t' ≡ t) × (c ≡ taken)

  -- the tokens before those that are left begin a tree, and with the next one they begin none
  pub record Refuses (ts left : Input) : Type 0 where
    pub taken : Input
    pub whole : ts ≡ taken ++ left
    pub viable : (t : T) × (c more : Input) × R t c × (c ≡ taken ++ more)
    pub dead : (t : T) (c more w : Input) → R t c → Ends more → c ++ more ≡ taken ++ w → next w ≡ next left → ⊥

  unfoldable pub Exact : Input → Outcome T → Type 0
  Exact ts (Ok p) = Reads ts p.0 p.1
  Exact ts (Err left) = Refuses ts left

-- ---- lists

pub next_after : (a v w : Input) → next v ≡ next w → next (a ++ v) ≡ next (a ++ w)
next_after [] v w h = h
next_after (x ∷ a) v w h = refl

pub cancel : {A : Type 0} (a v w : List A) → a ++ v ≡ a ++ w → v ≡ w
cancel [] v w h = h
cancel (x ∷ a) v w h = cancel a v w cc

-- ---- nothing is read

abbrev pub Just : {T : Type 0} → T → T → Input → Type 0
Just t0 t c = (t ≡ t0) × (c ≡ [])

pub exact_pure : {T : Type 0} (t : T) (Ends : Input → Type 0) (ts : Input) → Exact (Just t) Ends ts (Ok (t, ts))
unfolding Exact
exact_pure t Ends ts = record {
  taken = [];
  whole = refl;
  spelt = (refl, refl);
  only = λ t' c more w r _ _ _. r;
}

-- ---- one reader after another

abbrev pub Then : {A T : Type 0} → (A → Input → Type 0) → (A → T → Input → Type 0) → T → Input → Type 0
Then {A} RA RT t c = (a : A) × (c1 c2 : Input) × RA a c1 × RT a t c2 × (c ≡ c1 ++ c2)

module _ {A T : Type 0} (RA : A → Input → Type 0) (RT : A → T → Input → Type 0) (EA ET : Input → Type 0)
    (follow : (a : A) (t : T) (c1 c2 more : Input) → RA a c1 → RT a t c2 → ET more → EA (c2 ++ more))
    (some : (a : A) (c : Input) → RA a c → (t : T) × (c2 : Input) × RT a t c2) where
  -- what agrees with a ++ b as far as the next token agrees with a
  first_same : (a : A) (ts left : Input) → (ra : Reads RA EA ts a left) → (b v : Input) → left ≡ b ++ v
      → (t : T) (c more w : Input) → Then RA RT t c → ET more → c ++ more ≡ (ra.taken ++ b) ++ w → next w ≡ next v
      → (c2 : Input) × RT a t c2 × (c2 ++ more ≡ b ++ w) × (c ≡ ra.taken ++ c2)
  first_same a ts left ra b v split t c more w (a', c1, c2, r1, r2, e) ends same look =
      let e1 : c1 ++ (c2 ++ more) ≡ ra.taken ++ (b ++ w) = sym (append_assoc c1 c2 more) ∙ ap (λ x. x ++ more) (sym e) ∙ same ∙ append_assoc ra.taken b w in
      let look1 : next (b ++ w) ≡ next left = next_after b w v look ∙ ap next (sym split) in
      let o = ra.only a' c1 (c2 ++ more) (b ++ w) r1 (follow a' t c1 c2 more r1 r2 ends) e1 look1 in
      (c2, subst (λ x. RT x t c2) o.0 r2, cancel ra.taken (c2 ++ more) (b ++ w) (ap (λ x. x ++ (c2 ++ more)) (sym o.1) ∙ e1), e ∙ ap (λ x. x ++ c2) o.1)

  second : (ts : Input) (a : A) (left : Input) → (ra : Reads RA EA ts a left) → (o : Outcome T) → Exact (RT a) ET left o → Exact (Then RA RT) ET ts o
  unfolding Exact
  second ts a left ra (Ok (t, end)) rt = record {
    taken = ra.taken ++ rt.taken;
    whole = ra.whole ∙ ap (λ x. ra.taken ++ x) rt.whole ∙ sym (append_assoc ra.taken rt.taken end);
    spelt = (a, ra.taken, rt.taken, ra.spelt, rt.spelt, refl);
    only = λ t' c more w r ends same look.
        let (c2, r2, same2, e) = first_same a ts left ra rt.taken end rt.whole t' c more w r ends same look in
        let o = rt.only t' c2 more w r2 ends same2 look in
        (o.0, e ∙ ap (λ x. ra.taken ++ x) o.1);
  }
  second ts a left ra (Err end) rt = record {
    taken = ra.taken ++ rt.taken;
    whole = ra.whole ∙ ap (λ x. ra.taken ++ x) rt.whole ∙ sym (append_assoc ra.taken rt.taken end);
    viable = let (t, c, more, r, e) = rt.viable in
        (t, ra.taken ++ c, more, (a, ra.taken, c, ra.spelt, r, refl), ap (λ x. ra.taken ++ x) e ∙ sym (append_assoc ra.taken rt.taken more));
    dead = λ t' c more w r ends same look.
        let (c2, r2, same2, e) = first_same a ts left ra rt.taken end rt.whole t' c more w r ends same look in
        rt.dead t' c2 more w r2 ends same2 look;
  }

  pub exact_then : (ts : Input) (o : Outcome A) (f : A → Reader T) → Exact RA EA ts o
      → ((a : A) (left taken : Input) → ts ≡ taken ++ left → RA a taken → Exact (RT a) ET left (f a left))
      → Exact (Then RA RT) ET ts (and_then o f)
  unfolding Exact
  exact_then ts (Ok (a, left)) f ra rest = second ts a left ra (f a left) (rest a left ra.taken ra.whole ra.spelt)
  exact_then ts (Err left) f ra rest = record {
    taken = ra.taken;
    whole = ra.whole;
    viable = let (a, c, more, r, e) = ra.viable in
        let (t, c2, r2) = some a c r in
        (t, c ++ c2, more ++ c2, (a, c, c2, r, r2, refl), ap (λ x. x ++ c2) e ∙ append_assoc ra.taken more c2);
    dead = λ t c more w (a, c1, c2, r1, r2, e) ends same look.
        ra.dead a c1 (c2 ++ more) w r1 (follow a t c1 c2 more r1 r2 ends) (sym (append_assoc c1 c2 more) ∙ ap (λ x. x ++ more) (sym e) ∙ same) look;
  }

-- ---- a choice by the next token

module _ {T : Type 0} (R Q : T → Input → Type 0) (Ends : Input → Type 0) (ts : Input)
    (apart : (t : T) (c more : Input) → Q t c → Ends more → next (c ++ more) ≢ next ts) where
  out_of : (taken left : Input) → ts ≡ taken ++ left → (t : T) (c more w : Input) → Q t c → Ends more → c ++ more ≡ taken ++ w → next w ≡ next left → ⊥
  out_of taken left whole t c more w q ends same look =
      apart t c more q ends (ap next same ∙ next_after taken w left look ∙ ap next (sym whole))

  pub exact_left : (o : Outcome T) → Exact R Ends ts o → Exact (λ t c. R t c ⊎ Q t c) Ends ts o
  unfolding Exact
  exact_left (Ok (t, left)) r = record {
    taken = r.taken;
    whole = r.whole;
    spelt = inl r.spelt;
    only = λ t' c more w either ends same look. elim either [
      | inl r' ↦ r.only t' c more w r' ends same look
      | inr q ↦ absurd (out_of r.taken left r.whole t' c more w q ends same look)
    ];
  }
  exact_left (Err left) r = record {
    taken = r.taken;
    whole = r.whole;
    viable = let (t, c, more, x, e) = r.viable in (t, c, more, inl x, e);
    dead = λ t' c more w either ends same look. elim either [
      | inl r' ↦ r.dead t' c more w r' ends same look
      | inr q ↦ out_of r.taken left r.whole t' c more w q ends same look
    ];
  }

-- ---- two names of one rule

module _ {T : Type 0} (R Q : T → Input → Type 0) (Ends : Input → Type 0)
    (there : (t : T) (c : Input) → R t c → Q t c) (back : (t : T) (c : Input) → Q t c → R t c) where
  pub exact_same : (ts : Input) (o : Outcome T) → Exact R Ends ts o → Exact Q Ends ts o
  unfolding Exact
  exact_same ts (Ok (t, left)) r = record {
    taken = r.taken;
    whole = r.whole;
    spelt = there t r.taken r.spelt;
    only = λ t' c more w q ends same look. r.only t' c more w (back t' c q) ends same look;
  }
  exact_same ts (Err left) r = record {
    taken = r.taken;
    whole = r.whole;
    viable = let (t, c, more, x, e) = r.viable in (t, c, more, there t c x, e);
    dead = λ t' c more w q ends same look. r.dead t' c more w (back t' c q) ends same look;
  }

-- what may follow can be narrowed
pub exact_ends : {T : Type 0} (R : T → Input → Type 0) (E F : Input → Type 0) → ((more : Input) → F more → E more)
    → (ts : Input) (o : Outcome T) → Exact R E ts o → Exact R F ts o
unfolding Exact
exact_ends R E F narrow ts (Ok (t, left)) r = record {
  taken = r.taken;
  whole = r.whole;
  spelt = r.spelt;
  only = λ t' c more w q ends same look. r.only t' c more w q (narrow more ends) same look;
}
exact_ends R E F narrow ts (Err left) r = record {
  taken = r.taken;
  whole = r.whole;
  viable = r.viable;
  dead = λ t' c more w q ends same look. r.dead t' c more w q (narrow more ends) same look;
}

-- A rule of which the next token leaves another one.
pub exact_by : {T : Type 0} (R Q : T → Input → Type 0) (Ends : Input → Type 0) (ts : Input)
    (there : (t : T) (c : Input) → R t c → Q t c)
    (back : (t : T) (c more : Input) → Q t c → Ends more → next (c ++ more) ≡ next ts → R t c)
    (o : Outcome T) → Exact R Ends ts o → Exact Q Ends ts o
unfolding Exact
exact_by R Q Ends ts there back (Ok (t, left)) r = record {
  taken = r.taken;
  whole = r.whole;
  spelt = there t r.taken r.spelt;
  only = λ t' c more w q ends same look.
      r.only t' c more w (back t' c more q ends (ap next same ∙ next_after r.taken w left look ∙ ap next (sym r.whole))) ends same look;
}
exact_by R Q Ends ts there back (Err left) r = record {
  taken = r.taken;
  whole = r.whole;
  viable = let (t, c, more, x, e) = r.viable in (t, c, more, there t c x, e);
  dead = λ t' c more w q ends same look.
      r.dead t' c more w (back t' c more q ends (ap next same ∙ next_after r.taken w left look ∙ ap next (sym r.whole))) ends same look;
}

-- No tree begins with the next token.
pub exact_refuse : {T : Type 0} (R : T → Input → Type 0) (Ends : Input → Type 0) (ts : Input)
    → ((t : T) × (c : Input) × R t c) → ((t : T) (c more : Input) → R t c → Ends more → next (c ++ more) ≡ next ts → ⊥) → Exact R Ends ts (Err ts)
unfolding Exact
exact_refuse R Ends ts (t, c, r) none = record {
  taken = [];
  whole = refl;
  viable = (t, c, c, r, refl);
  dead = λ t' c' more w r' ends same look. none t' c' more r' ends (ap next same ∙ look);
}
