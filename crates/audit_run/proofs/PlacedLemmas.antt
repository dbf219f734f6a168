-- Where beginnings stand in the tree: each at its own number, behind the one above it.
use Rattle.std.proofs.Common.{◌≡◌, ℕ, suc, ◌+◌, ◌<◌, ◌≤◌, ◌==◌, Bool, true, false, not, ◌||◌, cond, List, [], ◌∷◌, ◌++◌, length, get_or, zero, refl, sym, ap, ◌∙◌, subst, arith}
use Rattle.std.specs.List.{flat_map, list_any, position_or_len}
use Rattle.std.proofs.lemmas.Bool.{false≢true}
use Rattle.std.proofs.lemmas.Bool.Decides.{Decides-eqb}
use Rattle.star_syntax.specs.CellParts.{CellParts}
use Rattle.exec_tree.specs.declared.checked.Checked.{Checked}
use Rattle.exec_tree.specs.Keys.{InputMap, Key, key_of, same_keys}
use Rattle.exec_tree.specs.Prefixes.{Prefix, keys, number_of, prefixes, prefixes_below, prefixes_of}
use Rattle.exec_tree.specs.Growths.{grown, with_prefix}
use Rattle.exec_tree.proofs.NumberLemmas.{grown-cons, grown-nil, grown_prefixes}
use Rattle.audit_run.proofs.TreeLemmas.{has, has_added, number_is, number_none, place, place_less}
use Rattle.audit_run.proofs.VisitLemmas.{place_front, place_next, with_known}

-- ---- numbers stay where more beginnings come behind

found_here : (n len : ℕ) (t s : Bool) → (n < len → s ≡ true) → cond (not t) (1 + n) 0 < suc len → (t || s) ≡ true
found_here n len true s there h = refl
found_here n len false s there h = there (omega (arith, h))

any_found : {X : Type 0} (test : X → Bool) (xs : List X) → position_or_len test xs < length xs → list_any test xs ≡ true
any_found test [] less = absurd (omega (arith, less))
any_found test (x ∷ xs) less = found_here (position_or_len test xs) (length xs) (test x) (list_any test xs) (any_found test xs) less

number_keeps : (known more : List Prefix) (ks : List Key) → number_of known ks ≤ length known → number_of (known ++ more) ks ≡ number_of known ks
unfolding number_of
number_keeps known more [] low = refl
number_keeps known more (key ∷ ks) low =
    let test = λ (p : Prefix). same_keys (key ∷ ks) (keys p) in
    let here : 1 + position_or_len test known ≤ length known = low in
    ap (λ (n : ℕ). 1 + n) (place_front test known more (any_found test known (omega (arith, here))))

-- ---- in order

-- a beginning has this place, and the one above it an earlier one
pub record StandsAt (known : List Prefix) (k : ℕ) (p : Prefix) : Type 0 where
  pub own : number_of known (keys p) ≡ suc k
  pub above : number_of known p.above ≤ k

abbrev pub AreOrdered : List Prefix → Type 0
AreOrdered known = (k : ℕ) (d : Prefix) → k < length known → StandsAt known k (get_or known k d)

get_front : (xs ys : List Prefix) (k : ℕ) (d : Prefix) → k < length xs → get_or (xs ++ ys) k d ≡ get_or xs k d
get_front [] ys k d less = absurd (omega (arith, less))
get_front (x ∷ xs) ys zero d less = refl
get_front (x ∷ xs) ys (suc k) d less = get_front xs ys k d (omega (arith, less))

get_last : (xs : List Prefix) (x d : Prefix) → get_or (xs ++ x ∷ []) (length xs) d ≡ x
get_last [] x d = refl
get_last (y ∷ xs) x d = get_last xs x d

length_more : (xs : List Prefix) (x : Prefix) → length (xs ++ x ∷ []) ≡ suc (length xs)
length_more [] x = refl
length_more (y ∷ xs) x = ap suc (length_more xs x)

module _ (known : List Prefix) (p : Prefix) (ordered : AreOrdered known) (low : number_of known p.above ≤ length known) (fresh : has known p ≡ false) where
  at_last : (k : ℕ) (d : Prefix) → k ≡ length known → StandsAt (known ++ p ∷ []) k (get_or (known ++ p ∷ []) k d)
  at_last k d is =
      let there : get_or (known ++ p ∷ []) k d ≡ p = ap (λ (n : ℕ). get_or (known ++ p ∷ []) n d) is ∙ get_last known p d in
      let number : number_of (known ++ p ∷ []) (keys p) ≡ 1 + place (known ++ p ∷ []) p = number_is (known ++ p ∷ []) p in
      let last : place (known ++ p ∷ []) p ≡ length known = place_next known [] p fresh in
      let kept : number_of (known ++ p ∷ []) p.above ≡ number_of known p.above = number_keeps known (p ∷ []) p.above low in
      subst (StandsAt (known ++ p ∷ []) k) (sym there) (record { own = omega (arith, number, last, is); above = omega (arith, kept, low, is) })

  at_front : (k : ℕ) (d : Prefix) → k < length known → StandsAt (known ++ p ∷ []) k (get_or (known ++ p ∷ []) k d)
  at_front k d less =
      let q : Prefix = get_or known k d in
      let stands : StandsAt known k q = ordered k d less in
      let own : number_of (known ++ p ∷ []) (keys q) ≡ number_of known (keys q) = number_keeps known (p ∷ []) (keys q) (omega (arith, stands.own, less)) in
      let kept : number_of (known ++ p ∷ []) q.above ≡ number_of known q.above = number_keeps known (p ∷ []) q.above (omega (arith, stands.above, less)) in
      subst (StandsAt (known ++ p ∷ []) k) (sym (get_front known (p ∷ []) k d less)) (record { own = own ∙ stands.own; above = omega (arith, kept, stands.above) })

  choose : (k : ℕ) (d : Prefix) (t : Bool) → (k == length known) ≡ t → k < suc (length known) → StandsAt (known ++ p ∷ []) k (get_or (known ++ p ∷ []) k d)
  choose k d true is less = at_last k d ((Decides-eqb k (length known)).0 is)
  choose k d false is less =
      let other : k ≡ length known → ⊥ = λ same. false≢true (sym is ∙ (Decides-eqb k (length known)).1 same) in
      at_front k d (omega (arith, other, less))

  ordered_push : AreOrdered (known ++ p ∷ [])
  ordered_push k d less = choose k d (k == length known) refl (omega (arith, less, length_more known p))

ordered_if : (known : List Prefix) (p : Prefix) (t : Bool) → has known p ≡ t → AreOrdered known → number_of known p.above ≤ length known → AreOrdered (with_prefix known p)
ordered_if known p true is ordered low = subst AreOrdered (sym (with_known known p true is)) ordered
ordered_if known p false is ordered low = subst AreOrdered (sym (with_known known p false is)) (ordered_push known p ordered low is)

-- each of these has the one above it before it
abbrev Follows : List Prefix → List Prefix → Type 0
Follows known [] = Unit {0}
Follows known (p ∷ more) = (number_of known p.above ≤ length known) × Follows (with_prefix known p) more

ordered_grown : (known more : List Prefix) → AreOrdered known → Follows known more → AreOrdered (grown known more)
ordered_grown known [] ordered follows = subst AreOrdered (sym (grown-nil known)) ordered
ordered_grown known (p ∷ more) ordered follows =
    subst AreOrdered (sym (grown-cons known p more)) (ordered_grown (with_prefix known p) more (ordered_if known p (has known p) refl ordered follows.0) follows.1)

number_added : (known : List Prefix) (p : Prefix) → number_of (with_prefix known p) (keys p) ≤ length (with_prefix known p)
number_added known p =
    let number : number_of (with_prefix known p) (keys p) ≡ 1 + place (with_prefix known p) p = number_is (with_prefix known p) p in
    let less : place (with_prefix known p) p < length (with_prefix known p) = place_less p (with_prefix known p) (has_added known p) in
    omega (arith, number, less)

follows_below : (inputs : InputMap) (known : List Prefix) (above : List Key) (cells : List CellParts) (rest : List Prefix) → number_of known above ≤ length known
    → ((now : List Prefix) → Follows now rest) → Follows known (prefixes_below inputs above cells ++ rest)
unfolding prefixes_below
follows_below inputs known above [] rest low behind = behind known
follows_below inputs known above (cell ∷ cells) rest low behind =
    let p : Prefix = record { above = above; cell = cell; inputs = inputs } in
    (low, follows_below inputs (with_prefix known p) (above ++ key_of inputs cell ∷ []) cells rest (number_added known p) behind)

follows_all : (vs : List Checked) (known : List Prefix) → Follows known (flat_map prefixes_of vs)
follows_all [] known = tt
follows_all (v ∷ vs) known =
    let none : number_of known [] ≡ 0 = number_none known in
    follows_below v.inputs known [] v.cells (flat_map prefixes_of vs) (omega (arith, none)) (λ now. follows_all vs now)

pub prefixes_ordered : (versions : List Checked) → AreOrdered (prefixes versions)
prefixes_ordered versions =
    subst AreOrdered (grown_prefixes versions) (ordered_grown [] (flat_map prefixes_of versions) (λ k d less. absurd (omega (arith, less))) (follows_all versions []))
