-- Rows that are added one after another, each where its node has none.
use Rattle.std.proofs.Common.{◌≡◌, ℕ, zero, suc, ◌+◌, ◌-◌, ◌<◌, ◌≤◌, Bool, true, false, not, ◌||◌, cond, List, [], ◌∷◌, ◌++◌, length, map, refl, sym, ap, ◌∙◌, subst, arith, append_assoc}
use Rattle.std.specs.Bool.{one_answer}
use Rattle.std.specs.List.{AllZip, filter, flat_map, list_any, position_or_len}
use Rattle.std.proofs.lemmas.Bool.{false≢true}
use Rattle.std.proofs.lemmas.List.{length-map}
use Rattle.exec_tree.specs.declared.checked.Checked.{Checked}
use Rattle.exec_tree.specs.Keys.{Key, same_keys}
use Rattle.exec_tree.specs.KeyLaws.{same_keys-Decides}
use Rattle.exec_tree.specs.Prefixes.{Prefix, firsts, keys, prefixes, same_prefix}
use Rattle.exec_tree.specs.Growths.{grown, with_prefix}
use Rattle.exec_tree.proofs.FirstsLemmas.{firsts-push, grown-firsts}
use Rattle.exec_tree.proofs.NumberLemmas.{grown-append, grown-cons, grown_keeps}
use Rattle.audit_run.specs.Visits.{Visit, same_node}
use Rattle.audit_run.proofs.TreeLemmas.{has, place, place_less}

-- ---- lists whose items are related one by one

pub zip_push : {A B : Type 0} (R : A → B → Type 0) (xs : List A) (ys : List B) (x : A) (y : B) → AllZip R xs ys → R x y → AllZip R (xs ++ x ∷ []) (ys ++ y ∷ [])
zip_push R [] [] x y h k = (k, tt)
zip_push R [] (b ∷ ys) x y h k = absurd h
zip_push R (a ∷ xs) [] x y h k = absurd h
zip_push R (a ∷ xs) (b ∷ ys) x y h k = (h.0, zip_push R xs ys x y h.1 k)

pub zip_long : {A B : Type 0} (R : A → B → Type 0) (xs : List A) (ys : List B) → AllZip R xs ys → length xs ≡ length ys
zip_long R [] [] h = refl
zip_long R [] (b ∷ ys) h = absurd h
zip_long R (a ∷ xs) [] h = absurd h
zip_long R (a ∷ xs) (b ∷ ys) h = ap suc (zip_long R xs ys h.1)

-- ---- the first place at which a test passes, in a longer list

front_here : (n m : ℕ) (t s : Bool) → (s ≡ true → n ≡ m) → (t || s) ≡ true → cond (not t) (1 + n) 0 ≡ cond (not t) (1 + m) 0
front_here n m true s same h = refl
front_here n m false s same h = ap (λ k. 1 + k) (same h)

pub place_front : {X : Type 0} (test : X → Bool) (xs ys : List X) → list_any test xs ≡ true → position_or_len test (xs ++ ys) ≡ position_or_len test xs
place_front test [] ys h = absurd (false≢true h)
place_front test (x ∷ xs) ys h =
    front_here (position_or_len test (xs ++ ys)) (position_or_len test xs) (test x) (list_any test xs) (place_front test xs ys) h

behind_here : (n len : ℕ) (t s : Bool) → (s ≡ false → n ≡ len) → (t || s) ≡ false → cond (not t) (1 + n) 0 ≡ suc len
behind_here n len true s same h = absurd (false≢true (sym h))
behind_here n len false s same h = let is : n ≡ len = same h in omega (arith, is)

pub place_behind : {X : Type 0} (test : X → Bool) (xs : List X) (y : X) (ys : List X) → list_any test xs ≡ false → test y ≡ true → position_or_len test (xs ++ y ∷ ys) ≡ length xs
place_behind test [] y ys h k = ap (λ t. cond (not t) (1 + position_or_len test ys) 0) k
place_behind test (x ∷ xs) y ys h k =
    behind_here (position_or_len test (xs ++ y ∷ ys)) (length xs) (test x) (list_any test xs) (λ none. place_behind test xs y ys none k) h

-- ---- prefixes

chained_prefix : (a b c : Prefix) → same_prefix a b ≡ true → same_prefix b c ≡ true → same_prefix a c ≡ true
chained_prefix a b c h k =
    (same_keys-Decides (keys a) (keys c)).1 ((same_keys-Decides (keys a) (keys b)).0 h ∙ (same_keys-Decides (keys b) (keys c)).0 k)

chained_node : (a b c : Visit) → same_node a b ≡ true → same_node b c ≡ true → same_node a c ≡ true
chained_node a b c = chained_prefix a.prefix b.prefix c.prefix

-- a cell whose beginning stood before adds no visit, and another is the next
pub visits_push : (done : List Visit) (x : Visit) → firsts same_node (done ++ x ∷ []) ≡ cond (list_any (λ y. same_node y x) (firsts same_node done)) (firsts same_node done) (firsts same_node done ++ x ∷ [])
visits_push done x = firsts-push same_node chained_node done x

-- the beginnings of visits
abbrev pub beginnings : List Visit → List Prefix
beginnings vs = map (λ (v : Visit). v.prefix) vs

kept : (v : Visit) (more : List Prefix) (t : Bool) (vs : List Visit) → beginnings vs ≡ more → beginnings (cond t (v ∷ vs) vs) ≡ cond t (v.prefix ∷ more) more
kept v more true vs is = ap (λ l. v.prefix ∷ l) is
kept v more false vs is = is

filter_beginnings : (p : Prefix) (vs : List Visit) → beginnings (filter (λ v. not (same_prefix p v.prefix)) vs) ≡ filter (λ q. not (same_prefix p q)) (beginnings vs)
filter_beginnings p [] = refl
filter_beginnings p (v ∷ vs) =
    kept v (filter (λ q. not (same_prefix p q)) (beginnings vs)) (not (same_prefix p v.prefix)) (filter (λ w. not (same_prefix p w.prefix)) vs) (filter_beginnings p vs)

-- the distinct visits have the distinct beginnings
pub firsts_beginnings : (vs : List Visit) → beginnings (firsts same_node vs) ≡ firsts same_prefix (beginnings vs)
unfolding firsts
firsts_beginnings [] = refl
firsts_beginnings (v ∷ vs) =
    ap (λ l. v.prefix ∷ l) (filter_beginnings v.prefix (firsts same_node vs) ∙ ap (filter (λ q. not (same_prefix v.prefix q))) (firsts_beginnings vs))

pub met_beginning : (x : Visit) (vs : List Visit) → list_any (λ y. same_node y x) vs ≡ has (beginnings vs) x.prefix
met_beginning x [] = refl
met_beginning x (v ∷ vs) = ap (λ t. same_prefix v.prefix x.prefix || t) (met_beginning x vs)

turned : (a b : List Key) → same_keys a b ≡ same_keys b a
turned a b = one_answer (same_keys a b) (same_keys b a) (same_keys-Decides a b) ((λ h. sym ((same_keys-Decides b a).0 h)), (λ is. (same_keys-Decides b a).1 (sym is)))

any_turned : (p : Prefix) (ps : List Prefix) → list_any (λ q. same_keys (keys p) (keys q)) ps ≡ has ps p
any_turned p [] = refl
any_turned p (q ∷ ps) =
    ap (λ t. t || list_any (λ x. same_keys (keys p) (keys x)) ps) (turned (keys p) (keys q)) ∙ ap (λ t. same_prefix q p || t) (any_turned p ps)

-- a beginning that stood before stands among the known ones
pub place_known : (known more : List Prefix) (p : Prefix) → has known p ≡ true → place (known ++ more) p < length known
place_known known more p h =
    subst (λ n. n < length known) (sym (place_front (λ q. same_keys (keys p) (keys q)) known more (any_turned p known ∙ h))) (place_less p known h)

-- and another is the next
pub place_next : (known more : List Prefix) (p : Prefix) → has known p ≡ false → place (known ++ p ∷ more) p ≡ length known
place_next known more p h =
    place_behind (λ q. same_keys (keys p) (keys q)) known p more (any_turned p known ∙ h) ((same_keys-Decides (keys p) (keys p)).1 refl)

pub with_known : (known : List Prefix) (p : Prefix) (t : Bool) → has known p ≡ t → with_prefix known p ≡ cond t known (known ++ p ∷ [])
unfolding with_prefix
with_known known p t is = ap (λ b. cond b known (known ++ p ∷ [])) is

-- where the beginning after these stands among all
pub record IsNext (known all : List Prefix) (p : Prefix) : Type 0 where
  pub known_before : has known p ≡ true → place all p < length known
  pub next : has known p ≡ false → place all p ≡ length known

pub is_next : (done rest : List Prefix) (p : Prefix) → IsNext (firsts same_prefix done) (firsts same_prefix (done ++ p ∷ rest)) p
is_next done rest p =
    let known = grown [] done in
    let is : known ≡ firsts same_prefix done = grown-firsts done in
    let more = grown_keeps (with_prefix known p) rest in
    let all : firsts same_prefix (done ++ p ∷ rest) ≡ with_prefix known p ++ more.0 =
    sym (grown-firsts (done ++ p ∷ rest)) ∙ (grown-append [] done (p ∷ rest) ∙ (grown-cons known p rest ∙ more.1)) in
    subst (λ k. IsNext k (firsts same_prefix (done ++ p ∷ rest)) p) is (record {
      known_before = λ h.
          subst (λ a. place a p < length known) (sym (all ∙ ap (λ k. k ++ more.0) (with_known known p true h))) (place_known known more.0 p h);
      next = λ h.
          ap (λ a. place a p) (all ∙ (ap (λ k. k ++ more.0) (with_known known p false h) ∙ append_assoc known (p ∷ []) more.0)) ∙ place_next known more.0 p h;
    })
