-- A name that is bound takes a new value in its place.
use Rattle.std.proofs.Common.{◌≡◌, ℕ, List, [], ◌∷◌, Some, refl, ap, subst, cond}
use Rattle.std.specs.Ordering.{match_ordering, is_eq}
use Rattle.std.specs.BTreeMap.{insert_entry, is_at}
use Rattle.std.specs.List.{AllByRecursion}
use Rattle.std.specs.List.Sorted.{IsStrictlySortedBy}
use Rattle.std.specs.Map.{keys_of, lookup, set_value}
use Rattle.std.specs.declared.cmp.Ordering.{Ordering}
use Rattle.std.specs.declared.cmp.Ordering.TheVariants.{Less, Equal, Greater}
use Rattle.std.proofs.lemmas.Cmp.{nat_list_cmp_total}
use Rattle.chex_base.specs.TextOrder.{text_cmp}
use Rattle.star_value.specs.declared.value.Value.{Value}
use Rattle.heap_store.proofs.Kept.{Globals}

-- a name below the first of rising names is none of them
below_all : (name first : List ℕ) (gs : Globals) (w : Value) → text_cmp name first ≡ Less → AllByRecursion (λ y. text_cmp first y ≡ Less) (keys_of gs)
    → lookup (is_at (text_cmp name)) gs ≡ Some w → ⊥
below_all name first [] w less above h = cc
below_all name first (g ∷ gs) w less above h =
    let here : text_cmp name g.0 ≡ Less = nat_list_cmp_total.trans name first g.0 less above.0 in
    below_all name first gs w less above.1 (subst (λ o. cond (is_eq o) (Some g.1) (lookup (is_at (text_cmp name)) gs) ≡ Some w) here h)

bound_at : (name : List ℕ) (v w : Value) (g : List ℕ × Value) (gs : Globals) (o : Ordering) → text_cmp name g.0 ≡ o
    → AllByRecursion (λ y. text_cmp g.0 y ≡ Less) (keys_of gs) → cond (is_eq o) (Some g.1) (lookup (is_at (text_cmp name)) gs) ≡ Some w
    → (lookup (is_at (text_cmp name)) gs ≡ Some w → set_value (is_at (text_cmp name)) gs v ≡ insert_entry text_cmp gs name v)
    → cond (is_eq o) ((g.0, v) ∷ gs) (g ∷ set_value (is_at (text_cmp name)) gs v)
    ≡ match_ordering o ((name, v) ∷ g ∷ gs) ((g.0, v) ∷ gs) (g ∷ insert_entry text_cmp gs name v)
bound_at name v w g gs Less is above h rest = absurd (below_all name g.0 gs w is above h)
bound_at name v w g gs Equal is above h rest = refl
bound_at name v w g gs Greater is above h rest = ap (λ more. g ∷ more) (rest h)

pub set_bound : (name : List ℕ) (v w : Value) (gs : Globals) → IsStrictlySortedBy text_cmp (keys_of gs) → lookup (is_at (text_cmp name)) gs ≡ Some w
    → set_value (is_at (text_cmp name)) gs v ≡ insert_entry text_cmp gs name v
unfolding IsStrictlySortedBy
set_bound name v w [] rising h = cc
set_bound name v w (g ∷ gs) rising h =
    bound_at name v w g gs (text_cmp name g.0) refl rising.0 h (λ k. set_bound name v w gs rising.1 k)
