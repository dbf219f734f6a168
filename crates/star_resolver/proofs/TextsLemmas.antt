-- Sets of texts, and the lists of their keys.
use Rattle.std.proofs.Common.{◌≡◌, ◌∙◌, ℕ, Bool, true, false, List, refl, ap, sym}
use Rattle.std.specs.Prelude.{cond, ◌||◌}
use Rattle.std.specs.BTreeMap.{is_at}
use Rattle.std.specs.Cmp.{eq_by_cmp_equiv}
use Rattle.std.specs.FinSet.{contains, insert, from_list, contains-from_list, contains-insert, same_set, slice_cmp-IsAntisymmetric, nat_cmp-IsAntisymmetric}
use Rattle.std.specs.List.{list_any}
use Rattle.std.specs.Ordering.{eq_by_cmp}
use Rattle.std.proofs.lemmas.Cmp.{nat_list_cmp_total}
use Rattle.chex_base.specs.TextOrder.{text_cmp}

pub contains-keys : (keys : List (List ℕ)) (q : List ℕ) → contains (from_list {R = text_cmp} keys) q ≡ list_any (is_at (text_cmp q)) keys
contains-keys keys q = contains-from_list nat_list_cmp_total keys q

either : (a b : Bool) → cond a true b ≡ (a || b)
either true b = refl
either false b = refl

-- the keys after a text was inserted, by what they answer
pub insert-keys : (keys now : List (List ℕ)) (text : List ℕ)
    → ((q : List ℕ) → list_any (is_at (text_cmp q)) now ≡ cond (is_at (text_cmp text) q) true (list_any (is_at (text_cmp q)) keys))
    → from_list {R = text_cmp} now ≡ insert (from_list keys) text
insert-keys keys now text is =
    same_set nat_list_cmp_total (slice_cmp-IsAntisymmetric nat_cmp-IsAntisymmetric) _ _
    (λ q. contains-keys now q ∙ is q
    ∙ ap (λ b. cond b true (list_any (is_at (text_cmp q)) keys)) ((eq_by_cmp_equiv nat_list_cmp_total).symm text q)
    ∙ either (eq_by_cmp text_cmp q text) (list_any (is_at (text_cmp q)) keys)
    ∙ ap (λ b. eq_by_cmp text_cmp q text || b) (sym (contains-keys keys q))
    ∙ sym (contains-insert nat_list_cmp_total (from_list keys) text q))
