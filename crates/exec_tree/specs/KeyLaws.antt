-- The tests of sameness say whether two things are one and the same.
use Rattle.std.proofs.Common.{◌≡◌, ℕ, Bool, true, false, ◌&&◌, List, Option, Some, None, refl, ap, ◌∙◌, subst}
use Rattle.std.specs.Prelude.{bytes_eq}
use Rattle.std.specs.Bool.{Decides, beq}
use Rattle.std.specs.Cmp.{first_so, second_so}
use Rattle.std.specs.Cmp.Lexicographic.{pointwise}
use Rattle.std.proofs.lemmas.Bool.{false≢true}
use Rattle.std.proofs.lemmas.Bool.Decides.{Decides-int_eq}
use Rattle.std.proofs.lemmas.Slice.Eq.{bytes_eq-Decides, slice_eq-Decides}
use Rattle.chex_base.specs.declared.input.Input.{Input}
use Rattle.chex_base.specs.declared.input.Input.TheVariants as whole
use Rattle.chex_base.specs.declared.input.InputItem.{InputItem}
use Rattle.chex_base.specs.declared.input.InputItem.TheVariants as listed
use Rattle.exec_tree.specs.Keys.{Key, same_item, same_input, same_value, same_named, same_key, same_keys}

-- a test that holds of one and the same things alone, and of each thing and itself
decided : {X : Type 0} (same : X → X → Bool) → ((a b : X) → same a b ≡ true → a ≡ b) → ((a : X) → same a a ≡ true) → (a b : X) → Decides (same a b) (a ≡ b)
decided same sound itself a b = (sound a b, λ is. subst (λ c. same a c ≡ true) is (itself a))

bools : (a b : Bool) → beq a b ≡ true → a ≡ b
bools true true h = refl
bools true false h = absurd (false≢true h)
bools false true h = absurd (false≢true h)
bools false false h = refl

bool_itself : (a : Bool) → beq a a ≡ true
bool_itself true = refl
bool_itself false = refl

items : (a b : InputItem) → same_item a b ≡ true → a ≡ b
unfolding same_item
items listed.None listed.None h = refl
items (listed.Bool a) (listed.Bool b) h = ap listed.Bool (bools a b h)
items (listed.Int a) (listed.Int b) h = ap listed.Int ((Decides-int_eq a b).0 h)
items (listed.Text a) (listed.Text b) h = ap listed.Text ((bytes_eq-Decides a b).0 h)
items _ _ h = absurd (false≢true h)

item_itself : (a : InputItem) → same_item a a ≡ true
unfolding same_item
item_itself listed.None = refl
item_itself (listed.Bool a) = bool_itself a
item_itself (listed.Int a) = (Decides-int_eq a a).1 refl
item_itself (listed.Text a) = (bytes_eq-Decides a a).1 refl

pub same_item-Decides : (a b : InputItem) → Decides (same_item a b) (a ≡ b)
same_item-Decides = decided same_item items item_itself

lists_decide : {X : Type 0} (same : X → X → Bool) → ((a b : X) → Decides (same a b) (a ≡ b)) → (xs ys : List X) → Decides (pointwise same xs ys) (xs ≡ ys)
lists_decide same decides xs ys = slice_eq-Decides decides xs ys (pointwise same xs ys) refl

inputs : (a b : Input) → same_input a b ≡ true → a ≡ b
unfolding same_input
inputs whole.None whole.None h = refl
inputs (whole.Bool a) (whole.Bool b) h = ap whole.Bool (bools a b h)
inputs (whole.Int a) (whole.Int b) h = ap whole.Int ((Decides-int_eq a b).0 h)
inputs (whole.Text a) (whole.Text b) h = ap whole.Text ((bytes_eq-Decides a b).0 h)
inputs (whole.List a) (whole.List b) h = ap whole.List ((lists_decide same_item same_item-Decides a b).0 h)
inputs _ _ h = absurd (false≢true h)

input_itself : (a : Input) → same_input a a ≡ true
unfolding same_input
input_itself whole.None = refl
input_itself (whole.Bool a) = bool_itself a
input_itself (whole.Int a) = (Decides-int_eq a a).1 refl
input_itself (whole.Text a) = (bytes_eq-Decides a a).1 refl
input_itself (whole.List a) = (lists_decide same_item same_item-Decides a a).1 refl

values : (a b : Option Input) → same_value a b ≡ true → a ≡ b
unfolding same_value
values None None h = refl
values (Some a) (Some b) h = ap Some (inputs a b h)
values _ _ h = absurd (false≢true h)

value_itself : (a : Option Input) → same_value a a ≡ true
unfolding same_value
value_itself None = refl
value_itself (Some a) = input_itself a

-- two tests of the halves of a pair
both : {A B : Type 0} (f : A → A → Bool) (g : B → B → Bool) → ((a b : A) → Decides (f a b) (a ≡ b)) → ((a b : B) → Decides (g a b) (a ≡ b)) → (p q : A × B) → (f p.0 q.0 && g p.1 q.1) ≡ true → p ≡ q
both f g left right p q h =
    let first = (left p.0 q.0).0 (first_so (f p.0 q.0) (g p.1 q.1) h) in
    let second = (right p.1 q.1).0 (second_so (f p.0 q.0) (g p.1 q.1) h) in
    λ i. (first i, second i)

both_itself : {A B : Type 0} (f : A → A → Bool) (g : B → B → Bool) → ((a b : A) → Decides (f a b) (a ≡ b)) → ((a b : B) → Decides (g a b) (a ≡ b)) → (p : A × B) → (f p.0 p.0 && g p.1 p.1) ≡ true
both_itself f g left right p = ap (λ t. t && g p.1 p.1) ((left p.0 p.0).1 refl) ∙ (right p.1 p.1).1 refl

pub same_named-Decides : (a b : List ℕ × Option Input) → Decides (same_named a b) (a ≡ b)
unfolding same_named
same_named-Decides = decided same_named (both bytes_eq same_value bytes_eq-Decides (decided same_value values value_itself)) (both_itself bytes_eq same_value bytes_eq-Decides (decided same_value values value_itself))

pub same_key-Decides : (a b : Key) → Decides (same_key a b) (a ≡ b)
unfolding same_key
same_key-Decides = decided same_key (both bytes_eq (pointwise same_named) bytes_eq-Decides (lists_decide same_named same_named-Decides)) (both_itself bytes_eq (pointwise same_named) bytes_eq-Decides (lists_decide same_named same_named-Decides))

pub same_keys-Decides : (a b : List Key) → Decides (same_keys a b) (a ≡ b)
unfolding same_keys
same_keys-Decides = lists_decide same_key same_key-Decides
