-- The rows hold by evaluation.
use Rattle.std.proofs.Common.{◌≡◌, ℕ, ℤ, [], ◌∷◌, true, false, IsTrue, refl, sym, ap, arith, subst, ◌∙◌}
use Rattle.std.specs.Prelude.{◌&&◌, ◌==◌, ◌||◌}
use Rattle.star_value.specs.declared.value.Value.TheVariants as value
use Rattle.star_value.specs.declared.value.Value.{out-Value, out-roll-Value}
use Rattle.star_value.specs.declared.value.Value.TheOpen.{Value-F}
use Rattle.star_meaning.specs.Alike.{Alike, LikeFound, Pairs, is_pair, like, like_layer}
use Rattle.star_meaning.specs.State.{object}
use Rattle.star_meaning.specs.Snapshot.{state_bytes}
use Rattle.star_meaning.specs.Rows.Snapshots.{Snapshots, bound_again, bound_last, one_list, two_lists, x_first, y_first}
use Rattle.star_meaning.proofs.Equations.{layers}
use Rattle.star_meaning.proofs.Opened.{evaluation}
use Rattle.star_meaning.proofs.AlikeNumbers.{and_both, not_true, or_either, places, same_number, at_or, seconds}
use Rattle.star_meaning.proofs.AlikeValues.{like_rolled}
use Rattle.star_meaning.proofs.SnapshotLemmas.{bytes_int, bytes_list, references_int, references_list}

like_lists : (pairs : Pairs) (a b : ℕ) → like pairs (value.List a) (value.List b) ≡ is_pair pairs a b
like_lists pairs a b = ap (λ v. like pairs v (value.List b)) (sym (value.rolls-List a)) ∙ like_rolled pairs (Value-F.List a) (value.List b) ∙ ap (λ v. like_layer pairs (Value-F.List a) (out-Value v)) (sym (value.rolls-List b)) ∙ ap (like_layer pairs (Value-F.List a)) (out-roll-Value (Value-F.List b))

like_ints : (pairs : Pairs) (a b : ℤ) → like pairs (value.Int a) (value.Int b) ≡ like_layer pairs (Value-F.Int a) (Value-F.Int b)
like_ints pairs a b = ap (λ v. like pairs v (value.Int b)) (sym (value.rolls-Int a)) ∙ like_rolled pairs (Value-F.Int a) (value.Int b) ∙ ap (λ v. like_layer pairs (Value-F.Int a) (out-Value v)) (sym (value.rolls-Int b)) ∙ ap (like_layer pairs (Value-F.Int a)) (out-roll-Value (Value-F.Int b))

-- the two lists of x, and the two of y
crossed : (a b : ℕ) → IsTrue (is_pair ((0, 1) ∷ (1, 0) ∷ []) a b) → LikeFound {C = ℕ} ((0, 1) ∷ (1, 0) ∷ []) (object x_first a) (object y_first b)
unfolding object
crossed a b h =
    or_either ((0 == a) && (1 == b)) (((1 == a) && (0 == b)) || false) (LikeFound {C = ℕ} ((0, 1) ∷ (1, 0) ∷ []) (object x_first a) (object y_first b))
    (λ k. let both = and_both (0 == a) (1 == b) k in
    subst (λ n. LikeFound {C = ℕ} ((0, 1) ∷ (1, 0) ∷ []) (object x_first n) (object y_first b)) (same_number 0 a both.0)
    (subst (λ n. LikeFound {C = ℕ} ((0, 1) ∷ (1, 0) ∷ []) (object x_first 0) (object y_first n)) (same_number 1 b both.1) (simp like_ints)))
    (λ k. or_either ((1 == a) && (0 == b)) false (LikeFound {C = ℕ} ((0, 1) ∷ (1, 0) ∷ []) (object x_first a) (object y_first b))
    (λ l. let both = and_both (1 == a) (0 == b) l in
    subst (λ n. LikeFound {C = ℕ} ((0, 1) ∷ (1, 0) ∷ []) (object x_first n) (object y_first b)) (same_number 1 a both.0)
    (subst (λ n. LikeFound {C = ℕ} ((0, 1) ∷ (1, 0) ∷ []) (object x_first 1) (object y_first n)) (same_number 0 b both.1) (simp like_ints))) (λ l. absurd (not_true l)) k) h

-- the list of x and the list that it is written as
found_again : (a b : ℕ) → IsTrue (is_pair ((1, 0) ∷ []) a b) → LikeFound {C = ℕ} ((1, 0) ∷ []) (object bound_again a) (object bound_last b)
unfolding object
found_again a b h =
    or_either ((1 == a) && (0 == b)) false (LikeFound {C = ℕ} ((1, 0) ∷ []) (object bound_again a) (object bound_last b))
    (λ k. let both = and_both (1 == a) (0 == b) k in
    subst (λ n. LikeFound {C = ℕ} ((1, 0) ∷ []) (object bound_again n) (object bound_last b)) (same_number 1 a both.0)
    (subst (λ n. LikeFound {C = ℕ} ((1, 0) ∷ []) (object bound_again 1) (object bound_last n)) (same_number 0 b both.1) (simp like_ints))) (λ k. absurd (not_true k)) h

-- the two lists of y, and the two of x
crossed_back : (a b : ℕ) → IsTrue (is_pair ((1, 0) ∷ (0, 1) ∷ []) a b) → LikeFound {C = ℕ} ((1, 0) ∷ (0, 1) ∷ []) (object y_first a) (object x_first b)
unfolding object
crossed_back a b h =
    or_either ((1 == a) && (0 == b)) (((0 == a) && (1 == b)) || false) (LikeFound {C = ℕ} ((1, 0) ∷ (0, 1) ∷ []) (object y_first a) (object x_first b))
    (λ k. let both = and_both (1 == a) (0 == b) k in
    subst (λ n. LikeFound {C = ℕ} ((1, 0) ∷ (0, 1) ∷ []) (object y_first n) (object x_first b)) (same_number 1 a both.0)
    (subst (λ n. LikeFound {C = ℕ} ((1, 0) ∷ (0, 1) ∷ []) (object y_first 1) (object x_first n)) (same_number 0 b both.1) (simp like_ints)))
    (λ k. or_either ((0 == a) && (1 == b)) false (LikeFound {C = ℕ} ((1, 0) ∷ (0, 1) ∷ []) (object y_first a) (object x_first b))
    (λ l. let both = and_both (0 == a) (1 == b) l in
    subst (λ n. LikeFound {C = ℕ} ((1, 0) ∷ (0, 1) ∷ []) (object y_first n) (object x_first b)) (same_number 0 a both.0)
    (subst (λ n. LikeFound {C = ℕ} ((1, 0) ∷ (0, 1) ∷ []) (object y_first 0) (object x_first n)) (same_number 1 b both.1) (simp like_ints))) (λ l. absurd (not_true l)) k) h

one_is_not_two : Alike {C = ℕ} one_list two_lists → ⊥
one_is_not_two h =
    let globals : IsTrue (is_pair h.0 0 0 && (is_pair h.0 0 1 && true)) = simp like_lists at h.1.globals in
    let both = and_both (is_pair h.0 0 0) (is_pair h.0 0 1 && true) globals in
    let second = and_both (is_pair h.0 0 1) true both.1 in
    let here = places h.0 h.1.first_once 0 0 both.0 in
    let there = places h.0 h.1.first_once 0 1 second.0 in
    let zero_there : at_or (λ n. n) (seconds h.0) here.0 ≡ 0 = here.4 (λ n. n) in
    let one_there : at_or (λ n. n) (seconds h.0) there.0 ≡ 1 = there.4 (λ n. n) in
    let same : here.0 ≡ there.0 = sym here.2 ∙ there.2 in
    let wrong : ◌≡◌ {A = ℕ} 0 1 = sym zero_there ∙ ap (at_or (λ n. n) (seconds h.0)) same ∙ one_there in omega arith

pub snapshots_hold : Snapshots
unfolding evaluation state_bytes
snapshots_hold = record {
  one_list_reached = simp layers;
  x_first_reached = simp layers;
  y_first_reached = simp layers;
  orders_alike = record { first_once = refl; second_once = refl; globals = simp like_lists; objects = crossed };
  not_alike = one_is_not_two;
  first_canonical = simp (references_int, references_list);
  met_in_order = simp (references_int, references_list);
  met_later = simp (references_int, references_list);
  first_bytes = simp (bytes_int, bytes_list);
  first_length = simp (bytes_int, bytes_list);
  empty_length = refl;
  x_first_appended = simp layers;
  y_first_appended = simp layers;
  two_lists_reached = simp layers;
  one_list_appended = simp layers;
  two_lists_appended = simp layers;
  bound_again_reached = simp layers;
  bound_again_canon = record {
    alike = record { ran = refl; state = ((1, 0) ∷ [], record { first_once = refl; second_once = refl; globals = simp like_lists; objects = found_again }) };
    canonical = simp (references_int, references_list);
  };
  bound_again_length = simp (bytes_int, bytes_list);
  orders_canon = record {
    alike = record { ran = refl; state = ((1, 0) ∷ (0, 1) ∷ [], record { first_once = refl; second_once = refl; globals = simp like_lists; objects = crossed_back }) };
    canonical = simp (references_int, references_list);
  };
  orders_length = simp (bytes_int, bytes_list);
}
