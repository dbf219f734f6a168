-- The bytes of a state tell the state.
use Rattle.std.proofs.Common.{◌≡◌, ◌≤◌, ℕ, Bool, true, List, [], ◌∷◌, ◌++◌, length, IsTrue, sym, ap, arith, subst, ◌∙◌, append_assoc, append-nil, length-append}
use Rattle.std.specs.List.{list_all}
use Rattle.std.specs.Prelude.{◌&&◌}
use Rattle.std.specs.Str.{all_scalars}
use Rattle.star_value.specs.declared.key.Key.{Key}
use Rattle.star_value.specs.declared.value.Value.{Value}
use Rattle.star_value.specs.Keys as keys
use Rattle.star_meaning.specs.State.{Object, AList, ADict, AFunction}
use Rattle.star_meaning.specs.Snapshot.{counted, global_bytes, id_bytes, object_bytes, pair_bytes, state_bytes, text_bytes, value_bytes}
use Rattle.star_meaning.specs.Validity.{MachineState, all_in_object, all_in_pair, has_32_bits, has_small_numbers}
use Rattle.star_meaning.proofs.AlikeNumbers.{and_both}
use Rattle.star_meaning.proofs.ToldKeys.{keys_one}
use Rattle.star_meaning.proofs.ToldParts.{Short, Told, cons_same, counted_told, each_told, id_told, short_rest, short_tail, text_told}
use Rattle.star_meaning.proofs.ToldValues.{value_some, value_told, written}

-- ---- lists of values, and of pairs

lists_told : (xs ys : List Value) (r s : List ℕ) → IsTrue (list_all written xs) → IsTrue (list_all written ys) → Short (counted value_bytes xs ++ r)
    → counted value_bytes xs ++ r ≡ counted value_bytes ys ++ s → (xs ≡ ys) × (r ≡ s)
lists_told xs ys r s h k l e = counted_told value_bytes written value_some xs ys r s (each_told value_bytes written value_told xs) h k l e

after_some : (c x : List ℕ) → 1 ≤ length x → 1 ≤ length (c ++ x)
after_some c x h = let both = length-append c x in omega (arith, both, h)

pair_some : (p : Key × Value) → 1 ≤ length (pair_bytes p)
pair_some p = after_some (value_bytes (keys.value_of p.0)) (value_bytes p.1) (value_some p.1)

pair_told : (p : Key × Value) → Told pair_bytes (all_in_pair written) p
pair_told p q r s h k l e =
    let one = append_assoc (value_bytes (keys.value_of p.0)) (value_bytes p.1) r in
    let two = append_assoc (value_bytes (keys.value_of q.0)) (value_bytes q.1) s in
    let here = and_both (written (keys.value_of p.0)) (written p.1) h in
    let there = and_both (written (keys.value_of q.0)) (written q.1) k in
    let short = subst Short one l in
    let first = value_told (keys.value_of p.0) (keys.value_of q.0) (value_bytes p.1 ++ r) (value_bytes q.1 ++ s) here.0 there.0 short (sym one ∙ e ∙ two) in
    let second = value_told p.1 q.1 r s here.1 there.1 (short_rest (value_bytes (keys.value_of p.0)) (value_bytes p.1 ++ r) short) first.1 in
    let key = keys_one p.0 q.0 first.0 in (λ i. (key i, second.0 i), second.1)

dicts_told : (ps qs : List (Key × Value)) (r s : List ℕ) → IsTrue (list_all (all_in_pair written) ps) → IsTrue (list_all (all_in_pair written) qs) → Short (counted pair_bytes ps ++ r)
    → counted pair_bytes ps ++ r ≡ counted pair_bytes qs ++ s → (ps ≡ qs) × (r ≡ s)
dicts_told ps qs r s h k l e = counted_told pair_bytes (all_in_pair written) pair_some ps qs r s (each_told pair_bytes (all_in_pair written) pair_told ps) h k l e

-- ---- globals

abbrev pub global_written : List ℕ × Value → Bool
global_written g = all_scalars g.0 && written g.1

global_some : (g : List ℕ × Value) → 1 ≤ length (global_bytes g)
global_some g = after_some (text_bytes g.0) (value_bytes g.1) (value_some g.1)

global_told : (g : List ℕ × Value) → Told global_bytes global_written g
global_told g f r s h k l e =
    let one = append_assoc (text_bytes g.0) (value_bytes g.1) r in
    let two = append_assoc (text_bytes f.0) (value_bytes f.1) s in
    let here = and_both (all_scalars g.0) (written g.1) h in
    let there = and_both (all_scalars f.0) (written f.1) k in
    let short = subst Short one l in
    let first = text_told g.0 f.0 (value_bytes g.1 ++ r) (value_bytes f.1 ++ s) here.0 there.0 short (sym one ∙ e ∙ two) in
    let second = value_told g.1 f.1 r s here.1 there.1 (short_rest (text_bytes g.0) (value_bytes g.1 ++ r) short) first.1 in (λ i. (first.0 i, second.0 i), second.1)

-- ---- objects

abbrev pub object_written : Object ℕ → Bool
object_written o = all_in_object written o && has_small_numbers o

after_ids : ℕ → ℕ → List Value → List ℕ → List ℕ
after_ids cell number xs r = id_bytes cell ++ (id_bytes number ++ (counted value_bytes xs ++ r))

function_bytes : (cell number : ℕ) (xs : List Value) (r : List ℕ) → object_bytes (AFunction cell number xs) ++ r ≡ 2 ∷ after_ids cell number xs r
unfolding after_ids
function_bytes cell number xs r =
    append_assoc (2 ∷ id_bytes cell ++ id_bytes number) (counted value_bytes xs) r ∙ append_assoc (2 ∷ id_bytes cell) (id_bytes number) (counted value_bytes xs ++ r)

functions_told : (a b m n : ℕ) (xs ys : List Value) (r s : List ℕ) → IsTrue (object_written (AFunction a m xs)) → IsTrue (object_written (AFunction b n ys))
    → Short (object_bytes (AFunction a m xs) ++ r) → object_bytes (AFunction a m xs) ++ r ≡ object_bytes (AFunction b n ys) ++ s → (AFunction a m xs ≡ AFunction b n ys) × (r ≡ s)
unfolding after_ids
functions_told a b m n xs ys r s h k l e =
    let x = counted value_bytes xs ++ r in
    let y = counted value_bytes ys ++ s in
    let here = and_both (list_all written xs) (has_32_bits a && has_32_bits m) h in
    let there = and_both (list_all written ys) (has_32_bits b && has_32_bits n) k in
    let small = and_both (has_32_bits a) (has_32_bits m) here.1 in
    let little = and_both (has_32_bits b) (has_32_bits n) there.1 in
    let short = short_tail 2 (after_ids a m xs r) (subst Short (function_bytes a m xs r) l) in
    let whole = (cons_same 2 2 (after_ids a m xs r) (after_ids b n ys s) (sym (function_bytes a m xs r) ∙ e ∙ function_bytes b n ys s)).1 in
    let cells = id_told a b (id_bytes m ++ x) (id_bytes n ++ y) small.0 little.0 whole in
    let numbers = id_told m n x y small.1 little.1 cells.1 in
    let rest = short_rest (id_bytes m) x (short_rest (id_bytes a) (id_bytes m ++ x) short) in
    let lists = lists_told xs ys r s here.0 there.0 rest numbers.1 in (λ i. AFunction (cells.0 i) (numbers.0 i) (lists.0 i), lists.1)

apart : (x y : ℕ) (xs ys : List ℕ) → (x ≡ y → ⊥) → x ∷ xs ≡ y ∷ ys → ⊥
apart x y xs ys h e = h (cons_same x y xs ys e).0

object_told : (o : Object ℕ) → Told object_bytes object_written o
object_told (AList xs) (AList ys) r s h k l e =
    let x = counted value_bytes xs ++ r in
    let y = counted value_bytes ys ++ s in
    let here = (and_both (list_all written xs) true h).0 in
    let there = (and_both (list_all written ys) true k).0 in
    let both = lists_told xs ys r s here there (short_tail 0 x l) (cons_same 0 0 x y e).1 in (ap AList both.0, both.1)
object_told (ADict ps) (ADict qs) r s h k l e =
    let x = counted pair_bytes ps ++ r in
    let y = counted pair_bytes qs ++ s in
    let here = (and_both (list_all (all_in_pair written) ps) true h).0 in
    let there = (and_both (list_all (all_in_pair written) qs) true k).0 in
    let both = dicts_told ps qs r s here there (short_tail 1 x l) (cons_same 1 1 x y e).1 in (ap ADict both.0, both.1)
object_told (AFunction a m xs) (AFunction b n ys) r s h k l e = functions_told a b m n xs ys r s h k l e
object_told (AList xs) (ADict qs) r s h k l e = absurd (apart 0 1 _ _ (λ f. omega (arith, f)) e)
object_told (AList xs) (AFunction b n ys) r s h k l e = absurd (apart 0 2 _ _ (λ f. omega (arith, f)) (e ∙ function_bytes b n ys s))
object_told (ADict ps) (AList ys) r s h k l e = absurd (apart 1 0 _ _ (λ f. omega (arith, f)) e)
object_told (ADict ps) (AFunction b n ys) r s h k l e = absurd (apart 1 2 _ _ (λ f. omega (arith, f)) (e ∙ function_bytes b n ys s))
object_told (AFunction a m xs) (AList ys) r s h k l e = absurd (apart 2 0 _ _ (λ f. omega (arith, f)) (sym (function_bytes a m xs r) ∙ e))
object_told (AFunction a m xs) (ADict qs) r s h k l e = absurd (apart 2 1 _ _ (λ f. omega (arith, f)) (sym (function_bytes a m xs r) ∙ e))

object_some : (o : Object ℕ) → 1 ≤ length (object_bytes o)
object_some (AList xs) = omega arith
object_some (ADict ps) = omega arith
object_some (AFunction a m xs) = let both = length-append (2 ∷ id_bytes a ++ id_bytes m) (counted value_bytes xs) in omega (arith, both)

-- ---- states

pub record IsWritten (m : MachineState) : Type 0 where
  pub nodes : IsTrue (list_all has_32_bits m.ran)
  pub globals : IsTrue (list_all global_written m.state.globals)
  pub objects : IsTrue (list_all object_written m.state.objects)

id_some : (n : ℕ) → 1 ≤ length (id_bytes n)
id_some n = omega arith

after_ran : MachineState → List ℕ
after_ran m = counted global_bytes m.state.globals ++ (counted object_bytes m.state.objects ++ [])

state_opened : (m : MachineState) → state_bytes m ≡ 67 ∷ 72 ∷ 88 ∷ 50 ∷ (counted id_bytes m.ran ++ after_ran m)
unfolding state_bytes after_ran
state_opened m =
    append_assoc (67 ∷ 72 ∷ 88 ∷ 50 ∷ counted id_bytes m.ran) (counted global_bytes m.state.globals) (counted object_bytes m.state.objects)
    ∙ ap (λ x. 67 ∷ 72 ∷ 88 ∷ 50 ∷ (counted id_bytes m.ran ++ (counted global_bytes m.state.globals ++ x))) (sym (append-nil (counted object_bytes m.state.objects)))

four_same : (a b c d : ℕ) (xs ys : List ℕ) → a ∷ b ∷ c ∷ d ∷ xs ≡ a ∷ b ∷ c ∷ d ∷ ys → xs ≡ ys
four_same a b c d xs ys e =
    (cons_same d d xs ys (cons_same c c (d ∷ xs) (d ∷ ys) (cons_same b b (c ∷ d ∷ xs) (c ∷ d ∷ ys) (cons_same a a (b ∷ c ∷ d ∷ xs) (b ∷ c ∷ d ∷ ys) e).1).1).1).1

pub states_told : (m n : MachineState) → IsWritten m → IsWritten n → Short (state_bytes m) → state_bytes m ≡ state_bytes n → m ≡ n
unfolding after_ran
states_told m n h k l e =
    let gs = counted global_bytes m.state.globals in
    let os = counted object_bytes m.state.objects in
    let short = short_rest (67 ∷ 72 ∷ 88 ∷ 50 ∷ []) (counted id_bytes m.ran ++ after_ran m) (subst Short (state_opened m) l) in
    let whole = four_same 67 72 88 50 (counted id_bytes m.ran ++ after_ran m) (counted id_bytes n.ran ++ after_ran n) (sym (state_opened m) ∙ e ∙ state_opened n) in
    let ran = counted_told id_bytes has_32_bits id_some m.ran n.ran (after_ran m) (after_ran n) (each_told id_bytes has_32_bits (λ a b r s p q t f. id_told a b r s p q f) m.ran) h.nodes k.nodes short whole in
    let rest = short_rest (counted id_bytes m.ran) (after_ran m) short in
    let globals = counted_told global_bytes global_written global_some m.state.globals n.state.globals (os ++ []) (counted object_bytes n.state.objects ++ []) (each_told global_bytes global_written global_told m.state.globals)
    h.globals k.globals rest ran.1 in
    let objects = counted_told object_bytes object_written object_some m.state.objects n.state.objects [] [] (each_told object_bytes object_written object_told m.state.objects) h.objects k.objects
    (short_rest gs (os ++ []) rest) globals.1 in
    λ i. record { state = record { globals = globals.0 i; objects = objects.0 i }; ran = ran.0 i }
