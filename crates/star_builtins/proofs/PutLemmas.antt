-- Pairs that are put into a dict, one after the other.
use Rattle.std.proofs.Common.{◌≡◌, ℕ, suc, zero, Bool, List, [], ◌∷◌, ◌++◌, length, reverse, refl, sym, ap, ◌∙◌, subst, arith, IsTrue, Some, None, slice_get, slice_set}
use Rattle.std.specs.List.{list_all}
use Rattle.std.proofs.Math.ListN.{length-set}
use Rattle.std.proofs.lemmas.List.{reverse-append}
use Rattle.heap_store.proofs.Tested.{and_left, and_right, and_both}
use Rattle.star_value.specs.Keys.{value_of}
use Rattle.star_value.specs.declared.key.Key.{Key}
use Rattle.star_value.specs.declared.value.Value.{Value}
use Rattle.star_meaning.specs.Methods.{put_all}
use Rattle.star_meaning.specs.State.{Object, AList, ADict, AFunction, State, pairs_held, object, dict, dict_put, with_dict}
use Rattle.star_meaning.specs.Validity.{MachineState, IsValid, fits, is_dict, is_proper, all_in_pair}
use Rattle.star_builtins.specs.Changes.{PairsFit}
use Rattle.star_builtins.specs.Reached.{Fits, Follows}
use Rattle.star_builtins.proofs.FollowLemmas.{follows_same}

-- ---- one object in the place of another

got_set : (os : List (Object ℕ)) (id : ℕ) (o : Object ℕ) → IsTrue (is_dict (slice_get os id)) → slice_get (slice_set os id o) id ≡ Some o
got_set [] id o h = absurd (cc)
got_set (x ∷ os) zero o h = refl
got_set (x ∷ os) (suc id) o h = got_set os id o h

set_twice : (os : List (Object ℕ)) (id : ℕ) (a b : Object ℕ) → slice_set (slice_set os id a) id b ≡ slice_set os id b
set_twice [] id a b = refl
set_twice (x ∷ os) zero a b = refl
set_twice (x ∷ os) (suc id) a b = ap (λ xs. x ∷ xs) (set_twice os id a b)

set_same : (os : List (Object ℕ)) (id : ℕ) → IsTrue (is_dict (slice_get os id)) → slice_set os id (ADict (pairs_held (slice_get os id))) ≡ os
set_same [] id h = absurd (cc)
set_same (AList items ∷ os) zero h = absurd (cc)
set_same (ADict pairs ∷ os) zero h = refl
set_same (AFunction cell number defaults ∷ os) zero h = absurd (cc)
set_same (x ∷ os) (suc id) h = ap (λ xs. x ∷ xs) (set_same os id h)

module _ (s : State ℕ) (id : ℕ) where
  still_dict : (pairs : List (Key × Value)) → IsTrue (is_dict (slice_get s.objects id)) → IsTrue (is_dict (slice_get (with_dict s id pairs).objects id))
  unfolding with_dict
  still_dict pairs is = rw (got_set s.objects id (ADict pairs) is) refl

  dict_of : (pairs : List (Key × Value)) → IsTrue (is_dict (slice_get s.objects id)) → dict (with_dict s id pairs) id ≡ pairs
  unfolding with_dict dict object
  dict_of pairs is = ap pairs_held (got_set s.objects id (ADict pairs) is)

  dict_twice : (a b : List (Key × Value)) → with_dict (with_dict s id a) id b ≡ with_dict s id b
  unfolding with_dict
  dict_twice a b = ap (λ os. record { globals = s.globals; objects = os }) (set_twice s.objects id (ADict a) (ADict b))

  dict_same : IsTrue (is_dict (slice_get s.objects id)) → with_dict s id (dict s id) ≡ s
  unfolding with_dict dict object
  dict_same is = ap (λ os. record { globals = s.globals; objects = os }) (set_same s.objects id is)

  same_length : (pairs : List (Key × Value)) → length (with_dict s id pairs).objects ≡ length s.objects
  unfolding with_dict
  same_length pairs = length-set s.objects id (ADict pairs)

-- ---- one change after another that makes no object

follows_then : (a b c : MachineState) → length b.state.objects ≡ length a.state.objects → Follows a b → Follows b c → Follows a c
follows_then a b c same first second = record {
  ran = second.ran ∙ first.ran;
  fit = λ v h. second.fit v (first.fit v h);
  few = let more = second.few in omega arith;
  proper = λ h. second.proper (first.proper h);
  valid = λ program h. second.valid program (first.valid program h);
}

-- ---- what is left to put

-- what holds before the rest of some pairs is put into a dict of a machine that was another one at the start
pub record Puts (before now : MachineState) (id : ℕ) (all rest : List (Key × Value)) : Type 0 where
  pub same : with_dict now.state id (put_all (dict now.state id) rest) ≡ with_dict before.state id (put_all (dict before.state id) all)
  pub kind : IsTrue (is_dict (slice_get now.state.objects id))
  pub fit : PairsFit before rest
  pub count : length now.state.objects ≡ length before.state.objects
  pub follows : Follows before now

pub puts_start : (m : MachineState) (id : ℕ) (all : List (Key × Value)) → IsTrue (is_dict (slice_get m.state.objects id)) → PairsFit m all → Puts m m id all all
puts_start m id all is fit = record { same = refl; kind = is; fit = fit; count = refl; follows = follows_same m }

module _ (before now : MachineState) (id : ℕ) (all : List (Key × Value)) where
  module _ (rest : List (Key × Value)) (k : Key) (v : Value) (puts : Puts before now id all ((k, v) ∷ rest)) where
    pub next_key : IsTrue (is_proper (value_of k))
    next_key = and_left (is_proper (value_of k)) (is_proper v) (and_left (all_in_pair is_proper (k, v)) (list_all (all_in_pair is_proper) rest) puts.fit.proper)

    pub next_value : Fits now v
    next_value = puts.follows.fit v (record {
      references = and_right (fits before.state.objects (value_of k)) (fits before.state.objects v) (and_left (all_in_pair (fits before.state.objects) (k, v)) (list_all (all_in_pair (fits before.state.objects)) rest) puts.fit.references);
      proper = and_right (is_proper (value_of k)) (is_proper v) (and_left (all_in_pair is_proper (k, v)) (list_all (all_in_pair is_proper) rest) puts.fit.proper);
    })

    rest_fit : PairsFit before rest
    rest_fit = record {
      references = and_right (all_in_pair (fits before.state.objects) (k, v)) (list_all (all_in_pair (fits before.state.objects)) rest) puts.fit.references;
      proper = and_right (all_in_pair is_proper (k, v)) (list_all (all_in_pair is_proper) rest) puts.fit.proper;
    }

    -- after one more pair, also where memory was wanting for it
    pub puts_follows : (after : MachineState) → Follows now after → Follows before after
    puts_follows after follows = follows_then before now after puts.count puts.follows follows

    step_same : (t : State ℕ) → t ≡ with_dict now.state id (dict_put (dict now.state id) k v) → with_dict t id (put_all (dict t id) rest) ≡ with_dict before.state id (put_all (dict before.state id) all)
    step_same t is =
        ap (λ u. with_dict u id (put_all (dict u id) rest)) is
        ∙ ap (λ ps. with_dict (with_dict now.state id (dict_put (dict now.state id) k v)) id (put_all ps rest)) (dict_of now.state id (dict_put (dict now.state id) k v) puts.kind)
        ∙ dict_twice now.state id (dict_put (dict now.state id) k v) (put_all (dict_put (dict now.state id) k v) rest)
        ∙ puts.same

    pub puts_next : (after : MachineState) → after ≡ record now { state = with_dict now.state id (dict_put (dict now.state id) k v) } → Follows now after → Puts before after id all rest
    puts_next after is follows = record {
      same = step_same after.state (ap (λ m. m.state) is);
      kind = subst (λ m. IsTrue (is_dict (slice_get m.state.objects id))) (sym is) (still_dict now.state id (dict_put (dict now.state id) k v) puts.kind);
      fit = rest_fit;
      count = ap (λ m. length m.state.objects) is ∙ same_length now.state id (dict_put (dict now.state id) k v) ∙ puts.count;
      follows = puts_follows after follows;
    }

  pub puts_end : Puts before now id all [] → now ≡ record before { state = with_dict before.state id (put_all (dict before.state id) all) }
  puts_end puts =
      ap (λ s. record { state = s; ran = now.ran }) (sym (dict_same now.state id puts.kind) ∙ puts.same)
      ∙ ap (λ ns. record { state = with_dict before.state id (put_all (dict before.state id) all); ran = ns }) puts.follows.ran

-- ---- pairs that are taken from the end of what stands in reverse

reversed_more : (xs ys : List (Key × Value)) (pair : Key × Value) → xs ≡ ys ++ pair ∷ [] → reverse xs ≡ pair ∷ reverse ys
reversed_more xs ys pair is = ap reverse is ∙ reverse-append ys (pair ∷ [])

pub puts_more : (before now : MachineState) (id : ℕ) (all xs ys : List (Key × Value)) (k : Key) (v : Value) → xs ≡ ys ++ (k, v) ∷ [] → Puts before now id all (reverse xs) → Puts before now id all ((k, v) ∷ reverse ys)
puts_more before now id all xs ys k v is puts = subst (Puts before now id all) (reversed_more xs ys (k, v) is) puts

nothing : (xs : List (Key × Value)) → length xs ≡ 0 → xs ≡ []
nothing [] h = refl
nothing (pair ∷ xs) h = absurd (omega (arith, h))

pub puts_none : (before now : MachineState) (id : ℕ) (all xs : List (Key × Value)) → length xs ≡ 0 → Puts before now id all (reverse xs) → now ≡ record before { state = with_dict before.state id (put_all (dict before.state id) all) }
puts_none before now id all xs none puts = puts_end before now id all (subst (λ ys. Puts before now id all (reverse ys)) (nothing xs none) puts)
