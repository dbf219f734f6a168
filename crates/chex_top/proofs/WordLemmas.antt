-- What the words of a command say is within the limits.
use Rattle.std.proofs.Common.{◌≡◌, ◌≤◌, ◌<◌, ℕ, Bool, true, false, nat_lt, List, [], ◌∷◌, Option, Some, None, sym, ◌∙◌, ap, subst, refl, arith}
use Rattle.std.specs.Prelude.{codes, bytes_eq, if◌then◌else◌, option_map, option_and_then}
use Rattle.std.specs.Option.{unwrap_or}
use Rattle.std.specs.Str.{chars}
use Rattle.std.proofs.lemmas.Bool.{ltb-false}
use Rattle.clap.specs.Words.{Row, Text}
use Rattle.chex_words.specs.Apps.{run_app, solo_app}
use Rattle.chex_words.specs.Numbers.{number_of, number_or, number_within, optional_number, within}
use Rattle.chex_words.specs.Taken.{taken, value_at}
use Rattle.chex_words.specs.Words.{audit_of, check_of, command_of, make_of, plan_of, price_at, replay_of, run_at, run_of, solo_at, solo_of, steps_at, store_at, taps_at}
use Rattle.chex_words.specs.declared.command.Command.{Command}
use Rattle.chex_words.specs.declared.command.Command.TheVariants.{Solo, Run, Audit, Replay, Plan, Check, Make}
use Rattle.chex_words.specs.declared.command.RunWords.{RunWords}
use Rattle.chex_words.specs.declared.command.SoloWords.{SoloWords}
use Rattle.chex_words.specs.declared.command.StoreWords.{StoreWords}
use Rattle.chex_top.specs.Budgets.{IsStore}
use Rattle.chex_top.specs.Words.{IsAllowance}

-- ---- options

then_some : {A B : Type 0} (f : A → Option B) (o : Option A) (b : B) → option_and_then f o ≡ Some b → (a : A) × (o ≡ Some a) × (f a ≡ Some b)
then_some f None b h = cc
then_some f (Some a) b h = (a, refl, h)

map_some : {A B : Type 0} (f : A → B) (o : Option A) (b : B) → option_map f o ≡ Some b → (a : A) × (o ≡ Some a) × (f a ≡ b)
map_some f None b h = cc
map_some f (Some a) b h = let same : f a ≡ b = cc in (a, refl, same)

map_apart : {A B : Type 0} (f : A → B) (o : Option A) (b : B) → ((a : A) → f a ≡ b → ⊥) → option_map f o ≡ Some b → ⊥
map_apart f o b apart h = let m = map_some f o b h in apart m.0 m.2

-- ---- numbers

within_some : (least most m n : ℕ) → within least most m ≡ Some n → (least ≤ n) × (n ≤ most)
within_some least most m n h = by (nat_lt m least) (nat_lt most m) refl refl h
  where
    by : (b c : Bool) → nat_lt m least ≡ b → nat_lt most m ≡ c → (if b then None else (if c then None else Some m)) ≡ Some n → (least ≤ n) × (n ≤ most)
    by true c low high k = cc
    by false true low high k = cc
    by false false low high k =
        let same : m ≡ n = cc in
        let above : least ≤ m = ltb-false m least low in
        let below : m ≤ most = ltb-false most m high in
        (omega (arith, same, above), omega (arith, same, below))

read_within : (least most : ℕ) (text : Text) (n : ℕ) → number_within least most text ≡ Some n → (least ≤ n) × (n ≤ most)
read_within least most text n h = let t = then_some (within least most) (number_of text) n h in within_some least most t.0 n t.2

or_within : (absent least most : ℕ) (o : Option Text) (n : ℕ) → least ≤ absent → absent ≤ most → number_or absent least most o ≡ Some n → (least ≤ n) × (n ≤ most)
or_within absent least most None n low high h = let same : absent ≡ n = cc in (omega (arith, same, low), omega (arith, same, high))
or_within absent least most (Some text) n low high h = read_within least most text n h

optional_within : (o : Option Text) (b : Option ℕ) → optional_number 256 1048576 o ≡ Some b → (256 ≤ unwrap_or b 256) × (unwrap_or b 256 ≤ 1048576)
optional_within None b h = let same : None ≡ b = cc in subst (λ (b : Option ℕ). (256 ≤ unwrap_or b 256) × (unwrap_or b 256 ≤ 1048576)) same (omega arith, omega arith)
optional_within (Some text) b h =
    let m = map_some Some (number_within 256 1048576 text) b h in
    subst (λ (b : Option ℕ). (256 ≤ unwrap_or b 256) × (unwrap_or b 256 ≤ 1048576)) m.2 (read_within 256 1048576 text m.0 m.1)

allowed : (rows : List Row) (n : ℕ) → steps_at rows ≡ Some n → IsAllowance n
allowed rows n h = or_within 1000000 1 1000000 (value_at (codes "steps") rows) n (omega arith) (omega arith) h

-- ---- commands

abbrev solo_made : List ℕ → ℕ → SoloWords
solo_made notebook steps = record { notebook = chars notebook; steps = steps }

solo_read : (rows : List Row) (w : SoloWords) → solo_at rows ≡ Some w → IsAllowance w.steps
unfolding solo_at
solo_read rows w h =
    let t = then_some {A = List ℕ} (λ notebook. option_map (solo_made notebook) (steps_at rows)) (value_at (codes "notebook") rows) w h in
    let m = map_some (solo_made t.0) (steps_at rows) w t.2 in
    subst (λ (w : SoloWords). IsAllowance w.steps) m.2 (allowed rows m.0 m.1)

abbrev store_made : ℕ → Option ℕ → ℕ → ℕ → StoreWords
store_made budget block save load = record { budget = budget; block = block; save = save; load = load }

abbrev with_load : List Row → ℕ → Option ℕ → ℕ → Option StoreWords
with_load rows budget block save = option_map (store_made budget block save) (price_at (codes "load") rows)

abbrev with_save : List Row → ℕ → Option ℕ → Option StoreWords
with_save rows budget block = option_and_then (with_load rows budget block) (price_at (codes "save") rows)

abbrev with_block : List Row → ℕ → Option StoreWords
with_block rows budget = option_and_then (with_save rows budget) (optional_number 256 1048576 (value_at (codes "block") rows))

stored : (rows : List Row) (s : StoreWords) → store_at rows ≡ Some s → IsStore s
stored rows s h =
    let budget = then_some (with_block rows) (option_and_then number_of (value_at (codes "budget") rows)) s h in
    let block = then_some (with_save rows budget.0) (optional_number 256 1048576 (value_at (codes "block") rows)) s budget.2 in
    let save = then_some (with_load rows budget.0 block.0) (price_at (codes "save") rows) s block.2 in
    let load = map_some (store_made budget.0 block.0 save.0) (price_at (codes "load") rows) s save.2 in
    let size = optional_within (value_at (codes "block") rows) block.0 block.1 in
    let saves = or_within 0 0 1000000 (value_at (codes "save") rows) save.0 (omega arith) (omega arith) save.1 in
    let loads = or_within 0 0 1000000 (value_at (codes "load") rows) load.0 (omega arith) (omega arith) load.1 in
    subst (λ (s : StoreWords). IsStore s) load.2 (record { small = size.0; large = size.1; save = saves.1; load = loads.1 })

abbrev run_made : List Row → List ℕ → StoreWords → ℕ → RunWords
run_made rows manifest store steps = record { manifest = chars manifest; store = store; steps = steps; taps = taps_at rows }

run_read : (rows : List Row) (w : RunWords) → run_at rows ≡ Some w → IsAllowance w.steps × IsStore w.store
unfolding run_at
run_read rows w h =
    let t = then_some {A = List ℕ} (λ manifest. option_and_then (λ store. option_map (run_made rows manifest store) (steps_at rows)) (store_at rows)) (value_at (codes "manifest") rows) w h in
    let s = then_some (λ store. option_map (run_made rows t.0 store) (steps_at rows)) (store_at rows) w t.2 in
    let m = map_some (run_made rows t.0 s.0) (steps_at rows) w s.2 in
    subst (λ (w : RunWords). IsAllowance w.steps × IsStore w.store) m.2 (allowed rows m.0 m.1, stored rows s.0 s.1)

-- the chain of commands, by which of the names the first word is
abbrev chain : Bool → Bool → Bool → Bool → Bool → Bool → Bool → List Text → Option Command
chain b0 b1 b2 b3 b4 b5 b6 words =
    if b0 then option_map Solo (solo_of words)
    else (if b1 then option_map Run (run_of words)
    else (if b2 then option_map Audit (audit_of words)
    else (if b3 then option_map Replay (replay_of words)
    else (if b4 then option_map Plan (plan_of words)
    else (if b5 then option_map Check (check_of words)
    else (if b6 then option_map Make (make_of words)
    else None))))))

solo_in : (b0 b1 b2 b3 b4 b5 b6 : Bool) (words : List Text) (w : SoloWords) → chain b0 b1 b2 b3 b4 b5 b6 words ≡ Some (Solo w) → solo_of words ≡ Some w
solo_in true b1 b2 b3 b4 b5 b6 words w h = let m = map_some Solo (solo_of words) (Solo w) h in let same : m.0 ≡ w = cc in m.1 ∙ ap Some same
solo_in false true b2 b3 b4 b5 b6 words w h = absurd (map_apart Run (run_of words) (Solo w) (λ a k. cc) h)
solo_in false false true b3 b4 b5 b6 words w h = absurd (map_apart Audit (audit_of words) (Solo w) (λ a k. cc) h)
solo_in false false false true b4 b5 b6 words w h = absurd (map_apart Replay (replay_of words) (Solo w) (λ a k. cc) h)
solo_in false false false false true b5 b6 words w h = absurd (map_apart Plan (plan_of words) (Solo w) (λ a k. cc) h)
solo_in false false false false false true b6 words w h = absurd (map_apart Check (check_of words) (Solo w) (λ a k. cc) h)
solo_in false false false false false false true words w h = absurd (map_apart Make (make_of words) (Solo w) (λ a k. cc) h)
solo_in false false false false false false false words w h = cc

run_in : (b0 b1 b2 b3 b4 b5 b6 : Bool) (words : List Text) (w : RunWords) → chain b0 b1 b2 b3 b4 b5 b6 words ≡ Some (Run w) → run_of words ≡ Some w
run_in true b1 b2 b3 b4 b5 b6 words w h = absurd (map_apart Solo (solo_of words) (Run w) (λ a k. cc) h)
run_in false true b2 b3 b4 b5 b6 words w h = let m = map_some Run (run_of words) (Run w) h in let same : m.0 ≡ w = cc in m.1 ∙ ap Some same
run_in false false true b3 b4 b5 b6 words w h = absurd (map_apart Audit (audit_of words) (Run w) (λ a k. cc) h)
run_in false false false true b4 b5 b6 words w h = absurd (map_apart Replay (replay_of words) (Run w) (λ a k. cc) h)
run_in false false false false true b5 b6 words w h = absurd (map_apart Plan (plan_of words) (Run w) (λ a k. cc) h)
run_in false false false false false true b6 words w h = absurd (map_apart Check (check_of words) (Run w) (λ a k. cc) h)
run_in false false false false false false true words w h = absurd (map_apart Make (make_of words) (Run w) (λ a k. cc) h)
run_in false false false false false false false words w h = cc

pub solo_within : (words : List Text) (w : SoloWords) → command_of words ≡ Some (Solo w) → IsAllowance w.steps
solo_within [] w h = cc
solo_within (name ∷ words) w h =
    let is = solo_in (bytes_eq name (codes "solo")) (bytes_eq name (codes "run")) (bytes_eq name (codes "audit")) (bytes_eq name (codes "replay"))
    (bytes_eq name (codes "plan")) (bytes_eq name (codes "check")) (bytes_eq name (codes "make")) words w h in
    let t = then_some solo_at (taken solo_app words) w is in
    solo_read t.0 w t.2

pub run_within : (words : List Text) (w : RunWords) → command_of words ≡ Some (Run w) → IsAllowance w.steps × IsStore w.store
run_within [] w h = cc
run_within (name ∷ words) w h =
    let is = run_in (bytes_eq name (codes "solo")) (bytes_eq name (codes "run")) (bytes_eq name (codes "audit")) (bytes_eq name (codes "replay"))
    (bytes_eq name (codes "plan")) (bytes_eq name (codes "check")) (bytes_eq name (codes "make")) words w h in
    let t = then_some run_at (taken run_app words) w is in
    run_read t.0 w t.2
