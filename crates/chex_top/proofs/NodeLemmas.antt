-- How many versions a manifest has, and their tree.
use Rattle.std.proofs.Common.{◌≡◌, ◌<◌, ◌≤◌, ◌+◌, ℕ, suc, nat_lt, Bool, true, false, List, [], ◌∷◌, length, Option, Some, None, Result, Ok, Err, sym, ◌∙◌, ap, subst, refl, arith}
use Rattle.std.specs.Prelude.{All, IfOk, codes, if◌then◌else◌, option_and_then}
use Rattle.std.proofs.lemmas.Bool.{ltb-false}
use Rattle.std.proofs.lemmas.List.Elements.{All-from_recursion}
use Rattle.serde_json.specs.Data.{Data, Items, no_items, item, Members}
use Rattle.serde_json.specs.Events.{items_len}
use Rattle.serde_json.specs.Find.{get, as_array, as_object}
use Rattle.nb_reader.specs.declared.fault.NbFault.{NbFault}
use Rattle.nb_reader.specs.declared.fault.NbFault.TheVariants.{TooMany}
use Rattle.nb_reader.specs.declared.fault.Counted.TheVariants as counted
use Rattle.nb_reader.specs.declared.manifest.Entry.{Entry}
use Rattle.nb_reader.specs.declared.manifest.Manifest.{Manifest}
use Rattle.nb_reader.specs.Reading.{IsReading, read_as, value_of}
use Rattle.nb_reader.specs.Manifest.{distinct, limited_versions, manifest_in, manifest_of, manifest_or_refusal, manifest_or_repeated, repeated_name, version_of, versions_of, versions_or_refusal, with_version}
use Rattle.exec_tree.specs.declared.checked.Checked.{Checked}
use Rattle.exec_tree.specs.Prefixes.{prefixes}
use Rattle.chex_top.specs.declared.refusal.Refusal.TheVariants.{Usage, Absent, ReadFailed, BadFile, BadCell, TooManyNodes, TooManyBlocks, NoMemory}
use Rattle.chex_top.specs.declared.version.Version.{Version}
use Rattle.chex_top.specs.Jobs.{AreChecked, AreSmall, IsChecked}
use Rattle.chex_top.specs.Nodes.{nodes}
use Rattle.chex_top.specs.Stages.{IsSingle}
use Rattle.chex_top.proofs.RefusedLemmas.{few_cells, zip_length}

-- ---- a manifest has at most 64 versions

all_entries : (index : ℕ) (items : Items) (entries : List Entry) → versions_of index items ≡ Ok entries → length entries ≡ items_len items
all_entries index no_items entries is = let same : [] ≡ entries = cc in ap length (sym same)
all_entries index (item d ds) entries is = by (version_of d) (versions_of (index + 1) ds) (all_entries (index + 1) ds) is
  where
    by : (o : Option Entry) (rest : Result (List Entry) NbFault) → ((more : List Entry) → rest ≡ Ok more → length more ≡ items_len ds)
        → with_version index o rest ≡ Ok entries → length entries ≡ suc (items_len ds)
    by None rest long h = cc
    by (Some v) (Err e) long h = cc
    by (Some v) (Ok more) long h = let same : v ∷ more ≡ entries = cc in ap length (sym same) ∙ ap suc (long more refl)

few_named : (entries : List Entry) (m : Manifest) (repeated : Option (List ℕ)) → length entries ≤ 64 → manifest_or_repeated entries repeated ≡ Ok m → length m.versions ≤ 64
few_named entries m None few h = let same : record { versions = entries } ≡ m = cc in subst (λ (m : Manifest). length m.versions ≤ 64) same few
few_named entries m (Some name) few h = cc

few_distinct : (all : Result (List Entry) NbFault) (m : Manifest) → ((entries : List Entry) → all ≡ Ok entries → length entries ≤ 64) → distinct all ≡ Ok m → length m.versions ≤ 64
few_distinct (Ok entries) m few h = few_named entries m (repeated_name [] entries) (few entries refl) h
few_distinct (Err e) m few h = cc

few_limited : (items : Items) (m : Manifest) → limited_versions items ≡ Ok m → length m.versions ≤ 64
few_limited items m is = by (nat_lt 64 (items_len items)) refl is
  where
    by : (b : Bool) → nat_lt 64 (items_len items) ≡ b → (if b then Err (TooMany counted.Versions (items_len items)) else distinct (versions_of 1 items)) ≡ Ok m → length m.versions ≤ 64
    by true long h = cc
    by false short h =
        let few : items_len items ≤ 64 = ltb-false 64 (items_len items) short in
        few_distinct (versions_of 1 items) m (λ entries found. let same = all_entries 1 items entries found in omega arith) h

few_listed : (list : Option Items) (m : Manifest) → versions_or_refusal list ≡ Ok m → length m.versions ≤ 64
few_listed None m h = cc
few_listed (Some items) m h = few_limited items m h

few_in : (d : Data) (members : Option Members) (m : Manifest) → manifest_or_refusal d members ≡ Ok m → length m.versions ≤ 64
few_in d None m h = cc
few_in d (Some _) m h = few_listed (option_and_then as_array (get (codes "versions") d)) m h

few_read : (value : Option Data) (m : Manifest) → read_as manifest_in value ≡ Ok m → length m.versions ≤ 64
few_read None m h = cc
few_read (Some d) m h = few_in d (as_object d) m h

pub few_entries : (bytes : List ℕ) (result : Result Manifest NbFault) → IsReading result (manifest_of bytes) → IfOk result (λ m. length m.versions ≤ 64)
few_entries bytes (Ok m) h = few_read (value_of bytes) m h
few_entries bytes (Err e) h = tt

-- ---- what a tree is asked for

-- there are as many versions with cells as versions
pub few_versions : (versions : List Version) (all : List Checked) → length versions ≤ 64 → AreChecked versions all → length all ≤ 64
few_versions versions all few h = let same = zip_length IsChecked versions all h in omega arith

pub each_few : (versions : List Version) (all : List Checked) → AreSmall versions → AreChecked versions all → All (λ version. length version.cells ≤ 64) all
each_few versions all small h = All-from_recursion (λ (version : Checked). length version.cells ≤ 64) all (few_cells versions all small h)

-- ---- a tree has few nodes or too many

not_both : (n count : ℕ) → n ≤ 512 → count ≡ n → 512 < count → ⊥
not_both n count few same many = absurd (omega arith)

pub nodes_single : (versions : List Checked) → IsSingle (nodes versions)
nodes_single versions (Ok a) (Ok b) h k sure certain = ap Ok (h.0 ∙ sym k.0)
nodes_single versions (Ok a) (Err (TooManyNodes count)) h k sure certain = absurd (not_both (length (prefixes versions)) count h.1 k.0 k.1)
nodes_single versions (Ok a) (Err NoMemory) h k sure certain = absurd (certain.0 refl)
nodes_single versions (Ok a) (Err Usage) h k sure certain = absurd k
nodes_single versions (Ok a) (Err (Absent file)) h k sure certain = absurd k
nodes_single versions (Ok a) (Err (ReadFailed file)) h k sure certain = absurd k
nodes_single versions (Ok a) (Err (BadFile file fault)) h k sure certain = absurd k
nodes_single versions (Ok a) (Err (BadCell bad)) h k sure certain = absurd k
nodes_single versions (Ok a) (Err (TooManyBlocks count)) h k sure certain = absurd k
nodes_single versions (Err (TooManyNodes count)) (Ok b) h k sure certain = absurd (not_both (length (prefixes versions)) count k.1 h.0 h.1)
nodes_single versions (Err (TooManyNodes a)) (Err (TooManyNodes b)) h k sure certain = ap (λ count. Err (TooManyNodes count)) (h.0 ∙ sym k.0)
nodes_single versions (Err (TooManyNodes count)) (Err NoMemory) h k sure certain = absurd (certain.0 refl)
nodes_single versions (Err (TooManyNodes count)) (Err Usage) h k sure certain = absurd k
nodes_single versions (Err (TooManyNodes count)) (Err (Absent file)) h k sure certain = absurd k
nodes_single versions (Err (TooManyNodes count)) (Err (ReadFailed file)) h k sure certain = absurd k
nodes_single versions (Err (TooManyNodes count)) (Err (BadFile file fault)) h k sure certain = absurd k
nodes_single versions (Err (TooManyNodes count)) (Err (BadCell bad)) h k sure certain = absurd k
nodes_single versions (Err (TooManyNodes count)) (Err (TooManyBlocks blocks)) h k sure certain = absurd k
nodes_single versions (Err NoMemory) other h k sure certain = absurd (sure.0 refl)
nodes_single versions (Err Usage) other h k sure certain = absurd h
nodes_single versions (Err (Absent file)) other h k sure certain = absurd h
nodes_single versions (Err (ReadFailed file)) other h k sure certain = absurd h
nodes_single versions (Err (BadFile file fault)) other h k sure certain = absurd h
nodes_single versions (Err (BadCell bad)) other h k sure certain = absurd h
nodes_single versions (Err (TooManyBlocks count)) other h k sure certain = absurd h
