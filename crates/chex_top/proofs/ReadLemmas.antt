-- Readings one after the other.
use Rattle.std.proofs.Common.{◌≡◌, ◌≢◌, ◌⊎◌, ◌≤◌, ◌<◌, ℕ, nat_lt, nat_le, true, false, List, [], ◌∷◌, ◌++◌, length, take, Option, Some, None, Result, Ok, Err, sym, ◌∙◌, ap, subst, refl, inl, inr, arith, Bool, drop, get_or, ◌+◌, append_assoc, append-nil}
use Rattle.std.specs.Prelude.{IfSome, option_map, if◌then◌else◌}
use Rattle.std.specs.Str.{encode_utf8_all}
use Rattle.std.proofs.lemmas.Bool.{ltb-true, lt-ltb}
use Rattle.std.proofs.lemmas.List.{length-take, take_all, drop_more, drop_all}
use Rattle.std.proofs.lemmas.List.Elements.{Contains-append_left, Contains-append_right}
use Rattle.nb_reader.specs.declared.fault.NbFault.{NbFault}
use Rattle.nb_reader.specs.declared.fault.NbFault.TheVariants.{TooMany}
use Rattle.nb_reader.specs.declared.fault.NbFault.TheVariants as broken
use Rattle.nb_reader.specs.declared.fault.Counted.TheVariants as count
use Rattle.chex_top.specs.declared.refusal.Refusal.{Refusal}
use Rattle.chex_top.specs.declared.refusal.Refusal.TheVariants.{Usage, Absent, ReadFailed, BadFile, BadCell, TooManyNodes, TooManyBlocks, NoMemory}
use Rattle.chex_base.specs.declared.input.Input.{Input}
use Rattle.nb_reader.specs.declared.manifest.Entry.{Entry}
use Rattle.chex_top.specs.declared.version.Version.{Version}
use Rattle.nb_reader.specs.declared.manifest.Manifest.{Manifest}
use Rattle.chex_words.specs.declared.command.RunWords.{RunWords}
use Rattle.chex_words.specs.declared.command.SoloWords.{SoloWords}
use Rattle.chex_words.specs.declared.command.StoreWords.{StoreWords}
use Rattle.plan_type.specs.declared.budget.Budget.{Budget}
use Rattle.chex_top.specs.declared.version.Job.{Job}
use Rattle.chex_top.specs.declared.version.Job.TheVariants.{Alone, Shared}
use Rattle.chex_top.specs.Budgets.{budget_of, most_of}
use Rattle.chex_top.specs.Files.{notebook_at, manifest_at, inputs_at, version_at, versions_at, solo_version, solo_at, budget_in, shared_at, run_at}
use Rattle.chex_top.specs.Reads.{FileView, Read, pure, goes_on, ◌>>=◌, counted, found, bytes_of, named, Refuses, Answers, IsCounted}

-- files that were looked at before change no answer
grown : {T : Type 0} (looked : List (List ℕ)) (q : Read T) (result : Result T Refusal) → Answers q result → Answers (looked ++ q.0, q.1) result
grown looked q (Ok x) h = h
grown looked q (Err NoMemory) h = tt
grown looked q (Err (ReadFailed file)) h = Contains-append_right looked q.0 file h
grown looked q (Err Usage) h = h
grown looked q (Err (Absent file)) h = h
grown looked q (Err (BadFile file fault)) h = h
grown looked q (Err (BadCell bad)) h = h
grown looked q (Err (TooManyNodes count)) h = h
grown looked q (Err (TooManyBlocks count)) h = h

pub answers_after : {A B : Type 0} (p : Read A) (f : A → Read B) (x : A) (result : Result B Refusal) → p.1 ≡ Ok x → Answers (f x) result → Answers (p >>= f) result
answers_after p f x result is h =
    subst (λ (o : Result _ Refusal). Answers (goes_on p.0 o f) result) (sym is) (grown p.0 (f x) result h)

stops : {A B : Type 0} (looked : List (List ℕ)) (o : Result A Refusal) (f : A → Read B) (r : Refusal) → Refuses (looked, o) r → Refuses (goes_on looked o f) r
stops looked o f NoMemory h = tt
stops looked (Ok x) f (ReadFailed file) h = Contains-append_left looked (f x).0 file h
stops looked (Err e) f (ReadFailed file) h = h
stops looked o f Usage h = ap (λ o. (goes_on looked o f).1) h
stops looked o f (Absent file) h = ap (λ o. (goes_on looked o f).1) h
stops looked o f (BadFile file fault) h = ap (λ o. (goes_on looked o f).1) h
stops looked o f (BadCell bad) h = ap (λ o. (goes_on looked o f).1) h
stops looked o f (TooManyNodes count) h = ap (λ o. (goes_on looked o f).1) h
stops looked o f (TooManyBlocks count) h = ap (λ o. (goes_on looked o f).1) h

pub answers_stop : {A B : Type 0} (p : Read A) (f : A → Read B) (r : Refusal) → Refuses p r → Refuses (p >>= f) r
answers_stop p f r h = stops p.0 p.1 f r h

-- the same over a library that told the same files before
pub view_after : {A B : Type 0} (view now : Option FileView) (p : FileView → Read A) (f : FileView → A → Read B) (x : A) (result : Result B Refusal) → now ≡ view
    → IfSome view (λ t. (p t).1 ≡ Ok x) → IfSome now (λ t. Answers (f t x) result) → IfSome view (λ t. Answers (p t >>= f t) result)
view_after None now p f x result same is h = tt
view_after (Some t) now p f x result same is h =
    answers_after (p t) (f t) x result is (subst (λ (n : Option FileView). IfSome n (λ t. Answers (f t x) result)) same h)

pub view_stops : {A B : Type 0} (view : Option FileView) (p : FileView → Read A) (f : FileView → A → Read B) (r : Refusal)
    → IfSome view (λ t. Refuses (p t) r) → IfSome view (λ t. Refuses (p t >>= f t) r)
view_stops None p f r h = tt
view_stops (Some t) p f r h = answers_stop (p t) (f t) r h

pub view_same : (view now : Option FileView) (P : FileView → Type 0) → now ≡ view → IfSome now P → IfSome view P
view_same view now P same h = subst (λ (n : Option FileView). IfSome n P) same h

-- a file that is read, and what is wrong with it
module _ {T : Type 0} (view : Option FileView) (name bytes : List ℕ) (reading : List ℕ → Result T NbFault) where
  pub file_read : (x : T) → IfSome view (λ t. (bytes_of t name).1 ≡ Ok bytes) → reading bytes ≡ Ok x
      → IfSome view (λ t. Answers (bytes_of t name >>= (λ bytes. ([], named name (reading bytes)))) (Ok x))
  file_read x found is = view_after view view (λ t. bytes_of t name) (λ _ bytes. ([], named name (reading bytes))) bytes (Ok x) refl found (all view)
    where
      all : (o : Option FileView) → IfSome o (λ t. named name (reading bytes) ≡ Ok x)
      all None = tt
      all (Some t) = ap (named name) is

  refused_by : (fault : NbFault) (r : Refusal) → (fault ≡ broken.NoMemory) ⊎ (reading bytes ≡ Err fault) → (r ≡ NoMemory) ⊎ ((fault ≢ broken.NoMemory) × (r ≡ BadFile name fault))
      → Answers {T = T} ([], named name (reading bytes)) (Err r)
  refused_by fault r why (inl none) = subst (λ (r : Refusal). Answers {T = T} ([], named name (reading bytes)) (Err r)) (sym none) tt
  refused_by fault r (inl none) (inr some) = absurd (some.0 none)
  refused_by fault r (inr is) (inr some) =
      subst (λ (r : Refusal). Answers {T = T} ([], named name (reading bytes)) (Err r)) (sym some.1) (ap (named name) is)

  pub file_refused : (fault : NbFault) (r : Refusal) → IfSome view (λ t. (bytes_of t name).1 ≡ Ok bytes)
      → (fault ≡ broken.NoMemory) ⊎ (reading bytes ≡ Err fault) → (r ≡ NoMemory) ⊎ ((fault ≢ broken.NoMemory) × (r ≡ BadFile name fault))
      → IfSome view (λ t. Refuses (bytes_of t name >>= (λ bytes. ([], named name (reading bytes)))) r)
  file_refused fault r found why which = view_after view view (λ t. bytes_of t name) (λ _ bytes. ([], named name (reading bytes))) bytes (Err r) refl found (all view)
    where
      all : (o : Option FileView) → IfSome o (λ t. Answers {T = T} ([], named name (reading bytes)) (Err r))
      all None = tt
      all (Some t) = refused_by fault r why which

pub file_stops : {T : Type 0} (view : Option FileView) (name : List ℕ) (reading : List ℕ → Result T NbFault) (r : Refusal) → IfSome view (λ t. Refuses (bytes_of t name) r)
    → IfSome view (λ t. Refuses (bytes_of t name >>= (λ bytes. ([], named name (reading bytes)))) r)
file_stops view name reading r h = view_stops view (λ t. bytes_of t name) (λ _ bytes. ([], named name (reading bytes))) r h

-- a prefix that is shorter than was asked for is the whole, and a longer one shows that the whole is long
prefix_found : (n : ℕ) (name file bytes : List ℕ) → 16777216 < n → take n file ≡ bytes → length bytes ≤ 16777216 → counted name file ≡ Ok bytes
prefix_found n name file bytes past prefix short =
    let len : length bytes ≡ length (take n file) = ap length (sym prefix) in
    let all : length file ≤ n = omega (arith, length-take n file) in
    let same : file ≡ bytes = sym (take_all n file all) ∙ prefix in
    subst (λ (b : List ℕ). counted name b ≡ Ok bytes) (sym same) (few (nat_lt 16777216 (length bytes)) refl)
  where
    few : (b : Bool) → nat_lt 16777216 (length bytes) ≡ b → counted name bytes ≡ Ok bytes
    few true is = let past : 16777216 < length bytes = ltb-true 16777216 (length bytes) is in absurd (omega arith)
    few false is = ap (λ b. if b then Err (BadFile name (TooMany count.Bytes 16777217)) else Ok bytes) is

prefix_long : (n : ℕ) (name file bytes : List ℕ) → take n file ≡ bytes → 16777216 < length bytes → counted name file ≡ Err (BadFile name (TooMany count.Bytes 16777217))
prefix_long n name file bytes prefix long =
    let len : length bytes ≡ length (take n file) = ap length (sym prefix) in
    let all : 16777216 < length file = omega (arith, length-take n file) in
    ap (λ b. if b then Err (BadFile name (TooMany count.Bytes 16777217)) else Ok file) (lt-ltb 16777216 (length file) all)

pub bytes_found : (n : ℕ) (view : Option FileView) (name path bytes : List ℕ) → 16777216 < n → path ≡ encode_utf8_all name
    → IfSome view (λ file. option_map (take n) (file path) ≡ Some bytes) → length bytes ≤ 16777216 → IfSome view (λ t. (bytes_of t name).1 ≡ Ok bytes)
unfolding bytes_of
bytes_found n None name path bytes past is prefix short = tt
bytes_found n (Some file) name path bytes past is prefix short = by (file (encode_utf8_all name)) (subst (λ (p : List ℕ). option_map (take n) (file p) ≡ Some bytes) is prefix)
  where
    by : (o : Option (List ℕ)) → option_map (take n) o ≡ Some bytes → found name o ≡ Ok bytes
    by None none = cc
    by (Some all) some = let same : take n all ≡ bytes = cc in prefix_found n name all bytes past same short

pub bytes_long : (n : ℕ) (view : Option FileView) (name path bytes : List ℕ) → path ≡ encode_utf8_all name
    → IfSome view (λ file. option_map (take n) (file path) ≡ Some bytes) → 16777216 < length bytes → IfSome view (λ t. Refuses (bytes_of t name) (BadFile name (TooMany count.Bytes 16777217)))
unfolding bytes_of
bytes_long n None name path bytes is prefix long = tt
bytes_long n (Some file) name path bytes is prefix long = by (file (encode_utf8_all name)) (subst (λ (p : List ℕ). option_map (take n) (file p) ≡ Some bytes) is prefix)
  where
    by : (o : Option (List ℕ)) → option_map (take n) o ≡ Some bytes → found name o ≡ Err (BadFile name (TooMany count.Bytes 16777217))
    by None none = cc
    by (Some all) some = let same : take n all ≡ bytes = cc in prefix_long n name all bytes same long

-- an error that a call hands on
pub handed_on : {T : Type 0} (view : Option FileView) (read : FileView → Read T) (result : Result T Refusal) (e r : Refusal) → result ≡ Err e → e ≡ r
    → IfSome view (λ t. Refuses (read t) r) → IfSome view (λ t. Answers (read t) result)
handed_on view read result e r is same h = rw (is, same) h

-- the versions that were read, before what follows them
abbrev pub prepend : {V : Type 0} → List V → Result (List V) Refusal → Result (List V) Refusal
prepend prefix (Ok rest) = Ok (prefix ++ rest)
prepend prefix (Err r) = Err r

-- counts that rose in a later part rose in the whole
pub counted_later : (r : Refusal) (a0 a1 a2 f0 f1 f2 : ℕ) → a0 ≤ a1 → f0 ≤ f1 → IsCounted r a1 a2 f1 f2 → IsCounted r a0 a2 f0 f2
counted_later (Absent file) a0 a1 a2 f0 f1 f2 a f h = omega arith
counted_later (ReadFailed file) a0 a1 a2 f0 f1 f2 a f h = omega arith
counted_later Usage a0 a1 a2 f0 f1 f2 a f h = absurd h
counted_later (BadFile file fault) a0 a1 a2 f0 f1 f2 a f h = tt
counted_later (BadCell bad) a0 a1 a2 f0 f1 f2 a f h = tt
counted_later (TooManyNodes count) a0 a1 a2 f0 f1 f2 a f h = tt
counted_later (TooManyBlocks count) a0 a1 a2 f0 f1 f2 a f h = tt
counted_later NoMemory a0 a1 a2 f0 f1 f2 a f h = tt

-- a version: its notebook is refused, its inputs are refused, and both are read
module _ (view : Option FileView) where
  pub version_refused : (entry : Entry) (r : Refusal) → IfSome view (λ t. Refuses (notebook_at t entry.notebook) r) → IfSome view (λ t. Refuses (version_at t entry) r)
  unfolding version_at
  version_refused entry r h = view_stops view (λ t. notebook_at t entry.notebook) (λ t sources. inputs_at t entry.inputs >>= (λ inputs.
      pure (record { name = entry.name; sources = sources; inputs = inputs }))) r h

  pub version_inputs_refused : (now : Option FileView) (entry : Entry) (sources : List (List ℕ)) (r : Refusal) → now ≡ view
      → IfSome view (λ t. (notebook_at t entry.notebook).1 ≡ Ok sources) → IfSome now (λ t. Refuses (inputs_at t entry.inputs) r) → IfSome view (λ t. Refuses (version_at t entry) r)
  unfolding version_at
  version_inputs_refused now entry sources r same read h = view_after view now (λ t. notebook_at t entry.notebook) (λ t sources. inputs_at t entry.inputs >>= (λ inputs.
      pure (record { name = entry.name; sources = sources; inputs = inputs }))) sources (Err r) same read
      (view_stops now (λ t. inputs_at t entry.inputs) (λ _ inputs. pure (record { name = entry.name; sources = sources; inputs = inputs })) r h)

  pub version_read : (now : Option FileView) (entry : Entry) (sources : List (List ℕ)) (inputs : List (List ℕ × Input)) → now ≡ view
      → IfSome view (λ t. (notebook_at t entry.notebook).1 ≡ Ok sources) → IfSome now (λ t. (inputs_at t entry.inputs).1 ≡ Ok inputs)
      → IfSome view (λ t. (version_at t entry).1 ≡ Ok (record { name = entry.name; sources = sources; inputs = inputs }))
  unfolding version_at
  version_read now entry sources inputs same read h = view_after view now (λ t. notebook_at t entry.notebook) (λ t sources. inputs_at t entry.inputs >>= (λ inputs.
      pure (record { name = entry.name; sources = sources; inputs = inputs }))) sources (Ok (record { name = entry.name; sources = sources; inputs = inputs })) same read
      (view_after now now (λ t. inputs_at t entry.inputs) (λ _ inputs. pure (record { name = entry.name; sources = sources; inputs = inputs })) inputs
      (Ok (record { name = entry.name; sources = sources; inputs = inputs })) refl h (all now))
    where
      all : (o : Option FileView) → IfSome o (λ t. (pure {T = Version} (record { name = entry.name; sources = sources; inputs = inputs })).1 ≡ Ok (record { name = entry.name; sources = sources; inputs = inputs }))
      all None = tt
      all (Some t) = refl

-- versions in order
abbrev pub Onward : FileView → List Version → List Entry → List Entry → Type 0
Onward t done rest all = (o : Result (List Version) Refusal) → Answers (versions_at t rest) o → Answers (versions_at t all) (prepend done o)

prepend_none : {V : Type 0} (o : Result (List V) Refusal) → prepend [] o ≡ o
prepend_none (Ok vs) = refl
prepend_none (Err r) = refl

prepend_more : {V : Type 0} (done : List V) (v : V) (o : Result (List V) Refusal) → prepend done (prepend (v ∷ []) o) ≡ prepend (done ++ v ∷ []) o
prepend_more done v (Ok vs) = ap Ok (sym (append_assoc done (v ∷ []) vs))
prepend_more done v (Err r) = refl

pub onward_first : (view : Option FileView) (all : List Entry) → IfSome view (λ t. Onward t [] all all)
onward_first None all = tt
onward_first (Some t) all = λ o h. subst (λ (o : Result (List Version) Refusal). Answers (versions_at t all) o) (sym (prepend_none o)) h

after_version : (t : FileView) (entry : Entry) (entries : List Entry) (v : Version) (o : Result (List Version) Refusal) → (version_at t entry).1 ≡ Ok v
    → Answers (versions_at t entries) o → Answers (versions_at t (entry ∷ entries)) (prepend (v ∷ []) o)
unfolding versions_at
after_version t entry entries v (Ok vs) is h = answers_after (version_at t entry) (λ version. versions_at t entries >>= (λ versions. pure (version ∷ versions))) v (Ok (v ∷ vs)) is
    (answers_after (versions_at t entries) (λ versions. pure (v ∷ versions)) vs (Ok (v ∷ vs)) h refl)
after_version t entry entries v (Err r) is h = answers_after (version_at t entry) (λ version. versions_at t entries >>= (λ versions. pure (version ∷ versions))) v (Err r) is
    (answers_stop (versions_at t entries) (λ versions. pure (v ∷ versions)) r h)

pub onward_more : (view now : Option FileView) (done : List Version) (place : ℕ) (all : List Entry) (entry : Entry) (v : Version) → place < length all → entry ≡ get_or all place entry → now ≡ view
    → IfSome view (λ t. Onward t done (drop place all) all) → IfSome now (λ t. (version_at t entry).1 ≡ Ok v) → IfSome view (λ t. Onward t (done ++ v ∷ []) (drop (place + 1) all) all)
onward_more None now done place all entry v inside here same so is = tt
onward_more (Some t) now done place all entry v inside here same so is = λ o h.
    let read : (version_at t entry).1 ≡ Ok v = subst (λ (n : Option FileView). IfSome n (λ t. (version_at t entry).1 ≡ Ok v)) same is in
    let more : drop place all ≡ entry ∷ drop (place + 1) all = drop_more all place entry inside ∙ ap (λ x. x ∷ drop (place + 1) all) (sym here) in
    subst (λ (o : Result (List Version) Refusal). Answers (versions_at t all) o) (prepend_more done v o)
    (so (prepend (v ∷ []) o) (subst (λ (es : List Entry). Answers (versions_at t es) (prepend (v ∷ []) o)) (sym more) (after_version t entry (drop (place + 1) all) v o read h)))

pub onward_refused : (view now : Option FileView) (done : List Version) (place : ℕ) (all : List Entry) (entry : Entry) (r : Refusal) → place < length all → entry ≡ get_or all place entry → now ≡ view
    → IfSome view (λ t. Onward t done (drop place all) all) → IfSome now (λ t. Refuses (version_at t entry) r) → IfSome view (λ t. Refuses (versions_at t all) r)
unfolding versions_at
onward_refused None now done place all entry r inside here same so is = tt
onward_refused (Some t) now done place all entry r inside here same so is =
    let more : drop place all ≡ entry ∷ drop (place + 1) all = drop_more all place entry inside ∙ ap (λ x. x ∷ drop (place + 1) all) (sym here) in
    so (Err r) (subst (λ (es : List Entry). Answers (versions_at t es) (Err r)) (sym more)
    (answers_stop (version_at t entry) (λ version. versions_at t (drop (place + 1) all) >>= (λ versions. pure (version ∷ versions))) r
    (subst (λ (n : Option FileView). IfSome n (λ t. Refuses (version_at t entry) r)) same is)))

pub onward_last : (view : Option FileView) (done : List Version) (place : ℕ) (all : List Entry) → length all ≤ place
    → IfSome view (λ t. Onward t done (drop place all) all) → IfSome view (λ t. (versions_at t all).1 ≡ Ok done)
unfolding versions_at
onward_last None done place all past so = tt
onward_last (Some t) done place all past so =
    let none : drop place all ≡ [] = drop_all place all past in
    subst (λ (vs : List Version). (versions_at t all).1 ≡ Ok vs) (append-nil done) (so (Ok []) (subst (λ (es : List Entry). (versions_at t es).1 ≡ Ok []) (sym none) refl))

-- a notebook alone
module _ (view : Option FileView) (words : SoloWords) where
  pub solo_refused : (r : Refusal) → IfSome view (λ t. Refuses (notebook_at t words.notebook) r) → IfSome view (λ t. Refuses (solo_at t words) r)
  unfolding solo_at
  solo_refused r h = view_stops view (λ t. notebook_at t words.notebook) (λ _ sources. pure (Alone (solo_version sources) words.steps)) r h

  pub solo_read : (sources : List (List ℕ)) → IfSome view (λ t. (notebook_at t words.notebook).1 ≡ Ok sources)
      → IfSome view (λ t. (solo_at t words).1 ≡ Ok (Alone (solo_version sources) words.steps))
  unfolding solo_at
  solo_read sources h = view_after view view (λ t. notebook_at t words.notebook) (λ _ sources. pure (Alone (solo_version sources) words.steps)) sources
      (Ok (Alone (solo_version sources) words.steps)) refl h (all view)
    where
      all : (o : Option FileView) → IfSome o (λ t. (pure (Alone (solo_version sources) words.steps)).1 ≡ Ok (Alone (solo_version sources) words.steps))
      all None = tt
      all (Some t) = refl

-- the versions of a manifest
module _ (view : Option FileView) (name : List ℕ) (budget : Budget) (steps : ℕ) where
  pub shared_refused : (r : Refusal) → IfSome view (λ t. Refuses (manifest_at t name) r) → IfSome view (λ t. Refuses (shared_at t name budget steps) r)
  unfolding shared_at
  shared_refused r h = view_stops view (λ t. manifest_at t name) (λ t m. versions_at t m.versions >>= (λ versions. pure (Shared versions budget steps))) r h

  pub versions_refused : (now : Option FileView) (m : Manifest) (entries : List Entry) (r : Refusal) → now ≡ view → entries ≡ m.versions
      → IfSome view (λ t. (manifest_at t name).1 ≡ Ok m) → IfSome now (λ t. Refuses (versions_at t entries) r) → IfSome view (λ t. Refuses (shared_at t name budget steps) r)
  unfolding shared_at
  versions_refused now m entries r same is read h = view_after view now (λ t. manifest_at t name) (λ t m. versions_at t m.versions >>= (λ versions. pure (Shared versions budget steps))) m (Err r) same read
      (view_stops now (λ t. versions_at t m.versions) (λ _ versions. pure (Shared versions budget steps)) r (subst (λ (es : List Entry). IfSome now (λ t. Refuses (versions_at t es) r)) is h))

  pub versions_read : (now : Option FileView) (m : Manifest) (entries : List Entry) (versions : List Version) → now ≡ view → entries ≡ m.versions
      → IfSome view (λ t. (manifest_at t name).1 ≡ Ok m) → IfSome now (λ t. (versions_at t entries).1 ≡ Ok versions)
      → IfSome view (λ t. (shared_at t name budget steps).1 ≡ Ok (Shared versions budget steps))
  unfolding shared_at
  versions_read now m entries versions same is read h = view_after view now (λ t. manifest_at t name) (λ t m. versions_at t m.versions >>= (λ versions. pure (Shared versions budget steps))) m
      (Ok (Shared versions budget steps)) same read
      (view_after now now (λ t. versions_at t m.versions) (λ _ versions. pure (Shared versions budget steps)) versions (Ok (Shared versions budget steps)) refl
      (subst (λ (es : List Entry). IfSome now (λ t. (versions_at t es).1 ≡ Ok versions)) is h) (all now))
    where
      all : (o : Option FileView) → IfSome o (λ t. (pure (Shared versions budget steps)).1 ≡ Ok (Shared versions budget steps))
      all None = tt
      all (Some t) = refl

-- a budget is refused for its blocks alone
budget_either : (words : StoreWords) (r : Refusal) → Err r ≡ budget_in words → r ≡ TooManyBlocks (most_of words)
unfolding budget_in
budget_either words r h = by (nat_le (most_of words) 1024) h
  where
    by : (b : Bool) → ◌≡◌ {A = Result Budget Refusal} (Err r) (if b then Ok (budget_of words) else Err (TooManyBlocks (most_of words))) → r ≡ TooManyBlocks (most_of words)
    by true k = cc
    by false k = cc

-- the budget is looked at first
pub run_read : (view : Option FileView) (words : RunWords) (budget : Budget) (result : Result Job Refusal) → Ok budget ≡ budget_in words.store
    → IfSome view (λ t. Answers (shared_at t words.manifest budget words.steps) result) → IfSome view (λ t. Answers (run_at t words) result)
unfolding run_at
run_read view words budget result is h = view_after view view (λ t. ([], budget_in words.store)) (λ t budget. shared_at t words.manifest budget words.steps) budget result refl (all view) h
  where
    all : (o : Option FileView) → IfSome o (λ t. budget_in words.store ≡ Ok budget)
    all None = tt
    all (Some t) = sym is

pub run_refused : (view : Option FileView) (words : RunWords) (r : Refusal) → Err r ≡ budget_in words.store → IfSome view (λ t. Refuses (run_at t words) r)
unfolding run_at
run_refused None words r is = tt
run_refused (Some t) words r is = answers_stop ([], budget_in words.store) (λ budget. shared_at t words.manifest budget words.steps) r (refuses r is)
  where
    refuses : (r : Refusal) → Err r ≡ budget_in words.store → Refuses ([], budget_in words.store) r
    refuses NoMemory h = tt
    refuses (ReadFailed file) h = let other : ReadFailed file ≡ TooManyBlocks (most_of words.store) = budget_either words.store (ReadFailed file) h in cc
    refuses Usage h = sym h
    refuses (Absent file) h = sym h
    refuses (BadFile file fault) h = sym h
    refuses (BadCell bad) h = sym h
    refuses (TooManyNodes count) h = sym h
    refuses (TooManyBlocks count) h = sym h
