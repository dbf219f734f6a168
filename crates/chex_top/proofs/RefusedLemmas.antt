-- The first cell that is refused, as a loop over versions meets it.
use Rattle.std.proofs.Common.{◌≡◌, ◌≤◌, ◌+◌, suc, [], ◌∷◌, ◌++◌, List, length, Result, Ok, Err, IfErr, ap, refl}
use Rattle.std.specs.List.{AllByRecursion, AllZip}
use Rattle.chex_top.specs.declared.refusal.Refusal.{Refusal}
use Rattle.chex_top.specs.declared.refusal.Refusal.TheVariants as refusal
use Rattle.chex_top.specs.declared.version.Version.{Version}
use Rattle.exec_tree.specs.declared.checked.Checked.{Checked}
use Rattle.cell_reader.specs.Cells.{IsCellOf}
use Rattle.chex_top.specs.Jobs.{AreChecked, AreSmall, IsChecked, IsBadIn, IsFirstBad, IsCellRefusal}

-- what a version is refused for is what they all are refused for, where those before it are accepted
pub first_refused : (versions before after : List Version) (made : List Checked) (version : Version) (why : Refusal) → versions ≡ before ++ version ∷ after → AllZip IsChecked before made
    → IsCellRefusal (IsBadIn version) why → IsCellRefusal (IsFirstBad versions) why
first_refused versions before after made version (refusal.BadCell bad) whole fine wrong = (
  length before + 1,
  record { before = before; made = made; item = version; after = after; whole = whole; fine = fine; numbered = refl; wrong = wrong },
)
first_refused versions before after made version refusal.NoMemory whole fine wrong = tt
first_refused versions before after made version refusal.Usage whole fine wrong = absurd wrong
first_refused versions before after made version (refusal.Absent file) whole fine wrong = absurd wrong
first_refused versions before after made version (refusal.ReadFailed file) whole fine wrong = absurd wrong
first_refused versions before after made version (refusal.BadFile file fault) whole fine wrong = absurd wrong
first_refused versions before after made version (refusal.TooManyNodes count) whole fine wrong = absurd wrong
first_refused versions before after made version (refusal.TooManyBlocks count) whole fine wrong = absurd wrong

-- ---- errors

-- an error that a call hands on
pub handed_on : {X : Type 0} (P : Refusal → Type 0) (result : Result X Refusal) (e r : Refusal) → result ≡ Err e → e ≡ r → P r → IfErr result P
handed_on P result e r is same h = rw (is, same) h

-- what holds of each error with a property holds of the error of a result whose error has it
pub if_err_then : {X E : Type 0} (P Q : E → Type 0) (result : Result X E) → ((e : E) → P e → Q e) → IfErr result P → IfErr result Q
if_err_then P Q (Ok x) f h = tt
if_err_then P Q (Err e) f h = f e h

-- ---- how many cells there are

pub zip_length : {A B : Type 0} (R : A → B → Type 0) (xs : List A) (ys : List B) → AllZip R xs ys → length ys ≡ length xs
zip_length R [] [] h = refl
zip_length R [] (y ∷ ys) h = absurd h
zip_length R (x ∷ xs) [] h = absurd h
zip_length R (x ∷ xs) (y ∷ ys) h = ap suc (zip_length R xs ys h.1)

-- a version has as many cells as sources, and so at most 64
pub few_cells : (versions : List Version) (all : List Checked) → AreSmall versions → AreChecked versions all → AllByRecursion (λ version. length version.cells ≤ 64) all
few_cells [] [] small h = tt
few_cells [] (c ∷ cs) small h = absurd h
few_cells (v ∷ vs) [] small h = absurd h
few_cells (v ∷ vs) (c ∷ cs) small h =
    let same : length c.cells ≡ length v.sources = zip_length IsCellOf v.sources c.cells h.0.2 in
    (rw same small.0.1, few_cells vs cs small.1 h.1)
