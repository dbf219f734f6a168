-- What the words and the files call for, before any cell is looked at.
use Rattle.std.specs.Prelude.{◌≤◌, ℕ, nat_le, List, [], ◌∷◌, Option, Some, None, Result, Ok, Err, codes, length, if◌then◌else◌}
use Rattle.std.specs.Str.{chars}
use Rattle.chex_base.specs.declared.input.Input.{Input}
use Rattle.nb_reader.specs.declared.fault.NbFault.{NbFault}
use Rattle.nb_reader.specs.declared.manifest.Entry.{Entry}
use Rattle.nb_reader.specs.declared.manifest.Manifest.{Manifest}
use Rattle.nb_reader.specs.Notebook.{notebook_of}
use Rattle.nb_reader.specs.Manifest.{manifest_of}
use Rattle.nb_reader.specs.Inputs.{inputs_file_of}
use Rattle.chex_words.specs.declared.command.RunWords.{RunWords}
use Rattle.chex_words.specs.declared.command.SoloWords.{SoloWords}
use Rattle.chex_words.specs.declared.command.StoreWords.{StoreWords}
use Rattle.plan_type.specs.Budget.{IsBudget}
use Rattle.plan_type.specs.declared.budget.Budget.{Budget}
use Rattle.chex_top.specs.declared.asked.Asked.{Asked}
use Rattle.chex_top.specs.declared.asked.Asked.TheVariants as asked
use Rattle.chex_top.specs.declared.version.Version.{Version}
use Rattle.chex_top.specs.declared.version.Job.{Job}
use Rattle.chex_top.specs.declared.version.Job.TheVariants.{Alone, Shared}
use Rattle.chex_top.specs.declared.refusal.Refusal.{Refusal}
use Rattle.chex_top.specs.declared.refusal.Refusal.TheVariants.{Usage, TooManyBlocks}
use Rattle.chex_top.specs.Budgets.{budget_of, most_of}
use Rattle.chex_top.specs.Jobs.{AreSmall, IsSmall}
use Rattle.chex_top.specs.Reads.{FileView, Read, pure, ◌>>=◌, bytes_of, named}
use Rattle.chex_top.specs.Words.{IsAllowance, asked_of}

-- what the bytes of the file of this name stand for
unfoldable pub file_at : {T : Type 0} → (List ℕ → Result T NbFault) → FileView → List ℕ → Read T
file_at reading file name = bytes_of file name >>= (λ bytes. ([], named name (reading bytes)))

-- the sources of a notebook's code cells
abbrev pub notebook_at : FileView → List ℕ → Read (List (List ℕ))
notebook_at = file_at notebook_of

-- a manifest
abbrev pub manifest_at : FileView → List ℕ → Read Manifest
manifest_at = file_at manifest_of

-- the inputs of a file, where a version names one
abbrev pub inputs_at : FileView → Option (List ℕ) → Read (List (List ℕ × Input))
inputs_at file None = pure []
inputs_at file (Some name) = file_at inputs_file_of file name

-- a version of a manifest: its notebook first, then its inputs
unfoldable pub version_at : FileView → Entry → Read Version
version_at file entry = notebook_at file entry.notebook >>= (λ sources. inputs_at file entry.inputs >>= (λ inputs.
    pure (record { name = entry.name; sources = sources; inputs = inputs })))

-- the versions of a manifest in order, up to the first refusal
unfoldable pub versions_at : FileView → List Entry → Read (List Version)
versions_at file [] = pure []
versions_at file (entry ∷ entries) = version_at file entry >>= (λ version. versions_at file entries >>= (λ versions. pure (version ∷ versions)))

-- a notebook alone: one version of the name `solo` without inputs
abbrev pub solo_version : List (List ℕ) → Version
solo_version sources = record { name = chars (codes "solo"); sources = sources; inputs = [] }

unfoldable pub solo_at : FileView → SoloWords → Read Job
solo_at file words = notebook_at file words.notebook >>= (λ sources. pure (Alone (solo_version sources) words.steps))

-- the budget, which has at most 1,024 blocks
unfoldable pub budget_in : StoreWords → Result Budget Refusal
budget_in words = if nat_le (most_of words) 1024 then Ok (budget_of words) else Err (TooManyBlocks (most_of words))

-- the versions of a manifest, which share their equal beginnings
unfoldable pub shared_at : FileView → List ℕ → Budget → ℕ → Read Job
shared_at file name budget steps = manifest_at file name >>= (λ m. versions_at file m.versions >>= (λ versions. pure (Shared versions budget steps)))

-- its budget is looked at before the manifest
unfoldable pub run_at : FileView → RunWords → Read Job
run_at file words = ([], budget_in words.store) >>= (λ budget. shared_at file words.manifest budget words.steps)

abbrev pub command_at : FileView → Asked → Read Job
command_at file (asked.Solo words) = solo_at file words
command_at file (asked.Run words) = run_at file words

abbrev pub words_at : FileView → Option Asked → Read Job
words_at file None = ([], Err Usage)
words_at file (Some command) = command_at file command

-- what is to run, or the first refusal: the words, the blocks, the manifest, then each version's notebook and inputs in order
unfoldable pub job_at : FileView → List (List ℕ) → Read Job
job_at file words = words_at file (asked_of words)

-- ---- limits

-- what is known of each that was read: at most 64 versions, each of at most 64 short sources, a budget, and an allowance
abbrev pub IsSmallJob : Job → Type 0
IsSmallJob (Alone version steps) = IsSmall version × IsAllowance steps
IsSmallJob (Shared versions budget steps) = AreSmall versions × (length versions ≤ 64) × IsBudget budget × IsAllowance steps
