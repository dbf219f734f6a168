-- Readings of files in order: the names of the files that are looked at, and what they give or the first refusal.
use Rattle.std.specs.Prelude.{◌≡◌, ℕ, nat_lt, List, [], ◌∷◌, ◌++◌, length, Option, Some, None, Result, Ok, Err, if◌then◌else◌}
use Rattle.std.specs.List.{Contains}
use Rattle.std.specs.Str.{encode_utf8_all}
use Rattle.chex_base.specs.Outside.{Rose}
use Rattle.nb_reader.specs.declared.fault.NbFault.{NbFault}
use Rattle.nb_reader.specs.declared.fault.NbFault.TheVariants.{TooMany}
use Rattle.nb_reader.specs.declared.fault.Counted.TheVariants as count
use Rattle.chex_top.specs.declared.refusal.Refusal.{Refusal}
use Rattle.chex_top.specs.declared.refusal.Refusal.TheVariants.{Usage, Absent, ReadFailed, BadFile, BadCell, TooManyNodes, TooManyBlocks, NoMemory}

-- the bytes of each file, by the bytes of its name
abbrev pub FileView : Type 0
FileView = List ℕ → Option (List ℕ)

-- the names of the files that are looked at, each when it is next, and what they give
abbrev pub Read : Type 0 → Type 0
Read T = List (List ℕ) × Result T Refusal

abbrev pub pure : {T : Type 0} → T → Read T
pure x = ([], Ok x)

abbrev pub goes_on : {A B : Type 0} → List (List ℕ) → Result A Refusal → (A → Read B) → Read B
goes_on looked (Ok x) f = (looked ++ (f x).0, (f x).1)
goes_on looked (Err r) f = (looked, Err r)

infixl 10 ◌>>=◌
abbrev pub ◌>>=◌ : {A B : Type 0} → Read A → (A → Read B) → Read B
p >>= f = goes_on p.0 p.1 f

-- a file's bytes, which are counted first
abbrev pub counted : List ℕ → List ℕ → Result (List ℕ) Refusal
counted name bytes = if nat_lt 16777216 (length bytes) then Err (BadFile name (TooMany count.Bytes 16777217)) else Ok bytes

abbrev pub found : List ℕ → Option (List ℕ) → Result (List ℕ) Refusal
found name None = Err (Absent name)
found name (Some bytes) = counted name bytes

-- the bytes of the file of this name, which is looked at
unfoldable pub bytes_of : FileView → List ℕ → Read (List ℕ)
bytes_of file name = (name ∷ [], found name (file (encode_utf8_all name)))

-- what a file's bytes are read as, or the file's refusal
abbrev pub named : {T : Type 0} → List ℕ → Result T NbFault → Result T Refusal
named name (Ok x) = Ok x
named name (Err fault) = Err (BadFile name fault)

-- the refusal is that of the reading; a failed read is one of a file that is looked at; want of memory is free
abbrev pub Refuses : {T : Type 0} → Read T → Refusal → Type 0
Refuses read NoMemory = Unit {0}
Refuses read (ReadFailed file) = Contains read.0 file
Refuses read Usage = read.1 ≡ Err Usage
Refuses read (Absent file) = read.1 ≡ Err (Absent file)
Refuses read (BadFile file fault) = read.1 ≡ Err (BadFile file fault)
Refuses read (BadCell bad) = read.1 ≡ Err (BadCell bad)
Refuses read (TooManyNodes count) = read.1 ≡ Err (TooManyNodes count)
Refuses read (TooManyBlocks count) = read.1 ≡ Err (TooManyBlocks count)

-- an answer is what the reading gives
abbrev pub Answers : {T : Type 0} → Read T → Result T Refusal → Type 0
Answers read (Ok x) = read.1 ≡ Ok x
Answers read (Err r) = Refuses read r

-- the refusal is one of files: an absent file comes only where the count of absences rose, and a failed read only where that of faults did
abbrev pub IsCounted : Refusal → ℕ → ℕ → ℕ → ℕ → Type 0
IsCounted (Absent file) absences_old absences_new faults_old faults_new = Rose absences_old absences_new
IsCounted (ReadFailed file) absences_old absences_new faults_old faults_new = Rose faults_old faults_new
IsCounted Usage absences_old absences_new faults_old faults_new = ⊥
IsCounted (BadFile file fault) absences_old absences_new faults_old faults_new = Unit {0}
IsCounted (BadCell bad) absences_old absences_new faults_old faults_new = Unit {0}
IsCounted (TooManyNodes count) absences_old absences_new faults_old faults_new = Unit {0}
IsCounted (TooManyBlocks count) absences_old absences_new faults_old faults_new = Unit {0}
IsCounted NoMemory absences_old absences_new faults_old faults_new = Unit {0}
