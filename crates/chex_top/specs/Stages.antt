-- What the words and the files call for, one stage after the other: each stage gives something or refuses, and the next one goes on
-- from what it gave. A stage is stated as all that it may answer; want of memory is always among it.
use Rattle.std.specs.Prelude.{◌≡◌, ◌≢◌, ◌⊎◌, Result, Ok, Err}
use Rattle.chex_top.specs.declared.refusal.Refusal.{Refusal}
use Rattle.chex_top.specs.declared.refusal.Refusal.TheVariants.{ReadFailed, NoMemory}
use Rattle.chex_top.specs.Reads.{Read, Answers}

abbrev pub Stage : Type 0 → Type 1
Stage A = Result A Refusal → Type 0

-- a stage that gives this
abbrev pub pure : {A : Type 0} → A → Stage A
pure x = λ answer. (answer ≡ Ok x) ⊎ (answer ≡ Err NoMemory)

-- a reading of files: what it gives or its refusal, or that the read of a file failed that is looked at
abbrev pub of : {A : Type 0} → Read A → Stage A
of read = Answers read

-- a second stage goes on from what the first gives, and a refusal of the first ends both
infixl 10 ◌>>=◌
abbrev pub ◌>>=◌ : {A B : Type 0} → Stage A → (A → Stage B) → Stage B
p >>= f = λ answer. ((x : _) × p (Ok x) × f x answer) ⊎ ((why : Refusal) × p (Err why) × (answer ≡ Err why))

-- ---- answers that the words and the files alone call for

-- every answer but want of memory and a failed read, which come from outside
abbrev pub IsCertain : {A : Type 0} → Result A Refusal → Type 0
IsCertain answer = (answer ≢ Err NoMemory) × ((file : _) → answer ≢ Err (ReadFailed file))

-- no two of them
abbrev pub IsSingle : {A : Type 0} → Stage A → Type 0
IsSingle p = (one other : _) → p one → p other → IsCertain one → IsCertain other → one ≡ other
