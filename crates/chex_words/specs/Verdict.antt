-- What a reading answers: exactly what is due, or want of memory.
use Rattle.std.specs.Prelude.{◌≡◌, ◌⊎◌, Option, Some, None, Result, MatchResult}
use Rattle.chex_words.specs.declared.fault.WordsFault.{WordsFault}
use Rattle.chex_words.specs.declared.fault.WordsFault.TheVariants.{Usage, NoMemory}

-- the answer, seen through `view`, is what is due; Usage comes exactly where nothing is due
abbrev pub IsReadBy : {S T : Type 0} → (S → T) → Option T → Result S WordsFault → Type 0
IsReadBy view due result = MatchResult result (λ x. due ≡ Some (view x)) (λ e. (e ≡ NoMemory) ⊎ ((e ≡ Usage) × (due ≡ None)))

abbrev pub IsRead : {T : Type 0} → Option T → Result T WordsFault → Type 0
IsRead due result = MatchResult result (λ x. due ≡ Some x) (λ e. (e ≡ NoMemory) ⊎ ((e ≡ Usage) × (due ≡ None)))
