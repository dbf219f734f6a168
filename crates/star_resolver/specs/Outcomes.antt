-- What a walk over a tree in text order comes to: the names that were read, or the first breach.
use Rattle.std.specs.Prelude.{◌≡◌, ℕ, List, [], ◌∷◌, Result, Ok, Err}
use Rattle.std.specs.FinSet as set
use Rattle.chex_base.specs.TextOrder.{text_cmp}
use Rattle.star_syntax.specs.Placement as rules
use Rattle.star_syntax.specs.Placement.{Breach, Finding, Reads, Breaks}
use Rattle.star_resolver.specs.declared.error.ResolveKind.{ResolveKind}
use Rattle.star_resolver.specs.declared.error.ResolveKind.TheVariants as kind
use Rattle.star_resolver.specs.declared.error.ResolveFault.{ResolveFault}
use Rattle.star_resolver.specs.declared.error.ResolveFault.TheVariants as fault
use Rattle.star_resolver.specs.declared.place.Place.{Place}

-- names that were read
abbrev pub Names : Type 0
Names = set.FinSet text_cmp

-- those that were read so far, or the first breach and its line
abbrev pub Outcome : Type 0
Outcome = Result Names (Breach × ℕ)

abbrev pub Work : Type 0
Work = Names → Outcome

abbrev pub and_then : Outcome → Work → Outcome
and_then (Ok names) work = work names
and_then (Err breach) work = Err breach

-- the work at each item, in order
abbrev pub each : {X : Type 0} → (X → Work) → List X → Work
each work [] names = Ok names
each work (x ∷ xs) names = and_then (work x names) (each work xs)

-- the names that are read are added to those of before, up to the first breach
abbrev pub walk : List Finding → Work
walk [] names = Ok names
walk (Reads name ∷ more) names = walk more (set.insert names name)
walk (Breaks breach line ∷ more) names = Err (breach, line)

-- the rule that a kind of fault says to be broken
abbrev pub breach_of : ResolveKind → Breach
breach_of kind.NestedDef = rules.NestedDef
breach_of kind.MisplacedReturn = rules.MisplacedReturn
breach_of kind.MisplacedBreak = rules.MisplacedBreak
breach_of kind.InputNotLiteral = rules.InputNotLiteral
breach_of kind.RepeatedParameter = rules.RepeatedParameter

-- the answer, and the names that are known after it, are this outcome; nothing is said where memory is wanting
abbrev pub Gives : Outcome → Result (Unit {0}) ResolveFault → Names → Type 0
Gives outcome (Ok u) names = outcome ≡ Ok names
Gives outcome (Err (fault.Bad kind line)) names = outcome ≡ Err (breach_of kind, line)
Gives outcome (Err fault.NoMemory) names = Unit {0}

-- the place that the code's place says
abbrev pub stands : Place → rules.Place
stands place = record { is_direct = place.is_direct; in_function = place.in_function; in_loop = place.in_loop }
