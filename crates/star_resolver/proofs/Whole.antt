-- What the walk over a whole tree says of its breaches and its names.
use Rattle.std.proofs.Common.{◌≡◌, ◌∙◌, ℕ, List, [], ◌∷◌, ◌++◌, Some, Ok, Err, refl, ap, sym, append_assoc, append-nil}
use Rattle.std.specs.FinSet as set
use Rattle.std.specs.FinSet.{from_list_push, slice_cmp-IsAntisymmetric, nat_cmp-IsAntisymmetric}
use Rattle.std.specs.List.{filter_map, slice_get}
use Rattle.std.proofs.lemmas.Cmp.{nat_list_cmp_total}
use Rattle.star_syntax.specs.declared.statement.Module.{Module}
use Rattle.star_syntax.specs.declared.statement.Statement.{Statement}
use Rattle.star_syntax.specs.Placement.{Place, Finding, Reads, Breaks, Breach, IsPlaced, breaches, names_read, breach_of, name_of, findings, statement_findings, in_cell}
use Rattle.star_resolver.specs.declared.error.ResolveFault.{ResolveFault}
use Rattle.star_resolver.specs.declared.error.ResolveFault.TheVariants.{Bad, NoMemory}
use Rattle.star_resolver.specs.Outcomes.{Names, Gives, each, walk, breach_of as broken_rule}
use Rattle.star_resolver.specs.Resolved.{IsFirstBreach}
use Rattle.star_resolver.specs.Scans.{scan_statement}
use Rattle.star_resolver.proofs.Walks.{walk-flat_map}

none_broken : (xs : List Finding) (n t : Names) → walk xs n ≡ Ok t → filter_map breach_of xs ≡ []
none_broken [] n t is = refl
none_broken (Reads name ∷ xs) n t is = none_broken xs (set.insert n name) t is
none_broken (Breaks breach line ∷ xs) n t is = absurd (cc is)

all_read : (xs : List Finding) (done : List (List ℕ)) (t : Names) → walk xs (set.from_list done) ≡ Ok t → t ≡ set.from_list (done ++ filter_map name_of xs)
all_read [] done t is = cc (is, append-nil done)
all_read (Reads name ∷ xs) done t is =
    all_read xs (done ++ name ∷ []) t (ap (walk xs) (from_list_push nat_list_cmp_total (slice_cmp-IsAntisymmetric nat_cmp-IsAntisymmetric) done name) ∙ is)
    ∙ ap set.from_list (append_assoc done (name ∷ []) (filter_map name_of xs))
all_read (Breaks breach line ∷ xs) done t is = absurd (cc is)

first_broken : (xs : List Finding) (n : Names) (p : Breach × ℕ) → walk xs n ≡ Err p → slice_get (filter_map breach_of xs) 0 ≡ Some p
first_broken [] n p is = absurd (cc is)
first_broken (Reads name ∷ xs) n p is = first_broken xs (set.insert n name) p is
first_broken (Breaks breach line ∷ xs) n p is = cc is

-- the walk over the statements of a cell
whole : (tree : Module) (n : Names) → each (scan_statement in_cell) tree.statements n ≡ walk (findings tree) n
unfolding scan_statement findings
whole tree n = sym (walk-flat_map (λ s. statement_findings s in_cell) tree.statements n)

pub placed-walked : (tree : Module) (t : Names) → each (scan_statement in_cell) tree.statements set.empty ≡ Ok t → IsPlaced tree
unfolding breaches
placed-walked tree t is = none_broken (findings tree) set.empty t (sym (whole tree set.empty) ∙ is)

pub names-walked : (tree : Module) (t : Names) → each (scan_statement in_cell) tree.statements set.empty ≡ Ok t → t ≡ set.from_list (names_read tree)
unfolding names_read
names-walked tree t is = all_read (findings tree) [] t (sym (whole tree set.empty) ∙ is)

pub first-walked : (tree : Module) (fault : ResolveFault) (place : Place) (list : List Statement) (start n : Names)
    → place ≡ in_cell → list ≡ tree.statements → start ≡ set.empty → Gives (each (scan_statement place) list start) (Err fault) n → IsFirstBreach tree fault
unfolding breaches
first-walked tree (Bad kind line) place list start n p l s is =
    first_broken (findings tree) set.empty (broken_rule kind, line)
    (sym (whole tree set.empty) ∙ sym (λ i. each (scan_statement (p i)) (l i) (s i)) ∙ is)
first-walked tree NoMemory place list start n p l s is = tt
