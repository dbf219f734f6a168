-- The lines of a plan's entries, and how deep they stand.
use Rattle.std.proofs.Common.{◌≡◌, ◌∙◌, ℕ, zero, suc, ◌+◌, ◌^◌, ◌<◌, ◌≤◌, List, [], ◌∷◌, ◌++◌, take, get_or, length, append_assoc, Bool, true, false, refl, sym, ap, arith}
use Rattle.std.specs.Prelude.{codes, decimal, nat_lt, ◌&&◌}
use Rattle.std.proofs.lemmas.Bool.Decides.{nat_tests}
use Rattle.std.specs.List.{flat_map, list_all}
use Rattle.std.specs.Str.{chars, IsAscii}
use Rattle.std.proofs.lemmas.List.{take_more, append-nil}
use Rattle.std.proofs.lemmas.Fmt.{IsAscii-decimal}
use Rattle.std.proofs.lemmas.Str.{IsAscii-append, chars-IsAscii}
use Rattle.std.proofs.lemmas.Str.Ascii.{IsAscii-nil, IsAscii-cons}
use Rattle.plan_type.specs.declared.plan.Plan.{Plan, fold_out-Plan}
use Rattle.plan_type.specs.declared.plan.Entry.{Entry}
use Rattle.plan_type.specs.Plan.{entries_of}
use Rattle.plan_type.specs.PlanText.{flag_of, line_of, entry_lines, layer_lines, lines_at, deepest, layer_depth, depth_of}
use Rattle.plan_type.proofs.PlanParts.{later}

-- the lines of one entry, over whole plans
unfoldable pub rest_lines : ℕ → Entry Plan → List ℕ
rest_lines depth e = line_of depth e.child e.hold ++ lines_at e.rest (depth + 1)

lines_again : (g : Plan → ℕ → List ℕ) (depth : ℕ) (es : List (Entry Plan)) → flat_map (entry_lines depth) (later g es) ≡ flat_map (λ e. line_of depth e.child e.hold ++ g e.rest (depth + 1)) es
lines_again g depth [] = refl
lines_again g depth (e ∷ es) = ap (λ l. (line_of depth e.child e.hold ++ g e.rest (depth + 1)) ++ l) (lines_again g depth es)

pub lines_parts : (p : Plan) (depth : ℕ) → lines_at p depth ≡ flat_map (rest_lines depth) (entries_of p)
unfolding lines_at rest_lines
lines_parts p depth = ap (λ f. f depth) (fold_out-Plan (ℕ → List ℕ) layer_lines p) ∙ lines_again lines_at depth (entries_of p)

-- an entry stands in its list
pub deeper : (p : Plan) (depth most : ℕ) → depth + depth_of p ≤ most → (es : List (Entry Plan)) → es ≡ entries_of p → (i : ℕ) (e : Entry Plan) → i < length es → e ≡ get_or es i e
    → depth + 1 + depth_of e.rest ≤ most
unfolding depth_of
deeper p depth most fits es are i e lt at =
    let parts = fold_out-Plan ℕ layer_depth p in
    let below = part depth_of es i e lt in
    let same = ap (λ x. depth_of x.rest) at in
    let all = ap (λ l. deepest (later depth_of l)) are in
    omega (arith, parts, below, same, all, fits)
  where
    part : (g : Plan → ℕ) (es : List (Entry Plan)) (i : ℕ) (d : Entry Plan) → i < length es → 1 + g (get_or es i d).rest ≤ deepest (later g es)
    part g [] i d lt = absurd (omega arith)
    part g (e ∷ es) zero d lt = omega arith
    part g (e ∷ es) (suc i) d lt = let h = part g es i d (omega arith) in omega (arith, h)

ascii_by : (bs : List ℕ) → list_all (λ b. nat_lt b 128) bs ≡ true → IsAscii bs
ascii_by [] h = IsAscii-nil
ascii_by (b ∷ bs) h = by (nat_lt b 128) refl h (ascii_by bs)
  where
    small : (b : ℕ) → nat_lt b 128 ≡ true → b < 128
    small b is = grind (arith, nat_tests)

    by : (t : Bool) → nat_lt b 128 ≡ t → (t && list_all (λ b. nat_lt b 128) bs) ≡ true → (list_all (λ b. nat_lt b 128) bs ≡ true → IsAscii bs) → IsAscii (b ∷ bs)
    by true is h more = IsAscii-cons b bs (small b is) (more h)
    by false is h more = absurd (cc)

-- the first line's bytes are its characters
pub head_chars : chars (codes "chex-plan 1\n") ≡ codes "chex-plan 1\n"
head_chars = chars-IsAscii (codes "chex-plan 1\n") (ascii_by (codes "chex-plan 1\n") refl)

flag_ascii : (hold : Bool) → IsAscii (flag_of hold)
flag_ascii true = ascii_by (codes "hold") refl
flag_ascii false = ascii_by (codes "free") refl

line_ascii : (depth node : ℕ) (hold : Bool) → depth < 2 ^ 32 → node < 2 ^ 32 → IsAscii (line_of depth node hold)
unfolding line_of
line_ascii depth node hold d n =
    let flag : List ℕ = flag_of hold ++ 10 ∷ [] in
    IsAscii-append (decimal depth) (32 ∷ (decimal node ++ 32 ∷ flag)) (IsAscii-decimal depth (omega arith)) (IsAscii-cons 32 (decimal node ++ 32 ∷ flag) (omega arith)
    (IsAscii-append (decimal node) (32 ∷ flag) (IsAscii-decimal node (omega arith)) (IsAscii-cons 32 flag (omega arith)
    (IsAscii-append (flag_of hold) (10 ∷ []) (flag_ascii hold) (IsAscii-cons 10 [] (omega arith) IsAscii-nil)))))

-- a line's bytes are its characters
pub line_chars : (depth node : ℕ) (hold : Bool) → depth < 2 ^ 32 → node < 2 ^ 32 → chars (line_of depth node hold) ≡ line_of depth node hold
line_chars depth node hold d n = chars-IsAscii (line_of depth node hold) (line_ascii depth node hold d n)

-- one more entry
pub lines_more : (depth : ℕ) (es : List (Entry Plan)) (i : ℕ) (e : Entry Plan) (text now : List ℕ) → i < length es → e ≡ get_or es i e
    → now ≡ (text ++ flat_map (rest_lines depth) (take i es)) ++ rest_lines depth e → now ≡ text ++ flat_map (rest_lines depth) (take (i + 1) es)
lines_more depth es i e text now lt at is =
    is ∙ append_assoc text (flat_map (rest_lines depth) (take i es)) (rest_lines depth e)
    ∙ ap (λ l. text ++ l) (ap (λ x. flat_map (rest_lines depth) (take i es) ++ rest_lines depth x) at ∙ sym (ap (flat_map (rest_lines depth)) (take_more es i e lt) ∙ pushed (take i es) (get_or es i e)))
  where
    pushed : (xs : List (Entry Plan)) (y : Entry Plan) → flat_map (rest_lines depth) (xs ++ y ∷ []) ≡ flat_map (rest_lines depth) xs ++ rest_lines depth y
    pushed [] y = append-nil (rest_lines depth y)
    pushed (x ∷ xs) y = ap (λ l. rest_lines depth x ++ l) (pushed xs y) ∙ sym (append_assoc (rest_lines depth x) (flat_map (rest_lines depth) xs) (rest_lines depth y))
