-- The plan that is built so far is what the lines so far tell.
use Rattle.std.proofs.Common.{◌≡◌, ◌∙◌, ℕ, zero, suc, ◌+◌, ◌<◌, ◌≤◌, List, [], ◌∷◌, ◌++◌, take, drop, get_or, length, append_assoc, true, false, refl, sym, ap, subst, arith}
use Rattle.std.specs.List.{flat_map}
use Rattle.std.proofs.lemmas.List.{append-nil, drop-drop, length-drop}
use Rattle.std.proofs.lemmas.Bool.Decides.{nat_tests}
use Rattle.plan_type.specs.declared.plan.Plan.{Plan, fold_out-Plan}
use Rattle.plan_type.specs.declared.plan.Entry.{Entry}
use Rattle.plan_type.specs.Plan.{entries_of}
use Rattle.plan_type.proofs.PlanParts.{later}
use Rattle.plan_checker.specs.declared.line.Line.{Line}
use Rattle.plan_checker.specs.Lines.{AllFollow}
use Rattle.plan_checker.specs.PlanLines.{entry_listed, layer_listed, lines_of, is_at, IsUnder, IsChain}

-- the lines of one entry, over whole plans
unfoldable pub rest_listed : ℕ → Entry Plan → List Line
rest_listed depth e = record { depth = depth; node = e.child; hold = e.hold } ∷ lines_of e.rest (depth + 1)

listed_again : (g : Plan → ℕ → List Line) (depth : ℕ) (es : List (Entry Plan)) → flat_map (entry_listed depth) (later g es) ≡ flat_map (λ e. record { depth = depth; node = e.child; hold = e.hold } ∷ g e.rest (depth + 1)) es
listed_again g depth [] = refl
listed_again g depth (e ∷ es) = ap (λ l. (record { depth = depth; node = e.child; hold = e.hold } ∷ g e.rest (depth + 1)) ++ l) (listed_again g depth es)

pub listed_parts : (p : Plan) (depth : ℕ) → lines_of p depth ≡ flat_map (rest_listed depth) (entries_of p)
unfolding lines_of rest_listed
listed_parts p depth = ap (λ f. f depth) (fold_out-Plan (ℕ → List Line) layer_listed p) ∙ listed_again lines_of depth (entries_of p)

pub record BuildSo (lines : List Line) (above at : ℕ) (entries : List (Entry Plan)) : Type 0 where
  pub within : at ≤ length lines
  pub listed_is : flat_map (rest_listed (above + 1)) entries ≡ take at lines
  pub chain : IsChain (drop at lines)
  pub under : IsUnder (above + 1) (drop at lines)

pub build_begin : (lines : List Line) (above : ℕ) → IsChain lines → IsUnder (above + 1) lines → BuildSo lines above 0 []
build_begin lines above chain under = record { within = omega arith; listed_is = refl; chain = chain; under = under }

-- what is known where a line of the depth stands
pub record Next (lines : List Line) (above at : ℕ) : Type 0 where
  pub within : at < length lines
  pub shallow : above + 1 ≤ 9999
  pub depth : (d : Line) → (get_or lines at d).depth ≡ above + 1
  pub chain : IsChain (drop (at + 1) lines)
  pub under : IsUnder (above + 1 + 1) (drop (at + 1) lines)

chain_from : (before : ℕ) (lines : List Line) → AllFollow before lines → IsChain lines
chain_from before [] all = tt
chain_from before (l ∷ ls) all = (all.0.small, all.1)

under_from : (before : ℕ) (lines : List Line) → AllFollow before lines → IsUnder (before + 1) lines
under_from before [] all = tt
under_from before (l ∷ ls) all = all.0.step

pub chain_whole : (lines : List Line) → AllFollow 0 lines → IsChain lines × IsUnder (0 + 1) lines
chain_whole lines all = (chain_from 0 lines all, under_from 0 lines all)

pub next : (lines : List Line) (above at : ℕ) (es : List (Entry Plan)) → BuildSo lines above at es → is_at (above + 1) (drop at lines) ≡ true → Next lines above at
next lines above at es so here = found lines at so.chain here
  where
    found : (lines : List Line) (at : ℕ) → IsChain (drop at lines) → is_at (above + 1) (drop at lines) ≡ true → Next lines above at
    found [] zero chain here = absurd (cc)
    found [] (suc at) chain here = absurd (cc)
    found (l ∷ ls) zero (small, all) here =
        let e : l.depth ≡ above + 1 = grind (arith, nat_tests) in
        record { within = omega arith; shallow = (let s = small.depth in omega (arith, s, e)); depth = λ d. e; chain = chain_from l.depth ls all; under = subst (λ n. IsUnder (n + 1) ls) e (under_from l.depth ls all) }
    found (l ∷ ls) (suc at) chain here =
        let n = found ls at chain here in let w = n.within in
        let step : drop (at + 1) ls ≡ drop (suc at + 1) (l ∷ ls) = ap (λ k. drop k (l ∷ ls)) (let e : suc (at + 1) ≡ suc at + 1 = omega arith in e) in
        record { within = omega (arith, w); shallow = n.shallow; depth = n.depth; chain = subst IsChain step n.chain; under = subst (IsUnder (above + 1 + 1)) step n.under }

pub build_more : (lines rest : List Line) (above at taken : ℕ) (es now : List (Entry Plan)) (line : Line) (p : Plan) → BuildSo lines above at es → Next lines above at → line ≡ get_or lines at line → rest ≡ drop (at + 1) lines
    → taken ≤ length rest → lines_of p (above + 1 + 1) ≡ take taken rest → IsChain (drop taken rest) → IsUnder (above + 1) (drop taken rest)
    → now ≡ es ++ record { child = line.node; hold = line.hold; rest = p } ∷ [] → BuildSo lines above (at + (1 + taken)) now
unfolding rest_listed
build_more lines rest above at taken es now line p so here line_is rest_is low listed_is chain under now_is =
    let w = here.within in
    let size = ap length rest_is ∙ length-drop (at + 1) lines in
    let past : drop taken rest ≡ drop (at + (1 + taken)) lines = ap (drop taken) rest_is ∙ drop-drop taken (at + 1) lines ∙ ap (λ n. drop n lines) (let e : at + 1 + taken ≡ at + (1 + taken) = omega arith in e) in
    record {
      within = omega (arith, w, low, size);
      listed_is = ap (flat_map (rest_listed (above + 1))) now_is ∙ pushed es (record { child = line.node; hold = line.hold; rest = p })
          ∙ ap (λ l. l ++ (record { depth = above + 1; node = line.node; hold = line.hold } ∷ lines_of p (above + 1 + 1))) so.listed_is
          ∙ ap (λ l. take at lines ++ (record { depth = above + 1; node = line.node; hold = line.hold } ∷ l)) (listed_is ∙ ap (take taken) rest_is)
          ∙ ap (λ d. take at lines ++ (record { depth = d; node = line.node; hold = line.hold } ∷ take taken (drop (at + 1) lines))) (sym (ap (λ x. x.depth) line_is ∙ here.depth line))
          ∙ joined lines at taken line w line_is;
      chain = subst IsChain past chain;
      under = subst (IsUnder (above + 1)) past under;
    }
  where
    pushed : (xs : List (Entry Plan)) (y : Entry Plan) → flat_map (rest_listed (above + 1)) (xs ++ y ∷ []) ≡ flat_map (rest_listed (above + 1)) xs ++ rest_listed (above + 1) y
    pushed [] y = append-nil (rest_listed (above + 1) y)
    pushed (x ∷ xs) y = ap (λ l. rest_listed (above + 1) x ++ l) (pushed xs y) ∙ sym (append_assoc (rest_listed (above + 1) x) (flat_map (rest_listed (above + 1)) xs) (rest_listed (above + 1) y))

    joined : (xs : List Line) (at taken : ℕ) (line : Line) → at < length xs → line ≡ get_or xs at line → take at xs ++ (line ∷ take taken (drop (at + 1) xs)) ≡ take (at + (1 + taken)) xs
    joined [] at taken line lt is = absurd (omega arith)
    joined (x ∷ xs) zero taken line lt is = ap (λ l. l ∷ take taken xs) is ∙ ap (λ n. take n (x ∷ xs)) (let e : suc taken ≡ 0 + (1 + taken) = omega arith in e)
    joined (x ∷ xs) (suc at) taken line lt is =
        ap (λ n. x ∷ (take at xs ++ (line ∷ take taken (drop n (x ∷ xs))))) (let e : suc at + 1 ≡ suc (at + 1) = omega arith in e)
        ∙ ap (λ l. x ∷ l) (joined xs at taken line (omega arith) is) ∙ ap (λ n. take n (x ∷ xs)) (let e : suc (at + (1 + taken)) ≡ suc at + (1 + taken) = omega arith in e)

pub build_all : (lines : List Line) (above at : ℕ) (es : List (Entry Plan)) (p : Plan) → BuildSo lines above at es → is_at (above + 1) (drop at lines) ≡ false → entries_of p ≡ es
    → (lines_of p (above + 1) ≡ take at lines) × IsChain (drop at lines) × IsUnder above (drop at lines)
build_all lines above at es p so past is = (
  listed_parts p (above + 1) ∙ ap (flat_map (rest_listed (above + 1))) is ∙ so.listed_is,
  so.chain,
  low (drop at lines) so.under past,
)
  where
    low : (xs : List Line) → IsUnder (above + 1) xs → is_at (above + 1) xs ≡ false → IsUnder above xs
    low [] under past = tt
    low (x ∷ xs) under past = grind (arith, nat_tests)
