-- The content of a text, by its parts.
use Rattle.std.proofs.Common.{◌≡◌, ◌≢◌, ℕ, zero, suc, ◌+◌, ◌<◌, ◌≤◌, ◌==◌, ◌&&◌, Bool, true, false, not, inl, inr, List, [], ◌∷◌, ◌++◌, length, take, drop, Ok, Err, refl, sym, ap, ◌∙◌, subst, append_assoc, length-append, length-drop, take-append-drop, append-nil, ne_eqb, eqb-true, ⊎_elim, arith}
use Rattle.std.proofs.lemmas.Bool.{eqb-false}
use Rattle.std.proofs.lemmas.List.Prefix.{front_rest}
use Rattle.star_lexer.specs.declared.literal.Style.{Style}
use Rattle.star_lexer.specs.declared.literal.TextFault.{TextFault}
use Rattle.star_lexer.specs.declared.literal.TextFault.TheVariants as f
use Rattle.star_lexer.specs.Chars.{Chars, newline, backslash, first}
use Rattle.star_lexer.specs.Pieces.{Part, IsPart, IsPlain, IsEscape, IsKept, AreParts, IsText, Stops, NoEscape, parts_spelling, parts_value}
use Rattle.star_lexer.specs.Texts.{Inside, far, content, literal, before, blamed, part_at, escape, escape_len, escaped, closes, delimiter, opening, style_at}
use Rattle.star_lexer.proofs.Contents.{content_turn, content_refuses, content_ends, far-zero, far-far, far-before, before-before, before-nil}
use Rattle.star_lexer.proofs.Escapes.{escape_long, NextEscape, next_escape}
use Rattle.star_lexer.proofs.Runs.{two, both_true}
use Rattle.star_lexer.proofs.Styles.{begins_more, begins_own, begins_split, delimiter_some}

-- what the reader makes of a part
record Reads (q : Style) (p : Part) (more : Chars) : Type 0 where
  some : 0 < length p.spelling
  read : part_at q (p.spelling ++ more) ≡ Ok (p.value, length p.spelling)

not_newline : (c : ℕ) (wide : Bool) → (wide ≡ false → c ≢ newline) → (c == newline && not wide) ≡ false
not_newline c true plain = by_line (c == newline) where
  by_line : (b : Bool) → (b && false) ≡ false
  by_line true = refl
  by_line false = refl
not_newline c false plain = ap (λ b. b && true) (ne_eqb c newline (plain refl))

plain_read : (q : Style) (p : Part) (more : Chars) → IsPlain q p → Reads q p more
unfolding part_at
plain_read q p more is =
    let (c, no_backslash, no_newline, spelled, valued) = is in
    subst (λ (p : Part). Reads q p more) (λ i. record { spelling = sym spelled i; value = sym valued i })
    (record { some = omega arith; read = rw (ne_eqb c backslash no_backslash) (rw (not_newline c q.is_wide no_newline) refl) })

escape_read : (q : Style) (p : Part) (more : Chars) → IsEscape q p → Reads q p more
unfolding part_at
escape_read q p more is =
    let (w, v, cooked, stands_for, spelled, valued) = is in
    let front = escape_long w v more stands_for in
    subst (λ (p : Part). Reads q p more) (λ i. record { spelling = sym spelled i; value = sym valued i })
    (record { some = omega arith; read = rw cooked (ap (λ w. escaped (escape w) (length w)) front ∙ ap (λ e. escaped e (length w)) stands_for) })

kept_read : (q : Style) (p : Part) (more : Chars) → IsKept q p → Reads q p more
unfolding part_at
kept_read q p more is =
    let (c, raw, spelled, valued) = is in
    subst (λ (p : Part). Reads q p more) (λ i. record { spelling = sym spelled i; value = sym valued i })
    (record { some = omega arith; read = rw raw refl })

reads : (q : Style) (p : Part) (more : Chars) → IsPart q p → Reads q p more
reads q p more (inl is) = plain_read q p more is
reads q p more (inr (inl is)) = escape_read q p more is
reads q p more (inr (inr is)) = kept_read q p more is

-- one part before the rest
part_turn : (q : Style) (p : Part) (more : Chars) → IsPart q p → closes q (p.spelling ++ more) ≡ false → content q 0 (p.spelling ++ more) ≡ before p.value (far (length p.spelling) (content q 0 more))
part_turn q p more is unclosed =
    let r = reads q p more is in
    let n = length p.spelling in
    let long = length-append p.spelling more in
    content_turn q (p.spelling ++ more) p.value n (omega (arith, long, r.some)) unclosed r.some (omega (arith, long)) r.read
    ∙ ap (λ xs. before p.value (far n (content q 0 xs))) (front_rest (p.spelling ++ more) p.spelling more refl)

-- parts before the rest of a content
pub content_parts : (q : Style) (parts : List Part) (rest : Chars) → AreParts q parts rest → content q 0 (parts_spelling parts ++ rest) ≡ before (parts_value parts) (far (length (parts_spelling parts)) (content q 0 rest))
content_parts q [] rest all = far-zero (content q 0 rest) ∙ before-nil _
content_parts q (p ∷ ps) rest all =
    let n = length p.spelling in
    ap (content q 0) (append_assoc p.spelling (parts_spelling ps) rest)
    ∙ part_turn q p (parts_spelling ps ++ rest) all.0 all.1
    ∙ ap (λ r. before p.value (far n r)) (content_parts q ps rest all.2)
    ∙ ap (before p.value) (far-before n (parts_value ps) _)
    ∙ before-before p.value (parts_value ps) _
    ∙ ap (before (p.value ++ parts_value ps)) (far-far n (length (parts_spelling ps)) (content q 0 rest) ∙ ap (λ m. far m (content q 0 rest)) (sym (length-append p.spelling (parts_spelling ps))))

-- ---- what stands behind the closing quotes does not matter

closes_more : (q : Style) (front more : Chars) → closes q (front ++ (delimiter q ++ more)) ≡ closes q (front ++ delimiter q)
closes_more q front more =
    ap (closes q) (sym (append_assoc front (delimiter q) more))
    ∙ begins_more (front ++ delimiter q) (delimiter q) more (omega (arith, length-append front (delimiter q)))

part_more : (q : Style) (p : Part) (ps : List Part) (more : Chars) → closes q (p.spelling ++ (parts_spelling ps ++ (delimiter q ++ more))) ≡ closes q (p.spelling ++ (parts_spelling ps ++ delimiter q))
part_more q p ps more =
    ap (closes q) (sym (append_assoc p.spelling (parts_spelling ps) (delimiter q ++ more)))
    ∙ closes_more q (p.spelling ++ parts_spelling ps) more
    ∙ ap (closes q) (append_assoc p.spelling (parts_spelling ps) (delimiter q))

pub parts_before : (q : Style) (parts : List Part) (more : Chars) → AreParts q parts (delimiter q) → AreParts q parts (delimiter q ++ more)
parts_before q [] more all = tt
parts_before q (p ∷ ps) more all = (all.0, part_more q p ps more ∙ all.1, parts_before q ps more all.2)

pub parts_alone : (q : Style) (parts : List Part) (more : Chars) → AreParts q parts (delimiter q ++ more) → AreParts q parts (delimiter q)
parts_alone q [] more all = tt
parts_alone q (p ∷ ps) more all = (all.0, sym (part_more q p ps more) ∙ all.1, parts_alone q ps more all.2)

-- ---- a text is read

some_more : (q : Style) (more : Chars) → 0 < length (delimiter q ++ more)
some_more q more = omega (arith, delimiter_some q, length-append (delimiter q) more)

pub text_split : (s more begun inside close : Chars) → s ≡ begun ++ (inside ++ close) → s ++ more ≡ begun ++ (inside ++ (close ++ more))
text_split s more begun inside close e =
    ap (λ s. s ++ more) e ∙ append_assoc begun (inside ++ close) more ∙ ap (λ xs. begun ++ xs) (append_assoc inside close more)

pub content_read : (q : Style) (parts : List Part) (more : Chars) → AreParts q parts (delimiter q) → content q 0 (parts_spelling parts ++ (delimiter q ++ more)) ≡ Ok (parts_value parts, length (parts_spelling parts) + length (delimiter q))
content_read q parts more each =
    content_parts q parts (delimiter q ++ more) (parts_before q parts more each)
    ∙ ap (λ r. before (parts_value parts) (far (length (parts_spelling parts)) r)) (content_ends q (delimiter q ++ more) (some_more q more) (begins_own (delimiter q) more))
    ∙ ap (λ v. Ok (v, length (parts_spelling parts) + length (delimiter q))) (append-nil (parts_value parts))

pub text_read : (s v more : Chars) → (is : IsText s v) → style_at (s ++ more) ≡ is.style → literal (s ++ more) ≡ Ok (v, length s)
unfolding literal
text_read s v more is seen =
    let q = is.style in
    let begun = opening q in
    let n = length begun in
    let inside = parts_spelling is.parts in
    let close = delimiter q in
    let long : n + (length inside + length close) ≡ length (begun ++ (inside ++ close)) = omega (arith, length-append begun (inside ++ close), length-append inside close) in
    ap (λ q. blamed (far (length (opening q)) (content q 0 (drop (length (opening q)) (s ++ more))))) seen
    ∙ ap (λ xs. blamed (far n (content q 0 (drop n xs)))) (text_split s more begun inside close is.whole)
    ∙ ap (λ xs. blamed (far n (content q 0 xs))) (front_rest (begun ++ (inside ++ (close ++ more))) begun (inside ++ (close ++ more)) refl)
    ∙ ap (λ r. blamed (far n r)) (content_read q is.parts more is.each)
    ∙ (λ i. Ok (sym is.value i, (long ∙ ap length (sym is.whole)) i))

-- ---- what the reader gives is so

-- parts, and what follows them
pub record Inner (q : Style) (parts : List Part) (rest text : Chars) : Type 0 where
  pub each : AreParts q parts rest
  pub whole : text ≡ parts_spelling parts ++ rest

abbrev pub ContentIs : Style → Chars → Inside Chars → Type 0
ContentIs q text (Ok x) = (parts : List Part) × (more : Chars) × Inner q parts (delimiter q ++ more) text × (x.0 ≡ parts_value parts) × (x.1 ≡ length (parts_spelling parts) + length (delimiter q))
ContentIs q text (Err (f.Escape, n)) = (parts : List Part) × (more : Chars) × Inner q parts (backslash ∷ more) text × (q.is_raw ≡ false) × NoEscape more × (n ≡ length (parts_spelling parts))
ContentIs q text (Err (f.Open, n)) = (parts : List Part) × (more : Chars) × Inner q parts more text × Stops q more

inner_more : (q : Style) (p : Part) (parts : List Part) (rest text : Chars) → IsPart q p → closes q (p.spelling ++ text) ≡ false → Inner q parts rest text → Inner q (p ∷ parts) rest (p.spelling ++ text)
inner_more q p parts rest text is unclosed inner = record {
  each = (is, ap (λ xs. closes q (p.spelling ++ xs)) (sym inner.whole) ∙ unclosed, inner.each);
  whole = ap (λ xs. p.spelling ++ xs) inner.whole ∙ sym (append_assoc p.spelling (parts_spelling parts) rest);
}

-- one part more in front
more_parts : (q : Style) (p : Part) (rest : Chars) (r : Inside Chars) → IsPart q p → closes q (p.spelling ++ rest) ≡ false → ContentIs q rest r → ContentIs q (p.spelling ++ rest) (before p.value (far (length p.spelling) r))
more_parts q p rest (Ok x) is unclosed found =
    let (parts, more, inner, value, long) = found in
    (p ∷ parts, more, inner_more q p parts (delimiter q ++ more) rest is unclosed inner, ap (λ xs. p.value ++ xs) value, omega (arith, long, length-append p.spelling (parts_spelling parts)))
more_parts q p rest (Err (f.Escape, n)) is unclosed found =
    let (parts, more, inner, cooked, none, long) = found in
    (p ∷ parts, more, inner_more q p parts (backslash ∷ more) rest is unclosed inner, cooked, none, omega (arith, long, length-append p.spelling (parts_spelling parts)))
more_parts q p rest (Err (f.Open, n)) is unclosed found =
    let (parts, more, inner, stops) = found in
    (p ∷ parts, more, inner_more q p parts more rest is unclosed inner, stops)

part : Chars → Chars → Part
part s v = record { spelling = s; value = v }

-- a part at the front
one_part : (q : Style) (p : Part) (rest : Chars) → IsPart q p → closes q (p.spelling ++ rest) ≡ false → ContentIs q rest (content q 0 rest) → ContentIs q (p.spelling ++ rest) (content q 0 (p.spelling ++ rest))
one_part q p rest is unclosed found =
    subst (ContentIs q (p.spelling ++ rest)) (sym (part_turn q p rest is unclosed)) (more_parts q p rest (content q 0 rest) is unclosed found)

refuses : (q : Style) (text : Chars) (k : TextFault) → 0 < length text → closes q text ≡ false → part_at q text ≡ Err k → ContentIs q text (Err (k, 0)) → ContentIs q text (content q 0 text)
refuses q text k some unclosed read is = subst (ContentIs q text) (sym (content_refuses q text k some unclosed read)) is

stops_here : (q : Style) (text : Chars) → Stops q text → ContentIs q text (Err (f.Open, 0))
stops_here q text stops = ([], text, record { each = tt; whole = refl }, stops)

closed_found : (q : Style) (text : Chars) → 0 < length text → closes q text ≡ true → ContentIs q text (content q 0 text)
closed_found q text some closed =
    subst (ContentIs q text) (sym (content_ends q text some closed)) ([], drop (length (delimiter q)) text, record { each = tt; whole = begins_split text (delimiter q) closed }, refl, zero-plus (length (delimiter q))) where
      zero-plus : (n : ℕ) → n ≡ 0 + n
      zero-plus n = omega arith

escape_found : (q : Style) (cs : Chars) → q.is_raw ≡ false → closes q (backslash ∷ cs) ≡ false → NextEscape cs → ((n : ℕ) → ContentIs q (drop n cs) (content q 0 (drop n cs))) → ContentIs q (backslash ∷ cs) (content q 0 (backslash ∷ cs))
unfolding part_at part
escape_found q cs cooked unclosed (inl found) more =
    let (w, v, n, is, whole) = found in
    subst (λ cs. ContentIs q (backslash ∷ cs) (content q 0 (backslash ∷ cs))) (sym whole)
    (one_part q (part (backslash ∷ w) v) (drop n cs) (inr (inl (w, v, cooked, is, refl, refl))) (subst (λ cs. closes q (backslash ∷ cs) ≡ false) whole unclosed) (more n))
escape_found q cs cooked unclosed (inr none) more =
    refuses q (backslash ∷ cs) f.Escape (omega arith) unclosed (rw cooked (ap (λ e. escaped e (length (take (escape_len (first cs)) cs))) (none (take (escape_len (first cs)) cs) (drop (escape_len (first cs)) cs) (sym (take-append-drop (escape_len (first cs)) cs)))))
    ([], cs, record { each = tt; whole = refl }, cooked, none, refl)

kept_found : (q : Style) (cs : Chars) → q.is_raw ≡ true → closes q (backslash ∷ cs) ≡ false → ((n : ℕ) → ContentIs q (drop n cs) (content q 0 (drop n cs))) → ContentIs q (backslash ∷ cs) (content q 0 (backslash ∷ cs))
unfolding part_at part
kept_found q [] raw unclosed more = refuses q (backslash ∷ []) f.Open (omega arith) unclosed (rw raw refl) (stops_here q (backslash ∷ []) (inr (inr (raw, refl))))
kept_found q (c ∷ cs) raw unclosed more = one_part q (part (backslash ∷ c ∷ []) (backslash ∷ c ∷ [])) cs (inr (inr (c, raw, refl, refl))) unclosed (more 1)

backslash_found : (q : Style) (cs : Chars) → closes q (backslash ∷ cs) ≡ false → ((n : ℕ) → ContentIs q (drop n cs) (content q 0 (drop n cs))) → ContentIs q (backslash ∷ cs) (content q 0 (backslash ∷ cs))
backslash_found q cs unclosed more =
    ⊎_elim (λ raw. kept_found q cs raw unclosed more) (λ cooked. escape_found q cs cooked unclosed (next_escape cs) more) (two q.is_raw)

plain_found : (q : Style) (c : ℕ) (cs : Chars) → c ≢ backslash → (c == newline && not q.is_wide) ≡ false → closes q (c ∷ cs) ≡ false → ContentIs q cs (content q 0 cs) → ContentIs q (c ∷ cs) (content q 0 (c ∷ cs))
unfolding part
plain_found q c cs no_backslash no_line unclosed found = one_part q (part (c ∷ []) (c ∷ [])) cs (inl (c, no_backslash, line_not, refl, refl)) unclosed found where
  line_not : q.is_wide ≡ false → c ≢ newline
  line_not single e = let both : (c == newline && not q.is_wide) ≡ true = ap (λ c. c == newline && not q.is_wide) e ∙ ap not single in let no : true ≡ false = sym both ∙ no_line in cc

line_found : (q : Style) (c : ℕ) (cs : Chars) → c ≢ backslash → (c == newline && not q.is_wide) ≡ true → closes q (c ∷ cs) ≡ false → ContentIs q (c ∷ cs) (content q 0 (c ∷ cs))
unfolding part_at
line_found q c cs no_backslash line unclosed =
    let (is_line, single) = both_true (c == newline) (not q.is_wide) line in
    refuses q (c ∷ cs) f.Open (omega arith) unclosed (rw (ne_eqb c backslash no_backslash) (rw line refl)) (stops_here q (c ∷ cs) (inr (inl (not_true q.is_wide single, eqb-true c newline is_line)))) where
      not_true : (b : Bool) → not b ≡ true → b ≡ false
      not_true true e = sym e
      not_true false e = refl

open_found : (q : Style) (c : ℕ) (cs : Chars) → closes q (c ∷ cs) ≡ false → ((n : ℕ) → ContentIs q (drop n cs) (content q 0 (drop n cs))) → ContentIs q (c ∷ cs) (content q 0 (c ∷ cs))
open_found q c cs unclosed more =
    ⊎_elim
    (λ e. let is = eqb-true c backslash e in subst (λ c. ContentIs q (c ∷ cs) (content q 0 (c ∷ cs))) (sym is) (backslash_found q cs (subst (λ c. closes q (c ∷ cs) ≡ false) is unclosed) more))
    (λ e. ⊎_elim (λ line. line_found q c cs (eqb-false c backslash e) line unclosed) (λ line. plain_found q c cs (eqb-false c backslash e) line unclosed (more 0)) (two (c == newline && not q.is_wide)))
    (two (c == backslash))

pub content_found : (q : Style) (bound : ℕ) (text : Chars) → length text ≤ bound → ContentIs q text (content q 0 text)
content_found q bound [] few = stops_here q [] (inl refl)
content_found q zero (c ∷ cs) few = absurd (omega arith)
content_found q (suc bound) (c ∷ cs) few =
    ⊎_elim (λ closed. closed_found q (c ∷ cs) (omega arith) closed)
    (λ unclosed. open_found q c cs unclosed (λ n. content_found q bound (drop n cs) (omega (arith, length-drop n cs))))
    (two (closes q (c ∷ cs)))
