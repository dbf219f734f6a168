-- How a text is written is seen at its front.
use Rattle.std.proofs.Common.{◌≡◌, ℕ, ◌<◌, ◌≤◌, ◌&&◌, ◌||◌, ◌==◌, Bool, true, false, ◌⊎◌, inl, inr, ⊎_elim, [], ◌∷◌, ◌++◌, length, drop, length-append, refl, sym, ap, ◌∙◌, subst, eqb-true, arith}
use Rattle.std.proofs.lemmas.Bool.Decides.{nat_tests}
use Rattle.star_lexer.specs.declared.literal.Style.{Style}
use Rattle.star_lexer.specs.Chars.{Chars, letter_r, is_quote, first, begins}
use Rattle.star_lexer.specs.Texts.{is_text_start, delimiter, opening, quoted, style_at, closes}
use Rattle.star_lexer.proofs.Runs.{both_true}

abbrev pub style : ℕ → Bool → Bool → Style
style c wide raw = record { quote = c; is_wide = wide; is_raw = raw }

-- ---- what begins a text

pub begins_more : (text word more : Chars) → length word ≤ length text → begins (text ++ more) word ≡ begins text word
begins_more text [] more long = refl
begins_more [] (d ∷ ds) more long = absurd (omega arith)
begins_more (c ∷ cs) (d ∷ ds) more long = ap (λ b. c == d && b) (begins_more cs ds more (omega arith))

same_char : (c : ℕ) → (c == c) ≡ true
same_char c = grind (arith, nat_tests)

pub begins_own : (word more : Chars) → begins (word ++ more) word ≡ true
begins_own [] more = refl
begins_own (d ∷ ds) more = rw (same_char d) (begins_own ds more)

pub begins_split : (text word : Chars) → begins text word ≡ true → text ≡ word ++ drop (length word) text
begins_split text [] h = refl
begins_split [] (d ∷ ds) h = cc
begins_split (c ∷ cs) (d ∷ ds) h =
    let (head, tail) = both_true (c == d) (begins cs ds) h in
    ap (λ x. x ∷ cs) (eqb-true c d head) ∙ ap (λ xs. d ∷ xs) (begins_split cs ds tail)

-- ---- quotes

either_true : (a b : Bool) → (a || b) ≡ true → (a ≡ true) ⊎ (b ≡ true)
either_true true b h = inl refl
either_true false b h = inr h

pub quote_cases : (c : ℕ) → is_quote c ≡ true → (c ≡ 34) ⊎ (c ≡ 39)
quote_cases c h = ⊎_elim (λ e. inl (eqb-true c 34 e)) (λ e. inr (eqb-true c 39 e)) (either_true (c == 34) (c == 39) h)

pub delimiter_some : (q : Style) → 0 < length (delimiter q)
delimiter_some q = by_width q.quote q.is_wide q.is_raw where
  by_width : (c : ℕ) (wide raw : Bool) → 0 < length (delimiter (style c wide raw))
  by_width c true raw = omega arith
  by_width c false raw = omega arith

pub opening_long : (q : Style) → length (delimiter q) ≤ length (opening q)
opening_long q = by_raw q.quote q.is_wide q.is_raw where
  by_raw : (c : ℕ) (wide raw : Bool) → length (delimiter (style c wide raw)) ≤ length (opening (style c wide raw))
  by_raw c wide true = omega arith
  by_raw c wide false = omega arith

-- what is seen at the front of a text
record Seen (q : Style) (xs : Chars) : Type 0 where
  seen : style_at (opening q ++ xs) ≡ q
  starts : is_text_start (opening q ++ xs) ≡ true

seen_by : (wide raw : Bool) (xs : Chars) (c : ℕ) → (c ≡ 34) ⊎ (c ≡ 39) → (wide ≡ false → begins xs (c ∷ c ∷ []) ≡ false) → Seen (style c wide raw) xs
unfolding style_at
seen_by true true xs c (inl e) single = subst (λ c. Seen (style c true true) xs) (sym e) (record { seen = refl; starts = refl })
seen_by true true xs c (inr e) single = subst (λ c. Seen (style c true true) xs) (sym e) (record { seen = refl; starts = refl })
seen_by true false xs c (inl e) single = subst (λ c. Seen (style c true false) xs) (sym e) (record { seen = refl; starts = refl })
seen_by true false xs c (inr e) single = subst (λ c. Seen (style c true false) xs) (sym e) (record { seen = refl; starts = refl })
seen_by false true xs c (inl e) single =
    let one : begins xs (34 ∷ 34 ∷ []) ≡ false = subst (λ c. begins xs (c ∷ c ∷ []) ≡ false) e (single refl) in
    subst (λ c. Seen (style c false true) xs) (sym e) (record { seen = ap (λ b. style 34 b true) one; starts = refl })
seen_by false true xs c (inr e) single =
    let one : begins xs (39 ∷ 39 ∷ []) ≡ false = subst (λ c. begins xs (c ∷ c ∷ []) ≡ false) e (single refl) in
    subst (λ c. Seen (style c false true) xs) (sym e) (record { seen = ap (λ b. style 39 b true) one; starts = refl })
seen_by false false xs c (inl e) single =
    let one : begins xs (34 ∷ 34 ∷ []) ≡ false = subst (λ c. begins xs (c ∷ c ∷ []) ≡ false) e (single refl) in
    subst (λ c. Seen (style c false false) xs) (sym e) (record { seen = ap (λ b. style 34 b false) one; starts = refl })
seen_by false false xs c (inr e) single =
    let one : begins xs (39 ∷ 39 ∷ []) ≡ false = subst (λ c. begins xs (c ∷ c ∷ []) ≡ false) e (single refl) in
    subst (λ c. Seen (style c false false) xs) (sym e) (record { seen = ap (λ b. style 39 b false) one; starts = refl })

pub style_seen : (q : Style) (xs : Chars) → is_quote q.quote ≡ true → (q.is_wide ≡ false → begins xs (q.quote ∷ q.quote ∷ []) ≡ false) → style_at (opening q ++ xs) ≡ q
style_seen q xs quoted single = (seen_by q.is_wide q.is_raw xs q.quote (quote_cases q.quote quoted) single).seen

starts_by : (wide raw : Bool) (xs : Chars) (c : ℕ) → (c ≡ 34) ⊎ (c ≡ 39) → is_text_start (opening (style c wide raw) ++ xs) ≡ true
starts_by true true xs c (inl e) = subst (λ c. is_text_start (opening (style c true true) ++ xs) ≡ true) (sym e) refl
starts_by true true xs c (inr e) = subst (λ c. is_text_start (opening (style c true true) ++ xs) ≡ true) (sym e) refl
starts_by true false xs c (inl e) = subst (λ c. is_text_start (opening (style c true false) ++ xs) ≡ true) (sym e) refl
starts_by true false xs c (inr e) = subst (λ c. is_text_start (opening (style c true false) ++ xs) ≡ true) (sym e) refl
starts_by false true xs c (inl e) = subst (λ c. is_text_start (opening (style c false true) ++ xs) ≡ true) (sym e) refl
starts_by false true xs c (inr e) = subst (λ c. is_text_start (opening (style c false true) ++ xs) ≡ true) (sym e) refl
starts_by false false xs c (inl e) = subst (λ c. is_text_start (opening (style c false false) ++ xs) ≡ true) (sym e) refl
starts_by false false xs c (inr e) = subst (λ c. is_text_start (opening (style c false false) ++ xs) ≡ true) (sym e) refl

pub text_starts : (q : Style) (xs : Chars) → is_quote q.quote ≡ true → is_text_start (opening q ++ xs) ≡ true
text_starts q xs quoted = starts_by q.is_wide q.is_raw xs q.quote (quote_cases q.quote quoted)

-- ---- the text at the front

-- opening quotes stand at the front
pub record Opened (q : Style) (text : Chars) : Type 0 where
  pub quoted : is_quote q.quote ≡ true
  pub whole : text ≡ opening q ++ drop (length (opening q)) text

quotes_split : (d : ℕ) (ds : Chars) (b raw : Bool) → begins ds (d ∷ d ∷ []) ≡ b → d ∷ ds ≡ delimiter (style d b raw) ++ drop (length (delimiter (style d b raw))) (d ∷ ds)
quotes_split d ds true raw h = ap (λ xs. d ∷ xs) (begins_split ds (d ∷ d ∷ []) h)
quotes_split d ds false raw h = refl

opened_raw : (cs : Chars) → is_quote (first cs) ≡ true → Opened (style_at (letter_r ∷ cs)) (letter_r ∷ cs)
unfolding style_at
opened_raw [] h = let no : false ≡ true = h in cc
opened_raw (d ∷ ds) h = record { quoted = h; whole = ap (λ xs. letter_r ∷ xs) (quotes_split d ds (begins ds (d ∷ d ∷ [])) true refl) }

opened_plain : (c : ℕ) (cs : Chars) → (c ≡ 34) ⊎ (c ≡ 39) → Opened (style_at (c ∷ cs)) (c ∷ cs)
unfolding style_at
opened_plain c cs (inl e) = subst (λ c. Opened (style_at (c ∷ cs)) (c ∷ cs)) (sym e) (record { quoted = refl; whole = quotes_split 34 cs (begins cs (34 ∷ 34 ∷ [])) false refl })
opened_plain c cs (inr e) = subst (λ c. Opened (style_at (c ∷ cs)) (c ∷ cs)) (sym e) (record { quoted = refl; whole = quotes_split 39 cs (begins cs (39 ∷ 39 ∷ [])) false refl })

pub opened : (text : Chars) → is_text_start text ≡ true → Opened (style_at text) text
opened [] h = let no : false ≡ true = h in cc
opened (c ∷ cs) h = ⊎_elim (λ e. opened_plain c cs (quote_cases c e)) (λ e. raw_case c cs e) (either_true (is_quote c) (c == letter_r && is_quote (first cs)) h) where
  raw_case : (c : ℕ) (cs : Chars) → (c == letter_r && is_quote (first cs)) ≡ true → Opened (style_at (c ∷ cs)) (c ∷ cs)
  raw_case c cs e =
      let (r, q) = both_true (c == letter_r) (is_quote (first cs)) e in
      subst (λ c. Opened (style_at (c ∷ cs)) (c ∷ cs)) (sym (eqb-true c letter_r r)) (opened_raw cs q)

pub opening_fits : (text : Chars) → is_text_start text ≡ true → length (opening (style_at text)) ≤ length text
opening_fits text h =
    let o = opened text h in
    let e = ap length o.whole in
    omega (arith, e, length-append (opening (style_at text)) (drop (length (opening (style_at text))) text))

pub closes_fits : (q : Style) (text : Chars) → closes q text ≡ true → length (delimiter q) ≤ length text
closes_fits q text h =
    let e = ap length (begins_split text (delimiter q) h) in
    omega (arith, e, length-append (delimiter q) (drop (length (delimiter q)) text))
