-- The turns of the loop over a text's content.
use Rattle.std.proofs.lemmas.List.{drop-drop}
use Rattle.std.proofs.Common.{length-drop, ℕ, ◌≡◌, zero, suc, ◌+◌, ◌-◌, ◌<◌, ◌≤◌, true, false, [], ◌∷◌, ◌++◌, length, drop, Ok, Err, refl, sym, ap, ◌∙◌, append_assoc, arith, zero-add}
use Rattle.star_lexer.specs.declared.literal.Style.{Style}
use Rattle.star_lexer.specs.declared.literal.TextFault.{TextFault}
use Rattle.star_lexer.specs.Chars.{Chars}
use Rattle.star_lexer.specs.Texts.{Inside, far, content, literal, longer, before, blamed, part_at, closes, delimiter, opening, style_at}

pub far-longer : {A : Type 0} (n : ℕ) (r : Inside A) → longer (far n r) ≡ far (suc n) r
far-longer n (Ok p) = let e : suc (n + p.1) ≡ suc n + p.1 = omega arith in ap (λ m. Ok (p.0, m)) e
far-longer n (Err e) = let same : suc (n + e.1) ≡ suc n + e.1 = omega arith in ap (λ m. Err (e.0, m)) same

pub far-zero : {A : Type 0} (r : Inside A) → r ≡ far 0 r
far-zero (Ok p) = ap (λ m. Ok (p.0, m)) (sym (zero-add p.1))
far-zero (Err e) = ap (λ m. Err (e.0, m)) (sym (zero-add e.1))

pub far-far : {A : Type 0} (m n : ℕ) (r : Inside A) → far m (far n r) ≡ far (m + n) r
far-far m n (Ok p) = let e : m + (n + p.1) ≡ m + n + p.1 = omega arith in ap (λ k. Ok (p.0, k)) e
far-far m n (Err e) = let same : m + (n + e.1) ≡ m + n + e.1 = omega arith in ap (λ k. Err (e.0, k)) same

pub far-before : (m : ℕ) (v : Chars) (r : Inside Chars) → far m (before v r) ≡ before v (far m r)
far-before m v (Ok p) = refl
far-before m v (Err e) = refl

pub before-before : (v w : Chars) (r : Inside Chars) → before v (before w r) ≡ before (v ++ w) r
before-before v w (Ok p) = ap (λ x. Ok (x, p.1)) (sym (append_assoc v w p.0))
before-before v w (Err e) = refl

pub before-nil : (r : Inside Chars) → r ≡ before [] r
before-nil (Ok p) = refl
before-nil (Err e) = refl

-- the characters that are left of a part are passed
content_skip : (q : Style) (n : ℕ) (text : Chars) → n ≤ length text → content q n text ≡ far n (content q 0 (drop n text))
content_skip q zero text within = far-zero (content q 0 text)
content_skip q (suc n) [] within = absurd (omega arith)
content_skip q (suc n) (c ∷ cs) within = ap longer (content_skip q n cs (omega arith)) ∙ far-longer n (content q 0 (drop n cs))

-- one part, and then the rest
pub content_turn : (q : Style) (text v : Chars) (n : ℕ) → 0 < length text → closes q text ≡ false → 0 < n → n ≤ length text → part_at q text ≡ Ok (v, n) → content q 0 text ≡ before v (far n (content q 0 (drop n text)))
content_turn q [] v n some unclosed long within read = absurd (omega arith)
content_turn q (c ∷ cs) v n some unclosed long within read =
    let e : n ≡ suc (n - 1) = omega arith in
    let skip = ap longer (content_skip q (n - 1) cs (omega arith)) ∙ far-longer (n - 1) (content q 0 (drop (n - 1) cs)) in
    let whole : content q 0 (c ∷ cs) ≡ before v (longer (content q (n - 1) cs)) = rw unclosed (rw read refl) in
    whole ∙ ap (before v) (skip ∙ ap (λ m. far m (content q 0 (drop m (c ∷ cs)))) (sym e))

pub content_refuses : (q : Style) (text : Chars) (k : TextFault) → 0 < length text → closes q text ≡ false → part_at q text ≡ Err k → content q 0 text ≡ Err (k, 0)
content_refuses q [] k some unclosed read = absurd (omega arith)
content_refuses q (c ∷ cs) k some unclosed read = rw unclosed (rw read refl)

pub content_ends : (q : Style) (text : Chars) → 0 < length text → closes q text ≡ true → content q 0 text ≡ Ok ([], length (delimiter q))
content_ends q [] some closed = absurd (omega arith)
content_ends q (c ∷ cs) some closed = rw closed refl

-- one turn of the loop
pub literal_turn : (q : Style) (text points v : Chars) (at n : ℕ) → literal text ≡ blamed (before points (far at (content q 0 (drop at text)))) → at < length text → closes q (drop at text) ≡ false → 0 < n → n ≤ length (drop at text) → part_at q (drop at text) ≡ Ok (v, n) → literal text ≡ blamed (before (points ++ v) (far (at + n) (content q 0 (drop (at + n) text))))
literal_turn q text points v at n so_far room unclosed some within read =
    let here : 0 < length (drop at text) = omega (arith, length-drop at text) in
    let turn = content_turn q (drop at text) v n here unclosed some within read in
    so_far ∙ ap blamed
    (ap (λ r. before points (far at r)) turn
    ∙ ap (before points) (far-before at v _)
    ∙ before-before points v _
    ∙ ap (before (points ++ v)) (far-far at n _ ∙ ap (λ xs. far (at + n) (content q 0 xs)) (drop-drop n at text)))

pub literal_begins : (q : Style) (text points : Chars) (n : ℕ) → q ≡ style_at text → n ≡ length (opening q) → points ≡ [] → literal text ≡ blamed (before points (far n (content q 0 (drop n text))))
unfolding literal
literal_begins q text points n seen long none =
    ap (λ q. blamed (far (length (opening q)) (content q 0 (drop (length (opening q)) text)))) (sym seen)
    ∙ ap (λ n. blamed (far n (content q 0 (drop n text)))) (sym long)
    ∙ ap blamed (before-nil _ ∙ ap (λ v. before v (far n (content q 0 (drop n text)))) (sym none))
