use Rattle.std.proofs.Common.{◌≡◌, ℕ, List, [], ◌∷◌, ◌++◌, codes, sym, ◌∙◌, append_assoc}
use Rattle.std.specs.Str.{chars}
use Rattle.chex_report.specs.Headers.{header_of}
use Rattle.chex_report.proofs.headers.header.Goals as goal

-- the pieces make the line
in_pieces : (name : List ℕ) → (chars (codes "== ") ++ name) ++ chars (codes " ==" ++ 10 ∷ []) ≡ header_of name
unfolding chars
in_pieces name = sym (append_assoc (codes "== " ++ name) (codes " ==") (10 ∷ []))

pub returns : goal.returns
returns c =
    c.in_ok-push_str.ensures.ok ∙ rw (c.in_ok-push_text.ensures.ok, c.in_ok-text.ensures.points) (in_pieces c.args.name.now)
