use Rattle.std.proofs.Common.{◌≡◌, ℕ, List, [], ◌∷◌, ◌++◌, decimal, remove, sym, ap, ◌∙◌, arith}
use Rattle.visibility.specs.Bitmaps.{heading}
use Rattle.visibility.proofs.Decimals.{one_digit, two_digits, three_digits}
use Rattle.visibility.proofs.bitmap.heading.Goals as goal

-- the heading of a number with these digits
headed : (n : ℕ) (ds : List ℕ) → decimal n ≡ ds → 80 ∷ 52 ∷ 10 ∷ (ds ++ 32 ∷ (ds ++ 10 ∷ [])) ≡ heading n
unfolding heading
headed n ds e = ap (λ (x : List ℕ). 80 ∷ 52 ∷ 10 ∷ (x ++ 32 ∷ (x ++ 10 ∷ []))) (sym e)

pub returns-then-n-ge100 : goal.returns-then-n-ge100
returns-then-n-ge100 c = c.from-text.ensures.0 ∙ headed c.args.n _ (three_digits c.args.n (omega arith) (omega arith))

pub returns-then-n-ge10 : goal.returns-then-n-ge10
returns-then-n-ge10 c =
    c.remove-2.ensures.items
    ∙ ap (λ (v : List ℕ). remove v 3) (c.remove.ensures.items ∙ ap (λ (v : List ℕ). remove v 7) c.from-text.ensures.0)
    ∙ headed c.args.n _ (two_digits c.args.n (omega arith) (omega arith))

pub returns : goal.returns
returns c =
    c.remove-4.ensures.items
    ∙ ap (λ (v : List ℕ). remove v 3) (c.remove-3.ensures.items ∙ ap (λ (v : List ℕ). remove v 6) (c.remove-2.ensures.items
    ∙ ap (λ (v : List ℕ). remove v 3) (c.remove.ensures.items ∙ ap (λ (v : List ℕ). remove v 7) c.from-text.ensures.0)))
    ∙ headed c.args.n _ (one_digit c.args.n (omega arith))
