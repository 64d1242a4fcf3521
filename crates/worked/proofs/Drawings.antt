-- What a reader accepts is drawn: the space then holds a plan.
use Rattle.std.proofs.Common.{◌≡◌, ℕ, zero, suc, ◌-◌, ◌<◌, List, [], ◌∷◌, ◌++◌, length, get_or, Ok, sym, refl, subst, zero-add, arith, length-append}
use Rattle.std.specs.List.{AllByRecursion}
use Rattle.std.proofs.lemmas.List.{get_or_append_left}
use Rattle.grid.specs.declared.sizes.Size.{Size}
use Rattle.grid.specs.Doorways.{Drawn, column, row}
use Rattle.grid.specs.Pictures.{Colour, Legal, Spelling}
use Rattle.grid.specs.Plans.{answered, zeros}
use Rattle.grid.specs.Sizes.{area}
use Rattle.grid.proofs.Meanings.{understands}
use Rattle.grid.proofs.Paintings.{Right}
use Rattle.grid.proofs.Places.{legal_rights, rights_at}

bit_at : (ps : List ℕ) (k : ℕ) → AllByRecursion (λ p. p < 2) ps → k < length ps → get_or ps k 0 < 2
bit_at [] k h l = absurd (omega arith)
bit_at (p ∷ ps) zero h l = h.0
bit_at (p ∷ ps) (suc k) h l = bit_at ps k h.1 (omega arith)

legal_drawn : (t : List ℕ) (s : Size) (ps zs : List ℕ) → Spelling t s ps → Legal s ps → Drawn s (ps ++ zs)
legal_drawn t s ps zs spelt legal = (
  legal.0,
  omega (arith, length-append ps zs, spelt.count),
  λ k l.
      let low : k < length ps = omega (arith, spelt.count) in
      let same = sym (get_or_append_left ps zs 0 k low) in
      let right : Right s k (get_or ps k 0) =
      subst (λ j. Right s j (get_or ps k 0)) (zero-add k) (rights_at s ps 0 (legal_rights s ps legal spelt.bits spelt.count) k low) in
      (subst (λ p. p < 2) same (bit_at ps k spelt.bits low), subst (λ p. Colour s (column s k) (row s k) p) same right),
)

pub drawn_read : (t sp : List ℕ) (s : Size) → (answered t sp).result ≡ Ok s → Drawn s (answered t sp).space
drawn_read t sp s e =
    let (ps, spelt, legal, few, long, after) = (understands t sp (answered t sp).result (answered t sp).space refl refl).sound s e in
    subst (Drawn s) (sym after) (legal_drawn t s ps (zeros (length sp - area s)) spelt legal)
