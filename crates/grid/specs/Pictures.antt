-- A plan in the words of the picture format. Columns and rows count from 0; the picture's first row in the text is row 0.
--   ink bs           the bytes of bs that are no white space, in their order
--   Spaces bs        bs are white space, a byte at least
--   Odd n, Even n    n is odd, or even
--   Border s x y     column x or row y is the first or the last of a plan of size s
--   Colour s x y p   the colour p is right in column x and row y: a room, where both are odd, is open (0); the border, and where both
--                    are even, is wall (1); elsewhere either
--   Legal s ps       the plan of size s has one to 256 rooms, and each of its pixels ps, in reading order, has a right colour
--   Spelling t s ps  the text t spells a plan of size s with the pixels ps: the heading P1, white space, the width, white space, the height,
--                    and then the pixels as bytes 0 and 1, with white space before, between and behind them as one likes
--   Understood t sp r after
--                    what the answer r to the text t and the space sp says, and what the space holds after it.
--                    Short: a space of less than 1,539 bytes is refused, and stays as it was.
--                    Sound: where the answer is a size, the text spells a legal plan of that size, and the space holds its pixels and then zeros.
--                    Complete: a text of at most 60,000 bytes that spells a legal plan is accepted, given space enough.
--                    Refused: after any other refusal the space holds zeros.
use Rattle.std.specs.Prelude.{◌≡◌, ℕ, ◌+◌, ◌-◌, ◌*◌, ◌%◌, ◌<◌, ◌≤◌, cond, ◌⊎◌, List, [], ◌∷◌, ◌++◌, map, length, Ok, Err, Result, slice_index}
use Rattle.std.specs.List.{AllByRecursion}
use Rattle.text.specs.declared.faults.Fault.{Fault}
use Rattle.text.specs.declared.faults.Ground.TheVariants.{Space}
use Rattle.text.specs.Bytes.{White, white}
use Rattle.text.specs.Faults.{fault}
use Rattle.text.specs.Numerals.{Numeral, decimal, Ends}
use Rattle.grid.specs.declared.sizes.Size.{Size}
use Rattle.grid.specs.Sizes.{Roomy, across, area}
use Rattle.grid.specs.Plans.{zeros}

abbrev pub ink : List ℕ → List ℕ
ink [] = []
ink (b ∷ bs) = cond (white b) (ink bs) (b ∷ ink bs)

abbrev pub Spaces : List ℕ → Type 0
Spaces bs = AllByRecursion White bs × (0 < length bs)

abbrev pub Odd : ℕ → Type 0
Odd n = n % 2 ≡ 1

abbrev pub Even : ℕ → Type 0
Even n = n % 2 ≡ 0

abbrev pub Border : Size → ℕ → ℕ → Type 0
Border s x y = (x ≡ 0) ⊎ ((x ≡ 2 * s.w) ⊎ ((y ≡ 0) ⊎ (y ≡ 2 * s.h)))

abbrev pub Colour : Size → ℕ → ℕ → ℕ → Type 0
Colour s x y p = (Odd x → Odd y → p ≡ 0) × (Border s x y → p ≡ 1) × (Even x → Even y → p ≡ 1)

abbrev pub Legal : Size → List ℕ → Type 0
Legal s ps = Roomy s × ((x y : ℕ) → x < across s.w → y < across s.h → Colour s x y (slice_index ps (y * across s.w + x)))

pub record Spelling (t : List ℕ) (s : Size) (ps : List ℕ) : Type 0 where
  pub before : List ℕ
  pub wide : List ℕ
  pub between : List ℕ
  pub tall : List ℕ
  pub body : List ℕ
  pub split : t ≡ 80 ∷ (49 ∷ (before ++ (wide ++ (between ++ (tall ++ body)))))
  pub spaces : Spaces before × Spaces between
  pub width : Numeral wide × (decimal wide ≡ across s.w)
  pub height : Numeral tall × (decimal tall ≡ across s.h)
  pub ends : Ends body
  pub pixels : ink body ≡ map (λ p. 48 + p) ps
  pub bits : AllByRecursion (λ p. p < 2) ps
  pub count : length ps ≡ area s

pub record Understood (t sp : List ℕ) (r : Result Size Fault) (after : List ℕ) : Type 0 where
  pub short : length sp < 1539 → (r ≡ Err (fault Space 0)) × (after ≡ sp)
  pub sound : (s : Size) → r ≡ Ok s → (ps : List ℕ) × Spelling t s ps × Legal s ps × (length t ≤ 60000) × (1539 ≤ length sp) × (after ≡ ps ++ zeros (length sp - area s))
  pub complete : (s : Size) (ps : List ℕ) → Spelling t s ps → Legal s ps → length t ≤ 60000 → 1539 ≤ length sp → (r ≡ Ok s) × (after ≡ ps ++ zeros (length sp - area s))
  pub refused : (f : Fault) → r ≡ Err f → 1539 ≤ length sp → after ≡ zeros (length sp)
