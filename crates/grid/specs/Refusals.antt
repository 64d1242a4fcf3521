-- Why a text is refused, and where, in the words of the picture format. The text from the place p on is `drop p t`.
--   Headed t          t begins with P1 and white space
--   Side v            v is the width or height of a room at least: odd, and 3 at least
--   Sized t s at      t gives the size s, and its pixels begin at the place at
--   Begun t s at ps p from the place at on the text spells the pixels ps, all of right colours, and p is the place behind them
--   Faulty t f        f is the first fault of the text t in reading order.
--                     bare: the heading ends the text. headless: it begins in any other way.
--                     bad_width, bad_height: the number is not spelt right. wrong_width, wrong_height: its value is off limits, or their product is.
--                     few: the text ends before its last pixel. stray: the next byte is no pixel. miscoloured: the next pixel has a wrong colour.
--                     left_over: something stands behind the last pixel.
--   Blamed t sp r     where the space sp is long enough, a fault that is answered is that the text t has more than 60,000 bytes;
--                     or it has not, and the fault is its first one
use Rattle.std.specs.Prelude.{◌≡◌, ℕ, ◌+◌, ◌*◌, ◌/◌, ◌%◌, ◌<◌, ◌≤◌, false, ◌⊎◌, List, [], ◌∷◌, ◌++◌, map, length, drop, Some, Err, Result, ◌≢◌, slice_index}
use Rattle.std.specs.List.{AllByRecursion}
use Rattle.text.specs.declared.faults.Fault.{Fault}
use Rattle.text.specs.declared.faults.Ground.TheVariants.{Stray, Early, Heading, Limits, Over, Colour as Miscoloured}
use Rattle.text.specs.Bytes.{White}
use Rattle.text.specs.Faults.{fault}
use Rattle.text.specs.Marks.{Found}
use Rattle.text.specs.Numerals.{Ends, Plain, Reads}
use Rattle.grid.specs.declared.sizes.Size.{Size}
use Rattle.grid.specs.Sizes.{Roomy, across, area}
use Rattle.grid.specs.Pictures.{ink, Colour}

abbrev pub Headed : List ℕ → Type 0
Headed t = (t ≡ 80 ∷ (49 ∷ drop 2 t)) × Ends (drop 2 t) × (0 < length (drop 2 t))

abbrev pub Side : ℕ → Type 0
Side v = (w : ℕ) × (1 ≤ w) × (v ≡ across w)

pub record Sized (t : List ℕ) (s : Size) (at : ℕ) : Type 0 where
  pub headed : Headed t
  pub middle : ℕ
  pub wide : Plain (drop 2 t) (across s.w) (drop middle t)
  pub tall : Plain (drop middle t) (across s.h) (drop at t)
  pub roomy : Roomy s

pub record Begun (t : List ℕ) (s : Size) (at : ℕ) (ps : List ℕ) (p : ℕ) : Type 0 where
  pub front : List ℕ
  pub split : drop at t ≡ front ++ drop p t
  pub pixels : ink front ≡ map (λ p. 48 + p) ps
  pub bits : AllByRecursion (λ p. p < 2) ps
  pub right : (k : ℕ) → k < length ps → Colour s (k % across s.w) (k / across s.w) (slice_index ps k)

pub data Faulty (t : List ℕ) (f : Fault) : Type 0 where
  bare : t ≡ 80 ∷ (49 ∷ []) → f ≡ fault Early (length t) → Faulty t f
  headless : (Headed t → ⊥) → (t ≢ 80 ∷ (49 ∷ [])) → f ≡ fault Heading 0 → Faulty t f
  bad_width : Headed t → (p : ℕ) → Reads false (length t) 2 (drop 2 t) (record { result = Err f; at = p }) → Faulty t f
  wrong_width : Headed t → (v q : ℕ) (n : Plain (drop 2 t) v (drop q t)) → (Side v → ⊥) → f ≡ fault Limits (2 + length n.ws) → Faulty t f
  bad_height : Headed t → (w q : ℕ) → 1 ≤ w → Plain (drop 2 t) (across w) (drop q t) → (p : ℕ) → Reads false (length t) q (drop q t) (record { result = Err f; at = p }) → Faulty t f
  wrong_height : Headed t → (w q : ℕ) → 1 ≤ w → Plain (drop 2 t) (across w) (drop q t) → (v p : ℕ) (n : Plain (drop q t) v (drop p t))
      → (Side v → ⊥) ⊎ ((h : ℕ) × (v ≡ across h) × (256 < w * h)) → f ≡ fault Limits (q + length n.ws) → Faulty t f
  few : (s : Size) (at : ℕ) → Sized t s at → (ps : List ℕ) (p : ℕ) → Begun t s at ps p → length ps < area s → AllByRecursion White (drop p t) → f ≡ fault Early (length t) → Faulty t f
  stray : (s : Size) (at : ℕ) → Sized t s at → (ps : List ℕ) (p : ℕ) → Begun t s at ps p → length ps < area s
      → (b q next : ℕ) → Found t p (Some (b, q)) next → (b ≢ 48) → (b ≢ 49) → f ≡ fault Stray q → Faulty t f
  miscoloured : (s : Size) (at : ℕ) → Sized t s at → (ps : List ℕ) (p : ℕ) → Begun t s at ps p → length ps < area s
      → (c q next : ℕ) → Found t p (Some (48 + c, q)) next → c < 2 → (Colour s (length ps % across s.w) (length ps / across s.w) c → ⊥) → f ≡ fault Miscoloured q → Faulty t f
  left_over : (s : Size) (at : ℕ) → Sized t s at → (ps : List ℕ) (p : ℕ) → Begun t s at ps p → length ps ≡ area s
      → (b q next : ℕ) → Found t p (Some (b, q)) next → f ≡ fault Over q → Faulty t f

abbrev pub Blamed : List ℕ → List ℕ → Result Size Fault → Type 0
Blamed t sp r =
    (f : Fault) → r ≡ Err f → 1539 ≤ length sp → ((60000 < length t) × (f ≡ fault Limits 60000)) ⊎ ((length t ≤ 60000) × Faulty t f)
