-- The first of a list that passes a test.
--   first t xs         the first element that passes t, or nothing
--   first_place t xs   its place, or nothing
use Rattle.std.specs.Prelude.{ℕ, Bool, cond, List, [], ◌∷◌, Some, None, Option}
use Rattle.std.specs.List.{position_from}

abbrev pub first : {X : Type 0} → (X → Bool) → List X → Option X
first t [] = None
first t (x ∷ xs) = cond (t x) (Some x) (first t xs)

abbrev pub first_place : {X : Type 0} → (X → Bool) → List X → Option ℕ
first_place t xs = position_from t 0 xs
