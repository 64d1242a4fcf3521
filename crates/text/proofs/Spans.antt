-- The longest front of a list of which a test holds.
use Rattle.std.proofs.Common.{◌≡◌, ℕ, zero, suc, ◌≤◌, ◌⊎◌, List, [], ◌∷◌, ◌++◌, length, None, sym, refl, ap, inl, inr, arith}
use Rattle.std.specs.List.{slice_get, AllByRecursion}
use Rattle.std.proofs.lemmas.Option.{none-some}

abbrev pub Not : (ℕ → Type 0) → List ℕ → Type 0
Not P [] = Unit {0}
Not P (b ∷ bs) = P b → ⊥

pub record Span (P : ℕ → Type 0) (bs : List ℕ) : Type 0 where
  pub front : List ℕ
  pub rest : List ℕ
  pub split : bs ≡ front ++ rest
  pub all : AllByRecursion P front
  pub stops : Not P rest

pub span : (P : ℕ → Type 0) → ((b : ℕ) → P b ⊎ (P b → ⊥)) → (bs : List ℕ) → Span P bs
span P dec [] = record { front = []; rest = []; split = refl; all = tt; stops = tt }
span P dec (b ∷ bs) = go (dec b) (span P dec bs)
  where
    go : P b ⊎ (P b → ⊥) → Span P bs → Span P (b ∷ bs)
    go (inl h) s = record { front = b ∷ s.front; rest = s.rest; split = ap (λ l. b ∷ l) s.split; all = (h, s.all); stops = s.stops }
    go (inr h) s = record { front = []; rest = b ∷ bs; split = refl; all = tt; stops = h }

-- a place where a list has nothing is past its end
pub none_past : {X : Type 0} (xs : List X) (i : ℕ) → slice_get xs i ≡ None → length xs ≤ i
none_past [] i e = omega arith
none_past (x ∷ xs) zero e = absurd (none-some x (sym e))
none_past (x ∷ xs) (suc i) e = omega (arith, none_past xs i e)
