-- Answers that are there or not.
use Rattle.std.proofs.Common.{◌≡◌, Bool, true, false, cond, ◌⊎◌, is_some, IfSome, Some, None, Option, refl, inl, inr}
use Rattle.std.specs.Option.{option_map, option_or}
use Rattle.std.proofs.lemmas.Bool.{false≢true}
use Rattle.std.proofs.lemmas.Option.{none-some}

module _ {X : Type 0} where
  -- an answer under a test
  pub under : (b : Bool) (o : Option X) (x : X) → cond b o None ≡ Some x → (b ≡ true) × (o ≡ Some x)
  under true o x e = (refl, e)
  under false o x e = absurd (none-some x e)

  -- a line that both let through is the back's
  pub backs : (b : Bool) (o : Option X) (x : X) → cond b o None ≡ Some x → o ≡ Some x
  backs b o x e = (under b o x e).1

  pub some_value : (o : Option X) → is_some o ≡ true → (x : X) × (o ≡ Some x)
  some_value None e = absurd (false≢true e)
  some_value (Some x) e = (x, refl)

  pub some_left : (a b : Option X) → is_some a ≡ true → is_some (option_or a b) ≡ true
  some_left None b h = absurd (false≢true h)
  some_left (Some x) b h = refl

  pub some_right : (a b : Option X) → is_some b ≡ true → is_some (option_or a b) ≡ true
  some_right None b h = h
  some_right (Some x) b h = refl

  -- the answer of one of two
  pub either : (a b : Option X) (x : X) → option_or a b ≡ Some x → (a ≡ Some x) ⊎ (b ≡ Some x)
  either None b x e = inr e
  either (Some y) b x e = inl e

  pub some_mapped : {Y : Type 0} (f : X → Y) (o : Option X) → is_some o ≡ is_some (option_map f o)
  some_mapped f None = refl
  some_mapped f (Some x) = refl

  -- what holds of each answer that there may be
  pub if_some : (P : X → Type 0) (o : Option X) → ((x : X) → o ≡ Some x → P x) → IfSome o P
  if_some P None h = tt
  if_some P (Some x) h = h x refl
