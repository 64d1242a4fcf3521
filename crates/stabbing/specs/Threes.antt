-- Three neighbouring crossings at a time: Wedge's set, and its laws.
use Rattle.std.proofs.Common.{◌≡◌, ◌<◌, ◌≤◌, true, false, cond, ltb, List, [], ◌∷◌, ◌++◌, length, take, drop, is_some, Decides, refl, ap, ◌∙◌, subst, arith, length-append, take_all}
use Rattle.std.specs.List.{AllByRecursion}
use Rattle.std.proofs.ByRecursion.{All-weaker, Decides-by_and}
use Rattle.std.proofs.Math.Bool.{and-true}
use Rattle.std.proofs.lemmas.Bool.{ltb-false, ltb-true, le-ltb, lt-ltb}
use Rattle.std.proofs.lemmas.Bool.Decides.{Decides-and, Decides-like}
use Rattle.plane.specs.declared.quad.Quad.{Quad}
use Rattle.plane.specs.Limits.{Crosses, Path}
use Rattle.plane.specs.Separation.{Parts, Stabbed}
use Rattle.plane.specs.Tests.{is_path}
use Rattle.plane.proofs.Lists.{all_both}
use Rattle.plane.proofs.Tests.{is_path_decides}
use Rattle.stabbing.specs.Exact.{exact_line}
use Rattle.stabbing.specs.Wedge.{all_stabbed, neighbours, threes, wedge_lets}
use Rattle.stabbing.specs.Found.{exact_decides}
use Rattle.stabbing.specs.Fronts.{path_front, stabbed_front}

-- one turn of the loop over the places of a path
pub neighbours_more : (p : List Quad) → 3 ≤ length p → neighbours p ≡ take 3 p ∷ neighbours (drop 1 p)
neighbours_more [] h = absurd (omega arith)
neighbours_more (a ∷ []) h = absurd (omega arith)
neighbours_more (a ∷ b ∷ []) h = absurd (omega arith)
neighbours_more (a ∷ b ∷ c ∷ p) h = refl

pub neighbours_none : (p : List Quad) → length p < 3 → neighbours p ≡ []
neighbours_none [] h = refl
neighbours_none (a ∷ []) h = refl
neighbours_none (a ∷ b ∷ []) h = refl
neighbours_none (a ∷ b ∷ c ∷ p) h = absurd (omega arith)

-- a predicate of crossings holds of each three where it holds of all
each_three : (P : Quad → Type 0) (p : List Quad) → AllByRecursion P p → AllByRecursion (λ w. (length w ≤ 3) × AllByRecursion P w) (neighbours p)
each_three P [] h = tt
each_three P (a ∷ []) h = tt
each_three P (a ∷ b ∷ []) h = tt
each_three P (a ∷ b ∷ c ∷ p) (x, (y, (z, h))) = ((omega arith, (x, (y, (z, tt)))), each_three P (b ∷ c ∷ p) (y, (z, h)))

-- each three of a path is a path, and has the path's line
pub path_threes : (p : List Quad) → Path p → AllByRecursion Path (neighbours p)
path_threes p (few, h) = All-weaker _ Path (λ w k. (omega arith, k.1)) (neighbours p) (each_three Crosses p h)

stabbed_threes : (p : List Quad) → Stabbed p → AllByRecursion Stabbed (neighbours p)
stabbed_threes p (l, proper, h) = All-weaker _ Stabbed (λ w k. (l, proper, k.1)) (neighbours p) (each_three (Parts l) p h)

-- the tests of all threes
pub all_stabbed_decides : (ps : List (List Quad)) → Decides (all_stabbed ps) (AllByRecursion (λ w. Path w × Stabbed w) ps)
all_stabbed_decides ps = Decides-by_and (λ w. is_some (exact_line w)) (λ w. Path w × Stabbed w) all_stabbed exact_decides refl (λ _ _. refl) ps

-- by length
module _ (p : List Quad) where
  pub threes_short : length p < 3 → threes p ≡ p ∷ []
  threes_short h = rw (lt-ltb (length p) 3 h) refl

  pub stabbed_short : length p < 3 → all_stabbed (threes p) ≡ is_some (exact_line p)
  stabbed_short h = ap all_stabbed (threes_short h) ∙ and-true (is_some (exact_line p))

  pub threes_long : 3 ≤ length p → threes p ≡ neighbours p
  threes_long h = rw (le-ltb (length p) 3 h) refl

  -- what holds of the threes
  pub of_threes : (Q : List (List Quad) → Type 0) → (length p < 3 → Q (p ∷ [])) → (3 ≤ length p → Q (neighbours p)) → Q (threes p)
  of_threes Q short long =
      elim (ltb (length p) 3) as (λ b. (b ≡ true → Q (p ∷ [])) → (b ≡ false → Q (neighbours p)) → Q (cond b (p ∷ []) (neighbours p))) [
        | true ↦ λ s _. s refl
        | false ↦ λ _ l. l refl
      ] (λ e. short (ltb-true (length p) 3 e)) (λ e. long (ltb-false (length p) 3 e))

-- Wedge's set: the paths of which each three have a separating line
pub wedge_decides : (p : List Quad) → Decides (wedge_lets p) (Path p × AllByRecursion Stabbed (threes p))
unfolding wedge_lets
wedge_decides p =
    Decides-like _ (λ h. (h.0, All-weaker _ Stabbed (λ w k. k.1) (threes p) h.1)) (λ h. (h.0, all_both Path Stabbed (threes p) (paths h.0) h.1))
    (Decides-and (is_path p) (all_stabbed (threes p)) (is_path_decides p) (all_stabbed_decides (threes p)))
  where
    paths : Path p → AllByRecursion Path (threes p)
    paths h = of_threes p (AllByRecursion Path) (λ _. (h, tt)) (λ _. path_threes p h)

pub wedge_has : (p : List Quad) → Path p → Stabbed p → wedge_lets p ≡ true
wedge_has p path s = (wedge_decides p).1 (path, of_threes p (AllByRecursion Stabbed) (λ _. (s, tt)) (λ _. stabbed_threes p s))

neighbours_front : (P : List Quad → Type 0) (p r : List Quad) → AllByRecursion P (neighbours (p ++ r)) → AllByRecursion P (neighbours p)
neighbours_front P [] r h = tt
neighbours_front P (a ∷ []) r h = tt
neighbours_front P (a ∷ b ∷ []) r h = tt
neighbours_front P (a ∷ b ∷ c ∷ p) r (x, h) = (x, neighbours_front P (b ∷ c ∷ p) r h)

-- a short path has the line of the longer one
short_front : (p : List Quad) (q : Quad) → length p < 3 → AllByRecursion Stabbed (threes (p ++ q ∷ [])) → Stabbed p
short_front p q h s =
    let long : List Quad = p ++ q ∷ [] in
    stabbed_front p (q ∷ []) (of_threes long (λ ws. AllByRecursion Stabbed ws → Stabbed long) (λ _ k. k.0) three s)
  where
    three : 3 ≤ length (p ++ q ∷ []) → AllByRecursion Stabbed (neighbours (p ++ q ∷ [])) → Stabbed (p ++ q ∷ [])
    three l k =
        let long : List Quad = p ++ q ∷ [] in
        let whole : take 3 long ≡ long = take_all 3 long (omega (arith, length-append p (q ∷ []))) in
        subst Stabbed whole (subst (AllByRecursion Stabbed) (neighbours_more long l) k).0

pub wedge_front : (p : List Quad) (q : Quad) → wedge_lets (p ++ q ∷ []) ≡ true → wedge_lets p ≡ true
wedge_front p q e =
    let h = (wedge_decides (p ++ q ∷ [])).0 e in
    (wedge_decides p).1 (
      path_front p (q ∷ []) h.0,
      of_threes p (AllByRecursion Stabbed) (λ s. (short_front p q s h.1, tt)) (λ l. neighbours_front Stabbed p (q ∷ []) (subst (AllByRecursion Stabbed) (threes_long (p ++ q ∷ []) (omega (arith, length-append p (q ∷ [])))) h.1)),
    )
