-- The theorem of two posts: if any line separates a path, then so does the line through some two different posts of it.
-- Let l separate the path, and let P be the left post at which l has the least value. The spokes of P are the lines from
-- P to each left post and from each right post to P. None of them runs to the right of l, and the most clockwise of them
-- has all the others on its left: it separates the path.
--   Spoke          two points, the ends of a spoke
--   line s         the line through them
--   spokes P p     the spokes of P, crossing by crossing
--   Drawn p P s    the ends of s are posts of p, and its line goes through P
--   Crossed p l q  the posts of q are posts of p, and l parts q
--   Answer p m     the line through some two different posts of p separates p, and goes through the left post of m
use Rattle.std.proofs.Common.{◌≡◌, List, [], ◌∷◌, pos, ◌≤ℤ◌, sym, refl, arith}
use lib.Signed.{≤ℤ_refl}
use Rattle.std.specs.List.{ContainsAt as Has, AllByRecursion}
use Rattle.std.proofs.ByRecursion.{All-weaker, all_has_itself}
use Rattle.plane.specs.declared.quad.Quad.{Quad}
use Rattle.plane.specs.Separation.{Point, Coefficients, Proper, value, left, right, Apart, Parts, Separates, Stabbed}
use Rattle.plane.specs.Lines.{posts, through, TwoPosts}
use Rattle.plane.proofs.Integers.{linear}
use Rattle.plane.proofs.Lists.{all_both, least}
use Rattle.plane.proofs.Directions.{value_grows, at_start, at_end, through_proper, through_apart}
use Rattle.plane.proofs.Clockwise.{Left, clockmost}

abbrev Spoke : Type 0
Spoke = Point × Point

abbrev line : Spoke → Coefficients
line s = through s.0 s.1

spokes : Point → List Quad → List Spoke
spokes P [] = []
spokes P (q ∷ p) = (P, left q) ∷ (right q, P) ∷ spokes P p

abbrev Drawn : List Quad → Point → Spoke → Type 0
Drawn p P s = Has (posts p) s.0 × Has (posts p) s.1 × (value (line s) P ≡ pos 0)

abbrev Crossed : List Quad → Coefficients → Quad → Type 0
Crossed p l q = (Has (posts p) (left q) × Has (posts p) (right q)) × Parts l q

abbrev pub Answer : List Quad → Quad → Type 0
Answer p m =
    (P : Point) × (Q : Point) × Has (posts p) P × Has (posts p) Q × (P ≡ Q → ⊥) × Separates (through P Q) p
    × (value (through P Q) (left m) ≡ pos 0)

-- what holds of each post, or of each spoke, holds crossing by crossing
by_post : (E : Point → Type 0) (p : List Quad) → AllByRecursion E (posts p) → AllByRecursion (λ q. E (left q) × E (right q)) p
by_post E [] h = tt
by_post E (q ∷ p) (l, (r, h)) = ((l, r), by_post E p h)

by_spoke : (E : Spoke → Type 0) (P : Point) (p : List Quad) → AllByRecursion E (spokes P p) → AllByRecursion (λ q. E (P, left q) × E (right q, P)) p
unfolding spokes
by_spoke E P [] h = tt
by_spoke E P (q ∷ p) (l, (r, h)) = ((l, r), by_spoke E P p h)

to_spokes : (E : Spoke → Type 0) (P : Point) (p : List Quad) → AllByRecursion (λ q. E (P, left q) × E (right q, P)) p → AllByRecursion E (spokes P p)
unfolding spokes
to_spokes E P [] h = tt
to_spokes E P (q ∷ p) ((l, r), h) = (l, (r, to_spokes E P p h))

-- neither spoke of a crossing runs to the right of a line l that parts it, if l is at P at least 0 and at most its value
-- at the left post
spokes_left : (l : Coefficients) (P : Point) (q : Quad) → pos 0 ≤ℤ value l P → value l P ≤ℤ value l (left q) → Parts l q →
    Left l (through P (left q)) × Left l (through (right q) P)
spokes_left l P q h k parts = omega (arith, linear, value_grows l P (left q), value_grows l (right q) P)

-- a line through P parts a crossing if neither of its spokes runs to the right of the line
parted : (k : Coefficients) (P : Point) → value k P ≡ pos 0 → (q : Quad) →
    Left k (through P (left q)) × Left k (through (right q) P) → Parts k q
parted k P e q h = omega (arith, linear, value_grows k P (left q), value_grows k (right q) P)

-- the two spokes of a crossing of p
drawn : (p : List Quad) (l : Coefficients) (P : Point) → Has (posts p) P → pos 0 ≤ℤ value l P → (q : Quad) →
    Crossed p l q × (value l P ≤ℤ value l (left q)) →
    (Drawn p P (P, left q) × Left l (through P (left q))) × (Drawn p P (right q, P) × Left l (through (right q) P))
drawn p l P has h q (((has_left, has_right), parts), k) =
    let turns = spokes_left l P q h k parts in
    (((has, has_left, at_start P (left q)), turns.0), ((has_right, has, at_end (right q) P), turns.1))

-- the most clockwise spoke of a left post of least value gives the answer; its own right post gives a proper spoke
from_least : (p : List Quad) (l : Coefficients) → Proper l → (m : Quad) → Apart m → Crossed p l m →
    AllByRecursion (λ q. Crossed p l q × (value l (left m) ≤ℤ value l (left q))) p → Answer p m
from_least p l proper m apart (has, parts) h =
    let P : Point = left m in
    let both = drawn p l P has.0 parts.0 in
    let own = (both m ((has, parts), ≤ℤ_refl (value l P))).1 in
    let all = to_spokes (λ s. Drawn p P s × Left l (line s)) P p (All-weaker _ _ both p h) in
    let real = through_proper (right m) P (λ e. apart (sym e)) in
    let most = clockmost l proper line (Drawn p P) (right m, P) real (spokes P p) (own, all) in
    let (s, (from, to, on), _, real', (_, around)) = most in
    (s.0, s.1, from, to, through_apart s.0 s.1 real', All-weaker _ _ (parted (line s) P on) p (by_spoke _ P p around), on)

-- a path that is not empty has a left post of least value, which keeps what holds of each crossing
pub through_left : (E : Quad → Type 0) (p : List Quad) → (p ≡ [] → ⊥) → AllByRecursion Apart p → Stabbed p → AllByRecursion E p →
    (m : Quad) × E m × Answer p m
through_left E [] not_empty apart stabbed holds = absurd (not_empty refl)
through_left E (q ∷ p) not_empty apart (l, proper, separates) holds =
    let path : List Quad = q ∷ p in
    let crossed = all_both _ _ path (by_post (Has (posts path)) path (all_has_itself (posts path))) separates in
    let each = all_both _ _ path (all_both _ _ path holds apart) crossed in
    let (m, ((e, a), c), low) = least (λ r. value l (left r)) (λ r. (E r × Apart r) × Crossed path l r) q p each in
    (m, e, from_least path l proper m a c (all_both _ _ path crossed low))

pub two_posts : TwoPosts
two_posts p not_empty apart stabbed =
    let (_, _, (P, Q, from, to, two, separates, _)) = through_left Apart p not_empty apart stabbed apart in
    (P, Q, from, to, two, separates)
