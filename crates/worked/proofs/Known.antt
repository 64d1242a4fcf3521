-- Doorways of which the six numbers are known.
--   Fair p        what keeps the doorway p within the limits
--   doorway p g   the doorway with the numbers p
--   doorways ps gs   a list of them
use Rattle.std.proofs.Common.{◌≡◌, ℕ, ◌≤◌, List, [], ◌∷◌, map, ℤ, nat_abs, refl, ap, subst, ap₂}
use Rattle.std.specs.List.{AllByRecursion}
use Rattle.maps.specs.declared.doorway.Doorway.{Doorway}
use Rattle.maps.specs.declared.passage.Passage.{Passage}
use Rattle.maps.specs.Passages.{plain, Joins}

pub record Fair (p : Passage) : Type 0 where
  pub lx : nat_abs p.left_x ≤ 10000
  pub ly : nat_abs p.left_y ≤ 10000
  pub rx : nat_abs p.right_x ≤ 10000
  pub ry : nat_abs p.right_y ≤ 10000
  pub posts : p.left_x ≡ p.right_x → p.left_y ≡ p.right_y → ⊥
  pub rooms : p.near ≡ p.far → ⊥

abbrev pub doorway : (p : Passage) → Fair p → Doorway
doorway p g =
    record {
      near = p.near;
      far = p.far;
      crossing = record {
        left = record { x = p.left_x; y = p.left_y; x_within = g.lx; y_within = g.ly };
        right = record { x = p.right_x; y = p.right_y; x_within = g.rx; y_within = g.ry };
        apart = g.posts;
      };
      apart = g.rooms;
    }

abbrev pub doorways : (ps : List Passage) → AllByRecursion Fair ps → List Doorway
doorways [] gs = []
doorways (p ∷ ps) gs = doorway p gs.0 ∷ doorways ps gs.1

fair : (d : Doorway) → Fair (plain d)
fair d =
    record {
      lx = d.crossing.left.x_within;
      ly = d.crossing.left.y_within;
      rx = d.crossing.right.x_within;
      ry = d.crossing.right.y_within;
      posts = d.crossing.apart;
      rooms = d.apart;
    }

all_fair : (ds : List Doorway) → AllByRecursion Fair (map plain ds)
all_fair [] = tt
all_fair (d ∷ ds) = (fair d, all_fair ds)

-- their numbers are ps
pub plain_doorways : (ps : List Passage) (gs : AllByRecursion Fair ps) → map plain (doorways ps gs) ≡ ps
plain_doorways [] gs = refl
plain_doorways (p ∷ ps) gs = ap (λ (qs : List Passage). p ∷ qs) (plain_doorways ps gs.1)

-- a doorway that joins two rooms is within the limits
pub joins_fair : (n : ℕ) (p : Passage) → Joins n p → Fair p
joins_fair n p (near, far, differ, (left, right, apart)) =
    record {
      lx = left.0;
      ly = left.1;
      rx = right.0;
      ry = right.1;
      posts = λ x y. apart (ap₂ (λ (u v : ℤ). (u, v)) x y);
      rooms = differ;
    }

rebuilt : (ds : List Doorway) → doorways (map plain ds) (all_fair ds) ≡ ds
unfolding all_fair fair
rebuilt [] = refl
rebuilt (d ∷ ds) = ap (λ (es : List Doorway). d ∷ es) (rebuilt ds)

-- what holds of every list with the numbers ps holds of each list of doorways that has them
pub known :
    (C : List Doorway → Type 0) (ps : List Passage) → ((gs : AllByRecursion Fair ps) → C (doorways ps gs)) → (ds : List Doorway) → map plain ds ≡ ps
    → C ds
known C ps h ds e =
    subst (λ (qs : List Passage). ((gs : AllByRecursion Fair qs) → C (doorways qs gs)) → C ds) e (λ f. subst C (rebuilt ds) (f (all_fair ds))) h
