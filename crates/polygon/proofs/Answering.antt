-- The answer where the spaces are long enough: what the plan gives, or zeros behind a fault.
use Rattle.std.proofs.Common.{◌≡◌, ℕ, ◌≤◌, true, false, ◌||◌, ltb, List, length, replicate, pos, is_err, Ok, Err, Result, sym, ap, ◌∙◌}
use Rattle.std.proofs.lemmas.Bool.{cond-true, cond-false, or_parts, ltb-false, false≢true, true≢false}
use Rattle.text.specs.declared.faults.Fault.{Fault}
use Rattle.text.specs.declared.faults.Ground.TheVariants.{Space}
use Rattle.text.specs.Faults.{fault}
use Rattle.plane.specs.Separation.{Point}
use Rattle.polygon.specs.declared.counts.Counts.{Counts}
use Rattle.maps.specs.declared.passage.Passage.{Passage}
use Rattle.polygon.specs.Plans.{nothing, Answer, refuses, planned, kept, cleared, short, answered}

pub long_enough : (a b c : ℕ) → short a b c ≡ false → (2048 ≤ a) × (1024 ≤ b) × (4096 ≤ c)
long_enough a b c e =
    let p = or_parts (ltb a 2048) (ltb b 1024 || ltb c 4096) e in
    let q = or_parts (ltb b 1024) (ltb c 4096) p.1 in
    (ltb-false a 2048 p.0, ltb-false b 1024 q.0, ltb-false c 4096 q.1)

module _ (t : List ℕ) (ds : List Passage) (ps : List Point) (ns : List ℕ) where
  pub short_so : short (length ds) (length ps) (length ns) ≡ true → answered t ds ps ns ≡ refuses (fault Space 0) ds ps ns
  short_so e = cond-true (short (length ds) (length ps) (length ns)) (refuses (fault Space 0) ds ps ns) (cleared t (length ds) (length ps) (length ns)) e

  module _ (a b c : ℕ) (ea : a ≡ length ds) (eb : b ≡ length ps) (ec : c ≡ length ns) (fits : short (length ds) (length ps) (length ns) ≡ false) where
    abbrev pub plan : Answer
    plan = planned t (replicate a nothing) (replicate b (pos 0, pos 0)) (replicate c 0)

    pub base : answered t ds ps ns ≡ kept plan.result plan.doorways plan.corners plan.numbers a b c
    base =
        cond-false (short (length ds) (length ps) (length ns)) (refuses (fault Space 0) ds ps ns) (cleared t (length ds) (length ps) (length ns)) fits
        ∙ (λ i. cleared t (sym ea i) (sym eb i) (sym ec i))

    pub err_so : (r : Result Counts Fault) → r ≡ plan.result → is_err r ≡ true → answered t ds ps ns ≡ record { result = r; doorways = replicate a nothing; corners = replicate b (pos 0, pos 0); numbers = replicate c 0 }
    err_so (Ok n) e f = absurd (false≢true f)
    err_so (Err x) e f = base ∙ ap (λ y. kept y plan.doorways plan.corners plan.numbers a b c) (sym e)

    pub ok_so : (r : Result Counts Fault) → r ≡ plan.result → is_err r ≡ false → answered t ds ps ns ≡ record { result = r; doorways = plan.doorways; corners = plan.corners; numbers = plan.numbers }
    ok_so (Ok n) e f = base ∙ ap (λ y. kept y plan.doorways plan.corners plan.numbers a b c) (sym e)
    ok_so (Err x) e f = absurd (true≢false f)
