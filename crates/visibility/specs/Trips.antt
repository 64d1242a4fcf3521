-- Walks as they are asked about.
--   Trip   a walk: its doorways, the room that it leads to, its path
use Rattle.std.specs.Prelude.{ℕ, List}
use Rattle.plane.specs.declared.quad.Quad.{Quad}

pub record Trip : Type 0 where
  pub doors : List ℕ
  pub room : ℕ
  pub path : List Quad
