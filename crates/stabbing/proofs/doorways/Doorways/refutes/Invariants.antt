use Rattle.std.proofs.Common.{◌≡◌, pos}
use Rattle.std.specs.List.{ContainsAt as Has}
use Rattle.plane.specs.declared.quad.Quad.{Quad}
use Rattle.plane.specs.Separation.{Coefficients, Proper, Separates, value}
use Rattle.plane.specs.Shapes.{place}
use Rattle.stabbing.specs.Spans.{Fits}
use Rattle.stabbing.proofs.doorways.Doorways.refutes.Given as goal

abbrev pub invariant-loop-far : goal.invariant-loop-far
invariant-loop-far s = record {
  left : (q : Quad) → Has s.far-iterator.iter.rest.now q → Has s.self.list.now q;
  fits : (l : Coefficients) → Proper l → value l (place s.p) ≡ pos 0 → Separates l s.self.list.now → Fits l s.span;
}
