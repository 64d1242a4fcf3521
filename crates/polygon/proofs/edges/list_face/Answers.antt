use Rattle.std.proofs.Common.{[], ◌∷◌, ◌++◌, length, sym, ap, ◌∙◌, lit<, arith, length-append}
use Rattle.std.proofs.lemmas.List.{append-nil}
use Rattle.polygon.specs.Edges.{edges_to}
use Rattle.polygon.proofs.Listing.{edges_none, one_edge, face_edges}
use Rattle.polygon.proofs.edges.list_face.Goals as goal

pub loop-i-init : goal.loop-i-init
loop-i-init c = sym (append-nil c.args.edges.now.items) ∙ ap (λ l. c.args.edges.now.items ++ l) (sym (edges_none c.args.face.now c.args.f))

pub push-requires : goal.push-requires
push-requires c = (lit< tt, omega (arith, ap length c.loop-i.invariant, length-append c.args.edges.now.items (edges_to c.args.face.now c.args.f c.loop-i.i), face_edges c.args.face.now c.args.f c.loop-i.i))

pub loop-i-preserved : goal.loop-i-preserved
loop-i-preserved c =
    c.push.ensures.items
    ∙ (λ j. c.loop-i.invariant j ++ c.edge_of.ensures j ∷ [])
    ∙ one_edge c.args.face.now c.args.f c.loop-i.i c.args.edges.now.items
