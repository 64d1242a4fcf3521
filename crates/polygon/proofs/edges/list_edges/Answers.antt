use Rattle.std.proofs.Common.{◌∙◌}
use Rattle.polygon.proofs.Listing.{faces_step, faces_many}
use Rattle.polygon.proofs.edges.list_edges.Goals as goal

pub loop-f-preserved : goal.loop-f-preserved
loop-f-preserved c =
    let told = c.first_face.ensures in
    let face = c.first_face.result.0.now in
    let behind = c.first_face.result.1.now in (
      faces_step c.loop-f.f c.args.sizes.now c.loop-f.rest.now face behind c.loop-f.edges.items _ told.face told.behind c.list_face.ensures _ c.loop-f-test.true c.loop-f.invariant.0,
      faces_many c.loop-f.f c.args.sizes.now c.loop-f.rest.now face behind c.loop-f.edges.items _ told.face told.behind c.list_face.ensures ∙ c.loop-f.invariant.1,
    )
