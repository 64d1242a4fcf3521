use Rattle.std.proofs.Common.{sym, ap, ◌∙◌, subst}
use Rattle.std.specs.List.{ContainsAt as Has}
use Rattle.std.proofs.ByRecursion.{all-has, has_append_left, has_push}
use Rattle.plane.specs.Limits.{Crosses}
use Rattle.plane.specs.Separation.{Parts}
use Rattle.stabbing.proofs.Spokes.{from_right_to_left, parted}
use Rattle.stabbing.proofs.doorways.Doorways.refutes.Goals.{In-Some}
use Rattle.stabbing.proofs.doorways.Doorways.refutes.Goals as goal

pub ends-posts-requires : goal.ends-posts-requires
ends-posts-requires c = all-has Crosses c.args.self.list.now c.args.own.now c.args.self.cross c.requires

pub loop-far-init : goal.loop-far-init
loop-far-init c =
    let path = c.args.self.list.now in
    let whole =
    ap (λ i. i.iter.rest.now) c.into_iter-far-iterator.ensures.into_iter_gives ∙ ap (λ i. i.rest.now) c.rev-far-items.ensures.source
    ∙ c.iter.ensures.rest in record {
      left = λ q h. subst (λ xs. Has xs q) whole h;
      fits = λ l proper on separates.
          let own = parted l c.args.own.now _ _ c.ends-posts.ensures.0 c.ends-posts.ensures.1 (all-has (Parts l) path c.args.own.now separates c.requires) in
          c.new-span.ensures l (from_right_to_left l _ _ _ own.1 own.0 c.between.ensures);
    }

-- the doorway that the loop has come to is one of the path
in_path : (c : In-Some) → Has c.args.self.list.now c.in-Some.far.now
in_path c =
    let far = c.in-Some.far.now in
    c.loop-far.invariant.left far (subst (λ xs. Has xs far) (sym c.in-Some.ensures.steps) (has_push c.next.new.self.iter.rest.now far))

pub ends-requires : goal.ends-requires
ends-requires c = all-has Crosses c.args.self.list.now c.in-Some.far.now c.args.self.cross (in_path (goal.at.ends-requires c).In-Some)

pub returns-in-None-passed : goal.returns-in-None-passed
returns-in-None-passed c _ l proper on separates =
    let parts = all-has (Parts l) c.args.self.list.now c.in-Some.far.now separates (in_path (goal.at.returns-in-None-passed c).In-Some) in
    let far = parted l c.in-Some.far.now _ _ c.ends.ensures.0 c.ends.ensures.1 parts in
    c.in-None-passed.ensures l proper on far.0 far.1 (c.loop-far.invariant.fits l proper on separates)

pub loop-far-preserved : goal.loop-far-preserved
loop-far-preserved c = record {
  left = λ q h. c.loop-far.invariant.left q (subst (λ xs. Has xs q) (sym c.in-Some.ensures.steps) (has_append_left _ _ q h));
  fits = λ l proper on separates.
      let parts = all-has (Parts l) c.args.self.list.now c.in-Some.far.now separates (in_path (goal.at.loop-far-preserved c).In-Some) in
      let far = parted l c.in-Some.far.now _ _ c.ends.ensures.0 c.ends.ensures.1 parts in
      c.in-Some-passed.ensures l proper on far.0 far.1 (c.loop-far.invariant.fits l proper on separates);
}
