use Rattle.std.proofs.Common.{◌≡◌, ◌+◌, ◌-◌, [], length, ap, ◌∙◌, arith}
use Rattle.pieces.specs.Edits.{replaced}
use Rattle.kept.specs.Text.{cells_of_mut}
use Rattle.pieces.proofs.Texts.{length_text}
use Rattle.pieces.proofs.Change.{length_replaced}
use Rattle.kept.proofs.Edits.{removed_none, removed_more}
use Rattle.kept.proofs.Rewriting.{rewrites_none, rewrites_text, rewrites_both}
use Rattle.kept.proofs.text.TextMut.remove.Goals as goal

pub loop-left-init : goal.loop-left-init
loop-left-init c = (
  omega arith,
  rewrites_none c.args.self.now _ (removed_none (cells_of_mut c.args.self.now) c.args.place (c.args.n - c.args.n) (omega arith)),
)

pub remove_some-left-requires : goal.remove_some-left-requires
remove_some-left-requires c =
    let t = cells_of_mut c.args.self.now in
    let u = c.loop-left.self in
    let le = c.loop-left.invariant.0 in
    let w = c.requires in
    let a = length_text u.cells.now u.tables.now u.slots in
    let b = ap length (rewrites_text c.args.self.now u _ c.loop-left.invariant.1) in
    let d = length_replaced t c.args.place (c.args.n - c.loop-left.left) [] (omega arith) in
    record { within = omega arith; some = c.loop-left-test.true }

pub loop-left-preserved : goal.loop-left-preserved
loop-left-preserved c =
    let t = cells_of_mut c.args.self.now in
    let h = c.loop-left.invariant.1 in
    let le = c.loop-left.invariant.0 in
    let place = c.args.place in
    let r = c.remove_some-left.result in
    let most = c.remove_some-left.ensures.most in
    let w = c.requires in
    let n = c.args.n in
    let left = c.loop-left.left in
    let e : n - left + r ≡ n - (left - r) = omega arith in
    let before = rewrites_text c.args.self.now c.loop-left.self _ h in (
      omega arith,
      rewrites_both c.args.self.now c.loop-left.self c.remove_some-left.new.self _ _ _ h c.remove_some-left.ensures.edited
          (ap (λ x. replaced x place r []) before ∙ removed_more t place (n - left) r (omega arith) ∙ ap (λ x. replaced t place x []) e),
    )

pub returns : goal.returns
returns c =
    let e : c.args.n - c.loop-left.left ≡ c.args.n = omega arith in
    rw e at c.loop-left.invariant.1
