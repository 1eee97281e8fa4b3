use Rattle.std.proofs.Common.{◌≡◌, ℕ, ◌+◌, ◌-◌, List, ◌∙◌, arith}
use Rattle.pieces.specs.Edits.{Packed, Recounted, SameText}
use Rattle.pieces.proofs.Packs.{packed_spare, packed_start, same_before, same_none}
use Rattle.pieces.proofs.Cuts.{recounted, recounted_used, same_both}
use Rattle.pieces.proofs.Edit.{beside_same, store_after}
use Rattle.pieces.proofs.repack.Goals as goal

-- the text after all turns, with the counts made right
packed_same : (c p d q r : List ℕ) (s : ℕ) → SameText c p d q s → Recounted q r → SameText c p d r s
packed_same c p d q r s h g = same_both c p d q d r s h (recounted d q r s h.order g)

pub remark_all-requires : goal.remark_all-requires
remark_all-requires c =
    let inv = c.loop-j.invariant in
    let same = packed_same c.args.c.now c.args.p.now c.loop-j.c c.loop-j.p c.recount.new.p c.args.s inv.0 c.recount.ensures.same in
    store_after c.args.c.now c.args.p.now c.loop-j.c c.recount.new.p c.args.s c.requires same.frame same.order c.recount.ensures.sums (same.marked c.requires.marked)

pub returns : goal.returns
returns c =
    let s = c.args.s in
    let inv = c.loop-j.invariant in
    let o = inv.0.order in
    let some = o.some in
    let most = o.most in
    let e : c.loop-j.j ≡ s = omega arith in
    let packed : Packed c.loop-j.p c.loop-j.i s = rw e at inv.2 in
    let b = same_before c.args.c.now c.args.p.now c.loop-j.c c.loop-j.p s inv.0 in
    let same = packed_same c.args.c.now c.args.p.now c.loop-j.c c.loop-j.p c.recount.new.p s inv.0 c.recount.ensures.same in
    let st = store_after c.args.c.now c.args.p.now c.loop-j.c c.recount.new.p s c.requires same.frame same.order c.recount.ensures.sums (same.marked c.requires.marked) in
    let beside = c.remark_all.ensures.beside in
    let store = c.remark_all.ensures.store in
    record {
      same = same_both c.args.c.now c.args.p.now c.loop-j.c c.recount.new.p c.loop-j.c c.remark_all.new.p s same (beside_same c.loop-j.c c.recount.new.p c.remark_all.new.p s st beside store);
      store = store;
      spare = λ l. beside.below (4096 + (s - 1)) (omega arith) ∙ recounted_used c.loop-j.c c.loop-j.p c.recount.new.p s o c.recount.ensures.same (s - 1) (omega arith)
          ∙ packed_spare c.loop-j.p s c.loop-j.i some packed (omega arith) (omega arith);
    }

pub loop-j-init : goal.loop-j-init
loop-j-init c = (same_none c.args.c.now c.args.p.now c.args.s c.requires.table.order, omega arith, packed_start c.args.p.now)

pub loop-j-preserved : goal.loop-j-preserved
loop-j-preserved c = (
  same_both c.args.c.now c.args.p.now c.loop-j.c c.loop-j.p c.settle-i.new.c c.settle-i.new.p c.args.s c.loop-j.invariant.0 c.settle-i.ensures.same,
  omega (arith, c.settle-i.ensures.first),
  c.settle-i.ensures.packed,
)
