-- One step of a descent, from a node over the place to the child over it, and its end at a leaf.
use Rattle.std.proofs.Common.{◌≡◌, ℕ, suc, ◌+◌, ◌-◌, ◌*◌, ◌^◌, ◌<◌, ◌≤◌, List, get_or, refl, ap, ◌∙◌, arith, pow_pos}
use Rattle.tree.specs.Tree.{leftmost, total, Sums, Found, Over}
use Rattle.tree.proofs.Total.{total_split, total_none}
use Rattle.tree.proofs.Node.{above_root, double, leftmost_le, leftmost_next, node_total}

-- at the root
pub over_root : (t : List ℕ) (place : ℕ) → Sums t → place < get_or t 1 0 → Over t 1 11 place
unfolding leftmost
over_root t place s h = record { sums = s; node = omega arith; first = omega arith; last = omega arith; inside = h }

pub found_root : (t : List ℕ) (place k offset : ℕ) → Found t (total t 2048 (leftmost 1 11 - 2048) + place) k offset → Found t place k offset
unfolding leftmost
found_root t place k offset f =
    record { within = f.within; sum = omega (arith, f.sum, total_none t 2048); inside = f.inside }

-- at a leaf
pub from_leaf : (t : List ℕ) (n h place : ℕ) → h ≡ 0 → Over t n h place → 2048 ≤ n
unfolding leftmost
from_leaf t n h place e o = rw e at o.first

pub found_leaf : (t : List ℕ) (n h place : ℕ) → h ≡ 0 → Over t n h place → Found t (total t 2048 (leftmost n h - 2048) + place) (n - 2048) place
unfolding leftmost
found_leaf t n h place e o =
    let d : leftmost n h ≡ n = ap (leftmost n) e in
    let f : 2048 + (n - 2048) ≡ n = omega (arith, from_leaf t n h place e o) in
    record { within = omega (arith, o.last, d, pow_pos h, from_leaf t n h place e o); sum = rw d refl; inside = rw f o.inside }

-- between
module _ (t : List ℕ) (n h place : ℕ) (pos : 0 < h) (o : Over t n h place) where
  down : leftmost n h ≡ leftmost (2 * n) (h - 1)
  unfolding leftmost
  down =
      let e : h ≡ suc (h - 1) = omega arith in
      let d : leftmost n (suc (h - 1)) ≡ leftmost (2 * n) (h - 1) = refl in
      ap (leftmost n) e ∙ d

  twice : 2 ^ h ≡ 2 ^ (h - 1) + 2 ^ (h - 1)
  twice =
      let e : h ≡ suc (h - 1) = omega arith in
      ap (λ (k : ℕ). 2 ^ k) e ∙ double (h - 1)

  next : leftmost (2 * n + 1) (h - 1) ≡ leftmost (2 * n) (h - 1) + 2 ^ (h - 1)
  next = leftmost_next (2 * n) (h - 1)

  pub inner : n < 2048
  inner = omega (arith, o.last, down, leftmost_le (2 * n) (h - 1), pow_pos h)

  pub over_left : place < get_or t (2 * n) 0 → Over t (2 * n) (h - 1) place
  over_left l =
      record {
        sums = o.sums;
        node = omega (arith, o.node);
        first = omega (arith, o.first, down);
        last = omega (arith, o.last, down, twice);
        inside = l;
      }

  pub found_left :
      (k offset : ℕ) → Found t (total t 2048 (leftmost (2 * n) (h - 1) - 2048) + place) k offset → Found t (total t 2048 (leftmost n h - 2048) + place) k offset
  found_left k offset f = rw down f

  pub over_right : get_or t (2 * n) 0 ≤ place → Over t (2 * n + 1) (h - 1) (place - get_or t (2 * n) 0)
  over_right l =
      record {
        sums = o.sums;
        node = omega arith;
        first = omega (arith, o.first, next, down);
        last = omega (arith, o.last, next, down, twice);
        inside = omega (arith, o.inside, o.sums.sums n o.node inner);
      }

  before : total t 2048 (leftmost (2 * n + 1) (h - 1) - 2048) ≡ total t 2048 (leftmost n h - 2048) + get_or t (2 * n) 0
  before =
      let w : get_or t (2 * n) 0 ≡ total t (leftmost (2 * n) (h - 1)) (2 ^ (h - 1)) =
      node_total t (2 * n) (h - 1) (above_root t o.sums (2 * n) (omega (arith, o.node))) (omega (arith, o.last, down, twice))
      in
      let s = total_split t 2048 (leftmost n h - 2048) (2 ^ (h - 1)) in
      let e : leftmost (2 * n + 1) (h - 1) - 2048 ≡ leftmost n h - 2048 + 2 ^ (h - 1) = omega (arith, next, down, o.first) in
      let d : 2048 + (leftmost n h - 2048) ≡ leftmost (2 * n) (h - 1) = omega (arith, o.first, down) in
      cc

  pub found_right :
      (k offset : ℕ)
      → get_or t (2 * n) 0 ≤ place
      → Found t (total t 2048 (leftmost (2 * n + 1) (h - 1) - 2048) + (place - get_or t (2 * n) 0)) k offset
      → Found t (total t 2048 (leftmost n h - 2048) + place) k offset
  found_right k offset l f = record { within = f.within; sum = omega (arith, f.sum, before); inside = f.inside }
