-- The loops that add nodes up: what stays, and which nodes are sums after each turn.
use Rattle.std.proofs.Common.{◌≡◌, ℕ, ◌+◌, ◌-◌, ◌*◌, ◌/◌, ◌^◌, ◌<◌, ◌≤◌, ◌≢◌, List, length, get_or, drop, set, sym, refl, ap, ◌∙◌, ap₂, arith}
use native.Mathlib.Decide.{ℕ_discrete}
use Rattle.std.proofs.lemmas.List.{length-set, get_or-set_same, get_or-set_other, get_or-drop, drop-drop, drop-set-lt}
use Rattle.tree.specs.Tree.{Sum, Sums, Light, added}
use Rattle.tree.proofs.Node.{Above, node_small}

-- t is s, but for the nodes above the leaves
pub record Kept (s t : List ℕ) : Type 0 where
  pub long : 4096 ≤ length t
  pub light : Light t
  pub unused : get_or t 0 0 ≡ get_or s 0 0
  pub same : drop 2048 t ≡ drop 2048 s

pub kept_leaf : (s t : List ℕ) → Kept s t → (j : ℕ) → get_or t (2048 + j) 0 ≡ get_or s (2048 + j) 0
kept_leaf s t k j = sym (get_or-drop 2048 t j 0) ∙ ap (λ (u : List ℕ). get_or u j 0) k.same ∙ get_or-drop 2048 s j 0

pub kept_rest : (s t : List ℕ) → Kept s t → drop 4096 t ≡ drop 4096 s
kept_rest s t k = sym (drop-drop 2048 2048 t) ∙ ap (drop 2048) k.same ∙ drop-drop 2048 2048 s

-- a sum of two children fits a word, if all nodes below are sums
pub sum_fits : (t : List ℕ) (n : ℕ) → 0 < n → n < 2048 → Above t (n + 1) → Light t → get_or t (2 * n) 0 + get_or t (2 * n + 1) 0 < 2 ^ 32
sum_fits t n pos below above light =
    let left : get_or t (2 * n) 0 ≤ 2097152 = node_small t (2 * n) (omega arith) (omega arith) (λ i h. above i (omega arith)) light in
    let right : get_or t (2 * n + 1) 0 ≤ 2097152 = node_small t (2 * n + 1) (omega arith) (omega arith) (λ i h. above i (omega arith)) light in
    omega arith

-- a node is added up
module _ (t : List ℕ) (n : ℕ) (pos : 0 < n) (below : n < 2048) where
  kept_other : (j : ℕ) → j ≢ n → get_or (added t n) j 0 ≡ get_or t j 0
  kept_other j ne = get_or-set_other t n j _ 0 ne

  pub kept_added : (s : List ℕ) → Kept s t → Kept s (added t n)
  kept_added s k =
      record {
        long = simp length-set k.long;
        light = λ j h. rw (kept_other (2048 + j) (omega arith)) (k.light j h);
        unused = kept_other 0 (omega arith) ∙ k.unused;
        same = drop-set-lt 2048 t n _ below ∙ k.same;
      }

  sum_here : 4096 ≤ length t → Sum (added t n) n
  sum_here long =
      get_or-set_same t n _ 0 (omega arith)
      ∙ sym (ap₂ ◌+◌ (kept_other (2 * n) (omega arith)) (kept_other (2 * n + 1) (omega arith)))

  -- every other node is a sum as before, but for the parent
  pub sum_added : 4096 ≤ length t → (j : ℕ) → j ≢ n / 2 → (j ≢ n → Sum t j) → Sum (added t n) j
  sum_added long j ne was =
      elim (ℕ_discrete j n) [
        | yes e ↦ rw e (sum_here long)
        | no d ↦
            let a : get_or (added t n) j 0 ≡ get_or t j 0 = kept_other j d in
            let b : get_or (added t n) (2 * j) 0 ≡ get_or t (2 * j) 0 = kept_other (2 * j) (omega arith) in
            let c : get_or (added t n) (2 * j + 1) 0 ≡ get_or t (2 * j + 1) 0 = kept_other (2 * j + 1) (omega arith) in
            a ∙ was d ∙ sym (ap₂ ◌+◌ b c)
      ]

-- on the way up from a leaf: every node is a sum, but perhaps the parent
pub record Climbs (s t : List ℕ) (n : ℕ) : Type 0 where
  pub kept : Kept s t
  pub low : 0 < n
  pub high : n < 4096
  pub sums : (j : ℕ) → 0 < j → j < 2048 → j ≢ n / 2 → Sum t j

pub climb_fits : (s t : List ℕ) (n : ℕ) → Climbs s t n → 1 < n → get_or t (2 * (n / 2)) 0 + get_or t (2 * (n / 2) + 1) 0 < 2 ^ 32
climb_fits s t n c more =
    sum_fits t (n / 2) (omega arith) (omega (arith, c.high)) (λ i h b. c.sums i (omega arith) b (omega arith)) c.kept.light

pub climb_start : (t : List ℕ) (k v : ℕ) → Sums t → k < 2048 → v ≤ 1024 → Climbs (set t (2048 + k) v) (set t (2048 + k) v) (2048 + k)
climb_start t k v s below small =
    record {
      kept = record { long = simp length-set s.long; light = leaves; unused = refl; same = refl };
      low = omega arith;
      high = omega arith;
      sums = λ j pos h ne. rw (other j (omega arith), other (2 * j) (omega arith), other (2 * j + 1) (omega arith)) (s.sums j pos h);
    }
  where
    other : (j : ℕ) → j ≢ 2048 + k → get_or (set t (2048 + k) v) j 0 ≡ get_or t j 0
    other j ne = get_or-set_other t (2048 + k) j v 0 ne

    leaves : Light (set t (2048 + k) v)
    leaves j h =
        elim (ℕ_discrete j k) [
          | yes e ↦ rw (e, get_or-set_same t (2048 + k) v 0 (omega (arith, s.long))) small
          | no d ↦ rw (other (2048 + j) (omega arith)) (s.light j h)
        ]

pub climb_more : (s t : List ℕ) (n : ℕ) → Climbs s t n → 1 < n → Climbs s (added t (n / 2)) (n / 2)
climb_more s t n c more =
    let pos : 0 < n / 2 = omega arith in
    let below : n / 2 < 2048 = omega (arith, c.high) in
    record {
      kept = kept_added t (n / 2) pos below s c.kept;
      low = pos;
      high = omega arith;
      sums = λ j p h ne. sum_added t (n / 2) pos below c.kept.long j ne (λ d. c.sums j p h d);
    }

pub climb_sums : (s t : List ℕ) (n : ℕ) → Climbs s t n → n ≤ 1 → Sums t
climb_sums s t n c done = record { long = c.kept.long; light = c.kept.light; sums = λ j p h. c.sums j p h (omega arith) }

-- on the way down from the last inner node: every node from n on is a sum
pub record Builds (s t : List ℕ) (n : ℕ) : Type 0 where
  pub kept : Kept s t
  pub above : Above t n

pub build_fits : (s t : List ℕ) (n : ℕ) → Builds s t n → 1 < n → n ≤ 2048 → get_or t (2 * (n - 1)) 0 + get_or t (2 * (n - 1) + 1) 0 < 2 ^ 32
build_fits s t n b more most = sum_fits t (n - 1) (omega arith) (omega arith) (λ i h. b.above i (omega arith)) b.kept.light

pub build_more : (s t : List ℕ) (n : ℕ) → Builds s t n → 1 < n → n ≤ 2048 → Builds s (added t (n - 1)) (n - 1)
build_more s t n b more most =
    let pos : 0 < n - 1 = omega arith in
    let below : n - 1 < 2048 = omega arith in
    record {
      kept = kept_added t (n - 1) pos below s b.kept;
      above = λ j h k. sum_added t (n - 1) pos below b.kept.long j (omega arith) (λ d. b.above j (omega arith) k);
    }
