-- Leaves that follow a cut: some are rotated, and the tree is added up again.
use Rattle.std.proofs.Common.{◌≡◌, ℕ, ◌+◌, ◌-◌, ◌<◌, ◌≤◌, List, length, get_or, drop, sym, ap, ◌∙◌, inl, inr, arith}
use Rattle.std.proofs.lemmas.Bool.{cases_order, cases_lt}
use Rattle.std.proofs.lemmas.List.{length-drop, ext_get_or, get_or-drop}
use Rattle.tree.specs.Tree.{Sums, Light}
use Rattle.pieces.specs.Edits.{Rotated}
use Rattle.kept.specs.Kept.{leaf}
use Rattle.kept.specs.Leaves.{MovedUp}
use Rattle.kept.proofs.Tallies.{OneTree, leaf_word}

module _ (p q : List ℕ) (t s k : ℕ) (u : Sums (drop t p)) (l : k + 1 < s) (m : s ≤ 2048) (h : Rotated p q (t + 2048 + k + 1) (t + 2048 + s - 1)) where
  leaf_below : (j : ℕ) → j ≤ k → leaf q t j ≡ leaf p t j
  leaf_below j a = h.below (t + 2048 + j) (omega arith)

  leaf_first : leaf q t (k + 1) ≡ leaf p t (s - 1)
  leaf_first =
      let a : t + 2048 + (k + 1) ≡ t + 2048 + k + 1 = omega arith in
      let b : t + 2048 + s - 1 ≡ t + 2048 + (s - 1) = omega arith in
      ap (λ i. get_or q i 0) a ∙ h.first ∙ ap (λ i. get_or p i 0) b

  leaf_up : (j : ℕ) → k < j → j + 1 < s → leaf q t (j + 1) ≡ leaf p t j
  leaf_up j a b =
      let i : t + 2048 + (j + 1) ≡ t + 2048 + j + 1 = omega arith in
      ap (λ i. get_or q i 0) i ∙ h.up (t + 2048 + j) (omega arith) (omega arith)

  leaf_past : (j : ℕ) → s ≤ j → leaf q t j ≡ leaf p t j
  leaf_past j a = h.above (t + 2048 + j) (omega arith)

  leaf_light : (i : ℕ) → i < 2048 → leaf p t i ≤ 1024
  leaf_light i a = rw (leaf_word p t i) at (u.light i a)

  leaf_small : (j : ℕ) → j < 2048 → leaf q t j ≤ 1024
  leaf_small j a =
      elim (cases_order j (k + 1)) [
        | inl e ↦ rw e (rw leaf_first (leaf_light (s - 1) (omega arith)))
        | inr w ↦ elim w [
          | inl b ↦ rw (leaf_below j (omega arith)) (leaf_light j a)
          | inr b ↦ elim (cases_lt j s) [
            | inl d ↦
                let i : j ≡ j - 1 + 1 = omega arith in
                rw (ap (leaf q t) i ∙ leaf_up (j - 1) (omega arith) (omega arith)) (leaf_light (j - 1) (omega arith))
            | inr d ↦ rw (leaf_past j d) (leaf_light j a)
          ]
        ]
      ]

  pub rotated_light : Light (drop t q)
  rotated_light j a = rw (leaf_word q t j) (leaf_small j a)

  pub rotated_long : t + 4096 ≤ length q
  rotated_long = let a = h.long in let b = simp length-drop at u.long in omega arith

  pub moved_up : (r : List ℕ) → OneTree q r t → ((j : ℕ) → j < 2048 → leaf r t j ≡ leaf q t j) → MovedUp p r t s k
  moved_up r g same =
      record {
        long = g.long ∙ h.long;
        sums = g.sums;
        below = λ j a. same j (omega arith) ∙ leaf_below j a;
        up = λ j a b. same (j + 1) (omega arith) ∙ leaf_up j a b;
        past = λ j a b. same j b ∙ leaf_past j a;
        before = λ w a. g.before w a ∙ h.below w (omega arith);
        behind = g.behind ∙ ext_get_or 0 (drop (t + 4096) q) (drop (t + 4096) p) (length-drop (t + 4096) q ∙ ap (λ n. n - (t + 4096)) h.long ∙ sym (length-drop (t + 4096) p))
            (λ i a. get_or-drop (t + 4096) q i 0 ∙ h.above (t + 4096 + i) (omega arith) ∙ sym (get_or-drop (t + 4096) p i 0));
      }
