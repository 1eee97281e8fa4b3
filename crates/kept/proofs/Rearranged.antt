-- Pieces that have moved: what is kept of them moves with them.
use Rattle.std.proofs.Common.{◌≡◌, ℕ, ◌+◌, ◌-◌, ◌<◌, ◌≤◌, ◌≢◌, List, get_or, ◌∙◌, inl, inr, arith}
use Rattle.std.proofs.lemmas.Bool.{cases_eq, cases_lt}
use Rattle.pieces.specs.Store.{Store, Frame}
use Rattle.pieces.specs.Edits.{Moved}
use Rattle.kept.specs.Kept.{leaf, Tallied, Trees, Kept, Above}
use Rattle.kept.specs.Leaves.{MovedUp}
use Rattle.kept.proofs.Remembered.{sums_same, above_piece}
use Rattle.kept.proofs.Tallies.{word_same, drop_same, tallied_same}
use Rattle.kept.proofs.Whole.{trees_of, tallied_of, whole}

-- piece k was cut, from p to q; then the leaves of both trees moved up, from q to v and from v to r
module _ (c p d q v r : List ℕ) (s k : ℕ) (t : Kept c p s) (l : k + 1 < s) (st : Store d q s) (f : Frame c p d q s) (m : Moved c p d q s k)
    (g : MovedUp q v 10240 s k) (h : MovedUp v r 14336 s k) where
  pub cut_above : Above q r
  cut_above =
      record {
        long = h.long ∙ g.long;
        below = λ w a. h.before w (omega arith) ∙ g.before w a;
        past = drop_same v r 18432 34816 h.behind (omega arith) ∙ drop_same q v 14336 34816 g.behind (omega arith);
      }

  cut_word : (w : ℕ) → 18432 ≤ w → get_or r w 0 ≡ get_or p w 0
  cut_word w a =
      word_same v r 18432 w h.behind a ∙ word_same q v 14336 w g.behind (omega arith) ∙ word_same p q 10240 w f.words_past (omega arith)

  -- leaf j of the first tree after the cut, and leaf i of the second before the trees changed
  accepted_last : (j : ℕ) → j < 2048 → leaf r 10240 j ≡ leaf v 10240 j
  accepted_last j a = h.before (12288 + j) (omega arith)

  accepted_first : (i : ℕ) → leaf q 10240 i ≡ leaf p 10240 i
  accepted_first i = word_same p q 10240 (12288 + i) f.words_past (omega arith)

  rejected_first : (i : ℕ) → leaf v 14336 i ≡ leaf p 14336 i
  rejected_first i = word_same q v 14336 (16384 + i) g.behind (omega arith) ∙ word_same p q 10240 (16384 + i) f.words_past (omega arith)

  pub cut_trees : Trees r s
  cut_trees =
      let most = st.table.order.most in
      record {
        long = let a = h.long in let b = g.long in let e = f.words_long in let n = (trees_of t).long in omega arith;
        accepted = sums_same v r 10240 h.long (λ w a b. h.before w (omega arith)) g.sums;
        rejected = h.sums;
        none_accepted = λ j a b. accepted_last j b ∙ g.past j a b ∙ accepted_first j ∙ (trees_of t).none_accepted j a b;
        none_rejected = λ j a b. h.past j a b ∙ rejected_first j ∙ (trees_of t).none_rejected j a b;
      }

  tallied_below : (j : ℕ) → j < k → Tallied d r j
  tallied_below j a =
      let most = st.table.order.most in
      tallied_same c p d r j j (accepted_last j (omega arith) ∙ g.below j (omega arith) ∙ accepted_first j) (h.below j (omega arith) ∙ rejected_first j)
      (cut_above.below j (omega arith) ∙ m.slots j (omega arith)) (above_piece d q r s st cut_above j (omega arith) ∙ m.pieces j a)
      (λ w b e. cut_word w (omega arith)) (tallied_of t j (omega arith))

  tallied_up : (j : ℕ) → k < j → j + 1 < s → Tallied d r (j + 1)
  tallied_up j a b =
      let most = st.table.order.most in
      tallied_same c p d r j (j + 1) (accepted_last (j + 1) (omega arith) ∙ g.up j a b ∙ accepted_first j) (h.up j a b ∙ rejected_first j)
      (cut_above.below (j + 1) (omega arith) ∙ m.slots_up j a b) (above_piece d q r s st cut_above (j + 1) b ∙ m.pieces_up j a b)
      (λ w b e. cut_word w (omega arith)) (tallied_of t j (omega arith))

  cut_tallied : (j : ℕ) → j < s → j ≢ k → j ≢ k + 1 → Tallied d r j
  cut_tallied j a b e =
      elim (cases_lt j k) [
        | inl x ↦ tallied_below j x
        | inr x ↦ let i : j - 1 + 1 ≡ j = omega arith in rw i at (tallied_up (j - 1) (omega arith) (omega arith))
      ]

  -- then pieces k and k + 1 are tallied, from r to x and from x to y
  pub cut_kept : (x y : List ℕ) → Store d y s → Trees y s → Tallied d x k → ((j : ℕ) → j < s → j ≢ k → Tallied d r j → Tallied d x j)
      → Tallied d y (k + 1) → ((j : ℕ) → j < s → j ≢ k + 1 → Tallied d x j → Tallied d y j) → Kept d y s
  cut_kept x y store trees here others next others' =
      whole store trees (λ j a.
      elim (cases_eq j (k + 1)) [
        | inl e ↦ rw e next
        | inr ne ↦ others' j a ne (elim (cases_eq j k) [ inl e ↦ rw e here | inr nk ↦ others j a nk (cut_tallied j a nk ne) ])
      ])
