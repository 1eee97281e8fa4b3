-- The store has changed, and not what is kept of its pieces.
use Rattle.std.proofs.Common.{◌≡◌, ℕ, ◌+◌, ◌≤◌, List, length, get_or, drop, ap, ◌∙◌, arith}
use Rattle.std.proofs.lemmas.List.{length-drop}
use Rattle.pieces.specs.Store.{slot, piece, Frame}
use Rattle.kept.specs.Kept.{Above, Around, Tallied, Trees}
use Rattle.kept.proofs.Tallies.{drop_same, tallied_same, word_same}

-- only words of the store have changed from p to q, and none of those that say what is kept of the pieces
module _ (p q : List ℕ) (past : drop 10240 q ≡ drop 10240 p) where
  word : (w : ℕ) → 10240 ≤ w → get_or q w 0 ≡ get_or p w 0
  word w l = word_same p q 10240 w past l

  pub trees_past : (s : ℕ) → Trees p s → Trees q s
  trees_past s h =
      record {
        long = omega (arith, ap length past, length-drop 10240 q, length-drop 10240 p, h.long);
        accepted = rw past h.accepted;
        rejected = rw (drop_same p q 10240 14336 past (omega arith)) h.rejected;
        none_accepted = λ k a b. word (10240 + 2048 + k) (omega arith) ∙ h.none_accepted k a b;
        none_rejected = λ k a b. word (14336 + 2048 + k) (omega arith) ∙ h.none_rejected k a b;
      }

  pub tallied_past : (c d : List ℕ) (k : ℕ) → piece d q k ≡ piece c p k → slot q k ≡ slot p k → Tallied c p k → Tallied d q k
  tallied_past c d k e f =
      tallied_same c p d q k k (word (10240 + 2048 + k) (omega arith)) (word (14336 + 2048 + k) (omega arith)) f e (λ w a b. word w (omega arith))

-- a change of the store, and then one of what is kept
pub around_above : (c p d q r : List ℕ) (s : ℕ) → Frame c p d q s → Above q r → Around c p d r s
around_above c p d q r s f h =
    record {
      cells_long = f.cells_long;
      words_long = h.long ∙ f.words_long;
      cells_past = f.cells_past;
      words_past = h.past ∙ drop_same p q 10240 34816 f.words_past (omega arith);
      spare = λ k a b. h.below k (omega arith) ∙ f.spare k a b;
    }

-- a change of the store leaves both trees
