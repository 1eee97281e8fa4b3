-- What is kept of the pieces after a sweep of one, and after its set of marks was made anew.
use Rattle.std.proofs.Common.{◌≡◌, ℕ, ◌+◌, ◌<◌, ◌≤◌, ◌≢◌, List, inl, inr, ◌∙◌, arith}
use Rattle.std.proofs.lemmas.Bool.{cases_eq}
use Rattle.model.specs.Paper.{Cell, Change}
use Rattle.pieces.specs.Marks.{Beside}
use Rattle.pieces.specs.Store.{used, piece, Store}
use Rattle.pieces.specs.Edits.{Changed}
use Rattle.pieces.proofs.Cuts.{same_piece}
use Rattle.kept.specs.Kept.{Above, Kept, Tallied, Trees}
use Rattle.kept.proofs.Framed.{around_above, tallied_past, trees_past}
use Rattle.kept.proofs.Tallies.{drop_same}
use Rattle.sweep.specs.declared.Action.{Action}
use Rattle.sweep.specs.Sweep.{swept_run, SweptPiece}
use Rattle.kept.proofs.Whole.{tallied_of, trees_of, whole}

-- cells of piece k were swept, and then the piece was tallied
pub tallied : (c p d q r : List ℕ) (s k o n : ℕ) (a : Action) (cs : List Change) → Kept c p s → k < s → o + n ≤ used p k
    → Changed c p d q s k (swept_run a cs (piece c p k) o n) → Above q r → Store d r s → Trees r s → Tallied d r k
    → ((j : ℕ) → j < s → j ≢ k → Tallied d q j → Tallied d r j) → SweptPiece c p d r s k (swept_run a cs (piece c p k) o n)
tallied c p d q r s k o n a cs old l m h above store trees here others =
    let f = h.frame in
    let most = old.store.table.order.most in
    let same : (j : ℕ) → j < s → piece d r j ≡ piece d q j = λ j x. same_piece d r q j j (above.below j (omega arith)) (above.below (4096 + j) (omega arith)) in
    record {
      kept = whole store trees (λ j x.
          elim (cases_eq j k) [
            | inl e ↦ rw e here
            | inr ne ↦ others j x ne (tallied_past p q f.words_past c d j (h.others j x ne) (h.slots j x) (tallied_of old j x))
          ]);
      around = around_above c p d q r s f above;
      here = same k l ∙ h.here;
      others = λ j x ne. same j x ∙ h.others j x ne;
    }

-- and then its set of marks was made anew
pub remarked : (c p d q r : List ℕ) (s k : ℕ) (xs : List Cell) → SweptPiece c p d q s k xs → k < s → Beside q r → Store d r s → SweptPiece c p d r s k xs
remarked c p d q r s k xs h l beside store =
    let old = h.kept in
    let most = old.store.table.order.most in
    let same : (j : ℕ) → j < s → piece d r j ≡ piece d q j = λ j x. same_piece d r q j j (beside.below j (omega arith)) (beside.below (4096 + j) (omega arith)) in
    let a = h.around in
    record {
      kept = whole store (trees_past q r beside.past s (trees_of old))
          (λ j x. tallied_past q r beside.past d d j (same j x) (beside.below j (omega arith)) (tallied_of old j x));
      around = record {
        cells_long = a.cells_long;
        words_long = beside.long ∙ a.words_long;
        cells_past = a.cells_past;
        words_past = drop_same q r 10240 34816 beside.past (omega arith) ∙ a.words_past;
        spare = λ j x y. beside.below j (omega arith) ∙ a.spare j x y;
      };
      here = same k l ∙ h.here;
      others = λ j x ne. same j x ∙ h.others j x ne;
    }
