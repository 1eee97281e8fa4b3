-- A sweep piece by piece: of a run, and of the whole text.
use Rattle.std.proofs.Common.{◌≡◌, ℕ, zero, suc, ◌+◌, ◌-◌, ◌*◌, ◌<◌, ◌≤◌, List, ◌++◌, length, take, drop, sym, ap, ◌∙◌, add-zero, add-suc, suc-add, arith, take-add}
use Rattle.std.proofs.lemmas.List.{append_assoc, append-nil, length-append, length-drop, length-take-le, take-append-drop, take-append-le, take_all, drop_all, take_at, drop_at, drop-drop}
use Rattle.model.specs.Paper.{Cell, Change}
use Rattle.pieces.specs.Store.{used, piece, strung, cells_of, before, Order, Located}
use Rattle.pieces.specs.Edits.{replaced}
use Rattle.pieces.proofs.Texts.{length_piece, length_text, length_before, drop_text}
use Rattle.pieces.proofs.Change.{strung_replaced, length_replaced}
use Rattle.sweep.specs.declared.Action.{Action}
use Rattle.sweep.specs.Sweep.{swept, swept_run, SweptPiece}
use Rattle.sweep.proofs.Laws.{swept_none, swept_append}

module _ (a : Action) (cs : List Change) where
  -- no cells, and all cells
  pub swept_run_none : (t : List Cell) (i : ℕ) → swept_run a cs t i 0 ≡ t
  swept_run_none t i =
      let n = swept_none a cs in
      let z : i + 0 ≡ i = omega arith in
      let h = take-append-drop i t in
      cc

  pub swept_run_all : (t : List Cell) (n : ℕ) → length t ≡ n → swept_run a cs t 0 n ≡ swept a cs t
  swept_run_all t n e =
      let z : 0 + n ≡ n = omega arith in
      let tk = take_all n t (omega arith) in
      let dr = drop_all n t (omega arith) in
      let nil = append-nil (swept a cs t) in
      cc

  -- the first m of the cells, and then the others
  pub swept_run_step : (t : List Cell) (i m left r : ℕ) → m ≤ left → i + left ≤ length t → r ≡ length (swept a cs (take m (drop i t)))
      → swept_run a cs (swept_run a cs t i m) (i + r) (left - m) ≡ swept_run a cs t i left
  swept_run_step t i m left r l h e =
      let ys = swept a cs (take m (drop i t)) in
      let zs = swept a cs (take (left - m) (drop (i + m) t)) in
      let rest = drop (i + m) t in
      let f = length-append (take i t) ys in
      let g = length-take-le i t (omega arith) in
      let n : length (take i t ++ ys) ≡ i + r = omega arith in
      let a0 = append_assoc (take i t) ys rest in
      let tk = take_at (take i t ++ ys) rest (i + r) n in
      let dr = drop_at (take i t ++ ys) rest (i + r) n in
      let d1 = drop-drop (left - m) (i + r) (swept_run a cs t i m) in
      let d2 = drop-drop (left - m) (i + m) t in
      let d3 = drop-drop m i t in
      let x : i + m + (left - m) ≡ i + left = omega arith in
      let y : left ≡ m + (left - m) = omega arith in
      let ta = take-add m (left - m) (drop i t) in
      let sw = swept_append a cs (take m (drop i t)) (take (left - m) rest) in
      let a1 = append_assoc (take i t) ys (zs ++ drop (i + left) t) in
      let a2 = append_assoc ys zs (drop (i + left) t) in
      cc

-- there are not many cells
pub before_small : (p : List ℕ) (s : ℕ) → Order p s → (k : ℕ) → k ≤ s → before p k ≤ 1024 * k
unfolding before
before_small p s o zero l = omega arith
before_small p s o (suc k) l = omega (arith, before_small p s o k (omega arith), o.small k (omega arith))

-- m cells of the text that stand in piece k
pub cells_within : (c p : List ℕ) (s k o m : ℕ) → k < s → o + m ≤ used p k → take m (drop (before p k + o) (cells_of c p s)) ≡ take m (drop o (piece c p k))
cells_within c p s k o m l h =
    let u = length_piece c p k in
    let d = length-drop o (piece c p k) in
    ap (take m) (drop_text c p s k o l (omega arith)) ∙ take-append-le m (drop o (piece c p k)) (strung (piece c p) (suc k) (s - suc k)) (omega arith)

-- a turn of the loop over a run
pub run_step : (c p d q : List ℕ) (s at k o m left r : ℕ) (a : Action) (cs : List Change) → Located p s at k o → m ≤ left → o + m ≤ used p k → at + left ≤ before p s
    → SweptPiece c p d q s k (swept_run a cs (piece c p k) o m) → r ≡ length (swept a cs (take m (drop o (piece c p k))))
    → (at + r + (left - m) ≤ before q s) × (swept_run a cs (cells_of d q s) (at + r) (left - m) ≡ swept_run a cs (cells_of c p s) at left)
run_step c p d q s at k o m left r a cs f l h w g e =
    let t = cells_of c p s in
    let ys = swept a cs (take m (drop o (piece c p k))) in
    let here = f.here in
    let sum = f.sum in
    let u = length_piece c p k in
    let b = length_before c p k in
    let made = strung_replaced (piece c p) (piece d q) k s o m ys here (omega arith) g.others g.here in
    let text : cells_of d q s ≡ replaced t (before p k + o) m ys = cc in
    let same = cells_within c p s k o m here h in
    let len = length_text c p s in
    let len2 = length_text d q s in
    let lr = length_replaced t at m ys (omega arith) in
    let tx : cells_of d q s ≡ swept_run a cs t at m = cc in
    let lt : length (cells_of d q s) ≡ length (replaced t at m ys) = cc in
    let r2 : r ≡ length (swept a cs (take m (drop at t))) = cc in
    (omega arith, ap (λ x. swept_run a cs x (at + r) (left - m)) tx ∙ swept_run_step a cs t at m left r l (omega arith) r2)

-- every list swept
pub strung_swept : (a : Action) (cs : List Change) (f g : ℕ → List Cell) (k n : ℕ) → ((i : ℕ) → i < n → g (k + i) ≡ swept a cs (f (k + i))) → strung g k n ≡ swept a cs (strung f k n)
unfolding strung
strung_swept a cs f g k zero h = sym (swept_none a cs)
strung_swept a cs f g k (suc n) h =
    let first : g k ≡ swept a cs (f k) = simp add-zero at (h 0 (omega arith)) in
    let rest = strung_swept a cs f g (suc k) n (λ i l. simp suc-add (simp add-suc at (h (suc i) (omega arith)))) in
    let both = swept_append a cs (f k) (strung f (suc k) n) in
    cc
