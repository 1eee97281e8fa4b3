-- Changes of a text: what they leave alone, what is kept of the pieces, and one after another.
use Rattle.std.proofs.Common.{◌≡◌, ℕ, ◌+◌, ◌-◌, ◌*◌, ◌<◌, ◌≤◌, ◌≢◌, List, [], ◌∷◌, ◌++◌, length, take, drop, set, sym, refl, ap, ◌∙◌, inl, inr, add-one, arith}
use Rattle.std.proofs.lemmas.List.{append_assoc, length-append, length-take-le, take-append-drop, take_at, drop_at, drop-drop, set_split}
use Rattle.std.proofs.lemmas.Bool.{cases_lt, cases_eq}
use Rattle.model.specs.Paper.{Cell, view}
use Rattle.slots.specs.Cells.{cell_at, cells_at}
use Rattle.slots.proofs.Words.{drop_cells, take_cells}
use Rattle.pieces.specs.Store.{number, slot, used, piece, cells_of, before, Store}
use Rattle.pieces.specs.Edits.{replaced, Changed}
use Rattle.pieces.proofs.Strung.{strung_same}
use Rattle.pieces.proofs.Cuts.{same_piece}
use Rattle.pieces.proofs.Texts.{length_piece}
use Rattle.pieces.proofs.Change.{changed_text}
use Rattle.kept.specs.Kept.{leaf, Above, Tallied, Around, Kept, Trees, Counted, Room}
use Rattle.kept.specs.Text.{Edited}
use Rattle.kept.proofs.Framed.{around_above, tallied_past, trees_past}
use Rattle.kept.proofs.Remembered.{above_store}
use Rattle.kept.proofs.Seen.{seen_part, seen_replaced, view_most}
use Rattle.kept.proofs.Tallies.{tally_here, tally_other, word_same}
use Rattle.kept.proofs.Whole.{tallied_of, trees_of, whole}

pub around_none : (c p : List ℕ) (s : ℕ) → Around c p c p s
around_none c p s = record { cells_long = refl; words_long = refl; cells_past = refl; words_past = refl; spare = λ k a b. refl }

pub around_both : (c p d q e r : List ℕ) (s : ℕ) → Around c p d q s → Around d q e r s → Around c p e r s
around_both c p d q e r s f g =
    record {
      cells_long = g.cells_long ∙ f.cells_long;
      words_long = g.words_long ∙ f.words_long;
      cells_past = g.cells_past ∙ f.cells_past;
      words_past = g.words_past ∙ f.words_past;
      spare = λ k a b. g.spare k a b ∙ f.spare k a b;
    }

-- one edit after another
pub edited_both : (c p d q e r : List ℕ) (s : ℕ) (ys zs : List Cell) → Around c p d q s → Edited d q e r s ys → ys ≡ zs → Edited c p e r s zs
edited_both c p d q e r s ys zs f h same = record { kept = h.kept; around = around_both c p d q e r s f h.around; text = h.text ∙ same }

pub edited_as : (c p d q : List ℕ) (s : ℕ) (xs ys : List Cell) → Edited c p d q s xs → xs ≡ ys → Edited c p d q s ys
edited_as c p d q s xs ys h e = record { kept = h.kept; around = h.around; text = h.text ∙ e }

pub edited_none : (c p : List ℕ) (s : ℕ) (xs : List Cell) → Kept c p s → cells_of c p s ≡ xs → Edited c p c p s xs
edited_none c p s xs h e = record { kept = h; around = around_none c p s; text = e }

-- cells of one piece are replaced, and then the piece is tallied
module _ (c p d q r : List ℕ) (s k : ℕ) (old : Kept c p s) (l : k < s) (above : Above q r) where
  tallied_piece : (j : ℕ) → j < s → piece d r j ≡ piece d q j
  tallied_piece j a =
      let most = old.store.table.order.most in
      same_piece d r q j j (above.below j (omega arith)) (above.below (4096 + j) (omega arith))

  pub edited : (o n : ℕ) (ys : List Cell) → o + n ≤ used p k → Changed c p d q s k (replaced (piece c p k) o n ys)
      → Store d r s → Trees r s → Tallied d r k → ((j : ℕ) → j < s → j ≢ k → Tallied d q j → Tallied d r j)
      → Edited c p d r s (replaced (cells_of c p s) (before p k + o) n ys)
  edited o n ys m h store trees here others =
      let f = h.frame in
      let most = old.store.table.order.most in
      record {
        kept = whole store trees (λ j a.
            elim (cases_eq j k) [
              | inl e ↦ rw e here
              | inr ne ↦ others j a ne (tallied_past p q f.words_past c d j (h.others j a ne) (h.slots j a) (tallied_of old j a))
            ]);
        around = around_above c p d q r s f above;
        text = strung_same (piece d r) (piece d q) 0 0 s (λ j a. tallied_piece (0 + j) (omega arith)) ∙ changed_text c p d q s k o n ys l m h;
      }

-- cells of a piece, as those of the words
pub piece_part : (c p : List ℕ) (k o n : ℕ) → o + n ≤ used p k → cells_at c (number p k o) n ≡ take n (drop o (piece c p k))
unfolding piece
piece_part c p k o n l =
    sym (ap (take n) (drop_cells c (1024 * slot p k) (used p k) o (omega arith)) ∙ take_cells c (1024 * slot p k + o) (used p k - o) n (omega arith))

pub piece_cell : (c p : List ℕ) (k o : ℕ) → o + 1 ≤ used p k → cell_at c (number p k o) ∷ [] ≡ take 1 (drop o (piece c p k))
unfolding cells_at
piece_cell c p k o l = piece_part c p k o 1 l

-- cells of one piece are replaced: c and p before, d and q after
pub record Step (c p d q : List ℕ) (s k o n : ℕ) (ys : List Cell) : Type 0 where
  pub old : Kept c p s
  pub here : k < s
  pub within : o + n ≤ used p k
  pub changed : Changed c p d q s k (replaced (piece c p k) o n ys)
  pub store : Store d q s

pub step : (o n : ℕ) (ys : List Cell) → {c p d q : List ℕ} {s k : ℕ} → Kept c p s → k < s → o + n ≤ used p k → Changed c p d q s k (replaced (piece c p k) o n ys) → Store d q s
    → Step c p d q s k o n ys
step o n ys old here within changed store = record { old = old; here = here; within = within; changed = changed; store = store }

-- in the tree that begins at word t, leaf k less what went and with what came counts what is seen of piece k in way w
pub record Follows (d q : List ℕ) (t k w gone new : ℕ) : Type 0 where
  pub room : Room q t k gone new
  pub is : leaf q t k - gone + new ≡ length (view w (piece d q k))

module _ {c p d q : List ℕ} {s k o n : ℕ} {ys : List Cell} (h : Step c p d q s k o n ys) where
  follows : (w t gone new : ℕ) → 10240 ≤ t → leaf p t k ≡ length (view w (piece c p k)) → gone ≡ length (view w (take n (drop o (piece c p k))))
      → new ≡ length (view w ys) → Follows d q t k w gone new
  follows w t gone new l e f g =
      let same : leaf q t k ≡ leaf p t k = word_same p q 10240 (t + 2048 + k) h.changed.frame.words_past (omega arith) in
      let here = ap (λ xs. length (view w xs)) h.changed.here in
      let r = seen_replaced w (piece c p k) o n ys in
      let part = seen_part w (piece c p k) o n in
      let most = view_most w (piece d q k) in
      let long = length_piece d q k in
      let small = h.store.table.order.small k h.here in
      record { room = record { counts = omega arith; fits = omega arith }; is = omega arith }

  pub follows_accepted : (gone new : ℕ) → gone ≡ length (view 1 (take n (drop o (piece c p k)))) → new ≡ length (view 1 ys) → Follows d q 10240 k 1 gone new
  follows_accepted gone new = follows 1 10240 gone new (omega arith) (tallied_of h.old k h.here).accepted

  pub follows_rejected : (gone new : ℕ) → gone ≡ length (view 2 (take n (drop o (piece c p k)))) → new ≡ length (view 2 ys) → Follows d q 14336 k 2 gone new
  follows_rejected gone new = follows 2 14336 gone new (omega arith) (tallied_of h.old k h.here).rejected

  pub step_trees : Trees q s
  step_trees = trees_past p q h.changed.frame.words_past s (trees_of h.old)

  pub step_slot : slot q k < 2048
  step_slot = let o = h.store.table.order in let m = o.most in let i = o.inside k h.here in omega arith

  -- and then its counts follow
  pub step_edited : (r : List ℕ) (a b : ℕ) → Counted q r k a b → Trees r s → a ≡ length (view 1 (piece d q k)) → b ≡ length (view 2 (piece d q k))
      → Edited c p d r s (replaced (cells_of c p s) (before p k + o) n ys)
  step_edited r a b t trees e f =
      edited c p d q r s k h.old h.here t.above o n ys h.within h.changed (above_store d q r s h.store t.above) trees
      (tally_here d q r s k a b h.store h.here t e f) (tally_other d q r s k a b h.store h.here t)

-- two lists put in one behind the other
pub replaced_twice : (t a b : List Cell) (i j : ℕ) → i ≤ length t → j ≡ i + length a → replaced (replaced t i 0 a) j 0 b ≡ replaced t i 0 (a ++ b)
replaced_twice t a b i j l e =
    let r = drop (i + 0) t in
    let f = length-append (take i t) a in
    let g = length-take-le i t l in
    let z : j + 0 ≡ j = omega arith in
    let n : length (take i t ++ a) ≡ j = omega arith in
    let m = append_assoc (take i t) a r in
    let tk = take_at (take i t ++ a) r j n in
    let dr = drop_at (take i t ++ a) r j n in
    let x = append_assoc (take i t) a (b ++ r) in
    let y = append_assoc a b r in
    cc

-- n cells taken out, and then m more at the same place
pub removed_more : (t : List Cell) (i n m : ℕ) → i ≤ length t → replaced (replaced t i n []) i m [] ≡ replaced t i (n + m) []
removed_more t i n m l =
    let g = length-take-le i t l in
    let tk = take_at (take i t) (drop (i + n) t) i g in
    let dr = drop_at (take i t) (drop (i + n) t) i g in
    let dd = drop-drop m i (take i t ++ drop (i + n) t) in
    let de = drop-drop m (i + n) t in
    let e : i + n + m ≡ i + (n + m) = omega arith in
    cc

-- one cell written over
pub set_replaced : (t : List Cell) (i : ℕ) (x : Cell) → i < length t → replaced t i 1 (x ∷ []) ≡ set t i x
set_replaced t i x l = rw add-one (sym (set_split t i x l))

-- cells put in at a place
pub put_text : (t new : List Cell) (i place : ℕ) → i ≡ place → replaced t i 0 new ≡ take place t ++ (new ++ drop place t)
put_text t new i place e = let z : i + 0 ≡ place = omega arith in cc

-- nothing taken out
pub removed_none : (t : List Cell) (i n : ℕ) → n ≡ 0 → t ≡ replaced t i n []
removed_none t i n e = let z : i + n ≡ i = omega arith in let h = take-append-drop i t in cc

-- a piece with cells is not the last one, if that is empty
pub not_last : (p : List ℕ) (s k : ℕ) → k < s → used p (s - 1) ≡ 0 → 0 < used p k → k + 1 < s
not_last p s k l e m =
    elim (cases_lt (k + 1) s) [
      | inl h ↦ h
      | inr h ↦ absurd (let i : k ≡ s - 1 = omega arith in let z : used p k ≡ 0 = ap (used p) i ∙ e in omega arith)
    ]
