-- From the steps of an edit to what it does to the text.
use Rattle.std.proofs.Common.{◌≡◌, ℕ, ◌+◌, ◌-◌, ◌*◌, ◌<◌, ◌≤◌, List, [], ◌∷◌, ◌++◌, length, take, drop, set, sym, refl, ap, ◌∙◌, inl, inr, add-one, arith}
use Rattle.std.proofs.lemmas.List.{append_assoc, length-append, length-take-le, take-append-drop, take_at, drop_at, drop-drop, set_split}
use Rattle.std.proofs.lemmas.Bool.{cases_lt, cases_eq}
use Rattle.model.specs.Paper.{Cell}
use Rattle.slots.specs.Cells.{cell_at, cells_at, Kept}
use Rattle.slots.proofs.Words.{cells_split}
use Rattle.tree.specs.Tree.{Sums}
use Rattle.std.specs.List.{AllByRecursion}
use Rattle.pieces.specs.Marks.{Marks, with_set, noted_cells, Beside, Grown}
use Rattle.pieces.specs.Store.{slot, used, piece, cells_of, before, Marked, Order, Store, Frame}
use Rattle.pieces.specs.Edits.{replaced, Changed, Cut, SameText}
use Rattle.pieces.proofs.Texts.{length_piece, length_text, before_more, before_within}
use Rattle.pieces.proofs.Sets.{sums_beside, marks_moved, beside_both, set_beside, set_apart, cells_noted}
use Rattle.pieces.proofs.Change.{changed_text, changed_marked, carried, length_replaced, replaced_here, resized_none, resized_grown, frame_both, frame_none}
use Rattle.pieces.proofs.Cells.{overwritten}
use Rattle.pieces.proofs.Cuts.{used_from, before_same, same_piece}
use Rattle.pieces.proofs.Strung.{strung_same}

pub store_after : (c p d q : List ℕ) (s : ℕ) → Store c p s → Frame c p d q s → Order q s → Sums (drop 2048 q) → Marked d q s → Store d q s
store_after c p d q s t f o u mk =
    record { room = let e = f.cells_long in let r = t.room in omega arith; table = record { order = o; sums = u }; marked = mk }

-- cells of one piece are replaced
pub changed_store : (c p d q : List ℕ) (s k o n : ℕ) (ys : List Cell) → Store c p s → k < s
    → Changed c p d q s k (replaced (piece c p k) o n ys) → Sums (drop 2048 q) → AllByRecursion (Marks q (slot q k)) ys → Store d q s
changed_store c p d q s k o n ys t l h u mk = store_after c p d q s t h.frame h.order u (changed_marked c p d q s k o n ys t.table.order l t.marked h mk)

-- cell o of piece k written over, and its marks added to the set
pub written : (c d p q : List ℕ) (s k o at : ℕ) (x : Cell) → Store c p s → k < s → o < used p k → at ≡ 1024 * slot p k + o
    → cell_at d at ≡ x → Kept c d at 1 → Grown p q → Marks q (slot q k) x → Changed c p d q s k (replaced (piece c p k) o 1 (x ∷ [])) × Store d q s
written c d p q s k o at x st l m e w h grown mk =
    let small = st.table.order.small k l in
    let f = overwritten c d p k o at x m small e w h in
    let most = st.table.order.most in
    let g = replaced_here c p d q s k o 1 (used p k) (x ∷ []) st.table.order l (omega arith) (omega arith) small f
    (resized_grown p p q k (used p k) (omega arith) (resized_none p k) grown) in
    (g, changed_store c p d q s k o 1 (x ∷ []) st l g (sums_beside p q grown.beside st.table.sums) (mk, tt))

-- the first m of n cells and the others
pub halves : (new : List ℕ) (from m n : ℕ) → m ≤ n → cells_at new from m ++ cells_at new (from + m) (n - m) ≡ cells_at new from n
halves new from m n l = let e : m + (n - m) ≡ n = omega arith in sym (cells_split new from m (n - m)) ∙ ap (cells_at new from) e

-- only words of sets have changed
module _ (c p q : List ℕ) (s : ℕ) (t : Store c p s) (h : Beside p q) where
  beside_piece : (k : ℕ) → k < s → piece c q k ≡ piece c p k
  beside_piece k l =
      let most = t.table.order.most in
      same_piece c q p k k (h.below k (omega arith)) (h.below (4096 + k) (omega arith))

  pub beside_store : Marked c q s → Store c q s
  beside_store mk =
      let o = t.table.order in
      let most = o.most in
      let long = h.long in
      let words = o.words in
      record {
        room = t.room;
        table = record {
          order = record {
            some = o.some;
            most = most;
            words = omega arith;
            inside = λ k l. rw (h.below k (omega arith)) (o.inside k l);
            apart = λ i j a b e. o.apart i j a b (sym (h.below i (omega arith)) ∙ e ∙ h.below j (omega arith));
            small = λ k l. rw (h.below (4096 + k) (omega arith)) (o.small k l);
            idle = λ k a b. h.below (4096 + k) (omega arith) ∙ o.idle k a b;
          };
          sums = sums_beside p q h t.table.sums;
        };
        marked = mk;
      }

  pub beside_same : Store c q s → SameText c p c q s
  beside_same u =
      let most = t.table.order.most in
      record {
        order = u.table.order;
        frame = record { cells_long = refl; words_long = h.long; cells_past = refl; words_past = h.past; spare = λ k a b. h.below k (omega arith) };
        text = strung_same (piece c q) (piece c p) 0 0 s (λ j a. beside_piece (0 + j) (omega arith));
        marked = λ mk. u.marked;
      }

-- sets that have grown
pub grown_store : (c p q : List ℕ) (s : ℕ) → Store c p s → Grown p q → Store c q s
grown_store c p q s t g =
    let o = t.table.order in
    let most = o.most in
    beside_store c p q s t g.beside (λ k l. rw (beside_piece c p q s t g.beside k l)
    (carried p q s o (λ j a. g.beside.below j (omega arith)) g.has k l (piece c p k) (t.marked k l)))

-- the set of piece k made anew
pub remarked : (c p q : List ℕ) (s k : ℕ) → Store c p s → k < s → q ≡ noted_cells (with_set p (slot p k) 0 0) (slot p k) (piece c p k) → Beside p q × Store c q s
remarked c p q s k t l e =
    let o = t.table.order in
    let most = o.most in
    let inside = o.inside k l in
    let i = slot p k in
    let p' = with_set p i 0 0 in
    let b' = set_beside p i 0 0 (omega arith) o.words in
    let long = b'.long in
    let words = o.words in
    let new = cells_noted p' i (piece c p k) (omega arith) (omega arith) in
    let g : Grown p' q = rw e new.0 in
    let b = beside_both p p' q b' g.beside in
    let here : AllByRecursion (Marks q i) (piece c p k) = rw e new.1 in (
      b,
      beside_store c p q s t b (λ x y.
          let a = o.inside x y in
          rw (beside_piece c p q s t b x y, b.below x (omega arith)) (
          elim (cases_eq x k) [
            | inl f ↦ rw f here
            | inr ne ↦ marks_moved p q (slot p x) (slot p x) (piece c p x)
                (λ m has. g.has (slot p x) m (omega arith) (set_apart p i 0 0 (omega arith) words (slot p x) m (omega arith) (λ f. ne (o.apart x k y l f)) has))
                (t.marked x y)
          ])),
    )
