-- A piece that is cut in two: the last slot is rotated into place, and takes the cells behind the cut.
use Rattle.std.proofs.Common.{◌≡◌, ℕ, zero, suc, ◌+◌, ◌-◌, ◌<◌, ◌≤◌, ◌≢◌, ◌⊎◌, List, [], ◌++◌, length, get_or, take, drop, set, sym, refl, ap, ◌∙◌, inl, inr, arith}
use Rattle.std.proofs.lemmas.List.{append_assoc, append-nil, length-set, length-drop, take-append-drop, take_all, length-take-le, drop_all, get_or-set_same, get_or-set_other, ext_get_or, get_or-drop}
use Rattle.std.proofs.lemmas.Bool.{cases_eq, cases_order}
use Rattle.model.specs.Paper.{Cell}
use Rattle.slots.specs.Cells.{cells_at}
use Rattle.pieces.specs.Marks.{Has}
use Rattle.pieces.specs.Store.{slot, used, piece, strung, cells_of, before, Marked, Order, Frame}
use Rattle.pieces.specs.Edits.{Recounted, Shifted, Rotated, SameText, Cut, Moved}
use Rattle.pieces.proofs.Strung.{strung_same, strung_none, strung_at, strung_split}
use Rattle.pieces.proofs.Texts.{length_piece}
use Rattle.pieces.proofs.Sets.{marks_moved}
use Rattle.pieces.proofs.Change.{frame_both, frame_words, resized_order, carried}

-- two lists with only empty ones between
pub strung_pair : (f : ℕ → List Cell) (i j s : ℕ) → i < j → j < s → ((k : ℕ) → i < k → k < j → f k ≡ [])
    → strung f 0 s ≡ strung f 0 i ++ ((f i ++ f j) ++ strung f (suc j) (s - suc j))
strung_pair f i j s l m h =
    let whole = strung_at f j s m in
    let front = strung_at f i j l in
    let none = strung_none f (suc i) (j - suc i) (λ k d. h (suc i + k) (omega arith) (omega arith)) in
    let n = append-nil (f i) in
    let a = append_assoc (strung f 0 i) (f i) (f j ++ strung f (suc j) (s - suc j)) in
    let b = append_assoc (f i) (f j) (strung f (suc j) (s - suc j)) in
    cc

-- two such lists change, and what they hold together does not
pub strung_pair_same : (f g : ℕ → List Cell) (i j s : ℕ) → i < j → j < s → ((k : ℕ) → i < k → k < j → f k ≡ [])
    → ((k : ℕ) → k < s → k ≢ i → k ≢ j → g k ≡ f k) → g i ++ g j ≡ f i ++ f j → strung g 0 s ≡ strung f 0 s
strung_pair_same f g i j s l m h same e =
    let p = strung_pair f i j s l m h in
    let q = strung_pair g i j s l m (λ k a b. same k (omega arith) (omega arith) (omega arith) ∙ h k a b) in
    let b = strung_same g f 0 0 i (λ k d. same (0 + k) (omega arith) (omega arith) (omega arith)) in
    let r = strung_same g f (suc j) (suc j) (s - suc j) (λ k d. same (suc j + k) (omega arith) (omega arith) (omega arith)) in
    cc

-- the last list, an empty one, moves behind list k
pub strung_rotated : (f g : ℕ → List Cell) (k s : ℕ) → k + 1 < s → ((j : ℕ) → j ≤ k → g j ≡ f j) → g (k + 1) ≡ [] → f (s - 1) ≡ []
    → ((j : ℕ) → k < j → j + 1 < s → g (j + 1) ≡ f j) → strung g 0 s ≡ strung f 0 s
strung_rotated f g k s l below new last up =
    let n = s - suc (k + 1) in
    let a = strung_at g (k + 1) s l in
    let b = strung_same g f 0 0 (k + 1) (λ j d. below (0 + j) (omega arith)) in
    let r = strung_same g f (suc (k + 1)) (k + 1) n (λ j d.
    let e : suc (k + 1) + j ≡ k + 1 + j + 1 = omega arith in
    ap g e ∙ up (k + 1 + j) (omega arith) (omega arith)) in
    let e : s ≡ k + 1 + (n + 1) = omega arith in
    let w = ap (strung f 0) e ∙ strung_split f 0 (k + 1) (n + 1) in
    let v = strung_split f (0 + (k + 1)) n 1 in
    let z : 0 + (k + 1) ≡ k + 1 = omega arith in
    let y : strung f (k + 1 + n) 1 ≡ [] = strung_none f (k + 1 + n) 1 (λ j d. let i : k + 1 + n + j ≡ s - 1 = omega arith in ap f i ∙ last) in
    let x = append-nil (strung f (k + 1) n) in
    cc

-- the words that a rotation moves
pub rotated : (p q r : List ℕ) (from to : ℕ) → from ≤ to → to < length p → length q ≡ length p
    → ((k : ℕ) (z : ℕ) → from + 1 ≤ k → k < from + 1 + (to - from) → get_or q k z ≡ get_or p (from + (k - (from + 1))) z)
    × ((k : ℕ) (z : ℕ) → k < from + 1 → get_or q k z ≡ get_or p k z)
    × ((k : ℕ) (z : ℕ) → from + 1 + (to - from) ≤ k → get_or q k z ≡ get_or p k z)
    → r ≡ set q from (get_or p to 0) → Rotated p r from to
rotated p q r from to l m e h is =
    record {
      long = ap length is ∙ length-set q from (get_or p to 0) ∙ e;
      first = ap (λ x. get_or x from 0) is ∙ get_or-set_same q from (get_or p to 0) 0 (omega arith);
      up = λ w a b.
          let i : from + (w + 1 - (from + 1)) ≡ w = omega arith in
          other (w + 1) (omega arith) ∙ h.0 (w + 1) 0 (omega arith) (omega arith) ∙ ap (λ x. get_or p x 0) i;
      below = λ w a. other w (omega arith) ∙ h.1 w 0 (omega arith);
      above = λ w a. other w (omega arith) ∙ h.2 w 0 (omega arith);
    }
  where
    other : (w : ℕ) → w ≢ from → get_or r w 0 ≡ get_or q w 0
    other w ne = ap (λ x. get_or x w 0) is ∙ get_or-set_other q from w (get_or p to 0) 0 ne

-- which piece i became piece j
abbrev Was : ℕ → ℕ → ℕ → ℕ → Type 0
Was k s j i = ((j ≤ k) × (i ≡ j)) ⊎ (((j ≡ k + 1) × (i ≡ s - 1)) ⊎ ((k + 1 < j) × (j ≡ i + 1)))

was_apart : (k s j j' i i' : ℕ) → k + 1 < s → j < s → j' < s → Was k s j i → Was k s j' i' → i ≡ i' → j ≡ j'
was_apart k s j j' i i' l a b (inl v) (inl w) e = omega arith
was_apart k s j j' i i' l a b (inl v) (inr (inl w)) e = omega arith
was_apart k s j j' i i' l a b (inl v) (inr (inr w)) e = omega arith
was_apart k s j j' i i' l a b (inr (inl v)) (inl w) e = omega arith
was_apart k s j j' i i' l a b (inr (inl v)) (inr (inl w)) e = omega arith
was_apart k s j j' i i' l a b (inr (inl v)) (inr (inr w)) e = omega arith
was_apart k s j j' i i' l a b (inr (inr v)) (inl w) e = omega arith
was_apart k s j j' i i' l a b (inr (inr v)) (inr (inl w)) e = omega arith
was_apart k s j j' i i' l a b (inr (inr v)) (inr (inr w)) e = omega arith

pub piece_none : (c p : List ℕ) (k : ℕ) → used p k ≡ 0 → piece c p k ≡ []
unfolding piece cells_at
piece_none c p k e = rw e

pub same_piece : (c q p : List ℕ) (j i : ℕ) → slot q j ≡ slot p i → used q j ≡ used p i → piece c q j ≡ piece c p i
unfolding piece
same_piece c q p j i e f = rw (e, f)

pub before_same : (q p : List ℕ) (k : ℕ) → ((j : ℕ) → j < k → used q j ≡ used p j) → before q k ≡ before p k
unfolding before
before_same q p zero h = refl
before_same q p (suc k) h = omega (arith, before_same q p k (λ j l. h j (omega arith)), h k (omega arith))

-- p is rotated to q in the order, and q to r in the lengths
module _ (p q r : List ℕ) (s k : ℕ) (o : Order p s) (l : k + 1 < s) (h : Rotated p q (k + 1) (s - 1)) (g : Rotated q r (4096 + k + 1) (4096 + s - 1)) where
  slot_below : (j : ℕ) → j ≤ k → slot r j ≡ slot p j
  slot_below j a = g.below j (let m = o.most in omega arith) ∙ h.below j (omega arith)

  slot_first : slot r (k + 1) ≡ slot p (s - 1)
  slot_first = g.below (k + 1) (let m = o.most in omega arith) ∙ h.first

  slot_up : (j : ℕ) → k < j → j + 1 < s → slot r (j + 1) ≡ slot p j
  slot_up j a b = g.below (j + 1) (let m = o.most in omega arith) ∙ h.up j (omega arith) (omega arith)

  slot_past : (j : ℕ) → s ≤ j → j < 2048 → slot r j ≡ slot p j
  slot_past j a b = g.below j (omega arith) ∙ h.above j (omega arith)

  used_below : (j : ℕ) → j ≤ k → used r j ≡ used p j
  used_below j a = g.below (4096 + j) (omega arith) ∙ h.above (4096 + j) (let m = o.most in omega arith)

  used_first : used r (k + 1) ≡ used p (s - 1)
  used_first =
      let m = o.most in
      let a : 4096 + (k + 1) ≡ 4096 + k + 1 = omega arith in
      let b : 4096 + s - 1 ≡ 4096 + (s - 1) = omega arith in
      ap (λ i. get_or r i 0) a ∙ g.first ∙ ap (λ i. get_or q i 0) b ∙ h.above (4096 + (s - 1)) (omega arith)

  used_up : (j : ℕ) → k < j → j + 1 < s → used r (j + 1) ≡ used p j
  used_up j a b =
      let m = o.most in
      let i : 4096 + (j + 1) ≡ 4096 + j + 1 = omega arith in
      ap (λ i. get_or r i 0) i ∙ g.up (4096 + j) (omega arith) (omega arith) ∙ h.above (4096 + j) (omega arith)

  used_past : (j : ℕ) → s ≤ j → j < 2048 → used r j ≡ used p j
  used_past j a b = g.above (4096 + j) (omega arith) ∙ h.above (4096 + j) (let m = o.most in omega arith)

  was : (j : ℕ) → j < s → (i : ℕ) × (slot r j ≡ slot p i) × (used r j ≡ used p i) × (i < s) × Was k s j i
  was j a =
      elim (cases_order j (k + 1)) [
        | inl e ↦ (s - 1, rw e slot_first, rw e used_first, omega arith, inr (inl (e, refl)))
        | inr w ↦ elim w [
          | inl b ↦ (j, slot_below j (omega arith), used_below j (omega arith), a, inl (omega arith, refl))
          | inr b ↦
              let i : j ≡ j - 1 + 1 = omega arith in
              (j - 1, ap (slot r) i ∙ slot_up (j - 1) (omega arith) (omega arith), ap (used r) i ∙ used_up (j - 1) (omega arith) (omega arith), omega arith, inr (inr (b, i)))
        ]
      ]

  -- what the rotation leaves in place, and what moves up
  pub rotated_moved : (c : List ℕ) → Moved c p c r s k
  rotated_moved c =
      record {
        slots = slot_below;
        last = slot_first;
        slots_up = slot_up;
        pieces = λ j a. same_piece c r p j j (slot_below j (omega arith)) (used_below j (omega arith));
        pieces_up = λ j a b. same_piece c r p (j + 1) j (slot_up j a b) (used_up j a b);
      }

  pub rotated_order : Order r s
  rotated_order =
      record {
        some = o.some;
        most = o.most;
        words = let w = o.words in let a = h.long in let b = g.long in omega arith;
        inside = λ j a. let w = was j a in rw w.1 (o.inside w.0 w.3);
        apart = λ i j a b e.
            let v = was i a in let w = was j b in
            let e' : v.0 ≡ w.0 = o.apart v.0 w.0 v.3 w.3 (sym v.1 ∙ e ∙ w.1) in
            was_apart k s i j v.0 w.0 l a b v.4 w.4 e';
        small = λ j a. let w = was j a in rw w.2 (o.small w.0 w.3);
        idle = λ j a b. used_past j a b ∙ o.idle j a b;
      }

  pub rotated_frame : (c : List ℕ) → Frame c p c r s
  rotated_frame c =
      let m = o.most in
      let long : length r ≡ length p = g.long ∙ h.long in
      record {
        cells_long = refl;
        words_long = long;
        cells_past = refl;
        words_past = ext_get_or 0 (drop 10240 r) (drop 10240 p) (length-drop 10240 r ∙ ap (λ n. n - 10240) long ∙ sym (length-drop 10240 p))
            (λ i a. get_or-drop 10240 r i 0 ∙ g.above (10240 + i) (omega arith) ∙ h.above (10240 + i) (omega arith) ∙ sym (get_or-drop 10240 p i 0));
        spare = slot_past;
      }

  rotated_has : (i m : ℕ) → Has p i m → Has r i m
  rotated_has i m x =
      record { low = rw (word (6144 + i) (omega arith)) x.low; high = rw (word (8192 + i) (omega arith)) x.high }
    where
      word : (w : ℕ) → 6144 ≤ w → get_or r w 0 ≡ get_or p w 0
      word w a = let n = o.most in g.above w (omega arith) ∙ h.above w (omega arith)

  pub rotated_marked : (c : List ℕ) → Marked c p s → Marked c r s
  rotated_marked c mk j a =
      let w = was j a in
      let i = w.0 in
      rw (same_piece c r p j i w.1 w.2, w.1) (marks_moved p r (slot p i) (slot p i) (piece c p i) (rotated_has (slot p i)) (mk i w.3))

  module _ (none : used p (s - 1) ≡ 0) where
    pub rotated_next : used r (k + 1) ≡ 0
    rotated_next = used_first ∙ none

    pub rotated_here : used r k ≡ used p k
    rotated_here = used_below k (omega arith)

    pub rotated_before : before r k ≡ before p k
    rotated_before = before_same r p k (λ j a. used_below j (omega arith))

    pub rotated_text : (c : List ℕ) → cells_of c r s ≡ cells_of c p s
    rotated_text c =
        strung_rotated (piece c p) (piece c r) k s l (λ j a. same_piece c r p j j (slot_below j a) (used_below j a))
        (piece_none c r (k + 1) rotated_next) (piece_none c p (s - 1) none)
        (λ j a b. same_piece c r p (j + 1) j (slot_up j a b) (used_up j a b))

-- all counts are made right again
module _ (c p q : List ℕ) (s : ℕ) (o : Order p s) (h : Recounted p q) where
  pub recounted_used : (j : ℕ) → j < s → used q j ≡ used p j
  recounted_used j a = elim (cases_eq j 0) [ inl e ↦ rw e h.here | inr ne ↦ h.others j (let m = o.most in omega arith) ne ]

  pub recounted : SameText c p c q s
  recounted =
      let m = o.most in
      let i = o.some in
      record {
        order = resized_order p q s 0 (used p 0) o h i (o.small 0 i);
        frame = frame_words c p q s 0 (used p 0) h;
        text = strung_same (piece c q) (piece c p) 0 0 s (λ j a. same_piece c q p (0 + j) (0 + j) (h.order (0 + j) (omega arith)) (recounted_used (0 + j) (omega arith)));
        marked = λ mk j a. rw (same_piece c q p j j (h.order j (omega arith)) (recounted_used j a))
            (carried p q s o (λ k l. h.order k (omega arith)) h.has j a (piece c p j) (mk j a));
      }

-- the text stays the same step by step
pub same_both : (c p d q e r : List ℕ) (s : ℕ) → SameText c p d q s → SameText d q e r s → SameText c p e r s
same_both c p d q e r s f g =
    record { order = g.order; frame = frame_both c p d q e r s f.frame g.frame; text = g.text ∙ f.text; marked = λ mk. g.marked (f.marked mk) }

-- lengths are those of pieces
pub used_from : (c p d q : List ℕ) (k j : ℕ) → piece d q k ≡ piece c p j → used q k ≡ used p j
used_from c p d q k j e = sym (length_piece d q k) ∙ ap length e ∙ length_piece c p j

-- what stands behind the cut goes to the next piece, which is empty
module _ (c p d q : List ℕ) (s k o n : ℕ) (w : Order p s) (l : k + 1 < s) (none : used p (k + 1) ≡ 0) (a : o ≤ used p k) (e : n ≡ used p k - o)
    (h : Shifted c p d q s (k + 1) k o n) where
  moved_here : piece d q k ≡ take o (piece c p k)
  moved_here =
      let u = length_piece c p k in
      let z = drop_all (o + n) (piece c p k) (omega arith) in
      let y = append-nil (take o (piece c p k)) in
      let x = h.source in
      cc

  moved_next : piece d q (k + 1) ≡ drop o (piece c p k)
  moved_next =
      let u = length_piece c p k in
      let v = length-drop o (piece c p k) in
      let z = take_all n (drop o (piece c p k)) (omega arith) in
      let y = piece_none c p (k + 1) none in
      let x = h.target in
      cc

  pub moved_text : SameText c p d q s
  moved_text =
      let t = take-append-drop o (piece c p k) in
      let z = piece_none c p (k + 1) none in
      let y = append-nil (piece c p k) in
      let f = moved_here in
      let g = moved_next in
      record {
        order = h.order;
        frame = h.frame;
        text = strung_pair_same (piece c p) (piece d q) k (k + 1) s (omega arith) l (λ j i m. absurd (omega arith)) (λ j i m m'. h.others j i m' m) (cc);
        marked = h.marked;
      }

  pub moved_used_here : used q k ≡ o
  moved_used_here =
      let u = length_piece c p k in
      sym (length_piece d q k) ∙ ap length moved_here ∙ length-take-le o (piece c p k) (omega arith)

  pub moved_used_next : used q (k + 1) ≡ used p k - o
  moved_used_next =
      sym (length_piece d q (k + 1)) ∙ ap length moved_next ∙ length-drop o (piece c p k) ∙ ap (λ m. m - o) (length_piece c p k)

  pub moved_before : before q k ≡ before p k
  moved_before = before_same q p k (λ j i. used_from c p d q j j (h.others j (omega arith) (omega arith) (omega arith)))

-- the whole of it
pub cut : (c p q r d t v : List ℕ) (s k o n : ℕ) → Order p s → k + 1 < s → o ≤ used p k → used p (s - 1) ≡ 0
    → Rotated p q (k + 1) (s - 1) → Rotated q r (4096 + k + 1) (4096 + s - 1) → n ≡ used r k - o → Shifted c r d t s (k + 1) k o n → Recounted t v
    → Cut c p d v s k o
cut c p q r d t v s k o n w l a none h g e f i =
    let w' = rotated_order p q r s k w l h g in
    let next = rotated_next p q r s k w l h g none in
    let here = rotated_here p q r s k w l h g none in
    let first : SameText c p c r s = record { order = w'; frame = rotated_frame p q r s k w l h g c; text = rotated_text p q r s k w l h g none c; marked = rotated_marked p q r s k w l h g c } in
    let a' : o ≤ used r k = omega arith in
    let second = moved_text c r d t s k o n w' l next a' e f in
    let third = recounted d t v s f.order i in
    let same = recounted_used d t v s f.order i in
    let first_moved = rotated_moved p q r s k w l h g c in
    let m = w.most in
    let slots : (j : ℕ) → j < s → slot v j ≡ slot r j = λ j x. i.order j (omega arith) ∙ f.slots j x in
    let others : (j : ℕ) → j < s → j ≢ k → j ≢ k + 1 → piece d v j ≡ piece c r j =
    λ j x y z. same_piece d v t j j (i.order j (omega arith)) (same j x) ∙ f.others j x z y in
    record {
      same = same_both c p c r d v s first (same_both c r d t d v s second third);
      place = before_same v t k (λ j m. same j (omega arith)) ∙ moved_before c r d t s k o n w' l next a' e f ∙ rotated_before p q r s k w l h g none;
      here = same k (omega arith) ∙ moved_used_here c r d t s k o n w' l next a' e f;
      next = same (k + 1) l ∙ moved_used_next c r d t s k o n w' l next a' e f ∙ ap (λ m. m - o) here;
      moved = record {
        slots = λ j x. slots j (omega arith) ∙ first_moved.slots j x;
        last = slots (k + 1) l ∙ first_moved.last;
        slots_up = λ j x y. slots (j + 1) y ∙ first_moved.slots_up j x y;
        pieces = λ j x. others j (omega arith) (omega arith) (omega arith) ∙ first_moved.pieces j x;
        pieces_up = λ j x y. others (j + 1) y (omega arith) (omega arith) ∙ first_moved.pieces_up j x y;
      };
    }
