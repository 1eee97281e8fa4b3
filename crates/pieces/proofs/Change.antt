-- From the steps of an edit to one piece, and from one piece to the text.
use Rattle.std.proofs.Common.{◌≡◌, ℕ, suc, ◌+◌, ◌-◌, ◌*◌, ◌<◌, ◌≤◌, ◌≢◌, List, [], ◌++◌, length, take, drop, sym, refl, ap, ◌∙◌, inl, inr, arith}
use Rattle.std.proofs.lemmas.List.{append_assoc, length-append, length-take-le, length-drop}
use Rattle.std.proofs.lemmas.Bool.{cases_order, cases_eq}
use Rattle.model.specs.Paper.{Cell}
use Rattle.slots.specs.Cells.{cells_at, Kept}
use Rattle.slots.proofs.Words.{length_cells, kept_cells_below, kept_cells_above, kept_drop}
use Rattle.std.specs.List.{AllByRecursion}
use Rattle.std.proofs.ByRecursion.{All-append, All-take, All-drop}
use Rattle.pieces.specs.Marks.{Has, Marks, Grown}
use Rattle.pieces.specs.Store.{slot, used, piece, strung, cells_of, before, Marked, Order, Frame}
use Rattle.pieces.specs.Edits.{replaced, Filled, Resized, Changed, Shifted}
use Rattle.pieces.proofs.Strung.{strung_same, strung_at, take_within, drop_within}
use Rattle.pieces.proofs.Texts.{length_piece, length_before}
use Rattle.pieces.proofs.Sets.{marks_moved}

-- the text after a change of one list
pub strung_one : (f g : ℕ → List Cell) (k s : ℕ) → k < s → ((i : ℕ) → i < s → i ≢ k → g i ≡ f i)
    → strung g 0 s ≡ strung f 0 k ++ (g k ++ strung f (suc k) (s - suc k))
strung_one f g k s l h =
    let e = strung_at g k s l in
    let b = strung_same g f 0 0 k (λ i m. h (0 + i) (omega arith) (omega arith)) in
    let r = strung_same g f (suc k) (suc k) (s - suc k) (λ i m. h (suc k + i) (omega arith) (omega arith)) in
    cc

-- cells of one list replaced are the cells of the text replaced
pub strung_replaced : (f g : ℕ → List Cell) (k s o n : ℕ) (ys : List Cell) → k < s → o + n ≤ length (f k) → ((i : ℕ) → i < s → i ≢ k → g i ≡ f i)
    → g k ≡ replaced (f k) o n ys → strung g 0 s ≡ replaced (strung f 0 s) (length (strung f 0 k) + o) n ys
strung_replaced f g k s o n ys l m h e =
    let one = strung_one f g k s l h in
    let at = strung_at f k s l in
    let b = strung f 0 k in
    let r = strung f (suc k) (s - suc k) in
    let t = take_within b (f k) r o (omega arith) in
    let d = drop_within b (f k) r (o + n) m in
    let a : length b + o + n ≡ length b + (o + n) = omega arith in
    let p = append_assoc (take o (f k)) (ys ++ drop (o + n) (f k)) r in
    let q = append_assoc ys (drop (o + n) (f k)) r in
    let w = append_assoc b (take o (f k)) (ys ++ (drop (o + n) (f k) ++ r)) in
    cc

-- a run of xs cells from a on
pub filled : (c d p : List ℕ) (k t : ℕ) (xs : List Cell) → cells_at d (1024 * slot p k) t ≡ xs → Kept c d (1024 * slot p k) 1024 → Filled c d p k xs
filled c d p k t xs e h =
    let n : length xs ≡ t = sym (ap length e) ∙ length_cells d (1024 * slot p k) t in
    record { cells = rw n e; kept = h }

-- two slots lie apart
pub other_slot : (c d p : List ℕ) (s k j n : ℕ) → Order p s → Kept c d (1024 * slot p k) 1024 → k < s → j < s → j ≢ k → n ≤ 1024
    → cells_at d (1024 * slot p j) n ≡ cells_at c (1024 * slot p j) n
other_slot c d p s k j n o h l m ne le =
    elim (cases_order (slot p j) (slot p k)) [
      | inl e ↦ absurd (ne (o.apart j k m l e))
      | inr w ↦ elim w [
        | inl b ↦ kept_cells_below c d (1024 * slot p k) 1024 h (1024 * slot p j) n (omega arith)
        | inr a ↦ kept_cells_above c d (1024 * slot p k) 1024 h (1024 * slot p j) n (omega arith)
      ]
    ]

pub frame_cells : (c d p : List ℕ) (s k : ℕ) → Order p s → k < s → Kept c d (1024 * slot p k) 1024 → Frame c p d p s
frame_cells c d p s k o l h =
    let i = o.inside k l in
    record {
      cells_long = h.long;
      words_long = refl;
      cells_past = kept_drop c d (1024 * slot p k) 1024 h (4096 * s) (omega arith);
      words_past = refl;
      spare = λ j a b. refl;
    }

pub frame_words : (c p q : List ℕ) (s k n : ℕ) → Resized p q k n → Frame c p c q s
frame_words c p q s k n h =
    record { cells_long = refl; words_long = h.long; cells_past = refl; words_past = h.past; spare = λ j a b. h.order j b }

pub frame_both : (c p d q e r : List ℕ) (s : ℕ) → Frame c p d q s → Frame d q e r s → Frame c p e r s
frame_both c p d q e r s f g =
    record {
      cells_long = g.cells_long ∙ f.cells_long;
      words_long = g.words_long ∙ f.words_long;
      cells_past = g.cells_past ∙ f.cells_past;
      words_past = g.words_past ∙ f.words_past;
      spare = λ j a b. g.spare j a b ∙ f.spare j a b;
    }

pub frame_none : (c p : List ℕ) (s : ℕ) → Frame c p c p s
frame_none c p s = record { cells_long = refl; words_long = refl; cells_past = refl; words_past = refl; spare = λ j a b. refl }

pub resized_none : (p : List ℕ) (k : ℕ) → Resized p p k (used p k)
resized_none p k =
    record { long = refl; here = refl; others = λ j a b. refl; order = λ j a. refl; has = λ i m l h. h; past = refl }

-- a length written, and then sets that grow
pub resized_grown : (p q r : List ℕ) (k n : ℕ) → k < 2048 → Resized p q k n → Grown q r → Resized p r k n
resized_grown p q r k n l h g =
    let b = g.beside in
    record {
      long = b.long ∙ h.long;
      here = b.below (4096 + k) (omega arith) ∙ h.here;
      others = λ j a ne. b.below (4096 + j) (omega arith) ∙ h.others j a ne;
      order = λ j a. b.below j (omega arith) ∙ h.order j a;
      has = λ i m a x. g.has i m a (h.has i m a x);
      past = b.past ∙ h.past;
    }

pub resized_order : (p q : List ℕ) (s k n : ℕ) → Order p s → Resized p q k n → k < s → n ≤ 1024 → Order q s
resized_order p q s k n o h l m =
    let most = o.most in
    record {
      some = o.some;
      most = most;
      words = let e = h.long in let w = o.words in omega arith;
      inside = λ j a. rw (h.order j (omega arith)) (o.inside j a);
      apart = λ i j a b e. o.apart i j a b (sym (h.order i (omega arith)) ∙ e ∙ h.order j (omega arith));
      small = λ j a. elim (cases_eq j k) [ inl e ↦ rw (e, h.here) m | inr ne ↦ rw (h.others j (omega arith) ne) (o.small j a) ];
      idle = λ j a b. h.others j b (omega arith) ∙ o.idle j a b;
    }

pub changed : (c p d q : List ℕ) (s k : ℕ) (xs : List Cell) → Order p s → k < s → Filled c d p k xs → Resized p q k (length xs) → length xs ≤ 1024
    → Changed c p d q s k xs
unfolding piece
changed c p d q s k xs o l f h m =
    let most = o.most in
    record {
      order = resized_order p q s k (length xs) o h l m;
      frame = frame_both c p d p d q s (frame_cells c d p s k o l f.kept) (frame_words d p q s k (length xs) h);
      here = rw (h.order k (omega arith), h.here) f.cells;
      others = λ j a ne. rw (h.order j (omega arith), h.others j (omega arith) ne) (other_slot c d p s k j (used p j) o f.kept l a ne (o.small j a));
      slots = λ j a. h.order j (omega arith);
      has = h.has;
    }

pub length_replaced : (xs : List Cell) (o n : ℕ) (ys : List Cell) → o + n ≤ length xs → length (replaced xs o n ys) ≡ length xs + length ys - n
length_replaced xs o n ys l =
    let a = length-append (take o xs) (ys ++ drop (o + n) xs) in
    let b = length-append ys (drop (o + n) xs) in
    let t = length-take-le o xs (omega arith) in
    let d = length-drop (o + n) xs in
    omega arith

-- cells of one piece are replaced, and its length follows
pub replaced_here : (c p d q : List ℕ) (s k o n t : ℕ) (ys : List Cell) → Order p s → k < s → o + n ≤ used p k → t ≡ used p k + length ys - n → t ≤ 1024
    → Filled c d p k (replaced (piece c p k) o n ys) → Resized p q k t → Changed c p d q s k (replaced (piece c p k) o n ys)
replaced_here c p d q s k o n t ys w l m e le f h =
    let u = length_piece c p k in
    let len : t ≡ length (replaced (piece c p k) o n ys) = omega (arith, length_replaced (piece c p k) o n ys (omega arith)) in
    changed c p d q s k (replaced (piece c p k) o n ys) w l f (rw len at h) (rw len at le)

-- a piece keeps its marks where its slot stays and no set has lost a mark
pub carried : (p r : List ℕ) (s : ℕ) → Order p s → ((k : ℕ) → k < s → slot r k ≡ slot p k) → ((i m : ℕ) → i < 2048 → Has p i m → Has r i m)
    → (k : ℕ) → k < s → (xs : List Cell) → AllByRecursion (Marks p (slot p k)) xs → AllByRecursion (Marks r (slot r k)) xs
carried p r s o slots has k l xs all =
    let a = o.inside k l in
    let b = o.most in
    rw (slots k l) (marks_moved p r (slot p k) (slot p k) xs (λ m. has (slot p k) m (omega arith)) all)

all_replaced : (P : Cell → Type 0) (xs : List Cell) (o n : ℕ) (ys : List Cell) → AllByRecursion P xs → AllByRecursion P ys → AllByRecursion P (replaced xs o n ys)
all_replaced P xs o n ys a b =
    All-append P (take o xs) (ys ++ drop (o + n) xs) (All-take P o xs a) (All-append P ys (drop (o + n) xs) b (All-drop P (o + n) xs a))

-- the sets after a change of one piece
pub changed_marked : (c p d q : List ℕ) (s k o n : ℕ) (ys : List Cell) → Order p s → k < s → Marked c p s
    → Changed c p d q s k (replaced (piece c p k) o n ys) → AllByRecursion (Marks q (slot q k)) ys → Marked d q s
changed_marked c p d q s k o n ys w l mk h new x y =
    elim (cases_eq x k) [
      | inl e ↦ rw e (rw h.here
          (all_replaced (Marks q (slot q k)) (piece c p k) o n ys (carried p q s w h.slots h.has k l (piece c p k) (mk k l)) new))
      | inr ne ↦ rw (h.others x y ne) (carried p q s w h.slots h.has x y (piece c p x) (mk x y))
    ]

-- and after cells of piece j went behind piece i
shifted_marked : (c p d q : List ℕ) (s i j o n : ℕ) → Order p s → i < s → j < s → ((k : ℕ) → k < s → slot q k ≡ slot p k)
    → ((i m : ℕ) → i < 2048 → Has p i m → Has q i m) → ((m : ℕ) → Has p (slot p j) m → Has q (slot p i) m)
    → piece d q i ≡ piece c p i ++ take n (drop o (piece c p j)) → piece d q j ≡ replaced (piece c p j) o n []
    → ((k : ℕ) → k < s → k ≢ i → k ≢ j → piece d q k ≡ piece c p k) → Marked c p s → Marked d q s
shifted_marked c p d q s i j o n w a b slots has both target source others mk x y =
    let keeps = carried p q s w slots has in
    let P = Marks q (slot q i) in
    let taken : AllByRecursion P (piece c p j) = rw (slots i a) (marks_moved p q (slot p j) (slot p i) (piece c p j) both (mk j b)) in
    elim (cases_eq x i) [
      | inl e ↦ rw e (rw target (All-append P (piece c p i) (take n (drop o (piece c p j))) (keeps i a (piece c p i) (mk i a))
          (All-take P n (drop o (piece c p j)) (All-drop P o (piece c p j) taken))))
      | inr ni ↦ elim (cases_eq x j) [
        | inl e ↦ rw e (rw source (all_replaced (Marks q (slot q j)) (piece c p j) o n [] (keeps j b (piece c p j) (mk j b)) tt))
        | inr nj ↦ rw (others x y ni nj) (keeps x y (piece c p x) (mk x y))
      ]
    ]

-- cells of piece j go behind piece i, both lengths follow, and the set of piece i takes over that of piece j
pub shifted : (c p d q e r : List ℕ) (s i j o n t v : ℕ) → Order p s → i < s → j < s → i ≢ j → o + n ≤ used p j → used p i + n ≤ 1024
    → t ≡ used p i + n → v ≡ used q j - n
    → Filled c d p i (piece c p i ++ take n (drop o (piece c p j))) → Resized p q i t → ((m : ℕ) → Has p (slot p j) m → Has q (slot p i) m)
    → Filled d e q j (replaced (piece d q j) o n []) → Resized q r j v → Shifted c p e r s i j o n
shifted c p d q e r s i j o n t v w a b ne l m et ev f h both g k =
    let most = w.most in
    let ui = length_piece c p i in
    let uj = length_piece c p j in
    let dj = length-drop o (piece c p j) in
    let len : t ≡ length (piece c p i ++ take n (drop o (piece c p j))) =
    omega (arith, length-append (piece c p i) (take n (drop o (piece c p j))), length-take-le n (drop o (piece c p j)) (omega arith)) in
    let one = changed c p d q s i (piece c p i ++ take n (drop o (piece c p j))) w a f (rw len at h) (omega arith) in
    let j-same : piece d q j ≡ piece c p j = one.others j b (λ x. ne (sym x)) in
    let u_same = h.others j (omega arith) (λ x. ne (sym x)) in
    let small = w.small j b in
    let two = replaced_here d q e r s j o n v [] one.order b (omega arith) (omega arith) (omega arith) g k in
    let target = two.others i a ne ∙ one.here in
    let source = two.here ∙ ap (λ xs. replaced xs o n []) j-same in
    let others : (x : ℕ) → x < s → x ≢ i → x ≢ j → piece e r x ≡ piece c p x = λ x y ni nj. two.others x y nj ∙ one.others x y ni in
    let i-inside = w.inside i a in
    record {
      order = two.order;
      frame = frame_both c p d q e r s one.frame two.frame;
      target = target;
      source = source;
      others = others;
      slots = λ x y. two.slots x y ∙ one.slots x y;
      marked = shifted_marked c p e r s i j o n w a b (λ x y. two.slots x y ∙ one.slots x y) (λ x y z u. two.has x y z (one.has x y z u))
          (λ x y. two.has (slot p i) x (omega arith) (both x y)) target source others;
    }

-- the text after one piece has changed
pub changed_text : (c p d q : List ℕ) (s k o n : ℕ) (ys : List Cell) → k < s → o + n ≤ used p k → Changed c p d q s k (replaced (piece c p k) o n ys)
    → cells_of d q s ≡ replaced (cells_of c p s) (before p k + o) n ys
changed_text c p d q s k o n ys l m h =
    let u = length_piece c p k in
    let b = length_before c p k in
    let e = strung_replaced (piece c p) (piece d q) k s o n ys l (omega arith) h.others h.here in
    cc
