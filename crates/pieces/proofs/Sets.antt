-- Sets of marks: bits of words, marks added, and two sets joined.
use Rattle.std.proofs.Common.{◌≡◌, ℕ, ◌+◌, ◌*◌, ◌/◌, ◌%◌, ◌^◌, ◌<◌, ◌≤◌, max, true, false, ◌≢◌, List, [], ◌∷◌, ◌++◌, length, get_or, drop, set, sym, refl, ap, ◌∙◌, inl, inr, one-mul, arith}
use lib.Bits.{bit_or, or_step}
use Rattle.std.specs.List.{AllByRecursion}
use Rattle.std.proofs.lemmas.Nat.{or_shr, or_comm, shl-shr}
use Rattle.std.proofs.ByRecursion.{All-weaker}
use Rattle.std.proofs.lemmas.List.{length-set, get_or-set_same, get_or-set_other, drop-set-lt, get_or-drop, length-drop}
use Rattle.std.proofs.lemmas.Bool.{cases_eq, eq-eqb, ne_eqb}
use Rattle.model.specs.Paper.{Cell}
use Rattle.tree.specs.Tree.{Sums}
use Rattle.slots.specs.Cells.{cell_at, cells_at}
use Rattle.slots.proofs.Words.{cells_more}
use Rattle.pieces.specs.Marks.{Bit, Bits, Has, has, Marks, Lacks, two_bits, with_set, noted, noted_cells, Beside, Grown, Joined}

odd : (a b : ℕ) → a % 2 ≡ 1 → bit_or a b % 2 ≡ 1
odd a b h =
    let e = or_step a b in
    let m : max (a % 2) (b % 2) ≡ 1 = omega arith in
    omega arith

bit_left : (w v j : ℕ) → Bit w j → Bit (bit_or w v) j
bit_left w v j h = rw (or_shr w v j) (odd (w / 2 ^ j) (v / 2 ^ j) h)

bit_right : (w v j : ℕ) → Bit v j → Bit (bit_or w v) j
bit_right w v j h = rw (or_comm w v) (bit_left v w j h)

bit_own : (j : ℕ) → Bit (2 ^ j) j
bit_own j = let e : 2 ^ j / 2 ^ j ≡ 1 = rw one-mul at (shl-shr 1 j) in rw e

bits_left : (w v i j : ℕ) → Bits w i j → Bits (bit_or w v) i j
bits_left w v i j h = (bit_left w v i h.0, bit_left w v j h.1)

bits_right : (w v i j : ℕ) → Bits v i j → Bits (bit_or w v) i j
bits_right w v i j h = (bit_right w v i h.0, bit_right w v j h.1)

bits_own : (i j : ℕ) → Bits (two_bits i j) i j
bits_own i j = (bit_left (2 ^ i) (2 ^ j) i (bit_own i), bit_right (2 ^ i) (2 ^ j) j (bit_own j))

-- the words of slot a written
module _ (p : List ℕ) (a x y : ℕ) (l : a < 2048) (w : 10240 ≤ length p) where
  set_low : get_or (with_set p a x y) (6144 + a) 0 ≡ x
  set_low =
      get_or-set_other (set p (6144 + a) x) (8192 + a) (6144 + a) y 0 (omega arith) ∙ get_or-set_same p (6144 + a) x 0 (omega arith)

  set_high : get_or (with_set p a x y) (8192 + a) 0 ≡ y
  set_high = get_or-set_same (set p (6144 + a) x) (8192 + a) y 0 (simp length-set (omega arith))

  set_other : (k : ℕ) → k ≢ 6144 + a → k ≢ 8192 + a → get_or (with_set p a x y) k 0 ≡ get_or p k 0
  set_other k e f = get_or-set_other (set p (6144 + a) x) (8192 + a) k y 0 f ∙ get_or-set_other p (6144 + a) k x 0 e

  pub set_beside : Beside p (with_set p a x y)
  set_beside =
      record {
        long = length-set (set p (6144 + a) x) (8192 + a) y ∙ length-set p (6144 + a) x;
        below = λ k h. set_other k (omega arith) (omega arith);
        past = drop-set-lt 10240 (set p (6144 + a) x) (8192 + a) y (omega arith) ∙ drop-set-lt 10240 p (6144 + a) x (omega arith);
      }

  -- the sets of other slots
  pub set_apart : (i m : ℕ) → i < 2048 → i ≢ a → Has p i m → Has (with_set p a x y) i m
  set_apart i m b ne h =
      record { low = rw (set_other (6144 + i) (omega arith) (omega arith)) h.low; high = rw (set_other (8192 + i) (omega arith) (omega arith)) h.high }

  set_has : (m : ℕ) → Bits x (m % 32) (m % 31) → Bits y (m / 32 % 32) (m % 29) → Has (with_set p a x y) a m
  set_has m b c = record { low = rw set_low b; high = rw set_high c }

-- bits x and y added to the words of slot a
module _ (p : List ℕ) (a x y : ℕ) (l : a < 2048) (w : 10240 ≤ length p) where
  more_has : (m : ℕ) → Bits x (m % 32) (m % 31) → Bits y (m / 32 % 32) (m % 29) → Has (with_set p a (bit_or (get_or p (6144 + a) 0) x) (bit_or (get_or p (8192 + a) 0) y)) a m
  more_has m b c =
      set_has p a _ _ l w m (bits_right (get_or p (6144 + a) 0) x (m % 32) (m % 31) b) (bits_right (get_or p (8192 + a) 0) y (m / 32 % 32) (m % 29) c)

  more_kept : (m : ℕ) → Has p a m → Has (with_set p a (bit_or (get_or p (6144 + a) 0) x) (bit_or (get_or p (8192 + a) 0) y)) a m
  more_kept m h =
      set_has p a _ _ l w m (bits_left (get_or p (6144 + a) 0) x (m % 32) (m % 31) h.low) (bits_left (get_or p (8192 + a) 0) y (m / 32 % 32) (m % 29) h.high)

  more_grown : Grown p (with_set p a (bit_or (get_or p (6144 + a) 0) x) (bit_or (get_or p (8192 + a) 0) y))
  more_grown =
      record {
        beside = set_beside p a _ _ l w;
        has = λ i m b h. elim (cases_eq i a) [ inl e ↦ rw e (more_kept m (rw e at h)) | inr ne ↦ set_apart p a _ _ l w i m b ne h ];
      }

pub joined : (p : List ℕ) (a b : ℕ) → a < 2048 → 10240 ≤ length p
    → Joined p (with_set p a (bit_or (get_or p (6144 + a) 0) (get_or p (6144 + b) 0)) (bit_or (get_or p (8192 + a) 0) (get_or p (8192 + b) 0))) a b
joined p a b l w =
    record {
      grown = more_grown p a (get_or p (6144 + b) 0) (get_or p (8192 + b) 0) l w;
      both = λ m h. more_has p a (get_or p (6144 + b) 0) (get_or p (8192 + b) 0) l w m h.low h.high;
    }

pub beside_none : (p : List ℕ) → Beside p p
beside_none p = record { long = refl; below = λ w h. refl; past = refl }

pub grown_none : (p : List ℕ) → Grown p p
grown_none p = record { beside = beside_none p; has = λ i m l h. h }

pub noted_grown : (p : List ℕ) (i m : ℕ) → i < 2048 → 10240 ≤ length p → Grown p (noted p i m)
noted_grown p i m l w =
    elim (cases_eq m 0) [
      | inl e ↦ rw (eq-eqb m 0 e) (grown_none p)
      | inr ne ↦ rw (ne_eqb m 0 ne) (more_grown p i (two_bits (m % 32) (m % 31)) (two_bits (m / 32 % 32) (m % 29)) l w)
    ]

pub noted_has : (p : List ℕ) (i m : ℕ) → i < 2048 → 10240 ≤ length p → 0 < m → Has (noted p i m) i m
noted_has p i m l w some =
    rw (ne_eqb m 0 (λ e. omega arith)) (more_has p i (two_bits (m % 32) (m % 31)) (two_bits (m / 32 % 32) (m % 29)) l w m (bits_own (m % 32) (m % 31)) (bits_own (m / 32 % 32) (m % 29)))

pub noted_none : (p : List ℕ) (i m : ℕ) → m ≡ 0 → p ≡ noted p i m
noted_none p i m e = rw (eq-eqb m 0 e)

pub noted_is : (p : List ℕ) (i m low high : ℕ) → (m ≡ 0 → ⊥) → low ≡ two_bits (m % 32) (m % 31) → high ≡ two_bits (m / 32 % 32) (m % 29)
    → with_set p i (bit_or (get_or p (6144 + i) 0) low) (bit_or (get_or p (8192 + i) 0) high) ≡ noted p i m
noted_is p i m low high ne e f = rw (e, f, ne_eqb m 0 ne)

pub beside_both : (p q r : List ℕ) → Beside p q → Beside q r → Beside p r
beside_both p q r g h = record { long = h.long ∙ g.long; below = λ w l. h.below w l ∙ g.below w l; past = h.past ∙ g.past }

pub grown_both : (p q r : List ℕ) → Grown p q → Grown q r → Grown p r
grown_both p q r g h =
    record { beside = beside_both p q r g.beside h.beside; has = λ i m l x. h.has i m l (g.has i m l x) }

-- one cell more
pub noted_more : (p : List ℕ) (i : ℕ) (xs : List Cell) (x : Cell)
    → noted_cells p i (xs ++ (x ∷ [])) ≡ noted (noted (noted_cells p i xs) i x.put_in) i x.struck
unfolding noted_cells
noted_more p i [] x = refl
noted_more p i (y ∷ xs) x = noted_more (noted (noted p i y.put_in) i y.struck) i xs x

-- one cell more of a run
pub noted_next : (c p q r t : List ℕ) (i from j : ℕ) (x : Cell) → q ≡ noted_cells p i (cells_at c from j) → x ≡ cell_at c (from + j)
    → r ≡ noted q i x.put_in → t ≡ noted r i x.struck → t ≡ noted_cells p i (cells_at c from (j + 1))
noted_next c p q r t i from j x d e f g =
    let xs = cells_at c from j in
    g ∙ ap (λ z. noted z i x.struck) (f ∙ ap (λ z. noted z i x.put_in) d) ∙ sym (noted_more p i xs x)
    ∙ ap (λ y. noted_cells p i (xs ++ (y ∷ []))) e ∙ sym (ap (noted_cells p i) (cells_more c from j))

pub cells_noted : (p : List ℕ) (i : ℕ) (xs : List Cell) → i < 2048 → 10240 ≤ length p → Grown p (noted_cells p i xs) × AllByRecursion (Marks (noted_cells p i xs) i) xs
unfolding noted_cells
cells_noted p i [] l w = (grown_none p, tt)
cells_noted p i (x ∷ xs) l w =
    let q = noted p i x.put_in in
    let r = noted q i x.struck in
    let g = noted_grown p i x.put_in l w in
    let w' : 10240 ≤ length q = let e = g.beside.long in omega arith in
    let h = noted_grown q i x.struck l w' in
    let w'' : 10240 ≤ length r = let e = h.beside.long in omega arith in
    let rest = cells_noted r i xs l w'' in
    let t = noted_cells r i xs in
    let k = rest.0 in (
      grown_both p q t g (grown_both q r t h k),
      (
        record {
          put_in = λ some. k.has i x.put_in l (h.has i x.put_in l (noted_has p i x.put_in l w some));
          struck = λ some. k.has i x.struck l (noted_has q i x.struck l w' some);
        },
        rest.1,
      ),
    )

-- the marks of cells added to the set of piece k
pub piece_noted : (p q : List ℕ) (k : ℕ) (xs : List Cell) → k < 2048 → get_or p k 0 < 2048 → 10240 ≤ length p → q ≡ noted_cells p (get_or p k 0) xs
    → Grown p q × AllByRecursion (Marks q (get_or q k 0)) xs
piece_noted p q k xs a l w e =
    let h = cells_noted p (get_or p k 0) xs l w in
    let g : Grown p q = rw e h.0 in
    (g, rw (g.beside.below k (omega arith), e) h.1)

pub cell_noted : (p q r : List ℕ) (k : ℕ) (x : Cell) → k < 2048 → get_or p k 0 < 2048 → 10240 ≤ length p
    → q ≡ noted p (get_or p k 0) x.put_in → r ≡ noted q (get_or p k 0) x.struck → Grown p r × Marks r (get_or r k 0) x
unfolding noted_cells
cell_noted p q r k x a l w e f =
    let g : r ≡ noted_cells p (get_or p k 0) (x ∷ []) = f ∙ ap (λ z. noted z (get_or p k 0) x.struck) e in
    let h = piece_noted p r k (x ∷ []) a l w g in
    (h.0, h.1.0)

-- what a set that has grown, or one that has taken over another, has
pub marks_moved : (p q : List ℕ) (i j : ℕ) (xs : List Cell) → ((m : ℕ) → Has p i m → Has q j m) → AllByRecursion (Marks p i) xs → AllByRecursion (Marks q j) xs
marks_moved p q i j xs h all =
    All-weaker (Marks p i) (Marks q j) (λ x m. record { put_in = λ l. h x.put_in (m.put_in l); struck = λ l. h x.struck (m.struck l) }) xs all

-- a set without the mark
pub has_not : (p : List ℕ) (i m : ℕ) → has p i m ≡ false → Has p i m → ⊥
has_not p i m e h =
    let a = eq-eqb _ _ h.low.0 in
    let b = eq-eqb _ _ h.low.1 in
    let c = eq-eqb _ _ h.high.0 in
    let d = eq-eqb _ _ h.high.1 in
    let f : true ≡ false = cc in
    true_false f
  where
    true_false : true ≡ false → ⊥
    true_false e = let z : ◌≡◌ {A = ℕ} 0 1 = cc in omega arith

pub lacks : (p : List ℕ) (i m : ℕ) (xs : List Cell) → 0 < m → has p i m ≡ false → AllByRecursion (Marks p i) xs → AllByRecursion (Lacks m) xs
lacks p i m xs some e all =
    All-weaker (Marks p i) (Lacks m)
    (λ x h.
    record {
      put_in = λ f. has_not p i m e (rw f at (h.put_in (omega arith)));
      struck = λ f. has_not p i m e (rw f at (h.struck (omega arith)));
    })
    xs all

-- the tree does not change with the sets
pub sums_beside : (p q : List ℕ) → Beside p q → Sums (drop 2048 p) → Sums (drop 2048 q)
sums_beside p q h t =
    record {
      long = let e = h.long in let l = simp length-drop at t.long in simp length-drop (omega arith);
      sums = λ i a b. node i (omega arith) ∙ t.sums i a b ∙ sym (let x = node (2 * i) (omega arith) in let y = node (2 * i + 1) (omega arith) in cc);
      light = λ j a. rw (node (2048 + j) (omega arith)) (t.light j a);
    }
  where
    node : (i : ℕ) → i < 4096 → get_or (drop 2048 q) i 0 ≡ get_or (drop 2048 p) i 0
    node i l = get_or-drop 2048 q i 0 ∙ h.below (2048 + i) (omega arith) ∙ sym (get_or-drop 2048 p i 0)
