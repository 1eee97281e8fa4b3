-- Cells packed together: the text stays the same, and the pieces at the front are well filled.
use Rattle.std.proofs.Common.{◌≡◌, ℕ, zero, suc, ◌+◌, ◌-◌, ◌*◌, ◌<◌, ◌≤◌, List, length, take, drop, sym, refl, ap, ◌∙◌, inl, inr, zero-add, arith, below_more}
use Rattle.std.proofs.lemmas.List.{append_assoc, length-drop, take-append-drop}
use Rattle.std.proofs.lemmas.Bool.{cases_eq, cases_lt}
use Rattle.pieces.specs.Store.{used, piece, before, Order}
use Rattle.pieces.specs.Edits.{Shifted, SameText, Packed}
use Rattle.pieces.proofs.Texts.{length_piece, length_text, before_more}
use Rattle.pieces.proofs.Change.{frame_none}
use Rattle.pieces.proofs.Cuts.{piece_none, strung_pair_same, used_from}

pub same_none : (c p : List ℕ) (s : ℕ) → Order p s → SameText c p c p s
same_none c p s o = record { order = o; frame = frame_none c p s; text = refl; marked = λ mk. mk }

pub same_before : (c p d q : List ℕ) (s : ℕ) → SameText c p d q s → before q s ≡ before p s
same_before c p d q s h = sym (length_text d q s) ∙ ap length h.text ∙ length_text c p s

-- a piece that is full
pub packed_next : (p : List ℕ) (i j : ℕ) → Packed p i j → 768 ≤ used p i → Packed p (i + 1) j
packed_next p i j h a = record { full = below_more (λ k. 768 ≤ used p k) i h.full a; empty = λ k b d. h.empty k (omega arith) d }

-- one piece more is empty
pub packed_none : (p : List ℕ) (i j : ℕ) → Packed p i j → used p j ≡ 0 → Packed p i (j + 1)
packed_none p i j h e =
    record { full = h.full; empty = λ k a b. elim (cases_eq k j) [ inl x ↦ rw x e | inr ne ↦ h.empty k a (omega arith) ] }

pub packed_all : (p : List ℕ) (i j : ℕ) → Packed p i j → i ≡ j → Packed p i (j + 1)
packed_all p i j h e = record { full = h.full; empty = λ k a b. absurd (omega arith) }

pub packed_start : (p : List ℕ) → Packed p 0 1
packed_start p = record { full = λ k a. absurd (omega arith); empty = λ k a b. absurd (omega arith) }

-- n cells go from the front of piece j to the end of piece i
module _ (c p d q : List ℕ) (s i j n : ℕ) (l : i < j) (m : j < s) (a : n ≤ used p j) (k : Packed p i j) (h : Shifted c p d q s i j 0 n) where
  poured_source : piece d q j ≡ drop n (piece c p j)
  poured_source = h.source ∙ ap (λ x. drop x (piece c p j)) (zero-add n)

  pub poured_text : SameText c p d q s
  poured_text =
      let t = take-append-drop n (piece c p j) in
      let x = poured_source in
      let y = h.target in
      let b = append_assoc (piece c p i) (take n (piece c p j)) (drop n (piece c p j)) in
      record {
        order = h.order;
        frame = h.frame;
        text = strung_pair_same (piece c p) (piece d q) i j s l m (λ x y z. piece_none c p x (k.empty x y z)) h.others (cc);
        marked = h.marked;
      }

  pub poured_packed : Packed q i j
  poured_packed =
      record {
        full = λ x y. rw (used_from c p d q x x (h.others x (omega arith) (omega arith) (omega arith))) (k.full x y);
        empty = λ x y z. used_from c p d q x x (h.others x (omega arith) (omega arith) (omega arith)) ∙ k.empty x y z;
      }

  pub poured_less : used q j ≡ used p j - n
  poured_less = sym (length_piece d q j) ∙ ap length poured_source ∙ length-drop n (piece c p j) ∙ ap (λ x. x - n) (length_piece c p j)

before_full : (p : List ℕ) (n : ℕ) → ((k : ℕ) → k < n → 768 ≤ used p k) → 768 * n ≤ before p n
unfolding before
before_full p zero h = omega arith
before_full p (suc n) h = omega (arith, before_full p n (λ k l. h k (omega arith)), h n (omega arith))

-- after the last piece: it is empty, unless there are too many cells
pub packed_spare : (p : List ℕ) (s i : ℕ) → 0 < s → Packed p i s → i < s → before p s < 768 * (s - 1) → used p (s - 1) ≡ 0
packed_spare p s i o h l m =
    elim (cases_lt i (s - 1)) [
      | inl a ↦ h.empty (s - 1) a (omega arith)
      | inr a ↦ absurd (
          let e : s ≡ s - 1 + 1 = omega arith in
          let b : before p s ≡ before p (s - 1) + used p (s - 1) = ap (before p) e ∙ before_more p (s - 1) in
          omega (arith, before_full p (s - 1) (λ k d. h.full k (omega arith))))
    ]
