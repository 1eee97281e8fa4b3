-- Marked cells written: one after the other, and piece by piece.
use Rattle.std.proofs.Common.{◌≡◌, ℕ, suc, ◌+◌, ◌-◌, ◌*◌, ◌<◌, ◌≤◌, Bool, true, false, ◌||◌, eqb, List, [], ◌∷◌, ◌++◌, length, take, drop, set, sym, refl, ap, ◌∙◌, subst, add-zero, add_assoc, zero-add, add-one, arith}
use Rattle.std.specs.List.{AllByRecursion}
use Rattle.std.proofs.lemmas.Bool.{ne_eqb}
use Rattle.std.proofs.lemmas.List.{append_assoc, length-append}
use Rattle.model.specs.Paper.{pick, Cell, cells_written, touched}
use Rattle.pieces.specs.Marks.{Lacks}
use Rattle.pieces.specs.Store.{piece, strung, cells_of, pieces_from, before}
use Rattle.pieces.proofs.Strung.{strung_more, strung_at}
use Rattle.pieces.proofs.Texts.{length_before}
use Rattle.history.specs.Entry.{Mark, marks_of}
use Rattle.history.specs.Words.{marks_written}
use Rattle.history.proofs.Logging.{length_marks_written}
use Rattle.history.proofs.Undoing.{length_marks}
use Rattle.recorder.specs.Records.{Marked}
use Rattle.recorder.proofs.Splices.{written_at, written_front, written_from, written_none, written_one, written_more}
use borrow.Rule.Slice.PartMut.{put_mid}

-- the marks of the cells xs, of which the first has place i, are written from word `to` on; they are n
pub record MarkedAt (u new : List ℕ) (to : ℕ) (xs : List Cell) (change i n : ℕ) : Type 0 where
  pub words : new ≡ written_at u to (marks_written (marks_of xs change i))
  pub count : n ≡ touched xs change

-- from the front, and in the words from a place on
pub marked_front : (u new : List ℕ) (xs : List Cell) (c i n : ℕ) → MarkedAt u new 0 xs c i n → Marked u new xs c i n
marked_front u new xs c i n h = record { words = h.words ∙ written_front u (marks_written (marks_of xs c i)); count = h.count }

pub marked_from : (u new : List ℕ) (a k : ℕ) (xs : List Cell) (c i n : ℕ) → k ≡ length u - a → Marked (take k (drop a u)) new xs c i n → MarkedAt u (put_mid a k u new) a xs c i n
marked_from u new a k xs c i n e h = record { words = written_from u (marks_written (marks_of xs c i)) new a k e h.words; count = h.count }

-- a cell has the mark
abbrev pub mark_in : Cell → ℕ → Bool
mark_in x c = eqb x.put_in (suc c) || eqb x.struck (suc c)

touched_append : (xs ys : List Cell) (c : ℕ) → touched (xs ++ ys) c ≡ touched xs c + touched ys c
unfolding touched
touched_append [] ys c = sym (zero-add (touched ys c))
touched_append (x ∷ xs) ys c = ap (λ n. pick (mark_in x c) 1 0 + n) (touched_append xs ys c) ∙ sym (add_assoc (pick (mark_in x c) 1 0) (touched xs c) (touched ys c))

pub touched_few : (xs : List Cell) (c : ℕ) → touched xs c ≤ length xs
unfolding touched
touched_few [] c = omega arith
touched_few (x ∷ xs) c =
    let ih = touched_few xs c in
    elim (mark_in x c) as (λ b. pick {A = ℕ} b 1 0 + touched xs c ≤ suc (length xs)) [ true ↦ omega arith | false ↦ omega arith ]

marks_append : (xs ys : List Cell) (c i : ℕ) → marks_of (xs ++ ys) c i ≡ marks_of xs c i ++ marks_of ys c (i + length xs)
unfolding marks_of
marks_append [] ys c i = ap (marks_of ys c) (sym (add-zero i))
marks_append (x ∷ xs) ys c i =
    let m : Mark = record { place = i; cell = x } in
    let e : suc i + length xs ≡ i + suc (length xs) = omega arith in
    let ih : marks_of (xs ++ ys) c (suc i) ≡ marks_of xs c (suc i) ++ marks_of ys c (i + suc (length xs)) =
    marks_append xs ys c (suc i) ∙ ap (λ n. marks_of xs c (suc i) ++ marks_of ys c n) e in
    elim (mark_in x c) as (λ b. pick b (m ∷ marks_of (xs ++ ys) c (suc i)) (marks_of (xs ++ ys) c (suc i)) ≡ pick b (m ∷ marks_of xs c (suc i)) (marks_of xs c (suc i)) ++ marks_of ys c (i + suc (length xs)))
    [ true ↦ ap (λ ms. m ∷ ms) ih | false ↦ ih ]

marks_written_append : (ms ns : List Mark) → marks_written (ms ++ ns) ≡ marks_written ms ++ marks_written ns
unfolding marks_written
marks_written_append [] ns = refl
marks_written_append (m ∷ ms) ns =
    ap (λ ws. m.place ∷ (m.cell.letter ∷ (m.cell.style ∷ (m.cell.put_in ∷ (m.cell.struck ∷ ws))))) (marks_written_append ms ns)

marks_long : (xs : List Cell) (c i : ℕ) → length (marks_written (marks_of xs c i)) ≡ 5 * touched xs c
marks_long xs c i = omega (arith, length_marks_written (marks_of xs c i), length_marks xs c i)

-- no cells, and cells behind others
pub marked_none : (u : List ℕ) (c i : ℕ) → MarkedAt u u 0 [] c i 0
unfolding marks_of marks_written touched
marked_none u c i = record { words = sym (written_none u 0); count = refl }

pub marked_join :
    (u v w : List ℕ) (to k : ℕ) (xs ys : List Cell) (c i j a b : ℕ) → MarkedAt u v to xs c i a → MarkedAt v w k ys c j b → k ≡ to + 5 * a → j ≡ i + length xs →
    to + 5 * touched xs c ≤ length u → MarkedAt u w to (xs ++ ys) c i (a + b)
marked_join u v w to k xs ys c i j a b f g is-k is-j h =
    let l = marks_long xs c i in
    let t = touched_append xs ys c in
    let first : List ℕ = marks_written (marks_of xs c i) in
    let second : List ℕ = marks_written (marks_of ys c j) in
    let both : first ++ second ≡ marks_written (marks_of (xs ++ ys) c i) =
    ap (λ n. first ++ marks_written (marks_of ys c n)) is-j ∙ sym (marks_written_append (marks_of xs c i) (marks_of ys c (i + length xs))) ∙ ap marks_written (sym (marks_append xs ys c i)) in
    record {
      words = g.words ∙ ap (λ x. written_at x k second) f.words ∙ written_more u to first (omega arith) second k (omega (arith, f.count)) ∙ ap (written_at u to) both;
      count = omega (arith, f.count, g.count);
    }

pub marked_as : (u new : List ℕ) (to c i n : ℕ) (xs ys : List Cell) → xs ≡ ys → MarkedAt u new to xs c i n → MarkedAt u new to ys c i n
marked_as u new to c i n xs ys e h = subst (λ zs. MarkedAt u new to zs c i n) e h

pub marked_same : (u new : List ℕ) (c i n : ℕ) (xs ys : List Cell) → xs ≡ ys → Marked u new xs c i n → Marked u new ys c i n
marked_same u new c i n xs ys e h = subst (λ zs. Marked u new zs c i n) e h

-- one cell
pub touched_one : (x : Cell) (c : ℕ) → mark_in x c ≡ true → touched (x ∷ []) c ≡ 1
unfolding touched
touched_one x c e = ap (λ b. pick {A = ℕ} b 1 0 + 0) e

pub marked_not : (u : List ℕ) (x : Cell) (c i : ℕ) → mark_in x c ≡ false → MarkedAt u u 0 (x ∷ []) c i 0
unfolding marks_of marks_written touched
marked_not u x c i e =
    let ms : marks_of (x ∷ []) c i ≡ [] = ap (λ b. pick b (record { place = i; cell = x } ∷ []) []) e in
    record { words = sym (ap (λ m. written_at u 0 (marks_written m)) ms ∙ written_none u 0); count = sym (ap (λ b. pick {A = ℕ} b 1 0 + 0) e) }

pub marked_one :
    (u new : List ℕ) (x : Cell) (c i : ℕ) → mark_in x c ≡ true → 5 ≤ length u → new ≡ written_at (set u 0 i) 1 (cells_written (x ∷ [])) → MarkedAt u new 0 (x ∷ []) c i 1
unfolding marks_of marks_written touched cells_written
marked_one u new x c i e h is =
    let one : set u 0 i ≡ written_at u 0 (i ∷ []) = written_one u 0 i (omega arith) in
    let ms : marks_of (x ∷ []) c i ≡ record { place = i; cell = x } ∷ [] = ap (λ b. pick b (record { place = i; cell = x } ∷ []) []) e in
    record {
      words =
          is ∙ ap (λ v. written_at v 1 (cells_written (x ∷ []))) one ∙ written_more u 0 (i ∷ []) (omega arith) (cells_written (x ∷ [])) 1 refl
          ∙ sym (ap (λ m. written_at u 0 (marks_written m)) ms);
      count = sym (touched_one x c e);
    }

-- so many of the cells xs are marked, and the rest is left
pub record Going (u new : List ℕ) (xs rest : List Cell) (change first i n : ℕ) : Type 0 where
  pub done : List Cell
  pub all : done ++ rest ≡ xs
  pub many : length done ≡ i
  pub marked : MarkedAt u new 0 done change first n

pub going_start : (u : List ℕ) (xs rest : List Cell) (c first i : ℕ) → rest ≡ xs → i ≡ 0 → Going u u xs rest c first i 0
going_start u xs rest c first i e z = record { done = []; all = e; many = sym z; marked = marked_none u c first }

pub going_few : {u v : List ℕ} {xs rest : List Cell} {c first i n : ℕ} → Going u v xs rest c first i n → i + length rest ≡ length xs
going_few {rest = rest} g = let m = g.many in omega (arith, length-append g.done rest, ap length g.all)

-- one more
module _ {u v : List ℕ} {xs rest left : List Cell} {c first i n : ℕ} {x : Cell} (g : Going u v xs rest c first i n) (one : rest ≡ x ∷ left) where
  going_split : (g.done ++ (x ∷ [])) ++ left ≡ xs
  going_split = append_assoc g.done (x ∷ []) left ∙ ap (λ ys. g.done ++ ys) (sym one) ∙ g.all

  pub going_room : (n + touched (x ∷ []) c ≤ touched xs c) × (i < length xs)
  going_room =
      let t = ap (λ ys. touched ys c) (sym going_split) ∙ touched_append (g.done ++ (x ∷ [])) left c in
      let t2 = touched_append g.done (x ∷ []) c in
      let l = ap length (sym going_split) ∙ length-append (g.done ++ (x ∷ [])) left in
      let l2 = length-append g.done (x ∷ []) in
      let m = g.many in
      (omega (arith, g.marked.count), omega arith)

  pub going_more : (w : List ℕ) (m : ℕ) → MarkedAt v w (5 * n) (x ∷ []) c (first + i) m → 5 * touched xs c ≤ length u → Going u w xs left c first (i + 1) (n + m)
  going_more w m f h = record {
    done = g.done ++ (x ∷ []);
    all = going_split;
    many = length-append g.done (x ∷ []) ∙ ap (λ k. k + 1) g.many;
    marked = marked_join u v w 0 (5 * n) g.done (x ∷ []) c first (first + i) n m g.marked f (omega arith) (ap (λ k. first + k) (sym g.many)) (omega (arith, going_room.0, g.marked.count));
  }

-- a piece: all its cells, or none if it lacks the mark
lacks_not : (xs : List Cell) (c i : ℕ) → AllByRecursion (Lacks (suc c)) xs → marks_of xs c i ≡ []
unfolding marks_of
lacks_not [] c i all = refl
lacks_not (x ∷ xs) c i all = rw (ne_eqb x.put_in (suc c) all.0.put_in, ne_eqb x.struck (suc c) all.0.struck) (lacks_not xs c (suc i) all.1)

pub marked_lacks : (u : List ℕ) (c i : ℕ) (xs : List Cell) → AllByRecursion (Lacks (c + 1)) xs → MarkedAt u u 0 xs c i 0
unfolding marks_written
marked_lacks u c i xs all =
    let none : marks_of xs c i ≡ [] = lacks_not xs c i (rw add-one at all) in
    record { words = sym (ap (λ m. written_at u 0 (marks_written m)) none ∙ written_none u 0); count = ap length (sym none) ∙ length_marks xs c i }

-- one more piece of the text
pub text_room : (cells p : List ℕ) (s k c : ℕ) → k < s → touched (pieces_from cells p 0 k) c + touched (piece cells p k) c ≤ touched (cells_of cells p s) c
text_room cells p s k c l =
    let all = ap (λ xs. touched xs c) (strung_at (piece cells p) k s l) in
    let rest : List Cell = strung (piece cells p) (suc k) (s - suc k) in
    let t = touched_append (strung (piece cells p) 0 k) (piece cells p k ++ rest) c in
    let t2 = touched_append (piece cells p k) rest c in
    omega arith

pub marked_next :
    (u v w cells p : List ℕ) (k c first a b : ℕ) → first ≡ before p k → MarkedAt u v 0 (pieces_from cells p 0 k) c 0 a →
    MarkedAt v w (5 * a) (piece cells p k) c first b → 5 * touched (pieces_from cells p 0 k) c ≤ length u → MarkedAt u w 0 (pieces_from cells p 0 (k + 1)) c 0 (a + b)
marked_next u v w cells p k c first a b is f g h =
    let l = length_before cells p k in
    let e : suc k ≡ k + 1 = omega arith in
    let both : strung (piece cells p) 0 k ++ piece cells p k ≡ strung (piece cells p) 0 (k + 1) = sym (strung_more (piece cells p) k) ∙ ap (strung (piece cells p) 0) e in
    marked_as u w 0 c 0 (a + b) (strung (piece cells p) 0 k ++ piece cells p k) (pieces_from cells p 0 (k + 1)) both
    (marked_join u v w 0 (5 * a) (strung (piece cells p) 0 k) (piece cells p k) c 0 first a b f g (omega arith) (omega arith) (omega (arith, h)))
