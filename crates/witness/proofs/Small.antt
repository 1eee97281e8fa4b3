-- Words that fit four bytes: of lists, of cells, changes and calls, also after any call. Assumes nothing.
use Rattle.std.proofs.Common.{◌≡◌, ℕ, zero, suc, ◌+◌, ◌*◌, ◌<◌, Bool, true, ◌&&◌, eqb, ltb, List, [], ◌∷◌, ◌++◌, length, get_or, take, drop, replicate, sym, subst, arith}
use Rattle.std.specs.List.{between, AllByRecursion}
use Rattle.std.proofs.lemmas.List.{take-append-drop}
use Rattle.std.proofs.ByRecursion.{All-append, All-push, All-set, All-take, All-drop}
use Rattle.std.proofs.lemmas.Bool.{ltb-true, and_parts}
use Rattle.model.specs.Paper.{pick, Cell, Change, Paper, new_cells, strike, accept, reject, styled, cells_written, changes_written}
use Rattle.model.specs.Calls.{Call, put, strikes, accepts, rejects, styles, undo, redo, show, find, count, change, save, with_became, rewritten}
use Rattle.model.specs.Promise.{readable, all_below, field}
use Rattle.model.proofs.Picks.{pick_both}
use Rattle.changes.specs.Row.{changes_from}
use Rattle.slots.specs.Cells.{cell_at, cells_at}
use Rattle.pieces.specs.Store.{piece, strung}

abbrev pub Word : ℕ → Type 0
Word n = n < 4294967296

abbrev pub Small : List ℕ → Type 0
Small ws = (i : ℕ) → Word (get_or ws i 0)

pub small_append : (vs ws : List ℕ) → Small vs → Small ws → Small (vs ++ ws)
small_append [] ws h k i = k i
small_append (v ∷ vs) ws h k zero = h 0
small_append (v ∷ vs) ws h k (suc i) = small_append vs ws (λ j. h (suc j)) k i

pub small_zeros : (n : ℕ) → Small (replicate n 0)
small_zeros zero i = omega arith
small_zeros (suc n) zero = omega arith
small_zeros (suc n) (suc i) = small_zeros n i

pub small_front : (vs ws : List ℕ) → Small (vs ++ ws) → Small vs
small_front [] ws h i = omega arith
small_front (v ∷ vs) ws h zero = h 0
small_front (v ∷ vs) ws h (suc i) = small_front vs ws (λ j. h (suc j)) i

pub small_rest : (vs ws : List ℕ) → Small (vs ++ ws) → Small ws
small_rest [] ws h = h
small_rest (v ∷ vs) ws h = small_rest vs ws (λ j. h (suc j))

pub small_between : (ws : List ℕ) (i j : ℕ) → Small ws → Small (between i j ws)
small_between ws i j h =
    let rest : Small (drop i ws) = small_rest (take i ws) (drop i ws) (subst Small (sym (take-append-drop i ws)) h) in
    small_front (between i j ws) (drop _ (drop i ws)) (subst Small (sym (take-append-drop _ (drop i ws))) rest)

abbrev pub OfCell : Cell → Type 0
OfCell x = Word x.letter × Word x.style × Word x.put_in × Word x.struck

abbrev OfChange : Change → Type 0
OfChange x = Word x.author × Word x.became

-- a paper whose numbers fit four bytes
pub record OfPaper (p : Paper) : Type 0 where
  pub cells : AllByRecursion OfCell p.cells
  pub changes : AllByRecursion OfChange p.changes

-- a call whose numbers, as far as they are written, fit four bytes
abbrev pub OfCall : Call → Type 0
OfCall (put a i s ls) = Word a × Word i × Word s × Small ls
OfCall (strikes a i n) = Word a × Word i
OfCall (accepts c) = Word c
OfCall (rejects c) = Word c
OfCall (styles i n s) = Word i × Word s
OfCall undo = Unit {0}
OfCall redo = Unit {0}
OfCall (show k w r n) = Unit {0}
OfCall (find k i ls) = Unit {0}
OfCall (count k) = Unit {0}
OfCall (change c) = Unit {0}
OfCall (save i n) = Unit {0}

-- written
pub cells_small : (xs : List Cell) → AllByRecursion OfCell xs → Small (cells_written xs)
unfolding cells_written
cells_small [] h i = omega arith
cells_small (x ∷ xs) h zero = h.0.0
cells_small (x ∷ xs) h (suc zero) = h.0.1
cells_small (x ∷ xs) h (suc (suc zero)) = h.0.2
cells_small (x ∷ xs) h (suc (suc (suc zero))) = h.0.3
cells_small (x ∷ xs) h (suc (suc (suc (suc i)))) = cells_small xs h.1 i

pub changes_small : (xs : List Change) → AllByRecursion OfChange xs → Small (changes_written xs)
unfolding changes_written
changes_small [] h i = omega arith
changes_small (x ∷ xs) h zero = h.0.0
changes_small (x ∷ xs) h (suc zero) = h.0.1
changes_small (x ∷ xs) h (suc (suc i)) = changes_small xs h.1 i

-- read
cells_at_small : (c : List ℕ) → Small c → (a n : ℕ) → AllByRecursion OfCell (cells_at c a n)
unfolding cells_at cell_at
cells_at_small c h a zero = tt
cells_at_small c h a (suc n) = ((h (4 * a), h (4 * a + 1), h (4 * a + 2), h (4 * a + 3)), cells_at_small c h (suc a) n)

strung_all : (P : Cell → Type 0) (f : ℕ → List Cell) → ((k : ℕ) → AllByRecursion P (f k)) → (k n : ℕ) → AllByRecursion P (strung f k n)
unfolding strung
strung_all P f h k zero = tt
strung_all P f h k (suc n) = All-append P (f k) (strung f (suc k) n) (h k) (strung_all P f h (suc k) n)

pub text_small : (c p : List ℕ) → Small c → (k n : ℕ) → AllByRecursion OfCell (strung (piece c p) k n)
unfolding piece
text_small c p h = strung_all OfCell (piece c p) (λ k. cells_at_small c h _ _)

pub row_small : (w : List ℕ) → Small w → (k n : ℕ) → AllByRecursion OfChange (changes_from w k n)
unfolding changes_from
row_small w h k zero = tt
row_small w h k (suc n) = ((h (2 * k), h (2 * k + 1)), row_small w h (suc k) n)

-- rewritten: a cell is new, or it has the words of a cell before but for a mark (a new one, or 0) or the style
new_small : (ls : List ℕ) (s c : ℕ) → Small ls → Word s → Word (suc c) → AllByRecursion OfCell (new_cells ls s c)
unfolding new_cells
new_small [] s c h i j = tt
new_small (l ∷ ls) s c h i j = ((h 0, i, j, omega arith), new_small ls s c (λ k. h (suc k)) i j)

-- a cell that goes or stays
gone_small : (t : Bool) (x : Cell) (xs : List Cell) → OfCell x → AllByRecursion OfCell xs → AllByRecursion OfCell (pick t xs (x ∷ xs))
gone_small t x xs h k = pick_both (AllByRecursion OfCell) t xs (x ∷ xs) k (h, k)

strike_small : (xs : List Cell) (n : ℕ) (cs : List Change) (a c : ℕ) → Word (suc c) → AllByRecursion OfCell xs → AllByRecursion OfCell (strike xs n cs a c)
unfolding strike
strike_small [] n cs a c j h = tt
strike_small (x ∷ xs) zero cs a c j h = h
strike_small (x ∷ xs) (suc n) cs a c j h =
    gone_small _ _ _ (h.0.0, h.0.1, h.0.2, pick_both Word (eqb x.struck 0) (suc c) x.struck j h.0.3) (strike_small xs n cs a c j h.1)

accept_small : (xs : List Cell) (c : ℕ) → AllByRecursion OfCell xs → AllByRecursion OfCell (accept xs c)
unfolding accept
accept_small [] c h = tt
accept_small (x ∷ xs) c h =
    gone_small _ _ _ (h.0.0, h.0.1, pick_both Word (eqb x.put_in (suc c)) 0 x.put_in (omega arith) h.0.2, h.0.3) (accept_small xs c h.1)

reject_small : (xs : List Cell) (c : ℕ) → AllByRecursion OfCell xs → AllByRecursion OfCell (reject xs c)
unfolding reject
reject_small [] c h = tt
reject_small (x ∷ xs) c h =
    gone_small _ _ _ (h.0.0, h.0.1, h.0.2, pick_both Word (eqb x.struck (suc c)) 0 x.struck (omega arith) h.0.3) (reject_small xs c h.1)

styled_small : (xs : List Cell) (n s : ℕ) → Word s → AllByRecursion OfCell xs → AllByRecursion OfCell (styled xs n s)
unfolding styled
styled_small [] n s i h = tt
styled_small (x ∷ xs) zero s i h = h
styled_small (x ∷ xs) (suc n) s i h = ((h.0.0, i, h.0.2, h.0.3), styled_small xs n s i h.1)

-- one change more, and a change that was decided
added_small : (cs : List Change) (a : ℕ) → Word a → AllByRecursion OfChange cs → AllByRecursion OfChange (cs ++ (record { author = a; became = 0 } ∷ []))
added_small cs a i h = All-push OfChange cs (record { author = a; became = 0 }) h (i, omega arith)

author_small : (cs : List Change) (c : ℕ) → AllByRecursion OfChange cs → Word (get_or cs c (record { author = 0; became = 0 })).author
author_small [] c h = omega arith
author_small (x ∷ cs) zero h = h.0.0
author_small (x ∷ cs) (suc c) h = author_small cs c h.1

pub became_small : (cs : List Change) (c b : ℕ) → Word b → AllByRecursion OfChange cs → AllByRecursion OfChange (with_became cs c b)
became_small cs c b i h = All-set OfChange cs c _ (author_small cs c h, i) h

-- what a call makes of a paper
pub rewritten_small : (p : Paper) (c : Call) → OfCall c → Word (suc (length p.changes)) → OfPaper p → OfPaper (rewritten p c)
unfolding rewritten
rewritten_small p (put a i s ls) r mark h =
    record {
      cells = All-append OfCell _ _ (All-take OfCell i _ h.cells)
          (All-append OfCell _ _ (new_small ls s (length p.changes) r.3 r.2 mark) (All-drop OfCell i _ h.cells));
      changes = added_small p.changes a r.0 h.changes;
    }
rewritten_small p (strikes a i n) r mark h =
    record {
      cells = All-append OfCell _ _ (All-take OfCell i _ h.cells) (strike_small _ n _ a _ mark (All-drop OfCell i _ h.cells));
      changes = added_small p.changes a r.0 h.changes;
    }
rewritten_small p (accepts c) r mark h = record { cells = accept_small _ c h.cells; changes = became_small _ c 1 (omega arith) h.changes }
rewritten_small p (rejects c) r mark h = record { cells = reject_small _ c h.cells; changes = became_small _ c 2 (omega arith) h.changes }
rewritten_small p (styles i n s) r mark h =
    record { cells = All-append OfCell _ _ (All-take OfCell i _ h.cells) (styled_small _ n s r.1 (All-drop OfCell i _ h.cells)); changes = h.changes }
rewritten_small p undo r mark h = h
rewritten_small p redo r mark h = h
rewritten_small p (show k w i n) r mark h = h
rewritten_small p (find k i ls) r mark h = h
rewritten_small p (count k) r mark h = h
rewritten_small p (change c) r mark h = h
rewritten_small p (save i n) r mark h = h

-- a call that bytes can carry
word : (n : ℕ) → field n ≡ true → Word n
word n h = ltb-true n 4294967296 h

letters_small : (ls : List ℕ) → all_below 256 ls ≡ true → Small ls
unfolding all_below
letters_small [] h i = omega arith
letters_small (l ∷ ls) h zero = let below = ltb-true l 256 (and_parts (ltb l 256) (all_below 256 ls) h).0 in omega arith
letters_small (l ∷ ls) h (suc i) = letters_small ls (and_parts (ltb l 256) (all_below 256 ls) h).1 i

pub readable_small : (c : Call) → readable c ≡ true → OfCall c
unfolding readable
readable_small (put a i s ls) r =
    let both = and_parts (field a && field i) (field s && (field (length ls) && all_below 256 ls)) r in
    let front = and_parts (field a) (field i) both.0 in
    let style = and_parts (field s) (field (length ls) && all_below 256 ls) both.1 in
    let letters = and_parts (field (length ls)) (all_below 256 ls) style.1 in
    (word a front.0, word i front.1, word s style.0, letters_small ls letters.1)
readable_small (strikes a i n) r =
    let both = and_parts (field a) (field i && field n) r in
    (word a both.0, word i (and_parts (field i) (field n) both.1).0)
readable_small (accepts c) r = word c r
readable_small (rejects c) r = word c r
readable_small (styles i n s) r =
    let both = and_parts (field i) (field n && field s) r in
    (word i both.0, word s (and_parts (field n) (field s) both.1).1)
readable_small undo r = tt
readable_small redo r = tt
readable_small (show k w i n) r = tt
readable_small (find k i ls) r = tt
readable_small (count k) r = tt
readable_small (change c) r = tt
readable_small (save i n) r = tt
