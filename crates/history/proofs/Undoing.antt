-- That an entry brings back the paper before its call, does the call again, and counts as much.
use Rattle.std.proofs.Common.{◌≡◌, ℕ, zero, suc, ◌+◌, ◌-◌, ◌<◌, ◌≤◌, Bool, true, false, ◌||◌, eqb, List, [], ◌∷◌, ◌++◌, length, get_or, take, drop, set, sym, refl, ap, ◌∙◌, subst, zero-add, one-add, arith}
use lib.Seq.{append_snoc}
use Rattle.std.proofs.lemmas.Bool.{or_parts}
use Rattle.std.proofs.lemmas.List.{length-append, length-take-le, length-drop, take-append-drop, take_at, drop_at, drop-drop, set_at, set-set, set-get_or, get_or_default, length_push, length-set, get_or-set_same}
use Rattle.model.specs.Paper.{pick, Cell, Change, Paper, new_cells, strike, accept, reject, styled, author_of, touched}
use Rattle.model.specs.Calls.{Call, put, strikes, accepts, rejects, styles, undo, redo, show, find, count, change, save, with_became, rewritten, how_much}
use Rattle.history.specs.Entry.{Mark, staying, marks_of, entry_of, call_of, much_of, run_back, mark_back, marks_back, goes_accepted, goes_rejected, but_last, undo_of, Can, Placed, UndoCan, UndoBringsBack, RedoDoesAgain, CountsAsMuch, UndoFinds}

-- two papers with the same cells and the same changes
pub same_paper : (p q : Paper) → p.cells ≡ q.cells → p.changes ≡ q.changes → p ≡ q
same_paper p q e f = λ i. record { cells = e i; changes = f i }

-- A run: what stands at i is replaced by what stood there.
run_brings_back : (i k : ℕ) (old mid rest xs : List Cell) → i ≤ length xs → drop i xs ≡ old ++ rest → drop k mid ≡ rest →
    run_back i k old (take i xs ++ mid) ≡ xs
unfolding run_back
run_brings_back i k old mid rest xs h e f =
    let t : take i (take i xs ++ mid) ≡ take i xs = take_at (take i xs) mid i (length-take-le i xs h) in
    let d : drop i (take i xs ++ mid) ≡ mid = drop_at (take i xs) mid i (length-take-le i xs h) in
    let dd : drop k (drop i (take i xs ++ mid)) ≡ drop (i + k) (take i xs ++ mid) = drop-drop k i (take i xs ++ mid) in
    let all = take-append-drop i xs in
    let r : drop (i + k) (take i xs ++ mid) ≡ rest = cc in
    cc

pub length_new : (ls : List ℕ) (s c : ℕ) → length (new_cells ls s c) ≡ length ls
unfolding new_cells
length_new [] s c = refl
length_new (l ∷ ls) s c = ap suc (length_new ls s c)

-- behind the struck and the styled cells the rest stands as it was
pub drop_strike : (xs : List Cell) (n : ℕ) (cs : List Change) (a c : ℕ) → drop (staying (take n xs) cs a) (strike xs n cs a c) ≡ drop n xs
unfolding strike staying
drop_strike [] zero cs a c = refl
drop_strike [] (suc n) cs a c = refl
drop_strike (x ∷ xs) zero cs a c = refl
drop_strike (x ∷ xs) (suc n) cs a c =
    let ih = drop_strike xs n cs a c in
    let k : ℕ = staying (take n xs) cs a in
    let ys : List Cell = strike xs n cs a c in
    let y : Cell = record { letter = x.letter; style = x.style; put_in = x.put_in; struck = pick (eqb x.struck 0) (suc c) x.struck } in
    elim (eqb (author_of cs x.put_in) (suc a)) as (λ b. drop (pick {A = ℕ} b 0 1 + k) (pick b ys (y ∷ ys)) ≡ drop n xs)
    [ true ↦ rw zero-add ih | false ↦ rw one-add ih ]

pub drop_styled : (xs : List Cell) (n s : ℕ) → drop (length (take n xs)) (styled xs n s) ≡ drop n xs
unfolding styled
drop_styled [] zero s = refl
drop_styled [] (suc n) s = refl
drop_styled (x ∷ xs) zero s = refl
drop_styled (x ∷ xs) (suc n) s = drop_styled xs n s

-- a marked cell that went, and one that stayed, come back between what is in order before them and what is still to come
one_back : (b : Bool) (pre ys zs : List Cell) (x y : Cell) (i : ℕ) → length pre ≡ i → zs ≡ pick b ys (y ∷ ys) →
    mark_back b (record { place = i; cell = x }) (pre ++ zs) ≡ (pre ++ (x ∷ [])) ++ ys
one_back true pre ys zs x y i e f =
    let t : take i (pre ++ zs) ≡ pre = take_at pre zs i e in
    let d : drop i (pre ++ zs) ≡ zs = drop_at pre zs i e in
    let a = append_snoc pre x ys in
    cc
one_back false pre ys zs x y i e f =
    let t : set (pre ++ (y ∷ ys)) i x ≡ pre ++ (x ∷ ys) = set_at pre y ys x i e in
    let a = append_snoc pre x ys in
    cc

-- one cell more, of which the test t says whether it had the mark
step_back : (went : Cell → Bool) (t : Bool) (pre xs ys zs : List Cell) (x y : Cell) (i : ℕ) (ms : List Mark) → length pre ≡ i →
    zs ≡ pick (went x) ys (y ∷ ys) → (t ≡ false → zs ≡ x ∷ ys) → marks_back went ms ((pre ++ (x ∷ [])) ++ ys) ≡ (pre ++ (x ∷ [])) ++ xs →
    marks_back went (pick t (record { place = i; cell = x } ∷ ms) ms) (pre ++ zs) ≡ pre ++ (x ∷ xs)
unfolding marks_back
step_back went true pre xs ys zs x y i ms e f g ih = ap (marks_back went ms) (one_back (went x) pre ys zs x y i e f) ∙ ih ∙ append_snoc pre x xs
step_back went false pre xs ys zs x y i ms e f g ih =
    let h : zs ≡ x ∷ ys = g refl in
    let a = append_snoc pre x ys in
    let b = append_snoc pre x xs in
    cc

suc_push : (pre : List Cell) (x : Cell) (i : ℕ) → length pre ≡ i → length (pre ++ (x ∷ [])) ≡ suc i
suc_push pre x i e = omega (arith, length_push pre x)

-- the marked cells put each cell back where it was
pub accept_back : (pre xs : List Cell) (c i : ℕ) → length pre ≡ i → marks_back (goes_accepted c) (marks_of xs c i) (pre ++ accept xs c) ≡ pre ++ xs
unfolding accept marks_of marks_back
accept_back pre [] c i e = refl
accept_back pre (x ∷ xs) c i e =
    step_back (goes_accepted c) (eqb x.put_in (suc c) || eqb x.struck (suc c)) pre xs (accept xs c) _ x _ i (marks_of xs c (suc i)) e refl
    (λ t. let o = or_parts (eqb x.put_in (suc c)) (eqb x.struck (suc c)) t in rw (o.0, o.1)) (accept_back (pre ++ (x ∷ [])) xs c (suc i) (suc_push pre x i e))

pub reject_back : (pre xs : List Cell) (c i : ℕ) → length pre ≡ i → marks_back (goes_rejected c) (marks_of xs c i) (pre ++ reject xs c) ≡ pre ++ xs
unfolding reject marks_of marks_back
reject_back pre [] c i e = refl
reject_back pre (x ∷ xs) c i e =
    step_back (goes_rejected c) (eqb x.put_in (suc c) || eqb x.struck (suc c)) pre xs (reject xs c) _ x _ i (marks_of xs c (suc i)) e refl
    (λ t. let o = or_parts (eqb x.put_in (suc c)) (eqb x.struck (suc c)) t in rw (o.0, o.1)) (reject_back (pre ++ (x ∷ [])) xs c (suc i) (suc_push pre x i e))

pub length_marks : (xs : List Cell) (c i : ℕ) → length (marks_of xs c i) ≡ touched xs c
unfolding marks_of touched
length_marks [] c i = refl
length_marks (x ∷ xs) c i =
    let m : Mark = record { place = i; cell = x } in
    let ms : List Mark = marks_of xs c (suc i) in
    let ih : length ms ≡ touched xs c = length_marks xs c (suc i) in
    elim (eqb x.put_in (suc c) || eqb x.struck (suc c)) as (λ b. length (pick b (m ∷ ms) ms) ≡ pick {A = ℕ} b 1 0 + touched xs c)
    [ true ↦ omega arith | false ↦ omega arith ]

-- the row of changes
but_last_push : (cs : List Change) (x : Change) → but_last (cs ++ (x ∷ [])) ≡ cs
but_last_push cs x =
    let n : length cs ≡ length (cs ++ (x ∷ [])) - 1 = omega (arith, length_push cs x) in
    take_at cs (x ∷ []) (length (cs ++ (x ∷ [])) - 1) n

open_again : (cs : List Change) (c b : ℕ) → c < length cs → (get_or cs c (record { author = 0; became = 3 })).became ≡ 0 → with_became (with_became cs c b) c 0 ≡ cs
open_again cs c b h o =
    let z : Change = record { author = 0; became = 0 } in
    let y : Change = record { author = (get_or cs c z).author; became = b } in
    let same : get_or (set cs c y) c z ≡ y = get_or-set_same cs c y z h in
    let d : get_or cs c (record { author = 0; became = 3 }) ≡ get_or cs c z = get_or_default cs c _ z h in
    let o' : 0 ≡ (get_or cs c z).became = sym o ∙ ap (λ (x : Change). x.became) d in
    let back : ◌≡◌ {A = Change} (record { author = (get_or (set cs c y) c z).author; became = 0 }) (get_or cs c z) =
    λ i. record { author = ap (λ (x : Change). x.author) same i; became = o' i } in
    set-set cs c y _ ∙ ap (λ (x : Change). set cs c x) back ∙ set-get_or cs c z

pub undo_brings_back : UndoBringsBack
unfolding entry_of undo_of rewritten Can
undo_brings_back p (put a i s ls) h =
    let new : List Cell = new_cells ls s (length p.changes) in
    same_paper _ p
    (run_brings_back i (length ls) [] (new ++ drop i p.cells) (drop i p.cells) p.cells h refl (drop_at new _ (length ls) (length_new ls s _)))
    (but_last_push p.changes _)
undo_brings_back p (strikes a i n) h =
    same_paper _ p
    (run_brings_back i _ (take n (drop i p.cells)) _ (drop n (drop i p.cells)) p.cells (omega arith) (sym (take-append-drop n (drop i p.cells)))
    (drop_strike (drop i p.cells) n p.changes a (length p.changes)))
    (but_last_push p.changes _)
undo_brings_back p (accepts c) h = same_paper _ p (accept_back [] p.cells c 0 refl) (open_again p.changes c 1 h.0 h.1)
undo_brings_back p (rejects c) h = same_paper _ p (reject_back [] p.cells c 0 refl) (open_again p.changes c 2 h.0 h.1)
undo_brings_back p (styles i n s) h =
    same_paper _ p
    (run_brings_back i _ (take n (drop i p.cells)) _ (drop n (drop i p.cells)) p.cells (omega arith) (sym (take-append-drop n (drop i p.cells)))
    (drop_styled (drop i p.cells) n s))
    refl
undo_brings_back p undo h = absurd h
undo_brings_back p redo h = absurd h
undo_brings_back p (show k w r n) h = absurd h
undo_brings_back p (find k i ls) h = absurd h
undo_brings_back p (count k) h = absurd h
undo_brings_back p (change c) h = absurd h
undo_brings_back p (save i n) h = absurd h

-- the old cells are as many as the call was about
length_old : (xs : List Cell) (i n : ℕ) → i + n ≤ length xs → length (take n (drop i xs)) ≡ n
length_old xs i n h = let k : n ≤ length (drop i xs) = simp length-drop (omega arith) in length-take-le n (drop i xs) k

-- an entry has its call
pub call_of_entry : (p : Paper) (c : Call) → Can p c → call_of (entry_of p c) ≡ c
unfolding entry_of call_of Can
call_of_entry p (put a i s ls) h = refl
call_of_entry p (strikes a i n) h = ap (λ k. strikes a i k) (length_old p.cells i n h)
call_of_entry p (accepts c) h = refl
call_of_entry p (rejects c) h = refl
call_of_entry p (styles i n s) h = ap (λ k. styles i k s) (length_old p.cells i n h)
call_of_entry p undo h = absurd h
call_of_entry p redo h = absurd h
call_of_entry p (show k w r n) h = absurd h
call_of_entry p (find k i ls) h = absurd h
call_of_entry p (count k) h = absurd h
call_of_entry p (change c) h = absurd h
call_of_entry p (save i n) h = absurd h

pub redo_does_again : RedoDoesAgain
redo_does_again p c h = ap (rewritten p) (call_of_entry p c h)

pub much_of_entry : (p : Paper) (c : Call) → Can p c → much_of (entry_of p c) ≡ how_much p c
unfolding entry_of much_of how_much Can
much_of_entry p (put a i s ls) h = refl
much_of_entry p (strikes a i n) h = length_old p.cells i n h
much_of_entry p (accepts c) h = length_marks p.cells c 0
much_of_entry p (rejects c) h = length_marks p.cells c 0
much_of_entry p (styles i n s) h = length_old p.cells i n h
much_of_entry p undo h = absurd h
much_of_entry p redo h = absurd h
much_of_entry p (show k w r n) h = absurd h
much_of_entry p (find k i ls) h = absurd h
much_of_entry p (count k) h = absurd h
much_of_entry p (change c) h = absurd h
much_of_entry p (save i n) h = absurd h

pub counts_as_much : CountsAsMuch
counts_as_much p c h = ap suc (much_of_entry p c h)

-- Each mark has its place when its turn comes.
module _ (went : Cell → Bool) (x y : Cell) (ys zs : List Cell) (i : ℕ) (ms : List Mark) where
  placed_at : (a b : ℕ) → a ≡ b → Placed went ms a → Placed went ms b
  placed_at a b e h = subst (Placed went ms) e h

  placed_one : (w : Bool) → zs ≡ pick w ys (y ∷ ys) → Placed went ms (suc i + length ys) →
      (i + pick {A = ℕ} w 0 1 ≤ i + length zs) × Placed went ms (i + length zs + pick {A = ℕ} w 1 0)
  placed_one true e ih = let n : length zs ≡ length ys = ap length e in (omega arith, placed_at _ _ (omega arith) ih)
  placed_one false e ih = let n : length zs ≡ suc (length ys) = ap length e in (omega arith, placed_at _ _ (omega arith) ih)

  placed_step : (t : Bool) → zs ≡ pick (went x) ys (y ∷ ys) → (t ≡ false → zs ≡ x ∷ ys) → Placed went ms (suc i + length ys) →
      Placed went (pick t (record { place = i; cell = x } ∷ ms) ms) (i + length zs)
  unfolding Placed
  placed_step true f g ih = placed_one (went x) f ih
  placed_step false f g ih = let n : length zs ≡ suc (length ys) = ap length (g refl) in placed_at _ _ (omega arith) ih

placed_accept : (xs : List Cell) (c i : ℕ) → Placed (goes_accepted c) (marks_of xs c i) (i + length (accept xs c))
unfolding accept marks_of Placed
placed_accept [] c i = tt
placed_accept (x ∷ xs) c i =
    placed_step (goes_accepted c) x _ (accept xs c) _ i (marks_of xs c (suc i)) (eqb x.put_in (suc c) || eqb x.struck (suc c)) refl
    (λ t. let o = or_parts (eqb x.put_in (suc c)) (eqb x.struck (suc c)) t in rw (o.0, o.1)) (placed_accept xs c (suc i))

placed_reject : (xs : List Cell) (c i : ℕ) → Placed (goes_rejected c) (marks_of xs c i) (i + length (reject xs c))
unfolding reject marks_of Placed
placed_reject [] c i = tt
placed_reject (x ∷ xs) c i =
    placed_step (goes_rejected c) x _ (reject xs c) _ i (marks_of xs c (suc i)) (eqb x.put_in (suc c) || eqb x.struck (suc c)) refl
    (λ t. let o = or_parts (eqb x.put_in (suc c)) (eqb x.struck (suc c)) t in rw (o.0, o.1)) (placed_reject xs c (suc i))

-- as many stay as are there
length_strike : (xs : List Cell) (n : ℕ) (cs : List Change) (a c : ℕ) → staying (take n xs) cs a ≤ length (strike xs n cs a c)
unfolding strike staying
length_strike [] zero cs a c = omega arith
length_strike [] (suc n) cs a c = omega arith
length_strike (x ∷ xs) zero cs a c = omega arith
length_strike (x ∷ xs) (suc n) cs a c =
    let k : ℕ = staying (take n xs) cs a in
    let ys : List Cell = strike xs n cs a c in
    let ih : k ≤ length ys = length_strike xs n cs a c in
    let y : Cell = record { letter = x.letter; style = x.style; put_in = x.put_in; struck = pick (eqb x.struck 0) (suc c) x.struck } in
    elim (eqb (author_of cs x.put_in) (suc a)) as (λ b. pick {A = ℕ} b 0 1 + k ≤ length (pick b ys (y ∷ ys))) [ true ↦ omega arith | false ↦ omega arith ]

length_styled : (xs : List Cell) (n s : ℕ) → length (styled xs n s) ≡ length xs
unfolding styled
length_styled [] n s = refl
length_styled (x ∷ xs) zero s = refl
length_styled (x ∷ xs) (suc n) s = ap suc (length_styled xs n s)

-- i cells and then these
length_front : (xs ys : List Cell) (i : ℕ) → i ≤ length xs → length (take i xs ++ ys) ≡ i + length ys
length_front xs ys i h = length-append (take i xs) ys ∙ ap (λ n. n + length ys) (length-take-le i xs h)

pub undo_finds : UndoFinds
unfolding entry_of rewritten Can UndoCan
undo_finds p (put a i s ls) h =
    let new : List Cell = new_cells ls s (length p.changes) in
    let n = length_front p.cells (new ++ drop i p.cells) i h in
    let m = length-append new (drop i p.cells) in
    let k = length_new ls s (length p.changes) in
    (omega arith, omega (arith, length_push p.changes (record { author = a; became = 0 })))
undo_finds p (strikes a i n) h =
    let ys : List Cell = strike (drop i p.cells) n p.changes a (length p.changes) in
    let m = length_front p.cells ys i (omega arith) in
    let k = length_strike (drop i p.cells) n p.changes a (length p.changes) in
    (omega arith, omega (arith, length_push p.changes (record { author = a; became = 0 })))
undo_finds p (accepts c) h = (subst (Placed (goes_accepted c) (marks_of p.cells c 0)) (zero-add _) (placed_accept p.cells c 0), simp length-set h.0)
undo_finds p (rejects c) h = (subst (Placed (goes_rejected c) (marks_of p.cells c 0)) (zero-add _) (placed_reject p.cells c 0), simp length-set h.0)
undo_finds p (styles i n s) h =
    let ys : List Cell = styled (drop i p.cells) n s in
    let m = length_front p.cells ys i (omega arith) in
    let k = length_styled (drop i p.cells) n s in
    let j = length-drop i p.cells in
    let o = length_old p.cells i n h in
    omega arith
undo_finds p undo h = absurd h
undo_finds p redo h = absurd h
undo_finds p (show k w r n) h = absurd h
undo_finds p (find k i ls) h = absurd h
undo_finds p (count k) h = absurd h
undo_finds p (change c) h = absurd h
undo_finds p (save i n) h = absurd h

-- What code needs that does it step by step. A run that comes back: the cells that stand there are removed, and the old ones put in.
pub run_back_edits : (i k : ℕ) (old xs : List Cell) → i ≤ length xs →
    run_back i k old xs ≡ take i (take i xs ++ drop (i + k) xs) ++ (old ++ drop i (take i xs ++ drop (i + k) xs))
unfolding run_back
run_back_edits i k old xs h =
    let t : take i (take i xs ++ drop (i + k) xs) ≡ take i xs = take_at (take i xs) (drop (i + k) xs) i (length-take-le i xs h) in
    let d : drop i (take i xs ++ drop (i + k) xs) ≡ drop (i + k) xs = drop_at (take i xs) (drop (i + k) xs) i (length-take-le i xs h) in
    cc

-- one mark adds a cell if it went, and marks never take one away
pub length_mark_back : (w : Bool) (m : Mark) (xs : List Cell) → m.place + pick {A = ℕ} w 0 1 ≤ length xs →
    length (mark_back w m xs) ≡ length xs + pick {A = ℕ} w 1 0
length_mark_back true m xs h =
    let n = length_front xs (m.cell ∷ drop m.place xs) m.place (omega arith) in
    let k = length-drop m.place xs in
    omega arith
length_mark_back false m xs h = length-set xs m.place m.cell ∙ omega arith

pub length_marks_back : (went : Cell → Bool) (ms : List Mark) (xs : List Cell) → Placed went ms (length xs) → length xs ≤ length (marks_back went ms xs)
unfolding marks_back Placed
length_marks_back went [] xs h = omega arith
length_marks_back went (m ∷ ms) xs h =
    let n = length_mark_back (went m.cell) m xs h.0 in
    let ih = length_marks_back went ms (mark_back (went m.cell) m xs) (subst (Placed went ms) (sym n) h.1) in
    omega arith
