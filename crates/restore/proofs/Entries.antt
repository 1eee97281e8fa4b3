-- An entry by its head and the words after it.
use Rattle.std.proofs.Common.{◌≡◌, ℕ, suc, ◌+◌, ◌-◌, ◌*◌, ◌≤◌, ◌⊎◌, List, [], ◌∷◌, ◌++◌, length, take, drop, sym, refl, ap, ◌∙◌, subst, inl, inr, arith}
use Rattle.std.proofs.lemmas.List.{length-append, length-drop, length-take, take-append-drop}
use Rattle.model.specs.Paper.{Cell, Change, cells_written}
use Rattle.history.specs.Entry.{Mark, Entry, was_put, was_struck, was_accepted, was_rejected, was_styled, much_of, run_back, marks_back, goes_accepted, goes_rejected, UndoCan, undo_of}
use Rattle.history.specs.Words.{marks_written, payload_words, entry_size, cells_read, marks_read, EntryAt}
use Rattle.history.specs.Head.{head_of}
use Rattle.history.specs.declared.entry.Head.{Head}
use Rattle.history.specs.declared.entry.Kind.{Kind}
use Rattle.history.specs.declared.entry.Kind.TheVariants.{Strike, Style}
use Rattle.history.proofs.Logging.{length_cells_written, length_marks_written}
use Rattle.history.proofs.Heads.{payload_stands}
use Rattle.restore.specs.Back.{taken_back, CanMark, CanRun, CanTakeBack, Undoable}

-- cells and marks are read back from their words, whatever comes after them
cells_back : (xs : List Cell) (rest : List ℕ) → cells_read (length xs) (cells_written xs ++ rest) ≡ xs
unfolding cells_read cells_written
cells_back [] rest = refl
cells_back (x ∷ xs) rest = ap (λ ys. x ∷ ys) (cells_back xs rest)

marks_back_read : (ms : List Mark) (rest : List ℕ) → marks_read (length ms) (marks_written ms ++ rest) ≡ ms
unfolding marks_read marks_written
marks_back_read [] rest = refl
marks_back_read (m ∷ ms) rest = ap (λ ns. m ∷ ns) (marks_back_read ms rest)

-- the words after the head
after_head : (u : List ℕ) (a : ℕ) (e : Entry) → EntryAt u a e → drop (a + 7) u ≡ payload_words e ++ drop (length (payload_words e)) (drop (a + 7) u)
after_head u a e h =
    let n : ℕ = length (payload_words e) in
    let m : n ≡ a + 7 + n - (a + 7) = omega arith in
    let t : take n (drop (a + 7) u) ≡ payload_words e = ap (λ x. take x (drop (a + 7) u)) m ∙ payload_stands u a e h in
    sym (take-append-drop n (drop (a + 7) u)) ∙ ap (λ xs. xs ++ drop n (drop (a + 7) u)) t

less_one : (n : ℕ) → suc n - 1 ≡ n
less_one n = omega arith

cells_there : (ws : List ℕ) (xs : List Cell) (rest : List ℕ) → ws ≡ cells_written xs ++ rest → cells_read (suc (length xs) - 1) ws ≡ xs
cells_there ws xs rest e = ap (λ k. cells_read k ws) (less_one (length xs)) ∙ ap (cells_read (length xs)) e ∙ cells_back xs rest

marks_there : (ws : List ℕ) (ms : List Mark) (rest : List ℕ) → ws ≡ marks_written ms ++ rest → marks_read (suc (length ms) - 1) ws ≡ ms
marks_there ws ms rest e = ap (λ k. marks_read k ws) (less_one (length ms)) ∙ ap (marks_read (length ms)) e ∙ marks_back_read ms rest

-- what an entry makes of the text is what its head and these words say; the changes do not matter
by_entry : (u : List ℕ) (a : ℕ) (e : Entry) (xs : List Cell) (cs : List Change) → EntryAt u a e
    → taken_back (head_of e).kind (head_of e) (drop (a + 7) u) xs ≡ (undo_of e (record { cells = xs; changes = cs })).cells
unfolding head_of undo_of payload_words much_of
by_entry u a (was_put w i s ls) xs cs h = refl
by_entry u a (was_struck w i k old) xs cs h =
    ap (λ ys. run_back i k ys xs) (cells_there (drop (a + 7) u) old _ (after_head u a (was_struck w i k old) h))
by_entry u a (was_accepted c ms) xs cs h =
    ap (λ ns. marks_back (goes_accepted c) ns xs) (marks_there (drop (a + 7) u) ms _ (after_head u a (was_accepted c ms) h))
by_entry u a (was_rejected c ms) xs cs h =
    ap (λ ns. marks_back (goes_rejected c) ns xs) (marks_there (drop (a + 7) u) ms _ (after_head u a (was_rejected c ms) h))
by_entry u a (was_styled i s old) xs cs h =
    ap (λ ys. run_back i (length old) ys xs) (cells_there (drop (a + 7) u) old _ (after_head u a (was_styled i s old) h))

pub taken_back_is : (u : List ℕ) (a : ℕ) (e : Entry) (g : Head) (xs : List Cell) (cs : List Change) → EntryAt u a e → g ≡ head_of e
    → taken_back g.kind g (drop (a + 7) u) xs ≡ (undo_of e (record { cells = xs; changes = cs })).cells
taken_back_is u a e g xs cs h is = ap (λ f. taken_back f.kind f (drop (a + 7) u) xs) is ∙ by_entry u a e xs cs h

-- and needs no more than undo does
length_run_back : (xs old : List Cell) (i k : ℕ) → i + k ≤ length xs → length (run_back i k old xs) + k ≡ length xs + length old
unfolding run_back
length_run_back xs old i k l = simp (length-append, length-take, length-drop) (omega arith)

run_can : (u : List ℕ) (a i k m : ℕ) (xs old : List Cell) (s : ℕ) → i + k ≤ length xs → length (run_back i k old xs) ≤ 768 * (s - 1)
    → a + (8 + length (cells_written old)) ≤ length u → m ≡ length old → CanRun i k m (drop (a + 7) u) xs s
run_can u a i k m xs old s w f inside e =
    let b = length_run_back xs old i k w in
    let n = length_cells_written old in
    record { within = w; source = simp length-drop (omega arith); fits = omega arith }

by_need : (u : List ℕ) (a : ℕ) (e : Entry) (xs : List Cell) (cs : List Change) (s : ℕ) → EntryAt u a e → a + entry_size e ≤ length u
    → UndoCan e (record { cells = xs; changes = cs }) → length (undo_of e (record { cells = xs; changes = cs })).cells ≤ 768 * (s - 1)
    → CanTakeBack (head_of e).kind (head_of e) (drop (a + 7) u) xs s
unfolding head_of undo_of UndoCan payload_words much_of
by_need u a (was_put w i t ls) xs cs s h inside can fits = can.0
by_need u a (was_struck w i k old) xs cs s h inside can fits = run_can u a i k (suc (length old) - 1) xs old s can.0 fits inside (less_one (length old))
by_need u a (was_accepted c ms) xs cs s h inside can fits =
    let e = marks_there (drop (a + 7) u) ms _ (after_head u a (was_accepted c ms) h) in
    let n = length_marks_written ms in
    record {
      source = simp length-drop (omega arith);
      can = subst (λ ns. CanMark (goes_accepted c) ns xs s) (sym e) record { placed = can.0; fits = fits };
    }
by_need u a (was_rejected c ms) xs cs s h inside can fits =
    let e = marks_there (drop (a + 7) u) ms _ (after_head u a (was_rejected c ms) h) in
    let n = length_marks_written ms in
    record {
      source = simp length-drop (omega arith);
      can = subst (λ ns. CanMark (goes_rejected c) ns xs s) (sym e) record { placed = can.0; fits = fits };
    }
by_need u a (was_styled i t old) xs cs s h inside can fits =
    run_can u a i (length old) (suc (length old) - 1) xs old s can fits inside (less_one (length old))

pub can_take_back : (u : List ℕ) (a : ℕ) (g : Head) (xs : List Cell) (s : ℕ) → (h : Undoable u a xs s) → g ≡ head_of h.entry
    → CanTakeBack g.kind g (drop (a + 7) u) xs s
can_take_back u a g xs s h is =
    subst (λ f. CanTakeBack f.kind f (drop (a + 7) u) xs s) (sym is) (by_need u a h.entry xs h.changes s h.stands h.inside h.can h.fits)

-- a strike and a change of style put old cells back
pub run_needs : (k : Kind) (g : Head) (ws : List ℕ) (xs : List Cell) (s : ℕ) → (k ≡ Strike) ⊎ (k ≡ Style) → CanTakeBack k g ws xs s
    → CanRun g.place g.standing (g.count - 1) ws xs s
run_needs k g ws xs s (inl e) h = subst (λ j. CanTakeBack j g ws xs s) e h
run_needs k g ws xs s (inr e) h = subst (λ j. CanTakeBack j g ws xs s) e h

pub run_makes : (k : Kind) (g : Head) (ws : List ℕ) (xs : List Cell) → (k ≡ Strike) ⊎ (k ≡ Style)
    → run_back g.place g.standing (cells_read (g.count - 1) ws) xs ≡ taken_back k g ws xs
run_makes k g ws xs (inl e) = sym (ap (λ j. taken_back j g ws xs) e)
run_makes k g ws xs (inr e) = sym (ap (λ j. taken_back j g ws xs) e)
