-- That an entry is written and read by its head, and where its letters, cells and marks stand.
use Rattle.std.proofs.Common.{◌≡◌, ℕ, zero, suc, ◌+◌, ◌-◌, ◌*◌, ◌<◌, ◌≤◌, List, [], ◌∷◌, ◌++◌, length, get_or, take, drop, set, sym, refl, ap, ◌∙◌, subst, arith}
use Rattle.std.specs.List.{between}
use Rattle.std.proofs.lemmas.List.{append_assoc, get_or-take, get_or-drop, length-set, length-take-le, take_at, drop_at, take-take, take-set-le, drop-set-lt, get_or-set_same, drop_more, drop-drop, drop-take}
use Rattle.std.proofs.lemmas.List.Edits.{sets-eq, get_or-between, between_more, between_none}
use Rattle.model.specs.Paper.{Cell, cells_written}
use Rattle.history.specs.Entry.{Mark, Entry, was_put, was_struck, was_accepted, was_rejected, was_styled}
use Rattle.history.specs.Words.{marks_written, head_words, payload_words, entry_size, entry_words}
use Rattle.history.specs.Head.{kind_number, kind_at, head_of, head_list, head_at, HeadReads, EntryWritten, EntryStands, PayloadStands, LetterStands, CellAt, MarkAt, CellsStand, MarksStand, CellsMake, MarksMake, WrittenLong}
use Rattle.history.specs.declared.entry.Head.{Head}
use Rattle.history.specs.declared.entry.Kind.{Kind}
use Rattle.history.proofs.Logging.{there, between_join, between_below, length_cells_written, length_marks_written}

-- seven words in a row
seven_set :
    (u : List ℕ) (i a b c d e f g : ℕ) → i + 7 ≤ length u →
    set (set (set (set (set (set (set u i a) (i + 1) b) (i + 2) c) (i + 3) d) (i + 4) e) (i + 5) f) (i + 6) g
    ≡ take i u ++ ((a ∷ (b ∷ (c ∷ (d ∷ (e ∷ (f ∷ (g ∷ []))))))) ++ drop (i + 7) u)
seven_set u i a b c d e f g h =
    let e1 : i + 1 ≡ suc i = omega arith in
    let e2 : i + 2 ≡ suc (suc i) = omega arith in
    let e3 : i + 3 ≡ suc (suc (suc i)) = omega arith in
    let e4 : i + 4 ≡ suc (suc (suc (suc i))) = omega arith in
    let e5 : i + 5 ≡ suc (suc (suc (suc (suc i)))) = omega arith in
    let e6 : i + 6 ≡ suc (suc (suc (suc (suc (suc i))))) = omega arith in
    let vs : List ℕ = a ∷ (b ∷ (c ∷ (d ∷ (e ∷ (f ∷ (g ∷ [])))))) in
    rw (e1, e2, e3, e4, e5, e6) (sets-eq vs u i h ∙ append_assoc (take i u) vs (drop (i + 7) u))

pub head_set :
    (u : List ℕ) (i : ℕ) (h : Head) (k : ℕ) → k ≡ kind_number h.kind → i + 7 ≤ length u →
    set (set (set (set (set (set (set u i h.size) (i + 1) h.count) (i + 2) k) (i + 3) h.who) (i + 4) h.place) (i + 5) h.standing) (i + 6) h.style
    ≡ take i u ++ (head_list h ++ drop (i + 7) u)
head_set u i h k e b =
    seven_set u i h.size h.count k h.who h.place h.standing h.style b
    ∙ ap (λ x. take i u ++ ((h.size ∷ (h.count ∷ (x ∷ (h.who ∷ (h.place ∷ (h.standing ∷ (h.style ∷ []))))))) ++ drop (i + 7) u)) e

-- a head with the kind that its word tells
abbrev with_kind : List ℕ → ℕ → Kind → Head
with_kind ws a k =
    record {
      size = get_or ws a 0;
      count = get_or ws (a + 1) 0;
      kind = k;
      who = get_or ws (a + 3) 0;
      place = get_or ws (a + 4) 0;
      standing = get_or ws (a + 5) 0;
      style = get_or ws (a + 6) 0;
    }

pub head_made : (ws : List ℕ) (a : ℕ) (k : Kind) → k ≡ kind_at (get_or ws (a + 2) 0) → with_kind ws a k ≡ head_at ws a
head_made ws a k e = ap (with_kind ws a) e

-- and from a part of the words
pub head_made_part : (u ws : List ℕ) (a : ℕ) (k : Kind) → ws ≡ take (length u - a) (drop a u) → a + 7 ≤ length u → k ≡ kind_at (get_or ws 2 0) → with_kind ws 0 k ≡ head_at u a
head_made_part u ws a k w l e =
    let at : (j : ℕ) → j < 7 → get_or ws j 0 ≡ get_or u (a + j) 0 =
    λ j b. ap (λ (xs : List ℕ). get_or xs j 0) w ∙ (get_or-take (length u - a) (drop a u) j 0 (omega arith) ∙ get_or-drop a u j 0) in
    let z : a + 0 ≡ a = omega arith in
    let w0 : get_or ws 0 0 ≡ get_or u a 0 = at 0 (omega arith) ∙ ap (λ x. get_or u x 0) z in
    let w1 = at 1 (omega arith) in
    let w2 : k ≡ kind_at (get_or u (a + 2) 0) = e ∙ ap kind_at (at 2 (omega arith)) in
    let w3 = at 3 (omega arith) in
    let w4 = at 4 (omega arith) in
    let w5 = at 5 (omega arith) in
    let w6 = at 6 (omega arith) in
    rw (w0, w1, w2, w3, w4, w5, w6) refl

-- the words of an entry by its head
by_head : (e : Entry) → entry_words e ≡ head_list (head_of e) ++ (payload_words e ++ (entry_size e ∷ []))
unfolding entry_words head_words head_of
by_head (was_put a i s ls) = refl
by_head (was_struck a i k old) = refl
by_head (was_accepted c ms) = refl
by_head (was_rejected c ms) = refl
by_head (was_styled i s old) = refl

by_words : (e : Entry) → head_at (entry_words e) 0 ≡ head_of e
unfolding entry_words head_words head_of
by_words (was_put a i s ls) = refl
by_words (was_struck a i k old) = refl
by_words (was_accepted c ms) = refl
by_words (was_rejected c ms) = refl
by_words (was_styled i s old) = refl

pub head_reads : (ws : List ℕ) (a : ℕ) → HeadReads ws a (head_at ws a)
head_reads ws a e h =
    let at : (k : ℕ) → k < 7 → get_or ws (a + k) 0 ≡ get_or (entry_words e) k 0 =
    λ k b. sym (get_or-between ws a (a + entry_size e) k 0 (omega arith)) ∙ ap (λ xs. get_or xs k 0) h.words in
    let z : a + 0 ≡ a = omega arith in
    let w0 : get_or ws a 0 ≡ get_or (entry_words e) 0 0 = ap (λ x. get_or ws x 0) (sym z) ∙ at 0 (omega arith) in
    let w1 = at 1 (omega arith) in
    let w2 = at 2 (omega arith) in
    let w3 = at 3 (omega arith) in
    let w4 = at 4 (omega arith) in
    let w5 = at 5 (omega arith) in
    let w6 = at 6 (omega arith) in
    let same : head_at ws a ≡ head_at (entry_words e) 0 = simp (w0, w1, w2, w3, w4, w5, w6) in
    same ∙ by_words e

pub entry_stands : EntryStands
entry_stands ws a e h = there ws a e h

pub entry_written : EntryWritten
entry_written u v w new a e room is-v same payload long is =
    let n : ℕ = length (payload_words e) in
    let p : ℕ = a + entry_size e - 1 in
    let head : List ℕ = head_list (head_of e) in
    let rest : List ℕ = drop (a + 7) u in
    let front : length (take a u) ≡ a = length-take-le a u (omega arith) in
    let m7 : a + 7 - a ≡ 7 = omega arith in
    let at-v : between a (a + 7) v ≡ head =
    ap (λ x. take x (drop a v)) m7 ∙ ap (λ xs. take 7 (drop a xs)) is-v ∙ ap (take 7) (drop_at (take a u) (head ++ rest) a front) ∙ take_at head rest 7 refl in
    let kept : take p new ≡ take p w = ap (take p) is ∙ take-set-le p w p (entry_size e) (omega arith) in
    let kept7 : take (a + 7) new ≡ take (a + 7) w = ap (take (a + 7)) is ∙ take-set-le (a + 7) w p (entry_size e) (omega arith) in
    let first : between a (a + 7) new ≡ head = between_below v new (a + 7) a (a + 7) (omega arith) (kept7 ∙ same) ∙ at-v in
    let second : between (a + 7) (a + 7 + n) new ≡ payload_words e = between_below w new p (a + 7) (a + 7 + n) (omega arith) kept ∙ payload in
    let pl : p < length w = omega arith in
    let word : get_or new p 0 ≡ entry_size e = ap (λ xs. get_or xs p 0) is ∙ get_or-set_same w p (entry_size e) 0 pl in
    let long-new : length new ≡ length w = ap length is ∙ length-set w p (entry_size e) in
    let end : a + entry_size e ≡ p + 1 = omega arith in
    let at_p : a + 7 + n ≡ p = omega arith in
    let last : between p (p + 1) new ≡ entry_size e ∷ [] =
    between_more new p p 0 (omega arith) (omega arith) ∙ ap (λ xs. xs ++ (get_or new p 0 ∷ [])) (between_none new p) ∙ ap (λ x. x ∷ []) word in
    let third : between (a + 7 + n) (a + entry_size e) new ≡ entry_size e ∷ [] = ap (λ x. between x (a + entry_size e) new) at_p ∙ ap (λ x. between p x new) end ∙ last in
    let joined : between (a + 7) (a + entry_size e) new ≡ payload_words e ++ (entry_size e ∷ []) =
    between_join new (a + 7) (a + 7 + n) (a + entry_size e) (omega arith) (omega arith) ∙ ap (λ xs. xs ++ between (a + 7 + n) (a + entry_size e) new) second
    ∙ ap (λ xs. payload_words e ++ xs) third in
    record {
      words =
          between_join new a (a + 7) (a + entry_size e) (omega arith) (omega arith) ∙ ap (λ xs. xs ++ between (a + 7) (a + entry_size e) new) first
          ∙ ap (λ xs. head ++ xs) joined ∙ sym (by_head e);
      before =
          ap (take a) is ∙ take-set-le a w p (entry_size e) (omega arith)
          ∙ sym (take-take a (a + 7) w (omega arith)) ∙ ap (take a) same ∙ take-take a (a + 7) v (omega arith)
          ∙ ap (take a) is-v ∙ take_at (take a u) (head ++ rest) a front;
      after = ap (drop (a + entry_size e)) is ∙ drop-set-lt (a + entry_size e) w p (entry_size e) (omega arith);
      long = long-new ∙ long;
    }

-- what stands after the head
pub payload_stands : PayloadStands
payload_stands ws a e h =
    let n : ℕ = length (payload_words e) in
    let head : List ℕ = head_list (head_of e) in
    let tail : List ℕ = payload_words e ++ (entry_size e ∷ []) in
    let m : a + 7 + n - (a + 7) ≡ n = omega arith in
    let size : a + entry_size e - a ≡ entry_size e = omega arith in
    let less : 7 + n ≤ entry_size e = omega arith in
    let whole : take (entry_size e) (drop a ws) ≡ head ++ tail = ap (λ x. take x (drop a ws)) (sym size) ∙ h.words ∙ by_head e in
    let seven : take (7 + n) (drop a ws) ≡ take (7 + n) (head ++ tail) = sym (take-take (7 + n) (entry_size e) (drop a ws) less) ∙ ap (take (7 + n)) whole in
    let d : between (a + 7) (a + 7 + n) ws ≡ drop 7 (take (7 + n) (drop a ws)) =
    ap (λ x. take x (drop (a + 7) ws)) m ∙ ap (take n) (sym (drop-drop 7 a ws)) ∙ sym (drop-take 7 n (drop a ws)) in
    let t : drop 7 (take (7 + n) (head ++ tail)) ≡ payload_words e =
    drop-take 7 n (head ++ tail) ∙ ap (take n) (drop_at head tail 7 refl) ∙ take_at (payload_words e) (entry_size e ∷ []) n refl in
    d ∙ ap (drop 7) seven ∙ t

pub letter_stands : LetterStands
unfolding payload_words
letter_stands ws a n i s ls h k b =
    let p : between (a + 7) (a + 7 + length ls) ws ≡ ls = payload_stands ws a (was_put n i s ls) h in
    sym (get_or-between ws (a + 7) (a + 7 + length ls) k 0 (omega arith)) ∙ ap (λ xs. get_or xs k 0) p

-- Cells, four words each.
cell_there : (xs : List Cell) (k : ℕ) (d : Cell) → k < length xs → CellAt (cells_written xs) (4 * k) (get_or xs k d)
unfolding cells_written
cell_there [] k d h = absurd (omega arith)
cell_there (x ∷ xs) zero d h = record { letter = refl; style = refl; put_in = refl; struck = refl }
cell_there (x ∷ xs) (suc k) d h =
    let r = cell_there xs k d (omega arith) in
    let e0 : 4 * suc k ≡ suc (suc (suc (suc (4 * k)))) = omega arith in
    let e1 : 4 * suc k + 1 ≡ suc (suc (suc (suc (4 * k + 1)))) = omega arith in
    let e2 : 4 * suc k + 2 ≡ suc (suc (suc (suc (4 * k + 2)))) = omega arith in
    let e3 : 4 * suc k + 3 ≡ suc (suc (suc (suc (4 * k + 3)))) = omega arith in
    let ws : List ℕ = cells_written (x ∷ xs) in
    record {
      letter = ap (λ n. get_or ws n 0) e0 ∙ r.letter;
      style = ap (λ n. get_or ws n 0) e1 ∙ r.style;
      put_in = ap (λ n. get_or ws n 0) e2 ∙ r.put_in;
      struck = ap (λ n. get_or ws n 0) e3 ∙ r.struck;
    }

-- in words that hold a part
cell_in :
    (ws part : List ℕ) (a j : ℕ) (x : Cell) → between a (a + length part) ws ≡ part → j + 4 ≤ length part → CellAt part j x → CellAt ws (a + j) x
cell_in ws part a j x h b c =
    let at : (k : ℕ) → k < length part → get_or ws (a + k) 0 ≡ get_or part k 0 =
    λ k l. sym (get_or-between ws a (a + length part) k 0 (omega arith)) ∙ ap (λ xs. get_or xs k 0) h in
    let e1 : a + j + 1 ≡ a + (j + 1) = omega arith in
    let e2 : a + j + 2 ≡ a + (j + 2) = omega arith in
    let e3 : a + j + 3 ≡ a + (j + 3) = omega arith in
    record {
      letter = at j (omega arith) ∙ c.letter;
      style = ap (λ n. get_or ws n 0) e1 ∙ at (j + 1) (omega arith) ∙ c.style;
      put_in = ap (λ n. get_or ws n 0) e2 ∙ at (j + 2) (omega arith) ∙ c.put_in;
      struck = ap (λ n. get_or ws n 0) e3 ∙ at (j + 3) (omega arith) ∙ c.struck;
    }

pub cells_stand : CellsStand
cells_stand ws a xs h k d b = cell_in ws (cells_written xs) a (4 * k) (get_or xs k d) h (omega (arith, length_cells_written xs)) (cell_there xs k d b)

-- Marks, five words each.
cell_at_place : (ws : List ℕ) (i j : ℕ) (x : Cell) → i ≡ j → CellAt ws i x → CellAt ws j x
cell_at_place ws i j x e c = subst (λ n. CellAt ws n x) e c

mark_at_place : (ws : List ℕ) (i j : ℕ) (m : Mark) → i ≡ j → MarkAt ws i m → MarkAt ws j m
mark_at_place ws i j m e c = subst (λ n. MarkAt ws n m) e c

mark_there : (ms : List Mark) (k : ℕ) (d : Mark) → k < length ms → MarkAt (marks_written ms) (5 * k) (get_or ms k d)
unfolding marks_written
mark_there [] k d h = absurd (omega arith)
mark_there (m ∷ ms) zero d h = record { place = refl; cell = record { letter = refl; style = refl; put_in = refl; struck = refl } }
mark_there (m ∷ ms) (suc k) d h =
    let r = mark_there ms k d (omega arith) in
    let e0 : 5 * suc k ≡ suc (suc (suc (suc (suc (5 * k))))) = omega arith in
    let e1 : 5 * suc k + 1 ≡ suc (suc (suc (suc (suc (5 * k + 1))))) = omega arith in
    let e2 : 5 * suc k + 1 + 1 ≡ suc (suc (suc (suc (suc (5 * k + 1 + 1))))) = omega arith in
    let e3 : 5 * suc k + 1 + 2 ≡ suc (suc (suc (suc (suc (5 * k + 1 + 2))))) = omega arith in
    let e4 : 5 * suc k + 1 + 3 ≡ suc (suc (suc (suc (suc (5 * k + 1 + 3))))) = omega arith in
    let ws : List ℕ = marks_written (m ∷ ms) in
    record {
      place = ap (λ n. get_or ws n 0) e0 ∙ r.place;
      cell =
          record {
            letter = ap (λ n. get_or ws n 0) e1 ∙ r.cell.letter;
            style = ap (λ n. get_or ws n 0) e2 ∙ r.cell.style;
            put_in = ap (λ n. get_or ws n 0) e3 ∙ r.cell.put_in;
            struck = ap (λ n. get_or ws n 0) e4 ∙ r.cell.struck;
          };
    }

pub marks_stand : MarksStand
marks_stand ws a ms h k d b =
    let n = length_marks_written ms in
    let r = mark_there ms k d b in
    let e : a + (5 * k + 1) ≡ a + 5 * k + 1 = omega arith in
    record {
      place = sym (get_or-between ws a (a + length (marks_written ms)) (5 * k) 0 (omega arith)) ∙ ap (λ xs. get_or xs (5 * k) 0) h ∙ r.place;
      cell = cell_at_place ws (a + (5 * k + 1)) (a + 5 * k + 1) (get_or ms k d).cell e (cell_in ws (marks_written ms) a (5 * k + 1) (get_or ms k d).cell h (omega arith) r.cell);
    }

pub written_long : WrittenLong
written_long = (length_cells_written, length_marks_written)

-- From each cell to all of them.
four : (ws : List ℕ) (a : ℕ) → a + 4 ≤ length ws → drop a ws ≡ get_or ws a 0 ∷ (get_or ws (a + 1) 0 ∷ (get_or ws (a + 2) 0 ∷ (get_or ws (a + 3) 0 ∷ drop (a + 4) ws)))
four ws a h =
    let e1 : a + 1 + 1 ≡ a + 2 = omega arith in
    let e2 : a + 2 + 1 ≡ a + 3 = omega arith in
    let e3 : a + 3 + 1 ≡ a + 4 = omega arith in
    let d0 : drop a ws ≡ get_or ws a 0 ∷ drop (a + 1) ws = drop_more ws a 0 (omega arith) in
    let d1 : drop (a + 1) ws ≡ get_or ws (a + 1) 0 ∷ drop (a + 2) ws = drop_more ws (a + 1) 0 (omega arith) ∙ ap (λ x. get_or ws (a + 1) 0 ∷ drop x ws) e1 in
    let d2 : drop (a + 2) ws ≡ get_or ws (a + 2) 0 ∷ drop (a + 3) ws = drop_more ws (a + 2) 0 (omega arith) ∙ ap (λ x. get_or ws (a + 2) 0 ∷ drop x ws) e2 in
    let d3 : drop (a + 3) ws ≡ get_or ws (a + 3) 0 ∷ drop (a + 4) ws = drop_more ws (a + 3) 0 (omega arith) ∙ ap (λ x. get_or ws (a + 3) 0 ∷ drop x ws) e3 in
    cc

cells_from :
    (xs : List Cell) (ws : List ℕ) (a : ℕ) (d : Cell) → ((k : ℕ) → k < length xs → CellAt ws (a + 4 * k) (get_or xs k d)) → a + 4 * length xs ≤ length ws →
    take (4 * length xs) (drop a ws) ≡ cells_written xs
unfolding cells_written
cells_from [] ws a d each h = refl
cells_from (x ∷ xs) ws a d each h =
    let z : a + 4 * 0 ≡ a = omega arith in
    let c : CellAt ws a x = cell_at_place ws (a + 4 * 0) a x z (each 0 (omega arith)) in
    let next : (k : ℕ) → a + 4 * suc k ≡ a + 4 + 4 * k = λ k. omega arith in
    let ih : take (4 * length xs) (drop (a + 4) ws) ≡ cells_written xs =
    cells_from xs ws (a + 4) d (λ k b. cell_at_place ws (a + 4 * suc k) (a + 4 + 4 * k) (get_or xs k d) (next k) (each (suc k) (omega arith))) (omega arith) in
    let n : 4 * suc (length xs) ≡ suc (suc (suc (suc (4 * length xs)))) = omega arith in
    let f = four ws a (omega arith) in
    let s : get_or ws a 0 ∷ (get_or ws (a + 1) 0 ∷ (get_or ws (a + 2) 0 ∷ (get_or ws (a + 3) 0 ∷ take (4 * length xs) (drop (a + 4) ws))))
    ≡ x.letter ∷ (x.style ∷ (x.put_in ∷ (x.struck ∷ cells_written xs))) = cc in
    ap (λ m. take m (drop a ws)) n ∙ ap (take (suc (suc (suc (suc (4 * length xs)))))) f ∙ s

pub cells_make : CellsMake
cells_make ws a xs d each h =
    let n : a + length (cells_written xs) - a ≡ 4 * length xs = omega (arith, length_cells_written xs) in
    ap (λ x. take x (drop a ws)) n ∙ cells_from xs ws a d each h

marks_from :
    (ms : List Mark) (ws : List ℕ) (a : ℕ) (d : Mark) → ((k : ℕ) → k < length ms → MarkAt ws (a + 5 * k) (get_or ms k d)) → a + 5 * length ms ≤ length ws →
    take (5 * length ms) (drop a ws) ≡ marks_written ms
unfolding marks_written
marks_from [] ws a d each h = refl
marks_from (m ∷ ms) ws a d each h =
    let z : a + 5 * 0 ≡ a = omega arith in
    let c : MarkAt ws a m = mark_at_place ws (a + 5 * 0) a m z (each 0 (omega arith)) in
    let cell : CellAt ws (a + 1) m.cell = c.cell in
    let next : (k : ℕ) → a + 5 * suc k ≡ a + 1 + 4 + 5 * k = λ k. omega arith in
    let ih : take (5 * length ms) (drop (a + 1 + 4) ws) ≡ marks_written ms =
    marks_from ms ws (a + 1 + 4) d (λ k b. mark_at_place ws (a + 5 * suc k) (a + 1 + 4 + 5 * k) (get_or ms k d) (next k) (each (suc k) (omega arith))) (omega arith) in
    let n : 5 * suc (length ms) ≡ suc (suc (suc (suc (suc (5 * length ms))))) = omega arith in
    let f = four ws (a + 1) (omega arith) in
    let g : drop a ws ≡ get_or ws a 0 ∷ (get_or ws (a + 1) 0 ∷ (get_or ws (a + 1 + 1) 0 ∷ (get_or ws (a + 1 + 2) 0 ∷ (get_or ws (a + 1 + 3) 0 ∷ drop (a + 1 + 4) ws)))) =
    drop_more ws a 0 (omega arith) ∙ ap (λ xs. get_or ws a 0 ∷ xs) f in
    let s : get_or ws a 0 ∷ (get_or ws (a + 1) 0 ∷ (get_or ws (a + 1 + 1) 0 ∷ (get_or ws (a + 1 + 2) 0 ∷ (get_or ws (a + 1 + 3) 0 ∷ take (5 * length ms) (drop (a + 1 + 4) ws)))))
    ≡ m.place ∷ (m.cell.letter ∷ (m.cell.style ∷ (m.cell.put_in ∷ (m.cell.struck ∷ marks_written ms)))) = cc in
    ap (λ x. take x (drop a ws)) n ∙ ap (take (suc (suc (suc (suc (suc (5 * length ms))))))) g ∙ s

pub marks_make : MarksMake
marks_make ws a ms d each h =
    let n : a + length (marks_written ms) - a ≡ 5 * length ms = omega (arith, length_marks_written ms) in
    ap (λ x. take x (drop a ws)) n ∙ marks_from ms ws a d each h
