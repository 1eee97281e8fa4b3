-- How many cells have the mark of a change.
use Rattle.std.proofs.Common.{◌≡◌, ℕ, zero, suc, ◌+◌, ◌*◌, ◌^◌, ◌<◌, ◌≤◌, get_or, Bool, true, false, ◌||◌, eqb, cond, List, [], ◌∷◌, ◌++◌, sym, refl, ap, ◌∙◌, add_assoc, zero-add, arith}
use Rattle.std.specs.List.{AllByRecursion, count_by}
use Rattle.std.proofs.lemmas.List.Recursion.{is_count_by}
use Rattle.std.proofs.lemmas.Bool.{eqb-false, ne_eqb}
use Rattle.std.proofs.lemmas.List.{length-append, nil_from_length}
use Rattle.model.specs.Paper.{pick, Cell, Change, touched}
use Rattle.slots.specs.Cells.{cell_at, cells_at}
use Rattle.pieces.specs.Marks.{Lacks}
use Rattle.pieces.specs.Store.{slot, used, piece, strung, pieces_from}
use Rattle.pieces.proofs.Strung.{strung_more}
use Rattle.sweep.specs.declared.Action.{Action}
use Rattle.sweep.specs.declared.Action.TheVariants.{Strike, Accept, Reject, Style}
use Rattle.sweep.specs.Sweep.{concerned, marked, swept}
use Rattle.sweep.proofs.Laws.{swept_none}
use Rattle.sweep.proofs.Sets.{accept_lacks, reject_lacks}

-- whether a cell has the mark
abbrev pub has_mark : ℕ → Cell → Bool
has_mark m x = eqb x.put_in m || eqb x.struck m

-- a cell with the mark counts 1
abbrev pub mark_in : Cell → ℕ → Bool
mark_in x c = eqb x.put_in (suc c) || eqb x.struck (suc c)

pub touched_append : (xs ys : List Cell) (c : ℕ) → touched (xs ++ ys) c ≡ touched xs c + touched ys c
unfolding touched
touched_append [] ys c = sym (zero-add (touched ys c))
touched_append (x ∷ xs) ys c = ap (λ n. pick (mark_in x c) 1 0 + n) (touched_append xs ys c) ∙ sym (add_assoc (pick (mark_in x c) 1 0) (touched xs c) (touched ys c))

-- as the number of cells that pass the test
pub touched_count : (xs : List Cell) (c : ℕ) → touched xs c ≡ count_by (λ x. mark_in x c) xs
unfolding touched
touched_count xs c =
    is_count_by (λ ys. touched ys c) (λ x. mark_in x c) refl (λ x ys. elim (mark_in x c) as (λ b. pick {A = ℕ} b 1 0 + touched ys c ≡ cond b (1 + touched ys c) (touched ys c)) [ true ↦ refl | false ↦ zero-add (touched ys c) ]) xs

-- a piece without the mark
pub touched_lacks : (c : ℕ) (xs : List Cell) → AllByRecursion (Lacks (suc c)) xs → touched xs c ≡ 0
unfolding touched
touched_lacks c [] all = refl
touched_lacks c (x ∷ xs) all =
    rw (ne_eqb x.put_in (suc c) all.0.put_in, ne_eqb x.struck (suc c) all.0.struck) (ap (λ n. 0 + n) (touched_lacks c xs all.1))

-- the cells of piece k
pub touched_here : (xs ys : List Cell) (c m r : ℕ) → m ≡ suc c → ys ≡ xs → r ≡ marked m ys → r ≡ touched xs c
touched_here xs ys c m r d g h = h ∙ ap (λ n. marked n ys) d ∙ ap (marked (suc c)) g ∙ sym (touched_count xs c)

-- a mark that fits no word
pub touched_past : (w : List ℕ) (c : ℕ) → ((k : ℕ) → get_or w k 0 < 2 ^ 32) → 2 ^ 32 ≤ suc c → (a n : ℕ) → touched (cells_at w a n) c ≡ 0
unfolding touched cells_at cell_at
touched_past w c f l a zero = refl
touched_past w c f l a (suc n) =
    let p = f (4 * a + 2) in
    let q = f (4 * a + 3) in
    rw (ne_eqb (get_or w (4 * a + 2) 0) (suc c) (λ e. omega arith), ne_eqb (get_or w (4 * a + 3) 0) (suc c) (λ e. omega arith))
    (ap (λ n. 0 + n) (touched_past w c f l (suc a) n))

pub touched_past_here : (w p : List ℕ) (k c : ℕ) → ((k : ℕ) → get_or w k 0 < 2 ^ 32) → 2 ^ 32 ≤ suc c → touched (piece w p k) c ≡ 0
unfolding piece
touched_past_here w p k c f l = touched_past w c f l (1024 * slot p k) (used p k)

-- none of two tests holds, and the others count nothing
none_of : (a b : Bool) (n : ℕ) → pick (a || b) 1 0 + n ≡ 0 → (a ≡ false) × (b ≡ false) × (n ≡ 0)
none_of true b n e = absurd (omega arith)
none_of false true n e = absurd (omega arith)
none_of false false n e = (refl, refl, omega arith)

-- cells that have the mark nowhere
pub lacks_none : (c : ℕ) (xs : List Cell) → touched xs c ≡ 0 → AllByRecursion (Lacks (suc c)) xs
unfolding touched
lacks_none c [] e = tt
lacks_none c (x ∷ xs) e =
    let h = none_of (eqb x.put_in (suc c)) (eqb x.struck (suc c)) (touched xs c) e in
    (record { put_in = eqb-false x.put_in (suc c) h.0; struck = eqb-false x.struck (suc c) h.1 }, lacks_none c xs h.2)

-- a sweep of cells none of which it is about
pub unconcerned : (a : Action) (cs : List Change) (xs : List Cell) → concerned a xs ≡ 0 → swept a cs xs ≡ xs
unconcerned (Strike a m) cs xs e = rw (nil_from_length xs e) (swept_none (Strike a m) cs)
unconcerned (Accept c) cs xs e = accept_lacks c cs xs (lacks_none c xs e)
unconcerned (Reject c) cs xs e = reject_lacks c cs xs (lacks_none c xs e)
unconcerned (Style s) cs xs e = rw (nil_from_length xs e) (swept_none (Style s) cs)

concerned_append : (a : Action) (xs ys : List Cell) → concerned a (xs ++ ys) ≡ concerned a xs + concerned a ys
concerned_append (Strike a m) xs ys = length-append xs ys
concerned_append (Accept c) xs ys = touched_append xs ys c
concerned_append (Reject c) xs ys = touched_append xs ys c
concerned_append (Style s) xs ys = length-append xs ys

pub concerned_none : (a : Action) → 0 ≡ concerned a []
unfolding touched
concerned_none (Strike a m) = refl
concerned_none (Accept c) = refl
concerned_none (Reject c) = refl
concerned_none (Style s) = refl

-- one piece more
pub concerned_next : (a : Action) (w p : List ℕ) (k n r : ℕ) → r ≡ concerned a (piece w p k) → n ≡ concerned a (pieces_from w p 0 k) → n + r ≡ concerned a (pieces_from w p 0 (k + 1))
concerned_next a w p k n r g h =
    let i : k + 1 ≡ suc k = omega arith in
    let m = strung_more (piece w p) k in
    let both = concerned_append a (strung (piece w p) 0 k) (piece w p k) in
    let t : concerned a (strung (piece w p) 0 (k + 1)) ≡ concerned a (strung (piece w p) 0 k ++ piece w p k) = cc in
    omega arith
