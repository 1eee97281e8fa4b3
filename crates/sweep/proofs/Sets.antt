-- A sweep and the sets of marks.
use Rattle.std.proofs.Common.{◌≡◌, ℕ, suc, ◌<◌, Bool, true, false, eqb, List, [], ◌∷◌, take, drop, refl, ap, arith}
use Rattle.std.specs.List.{AllByRecursion}
use Rattle.std.proofs.ByRecursion.{All-append, All-take, All-drop}
use Rattle.std.proofs.lemmas.Bool.{ne_eqb}
use Rattle.model.specs.Paper.{pick, Cell, Change}
use Rattle.pieces.specs.Marks.{Has, Lacks, Marks}
use Rattle.pieces.specs.Store.{slot, piece, Marked, Order}
use Rattle.pieces.specs.Edits.{Changed}
use Rattle.pieces.proofs.Change.{carried, changed_marked}
use Rattle.sweep.specs.declared.Action.{Action}
use Rattle.sweep.specs.declared.Action.TheVariants.{Strike, Accept, Reject, Style}
use Rattle.sweep.specs.Sweep.{goes, changed, fate, swept, swept_run, Noted}

-- a set has the one of two marks that is picked
pick_has : (p : List ℕ) (i m n : ℕ) (t : Bool) → (0 < m → Has p i m) → (0 < n → Has p i n) → 0 < pick t m n → Has p i (pick t m n)
pick_has p i m n true f g = f
pick_has p i m n false f g = g

changed_marks : (a : Action) (p : List ℕ) (i : ℕ) (x : Cell) → Noted a p i → Marks p i x → Marks p i (changed a x)
changed_marks (Strike a n) p i x h m = record { put_in = m.put_in; struck = pick_has p i n x.struck (eqb x.struck 0) h m.struck }
changed_marks (Accept c) p i x h m = record { put_in = pick_has p i 0 x.put_in (eqb x.put_in (suc c)) (λ l. absurd (omega arith)) m.put_in; struck = m.struck }
changed_marks (Reject c) p i x h m = record { put_in = m.put_in; struck = pick_has p i 0 x.struck (eqb x.struck (suc c)) (λ l. absurd (omega arith)) m.struck }
changed_marks (Style s) p i x h m = record { put_in = m.put_in; struck = m.struck }

pick_all : (P : Cell → Type 0) (t : Bool) (x : Cell) → P x → AllByRecursion P (pick t [] (x ∷ []))
pick_all P true x h = tt
pick_all P false x h = (h, tt)

pub swept_marks : (a : Action) (cs : List Change) (p : List ℕ) (i : ℕ) → Noted a p i → (xs : List Cell) → AllByRecursion (Marks p i) xs → AllByRecursion (Marks p i) (swept a cs xs)
unfolding swept
swept_marks a cs p i h [] all = tt
swept_marks a cs p i h (x ∷ xs) all =
    All-append (Marks p i) (fate a cs x) (swept a cs xs) (pick_all (Marks p i) (goes a cs x) (changed a x) (changed_marks a p i x h all.0)) (swept_marks a cs p i h xs all.1)

-- the sets after a sweep of cells of one piece
pub marked_after : (c p d q : List ℕ) (s k o n : ℕ) (a : Action) (cs : List Change) → Order p s → k < s → Marked c p s → Noted a q (slot q k)
    → Changed c p d q s k (swept_run a cs (piece c p k) o n) → Marked d q s
marked_after c p d q s k o n a cs w l mk noted h =
    let P = Marks q (slot q k) in
    let xs = piece c p k in
    let had = carried p q s w h.slots h.has k l xs (mk k l) in
    changed_marked c p d q s k o n (swept a cs (take n (drop o xs))) w l mk h
    (swept_marks a cs q (slot q k) noted (take n (drop o xs)) (All-take P n (drop o xs) (All-drop P o xs had)))

-- a sweep for a mark that no cell has
pub accept_lacks : (c : ℕ) (cs : List Change) (xs : List Cell) → AllByRecursion (Lacks (suc c)) xs → swept (Accept c) cs xs ≡ xs
unfolding swept
accept_lacks c cs [] all = refl
accept_lacks c cs (x ∷ xs) all =
    rw (ne_eqb x.put_in (suc c) all.0.put_in, ne_eqb x.struck (suc c) all.0.struck) (ap (λ ys. x ∷ ys) (accept_lacks c cs xs all.1))

pub reject_lacks : (c : ℕ) (cs : List Change) (xs : List Cell) → AllByRecursion (Lacks (suc c)) xs → swept (Reject c) cs xs ≡ xs
unfolding swept
reject_lacks c cs [] all = refl
reject_lacks c cs (x ∷ xs) all =
    rw (ne_eqb x.put_in (suc c) all.0.put_in, ne_eqb x.struck (suc c) all.0.struck) (ap (λ ys. x ∷ ys) (reject_lacks c cs xs all.1))
